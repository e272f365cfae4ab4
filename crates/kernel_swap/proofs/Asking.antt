-- A swap of each step for one other: what it asks, and what it leaves. Assumes nothing.
use Prim.Native.Nat.{ℕ, ◌+◌, ◌≤◌}
use native.Mathlib.Omega.{arith}
use mathlib.Core.Path.{◌≡◌, refl, sym, ap, ◌∙◌, subst}
use mathlib.Core.Bool.{Bool, true}
use mathlib.Core.List.{List}
use mathlib.Core.Logic.{◌⊎◌, inl}
use Rattle.complex.specs.Cells.{Halfedge}
use Rattle.complex.specs.Edits.{reshape, rewired, same_vertex, in_place_of}
use Rattle.complex.specs.Sound.{over, steps_in}
use Rattle.number.specs.Readers.{spread}
use Rattle.store.specs.Sheet.{all_real}
use Rattle.store.specs.Places.{entry_cycles}
use Rattle.store.specs.View.{sheet_of, Fits, cycle_total, step_total}
use Rattle.store.specs.Edits.{with_entries}
use Rattle.rows_steps.specs.Swap.{swap_half, one_for}
use Rattle.rows_steps.specs.declared.Swap.{Swap}
use Rattle.rows_steps.proofs.Merging.{real_with, room_with}
use Rattle.rows_steps.proofs.Swaps.{one_for_lem, one_some, one_few}
use Rattle.lent.specs.Arrays.{Arrays, held_by, Lengths}
use Rattle.lent.proofs.Held.{held_sizes}
use Rattle.kernel_swap.specs.Swaps.{SwappedIn}

module _ (a : Arrays) (e n : ℕ) (flip : Bool) (t : Swap) (et : t ≡ one_for e n flip) where
  half : swap_half t ≡ in_place_of e n flip
  half = ap swap_half et ∙ one_for_lem e n flip

  pub one_asks : (k m : ℕ) → Lengths a → Fits (held_by a) → k ≡ cycle_total (held_by a) → m ≡ step_total (held_by a)
      → Fits (held_by a) × (Lengths a
      × ((k ≡ cycle_total (held_by a)) × ((t.n ≤ 2)
      × ((all_real (spread entry_cycles (reshape (rewired same_vertex (swap_half t)) (sheet_of (held_by a)).cells)) ≡ true)
      × ((over steps_in (reshape (rewired same_vertex (swap_half t)) (sheet_of (held_by a)).cells) ≤ 2048) × ((m ≡ step_total (held_by a))
      × (((t.n ≤ 1) × (◌≡◌ {A = ℕ} 0 0)) ⊎ ((1 ≤ t.n) × (over steps_in (reshape (rewired same_vertex (swap_half t)) (sheet_of (held_by a)).cells) ≡ 0 + m)))))))))
  one_asks k m l f ek em =
      let d = held_by a in
      let z = held_sizes a l in
      let c : t.n ≡ 1 = ap (λ (y : Swap). y.n) et in
      let real = subst (λ (σ : Halfedge → List Halfedge). all_real (spread entry_cycles (reshape (rewired same_vertex σ) (sheet_of d).cells)) ≡ true) (sym half)
      (real_with d z f (in_place_of e n flip) (one_some e n flip)) in
      let room = subst (λ (σ : Halfedge → List Halfedge). over steps_in (reshape (rewired same_vertex σ) (sheet_of d).cells) ≤ 2048) (sym half)
      (room_with d z f (in_place_of e n flip) (one_few e n flip)) in
      (f, (l, (ek, (omega (arith, c), (real, (room, (em, inl (omega (arith, c), refl))))))))

  pub one_swapped : (b : Arrays) → SwappedIn t a b
      → sheet_of (held_by b) ≡ with_entries (sheet_of (held_by a)) (reshape (rewired same_vertex (in_place_of e n flip)) (sheet_of (held_by a)).cells)
  one_swapped b s =
      s.sheet ∙ ap (λ (σ : Halfedge → List Halfedge). with_entries (sheet_of (held_by a)) (reshape (rewired same_vertex σ) (sheet_of (held_by a)).cells)) half
