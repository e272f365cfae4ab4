-- The steps of one edge become another's, and then those of a second edge go: both at once. Assumes nothing.
use Prim.Native.Nat.{ℕ, ◌+◌, ◌<◌, ◌≤◌}
use native.Mathlib.Omega.{arith}
use mathlib.Core.Path.{◌≡◌, refl, sym, ap, ap₂, ◌∙◌, subst}
use mathlib.Core.Bool.{Bool, true, false, cond}
use mathlib.Core.Logic.{◌⊎◌, inl}
use mathlib.Core.List.{List, [], ◌∷◌, ◌++◌, map, append-nil}
use lib.Dec.{eqb}
use lib.ListN.{length, length-append, length-map}
use borrow.Author.Tests.{eqb-true, ne_eqb}
use Rattle.number.specs.Readers.{spread}
use Rattle.complex.specs.Lists.{one}
use Rattle.complex.specs.Cells.{Halfedge, Cycle, lone, path, Figure, vertex, open_edge, closed_edge, face, LiveCell, Sheet}
use Rattle.complex.specs.Edits.{reshape, rewired, rewired_cycle, same_vertex, in_place_of}
use Rattle.complex.specs.Uncut.{in_one}
use Rattle.complex.specs.Sound.{over, steps_in as stepsHeld}
use Rattle.complex.proofs.Keep.{spread_one, length_each}
use Rattle.store.specs.Sheet.{all_real}
use Rattle.store.specs.Places.{entry_cycles, cycle_words, word}
use Rattle.store.specs.View.{sheet_of, Fits, cycle_total, step_total}
use Rattle.store.specs.Edits.{with_entries}
use Rattle.store.proofs.Stands.{stands, step_total_lem}
use Rattle.rows_steps.specs.declared.Swap.{Swap}
use Rattle.rows_steps.specs.Swap.{swap_half, one_for, none_for}
use Rattle.rows_steps.proofs.Rewired.{rewired_cycles, cycles_then}
use Rattle.rows_steps.proofs.Swaps.{one_for_lem, one_some, one_few, none_few, none_then_one}
use Rattle.rows_steps.proofs.Merging.{real_with, room_with}
use Rattle.lent.specs.Arrays.{Arrays, held_by, Lengths}
use Rattle.lent.proofs.Held.{held_sizes}
use Rattle.kernel_swap.specs.Swaps.{SwappedIn}
use Rattle.kind_uncut_joint.specs.Joining.{Merges, MergedIn}

-- ---- the halfedges of y go, the others stay
own_place : (h : Halfedge) (n : ℕ) → in_place_of n n false h ≡ one h
own_place h n = go (eqb n h.edge) refl
  where
    go : (x : Bool) → eqb n h.edge ≡ x → one (cond x (record { edge = n; backward = h.backward }) h) ≡ one h
    go true q = ap (λ (k : ℕ). one (record { edge = k; backward = h.backward })) (eqb-true n h.edge q)
    go false q = refl

spread_same : (σ τ : Halfedge → List Halfedge) → ((h : Halfedge) → σ h ≡ τ h) → (hs : List Halfedge) → spread σ hs ≡ spread τ hs
spread_same σ τ e [] = refl
spread_same σ τ e (h ∷ hs) = ap₂ (λ (a b : List Halfedge). a ++ b) (e h) (spread_same σ τ e hs)

none_is : (y : ℕ) (h : Halfedge) → swap_half (none_for y) h ≡ cond (eqb y h.edge) [] (one h)
none_is y h =
    sym (spread_one (swap_half (none_for y) h))
    ∙ sym (spread_same (swap_half (one_for 0 0 false)) one (λ k. ap (λ (σ : Halfedge → List Halfedge). σ k) (one_for_lem 0 0 false) ∙ own_place k 0)
    (swap_half (none_for y) h))
    ∙ none_then_one 0 y 0 h
    ∙ ap (cond (eqb y h.edge) []) (own_place h 0)

one_then_none : (x y n : ℕ) → (x ≡ y → ⊥) → y < n → (h : Halfedge) → spread (swap_half (none_for y)) (swap_half (one_for x n false) h) ≡ in_one x y n h
one_then_none x y n apart below h =
    ap (λ (σ : Halfedge → List Halfedge). spread (swap_half (none_for y)) (σ h)) (one_for_lem x n false) ∙ append-nil _ ∙ none_is y _ ∙ go (eqb x h.edge) refl
  where
    go : (b : Bool) → eqb x h.edge ≡ b
        → cond (eqb y (cond b (record { edge = n; backward = h.backward }) h).edge) [] (one (cond b (record { edge = n; backward = h.backward }) h))
        ≡ cond (eqb y h.edge) [] (one (cond b (record { edge = n; backward = h.backward }) h))
    go true q =
        let e = eqb-true x h.edge q in
        let k : Halfedge = record { edge = n; backward = h.backward } in
        ap (λ (b : Bool). cond b [] (one k)) (ne_eqb y n (λ z. omega (arith, z, below)) ∙ sym (ne_eqb y h.edge (λ z. apart (e ∙ sym z))))
    go false q = refl

-- ---- cells
module _ (σ τ ρ : Halfedge → List Halfedge) (e : (h : Halfedge) → spread τ (σ h) ≡ ρ h) where
  figure_then : (i : ℕ) (x : Figure) → rewired same_vertex τ i (rewired same_vertex σ i x) ≡ rewired same_vertex ρ i x
  figure_then i (vertex p) = refl
  figure_then i (open_edge s f bs) = refl
  figure_then i (closed_edge bs) = refl
  figure_then i (face ks) = ap face (cycles_then σ τ ρ e ks)

  cells_then : (cs : List LiveCell) → reshape (rewired same_vertex τ) (reshape (rewired same_vertex σ) cs) ≡ reshape (rewired same_vertex ρ) cs
  cells_then [] = refl
  cells_then (c ∷ cs) = ap₂ (λ (x : Figure) (ds : List LiveCell). record { id = c.id; figure = x } ∷ ds) (figure_then c.id c.figure) (cells_then cs)

-- each step becomes one: there are as many
module _ (r : ℕ → ℕ) (σ : Halfedge → List Halfedge) (each : (h : Halfedge) → length (σ h) ≡ 1) where
  cycle_same : (k : Cycle) → length (cycle_words (rewired_cycle r σ k)) ≡ length (cycle_words k)
  cycle_same (lone v) = refl
  cycle_same (path hs) = length-map (spread σ hs) word ∙ length_each σ each hs ∙ sym (length-map hs word)

  steps_same : (ks : List Cycle) → length (spread cycle_words (map (rewired_cycle r σ) ks)) ≡ length (spread cycle_words ks)
  steps_same [] = refl
  steps_same (k ∷ ks) =
      length-append (cycle_words (rewired_cycle r σ k)) (spread cycle_words (map (rewired_cycle r σ) ks)) ∙ ap₂ ◌+◌ (cycle_same k) (steps_same ks)
      ∙ sym (length-append (cycle_words k) (spread cycle_words ks))

-- ---- what the swaps ask
abbrev swapped : Arrays → Swap → List LiveCell
swapped a s = reshape (rewired same_vertex (swap_half s)) (sheet_of (held_by a)).cells

abbrev pub Asks : Arrays → ℕ → ℕ → Swap → Type 0
Asks a k m s =
    Fits (held_by a) × (Lengths a
    × ((k ≡ cycle_total (held_by a))
    × ((s.n ≤ 2) × ((all_real (spread entry_cycles (reshape (rewired same_vertex (swap_half s)) (sheet_of (held_by a)).cells)) ≡ true)
    × ((over stepsHeld (reshape (rewired same_vertex (swap_half s)) (sheet_of (held_by a)).cells) ≤ 2048) × ((m ≡ step_total (held_by a))
    × (((s.n ≤ 1) × (◌≡◌ {A = ℕ} 0 0)) ⊎ ((1 ≤ s.n) × (over stepsHeld (reshape (rewired same_vertex (swap_half s)) (sheet_of (held_by a)).cells) ≡ 0 + m)))))))))

module _ (a : Arrays) (k m x y : ℕ) (g : Merges a k m x y) (s : Swap) (es : s ≡ one_for x a.next false) where
  half : swap_half s ≡ in_place_of x a.next false
  half = ap swap_half es ∙ one_for_lem x a.next false

  pub first_asks : Asks a k m s
  first_asks =
      let d = held_by a in
      let z = held_sizes a g.long in
      let n : s.n ≡ 1 = ap (λ (t : Swap). t.n) es in
      let real = subst (λ (σ : Halfedge → List Halfedge). all_real (spread entry_cycles (reshape (rewired same_vertex σ) (sheet_of d).cells)) ≡ true) (sym half)
      (real_with d z g.fits (in_place_of x a.next false) (one_some x a.next false)) in
      let room = subst (λ (σ : Halfedge → List Halfedge). over stepsHeld (reshape (rewired same_vertex σ) (sheet_of d).cells) ≤ 2048) (sym half)
      (room_with d z g.fits (in_place_of x a.next false) (one_few x a.next false)) in
      (g.fits, (g.long, (g.cycles, (omega (arith, n), (real, (room, (g.steps, inl (omega (arith, n), refl))))))))

  module _ (b : Arrays) (sw : SwappedIn s a b) (ec : cycle_total (held_by b) ≡ cycle_total (held_by a)) (u : Swap) (eu : u ≡ none_for y) where
    then : (h : Halfedge) → spread (swap_half u) (swap_half s h) ≡ in_one x y a.next h
    then h = ap₂ (λ (p q : Swap). spread (swap_half p) (swap_half q h)) eu es ∙ one_then_none x y a.next g.apart g.below h

    cells_are : (sheet_of (held_by b)).cells ≡ reshape (rewired same_vertex (swap_half s)) (sheet_of (held_by a)).cells
    cells_are = ap (λ (t : Sheet). t.cells) sw.sheet

    after : reshape (rewired same_vertex (swap_half u)) (sheet_of (held_by b)).cells
        ≡ reshape (rewired same_vertex (in_one x y a.next)) (sheet_of (held_by a)).cells
    after =
        ap (reshape (rewired same_vertex (swap_half u))) cells_are ∙ cells_then (swap_half s) (swap_half u) (in_one x y a.next) then (sheet_of (held_by a)).cells

    as_many : step_total (held_by b) ≡ step_total (held_by a)
    as_many =
        let xs = (sheet_of (held_by a)).cells in
        step_total_lem (held_by b) (sheet_of (held_by b)).cells (stands (held_by b) (held_sizes b sw.long) sw.fits)
        ∙ ap (λ (cs : List LiveCell). length (spread cycle_words (spread entry_cycles cs))) cells_are
        ∙ ap (λ (ks : List Cycle). length (spread cycle_words ks)) (rewired_cycles same_vertex (swap_half s) xs)
        ∙ steps_same same_vertex (swap_half s) (λ h. ap (λ (σ : Halfedge → List Halfedge). length (σ h)) half) (spread entry_cycles xs)
        ∙ sym (step_total_lem (held_by a) xs (stands (held_by a) (held_sizes a g.long) g.fits))

    pub second_asks : Asks b k m u
    second_asks =
        let d = held_by b in
        let z = held_sizes b sw.long in
        let n : u.n ≡ 0 = ap (λ (t : Swap). t.n) eu in
        let few : (h : Halfedge) → length (swap_half u h) ≤ 1 = λ h. subst (λ (t : Swap). length (swap_half t h) ≤ 1) (sym eu) (none_few y h) in (
          sw.fits,
          (
            sw.long,
            (
              g.cycles ∙ sym ec,
              (
                omega (arith, n),
                (
                  ap (λ (cs : List LiveCell). all_real (spread entry_cycles cs)) after
                      ∙ g.real,
                  (room_with d z sw.fits (swap_half u) few, (g.steps ∙ sym as_many, inl (omega (arith, n), refl))),
                ),
              ),
            ),
          ),
        )

    pub merged_in : (o : Arrays) → SwappedIn u b o → MergedIn a x y o
    merged_in o sv =
        record {
          sheet = sv.sheet ∙ ap₂ (λ (t : Sheet) (cs : List LiveCell). with_entries t cs) sw.sheet after;
          fits = sv.fits;
          long = sv.long;
        }
