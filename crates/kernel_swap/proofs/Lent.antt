-- Steps swapped in lent arrays, which hold the drawing with them swapped then. Assumes nothing.
use Prim.Native.Nat.{ℕ, ◌+◌, ◌<◌, ◌≤◌}
use mathlib.Core.Path.{◌≡◌, refl, ap, sym, ◌∙◌}
use mathlib.Core.Bool.{true}
use mathlib.Core.List.{List, [], ◌∷◌, ◌++◌, map}
use native.Mathlib.Omega.{arith}
use mathlib.Core.Logic.{◌⊎◌, inl, inr, ⊎_elim}
use lib.ListN.{length, take}
use Rattle.complex.specs.Cells.{LiveCell as Entry}
use Rattle.complex.specs.Sound.{over, steps_in as stepsHeld}
use Rattle.complex.specs.Edits.{reshape, rewired, same_vertex}
use Rattle.store.specs.Sheet.{all_real}
use Rattle.store.specs.View.{sheet_of, Fits, width_sum, cycle_total, step_total}
use Rattle.store.specs.Edits.{with_entries}
use Rattle.store.specs.Places.{entry_cycles, cycle_words}
use Rattle.number.specs.Readers.{spread}
use Rattle.store.proofs.Stands.{stands}
use Rattle.store.proofs.Pools.{drawing_held}
use Rattle.rows_steps.specs.declared.Swap.{Swap}
use Rattle.rows_steps.specs.Swap.{swap_half, swap_cycle, all_steps, Swapped}
use Rattle.kernel_swap.specs.Swaps.{Enough}
use Rattle.rows_steps.proofs.Rewired.{rewired_heads, rewired_cycles, rewired_bends, cells_same, steps_held, changed_is}
use Rattle.rows_steps.proofs.Swaps.{held_steps, held_swapped}
use Rattle.lent.specs.Arrays.{Arrays, held_by, Lengths}
use Rattle.lent.proofs.Held.{held_sizes}
use Rattle.kernel_swap.specs.Swaps.{SwappedIn}

abbrev pub swapped_cells : Swap → List Entry → List Entry
swapped_cells t xs = reshape (rewired same_vertex (swap_half t)) xs

-- the arrays with other cycles and steps
abbrev pub with_pools : Arrays → List ℕ → List ℕ → Arrays
with_pools a cy st =
    record {
      next = a.next;
      count = a.count;
      ids = a.ids;
      kinds = a.kinds;
      starts = a.starts;
      ends = a.ends;
      bends = a.bends;
      counts = a.counts;
      px = a.px;
      py = a.py;
      cycles = cy;
      steps = st;
      bx = a.bx;
      by = a.by;
    }

module _ (t : Swap) (a : Arrays) (l : Lengths a) (f : Fits (held_by a)) (rm : over stepsHeld (swapped_cells t (sheet_of (held_by a)).cells) ≤ 2048) where
  -- as many steps as the swapped cells have
  steps_are : length (all_steps t (take (cycle_total (held_by a)) a.cycles) a.steps) ≡ over stepsHeld (swapped_cells t (sheet_of (held_by a)).cells)
  steps_are =
      let d = held_by a in
      let xs = (sheet_of d).cells in
      ap length (held_steps t (spread entry_cycles xs) a.cycles (cycle_total d) a.steps (step_total d) (drawing_held d (held_sizes a l) f)
      ∙ ap (spread cycle_words) (sym (rewired_cycles same_vertex (swap_half t) xs)))
      ∙ steps_held (swapped_cells t xs)

  -- the cycles in use
  pub swap_room : (k : ℕ) → k ≡ cycle_total (held_by a) → k ≤ 512
  swap_room k e = omega (arith, e, f.cycles)

  -- g places are enough, and there are so many
  pub grow_room : (m g : ℕ) → m ≡ step_total (held_by a) → ((t.n ≤ 1) × (g ≡ 0))
      ⊎ ((1 ≤ t.n) × (over stepsHeld (swapped_cells t (sheet_of (held_by a)).cells) ≡ g + m))
      → (g + m ≤ 2048) × Enough t (take (cycle_total (held_by a)) a.cycles) a.steps g
  grow_room m g e h =
      let u = f.steps in (
        ⊎_elim (λ x. omega (arith, x.1)) (λ x. omega (arith, x.1)) h,
        record { room = ⊎_elim (λ x. inl x.0) (λ x. inr (x.0, omega (arith, x.1, steps_are))) h },
      )

  module _ (cy st : List ℕ) (lc : length cy ≡ 512) (ls : length st ≡ 2048) (rl : all_real (spread entry_cycles (swapped_cells t (sheet_of (held_by a)).cells))
      ≡ true)
      (sw : Swapped t (take (cycle_total (held_by a)) a.cycles) a.steps cy st) where
    abbrev b : Arrays
    b = with_pools a cy st

    long : Lengths b
    long =
        record {
          ids = l.ids;
          kinds = l.kinds;
          starts = l.starts;
          ends = l.ends;
          bends = l.bends;
          counts = l.counts;
          px = l.px;
          py = l.py;
          cycles = lc;
          steps = ls;
          bx = l.bx;
          by = l.by;
        }

    both : (sheet_of (held_by b) ≡ with_entries (sheet_of (held_by a)) (swapped_cells t (sheet_of (held_by a)).cells)) × Fits (held_by b)
    both =
        let d = held_by a in
        let z = held_sizes a l in
        let xs = (sheet_of d).cells in
        let ys = swapped_cells t xs in
        let k : spread entry_cycles ys ≡ map (swap_cycle t) (spread entry_cycles xs) = rewired_cycles same_vertex (swap_half t) xs in
        let held =
        held_swapped t (spread entry_cycles xs) a.cycles (cycle_total d) a.steps (step_total d) (drawing_held d z f) cy st (lc ∙ sym l.cycles)
        (rw (← k) (omega (arith, rm, steps_held ys, ls))) (rw (← k) rl) sw in
        changed_is d (held_by b) z f (held_sizes b long) refl refl refl ys
        ((stands d z f).cells ∙ sym (cells_same _) ∙ rewired_heads same_vertex (swap_half t) xs) (rewired_bends same_vertex (swap_half t) xs) (cycle_total d)
        (length (spread cycle_words (map (swap_cycle t) (spread entry_cycles xs))))
        (rw k held)

    pub swapped_in : SwappedIn t a b
    swapped_in = record { sheet = both.0; fits = both.1; long = long }
