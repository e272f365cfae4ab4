-- A drawing's cycles, their steps replaced one for one, one by two, or two edges by one. Assumes nothing.
use Prim.Native.Nat.{ℕ, ◌≤◌}
use mathlib.Core.Path.{◌≡◌, ap, sym, subst, ◌∙◌}
use mathlib.Core.List.{List, map}
use mathlib.Core.Bool.{true, false}
use native.Mathlib.Omega.{arith}
use lib.ListN.{length, take}
use Rattle.store.specs.declared.Drawing.{Drawing}
use Rattle.rows_steps.specs.declared.Swap.{Swap}
use Rattle.store.specs.Sizes.{Sizes}
use Rattle.complex.specs.Cells.{Halfedge, Cycle}
use Rattle.complex.specs.Edits.{reshape, rewired, same_vertex}
use Rattle.complex.specs.Uncut.{in_one}
use Rattle.complex.specs.Sound.{over, steps_in as stepsHeld}
use Rattle.store.specs.Sheet.{all_real}
use Rattle.store.specs.View.{sheet_of, Fits, cycle_total, step_total}
use Rattle.store.specs.Places.{entry_cycles, cycle_words}
use Rattle.store.specs.Pools.{Held}
use Rattle.number.specs.Readers.{spread}
use Rattle.rows_steps.specs.Swap.{swap_half, swap_cycle, all_steps, Swapped, one_for, none_for}
use Rattle.store.proofs.Stands.{begins_length, stands}
use Rattle.store.proofs.Pools.{drawing_held}
use Rattle.rows_steps.proofs.Rewired.{rewired_cycles, were_real, stay_real, steps_less, cycles_then, steps_held}
use Rattle.rows_steps.proofs.Swaps.{held_steps, held_swapped, one_for_lem, none_then_one, one_few, none_few}

module _ (d : Drawing) (z : Sizes d) (f : Fits d) where
  pub real_with : (σ : Halfedge → List Halfedge) → ((h : Halfedge) → 1 ≤ length (σ h))
      → all_real (spread entry_cycles (reshape (rewired same_vertex σ) (sheet_of d).cells)) ≡ true
  real_with σ some =
      ap all_real (rewired_cycles same_vertex σ (sheet_of d).cells) ∙ stay_real same_vertex σ some (spread entry_cycles (sheet_of d).cells) (stands d z f).real

  steps_fit_lem : length (spread cycle_words (spread entry_cycles (sheet_of d).cells)) ≤ 2048
  steps_fit_lem = omega (arith, begins_length (stands d z f).steps, z.steps)

  pub room_with : (σ : Halfedge → List Halfedge) → ((h : Halfedge) → length (σ h) ≤ 1)
      → over stepsHeld (reshape (rewired same_vertex σ) (sheet_of d).cells) ≤ 2048
  room_with σ few =
      let xs = (sheet_of d).cells in
      let e : length (spread cycle_words (spread entry_cycles (reshape (rewired same_vertex σ) xs))) ≡ length (spread cycle_words (map _ (spread entry_cycles xs))) =
      ap (λ (ks : List Cycle). length (spread cycle_words ks)) (rewired_cycles same_vertex σ xs) in
      omega (arith, steps_held (reshape (rewired same_vertex σ) xs), e, steps_less same_vertex σ few (spread entry_cycles xs), steps_fit_lem)

  module _ (a b n : ℕ) where
    -- the cycles without b's steps, and then with n's for a's
    abbrev pub without : List Cycle
    without = map (swap_cycle (none_for b)) (spread entry_cycles (sheet_of d).cells)

    abbrev pub merged : List Cycle
    merged = map (swap_cycle (one_for a n false)) without

    pub merged_cycles : spread entry_cycles (reshape (rewired same_vertex (in_one a b n)) (sheet_of d).cells) ≡ merged
    merged_cycles =
        rewired_cycles same_vertex (in_one a b n) (sheet_of d).cells
        ∙ sym (cycles_then (swap_half (none_for b)) (swap_half (one_for a n false)) (in_one a b n) (none_then_one a b n) (spread entry_cycles (sheet_of d).cells))

    module _ (t u : Swap) (et : t ≡ none_for b) (eu : u ≡ one_for a n false) where
      pub first_room : length (all_steps t (take (cycle_total d) d.cycles) d.steps) ≤ 2048
      first_room =
          let ks = spread entry_cycles (sheet_of d).cells in
          subst (λ (s : Swap). length (all_steps s (take (cycle_total d) d.cycles) d.steps) ≤ 2048) (sym et)
          (omega (
            arith,
            ap length (held_steps (none_for b) ks d.cycles (cycle_total d) d.steps (step_total d)
                (drawing_held d z f)),
            steps_less same_vertex (swap_half (none_for b)) (none_few b) ks,
            steps_fit_lem,
          ))

      module _ (r : all_real (spread entry_cycles (reshape (rewired same_vertex (in_one a b n)) (sheet_of d).cells)) ≡ true) (cy st : List ℕ) (ec : length cy ≡ 512)
          (es : length st ≡ 2048)
          (w : Swapped t (take (cycle_total d) d.cycles) d.steps cy st) where
        final_real : all_real merged ≡ true
        final_real = sym (ap all_real merged_cycles) ∙ r

        without_room : length (spread cycle_words without) ≤ 2048
        without_room = omega (arith, steps_less same_vertex (swap_half (none_for b)) (none_few b) (spread entry_cycles (sheet_of d).cells), steps_fit_lem)

        pub without_held : Held without cy (cycle_total d) st (length (spread cycle_words without))
        without_held =
            held_swapped (none_for b) (spread entry_cycles (sheet_of d).cells) d.cycles (cycle_total d) d.steps (step_total d) (drawing_held d z f) cy st
            (ec ∙ sym z.cycles)
            (omega (arith, without_room)) (were_real same_vertex (swap_half (one_for a n false)) without final_real)
            (subst (λ (s : Swap). Swapped s (take (cycle_total d) d.cycles) d.steps cy st) et w)

        few : (h : Halfedge) → length (swap_half (one_for a n false) h) ≤ 1
        few h = subst (λ (σ : Halfedge → List Halfedge). length (σ h) ≤ 1) (sym (one_for_lem a n false)) (one_few a n false h)

        merged_room : length (spread cycle_words merged) ≤ 2048
        merged_room = omega (arith, steps_less same_vertex (swap_half (one_for a n false)) few without, without_room)

        pub second_room : length (all_steps u (take (cycle_total d) cy) st) ≤ 2048
        second_room =
            subst (λ (s : Swap). length (all_steps s (take (cycle_total d) cy) st) ≤ 2048) (sym eu)
            (omega (
              arith,
              ap length (held_steps (one_for a n false) without cy (cycle_total d) st
                  (length (spread cycle_words without)) without_held),
              merged_room,
            ))

        pub merged_held : (cy' st' : List ℕ) → length cy' ≡ 512 → length st' ≡ 2048 → Swapped u (take (cycle_total d) cy) st cy' st'
            → Held merged cy' (cycle_total d) st' (length (spread cycle_words merged))
        merged_held cy' st' gc gs v =
            held_swapped (one_for a n false) without cy (cycle_total d) st (length (spread cycle_words without)) without_held cy' st' (gc ∙ sym ec)
            (omega (arith, merged_room)) final_real
            (subst (λ (s : Swap). Swapped s (take (cycle_total d) cy) st cy' st') eu v)
