-- One cycle of a face: its steps, another in its place, and the others. Assumes nothing.
use Prim.Native.Nat.{ℕ, ◌+◌, ◌≤◌}
use mathlib.Core.Path.{◌≡◌, ap, ap₂, ◌∙◌}
use mathlib.Core.List.{List}
use native.Mathlib.Omega.{arith}
use lib.ListN.{length, take, drop, get_or, length-drop}
use lib.Seq.{length-take-le, get_or-take, get_or-drop, take-take, drop-drop}
use Rattle.complex.specs.Cells.{path}
use Rattle.complex.specs.Cut.{no_cycle}
use Rattle.store.specs.View.{width, width_sum, cycle_of}
use Rattle.store.proofs.Lists.{sum_more, sum_le}
use Rattle.store.proofs.Encode.{cycle_at_lem}
use Rattle.rows_spans.proofs.Building.{cycle_path, width_some}
use Rattle.rows_stretches.specs.declared.Place.{Place}
use Rattle.rows_stretches.specs.Paths.{list_at, steps_at, Lies}

module _ (cycles steps : List ℕ) (p : Place) (l : Lies cycles steps p) where
  abbrev counts_in : List ℕ
  counts_in = take p.spans.cycles.count (drop p.spans.cycles.first cycles)

  abbrev room_in : List ℕ
  room_in = drop p.spans.steps.first steps

  counts_length : length counts_in ≡ p.spans.cycles.count
  counts_length =
      length-take-le p.spans.cycles.count (drop p.spans.cycles.first cycles)
      (omega (arith, length-drop p.spans.cycles.first cycles, l.within.in_cycles, l.within.cycles_size))

  -- ---- its steps
  pub cycle_is : get_or (list_at cycles steps p) p.cycle no_cycle ≡ path (steps_at steps p)
  cycle_is =
      let c = p.cycle in
      let f = p.spans.cycles.first in
      let h = l.cycle in
      cycle_at_lem counts_in room_in c no_cycle (let n = counts_length in omega arith)
      ∙ ap₂ (λ (n : ℕ) (st : List ℕ). cycle_of n st)
      (get_or-take p.spans.cycles.count (drop f cycles) c 0 h ∙ get_or-drop f cycles c 0 ∙ l.number)
      (ap (λ (ns : List ℕ). drop (width_sum ns) room_in) (take-take c p.spans.cycles.count (drop f cycles) (omega arith))
      ∙ drop-drop (width_sum (take c (drop f cycles))) p.spans.steps.first steps ∙ ap (λ (n : ℕ). drop n steps) l.place)
      ∙ cycle_path p.count (drop p.at steps) l.some

  -- they lie within the array
  pub cycle_in : p.at + p.count ≤ 2048
  cycle_in =
      let c = p.cycle in
      let f = p.spans.cycles.first in
      let h = l.cycle in
      let ld = length-drop f cycles in
      let a = sum_more width (drop f cycles) c 0 (omega (arith, l.within.in_cycles, l.within.cycles_size)) in
      let b = sum_le width (drop f cycles) (c + 1) p.spans.cycles.count (omega arith) in
      let w = l.within.wide in
      let g = ap width (get_or-drop f cycles c 0 ∙ l.number) ∙ width_some p.count l.some in
      omega (arith, l.place, l.within.in_steps)
