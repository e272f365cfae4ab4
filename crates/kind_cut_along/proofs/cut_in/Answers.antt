-- `cut_in` meets its contract: the plan, the face's cycles, the edge, and the new face, where one comes. Assumes nothing.
use native.Mathlib.Omega.{arith}
use Prim.Native.Nat.{ℕ, ◌+◌}
use mathlib.Core.Path.{◌≡◌, refl, ap, ◌∙◌}
use mathlib.Core.List.{List}
use lib.Ieee.{Float}
use Rattle.std.specs.Prelude.{Ok}
use Rattle.lent.specs.Replies.{line_says}
use Rattle.lent.specs.declared.Change.{Change}
use Rattle.bends.specs.Bends.{positions_at}
use Rattle.complex.specs.Cells.{open_edge, face}
use Rattle.store.specs.Edits.{appended}
use Rattle.store.specs.View.{sheet_of}
use Rattle.rows_spans.specs.declared.Spans.{Spans}
use Rattle.rows_spans.specs.declared.Used.{Used}
use Rattle.rows_spans.specs.Runs.{sheet_with_row}
use Rattle.rows_spans.specs.Building.{Built, built}
use Rattle.answer.specs.declared.Totals.{Totals}
use Rattle.decode_parts.specs.Lists.{numbers_read}
use Rattle.rows_corners.specs.Faces.{cycles_at}
use Rattle.rows_split.specs.Along.{old_side}
use Rattle.rows_split.specs.Parts.{place_of}
use Rattle.lent.specs.Arrays.{Arrays, held_by}
use Rattle.lent.specs.Growing.{with_open}
use Rattle.kernel_add.specs.Comes.{one_new, BendsPut}
use Rattle.kernel_add.proofs.Put.{with_placed}
use Rattle.kernel_cycles.specs.Replacing.{ReplacedIn}
use Rattle.kernel_part.specs.Rounds.{HoldsIn}
use Rattle.kind_cut_chord.specs.Chords.{vertex_in}
use Rattle.kind_cut_along.specs.Cuts.{CutGoes}
use Rattle.kind_cut_along.proofs.Chords.{chord_comes, chord_bends, chord_holds}
use Rattle.kind_cut_along.proofs.Cutting.{built_tail, Laid, plan_asks, gets, two_obeyed, sums_fit_lem, part_asks, one_obeyed}
use Rattle.kind_cut_along.proofs.cut_in.Goals as goal

module _ {a : Arrays} {t : Totals} {script : List ℕ} {f row : ℕ} {s : Spans} {c1 s1 c2 s2 k first moved place i j : ℕ}
    (x : CutGoes a t script f row s c1 s1 c2 s2 k first moved place i j)
    {v w : ℕ} (ev : v ≡ vertex_in a.ids a.starts a.ends a.count a.steps (place_of a.cycles s c1) s1)
    (ew : w ≡ vertex_in a.ids a.starts a.ends a.count a.steps (place_of a.cycles s c2) s2)
    {numbers : List ℕ} {u : Used} {places : List ℕ}
    (b : Built (old_side a.next c1 s1 c2 s2 (numbers_read script place moved) (cycles_at a.cycles a.steps s)) numbers u places) where
  -- the face gets the first list
  laid : Laid a t script f row s c1 s1 c2 s2 k first moved place i j x v w numbers u places
  laid = gets a t script f row s c1 s1 c2 s2 k first moved place i j x v w ev ew numbers u places b

  -- r have the face's cycles, us and vs the bends, and o the edge too
  module _ {r : Arrays} (q : ReplacedIn a row s u.cycles u.steps (built numbers u places) r) {us vs : List Float}
      (p : BendsPut r.bx r.by t.bends (positions_at script first k) k us vs) {o : Arrays} (e : o ≡ with_open (with_placed r us vs) v w k) where
    came : HoldsIn (appended (sheet_with_row (sheet_of (held_by a)) row (face (built numbers u places))) (open_edge v w (positions_at script first k)))
        (s.cycles.first + u.cycles + s.cycles.rest) (s.steps.first + u.steps + s.steps.rest) o
    came = chord_holds a row s numbers u places t.bends script v w k first laid.asks r q us vs p o e

pub plan-g-requires : goal.plan-g-requires
plan-g-requires c =
    record {
      chorded = plan_asks _ _ _ _ _ _ _ _ _ _ _ _ _ _ _ _ c.requires;
      room_for_both = c.requires.fit;
    }

pub replace_cycles-requires : goal.replace_cycles-requires
replace_cycles-requires c = let e = c.plan-g.ensures in (laid c.requires e.v_value e.w_value e.built).asks.replaces

pub put_bends-requires : goal.put_bends-requires
put_bends-requires c =
    let e = c.plan-g.ensures in
    let x = (laid c.requires e.v_value e.w_value e.built).asks in
    let q = c.replace_cycles.ensures.replaced_in in record {
      k_in_bounds = x.bytes;
      k_bound = chord_bends _ _ _ _ _ _ _ _ _ _ _ _ x _ q;
      bx_len = q.long.bx;
      by_len = q.long.by;
    }

pub add_row-line-requires : goal.add_row-line-requires
add_row-line-requires c =
    let e = c.plan-g.ensures in
    let x = (laid c.requires e.v_value e.w_value e.built).asks in
    let m = chord_comes _ _ _ _ _ _ _ _ _ _ _ _ x _ c.replace_cycles.ensures.replaced_in in
    record {
      count_lt_cells_most = m.cells;
      next_lt_ids_end = m.ids;
    }

pub returns-then-c1-c2-clause-obeyed : goal.returns-then-c1-c2-clause-obeyed
returns-then-c1-c2-clause-obeyed c =
    let e = c.plan-g.ensures in
    let w = c.add_row-line.ensures in
    let h = came c.requires e.v_value e.w_value e.built c.replace_cycles.ensures.replaced_in c.put_bends.ensures w.added in
    let n = c.replace_cycles.ensures.kept in
    two_obeyed _ _ _ _ _ _ _ _ _ _ _ _ _ _ _ _ c.requires _ _ e.v_value e.w_value _ _ _ e.built _ _ _ h c.if-c1-c2.true
    (ap (λ (x : Arrays). x.next) w.added ∙ ap (λ (x : Arrays). x.next + 1) n)
    (ap (λ (x : Arrays). x.count) w.added ∙ ap (λ (x : Arrays). x.count + 1) n)
    _ (ap (λ (u : Change). line_says (Ok u)) w.value ∙ ap (λ (x : Arrays). one_new x.next) n)

-- ---- the new face
pub overflow_add-y : goal.overflow_add-y
overflow_add-y c =
    let e = c.plan-g.ensures in
    let w = c.add_row-line.ensures in
    let h = came c.requires e.v_value e.w_value e.built c.replace_cycles.ensures.replaced_in c.put_bends.ensures w.added in
    let k = sums_fit_lem _ _ _ _ _ _ _ _ _ _ _ _ _ _ _ _ c.requires _ _ e.v_value e.w_value _ _ _ e.built _ _ _ h in
    omega (arith, k.0)

pub overflow_add-y-2 : goal.overflow_add-y-2
overflow_add-y-2 c =
    let e = c.plan-g.ensures in
    let w = c.add_row-line.ensures in
    let h = came c.requires e.v_value e.w_value e.built c.replace_cycles.ensures.replaced_in c.put_bends.ensures w.added in
    let k = sums_fit_lem _ _ _ _ _ _ _ _ _ _ _ _ _ _ _ _ c.requires _ _ e.v_value e.w_value _ _ _ e.built _ _ _ h in
    omega (arith, k.0)

pub overflow_add-z : goal.overflow_add-z
overflow_add-z c =
    let e = c.plan-g.ensures in
    let w = c.add_row-line.ensures in
    let h = came c.requires e.v_value e.w_value e.built c.replace_cycles.ensures.replaced_in c.put_bends.ensures w.added in
    let k = sums_fit_lem _ _ _ _ _ _ _ _ _ _ _ _ _ _ _ _ c.requires _ _ e.v_value e.w_value _ _ _ e.built _ _ _ h in
    omega (arith, k.1)

pub overflow_add-z-2 : goal.overflow_add-z-2
overflow_add-z-2 c =
    let e = c.plan-g.ensures in
    let w = c.add_row-line.ensures in
    let h = came c.requires e.v_value e.w_value e.built c.replace_cycles.ensures.replaced_in c.put_bends.ensures w.added in
    let k = sums_fit_lem _ _ _ _ _ _ _ _ _ _ _ _ _ _ _ _ c.requires _ _ e.v_value e.w_value _ _ _ e.built _ _ _ h in
    omega (arith, k.1)

pub offset_bounds-numbers-i : goal.offset_bounds-numbers-i
offset_bounds-numbers-i c = let b = c.plan-g.ensures.built.building in omega (arith, b.counts_size, b.cycle_room)

pub slice_bounds-add_part-count : goal.slice_bounds-add_part-count
slice_bounds-add_part-count c = let b = c.plan-g.ensures.built.building in omega (arith, b.counts_size, b.cycle_room)

pub slice_bounds-add_part-start : goal.slice_bounds-add_part-start
slice_bounds-add_part-start c = let b = c.plan-g.ensures.built.building in omega (arith, b.counts_size, b.cycle_room)

pub offset_bounds-places-j : goal.offset_bounds-places-j
offset_bounds-places-j c = let b = c.plan-g.ensures.built.building in omega (arith, b.steps_size, b.step_room)

pub slice_bounds-add_part-count-2 : goal.slice_bounds-add_part-count-2
slice_bounds-add_part-count-2 c = let b = c.plan-g.ensures.built.building in omega (arith, b.steps_size, b.step_room)

pub slice_bounds-add_part-start-2 : goal.slice_bounds-add_part-start-2
slice_bounds-add_part-start-2 c = let b = c.plan-g.ensures.built.building in omega (arith, b.steps_size, b.step_room)

pub add_part-requires : goal.add_part-requires
add_part-requires c =
    let e = c.plan-g.ensures in
    let w = c.add_row-line.ensures in
    let h = came c.requires e.v_value e.w_value e.built c.replace_cycles.ensures.replaced_in c.put_bends.ensures w.added in
    let g = c.plan-g.result in
    part_asks _ _ _ _ _ _ _ _ _ _ _ _ _ _ _ _ c.requires _ _ e.v_value e.w_value _ _ _ e.built _ _ _ h c.if-c1-c2.false
    _ g.new _ (built_tail c.plan-g.new.numbers g.old.cycles g.new c.plan-g.new.places g.old.steps e.built_2)

pub returns-clause-obeyed : goal.returns-clause-obeyed
returns-clause-obeyed c =
    let e = c.plan-g.ensures in
    let w = c.add_row-line.ensures in
    let h = came c.requires e.v_value e.w_value e.built c.replace_cycles.ensures.replaced_in c.put_bends.ensures w.added in
    let g = c.plan-g.result in
    let d = c.add_part.ensures in
    let n = c.replace_cycles.ensures.kept in
    one_obeyed _ _ _ _ _ _ _ _ _ _ _ _ _ _ _ _ c.requires _ _ e.v_value e.w_value _ _ _ e.built _ _ _ h c.if-c1-c2.false
    _ g.new _ (built_tail c.plan-g.new.numbers g.old.cycles g.new c.plan-g.new.places g.old.steps e.built_2)
    (ap (λ (x : Arrays). x.next) w.added ∙ ap (λ (x : Arrays). x.next + 1) n)
    (ap (λ (x : Arrays). x.count) w.added ∙ ap (λ (x : Arrays). x.count + 1) n)
    _ d.next_after d.count_after d.holds _ refl
