-- `lent_sound::visit` meets its contract. The loop keeps: the sums so far, and that the rows left decide. Assumes nothing.
use borrow.Author.Rules.{rules}
use Prim.Native.Nat.{ℕ, ◌+◌, ◌-◌, ◌≤◌}
use mathlib.Core.Path.{◌≡◌, sym, ◌∙◌}
use mathlib.Core.Bool.{true}
use native.Mathlib.Omega.{arith}
use borrow.Author.Tests.{not-true, not-false}
use Rattle.complex.specs.Visits.{bounds_right}
use Rattle.complex.proofs.Visits.{Visiting, visiting_start}
use Rattle.sound.proofs.Testing.{Counting, counting_start}
use Rattle.lent.specs.Arrays.{Arrays, Lengths, of_lists}
use Rattle.lent_row.specs.Row.{row_right, bare_of, Upto}
use Rattle.lent_sound.specs.Walk.{right_at}
use Rattle.lent_sound.proofs.Cells.{bounds_few, bare_long, rows_start, row_wrong, row_holds}
use Rattle.lent_sound.proofs.Cells.{rows_turn, walk_out, walk_fault, walk_bent, walk_turn, walk_end}
use Rattle.lent_sound.proofs.visit.Goals as goal

pub returns-then-not-bounds_right : goal.returns-then-not-bounds_right
returns-then-not-bounds_right c =
    let a = c.args in
    let all : Arrays = of_lists a.view.now.next a.view.now.count a.view.now.ids.now a.view.now.kinds.now a.view.now.starts.now a.view.now.ends.now a.view.now.bends.now a.view.now.counts.now a.view.now.px.now a.view.now.py.now a.view.now.cycles.now a.view.now.steps.now a.view.now.bx.now a.view.now.by.now in
    let sized : Lengths all = c.known.ensures in
    let w = walk_out a.look all sized (sym c.bounds_right.ensures ∙ c.if-not-bounds_right.true) in
    record {
      result_value = w.0;
      result_value_2 = w.1;
      lengths = sized;
    }

pub fill-requires : goal.fill-requires
fill-requires c = bounds_few c.args.view.now.next c.args.view.now.count (sym c.bounds_right.ensures ∙ c.if-not-bounds_right.false)

pub loop-i-init : goal.loop-i-init
loop-i-init c =
    let a = c.args in
    let all : Arrays = of_lists a.view.now.next a.view.now.count a.view.now.ids.now a.view.now.kinds.now a.view.now.starts.now a.view.now.ends.now a.view.now.bends.now a.view.now.counts.now a.view.now.px.now a.view.now.py.now a.view.now.cycles.now a.view.now.steps.now a.view.now.bx.now a.view.now.by.now in
    let sized : Lengths all = c.known.ensures in
    let bounded : bounds_right all.next all.count ≡ true = sym c.bounds_right.ensures ∙ c.if-not-bounds_right.false in
    let few : all.count ≤ 256 = bounds_few all.next all.count bounded in
    (omega arith, counting_start _ _, visiting_start _ _, rows_start (bare_of all) (bare_long all sized) few)

pub row_right-requires : goal.row_right-requires
row_right-requires c =
    record {
      upto = c.loop-i.invariant.3;
      table = c.fill.ensures;
      i_lt_count = omega arith;
    }

pub returns-in_default : goal.returns-in_default
returns-in_default c =
    let a = c.args in
    let all : Arrays = of_lists a.view.now.next a.view.now.count a.view.now.ids.now a.view.now.kinds.now a.view.now.starts.now a.view.now.ends.now a.view.now.bends.now a.view.now.counts.now a.view.now.px.now a.view.now.py.now a.view.now.cycles.now a.view.now.steps.now a.view.now.bx.now a.view.now.by.now in
    let sized : Lengths all = c.known.ensures in
    let bounded : bounds_right all.next all.count ≡ true = sym c.bounds_right.ensures ∙ c.if-not-bounds_right.false in
    let few : all.count ≤ 256 = bounds_few all.next all.count bounded in
    let w = walk_fault a.look all sized bounded c.loop-i.i (omega arith) c.loop-i.invariant.1 c.loop-i.invariant.2
    (row_wrong (bare_of all) (bare_long all sized) few c.loop-i.i (omega arith) _ c.row_right.ensures c.in_default.is) in
    record {
      result_value = w.0;
      result_value_2 = w.1;
      lengths = sized;
    }

pub bends_asked-requires : goal.bends_asked-requires
bends_asked-requires c =
    let a = c.args in
    let all : Arrays = of_lists a.view.now.next a.view.now.count a.view.now.ids.now a.view.now.kinds.now a.view.now.starts.now a.view.now.ends.now a.view.now.bends.now a.view.now.counts.now a.view.now.px.now a.view.now.py.now a.view.now.cycles.now a.view.now.steps.now a.view.now.bx.now a.view.now.by.now in
    let sized : Lengths all = c.known.ensures in
    let bounded : bounds_right all.next all.count ≡ true = sym c.bounds_right.ensures ∙ c.if-not-bounds_right.false in
    let few : all.count ≤ 256 = bounds_few all.next all.count bounded in
    let summed : Upto (bare_of all) (c.loop-i.i + 1) c.in-Some.u =
    rows_turn (bare_of all) (bare_long all sized) few c.loop-i.i (omega arith) _ c.row_right.ensures _ c.in-Some.is in
    summed.bends

pub returns-then-not-bends_asked : goal.returns-then-not-bends_asked
returns-then-not-bends_asked c =
    let a = c.args in
    let all : Arrays = of_lists a.view.now.next a.view.now.count a.view.now.ids.now a.view.now.kinds.now a.view.now.starts.now a.view.now.ends.now a.view.now.bends.now a.view.now.counts.now a.view.now.px.now a.view.now.py.now a.view.now.cycles.now a.view.now.steps.now a.view.now.bx.now a.view.now.by.now in
    let sized : Lengths all = c.known.ensures in
    let bounded : bounds_right all.next all.count ≡ true = sym c.bounds_right.ensures ∙ c.if-not-bounds_right.false in
    let few : all.count ≤ 256 = bounds_few all.next all.count bounded in
    let right : row_right all c.loop-i.i ≡ true =
    row_holds (bare_of all) (bare_long all sized) few c.loop-i.i (omega arith) _ c.row_right.ensures _ c.in-Some.is in
    let summed : Upto (bare_of all) (c.loop-i.i + 1) c.in-Some.u =
    rows_turn (bare_of all) (bare_long all sized) few c.loop-i.i (omega arith) _ c.row_right.ensures _ c.in-Some.is in
    let w = walk_bent a.look all sized bounded c.loop-i.i (omega arith) c.loop-i.invariant.1 c.loop-i.invariant.2
    right c.loop-i.t _ c.loop-i.invariant.3 summed _ c.bends_asked.ensures c.if-not-bends_asked.true in
    record {
      result_value = w.0;
      result_value_2 = w.1;
      lengths = sized;
    }

pub loop-i-preserved : goal.loop-i-preserved
loop-i-preserved c =
    let a = c.args in
    let all : Arrays = of_lists a.view.now.next a.view.now.count a.view.now.ids.now a.view.now.kinds.now a.view.now.starts.now a.view.now.ends.now a.view.now.bends.now a.view.now.counts.now a.view.now.px.now a.view.now.py.now a.view.now.cycles.now a.view.now.steps.now a.view.now.bx.now a.view.now.by.now in
    let sized : Lengths all = c.known.ensures in
    let bounded : bounds_right all.next all.count ≡ true = sym c.bounds_right.ensures ∙ c.if-not-bounds_right.false in
    let few : all.count ≤ 256 = bounds_few all.next all.count bounded in
    let right : row_right all c.loop-i.i ≡ true =
    row_holds (bare_of all) (bare_long all sized) few c.loop-i.i (omega arith) _ c.row_right.ensures _ c.in-Some.is in
    let summed : Upto (bare_of all) (c.loop-i.i + 1) c.in-Some.u =
    rows_turn (bare_of all) (bare_long all sized) few c.loop-i.i (omega arith) _ c.row_right.ensures _ c.in-Some.is in
    let w = walk_turn a.look all sized bounded c.loop-i.i (omega arith) c.loop-i.invariant.1 c.loop-i.invariant.2
    right c.loop-i.t _ c.loop-i.invariant.3 summed _ c.bends_asked.ensures c.if-not-bends_asked.false in
    (omega arith, w.0, w.1, summed)

pub returns : goal.returns
returns c =
    let a = c.args in
    let all : Arrays = of_lists a.view.now.next a.view.now.count a.view.now.ids.now a.view.now.kinds.now a.view.now.starts.now a.view.now.ends.now a.view.now.bends.now a.view.now.counts.now a.view.now.px.now a.view.now.py.now a.view.now.cycles.now a.view.now.steps.now a.view.now.bx.now a.view.now.by.now in
    let sized : Lengths all = c.known.ensures in
    let bounded : bounds_right all.next all.count ≡ true = sym c.bounds_right.ensures ∙ c.if-not-bounds_right.false in
    let w = walk_end a.look all sized bounded c.loop-i.i c.loop-i.t (omega arith) c.loop-i.invariant.1 c.loop-i.invariant.2 c.loop-i.invariant.3 in
    record {
      result_value = w.0;
      result_value_2 = w.1;
      lengths = sized;
    }
