-- `corners_exist` meets its contract. Assumes nothing.
use native.Mathlib.Omega.{arith}
use Rattle.decode_parts.specs.Lists.{numbers_read}
use Rattle.ask_cut_along.specs.Corners.{moved_fit}
use Rattle.kind_cut_chord.specs.Chords.{corner_by}
use Rattle.kind_cut_chord.proofs.Questions.{first_no_lem, second_no, rest_says}
use Rattle.kind_cut_chord.proofs.corners_exist.Goals as goal

pub corner_on-requires : goal.corner_on-requires
corner_on-requires c = let p = c.requires in record {
  ruled = p.ruled;
  within = p.within;
}

pub returns-then-not-corner_on : goal.returns-then-not-corner_on
returns-then-not-corner_on c =
    let a = c.args in
    first_no_lem _ (corner_by a.ids.now a.kinds.now a.n a.cycles.now a.steps.now a.spans a.c2 a.s2)
    (moved_fit a.spans.cycles.count a.c1 a.c2 (numbers_read a.script.now a.place a.moved))
    c.corner_on.result c.corner_on.ensures c.if-not-corner_on.true

pub corner_on-requires-2 : goal.corner_on-requires-2
corner_on-requires-2 c = let p = c.requires in record {
  ruled = p.ruled;
  within = p.within;
}

pub returns-then-not-corner_on-2 : goal.returns-then-not-corner_on-2
returns-then-not-corner_on-2 c =
    second_no _ _ _ c.corner_on.result c.corner_on.ensures c.if-not-corner_on.false c.corner_on-2.result c.corner_on-2.ensures c.if-not-corner_on-2.true

pub overflow_cast-k : goal.overflow_cast-k
overflow_cast-k c = omega (arith, c.requires.within.in_cycles)

pub moved_fit-requires : goal.moved_fit-requires
moved_fit-requires c = c.requires.stand

pub returns : goal.returns
returns c =
    rest_says _ _ _ c.corner_on.result c.corner_on.ensures c.if-not-corner_on.false c.corner_on-2.result c.corner_on-2.ensures c.if-not-corner_on-2.false
    c.moved_fit.result c.moved_fit.ensures
