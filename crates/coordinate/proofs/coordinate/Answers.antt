-- `coordinate::coordinate` meets its contract: a NaN's pattern is answered by the NaN that 0 / 0 is. Assumes nothing.
use borrow.Author.Rules.{rules}
use mathlib.Core.Path.{sym, ap, ◌∙◌}
use lib.Ieee.{binary64, of_bits}
use Rattle.coordinate.specs.Positions.{coordinate_in}
use Rattle.coordinate.proofs.Laws.{zero_by_zero, nan_at, no_nan_at}
use Rattle.coordinate.proofs.coordinate.Goals as goal

pub returns-then-n-gt9218868437227405312 : goal.returns-then-n-gt9218868437227405312
unfolding coordinate_in
returns-then-n-gt9218868437227405312 c =
    zero_by_zero
    ∙ sym (nan_at c.before.word-n.result c.if-n-gt9218868437227405312.true)
    ∙ ap (of_bits binary64) c.before.word-n.ensures

pub float_from_bits-result : goal.float_from_bits-result
float_from_bits-result c = no_nan_at c.before.word-n.result c.if-n-gt9218868437227405312.false

pub returns : goal.returns
unfolding coordinate_in
returns c = ap (of_bits binary64) c.before.word-n.ensures
