-- `push_lone` meets its contract. Assumes nothing.
use borrow.Author.Rules.{rules}
use mathlib.Core.Path.{refl}
use Rattle.rows_spans.proofs.Building.{pushed_lone}
use Rattle.rows_spans.proofs.push_lone.Goals as goal

pub returns : goal.returns
returns c = let a = c.args in record {
  value = refl;
  built = pushed_lone a.counts.now a.u a.steps.now c.requires.building a.v c.requires.cycles_in_bounds c.requires.steps_in_bounds;
}
