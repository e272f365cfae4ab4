-- `difference` meets its contract. Assumes nothing.
use mathlib.Core.Path.{◌∙◌}
use mir.Syntax.{w32}
use mir.ValLaws.{to_z-of_z}
use Rattle.rows_euler.proofs.Counting.{difference_is, difference_fits}
use borrow.Author.Rules.{rules}
use Rattle.rows_euler.proofs.difference.Goals as goal

pub overflow_sub-result : goal.overflow_sub-result
overflow_sub-result c = difference_fits c.args.a c.args.b c.requires.0 c.requires.1

pub returns : goal.returns
returns c = to_z-of_z w32 _ (difference_fits c.args.a c.args.b c.requires.0 c.requires.1) ∙ difference_is c.args.a c.args.b c.requires.0 c.requires.1
