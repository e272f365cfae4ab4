-- `coordinate::in_range` meets its contract: each answer is what `&&` of the two tests gives, where the first is as the branch found it. Assumes nothing.
use mathlib.Core.Path.{sym, ap, ◌∙◌}
use mathlib.Core.Bool.{Bool, ◌&&◌}
use lib.Ieee.{of_bits, neg, le}
use Rattle.coordinate.specs.Bounds.{most}
use Rattle.coordinate.proofs.in_range.Goals as goal

pub returns-then-x : goal.returns-then-x
unfolding of_bits neg
returns-then-x c = sym (ap (λ (t : Bool). t && le c.before.args.x most) c.if-x.true)

pub returns-else-x : goal.returns-else-x
unfolding of_bits neg
returns-else-x c = c.if-x.false ∙ sym (ap (λ (t : Bool). t && le c.before.args.x most) c.if-x.false)
