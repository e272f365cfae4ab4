-- `coordinate::in_bounds` meets its contract: the tests of the two coordinates, joined. Assumes nothing.
use borrow.Author.Rules.{rules}
use mathlib.Core.Path.{◌≡◌, sym, ap, ◌∙◌}
use mathlib.Core.Bool.{Bool, true, false, ◌&&◌}
use Rattle.coordinate.specs.Bounds.{in_bounds, within}
use Rattle.coordinate.proofs.in_bounds.Goals as goal

pub returns-then-in_range : goal.returns-then-in_range
unfolding within
returns-then-in_range c =
    let p = c.before.before.before.args.p in
    let e : in_bounds p.x ≡ true = sym c.before.before.in_range.ensures ∙ c.before.if-in_range.true in
    c.in_range-then-in_range.ensures ∙ sym (ap (λ (t : Bool). t && in_bounds p.y) e)

pub returns-else-in_range : goal.returns-else-in_range
unfolding within
returns-else-in_range c =
    let p = c.before.before.args.p in
    let e : in_bounds p.x ≡ false = sym c.before.in_range.ensures ∙ c.if-in_range.false in
    c.if-in_range.false ∙ sym (ap (λ (t : Bool). t && in_bounds p.y) e)
