-- `coordinate::read_position` meets its contract: a position stands where sixteen bytes are. Assumes nothing.
use borrow.Author.Rules.{rules}
use native.Mathlib.Omega.{arith}
use mathlib.Core.Path.{sym, ap, ◌∙◌}
use Prim.Native.Nat.{◌+◌}
use Rattle.coordinate.specs.declared.Position.{Position}
use Rattle.number.specs.Said.{done}
use Rattle.coordinate.proofs.Laws.{located_long, located_short}
use Rattle.coordinate.proofs.read_position.Goals as goal

pub returns-then-s-at : goal.returns-then-s-at
returns-then-s-at c = sym (located_short c.before.before.args.s.now c.before.before.args.at (omega arith))

pub returns-then-s-at-lt16 : goal.returns-then-s-at-lt16
returns-then-s-at-lt16 c = sym (located_short c.before.before.before.args.s.now c.before.before.before.args.at (omega arith))

pub returns : goal.returns
returns c =
    let s = c.before.before.before.before.args.s.now in
    let at = c.before.before.before.before.args.at in
    ap (λ (p : Position). done (p, at + 16)) c.position_at.ensures ∙ sym (located_long s at (omega arith))
