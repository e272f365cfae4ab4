-- `few` meets its contract: the answer is what `&&` of the two tests gives, where the first is as the branch found it. Assumes nothing.
use borrow.Author.Tests.{lt-ltb, le-ltb}
use mathlib.Core.Path.{sym, ap, ◌∙◌}
use mathlib.Core.Bool.{Bool, ◌&&◌}
use lib.Dec.{ltb}
use Rattle.kind_cut_chord.proofs.few.Goals as goal

pub returns-then-spans-lt32 : goal.returns-then-spans-lt32
returns-then-spans-lt32 c =
    let s = c.args.spans in
    sym (ap (λ (t : Bool). t && ltb s.steps.count 127) (lt-ltb s.cycles.count 32 c.if-spans-lt32.true))

pub returns-else-spans-lt32 : goal.returns-else-spans-lt32
returns-else-spans-lt32 c =
    let s = c.args.spans in
    let e = le-ltb s.cycles.count 32 c.if-spans-lt32.false in
    e ∙ sym (ap (λ (t : Bool). t && ltb s.steps.count 127) e)
