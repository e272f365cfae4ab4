-- `shift` meets its contract. Assumes nothing.
use Prim.Native.Nat.{◌-◌}
use mathlib.Core.Path.{◌≡◌, ap, ◌∙◌}
use native.Mathlib.Omega.{arith}
use lib.Seq.{paste}
use Rattle.kernel_swap.proofs.Along.{shifted}
use Rattle.kernel_swap.proofs.shift.Goals as goal

pub returns : goal.returns
returns c =
    let e : c.args.n - 0 ≡ c.args.n = omega arith in
    shifted _ _ c.args.n c.args.g c.requires (c.copy_within.ensures.after ∙ ap (paste c.args.l.now c.args.g c.args.l.now) e)
