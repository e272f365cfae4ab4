-- `copies_asked` meets its contract: the totals of the drawing, and those of the copies. Assumes nothing.
use native.Mathlib.Omega.{arith}
use Rattle.ask_unglue.proofs.Copies.{times_few}
use Rattle.ask_unglue.proofs.copies_asked.Goals as goal

pub overflow_mul-n : goal.overflow_mul-n
overflow_mul-n c =
    let a = c.args in
    let p = c.requires in
    let q = times_few a.n a.b p.b_le_bends_most in
    record { fits = omega (arith, q, p.n_bound) }
