-- `printing::too_long` meets its contract. Assumes nothing.
use native.Mathlib.Omega.{arith}
use Rattle.printing.proofs.Pieces.{long_none, long_put}
use Rattle.printing.proofs.too_long.Goals as goal

pub returns-then-out-lt9 : goal.returns-then-out-lt9
returns-then-out-lt9 c =
    let s = c in
    long_none s.args.at s.args.out.now c.if-out-lt9.true

pub put_bytes-n-requires : goal.put_bytes-n-requires
put_bytes-n-requires c = let h = c.if-out-lt9.false in omega arith

pub returns : goal.returns
returns c =
    let p = c in
    let t = p in
    let s = t in
    long_put s.args.at s.args.out.now t.if-out-lt9.false p.put_bytes-n.ensures
