-- `decode_parts::bends_at` meets its contract. Assumes nothing.
use Prim.Native.Nat.{◌+◌, ◌≤◌}
use borrow.Author.Rules.{rules}
use native.Mathlib.Omega.{arith}
use lib.ListN.{length}
use Rattle.decode_parts.proofs.Fields.{part_fits, part_listed, part_none}
use Rattle.decode_parts.proofs.bends_at.Goals as goal

-- the list's places lie in the script
fits :
    (c : goal.In-Some) →
    let a = c.args in
    let b = c.in-Some in
    (a.at + b.first ≤ length a.script.now) × (a.at + b.end ≤ length a.script.now)
fits c =
    let a = c in
    part_fits a.args.script.now a.args.at a.requires _ c.read_bends.ensures c.in-Some.is

pub returns-in_default : goal.returns-in_default
returns-in_default c =
    let a = c in
    part_none a.args.script.now a.args.at a.requires _ c.read_bends.ensures c.in_default.is

pub overflow_add-result : goal.overflow_add-result
overflow_add-result c = let l = fits c in omega arith

pub overflow_add-result-2 : goal.overflow_add-result-2
overflow_add-result-2 c = let l = fits c in omega arith

pub returns : goal.returns
returns c =
    let a = c in
    part_listed a.args.script.now a.args.at a.requires _ c.read_bends.ensures c.in-Some.is
