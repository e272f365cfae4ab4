-- `file_length::head_length` meets its contract. Assumes nothing.
use Prim.Native.Nat.{◌+◌}
use native.Mathlib.Omega.{arith}
use lib.Dec.{ltb→lt}
use lib.Ieee.Fits.{and_l, and_r}
use Rattle.number.specs.Numbers.{numbers_end}
use Rattle.file_parts.specs.Parts.{spells}
use Rattle.file_length.specs.Widths.{shape_spells}
use Rattle.file_length.proofs.Lengths.{head_most}
use Rattle.file_length.proofs.head_length.Goals as goal

pub number_width-w-requires : goal.number_width-w-requires
number_width-w-requires c = ltb→lt c.args.c.id numbers_end (and_l (spells c.args.c.id) (shape_spells c.args.c.shape) c.requires)

pub shape_length-n-requires : goal.shape_length-n-requires
shape_length-n-requires c = let s = c in and_r (spells s.args.c.id) (shape_spells s.args.c.shape) s.requires

pub overflow_add-result : goal.overflow_add-result
overflow_add-result c =
    let x = c.args.c in
    let m = head_most x in
    let a = c.number_width-w.ensures in
    let b = c.shape_length-n.ensures in
    record { fits = omega arith }

pub overflow_add-result-2 : goal.overflow_add-result-2
overflow_add-result-2 c =
    let x = c.args.c in
    let m = head_most x in
    let a = c.number_width-w.ensures in
    let b = c.shape_length-n.ensures in
    record { fits = omega arith }

pub returns : goal.returns
returns c = λ i. c.number_width-w.ensures i + (1 + c.shape_length-n.ensures i)
