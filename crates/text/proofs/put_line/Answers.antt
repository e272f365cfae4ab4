-- `text::put_line` meets its contract: four numbers, each with its mark. Assumes nothing.
use Prim.Native.Nat.{ℕ, ◌<◌, ◌≤◌}
use native.Mathlib.Omega.{arith}
use lib.ListN.{length}
use Rattle.complex.specs.Program.{decimal}
use Rattle.text.proofs.Decimal.{decimal_few}
use Rattle.text.proofs.Puts.{put_then, put_as, put_ends, line_text_lem}
use Rattle.text.proofs.put_line.Goals as goal

-- the fields are short
few : (number first new removed : ℕ) → number < 4294967296 → first < 4294967296 → new < 4294967296 → removed < 4294967296
    → (length (decimal number) ≤ 10) × (length (decimal first) ≤ 10) × (length (decimal new) ≤ 10) × (length (decimal removed) ≤ 10)
few number first new removed h i j k = (decimal_few number h, decimal_few first i, decimal_few new j, decimal_few removed k)

pub put_field-a-requires : goal.put_field-a-requires
put_field-a-requires c =
    let s = c in
    let h = s.requires in
    let k = few s.args.number s.args.first s.args.new s.args.removed s.ranges.number.fits s.ranges.first.fits s.ranges.new.fits s.ranges.removed.fits in
    omega arith

pub put_field-b-requires : goal.put_field-b-requires
put_field-b-requires c =
    let a = c in
    let s = a in
    let h = s.requires in
    let k = few s.args.number s.args.first s.args.new s.args.removed s.ranges.number.fits s.ranges.first.fits s.ranges.new.fits s.ranges.removed.fits in
    let l = put_ends a.put_field-a.ensures in
    omega arith

pub put_field-c-requires : goal.put_field-c-requires
put_field-c-requires c =
    let b = c in
    let a = b in
    let s = a in
    let h = s.requires in
    let k = few s.args.number s.args.first s.args.new s.args.removed s.ranges.number.fits s.ranges.first.fits s.ranges.new.fits s.ranges.removed.fits in
    let l = put_ends a.put_field-a.ensures in
    let m = put_ends b.put_field-b.ensures in
    omega arith

pub put_field-requires : goal.put_field-requires
put_field-requires c =
    let d = c in
    let b = d in
    let a = b in
    let s = a in
    let h = s.requires in
    let k = few s.args.number s.args.first s.args.new s.args.removed s.ranges.number.fits s.ranges.first.fits s.ranges.new.fits s.ranges.removed.fits in
    let l = put_ends a.put_field-a.ensures in
    let m = put_ends b.put_field-b.ensures in
    let n = put_ends d.put_field-c.ensures in
    omega arith

pub returns : goal.returns
returns c =
    let d = c in
    let k = d in
    let b = k in
    let a = b in
    let s = a in
    put_as (put_then a.put_field-a.ensures (put_then b.put_field-b.ensures (put_then k.put_field-c.ensures d.put_field.ensures)))
    (line_text_lem s.args.number s.args.first s.args.new s.args.removed)
