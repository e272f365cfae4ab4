-- `text::put_end` meets its contract: its parts, one after the other. Assumes nothing.
use native.Mathlib.Omega.{arith}
use mathlib.Core.Path.{ap, ◌∙◌}
use lib.IntN.{ℤ}
use lib.ListN.{length}
use Rattle.complex.specs.Program.{signed}
use Rattle.text.proofs.Signs.{back}
use Rattle.text.proofs.Puts.{put_then, put_as, put_length, end_text_lem, end_length}
use Rattle.text.proofs.put_end.Goals as goal

pub put_bytes-a-requires : goal.put_bytes-a-requires
put_bytes-a-requires c =
    let s = c in
    let h = s.requires in
    let e = end_length s.args.v s.args.cells in
    omega arith

pub put_signed-b-requires : goal.put_signed-b-requires
put_signed-b-requires c =
    let a = c in
    let s = a in
    let h = s.requires in
    let e = end_length s.args.v s.args.cells in
    let v = ap (λ (x : ℤ). length (signed x)) (back s.args.v s.ranges.v) in
    let l = put_length a.put_bytes-a.ensures in
    let f = a.put_bytes-a.ensures.ends in
    omega arith

pub put_bytes-c-requires : goal.put_bytes-c-requires
put_bytes-c-requires c =
    let b = c in
    let a = b in
    let s = a in
    let h = s.requires in
    let e = end_length s.args.v s.args.cells in
    let v = ap (λ (x : ℤ). length (signed x)) (back s.args.v s.ranges.v) in
    let l = put_length b.put_signed-b.ensures ∙ put_length a.put_bytes-a.ensures in
    let f = a.put_bytes-a.ensures.ends in
    let g = b.put_signed-b.ensures.ends in
    omega arith

pub put_field-requires : goal.put_field-requires
put_field-requires c =
    let k = c in
    let b = k in
    let a = b in
    let s = a in
    let h = s.requires in
    let e = end_length s.args.v s.args.cells in
    let v = ap (λ (x : ℤ). length (signed x)) (back s.args.v s.ranges.v) in
    let l = put_length k.put_bytes-c.ensures ∙ put_length b.put_signed-b.ensures ∙ put_length a.put_bytes-a.ensures in
    let f = a.put_bytes-a.ensures.ends in
    let g = b.put_signed-b.ensures.ends in
    let i = k.put_bytes-c.ensures.ends in
    omega arith

pub returns : goal.returns
returns c =
    let d = c in
    let k = d in
    let b = k in
    let a = b in
    let s = a in
    put_as (put_then a.put_bytes-a.ensures (put_then b.put_signed-b.ensures (put_then k.put_bytes-c.ensures d.put_field.ensures)))
    (end_text_lem _ s.args.v s.args.cells (back s.args.v s.ranges.v))
