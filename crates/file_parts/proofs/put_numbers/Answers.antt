-- `file_parts::put_numbers` meets its contract. The loop's invariant: the first i numbers are written. Assumes nothing.
use borrow.Author.Rules.{rules}
use Prim.Native.Nat.{ℕ, ◌+◌, ◌-◌, ◌<◌, ◌≤◌}
use mathlib.Core.Path.{◌≡◌, ap, subst}
use native.Mathlib.Omega.{arith}
use lib.Dec.{T, ltb→lt}
use lib.ListN.{length, take, get_or}
use Rattle.number.specs.Readers.{spread}
use Rattle.number.specs.Numbers.{spell}
use Rattle.file_parts.specs.Parts.{BytesPut, run_of, spells}
use Rattle.file_parts.proofs.Laying.{put_of, put_none, put_size, put_turn, put_room, put_all, run_length, run_get, all_get}
use Rattle.file_parts.proofs.put_numbers.Goals as goal

pub loop-i-init : goal.loop-i-init
loop-i-init c = (omega arith, put_none _ _)

pub overflow_add-v : goal.overflow_add-v
overflow_add-v c = let r = c.requires.spelled_numbers.room in search rules

pub offset_bounds-src-from : goal.offset_bounds-src-from
offset_bounds-src-from c = let r = c.requires.spelled_numbers.room in search rules

pub bounds-src-from : goal.bounds-src-from
bounds-src-from c = let r = c.requires.spelled_numbers.room in omega arith

pub put_number-place-requires : goal.put_number-place-requires
put_number-place-requires c =
    let w = c in
    let l = w.loop-i in
    let s = w in
    let from = s.args.from in
    let n = s.args.n in
    let src = s.args.src.now in
    let k : length (run_of from n src) ≡ n = run_length from n src s.requires.spelled_numbers.room in
    let h : l.i < length (run_of from n src) = omega arith in
    let e = run_get from n src l.i 0 w.loop-i-test.true in record {
      n_lt_numbers_end = ltb→lt _ _ (subst (λ (v : ℕ). T (spells v)) e (all_get spells (run_of from n src) l.i 0 s.requires.spelled_numbers.spelled h));
      n_in_bounds = put_room spell (run_of from n src) s.args.out.now l.out s.args.at l.place l.i h l.invariant.1 0 (spell (get_or src (from + l.i) 0))
          (ap spell e) s.requires.src_in_bounds;
    }

pub loop-i-preserved : goal.loop-i-preserved
loop-i-preserved c =
    let f = c.put_number-place in
    let w = c in
    let l = w.loop-i in
    let s = w in
    let from = s.args.from in
    let n = s.args.n in
    let src = s.args.src.now in
    let k : length (run_of from n src) ≡ n = run_length from n src s.requires.spelled_numbers.room in
    let h : l.i < length (run_of from n src) = omega arith in
    let e = run_get from n src l.i 0 w.loop-i-test.true in
    let bs = spell (get_or src (from + l.i) 0) in (
      omega arith,
      put_turn spell (run_of from n src) s.args.out.now l.out s.args.at l.place l.i h l.invariant.1 0 bs (ap spell e)
          (put_of bs f.ensures.value f.ensures.out_after),
    )

pub shape_of-out : goal.shape_of-out
shape_of-out c = put_size c.loop-i.invariant.1

pub returns : goal.returns
returns c =
    let l = c.loop-i in
    let s = c in
    let k = run_length s.args.from s.args.n s.args.src.now s.requires.spelled_numbers.room in
    put_all spell (run_of s.args.from s.args.n s.args.src.now) l.i (omega arith) l.invariant.1
