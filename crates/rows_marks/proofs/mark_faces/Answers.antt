-- `mark_faces` meets its contract. Assumes nothing.
use Prim.Native.Nat.{◌≤◌, ◌-◌}
use mathlib.Core.Path.{◌≡◌, refl}
use mathlib.Core.Bool.{false}
use native.Mathlib.Omega.{arith}
use lib.ListN.{take}
use Rattle.rows_marks.specs.Marks.{cycle_marked}
use Rattle.rows_marks.proofs.Faces.{Facing, facing_cycles, facing_steps, facing_turn, facing_skip}
use Rattle.rows_marks.proofs.mark_faces.Goals.{then-c-ne0, else-c-ne0}
use Rattle.rows_marks.proofs.mark_faces.Goals as goal

pub loop-i-init : goal.loop-i-init
loop-i-init c = (omega arith, record { size = c.requires.out_len; first_is = refl; from_is = refl; front = refl; rest = refl })

pub offset_bounds-counts-i : goal.offset_bounds-counts-i
offset_bounds-counts-i c = let p = c.requires.pooled in omega (arith, p.rows, p.counts)

pub bounds-counts-i : goal.bounds-counts-i
bounds-counts-i c = let p = c.requires.pooled in omega (arith, p.rows, p.counts)

pub bounds-out-i : goal.bounds-out-i
bounds-out-i c = let at = c in omega (arith, at.loop-i.invariant.1.size, at.requires.pooled.rows)

pub face_marked-w-requires : goal.face_marked-w-requires
face_marked-w-requires c =
    let at = c in
    let s = at in
    let p = s.requires.pooled in
    let e = c.wide-k.ensures in
    let f = facing_cycles s.requires.pooled s.requires.out_len at.loop-i.invariant.1 (omega arith) _ e in
    record {
      sought = s.requires.sought;
      cycles_len = p.cycles;
      k_bound = f;
      steps_len = p.steps;
      cycles_bound = facing_steps s.requires.pooled s.requires.out_len at.loop-i.invariant.1 (omega arith) _ e;
    }

pub bounds-out-i-then-c-ne0 : goal.bounds-out-i-then-c-ne0
bounds-out-i-then-c-ne0 c = let at = c in omega (arith, at.loop-i.invariant.1.size, at.requires.pooled.rows)

pub overflow_add-first : goal.overflow_add-first
overflow_add-first c =
    let at = c in
    let s = at in
    record { fits = (let f = facing_cycles s.requires.pooled s.requires.out_len at.loop-i.invariant.1 (omega arith) _ c.wide-k.ensures in omega arith) }

pub loop-i-preserved : goal.loop-i-preserved
loop-i-preserved c =
    let p = c.requires.pooled in
    let o = c.requires.out_len in
    let v = c.loop-i.invariant.1 in (
      omega arith,
      elim c.if-c-ne0.branch [
        | then-c-ne0 w ↦ rw (w.out-is, w.first-is, w.from-is)
            (facing_turn p o v (omega arith) _ w.wide-k.ensures _ false w.face_marked-w.ensures.marked_value _ w.face_marked-w.ensures.next_value)
        | else-c-ne0 w ↦ rw (w.out-is, w.first-is, w.from-is) (facing_skip p o v (omega arith) _ refl w.if-c-ne0.false)
      ],
    )

pub returns : goal.returns
returns c =
    let at = c in
    let e : at.loop-i.i ≡ at.args.n = omega arith in
    let p = rw e at at.loop-i.invariant.1 in
    record {
      out_after = p.front;
      out_len_2 = p.size;
    }
