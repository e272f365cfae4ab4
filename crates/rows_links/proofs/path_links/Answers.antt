-- `path_links` meets its contract. Assumes nothing.
use borrow.Author.Rules.{rules}
use Prim.Native.Nat.{◌+◌, ◌-◌, ◌≤◌}
use native.Mathlib.Omega.{arith}
use mathlib.Core.List.{map}
use lib.ListN.{take}
use Rattle.complex.specs.Uses.{passages}
use Rattle.store.specs.View.{halfedge_of}
use lib.Seq.{take_all}
use Rattle.rows_links.proofs.Links.{Linking, linking_none, linking_on, put_as, path_turn, path_length}
use Rattle.rows_links.proofs.path_links.Goals as goal

pub loop-j-init : goal.loop-j-init
loop-j-init c = (omega arith, linking_none _ _ _ _ _ _ (omega arith))

pub next_step-g-requires : goal.next_step-g-requires
next_step-g-requires c = record {
  j_lt_c = c.loop-j-test.true;
  c_in_bounds = c.requires.c_in_bounds;
}

pub put_link-k-requires : goal.put_link-k-requires
put_link-k-requires c =
    let q = c in
    let p = q.requires in
    let i = q.loop-j.invariant.1 in
    let f = i.few in
    record {
      id_rows = p.id_rows;
      used_in_bounds = omega (arith, i.lefts, p.c_in_bounds_2);
      used_in_bounds_2 = omega (arith, i.rights, p.c_in_bounds_3);
    }

pub loop-j-preserved : goal.loop-j-preserved
loop-j-preserved c =
    let p = c in
    let n = p in
    let q = n in
    let st = q in
    let i = q.loop-j.invariant.1 in
    let k = p.put_link-k.auto in
    let w = path_turn _ _ st.requires.c_in_bounds _ _ q.loop-j.j _ q.loop-j-test.true n.next_step-g.ensures _ _ _ _ _ _ _ _ _ i.put
    p.put_link-k.ensures in
    (omega arith, linking_on _ _ 1 _ (omega arith) i k.xs k.ys w)

pub shape_of-xs : goal.shape_of-xs
shape_of-xs c = c.loop-j.invariant.1.lefts

pub shape_of-ys : goal.shape_of-ys
shape_of-ys c = c.loop-j.invariant.1.rights

pub returns : goal.returns
returns c =
    let st = c in
    let a = st.args in
    let n = path_length a.c a.l.now st.requires.c_in_bounds in
    put_as _ _ _ _ (take_all c.loop-j.j (passages (map halfedge_of (take a.c a.l.now))) (omega arith)) _ _ _ _ _ _
    c.loop-j.invariant.1.put
