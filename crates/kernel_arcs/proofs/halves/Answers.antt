-- `halves` meets its contract: the near side, and the far side in what is left of the arrays. Assumes nothing.
use borrow.Author.Rules.{rules}
use mathlib.Core.Path.{sym}
use native.Mathlib.Omega.{arith}
use Rattle.rows_corners.proofs.Lists.{built_as}
use Rattle.rows_corners.proofs.Moved.{turned_size}
use Rattle.rows_split.proofs.Places.{cornered_room}
use Rattle.rows_split.proofs.Parts.{moved_below, stays_put, near_kept, far_kept, near_room, far_room}
use Rattle.kernel_arcs.proofs.Pairs.{first_room, rest_room, front_stays, back_stands}
use Rattle.kernel_arcs.proofs.halves.Goals as goal

pub mark_moved-requires : goal.mark_moved-requires
mark_moved-requires c = let r = c.requires.split_parting in record {
  stand = r.stand;
  count_value = moved_below r;
}

pub near_side-a-requires : goal.near_side-a-requires
near_side-a-requires c =
    let m = c in
    let g = m.requires in
    let r = g.split_parting in
    let f = m.mark_moved.ensures in
    record {
      cornered = r.start;
      cornered_2 = r.end;
      count_in_bounds = omega (arith, f.size, r.start.within.in_cycles);
      false_value = stays_put r f;
      e_le_ids_end = r.few;
      room_for = near_room r f (first_room g.room_for_both);
    }

pub slice_bounds-far_side-end : goal.slice_bounds-far_side-end
slice_bounds-far_side-end c =
    let o = c in
    let m = o in
    sym (turned_size m.mark_moved.ensures o.others.ensures)

pub far_side-b-requires : goal.far_side-b-requires
far_side-b-requires c =
    let n = c in
    let o = n in
    let m = o in
    let st = m in
    let a = st.args in
    let r = st.requires.split_parting in
    let f = m.mark_moved.ensures in
    let g = o.others.ensures in
    let k = cornered_room a.cycles.now a.steps.now a.t a.c a.p a.s1 r.start in
    let w = n.near_side-a.auto in
    let q = rest_room (built_as (near_kept r f) n.near_side-a.ensures) w.numbers w.places st.requires.room_for_both in record {
      within = r.start.within;
      m_bound = k;
      s1_bound = r.start.corner;
      s2_bound = r.end.corner;
      count_in_bounds = omega (arith, turned_size f g, r.start.within.in_cycles);
      e_le_ids_end = r.few;
      room_for = far_room r f g q;
    }

pub returns : goal.returns
returns c =
    let x = c in
    let n = x in
    let o = n in
    let m = o in
    let r = m.requires.split_parting in
    let f = m.mark_moved.ensures in
    let w = x.far_side-b.auto in
    let l = x.far_side-b.new in
    let b = built_as (near_kept r f) n.near_side-a.ensures in
    record {
      built = front_stays b l.numbers l.places w.numbers w.places;
      built_2 = back_stands b l.numbers l.places (built_as (far_kept r f o.others.ensures) x.far_side-b.ensures);
    }
