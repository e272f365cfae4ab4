-- `bridge_list` meets its contract. Assumes nothing.
use borrow.Author.Rules.{rules}
use mathlib.Core.Path.{refl, ◌∙◌}
use native.Mathlib.Omega.{arith}
use Rattle.rows_corners.proofs.Lists.{built_as}
use Rattle.rows_split.proofs.Bridges.{flagged, both, both_steps, second_below, flags_size, first_stays, bridge_kept, bridge_room, joining}
use Rattle.kernel_arcs.proofs.Lists.{enough, before_asks, new_room, new_built, after_room, about_built}
use Rattle.kernel_arcs.proofs.bridge_list.Goals as goal

pub bounds-flags-i : goal.bounds-flags-i
bounds-flags-i c = let h = second_below c.requires.bridging in omega arith

pub copy_cycles-a-requires : goal.copy_cycles-a-requires
copy_cycles-a-requires c =
    let st = c in
    let a = st.args in
    let r = st.requires.bridging in
    let f = bridge_room r st.requires.room_for in
    let l = enough r.start.within (flagged a.c2) (flags_size r) in
    let k = r.start in
    let whole = before_asks k.within (flagged a.c2) l a.c1 k.cycle (first_stays r) (both r) f refl refl in record {
      building = whole.0;
      k_in_bounds = whole.1.0;
      cycles_in_bounds = whole.1.1.0;
      k_in_bounds_2 = whole.1.1.1.0;
      cycles_in_bounds_2 = whole.1.1.1.1.0;
      cycles_in_bounds_3 = whole.1.1.1.1.1;
    }

pub and_joined-b-requires : goal.and_joined-b-requires
and_joined-b-requires c =
    let n = c in
    let st = n in
    let a = st.args in
    let r = st.requires.bridging in
    let f = bridge_room r st.requires.room_for in
    let l = enough r.start.within (flagged a.c2) (flags_size r) in
    let k = r.start in
    let b = n.copy_cycles-a.ensures.built in
    let m = new_room k.within (flagged a.c2) l a.c1 k.cycle (first_stays r) (both r) f n.copy_cycles-a.auto.counts
    n.copy_cycles-a.auto.steps b in
    let m1 = m.1 in
    let s = both_steps r in
    record {
      joining = joining r;
      building = b.building;
      cycles_in_bounds = m.0;
      m_in_bounds = omega arith;
    }

pub behind-requires : goal.behind-requires
behind-requires c =
    let q = c in
    let n = q in
    let st = n in
    let a = st.args in
    let r = st.requires.bridging in
    let f = bridge_room r st.requires.room_for in
    let l = enough r.start.within (flagged a.c2) (flags_size r) in
    let k = r.start in
    let b = new_built k.within (flagged a.c2) l a.c1 k.cycle (first_stays r) (both r) n.copy_cycles-a.ensures.built q.and_joined-b.ensures in
    let m = after_room k.within (flagged a.c2) l a.c1 k.cycle (first_stays r) (both r) f
    (q.and_joined-b.auto.numbers ∙ n.copy_cycles-a.auto.counts)
    (q.and_joined-b.auto.places ∙ n.copy_cycles-a.auto.steps) b in
    record {
      within = k.within;
      c_lt_count = k.cycle;
      p_value = k.place;
      count_in_bounds = l;
      building = b.building;
      t_in_bounds = m.0;
      t_in_bounds_2 = m.1;
    }

pub returns : goal.returns
returns c =
    let q = c in
    let n = q in
    let st = n in
    let a = st.args in
    let r = st.requires.bridging in
    let l = enough r.start.within (flagged a.c2) (flags_size r) in
    let k = r.start in
    let b = new_built k.within (flagged a.c2) l a.c1 k.cycle (first_stays r) (both r) n.copy_cycles-a.ensures.built q.and_joined-b.ensures in
    built_as (bridge_kept r)
    (about_built k.within (flagged a.c2) l a.c1 k.cycle (first_stays r) (both r) b c.behind.ensures)
