-- `near_side` meets its contract. Assumes nothing.
use borrow.Author.Rules.{rules}
use mathlib.Core.Path.{refl, ◌∙◌}
use Rattle.rows_split.proofs.Places.{cornered_room, between_asks}
use Rattle.kernel_arcs.proofs.Lists.{before_asks, after_room, about_built}
use Rattle.kernel_arcs.proofs.Sides.{near_asks, near_put}
use Rattle.kernel_arcs.proofs.near_side.Goals as goal

pub between-len-requires : goal.between-len-requires
between-len-requires c =
    let st = c in
    let a = st.args in
    let k = st.requires.cornered in
    let r = cornered_room a.cycles.now a.steps.now a.t a.c a.p a.s1 k in
    let whole = between_asks a.steps.now k.within.steps_size a.p r a.s1 a.s2 k.corner st.requires.cornered_2.corner in record {
      m_bound = whole.0;
      s_le_m = whole.1.0;
      t_le_m = whole.1.1;
    }

pub copy_cycles-a-requires : goal.copy_cycles-a-requires
copy_cycles-a-requires c =
    let st = c in
    let a = st.args in
    let g = st.requires in
    let k = g.cornered in
    let whole = before_asks k.within a.flags.now g.count_in_bounds a.c k.cycle g.false_value _ g.room_for refl refl in record {
      building = whole.0;
      k_in_bounds = whole.1.0;
      cycles_in_bounds = whole.1.1.0;
      k_in_bounds_2 = whole.1.1.1.0;
      cycles_in_bounds_2 = whole.1.1.1.1.0;
      cycles_in_bounds_3 = whole.1.1.1.1.1;
    }

pub and_arc-b-requires : goal.and_arc-b-requires
and_arc-b-requires c =
    let n = c in
    let y = n in
    let st = y in
    let a = st.args in
    let g = st.requires in
    let k = g.cornered in
    near_asks k g.cornered_2 a.e a.flags.now g.count_in_bounds g.false_value g.room_for y.between-len.ensures n.copy_cycles-a.ensures.built
    n.copy_cycles-a.auto.counts n.copy_cycles-a.auto.steps

pub behind-requires : goal.behind-requires
behind-requires c =
    let q = c in
    let n = q in
    let y = n in
    let st = y in
    let a = st.args in
    let g = st.requires in
    let k = g.cornered in
    let b = near_put k g.cornered_2 a.e a.flags.now g.count_in_bounds g.false_value g.room_for y.between-len.ensures
    n.copy_cycles-a.ensures.built q.and_arc-b.ensures in
    let r = after_room k.within a.flags.now g.count_in_bounds a.c k.cycle g.false_value _ g.room_for
    (q.and_arc-b.auto.numbers ∙ n.copy_cycles-a.auto.counts)
    (q.and_arc-b.auto.places ∙ n.copy_cycles-a.auto.steps) b in
    record {
      within = k.within;
      c_lt_count = k.cycle;
      p_value = k.place;
      count_in_bounds = g.count_in_bounds;
      building = b.building;
      t_in_bounds = r.0;
      t_in_bounds_2 = r.1;
    }

pub returns : goal.returns
returns c =
    let q = c in
    let n = q in
    let y = n in
    let st = y in
    let a = st.args in
    let g = st.requires in
    let k = g.cornered in
    about_built k.within a.flags.now g.count_in_bounds a.c k.cycle g.false_value _
    (near_put k g.cornered_2 a.e a.flags.now g.count_in_bounds g.false_value g.room_for y.between-len.ensures
    n.copy_cycles-a.ensures.built q.and_arc-b.ensures)
    c.behind.ensures
