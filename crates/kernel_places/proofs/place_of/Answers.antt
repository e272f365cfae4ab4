-- `place_of` meets its contract. Assumes nothing.
use borrow.Author.Rules.{rules}
use Prim.Native.Nat.{◌+◌, ◌<◌}
use native.Mathlib.Omega.{arith}
use Rattle.kernel_places.proofs.Standing.{find_by, counted_by, index_by, place_by, stands}
use Rattle.kernel_places.proofs.place_of.Goals as goal

-- the number of its steps stands in the array
within : (c : goal.After-way_told-1) → c.spans_at-s.result.cycles.first + c.args.c < 512
within c =
    let x = c in
    let st = x in
    let a = st.args in
    index_by a.count a.ids.now a.counts.now a.cycles.now a.t a.f a.c x.find-row.result x.find-row.ensures
    c.spans_at-s.result c.spans_at-s.ensures st.requires

within_2 : (c : goal.After-struct_known-1) → c.spans_at-s.result.cycles.first + c.args.c < 512
within_2 c =
    let x = c in
    let st = x in
    let a = st.args in
    index_by a.count a.ids.now a.counts.now a.cycles.now a.t a.f a.c x.find-row.result x.find-row.ensures
    c.spans_at-s.result c.spans_at-s.ensures st.requires

pub find-row-requires : goal.find-row-requires
find-row-requires c =
    let a = c.args in
    let whole = find_by a.count a.ids.now a.counts.now a.cycles.now a.t a.f a.c c.requires in record {
      n_bound = whole.0;
      ids_len = whole.1.0;
      rising = whole.1.1;
    }

pub spans_at-s-requires : goal.spans_at-s-requires
spans_at-s-requires c =
    let st = c in
    let a = st.args in
    counted_by a.count a.ids.now a.counts.now a.cycles.now a.t a.f a.c c.find-row.result c.find-row.ensures st.requires

pub cycle_place-at-requires : goal.cycle_place-at-requires
cycle_place-at-requires c =
    let x = c in
    let st = x in
    let a = st.args in
    let whole = place_by a.count a.ids.now a.counts.now a.cycles.now a.t a.f a.c x.find-row.result x.find-row.ensures
    c.spans_at-s.result c.spans_at-s.ensures st.requires in record {
      cycles_len = whole.0;
      c_bound = whole.1.0;
      cycles_bound = whole.1.1;
    }

pub overflow_add-i : goal.overflow_add-i
overflow_add-i c = omega (arith, within_2 c)

pub offset_bounds-cycles-i : goal.offset_bounds-cycles-i
offset_bounds-cycles-i c = record { fits = omega (arith, within_2 c) }

pub bounds-cycles-i : goal.bounds-cycles-i
bounds-cycles-i c = omega (arith, within c)

pub returns : goal.returns
returns c =
    let p = c in
    let s = p in
    let x = s in
    let st = x in
    let a = st.args in
    stands a.count a.ids.now a.counts.now a.cycles.now a.t a.f a.c x.find-row.result x.find-row.ensures
    s.spans_at-s.result s.spans_at-s.ensures p.cycle_place-at.result c.wide-m.result p.cycle_place-at.ensures c.wide-m.ensures
