-- `all_but` meets its contract: the cycles of a span are copied, but for the flagged one. Assumes nothing.
use native.Mathlib.Omega.{arith}
use mathlib.Core.Bool.{true, false}
use lib.ListN.{set, replicate, length-set, length-replicate}
use Rattle.rows_corners.proofs.Lists.{copy_asks}
use Rattle.ask_uncut_lone.proofs.Listing.{but_built}
use Rattle.rows_spans.proofs.Building.{built_none}
use Rattle.kind_uncut_lone.proofs.all_but.Goals as goal

pub copy_cycles-requires : goal.copy_cycles-requires
copy_cycles-requires c =
    let st = c in
    let a = st.args in
    let p = st.requires in
    let w = p.within in
    let b = (built_none a.numbers.now a.places.now (omega (arith, p.numbers_len)) (omega (arith, p.places_len))).building in
    let whole = copy_asks a.cycles.now a.steps.now a.s w (set (replicate 512 false) a.c true)
    (omega (arith, w.in_cycles, length-set (replicate 512 false) a.c true, length-replicate 512 false))
    a.numbers.now (record { cycles = 0; steps = 0 }) a.places.now b (omega (arith, w.in_cycles, p.numbers_len)) (omega (arith, w.in_steps, p.places_len)) in record {
      building = whole.0;
      k_in_bounds = whole.1.0;
      cycles_in_bounds = whole.1.1.0;
      k_in_bounds_2 = whole.1.1.1.0;
      cycles_in_bounds_2 = whole.1.1.1.1.0;
      cycles_in_bounds_3 = whole.1.1.1.1.1;
    }

pub returns : goal.returns
returns c =
    let q = c in
    let st = q in
    let a = st.args in
    let p = st.requires in
    but_built a.cycles.now a.steps.now a.s p.within a.c p.c_lt_count
    (built_none a.numbers.now a.places.now (omega (arith, p.numbers_len)) (omega (arith, p.places_len))) q.copy_cycles.ensures.built
