-- `lonely` meets its contract: the lone cycle is found, and its face gets the others as the vertex goes. Assumes nothing.
use native.Mathlib.Omega.{arith}
use Prim.Native.Nat.{ℕ}
use mathlib.Core.Path.{refl, ap}
use lib.ListN.{length-replicate}
use Rattle.lent.specs.Arrays.{Arrays}
use Rattle.lent.proofs.Sums.{ready_fits, ready_rows}
use Rattle.lent.proofs.Finds.{ready_finds}
use Rattle.kind_uncut_lone.proofs.Going.{place_asks, row_few, counted, list_asks, refaces, fewer, obeyed}
use Rattle.kind_uncut_lone.proofs.lonely.Goals as goal

pub lone_place-j-requires : goal.lone_place-j-requires
lone_place-j-requires c = let whole = place_asks _ _ c.requires.ready c.args.v c.requires.is in record {
  cycles_len = whole.0;
  steps_len = whole.1.0;
  m_bound = whole.1.1.0;
  cycles_bound = whole.1.1.1;
}

pub row_holding-h-requires : goal.row_holding-h-requires
row_holding-h-requires c =
    record {
      counts_len = c.requires.ready.long.counts;
      n_bound = (ready_fits _ _ c.requires.ready).cells;
    }

pub offset_bounds-sheet-row : goal.offset_bounds-sheet-row
offset_bounds-sheet-row c =
    let h = row_few _ _ c.requires.ready c.args.v c.requires.is c.lone_place-j.result c.lone_place-j.ensures
    c.row_holding-h.result c.row_holding-h.ensures in
    omega (arith, h)

pub bounds-sheet-row : goal.bounds-sheet-row
bounds-sheet-row c =
    row_few _ _ c.requires.ready c.args.v c.requires.is c.lone_place-j.result c.lone_place-j.ensures
    c.row_holding-h.result c.row_holding-h.ensures

pub spans_at-s-requires : goal.spans_at-s-requires
spans_at-s-requires c =
    counted _ _ c.requires.ready c.args.v c.requires.is c.lone_place-j.result c.lone_place-j.ensures
    c.row_holding-h.result c.row_holding-h.ensures

pub all_but-u-requires : goal.all_but-u-requires
all_but-u-requires c =
    let g =
    list_asks _ _ c.requires.ready c.args.v c.requires.is c.lone_place-j.result c.lone_place-j.ensures
    c.row_holding-h.result c.row_holding-h.ensures
    _ refl c.spans_at-s.result c.spans_at-s.ensures in
    record {
      within = g.0;
      c_lt_count = g.1;
      numbers_len = length-replicate {A = ℕ} 512 0;
      places_len = length-replicate {A = ℕ} 2048 0;
    }

pub find-a-requires : goal.find-a-requires
find-a-requires c =
    let whole = ready_finds _ _ c.requires.ready in record {
      n_bound = whole.0;
      ids_len = whole.1.0;
      rising = whole.1.1;
    }

pub reface-requires : goal.reface-requires
reface-requires c =
    record {
      refaced = refaces _ _ c.requires.ready c.args.v c.requires.is c.lone_place-j.result c.lone_place-j.ensures
          c.row_holding-h.result c.row_holding-h.ensures
          _ refl c.spans_at-s.result c.spans_at-s.ensures _ c.all_but-u.result _ c.all_but-u.ensures
          c.find-a.result c.find-a.ensures;
      lengths = c.requires.ready.long;
      by_value = ready_rows _ _ c.requires.ready;
    }

pub overflow_sub-removed : goal.overflow_sub-removed
overflow_sub-removed c =
    let h = fewer _ _ c.requires.ready c.args.v c.requires.is c.lone_place-j.result c.lone_place-j.ensures
    c.row_holding-h.result c.row_holding-h.ensures
    _ refl c.spans_at-s.result c.spans_at-s.ensures _ c.all_but-u.result _ c.all_but-u.ensures
    c.find-a.result c.find-a.ensures _ c.reface.ensures.holds (ap (λ (a : Arrays). a.next) c.reface.ensures.kept) in
    omega (arith, h)

pub overflow_cast-removed : goal.overflow_cast-removed
overflow_cast-removed c = omega (arith, (ready_fits _ _ c.requires.ready).cells)

pub returns-clause-obeyed : goal.returns-clause-obeyed
returns-clause-obeyed c =
    obeyed _ _ c.requires.ready c.args.v c.requires.is c.lone_place-j.result c.lone_place-j.ensures
    c.row_holding-h.result c.row_holding-h.ensures
    _ refl c.spans_at-s.result c.spans_at-s.ensures _ c.all_but-u.result _ c.all_but-u.ensures
    c.find-a.result c.find-a.ensures _ c.reface.ensures.holds (ap (λ (a : Arrays). a.next) c.reface.ensures.kept) _ refl
