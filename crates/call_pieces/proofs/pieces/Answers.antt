-- `pieces` meets its contract. Assumes nothing.
use Prim.Native.Nat.{ℕ, ◌+◌, ◌<◌, ◌≤◌}
use mathlib.Core.Path.{◌≡◌, refl}
use mathlib.Core.List.{List}
use native.Mathlib.Omega.{arith}
use lib.Dec.{T}
use lib.ListN.{get_or}
use Rattle.complex.specs.Sound.{cells_most, cycles_most}
use Rattle.lent.specs.Arrays.{Arrays, held_by, rows_by, totals_of, sound_arrays, Lengths}
use Rattle.lent.specs.Replies.{Ready}
use Rattle.lent.specs.Sheets.{seen}
use Rattle.lent.proofs.Sums.{ready_drawing, ready_sizes, ready_fits, ready_indexes}
use Rattle.call_pieces.proofs.Rows.{finds, edge_alone, row_named, row_cycles, row_steps}
use Rattle.call_pieces.proofs.Rows.{Counting, counting_none, counting_some, counting_turn, counting_all}
use Rattle.call_pieces.proofs.pieces.Goals as goal

module _ (a : Arrays) (sound : T (sound_arrays a)) (long : Lengths a) where
  -- ready, with the lengths that are known
  ready : Ready a (totals_of a)
  ready = record { sound = sound; long = long; sums = refl }

  few : a.count ≤ cells_most
  few = (ready_fits a (totals_of a) ready).cells

  -- the cycles of a row, which end within the array
  cycles_in : (i : ℕ) (up : List ℕ) (left first from k : ℕ) → i < a.count → Counting (held_by a) (rows_by a) i up left first from
      → k ≡ get_or a.counts i 0 → first + k ≤ cycles_most
  cycles_in i up left first from k h C e =
      let t = totals_of a in
      row_cycles (held_by a) (ready_sizes a t ready) (ready_drawing a t ready) (ready_fits a t ready) (rows_by a) (ready_indexes a t ready)
      i h first from k C.first_is C.from_is e

pub fill-requires : goal.fill-requires
fill-requires c = few (seen c.args.view.now) c.requires c.known.ensures

pub part-requires-clause-n_le_cells_most : goal.part-requires-clause-n_le_cells_most
part-requires-clause-n_le_cells_most c = few (seen c.args.view.now) c.requires c.known.ensures

pub overflow_cast-left : goal.overflow_cast-left
overflow_cast-left c = omega (arith, few (seen c.args.view.now) c.requires c.known.ensures)

pub loop-i-init : goal.loop-i-init
loop-i-init c =
    let a = seen c.args.view.now in
    let t = totals_of a in
    let r = ready a c.requires c.known.ensures in
    record {
      i_le_count = omega arith;
      few = few a c.requires c.known.ensures;
      counting = counting_none (held_by a) (ready_sizes a t r) (ready_drawing a t r) (ready_fits a t r) (rows_by a) (ready_indexes a t r) _
          c.part.ensures _ refl;
    }

pub tie_row-t-requires : goal.tie_row-t-requires
tie_row-t-requires c =
    let a = seen c.args.view.now in
    let t = totals_of a in
    let r = ready a c.requires c.known.ensures in
    let z = ready_sizes a t r in
    let w = ready_drawing a t r in
    let f = ready_fits a t r in
    let x = ready_indexes a t r in
    let C = c.loop-i.invariant.counting in
    let e = c.wide-k.ensures in record {
      finds = finds (held_by a) z w f (rows_by a) x _ c.fill.ensures;
      row_lt_n = (omega arith, λ m. edge_alone (held_by a) z w f (rows_by a) x c.loop-i.i (omega arith) m _ e);
      cycles_len = (c.known.ensures.cycles, c.known.ensures.steps);
      k_bound = (
        cycles_in a c.requires c.known.ensures c.loop-i.i _ _ _ _ _ (omega arith) C e,
        row_steps (held_by a) z w f (rows_by a) x c.loop-i.i (omega arith) _ _ _ C.first_is C.from_is e,
      );
      every = row_named (held_by a) z w f (rows_by a) x c.loop-i.i (omega arith) _ _ _ C.first_is C.from_is e;
      some = counting_some (held_by a) z w f (rows_by a) x c.loop-i.i _ _ _ _ C;
    }

pub overflow_add-first : goal.overflow_add-first
overflow_add-first c =
    let k =
    cycles_in (seen c.args.view.now) c.requires c.known.ensures c.loop-i.i _ _ _ _ _ (omega arith) c.loop-i.invariant.counting c.wide-k.ensures in
    record { fits = omega arith }

pub loop-i-preserved : goal.loop-i-preserved
loop-i-preserved c =
    let a = seen c.args.view.now in
    let t = totals_of a in
    let r = ready a c.requires c.known.ensures in
    record {
      i_le_count = omega arith;
      few = few a c.requires c.known.ensures;
      counting = counting_turn (held_by a) (ready_sizes a t r) (ready_drawing a t r) (ready_fits a t r) (rows_by a) (ready_indexes a t r) c.loop-i.i (omega arith)
          c.loop-i.up c.loop-i.left c.loop-i.first c.loop-i.from c.loop-i.invariant.counting _ c.wide-k.ensures
          _ _ c.tie_row-t.ensures.grown _ c.tie_row-t.ensures.next_value;
    }

pub returns : goal.returns
returns c =
    let a = seen c.args.view.now in
    let t = totals_of a in
    let r = ready a c.requires c.known.ensures in
    let e : c.loop-i.i ≡ a.count = omega arith in
    counting_all (held_by a) (ready_sizes a t r) (ready_drawing a t r) (ready_fits a t r) (rows_by a) (ready_indexes a t r) _ _ _ _
    (rw e at c.loop-i.invariant.counting)
