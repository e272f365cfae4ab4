-- What is found before a closed edge is cut. Assumes nothing.
use Prim.Native.Nat.{ℕ, ◌+◌, ◌/◌, ◌<◌}
use native.Mathlib.Omega.{arith}
use mathlib.Core.Path.{◌≡◌, sym, ap, ◌∙◌}
use mathlib.Core.Bool.{true, false}
use mathlib.Core.Option.{Option}
use lib.ListN.{length, get_or, take}
use Rattle.std.specs.Prelude.{Ok}
use Rattle.coordinate.specs.declared.Position.{Position}
use Rattle.complex.specs.Lists.{total}
use Rattle.complex.specs.Cells.{Figure, cell_at, is_closed, cycles_of as cyclesHeld, origin}
use Rattle.complex.specs.Decode.{cut_edge}
use Rattle.store.specs.Index.{row_of}
use Rattle.store.specs.View.{sheet_of}
use Rattle.store.specs.Edits.{places_of}
use Rattle.answer.specs.declared.Totals.{Totals}
use Rattle.answer.proofs.Asked.{Asked}
use Rattle.ask_cut_edge.specs.Cuts.{EdgeCuts, closed_between, next_bend}
use Rattle.ask_cut_edge.proofs.Found.{read_row}
use Rattle.ask_cut_edge.proofs.Closed.{closed_figure, next_most}
use Rattle.ask_cut_edge.proofs.ClosedAnswer.{closed_live}
use Rattle.lent.specs.Arrays.{Arrays, position_in, held_by, rows_by}
use Rattle.lent.specs.Replies.{Ready}
use Rattle.lent.proofs.Held.{positions_at_lem}
use Rattle.lent.proofs.Sums.{ready_drawing, ready_sizes, ready_indexes, ready_looks, ready_cycles, ready_steps}
use Rattle.kind_cut_plan.specs.Plans.{Planned}

module _ (a : Arrays) (t : Totals) (y : Ready a t) (e q : ℕ) (cl : is_closed (cell_at (sheet_of (held_by a)) e) ≡ true)
    (row : ℕ) (er : row ≡ row_of e (take a.count a.ids)) (m : ℕ) (em : m ≡ get_or a.bends row 0) (h : q / 2 < m)
    (pass : Asked (held_by a) (cut_edge e q) 0) (base : ℕ) (eb : base ≡ total (places_of 0) (take row a.bends))
    (cuts : EdgeCuts (held_by a) e row base m q) where
  none_own : get_or a.counts row 0 ≡ 0
  none_own =
      let d = held_by a in
      let z = ready_sizes a t y in
      let s = ready_drawing a t y in
      read_row d z s (rows_by a) (ready_indexes a t y) e row er (closed_live d z s e q cl) a.counts
      ∙ (ready_looks a t y).cycles e ∙ ap (λ (o : Option Figure). length (cyclesHeld o)) (closed_figure (cell_at (sheet_of d) e) cl)

  pub planned : (u f uses : ℕ) → uses ≡ 0
      → (p : Position) → p ≡ closed_between (position_in a.bx a.by (base + q / 2)) (position_in a.bx a.by (next_bend base m (q / 2))) q
      → Planned a e q (Ok (record {
        two = false;
        row = row;
        base = base;
        m = m;
        s = u;
        f = f;
        cycles = t.cycles;
        steps = t.steps;
        bends = t.bends;
        uses = uses;
        p = p;
      }))
  planned u f uses eu p ep =
      let i0 = next_most base m (q / 2) cuts.range h in
      let i1 : base + q / 2 < 2048 = omega (arith, cuts.range, h) in
      let g1 = positions_at_lem a.bx a.by (base + q / 2) origin (omega (arith, i1, y.long.bx)) (omega (arith, i1, y.long.by)) in
      let g2 = positions_at_lem a.bx a.by (next_bend base m (q / 2)) origin (omega (arith, i0, y.long.bx)) (omega (arith, i0, y.long.by)) in
      record {
        closed = cl;
        cuts = cuts;
        placed = ep ∙ (λ j. closed_between (sym g1 j) (sym g2 j) q);
        row = record { below = cuts.below; from = eb; own = em; none = none_own; all = ap (λ (j : Totals). j.bends) y.sums };
        cycles = ready_cycles a t y;
        steps = ready_steps a t y;
        uses = eu;
        asked = pass;
      }
