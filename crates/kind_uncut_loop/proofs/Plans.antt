-- What is found before a loop's vertex goes. Assumes nothing.
use Prim.Native.Nat.{ℕ, ◌+◌, ◌<◌, ◌≤◌}
use native.Mathlib.Omega.{arith}
use mathlib.Core.Path.{◌≡◌, refl, sym, ap, ◌∙◌, subst}
use mathlib.Core.Bool.{Bool, true, false, ◌&&◌, cond}
use mathlib.Core.Option.{Option, none, some}
use lib.Dec.{T, leb, leb→le}
use lib.ListN.{length, get_or, take}
use Rattle.coordinate.specs.declared.Position.{Position}
use Rattle.complex.specs.Lists.{total}
use Rattle.complex.specs.Cells.{Figure, vertex, open_edge, closed_edge, face, cell_at, is_live, is_open, is_vertex, bends_of, cycles_of}
use Rattle.complex.specs.Sound.{ids_end, cells_most, cycles_most, steps_most, bends_most}
use Rattle.complex.specs.Decode.{uncut}
use Rattle.complex.specs.Uncut.{loop, uncut_case}
use Rattle.complex.specs.Commands.{result}
use Rattle.complex.specs.Answer.{no, asked3}
use Rattle.complex.proofs.Bools.{both}
use Rattle.complex.proofs.Asked.{answered_no}
use Rattle.store.specs.Index.{row_of}
use Rattle.store.specs.View.{sheet_of}
use Rattle.store.specs.Edits.{places_of}
use Rattle.answer.specs.declared.Totals.{Totals}
use Rattle.answer.specs.Sizes.{SheetSizes, sized, more_less, changed_by, sizes_fit}
use Rattle.answer.specs.Late.{sizes_by, late_no}
use Rattle.answer.proofs.Asked.{Asked, answer}
use Rattle.rows_gone.proofs.Dropped.{live_below}
use Rattle.ask_cut_edge.proofs.Found.{row_below, read_row}
use Rattle.ask_uncut_vertex.proofs.Told.{AtLoop}
use Rattle.ask_uncut_vertex.proofs.Answering.{loop_asked, loop_live, looped_needs}
use Rattle.lent.specs.Arrays.{Arrays, position_in, held_by, rows_by}
use Rattle.lent.specs.Replies.{Ready}
use Rattle.lent.proofs.Sums.{ready_drawing, ready_sizes, ready_indexes, ready_totals, ready_looks}
use Rattle.kernel_drop.specs.Gone.{EdgeRow, BareRow}
use Rattle.kind_cut_plan.proofs.OpenPlans.{end_place}
use Rattle.kind_uncut_loop.specs.Uncutting.{LoopGoes}

-- the row of a cell that is there
pub live_row : (a : Arrays) (t : Totals) → Ready a t → (i row : ℕ) → row ≡ row_of i (take a.count a.ids)
    → is_live (cell_at (sheet_of (held_by a)) i) ≡ true → row < 256
live_row a t r i row e h = row_below (held_by a) (ready_sizes a t r) (ready_drawing a t r) (rows_by a) (ready_indexes a t r) i row e h

-- questions 7 and 8 got a yes: the bends keep their ceiling
late_bends : (next new : ℕ) (z : SheetSizes) → late_no next new z ≡ 0 → z.bends ≤ 2048
late_bends next new z = go (leb (next + new) ids_end) (sizes_fit z) refl
  where
    go : (i k : Bool) → sizes_fit z ≡ k → ◌≡◌ {A = ℕ} (cond i (cond k 0 8) 7) 0 → z.bends ≤ 2048
    go true true q e =
        let p = both (leb z.cells cells_most) (leb z.cycles cycles_most && (leb z.steps steps_most && leb z.bends bends_most)) (subst T (sym q) tt) in
        let y = both (leb z.cycles cycles_most) (leb z.steps steps_most && leb z.bends bends_most) p.1 in
        let v = both (leb z.steps steps_most) (leb z.bends bends_most) y.1 in
        leb→le z.bends bends_most v.1
    go true false q e = absurd (omega (arith, e))
    go false k q e = absurd (omega (arith, e))

open_bare : (o : Option Figure) → T (is_open o) → length (cycles_of o) ≡ 0
open_bare none t = absurd t
open_bare (some (vertex p)) t = absurd t
open_bare (some (open_edge a b bs)) t = refl
open_bare (some (closed_edge bs)) t = absurd t
open_bare (some (face ks)) t = absurd t

module _ (a : Arrays) (t : Totals) (y : Ready a t) (v e : ℕ) (h : uncut_case (sheet_of (held_by a)) v ≡ loop e) where
  pub told : AtLoop (sheet_of (held_by a)) v e
  told = loop_live (held_by a) (ready_sizes a t y) (ready_drawing a t y) v e h

  module _ (r : ℕ) (er : r ≡ late_no a.next 1 (changed_by (sizes_by t) (more_less (sized 0 0 0 1) (sized 1 0 0 0)))) where
    says : Asked (held_by a) (uncut v) r
    says = loop_asked (held_by a) (ready_sizes a t y) (ready_drawing a t y) v e h (rows_by a) (ready_indexes a t y) t (ready_totals a t y) r er

    pub refuses : (r ≡ 0 → ⊥) → asked3 (sheet_of (held_by a)) (uncut v) ≡ no r (sheet_of (held_by a))
    refuses nz =
        answer (held_by a) (ready_sizes a t y) (ready_drawing a t y) (uncut v) r says
        ∙ answered_no (sheet_of (held_by a)) (result (sheet_of (held_by a)) (uncut v)) r nz

    module _ (r0 : r ≡ 0) (rv re : ℕ) (ev : rv ≡ row_of v (take a.count a.ids)) (ee : re ≡ row_of e (take a.count a.ids))
        (p : Position) (ep : p ≡ position_in a.px a.py rv) (base : ℕ) (eb : base ≡ total (places_of 0) (take re a.bends)) (m : ℕ)
        (em : m ≡ get_or a.bends re 0) where
      vertex_is : T (is_vertex (cell_at (sheet_of (held_by a)) v))
      vertex_is = subst (λ (o : Option Figure). T (is_vertex o)) (sym told.at) tt

      bare : BareRow a rv
      bare =
          let d = held_by a in
          let z = ready_sizes a t y in
          let s = ready_drawing a t y in
          let x = ready_indexes a t y in
          let k = ready_looks a t y in
          record {
            below = live_below d z s (rows_by a) x v rv ev told.vertex_live_lem;
            bends = read_row d z s (rows_by a) x v rv ev told.vertex_live_lem a.bends ∙ k.bends v ∙ ap (λ (o : Option Figure). length (bends_of o)) told.at;
            cycles =
                read_row d z s (rows_by a) x v rv ev told.vertex_live_lem a.counts ∙ k.cycles v ∙ ap (λ (o : Option Figure). length (cycles_of o)) told.at;
          }

      edge : EdgeRow a re base m t.bends
      edge =
          let d = held_by a in
          let z = ready_sizes a t y in
          let s = ready_drawing a t y in
          let x = ready_indexes a t y in
          record {
            below = live_below d z s (rows_by a) x e re ee told.edge_live;
            from = eb;
            own = em;
            none =
                read_row d z s (rows_by a) x e re ee told.edge_live a.counts ∙ (ready_looks a t y).cycles e
                ∙ open_bare (cell_at (sheet_of d) e) told.edge_open;
            all = ap (λ (u : Totals). u.bends) y.sums;
          }

      pub goes_by : LoopGoes a t v e (record { vertex = rv; row = re; base = base; m = m; p = p })
      goes_by =
          record {
            looped =
                looped_needs (held_by a) (ready_sizes a t y) (ready_drawing a t y) v e h r says r0 (rows_by a) (ready_indexes a t y) rv re ev ee p
                (ep ∙ end_place a y.long y.sound v rv ev vertex_is) base m eb em;
            bare = bare;
            edge = edge;
            room = omega (arith, late_bends a.next 1 (changed_by (sizes_by t) (more_less (sized 0 0 0 1) (sized 1 0 0 0))) (sym er ∙ r0));
            asked = subst (Asked (held_by a) (uncut v)) r0 says;
          }
