-- 0E at a lone vertex in lent arrays: what is found, what is asked, and the answer. Assumes nothing.
use Prim.Native.Nat.{ℕ, ◌-◌, ◌<◌, ◌≤◌}
use native.Mathlib.Omega.{arith}
use mathlib.Core.Path.{◌≡◌, sym, ap, ◌∙◌}
use mathlib.Core.List.{List, []}
use lib.ListN.{length, take, get_or}
use Rattle.complex.specs.Lists.{total, one, without}
use Rattle.complex.specs.Cells.{face}
use Rattle.complex.specs.Edits.{neither, replaced, rebuild}
use Rattle.complex.specs.Decode.{uncut}
use Rattle.complex.specs.Uncut.{lonely, uncut_case, uncut_result}
use Rattle.store.specs.Index.{row_of}
use Rattle.store.specs.View.{sheet_of, cycles_from, width_sum}
use Rattle.store.specs.Edits.{places_of}
use Rattle.sound.proofs.Looking.{row_is}
use Rattle.rows_spans.specs.declared.Spans.{Spans}
use Rattle.rows_spans.specs.declared.Used.{Used}
use Rattle.rows_spans.specs.Runs.{spans_of}
use Rattle.rows_spans.specs.Building.{Built, built}
use Rattle.answer.specs.declared.Totals.{Totals}
use Rattle.rows_gone.proofs.Dropped.{live_below, row_among}
use Rattle.rows_corners.specs.Faces.{Within, Spanned, cycles_at}
use Rattle.rows_corners.proofs.Rows.{spanned}
use Rattle.rows_reface.specs.Needs.{Refaced}
use Rattle.law_uncut.proofs.Passing.{uncut_result_lem}
use Rattle.ask_uncut_lone.specs.declared.Held.{Held}
use Rattle.ask_uncut_lone.specs.Lone.{lone_place, holding}
use Rattle.ask_uncut_lone.proofs.Sheets.{Found}
use Rattle.ask_uncut_lone.proofs.Going.{live, seeking, here, row_below, a_face, it_stays, named, place_below, refaced, asked, roomed}
use Rattle.lent.specs.Arrays.{Arrays, held_by, rows_by}
use Rattle.lent.specs.declared.Line.{Line}
use Rattle.lent.specs.Replies.{Ready, Obeyed, Holds}
use Rattle.lent.proofs.Sums.{ready_sizes, ready_fits, ready_drawing, ready_indexes, ready_looks, ready_cells}
use Rattle.kernel_cycles.specs.Replacing.{RowCounted}
use Rattle.kernel_cycles.proofs.Ready.{ready_counted}
use Rattle.kernel_reface.proofs.Left.{less_line, left_fewer, left_obeyed}

-- ---- the vertex
module _ (a : Arrays) (t : Totals) (y : Ready a t) (v : ℕ) (e : uncut_case (sheet_of (held_by a)) v ≡ lonely) where
  sum_is : t.cycles ≡ total (places_of 0) (take a.count a.counts)
  sum_is = ap (λ (u : Totals). u.cycles) y.sums

  pub place_asks : (length a.cycles ≡ 512) × ((length a.steps ≡ 2048) × ((t.cycles ≤ 512) × (width_sum (take t.cycles a.cycles) ≤ 2048)))
  place_asks = seeking (held_by a) (ready_sizes a t y) (ready_drawing a t y) v e (rows_by a) (ready_indexes a t y) t.cycles sum_is

  -- the lone cycle, and the row that holds it
  module _ (j : ℕ) (ej : j ≡ lone_place v (cycles_from (take t.cycles a.cycles) a.steps))
      (h : Held) (eh : h ≡ holding (take a.count a.counts) j) where
    held : Found v 0 (sheet_of (held_by a)).cells h
    held = here (held_by a) (ready_sizes a t y) (ready_drawing a t y) v e (rows_by a) (ready_indexes a t y) t.cycles sum_is j ej h eh

    row_in : h.row < a.count
    row_in = row_below (held_by a) (ready_sizes a t y) (ready_drawing a t y) v e (rows_by a) (ready_indexes a t y) h held

    pub row_few : h.row < 256
    row_few = omega (arith, row_in, (ready_fits a t y).cells)

    pub counted : RowCounted a.counts a.cycles h.row t
    counted = ready_counted a t y h.row row_in

    -- the face, and where its cycles stand
    module _ (f : ℕ) (ef : f ≡ get_or a.ids h.row 0) (s : Spans) (es : s ≡ spans_of a.counts t.cells h.row a.cycles) where
      span : Spanned (held_by a) f s
      span =
          spanned (held_by a) (ready_sizes a t y) (rows_by a) f
          (named (held_by a) (ready_sizes a t y) (ready_drawing a t y) v e (rows_by a) (ready_indexes a t y) h held f ef) h.row s
          (row_is a.ids a.count h.row f (omega (arith, y.long.ids, (ready_fits a t y).cells)) (ready_looks a t y).rising row_in (sym ef))
          (es ∙ ap (λ (n : ℕ). spans_of a.counts n h.row a.cycles) (ready_cells a t y))

      pub list_asks : Within a.cycles a.steps s × (h.place < s.cycles.count)
      list_asks =
          (span.within, place_below (held_by a) (ready_sizes a t y) (ready_drawing a t y) v e (rows_by a) (ready_indexes a t y) h held f ef s span)

      -- the face's other cycles, and the vertex's row
      module _ (numbers : List ℕ) (u : Used) (places : List ℕ)
          (b : Built (without (one h.place) 0 (cycles_at a.cycles a.steps s)) numbers u places)
          (row : ℕ) (er : row ≡ row_of v (take a.count a.ids)) where
        same : uncut_result (sheet_of (held_by a)) v lonely ≡ rebuild (neither v v) (replaced f (face (built numbers u places))) [] (sheet_of (held_by a))
        same =
            refaced (held_by a) (ready_sizes a t y) (ready_drawing a t y) v e (rows_by a) (ready_indexes a t y) h held f ef s span
            (built numbers u places) b.list

        pub refaces : Refaced (held_by a) v row v row f numbers u places
        refaces =
            let d = held_by a in
            let z = ready_sizes a t y in
            let w = ready_drawing a t y in
            let x = ready_indexes a t y in
            let l = live d z w v e in
            let m = live_below d z w (rows_by a) x v row er l in
            let r = row_among d z w (rows_by a) x v row er l in
            record {
              pair = record { sound = w; first = r; first_in = m; second = r; second_in = m };
              building = b.building;
              stays = it_stays d z w v e (rows_by a) x h held f ef;
              room = roomed d z w v e (rows_by a) x f (built numbers u places) same;
              face = a_face d z w v e (rows_by a) x h held f ef;
            }

        module _ (o : Arrays) (g : Holds (rebuild (neither v v) (replaced f (face (built numbers u places))) [] (sheet_of (held_by a))) o)
            (en : o.next ≡ a.next) where
          pub fewer : o.count ≤ a.count
          fewer =
              left_fewer a t y (uncut v) (asked (held_by a) (ready_sizes a t y) (ready_drawing a t y) v e (rows_by a) (ready_indexes a t y))
              _ (sym (uncut_result_lem (sheet_of (held_by a)) v lonely e ∙ same)) o g en

          pub obeyed : (l : Line) → l ≡ less_line (a.count - o.count) → Obeyed a (uncut v) o l
          obeyed =
              left_obeyed a t y (uncut v) (asked (held_by a) (ready_sizes a t y) (ready_drawing a t y) v e (rows_by a) (ready_indexes a t y))
              _ (sym (uncut_result_lem (sheet_of (held_by a)) v lonely e ∙ same)) o g en
