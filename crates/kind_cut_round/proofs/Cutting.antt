-- 0D: a face of lent arrays cut along a closed edge. Assumes nothing.
use Prim.Native.Nat.{ℕ, ◌+◌, ◌-◌, ◌<◌, ◌≤◌}
use mathlib.Core.Path.{◌≡◌, refl, sym, ap, subst, ◌∙◌}
use mathlib.Core.List.{List, [], ◌∷◌}
use native.Mathlib.Omega.{arith}
use lib.Ieee.{Float}
use lib.ListN.{take}
use Rattle.bends.specs.Bends.{positions_at}
use Rattle.bends.proofs.Laws.{positions_length}
use Rattle.complex.specs.Cells.{Cycle, Figure, closed_edge, face, cell_at}
use Rattle.complex.specs.Cells as cells
use Rattle.complex.specs.Cut.{face_cut_round}
use Rattle.complex.specs.Lists.{total}
use Rattle.store.specs.Index.{row_of}
use Rattle.store.specs.View.{sheet_of, bend_total, cycle_total, step_total, width_sum}
use Rattle.store.specs.Edits.{places_of, appended}
use Rattle.rows_spans.specs.declared.Span.{Span}
use Rattle.rows_spans.specs.declared.Spans.{Spans}
use Rattle.rows_spans.specs.declared.Used.{Used}
use Rattle.rows_spans.specs.Runs.{row_span, span_of, spans_of}
use Rattle.rows_spans.specs.Building.{built}
use Rattle.rows_spans.proofs.Splicing.{span_sum}
use Rattle.rows_new.specs.Appends.{CellRoom}
use Rattle.answer.specs.declared.Totals.{Totals}
use Rattle.decode_parts.specs.Lists.{numbers_read}
use Rattle.rows_corners.specs.Faces.{Spanned, cycles_at, recycled}
use Rattle.rows_corners.proofs.Edits.{first_room, second_room, both_done}
use Rattle.law_cut_face.specs.Rounds.{stayed, left, RoundCut}
use Rattle.law_cut_face.proofs.Rounds.{round_asks, old_list_lem, new_list_lem}
use Rattle.lent.specs.Arrays.{Arrays, held_by, rows_by, Lengths}
use Rattle.lent.specs.Growing.{with_closed, with_face}
use Rattle.lent.specs.Replies.{Ready, Holds}
use Rattle.lent.proofs.Grown.{closed_long, closed_normal, closed_cycles}
use Rattle.lent.proofs.Held.{held_sizes}
use Rattle.lent.proofs.Sums.{bends_held, cycles_held, steps_held, ready_sizes, ready_cycles, ready_steps}
use Rattle.kernel_add.specs.Comes.{BendsPut}
use Rattle.kernel_add.proofs.Put.{with_placed, placed_long, closed_grew}
use Rattle.kernel_cycles.specs.Replacing.{RowCounted, ReplacesIn, ReplacedIn}
use Rattle.kernel_cycles.proofs.Held as held
use Rattle.kernel_part.specs.Rounds.{PartRoom}
use Rattle.kernel_part.proofs.Coming.{part_holds}
use Rattle.kind_cut_face.specs.Cuts.{FaceCuts}
use Rattle.kind_cut_face.proofs.Cuts.{counted, span, replaces, replaced_sheet}
use Rattle.kernel_round.specs.Parting.{RoundParting, RoundParted}

-- the places of a row's cycles and steps, among all
spans_all : (counts cycles : List ℕ) (row : ℕ) (t : Totals) → RowCounted counts cycles row t → (s : Spans) → s ≡ spans_of counts t.cells row cycles
    → (s.cycles.first + s.cycles.count + s.cycles.rest ≡ t.cycles) × (s.steps.first + s.steps.count + s.steps.rest ≡ t.steps)
spans_all counts cycles row t w s e =
    let c = span_of 0 counts (row_span t.cells row) in
    let n : row + 1 + (t.cells - (row + 1)) ≡ t.cells = omega (arith, w.live) in
    let x : c.first + c.count + c.rest ≡ t.cycles = span_sum 0 counts (row_span t.cells row)
    ∙ ap (λ (k : ℕ). total (places_of 0) (take k counts)) n ∙ sym w.cycle_sum in
    let y : (span_of 1 cycles c).first + (span_of 1 cycles c).count + (span_of 1 cycles c).rest ≡ t.steps = span_sum 1 cycles c
    ∙ ap (λ (k : ℕ). total (places_of 1) (take k cycles)) x ∙ sym w.step_sum in
    let all : Span → ℕ = λ (q : Span). q.first + q.count + q.rest in
    (ap (λ (q : Spans). all q.cycles) e ∙ x, ap (λ (q : Spans). all q.steps) e ∙ y)

module _ (a : Arrays) (t : Totals) (y : Ready a t) (script : List ℕ) (f k first moved place : ℕ)
    (r : RoundCut (held_by a) (rows_by a) script f k first moved place) where
  -- the cycles that are kept, and then the edge; the edge backward, and then those that go
  abbrev kept_list : List Cycle
  kept_list = stayed (numbers_read script place moved) (cells.cycles_of (cell_at (sheet_of (held_by a)) f)) (sheet_of (held_by a)).next

  abbrev gone_list : List Cycle
  gone_list = left (numbers_read script place moved) (cells.cycles_of (cell_at (sheet_of (held_by a)) f)) (sheet_of (held_by a)).next

  abbrev edge : Figure
  edge = closed_edge (positions_at script first k)

  abbrev both_cells : List Figure
  both_cells = closed_edge (positions_at script first k) ∷ face gone_list ∷ []

  cuts : FaceCuts a t f kept_list both_cells
  cuts = record { ready = y; named = r.named; room = r.room }

  module _ (row : ℕ) (er : row ≡ row_of f (take a.count a.ids)) where
    pub row_counted : RowCounted a.counts a.cycles row t
    row_counted = counted a t f kept_list both_cells cuts row er

    module _ (s : Spans) (es : s ≡ spans_of a.counts t.cells row a.cycles) where
      spanned : Spanned (held_by a) f s
      spanned = span a t f kept_list both_cells cuts row er s es

      pub parting : RoundParting a.cycles a.steps s script moved place a.next
      parting =
          let g = round_asks (held_by a) (ready_sizes a t y) (rows_by a) script f k first moved place r s spanned in
          let n = spans_all a.counts a.cycles row t row_counted s es in
          record {
            within = g.0;
            stand = g.1.1.1.0;
            rise = g.1.1.1.1.0;
            id = g.1.1.1.1.1;
            cycle_room = omega (arith, n.0, ready_cycles a t y, r.cycle_room);
            step_room = omega (arith, n.1, ready_steps a t y, r.step_room);
          }

      -- cs and ss have the cycles parted
      module _ (u v : Used) (cs ss : List ℕ)
          (p : RoundParted a.cycles a.steps s (stayed (numbers_read script place moved) (cycles_at a.cycles a.steps s) a.next)
          (left (numbers_read script place moved) (cycles_at a.cycles a.steps s) a.next) u v cs ss) where
        kept_is : built p.counts u p.words ≡ kept_list
        kept_is = old_list_lem (held_by a) (ready_sizes a t y) (rows_by a) script f k first moved place r s spanned p.counts u p.words p.stay

        gone_is : built p.counts2 v p.words2 ≡ gone_list
        gone_is = new_list_lem (held_by a) (ready_sizes a t y) (rows_by a) script f k first moved place r s spanned p.counts2 v p.words2 p.go

        may_replace : ReplacesIn a row s p.counts u.cycles p.words u.steps
        may_replace = replaces a t f kept_list both_cells cuts row er s es p.counts u p.words p.stay.building kept_is

        pub row_fits : (row < 256) × ((u.cycles ≤ 512) × (v.cycles ≤ 512))
        row_fits =
            let b = p.stay.building in
            let c = p.go.building in
            (held.in_rows _ _ _ _ _ _ _ may_replace, (omega (arith, b.cycle_room, b.counts_size), omega (arith, c.cycle_room, c.counts_size)))

        abbrev parted : Arrays
        parted = held.with_cycles a row u.cycles cs ss

        replaced : ReplacedIn a row s u.cycles u.steps (built p.counts u p.words) (held.with_cycles a row u.cycles cs ss)
        replaced =
            let l = y.long in
            held.replaced_in a row s p.counts u.cycles p.words u.steps may_replace cs ss (p.in_cycles.size ∙ l.cycles)
            (p.in_steps.size ∙ l.steps) p.in_cycles.run p.in_steps.run

        sheet_parted : sheet_of (held_by (held.with_cycles a row u.cycles cs ss)) ≡ recycled (sheet_of (held_by a)) f kept_list
        sheet_parted = replaced_sheet a t f kept_list both_cells cuts row er s es p.counts u p.words p.stay.building kept_is parted replaced

        -- ---- the edge
        edge_room : CellRoom (held_by (held.with_cycles a row u.cycles cs ss)) edge
        edge_room =
            first_room (held_by a) (ready_sizes a t y) (rows_by a) f r.named kept_list both_cells r.room edge (face gone_list) refl (held_by parted)
            sheet_parted (held_sizes parted replaced.long) replaced.fits

        bends_are : t.bends ≡ bend_total (held_by (held.with_cycles a row u.cycles cs ss))
        bends_are = ap (λ (q : Totals). q.bends) y.sums ∙ bends_held parted replaced.long replaced.rows

        -- what the bends and the rows ask
        pub edge_asks : (t.bends + k ≤ 2048) × ((a.count < 256) × (a.next < 65536))
        edge_asks = (omega (arith, bends_are, edge_room.bends, positions_length script first k), (edge_room.cells, edge_room.ids))

        module _ (us vs : List Float) (g : BendsPut a.bx a.by t.bends (positions_at script first k) k us vs) where
          abbrev edged : Arrays
          edged = with_closed (with_placed (held.with_cycles a row u.cycles cs ss) us vs) k

          placed : Lengths (with_placed (held.with_cycles a row u.cycles cs ss) us vs)
          placed = placed_long parted replaced.long (positions_at script first k) k t.bends (positions_length script first k) bends_are us vs g

          edge_holds : Holds (appended (sheet_of (held_by (held.with_cycles a row u.cycles cs ss))) edge) edged
          edge_holds =
              let q = closed_grew parted replaced.long (positions_at script first k) k t.bends (positions_length script first k) bends_are us vs g
              edge_room in
              record {
                sheet = q.0;
                fits = q.1;
                long = closed_long (with_placed parted us vs) placed k;
                rows = closed_normal (with_placed parted us vs) placed k edge_room.cells replaced.rows;
              }

          cycles_stay : s.cycles.first + u.cycles + s.cycles.rest ≡ cycle_total (held_by edged)
          cycles_stay =
              sym (ap (λ (q : Totals). q.cycles) replaced.sums) ∙ cycles_held parted replaced.long replaced.rows
              ∙ sym (closed_cycles (with_placed parted us vs) placed k edge_room.cells)

          steps_stay : s.steps.first + u.steps + s.steps.rest ≡ step_total (held_by edged)
          steps_stay =
              sym (ap (λ (q : Totals). q.steps) replaced.sums) ∙ steps_held parted replaced.long replaced.rows
              ∙ ap (λ (n : ℕ). width_sum (take n cs)) (sym (closed_cycles (with_placed parted us vs) placed k edge_room.cells))

          -- ---- the face
          face_room : CellRoom (held_by edged) (face gone_list)
          face_room =
              second_room (held_by a) (ready_sizes a t y) (rows_by a) f r.named kept_list both_cells r.room edge (face gone_list) refl (held_by parted)
              sheet_parted (held_by edged) edge_holds.sheet (held_sizes edged edge_holds.long) edge_holds.fits

          -- m and i are the rows in use and the next id then
          pub row_asks : (m i : ℕ) → m ≡ a.count + 1 → i ≡ a.next + 1 → (m < 256) × (i < 65536)
          row_asks m i em ei = (subst (λ (x : ℕ). x < 256) (sym em) face_room.cells, subst (λ (x : ℕ). x < 65536) (sym ei) face_room.ids)

          part_room : PartRoom edged (s.cycles.first + u.cycles + s.cycles.rest) (s.steps.first + u.steps + s.steps.rest) p.counts2 v p.words2
          part_room =
              record {
                long = edge_holds.long;
                rows = edge_holds.rows;
                cycles = cycles_stay;
                steps = steps_stay;
                building = p.go.building;
                room = subst (λ (x : List Cycle). CellRoom (held_by edged) (face x)) (sym gone_is) face_room;
              }

          came : Holds (face_cut_round (sheet_of (held_by a)) f (positions_at script first k) (numbers_read script place moved)) (with_face edged v.cycles)
          unfolding face_cut_round
          came =
              let h = part_holds edged _ _ p.counts2 v p.words2 part_room cs ss edge_holds.long.cycles edge_holds.long.steps
              p.in_cycles.end p.in_steps.end in
              record {
                sheet =
                    both_done (held_by a) (ready_sizes a t y) (rows_by a) f r.named kept_list both_cells r.room edge (face gone_list) refl (held_by parted)
                    sheet_parted (held_by edged) edge_holds.sheet (sheet_of (held_by (with_face edged v.cycles)))
                    (h.sheet ∙ ap (λ (x : List Cycle). appended (sheet_of (held_by edged)) (face x)) gone_is);
                fits = h.fits;
                long = h.long;
                rows = h.rows;
              }

          -- m have the edge, and o the face too
          pub round_holds : (m o : Arrays) → m ≡ edged → o ≡ with_face m v.cycles
              → Holds (face_cut_round (sheet_of (held_by a)) f (positions_at script first k) (numbers_read script place moved)) o
          round_holds m o em eo =
              subst (Holds (face_cut_round (sheet_of (held_by a)) f (positions_at script first k) (numbers_read script place moved)))
              (sym (eo ∙ ap (λ (x : Arrays). with_face x v.cycles) em)) came
