-- `cut_at` meets its contract: a lone vertex after the face's cycles, and the vertex in the next row. Assumes nothing.
use Prim.Native.Nat.{ℕ, ◌+◌, ◌<◌}
use mathlib.Core.Path.{◌≡◌, sym, ap, ap₂, ◌∙◌, subst}
use mathlib.Core.List.{List, [], ◌∷◌, ◌++◌}
use lib.Ieee.{Float}
use lib.ListN.{take, set}
use Rattle.coordinate.specs.declared.Position.{Position}
use Rattle.complex.specs.Lists.{one}
use Rattle.complex.specs.Cells.{lone, vertex}
use Rattle.complex.specs.Sound.{cells_most, cycles_most, steps_most}
use Rattle.rows_spans.specs.Building.{Built, built}
use Rattle.rows_spans.specs.Runs.{spans_of}
use Rattle.rows_spans.specs.declared.Spans.{Spans}
use Rattle.rows_spans.specs.declared.Used.{Used}
use Rattle.store.specs.Index.{row_of}
use Rattle.store.specs.View.{sheet_of}
use Rattle.rows_new.specs.Appends.{CellRoom}
use Rattle.answer.specs.declared.Totals.{Totals}
use Rattle.rows_corners.specs.Faces.{Spanned, cycles_at, recycled}
use Rattle.law_cut_face.proofs.Edits.{lone_asks, lone_list}
use Rattle.lent.specs.Arrays.{Arrays, held_by, rows_by}
use Rattle.lent.specs.Growing.{with_row, with_vertex}
use Rattle.lent.specs.Sheets.{arrays}
use Rattle.kernel_cycles.specs.Replacing.{and_one, ReplacesIn, ReplacedIn}
use Rattle.kind_cut_face.specs.Cuts.{FaceCuts}
use Rattle.kind_cut_face.proofs.Cuts.{sizes_in, counted, span, replaces, replaced_sheet}
use Rattle.kind_cut_face.proofs.Lone.{with_lone, lone_built, vertex_room, vertex_holds}
use Rattle.kind_cut_face.proofs.cut_at.Goals as goal

-- the vertex goes into the row n, which is the one after the last of b
module _ (b : Arrays) (p : Position) {n : ℕ} (k : b.count ≡ n) where
  in_rows_lem : b.count < cells_most → n < cells_most
  in_rows_lem h = subst (λ (i : ℕ). i < cells_most) k h

  vertexed : {o : Arrays} {xs ys : List Float} → o ≡ with_row b 0 0 0 0 0 xs ys → xs ≡ set b.px n p.x → ys ≡ set b.py n p.y → o ≡ with_vertex b p
  vertexed e ex ey =
      e ∙ ap₂ (with_row b 0 0 0 0 0) (ex ∙ ap (λ (i : ℕ). set b.px i p.x) (sym k)) (ey ∙ ap (λ (i : ℕ). set b.py i p.y) (sym k))

abbrev used : Spans → Used
used q = record { cycles = q.cycles.count + 1; steps = q.steps.count + 1 }

module _ {a : Arrays} {t : Totals} {f : ℕ} {p : Position} (w : FaceCuts a t f (with_lone a t f p) (vertex p ∷ [])) {row : ℕ}
    (er : row ≡ row_of f (take a.count a.ids)) {s : Spans} (es : s ≡ spans_of a.counts t.cells row a.cycles) where
  -- where the face's cycles stand
  spanned_at : Spanned (held_by a) f s
  spanned_at = span a t f (with_lone a t f p) (vertex p ∷ []) w row er s es

  abbrev numbers : List ℕ
  numbers = and_one cycles_most a.cycles s.cycles 0

  abbrev words : List ℕ
  words = and_one steps_most a.steps s.steps a.next

  -- the list stands there with the lone vertex
  made : Built (cycles_at a.cycles a.steps s ++ one (lone a.next)) numbers (used s) words
  made =
      let g = lone_asks (held_by a) (sizes_in a t f (with_lone a t f p) (vertex p ∷ []) w) (rows_by a) f w.named p w.room s spanned_at in
      lone_built a.cycles a.steps s g.0 g.1.0 g.1.1 a.next

  listed : built numbers (used s) words ≡ with_lone a t f p
  listed =
      lone_list (held_by a) (sizes_in a t f (with_lone a t f p) (vertex p ∷ []) w) (rows_by a) f w.named p w.room s spanned_at numbers (used s) words made

  may_replace : ReplacesIn a row s numbers (s.cycles.count + 1) words (s.steps.count + 1)
  may_replace = replaces a t f (with_lone a t f p) (vertex p ∷ []) w row er s es numbers (used s) words made.building listed

  -- b have the list in the place of the face's own
  module _ {b : Arrays} (q : ReplacedIn a row s (s.cycles.count + 1) (s.steps.count + 1) (built numbers (used s) words) b) where
    relisted : sheet_of (held_by b) ≡ recycled (sheet_of (held_by a)) f (with_lone a t f p)
    relisted = replaced_sheet a t f (with_lone a t f p) (vertex p ∷ []) w row er s es numbers (used s) words made.building listed b q

    room : CellRoom (held_by b) (vertex p)
    room = vertex_room a t f p w b row s (s.cycles.count + 1) (s.steps.count + 1) (built numbers (used s) words) q relisted

pub spans_at-s-requires : goal.spans_at-s-requires
spans_at-s-requires c = counted _ c.args.t c.args.f _ _ c.requires c.find-row.result c.find-row.ensures

pub add_cycle-requires : goal.add_cycle-requires
add_cycle-requires c = may_replace c.requires c.find-row.ensures c.spans_at-s.ensures

pub put_position-requires : goal.put_position-requires
put_position-requires c =
    in_rows_lem (arrays c.add_cycle.new.sheet) c.args.p (ap (λ (x : Arrays). x.count) c.add_cycle.ensures.kept) (room c.requires c.find-row.ensures c.spans_at-s.ensures c.add_cycle.ensures.replaced_in).cells

pub add_row-requires : goal.add_row-requires
add_row-requires c =
    let m = room c.requires c.find-row.ensures c.spans_at-s.ensures c.add_cycle.ensures.replaced_in in
    record {
      count_lt_cells_most = m.cells;
      next_lt_ids_end = m.ids;
    }

pub returns-clause-holds : goal.returns-clause-holds
returns-clause-holds c =
    let q = c.add_cycle.ensures.replaced_in in
    let z = c.put_position.ensures in
    vertex_holds _ c.args.t c.args.f c.args.p c.requires _ _ _ _ _ _ q (relisted c.requires c.find-row.ensures c.spans_at-s.ensures q) _
    (vertexed (arrays c.add_cycle.new.sheet) c.args.p (ap (λ (x : Arrays). x.count) c.add_cycle.ensures.kept) c.add_row.ensures.added z.px_after z.py_after)
