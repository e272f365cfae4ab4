-- 0B: a face cut at a vertex in lent arrays. Assumes nothing.
use Prim.Native.Nat.{ℕ, ◌+◌, ◌<◌}
use mathlib.Core.Path.{◌≡◌, refl, sym, ap, subst, ◌∙◌}
use mathlib.Core.Bool.{true}
use mathlib.Core.List.{List, [], ◌∷◌, ◌++◌}
use native.Mathlib.Omega.{arith}
use lib.ListN.{replicate, length-replicate}
use Rattle.coordinate.specs.declared.Position.{Position}
use Rattle.coordinate.specs.Bounds.{within}
use Rattle.complex.specs.Lists.{one}
use Rattle.complex.specs.Cells.{Cycle, lone, vertex, cell_at, is_face}
use Rattle.complex.specs.Cells as cells
use Rattle.complex.specs.Edits.{every_id}
use Rattle.complex.specs.Decode.{cut_face_vertex}
use Rattle.complex.specs.Cut.{face_cut_at}
use Rattle.complex.specs.Sound.{cycles_most, steps_most}
use Rattle.store.specs.View.{sheet_of}
use Rattle.rows_spans.specs.declared.Spans.{Spans}
use Rattle.rows_spans.specs.declared.Used.{Used}
use Rattle.rows_spans.specs.Building.{Built}
use Rattle.rows_spans.proofs.Building.{pushed_lone}
use Rattle.rows_new.specs.Appends.{CellRoom}
use Rattle.answer.specs.declared.Totals.{Totals}
use Rattle.answer.specs.Sizes.{sized, nothing, more_less, changed_by}
use Rattle.answer.specs.Late.{sizes_by, late_no}
use Rattle.answer.proofs.Asked.{Asked, asked_of, refuses, room, answers}
use Rattle.rows_corners.specs.Faces.{Within, cycles_at, recycled}
use Rattle.rows_corners.proofs.Lists.{built_then}
use Rattle.rows_corners.proofs.Runs.{runs_long, runs_built}
use Rattle.rows_corners.proofs.Edits.{named_in}
use Rattle.law_cut_face.proofs.Edits.{lone_room, lone_done, vertex_passed, vertex_new, vertex_more, vertex_result, vertex_cut}
use Rattle.lent.specs.Arrays.{Arrays, held_by, rows_by}
use Rattle.lent.specs.Growing.{with_vertex}
use Rattle.lent.specs.declared.Line.{Line}
use Rattle.lent.specs.Replies.{line_of, answer_by, Ready, Obeyed, Holds}
use Rattle.lent.proofs.Held.{held_sizes}
use Rattle.lent.proofs.Grown.{vertex_long, vertex_normal, vertex_comes}
use Rattle.lent.proofs.Sums.{ready_sizes, ready_rows, ready_drawing, ready_indexes, ready_totals}
use Rattle.kernel_cycles.specs.Replacing.{and_one, ReplacedIn}
use Rattle.kind_cut_face.specs.Cuts.{FaceCuts}
use Rattle.kind_cut_face.proofs.Cuts.{new_line, new_outcome, sizes_in}

-- the cycles at a span, and then a vertex alone
pub lone_built : (cycles steps : List ℕ) (t : Spans) → Within cycles steps t → t.cycles.count < cycles_most → t.steps.count < steps_most → (v : ℕ)
    → Built (cycles_at cycles steps t ++ one (lone v)) (and_one cycles_most cycles t.cycles 0)
    (record { cycles = t.cycles.count + 1; steps = t.steps.count + 1 }) (and_one steps_most steps t.steps v)
lone_built cycles steps t w hc hs v =
    let b = runs_built cycles steps t w (replicate {A = ℕ} 512 0) (replicate {A = ℕ} 2048 0)
    (length-replicate {A = ℕ} 512 0) (length-replicate {A = ℕ} 2048 0) _ _ refl refl in
    let z = runs_long cycles steps t w (replicate {A = ℕ} 512 0) (replicate {A = ℕ} 2048 0)
    (length-replicate {A = ℕ} 512 0) (length-replicate {A = ℕ} 2048 0) in
    let u : Used = record { cycles = t.cycles.count; steps = t.steps.count } in
    built_then (one (lone v)) b (pushed_lone _ u _ b.building v (omega (arith, z.0)) (omega (arith, z.1)))

-- ---- the cut
module _ (a : Arrays) (t : Totals) (f : ℕ) (p : Position) where
  abbrev pub with_lone : List Cycle
  with_lone = cells.cycles_of (cell_at (sheet_of (held_by a)) f) ++ one (lone (sheet_of (held_by a)).next)

  module _ (w : FaceCuts a t f with_lone (vertex p ∷ [])) where
    pub vertex_room : (b : Arrays) (row : ℕ) (s : Spans) (n m : ℕ) (ks : List Cycle) → ReplacedIn a row s n m ks b
        → sheet_of (held_by b) ≡ recycled (sheet_of (held_by a)) f with_lone → CellRoom (held_by b) (vertex p)
    vertex_room b row s n m ks r e =
        lone_room (held_by a) (sizes_in a t f with_lone (vertex p ∷ []) w) (rows_by a) f w.named p w.room (held_by b) (held_sizes b r.long) r.fits e

    pub vertex_holds : (b : Arrays) (row : ℕ) (s : Spans) (n m : ℕ) (ks : List Cycle) → ReplacedIn a row s n m ks b
        → sheet_of (held_by b) ≡ recycled (sheet_of (held_by a)) f with_lone
        → (o : Arrays) → o ≡ with_vertex b p → Holds (face_cut_at (sheet_of (held_by a)) f p) o
    vertex_holds b row s n m ks r e o eo =
        let h = vertex_room b row s n m ks r e in
        let g = vertex_comes b r.long p h in
        subst (Holds (face_cut_at (sheet_of (held_by a)) f p)) (sym eo)
        (record {
          sheet = lone_done (held_by a) (sizes_in a t f with_lone (vertex p ∷ []) w) (rows_by a) f w.named p w.room (held_by b) e
              (sheet_of (held_by (with_vertex b p))) g.0;
          fits = g.1;
          long = vertex_long b r.long p;
          rows = vertex_normal b r.long p h.cells r.rows;
        })

-- ---- the answer: r is what questions 7 and 8 say
module _ (a : Arrays) (t : Totals) (y : Ready a t) (f : ℕ) (p : Position) (b : within p ≡ true) (g : is_face (cell_at (sheet_of (held_by a)) f) ≡ true)
    (r : ℕ) (er : r ≡ late_no a.next 1 (changed_by (sizes_by t) (more_less (sized 1 1 1 0) nothing))) where
  asked : Asked (held_by a) (cut_face_vertex f p) r
  asked =
      asked_of (held_by a) (ready_sizes a t y) (ready_drawing a t y) (cut_face_vertex f p) r
      (record {
        index = rows_by a;
        indexes = ready_indexes a t y;
        new = 1;
        totals = t;
        more = record { cells = 1; cycles = 1; steps = 1; bends = 0 };
        less = record { cells = 0; cycles = 0; steps = 0; bends = 0 };
        passed = vertex_passed (sheet_of (held_by a)) f p b g;
        new_is = vertex_new (sheet_of (held_by a)) f p;
        change_is = vertex_more (sheet_of (held_by a)) f p;
        totals_are = ready_totals a t y;
        says = er;
      })

  pub vertex_refused : (r ≡ 0 → ⊥) → (l : Line) → l ≡ line_of r → Obeyed a (cut_face_vertex f p) a l
  vertex_refused nz l el =
      record {
        answers = refuses (held_by a) (ready_sizes a t y) (ready_drawing a t y) (cut_face_vertex f p) r asked nz (answer_by l (held_by a))
            (ap (λ (k : Line). answer_by k (held_by a)) el);
        back = λ z. refl;
        rows = ready_rows a t y;
      }

  module _ (z : r ≡ 0) where
    pub vertex_cuts : FaceCuts a t f (with_lone a t f p) (vertex p ∷ [])
    vertex_cuts =
        record {
          ready = y;
          named = named_in (held_by a) (ready_sizes a t y) (ready_drawing a t y) (rows_by a) (ready_indexes a t y) f g;
          room = room (held_by a) (ready_sizes a t y) (ready_drawing a t y) (cut_face_vertex f p) r asked z every_id _ (vertex p ∷ [])
              (vertex_result (sheet_of (held_by a)) f p);
        }

    pub vertex_obeyed : (o : Arrays) → o.next ≡ a.next + 1 → o.count ≡ a.count + 1 → Holds (face_cut_at (sheet_of (held_by a)) f p) o → (l : Line)
        → l ≡ new_line a.next 1 → Obeyed a (cut_face_vertex f p) o l
    vertex_obeyed o en ec h l el =
        record {
          answers =
              answers (held_by a) (ready_sizes a t y) (ready_drawing a t y) (cut_face_vertex f p) r asked z (held_by o) (held_sizes o h.long) h.fits
              (h.sheet ∙ sym (vertex_cut (sheet_of (held_by a)) f p))
              (answer_by l (held_by o)) (ap (λ (k : Line). answer_by k (held_by o)) el ∙ new_outcome a.next a.count 1 (held_by o) (omega arith) en ec);
          back = λ n. absurd (n (ap (λ (k : Line). k.number) el));
          rows = h.rows;
        }
