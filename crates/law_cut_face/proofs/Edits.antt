-- 0B: a face cut at a vertex. Assumes nothing.
use Prim.Native.Nat.{ℕ, ◌+◌, ◌<◌}
use mathlib.Core.Path.{◌≡◌, refl, ap, ap₂, sym, ◌∙◌}
use mathlib.Core.Bool.{Bool, true}
use mathlib.Core.List.{List, [], ◌∷◌, ◌++◌}
use native.Mathlib.Omega.{arith}
use lib.ListN.{length-append}
use Rattle.coordinate.specs.declared.Position.{Position}
use Rattle.coordinate.specs.Bounds.{within}
use Rattle.complex.specs.Lists.{one}
use Rattle.complex.specs.Cells.{Cycle, lone, vertex, face, Sheet, cell_at, is_face}
use Rattle.complex.specs.Cells as cells
use Rattle.complex.specs.Edits.{rebuild, every_id, replaced}
use Rattle.complex.specs.Sound.{cycles_most, steps_most, step_count}
use Rattle.complex.specs.Decode.{cut_face_vertex}
use Rattle.complex.specs.Commands.{question4, question5, question6, result}
use Rattle.complex.specs.Cut.{face_cut_at}
use Rattle.answer.specs.Sizes.{sized, nothing, more_less, new_cells, change_of}
use Rattle.complex.proofs.Asked.{Passed, early_one}
use Rattle.store.specs.declared.Drawing.{Drawing}
use Rattle.store.specs.declared.Index.{Index}
use Rattle.store.specs.Sizes.{Sizes}
use Rattle.store.specs.View.{sheet_of, Fits}
use Rattle.store.specs.Edits.{appended}
use Rattle.store.proofs.Lists.{sum_append}
use Rattle.store.proofs.Grow.{next_is}
use Rattle.rows_spans.specs.declared.Used.{Used}
use Rattle.rows_spans.specs.declared.Spans.{Spans}
use Rattle.rows_spans.specs.Building.{Built, built}
use Rattle.rows_new.specs.Appends.{RoomIn, CellRoom}
use Rattle.rows_new.proofs.Appended.{appended_one}
use Rattle.rows_new.proofs.Rooms.{room_first}
use Rattle.rows_corners.specs.Faces.{Named, Within, Spanned, cycles_at, recycled}
use Rattle.rows_corners.proofs.Edits.{room_after}
use Rattle.rows_corners.proofs.Rows.{own, roomy, spare_cycles, spare_steps}

-- ---- 0B
module _ (d : Drawing) (z : Sizes d) (ix : Index) (f : ℕ) (m : Named d ix f) (p : Position)
    (r : RoomIn (recycled (sheet_of d) f (cells.cycles_of (cell_at (sheet_of d) f) ++ one (lone (sheet_of d).next))) (vertex p ∷ [])) where
  abbrev pub with_lone : List Cycle
  with_lone = cells.cycles_of (cell_at (sheet_of d) f) ++ one (lone (sheet_of d).next)

  pub lone_asks : (t : Spans) → Spanned d f t → Within d.cycles d.steps t × ((t.cycles.count < cycles_most) × (t.steps.count < steps_most))
  lone_asks t s =
      let q = roomy (recycled (sheet_of d) f with_lone) (vertex p ∷ []) r in
      let ks = own d z ix f m in
      let a = spare_cycles d z ix f m with_lone q in
      let b = spare_steps d z ix f m with_lone q in
      let la = length-append ks (one (lone (sheet_of d).next)) in
      let sa = sum_append step_count ks (one (lone (sheet_of d).next)) in
      let fc = s.few_cycles in
      let fs = s.few_steps in
      (s.within, (omega arith, omega arith))

  pub lone_list : (t : Spans) → Spanned d f t → (counts : List ℕ) (u : Used) (steps : List ℕ)
      → Built (cycles_at d.cycles d.steps t ++ one (lone d.next)) counts u steps → built counts u steps ≡ with_lone
  lone_list t s counts u steps b = b.list ∙ ap₂ (λ (l : List Cycle) (n : ℕ). l ++ one (lone n)) s.list (sym (next_is d))

  pub lone_room : (out : Drawing) → Sizes out → Fits out → sheet_of out ≡ recycled (sheet_of d) f with_lone → CellRoom out (vertex p)
  lone_room out zo fo e = room_first out zo fo (vertex p) [] (room_after d z ix f m with_lone (vertex p ∷ []) r (sheet_of out) e)

  pub lone_done : (out : Drawing) → sheet_of out ≡ recycled (sheet_of d) f with_lone → (s : Sheet) → s ≡ appended (sheet_of out) (vertex p)
      → s ≡ face_cut_at (sheet_of d) f p
  unfolding face_cut_at
  lone_done out e s g = g ∙ ap (λ (t : Sheet). appended t (vertex p)) e ∙ appended_one (recycled (sheet_of d) f with_lone) (vertex p)

module _ (s : Sheet) (f : ℕ) (p : Position) where
  pub vertex_four : (b : Bool) → is_face (cell_at s f) ≡ b → question4 s (cut_face_vertex f p) ≡ b
  unfolding question4
  vertex_four b e = e

  pub vertex_passed : within p ≡ true → is_face (cell_at s f) ≡ true → Passed s (cut_face_vertex f p)
  unfolding question5 question6
  vertex_passed e g = record { bytes = early_one (cut_face_vertex f p) p refl e; four = vertex_four true g; five = refl; six = refl }

  pub vertex_new : new_cells s (cut_face_vertex f p) ≡ 1
  unfolding new_cells
  vertex_new = refl

  pub vertex_more : change_of s (cut_face_vertex f p) ≡ more_less (sized 1 1 1 0) nothing
  unfolding change_of
  vertex_more = refl

  pub vertex_result : result s (cut_face_vertex f p) ≡ rebuild every_id (replaced f (face (cells.cycles_of (cell_at s f) ++ one (lone s.next)))) (vertex p ∷ []) s
  unfolding result
  vertex_result = refl

  pub vertex_cut : result s (cut_face_vertex f p) ≡ face_cut_at s f p
  unfolding result
  vertex_cut = refl
