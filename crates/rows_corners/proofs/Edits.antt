-- A face with other cycles, and new cells after it. Assumes nothing.
use Prim.Native.Nat.{ℕ}
use mathlib.Core.Path.{◌≡◌, ap, sym, subst, ◌∙◌}
use mathlib.Core.Bool.{Bool, true}
use mathlib.Core.List.{List, [], ◌∷◌}
use lib.Dec.{T, eqb}
use lib.ListN.{take}
use Rattle.complex.specs.Cells.{Cycle, Figure, face, Sheet, cell_at, is_face}
use Rattle.complex.specs.Cells as cells
use Rattle.store.specs.declared.Drawing.{Drawing}
use Rattle.store.specs.declared.Index.{Index}
use Rattle.store.specs.Index.{Indexes, value_at}
use Rattle.store.specs.Sizes.{Sizes}
use Rattle.store.specs.View.{sheet_of, Fits}
use Rattle.store.specs.Edits.{appended}
use Rattle.sound.specs.Soundness.{sound_drawing}
use Rattle.sound.proofs.Meaning.{sound_fits, looks, face_at}
use Rattle.rows_spans.specs.declared.Used.{Used}
use Rattle.rows_spans.specs.Building.{built}
use Rattle.rows_new.specs.Appends.{appended_all, RoomIn, CellRoom}
use Rattle.rows_new.proofs.Appended.{appended_one, appended_next}
use Rattle.rows_new.proofs.Rooms.{room_first, room_next}
use Rattle.rows_corners.specs.Faces.{Named, recycled, Roomy, IndexRows}
use Rattle.rows_corners.proofs.Rows.{roomy}

-- ---- which ids are faces
pub rows_in_lem : (d : Drawing) → Sizes d → T (sound_drawing d) → (ix : Index) → Indexes d ix → IndexRows ix d.count
rows_in_lem d z w ix x =
    record {
      few = (sound_fits d w).cells;
      ids = x.sizes.0;
      kinds = x.sizes.1;
      starts = x.sizes.2;
      ends = x.sizes.3;
      cycles = x.sizes.5;
      rising = (looks d z ix x w).rising;
    }

pub face_told : (d : Drawing) → Sizes d → T (sound_drawing d) → (ix : Index) → Indexes d ix → (f : ℕ) (b : Bool)
    → b ≡ eqb (value_at 4 (take d.count ix.ids) (take d.count ix.kinds) f) 3
    → is_face (cell_at (sheet_of d) f) ≡ b
face_told d z w ix x f b e = sym (e ∙ face_at (looks d z ix x w) f)

pub named_in : (d : Drawing) → Sizes d → T (sound_drawing d) → (ix : Index) → Indexes d ix → (f : ℕ) → is_face (cell_at (sheet_of d) f) ≡ true → Named d ix f
named_in d z w ix x f e = record { fits = sound_fits d w; index = x; rising = (looks d z ix x w).rising; face = e }

-- ---- the face gets the cycles ks, and cells come
module _ (d : Drawing) (z : Sizes d) (ix : Index) (f : ℕ) (m : Named d ix f) (ks : List Cycle) (new : List Figure)
    (r : RoomIn (recycled (sheet_of d) f ks) new) where
  module _ (counts : List ℕ) (u : Used) (steps : List ℕ) (e : built counts u steps ≡ ks) where
    pub room_listed : Roomy (recycled (sheet_of d) f (built counts u steps))
    room_listed = subst (λ (l : List Cycle). Roomy (recycled (sheet_of d) f l)) (sym e) (roomy (recycled (sheet_of d) f ks) new r)

    pub sheet_listed : (s : Sheet) → s ≡ recycled (sheet_of d) f (built counts u steps) → s ≡ recycled (sheet_of d) f ks
    sheet_listed s g = g ∙ ap (recycled (sheet_of d) f) e

  pub room_after : (s : Sheet) → s ≡ recycled (sheet_of d) f ks → RoomIn s new
  room_after s e = subst (λ (t : Sheet). RoomIn t new) (sym e) r

  -- where two cells come
  module _ (x y : Figure) (e : new ≡ x ∷ y ∷ []) (a : Drawing) (ea : sheet_of a ≡ recycled (sheet_of d) f ks) where
    both_room : RoomIn (sheet_of a) (x ∷ y ∷ [])
    both_room = subst (RoomIn (sheet_of a)) e (room_after (sheet_of a) ea)

    pub first_room : Sizes a → Fits a → CellRoom a x
    first_room za fa = room_first a za fa x (y ∷ []) both_room

    module _ (b : Drawing) (eb : sheet_of b ≡ appended (sheet_of a) x) where
      pub second_room : Sizes b → Fits b → CellRoom b y
      second_room zb fb = room_first b zb fb y [] (subst (λ (t : Sheet). RoomIn t (y ∷ [])) (sym eb) (room_next x (y ∷ []) (sheet_of a) both_room))

      pub both_done : (s : Sheet) → s ≡ appended (sheet_of b) y → s ≡ appended_all (x ∷ y ∷ []) (recycled (sheet_of d) f ks)
      both_done s g =
          g ∙ ap (λ (t : Sheet). appended t y) (eb ∙ ap (λ (t : Sheet). appended t x) ea)
          ∙ appended_one (appended (recycled (sheet_of d) f ks) x) y ∙ sym (appended_next x (y ∷ []) (recycled (sheet_of d) f ks))
