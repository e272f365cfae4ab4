-- The cell in a row, by its kind. Assumes nothing.
use Prim.Native.Nat.{ℕ, zero, suc, ◌<◌}
use mathlib.Core.Path.{◌≡◌, refl, sym, ap, ◌∙◌}
use mathlib.Core.List.{List}
use lib.Ieee.{Float}
use lib.ListN.{length, get_or}
use Rattle.coordinate.specs.declared.Position.{Position}
use Rattle.store.specs.declared.Shape.{Shape}
use Rattle.store.specs.declared.Shape.TheVariants.{Vertex, Open, Closed, Face}
use Rattle.store.specs.declared.Cell.{Cell}
use Rattle.lent.specs.Arrays.{shape_by, position_in}
use Rattle.lent.proofs.Held.{cells_id, cells_shape}
use Rattle.call_cells.specs.Rows.{cells_in, past_cell}

shape_face : (k s e b c : ℕ) (p : Position) → (k ≡ 0 → ⊥) → (k ≡ 1 → ⊥) → (k ≡ 2 → ⊥) → Face c ≡ shape_by k s e b c p
shape_face zero s e b c p h g f = absurd (h refl)
shape_face (suc zero) s e b c p h g f = absurd (g refl)
shape_face (suc (suc zero)) s e b c p h g f = absurd (f refl)
shape_face (suc (suc (suc k))) s e b c p h g f = refl

module _ (is ks ss es bs cs : List ℕ) (xs ys : List Float) (i : ℕ) (h : i < length is) where
  abbrev shape_in : ℕ → Shape
  shape_in j = shape_by (get_or ks j 0) (get_or ss j 0) (get_or es j 0) (get_or bs j 0) (get_or cs j 0) (position_in xs ys j)

  abbrev cell : Cell
  cell = get_or (cells_in is ks ss es bs cs xs ys) i past_cell

  told : (s : Shape) → s ≡ shape_in i → record { id = get_or is i 0; shape = s } ≡ cell
  told s e =
      let a : get_or is i 0 ≡ cell.id = sym (cells_id shape_in is i past_cell h) in
      let b : s ≡ cell.shape = e ∙ sym (cells_shape shape_in is i past_cell h) in
      λ j. record { id = a j; shape = b j }

  abbrev shaped : ℕ → Shape
  shaped k = shape_by k (get_or ss i 0) (get_or es i 0) (get_or bs i 0) (get_or cs i 0) (position_in xs ys i)

  pub vertex_told : get_or ks i 0 ≡ 0 → (p : Position) → p ≡ position_in xs ys i → record { id = get_or is i 0; shape = Vertex p } ≡ cell
  vertex_told e p g = told (Vertex p) (ap (λ (q : Position). Vertex q) g ∙ sym (ap shaped e))

  pub open_told : get_or ks i 0 ≡ 1 → record { id = get_or is i 0; shape = Open (get_or ss i 0) (get_or es i 0) (get_or bs i 0) } ≡ cell
  open_told e = told (Open (get_or ss i 0) (get_or es i 0) (get_or bs i 0)) (sym (ap shaped e))

  pub closed_told : get_or ks i 0 ≡ 2 → record { id = get_or is i 0; shape = Closed (get_or bs i 0) } ≡ cell
  closed_told e = told (Closed (get_or bs i 0)) (sym (ap shaped e))

  pub face_told : (get_or ks i 0 ≡ 0 → ⊥) → (get_or ks i 0 ≡ 1 → ⊥) → (get_or ks i 0 ≡ 2 → ⊥) → record { id = get_or is i 0; shape = Face (get_or cs i 0) } ≡ cell
  face_told a b c = told (Face (get_or cs i 0)) (shape_face (get_or ks i 0) (get_or ss i 0) (get_or es i 0) (get_or bs i 0) (get_or cs i 0) (position_in xs ys i) a b c)
