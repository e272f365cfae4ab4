-- A test of each element, of an edge, and of a lone vertex. Assumes nothing.
use Prim.Native.Nat.{ℕ}
use mathlib.Core.Path.{◌≡◌, sym, ap, ◌∙◌}
use mathlib.Core.Bool.{Bool, true, false, ◌&&◌, ◌||◌}
use mathlib.Core.List.{List, ◌∷◌}
use lib.Dec.{eqb}
use lib.ListN.{get_or}
use borrow.Author.Tests.{eq-eqb, ne_eqb}
use Rattle.number.specs.Numbers.{read_number}
use Rattle.complex.specs.Lists.{all}
use Rattle.store.specs.Index.{value_at}
use Rattle.sound.specs.Rows.{is_vertex_in}
use Rattle.decode_parts.specs.Lists.{FieldAt, numbers_read}
use Rattle.script.proofs.Steps.{field_list}

-- ---- a test of each element
module _ {A : Type 0} (p : A → Bool) (x : A) (xs : List A) where
  pub first_no_lem : p x ≡ false → false ≡ all p (x ∷ xs)
  first_no_lem e = sym (ap (λ (b : Bool). b && all p xs) e)

  pub first_yes : p x ≡ true → all p xs ≡ all p (x ∷ xs)
  first_yes e = sym (ap (λ (b : Bool). b && all p xs) e)

-- ---- an edge
module _ (k : ℕ) where
  pub edge_open : k ≡ 1 → true ≡ (eqb k 1 || eqb k 2)
  edge_open e = sym (ap (λ (b : Bool). b || eqb k 2) (eq-eqb k 1 e))

  pub edge_other : (k ≡ 1 → ⊥) → eqb k 2 ≡ (eqb k 1 || eqb k 2)
  edge_other e = sym (ap (λ (b : Bool). b || eqb k 2) (ne_eqb k 1 e))

-- ---- a lone vertex
module _ (is ks : List ℕ) {s : List ℕ} {at v next k : ℕ} (f : FieldAt read_number s at v next) (e : k ≡ value_at 4 is ks v) where
  pub lone_is : {b : Bool} → eqb k 0 ≡ b → is_vertex_in is ks (get_or (numbers_read s at 1) 0 0) ≡ b
  lone_is g = ap (λ (l : List ℕ). eqb (value_at 4 is ks (get_or l 0 0)) 0) (field_list f) ∙ ap (λ (n : ℕ). eqb n 0) (sym e) ∙ g
