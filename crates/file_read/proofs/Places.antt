-- A cell's head read field by field, each at the place after the one before. Assumes nothing.
use Rattle.std.specs.Prelude.{Option, Some, None}
use Prim.Native.Nat.{ℕ}
use mathlib.Core.Path.{◌≡◌, refl, ap, sym, subst, ◌∙◌}
use mathlib.Core.Bool.{Bool, true, false}
use mathlib.Core.List.{List}
use lib.ListN.{drop}
use Rattle.number.specs.Said.{done, no}
use Rattle.number.specs.Readers.{Read, got, bad, and_then}
use Rattle.number.specs.Numbers.{read_number, number_at}
use Rattle.number.proofs.Laws.{value_at_lem, malformed_at}
use Rattle.decode_parts.specs.Lists.{FieldAt, Found}
use Rattle.decode_fields.specs.Fields.{read_two_numbers, read_three_numbers}
use Rattle.decode_fields.proofs.Pairs.{pair_then}
use Rattle.store.specs.declared.Shape.{Shape}
use Rattle.store.specs.declared.Shape.TheVariants.{Open, Closed, Face}
use Rattle.store.specs.declared.Cell.{Cell}
use Rattle.file_read.specs.Heads.{open_shape, counted_shape, read_shape, read_head, ReadAt, ShapeRead}

module _ {A B : Type 0} {q : Read A} (k : A → List ℕ → Read B) where
  pub first_bad : q ≡ bad → and_then q k ≡ bad
  first_bad e = ap (λ (z : Read A). and_then z k) e

  pub then_bad : {s : List ℕ} {x : A} {p : ℕ} → ReadAt q s x p → k x (drop p s) ≡ bad → and_then q k ≡ bad
  then_bad F e = ap (λ (z : Read A). and_then z k) F.read ∙ e

  pub then_found : {s : List ℕ} {x : A} {p : ℕ} {y : B} {r : ℕ} → ReadAt q s x p → ReadAt (k x (drop p s)) s y r → ReadAt (and_then q k) s y r
  then_found F G = record { read = ap (λ (z : Read A). and_then z k) F.read ∙ G.read; inside = G.inside }

  pub last_found : {s : List ℕ} {x : A} {p : ℕ} {y : B} → ReadAt q s x p → k x (drop p s) ≡ got y (drop p s) → ReadAt (and_then q k) s y p
  last_found F e = record { read = ap (λ (z : Read A). and_then z k) F.read ∙ e; inside = F.inside }

pub value_found : (s : List ℕ) (at n next : ℕ) → number_at s at ≡ done (n, next) → ReadAt (read_number (drop at s)) s n next
value_found s at n next e = let v = value_at_lem s at n next e in record { read = v.0; inside = v.2 }

-- ---- one number
module _ (f : ℕ → Shape) (s : List ℕ) (at : ℕ) where
  pub number_bad : number_at s at ≡ no 2 → and_then (read_number (drop at s)) (λ n t. got (f n) t) ≡ bad
  number_bad e = first_bad (λ n t. got (f n) t) (malformed_at s at e)

  pub number_found : (n next : ℕ) → number_at s at ≡ done (n, next) → ReadAt (and_then (read_number (drop at s)) λ n t. got (f n) t) s (f n) next
  number_found n next e = last_found (λ n t. got (f n) t) (value_found s at n next e) refl

module _ (s : List ℕ) (at n next : ℕ) (e : number_at s at ≡ done (n, next)) where
  pub face_found : (b : Bool) → b ≡ true → ReadAt (counted_shape b (drop at s)) s (Face n) next
  face_found b t = rw t (number_found Face s at n next e)

  pub closed_found : (b : Bool) → b ≡ false → ReadAt (counted_shape b (drop at s)) s (Closed n) next
  closed_found b t = rw t (number_found Closed s at n next e)

-- ---- fields that are read at once
field_at : {A : Type 0} {r : List ℕ → Read A} {s : List ℕ} {at : ℕ} {x : A} {next : ℕ} → FieldAt r s at x next → ReadAt (r (drop at s)) s x next
field_at f = record { read = f.read; inside = f.fits }

as_read : {A : Type 0} {q p : Read A} {s : List ℕ} {x : A} {next : ℕ} → q ≡ p → ReadAt q s x next → ReadAt p s x next
as_read e h = record { read = sym e ∙ h.read; inside = h.inside }

-- an open edge of its ends and the count of its bends
abbrev open_of : (ℕ × ℕ) × ℕ → List ℕ → Read Shape
open_of p u = got (Open p.0.0 p.0.1 p.1) u

-- a cell of its id and its kind, which its shape follows
abbrev shape_after : ℕ × ℕ → List ℕ → Read Cell
shape_after p u = and_then (read_shape p.1 u) λ x v. got (record { id = p.0; shape = x }) v

open_then : (t : List ℕ) → and_then (read_three_numbers t) open_of ≡ open_shape t
open_then t =
    pair_then read_two_numbers read_number (λ p n u. got (Open p.0 p.1 n) u) t
    ∙ pair_then read_number read_number (λ a b u. and_then (read_number u) λ n v. got (Open a b n) v) t

head_then : (t : List ℕ) → and_then (read_two_numbers t) shape_after ≡ read_head t
head_then t = pair_then read_number read_number (λ i k u. shape_after (i, k) u) t

module _ {s : List ℕ} {at : ℕ} where
  pub open_bad : Found read_three_numbers s at (no 2) → open_shape (drop at s) ≡ bad
  open_bad h = sym (open_then (drop at s)) ∙ first_bad open_of h.is.1

  pub open_found : {a b n next : ℕ} → Found read_three_numbers s at (done (((a, b), n), next)) → ReadAt (open_shape (drop at s)) s (Open a b n) next
  open_found h = as_read (open_then (drop at s)) (last_found open_of (field_at h.is) refl)

  pub head_bad : Found read_two_numbers s at (no 2) → read_head (drop at s) ≡ bad
  head_bad h = sym (head_then (drop at s)) ∙ first_bad shape_after h.is.1

  module _ {i k mid : ℕ} (h : Found read_two_numbers s at (done ((i, k), mid))) {x : Option (Shape × ℕ)} (g : ShapeRead (read_shape k) s mid x) where
    pub shape_bad : x ≡ None → read_head (drop at s) ≡ bad
    shape_bad e =
        sym (head_then (drop at s))
        ∙ then_bad shape_after (field_at h.is) (first_bad (λ y v. got (record { id = i; shape = y }) v) (subst (ShapeRead (read_shape k) s mid) e g).1)

    pub head_found : {y : Shape} {next : ℕ} → x ≡ Some (y, next) → ReadAt (read_head (drop at s)) s (record { id = i; shape = y }) next
    head_found e =
        as_read (head_then (drop at s))
        (then_found shape_after (field_at h.is)
        (last_found (λ y v. got (record { id = i; shape = y }) v) (subst (ShapeRead (read_shape k) s mid) e g) refl))
