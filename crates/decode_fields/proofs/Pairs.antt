-- What a field that was read, or that is not there, says of a reader that goes on from it. Assumes nothing.
use mathlib.Core.Path.{◌≡◌, refl}
use mathlib.Core.List.{List}
use Prim.Native.Nat.{ℕ}
use native.Mathlib.Omega.{arith}
use lib.ListN.{drop}
use Rattle.number.specs.Readers.{Read, got, bad, and_then, times}
use Rattle.number.specs.Said.{done, no}
use Rattle.number.specs.Numbers.{read_number, counted}
use Rattle.decode_parts.specs.Lists.{Found, things_read, Reaches}
use Rattle.decode_fields.specs.Fields.{read_pair}

-- ---- one field after another
pub pair_none : {A B : Type 0} {r : List ℕ → Read A} (q : List ℕ → Read B) {s : List ℕ} {at : ℕ} → Found r s at (no 2)
    → Found (read_pair r q) s at (no 2)
pair_none q h = let e = h.is.1 in record { is = (refl, rw e) }

module _ {A B : Type 0} {r : List ℕ → Read A} {q : List ℕ → Read B} {s : List ℕ} {at : ℕ} where
  module _ {x : A} {mid : ℕ} (f : Found r s at (done (x, mid))) where
    pub pair_half : Found q s mid (no 2) → Found (read_pair r q) s at (no 2)
    pair_half h = let e = h.is.1 in record { is = (refl, rw (f.is.read, e)) }

    pub pair_both : {y : B} {next : ℕ} → Found q s mid (done (y, next)) → Found (read_pair r q) s at (done ((x, y), next))
    pair_both g =
        let a = f.is.after in
        let b = g.is.after in
        record { is = record { read = rw (f.is.read, g.is.read); after = omega arith; fits = g.is.fits } }

-- a count, and so many things
module _ {A : Type 0} (r : List ℕ → Read A) {s : List ℕ} {at : ℕ} where
  pub counted_none : Found read_number s at (no 2) → Found (counted r) s at (no 2)
  counted_none h = let e = h.is.1 in record { is = (refl, rw e) }

  module _ {n first : ℕ} (f : Found read_number s at (done (n, first))) where
    pub counted_half : times r n (drop first s) ≡ bad → Found (counted r) s at (no 2)
    counted_half e = record { is = (refl, rw (f.is.read, e)) }

    pub counted_both : {next : ℕ} → Reaches r s first n next → Found (counted r) s at (done (things_read r s first n, next))
    counted_both h =
        let a = f.is.after in
        let b = h.after in
        record { is = record { read = rw (f.is.read, h.read); after = omega arith; fits = h.fits } }

-- ---- a reader that goes on from two fields
pub pair_then : {A B C : Type 0} (r : List ℕ → Read A) (q : List ℕ → Read B) (k : A → B → List ℕ → Read C) (t : List ℕ)
    → and_then (read_pair r q t) (λ p u. k p.0 p.1 u) ≡ and_then (r t) λ a u. and_then (q u) λ b v. k a b v
pair_then {A} {B} r q k t = go (r t)
  where
    then : (a : A) (y : Read B) → and_then {A = A × B} (and_then y λ b v. got (a, b) v) (λ p u. k p.0 p.1 u) ≡ and_then y λ b v. k a b v
    then a (got b v) = refl
    then a bad = refl

    go : (x : Read A) → and_then {A = A × B} (and_then x λ a u. and_then (q u) λ b v. got (a, b) v) (λ p u. k p.0 p.1 u)
        ≡ and_then x λ a u. and_then (q u) λ b v. k a b v
    go (got a u) = then a (q u)
    go bad = refl
