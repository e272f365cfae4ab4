-- Numbers put one after another into an array. Assumes nothing.
use Prim.Native.Nat.{ℕ, ◌+◌, ◌≤◌, ◌<◌}
use native.Mathlib.Omega.{arith}
use mathlib.Core.Path.{◌≡◌, sym, ap}
use mathlib.Core.List.{List, [], ◌∷◌, ◌++◌}
use lib.ListN.{length, drop, set}
use Rattle.number.specs.Readers.{got}
use Rattle.number.specs.Numbers.{read_number}
use Rattle.file_read.specs.Filling.{Added, NumbersIn}
use Rattle.file_read.proofs.Reading.{Reading, reading_start, reading_turn, reading_end}
use Rattle.file_read.proofs.Adding.{added_none, added_one, added_then}

-- of m numbers i were read, and put into out
pub record Putting (s : List ℕ) (at m : ℕ) (out₀ : List ℕ) (used i p : ℕ) (out : List ℕ) : Type 0 where
  pub numbers : List ℕ
  pub reading : Reading read_number s at m i p numbers
  pub added : Added out₀ used numbers out

pub putting_start : (s : List ℕ) (at m : ℕ) (out : List ℕ) (used : ℕ) → at ≤ length s → used ≤ length out → Putting s at m out used 0 at out
putting_start s at m out used h g = record { numbers = []; reading = reading_start read_number s at m h; added = added_none out used g }

module _ (s : List ℕ) (at m : ℕ) (out₀ : List ℕ) (used i p : ℕ) (out : List ℕ) (P : Putting s at m out₀ used i p out) where
  pub putting_turn : (v next : ℕ) → i < m → used + m ≤ length out₀ → read_number (drop p s) ≡ got v (drop next s) → next ≤ length s
      → Putting s at m out₀ used (i + 1) next (set out (used + i) v)
  putting_turn v next h g e l =
      let z = P.added.size in
      record {
        numbers = P.numbers ++ (v ∷ []);
        reading = reading_turn read_number s at m i p P.numbers P.reading v next h e l;
        added = added_then (used + i) (ap (λ (k : ℕ). used + k) (sym P.reading.count)) P.added (added_one out (used + i) v (omega arith));
      }

  pub putting_end : i ≡ m → NumbersIn s at m out₀ used out p
  putting_end e = record {
    numbers = P.numbers;
    read = reading_end read_number s at m i p P.numbers P.reading e;
    inside = P.reading.inside;
    added = P.added;
  }
