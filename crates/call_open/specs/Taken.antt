-- What reading a file into lent arrays answers, and what it leaves in them. Definitions only.
use Rattle.std.specs.Prelude.{Option, Some, None}
use Rattle.std.specs.Prelude.{ℕ, ◌≡◌, List, T}
use Rattle.complex.specs.File.{read_file}
use Rattle.store.specs.View.{sheet_of}
use Rattle.answer.specs.declared.Totals.{Totals}
use Rattle.lent.specs.Arrays.{Arrays, held_by, sound_arrays}
use Rattle.lent.specs.Replies.{Ready}

-- the bytes s are a sound drawing's file; the arrays b hold the drawing, are sound, and t are their sums
pub record FileIn (s : List ℕ) (b : Arrays) (t : Totals) : Type 0 where
  pub number : (read_file s).number ≡ 0
  pub sheet : sheet_of (held_by b) ≡ (read_file s).sheet
  pub ready : Ready b t

-- question 10 of the bytes s that were loaded into the arrays b, which on a no may hold anything
abbrev pub OpenedIn : List ℕ → Arrays → Option Totals → Type 0
OpenedIn s b (Some t) = FileIn s b t
OpenedIn s b None = (read_file s).number ≡ 10

-- the number r and the arrays b answer the bytes s on the arrays a: on a no nothing is changed; else the sheet that was read,
-- and sound arrays
pub record ReadIn (s : List ℕ) (a b : Arrays) (r : ℕ) : Type 0 where
  pub number : r ≡ (read_file s).number
  pub back : (r ≡ 0 → ⊥) → b ≡ a
  pub sheet : r ≡ 0 → sheet_of (held_by b) ≡ (read_file s).sheet
  pub sound : r ≡ 0 → T (sound_arrays b)
