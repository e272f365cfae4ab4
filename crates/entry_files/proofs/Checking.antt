-- The soundness test of the drawing of a file. Assumes nothing.
use Prim.Native.Nat.{ℕ}
use mathlib.Core.Path.{◌≡◌, sym, ap, ◌∙◌}
use mathlib.Core.List.{List}
use Rattle.complex.specs.Visits.{Verdict, check_call, check_file}
use Rattle.store.specs.View.{sheet_of}
use Rattle.sound.proofs.Ceilings.{in_ceilings}
use Rattle.file_read.specs.Outcome.{NotHeld}
use Rattle.file_read.proofs.Verdict.{held_checked, not_held_unchecked}
use Rattle.lent.specs.Arrays.{Arrays, held_by, Lengths}
use Rattle.lent.proofs.Held.{held_sizes}
use Rattle.lent_sound.specs.Visits.{check_on}
use Rattle.lent_sound.proofs.Whole.{visited_held}
use Rattle.call_load.specs.Loads.{SheetIn}
use Rattle.call_open.proofs.Judged.{arrays_sound}
use Rattle.entry_check.specs.Verdicts.{verdict_as}
use Rattle.entry_files.specs.Calls.{checked_as}

-- ---- bytes that are no next id and cells that keep the ceilings
pub check_refused : (s : List ℕ) → NotHeld s → checked_as 10 0 0 ≡ check_file s
check_refused s f = sym (not_held_unchecked s f)

-- ---- the drawing that was read
module _ (s : List ℕ) (b : Arrays) (S : SheetIn s b) (l : Lengths b) where
  held_verdict : check_on b ≡ check_call (sheet_of (held_by b))
  unfolding check_call
  held_verdict = λ i. record { sound = arrays_sound s b S i; visited = visited_held b l S.fits S.rows i }

  pub check_is : (n v : ℕ) (w : Verdict) → verdict_as n v ≡ w → w ≡ check_on b → checked_as 0 n v ≡ check_file s
  check_is n v w e f =
      ap (λ (x : Verdict). record { number = 0; verdict = x }) (e ∙ f ∙ held_verdict)
      ∙ sym (held_checked s (sheet_of (held_by b)) S.read (in_ceilings (held_by b) (held_sizes b l) S.fits))
