-- A case of 0E in lent arrays. Definitions only.
use Rattle.std.specs.Prelude.{ℕ, ◌≡◌}
use Rattle.complex.specs.Uncut.{Uncut, uncut_case}
use Rattle.store.specs.View.{sheet_of}
use Rattle.answer.specs.declared.Totals.{Totals}
use Rattle.lent.specs.Arrays.{Arrays, held_by}
use Rattle.lent.specs.Replies.{Ready}

-- the arrays are ready, and the case at the cell i is k
pub record CaseIn (a : Arrays) (t : Totals) (i : ℕ) (k : Uncut) : Type 0 where
  pub ready : Ready a t
  pub is : uncut_case (sheet_of (held_by a)) i ≡ k
