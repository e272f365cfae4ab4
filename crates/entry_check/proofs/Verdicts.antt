-- What the walk said is the verdict of the definitions. Assumes nothing.
use Rattle.std.specs.Prelude.{Result, Ok, Err}
use Prim.Native.Nat.{ℕ, ◌≤◌}
use mathlib.Core.Path.{◌≡◌, sym, ap, ◌∙◌}
use mathlib.Core.Bool.{Bool, true, false, cond}
use native.Mathlib.Omega.{arith}
use Rattle.number.specs.Said.{done, no}
use Rattle.complex.specs.Sound.{cells_most}
use Rattle.complex.specs.Visits.{Verdict}
use Rattle.complex.proofs.Visits.{visited_most}
use Rattle.answer.specs.declared.Totals.{Totals}
use Rattle.lent.specs.Arrays.{Arrays, totals_of, Lengths}
use Rattle.lent_row.proofs.Rows.{said_no, said_done}
use Rattle.lent_sound.specs.Walk.{walk_right, walk_visits, visit_says, visit_count}
use Rattle.lent_sound.specs.Visits.{right_on, visited_on, check_on}
use Rattle.lent_sound.proofs.Whole.{sound_walk, visits_walk}
use Rattle.entry_check.specs.Verdicts.{verdict_as}

module _ (a : Arrays) (l : Lengths a) (r : Result Totals ℕ) (e : visit_says r ≡ cond (walk_right true a) (done (totals_of a)) (no 1))
    (v : visit_count r ≡ walk_visits true a) where
  -- the verdict, and the ceiling of its count
  abbrev Told : Verdict → Type 0
  Told w = (w ≡ check_on a) × (w.visited ≤ cells_most)

  told : (b : Bool) → b ≡ walk_right true a → (n : ℕ) → n ≡ visit_count r → Told (record { sound = b; visited = n })
  told b p n q =
      let k : n ≡ visited_on a = q ∙ v ∙ visits_walk a l in
      (λ i. record { sound = (p ∙ sym (sound_walk a l)) i; visited = k i }, omega (arith, k, visited_most (right_on a) a.next a.count))

  pub told_yes : (t : Totals) → r ≡ Ok t → Told (record { sound = true; visited = t.cells })
  told_yes t q = told true (sym (said_done (walk_right true a) t (totals_of a) (ap visit_says (sym q) ∙ e)).0) t.cells (ap visit_count (sym q))

  pub told_no : (n : ℕ) → r ≡ Err n → Told (record { sound = false; visited = n })
  told_no n q = told false (sym (said_no (walk_right true a) (totals_of a) (ap visit_says (sym q) ∙ e))) n (ap visit_count (sym q))

-- ---- as two numbers
pub as_yes : (w : Verdict) → w.sound ≡ true → verdict_as 1 w.visited ≡ w
as_yes w e i = record { sound = sym e i; visited = w.visited }

pub as_no : (w : Verdict) → w.sound ≡ false → verdict_as 0 w.visited ≡ w
as_no w e i = record { sound = sym e i; visited = w.visited }
