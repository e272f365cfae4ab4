-- A list that is taken in runs. Assumes nothing.
use Prim.Native.Nat.{ℕ, zero, suc, ◌+◌, ◌-◌, ◌≤◌}
use mathlib.Core.Path.{◌≡◌, refl, ap, ap₂, sym, ◌∙◌}
use mathlib.Core.Bool.{Bool, true, false, cond}
use mathlib.Core.List.{List, [], ◌∷◌, ◌++◌, append-nil}
use native.Mathlib.Omega.{arith}
use lib.ListN.{length, take, drop, length-drop}
use lib.Seq.{take-nil, take-take, drop-drop, length-take-le}
use Rattle.coordinate.specs.declared.Position.{Position}
use Rattle.complex.specs.Lists.{one}
use Rattle.rows_new.specs.declared.Runs.{Runs}
use Rattle.rows_new.specs.Runs.{turn, run_at, runs_of}

module _ {A : Type 0} where
  pub run_length : (first n : ℕ) (l : List A) → first + n ≤ length l → length (run_at first n l) ≡ n
  run_length first n l h = length-take-le n (drop first l) (simp length-drop (omega arith))

  drop_take : (i n : ℕ) (l : List A) → drop i (take n l) ≡ take (n - i) (drop i l)
  drop_take zero n l = let e : n ≡ n - 0 = omega arith in ap (λ (m : ℕ). take m l) e
  drop_take (suc i) zero l = let e : 0 ≡ 0 - suc i = omega arith in ap (λ (m : ℕ). take m (drop (suc i) l)) e
  drop_take (suc i) (suc n) [] = sym (take-nil (suc n - suc i))
  drop_take (suc i) (suc n) (x ∷ l) = let e : n - i ≡ suc n - suc i = omega arith in drop_take i n l ∙ ap (λ (m : ℕ). take m (drop i l)) e

  -- the first i elements of a run, and those after them
  pub run_take : (first n i : ℕ) (l : List A) → i ≤ n → run_at first i l ≡ take i (run_at first n l)
  run_take first n i l h = sym (take-take i n (drop first l) h)

  pub run_drop : (first n i : ℕ) (l : List A) → run_at (first + i) (n - i) l ≡ drop i (run_at first n l)
  run_drop first n i l = sym (drop_take i n (drop first l) ∙ ap (take (n - i)) (drop-drop i first l))

  turn_none : (t : Bool) → turn {A = A} t [] ≡ []
  turn_none true = refl
  turn_none false = refl

-- one run alone
pub runs_single : (bs : List Position) (r : Runs) → r.middle ≡ false → r.count2 ≡ 0 → runs_of bs r ≡ turn r.turned (run_at r.first r.count bs)
runs_single bs r m n =
    ap₂ (λ (b : Bool) (k : ℕ). turn r.turned (run_at r.first r.count bs) ++ (cond b (one r.at) [] ++ turn r.turned2 (run_at r.first2 k bs))) m n
    ∙ ap (λ (l : List Position). turn r.turned (run_at r.first r.count bs) ++ l) (turn_none r.turned2)
    ∙ append-nil (turn r.turned (run_at r.first r.count bs))
