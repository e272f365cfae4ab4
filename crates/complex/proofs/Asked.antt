-- What a command answers, by the first question that gets a no. Assumes nothing.
use Prim.Native.Nat.{ℕ, zero, suc, ◌+◌, ◌-◌}
use native.Mathlib.Omega.{arith}
use mathlib.Core.Path.{◌≡◌, refl, sym, ap, ◌∙◌, subst}
use mathlib.Core.Bool.{Bool, true, false, cond}
use mathlib.Core.List.{List, [], ◌∷◌}
use lib.ListN.{length}
use lib.Dec.{eqb}
use Rattle.coordinate.specs.declared.Position.{Position}
use Rattle.coordinate.specs.Bounds.{within}
use Rattle.complex.specs.Lists.{all, one}
use Rattle.complex.specs.Cells.{Sheet}
use Rattle.complex.specs.Decode.{Command, Order, edit, renumber}
use Rattle.complex.specs.Commands.{positions, question3, question4, question5, question6, result}
use Rattle.complex.specs.Answer.{Answer, no, done, removed_from, first_no, of_bytes, of_result, questions, answered, asked3, renewed, ordered}
use Rattle.complex.proofs.Keep.{Sound}
use Rattle.complex.proofs.Questions.{FirstNo, first_no_lem, no_first, among}
use Rattle.complex.proofs.Rebuilt.{result_rebuilt}
use Rattle.complex.proofs.Claims.{removed_rebuilt}

-- ---- the answer's number is n exactly where n is the first no
module _ (s : Sheet) (c : Command) where
  number_is : (asked3 s c).number ≡ first_no (questions s c)
  unfolding asked3
  number_is = go (first_no (questions s c))
    where
      go : (n : ℕ) → (answered s (result s c) n).number ≡ n
      go zero = refl
      go (suc n) = refl

  pub number_first : (n : ℕ) → FirstNo (questions s c) n → (asked3 s c).number ≡ n
  number_first n f = number_is ∙ first_no_lem (questions s c) n f

  pub first_number : FirstNo (questions s c) (asked3 s c).number
  first_number = subst (FirstNo (questions s c)) (sym number_is) (no_first (questions s c))

  -- these questions don't answer 2
  not_two : (asked3 s c).number ≡ 2 → ⊥
  not_two e = among (questions s c) (asked3 s c).number 1 first_number tt e

-- no order that is read answers 2
pub order_not_two : (s : Sheet) (o : Order) → (ordered s o).number ≡ 2 → ⊥
unfolding renewed
order_not_two s (edit c) e = not_two s c e
order_not_two s renumber e = omega (arith, e)

-- ---- the questions of the bytes alone: their first no, or 0
abbrev pub early : Command → ℕ
early c = first_no (of_bytes c)

pub early_three : (c : Command) → early c ≡ 0 → question3 c ≡ true
early_three c e = go (question3 c) refl
  where
    go : (y : Bool) → question3 c ≡ y → question3 c ≡ true
    go true q = q
    go false q = absurd (let z : early c ≡ 3 = rw q in omega arith)

-- a command without positions
pub early_none : (c : Command) → positions c ≡ [] → early c ≡ 0
unfolding question3
early_none c e = rw e

-- one with a position, and no list of bends
module _ (c : Command) (p : Position) (e : positions c ≡ one p) where
  pub early_one : within p ≡ true → early c ≡ 0
  unfolding question3
  early_one w = rw (e, w)

  pub out_one : within p ≡ false → question3 c ≡ false
  unfolding question3
  out_one w = rw (e, w)

-- one with a list of bends
module _ (c : Command) where
  pub early_bends : all within (positions c) ≡ true → early c ≡ 0
  unfolding question3
  early_bends w = rw w

  pub out_bends : all within (positions c) ≡ false → question3 c ≡ false
  unfolding question3
  out_bends w = w

-- questions 3 to 6 got a yes
pub record Passed (s : Sheet) (c : Command) : Type 0 where
  pub bytes : early c ≡ 0
  pub four : question4 s c ≡ true
  pub five : question5 s c ≡ true
  pub six : question6 s c ≡ true

-- a no is answered as such
pub answered_no : (s t : Sheet) (n : ℕ) → (n ≡ 0 → ⊥) → answered s t n ≡ no n s
answered_no s t zero h = absurd (h refl)
answered_no s t (suc n) h = refl

module _ (s : Sheet) (c : Command) where
  pub no_3 : question3 c ≡ false → asked3 s c ≡ no 3 s
  unfolding asked3
  no_3 a = rw a

  pub no_4 : early c ≡ 0 → question4 s c ≡ false → asked3 s c ≡ no 4 s
  unfolding asked3
  no_4 a b = rw (early_three c a, b)

  pub no_5 : early c ≡ 0 → question4 s c ≡ true → question5 s c ≡ false → asked3 s c ≡ no 5 s
  unfolding asked3
  no_5 a b d = rw (early_three c a, b, d)

  pub no_6 : early c ≡ 0 → question4 s c ≡ true → question5 s c ≡ true → question6 s c ≡ false → asked3 s c ≡ no 6 s
  unfolding asked3
  no_6 a b d e = rw (early_three c a, b, d, e)

  -- what is left to ask where 3 to 6 got a yes
  pub passed_asked : Passed s c → asked3 s c ≡ answered s (result s c) (first_no (of_result (result s c)))
  unfolding asked3
  passed_asked p = rw (early_three c p.bytes, p.four, p.five, p.six)

-- the counts of a done command, from the next ids and the numbers of cells alone
pub done_counts : (s : Sheet) → Sound s → (c : Command) → (t : Sheet) → t ≡ result s c
    → done s (result s c) ≡ record {
      number = 0;
      first = cond (eqb
          (t.next - s.next) 0) 0 s.next;
      new = t.next - s.next;
      removed = length s.cells + (t.next - s.next) - length t.cells;
      sheet = t;
    }
done_counts s S c t e =
    ap (done s) (sym e) ∙ ap
    (λ (n : ℕ). record { number = 0; first = cond (eqb (t.next - s.next) 0) 0 s.next; new = t.next - s.next; removed = n; sheet = t }) (removed t e)
  where
    removed : (t : Sheet) → t ≡ result s c → length (removed_from s t) ≡ length s.cells + (t.next - s.next) - length t.cells
    removed t e = rw e (let r = removed_rebuilt s S (result s c) (result_rebuilt s c) in omega arith)
