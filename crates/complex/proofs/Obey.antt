-- A command refuses and keeps the drawing, or was asked every question and gives its result, or renumbers; from there to any list of commands. Assumes nothing.
use Prim.Native.Nat.{ℕ, zero, suc, ◌+◌, ◌≤◌, ◌<◌}
use native.Mathlib.Omega.{arith}
use mathlib.Core.Path.{◌≡◌, refl, sym, ap, ◌∙◌, subst}
use mathlib.Core.Logic.{◌⊎◌, inl, inr}
use mathlib.Core.Bool.{Bool, true, false, not, ◌&&◌, ◌||◌, cond}
use mathlib.Core.List.{List, [], ◌∷◌}
use lib.ListN.{length}
use lib.IntN.{ℤ, pos, ◌+ℤ◌, +ℤ_idl, +ℤ_idr}
use lib.Dec.{T, eqb, leb}
use borrow.Author.Tests.{le-leb, lt-leb, eqb-true, eqb-false}
use Rattle.number.specs.Readers.{Read, got, bad}
use Rattle.complex.specs.Cells.{LiveCell, Sheet, empty, lookup, is_live}
use Rattle.complex.specs.Boundary.{star}
use Rattle.complex.specs.Sound.{ids_end, ceilings, sound}
use Rattle.complex.specs.Euler.{euler}
use Rattle.complex.specs.Decode.{Command, delete, edit, renumber, Order, decode}
use Rattle.complex.specs.Delete.{deleted}
use Rattle.complex.specs.Commands.{question3, question4, question5, question6, result}
use Rattle.complex.specs.Renumber.{renumbered}
use Rattle.complex.specs.Answer.{Answer, no, done, first_no, questions, answered, asked2, asked3, renewed, command}
use Rattle.complex.specs.Calls.{star_call, euler_call}
use Rattle.complex.specs.Demands.{command_step, after, accepted, share_read, share_of, shares, live, Took, DeleteExact, Deletes, AfterAll, Demand3}
use Rattle.complex.proofs.Bools.{truth, true_of, either}
use Rattle.complex.proofs.Questions.{no_first, Yes, all_yes}
use Rattle.complex.proofs.Keep.{Sound, sound_parts, parts_sound}
use Rattle.complex.proofs.Passes.{Passes, KeepsSound}
use Rattle.complex.proofs.Euler.{Balanced, balanced_euler}
use Rattle.complex.proofs.Delete.{deleted_took}
use Rattle.complex.proofs.Star.{star_right}
use Rattle.complex.proofs.RenumberSound.{renumber_sound, renumber_euler}
use Rattle.complex.proofs.Steps.{items_good, items_sum, items_each}

pub data Outcome (s : Sheet) (b : List ℕ) : Type 0 where
  refusal : (n : ℕ) → (n ≡ 0 → ⊥) → command s b ≡ no n s → Outcome s b
  obeyed : (c : Command) (t : List ℕ) → decode b ≡ got (edit c) t → Passes s c → command s b ≡ done s (result s c) → Outcome s b
  renews : (t : List ℕ) → decode b ≡ got renumber t → command s b ≡ renewed s → Outcome s b

pub data Asked (s : Sheet) (c : Command) : Type 0 where
  refusal : (n : ℕ) → (n ≡ 0 → ⊥) → asked3 s c ≡ no n s → Asked s c
  passed : Passes s c → asked3 s c ≡ done s (result s c) → Asked s c

pub asked : (s : Sheet) (c : Command) → Asked s c
unfolding asked3
asked s c = go (first_no (questions s c)) refl
  where
    passes : Yes (questions s c) → Passes s c
    passes (three, (four, (five, (six, (seven, (eight, _)))))) = record { three = three; four = four; five = five; six = six; seven = seven; eight = eight }

    go : (n : ℕ) → first_no (questions s c) ≡ n → Asked s c
    go zero e = passed (passes (all_yes (questions s c) (first_no (questions s c)) (no_first (questions s c)) tt e)) (ap (answered s (result s c)) e)
    go (suc n) e = refusal (suc n) (λ z. omega arith) (ap (answered s (result s c)) e)

pub outcome : (s : Sheet) (b : List ℕ) → T (sound s) → Outcome s b
unfolding command
outcome s b S = go (decode b) refl
  where
    one : command s b ≡ asked2 s (decode b)
    one = rw (true_of (sound s) S)

    go : (r : Read Order) → decode b ≡ r → Outcome s b
    go bad e = refusal 2 (λ z. omega arith) (one ∙ ap (asked2 s) e)
    go (got renumber t) e = renews t e (one ∙ ap (asked2 s) e)
    go (got (edit c) t) e = elim (asked s c) [
      | refusal n z q ↦ refusal n z (one ∙ ap (asked2 s) e ∙ q)
      | passed p q ↦ obeyed c t e p (one ∙ ap (asked2 s) e ∙ q)
    ]

-- ---- Euler of a sound drawing
pub euler_of_lem : (s : Sheet) → T (sound s) → euler_call s ≡ record { number = 0; value = euler s.cells }
unfolding euler_call
euler_of_lem s S = rw (true_of (sound s) S)

-- ---- from each command to all of them
module _ (keeps : (c : Command) → KeepsSound c) (balances : (c : Command) (s : Sheet) → Sound s → Passes s c → Balanced s c) where
  pub command_sound : (s : Sheet) (b : List ℕ) → T (sound s) → T (sound (command s b).sheet)
  unfolding renewed
  command_sound s b S = elim (outcome s b S) [
    | refusal n z q ↦ subst (λ (a : Answer). T (sound a.sheet)) (sym q) S
    | renews t e q ↦ subst (λ (a : Answer). T (sound a.sheet)) (sym q) (parts_sound (renumbered s) (renumber_sound s (sound_parts s S)))
    | obeyed c t e p q ↦ subst (λ (a : Answer). T (sound a.sheet)) (sym q) (parts_sound (result s c) (keeps c s (sound_parts s S) p))
  ]

  pub command_euler : (s : Sheet) (b : List ℕ) → T (sound s)
      → euler (command s b).sheet.cells ≡ euler s.cells +ℤ cond (accepted s b) (share_read s (decode b)) (pos 0)
  unfolding renewed
  command_euler s b S = elim (outcome s b S) [
    | refusal n z q ↦ rw q (sym (unmoved n z))
    | renews t e q ↦ rw (q, e) (renumber_euler s ∙ sym (+ℤ_idr (euler s.cells)))
    | obeyed c t e p q ↦ rw (q, e) (balanced_euler s c (balances c s (sound_parts s S) p))
  ]
    where
      unmoved : (n : ℕ) → (n ≡ 0 → ⊥) → euler s.cells +ℤ cond (eqb n 0) (share_read s (decode b)) (pos 0) ≡ euler s.cells
      unmoved n z = elim (either (eqb n 0)) [
        | inl e ↦ absurd (z (eqb-true n 0 e))
        | inr e ↦ rw e (+ℤ_idr (euler s.cells))
      ]

  pub command_delete : (s : Sheet) (b : List ℕ) → T (sound s) → DeleteExact s b
  unfolding question4 result
  command_delete s b S i t d a = elim (outcome s b S) [
    | refusal n z q ↦ absurd (z (eqb-true n 0 (ap (λ (x : Answer). eqb x.number 0) (sym q) ∙ true_of (accepted s b) a)))
    | obeyed c u e p q ↦ subst (λ (x : Answer). Took s x.sheet i) (sym q) (took c p (let z : c ≡ delete i = cc in z))
    | renews u e q ↦ absurd (let z : ◌≡◌ {A = Order} renumber (edit (delete i)) = cc in none z)
  ]
    where
      other : Order → Type 0
      other (edit c) = ⊥
      other renumber = Unit {0}

      none : ◌≡◌ {A = Order} renumber (edit (delete i)) → ⊥
      none z = subst other z tt

      took : (c : Command) → Passes s c → c ≡ delete i → Took s (result s c) i
      took c p z = rw z (deleted_took s (sound_parts s S) i (subst (λ (x : Command). T (question4 s x)) z p.four))

  pub after_sound : (s : Sheet) (bs : List (List ℕ)) → T (sound s) → T (sound (after s bs))
  after_sound = items_good command_step (λ (s : Sheet). T (sound s)) command_sound

  pub after_euler : (s : Sheet) (bs : List (List ℕ)) → T (sound s) → euler (after s bs).cells ≡ euler s.cells +ℤ shares s bs
  after_euler = items_sum command_step (λ (s : Sheet). T (sound s)) command_sound (λ (s : Sheet). euler s.cells) share_of command_euler

  pub after_deletes : (s : Sheet) (bs : List (List ℕ)) → T (sound s) → Deletes s bs
  after_deletes = items_each command_step (λ (s : Sheet). T (sound s)) command_sound DeleteExact command_delete

  empty_sound : T (sound empty)
  unfolding sound
  empty_sound = tt

  pub demand3_from : Demand3
  demand3_from bs =
      let S = after_sound empty bs empty_sound in
      record {
        stays_sound = S;
        stars_right = λ i l. star_right (after empty bs) S i l;
        euler_known = euler_of_lem (after empty bs) S;
        euler_sum = after_euler empty bs empty_sound ∙ +ℤ_idl (shares empty bs);
        deletes_exact = after_deletes empty bs empty_sound;
      }
