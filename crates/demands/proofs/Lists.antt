-- Demand 3 of calls whose contracts say what the definitions do. Assumes nothing.
use Prim.Native.Nat.{ℕ}
use mathlib.Core.Path.{◌≡◌, refl, sym, ap, ◌∙◌, subst}
use mathlib.Core.Bool.{Bool, cond}
use mathlib.Core.List.{List, [], ◌∷◌, map}
use lib.Dec.{T, eqb}
use lib.IntN.{ℤ, pos, ◌+ℤ◌}
use Rattle.complex.specs.Cells.{Sheet, empty}
use Rattle.complex.specs.Sound.{sound, doubles}
use Rattle.complex.specs.Boundary.{star}
use Rattle.complex.specs.Euler.{euler}
use Rattle.complex.specs.Decode.{decode}
use Rattle.complex.specs.Calls.{Filled, star_call, EulerAnswer, euler_call}
use Rattle.complex.specs.Answer.{command}
use Rattle.complex.specs.Demands.{Each, after, share_read, shares, live, Took, Deletes}
use Rattle.complex.proofs.Bools.{truth}
use Rattle.complex.proofs.Obey.{euler_of_lem}
use Rattle.complex.proofs.Star.{star_right}
use Rattle.complex.proofs.Doubles.{after_doubles}
use Rattle.complex.proofs.Demand.{demand3}
use Rattle.rows_star.specs.declared.Counted.{Counted}
use Rattle.rows_star.specs.Calls.{star_answered}
use Rattle.rows_euler.specs.declared.EulerNumber.{EulerNumber}
use Rattle.demands.specs.Lists.{Calls, StarGiven, state_after, shares_of, DeletesOf, Ends, AfterCalls}

module _ {State Item : Type 0} (k : Calls State Item) where
  -- on sound states the contracts are the definitions
  pub record Right : Type 0 where
    pub sheets : (s : State) → T (k.sound s) → T (sound (k.sheet s))
    pub stars : (s : State) → T (k.sound s) → (i : ℕ) (buffer : List ℕ) → k.star s i buffer ≡ star_call (k.sheet s) i buffer
    pub eulers : (s : State) → T (k.sound s) → k.euler s ≡ euler_call (k.sheet s)

  -- a command answered as the definitions do, and left a sound state
  pub record Obeys (s : State) (i : Item) : Type 0 where
    pub number : (k.step s i).number ≡ (command (k.sheet s) (k.bytes i)).number
    pub sheet : k.sheet (k.step s i).state ≡ (command (k.sheet s) (k.bytes i)).sheet
    pub sound : T (k.sound (k.step s i).state)

-- ---- what star and Euler answer to a state that the definitions' list ends with
module _ {State Item : Type 0} (k : Calls State Item) (right : Right k) where
  module _ (s : State) (S : T (k.sound s)) where
    star_given : (i : ℕ) → live (k.sheet s) i → (buffer exit : List ℕ) (r : Counted)
        → star_answered r exit ≡ k.star s i buffer → StarGiven (star (k.sheet s).cells i) buffer exit r
    star_given i l buffer exit r h =
        let p = star_right (k.sheet s) (right.sheets s S) i l in
        let q : star_answered r exit ≡ star_call (k.sheet s) i buffer = h ∙ right.stars s S i buffer in
        record {
          fits = λ z. let e = q ∙ p.fits buffer z in (ap (λ (f : Filled). f.number) e, ap (λ (f : Filled). f.count) e, ap (λ (f : Filled). f.buffer) e);
          short = λ z. let e = q ∙ p.short buffer z in (ap (λ (f : Filled). f.number) e, ap (λ (f : Filled). f.count) e, ap (λ (f : Filled). f.buffer) e);
        }

    pub ends_after : (bs : List (List ℕ)) → k.sheet s ≡ after empty bs → Ends k s (shares empty bs)
    ends_after bs e =
        record {
          stays_sound = S;
          all_f64 = subst (λ (x : Sheet). T (doubles x)) (sym e) (after_doubles bs);
          stars_right = λ i l. star_right (k.sheet s) (right.sheets s S) i l;
          stars_given = star_given;
          euler_given =
              λ r h. let q = h ∙ right.eulers s S ∙ euler_of_lem (k.sheet s) (right.sheets s S) in
              (ap (λ (x : EulerAnswer). x.number) q, ap (λ (x : EulerAnswer). x.value) q);
          euler_sum = ap (λ (x : Sheet). euler x.cells) e ∙ (demand3 bs).euler_sum;
        }

  -- ---- answers that meet a contract, one after another, are those of the definitions
  module _ (Contract : State → Item → Type 0) (obeys : (s : State) (i : Item) → T (k.sound s) → Contract s i → Obeys k s i) where
    record Follows (s : State) (is : List Item) : Type 0 where
      sheet : k.sheet (state_after k s is) ≡ after (k.sheet s) (map k.bytes is)
      sound : T (k.sound (state_after k s is))
      sums : shares_of k s is ≡ shares (k.sheet s) (map k.bytes is)
      deletes : Deletes (k.sheet s) (map k.bytes is) → DeletesOf k s is

    follows : (s : State) (is : List Item) → T (k.sound s) → Each k.step Contract s is → Follows s is
    follows s [] S a = record { sheet = refl; sound = S; sums = refl; deletes = λ t. tt }
    follows s (i ∷ is) S a =
        let o = obeys s i S a.0 in
        let bs = map k.bytes is in
        let x : ℤ = share_read (k.sheet s) (decode (k.bytes i)) in
        let z : Follows (k.step s i).state is = follows (k.step s i).state is o.sound a.1 in
        record {
          sheet = z.sheet ∙ ap (λ (y : Sheet). after y bs) o.sheet;
          sound = z.sound;
          sums =
              ap (λ (y : ℤ). cond (eqb (k.step s i).number 0) x (pos 0) +ℤ y) (z.sums ∙ ap (λ (y : Sheet). shares y bs) o.sheet)
              ∙ ap (λ (n : ℕ). cond (eqb n 0) x (pos 0) +ℤ shares (command (k.sheet s) (k.bytes i)).sheet bs) o.number;
          deletes = λ t. (
            (λ j u q n. subst (λ (y : Sheet). Took (k.sheet s) y j) (sym o.sheet) (t.0 j u q (truth (ap (λ (m : ℕ). eqb m 0) (sym o.number ∙ n))))),
            z.deletes (subst (λ (y : Sheet). Deletes y bs) (sym o.sheet) t.1),
          );
        }

    pub after_calls : (s : State) (is : List Item) → k.sheet s ≡ empty → T (k.sound s) → Each k.step Contract s is → AfterCalls k s is
    after_calls s is e S a =
        let f = follows s is S a in
        let bs = map k.bytes is in
        let q : k.sheet (state_after k s is) ≡ after empty bs = f.sheet ∙ ap (λ (y : Sheet). after y bs) e in
        let n : shares_of k s is ≡ shares empty bs = f.sums ∙ ap (λ (y : Sheet). shares y bs) e in
        record {
          reached = q;
          ends = subst (λ (y : ℤ). Ends k (state_after k s is) y) (sym n) (ends_after (state_after k s is) f.sound bs q);
          deletes_exact = f.deletes (subst (λ (y : Sheet). Deletes y bs) (sym e) (demand3 bs).deletes_exact);
        }
