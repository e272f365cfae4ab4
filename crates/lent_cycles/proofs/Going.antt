-- A loop over some cycles, with the sum of the steps so far. Assumes nothing.
use Prim.Native.Nat.{ℕ, suc, ◌+◌, ◌-◌, ◌<◌, ◌≤◌}
use mathlib.Core.Path.{◌≡◌, ap, ap₂, sym, ◌∙◌}
use mathlib.Core.Bool.{Bool, true, false, ◌&&◌, cond}
use mathlib.Core.List.{List}
use native.Mathlib.Omega.{arith}
use lib.Dec.{leb}
use lib.ListN.{length, drop, get_or}
use borrow.Author.Tests.{le-leb, lt-leb}
use Rattle.number.specs.Said.{Said, done, no}
use Rattle.complex.specs.Sound.{steps_most}
use Rattle.store.specs.Edits.{places_of}
use Rattle.store.proofs.Lists.{sum_more, sum_le}
use Rattle.sound.specs.Rows.{Rows, cycle_good, all_from}
use Rattle.sound.proofs.Testing.{and_true, and_false}
use Rattle.lent_cycles.specs.Ring.{steps_upto, cycle_right, cycles_right}

module _ (t : Rows) (ns st : List ℕ) (k m : ℕ) where
  abbrev said : Bool → Said ℕ
  said b = cond b (done (steps_upto ns (k + m))) (no 1)

  -- i cycles are right, and have the steps up to `at`: the rest decides
  pub record Going (at i : ℕ) : Type 0 where
    pub sum : at ≡ steps_upto ns (k + i)
    pub fits : at ≤ steps_most
    pub rest : all_from (cycle_right t ns st) k m ≡ all_from (cycle_right t ns st) (k + i) (m - i)

  pub going_start : (at : ℕ) → at ≡ steps_upto ns k → at ≤ steps_most → Going at 0
  going_start at e h =
      let a : k ≡ k + 0 = omega arith in
      let b : m ≡ m - 0 = omega arith in
      record { sum = e ∙ ap (steps_upto ns) a; fits = h; rest = ap₂ (all_from (cycle_right t ns st)) a b }

  module _ (l : k + m ≤ length ns) (at i w : ℕ) (h : i < m) (g : Going at i) (e : w ≡ places_of 1 (get_or ns (k + i) 0)) where
    more : at + w ≡ steps_upto ns (k + i + 1)
    more = ap₂ ◌+◌ g.sum e ∙ sym (sum_more (places_of 1) ns (k + i) 0 (omega arith))

    pub going_over : steps_most - at < w → no 1 ≡ said (cycles_right t ns st k m)
    going_over f =
        let a = more in
        let b = sum_le (places_of 1) ns (k + i + 1) (k + m) (omega arith) in
        sym (ap said (and_false (all_from (cycle_right t ns st) k m) (lt-leb (steps_upto ns (k + m)) steps_most (omega (arith, a, b, f, g.fits)))))

    following : all_from (cycle_right t ns st) k m ≡ cycle_right t ns st (k + i) && all_from (cycle_right t ns st) (k + (i + 1)) (m - (i + 1))
    following =
        let a : m - i ≡ suc (m - (i + 1)) = omega arith in
        let b : suc (k + i) ≡ k + (i + 1) = omega arith in
        g.rest ∙ ap (all_from (cycle_right t ns st) (k + i)) a ∙ ap (λ (j : ℕ). cycle_right t ns st (k + i) && all_from (cycle_right t ns st) j (m - (i + 1))) b

    this : cycle_good t (get_or ns (k + i) 0) (drop at st) ≡ cycle_right t ns st (k + i)
    this = ap (λ (s : ℕ). cycle_good t (get_or ns (k + i) 0) (drop s st)) g.sum

    pub going_fail : cycle_good t (get_or ns (k + i) 0) (drop at st) ≡ false → no 1 ≡ said (cycles_right t ns st k m)
    going_fail f = sym (ap said (none (leb (steps_upto ns (k + m)) steps_most) (following ∙ and_false _ (sym this ∙ f))))
      where
        none : (b : Bool) {r : Bool} → r ≡ false → b && r ≡ false
        none true p = p
        none false p = λ j. false

    pub going_turn : w ≤ steps_most - at → cycle_good t (get_or ns (k + i) 0) (drop at st) ≡ true → Going (at + w) (i + 1)
    going_turn f c =
        let a : k + i + 1 ≡ k + (i + 1) = omega arith in
        record { sum = more ∙ ap (steps_upto ns) a; fits = omega (arith, f, g.fits); rest = following ∙ and_true _ (sym this ∙ c) }

  pub going_end : (at i : ℕ) → i ≡ m → Going at i → done at ≡ said (cycles_right t ns st k m)
  going_end at i e g =
      let s : at ≡ steps_upto ns (k + m) = g.sum ∙ ap (λ (j : ℕ). steps_upto ns (k + j)) e in
      let z : m - i ≡ 0 = omega arith in
      ap done s
      ∙ sym (ap said (and_true _ (le-leb (steps_upto ns (k + m)) steps_most (omega (arith, s, g.fits))) ∙ g.rest ∙ ap (all_from (cycle_right t ns st) (k + i)) z))
