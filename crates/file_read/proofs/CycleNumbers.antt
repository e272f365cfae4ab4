-- A cycle in a file is its number and as many numbers as it takes places. Assumes nothing.
use Prim.Native.Nat.{ℕ, zero, suc, ◌+◌, ◌≤◌, ◌<◌}
use native.Mathlib.Omega.{arith}
use mathlib.Core.Path.{◌≡◌, refl, sym, ap, ◌∙◌}
use mathlib.Core.Bool.{Bool, true, false}
use mathlib.Core.List.{List, [], ◌∷◌, map}
use lib.ListN.{length, drop, set}
use lib.Seq.{take_all}
use lib.Dec.{eqb}
use borrow.Author.Tests.{ne_eqb}
use Rattle.number.specs.Readers.{Read, got, bad, and_then, times, spread}
use Rattle.number.specs.Numbers.{read_number}
use Rattle.number.proofs.Laws.{not_bad, got_thing}
use Rattle.number.proofs.Counted.{times_length}
use Rattle.complex.specs.Cells.{Halfedge, Cycle, lone, path}
use Rattle.complex.specs.Decode.{step_of, read_step, read_cycle}
use Rattle.complex.proofs.FileReaders.{then_from}
use Rattle.store.specs.View.{halfedge_of, width, cycle_of}
use Rattle.store.specs.Places.{cycle_words}
use Rattle.store.proofs.Encode.{numbers, places, cycles_real}
use Rattle.file_read.specs.declared.Used.{Used}
use Rattle.file_read.specs.Filling.{NumbersIn, CyclesIn, CyclesOver}
use Rattle.file_read.proofs.Adding.{added_one}

-- ---- the numbers of steps
abbrev halves : Read (List ℕ) → Read (List Halfedge)
halves q = and_then q λ vs u. got (map step_of vs) u

steps_numbers : (n : ℕ) (s : List ℕ) → times read_step n s ≡ halves (times read_number n s)
steps_numbers zero s = refl
steps_numbers (suc n) s = go (steps_numbers n) (read_number s)
  where
    rest : (v : ℕ) (q : Read (List ℕ)) → and_then (halves q) (λ hs u. got (step_of v ∷ hs) u) ≡ halves (and_then q λ vs u. got (v ∷ vs) u)
    rest v (got vs u) = refl
    rest v bad = refl

    go : ((t : List ℕ) → times read_step n t ≡ halves (times read_number n t)) → (q : Read ℕ)
        → and_then (and_then q λ v t. got (step_of v) t) (λ h t. and_then (times read_step n t) λ hs u. got (h ∷ hs) u)
        ≡ halves (and_then q λ v t. and_then (times read_number n t) λ vs u. got (v ∷ vs) u)
    go ih (got v t) = ap (λ (q : Read (List Halfedge)). and_then q λ hs u. got (step_of v ∷ hs) u) (ih t) ∙ rest v (times read_number n t)
    go ih bad = refl

-- ---- a cycle
-- after the length m of a cycle
abbrev cycle_after : Bool → ℕ → List ℕ → Read Cycle
cycle_after b m t = elim b [
  | true ↦ and_then (read_number t) λ v u. got (lone v) u
  | false ↦ and_then (times read_step m t) λ hs u. got (path hs) u
]

abbrev cycle_from : ℕ → Read (List ℕ) → Read Cycle
cycle_from m q = and_then q λ vs u. got (cycle_of m vs) u

after_length : (m : ℕ) (t : List ℕ) → cycle_after (eqb m 0) m t ≡ cycle_from m (times read_number (width m) t)
after_length zero t = go (read_number t)
  where
    go : (q : Read ℕ) → and_then q (λ v u. got (lone v) u) ≡ cycle_from zero (and_then q λ v u. got (v ∷ []) u)
    go (got v u) = refl
    go bad = refl
after_length (suc n) t =
    ap (λ (b : Bool). cycle_after b (suc n) t) (ne_eqb (suc n) 0 (λ z. omega arith))
    ∙ ap (λ (q : Read (List Halfedge)). and_then q λ hs u. got (path hs) u) (steps_numbers (suc n) t)
    ∙ go (times read_number (suc n) t) refl
  where
    go : (q : Read (List ℕ)) → times read_number (suc n) t ≡ q → and_then (halves q) (λ hs u. got (path hs) u) ≡ cycle_from (suc n) q
    go (got vs u) e =
        let l = times_length read_number (suc n) t u vs e in
        ap (λ (ws : List ℕ). got (path (map halfedge_of ws)) u) (sym (take_all (suc n) vs (omega arith)))
    go bad e = refl

abbrev numbered : Read ℕ → Read Cycle
numbered q = and_then q λ m t. cycle_from m (times read_number (width m) t)

cycle_is : (s : List ℕ) → read_cycle s ≡ numbered (read_number s)
cycle_is s = go (read_number s)
  where
    go : (q : Read ℕ) → and_then q (λ m t. cycle_after (eqb m 0) m t) ≡ numbered q
    go (got m t) = after_length m t
    go bad = refl

-- ---- one cycle
abbrev single : Read Cycle → Read (List Cycle)
single q = and_then q λ k t. got (k ∷ []) t

pub no_length : (s : List ℕ) (used : Used) → read_number s ≡ bad → CyclesOver (times read_cycle 1 s) used
no_length s used e ks t f k l = not_bad ks t (sym (ap single (cycle_is s ∙ ap numbered e)) ∙ f)

no_steps_lem : (s t : List ℕ) (m : ℕ) (used : Used) → read_number s ≡ got m t → times read_number (width m) t ≡ bad → CyclesOver (times read_cycle 1 s) used
no_steps_lem s t m used e g ks u f k l = not_bad ks u (sym (ap single (cycle_is s ∙ ap numbered e ∙ ap (cycle_from m) g)) ∙ f)

-- the places that the cycle takes
places_taken : (m : ℕ) (vs : List ℕ) → length vs ≡ width m → spread cycle_words (cycle_of m vs ∷ []) ≡ vs
places_taken m vs e =
    let h : width m + 0 ≤ length vs = omega arith in
    places (m ∷ []) vs h ∙ take_all (width m + 0) vs (omega arith)

pub too_long_lem : (s t : List ℕ) (m : ℕ) (used : Used) → read_number s ≡ got m t → 2048 < used.steps + width m → CyclesOver (times read_cycle 1 s) used
too_long_lem s t m used e h ks u f k l =
    then_from (times read_number (width m) t) (λ vs v. got (cycle_of m vs ∷ []) v) ks u
    (sym (ap single (cycle_is s ∙ ap numbered e) ∙ flat (times read_number (width m) t)) ∙ f) λ vs v g d.
    let n = times_length read_number (width m) t v vs g in
    let w : length (spread cycle_words (cycle_of m vs ∷ [])) ≡ width m = ap length (places_taken m vs n) ∙ n in
    let z : length (spread cycle_words ks) ≡ width m = ap (λ (x : List Cycle). length (spread cycle_words x)) (sym (got_thing (cycle_of m vs ∷ []) ks v u d))
    ∙ w in
    omega arith
  where
    flat : (q : Read (List ℕ)) → single (cycle_from m q) ≡ and_then q λ vs v. got (cycle_of m vs ∷ []) v
    flat (got vs v) = refl
    flat bad = refl

module _ (s : List ℕ) (at first m w : ℕ) (wide : w ≡ width m) (number : read_number (drop at s) ≡ got m (drop first s)) (used : Used) where
  pub no_numbers : times read_number w (drop first s) ≡ bad → CyclesOver (times read_cycle 1 (drop at s)) used
  no_numbers e = no_steps_lem (drop at s) (drop first s) m used number (ap (λ (n : ℕ). times read_number n (drop first s)) (sym wide) ∙ e)

  pub cycle_loaded : (counts steps steps' : List ℕ) (next : ℕ) → NumbersIn s first w steps used.steps steps' next → used.cycles < length counts
      → CyclesIn (times read_cycle 1 (drop at s)) s counts steps used (set counts used.cycles m) steps' next
      (record { bends = used.bends; cycles = used.cycles + 1; steps = used.steps + w })
  cycle_loaded counts steps steps' next N h =
      let vs = N.numbers in
      let l : length vs ≡ width m = times_length read_number w (drop first s) (drop next s) vs N.read ∙ wide in
      let k = cycle_of m vs in
      let r : width m + 0 ≤ length vs = omega arith in
      let p = places_taken m vs l in
      record {
        cycles = k ∷ [];
        read = ap single (cycle_is (drop at s) ∙ ap numbered number
            ∙ ap (cycle_from m) (ap (λ (n : ℕ). times read_number n (drop first s)) (sym wide) ∙ N.read));
        inside = N.inside;
        real = cycles_real (m ∷ []) vs r;
        counted = rw (numbers (m ∷ []) vs r) (added_one counts used.cycles m h);
        stepped = rw p N.added;
        same_bends = refl;
        more_cycles = refl;
        more_steps = ap (λ (n : ℕ). used.steps + n) (wide ∙ sym l ∙ ap length (sym p));
      }
