-- Walking a list in a script: what the place after it says of the bytes. Assumes nothing.
use mathlib.Core.Path.{◌≡◌, refl, sym, ap, ◌∙◌}
use mathlib.Core.List.{List, [], ◌∷◌, map}
use Prim.Native.Nat.{ℕ, suc, ◌+◌, ◌-◌, ◌≤◌, ◌<◌}
use native.Mathlib.Omega.{arith}
use lib.ListN.{length, drop, length-drop}
use Rattle.number.specs.Readers.{Read, got, bad, and_then, times}
use Rattle.number.specs.Said.{done, no}
use Rattle.number.specs.Numbers.{read_number}
use Rattle.number.proofs.Laws.{not_done, done_one}
use Rattle.complex.specs.Cells.{lone, path}
use Rattle.complex.specs.Decode.{step_of, read_step, read_cycle}
use Rattle.decode_parts.specs.Lists.{FieldAt, Found, list_of, skipped, things_read}
use Rattle.decode_parts.proofs.Rest.{Rest, Leaves, leaves_times, cycle_none, cycle_lone, cycle_path, steps_read}

-- a change of what was read moves no place
pub skipped_changed : {A B : Type 0} (f : A → B) (end : ℕ) (q : Read A) → skipped end (and_then q λ x t. got (f x) t) ≡ skipped end q
skipped_changed f end (got x t) = refl
skipped_changed f end bad = refl

module _ {A : Type 0} where
  pub skipped_none : (end : ℕ) (q : Read A) → skipped end q ≡ no 2 → q ≡ bad
  skipped_none end (got x t) e = absurd (not_done 2 (end - length t) (sym e))
  skipped_none end bad e = refl

  module _ (r : List ℕ → Read A) (s : List ℕ) where
    -- ---- a list, one thing after another
    pub one_more : (left : ℕ) → 0 < left → (t : List ℕ) → times r left t ≡ and_then (r t) λ x u. and_then (times r (left - 1) u) λ xs w. got (x ∷ xs) w
    one_more left h t = let e : left ≡ suc (left - 1) = omega arith in ap (λ (n : ℕ). times r n t) e

    module _ (at left : ℕ) (some : 0 < left) where
      pub skip_turn : (x : A) (next : ℕ) → r (drop at s) ≡ got x (drop next s)
          → skipped (length s) (times r (left - 1) (drop next s)) ≡ skipped (length s) (times r left (drop at s))
      skip_turn x next e =
          sym (skipped_changed (λ (xs : List A). x ∷ xs) (length s) (times r (left - 1) (drop next s)))
          ∙ ap (λ (q : Read A). skipped (length s) (and_then q λ y u. and_then (times r (left - 1) u) λ xs w. got (y ∷ xs) w)) (sym e)
          ∙ ap (skipped (length s)) (sym (one_more left some (drop at s)))

      pub skip_stop : r (drop at s) ≡ bad → no 2 ≡ skipped (length s) (times r left (drop at s))
      skip_stop e =
          ap (λ (q : Read A). skipped (length s) (and_then q λ y u. and_then (times r (left - 1) u) λ xs w. got (y ∷ xs) w)) (sym e)
          ∙ ap (skipped (length s)) (sym (one_more left some (drop at s)))

    pub skip_end : (at left : ℕ) → at ≤ length s → left ≤ 0 → done at ≡ skipped (length s) (times r left (drop at s))
    skip_end at left h z =
        let d : length (drop at s) ≡ length s - at = length-drop at s in
        let e : at ≡ length s - length (drop at s) = omega arith in
        let n : 0 ≡ left = omega arith in
        ap done e ∙ ap (λ (k : ℕ). skipped (length s) (times r k (drop at s))) n

  -- ---- a walk that answers the place after the list
  -- of n things from `at` on, those after the first i, from `place` on, end where all of them end
  module _ (r : List ℕ → Read A) (s : List ℕ) (at n : ℕ) where
    pub record Skipping (place i : ℕ) : Type 0 where
      pub fits : place ≤ length s
      pub ends : skipped (length s) (times r (n - i) (drop place s)) ≡ skipped (length s) (times r n (drop at s))

    pub skipping_start : at ≤ length s → Skipping at 0
    skipping_start h =
        let e : n - 0 ≡ n = omega arith in
        record { fits = h; ends = ap (λ (k : ℕ). skipped (length s) (times r k (drop at s))) e }

  module _ {r : List ℕ → Read A} {s : List ℕ} {at n place i : ℕ} (k : Skipping r s at n place i) where
    pub skipping_stop : i < n → Found r s place (no 2) → no 2 ≡ skipped (length s) (times r n (drop at s))
    skipping_stop some h = skip_stop r s place (n - i) (omega arith) h.is.1 ∙ k.ends

    pub skipping_turn : i < n → {x : A} {next : ℕ} → Found r s place (done (x, next)) → Skipping r s at n next (i + 1)
    skipping_turn some {x} {next} h =
        let e : n - (i + 1) ≡ n - i - 1 = omega arith in
        record {
          fits = h.is.fits;
          ends = ap (λ (m : ℕ). skipped (length s) (times r m (drop next s))) e
              ∙ skip_turn r s place (n - i) (omega arith) x next h.is.read ∙ k.ends;
        }

    pub skipping_end : n ≤ i → done place ≡ skipped (length s) (times r n (drop at s))
    skipping_end none = skip_end r s place (n - i) k.fits (omega arith) ∙ k.ends

  -- ---- the place after what was read
  module _ (r : List ℕ → Read A) (L : Leaves r) (s : List ℕ) where
    place_is : (at next : ℕ) (t : List ℕ) → Rest s at t → length s - length t ≡ next → (t ≡ drop next s) × (at ≤ next) × (next ≤ length s)
    place_is at next t q e =
        let l : length t ≡ length s - q.next = ap length q.is ∙ length-drop q.next s in
        let a = q.after in
        let f = q.fits in
        let p : q.next ≡ next = omega arith in
        (q.is ∙ ap (λ (k : ℕ). drop k s) p, omega arith, omega arith)

    pub skipped_one : (at next : ℕ) → at ≤ length s → skipped (length s) (r (drop at s)) ≡ done next → (x : A)
        × ((r (drop at s) ≡ got x (drop next s)) × (at ≤ next) × (next ≤ length s))
    skipped_one at next h e = go (r (drop at s)) refl e
      where
        go : (q : Read A) → r (drop at s) ≡ q → skipped (length s) q ≡ done next → (x : A)
            × ((r (drop at s) ≡ got x (drop next s)) × (at ≤ next) × (next ≤ length s))
        go (got x t) f p =
            let q = place_is at next t (L s at x t h f) (done_one (length s - length t) next p) in
            (x, (f ∙ ap (got x) q.0, q.1, q.2))
        go bad f p = absurd (not_done 2 next p)

    pub skipped_to : (at n next : ℕ) → at ≤ length s → skipped (length s) (times r n (drop at s)) ≡ done next
        → (times r n (drop at s) ≡ got (things_read r s at n) (drop next s)) × (at ≤ next) × (next ≤ length s)
    skipped_to at n next h e = go (times r n (drop at s)) refl e
      where
        go : (q : Read (List A)) → times r n (drop at s) ≡ q → skipped (length s) q ≡ done next
            → (times r n (drop at s) ≡ got (things_read r s at n) (drop next s)) × (at ≤ next) × (next ≤ length s)
        go (got xs t) f p =
            let q = place_is at next t (leaves_times r L n s at xs t h f) (done_one (length s - length t) next p) in
            (f ∙ (λ i. got (list_of (sym f i)) (q.0 i)), q.1, q.2)
        go bad f p = absurd (not_done 2 next p)

-- ---- a cycle: its length, then its vertex or its steps
pub cycle_stop : (s : List ℕ) (at : ℕ) → Found read_number s at (no 2) → no 2 ≡ skipped (length s) (read_cycle (drop at s))
cycle_stop s at h = ap (skipped (length s)) (sym (cycle_none (drop at s) h.is.1))

module _ {s : List ℕ} {at m first : ℕ} (size : FieldAt read_number s at m first) where
  pub cycle_vertex : m ≡ 0 → skipped (length s) (times read_number 1 (drop first s)) ≡ skipped (length s) (read_cycle (drop at s))
  cycle_vertex z =
      one (read_number (drop first s))
      ∙ ap (skipped (length s)) (sym (cycle_lone (drop at s) (drop first s) (size.read ∙ ap (λ (n : ℕ). got n (drop first s)) z)))
    where
      one : (q : Read ℕ) → skipped (length s) (and_then q λ x u. got (x ∷ []) u) ≡ skipped (length s) (and_then q λ v u. got (lone v) u)
      one (got v u) = refl
      one bad = refl

  pub cycle_steps : (m ≡ 0 → ⊥) → skipped (length s) (times read_number m (drop first s)) ≡ skipped (length s) (read_cycle (drop at s))
  cycle_steps z =
      sym (skipped_changed (map step_of) (length s) (times read_number m (drop first s)))
      ∙ ap (skipped (length s)) (sym (steps_read m (drop first s)))
      ∙ sym (skipped_changed path (length s) (times read_step m (drop first s)))
      ∙ ap (skipped (length s)) (sym (cycle_path (drop at s) (drop first s) m size.read z))
