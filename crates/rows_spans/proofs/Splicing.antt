-- Runs of numbers: the places they stand for, and one run in the place of another. Assumes nothing.
use Prim.Native.Nat.{ℕ, zero, suc, ◌+◌, ◌<◌, ◌≤◌}
use mathlib.Core.Path.{◌≡◌, refl, ap, ap₂, sym, ◌∙◌}
use mathlib.Core.List.{List, [], ◌∷◌, ◌++◌, append_assoc}
use native.Mathlib.Omega.{arith}
use native.Mathlib.Numerals.{add-one}
use lib.ListN.{length, take, drop, set, length-append, length-drop}
use lib.Seq.{take-add, take-take, take_all, take_at, drop_at, drop-drop, length-take-le, take-suc-set, paste, take-paste}
use Rattle.complex.specs.Lists.{total}
use Rattle.store.specs.Edits.{places_of}
use Rattle.store.proofs.Lists.{sum_append}
use Rattle.store.proofs.Stands.{Begins, begins_split, take_begins}
use Rattle.rows_spans.specs.declared.Span.{Span}
use Rattle.rows_spans.specs.Runs.{span_of, Spliced}

module _ {A : Type 0} where
  -- a run within a front
  pub run_take : (k i n : ℕ) (l : List A) → i + k ≤ n → take k (drop i (take n l)) ≡ take k (drop i l)
  run_take k zero n l h = take-take k n l (omega arith)
  run_take k (suc i) zero l h = absurd (omega arith)
  run_take k (suc i) (suc n) [] h = refl
  run_take k (suc i) (suc n) (x ∷ l) h = run_take k i n l (omega arith)

  -- the second of three parts, and the third
  pub part_two : (a b c : List A) (i k : ℕ) → length a ≡ i → length b ≡ k → take k (drop i (a ++ (b ++ c))) ≡ b
  part_two a b c i k e f = ap (take k) (drop_at a (b ++ c) i e) ∙ take_at b c k f

  pub part_three : (a b c : List A) (i k : ℕ) → length a ≡ i → length b ≡ k → drop (i + k) (a ++ (b ++ c)) ≡ c
  part_three a b c i k e f = sym (drop-drop k i (a ++ (b ++ c))) ∙ ap (drop k) (drop_at a (b ++ c) i e) ∙ drop_at b c k f

  -- what stands before a pasted run, and the run itself
  pub paste_front : (l : List A) (at : ℕ) (s : List A) (n : ℕ) → at ≤ length l → n ≤ length s → take at (paste l at s n) ≡ take at l
  paste_front l at s n h k =
      sym (run_take at 0 (at + n) (paste l at s n) (omega arith)) ∙ ap (take at) (take-paste l at s n h k)
      ∙ take_at (take at l) (take n s) at (length-take-le at l h)

  pub paste_run : (l : List A) (at : ℕ) (s : List A) (n : ℕ) → at ≤ length l → n ≤ length s → take n (drop at (paste l at s n)) ≡ take n s
  paste_run l at s n h k =
      sym (run_take n at (at + n) (paste l at s n) (omega arith)) ∙ ap (λ (q : List A). take n (drop at q)) (take-paste l at s n h k)
      ∙ ap (take n) (drop_at (take at l) (take n s) at (length-take-le at l h)) ∙ take_all n (take n s) (omega (arith, length-take-le n s k))

  -- a run, and what was put down after it
  run_more : (l out x : List A) (j m : ℕ) → j + m ≤ length l → take (j + m + length x) out ≡ take (j + m) l ++ x
      → take (m + length x) (drop j out) ≡ take m (drop j l) ++ x
  run_more l out x j m h e =
      let k : j + (m + length x) ≡ j + m + length x = omega arith in
      let lm : length (take m (drop j l)) ≡ m = length-take-le m (drop j l) (omega (arith, length-drop j l)) in
      sym (run_take (m + length x) j (j + m + length x) out (omega arith))
      ∙ ap (λ (q : List A). take (m + length x) (drop j q)) (e ∙ ap (λ (q : List A). q ++ x) (take-add j m l) ∙ append_assoc (take j l) (take m (drop j l)) x)
      ∙ ap (take (m + length x)) (drop_at (take j l) (take m (drop j l) ++ x) j (length-take-le j l (omega arith)))
      ∙ take_all (m + length x) (take m (drop j l) ++ x) (omega (arith, length-append (take m (drop j l)) x))

  pub run_set : (l : List A) (j m : ℕ) (v : A) → j + m < length l → take (m + 1) (drop j (set l (j + m) v)) ≡ take m (drop j l) ++ (v ∷ [])
  run_set l j m v h = run_more l (set l (j + m) v) (v ∷ []) j m (omega arith)
      (ap (λ (i : ℕ). take i (set l (j + m) v)) (add-one (j + m)) ∙ take-suc-set l (j + m) v h)

-- ---- the places that runs stand for
module _ (z : ℕ) where
  pub span_take : (l : List ℕ) (n : ℕ) (s : Span) → s.first + s.count + s.rest ≤ n → span_of z (take n l) s ≡ span_of z l s
  span_take l n s h =
      let a = ap (total (places_of z)) (run_take s.first 0 n l (omega arith)) in
      let b = ap (total (places_of z)) (run_take s.count s.first n l (omega arith)) in
      let c = ap (total (places_of z)) (run_take s.rest (s.first + s.count) n l (omega arith)) in
      λ i. record { first = a i; count = b i; rest = c i }

  sum_split : (l : List ℕ) (i k : ℕ) → total (places_of z) (take (i + k) l) ≡ total (places_of z) (take i l) + total (places_of z) (take k (drop i l))
  sum_split l i k = ap (total (places_of z)) (take-add i k l) ∙ sum_append (places_of z) (take i l) (take k (drop i l))

  -- all places are those before the run, of the run and after it
  pub span_sum : (l : List ℕ) (s : Span) → (span_of z l s).first + (span_of z l s).count + (span_of z l s).rest
      ≡ total (places_of z) (take (s.first + s.count + s.rest) l)
  span_sum l s = sym (sum_split l (s.first + s.count) s.rest ∙ ap (λ (n : ℕ). n + (span_of z l s).rest) (sum_split l s.first s.count))

  pub span_parts : (a b c t : List ℕ) (s : Span) → length a ≡ s.first → length b ≡ s.count → length c ≡ s.rest
      → span_of z (a ++ (b ++ (c ++ t))) s ≡ record { first = total (places_of z) a; count = total (places_of z) b; rest = total (places_of z) c }
  span_parts a b c t s e f g =
      let p = ap (total (places_of z)) (take_at a (b ++ (c ++ t)) s.first e) in
      let q = ap (total (places_of z)) (part_two a b (c ++ t) s.first s.count e f) in
      let r = ap (total (places_of z)) (ap (take s.rest) (part_three a b (c ++ t) s.first s.count e f) ∙ take_at c t s.rest g) in
      λ i. record { first = p i; count = q i; rest = r i }

-- what began with three parts begins with a new one in the place of the second
pub spliced_begins : (old new out a b c x : List ℕ) (s : Span) (n : ℕ) → Begins old (a ++ (b ++ c)) → length a ≡ s.first → length b ≡ s.count
    → length c ≡ s.rest
    → take n new ≡ x → s.first + n + s.rest ≤ length out → Spliced old s new n out → Begins out (a ++ (x ++ c))
spliced_begins old new out a b c x s n o e f g k h p =
    let t = drop (length (a ++ (b ++ c))) old in
    let w : old ≡ a ++ (b ++ (c ++ t)) = begins_split o ∙ append_assoc a (b ++ c) t ∙ ap (λ (q : List ℕ). a ++ q) (append_assoc b c t) in
    take_begins (s.first + n + s.rest) h
    (p.front
    ∙ ap₂ (λ (u v : List ℕ). u ++ (take n new ++ v))
    (ap (take s.first) w ∙ take_at a (b ++ (c ++ t)) s.first e)
    (ap (λ (q : List ℕ). take s.rest (drop (s.first + s.count) q)) w ∙ ap (take s.rest) (part_three a b (c ++ t) s.first s.count e f)
    ∙ take_at c t s.rest g)
    ∙ ap (λ (q : List ℕ). a ++ (q ++ c)) k)
