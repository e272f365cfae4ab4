-- Moved cycles by flags: those at rising places, and the others. Assumes nothing.
use Prim.Native.Nat.{ℕ, zero, suc, ◌+◌, ◌<◌, ◌≤◌}
use mathlib.Core.Path.{◌≡◌, refl, ap, ap₂, sym, ◌∙◌}
use mathlib.Core.Bool.{Bool, true, false, not, cond, ◌&&◌, ◌||◌}
use mathlib.Core.List.{List, [], ◌∷◌, map}
use native.Mathlib.Omega.{arith}
use borrow.Author.Tests.{eqb-true, eqb-false, ne_eqb}
use lib.Dec.{eqb, leb, ltb, leb→le, ltb→lt, le→leb, lt→ltb}
use lib.ListN.{length, take, drop, get_or, length-map}
use lib.Seq.{drop-cons}
use Rattle.complex.specs.Lists.{cons_if, holds, places, without, chosen}
use Rattle.complex.proofs.Bools.{truth, true_of, both, pair}
use Rattle.store.specs.Edits.{kept}
use Rattle.script.specs.Walks.{Marks}

-- ---- rising places
rise_parts : (lo n : ℕ) (ns : List ℕ) (hi : ℕ) → places lo (n ∷ ns) hi ≡ true → (lo ≤ n) × ((n < hi) × (places (suc n) ns hi ≡ true))
rise_parts lo n ns hi e =
    let a = both (leb lo n) (ltb n hi && places (suc n) ns hi) (truth e) in
    let b = both (ltb n hi) (places (suc n) ns hi) a.1 in
    (leb→le lo n a.0, (ltb→lt n hi b.0, true_of (places (suc n) ns hi) b.1))

rise_from : (lo n : ℕ) (ns : List ℕ) (hi : ℕ) → lo ≤ n → n < hi → places (suc n) ns hi ≡ true → places lo (n ∷ ns) hi ≡ true
rise_from lo n ns hi h k e =
    true_of (places lo (n ∷ ns) hi)
    (pair (leb lo n) (ltb n hi && places (suc n) ns hi) (le→leb lo n h) (pair (ltb n hi) (places (suc n) ns hi) (lt→ltb n hi k) (truth e)))

not_held : (lo : ℕ) (ns : List ℕ) (hi j : ℕ) → places lo ns hi ≡ true → j < lo → holds j ns ≡ false
not_held lo [] hi j e h = refl
not_held lo (n ∷ ns) hi j e h =
    let p = rise_parts lo n ns hi e in
    let a = p.0 in
    rw (ne_eqb j n (λ q. omega arith), not_held (suc n) ns hi j p.1.1 (omega arith))

above : (i m : ℕ) → i ≤ m → (i ≡ m → ⊥) → i < m
above i m h f = omega arith

-- ---- the elements of whose places, counted from i, g does not hold
module _ {A : Type 0} where
  abbrev pub sifted : (ℕ → Bool) → ℕ → List A → List A
  sifted g i [] = []
  sifted g i (x ∷ xs) = cond (g i) (sifted g (suc i) xs) (x ∷ sifted g (suc i) xs)

  sifted_same : (g h : ℕ → Bool) (i : ℕ) (xs : List A) → ((j : ℕ) → i ≤ j → g j ≡ h j) → sifted g i xs ≡ sifted h i xs
  sifted_same g h i [] f = refl
  sifted_same g h i (x ∷ xs) f = ap₂ (λ (b : Bool) (l : List A). cond b l (x ∷ l)) (f i (omega arith)) (sifted_same g h (suc i) xs (λ j k. f j (omega arith)))

  pub kept_sifted : (g : ℕ → Bool) (flags : List Bool) → length flags ≡ 512 → ((j : ℕ) → j < 512 → get_or flags j false ≡ g j) → (i : ℕ) (xs : List A)
      → i + length xs ≤ 512
      → kept (take (length xs) (drop i flags)) xs ≡ sifted g i xs
  kept_sifted g flags s f i [] h = refl
  kept_sifted g flags s f i (x ∷ xs) h =
      ap (λ (l : List Bool). kept (take (suc (length xs)) l) (x ∷ xs)) (drop-cons flags i false (omega arith))
      ∙ ap₂ (λ (b : Bool) (l : List A). cond b l (x ∷ l)) (f i (omega arith)) (kept_sifted g flags s f (suc i) xs (omega arith))

  pub without_sifted : (ms : List ℕ) (i : ℕ) (xs : List A) → without ms i xs ≡ sifted (λ (j : ℕ). holds j ms) i xs
  without_sifted ms i [] = refl
  without_sifted ms i (x ∷ xs) = ap (cons_if (not (holds i ms)) x) (without_sifted ms (suc i) xs) ∙ pick (holds i ms) (sifted (λ (j : ℕ). holds j ms) (suc i) xs)
    where
      pick : (b : Bool) (r : List A) → cons_if (not b) x r ≡ cond b r (x ∷ r)
      pick true r = refl
      pick false r = refl

  -- the elements at rising places of l, of which xs is what follows the place i
  module _ (l : List A) (z : A) where
    pub chosen_sifted : (xs : List A) (i : ℕ) (ms : List ℕ) → places i ms (i + length xs) ≡ true → ((j : ℕ) → j < length xs → get_or l (i + j) z ≡ get_or xs j z)
        → chosen z ms l ≡ sifted (λ (j : ℕ). not (holds j ms)) i xs
    chosen_sifted [] i [] e f = refl
    chosen_sifted [] i (m ∷ ms) e f = absurd (let p = rise_parts i m ms (i + 0) e in let a = p.0 in let b = p.1.0 in omega arith)
    chosen_sifted (x ∷ xs) i [] e f = chosen_sifted xs (suc i) [] refl (λ j k. let q : suc i + j ≡ i + suc j = omega arith in
        ap (λ (n : ℕ). get_or l n z) q ∙ f (suc j) (omega arith))
    chosen_sifted (x ∷ xs) i (m ∷ ms) e f = go (eqb i m) refl (chosen_sifted xs (suc i))
      where
        parts : (i ≤ m) × ((m < i + suc (length xs)) × (places (suc m) ms (i + suc (length xs)) ≡ true))
        parts = rise_parts i m ms (i + suc (length xs)) e

        later : (j : ℕ) → j < length xs → get_or l (suc i + j) z ≡ get_or xs j z
        later j k = let q : suc i + j ≡ i + suc j = omega arith in ap (λ (n : ℕ). get_or l n z) q ∙ f (suc j) (omega arith)

        ends : i + suc (length xs) ≡ suc i + length xs
        ends = omega arith

        go : (b : Bool) → eqb i m ≡ b
            → ((ns : List ℕ) → places (suc i) ns (suc i + length xs) ≡ true → ((j : ℕ) → j < length xs → get_or l (suc i + j) z ≡ get_or xs j z)
            → chosen z ns l ≡ sifted (λ (j : ℕ). not (holds j ns)) (suc i) xs)
            → get_or l m z ∷ chosen z ms l ≡ cond (not (b || holds i ms)) (sifted (λ (j : ℕ). not (holds j (m ∷ ms))) (suc i) xs)
            (x ∷ sifted (λ (j : ℕ). not (holds j (m ∷ ms))) (suc i) xs)
        go true q ih =
            let w : i ≡ m = eqb-true i m q in
            let n : m ≡ i + 0 = omega arith in
            ap₂ (λ (y : A) (r : List A). y ∷ r) (ap (λ (n : ℕ). get_or l n z) n ∙ f 0 (omega arith))
            (ih ms (ap₂ (λ (u v : ℕ). places (suc u) ms v) w (sym ends) ∙ parts.1.1) later
            ∙ sifted_same (λ (j : ℕ). not (holds j ms)) (λ (j : ℕ). not (holds j (m ∷ ms))) (suc i) xs
            (λ j k. ap (λ (b : Bool). not (b || holds j ms)) (sym (ne_eqb j m (λ g. omega arith)))))
        go false q ih =
            let w = eqb-false i m q in
            let a = parts.0 in
            let b = parts.1.0 in
            let d : i < m = above i m a w in
            ih (m ∷ ms) (rise_from (suc i) m ms (suc i + length xs) (omega arith) (omega arith) (ap (places (suc m) ms) (sym ends) ∙ parts.1.1)) later
            ∙ ap (λ (b : Bool). cond (not b) (sifted (λ (j : ℕ). not (holds j (m ∷ ms))) (suc i) xs)
            (x ∷ sifted (λ (j : ℕ). not (holds j (m ∷ ms))) (suc i) xs))
            (sym (not_held (suc m) ms (i + suc (length xs)) i parts.1.1 (omega arith)))

-- ---- by flags
turned : (flags : List Bool) (j : ℕ) → j < length flags → get_or (map not flags) j false ≡ not (get_or flags j false)
turned [] j h = absurd (omega arith)
turned (b ∷ bs) zero h = refl
turned (b ∷ bs) (suc j) h = turned bs j (omega arith)

pub turned_size : {ms : List ℕ} {flags stays : List Bool} → Marks ms flags → stays ≡ map not flags → length stays ≡ 512
turned_size {ms} {flags} {stays} m e = ap length e ∙ length-map flags not ∙ m.size

module _ {A : Type 0} (ms : List ℕ) (flags : List Bool) (m : Marks ms flags) (xs : List A) (h : length xs ≤ 512) where
  pub without_kept : without ms 0 xs ≡ kept (take (length xs) flags) xs
  without_kept = without_sifted ms 0 xs ∙ sym (kept_sifted (λ (j : ℕ). holds j ms) flags m.size m.at 0 xs (omega arith))

  pub chosen_kept : (z : A) → places 0 ms (length xs) ≡ true → chosen z ms xs ≡ kept (take (length xs) (map not flags)) xs
  chosen_kept z e =
      let s = m.size in
      chosen_sifted xs z xs 0 ms (let n : 0 + length xs ≡ length xs = omega arith in ap (places 0 ms) n ∙ e) (λ j k. let n : 0 + j ≡ j = omega arith in
      ap (λ (i : ℕ). get_or xs i z) n)
      ∙ sym (kept_sifted (λ (j : ℕ). not (holds j ms)) (map not flags) (length-map flags not ∙ s)
      (λ j k. turned flags j (omega arith) ∙ ap not (m.at j k)) 0 xs (omega arith))
