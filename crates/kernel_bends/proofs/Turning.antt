-- A part of a list turned round, and a rotation as three of these. Assumes nothing.
use Prim.Native.Nat.{ℕ, zero, suc, ◌+◌, ◌-◌, ◌≤◌}
use mathlib.Core.Path.{◌≡◌, refl, ap, ap₂, sym, ◌∙◌}
use mathlib.Core.List.{List, [], ◌∷◌, ◌++◌, append_assoc, reverse, reverse-cons, reverse-append, reverse-reverse}
use native.Mathlib.Omega.{arith}
use borrow.Rule.Slice.PartMut.{put_mid}
use native.Mathlib.Numerals.{add-one}
use native.Mathlib.Nat.{le_of_suc-le-suc, not-suc-le-zero}
use lib.ListN.{length, take, drop, length-append, take-append-drop}
use lib.Seq.{slice, slice_empty, length-slice, length-take-le, take_at, drop_at, drop-drop}
use Rattle.std.proofs.lemmas.List.{drop-take}
use Rattle.kernel_bends.specs.Turned.{turned, rotated}

module _ {A : Type 0} where
  -- a list as its three parts
  pub split : (a : List A) (f t : ℕ) → f ≤ t → a ≡ take f a ++ (slice f t a ++ drop t a)
  split a zero t h = sym (take-append-drop t a)
  split a (suc f) zero h = absurd (not-suc-le-zero h)
  split [] (suc f) (suc t) h = refl
  split (x ∷ a) (suc f) (suc t) h = ap (λ (l : List A). x ∷ l) (split a f t (le_of_suc-le-suc h))

  -- a part that is turned by itself is turned in the whole
  pub turned_part : (f t : ℕ) (l part : List A) → f ≤ t → part ≡ reverse (take (t - f) (drop f l)) → put_mid f (t - f) l part ≡ turned f t l
  turned_part f t l part h e =
      let k : f + (t - f) ≡ t = omega arith in
      let s : take (t - f) (drop f l) ≡ slice f t l = sym (drop-take f (t - f) l) ∙ ap (λ (n : ℕ). drop f (take n l)) k in
      ap₂ (λ (u v : List A). take f l ++ (u ++ v)) (e ∙ ap reverse s) (drop-drop (t - f) f l ∙ ap (λ (n : ℕ). drop n l) k)

  -- ---- a list by its parts
  pub turned_is : (a b c : List A) (f t : ℕ) → length a ≡ f → length a + length b ≡ t → turned f t (a ++ (b ++ c)) ≡ a ++ (reverse b ++ c)
  turned_is a b c f t ha hb =
      let l = a ++ (b ++ c) in
      let tk : take t l ≡ a ++ b = ap (λ (q : List A). take t q) (sym (append_assoc a b c)) ∙ take_at (a ++ b) c t (length-append a b ∙ hb) in
      let s : slice f t l ≡ b = ap (drop f) tk ∙ drop_at a b f ha in
      let dr : drop t l ≡ c = ap (λ (q : List A). drop t q) (sym (append_assoc a b c)) ∙ drop_at (a ++ b) c t (length-append a b ∙ hb) in
      ap₂ (λ (u v : List A). u ++ (reverse v ++ drop t l)) (take_at a (b ++ c) f ha) s ∙ ap (λ (v : List A). a ++ (reverse b ++ v)) dr

  pub three : (l l1 l2 l3 : List A) (f m t : ℕ) → f ≤ m → m ≤ t → t ≤ length l → l1 ≡ turned f m l → l2 ≡ turned m t l1 → l3 ≡ turned f t l2
      → l3 ≡ rotated f m t l
  three l l1 l2 l3 f m t hf hm ht e1 e2 e3 =
      let a = take f l in
      let b = slice f m l in
      let c = slice m t l in
      let z = drop t l in
      let la : length a ≡ f = length-take-le f l (omega arith) in
      let lb : length b ≡ m - f = length-slice f m l (omega arith) in
      let lc : length c ≡ t - m = length-slice m t l ht in
      let rest : drop m l ≡ c ++ z =
      sym (drop_at (take m l) (drop m l) m (length-take-le m l (omega arith))) ∙ ap (drop m) (take-append-drop m l ∙ split l m t hm)
      ∙ drop_at (take m l) (c ++ z) m (length-take-le m l (omega arith)) in
      let rb : length (reverse b) ≡ m - f = length_reverse b ∙ lb in
      let rc : length (reverse c) ≡ t - m = length_reverse c ∙ lc in
      let f1 : l1 ≡ (a ++ reverse b) ++ (c ++ z) = e1 ∙ ap (λ (q : List A). a ++ (reverse b ++ q)) rest ∙ sym (append_assoc a (reverse b) (c ++ z)) in
      let lab : length (a ++ reverse b) ≡ m = length-append a (reverse b) ∙ omega arith in
      let f2 : l2 ≡ a ++ ((reverse b ++ reverse c) ++ z) =
      e2 ∙ ap (turned m t) f1 ∙ turned_is (a ++ reverse b) c z m t lab (omega arith) ∙ append_assoc a (reverse b) (reverse c ++ z)
      ∙ ap (λ (q : List A). a ++ q) (sym (append_assoc (reverse b) (reverse c) z)) in
      e3 ∙ ap (turned f t) f2 ∙ turned_is a (reverse b ++ reverse c) z f t la (omega (arith, length-append (reverse b) (reverse c)))
      ∙ ap (λ (q : List A). a ++ (q ++ z)) (reverse-append (reverse b) (reverse c) ∙ ap₂ (λ (u v : List A). u ++ v) (reverse-reverse c) (reverse-reverse b))
      ∙ ap (λ (q : List A). a ++ q) (append_assoc c b z)
    where
      length_reverse : (q : List A) → length (reverse q) ≡ length q
      length_reverse [] = refl
      length_reverse (x ∷ q) = ap length (reverse-cons x q) ∙ length-append (reverse q) (x ∷ []) ∙ ap (λ (n : ℕ). n + 1) (length_reverse q) ∙ add-one (length q)

  -- nothing moves
  pub rotated_none : (f m t : ℕ) (l : List A) → m ≡ f → f ≤ t → rotated f m t l ≡ l
  rotated_none f m t l e h =
      ap (λ (k : ℕ). rotated f k t l) e
      ∙ ap (λ (q : List A). take f l ++ (slice f t l ++ (q ++ drop t l))) (slice_empty f l)
      ∙ sym (split l f t h)

  pub rotated_all : (f m t : ℕ) (l : List A) → m ≡ t → f ≤ t → rotated f m t l ≡ l
  rotated_all f m t l e h =
      ap (λ (k : ℕ). rotated f k t l) e
      ∙ ap (λ (q : List A). take f l ++ (q ++ (slice f t l ++ drop t l))) (slice_empty t l)
      ∙ sym (split l f t h)
