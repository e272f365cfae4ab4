-- Many things, each read back from its bytes and spelled one way, are so together, also after their count. Assumes nothing.
use mathlib.Core.Path.{◌≡◌, refl, sym, ap, ◌∙◌, subst}
use mathlib.Core.List.{List, [], ◌∷◌, ◌++◌, append_assoc}
use mathlib.Core.Bool.{Bool}
use Prim.Native.Nat.{ℕ, zero, suc, ◌<◌}
use lib.Dec.{T}
use lib.ListN.{length}
use lib.Ieee.Fits.{and_i, and_l, and_r}
use Rattle.number.specs.Readers.{Read, got, bad, and_then, times, spread, all}
use Rattle.number.specs.Numbers.{numbers_end, read_number, spell, counted, counted_bytes}
use Rattle.number.proofs.Bytes.{Bytes, bytes_rest}
use Rattle.number.proofs.Laws.{not_bad, got_thing, got_rest, read_spell, spell_read, read_small}

-- P of every element
abbrev pub Each : {A : Type 0} → (A → Type 0) → List A → Type 0
Each P [] = Unit {0}
Each P (x ∷ xs) = P x × Each P xs

-- a test that every element passes
pub each_all : {A : Type 0} (p : A → Bool) (xs : List A) → T (all p xs) → Each (λ x. T (p x)) xs
each_all p [] h = tt
each_all p (x ∷ xs) h = (and_l (p x) (all p xs) h, each_all p xs (and_r (p x) (all p xs) h))

pub all_each : {A : Type 0} (p : A → Bool) (xs : List A) → Each (λ x. T (p x)) xs → T (all p xs)
all_each p [] h = tt
all_each p (x ∷ xs) h = and_i (p x) (all p xs) h.0 (all_each p xs h.1)

module _ {A : Type 0} (r : List ℕ → Read A) where
  -- ---- n + 1 things that were read: the first, and n more
  pub record Things (n : ℕ) (s t : List ℕ) (xs : List A) : Type 0 where
    pub head : A
    pub tail : List A
    pub between : List ℕ
    pub whole : xs ≡ head ∷ tail
    pub one : r s ≡ got head between
    pub others : times r n between ≡ got tail t

  pub times_cases : (n : ℕ) (s t : List ℕ) (xs : List A) → times r (suc n) s ≡ got xs t → Things n s t xs
  times_cases n s t xs = go (r s) refl
    where
      rest : (x : A) (u : List ℕ) → r s ≡ got x u → (q : Read (List A)) → times r n u ≡ q → and_then q (λ ys v. got (x ∷ ys) v) ≡ got xs t → Things n s t xs
      rest x u f (got ys v) g e =
          record {
            head = x;
            tail = ys;
            between = u;
            whole = sym (got_thing (x ∷ ys) xs v t e);
            one = f;
            others = g ∙ ap (got ys) (got_rest (x ∷ ys) xs v t e);
          }
      rest x u f bad g e = absurd (not_bad xs t e)

      go : (q : Read A) → r s ≡ q → and_then q (λ x u. and_then (times r n u) λ ys v. got (x ∷ ys) v) ≡ got xs t → Things n s t xs
      go (got x u) f e = rest x u f (times r n u) refl e
      go bad f e = absurd (not_bad xs t e)

  pub times_length : (n : ℕ) (s t : List ℕ) (xs : List A) → times r n s ≡ got xs t → length xs ≡ n
  times_length zero s t xs e = ap length (sym (got_thing [] xs s t e))
  times_length (suc n) s t xs e =
      let c = times_cases n s t xs e in
      ap length c.whole ∙ ap suc (times_length n c.between t c.tail c.others)

  -- ---- a count that was read, and so many things
  pub record Counted (s t : List ℕ) (xs : List A) : Type 0 where
    pub count : ℕ
    pub between : List ℕ
    pub number : read_number s ≡ got count between
    pub things : times r count between ≡ got xs t

  pub counted_cases : (s t : List ℕ) (xs : List A) → counted r s ≡ got xs t → Counted s t xs
  counted_cases s t xs = go (read_number s) refl
    where
      go : (q : Read ℕ) → read_number s ≡ q → and_then q (λ n u. times r n u) ≡ got xs t → Counted s t xs
      go (got n u) f e = record { count = n; between = u; number = f; things = e }
      go bad f e = absurd (not_bad xs t e)

  module _ (w : A → List ℕ) where
    -- ---- what is written is read back
    module _ (P : A → Type 0) (back : (x : A) → P x → (t : List ℕ) → r (w x ++ t) ≡ got x t) where
      pub times_back : (xs : List A) → Each P xs → (t : List ℕ) → times r (length xs) (spread w xs ++ t) ≡ got xs t
      times_back [] h t = refl
      times_back (x ∷ xs) h t =
          ap (times r (suc (length xs))) (append_assoc (w x) (spread w xs) t)
          ∙ ap (λ (q : Read A). and_then q λ y u. and_then (times r (length xs) u) λ ys v. got (y ∷ ys) v) (back x h.0 (spread w xs ++ t))
          ∙ ap (λ (q : Read (List A)). and_then q λ ys v. got (x ∷ ys) v) (times_back xs h.1 t)

      pub counted_back : (xs : List A) → Each P xs → length xs < numbers_end → (t : List ℕ) → counted r (counted_bytes w xs ++ t) ≡ got xs t
      counted_back xs h l t =
          ap (counted r) (append_assoc (spell (length xs)) (spread w xs) t)
          ∙ ap (λ (q : Read ℕ). and_then q λ n u. times r n u) (read_spell (length xs) (spread w xs ++ t) l)
          ∙ times_back xs h t

    -- ---- what is read was written so
    module _ (Q : A → Type 0) (from : (s t : List ℕ) (x : A) → Bytes s → r s ≡ got x t → Q x → s ≡ w x ++ t) where
      pub times_from : (n : ℕ) (s t : List ℕ) (xs : List A) → Bytes s → times r n s ≡ got xs t → Each Q xs → s ≡ spread w xs ++ t
      times_from zero s t xs B e h = got_rest [] xs s t e ∙ ap (λ (ys : List A). spread w ys ++ t) (got_thing [] xs s t e)
      times_from (suc n) s t xs B e h =
          let c = times_cases n s t xs e in
          let k : Each Q (c.head ∷ c.tail) = subst (Each Q) c.whole h in
          let f : s ≡ w c.head ++ c.between = from s c.between c.head B c.one k.0 in
          f
          ∙ ap (λ (u : List ℕ). w c.head ++ u) (times_from n c.between t c.tail (bytes_rest s (w c.head) c.between f B) c.others k.1)
          ∙ sym (append_assoc (w c.head) (spread w c.tail) t)
          ∙ ap (λ (ys : List A). spread w ys ++ t) (sym c.whole)

      pub counted_from : (s t : List ℕ) (xs : List A) → Bytes s → counted r s ≡ got xs t → Each Q xs → (s ≡ counted_bytes w xs ++ t) × (length xs < numbers_end)
      counted_from s t xs B e h =
          let c = counted_cases s t xs e in
          let l : length xs ≡ c.count = times_length c.count c.between t xs c.things in
          let f : s ≡ spell c.count ++ c.between = spell_read s c.between c.count B c.number in
          let g : c.between ≡ spread w xs ++ t = times_from c.count c.between t xs (bytes_rest s (spell c.count) c.between f B) c.things h in (
            f ∙ (λ i. spell (sym l i) ++ g i) ∙ sym (append_assoc (spell (length xs)) (spread w xs) t),
            subst (λ (n : ℕ). n
                < numbers_end) (sym l) (read_small s c.between c.count B c.number),
          )
