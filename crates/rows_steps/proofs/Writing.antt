-- Numbers written one after the other, and the steps of cycles swapped. Assumes nothing.
use Prim.Native.Nat.{ℕ, zero, suc, ◌+◌, ◌-◌, ◌<◌, ◌≤◌}
use mathlib.Core.Path.{◌≡◌, refl, ap, ap₂, sym, ◌∙◌}
use mathlib.Core.List.{List, [], ◌∷◌, ◌++◌, map, append_assoc, append-nil}
use mathlib.Core.Bool.{Bool, true, false, false≢true, cond}
use native.Mathlib.Omega.{arith}
use native.Mathlib.Numerals.{add-one}
use lib.Dec.{eqb}
use borrow.Author.Tests.{eq-eqb, ne_eqb}
use lib.ListN.{length, take, drop, set, get_or, length-set, length-append, length-drop, length-map}
use lib.Seq.{drop-cons, take-suc, take-add, take-suc-set, drop-drop, take_at, drop_at, drop-set-lt, get_or-drop}
use Rattle.rows_steps.specs.declared.Swap.{Swap}
use Rattle.complex.specs.Cells.{Halfedge, Cycle, lone, path}
use Rattle.complex.proofs.Bools.{both_true}
use Rattle.store.specs.Sheet.{real, all_real}
use Rattle.store.specs.View.{width, width_sum}
use Rattle.store.specs.Places.{word, num_of, cycle_words}
use Rattle.number.specs.Readers.{spread}
use Rattle.rows_steps.specs.Swap.{swap_word, swap_half, swap_cycle, swap_steps, swap_number, all_steps, all_numbers, Wrote}
use Rattle.store.proofs.Encode.{flat_append, words}
use Rattle.store.proofs.Lists.{map_append, sum_more, sum_le}
use Rattle.store.proofs.Grow.{no_more}

pub wrote_none : (l : List ℕ) (at : ℕ) → Wrote l at [] l
wrote_none l at = record { size = refl; front = no_more l at; back = refl }

pub wrote_one : (l : List ℕ) (at v : ℕ) → at < length l → Wrote l at (v ∷ []) (set l at v)
wrote_one l at v h = record {
  size = length-set l at v;
  front = ap (λ (n : ℕ). take n (set l at v)) (add-one at) ∙ take-suc-set l at v h;
  back = drop-set-lt (at
      + 1) l at v (omega arith);
}

pub wrote_then : (l m n xs ys : List ℕ) (at : ℕ) → Wrote l at xs m → Wrote m (at + length xs) ys n → Wrote l at (xs ++ ys) n
wrote_then l m n xs ys at p q =
    let e : at + length (xs ++ ys) ≡ at + length xs + length ys = omega (arith, length-append xs ys) in
    record {
      size = q.size ∙ p.size;
      front = ap (λ (k : ℕ). take k n) e ∙ q.front ∙ ap (λ (r : List ℕ). r ++ ys) p.front ∙ append_assoc (take at l) xs ys;
      back =
          ap (λ (k : ℕ). drop k n) e ∙ q.back ∙ sym (drop-drop (length ys) (at + length xs) m) ∙ ap (drop (length ys)) p.back
          ∙ drop-drop (length ys) (at + length xs) l
          ∙ ap (λ (k : ℕ). drop k l) (sym e);
    }

pub wrote_two : (l : List ℕ) (at a b : ℕ) → at + 1 < length l → Wrote l at (a ∷ b ∷ []) (set (set l at a) (at + 1) b)
wrote_two l at a b h =
    let g : at + 1 < length (set l at a) = omega (arith, length-set l at a) in
    wrote_then l (set l at a) (set (set l at a) (at + 1) b) (a ∷ []) (b ∷ []) at (wrote_one l at a (omega arith)) (wrote_one (set l at a) (at + 1) b g)

module _ (t : Swap) (s : ℕ) where
  pub swap_fore : s ≡ t.fore → swap_word t s ≡ take t.n (t.f1 ∷ t.f2 ∷ [])
  swap_fore e = rw (eq-eqb s t.fore e)

  pub swap_back : (s ≡ t.fore → ⊥) → s ≡ t.back → swap_word t s ≡ take t.n (t.b1 ∷ t.b2 ∷ [])
  swap_back f e = rw (ne_eqb s t.fore f, eq-eqb s t.back e)

  pub swap_other : (s ≡ t.fore → ⊥) → (s ≡ t.back → ⊥) → swap_word t s ≡ s ∷ []
  swap_other f g = rw (ne_eqb s t.fore f, ne_eqb s t.back g)

module _ (f : ℕ → List ℕ) (l : List ℕ) where
  pub flat_more : (i : ℕ) → i < length l → spread f (take (i + 1) l) ≡ spread f (take i l) ++ f (get_or l i 0)
  flat_more i h = rw (add-one, take-suc l i 0 h)
      (flat_append f (take i l) (get_or l i 0 ∷ []) ∙ ap (λ (r : List ℕ). spread f (take i l) ++ r) (append-nil (f (get_or l i 0))))

  pub flat_le : (i n : ℕ) → i ≤ n → length (spread f (take i l)) ≤ length (spread f (take n l))
  flat_le i n h =
      let e : n ≡ i + (n - i) = omega arith in
      rw e (rw (
        take-add i (n - i) l,
        flat_append f (take i l) (take (n - i) (drop i l)),
        length-append (spread f (take i l)) (spread f
            (take (n - i) (drop i l))),
      ) (omega arith))

pub width_some : (c : ℕ) → (c ≡ 0 → ⊥) → width c ≡ c
width_some zero h = absurd (h refl)
width_some (suc c) h = refl

module _ (t : Swap) where
  pub steps_some : (c : ℕ) (l : List ℕ) → (c ≡ 0 → ⊥) → swap_steps t c (take (width c) l) ≡ spread (swap_word t) (take c l)
  steps_some c l h =
      ap (λ (n : ℕ). swap_steps t c (take n l)) (width_some c h)
      ∙ ap (λ (b : Bool). cond b (take c l) (spread (swap_word t) (take c l))) (ne_eqb c 0 h)

  pub all_steps_snoc : (xs : List ℕ) (c : ℕ) (st : List ℕ) → all_steps t (xs ++ (c ∷ [])) st ≡ all_steps t xs st
      ++ swap_steps t c (take (width c) (drop (width_sum xs) st))
  all_steps_snoc [] c st = append-nil (swap_steps t c (take (width c) st))
  all_steps_snoc (x ∷ xs) c st =
      ap (λ (r : List ℕ). swap_steps t x (take (width x) st) ++ r) (all_steps_snoc xs c (drop (width x) st)
      ∙ ap (λ (q : List ℕ). all_steps t xs (drop (width x) st) ++ swap_steps t c (take (width c) q)) (drop-drop (width_sum xs) (width x) st))
      ∙ sym (append_assoc (swap_steps t x (take (width x) st)) (all_steps t xs (drop (width x) st))
      (swap_steps t c (take (width c) (drop (width x + width_sum xs) st))))

  pub all_numbers_snoc : (xs : List ℕ) (c : ℕ) (st : List ℕ)
      → all_numbers t (xs ++ (c ∷ [])) st ≡ all_numbers t xs st ++ (swap_number t c (take (width c) (drop (width_sum xs) st)) ∷ [])
  all_numbers_snoc [] c st = refl
  all_numbers_snoc (x ∷ xs) c st =
      ap (λ (r : List ℕ). swap_number t x (take (width x) st) ∷ r) (all_numbers_snoc xs c (drop (width x) st)
      ∙ ap (λ (q : List ℕ). all_numbers t xs (drop (width x) st) ++ (swap_number t c (take (width c) q) ∷ [])) (drop-drop (width_sum xs) (width x) st))

  pub all_steps_append : (xs ys : List ℕ) (st : List ℕ) → all_steps t (xs ++ ys) st ≡ all_steps t xs st ++ all_steps t ys (drop (width_sum xs) st)
  all_steps_append [] ys st = refl
  all_steps_append (x ∷ xs) ys st =
      ap (λ (r : List ℕ). swap_steps t x (take (width x) st) ++ r) (all_steps_append xs ys (drop (width x) st)
      ∙ ap (λ (q : List ℕ). all_steps t xs (drop (width x) st) ++ all_steps t ys q) (drop-drop (width_sum xs) (width x) st))
      ∙ sym (append_assoc (swap_steps t x (take (width x) st)) (all_steps t xs (drop (width x) st)) (all_steps t ys (drop (width x + width_sum xs) st)))

  pub all_steps_le : (ns : List ℕ) (i n : ℕ) (st : List ℕ) → i ≤ n → length (all_steps t (take i ns) st) ≤ length (all_steps t (take n ns) st)
  all_steps_le ns i n st h =
      let e : n ≡ i + (n - i) = omega arith in
      rw e (rw (
        take-add i (n - i) ns,
        all_steps_append (take i ns) (take (n - i) (drop i ns)) st,
        length-append (all_steps t (take i ns) st) (all_steps t (take (n - i) (drop i ns)) (drop (width_sum (take i ns)) st)),
      ) (omega arith))

-- the first i cycles are swapped, the others are as they were
pub record Swapping (t : Swap) (ns st : List ℕ) (out₀ : List ℕ) (i from at : ℕ) (cy out : List ℕ) : Type 0 where
  pub from_is : from ≡ width_sum (take i ns)
  pub at_is : at ≡ length (all_steps t (take i ns) st)
  pub cycles_size_lem : length cy ≡ length ns
  pub rest : drop i cy ≡ drop i ns
  pub numbers : take i cy ≡ all_numbers t (take i ns) st
  pub size : length out ≡ length out₀
  pub steps : take at out ≡ all_steps t (take i ns) st

pub swapping_start : (t : Swap) (ns st out : List ℕ) → Swapping t ns st out 0 0 0 ns out
swapping_start t ns st out = record { from_is = refl; at_is = refl; cycles_size_lem = refl; rest = refl; numbers = refl; size = refl; steps = refl }

module _ (t : Swap) (ns st out₀ : List ℕ) (i from at : ℕ) (cy out : List ℕ) (p : Swapping t ns st out₀ i from at cy out) (h : i < length ns) where
  pub unread : get_or cy i 0 ≡ get_or ns i 0
  unread = ap (λ (n : ℕ). get_or cy n 0) (omega arith) ∙ sym (get_or-drop i cy 0 0) ∙ ap (λ (q : List ℕ). get_or q 0 0) p.rest ∙ get_or-drop i ns 0 0
      ∙ ap (λ (n : ℕ). get_or ns n 0) (omega arith)

  run : ℕ → List ℕ
  run c = take (width c) (drop from st)

  pub more_steps_lem : (c : ℕ) → c ≡ get_or cy i 0 → all_steps t (take (i + 1) ns) st ≡ all_steps t (take i ns) st ++ swap_steps t c (take (width c) (drop from st))
  more_steps_lem c e =
      let g : get_or ns i 0 ≡ c = sym unread ∙ sym e in
      rw (add-one, take-suc ns i 0 h) (all_steps_snoc t (take i ns) (get_or ns i 0) st
      ∙ ap₂ (λ (k n : ℕ). all_steps t (take i ns) st ++ swap_steps t k (take (width k) (drop n st))) g (sym p.from_is))

  pub more_width : (c : ℕ) → c ≡ get_or cy i 0 → from + width c ≡ width_sum (take (i + 1) ns)
  more_width c e = ap₂ (λ (a k : ℕ). a + width k) p.from_is (e ∙ unread) ∙ sym (sum_more width ns i 0 h)

  pub swapping_turn : (c w k v : ℕ) (out' : List ℕ) → c ≡ get_or cy i 0 → k ≡ width c → w ≡ length (swap_steps t c (take (width c) (drop from st)))
      → v ≡ cond (eqb c 0) 0 w → Wrote out at (swap_steps t c (take (width c) (drop from st))) out'
      → Swapping t ns st out₀ (i + 1) (from + k) (at + w) (set cy i v) out'
  swapping_turn c w k v out' e hk hw hv o =
      let g : get_or ns i 0 ≡ c = sym unread ∙ sym e in
      let m = more_steps_lem c e in
      let s = p.cycles_size_lem in
      record {
        from_is = ap (λ (a : ℕ). from + a) hk ∙ more_width c e;
        at_is = ap₂ ◌+◌ p.at_is hw ∙ sym (length-append (all_steps t (take i ns) st) (swap_steps t c (take (width c) (drop from st)))) ∙ ap length (sym m);
        cycles_size_lem = length-set cy i v ∙ p.cycles_size_lem;
        rest = drop-set-lt (i + 1) cy i v (omega arith) ∙ sym (drop-drop 1 i cy) ∙ ap (drop 1) p.rest ∙ drop-drop 1 i ns;
        numbers =
            ap (λ (n : ℕ). take n (set cy i v)) (add-one i) ∙ take-suc-set cy i v (omega arith)
            ∙ ap₂ (λ (x : List ℕ) (y : ℕ). x ++ (y ∷ [])) p.numbers (hv ∙ number c hw)
            ∙ sym (rw (add-one, take-suc ns i 0 h) (all_numbers_snoc t (take i ns) (get_or ns i 0) st
            ∙ ap₂ (λ (a n : ℕ). all_numbers t (take i ns) st ++ (swap_number t a (take (width a) (drop n st)) ∷ [])) g (sym p.from_is)));
        size = o.size ∙ p.size;
        steps = ap (λ (n : ℕ). take (at + n) out') hw ∙ o.front ∙ ap (λ (x : List ℕ). x ++ swap_steps t c (take (width c) (drop from st))) p.steps ∙ sym m;
      }
    where
      number : (c : ℕ) → w ≡ length (swap_steps t c (take (width c) (drop from st))) → cond (eqb c 0) 0 w ≡ swap_number t c (take (width c) (drop from st))
      number zero u = refl
      number (suc n) u =
          let f : eqb (suc n) 0 ≡ false = ne_eqb (suc n) 0 (omega arith) in
          ap (λ (b : Bool). cond b 0 w) f ∙ u ∙ ap
          (λ (b : Bool). length (cond b (take (suc n) (drop from st)) (spread (swap_word t) (take (suc n) (drop from st))))) f
          ∙ sym (ap (λ (b : Bool). cond b 0 (length (spread (swap_word t) (take (suc n) (drop from st))))) f)

-- cycles put into arrays and swapped there are the swapped cycles
module _ (t : Swap) where
  swap_words : (hs : List Halfedge) → map word (spread (swap_half t) hs) ≡ spread (swap_word t) (map word hs)
  swap_words [] = refl
  swap_words (h ∷ hs) =
      map_append word (swap_half t h) (spread (swap_half t) hs) ∙ ap₂ (λ (a b : List ℕ). a ++ b) (words (swap_word t (word h))) (swap_words hs)

  -- a cycle's own steps at the front
  cycle_front : (k : Cycle) (r : List ℕ) → real k ≡ true → take (width (num_of k)) (cycle_words k ++ r) ≡ cycle_words k
  cycle_front (lone v) r h = refl
  cycle_front (path []) r h = absurd (false≢true h)
  cycle_front (path (x ∷ hs)) r h = take_at (map word (x ∷ hs)) r (suc (length hs)) (ap suc (length-map hs word))

  cycle_rest : (k : Cycle) (r : List ℕ) → real k ≡ true → drop (width (num_of k)) (cycle_words k ++ r) ≡ r
  cycle_rest (lone v) r h = refl
  cycle_rest (path []) r h = absurd (false≢true h)
  cycle_rest (path (x ∷ hs)) r h = drop_at (map word (x ∷ hs)) r (suc (length hs)) (ap suc (length-map hs word))

  cycle_steps : (k : Cycle) → real k ≡ true → swap_steps t (num_of k) (cycle_words k) ≡ cycle_words (swap_cycle t k)
  cycle_steps (lone v) h = refl
  cycle_steps (path []) h = absurd (false≢true h)
  cycle_steps (path (x ∷ hs)) h =
      ap (λ (b : Bool). cond b (map word (x ∷ hs)) (spread (swap_word t) (map word (x ∷ hs)))) (ne_eqb (suc (length hs)) 0 (omega arith))
      ∙ sym (swap_words (x ∷ hs))

  cycle_number : (k : Cycle) → real k ≡ true → swap_number t (num_of k) (cycle_words k) ≡ num_of (swap_cycle t k)
  cycle_number (lone v) h = refl
  cycle_number (path []) h = absurd (false≢true h)
  cycle_number (path (x ∷ hs)) h =
      ap (λ (b : Bool). cond b 0 (length (spread (swap_word t) (map word (x ∷ hs))))) (ne_eqb (suc (length hs)) 0 (omega arith))
      ∙ ap length (sym (swap_words (x ∷ hs))) ∙ length-map (spread (swap_half t) (x ∷ hs)) word

  pub swapped_steps : (ks : List Cycle) (r : List ℕ) → all_real ks ≡ true
      → all_steps t (map num_of ks) (spread cycle_words ks ++ r) ≡ spread cycle_words (map (swap_cycle t) ks)
  swapped_steps [] r h = refl
  swapped_steps (k ∷ ks) r h =
      let b = both_true (real k) (all_real ks) h in
      let q : List ℕ = spread cycle_words ks ++ r in
      ap (λ (l : List ℕ). swap_steps t (num_of k) (take (width (num_of k)) l) ++ all_steps t (map num_of ks) (drop (width (num_of k)) l))
      (append_assoc (cycle_words k) (spread cycle_words ks) r)
      ∙ ap₂ (λ (x y : List ℕ). swap_steps t (num_of k) x ++ all_steps t (map num_of ks) y) (cycle_front k q b.0) (cycle_rest k q b.0)
      ∙ ap₂ (λ (x y : List ℕ). x ++ y) (cycle_steps k b.0) (swapped_steps ks r b.1)

  pub swapped_numbers : (ks : List Cycle) (r : List ℕ) → all_real ks ≡ true
      → all_numbers t (map num_of ks) (spread cycle_words ks ++ r) ≡ map num_of (map (swap_cycle t) ks)
  swapped_numbers [] r h = refl
  swapped_numbers (k ∷ ks) r h =
      let b = both_true (real k) (all_real ks) h in
      let q : List ℕ = spread cycle_words ks ++ r in
      ap (λ (l : List ℕ). swap_number t (num_of k) (take (width (num_of k)) l) ∷ all_numbers t (map num_of ks) (drop (width (num_of k)) l))
      (append_assoc (cycle_words k) (spread cycle_words ks) r)
      ∙ ap₂ (λ (x y : List ℕ). swap_number t (num_of k) x ∷ all_numbers t (map num_of ks) y) (cycle_front k q b.0) (cycle_rest k q b.0)
      ∙ ap₂ (λ (x : ℕ) (y : List ℕ). x ∷ y) (cycle_number k b.0) (swapped_numbers ks r b.1)

-- a step more of a run
module _ (f : ℕ → List ℕ) (src : List ℕ) (from i n : ℕ) (h : from + n ≤ length src) (k : i < n) where
  pub run_flat : spread f (take (i + 1) (drop from src)) ≡ spread f (take i (drop from src)) ++ f (get_or src (from + i) 0)
  run_flat =
      let g : i < length (drop from src) = omega (arith, length-drop from src) in
      flat_more f (drop from src) i g ∙ ap (λ (s : ℕ). spread f (take i (drop from src)) ++ f s) (get_or-drop from src i 0)

  pub run_length : (w : ℕ) → w ≡ length (spread f (take i (drop from src)))
      → w + length (f (get_or src (from + i) 0)) ≡ length (spread f (take (i + 1) (drop from src)))
  run_length w e = ap (λ (m : ℕ). m + length (f (get_or src (from + i) 0))) e
      ∙ sym (length-append (spread f (take i (drop from src))) (f (get_or src (from + i) 0))) ∙ ap length (sym run_flat)

  pub run_le : (w : ℕ) → w ≡ length (spread f (take i (drop from src))) → w + length (f (get_or src (from + i) 0)) ≤ length (spread f (take n (drop from src)))
  run_le w e = let g = flat_le f (drop from src) (i + 1) n (omega arith) in omega (arith, run_length w e)

pub steps_lone : (t : Swap) (c : ℕ) (src : List ℕ) (from : ℕ) → c ≡ 0 → from < length src
    → swap_steps t c (take (width c) (drop from src)) ≡ get_or src from 0 ∷ []
steps_lone t c src from e h = ap (λ (k : ℕ). swap_steps t k (take (width k) (drop from src))) e ∙ ap (take 1) (drop-cons src from 0 h)

module _ (t : Swap) (ns st out₀ : List ℕ) (i n from at : ℕ) (cy out : List ℕ) (p : Swapping t ns st out₀ i from at cy out) (h : n ≤ length ns) (k : i < n)
    (c : ℕ) (e : c ≡ get_or cy i 0) where
  pub width_within : from + width c ≤ width_sum (take n ns)
  width_within =
      let g : i < length ns = omega arith in
      let m = sum_le width ns (i + 1) n (omega arith) in
      omega (arith, more_width t ns st out₀ i from at cy out p g c e)

  pub steps_within : at + length (swap_steps t c (take (width c) (drop from st))) ≤ length (all_steps t (take n ns) st)
  steps_within =
      let g : i < length ns = omega arith in
      let m = all_steps_le t ns (i + 1) n st (omega arith) in
      let u = ap length (more_steps_lem t ns st out₀ i from at cy out p g c e)
      ∙ length-append (all_steps t (take i ns) st) (swap_steps t c (take (width c) (drop from st))) in
      omega (arith, u, p.at_is)
