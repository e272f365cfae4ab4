-- Steps swapped within one array: what is read is as it was, since what is written ends no later. Assumes nothing.
use Prim.Native.Nat.{ℕ, zero, suc, ◌+◌, ◌-◌, ◌<◌, ◌≤◌}
use mathlib.Core.Path.{◌≡◌, refl, ap, ap₂, sym, subst, ◌∙◌}
use mathlib.Core.List.{List, [], ◌∷◌, ◌++◌}
use mathlib.Core.Logic.{◌⊎◌, ⊎_elim}
use mathlib.Core.Bool.{Bool, true, false, cond}
use native.Mathlib.Omega.{arith}
use lib.Dec.{eqb}
use borrow.Author.Tests.{ne_eqb}
use lib.ListN.{length, take, drop, set, get_or, length-append, length-drop, length-take, take-append-drop}
use lib.Seq.{paste, drop-drop, get_or-drop, take-add, take-take, drop_at, drop-cons, length-take-le, get_or-take}
use Rattle.std.proofs.lemmas.List.{drop-take}
use Rattle.std.proofs.lemmas.List.Edits.{take-paste}
use Rattle.store.specs.View.{width, width_sum}
use Rattle.number.specs.Readers.{spread}
use Rattle.store.proofs.Encode.{flat_append}
use Rattle.store.proofs.Lists.{sum_append}
use Rattle.rows_steps.specs.declared.Swap.{Swap}
use Rattle.rows_steps.specs.Swap.{swap_word, swap_steps, swap_number, all_steps, all_numbers, Wrote, Swapped}
use Rattle.kernel_swap.specs.Swaps.{Ahead, Enough}
use Rattle.rows_steps.proofs.Writing.{all_steps_append, wrote_then, run_flat, run_length, width_some, width_within, unread, Swapping, swapping_turn}

-- ---- what is not yet read
module _ (l m ys : List ℕ) (at k : ℕ) (w : Wrote l at ys m) (h : at + length ys ≤ k) where
  pub wrote_rest : drop k m ≡ drop k l
  wrote_rest =
      let e : k ≡ at + length ys + (k - (at + length ys)) = omega arith in
      ap (λ (q : ℕ). drop q m) e ∙ sym (drop-drop (k - (at + length ys)) (at + length ys) m) ∙ ap (drop (k - (at + length ys))) w.back
      ∙ drop-drop (k - (at + length ys)) (at + length ys) l ∙ ap (λ (q : ℕ). drop q l) (sym e)

  pub wrote_unread : get_or m k 0 ≡ get_or l k 0
  wrote_unread =
      ap (λ (n : ℕ). get_or m n 0) (omega arith) ∙ sym (get_or-drop k m 0 0) ∙ ap (λ (q : List ℕ). get_or q 0 0) wrote_rest ∙ get_or-drop k l 0 0
      ∙ ap (λ (n : ℕ). get_or l n 0) (omega arith)

-- ---- how many steps there are
take_few : (n : ℕ) (l : List ℕ) → length (take n l) ≤ n
take_few n l = let e = length-take n l in omega arith

take_some : (n a : ℕ) (l : List ℕ) → 1 ≤ n → 1 ≤ length (take n (a ∷ l))
take_some zero a l h = absurd (omega arith)
take_some (suc n) a l h = omega arith

module _ (t : Swap) where
  word_few : t.n ≤ 1 → (s : ℕ) → length (swap_word t s) ≤ 1
  word_few h s = go (eqb s t.fore) (eqb s t.back)
    where
      go : (x y : Bool) → length (cond x (take t.n (t.f1 ∷ t.f2 ∷ [])) (cond y (take t.n (t.b1 ∷ t.b2 ∷ [])) (s ∷ []))) ≤ 1
      go true y = omega (arith, take_few t.n (t.f1 ∷ t.f2 ∷ []))
      go false true = omega (arith, take_few t.n (t.b1 ∷ t.b2 ∷ []))
      go false false = omega arith

  word_some : 1 ≤ t.n → (s : ℕ) → 1 ≤ length (swap_word t s)
  word_some h s = go (eqb s t.fore) (eqb s t.back)
    where
      go : (x y : Bool) → 1 ≤ length (cond x (take t.n (t.f1 ∷ t.f2 ∷ [])) (cond y (take t.n (t.b1 ∷ t.b2 ∷ [])) (s ∷ [])))
      go true y = take_some t.n t.f1 (t.f2 ∷ []) h
      go false true = take_some t.n t.b1 (t.b2 ∷ []) h
      go false false = omega arith

  spread_few : t.n ≤ 1 → (y : List ℕ) → length (spread (swap_word t) y) ≤ length y
  spread_few h [] = omega arith
  spread_few h (x ∷ y) = let r = spread_few h y in omega (arith, length-append (swap_word t x) (spread (swap_word t) y), word_few h x)

  spread_some : 1 ≤ t.n → (y : List ℕ) → length y ≤ length (spread (swap_word t) y)
  spread_some h [] = omega arith
  spread_some h (x ∷ y) = let r = spread_some h y in omega (arith, length-append (swap_word t x) (spread (swap_word t) y), word_some h x)

  steps_few : t.n ≤ 1 → (c : ℕ) (y : List ℕ) → length (swap_steps t c y) ≤ length y
  steps_few h c y = go (eqb c 0)
    where
      go : (x : Bool) → length (cond x y (spread (swap_word t) y)) ≤ length y
      go true = omega arith
      go false = spread_few h y

  steps_more : 1 ≤ t.n → (c : ℕ) (y : List ℕ) → length y ≤ length (swap_steps t c y)
  steps_more h c y = go (eqb c 0)
    where
      go : (x : Bool) → length y ≤ length (cond x y (spread (swap_word t) y))
      go true = omega arith
      go false = spread_some h y

  steps_append : (c : ℕ) (x y : List ℕ) → swap_steps t c (x ++ y) ≡ swap_steps t c x ++ swap_steps t c y
  steps_append c x y = go (eqb c 0)
    where
      go : (b : Bool) → cond b (x ++ y) (spread (swap_word t) (x ++ y)) ≡ cond b x (spread (swap_word t) x) ++ cond b y (spread (swap_word t) y)
      go true = refl
      go false = flat_append (swap_word t) x y

  all_few : t.n ≤ 1 → (ns st : List ℕ) → length (all_steps t ns st) ≤ width_sum ns
  all_few h [] st = omega arith
  all_few h (c ∷ ns) st =
      let r = all_few h ns (drop (width c) st) in
      omega (
        arith,
        length-append (swap_steps t c (take (width c) st)) (all_steps t ns (drop (width c) st)),
        steps_few h c (take
            (width c) st),
        take_few (width c) st,
      )

  all_more : 1 ≤ t.n → (ns st : List ℕ) → width_sum ns ≤ length st → width_sum ns ≤ length (all_steps t ns st)
  all_more h [] st l = omega arith
  all_more h (c ∷ ns) st l =
      let r = all_more h ns (drop (width c) st) (omega (arith, length-drop (width c) st)) in
      omega (
        arith,
        length-append (swap_steps t c (take (width c) st)) (all_steps t ns (drop (width c) st)),
        steps_more h c (take
            (width c) st),
        length-take-le (width c) st (omega arith),
      )

  -- what is written of a cycle ends no later than what is read of it
  module _ (ns st : List ℕ) (g i : ℕ) (hi : i < length ns) (hw : width_sum ns ≤ length st) where
    abbrev c : ℕ
    c = get_or ns i 0

    abbrev y : List ℕ
    y = drop (width_sum (take i ns)) st

    ns_is : ns ≡ take i ns ++ (c ∷ drop (suc i) ns)
    ns_is = sym (take-append-drop i ns) ∙ ap (λ (q : List ℕ). take i ns ++ q) (drop-cons ns i 0 hi)

    sum_is : width_sum ns ≡ width_sum (take i ns) + (width c + width_sum (drop (suc i) ns))
    sum_is = ap width_sum ns_is ∙ sum_append width (take i ns) (c ∷ drop (suc i) ns)

    all_is : length (all_steps t ns st) ≡ length (all_steps t (take i ns) st)
        + (length (swap_steps t c (take (width c) y)) + length (all_steps t (drop (suc i) ns) (drop (width c) y)))
    all_is =
        ap (λ (q : List ℕ). length (all_steps t q st)) ns_is ∙ ap length (all_steps_append t (take i ns) (c ∷ drop (suc i) ns) st)
        ∙ length-append (all_steps t (take i ns) st) (swap_steps t c (take (width c) y) ++ all_steps t (drop (suc i) ns) (drop (width c) y))
        ∙ ap (λ (n : ℕ). length (all_steps t (take i ns) st) + n)
        (length-append (swap_steps t c (take (width c) y)) (all_steps t (drop (suc i) ns) (drop (width c) y)))

    part : (j : ℕ) → j ≤ width c → length (swap_steps t c (take (width c) y)) ≡ length (swap_steps t c (take j y))
        + length (swap_steps t c (take (width c - j) (drop j y)))
    part j h =
        let e : width c ≡ j + (width c - j) = omega arith in
        ap (λ (n : ℕ). length (swap_steps t c (take n y))) e ∙ ap (λ (q : List ℕ). length (swap_steps t c q)) (take-add j (width c - j) y)
        ∙ ap length (steps_append c (take j y) (take (width c - j) (drop j y)))
        ∙ length-append (swap_steps t c (take j y)) (swap_steps t c (take (width c - j) (drop j y)))

    few : t.n ≤ 1 → (j : ℕ) → j ≤ width c → length (all_steps t (take i ns) st) + length (swap_steps t c (take j y)) ≤ g + width_sum (take i ns) + j
    few h j k = omega (arith, all_few h (take i ns) st, steps_few h c (take j y), take_few j y)

    grown : 1 ≤ t.n → length (all_steps t ns st) ≤ g + width_sum ns → (j : ℕ) → j ≤ width c
        → length (all_steps t (take i ns) st) + length (swap_steps t c (take j y)) ≤ g + width_sum (take i ns) + j
    grown h r j k =
        let ly = length-drop (width_sum (take i ns)) st in
        let s = sum_is in
        let lj : length (take (width c - j) (drop j y)) ≡ width c - j = length-take-le (width c - j) (drop j y) (omega (arith, length-drop j y)) in
        let m = all_more h (drop (suc i) ns) (drop (width c) y) (omega (arith, length-drop (width c) y)) in
        let p = part j k in
        let q = steps_more h c (take (width c - j) (drop j y)) in
        let a = all_is in
        omega arith

    pub ahead : Enough t ns st g → Ahead (swap_steps t c) (width c) y (length (all_steps t (take i ns) st)) (g + width_sum (take i ns))
    ahead r = record { before = λ j k. ⊎_elim (λ h. few h j k) (λ h. grown h.0 h.1 j k) r.room }

  -- ---- steps past those of the cycles do not matter
  module _ (c m : ℕ) (st st' : List ℕ) (e : take (c + m) st ≡ take (c + m) st') (h : c + m ≤ length st) (h' : c + m ≤ length st') where
    same_front : take c st ≡ take c st'
    same_front = sym (take-take c (c + m) st (omega arith)) ∙ ap (take c) e ∙ take-take c (c + m) st' (omega arith)

    same_rest : take m (drop c st) ≡ take m (drop c st')
    same_rest =
        sym (drop_at (take c st) (take m (drop c st)) c (length-take-le c st (omega arith))) ∙ ap (drop c) (sym (take-add c m st) ∙ e ∙ take-add c m st')
        ∙ drop_at (take c st') (take m (drop c st')) c (length-take-le c st' (omega arith))

  pub all_steps_front : (ns st st' : List ℕ) → take (width_sum ns) st ≡ take (width_sum ns) st' → width_sum ns ≤ length st → width_sum ns ≤ length st'
      → all_steps t ns st ≡ all_steps t ns st'
  all_steps_front [] st st' e h h' = refl
  all_steps_front (c ∷ ns) st st' e h h' =
      ap₂ (λ (x y : List ℕ). swap_steps t c x ++ y) (same_front (width c) (width_sum ns) st st' e h h')
      (all_steps_front ns (drop (width c) st) (drop (width c) st') (same_rest (width c) (width_sum ns) st st' e h h') (omega (arith, length-drop (width c) st))
      (omega (arith, length-drop (width c) st')))

  pub all_numbers_front : (ns st st' : List ℕ) → take (width_sum ns) st ≡ take (width_sum ns) st' → width_sum ns ≤ length st → width_sum ns ≤ length st'
      → all_numbers t ns st ≡ all_numbers t ns st'
  all_numbers_front [] st st' e h h' = refl
  all_numbers_front (c ∷ ns) st st' e h h' =
      ap₂ (λ (x : List ℕ) (y : List ℕ). swap_number t c x ∷ y) (same_front (width c) (width_sum ns) st st' e h h')
      (all_numbers_front ns (drop (width c) st) (drop (width c) st') (same_rest (width c) (width_sum ns) st st' e h h') (omega (arith, length-drop (width c) st))
      (omega (arith, length-drop (width c) st')))

  pub swapped_front : (ns st st' cy out : List ℕ) → take (width_sum ns) st ≡ take (width_sum ns) st' → width_sum ns ≤ length st → width_sum ns ≤ length st'
      → Swapped t ns st cy out → Swapped t ns st' cy out
  swapped_front ns st st' cy out e h h' w =
      let a = all_steps_front ns st st' e h h' in
      record { numbers = w.numbers ∙ all_numbers_front ns st st' e h h'; steps = subst (λ (q : List ℕ). take (length q) out ≡ q) a w.steps }

  pub room_front : (ns st st' : List ℕ) (g : ℕ) → take (width_sum ns) st ≡ take (width_sum ns) st' → width_sum ns ≤ length st → width_sum ns ≤ length st'
      → Enough t ns st g → Enough t ns st' g
  room_front ns st st' g e h h' r =
      record { room = subst (λ (q : List ℕ). (t.n ≤ 1) ⊎ ((1 ≤ t.n) × (length q ≤ g + width_sum ns))) (all_steps_front ns st st' e h h') r.room }

-- ---- numbers that go back
pub shifted : (l₀ l : List ℕ) (n g : ℕ) → g + n ≤ length l₀ → l ≡ paste l₀ g l₀ n → take n (drop g l) ≡ take n l₀
shifted l₀ l n g h e =
    sym (drop-take g n l)
    ∙ ap (λ (q : List ℕ). drop g (take (g + n) q)) e
    ∙ ap (drop g) (take-paste l₀ g l₀ n (omega arith) (omega arith))
    ∙ drop_at (take g l₀) (take n l₀) g (length-take-le g l₀ (omega arith))

-- ---- a step more of a run
module _ (t : Swap) (st₀ : List ℕ) (from n at i w : ℕ) (st : List ℕ) (h : from + n ≤ length st₀) (k : i < n)
    (a : Ahead (spread (swap_word t)) n (drop from st₀) at from)
    (e : w ≡ length (spread (swap_word t) (take i (drop from st₀)))) (o : Wrote st₀ at (spread (swap_word t) (take i (drop from st₀))) st) where
  place_read : get_or st (from + i) 0 ≡ get_or st₀ (from + i) 0
  place_read = wrote_unread st₀ st (spread (swap_word t) (take i (drop from st₀))) at (from + i) o (a.before i (omega arith))

  pub place_length : w + length (swap_word t (get_or st (from + i) 0)) ≡ length (spread (swap_word t) (take (i + 1) (drop from st₀)))
  place_length = ap (λ (s : ℕ). w + length (swap_word t s)) place_read ∙ run_length (swap_word t) st₀ from i n h k w e

  pub place_room : at + w + length (swap_word t (get_or st (from + i) 0)) ≤ from + i + 1
  place_room = let b = a.before (i + 1) (omega arith) in omega (arith, place_length)

  pub place_turn : (st' : List ℕ) → Wrote st (at + w) (swap_word t (get_or st (from + i) 0)) st'
      → Wrote st₀ at (spread (swap_word t) (take (i + 1) (drop from st₀))) st'
  place_turn st' p =
      let fl = ap (λ (s : ℕ). spread (swap_word t) (take i (drop from st₀)) ++ swap_word t s) place_read ∙ sym (run_flat (swap_word t) st₀ from i n h k) in
      subst (λ (y : List ℕ). Wrote st₀ at y st') fl
      (wrote_then st₀ st st' (spread (swap_word t) (take i (drop from st₀))) (swap_word t (get_or st (from + i) 0)) at o
      (subst (λ (q : ℕ). Wrote st (at + q) (swap_word t (get_or st (from + i) 0)) st') e p))

-- ---- a cycle
pub ahead_at : (f : List ℕ → List ℕ) (n : ℕ) (y : List ℕ) (at from : ℕ) → Ahead f n y at from → at ≤ from
ahead_at f n y at from a = omega (arith, a.before 0 (omega arith))

pub ahead_run : (t : Swap) (c w : ℕ) (y : List ℕ) (at from : ℕ) → (c ≡ 0 → ⊥) → w ≡ c → Ahead (swap_steps t c) (width c) y at from
    → Ahead (spread (swap_word t)) w y at from
ahead_run t c w y at from h e a =
    let k = width_some c h in
    record {
      before = λ j l.
          subst (λ (b : Bool). at + length (cond b (take j y) (spread (swap_word t) (take j y))) ≤ from + j) (ne_eqb c 0 h) (a.before j (omega arith));
    }

-- ---- a cycle more
module _ (t : Swap) (cy₀ out₀ : List ℕ) (g i n from at : ℕ) (cy out : List ℕ) (p : Swapping t cy₀ (drop g out₀) out₀ i from at cy out)
    (q : drop (g + from) out ≡ drop (g + from) out₀)
    (hn : n ≤ length cy₀) (hi : i < n) (hg : g + width_sum (take n cy₀) ≤ length out₀) (r : Enough t (take n cy₀) (drop g out₀) g) (c : ℕ)
    (e : c ≡ get_or cy i 0) where
  pub same_run : drop from (drop g out₀) ≡ drop (g + from) out
  same_run = drop-drop from g out₀ ∙ sym q

  ahead_source : Ahead (swap_steps t c) (width c) (drop from (drop g out₀)) at (g + from)
  ahead_source =
      let st = drop g out₀ in
      let ln = length-take-le n cy₀ hn in
      let u = ahead t (take n cy₀) st g i (omega arith) (omega (arith, length-drop g out₀)) r in
      let k : get_or (take n cy₀) i 0 ≡ c = get_or-take n cy₀ i 0 hi ∙ sym (unread t cy₀ st out₀ i from at cy out p (omega arith)) ∙ sym e in
      let m : take i (take n cy₀) ≡ take i cy₀ = take-take i n cy₀ (omega arith) in
      let u1 = subst (λ (l : List ℕ). Ahead (swap_steps t (get_or (take n cy₀) i 0)) (width (get_or (take n cy₀) i 0)) (drop (width_sum l) st)
      (length (all_steps t l st)) (g + width_sum l)) m u in
      let u2 = subst (λ (x : ℕ). Ahead (swap_steps t x) (width x) (drop (width_sum (take i cy₀)) st) (length (all_steps t (take i cy₀) st))
      (g + width_sum (take i cy₀))) k u1 in
      let u3 = subst (λ (x : ℕ). Ahead (swap_steps t c) (width c) (drop x st) (length (all_steps t (take i cy₀) st)) (g + x)) (sym p.from_is) u2 in
      subst (λ (x : ℕ). Ahead (swap_steps t c) (width c) (drop from st) x (g + from)) (sym p.at_is) u3

  pub cycle_ahead : Ahead (swap_steps t c) (width c) (drop (g + from) out) at (g + from)
  cycle_ahead = subst (λ (y : List ℕ). Ahead (swap_steps t c) (width c) y at (g + from)) same_run ahead_source

  pub cycle_end : at + length (swap_steps t c (take (width c) (drop (g + from) out))) ≤ g + from + width c
  cycle_end = cycle_ahead.before (width c) (omega arith)

  pub cycle_room_lem : from + width c ≤ width_sum (take n cy₀)
  cycle_room_lem = width_within t cy₀ (drop g out₀) out₀ i n from at cy out p hn hi c e

  pub cycle_turn : (w k v : ℕ) (out' : List ℕ) → k ≡ width c → w ≡ length (swap_steps t c (take (width c) (drop (g + from) out))) → v ≡ cond (eqb c 0) 0 w
      → Wrote out at (swap_steps t c (take (width c) (drop (g + from) out))) out'
      → (Swapping t cy₀ (drop g out₀) out₀ (i + 1) (from + k) (at + w) (set cy i v) out') × (drop (g + (from + k)) out' ≡ drop (g + (from + k)) out₀)
  cycle_turn w k v out' hk hw hv o =
      let s = sym same_run in
      let b = cycle_end in
      let z : g + (from + k) ≡ g + from + k = omega arith in (
        swapping_turn t cy₀ (drop g out₀) out₀ i from at cy out p (omega arith) c w k v out' e hk
            (hw ∙ ap (λ (y : List ℕ). length (swap_steps t c (take (width c) y))) s) hv
            (subst (λ (y : List ℕ). Wrote out at (swap_steps t c (take (width c) y)) out') s o),
        wrote_rest out out' (swap_steps t c (take (width c) (drop (g + from) out))) at (g + (from + k)) o (omega arith)
            ∙ ap (λ (x : ℕ). drop x out) z ∙ sym (drop-drop k (g + from) out) ∙ ap (drop k) q ∙ drop-drop k (g + from) out₀
            ∙ ap (λ (x : ℕ). drop x out₀) (sym z),
      )

-- ---- the steps that are further back
module _ (t : Swap) (ns st st' : List ℕ) (g m : ℕ) (em : m ≡ width_sum ns) (k : take m (drop g st') ≡ take m st) (hs : g + m ≤ length st)
    (l : length st' ≡ length st) where
  shifted_same : take (width_sum ns) (drop g st') ≡ take (width_sum ns) st
  shifted_same = subst (λ (x : ℕ). take x (drop g st') ≡ take x st) em k

  shifted_long : width_sum ns ≤ length (drop g st')
  shifted_long = omega (arith, length-drop g st')

  pub shifted_room : Enough t ns st g → Enough t ns (drop g st') g
  shifted_room = room_front t ns st (drop g st') g (sym shifted_same) (omega arith) shifted_long

  pub shifted_swapped : (cy out : List ℕ) → Swapped t ns (drop g st') cy out → Swapped t ns st cy out
  shifted_swapped cy out = swapped_front t ns (drop g st') st cy out shifted_same shifted_long (omega arith)
