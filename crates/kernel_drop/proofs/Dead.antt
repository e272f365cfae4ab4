-- One row goes: what stays of rows and of their places. Assumes nothing.
use Prim.Native.Nat.{ℕ, zero, suc, ◌+◌, ◌-◌, ◌<◌, ◌≤◌}
use native.Mathlib.Omega.{arith}
use mathlib.Core.Path.{◌≡◌, refl, sym, ap, ◌∙◌, subst}
use mathlib.Core.Bool.{Bool, true, false}
use mathlib.Core.List.{List, [], ◌∷◌, ◌++◌, append_assoc}
use lib.ListN.{length, get_or, set, take, drop, replicate}
use lib.Seq.{take-nil, take-add, drop-drop, length-take-le, take-set-lt}
use Rattle.complex.specs.Lists.{total}
use Rattle.store.specs.Edits.{kept, places_of, spread_flags, Compacted, PlacesKept, CyclesKept}
use Rattle.rows_slide.proofs.Sliding.{kept_living}
use Rattle.rows_slide.proofs.Runs.{spread_same}
use Rattle.rows_new.specs.Runs.{run_at}
use Rattle.kernel_bends.specs.Turned.{rotated, moved_last}
use Rattle.kernel_bends.proofs.Last.{twice_length, twice_front, joined_length, joined_front}

-- the flags of one dead row of n
abbrev pub one_dead : ℕ → ℕ → List Bool
one_dead n row = set (replicate n false) row true

pub take_replicate : (n m : ℕ) → n ≤ m → take n (replicate m false) ≡ replicate n false
take_replicate zero m h = refl
take_replicate (suc n) zero h = absurd (omega arith)
take_replicate (suc n) (suc m) h = ap (λ (l : List Bool). false ∷ l) (take_replicate n m (omega arith))

pub dead_front : (n row : ℕ) → n ≤ 256 → row < n → take n (set (replicate 256 false) row true) ≡ one_dead n row
dead_front n row h g = take-set-lt n (replicate 256 false) row true g ∙ ap (λ (l : List Bool). set l row true) (take_replicate n 256 h)

zero_more : (r : ℕ) → 0 + r ≡ r
zero_more r = omega arith

suc_more : (k r : ℕ) → suc k + r ≡ suc (k + r)
suc_more k r = omega arith

-- ---- what is kept
module _ {A : Type 0} where
  kept_nil : (bs : List Bool) → kept {A = A} bs [] ≡ []
  kept_nil [] = refl
  kept_nil (b ∷ bs) = refl

  -- flags of places that all stay, or all go, come first
  pub kept_false : (k r : ℕ) (fs : List Bool) (l : List A) → kept (replicate k false ++ fs) (take (k + r) l) ≡ take k l ++ kept fs (take r (drop k l))
  kept_false zero r fs l = ap (λ (n : ℕ). kept fs (take n l)) (zero_more r)
  kept_false (suc k) r fs [] = ap (λ (n : ℕ). kept (replicate (suc k) false ++ fs) (take n [])) (suc_more k r) ∙ sym (ap (kept fs) (take-nil r) ∙ kept_nil fs)
  kept_false (suc k) r fs (x ∷ l) = ap (λ (n : ℕ). kept (replicate (suc k) false ++ fs) (take n (x ∷ l))) (suc_more k r)
      ∙ ap (λ (q : List A). x ∷ q) (kept_false k r fs l)

  pub kept_true : (k r : ℕ) (fs : List Bool) (l : List A) → kept (replicate k true ++ fs) (take (k + r) l) ≡ kept fs (take r (drop k l))
  kept_true zero r fs l = ap (λ (n : ℕ). kept fs (take n l)) (zero_more r)
  kept_true (suc k) r fs [] = ap (λ (n : ℕ). kept (replicate (suc k) true ++ fs) (take n [])) (suc_more k r) ∙ sym (ap (kept fs) (take-nil r) ∙ kept_nil fs)
  kept_true (suc k) r fs (x ∷ l) = ap (λ (n : ℕ). kept (replicate (suc k) true ++ fs) (take n (x ∷ l))) (suc_more k r) ∙ kept_true k r fs l

  -- no row goes
  pub kept_none : (z : ℕ) (cs : List ℕ) (l : List A) → kept (spread_flags z (replicate (length cs) false) cs) (take (total (places_of z) cs) l)
      ≡ take (total (places_of z) cs) l
  kept_none z [] l = refl
  kept_none z (c ∷ cs) l =
      kept_false (places_of z c) (total (places_of z) cs) (spread_flags z (replicate (length cs) false) cs) l
      ∙ ap (λ (q : List A). take (places_of z c) l ++ q) (kept_none z cs (drop (places_of z c) l))
      ∙ sym (take-add (places_of z c) (total (places_of z) cs) l)

  -- one row goes
  kept_one : (cs : List ℕ) (row : ℕ) (l : List A) → row < length cs
      → kept (spread_flags 0 (one_dead (length cs) row) cs) (take (total (places_of 0) cs) l)
      ≡ take (total (places_of 0) (take row cs)) l ++ take (total (places_of 0) (drop (suc row) cs))
      (drop (total (places_of 0) (take row cs) + places_of 0 (get_or cs row 0)) l)
  kept_one [] row l h = absurd (omega arith)
  kept_one (c ∷ cs) zero l h =
      kept_true (places_of 0 c) (total (places_of 0) cs) (spread_flags 0 (replicate (length cs) false) cs) l
      ∙ kept_none 0 cs (drop (places_of 0 c) l)
      ∙ ap (λ (n : ℕ). take (total (places_of 0) cs) (drop n l)) (sym (zero_more (places_of 0 c)))
  kept_one (c ∷ cs) (suc row) l h =
      let k = places_of 0 c in
      let t = total (places_of 0) (take row cs) in
      let r = total (places_of 0) (drop (suc row) cs) in
      let y = places_of 0 (get_or cs row 0) in
      let e : k + (t + y) ≡ k + t + y = omega arith in
      kept_false k (total (places_of 0) cs) (spread_flags 0 (one_dead (length cs) row) cs) l
      ∙ ap (λ (q : List A). take k l ++ q) (kept_one cs row (drop k l) (omega arith)
      ∙ ap (λ (q : List A). take t (drop k l) ++ take r q) (drop-drop (t + y) k l ∙ ap (λ (n : ℕ). drop n l) e))
      ∙ sym (append_assoc (take k l) (take t (drop k l)) (take r (drop (k + t + y) l)))
      ∙ ap (λ (q : List A). q ++ take r (drop (k + t + y) l)) (sym (take-add k t l))

  -- the rows themselves
  pub rows_none : (xs : List A) → kept (replicate (length xs) false) xs ≡ xs
  rows_none xs = kept_living (length xs) xs (omega arith)

  pub rows_one : (xs : List A) (row : ℕ) → row < length xs → kept (one_dead (length xs) row) xs ≡ take row xs ++ drop (suc row) xs
  rows_one [] row h = absurd (omega arith)
  rows_one (x ∷ xs) zero h = rows_none xs
  rows_one (x ∷ xs) (suc row) h = ap (λ (q : List A). x ∷ q) (rows_one xs row (omega arith))

pub total_row : (cs : List ℕ) (row : ℕ) → row < length cs → total (places_of 0) cs
    ≡ total (places_of 0) (take row cs) + places_of 0 (get_or cs row 0) + total (places_of 0) (drop (suc row) cs)
total_row [] row h = absurd (omega arith)
total_row (c ∷ cs) zero h = omega arith
total_row (c ∷ cs) (suc row) h = let k = total_row cs row (omega arith) in omega (arith, k)

pub places_zero : (c : ℕ) → places_of 0 c ≡ c
places_zero zero = refl
places_zero (suc c) = refl

-- ---- no row goes: nothing of their places does
whole : {A : Type 0} (bs : List Bool) (k : ℕ) (xs l : List A) → bs ≡ replicate k false → length xs ≡ k → take k l ≡ xs → Compacted bs xs l
whole {A} bs k xs l eb lx et =
    let same : kept bs xs ≡ xs = ap (λ (q : List Bool). kept q xs) eb ∙ ap (λ (n : ℕ). kept (replicate n false) xs) (sym lx) ∙ rows_none xs in
    record { front = ap (λ (q : List A). take (length q) l) same ∙ ap (λ (n : ℕ). take n l) lx ∙ et ∙ sym same }

pub cycles_none : (cs : List ℕ) (ks st : List ℕ) → total (places_of 0) cs ≤ length ks → total (places_of 1) (take (total (places_of 0) cs) ks) ≤ length st
    → CyclesKept (replicate (length cs) false) cs ks st ks st
cycles_none cs ks st hk hs =
    let t = total (places_of 0) cs in
    let u = total (places_of 1) (take t ks) in
    let lt : length (take t ks) ≡ t = length-take-le t ks hk in
    let eb = spread_same 0 (length cs) false cs refl in
    record {
      cycles = record { packed = whole (spread_flags 0 (replicate (length cs) false) cs) t (take t ks) ks eb lt refl };
      steps = record {
        packed =
            whole (spread_flags 1 (spread_flags 0 (replicate (length cs) false) cs) (take t ks)) u (take u st) st
            (ap (λ (q : List Bool). spread_flags 1 q (take t ks)) eb ∙ spread_same 1 t false (take t ks) lt)
            (length-take-le u st hs) refl;
      };
    }

-- the flag of a row without places changes nothing
set_both : {A : Type 0} (l : List A) (i j : ℕ) (x : A) → set (set l i x) j x ≡ set (set l j x) i x
set_both [] i j x = refl
set_both (y ∷ l) zero zero x = refl
set_both (y ∷ l) zero (suc j) x = refl
set_both (y ∷ l) (suc i) zero x = refl
set_both {A} (y ∷ l) (suc i) (suc j) x = ap (λ (q : List A). y ∷ q) (set_both l i j x)

pub pair_front : (n bare row : ℕ) → n ≤ 256 → bare < n → row < n → take n (set (set (replicate 256 false) bare true) row true) ≡ set (one_dead n row) bare true
pair_front n bare row h g k =
    take-set-lt n (set (replicate 256 false) bare true) row true k
    ∙ ap (λ (l : List Bool). set l row true) (dead_front n bare h g)
    ∙ set_both (replicate n false) bare row true

pub spread_bare : (fs : List Bool) (cs : List ℕ) (bare : ℕ) → get_or cs bare 0 ≡ 0 → spread_flags 0 (set fs bare true) cs ≡ spread_flags 0 fs cs
spread_bare [] cs bare e = refl
spread_bare (f ∷ fs) [] zero e = refl
spread_bare (f ∷ fs) [] (suc bare) e = refl
spread_bare (f ∷ fs) (c ∷ cs) zero e =
    ap (λ (k : ℕ). replicate (places_of 0 k) true ++ spread_flags 0 fs cs) e ∙ sym (ap (λ (k : ℕ). replicate (places_of 0 k) f ++ spread_flags 0 fs cs) e)
spread_bare (f ∷ fs) (c ∷ cs) (suc bare) e = ap (λ (q : List Bool). replicate (places_of 0 c) f ++ q) (spread_bare fs cs bare e)

pub total_bare : (fs : List Bool) (cs : List ℕ) (bare : ℕ) → get_or cs bare 0 ≡ 0
    → total (places_of 0) (kept (set fs bare true) cs) ≡ total (places_of 0) (kept fs cs)
total_bare [] cs bare e = refl
total_bare (f ∷ fs) [] zero e = refl
total_bare (f ∷ fs) [] (suc bare) e = refl
total_bare (true ∷ fs) (c ∷ cs) zero e = refl
total_bare (false ∷ fs) (c ∷ cs) zero e = omega (arith, e, places_zero c)
total_bare (true ∷ fs) (c ∷ cs) (suc bare) e = total_bare fs cs bare e
total_bare (false ∷ fs) (c ∷ cs) (suc bare) e = ap (λ (n : ℕ). places_of 0 c + n) (total_bare fs cs bare e)

pub places_bare : {A : Type 0} (fs : List Bool) (cs : List ℕ) (bare : ℕ) (l₀ l : List A) → get_or cs bare 0 ≡ 0 → PlacesKept 0 fs cs l₀ l
    → PlacesKept 0 (set fs bare true) cs l₀ l
places_bare fs cs bare l₀ l e k =
    record { packed = subst (λ (w : List Bool). Compacted w (take (total (places_of 0) cs) l₀) l) (sym (spread_bare fs cs bare e)) k.packed }

pub cycles_bare : (fs : List Bool) (cs : List ℕ) (bare : ℕ) (ks₀ st₀ ks st : List ℕ) → get_or cs bare 0 ≡ 0 → CyclesKept fs cs ks₀ st₀ ks st
    → CyclesKept (set fs bare true) cs ks₀ st₀ ks st
cycles_bare fs cs bare ks₀ st₀ ks st e k =
    record {
      cycles = places_bare fs cs bare ks₀ ks e k.cycles;
      steps = subst (λ (w : List Bool). PlacesKept 1 w (take (total (places_of 0) cs) ks₀) st₀ st) (sym (spread_bare fs cs bare e)) k.steps;
    }

-- the cycles stay as they are, where the row that goes has none
pub cycles_stay : (cs : List ℕ) (row : ℕ) (ks st : List ℕ) → get_or cs row 0 ≡ 0 → total (places_of 0) cs ≤ length ks
    → total (places_of 1) (take (total (places_of 0) cs) ks) ≤ length st
    → CyclesKept (one_dead (length cs) row) cs ks st ks st
cycles_stay cs row ks st e hk hs = cycles_bare (replicate (length cs) false) cs row ks st ks st e (cycles_none cs ks st hk hs)

-- ---- what stands where the bends of the row have gone: the others are what stays
front_kept : {A : Type 0} (base m t : ℕ) (l r : List A) → base + m ≤ t → t ≤ length l → length r ≡ length l
    → take (t - m) r ≡ take base l ++ run_at (base + m) (t - (base + m)) l
    → (cs : List ℕ) (row : ℕ) → row < length cs → base ≡ total (places_of 0) (take row cs) → m ≡ get_or cs row 0 → t ≡ total (places_of 0) cs
    → PlacesKept 0 (one_dead (length cs) row) cs l r
front_kept {A} base m t l r hb hl lr ef cs row h eb em et =
    let s = total_row cs row h in
    let y = places_zero (get_or cs row 0) in
    let g : total (places_of 0) (drop (suc row) cs) ≡ t - (base + m) = omega (arith, s, y, eb, em, et) in
    let v : total (places_of 0) (take row cs) + places_of 0 (get_or cs row 0) ≡ base + m = omega (arith, y, eb, em) in
    let k : kept (spread_flags 0 (one_dead (length cs) row) cs) (take (total (places_of 0) cs) l) ≡ take (t - m) r =
    kept_one cs row l h ∙ (λ w. take (sym eb w) l ++ take (g w) (drop (v w) l)) ∙ sym ef in
    let n : length (take (t - m) r) ≡ t - m = length-take-le (t - m) r (omega (arith, lr, hb, hl)) in
    record { packed = record { front = ap (λ (q : List A). take (length q) r) k ∙ ap (λ (w : ℕ). take w r) n ∙ sym k } }

-- they go to the end
module _ {A : Type 0} (base m i j t : ℕ) (l : List A) (hi : i ≤ j) (hj : j ≤ m) (hb : base + m ≤ t) (hl : t ≤ length l) where
  pub twice_kept : (cs : List ℕ) (row : ℕ) → row < length cs → base ≡ total (places_of 0) (take row cs) → m ≡ get_or cs row 0 → t ≡ total (places_of 0) cs
      → PlacesKept 0 (one_dead (length cs) row) cs l (moved_last base m i j t l)
  twice_kept = front_kept base m t l (moved_last base m i j t l) hb hl (twice_length base m i j t l hi hj hb hl) (twice_front base m i j t l hi hj hb hl)

-- they go after x, put after those in use
module _ {A : Type 0} (base m t : ℕ) (x : A) (l : List A) (hb : base + m ≤ t) (hl : t < length l) where
  pub joined_kept : (cs : List ℕ) (row : ℕ) → row < length cs → base ≡ total (places_of 0) (take row cs) → m ≡ get_or cs row 0 → t ≡ total (places_of 0) cs
      → PlacesKept 0 (one_dead (length cs) row) cs l (rotated base (base + m) (t + 1) (set l t x))
  joined_kept =
      front_kept base m t l (rotated base (base + m) (t + 1) (set l t x)) hb (omega (arith, hl)) (joined_length base m t x l hb hl)
      (joined_front base m t x l hb hl)
