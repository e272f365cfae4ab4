-- Three rows go, two of them with bends: what stays of the rows and of their places. Assumes nothing.
use Prim.Native.Nat.{ℕ, zero, suc, ◌+◌, ◌-◌, ◌<◌, ◌≤◌}
use native.Mathlib.Omega.{arith}
use mathlib.Core.Path.{◌≡◌, refl, sym, ap, ap₂, ◌∙◌}
use mathlib.Core.Bool.{Bool, true, false, cond, false≢true}
use mathlib.Core.List.{List, [], ◌∷◌, ◌++◌, append_assoc}
use lib.ListN.{length, get_or, set, take, drop, replicate, length-append, length-drop, length-set, length-replicate, get_or-replicate, take-append-drop}
use lib.Seq.{drop-drop, take-take, length-take-le, take_at, drop_at, take-append-le}
use lib.Seq.{drop-append-le, take-append-add, drop-append-add, take-set-lt, take-set-le, get_or-set_other, get_or-take}
use lib.Dec.{ltb}
use borrow.Author.Tests.{ltb-true, ltb-false}
use Rattle.complex.specs.Lists.{total}
use Rattle.store.specs.Edits.{kept, places_of, spread_flags, PlacesKept, CyclesKept}
use Rattle.rows_new.specs.Runs.{run_at}
use Rattle.kernel_bends.specs.Turned.{rotated}
use Rattle.kernel_bends.proofs.Parts.{rotated_is}
use Rattle.kernel_drop.proofs.Dead.{take_replicate, kept_false, kept_true, kept_none, rows_none}
use Rattle.kernel_drop.proofs.Dead.{total_row, total_bare, spread_bare, cycles_bare, cycles_stay, places_zero}

abbrev sum : List ℕ → ℕ
sum cs = total (places_of 0) cs

-- ---- one flag more
total_more : (fl : List Bool) (cs : List ℕ) (row : ℕ) → length fl ≡ length cs → row < length cs → get_or fl row false ≡ false
    → sum (kept (set fl row true) cs) + places_of 0 (get_or cs row 0) ≡ sum (kept fl cs)
total_more fl [] row e h f = absurd (omega arith)
total_more [] (c ∷ cs) row e h f = absurd (omega arith)
total_more (true ∷ fl) (c ∷ cs) zero e h f = absurd (false≢true (sym f))
total_more (false ∷ fl) (c ∷ cs) zero e h f = omega arith
total_more (true ∷ fl) (c ∷ cs) (suc row) e h f = total_more fl cs row (omega arith) (omega arith) f
total_more (false ∷ fl) (c ∷ cs) (suc row) e h f = let k = total_more fl cs row (omega arith) (omega arith) f in omega (arith, k)

module _ {A : Type 0} where
  -- a list without k elements from a place on
  abbrev pub without : ℕ → ℕ → List A → List A
  without base k l = take base l ++ drop (base + k) l

  without_length : (base k : ℕ) (l : List A) → base + k ≤ length l → length (without base k l) ≡ length l - k
  without_length base k l h = length-append (take base l) (drop (base + k) l) ∙ ap₂ ◌+◌ (length-take-le base l (omega arith)) (length-drop (base + k) l)
      ∙ omega arith

  ahead : (b k : ℕ) (p l : List A) (n : ℕ) → length p ≡ n → p ++ without b k l ≡ without (n + b) k (p ++ l)
  ahead b k p l n e =
      let t : take (n + b) (p ++ l) ≡ p ++ take b l = ap (λ (i : ℕ). take (i + b) (p ++ l)) (sym e) ∙ take-append-add p l b in
      let s : n + b + k ≡ n + (b + k) = omega arith in
      let d : drop (n + b + k) (p ++ l) ≡ drop (b + k) l = ap (λ (i : ℕ). drop i (p ++ l)) s ∙ ap (λ (i : ℕ). drop (i + (b + k)) (p ++ l)) (sym e)
      ∙ drop-append-add p l (b + k) in
      sym (append_assoc p (take b l) (drop (b + k) l)) ∙ sym (ap₂ ◌++◌ t d)

  kept_more : (fl : List Bool) (cs : List ℕ) (row : ℕ) (l : List A) → length fl ≡ length cs → row < length cs → get_or fl row false ≡ false → sum cs ≤ length l
      → kept (spread_flags 0 (set fl row true) cs) (take (sum cs) l)
      ≡ without (sum (kept (take row fl) (take row cs))) (places_of 0 (get_or cs row 0)) (kept (spread_flags 0 fl cs) (take (sum cs) l))
  kept_more fl [] row l e h f hl = absurd (omega arith)
  kept_more [] (c ∷ cs) row l e h f hl = absurd (omega arith)
  kept_more (true ∷ fl) (c ∷ cs) zero l e h f hl = absurd (false≢true (sym f))
  kept_more (false ∷ fl) (c ∷ cs) zero l e h f hl =
      let k = places_of 0 c in
      let n : k ≡ 0 + k = omega arith in
      let r = spread_flags 0 fl cs in
      kept_true k (sum cs) r l
      ∙ sym (drop_at (take k l) (kept r (take (sum cs) (drop k l))) k (length-take-le k l (omega arith)))
      ∙ ap₂ (λ (i : ℕ) (q : List A). drop i q) n (sym (kept_false k (sum cs) r l))
  kept_more (true ∷ fl) (c ∷ cs) (suc row) l e h f hl =
      let k = places_of 0 c in
      kept_true k (sum cs) (spread_flags 0 (set fl row true) cs) l
      ∙ kept_more fl cs row (drop k l) (omega arith) (omega arith) f (omega (arith, length-drop k l))
      ∙ ap (without (sum (kept (take row fl) (take row cs))) (places_of 0 (get_or cs row 0))) (sym (kept_true k (sum cs) (spread_flags 0 fl cs) l))
  kept_more (false ∷ fl) (c ∷ cs) (suc row) l e h f hl =
      let k = places_of 0 c in
      let b = sum (kept (take row fl) (take row cs)) in
      let y = places_of 0 (get_or cs row 0) in
      kept_false k (sum cs) (spread_flags 0 (set fl row true) cs) l
      ∙ ap (λ (q : List A). take k l ++ q) (kept_more fl cs row (drop k l) (omega arith) (omega arith) f (omega (arith, length-drop k l)))
      ∙ ahead b y (take k l) (kept (spread_flags 0 fl cs) (take (sum cs) (drop k l))) k (length-take-le k l (omega arith))
      ∙ ap (without (k + b) y) (sym (kept_false k (sum cs) (spread_flags 0 fl cs) l))

  -- ---- a part goes behind all, and others stand there already
  part : (b k : ℕ) (l : List A) → l ≡ take b l ++ (run_at b k l ++ drop (b + k) l)
  part b k l =
      sym (take-append-drop b l)
      ∙ ap (λ (q : List A). take b l ++ q) (sym (take-append-drop k (drop b l)) ∙ ap (λ (q : List A). run_at b k l ++ q) (drop-drop k b l))

  run_length : (b k : ℕ) (l : List A) → b + k ≤ length l → length (run_at b k l) ≡ k
  run_length b k l h = length-take-le k (drop b l) (omega (arith, length-drop b l))

  behind : (b k t : ℕ) (l r z : List A) → b + k ≤ length l → t ≡ length l + length r → rotated b (b + k) t (l ++ (r ++ z))
      ≡ without b k l ++ (r ++ (run_at b k l ++ z))
  behind b k t l r z h e =
      let p = take b l in
      let x = run_at b k l in
      let q = drop (b + k) l in
      let lp : length p ≡ b = length-take-le b l (omega arith) in
      let lx : length x ≡ k = run_length b k l h in
      let lq : length (q ++ r) ≡ length q + length r = length-append q r in
      let ld : length q ≡ length l - (b + k) = length-drop (b + k) l in
      let whole_is : l ++ (r ++ z) ≡ p ++ (x ++ ((q ++ r) ++ z)) =
      ap (λ (w : List A). w ++ (r ++ z)) (part b k l) ∙ append_assoc p (x ++ q) (r ++ z)
      ∙ ap (λ (w : List A). p ++ w) (append_assoc x q (r ++ z) ∙ ap (λ (w : List A). x ++ w) (sym (append_assoc q r z))) in
      ap (rotated b (b + k) t) whole_is
      ∙ rotated_is p x (q ++ r) z b (b + k) t lp (omega (arith, lp, lx)) (omega (arith, lp, lx, lq, ld, e, h))
      ∙ ap (λ (w : List A). p ++ w) (append_assoc q r (x ++ z))
      ∙ sym (append_assoc p q (r ++ (x ++ z)))

  within : (i n m : ℕ) (w : List A) → i + n ≤ m → run_at i n (take m w) ≡ run_at i n w
  within zero n m w q = take-take n m w (omega arith)
  within (suc i) n zero w q = absurd (omega arith)
  within (suc i) n (suc m) [] q = refl
  within (suc i) n (suc m) (y ∷ w) q = within i n m w (omega arith)

  -- where a run stands when another has gone
  run_before : (b k b2 k2 : ℕ) (l : List A) → b2 + k2 ≤ b → b ≤ length l → run_at b2 k2 (without b k l) ≡ run_at b2 k2 l
  run_before b k b2 k2 l h g =
      let lp : length (take b l) ≡ b = length-take-le b l g in
      ap (take k2) (drop-append-le b2 (take b l) (drop (b + k) l) (omega (arith, lp, h)))
      ∙ take-append-le k2 (drop b2 (take b l)) (drop (b + k) l) (omega (arith, lp, h, length-drop b2 (take b l)))
      ∙ within b2 k2 b l h

  run_behind : (b k b2 k2 : ℕ) (l : List A) → b + k ≤ b2 → b + k ≤ length l → run_at (b2 - k) k2 (without b k l) ≡ run_at b2 k2 l
  run_behind b k b2 k2 l h g =
      let lp : length (take b l) ≡ b = length-take-le b l (omega arith) in
      let e : b2 - k ≡ length (take b l) + (b2 - k - b) = omega (arith, lp, h) in
      let u : b + k + (b2 - k - b) ≡ b2 = omega (arith, h) in
      ap (take k2) (ap (λ (n : ℕ). drop n (without b k l)) e ∙ drop-append-add (take b l) (drop (b + k) l) (b2 - k - b) ∙ drop-drop (b2 - k - b) (b + k) l
      ∙ ap (λ (n : ℕ). drop n l) u)

-- ---- the flags of two rows and a bare one
abbrev pub three_dead : ℕ → ℕ → ℕ → ℕ → List Bool
three_dead n row1 row2 bare = set (set (set (replicate n false) row1 true) row2 true) bare true

pub three_front : (n row1 row2 bare : ℕ) → n ≤ 256 → row1 < n → row2 < n → bare < n → take n (three_dead 256 row1 row2 bare) ≡ three_dead n row1 row2 bare
three_front n row1 row2 bare h g1 g2 g3 =
    take-set-lt n (set (set (replicate 256 false) row1 true) row2 true) bare true g3
    ∙ ap (λ (l : List Bool). set l bare true)
    (take-set-lt n (set (replicate 256 false) row1 true) row2 true g2
    ∙ ap (λ (l : List Bool). set l row2 true) (take-set-lt n (replicate 256 false) row1 true g1
    ∙ ap (λ (l : List Bool). set l row1 true) (take_replicate n 256 h)))

pub three_length : (n row1 row2 bare : ℕ) → length (three_dead n row1 row2 bare) ≡ n
three_length n row1 row2 bare =
    length-set (set (set (replicate n false) row1 true) row2 true) bare true ∙ length-set (set (replicate n false) row1 true) row2 true
    ∙ length-set (replicate n false) row1 true ∙ length-replicate n false

-- three rows without cycles: nothing of them goes
pub cycles_three : (cs : List ℕ) (row1 row2 bare : ℕ) (ks st : List ℕ) → get_or cs row1 0 ≡ 0 → get_or cs row2 0 ≡ 0 → get_or cs bare 0 ≡ 0 → sum cs ≤ length ks
    → total (places_of 1) (take (sum cs) ks) ≤ length st
    → CyclesKept (three_dead (length cs) row1 row2 bare) cs ks st ks st
cycles_three cs row1 row2 bare ks st e1 e2 e3 hk hs =
    let n = length cs in
    cycles_bare (set (set (replicate n false) row1 true) row2 true) cs bare ks st ks st e3
    (cycles_bare (set (replicate n false) row1 true) cs row2 ks st ks st e2 (cycles_stay cs row1 ks st e1 hk hs))

-- ---- the rows of two edges and a bare one
module _ (cs : List ℕ) (row1 base1 m1 row2 base2 m2 bare t b2 : ℕ) (h1 : row1 < length cs) (h2 : row2 < length cs) (ne : row1 ≡ row2 → ⊥)
    (hb : get_or cs bare 0 ≡ 0)
    (e1 : base1 ≡ total (places_of 0) (take row1 cs)) (o1 : m1 ≡ get_or cs row1 0) (e2 : base2 ≡ total (places_of 0) (take row2 cs)) (o2 : m2 ≡ get_or cs row2 0)
    (et : t ≡ total (places_of 0) cs) (eb : b2 ≡ cond (ltb row1 row2) (base2 - m1) base2) where
  abbrev fl0 : List Bool
  fl0 = replicate (length cs) false

  abbrev fl1 : List Bool
  fl1 = set (replicate (length cs) false) row1 true

  abbrev fl2 : List Bool
  fl2 = set (set (replicate (length cs) false) row1 true) row2 true

  l0 : length (replicate (length cs) false) ≡ length cs
  l0 = length-replicate (length cs) false

  l1 : length (set (replicate (length cs) false) row1 true) ≡ length cs
  l1 = length-set (replicate (length cs) false) row1 true ∙ l0

  f1 : get_or (replicate (length cs) false) row1 false ≡ false
  f1 = get_or-replicate (length cs) row1 false false h1

  f2 : get_or (set (replicate (length cs) false) row1 true) row2 false ≡ false
  f2 = get_or-set_other (replicate (length cs) false) row1 row2 true false (λ q. ne (sym q)) ∙ get_or-replicate (length cs) row2 false false h2

  p1 : places_of 0 (get_or cs row1 0) ≡ m1
  p1 = places_zero (get_or cs row1 0) ∙ sym o1

  p2 : places_of 0 (get_or cs row2 0) ≡ m2
  p2 = places_zero (get_or cs row2 0) ∙ sym o2

  none_dead : (k : ℕ) → k ≤ length cs → sum (kept (take k (replicate (length cs) false)) (take k cs)) ≡ sum (take k cs)
  none_dead k h =
      ap sum (ap (λ (q : List Bool). kept q (take k cs)) (take_replicate k (length cs) h ∙ ap (λ (i : ℕ). replicate i false) (sym (length-take-le k cs h)))
      ∙ rows_none (take k cs))

  -- the rows that are left have the other bends
  pub three_less : sum (kept (three_dead (length cs) row1 row2 bare) cs) ≡ t - m1 - m2
  three_less =
      let a = total_bare fl2 cs bare hb in
      let b = total_more fl1 cs row2 l1 h2 f2 in
      let c = total_more fl0 cs row1 l0 h1 f1 in
      let d : sum (kept fl0 cs) ≡ sum cs = ap sum (rows_none cs) in
      omega (arith, a, b, c, d, p1, p2, et)

  -- the first before the second, or the second before the first
  pub lt_range : row1 < row2 → base1 + m1 ≤ base2
  lt_range h =
      let k = total_row (take row2 cs) row1 (omega (arith, h, length-take-le row2 cs (omega arith))) in
      let g : get_or (take row2 cs) row1 0 ≡ get_or cs row1 0 = get_or-take row2 cs row1 0 h in
      let w : places_of 0 (get_or (take row2 cs) row1 0) ≡ m1 = ap (places_of 0) g ∙ p1 in
      let v : sum (take row1 (take row2 cs)) ≡ base1 = ap sum (take-take row1 row2 cs (omega arith)) ∙ sym e1 in
      omega (arith, k, w, v, e2)

  ge_range : row2 ≤ row1 → base2 + m2 ≤ base1
  ge_range h =
      let z : row2 < row1 = lower row1 row2 h ne in
      let k = total_row (take row1 cs) row2 (omega (arith, z, length-take-le row1 cs (omega arith))) in
      let g : get_or (take row1 cs) row2 0 ≡ get_or cs row2 0 = get_or-take row1 cs row2 0 z in
      let w : places_of 0 (get_or (take row1 cs) row2 0) ≡ m2 = ap (places_of 0) g ∙ p2 in
      let v : sum (take row2 (take row1 cs)) ≡ base2 = ap sum (take-take row2 row1 cs (omega arith)) ∙ sym e2 in
      omega (arith, k, w, v, e1)
    where
      lower : (x y : ℕ) → y ≤ x → (x ≡ y → ⊥) → y < x
      lower x y p q = omega (arith, p, q)

  range1 : base1 + m1 ≤ t
  range1 = let k = total_row cs row1 h1 in omega (arith, k, p1, e1, et)

  range2 : base2 + m2 ≤ t
  range2 = let k = total_row cs row2 h2 in omega (arith, k, p2, e2, et)

  -- where the second run stands when the first has gone
  place2 : sum (kept (take row2 (set (replicate (length cs) false) row1 true)) (take row2 cs)) ≡ b2
  place2 = go (ltb row1 row2) refl ∙ sym eb
    where
      go : (x : Bool) → ltb row1 row2 ≡ x → sum (kept (take row2 (set (replicate (length cs) false) row1 true)) (take row2 cs)) ≡ cond x (base2 - m1) base2
      go true q =
          let h = ltb-true row1 row2 q in
          let lk : length (take row2 cs) ≡ row2 = length-take-le row2 cs (omega arith) in
          let lf : length (take row2 fl0) ≡ row2 = length-take-le row2 fl0 (omega (arith, l0, h2)) in
          let a = total_more (take row2 fl0) (take row2 cs) row1 (lf ∙ sym lk) (omega (arith, h, lk)) (get_or-take row2 fl0 row1 false h ∙ f1) in
          let b = none_dead row2 (omega arith) in
          let w : places_of 0 (get_or (take row2 cs) row1 0) ≡ m1 = ap (places_of 0) (get_or-take row2 cs row1 0 h) ∙ p1 in
          ap (λ (r : List Bool). sum (kept r (take row2 cs))) (take-set-lt row2 fl0 row1 true h) ∙ omega (arith, a, b, w, e2)
      go false q = ap (λ (r : List Bool). sum (kept r (take row2 cs))) (take-set-le row2 fl0 row1 true (ltb-false row1 row2 q))
          ∙ none_dead row2 (omega arith) ∙ sym e2

  pub second_range : b2 + m2 ≤ t - m1
  second_range = go (ltb row1 row2) refl eb
    where
      go : (x : Bool) → ltb row1 row2 ≡ x → b2 ≡ cond x (base2 - m1) base2 → b2 + m2 ≤ t - m1
      go true q e = let h = lt_range (ltb-true row1 row2 q) in omega (arith, h, range2, e)
      go false q e = let h = ge_range (ltb-false row1 row2 q) in omega (arith, h, range1, e)

  module _ {A : Type 0} (l : List A) (hl : t ≤ length l) where
    abbrev moved : List A
    moved = rotated b2 (b2 + m2) t (rotated base1 (base1 + m1) t l)

    abbrev front : List A
    front = without b2 m2 (without base1 m1 (take t l))

    lt : length (take t l) ≡ t
    lt = length-take-le t l hl

    lw : length (without base1 m1 (take t l)) ≡ t - m1
    lw = without_length base1 m1 (take t l) (omega (arith, lt, range1)) ∙ ap (λ (k : ℕ). k - m1) lt

    second_run : run_at b2 m2 (without base1 m1 (take t l)) ≡ run_at base2 m2 l
    second_run = go (ltb row1 row2) refl eb ∙ within base2 m2 t l range2
      where
        go : (x : Bool) → ltb row1 row2 ≡ x → b2 ≡ cond x (base2 - m1) base2 → run_at b2 m2 (without base1 m1 (take t l)) ≡ run_at base2 m2 (take t l)
        go true q e = ap (λ (k : ℕ). run_at k m2 (without base1 m1 (take t l))) e
            ∙ run_behind base1 m1 base2 m2 (take t l) (lt_range (ltb-true row1 row2 q)) (omega (arith, lt, range1))
        go false q e = ap (λ (k : ℕ). run_at k m2 (without base1 m1 (take t l))) e
            ∙ run_before base1 m1 base2 m2 (take t l) (ge_range (ltb-false row1 row2 q)) (omega (arith, lt, range1))

    pub three_moved : moved ≡ front ++ (run_at base1 m1 l ++ (run_at base2 m2 l ++ drop t l))
    three_moved =
        let k = without base1 m1 (take t l) in
        let r = run_at base1 m1 (take t l) in
        let lr : length r ≡ m1 = run_length base1 m1 (take t l) (omega (arith, lt, range1)) in
        ap (λ (q : List A). rotated b2 (b2 + m2) t (rotated base1 (base1 + m1) t q)) (sym (take-append-drop t l))
        ∙ ap (rotated b2 (b2 + m2) t) (behind base1 m1 t (take t l) [] (drop t l) (omega (arith, lt, range1)) (omega (arith, lt)))
        ∙ behind b2 m2 t k r (drop t l) (omega (arith, lw, second_range)) (omega (arith, lw, lr, range1))
        ∙ ap₂ (λ (x y : List A). front ++ (x ++ (y ++ drop t l))) (within base1 m1 t l range1) second_run

    front_length : length front ≡ t - m1 - m2
    front_length = without_length b2 m2 (without base1 m1 (take t l)) (omega (arith, lw, second_range)) ∙ ap (λ (k : ℕ). k - m2) lw

    pub three_last : drop (t - m1 - m2) moved ≡ run_at base1 m1 l ++ (run_at base2 m2 l ++ drop t l)
    three_last = ap (drop (t - m1 - m2)) three_moved ∙ drop_at front (run_at base1 m1 l ++ (run_at base2 m2 l ++ drop t l)) (t - m1 - m2) front_length

    kept_is : kept (spread_flags 0 (three_dead (length cs) row1 row2 bare) cs) (take (sum cs) l) ≡ front
    kept_is =
        ap (λ (q : List Bool). kept q (take (sum cs) l)) (spread_bare fl2 cs bare hb)
        ∙ kept_more fl1 cs row2 l l1 h2 f2 (omega (arith, hl, et))
        ∙ ap₂ (λ (i : ℕ) (q : List A). without i (places_of 0 (get_or cs row2 0)) q) place2
        (kept_more fl0 cs row1 l l0 h1 f1 (omega (arith, hl, et))
        ∙ ap₂ (λ (i : ℕ) (q : List A). without i (places_of 0 (get_or cs row1 0)) q) (none_dead row1 (omega arith) ∙ sym e1)
        (kept_none 0 cs l ∙ ap (λ (i : ℕ). take i l) (sym et)))
        ∙ ap₂ (λ (i j : ℕ). without b2 i (without base1 j (take t l))) p2 p1

    pub three_kept : PlacesKept 0 (three_dead (length cs) row1 row2 bare) cs l moved
    three_kept =
        let k = kept_is in
        record {
          packed = record {
            front =
                ap (λ (q : List A). take (length q) moved) k ∙ ap (take (length front)) three_moved
                ∙ take_at front (run_at base1 m1 l ++ (run_at base2 m2 l ++ drop t l)) (length front) refl ∙ sym k;
          };
        }
