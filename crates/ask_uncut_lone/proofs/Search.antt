-- The search for a lone cycle: its place among all cycles, and the row that holds it. Assumes nothing.
use Prim.Native.Nat.{ℕ, zero, suc, ◌+◌, ◌-◌, ◌<◌, ◌≤◌}
use mathlib.Core.Path.{◌≡◌, refl, ap, sym, ◌∙◌}
use mathlib.Core.Bool.{Bool, true, false, cond}
use mathlib.Core.List.{List, ◌∷◌}
use native.Mathlib.Omega.{arith}
use lib.Dec.{eqb, ltb}
use lib.ListN.{length, take, drop, get_or}
use lib.Seq.{get_or-drop, drop-drop}
use borrow.Author.Tests.{lt-ltb, le-ltb}
use Rattle.complex.specs.Cells.{Cycle}
use Rattle.complex.specs.Uncut.{is_lone}
use Rattle.store.specs.View.{width, width_sum, cycle_of, cycles_from}
use Rattle.store.proofs.Lists.{sum_more, sum_le}
use Rattle.sound.proofs.Testing.{left_cons, left_none}
use Rattle.ask_uncut_lone.specs.declared.Held.{Held}
use Rattle.ask_uncut_lone.specs.Lone.{lone_place, rows_on, holding}

-- ---- one cycle
module _ (v c : ℕ) where
  pub lone_here : (st : List ℕ) (from : ℕ) → c ≡ 0 → eqb v (get_or st from 0) ≡ is_lone v (cycle_of c (drop from st))
  lone_here st from e =
      let n : from ≡ from + 0 = omega arith in
      ap (λ (x : ℕ). eqb v x) (ap (λ (j : ℕ). get_or st j 0) n ∙ sym (get_or-drop from st 0 0)) ∙ sym (ap (λ (x : ℕ). is_lone v (cycle_of x (drop from st))) e)

pub lone_not : (v c : ℕ) (l : List ℕ) → (c ≡ 0 → ⊥) → false ≡ is_lone v (cycle_of c l)
lone_not v zero l h = absurd (h refl)
lone_not v (suc c) l h = refl

-- ---- the cycles: the first i are not lone cycles of v, and the steps of the others begin at `from`
module _ (v : ℕ) (ns st : List ℕ) (m : ℕ) where
  pub record Seeking (from i : ℕ) : Type 0 where
    pub from_is : from ≡ width_sum (take i ns)
    pub rest : lone_place v (cycles_from (take m ns) st) ≡ i + lone_place v (cycles_from (drop i (take m ns)) (drop from st))

  pub seeking_start : Seeking 0 0
  seeking_start = record { from_is = refl; rest = omega arith }

module _ {v : ℕ} {ns st : List ℕ} {m from i : ℕ} (x : Seeking v ns st m from i) (h : m ≤ length ns) where
  module _ (k : i < m) where
    sum : from + width (get_or ns i 0) ≡ width_sum (take (i + 1) ns)
    sum = ap (λ (y : ℕ). y + width (get_or ns i 0)) x.from_is ∙ sym (sum_more width ns i 0 (omega arith))

    pub seeking_room : width_sum (take m ns) ≤ 2048 → from + width (get_or ns i 0) ≤ 2048
    seeking_room r = let a = sum in let b = sum_le width ns (i + 1) m (omega arith) in omega arith

    abbrev later : List Cycle
    later = cycles_from (drop (i + 1) (take m ns)) (drop (width (get_or ns i 0)) (drop from st))

    seen : (b : Bool) → is_lone v (cycle_of (get_or ns i 0) (drop from st)) ≡ b → lone_place v (cycles_from (take m ns) st) ≡ i + cond b 0 (suc (lone_place v later))
    seen b e =
        x.rest ∙ ap (λ (y : List ℕ). i + lone_place v (cycles_from y (drop from st))) (left_cons ns m i 0 h k)
        ∙ ap (λ (c : Bool). i + cond c 0 (suc (lone_place v later))) e

    pub seeking_found : is_lone v (cycle_of (get_or ns i 0) (drop from st)) ≡ true → i ≡ lone_place v (cycles_from (take m ns) st)
    seeking_found e = let a = seen true e in omega arith

    pub seeking_turn : is_lone v (cycle_of (get_or ns i 0) (drop from st)) ≡ false → (w : ℕ) → w ≡ width (get_or ns i 0) → Seeking v ns st m (from + w) (i + 1)
    seeking_turn e w f =
        let a = seen false e in
        let b = ap (λ (l : List ℕ). lone_place v (cycles_from (drop (i + 1) (take m ns)) l))
        (drop-drop (width (get_or ns i 0)) from st ∙ ap (λ (y : ℕ). drop (from + y) st) (sym f)) in
        record { from_is = ap (λ (y : ℕ). from + y) f ∙ sum; rest = omega arith }

  pub seeking_end : i ≡ m → m ≡ lone_place v (cycles_from (take m ns) st)
  seeking_end e =
      let a = x.rest in
      let b = ap (λ (y : List ℕ). lone_place v (cycles_from y (drop from st))) (left_none ns m i h e) in
      omega arith

-- ---- the rows: the first i do not hold the cycle j, which has the place p after theirs
module _ (ks : List ℕ) (n j : ℕ) where
  pub record Passing (p i : ℕ) : Type 0 where
    pub rest : holding (take n ks) j ≡ rows_on i (holding (drop i (take n ks)) p)

  pub passing_start : Passing j 0
  passing_start = record { rest = on_none (holding (take n ks) j) }
    where
      on_none : (h : Held) → h ≡ rows_on 0 h
      on_none h = let e : h.row ≡ 0 + h.row = omega arith in ap (λ (r : ℕ). record { row = r; place = h.place }) e

  module _ (h : n ≤ length ks) (p i : ℕ) (l : i < n) (x : Passing p i) (k : ℕ) (ek : k ≡ get_or ks i 0) where
    asked : (b : Bool) → ltb p k ≡ b
        → holding (take n ks) j ≡ rows_on i (cond b (record { row = 0; place = p }) (rows_on 1 (holding (drop (i + 1) (take n ks)) (p - k))))
    asked b e =
        x.rest ∙ ap (λ (y : List ℕ). rows_on i (holding y p)) (left_cons ks n i 0 h l ∙ ap (λ (c : ℕ). c ∷ drop (i + 1) (take n ks)) (sym ek))
        ∙ ap (λ (c : Bool). rows_on i (cond c (record { row = 0; place = p }) (rows_on 1 (holding (drop (i + 1) (take n ks)) (p - k))))) e

    pub passing_found : p < k → record { row = i; place = p } ≡ holding (take n ks) j
    passing_found g =
        let e : i ≡ i + 0 = omega arith in
        ap (λ (r : ℕ). record { row = r; place = p }) e ∙ sym (asked true (lt-ltb p k g))

    pub passing_turn : (p < k → ⊥) → Passing (p - k) (i + 1)
    passing_turn g =
        let o = holding (drop (i + 1) (take n ks)) (p - k) in
        let e : i + (1 + o.row) ≡ i + 1 + o.row = omega arith in
        record { rest = asked false (le-ltb p k (omega arith)) ∙ ap (λ (r : ℕ). record { row = r; place = o.place }) e }

  pub passing_end : n ≤ length ks → (p i : ℕ) → i ≡ n → Passing p i → record { row = n; place = p } ≡ holding (take n ks) j
  passing_end h p i e x =
      let z : n ≡ i + 0 = omega arith in
      ap (λ (r : ℕ). record { row = r; place = p }) z ∙ sym (x.rest ∙ ap (λ (y : List ℕ). rows_on i (holding y p)) (left_none ks n i h e))
