-- Loops along the steps of cycles. Assumes nothing.
use Prim.Native.Nat.{ℕ, zero, suc, ◌+◌, ◌-◌, ◌<◌, ◌≤◌}
use mathlib.Core.Path.{◌≡◌, refl, ap, ap₂, sym, ◌∙◌}
use mathlib.Core.List.{List, ◌∷◌}
use mathlib.Core.Bool.{Bool, true, false, ◌&&◌, ◌||◌}
use native.Mathlib.Numerals.{add-one}
use native.Mathlib.Omega.{arith}
use borrow.Author.Tests.{eq-eqb, ne_eqb}
use lib.Dec.{eqb}
use lib.ListN.{length, take, drop, get_or, length-drop}
use lib.Seq.{get_or-drop, drop-cons}
use Rattle.complex.specs.Lists.{all}
use Rattle.complex.proofs.Bools.{or_none}
use Rattle.store.specs.View.{width}
use Rattle.sound.specs.Rows.{Rows, is_vertex_in, row_in, tail_in, head_in, goes_on, leads_in, joins_in, cycle_good}
use Rattle.sound.proofs.Testing.{and_true, and_false, left_cons, left_none}

pub room : (l : List ℕ) (from m : ℕ) → from + m ≤ length l → m ≤ length (drop from l)
room l from m h = let e = length-drop from l in omega arith

pub step_at : (l : List ℕ) (from i : ℕ) → get_or l (from + i) 0 ≡ get_or (drop from l) i 0
step_at l from i = sym (get_or-drop from l i 0)

-- i steps lead to `at`: the rest decides
module _ (t : Rows) (l : List ℕ) (from m u w : ℕ) where
  pub record Leading (at i : ℕ) : Type 0 where
    pub rest : leads_in t u (take m (drop from l)) w ≡ leads_in t at (drop i (take m (drop from l))) w

  module _ (h : from + m ≤ length l) (at i : ℕ) (k : i < m) (x : Leading at i) where
    next : leads_in t u (take m (drop from l)) w ≡ goes_on t at (get_or l (from + i) 0)
        && leads_in t (head_in t (get_or l (from + i) 0)) (drop (i + 1) (take m (drop from l))) w
    next =
        x.rest
        ∙ ap (λ (y : List ℕ). leads_in t at y w) (left_cons (drop from l) m i 0 (room l from m h) k)
        ∙ ap (λ (y : ℕ). leads_in t at (y ∷ drop (i + 1) (take m (drop from l))) w) (sym (step_at l from i))

    pub leading_fail : goes_on t at (get_or l (from + i) 0) ≡ false → false ≡ leads_in t u (take m (drop from l)) w
    leading_fail e = sym (next ∙ and_false _ e)

    pub leading_turn : goes_on t at (get_or l (from + i) 0) ≡ true → (at' : ℕ) → at' ≡ head_in t (get_or l (from + i) 0) → Leading at' (i + 1)
    leading_turn e at' g =
        record { rest = next ∙ and_true _ e ∙ ap (λ (y : ℕ). leads_in t y (drop (i + 1) (take m (drop from l))) w) (sym g) }

  pub leading_end : from + m ≤ length l → (at i : ℕ) → i ≡ m → Leading at i → eqb at w ≡ leads_in t u (take m (drop from l)) w
  leading_end h at i e x = sym (x.rest ∙ ap (λ (y : List ℕ). leads_in t at y w) (left_none (drop from l) m i (room l from m h) e))

-- ---- one cycle
first_step : (st : List ℕ) (from m : ℕ) → 1 ≤ m → from + m ≤ length st → take m (drop from st) ≡ get_or st from 0 ∷ take (m - 1) (drop (from + 1) st)
first_step st from m h g =
    let e : m ≡ suc (m - 1) = omega arith in
    ap₂ (λ (n : ℕ) (l : List ℕ). take n l) e (drop-cons st from 0 (omega arith)) ∙ ap (λ (n : ℕ). get_or st from 0 ∷ take (m - 1) (drop n st))
    (sym (add-one from))

-- the first step's edge is in row r, whose kind is k
module _ (t : Rows) (st : List ℕ) (from m : ℕ) (h : 1 ≤ m) (g : from + m ≤ length st) (k : ℕ) (ek : get_or t.kinds (row_in t (get_or st from 0)) 4 ≡ k) where
  joins_is : (l : List ℕ) (s : ℕ) → get_or t.kinds (row_in t s) 4 ≡ k
      → joins_in t (s ∷ l) ≡ (eqb k 1 && leads_in t (head_in t s) l (tail_in t s)) || (eqb k 2 && all (eqb s) l)
  joins_is l s e =
      ap₂ (λ (x y : Bool). (x && leads_in t (head_in t s) l (tail_in t s)) || (y && all (eqb s) l))
      (ap₂ (λ (x : ℕ) (y : Bool). eqb x 1 && y) e (eq-eqb (tail_in t s) (tail_in t s) refl) ∙ and_unit (eqb k 1))
      (ap (λ (x : ℕ). eqb x 2) e)
    where
      and_unit : (b : Bool) → b && true ≡ b
      and_unit true = refl
      and_unit false = refl

  joined : joins_in t (take m (drop from st))
      ≡ (eqb k 1 && leads_in t (head_in t (get_or st from 0)) (take (m - 1) (drop (from + 1) st)) (tail_in t (get_or st from 0)))
      || (eqb k 2 && all (eqb (get_or st from 0)) (take (m - 1) (drop (from + 1) st)))
  joined = ap (joins_in t) (first_step st from m h g) ∙ joins_is (take (m - 1) (drop (from + 1) st)) (get_or st from 0) ek

  pub path_open : k ≡ 1 → (u w : ℕ) → u ≡ head_in t (get_or st from 0) → w ≡ tail_in t (get_or st from 0) → (r : Bool)
      → r ≡ leads_in t u (take (m - 1) (drop (from + 1) st)) w → r ≡ joins_in t (take m (drop from st))
  path_open e u w eu ew r er =
      er ∙ ap₂ (λ (x y : ℕ). leads_in t x (take (m - 1) (drop (from + 1) st)) y) eu ew
      ∙ sym (joined ∙ ap (λ (x : ℕ). (eqb x 1 && leads_in t (head_in t (get_or st from 0)) (take (m - 1) (drop (from + 1) st)) (tail_in t (get_or st from 0)))
      || (eqb x 2 && all (eqb (get_or st from 0)) (take (m - 1) (drop (from + 1) st)))) e
      ∙ or_none (leads_in t (head_in t (get_or st from 0)) (take (m - 1) (drop (from + 1) st)) (tail_in t (get_or st from 0))))

  pub path_closed : k ≡ 2 → (r : Bool) → r ≡ all (eqb (get_or st from 0)) (take (m - 1) (drop (from + 1) st)) → r ≡ joins_in t (take m (drop from st))
  path_closed e r er =
      er
      ∙ sym (joined ∙ ap (λ (x : ℕ). (eqb x 1 && leads_in t (head_in t (get_or st from 0)) (take (m - 1) (drop (from + 1) st)) (tail_in t (get_or st from 0)))
      || (eqb x 2 && all (eqb (get_or st from 0)) (take (m - 1) (drop (from + 1) st)))) e)

  pub path_none : (k ≡ 1 → ⊥) → (k ≡ 2 → ⊥) → false ≡ joins_in t (take m (drop from st))
  path_none e f =
      sym (joined ∙ ap₂ (λ (x y : Bool). (x && leads_in t (head_in t (get_or st from 0)) (take (m - 1) (drop (from + 1) st)) (tail_in t (get_or st from 0)))
      || (y && all (eqb (get_or st from 0)) (take (m - 1) (drop (from + 1) st))))
      (ne_eqb k 1 e) (ne_eqb k 2 f))

pub width_some : (c : ℕ) → (c ≡ 0 → ⊥) → width c ≡ c
width_some zero h = absurd (h refl)
width_some (suc c) h = refl

cycle_steps : (t : Rows) (l : List ℕ) (c : ℕ) → (c ≡ 0 → ⊥) → joins_in t (take c l) ≡ cycle_good t c l
cycle_steps t l zero h = absurd (h refl)
cycle_steps t l (suc c) h = refl

module _ (t : Rows) (st : List ℕ) (from c : ℕ) where
  pub cycle_lone : c ≡ 0 → (r : Bool) → r ≡ is_vertex_in t.ids t.kinds (get_or st from 0) → r ≡ cycle_good t c (drop from st)
  cycle_lone h r e =
      let z : from ≡ from + 0 = omega arith in
      e ∙ ap (is_vertex_in t.ids t.kinds) (ap (λ (n : ℕ). get_or st n 0) z ∙ step_at st from 0)
      ∙ sym (ap (λ (n : ℕ). cycle_good t n (drop from st)) h)

  pub cycle_path : (c ≡ 0 → ⊥) → (m : ℕ) → m ≡ c → (r : Bool) → r ≡ joins_in t (take m (drop from st)) → r ≡ cycle_good t c (drop from st)
  cycle_path h m e r g = g ∙ ap (λ (n : ℕ). joins_in t (take n (drop from st))) e ∙ cycle_steps t (drop from st) c h
