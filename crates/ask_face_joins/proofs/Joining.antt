-- One turn of a walk along steps, and how the kind of the first step tells of the whole. Assumes nothing.
use Prim.Native.Nat.{ℕ}
use mathlib.Core.Path.{◌≡◌, refl, sym, ap, ap₂, ◌∙◌}
use mathlib.Core.Bool.{Bool, true, false, ◌&&◌, ◌||◌}
use mathlib.Core.List.{List, ◌∷◌}
use native.Mathlib.Omega.{arith}
use lib.Dec.{eqb}
use lib.ListN.{get_or}
use borrow.Author.Tests.{eq-eqb, ne_eqb}
use Rattle.complex.specs.Lists.{all}
use Rattle.sound.specs.Rows.{Rows, row_in, tail_in, head_in, goes_on, leads_in, joins_in}

-- ---- a walk
module _ (t : Rows) where
  goes_no : (u s k : ℕ) → k ≡ get_or t.kinds (row_in t s) 4 → (k ≡ 1 → ⊥) → false ≡ goes_on t u s
  goes_no u s k ek h = sym (ap (λ (b : Bool). b && eqb u (tail_in t s)) (ap (λ (n : ℕ). eqb n 1) (sym ek) ∙ ne_eqb k 1 h))

  module _ (u s : ℕ) (st : List ℕ) (w : ℕ) where
    pub leads_no : goes_on t u s ≡ false → false ≡ leads_in t u (s ∷ st) w
    leads_no e = sym (ap (λ (b : Bool). b && leads_in t (head_in t s) st w) e)

    pub leads_on : goes_on t u s ≡ true → (v : ℕ) → v ≡ head_in t s → leads_in t v st w ≡ leads_in t u (s ∷ st) w
    leads_on e v ev = ap (λ (x : ℕ). leads_in t x st w) ev ∙ sym (ap (λ (b : Bool). b && leads_in t (head_in t s) st w) e)

  -- ---- the kind of the first step tells how a path is to join
  module _ (s : ℕ) (st : List ℕ) (k : ℕ) (ek : k ≡ get_or t.kinds (row_in t s) 4) where
    pub joins_ring : k ≡ 2 → (r : Bool) → r ≡ all (eqb s) (s ∷ st) → r ≡ joins_in t (s ∷ st)
    joins_ring h r er =
        er ∙ ap (λ (b : Bool). b && all (eqb s) st) (eq-eqb s s refl)
        ∙ sym (ap₂ (λ (a c : Bool). (a && leads_in t (head_in t s) st (tail_in t s)) || (c && all (eqb s) st))
        (sym (goes_no (tail_in t s) s k ek (λ e. clash h e)))
        (ap (λ (n : ℕ). eqb n 2) (sym ek) ∙ eq-eqb k 2 h))
      where
        clash : k ≡ 2 → k ≡ 1 → ⊥
        clash a b = omega arith

    pub joins_none : (k ≡ 1 → ⊥) → (k ≡ 2 → ⊥) → joins_in t (s ∷ st) ≡ false
    joins_none h g =
        ap₂ (λ (a c : Bool). (a && leads_in t (head_in t s) st (tail_in t s)) || (c && all (eqb s) st))
        (sym (goes_no (tail_in t s) s k ek h))
        (ap (λ (n : ℕ). eqb n 2) (sym ek) ∙ ne_eqb k 2 g)

    pub joins_round : (k ≡ 2 → ⊥) → (u : ℕ) → u ≡ tail_in t s → (r : Bool) → r ≡ leads_in t u (s ∷ st) u → r ≡ joins_in t (s ∷ st)
    joins_round h u eu r er =
        er ∙ ap (λ (x : ℕ). leads_in t x (s ∷ st) x) eu
        ∙ sym (ap (λ (c : Bool). leads_in t (tail_in t s) (s ∷ st) (tail_in t s) || (c && all (eqb s) st)) (ap (λ (n : ℕ). eqb n 2) (sym ek) ∙ ne_eqb k 2 h)
        ∙ or_none (leads_in t (tail_in t s) (s ∷ st) (tail_in t s)))
      where
        or_none : (b : Bool) → (b || false) ≡ b
        or_none true = refl
        or_none false = refl
