-- The ends of open edges are renamed row by row. Assumes nothing.
use Prim.Native.Nat.{ℕ, ◌+◌, ◌<◌, ◌≤◌}
use native.Mathlib.Omega.{arith}
use mathlib.Core.Path.{◌≡◌, refl, sym, ap, ◌∙◌}
use mathlib.Core.Bool.{Bool, true, false, cond}
use mathlib.Core.List.{List}
use lib.Dec.{eqb}
use lib.ListN.{length, get_or, set, length-set}
use lib.Seq.{get_or-set_same, get_or-set_other}
use borrow.Author.Tests.{eq-eqb, ne_eqb, eqb-true, eqb-false}
use Rattle.kernel_rename.specs.Renames.{rename_end, EndsRenamed}

-- the ends in the first i rows are renamed, and the others are as they were
pub record Renaming (r : ℕ → ℕ) (ks l₀ : List ℕ) (i : ℕ) (l : List ℕ) : Type 0 where
  pub size : length l ≡ length l₀
  pub rows : (j : ℕ) → j < i → get_or l j 0 ≡ rename_end r (get_or ks j 0) (get_or l₀ j 0)
  pub rest : (j : ℕ) → i ≤ j → get_or l j 0 ≡ get_or l₀ j 0

module _ (r : ℕ → ℕ) (ks l₀ : List ℕ) where
  pub renaming_start : Renaming r ks l₀ 0 l₀
  renaming_start = record { size = refl; rows = λ j h. absurd (omega arith); rest = λ j h. refl }

  pub renaming_end : (n : ℕ) (l : List ℕ) → Renaming r ks l₀ n l → EndsRenamed r ks n l₀ l
  renaming_end n l p = record { size = p.size; rows = p.rows }

  module _ (i : ℕ) (l : List ℕ) (p : Renaming r ks l₀ i l) where
    -- a row of an open edge
    pub renaming_open : i < length l₀ → get_or ks i 0 ≡ 1 → (v : ℕ) → v ≡ r (get_or l i 0) → Renaming r ks l₀ (i + 1) (set l i v)
    renaming_open h k v e =
        record {
          size = length-set l i v ∙ p.size;
          rows = λ j g. at j g (eqb j i) refl;
          rest = λ j g. get_or-set_other l i j v 0 (λ q. omega (arith, q)) ∙ p.rest j (omega arith);
        }
      where
        own : get_or (set l i v) i 0 ≡ rename_end r (get_or ks i 0) (get_or l₀ i 0)
        own =
            get_or-set_same l i v 0 (omega (arith, p.size)) ∙ e ∙ ap r (p.rest i (omega arith))
            ∙ sym (ap (λ (b : Bool). cond b (r (get_or l₀ i 0)) (get_or l₀ i 0)) (eq-eqb (get_or ks i 0) 1 k))

        at : (j : ℕ) → j < i + 1 → (b : Bool) → eqb j i ≡ b → get_or (set l i v) j 0 ≡ rename_end r (get_or ks j 0) (get_or l₀ j 0)
        at j g true q =
            ap (λ (m : ℕ). get_or (set l i v) m 0) (eqb-true j i q) ∙ own ∙ sym (ap (λ (m : ℕ). rename_end r (get_or ks m 0) (get_or l₀ m 0)) (eqb-true j i q))
        at j g false q = let n = eqb-false j i q in get_or-set_other l i j v 0 n ∙ p.rows j (omega (arith, g, n))

    -- a row of another kind
    pub renaming_other : (get_or ks i 0 ≡ 1 → ⊥) → Renaming r ks l₀ (i + 1) l
    renaming_other k = record { size = p.size; rows = λ j g. at j g (eqb j i) refl; rest = λ j g. p.rest j (omega arith) }
      where
        own : get_or l i 0 ≡ rename_end r (get_or ks i 0) (get_or l₀ i 0)
        own = p.rest i (omega arith) ∙ sym (ap (λ (b : Bool). cond b (r (get_or l₀ i 0)) (get_or l₀ i 0)) (ne_eqb (get_or ks i 0) 1 k))

        at : (j : ℕ) → j < i + 1 → (b : Bool) → eqb j i ≡ b → get_or l j 0 ≡ rename_end r (get_or ks j 0) (get_or l₀ j 0)
        at j g true q = ap (λ (m : ℕ). get_or l m 0) (eqb-true j i q) ∙ own ∙ sym (ap (λ (m : ℕ). rename_end r (get_or ks m 0) (get_or l₀ m 0)) (eqb-true j i q))
        at j g false q = let n = eqb-false j i q in p.rows j (omega (arith, g, n))
