-- What stands in a row, as the array has it and as the first n places have it. Assumes nothing.
use Prim.Native.Nat.{ℕ, ◌%◌, ◌<◌, ◌≤◌}
use mathlib.Core.Path.{◌≡◌, ap, ap₂, sym, ◌∙◌}
use mathlib.Core.List.{List}
use mathlib.Core.Bool.{Bool, true, false, not, ◌&&◌, cond}
use native.Mathlib.Omega.{arith}
use lib.Dec.{eqb}
use lib.ListN.{length, take, get_or}
use lib.Seq.{get_or-take, length-take-le}
use borrow.Author.Tests.{eq-eqb, ne_eqb}
use Rattle.store.specs.Index.{Rising, row_of}
use Rattle.store.proofs.Rows.{row_found, get_d_any, get_d_past, value_found, value_none}
use Rattle.sound.specs.Rows.{rows_of, is_vertex_in, edge_good, row_good, side_at, goes_on_at, goes_on, row_in, head_in, tail_in}
use Rattle.sound.proofs.Testing.{and_true, and_false}

-- the row of an id that stands in it
pub row_is : (is : List ℕ) (n r x : ℕ) → n ≤ length is → Rising (take n is) → r < n → get_or is r 0 ≡ x → r ≡ row_of x (take n is)
row_is is n r x h up k e =
    let l = length-take-le n is h in
    let g : get_or (take n is) r 0 ≡ x = get_or-take n is r 0 k ∙ e in
    sym (row_found x (take n is) r (omega arith) g (λ j u. let v = up.below j r u (omega arith) in omega arith))

module _ (is ks : List ℕ) (n r v : ℕ) (h : n ≤ length ks) (e : r ≡ row_of v (take n is)) where
  pub vertex_found : r < n → eqb (get_or ks r 0) 0 ≡ is_vertex_in (take n is) (take n ks) v
  vertex_found k = ap (λ (x : ℕ). eqb x 0) (value_found is ks n r v 4 h e 0 k)

  pub vertex_none : n ≤ r → false ≡ is_vertex_in (take n is) (take n ks) v
  vertex_none k = ap (λ (x : ℕ). eqb x 0) (value_none is ks n r v 4 h e k)

-- ---- a row of an edge
module _ (n : ℕ) (is ks ss es bs : List ℕ) (i : ℕ) (h : i < n) where
  pub row_test : row_good (rows_of n is ks ss es) (take n bs) i ≡ edge_good (take n is) (take n ks) (get_or ks i 0) (get_or ss i 0) (get_or es i 0) (get_or bs i 0)
  row_test =
      ap₂ (λ (k a : ℕ). edge_good (take n is) (take n ks) k a (get_or (take n es) i 0) (get_or (take n bs) i 0)) (get_or-take n ks i 0 h) (get_or-take n ss i 0 h)
      ∙ ap₂ (λ (b m : ℕ). edge_good (take n is) (take n ks) (get_or ks i 0) (get_or ss i 0) b m) (get_or-take n es i 0 h) (get_or-take n bs i 0 h)

  row_kind : (k : ℕ) → get_or ks i 0 ≡ k → row_good (rows_of n is ks ss es) (take n bs) i ≡ edge_good (take n is) (take n ks) k (get_or ss i 0) (get_or es i 0)
      (get_or bs i 0)
  row_kind k e = row_test ∙ ap (λ (x : ℕ). edge_good (take n is) (take n ks) x (get_or ss i 0) (get_or es i 0) (get_or bs i 0)) e

  module _ (e : get_or ks i 0 ≡ 1) (a : Bool) (ea : a ≡ is_vertex_in (take n is) (take n ks) (get_or ss i 0)) where
    pub row_open : a ≡ true → (b : Bool) → b ≡ is_vertex_in (take n is) (take n ks) (get_or es i 0) → b ≡ row_good (rows_of n is ks ss es) (take n bs) i
    row_open t b eb = eb ∙ sym (row_kind 1 e ∙ and_true _ (sym ea ∙ t))

    pub row_loose : a ≡ false → false ≡ row_good (rows_of n is ks ss es) (take n bs) i
    row_loose t = sym (row_kind 1 e ∙ and_false _ (sym ea ∙ t))

  pub row_closed : get_or ks i 0 ≡ 2 → not (eqb (get_or bs i 0) 0) ≡ row_good (rows_of n is ks ss es) (take n bs) i
  row_closed e = sym (row_kind 2 e)

  pub row_other : (get_or ks i 0 ≡ 1 → ⊥) → (get_or ks i 0 ≡ 2 → ⊥) → true ≡ row_good (rows_of n is ks ss es) (take n bs) i
  row_other e f =
      sym (row_test
      ∙ ap₂ (λ (x y : Bool). cond x (is_vertex_in (take n is) (take n ks) (get_or ss i 0) && is_vertex_in (take n is) (take n ks) (get_or es i 0))
      (cond y (not (eqb (get_or bs i 0) 0)) true))
      (ne_eqb (get_or ks i 0) 1 e) (ne_eqb (get_or ks i 0) 2 f))

-- ---- a step of the edge in a row
module _ (n : ℕ) (ss es : List ℕ) (r s : ℕ) (h : r < n) where
  pub side_back : s % 2 ≡ 1 → get_or es r 0 ≡ side_at (take n ss) (take n es) r s
  side_back e = sym (ap (λ (b : Bool). cond b (get_or (take n es) r 0) (get_or (take n ss) r 0)) (eq-eqb (s % 2) 1 e) ∙ get_or-take n es r 0 h)

  pub side_forth : (s % 2 ≡ 1 → ⊥) → get_or ss r 0 ≡ side_at (take n ss) (take n es) r s
  side_forth e = sym (ap (λ (b : Bool). cond b (get_or (take n es) r 0) (get_or (take n ss) r 0)) (ne_eqb (s % 2) 1 e) ∙ get_or-take n ss r 0 h)

pub kind_in_lem : (n : ℕ) (ks : List ℕ) (r : ℕ) → n ≤ length ks → r < n → get_or (take n ks) r 4 ≡ get_or ks r 0
kind_in_lem n ks r h k = get_or-take n ks r 4 k ∙ get_d_any ks r 4 0 (omega arith)

module _ (n : ℕ) (ks ss es : List ℕ) (r u s : ℕ) (h : n ≤ length ks) (k : r < n) where
  pub goes_open : get_or ks r 0 ≡ 1 → (t : ℕ) → t ≡ side_at (take n ss) (take n es) r s → eqb u t ≡ goes_on_at (take n ks) (take n ss) (take n es) r u s
  goes_open e t et =
      ap (eqb u) et ∙ sym (and_true (eqb u (side_at (take n ss) (take n es) r s)) (ap (λ (x : ℕ). eqb x 1) (kind_in_lem n ks r h k ∙ e)))

  pub goes_not : (get_or ks r 0 ≡ 1 → ⊥) → false ≡ goes_on_at (take n ks) (take n ss) (take n es) r u s
  goes_not e = sym (and_false (eqb u (side_at (take n ss) (take n es) r s)) (ap (λ (x : ℕ). eqb x 1) (kind_in_lem n ks r h k) ∙ ne_eqb (get_or ks r 0) 1 e))

-- the step s, whose edge is in row r
module _ (n : ℕ) (is ks ss es : List ℕ) (r s : ℕ) (e : r ≡ row_in (rows_of n is ks ss es) s) where
  pub step_goes : (u : ℕ) (b : Bool) → b ≡ goes_on_at (take n ks) (take n ss) (take n es) r u s → goes_on (rows_of n is ks ss es) u s ≡ b
  step_goes u b eb = ap (λ (x : ℕ). goes_on_at (take n ks) (take n ss) (take n es) x u s) (sym e) ∙ sym eb

  pub step_head : (v : ℕ) → v ≡ side_at (take n es) (take n ss) r s → v ≡ head_in (rows_of n is ks ss es) s
  step_head v ev = ev ∙ ap (λ (x : ℕ). side_at (take n es) (take n ss) x s) e

  pub step_tail : (v : ℕ) → v ≡ side_at (take n ss) (take n es) r s → v ≡ tail_in (rows_of n is ks ss es) s
  step_tail v ev = ev ∙ ap (λ (x : ℕ). side_at (take n ss) (take n es) x s) e

  pub step_kind : n ≤ length ks → r < n → get_or (take n ks) (row_in (rows_of n is ks ss es) s) 4 ≡ get_or ks r 0
  step_kind h k = ap (λ (x : ℕ). get_or (take n ks) x 4) (sym e) ∙ kind_in_lem n ks r h k

  pub step_none : n ≤ length ks → n ≤ r → get_or (take n ks) (row_in (rows_of n is ks ss es) s) 4 ≡ 4
  step_none h k = let l = length-take-le n ks h in ap (λ (x : ℕ). get_or (take n ks) x 4) (sym e) ∙ get_d_past (take n ks) r 4 (omega arith)

  pub step_dead : n ≤ length ks → n ≤ r → (u : ℕ) → goes_on (rows_of n is ks ss es) u s ≡ false
  step_dead h k u = and_false _ (ap (λ (x : ℕ). eqb x 1) (step_none h k))
