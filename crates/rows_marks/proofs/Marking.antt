-- Loops that mark rows, or look for a mark. Assumes nothing.
use Prim.Native.Nat.{ℕ, zero, suc, ◌+◌, ◌<◌, ◌≤◌}
use mathlib.Core.Path.{◌≡◌, refl, ap, ap₂, sym, ◌∙◌}
use mathlib.Core.List.{List, [], ◌∷◌, ◌++◌, map}
use mathlib.Core.Bool.{Bool, true, false, ◌&&◌, ◌||◌}
use native.Mathlib.Omega.{arith}
use native.Mathlib.Numerals.{add-one}
use lib.ListN.{length, take, drop, set, get_or, length-set, length-drop}
use lib.Seq.{take-suc-set, drop-cons, drop-length, drop-drop, get_or-take, get_or-drop, length-take-le}
use Rattle.complex.specs.Lists.{any, total}
use Rattle.store.specs.declared.Cell.{Cell}
use Rattle.store.specs.declared.Drawing.{Drawing}
use Rattle.store.specs.declared.Index.{Index}
use Rattle.store.specs.Index.{row_of, Indexes}
use Rattle.store.specs.View.{cycle_count, cycle_total}
use Rattle.store.proofs.Lists.{sum_more, sum_le}
use Rattle.store.proofs.Rows.{get_d_any, get_d_past}
use Rattle.rows_marks.specs.Marks.{ends_there, edge_marks, mark_at, any_of, sum_of, cell_marks}

-- ---- tests one after another
pub or_true : {a : Bool} (b : Bool) → a ≡ true → a || b ≡ true
or_true b e = ap (λ (x : Bool). x || b) e

pub or_false : {a : Bool} (b : Bool) → a ≡ false → a || b ≡ b
or_false b e = ap (λ (x : Bool). x || b) e

pub and_true : {a : Bool} (b : Bool) → a ≡ true → a && b ≡ b
and_true b e = ap (λ (x : Bool). x && b) e

pub and_false : {a : Bool} (b : Bool) → a ≡ false → a && b ≡ false
and_false b e = ap (λ (x : Bool). x && b) e

-- ---- looking for an element of which q holds, among m from a place on
module _ {A : Type 0} (q : A → Bool) (l : List A) (from m : ℕ) where
  -- of the first i it does not hold: the rest decides
  pub record Seeking (i : ℕ) : Type 0 where
    pub rest : any q (take m (drop from l)) ≡ any q (drop i (take m (drop from l)))

  module _ (h : from + m ≤ length l) where
    room : length (take m (drop from l)) ≡ m
    room = length-take-le m (drop from l) (let e = length-drop from l in omega arith)

    module _ (i : ℕ) (z : A) (k : i < m) (t : Seeking i) where
      seen : (b : Bool) → q (get_or l (from + i) z) ≡ b → any q (take m (drop from l)) ≡ b || any q (drop (i + 1) (take m (drop from l)))
      seen b e =
          t.rest
          ∙ ap (any q) (drop-cons (take m (drop from l)) i z (let g = room in omega arith))
          ∙ ap₂ (λ (x : Bool) (n : ℕ). x || any q (drop n (take m (drop from l))))
          (ap q (get_or-take m (drop from l) i z k ∙ get_or-drop from l i z) ∙ e) (sym (add-one i))

      pub seeking_turn : q (get_or l (from + i) z) ≡ false → Seeking (i + 1)
      seeking_turn e = record { rest = seen false e }

      pub seeking_found : q (get_or l (from + i) z) ≡ true → true ≡ any q (take m (drop from l))
      seeking_found e = sym (seen true e)

    pub seeking_end : (i : ℕ) → i ≡ m → Seeking i → false ≡ any q (take m (drop from l))
    seeking_end i e t = sym (t.rest ∙ ap (λ (n : ℕ). any q (drop n (take m (drop from l)))) (e ∙ sym room) ∙ ap (any q) (drop-length (take m (drop from l))))

pub any_map : {A B : Type 0} (q : B → Bool) (f : A → B) (l : List A) → any (λ (x : A). q (f x)) l ≡ any q (map f l)
any_map q f [] = refl
any_map q f (x ∷ l) = ap (λ (b : Bool). q (f x) || b) (any_map q f l)

-- ---- one row more
module _ {A : Type 0} where
  pub front_more : (out : List A) (i : ℕ) (v : A) (x y : List A) → i < length out → take i out ≡ x → y ≡ x ++ (v ∷ []) → take (i + 1) (set out i v) ≡ y
  front_more out i v x y h e g =
      ap (λ (n : ℕ). take n (set out i v)) (add-one i) ∙ take-suc-set out i v h ∙ ap (λ (l : List A). l ++ (v ∷ [])) e ∙ sym g

edge_suc : (i j : ℕ) (ks ss es : List ℕ) → j < length ks → j < length ss → j < length es
    → edge_marks i (take (suc j) ks) (take (suc j) ss) (take (suc j) es) ≡ edge_marks i (take j ks) (take j ss) (take j es)
    ++ (ends_there i (get_or ks j 0) (get_or ss j 0) (get_or es j 0) ∷ [])
edge_suc i j [] ss es h g f = absurd (omega arith)
edge_suc i j (k ∷ ks) [] es h g f = absurd (omega arith)
edge_suc i j (k ∷ ks) (s ∷ ss) [] h g f = absurd (omega arith)
edge_suc i zero (k ∷ ks) (s ∷ ss) (e ∷ es) h g f = refl
edge_suc i (suc j) (k ∷ ks) (s ∷ ss) (e ∷ es) h g f =
    ap (λ (r : List Bool). ends_there i k s e ∷ r) (edge_suc i j ks ss es (omega arith) (omega arith) (omega arith))

edge_more : (i j : ℕ) (ks ss es : List ℕ) → j < length ks → j < length ss → j < length es
    → edge_marks i (take (j + 1) ks) (take (j + 1) ss) (take (j + 1) es) ≡ edge_marks i (take j ks) (take j ss) (take j es)
    ++ (ends_there i (get_or ks j 0) (get_or ss j 0) (get_or es j 0) ∷ [])
edge_more i j ks ss es h g f = ap (λ (n : ℕ). edge_marks i (take n ks) (take n ss) (take n es)) (add-one j) ∙ edge_suc i j ks ss es h g f

-- the first i rows have the marks of their edges
pub record EdgesMarked (id : ℕ) (ks ss es : List ℕ) (i : ℕ) (ms : List Bool) : Type 0 where
  pub size : length ms ≡ 256
  pub told : take i ms ≡ edge_marks id (take i ks) (take i ss) (take i es)

pub edges_turn : {id : ℕ} {ks ss es : List ℕ} {i : ℕ} {ms : List Bool} → EdgesMarked id ks ss es i ms → i < 256 → i < length ks → i < length ss → i < length es
    → (b : Bool) → b ≡ ends_there id (get_or ks i 0) (get_or ss i 0) (get_or es i 0) → EdgesMarked id ks ss es (i + 1) (set ms i b)
edges_turn {id} {ks} {ss} {es} {i} {ms} m h hk hs he b e =
    record {
      size = length-set ms i b ∙ m.size;
      told =
          front_more ms i b _ _ (omega (arith, m.size)) m.told
          (edge_more id i ks ss es hk hs he ∙ ap (λ (x : Bool). edge_marks id (take i ks) (take i ss) (take i es) ++ (x ∷ [])) (sym e));
    }

cell_suc : (ms : List Bool) (cs : List ℕ) (bs : List Bool) (j : ℕ) → j < length ms → j < length cs
    → cell_marks (take (suc j) ms) (take (suc j) cs) bs ≡ cell_marks (take j ms) (take j cs) bs
    ++ ((get_or ms j false || any_of (take (get_or cs j 0) (drop (sum_of (take j cs)) bs))) ∷ [])
cell_suc [] cs bs j h g = absurd (omega arith)
cell_suc (m ∷ ms) [] bs j h g = absurd (omega arith)
cell_suc (m ∷ ms) (c ∷ cs) bs zero h g = refl
cell_suc (m ∷ ms) (c ∷ cs) bs (suc j) h g =
    ap (λ (r : List Bool). (m || any_of (take c bs)) ∷ r)
    (cell_suc ms cs (drop c bs) j (omega arith) (omega arith)
    ∙ ap (λ (l : List Bool). cell_marks (take j ms) (take j cs) (drop c bs) ++ ((get_or ms j false || any_of (take (get_or cs j 0) l)) ∷ []))
    (drop-drop (sum_of (take j cs)) c bs))

pub cell_more : (ms : List Bool) (cs : List ℕ) (bs : List Bool) (j : ℕ) → j < length ms → j < length cs → (from : ℕ) → from ≡ sum_of (take j cs)
    → cell_marks (take (j + 1) ms) (take (j + 1) cs) bs ≡ cell_marks (take j ms) (take j cs) bs
    ++ ((get_or ms j false || any_of (take (get_or cs j 0) (drop from bs))) ∷ [])
cell_more ms cs bs j h g from e =
    ap (λ (n : ℕ). cell_marks (take n ms) (take n cs) bs) (add-one j) ∙ cell_suc ms cs bs j h g
    ∙ ap (λ (n : ℕ). cell_marks (take j ms) (take j cs) bs ++ ((get_or ms j false || any_of (take (get_or cs j 0) (drop n bs))) ∷ [])) (sym e)

-- ---- sums that run along
module _ {A : Type 0} (f : A → ℕ) (l : List A) (n i : ℕ) (z : A) (h : n ≤ length l) (k : i < n) (at : ℕ) (e : at ≡ total f (take i l)) (w : ℕ)
    (g : w ≡ f (get_or l i z)) where
  pub sum_on : at + w ≡ total f (take (i + 1) l)
  sum_on = ap₂ ◌+◌ e g ∙ sym (sum_more f l i z (omega arith))

  pub sum_within : at + w ≤ total f (take n l)
  sum_within = let a = sum_on in let b = sum_le f l (i + 1) n (omega arith) in omega arith

-- ---- the mark in a row
module _ (is : List ℕ) (ms : List Bool) (n r e : ℕ) (h : n ≤ length ms) (g : r ≡ row_of e (take n is)) where
  pub mark_found : (y : Bool) → r < n → get_or ms r y ≡ mark_at (take n is) (take n ms) e
  mark_found y k = get_d_any ms r y false (omega arith) ∙ sym (get_or-take n ms r false k) ∙ ap (λ (m : ℕ). get_or (take n ms) m false) g

  pub mark_none : n ≤ r → false ≡ mark_at (take n is) (take n ms) e
  mark_none k = sym (ap (λ (m : ℕ). get_or (take n ms) m false) (sym g) ∙ get_d_past (take n ms) r false (let f = length-take-le n ms h in omega arith))

-- ---- the counts of cycles of a drawing's rows
pub sum_map : {A : Type 0} (f : A → ℕ) (xs : List A) → sum_of (map f xs) ≡ total f xs
sum_map f [] = refl
sum_map f (x ∷ xs) = ap (λ (n : ℕ). f x + n) (sum_map f xs)

pub counts_sum : (d : Drawing) (t : Index) → Indexes d t → sum_of (take d.count t.cycles) ≡ cycle_total d
counts_sum d t x = ap sum_of x.cycles ∙ sum_map (λ (c : Cell). cycle_count c.shape) (take d.count d.cells)
