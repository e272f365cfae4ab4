-- Arrays in normal form are the index of the drawing that they hold. Assumes nothing.
use Prim.Native.Nat.{ℕ, zero, suc, ◌+◌, ◌-◌, ◌<◌, ◌≤◌}
use native.Mathlib.Omega.{arith}
use mathlib.Core.Path.{◌≡◌, refl, sym, ap, ap₂, ◌∙◌}
use mathlib.Core.Bool.{Bool, true, false, ◌&&◌, cond}
use mathlib.Core.List.{List, [], ◌∷◌, map}
use lib.Dec.{eqb}
use lib.Ieee.{Float, nan}
use lib.ListN.{length, get_or, set, take}
use lib.Seq.{get_or-set_same, get_or-set_other}
use borrow.Author.Tests.{eqb-true, ne_eqb}
use Rattle.coordinate.specs.declared.Position.{Position}
use Rattle.complex.specs.Lists.{all}
use Rattle.store.specs.declared.Shape.{Shape}
use Rattle.store.specs.declared.Cell.{Cell}
use Rattle.store.specs.declared.Drawing.{Drawing}
use Rattle.store.specs.View.{bend_count, cycle_count}
use Rattle.store.specs.Index.{Indexes, kind_of, shape_start, shape_end}
use Rattle.store.specs.Sizes.{Sizes}
use Rattle.sound.specs.Rows.{all_from}
use Rattle.sound.proofs.Testing.{shifted}
use Rattle.lent.specs.Arrays.{Arrays, of_lists, shape_by, shape_at, position_in, positions_in, cells_by, held_by, rows_by, row_normal, normal_at, normal, Lengths}

-- ---- tests of rows
pub and_first : (a b : Bool) → a && b ≡ true → a ≡ true
and_first true b e = refl
and_first false b e = e

pub and_second : (a b : Bool) → a && b ≡ true → b ≡ true
and_second true b e = e
and_second false true e = refl
and_second false false e = e

pub all_at : (p : ℕ → Bool) (n j : ℕ) → j < n → all_from p 0 n ≡ true → p j ≡ true
all_at p zero j h e = absurd (omega arith)
all_at p (suc n) zero h e = and_first (p 0) (all_from p 1 n) e
all_at p (suc n) (suc j) h e = all_at (λ (i : ℕ). p (suc i)) n j (omega arith) (sym (shifted p 0 n) ∙ and_second (p 0) (all_from p 1 n) e)

pub all_intro : (p : ℕ → Bool) (n : ℕ) → ((j : ℕ) → j < n → p j ≡ true) → all_from p 0 n ≡ true
all_intro p zero h = refl
all_intro p (suc n) h = ap₂ ◌&&◌ (h 0 (omega arith)) (shifted p 0 n ∙ all_intro (λ (j : ℕ). p (suc j)) n (λ j k. h (suc j) (omega arith)))

-- ---- the cells of the rows
pub cells_length : (f : ℕ → Shape) (is : List ℕ) → length (cells_by f is) ≡ length is
cells_length f [] = refl
cells_length f (x ∷ is) = ap suc (cells_length (λ i. f (suc i)) is)

pub cells_ids : (f : ℕ → Shape) (n : ℕ) (is : List ℕ) → take n is ≡ map (λ (c : Cell). c.id) (take n (cells_by f is))
cells_ids f zero is = refl
cells_ids f (suc n) [] = refl
cells_ids f (suc n) (x ∷ is) = ap (λ (l : List ℕ). x ∷ l) (cells_ids (λ i. f (suc i)) n is)

-- an array that has the number g of each shape
pub cells_told : (g : Shape → ℕ) (f : ℕ → Shape) (n : ℕ) (is ks : List ℕ) → length is ≡ length ks → ((j : ℕ) → j < n → g (f j) ≡ get_or ks j 0)
    → take n ks ≡ map (λ (c : Cell). g c.shape) (take n (cells_by f is))
cells_told g f zero is ks l h = refl
cells_told g f (suc n) [] [] l h = refl
cells_told g f (suc n) [] (k ∷ ks) l h = absurd (omega arith)
cells_told g f (suc n) (x ∷ is) [] l h = absurd (omega arith)
cells_told g f (suc n) (x ∷ is) (k ∷ ks) l h =
    ap₂ (λ (y : ℕ) (r : List ℕ). y ∷ r) (sym (h 0 (omega arith))) (cells_told g (λ i. f (suc i)) n is ks (omega arith) (λ j q. h (suc j) (omega arith)))

-- a test of each shape
pub cells_all : (p : ℕ → Bool) (q : Shape → Bool) (f : ℕ → Shape) (n : ℕ) (is : List ℕ) → n ≤ length is → ((j : ℕ) → p j ≡ q (f j))
    → all_from p 0 n ≡ all (λ (c : Cell). q c.shape) (take n (cells_by f is))
cells_all p q f zero is l h = refl
cells_all p q f (suc n) [] l h = absurd (omega arith)
cells_all p q f (suc n) (x ∷ is) l h = ap₂ ◌&&◌ (h 0) (shifted p 0 n ∙ cells_all (λ (j : ℕ). p (suc j)) q (λ i. f (suc i)) n is (omega arith) (λ j. h (suc j)))

pub cells_same : (f g : ℕ → Shape) (is : List ℕ) → ((j : ℕ) → g j ≡ f j) → cells_by g is ≡ cells_by f is
cells_same f g [] h = refl
cells_same f g (x ∷ is) h = ap₂ (λ (s : Shape) (l : List Cell). record { id = x; shape = s } ∷ l) (h 0)
    (cells_same (λ i. f (suc i)) (λ i. g (suc i)) is (λ j. h (suc j)))

-- the id and the shape in a row
pub cells_id : (f : ℕ → Shape) (is : List ℕ) (k : ℕ) (c : Cell) → k < length is → (get_or (cells_by f is) k c).id ≡ get_or is k 0
cells_id f [] k c h = absurd (omega arith)
cells_id f (x ∷ is) zero c h = refl
cells_id f (x ∷ is) (suc k) c h = cells_id (λ i. f (suc i)) is k c (omega arith)

pub cells_shape : (f : ℕ → Shape) (is : List ℕ) (k : ℕ) (c : Cell) → k < length is → (get_or (cells_by f is) k c).shape ≡ f k
cells_shape f [] k c h = absurd (omega arith)
cells_shape f (x ∷ is) zero c h = refl
cells_shape f (x ∷ is) (suc k) c h = cells_shape (λ i. f (suc i)) is k c (omega arith)

-- one row is changed
pub cells_set : (f g : ℕ → Shape) (k x : ℕ) (is : List ℕ) → k < length is → ((j : ℕ) → (j ≡ k → ⊥) → g j ≡ f j)
    → cells_by g (set is k x) ≡ set (cells_by f is) k (record { id = x; shape = g k })
cells_set f g k x [] l h = absurd (omega arith)
cells_set f g zero x (y ∷ is) l h = ap (λ (r : List Cell). record { id = x; shape = g 0 } ∷ r)
    (cells_same (λ i. f (suc i)) (λ i. g (suc i)) is (λ j. h (suc j) (λ e. omega (arith, e))))
cells_set f g (suc k) x (y ∷ is) l h =
    ap₂ (λ (s : Shape) (r : List Cell). record { id = y; shape = s } ∷ r) (h 0 (λ e. omega (arith, e)))
    (cells_set (λ i. f (suc i)) (λ i. g (suc i)) k x is (omega arith) (λ j n. h (suc j) (λ e. n (omega (arith, e)))))

-- ---- positions
pub positions_length : (xs ys : List Float) → length xs ≡ length ys → length (positions_in xs ys) ≡ length xs
positions_length [] ys e = refl
positions_length (x ∷ xs) [] e = absurd (omega arith)
positions_length (x ∷ xs) (y ∷ ys) e = ap suc (positions_length xs ys (omega arith))

pub positions_at_lem : (xs ys : List Float) (i : ℕ) (z : Position) → i < length xs → i < length ys → get_or (positions_in xs ys) i z ≡ position_in xs ys i
positions_at_lem [] ys i z h g = absurd (omega arith)
positions_at_lem (x ∷ xs) [] i z h g = absurd (omega arith)
positions_at_lem (x ∷ xs) (y ∷ ys) zero z h g = refl
positions_at_lem (x ∷ xs) (y ∷ ys) (suc i) z h g = positions_at_lem xs ys i z (omega arith) (omega arith)

-- a position after a store in one place
pub place_other : (xs ys : List Float) (k j : ℕ) (p : Position) → (j ≡ k → ⊥) → position_in (set xs k p.x) (set ys k p.y) j ≡ position_in xs ys j
place_other xs ys k j p n =
    ap₂ (λ (x y : Float). record { x = x; y = y }) (get_or-set_other xs k j p.x nan n) (get_or-set_other ys k j p.y nan n)

pub place_same : (xs ys : List Float) (k : ℕ) (p : Position) → k < length xs → k < length ys → position_in (set xs k p.x) (set ys k p.y) k ≡ p
place_same xs ys k p h g = ap₂ (λ (x y : Float). record { x = x; y = y }) (get_or-set_same xs k p.x nan h) (get_or-set_same ys k p.y nan g)

pub positions_set : (xs ys : List Float) (k : ℕ) (p : Position) → positions_in (set xs k p.x) (set ys k p.y) ≡ set (positions_in xs ys) k p
positions_set [] ys k p = refl
positions_set (x ∷ xs) [] zero p = refl
positions_set (x ∷ xs) [] (suc k) p = refl
positions_set (x ∷ xs) (y ∷ ys) zero p = refl
positions_set (x ∷ xs) (y ∷ ys) (suc k) p = ap (λ (l : List Position). record { x = x; y = y } ∷ l) (positions_set xs ys k p)

-- ---- a row in normal form
pub record Told (k s e b c : ℕ) (x : Shape) : Type 0 where
  pub kind : kind_of x ≡ k
  pub start : shape_start x ≡ s
  pub end : shape_end x ≡ e
  pub bends : bend_count x ≡ b
  pub cycles : cycle_count x ≡ c

zero_is : (n : ℕ) → eqb n 0 ≡ true → 0 ≡ n
zero_is n h = sym (eqb-true n 0 h)

-- no start and no end
unended : (s e : ℕ) (r : Bool) → eqb s 0 && (eqb e 0 && r) ≡ true → (0 ≡ s) × (0 ≡ e) × (r ≡ true)
unended s e r h =
    let g = and_second (eqb s 0) (eqb e 0 && r) h in
    (zero_is s (and_first (eqb s 0) (eqb e 0 && r) h), zero_is e (and_first (eqb e 0) r g), and_second (eqb e 0) r g)

pub row_told : (k s e b c : ℕ) (p : Position) → row_normal k s e b c ≡ true → Told k s e b c (shape_by k s e b c p)
row_told zero s e b c p h =
    let u = unended s e (eqb b 0 && eqb c 0) h in
    let nb = and_first (eqb b 0) (eqb c 0) u.2 in
    record { kind = refl; start = u.0; end = u.1; bends = zero_is b nb; cycles = zero_is c (and_second (eqb b 0) (eqb c 0) u.2) }
row_told (suc zero) s e b c p h = record { kind = refl; start = refl; end = refl; bends = refl; cycles = zero_is c h }
row_told (suc (suc zero)) s e b c p h =
    let u = unended s e (eqb c 0) h in
    record { kind = refl; start = u.0; end = u.1; bends = refl; cycles = zero_is c u.2 }
row_told (suc (suc (suc zero))) s e b c p h =
    let u = unended s e (eqb b 0 && true) h in
    record { kind = refl; start = u.0; end = u.1; bends = zero_is b (and_first (eqb b 0) true u.2); cycles = refl }
row_told (suc (suc (suc (suc k)))) s e b c p h =
    let m = suc (suc (suc (suc k))) in
    let g : (eqb s 0 && (eqb e 0 && (eqb b 0 && false))) ≡ true =
    rw (ne_eqb m 1 (λ q. omega (arith, q)), ne_eqb m 2 (λ q. omega (arith, q)), ne_eqb m 3 (λ q. omega (arith, q)), ne_eqb m 0 (λ q. omega (arith, q))) at
    h in
    let h3 : false ≡ true = and_second (eqb b 0) _ (and_second (eqb e 0) _ (and_second (eqb s 0) _ g)) in
    let z : ◌≡◌ {A = ℕ} 0 1 = cc in
    absurd (omega arith)

-- ---- another next id, and another number of rows, change nothing else
abbrev pub numbered : Arrays → ℕ → ℕ → Arrays
numbered a x n =
    of_lists x n a.ids a.kinds a.starts a.ends a.bends a.counts a.px a.py a.cycles a.steps a.bx a.by

pub numbered_long : (a : Arrays) (x n : ℕ) → Lengths a → Lengths (numbered a x n)
numbered_long a x n l =
    record {
      ids = l.ids;
      kinds = l.kinds;
      starts = l.starts;
      ends = l.ends;
      bends = l.bends;
      counts = l.counts;
      px = l.px;
      py = l.py;
      cycles = l.cycles;
      steps = l.steps;
      bx = l.bx;
      by = l.by;
    }

-- ---- the whole
module _ (a : Arrays) (l : Lengths a) where
  pub held_sizes : Sizes (held_by a)
  held_sizes =
      record {
        cells = cells_length (shape_at a) a.ids ∙ l.ids;
        cycles = l.cycles;
        steps = l.steps;
        bends = positions_length a.bx a.by (l.bx ∙ sym l.by) ∙ l.bx;
      }

  module _ (n : normal a ≡ true) where
    pub told : (j : ℕ) → j < a.count → Told (get_or a.kinds j 0) (get_or a.starts j 0) (get_or a.ends j 0) (get_or a.bends j 0) (get_or a.counts j 0)
        (shape_at a j)
    told j h =
        row_told (get_or a.kinds j 0) (get_or a.starts j 0) (get_or a.ends j 0) (get_or a.bends j 0) (get_or a.counts j 0) (position_in a.px a.py j)
        (all_at (normal_at a.kinds a.starts a.ends a.bends a.counts) a.count j h n)

    pub held_indexes : Indexes (held_by a) (rows_by a)
    held_indexes =
        record {
          sizes = (l.ids, l.kinds, l.starts, l.ends, l.bends, l.counts);
          ids = cells_ids (shape_at a) a.count a.ids;
          kinds = cells_told kind_of (shape_at a) a.count a.ids a.kinds (l.ids ∙ sym l.kinds) (λ j h. (told j h).kind);
          starts = cells_told shape_start (shape_at a) a.count a.ids a.starts (l.ids ∙ sym l.starts) (λ j h. (told j h).start);
          ends = cells_told shape_end (shape_at a) a.count a.ids a.ends (l.ids ∙ sym l.ends) (λ j h. (told j h).end);
          bends = cells_told bend_count (shape_at a) a.count a.ids a.bends (l.ids ∙ sym l.bends) (λ j h. (told j h).bends);
          cycles = cells_told cycle_count (shape_at a) a.count a.ids a.counts (l.ids ∙ sym l.counts) (λ j h. (told j h).cycles);
        }
