-- Rows with other ids, and a cell's new id. Assumes nothing.
use Prim.Native.Nat.{ℕ, zero, suc, ◌+◌, ◌<◌}
use native.Mathlib.Omega.{arith}
use mathlib.Core.Path.{◌≡◌, refl, sym, ap, ap₂, ◌∙◌}
use mathlib.Core.Bool.{Bool, true, false, cond}
use mathlib.Core.List.{List, [], ◌∷◌, ◌++◌, map}
use lib.Dec.{eqb}
use lib.ListN.{length, get_or, take, set, length-set}
use lib.Seq.{get_or-set_same, get_or-set_other}
use borrow.Author.Tests.{eqb-true, eqb-false}
use Rattle.coordinate.specs.declared.Position.{Position}
use Rattle.number.specs.Readers.{spread}
use Rattle.complex.specs.Cells.{Cycle, Figure, LiveCell, ids}
use Rattle.complex.specs.Edits.{reshape, numbered}
use Rattle.complex.specs.Renumber.{rank}
use Rattle.store.specs.declared.Shape.{Shape}
use Rattle.store.specs.declared.Cell.{Cell}
use Rattle.store.specs.Index.{row_of}
use Rattle.store.specs.Places.{shape_of, entry_cell, entry_cycles, entry_bends}
use Rattle.lent.specs.Arrays.{cells_by}
use Rattle.kernel_renumber.specs.Renumbers.{new_id, RowsNumbered}

-- ---- a cell's new id is one more than its row
pub rank_row : (cs : List LiveCell) (i : ℕ) → rank cs i ≡ new_id (ids cs) i
rank_row [] i = refl
rank_row (c ∷ cs) i = go (eqb c.id i) (rank_row cs i)
  where
    go : (b : Bool) → rank cs i ≡ new_id (ids cs) i → cond b 1 (suc (rank cs i)) ≡ suc (cond b 0 (suc (row_of i (ids cs))))
    go true e = refl
    go false e = ap suc e

-- ---- the ids are written row by row
pub numbering_start : (is : List ℕ) → RowsNumbered 0 is is
numbering_start is = record { size = refl; rows = λ j h. absurd (omega arith) }

pub numbering_turn : (is₀ : List ℕ) (i : ℕ) (is : List ℕ) (v : ℕ) → RowsNumbered i is₀ is → i < length is₀ → v ≡ suc i → RowsNumbered (i + 1) is₀ (set is i v)
numbering_turn is₀ i is v p h e = record { size = length-set is i v ∙ p.size; rows = λ j g. at j g (eqb j i) refl }
  where
    at : (j : ℕ) → j < i + 1 → (b : Bool) → eqb j i ≡ b → get_or (set is i v) j 0 ≡ suc j
    at j g true q =
        let s = eqb-true j i q in
        ap (λ (m : ℕ). get_or (set is i v) m 0) s ∙ get_or-set_same is i v 0 (omega (arith, p.size)) ∙ e ∙ ap suc (sym s)
    at j g false q = let n = eqb-false j i q in get_or-set_other is i j v 0 n ∙ p.rows j (omega (arith, g, n))

-- ---- cells with the ids from k on
abbrev cells_from : ℕ → List Shape → List Cell
cells_from k [] = []
cells_from k (s ∷ ss) = record { id = k; shape = s } ∷ cells_from (suc k) ss

cells_numbered : (f : ℕ → Shape) (n k : ℕ) (is₀ is : List ℕ) → length is ≡ length is₀ → ((j : ℕ) → j < n → get_or is j 0 ≡ k + j)
    → take n (cells_by f is) ≡ cells_from k (map (λ (c : Cell). c.shape) (take n (cells_by f is₀)))
cells_numbered f zero k is₀ is l h = refl
cells_numbered f (suc n) k [] [] l h = refl
cells_numbered f (suc n) k [] (x ∷ is) l h = absurd (omega arith)
cells_numbered f (suc n) k (y ∷ is₀) [] l h = absurd (omega arith)
cells_numbered f (suc n) k (y ∷ is₀) (x ∷ is) l h =
    let e : x ≡ k = h 0 (omega arith) ∙ omega arith in
    ap₂ (λ (i : ℕ) (q : List Cell). record { id = i; shape = f 0 } ∷ q) e
    (cells_numbered (λ i. f (suc i)) n (suc k) is₀ is (omega arith) (λ j g. h (suc j) (omega arith) ∙ omega arith))

figures_from : (k : ℕ) (xs : List LiveCell) → cells_from k (map (λ (c : Cell). c.shape) (map entry_cell xs))
    ≡ map entry_cell (numbered k (map (λ (x : LiveCell). x.figure) xs))
figures_from k [] = refl
figures_from k (x ∷ xs) = ap (λ (q : List Cell). record { id = k; shape = shape_of x.figure } ∷ q) (figures_from (suc k) xs)

pub number_heads : (f : ℕ → Shape) (n : ℕ) (is₀ is : List ℕ) (xs : List LiveCell) → RowsNumbered n is₀ is → take n (cells_by f is₀) ≡ map entry_cell xs
    → take n (cells_by f is) ≡ map entry_cell (numbered 1 (map (λ (x : LiveCell). x.figure) xs))
number_heads f n is₀ is xs p e =
    cells_numbered f n 1 is₀ is p.size (λ j h. p.rows j h ∙ omega arith)
    ∙ ap (λ (q : List Cell). cells_from 1 (map (λ (c : Cell). c.shape) q)) e
    ∙ figures_from 1 xs

-- what the cells put into the other arrays stays
pub number_cycles : (k : ℕ) (xs : List LiveCell) → spread entry_cycles (numbered k (map (λ (x : LiveCell). x.figure) xs)) ≡ spread entry_cycles xs
number_cycles k [] = refl
number_cycles k (x ∷ xs) = ap (λ (q : List Cycle). entry_cycles x ++ q) (number_cycles (suc k) xs)

pub number_bends : (k : ℕ) (xs : List LiveCell) → spread entry_bends (numbered k (map (λ (x : LiveCell). x.figure) xs)) ≡ spread entry_bends xs
number_bends k [] = refl
number_bends k (x ∷ xs) = ap (λ (q : List Position). entry_bends x ++ q) (number_bends (suc k) xs)

pub reshaped_figures : (g : ℕ → Figure → Figure) (xs : List LiveCell)
    → map (λ (x : LiveCell). x.figure) (reshape g xs) ≡ map (λ (x : LiveCell). g x.id x.figure) xs
reshaped_figures g [] = refl
reshaped_figures g (x ∷ xs) = ap (λ (q : List Figure). g x.id x.figure ∷ q) (reshaped_figures g xs)
