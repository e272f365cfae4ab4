-- The Euler number over naturals: what the cells gain, what they lose, and the two sides of a command's share. Assumes nothing.
use Prim.Native.Nat.{ℕ, zero, suc, ◌+◌, ◌-◌, ◌≤◌, ◌<◌}
use native.Mathlib.Omega.{arith}
use mathlib.Core.Path.{◌≡◌, refl, sym, ap, ◌∙◌}
use mathlib.Core.Bool.{Bool, true, false, cond}
use mathlib.Core.List.{List, [], ◌∷◌}
use mathlib.Core.Option.{Option, none, some}
use lib.ListN.{length}
use lib.IntN.{ℤ, pos, negsuc, neg_ℤ, sub_ℕ, ◌+ℤ◌}
use lib.Dec.{ltb}
use borrow.Author.Tests.{ltb-true, ltb-false, lt-ltb, le-ltb}
use Rattle.complex.specs.Cells.{Figure, vertex, open_edge, closed_edge, face, LiveCell, Sheet, is_open, cell_at}
use Rattle.complex.specs.Sound.{over}
use Rattle.complex.specs.Euler.{cell_share, euler}
use Rattle.complex.specs.Decode.{Command, create, move, delete, glue_vertices, glue_edges, unglue, cut_edge, cut_face_vertex, cut_face_open, cut_face_closed}
use Rattle.complex.specs.Decode.{uncut}
use Rattle.complex.specs.Delete.{going}
use Rattle.complex.specs.Unglue.{parts}
use Rattle.complex.specs.Commands.{unglue_share, share}

pub record Shift : Type 0 where
  pub up : ℕ
  pub down : ℕ

-- a figure's share of the Euler number
abbrev pub share_of : Figure → Shift
share_of (vertex p) = record { up = 1; down = 0 }
share_of (open_edge a b bs) = record { up = 0; down = 1 }
share_of (closed_edge bs) = record { up = 0; down = 0 }
share_of (face ks) = record { up = 2; down = length ks }

abbrev pub gain : Figure → ℕ
gain x = (share_of x).up

abbrev pub loss : Figure → ℕ
loss x = (share_of x).down

-- two drawings with one Euler number
abbrev pub Even : Sheet → Sheet → Type 0
Even s t = over gain t.cells + over loss s.cells ≡ over gain s.cells + over loss t.cells

abbrev pub unglue_shift : ℕ → Option Figure → Shift
unglue_shift n none = record { up = 0; down = 0 }
unglue_shift n (some (vertex p)) = record { up = n; down = 0 }
unglue_shift n (some (open_edge a b bs)) = record { up = 0; down = n }
unglue_shift n (some (closed_edge bs)) = record { up = 0; down = 0 }
unglue_shift n (some (face ks)) = record { up = 0; down = 0 }

-- a command's share as a difference
abbrev pub shift : Sheet → Command → Shift
shift s (create x) = record { up = gain x; down = loss x }
shift s (move v p) = record { up = 0; down = 0 }
shift s (delete i) = record { up = over loss (going s i); down = over gain (going s i) }
shift s (glue_vertices a b) = record { up = 0; down = 1 }
shift s (glue_edges a b flag) = record { up = cond (is_open (cell_at s a)) 1 0; down = 0 }
shift s (unglue i) = unglue_shift (parts s.cells i (cell_at s i) - 1) (cell_at s i)
shift s (cut_edge e q) = record { up = 0; down = 0 }
shift s (cut_face_vertex f p) = record { up = 0; down = 0 }
shift s (cut_face_open f c1 s1 c2 s2 bs ms) = record { up = 0; down = 0 }
shift s (cut_face_closed f bs ms) = record { up = 0; down = 0 }
shift s (uncut i) = record { up = 0; down = 0 }

-- ---- differences of naturals
pub sub_equal : (a b c d : ℕ) → a + d ≡ c + b → sub_ℕ a b ≡ sub_ℕ c d
sub_equal a b c d e = go (ltb a b) (ltb c d) refl refl
  where
    go : (x y : Bool) → ltb a b ≡ x → ltb c d ≡ y → cond x (negsuc (b - suc a)) (pos (a - b)) ≡ cond y (negsuc (d - suc c)) (pos (c - d))
    go true true p q = let l = ltb-true a b p in let k = ltb-true c d q in ap negsuc (omega arith)
    go true false p q = let l = ltb-true a b p in let k = ltb-false c d q in absurd (omega arith)
    go false true p q = let l = ltb-false a b p in let k = ltb-true c d q in absurd (omega arith)
    go false false p q = let l = ltb-false a b p in let k = ltb-false c d q in ap pos (omega arith)

pub sub_add : (a b c d : ℕ) → sub_ℕ a b +ℤ sub_ℕ c d ≡ sub_ℕ (a + c) (b + d)
sub_add a b c d = go (ltb a b) (ltb c d) refl refl
  where
    go : (x y : Bool) → ltb a b ≡ x → ltb c d ≡ y → cond x (negsuc (b - suc a)) (pos (a - b)) +ℤ cond y (negsuc (d - suc c)) (pos (c - d))
        ≡ sub_ℕ (a + c) (b + d)
    go true true p q =
        let l = ltb-true a b p in
        let k = ltb-true c d q in
        rw (lt-ltb (a + c) (b + d) (omega arith)) (ap negsuc (omega arith))
    go true false p q = let l = ltb-true a b p in let k = ltb-false c d q in sub_equal (c - d) (suc (b - suc a)) (a + c) (b + d) (omega arith)
    go false true p q = let l = ltb-false a b p in let k = ltb-true c d q in sub_equal (a - b) (suc (d - suc c)) (a + c) (b + d) (omega arith)
    go false false p q =
        let l = ltb-false a b p in
        let k = ltb-false c d q in
        rw (le-ltb (a + c) (b + d) (omega arith)) (ap pos (omega arith))

pub pos_sub : (n : ℕ) → pos n ≡ sub_ℕ n 0
pos_sub n = rw (le-ltb n 0 (omega arith)) (ap pos (omega arith))

pub neg_sub : (a b : ℕ) → neg_ℤ (sub_ℕ a b) ≡ sub_ℕ b a
neg_sub a b = go (ltb a b) refl
  where
    positive : (m : ℕ) → neg_ℤ (pos m) ≡ sub_ℕ 0 m
    positive zero = refl
    positive (suc m) = rw (lt-ltb 0 (suc m) (omega arith)) (ap negsuc (omega arith))

    go : (x : Bool) → ltb a b ≡ x → neg_ℤ (cond x (negsuc (b - suc a)) (pos (a - b))) ≡ sub_ℕ b a
    go true p = let l = ltb-true a b p in pos_sub (suc (b - suc a)) ∙ sub_equal (suc (b - suc a)) 0 b a (omega arith)
    go false p = let l = ltb-false a b p in positive (a - b) ∙ sub_equal 0 (a - b) b a (omega arith)

-- ---- the cells, and a command's share
pub cell_sub : (x : Figure) → cell_share x ≡ sub_ℕ (gain x) (loss x)
cell_sub (vertex p) = refl
cell_sub (open_edge a b bs) = refl
cell_sub (closed_edge bs) = refl
cell_sub (face ks) = refl

pub euler_sub : (cs : List LiveCell) → euler cs ≡ sub_ℕ (over gain cs) (over loss cs)
euler_sub [] = refl
euler_sub (c ∷ cs) = ap (λ (z : ℤ). z +ℤ euler cs) (cell_sub c.figure) ∙ ap (λ (z : ℤ). sub_ℕ (gain c.figure) (loss c.figure) +ℤ z) (euler_sub cs)
    ∙ sub_add (gain c.figure) (loss c.figure) (over gain cs) (over loss cs)

unglue_sub : (n : ℕ) (o : Option Figure) → unglue_share n o ≡ sub_ℕ (unglue_shift n o).up (unglue_shift n o).down
unglue_sub n none = refl
unglue_sub n (some (vertex p)) = pos_sub n
unglue_sub n (some (open_edge a b bs)) = ap neg_ℤ (pos_sub n) ∙ neg_sub n 0
unglue_sub n (some (closed_edge bs)) = refl
unglue_sub n (some (face ks)) = refl

pub share_sub : (s : Sheet) (c : Command) → share s c ≡ sub_ℕ (shift s c).up (shift s c).down
share_sub s (create x) = cell_sub x
share_sub s (move v p) = refl
share_sub s (delete i) = ap neg_ℤ (euler_sub (going s i)) ∙ neg_sub (over gain (going s i)) (over loss (going s i))
share_sub s (glue_vertices a b) = refl
share_sub s (glue_edges a b flag) = go (is_open (cell_at s a))
  where
    go : (y : Bool) → cond y (pos 1) (pos 0) ≡ sub_ℕ (cond y 1 0) 0
    go true = refl
    go false = refl
share_sub s (unglue i) = unglue_sub (parts s.cells i (cell_at s i) - 1) (cell_at s i)
share_sub s (cut_edge e q) = refl
share_sub s (cut_face_vertex f p) = refl
share_sub s (cut_face_open f c1 s1 c2 s2 bs ms) = refl
share_sub s (cut_face_closed f bs ms) = refl
share_sub s (uncut i) = refl
