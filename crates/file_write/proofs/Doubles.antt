-- The coordinates of a drawing in memory are f64s. Assumes nothing.
use Prim.Native.Nat.{ℕ, zero, suc}
use mathlib.Core.Bool.{Bool, true}
use mathlib.Core.List.{List, [], ◌∷◌, map}
use borrow.Author.Rules.{rules}
use lib.Dec.{T}
use lib.ListN.{take, drop}
use mir.Val.{Val}
use denote.Array.{each}
use denote.Laws.{Is}
use denote.Shadow.{shadow}
use denote.Struct.Declared.{row}
use Rattle.number.specs.Readers.{all}
use Rattle.coordinate.specs.declared.Position.{Position}
use Rattle.coordinate.specs.contracts.Position as position
use Rattle.coordinate.proofs.Held.{held}
use Rattle.complex.specs.Cells.{Cycle, LiveCell}
use Rattle.complex.specs.Sound.{double, figure_double, doubles}
use Rattle.complex.proofs.Bools.{both, pair}
use Rattle.complex.proofs.ReadDoubles.{fits_double}
use Rattle.store.specs.declared.Shape.{Shape}
use Rattle.store.specs.declared.Shape.TheVariants.{Vertex, Open, Closed, Face}
use Rattle.store.specs.declared.Cell.{Cell}
use Rattle.store.specs.declared.Drawing.{Drawing}
use Rattle.store.specs.View.{cycles_from, cells_of, figure_of, cycle_count, bend_count, sheet_of}
use Rattle.store.specs.contracts.Shape as shape
use Rattle.store.specs.contracts.Cell as cell
use Rattle.store.specs.contracts.Drawing.{the_type}

module _ {A : Type 0} (p : A → Bool) where
  all_take : (n : ℕ) (l : List A) → T (all p l) → T (all p (take n l))
  all_take zero l t = tt
  all_take (suc n) [] t = tt
  all_take (suc n) (x ∷ l) t = let b = both (p x) (all p l) t in pair (p x) (all p (take n l)) b.0 (all_take n l b.1)

  all_drop : (n : ℕ) (l : List A) → T (all p l) → T (all p (drop n l))
  all_drop zero l t = t
  all_drop (suc n) [] t = tt
  all_drop (suc n) (x ∷ l) t = all_drop n l (both (p x) (all p l) t).1

-- ---- of the view, from the cells and the bends
abbrev shape_double : Shape → Bool
shape_double (Vertex p) = double p
shape_double (Open s e n) = true
shape_double (Closed n) = true
shape_double (Face k) = true

figure_double_lem : (s : Shape) (ks : List Cycle) (bs : List Position) → T (shape_double s) → T (all double bs) → T (figure_double (figure_of s ks bs))
figure_double_lem (Vertex p) ks bs t u = t
figure_double_lem (Open s e n) ks bs t u = all_take double n bs u
figure_double_lem (Closed n) ks bs t u = all_take double n bs u
figure_double_lem (Face k) ks bs t u = tt

cells_double : (cs : List Cell) (ks : List Cycle) (bs : List Position) → T (all (λ (c : Cell). shape_double c.shape) cs) → T (all double bs)
    → T (all (λ (x : LiveCell). figure_double x.figure) (cells_of cs ks bs))
cells_double [] ks bs t u = tt
cells_double (c ∷ cs) ks bs t u =
    let s = c.shape in
    let b = both (shape_double s) (all (λ (x : Cell). shape_double x.shape) cs) t in
    pair (figure_double (figure_of s ks bs)) (all (λ (x : LiveCell). figure_double x.figure) (cells_of cs (drop (cycle_count s) ks) (drop (bend_count s) bs)))
    (figure_double_lem s ks bs b.0 u)
    (cells_double cs (drop (cycle_count s) ks) (drop (bend_count s) bs) b.1 (all_drop double (bend_count s) bs u))

-- ---- of what lies in memory
bends_held : (ps : List Position) (us : List Val) → shadow (each (position.the_row).Denot (position.the_row).own_val ps us) → T (all double ps)
bends_held [] us h = tt
bends_held (p ∷ ps) [] h = absurd h
bends_held (p ∷ ps) (u ∷ us) h = pair (double p) (all double ps) (fits_double p (held p (u ∷ []) h.0)) (bends_held ps us h.1)

shape_held : (s : Shape) (vs : List Val) → Is (shape.the_field).row ((shape.the_field).into s) vs → T (shape_double s)
shape_held (Vertex p) vs h = fits_double p (search rules)
shape_held (Open s e n) vs h = tt
shape_held (Closed n) vs h = tt
shape_held (Face k) vs h = tt

cells_held : (cs : List Cell) (us : List Val) → shadow (each (cell.the_row).Denot (cell.the_row).own_val cs us)
    → T (all (λ (c : Cell). shape_double c.shape) cs)
cells_held [] us h = tt
cells_held (c ∷ cs) [] h = absurd h
cells_held (c ∷ cs) (u ∷ us) h =
    pair (shape_double c.shape) (all (λ (x : Cell). shape_double x.shape) cs) (shape_held c.shape _ h.0.1.1.1.0) (cells_held cs us h.1)

-- what owning a drawing tells of its coordinates
pub drawing_double : (d : Drawing) (vs : List Val) → Is (row the_type) d vs → T (doubles (sheet_of d))
unfolding sheet_of
drawing_double d vs p =
    let a = p.1.1.1.1 in
    cells_double (take d.count d.cells) (cycles_from d.cycles d.steps) d.bends
    (all_take (λ (c : Cell). shape_double c.shape) d.count d.cells (cells_held d.cells a.0.0 a.0.1.1))
    (bends_held d.bends a.1.1.1.0.0 a.1.1.1.0.1.1)
