-- Bends put after those in use, and an edge that has them. Assumes nothing.
use Prim.Native.Nat.{ℕ, zero, suc, ◌+◌, ◌*◌, ◌<◌}
use mathlib.Core.Path.{◌≡◌, ap, sym, subst, ◌∙◌}
use mathlib.Core.List.{List, [], ◌++◌}
use native.Mathlib.Omega.{arith}
use lib.ListN.{length, take, get_or}
use lib.Seq.{paste, length-paste, take-paste, take-length}
use Rattle.coordinate.specs.declared.Position.{Position}
use Rattle.coordinate.specs.Positions.{position_at}
use Rattle.bends.specs.Bends.{positions_at}
use Rattle.store.specs.declared.Shape.{Shape}
use Rattle.store.specs.declared.Drawing.{Drawing}
use Rattle.store.specs.Sizes.{Sizes}
use Rattle.complex.specs.Cells.{Figure}
use Rattle.store.specs.View.{sheet_of, Fits, bend_total}
use Rattle.store.specs.Places.{shape_of, figure_cycles, figure_bends}
use Rattle.store.specs.Edits.{appended}
use Rattle.store.proofs.Grow.{append_edge}
use Rattle.rows_new.specs.Appends.{CellRoom, with_cell, with_more_bends}

-- r is d with one cell more
abbrev pub Grew : Drawing → Figure → Drawing → Type 0
Grew d x r = (sheet_of r ≡ appended (sheet_of d) x) × Fits r

-- an edge's bends and its cell
pub edge_grown : (d : Drawing) → Sizes d → (x : Figure) → CellRoom d x → figure_cycles x ≡ [] → (r : Drawing) (s : Shape) → s ≡ shape_of x
    → r ≡ with_cell (with_more_bends d (figure_bends x)) s
    → Grew d x r
edge_grown d z x h e r s t f =
    let bs = figure_bends x in
    let b = h.bends in
    let l = z.bends in
    subst (Grew d x) (sym (f ∙ ap (with_cell (with_more_bends d bs)) t))
    (append_edge d z h.fits h.cells x (paste d.bends (bend_total d) bs (length bs)) e
    (length-paste d.bends (bend_total d) bs (length bs) (omega arith) (omega arith) ∙ z.bends)
    b
    (take-paste d.bends (bend_total d) bs (length bs) (omega arith) (omega arith) ∙ ap (λ (k : List Position). take (bend_total d) d.bends ++ k)
    (take-length bs)))

-- the k-th of the positions in bytes
pub positions_get : (s : List ℕ) (at n k : ℕ) (z : Position) → k < n → get_or (positions_at s at n) k z ≡ position_at s (at + 16 * k)
positions_get s at zero k z h = absurd (omega arith)
positions_get s at (suc n) zero z h = let e : at ≡ at + 16 * 0 = omega arith in ap (position_at s) e
positions_get s at (suc n) (suc k) z h =
    let e : at + 16 + 16 * k ≡ at + 16 * suc k = omega arith in
    positions_get s (at + 16) n k z (omega arith) ∙ ap (position_at s) e
