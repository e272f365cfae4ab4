-- Bends that are put after those in use, and the edge that has them. Assumes nothing.
use Prim.Native.Nat.{ℕ, ◌+◌, ◌<◌}
use native.Mathlib.Omega.{arith}
use native.Mathlib.Numerals.{add-one}
use mathlib.Core.Path.{◌≡◌, refl, sym, ap, ap₂, ◌∙◌}
use mathlib.Core.List.{List}
use lib.Ieee.{Float}
use lib.ListN.{length, get_or, set, length-set}
use lib.Seq.{paste, paste-zero, paste-suc}
use Rattle.coordinate.specs.declared.Position.{Position}
use Rattle.complex.specs.Cells.{open_edge, closed_edge}
use Rattle.store.specs.declared.Shape.TheVariants.{Open, Closed}
use Rattle.store.specs.declared.Drawing.{Drawing}
use Rattle.store.specs.View.{bend_total}
use Rattle.store.specs.Edits.{with_bends}
use Rattle.rows_new.specs.Appends.{CellRoom, with_cell, with_more_bends}
use Rattle.rows_new.proofs.Bends.{Grew, edge_grown}
use Rattle.lent.specs.Arrays.{Arrays, positions_in, held_by, Lengths}
use Rattle.lent.specs.Growing.{with_open, with_closed}
use Rattle.lent.proofs.Held.{held_sizes, positions_length, positions_set}
use Rattle.lent.proofs.Grown.{open_held, closed_held}
use Rattle.kernel_add.specs.Comes.{BendsPut}

-- ---- one bend after another
module _ (xs ys : List Float) (at : ℕ) (bs : List Position) where
  pub put_none : BendsPut xs ys at bs 0 xs ys
  put_none = record { across = refl; up = refl; positions = paste-zero (positions_in xs ys) at bs }

  module _ (n : ℕ) (us vs : List Float) (p : BendsPut xs ys at bs n us vs) where
    pub put_more : (b z : Position) → length xs ≡ length ys → at + n < length xs → n < length bs → b ≡ get_or bs n z
        → (us' vs' : List Float) → us' ≡ set us (at + n) b.x → vs' ≡ set vs (at + n) b.y → BendsPut xs ys at bs (n + 1) us' vs'
    put_more b z e h k g us' vs' eu ev =
        let l = positions_length xs ys e in
        record {
          across = ap length eu ∙ length-set us (at + n) b.x ∙ p.across;
          up = ap length ev ∙ length-set vs (at + n) b.y ∙ p.up;
          positions =
              ap₂ positions_in eu ev ∙ positions_set us vs (at + n) b
              ∙ ap₂ (λ (l : List Position) (q : Position). set l (at + n) q) p.positions g
              ∙ paste-suc (positions_in xs ys) at bs n z (omega (arith, l, h)) k
              ∙ ap (paste (positions_in xs ys) at bs) (sym (add-one n));
        }

-- ---- the arrays with other bends
abbrev pub with_placed : Arrays → List Float → List Float → Arrays
with_placed a us vs =
    record {
      next = a.next;
      count = a.count;
      ids = a.ids;
      kinds = a.kinds;
      starts = a.starts;
      ends = a.ends;
      bends = a.bends;
      counts = a.counts;
      px = a.px;
      py = a.py;
      cycles = a.cycles;
      steps = a.steps;
      bx = us;
      by = vs;
    }

module _ (a : Arrays) (l : Lengths a) (bs : List Position) (k at : ℕ) (lk : length bs ≡ k) (ea : at ≡ bend_total (held_by a)) (us vs : List Float)
    (p : BendsPut a.bx a.by at bs k us vs) where
  pub placed_long : Lengths (with_placed a us vs)
  placed_long =
      record {
        ids = l.ids;
        kinds = l.kinds;
        starts = l.starts;
        ends = l.ends;
        bends = l.bends;
        counts = l.counts;
        px = l.px;
        py = l.py;
        cycles = l.cycles;
        steps = l.steps;
        bx = p.across ∙ l.bx;
        by = p.up ∙ l.by;
      }

  more : held_by (with_placed a us vs) ≡ with_more_bends (held_by a) bs
  more =
      ap (with_bends (held_by a))
      (p.positions ∙ ap₂ (λ (i n : ℕ). paste (positions_in a.bx a.by) i bs n) ea (sym lk))

  pub open_grew : (s e : ℕ) → CellRoom (held_by a) (open_edge s e bs) → Grew (held_by a) (open_edge s e bs) (held_by (with_open (with_placed a us vs) s e k))
  open_grew s e m =
      edge_grown (held_by a) (held_sizes a l) (open_edge s e bs) m refl _ (Open s e k) (ap (Open s e) (sym lk))
      (open_held (with_placed a us vs) placed_long s e k m.cells ∙ ap (λ (d : Drawing). with_cell d (Open s e k)) more)

  pub closed_grew : CellRoom (held_by a) (closed_edge bs) → Grew (held_by a) (closed_edge bs) (held_by (with_closed (with_placed a us vs) k))
  closed_grew m =
      edge_grown (held_by a) (held_sizes a l) (closed_edge bs) m refl _ (Closed k) (ap Closed (sym lk))
      (closed_held (with_placed a us vs) placed_long k m.cells ∙ ap (λ (d : Drawing). with_cell d (Closed k)) more)
