-- A face that comes: its cycles and steps stand after those in use. Assumes nothing.
use Prim.Native.Nat.{ℕ, ◌+◌}
use native.Mathlib.Omega.{arith}
use mathlib.Core.Path.{◌≡◌, sym, ap, ◌∙◌, subst}
use mathlib.Core.Bool.{true}
use mathlib.Core.List.{List, ◌++◌, map}
use lib.ListN.{length, take, length-map, length-set}
use Rattle.number.specs.Readers.{spread}
use Rattle.complex.specs.Cells.{Cycle, face}
use Rattle.store.specs.declared.Shape.TheVariants.{Face}
use Rattle.store.specs.Sheet.{all_real}
use Rattle.store.specs.Places.{num_of, cycle_words}
use Rattle.store.specs.View.{cycle_total, step_total, bend_total}
use Rattle.store.proofs.Grow.{append, no_more}
use Rattle.rows_new.specs.Appends.{CellRoom, with_cell}
use Rattle.rows_new.proofs.Bends.{Grew}
use Rattle.lent.specs.Arrays.{Arrays, held_by, Lengths}
use Rattle.lent.specs.Growing.{with_face}
use Rattle.lent.proofs.Held.{held_sizes}
use Rattle.lent.proofs.Grown.{face_held}

-- the arrays with other cycles and steps
abbrev pub with_pools : Arrays → List ℕ → List ℕ → Arrays
with_pools a cs ss =
    record {
      next = a.next;
      count = a.count;
      ids = a.ids;
      kinds = a.kinds;
      starts = a.starts;
      ends = a.ends;
      bends = a.bends;
      counts = a.counts;
      px = a.px;
      py = a.py;
      cycles = cs;
      steps = ss;
      bx = a.bx;
      by = a.by;
    }

module _ (a : Arrays) (l : Lengths a) (cs ss : List ℕ) (lc : length cs ≡ 512) (ls : length ss ≡ 2048) where
  pub pools_long : Lengths (with_pools a cs ss)
  pools_long =
      record {
        ids = l.ids;
        kinds = l.kinds;
        starts = l.starts;
        ends = l.ends;
        bends = l.bends;
        counts = l.counts;
        px = l.px;
        py = l.py;
        cycles = lc;
        steps = ls;
        bx = l.bx;
        by = l.by;
      }

  -- the front of both lists is what was in use, and then the face's k cycles ks
  pub face_grew : (ks : List Cycle) (k : ℕ) → length ks ≡ k → all_real ks ≡ true → CellRoom (held_by a) (face ks)
      → take (cycle_total (held_by a) + length (map num_of ks)) cs ≡ take (cycle_total (held_by a)) a.cycles ++ map num_of ks
      → take (step_total (held_by a) + length (spread cycle_words ks)) ss ≡ take (step_total (held_by a)) a.steps ++ spread cycle_words ks
      → Grew (held_by a) (face ks) (held_by (with_face (with_pools a cs ss) k))
  face_grew ks k lk re m u v =
      let d = held_by a in
      let z = held_sizes a l in
      let g =
      append d z m.fits m.cells (face ks) cs ss d.bends
      (record { cells = length-set d.cells d.count _ ∙ z.cells; cycles = lc; steps = ls; bends = z.bends })
      (omega (arith, m.cycles, length-map ks num_of)) u m.steps v m.bends (no_more d.bends (bend_total d)) re in
      let q : held_by (with_face (with_pools a cs ss) k) ≡ with_cell (held_by (with_pools a cs ss)) (Face (length ks)) =
      face_held (with_pools a cs ss) pools_long k m.cells ∙ ap (λ (n : ℕ). with_cell (held_by (with_pools a cs ss)) (Face n)) (sym lk) in
      subst (Grew d (face ks)) (sym q) g
