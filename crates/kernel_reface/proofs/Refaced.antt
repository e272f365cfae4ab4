-- The arrays that are left when two cells go, and their face with other cycles. Assumes nothing.
use Prim.Native.Nat.{ℕ, ◌<◌, ◌≤◌}
use mathlib.Core.Path.{◌≡◌, ap, ◌∙◌}
use mathlib.Core.Bool.{Bool, true, false}
use mathlib.Core.List.{List, []}
use lib.ListN.{length, take, set, replicate, length-set, length-replicate}
use Rattle.complex.specs.Lists.{total}
use Rattle.complex.specs.Cells.{face}
use Rattle.complex.specs.Edits.{neither, replaced, rebuild}
use Rattle.store.specs.Index.{row_of, Rising}
use Rattle.store.specs.View.{sheet_of}
use Rattle.store.specs.Edits.{places_of}
use Rattle.rows_spans.specs.declared.Spans.{Spans}
use Rattle.rows_spans.specs.declared.Used.{Used}
use Rattle.rows_spans.specs.Runs.{spans_of}
use Rattle.rows_spans.specs.Building.{built}
use Rattle.rows_corners.specs.Faces.{Named}
use Rattle.rows_corners.proofs.Rows.{finding, spanning, replacing, replaced_with}
use Rattle.rows_reface.specs.Needs.{Refaced}
use Rattle.rows_reface.proofs.Refacing.{left_named, left_room, refaced}
use Rattle.lent.specs.Arrays.{Arrays, held_by, rows_by, Lengths}
use Rattle.lent.specs.Replies.{Holds}
use Rattle.lent.proofs.Held.{held_sizes, held_indexes}
use Rattle.kernel_keep.specs.Keeps.{Keeps}
use Rattle.kernel_cycles.specs.Replacing.{ReplacesIn, ReplacedIn}

pub dead_length : (a b : ℕ) (dead : List Bool) → dead ≡ set (set (replicate 256 false) a true) b true → length dead ≡ 256
dead_length a b dead e =
    ap length e ∙ length-set (set (replicate 256 false) a true) b true ∙ length-set (replicate 256 false) a true ∙ length-replicate 256 false

-- b is a without the rows of the two cells
module _ (a : Arrays) (la : Lengths a) (i ra j rb f : ℕ) (numbers : List ℕ) (u : Used) (places : List ℕ)
    (w : Refaced (held_by a) i ra j rb f numbers u places) (dead : List Bool)
    (ed : dead ≡ set (set (replicate 256 false) ra true) rb true) (b : Arrays) (lb : Lengths b) (k : Keeps dead a b) where
  left : Named (held_by b) (rows_by b) f
  left =
      left_named (held_by a) (held_sizes a la) i ra j rb f numbers u places w dead ed (held_by b) k.sizes k.fits k.sheet
      (rows_by b) (held_indexes b lb k.rows)

  pub find_asks : (b.count ≤ 256) × ((length b.ids ≡ 256) × Rising (take b.count b.ids))
  find_asks = finding (held_by b) k.sizes (rows_by b) f left

  module _ (row : ℕ) (e : row ≡ row_of f (take b.count b.ids)) where
    pub spans_ask : (b.count ≤ length b.counts) × ((row < b.count)
        × ((total (places_of 0) (take b.count b.counts) ≤ length b.cycles)
        × ((total (places_of 0) (take b.count b.counts) ≤ 2048)
        × (total (places_of 1) (take (total (places_of 0) (take b.count b.counts)) b.cycles) ≤ 2048))))
    spans_ask = spanning (held_by b) k.sizes (rows_by b) f left row e

    module _ (s : Spans) (es : s ≡ spans_of b.counts b.count row b.cycles) where
      pub replaces : ReplacesIn b row s numbers u.cycles places u.steps
      replaces =
          record {
            long = lb;
            rows = k.rows;
            spans = es;
            replaces =
                replacing (held_by b) k.sizes (rows_by b) f left numbers u places row e w.building
                (left_room (held_by a) (held_sizes a la) i ra j rb f numbers u places w dead ed (held_by b) k.sizes k.fits k.sheet);
          }

      pub holds : (o : Arrays) → ReplacedIn b row s u.cycles u.steps (built numbers u places) o
          → Holds (rebuild (neither i j) (replaced f (face (built numbers u places))) [] (sheet_of (held_by a))) o
      holds o r =
          record {
            sheet =
                refaced (held_by a) (held_sizes a la) i ra j rb f numbers u places w dead ed (held_by b) k.sizes k.fits k.sheet
                (sheet_of (held_by o))
                (replaced_with (held_by b) k.sizes (rows_by b) f left numbers u places row e (sheet_of (held_by o)) r.sheet);
            fits = r.fits;
            long = r.long;
            rows = r.rows;
          }
