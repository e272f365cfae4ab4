-- What is asked for 0E at an edge by its two uses, and the cycles that are left, by some of the lent arrays. Definitions only.
use Rattle.std.specs.Prelude.{ℕ, List, Float}
use Rattle.complex.specs.Cells.{cell_at}
use Rattle.complex.specs.Uncut.{uncut_result}
use Rattle.store.specs.View.{sheet_of}
use Rattle.rows_spans.specs.declared.Used.{Used}
use Rattle.rows_spans.specs.Building.{Built}
use Rattle.answer.specs.declared.Totals.{Totals}
use Rattle.ask_uncut_uses.specs.declared.Use.{Use}
use Rattle.ask_uncut_uses.specs.declared.Between.{Between}
use Rattle.ask_uncut_uses.specs.Uses.{use_at, case_of}
use Rattle.law_uncut_edge.specs.Needs.{left_cycles, Case, Takes}
use Rattle.lent.specs.Arrays.{Arrays, held_by, rows_by}
use Rattle.lent.specs.Replies.{Ready}

-- the edge e of ready arrays has this case, and lists of n counts and m steps have room for the cycles that are left
pub record Leaves (a : Arrays) (t : Totals) (e : ℕ) (k : Between) (u w : Use) (n m : ℕ) : Type 0 where
  pub ready : Ready a t
  pub is : Case (held_by a) (rows_by a) e (case_of k (use_at e u) (use_at e w))
  pub takes : Takes n m (uncut_result (sheet_of (held_by a)) e (case_of k (use_at e u) (use_at e w)))

-- the arrays that do not tell what is left
pub record Rest : Type 0 where
  pub next : ℕ
  pub kinds : List ℕ
  pub bends : List ℕ
  pub px : List Float
  pub py : List Float
  pub bx : List Float
  pub by : List Float

abbrev pub whole : Rest → (count : ℕ) (ids starts ends counts cycles steps : List ℕ) → Arrays
whole r n is ss es cs ns st =
    record {
      next = r.next;
      count = n;
      ids = is;
      kinds = r.kinds;
      starts = ss;
      ends = es;
      bends = r.bends;
      counts = cs;
      px = r.px;
      py = r.py;
      cycles = ns;
      steps = st;
      bx = r.bx;
      by = r.by;
    }

-- so it is with some rest
pub record LeavesIn (c : ℕ) (is ss es cs ns st : List ℕ) (t : Totals) (e : ℕ) (k : Between) (u w : Use) (n m : ℕ) : Type 0 where
  pub rest : Rest
  pub leaves : Leaves (whole rest c is ss es cs ns st) t e k u w n m

-- the lists hold what is left, with every such rest
pub record LeftIn (c : ℕ) (is ss es cs ns st : List ℕ) (t : Totals) (e : ℕ) (k : Between) (u w : Use) (n m : ℕ)
    (numbers : List ℕ) (r : Used) (places : List ℕ) : Type 0 where
  pub every : (rest : Rest) → Leaves (whole rest c is ss es cs ns st) t e k u w n m
      → Built (left_cycles k (cell_at (sheet_of (held_by (whole rest c is ss es cs ns st)))) (use_at e u) (use_at e w)) numbers r places
