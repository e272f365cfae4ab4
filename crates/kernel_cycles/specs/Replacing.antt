-- One face's cycles replaced in lent arrays. Definitions only.
use Rattle.std.specs.Prelude.{ℕ, ◌+◌, ◌<◌, ◌≤◌, ◌≡◌, true, List, length, take, drop, set, replicate}
use Rattle.std.proofs.Math.Seq.{paste}
use Rattle.complex.specs.Lists.{total}
use Rattle.complex.specs.Cells.{Cycle, face}
use Rattle.complex.specs.Sound.{cells_most, cycles_most, steps_most}
use Rattle.store.specs.View.{sheet_of, Fits}
use Rattle.store.specs.Edits.{places_of}
use Rattle.rows_spans.specs.declared.Span.{Span}
use Rattle.rows_spans.specs.declared.Spans.{Spans}
use Rattle.rows_spans.specs.Runs.{spans_of, Replaces, sheet_with_row}
use Rattle.answer.specs.declared.Totals.{Totals}
use Rattle.lent.specs.Arrays.{Arrays, held_by, normal, totals_of, Lengths}

-- n numbers of old, from a place on, stand in out from another on; before both places out is what old is
pub record Moved (old : List ℕ) (from n to : ℕ) (out : List ℕ) : Type 0 where
  pub size : length out ≡ length old
  pub front : (k : ℕ) → k ≤ from → k ≤ to → take k out ≡ take k old
  pub run : take n (drop to out) ≡ take n (drop from old)

-- the sums t are those of the numbers of cycles and of the cycles, and the row is one of them
pub record RowCounted (counts cycles : List ℕ) (row : ℕ) (t : Totals) : Type 0 where
  pub live : row < t.cells
  pub rows : t.cells ≤ length counts
  pub cycle_sum : t.cycles ≡ total (places_of 0) (take t.cells counts)
  pub cycle_room : t.cycles ≤ length cycles
  pub cycle_most : t.cycles ≤ cycles_most
  pub step_sum : t.steps ≡ total (places_of 1) (take t.cycles cycles)
  pub step_most : t.steps ≤ steps_most

-- the numbers of the run s and then x, before zeros: `most` numbers in all
abbrev pub and_one : ℕ → List ℕ → Span → ℕ → List ℕ
and_one most l s x = set (paste (replicate most 0) 0 (drop s.first l) s.count) s.count x

-- the row of a is a face's, whose cycles and steps stand at s, and there is room for n cycles of m steps in their place
pub record ReplacesIn (a : Arrays) (row : ℕ) (s : Spans) (counts : List ℕ) (n : ℕ) (steps : List ℕ) (m : ℕ) : Type 0 where
  pub long : Lengths a
  pub rows : normal a ≡ true
  pub spans : s ≡ spans_of a.counts a.count row a.cycles
  pub replaces : Replaces (held_by a) row counts n steps m

-- the sums then: n cycles of m steps in the place of those at s
abbrev pub totals_with : Arrays → Spans → ℕ → ℕ → Totals
totals_with a s n m =
    record {
      cells = a.count;
      cycles = s.cycles.first + n + s.cycles.rest;
      steps = s.steps.first + m + s.steps.rest;
      bends = (totals_of a).bends;
    }

-- the arrays b hold what a hold, the face in the row with the n cycles ks of m steps
pub record ReplacedIn (a : Arrays) (row : ℕ) (s : Spans) (n m : ℕ) (ks : List Cycle) (b : Arrays) : Type 0 where
  pub sheet : sheet_of (held_by b) ≡ sheet_with_row (sheet_of (held_by a)) row (face ks)
  pub fits : Fits (held_by b)
  pub long : Lengths b
  pub rows : normal b ≡ true
  pub sums : totals_of b ≡ totals_with a s n m
