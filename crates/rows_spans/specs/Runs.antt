-- Where the bends, cycles and steps of a cell stand in a drawing's arrays, and one run of numbers in another's place. Definitions only.
use Rattle.std.specs.Prelude.{ℕ, ◌+◌, ◌-◌, ◌<◌, ◌≤◌, ◌≡◌, List, ◌++◌, map, length, take, drop, get_or, set}
use Rattle.complex.specs.Lists.{total}
use Rattle.complex.specs.Cells.{Figure, Sheet}
use Rattle.store.specs.declared.Cell.{Cell}
use Rattle.store.specs.declared.Drawing.{Drawing}
use Rattle.store.specs.Sheet.{ids_of}
use Rattle.store.specs.View.{cycle_count, width_sum, cycle_total, step_total, Fits}
use Rattle.store.specs.Edits.{places_of, with_entries}
use Rattle.store.specs.Index.{kind_of}
use Rattle.rows_spans.specs.declared.Span.{Span}
use Rattle.rows_spans.specs.declared.Spans.{Spans}

-- the places that a run of counts stands for, among those of all counts; a count 0 stands for z places
abbrev pub span_of : ℕ → List ℕ → Span → Span
span_of z counts s =
    record {
      first = total (places_of z) (take s.first counts);
      count = total (places_of z) (take s.count (drop s.first counts));
      rest = total (places_of z) (take s.rest (drop (s.first + s.count) counts));
    }

-- one row of n
abbrev pub row_span : ℕ → ℕ → Span
row_span n row = record { first = row; count = 1; rest = n - (row + 1) }

-- the cycles and the steps of the cell in a row of n, if at has the cells' numbers of cycles
abbrev pub spans_of : List ℕ → ℕ → ℕ → List ℕ → Spans
spans_of at n row cycles = record { cycles = span_of 0 at (row_span n row); steps = span_of 1 cycles (span_of 0 at (row_span n row)) }

-- how many cycles each cell has, how many bends, and of which kind it is
abbrev pub cycle_counts : Drawing → List ℕ
cycle_counts d = map (λ (c : Cell). cycle_count c.shape) (take d.count d.cells)

abbrev pub kinds : Drawing → List ℕ
kinds d = map (λ (c : Cell). kind_of c.shape) (take d.count d.cells)

-- the cycles of the cell in a row, its steps and its bends
abbrev pub cycle_span : Drawing → ℕ → Span
cycle_span d row = span_of 0 (cycle_counts d) (row_span d.count row)

abbrev pub step_span : Drawing → ℕ → Span
step_span d row = span_of 1 d.cycles (cycle_span d row)

-- out begins with old, the first n of new in the place of the run s
pub record Spliced (old : List ℕ) (s : Span) (new : List ℕ) (n : ℕ) (out : List ℕ) : Type 0 where
  pub front : take (s.first + n + s.rest) out ≡ take s.first old ++ (take n new ++ take s.rest (drop (s.first + s.count) old))

-- the row of d is a face's, and there is room for n cycles of m steps in the place of its own
pub record Replaces (d : Drawing) (row : ℕ) (counts : List ℕ) (n : ℕ) (steps : List ℕ) (m : ℕ) : Type 0 where
  pub fits : Fits d
  pub live : row < d.count
  pub face : get_or (kinds d) row 0 ≡ 3
  pub in_counts : n ≤ length counts
  pub in_steps : m ≤ length steps
  pub width : width_sum (take n counts) ≡ m
  pub cycle_room : cycle_total d + n ≤ 512 + (cycle_span d row).count
  pub step_room : step_total d + m ≤ 2048 + (step_span d row).count

-- the sheet with another figure in a row
abbrev pub sheet_with_row : Sheet → ℕ → Figure → Sheet
sheet_with_row s row y = with_entries s (set s.cells row (record { id = get_or (ids_of s) row 0; figure = y }))
