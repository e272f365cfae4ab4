-- A vertex parted in lent arrays. Definitions only.
use Rattle.std.specs.Prelude.{ℕ, ◌≤◌, ◌≡◌, Bool, true, List, length, get_or, T}
use Rattle.complex.specs.Cells.{cell_at, is_vertex}
use Rattle.complex.specs.Edits.{reshape}
use Rattle.complex.specs.Unglue.{ungluing}
use Rattle.store.specs.View.{sheet_of, Fits}
use Rattle.store.specs.Edits.{with_entries}
use Rattle.store.specs.declared.Index.{Index}
use Rattle.rows_ends.specs.Ends.{EndMarks}
use Rattle.answer.specs.declared.Totals.{Totals}
use Rattle.lent.specs.Arrays.{Arrays, held_by, normal, Lengths}
use Rattle.lent.specs.Replies.{Ready}

-- v is a vertex of ready arrays
pub record VertexOf (a : Arrays) (t : Totals) (v : ℕ) : Type 0 where
  pub ready : Ready a t
  pub vertex : T (is_vertex (cell_at (sheet_of (held_by a)) v))

-- b holds a's drawing with the ends at v and the lone cycles of v as its copies, which are not there yet
pub record Parted (a : Arrays) (v : ℕ) (b : Arrays) : Type 0 where
  pub sheet : sheet_of (held_by b) ≡ with_entries (sheet_of (held_by a))
      (reshape (ungluing (sheet_of (held_by a)) v (cell_at (sheet_of (held_by a)) v)) (sheet_of (held_by a)).cells)
  pub fits : Fits (held_by b)
  pub long : Lengths b
  pub rows : normal b ≡ true

-- the ends at v in n rows are marked, none has a number yet, and there is room for s links
pub record Linkable (ix : Index) (v n : ℕ) (at : List Bool) (G : List ℕ) (s : ℕ) (xs ys : List ℕ) : Type 0 where
  pub size : length at ≡ 512
  pub marks : EndMarks ix.kinds ix.starts ix.ends v n at
  pub numbers : length G ≡ 512
  pub unnumbered : (p : ℕ) → get_or G p 0 ≡ 0
  pub lefts : s ≤ length xs
  pub rights : s ≤ length ys
