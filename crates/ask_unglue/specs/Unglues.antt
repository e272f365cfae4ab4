-- What ungluing asks of a drawing before cells are copied in it. Definitions only.
use Rattle.std.specs.Prelude.{ℕ, ◌-◌, ◌≤◌, Bool, false, T}
use Rattle.std.proofs.Math.Option.{Option}
use Rattle.complex.specs.Lists.{rising}
use Rattle.complex.specs.Cells.{Figure, Sheet, cell_at, ids, is_open, is_closed, is_vertex_or_edge}
use Rattle.complex.specs.Unglue.{copies}
use Rattle.answer.specs.Sizes.{sizes_of, changed_by, unglue_change}
use Rattle.store.specs.declared.Drawing.{Drawing}
use Rattle.store.specs.View.{sheet_of, Fits}
use Rattle.rows_new.specs.Appends.{RoomIn}
use Rattle.answer.specs.Late.{late_no}
use Rattle.rows_uses.specs.declared.Use.{Use}
use Rattle.rows_uses.specs.declared.Use.TheVariants.{Step, Ring, Lone}

-- the edges whose steps or whose cycles get copies
abbrev pub has_uses : Use → Option Figure → Bool
has_uses Step o = is_open o
has_uses Ring o = is_closed o
has_uses Lone o = false

-- questions 7 and 8, of n new copies of the cell i
abbrev pub late_copies : Sheet → ℕ → ℕ → ℕ
late_copies s i n = late_no s.next n (changed_by (sizes_of s.cells) (unglue_change n (cell_at s i)))

-- d has a vertex or an edge i, and room for copies, so that there are n of it
pub record Copying (d : Drawing) (i n : ℕ) : Type 0 where
  pub fits : Fits d
  pub rises : T (rising 0 (ids (sheet_of d).cells) (sheet_of d).next)
  pub plain : T (is_vertex_or_edge (cell_at (sheet_of d) i))
  pub parts : 1 ≤ n
  pub room : RoomIn (sheet_of d) (copies n (cell_at (sheet_of d) i))
