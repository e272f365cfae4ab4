-- 0C in lent arrays: what is known once its questions got a yes. Definitions only.
use Rattle.std.specs.Prelude.{ℕ, ◌+◌, ◌*◌, ◌≤◌, ◌≡◌, true, List, length, take}
use Rattle.number.specs.Readers.{all}
use Rattle.number.specs.Numbers.{read_number}
use Rattle.coordinate.specs.Bounds.{within}
use Rattle.bends.specs.Bends.{positions_at}
use Rattle.store.specs.Index.{row_of}
use Rattle.rows_spans.specs.declared.Spans.{Spans}
use Rattle.rows_spans.specs.Runs.{spans_of}
use Rattle.answer.specs.declared.Totals.{Totals}
use Rattle.decode_parts.specs.Lists.{Stand, numbers_read}
use Rattle.rows_corners.specs.Faces.{cycles_at}
use Rattle.rows_split.specs.Along.{old_side, new_side, Along}
use Rattle.rows_split.specs.Parts.{RoomForBoth}
use Rattle.ask_cut_along.specs.Corners.{cut_no}
use Rattle.lent.specs.Arrays.{Arrays, held_by, rows_by}
use Rattle.lent.specs.Replies.{Ready}

-- the k bends at `first` and the moved cycles lie in the script
abbrev pub InScript : List ℕ → ℕ → ℕ → ℕ → ℕ → Type 0
InScript script first k moved place = (first + 16 * k ≤ length script) × Stand read_number script place moved

-- the cycles of f stand at s, and questions 3 to 6 got a yes
pub record Asks (a : Arrays) (t : Totals) (script : List ℕ) (f : ℕ) (s : Spans) (c1 s1 c2 s2 k first moved place : ℕ) : Type 0 where
  pub ready : Ready a t
  pub spans : s ≡ spans_of a.counts t.cells (row_of f (take a.count a.ids)) a.cycles
  pub bounds : all within (positions_at script first k) ≡ true
  pub along : Along (held_by a) (rows_by a) script f c1 s1 c2 s2 k first moved place

-- questions 3 to 8 got a yes, the face stands in the row, and arrays of n counts and m steps have room for the lists of its cycles
pub record CutGoes (a : Arrays) (t : Totals) (script : List ℕ) (f row : ℕ) (s : Spans) (c1 s1 c2 s2 k first moved place n m : ℕ) : Type 0 where
  pub asks : Asks a t script f s c1 s1 c2 s2 k first moved place
  pub late : cut_no a.next t a.cycles s c1 c2 k ≡ 0
  pub at : row ≡ row_of f (take a.count a.ids)
  pub fit : RoomForBoth n m (old_side a.next c1 s1 c2 s2 (numbers_read script place moved) (cycles_at a.cycles a.steps s))
      (new_side a.next c1 s1 c2 s2 (numbers_read script place moved) (cycles_at a.cycles a.steps s))
