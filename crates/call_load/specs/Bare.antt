-- What loading a drawing's file, with its bends or without them, leaves in lent arrays. Definitions only.
use Rattle.std.specs.Prelude.{Option, Some, None}
use Rattle.std.specs.Prelude.{ℕ, ◌≡◌, Bool, true, false, ◌&&◌, List, Float, take}
use Rattle.number.specs.Readers.{Read, all}
use Rattle.coordinate.specs.declared.Position.{Position}
use Rattle.coordinate.specs.Bounds.{within}
use Rattle.complex.specs.Cells.{LiveCell}
use Rattle.store.specs.View.{bend_total}
use Rattle.file_read.specs.Outcome.{CellsOver, NotHeld}
use Rattle.kernel_add.specs.Comes.{BendsPut}
use Rattle.lent.specs.Arrays.{Arrays, held_by, Lengths}
use Rattle.call_load.specs.Loads.{CellsHeld, SheetIn}

-- the arrays a with n cells, the bends at xs and ys, which stand nowhere, and a next id
abbrev pub exit_of : ℕ → Arrays → List Float → List Float → ℕ → Arrays
exit_of n a xs ys next = record a { next = next; count = n; bx = xs; by = ys }

-- ---- bends that are kept, or only looked at
-- n bends bs of a cell are put from a place on, or g becomes r, which tells whether they lie in bounds too
abbrev pub BendsTaken : Bool → Bool → List Position → ℕ → ℕ → List Float → List Float → List Float → List Float → Bool → Type 0
BendsTaken true g bs at n xs ys xs' ys' r = BendsPut xs ys at bs n xs' ys'
BendsTaken false g bs at n xs ys xs' ys' r = (r ≡ g && all within bs) × ((xs' ≡ xs) × (ys' ≡ ys))

-- the places of bends that are not kept stay
abbrev pub Stays : Bool → List Float → List Float → List Float → List Float → Type 0
Stays keep xs ys xs' ys' = keep ≡ false → (xs' ≡ xs) × (ys' ≡ ys)

-- the bends of the arrays b, at us and vs: those are xs and ys; or g tells whether the first n bends lie in bounds
abbrev pub Kept : Bool → Arrays → List Float → List Float → List Float → List Float → ℕ → Bool → Type 0
Kept true b us vs xs ys n g = (us ≡ xs) × (vs ≡ ys)
Kept false b us vs xs ys n g = g ≡ all within (take n (held_by b).bends)

-- with some places of the bends and any next id the arrays hold the cells that q reads, with nothing after them
pub record RowsHeld (keep : Bool) (q : Read (List LiveCell)) (b : List Float → List Float → ℕ → Arrays) (xs ys : List Float) (g : Bool) : Type 0 where
  pub bx : List Float
  pub by : List Float
  pub long : (next : ℕ) → Lengths (b bx by next)
  pub held : CellsHeld q (b bx by)
  pub kept : (next : ℕ) → Kept keep (b bx by next) bx by xs ys (bend_total (held_by (b bx by next))) g

abbrev pub RowsTold : Bool → Read (List LiveCell) → (List Float → List Float → ℕ → Arrays) → List Float → List Float → Option Bool → Type 0
RowsTold keep q b xs ys (Some g) = RowsHeld keep q b xs ys g
RowsTold keep q b xs ys None = CellsOver q

-- with some places of the bends the arrays hold the sheet that all bytes are read as
pub record RowsIn (keep : Bool) (s : List ℕ) (b : List Float → List Float → Arrays) (xs ys : List Float) (g : Bool) : Type 0 where
  pub bx : List Float
  pub by : List Float
  pub long : Lengths (b bx by)
  pub sheet : SheetIn s (b bx by)
  pub kept : Kept keep (b bx by) bx by xs ys (bend_total (held_by (b bx by))) g

abbrev pub RowsLoaded : Bool → List ℕ → (ℕ → ℕ → List Float → List Float → Arrays) → List Float → List Float → Option (ℕ × ℕ × Bool) → Type 0
RowsLoaded keep s b xs ys (Some (next, n, g)) = RowsIn keep s (b next n) xs ys g
RowsLoaded keep s b xs ys None = NotHeld s
