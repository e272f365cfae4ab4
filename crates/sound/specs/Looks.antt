-- What the rows of an index tell of the cells of the sheet. Definitions only.
use Rattle.std.specs.Prelude.{ℕ, ◌≡◌, List, length, take}
use Rattle.std.proofs.Math.Option.{Option, none, some}
use Rattle.complex.specs.Cells.{Figure, vertex, open_edge, closed_edge, face, cell_at, start_of, end_of, bends_of, cycles_of}
use Rattle.store.specs.declared.Drawing.{Drawing}
use Rattle.store.specs.declared.Index.{Index}
use Rattle.store.specs.Index.{Rising, value_at}
use Rattle.store.specs.View.{sheet_of}

-- a cell's kind as the index has it, 4 if there is none
abbrev pub kind_number : Option Figure → ℕ
kind_number none = 4
kind_number (some (vertex p)) = 0
kind_number (some (open_edge a b bs)) = 1
kind_number (some (closed_edge bs)) = 2
kind_number (some (face ks)) = 3

-- the value that an array of the index of d has for an id, or z
abbrev pub index_value : ℕ → Drawing → Index → List ℕ → ℕ → ℕ
index_value z d ix vs i = value_at z (take d.count ix.ids) (take d.count vs) i

-- the index of d tells each cell of its sheet by id
pub record Looks (d : Drawing) (ix : Index) : Type 0 where
  pub rising : Rising (take d.count ix.ids)
  pub kinds : (i : ℕ) → index_value 4 d ix ix.kinds i ≡ kind_number (cell_at (sheet_of d) i)
  pub starts : (i : ℕ) → index_value 0 d ix ix.starts i ≡ start_of (cell_at (sheet_of d) i)
  pub ends : (i : ℕ) → index_value 0 d ix ix.ends i ≡ end_of (cell_at (sheet_of d) i)
  pub bends : (i : ℕ) → index_value 0 d ix ix.bends i ≡ length (bends_of (cell_at (sheet_of d) i))
  pub cycles : (i : ℕ) → index_value 0 d ix ix.cycles i ≡ length (cycles_of (cell_at (sheet_of d) i))
