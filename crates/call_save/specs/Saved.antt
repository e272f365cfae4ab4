-- What is written of the drawing in sound arrays. Definitions only.
use Rattle.std.specs.Prelude.{ℕ, ◌≤◌, ◌≡◌, List, length}
use Rattle.complex.specs.Calls.{filled}
use Rattle.complex.specs.File.{file_of}
use Rattle.store.specs.View.{sheet_of}
use Rattle.file_write.specs.declared.Written.{Written}
use Rattle.file_write.specs.Writes.{write_answered}
use Rattle.lent.specs.Arrays.{Arrays, held_by}

-- the file of the arrays a, in the first places of a buffer that has room for it; it has at most 65,536 bytes
pub record SavedIn (a : Arrays) (entry exit : List ℕ) (w : Written) : Type 0 where
  pub said : write_answered w exit ≡ filled (file_of (sheet_of (held_by a))) entry
  pub few : length (file_of (sheet_of (held_by a))) ≤ 65536
