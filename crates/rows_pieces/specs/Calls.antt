-- The answers of `pieces` to a drawing in memory. Definitions only.
use Rattle.std.specs.Prelude.{cond}
use Rattle.complex.specs.Pieces.{PiecesAnswer, pieces_call}
use Rattle.store.specs.declared.Drawing.{Drawing}
use Rattle.store.specs.View.{sheet_of}
use Rattle.sound.specs.Soundness.{sound_drawing}
use Rattle.rows_pieces.specs.declared.PieceCount.{PieceCount}

abbrev pub pieces_answered : PieceCount → PiecesAnswer
pieces_answered r = record { number = r.number; count = r.count }

-- a struct whose counts don't keep within its arrays is not sound either
unfoldable pub pieces_of : Drawing → PiecesAnswer
pieces_of d = cond (sound_drawing d) (pieces_call (sheet_of d)) (record { number = 1; count = 0 })
