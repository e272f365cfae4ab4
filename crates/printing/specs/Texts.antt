-- What `edit` prints, piece by piece. Definitions only.
use Rattle.std.specs.Prelude.{ℕ, ◌+◌, ◌≤◌, ◌<◌, ◌≡◌, false, true, cond, List, [], ◌∷◌, ◌++◌, T, leb, length, take, drop}
use Rattle.number.specs.Readers.{spread}
use Rattle.complex.specs.Cells.{Sheet}
use Rattle.complex.specs.Program.{script_most, edit_output, newline, too_long_text, output_text}
use Rattle.store.specs.View.{sheet_of}
use Rattle.lent.specs.Arrays.{Arrays, held_by, sound_arrays}
use Rattle.call_asked.specs.Entries.{EmptyIn}
use Rattle.run_turns.specs.Runs.{run_from}
use Rattle.text.specs.Texts.{line_most}
use Rattle.printing.specs.Lines.{run_text}
use Rattle.printing.specs.declared.Printed.{Printed}

-- what is still to be printed for a script, where the drawing is s and the bytes from `at` on are left
abbrev pub to_print : Sheet → List ℕ → ℕ → List ℕ
to_print s script at = cond (leb (length script) script_most) (run_text (run_from s (drop at script))) (too_long_text ++ newline)

-- what is still to be printed after a piece: nothing after the last
abbrev pub still_to_print : Sheet → List ℕ → Printed → List ℕ
still_to_print s script p = cond p.last [] (to_print s script p.at)

-- ---- one piece
-- what stands at the front of a buffer, and after it what stood there
pub record Front (entry exit : List ℕ) (n : ℕ) : Type 0 where
  pub fits : n ≤ length entry
  pub same : length exit ≡ length entry
  pub kept : drop n exit ≡ drop n entry

-- `too long` is the last piece, or there is no room for it
pub record LongPut (at : ℕ) (entry exit : List ℕ) (p : Printed) : Type 0 where
  pub front : Front entry exit p.count
  pub goes : too_long_text ++ newline ≡ take p.count exit ++ cond p.last [] (too_long_text ++ newline)
  pub short : p.last ≡ false → length entry < 9

-- the piece p of what is still to be printed, from the arrays a, which are b after it; one that is not the last leaves less room
-- than a line may need, and a buffer that has room for a line gets one
pub record Pieced (a : Arrays) (script : List ℕ) (at : ℕ) (b : Arrays) (entry exit : List ℕ) (p : Printed) : Type 0 where
  pub front : Front entry exit p.count
  pub goes : to_print (sheet_of (held_by a)) script at ≡ take p.count exit ++ still_to_print (sheet_of (held_by b)) script p
  pub full : p.last ≡ false → length entry < p.count + line_most
  pub ahead : p.last ≡ false → line_most ≤ length entry → (at < p.at) × (p.at ≤ length script)
  pub sound : T (sound_arrays b)

-- ---- pieces until the last
-- a call: the arrays after it, the buffer before and after it, and its piece
pub record PieceCall : Type 0 where
  pub arrays : Arrays
  pub entry : List ℕ
  pub exit : List ℕ
  pub piece : Printed

-- calls until the last piece, each from where the one before it ended
abbrev pub Pieces : Arrays → List ℕ → ℕ → List PieceCall → Type 0
Pieces a script at [] = ⊥
Pieces a script at (c ∷ cs) =
    Pieced a script at c.arrays c.entry c.exit c.piece
    × cond c.piece.last (cs ≡ []) (Pieces c.arrays script c.piece.at cs)

-- what they print, one after another
abbrev pub printed_by : List PieceCall → List ℕ
printed_by = spread (λ (c : PieceCall). take c.piece.count c.exit)

-- from the empty drawing they print what the definitions say
abbrev pub PrintsAll : Type 0
PrintsAll = (a : Arrays) (script : List ℕ) (cs : List PieceCall) → EmptyIn a → Pieces a script 0 cs → printed_by cs ≡ output_text (edit_output script)
