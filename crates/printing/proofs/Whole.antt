-- Pieces until the last are the whole of what is printed. Assumes nothing.
use Prim.Native.Nat.{ℕ}
use mathlib.Core.Path.{◌≡◌, refl, sym, ap, ◌∙◌, subst}
use mathlib.Core.Bool.{Bool, true, false, cond}
use mathlib.Core.List.{List, [], ◌∷◌, ◌++◌, append-nil}
use lib.Dec.{leb}
use lib.ListN.{length, take, drop}
use Rattle.complex.specs.Cells.{Sheet, empty}
use Rattle.complex.specs.Euler.{euler}
use Rattle.complex.specs.Program.{Run, run, Output, too_long, printed_run, script_most, edit_output, newline, too_long_text, output_text}
use Rattle.store.specs.View.{sheet_of}
use Rattle.lent.specs.Arrays.{Arrays, held_by}
use Rattle.run_turns.specs.Runs.{run_from}
use Rattle.run_turns.proofs.Progress.{run_empty}
use Rattle.text.proofs.Puts.{output_text_lem}
use Rattle.printing.specs.Lines.{run_text}
use Rattle.printing.specs.Texts.{to_print, PieceCall, Pieces, printed_by, PrintsAll}

-- ---- at the start
abbrev chosen : List ℕ → Bool → Output
chosen bytes b = elim b [
  | false ↦ too_long
  | true ↦ printed_run (run bytes)
]

chosen_text : (bytes : List ℕ) (b : Bool) → cond b (run_text (run bytes)) (too_long_text ++ newline) ≡ output_text (chosen bytes b)
chosen_text bytes true = let r = run bytes in output_text_lem r.lines (euler r.sheet.cells) (length r.sheet.cells)
chosen_text bytes false = refl

-- all is still to be printed
pub print_start : (bytes : List ℕ) → to_print empty bytes 0 ≡ output_text (edit_output bytes)
unfolding edit_output
print_start bytes =
    ap (λ (r : Run). cond (leb (length bytes) script_most) (run_text r) (too_long_text ++ newline)) (run_empty bytes)
    ∙ chosen_text bytes (leb (length bytes) script_most)

-- ---- until the last
pub print_pieces : (a : Arrays) (script : List ℕ) (at : ℕ) (cs : List PieceCall) → Pieces a script at cs → printed_by cs ≡ to_print (sheet_of (held_by a)) script at
print_pieces a script at [] z = absurd z
print_pieces a script at (c ∷ cs) z = go c.piece.last refl (λ w. print_pieces c.arrays script c.piece.at cs w)
  where
    b : Sheet
    b = sheet_of (held_by c.arrays)

    text : List ℕ
    text = take c.piece.count c.exit

    goes : (x : Bool) → c.piece.last ≡ x → to_print (sheet_of (held_by a)) script at ≡ text ++ cond x [] (to_print b script c.piece.at)
    goes x e = z.0.goes ∙ ap (λ (y : Bool). text ++ cond y [] (to_print b script c.piece.at)) e

    then : (x : Bool) → c.piece.last ≡ x → cond x (cs ≡ []) (Pieces c.arrays script c.piece.at cs)
    then x e = subst (λ (y : Bool). cond y (cs ≡ []) (Pieces c.arrays script c.piece.at cs)) e z.1

    go : (x : Bool) → c.piece.last ≡ x → (Pieces c.arrays script c.piece.at cs → printed_by cs ≡ to_print b script c.piece.at)
        → text ++ printed_by cs ≡ to_print (sheet_of (held_by a)) script at
    go true e r = ap (λ (l : List PieceCall). text ++ printed_by l) (then true e) ∙ sym (goes true e)
    go false e r = ap (λ (l : List ℕ). text ++ l) (r (then false e)) ∙ sym (goes false e)

pub prints_all : PrintsAll
prints_all a script cs z p = print_pieces a script 0 cs p ∙ ap (λ (s : Sheet). to_print s script 0) z.sheet ∙ print_start script
