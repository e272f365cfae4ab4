-- The calls on the drawing of a file. Assumes nothing.
use Rattle.std.specs.Prelude.{Option, Some}
use Prim.Native.Nat.{ℕ, suc}
use native.Mathlib.Omega.{arith}
use borrow.Author.Tests.{eq-eqb, ne_eqb}
use mathlib.Core.Path.{◌≡◌, refl, sym, ap, ◌∙◌, subst}
use mathlib.Core.Bool.{Bool, true, false, cond}
use mathlib.Core.List.{List, [], ◌∷◌}
use lib.Dec.{T, ltb, lt→ltb}
use lib.IntN.{ℤ, pos}
use Rattle.number.proofs.Bytes.{Bytes}
use Rattle.complex.specs.Cells.{Sheet}
use Rattle.complex.specs.Euler.{euler}
use Rattle.complex.specs.File.{file_of, read_file, ReadAnswer}
use Rattle.complex.specs.Calls.{Filled, unfilled, filled, star_call, EulerAnswer, euler_call, write_call}
use Rattle.complex.specs.Pieces.{pieces, pieces_call}
use Rattle.complex.specs.Demands.{are_bytes}
use Rattle.complex.proofs.Bools.{pair}
use Rattle.complex.proofs.Files.{one_file}
use Rattle.complex.proofs.Obey.{euler_of_lem}
use Rattle.complex.proofs.Pieces.{pieces_of}
use Rattle.store.specs.View.{sheet_of}
use Rattle.sound.proofs.Meaning.{sound_sheet_lem}
use Rattle.answer.specs.declared.Totals.{Totals}
use Rattle.lent.specs.Arrays.{Arrays, held_by}
use Rattle.lent.proofs.Sums.{ready_drawing}
use Rattle.call_cells.proofs.Files.{call_is}
use Rattle.call_open.specs.Taken.{FileIn, OpenedIn}
use Rattle.call_open.proofs.Judged.{opened_file}
use Rattle.entry_files.specs.Calls.{is_file, drawn, star_at, euler_as, euler_at, pieces_as, pieces_at, again}

-- ---- bytes that are no file
module _ (s : List ℕ) (h : (read_file s).number ≡ 10) where
  pub no_file : is_file s ≡ false
  no_file = ne_eqb (read_file s).number 0 (λ z. omega (arith, h, z))

  pub star_refused : (i : ℕ) (l : List ℕ) → unfilled 10 l ≡ star_at s i l
  star_refused i l = sym (ap (λ (b : Bool). cond b (star_call (drawn s) i l) (unfilled 10 l)) no_file)

  pub euler_refused : euler_as 10 (pos 0) ≡ euler_at s
  euler_refused = sym (ap (λ (b : Bool). cond b (euler_call (drawn s)) (euler_as 10 (pos 0))) no_file)

  pub pieces_refused : pieces_as 10 0 ≡ pieces_at s
  pieces_refused = sym (ap (λ (b : Bool). cond b (pieces_call (drawn s)) (pieces_as 10 0)) no_file)

  pub again_refused : (l : List ℕ) → unfilled 10 l ≡ again s l
  again_refused l = sym (ap (λ (b : Bool). cond b (filled s l) (unfilled 10 l)) no_file)

-- ---- the drawing that was read
-- in the arrays b, which are those of a file that was opened
pub opened_seen : (s : List ℕ) {b a : Arrays} (r : Option Totals) (t : Totals) → b ≡ a → OpenedIn s a r → r ≡ Some t → FileIn s b t
opened_seen s r t e o q = subst (λ (x : Arrays). FileIn s x t) (sym e) (opened_file s _ r o t q)

bytes_are : (s : List ℕ) → Bytes s → T (are_bytes s)
bytes_are [] b = tt
bytes_are (x ∷ s) b = pair (ltb x 256) (are_bytes s) (lt→ltb x 256 (b 0)) (bytes_are s (λ k. b (suc k)))

module _ (s : List ℕ) (a : Arrays) (t : Totals) (f : FileIn s a t) where
  pub is_file_lem : is_file s ≡ true
  is_file_lem = eq-eqb (read_file s).number 0 f.number

  pub star_is : (i : ℕ) (l : List ℕ) → star_call (sheet_of (held_by a)) i l ≡ star_at s i l
  star_is i l =
      ap (λ (x : Sheet). star_call x i l) f.sheet
      ∙ sym (ap (λ (b : Bool). cond b (star_call (drawn s) i l) (unfilled 10 l)) is_file_lem)

  pub euler_is : (v : ℤ) → v ≡ euler (sheet_of (held_by a)).cells → euler_as 0 v ≡ euler_at s
  euler_is v e =
      ap (euler_as 0) e
      ∙ sym (euler_of_lem (sheet_of (held_by a)) (sound_sheet_lem (held_by a) (ready_drawing a t f.ready)))
      ∙ ap euler_call f.sheet
      ∙ sym (ap (λ (b : Bool). cond b (euler_call (drawn s)) (euler_as 10 (pos 0))) is_file_lem)

  pub pieces_is : (n : ℕ) → n ≡ pieces (sheet_of (held_by a)).cells → pieces_as 0 n ≡ pieces_at s
  pieces_is n e =
      ap (pieces_as 0) e
      ∙ sym (pieces_of (sheet_of (held_by a)) (sound_sheet_lem (held_by a) (ready_drawing a t f.ready)))
      ∙ ap pieces_call f.sheet
      ∙ sym (ap (λ (b : Bool). cond b (pieces_call (drawn s)) (pieces_as 10 0)) is_file_lem)

  said : read_file s ≡ record { number = 0; sheet = sheet_of (held_by a) }
  said = λ i. record { number = f.number i; sheet = sym f.sheet i }

  -- its file is what was read
  pub again_is : Bytes s → (l : List ℕ) → write_call (sheet_of (held_by a)) l ≡ again s l
  again_is B l =
      sym (call_is a t f.ready l)
      ∙ ap (λ (b : List ℕ). filled b l) (one_file.written_back s (sheet_of (held_by a)) (bytes_are s B) said)
      ∙ sym (ap (λ (b : Bool). cond b (filled s l) (unfilled 10 l)) is_file_lem)
