-- What reading a file into arrays says of the struct that they hold. Assumes nothing.
use Prim.Native.Nat.{ℕ}
use mathlib.Core.Path.{◌≡◌, refl, sym, ap, ◌∙◌, subst}
use mathlib.Core.Bool.{Bool, true, false}
use mathlib.Core.List.{List}
use lib.Dec.{T, eqb}
use borrow.Author.Tests.{eqb-true, eqb-false}
use Rattle.complex.specs.File.{ReadAnswer as Judgement}
use Rattle.complex.proofs.Files.{read_refused}
use Rattle.store.specs.declared.Drawing.{Drawing}
use Rattle.store.specs.View.{sheet_of}
use Rattle.sound.specs.Soundness.{sound_drawing}
use Rattle.sound.proofs.Meaning.{sound_fits}
use Rattle.file_read.specs.declared.ReadAnswer.{ReadAnswer}
use Rattle.file_read.specs.Outcome.{FileRead}
use Rattle.lent.specs.Arrays.{Arrays, held_by}
use Rattle.lent.proofs.Replies.{drawing_of}
use Rattle.call_open.specs.Taken.{ReadIn}
use Rattle.call_asked.specs.Entries.{EmptyIn}

module _ (s : List ℕ) (a b : Arrays) (n : ℕ) (o : ReadIn s a b n) (z : EmptyIn a) where
  abbrev answer : ReadAnswer
  answer = record { number = n; drawing = held_by b }

  -- from arrays that hold the empty drawing: on a no it is given
  in_file : FileRead s answer
  in_file = go (eqb n 0) refl
    where
      go : (t : Bool) → eqb n 0 ≡ t → FileRead s answer
      go true e =
          let k = eqb-true n 0 e in
          record { number = o.number; sheet = o.sheet k; fits = sound_fits (held_by b) (drawing_of b (o.sound k)) }
      go false e =
          let k = eqb-false n 0 e in
          let f = read_refused s (λ y. k (o.number ∙ y)) in
          let g : held_by b ≡ held_by a = ap held_by (o.back k) in
          record {
            number = o.number;
            sheet = ap sheet_of g ∙ z.sheet ∙ sym (ap (λ (j : Judgement). j.sheet) f);
            fits = sound_fits (held_by b) (subst (λ (x : Drawing). T (sound_drawing x)) (sym g) (drawing_of a z.sound));
          }

  pub file_read : (x : Drawing) → x ≡ held_by b → FileRead s (record { number = n; drawing = x })
  file_read x e = subst (λ (y : Drawing). FileRead s (record { number = n; drawing = y })) (sym e) in_file
