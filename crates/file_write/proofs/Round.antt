-- What write wrote is read back as the drawing. Assumes nothing.
use Prim.Native.Nat.{ℕ}
use native.Mathlib.Omega.{arith}
use mathlib.Core.Path.{◌≡◌, refl, ap, ap₂, sym, ◌∙◌}
use mathlib.Core.Bool.{Bool, true, false, cond}
use mathlib.Core.List.{List, ◌++◌}
use lib.Dec.{T, leb}
use lib.ListN.{length, take, drop}
use lib.Seq.{take_at}
use mir.Val.{Val}
use denote.Laws.{Is}
use denote.Struct.Declared.{row}
use Rattle.store.specs.contracts.Drawing.{the_type}
use Rattle.complex.specs.Calls.{Filled, unfilled, write_call}
use Rattle.complex.specs.File.{file_of, read_file}
use Rattle.complex.specs.Sound.{doubles}
use Rattle.complex.proofs.Bools.{truth}
use Rattle.complex.proofs.Files.{one_file}
use Rattle.store.specs.declared.Drawing.{Drawing}
use Rattle.store.specs.View.{sheet_of}
use Rattle.sound.specs.Soundness.{sound_drawing}
use Rattle.sound.proofs.Meaning.{sound_sheet_lem}
use Rattle.file_write.specs.declared.Written.{Written}
use Rattle.file_write.specs.Writes.{write_answered, filled_with, ReadBack}
use Rattle.file_write.proofs.Filing.{write_sound}
use Rattle.file_write.proofs.Doubles.{drawing_double}

module _ (d : Drawing) (w : Written) (l m : List ℕ) where
  -- the first places of the buffer are the file
  file_front : w.number ≡ 0 → write_answered w m ≡ filled_with d l → take w.count m ≡ file_of (sheet_of d)
  file_front done = go (leb (length (file_of (sheet_of d))) (length l))
    where
      go : (b : Bool) → write_answered w m ≡ cond b (record {
        number = 0;
        count = length (file_of (sheet_of d));
        buffer = file_of (sheet_of d) ++ drop (length (file_of (sheet_of d))) l;
      }) (record { number = 9; count = length (file_of (sheet_of d)); buffer = l })
          → take w.count m ≡ file_of (sheet_of d)
      go true e =
          ap₂ (λ (n : ℕ) (k : List ℕ). take n k) (ap (λ (f : Filled). f.count) e) (ap (λ (f : Filled). f.buffer) e)
          ∙ take_at (file_of (sheet_of d)) (drop (length (file_of (sheet_of d))) l) (length (file_of (sheet_of d))) refl
      go false e = let n = ap (λ (f : Filled). f.number) e in absurd (omega arith)

  written_read : T (doubles (sheet_of d)) → ReadBack d l w m
  written_read t e done = go (sound_drawing d) refl e
    where
      go : (b : Bool) → sound_drawing d ≡ b → write_answered w m ≡ cond b (write_call (sheet_of d) l) (unfilled 1 l)
          → read_file (take w.count m) ≡ record { number = 0; sheet = sheet_of d }
      go true s f = ap read_file (file_front done (e ∙ sym (write_sound d l s))) ∙ one_file.read_back (sheet_of d) (sound_sheet_lem d (truth s)) t
      go false s f = let n = ap (λ (x : Filled). x.number) f in absurd (omega arith)

  -- of every drawing in memory
  pub read_back : (vs : List Val) → Is (row the_type) d vs → ReadBack d l w m
  read_back vs p = written_read (drawing_double d vs p)
