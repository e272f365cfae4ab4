-- What a file that was read, or not read, means for question 10 and for the test of its drawing. Assumes nothing.
use Prim.Native.Nat.{ℕ, ◌≤◌, ◌<◌}
use native.Mathlib.Omega.{arith}
use mathlib.Core.Path.{◌≡◌, refl, sym, ap, ◌∙◌}
use mathlib.Core.Bool.{Bool, true, false, ◌&&◌, cond}
use mathlib.Core.List.{List, [], ◌∷◌}
use borrow.Author.Tests.{leb-true}
use lib.ListN.{length}
use lib.Dec.{leb}
use Rattle.number.specs.Readers.{Read, got, bad, and_then, times}
use Rattle.number.specs.Numbers.{read_number}
use Rattle.number.proofs.Laws.{not_bad, got_thing, got_rest}
use Rattle.number.proofs.Counted.{times_length}
use Rattle.complex.specs.Cells.{LiveCell, Sheet}
use Rattle.complex.specs.Sound.{sound, ceilings, totals_ok, cycles_in, steps_in, bends_in, over, cells_most, cycles_most, steps_most, bends_most}
use Rattle.complex.specs.File.{read_cell, read_sheet, judged, read_file}
use Rattle.complex.specs.File.{ReadAnswer as Judgement}
use Rattle.complex.specs.Visits.{check_call, check_file, checked, unchecked}
use Rattle.complex.proofs.FileReaders.{then_from}
use Rattle.complex.proofs.Bools.{truth, true_of, both_true}
use Rattle.complex.proofs.Keep.{sound_parts}
use Rattle.store.specs.View.{sheet_of}
use Rattle.store.proofs.Ceilings.{over_cycles, over_steps, over_bends}
use Rattle.file_read.specs.declared.ReadAnswer.{ReadAnswer}
use Rattle.file_read.specs.Outcome.{refused, RoomFor, CellsIn, CellsOver, NotHeld}

-- ---- cells that keep the ceilings have room in the arrays
ceilings_room : (cs : List LiveCell) → ceilings cs ≡ true → RoomFor cs × (length cs ≤ cells_most)
ceilings_room cs e =
    let a = both_true (leb (length cs) cells_most) (totals_ok cs) e in
    let b = both_true (leb (over cycles_in cs) cycles_most) (leb (over steps_in cs) steps_most && leb (over bends_in cs) bends_most) a.1 in
    let c = both_true (leb (over steps_in cs) steps_most) (leb (over bends_in cs) bends_most) b.1 in
    let k = leb-true (over cycles_in cs) cycles_most b.0 in
    let l = leb-true (over steps_in cs) steps_most c.0 in
    let m = leb-true (over bends_in cs) bends_most c.1 in
    let r : RoomFor cs = record { bends = omega (arith, over_bends cs); cycles = omega (arith, over_cycles cs); steps = omega (arith, over_steps cs) } in
    (r, leb-true (length cs) cells_most a.0)

-- ---- bytes that are no such cells
abbrev counting : Read ℕ → Read (List LiveCell)
counting q = and_then q λ n u. times read_cell n u

abbrev sheeted : ℕ → Read (List LiveCell) → Read Sheet
sheeted n q = and_then q λ cs u. got (record { next = n; cells = cs }) u

pub no_next : (s : List ℕ) → read_number s ≡ bad → NotHeld s
no_next s e x g c = not_bad x [] (sym (ap (λ (q : Read ℕ). and_then q λ n t. sheeted n (counting (read_number t))) e) ∙ g)

module _ (s t : List ℕ) (next : ℕ) (e : read_number s ≡ got next t) where
  then_cells : read_sheet s ≡ sheeted next (counting (read_number t))
  then_cells = ap (λ (q : Read ℕ). and_then q λ n u. sheeted n (counting (read_number u))) e

  pub no_count : read_number t ≡ bad → NotHeld s
  no_count f x g c = not_bad x [] (sym (then_cells ∙ ap (λ (q : Read ℕ). sheeted next (counting q)) f) ∙ g)

  module _ (n : ℕ) (u : List ℕ) (f : read_number t ≡ got n u) where
    counted_cells : read_sheet s ≡ sheeted next (times read_cell n u)
    counted_cells = then_cells ∙ ap (λ (q : Read ℕ). sheeted next (counting q)) f

    -- what a sheet that was read, with nothing after it, says of its cells
    sheet_cells : (x : Sheet) → read_sheet s ≡ got x [] → times read_cell n u ≡ got x.cells []
    sheet_cells x g =
        then_from (times read_cell n u) (λ cs v. got (record { next = next; cells = cs }) v) x [] (sym counted_cells ∙ g) λ cs v h k.
        h ∙ (λ i. got (got_thing (record { next = next; cells = cs }) x v [] k i).cells (got_rest (record { next = next; cells = cs }) x v [] k i))

    pub cells_over : CellsOver (times read_cell n u) → NotHeld s
    cells_over over x g c = over x.cells (sheet_cells x g) (ceilings_room x.cells c).0

    pub too_many : 256 < n → NotHeld s
    too_many h x g c =
        let l = times_length read_cell n u [] x.cells (sheet_cells x g) in
        let m = (ceilings_room x.cells c).1 in
        omega arith

    pub cells_read : (r : ReadAnswer) → CellsIn (times read_cell n u) next r → read_sheet s ≡ got (sheet_of r.drawing) []
    cells_read r c = counted_cells ∙ ap (sheeted next) c.read ∙ ap (λ (x : Sheet). got x []) (sym c.given.sheet)

-- ---- answers
abbrev pub accepted : Sheet → Judgement
accepted x = record { number = 0; sheet = x }

module _ (s : List ℕ) (x : Sheet) (read : read_sheet s ≡ got x []) where
  pub sound_read : sound x ≡ true → read_file s ≡ accepted x
  unfolding read_file
  sound_read e = ap judged read ∙ rw e

  pub unsound_read : sound x ≡ false → read_file s ≡ refused
  unfolding read_file
  unsound_read e = ap judged read ∙ rw e

  pub held_checked : ceilings x.cells ≡ true → check_file s ≡ record { number = 0; verdict = check_call x }
  unfolding check_file
  held_checked e = ap checked read ∙ rw e

cond_none : {A : Type 0} (b : Bool) (x y : A) → (b ≡ true → ⊥) → cond b x y ≡ y
cond_none true x y f = absurd (f refl)
cond_none false x y f = refl

module _ (s : List ℕ) (none : NotHeld s) where
  -- a sound drawing keeps the ceilings
  pub not_held_refused : read_file s ≡ refused
  unfolding read_file
  not_held_refused = go (read_sheet s) none
    where
      go : (q : Read Sheet) → ((x : Sheet) → q ≡ got x [] → ceilings x.cells ≡ true → ⊥) → judged q ≡ refused
      go bad f = refl
      go (got x (y ∷ t)) f = refl
      go (got x []) f = cond_none (sound x) (accepted x) refused (λ e. f x refl (true_of (ceilings x.cells) (sound_parts x (truth e)).fits))

  pub not_held_unchecked : check_file s ≡ unchecked
  unfolding check_file
  not_held_unchecked = go (read_sheet s) none
    where
      go : (q : Read Sheet) → ((x : Sheet) → q ≡ got x [] → ceilings x.cells ≡ true → ⊥) → checked q ≡ unchecked
      go bad f = refl
      go (got x (y ∷ t)) f = refl
      go (got x []) f = cond_none (ceilings x.cells) (record { number = 0; verdict = check_call x }) unchecked (f x refl)
