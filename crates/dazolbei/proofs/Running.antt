-- The answers of a run on a block. Assumes nothing.
use Prim.Native.Nat.{ℕ}
use native.Mathlib.Omega.{arith}
use mathlib.Core.Path.{◌≡◌, refl, sym, ap, ◌∙◌}
use mathlib.Core.Bool.{Bool, true, false, cond}
use mathlib.Core.List.{List}
use lib.Dec.{T}
use lib.ListN.{length}
use Rattle.complex.proofs.Bools.{true_of}
use Rattle.store.specs.View.{sheet_of}
use Rattle.lent.specs.Arrays.{Arrays, held_by, sound_arrays}
use Rattle.entry_told.specs.Told.{told_of, front}
use Rattle.entry_run.specs.Runs.{RanIn}
use Rattle.entry_room.specs.Rooms.{lines_for}
use Rattle.dazolbei.specs.Blocks.{BlockAnswer, block_as, block_done, block_run, run_on, RunIn}

module _ (a : Arrays) (script lines : List ℕ) where
  nine : Bool → BlockAnswer
  nine b = cond b (block_done (told_of (sheet_of (held_by a)) script) lines) (block_as 9 lines 0 (sheet_of (held_by a)))

  -- a no leaves all as it was
  stays : (r : ℕ) → block_as r lines 0 (sheet_of (held_by a)) ≡ run_on a script lines → RunIn a script lines a lines r 0
  stays r e = record { said = e; back = λ z. refl; sound = λ w. w }

  pub run_unsound : sound_arrays a ≡ false → RunIn a script lines a lines 1 0
  run_unsound h =
      stays 1 (sym (ap (λ (b : Bool). cond b (block_run (sheet_of (held_by a)) script lines) (block_as 1 lines 0 (sheet_of (held_by a)))) h))

  module _ (w : T (sound_arrays a)) where
    asked : (b : Bool) → lines_for (length script) (length lines) ≡ b → nine b ≡ run_on a script lines
    unfolding nine
    asked b q =
        ap nine (sym q)
        ∙ sym (ap (λ (x : Bool). cond x (block_run (sheet_of (held_by a)) script lines) (block_as 1 lines 0 (sheet_of (held_by a)))) (true_of (sound_arrays a) w))

    pub run_short : (n : ℕ) → (n ≡ 9) × (lines_for (length script) (length lines) ≡ false) → RunIn a script lines a lines n 0
    unfolding nine
    run_short n q = stays n (ap (λ (x : ℕ). block_as x lines 0 (sheet_of (held_by a))) q.0 ∙ asked false q.1)

    pub run_done_lem : lines_for (length script) (length lines) ≡ true → (b : Arrays) (exit : List ℕ) (n : ℕ)
        → RanIn a script lines b exit n → RunIn a script lines b exit 0 n
    unfolding nine
    run_done_lem q b exit n g =
        record {
          said = (λ i. block_as 0 (g.numbers i) (g.commands i) (g.sheet i)) ∙ asked true q;
          back = λ z. absurd (z refl);
          sound = λ v. g.sound;
        }
