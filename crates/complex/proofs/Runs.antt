-- What a run over a script ends with is the drawing after its commands, of which demand 3 speaks. Assumes nothing.
use Prim.Native.Nat.{ℕ, zero, suc}
use mathlib.Core.Path.{◌≡◌, refl, sym}
use mathlib.Core.Bool.{Bool, true, false}
use mathlib.Core.List.{List, [], ◌∷◌}
use lib.ListN.{length}
use lib.Dec.{eqb}
use Rattle.complex.specs.Lists.{is_empty}
use Rattle.complex.specs.Cells.{Sheet, empty}
use Rattle.complex.specs.Answer.{command, rest}
use Rattle.complex.specs.Demands.{after}
use Rattle.complex.specs.Program.{ran, run, handed, commands_of}

-- the drawing after the commands that were handed bytes is the one that the run ends with
ran_after : (n : ℕ) (s : Sheet) (bytes : List ℕ) → after s (handed n s bytes) ≡ (ran n s bytes).sheet
ran_after zero s bytes = refl
ran_after (suc n) s bytes = go (is_empty bytes) (eqb (command s bytes).number 2) refl refl (ran_after n (command s bytes).sheet (rest s bytes))
  where
    go : (x y : Bool) → is_empty bytes ≡ x → eqb (command s bytes).number 2 ≡ y
        → after (command s bytes).sheet (handed n (command s bytes).sheet (rest s bytes)) ≡ (ran n (command s bytes).sheet (rest s bytes)).sheet
        → after s (handed (suc n) s bytes) ≡ (ran (suc n) s bytes).sheet
    go true y e f h = rw (e, handed, ran)
    go false true e f h = rw (e, f, handed, ran)
    go false false e f h = rw (e, f, handed, ran) h

pub run_after : (bytes : List ℕ) → after empty (commands_of bytes) ≡ (run bytes).sheet
unfolding commands_of run
run_after bytes = ran_after (length bytes) empty bytes
