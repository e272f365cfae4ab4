-- Cycles with copies where they use a cell, in the arrays. Definitions only.
use Rattle.std.specs.Prelude.{ℕ, ◌+◌, ◌*◌, ◌/◌, ◌%◌, ◌≡◌, Bool, true, false, cond, List, [], ◌∷◌, eqb, length, drop}
use Rattle.complex.specs.Cells.{Cycle}
use Rattle.complex.specs.Unglue.{copy_of, new_path, new_ring, new_lone}
use Rattle.store.specs.View.{width, cycle_of}
use Rattle.rows_uses.specs.declared.Use.{Use}
use Rattle.rows_uses.specs.declared.Use.TheVariants.{Step, Ring, Lone}

-- a cycle whose uses of i, but the first of all, get the ids from next on
abbrev pub copied : Use → ℕ → ℕ → ℕ → Cycle → Cycle
copied Step i next = new_path i next
copied Ring i next = new_ring i next
copied Lone i next = new_lone i next

-- ---- the same on numbers
abbrev pub word_use : ℕ → ℕ → ℕ
word_use i s = cond (eqb i (s / 2)) 1 0

abbrev pub copied_word : ℕ → ℕ → ℕ → ℕ → ℕ
copied_word i next k s = cond (eqb i (s / 2)) (copy_of i next k * 2 + s % 2) s

-- the uses before the next step: each step of i is one, or all steps of the run are
abbrev pub uses_after : Bool → ℕ → ℕ → ℕ → ℕ
uses_after each i k s = cond each (k + word_use i s) k

abbrev pub copied_run : Bool → ℕ → ℕ → ℕ → List ℕ → List ℕ
copied_run each i next k [] = []
copied_run each i next k (s ∷ ss) = copied_word i next k s ∷ copied_run each i next (uses_after each i k s) ss

abbrev pub copied_path : Bool → ℕ → ℕ → ℕ → Cycle → Cycle
copied_path true = new_path
copied_path false = new_ring

abbrev pub copied_vertex : ℕ → ℕ → ℕ → ℕ → ℕ
copied_vertex i next k v = cond (eqb i v) (copy_of i next k) v

-- of the cycle of c at the front of l, l' has what f makes of it, and the rest as it was
pub record Changed (f : Cycle → Cycle) (c : ℕ) (l l' : List ℕ) : Type 0 where
  pub size : length l' ≡ length l
  pub cycle : cycle_of c l' ≡ f (cycle_of c l)
  pub rest : drop (width c) l' ≡ drop (width c) l
