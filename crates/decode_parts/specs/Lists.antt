-- What stands at a place of a script; lists that stay there, held as a place and a count. Definitions only.
use Rattle.std.specs.Prelude.{Option, Some, None}
use Rattle.std.specs.Prelude.{ℕ, ◌+◌, ◌-◌, ◌*◌, ◌≤◌, ◌≡◌, List, [], length, drop}
use Rattle.number.specs.Readers.{Read, got, bad, times}
use Rattle.number.specs.Said.{Said, done, no, found_or, Says}
use Rattle.number.specs.Numbers.{read_number}
use Rattle.coordinate.specs.declared.Position.{Position}
use Rattle.bends.specs.Bends.{read_bends, positions_at}
use Rattle.complex.specs.Cells.{Cycle}
use Rattle.complex.specs.Decode.{read_cycle}

-- ---- what stands at a place of a script
module _ {A : Type 0} (r : List ℕ → Read A) (s : List ℕ) (at : ℕ) where
  -- r finds x, which stands up to the place `next`
  pub record FieldAt (x : A) (next : ℕ) : Type 0 where
    pub read : r (drop at s) ≡ got x (drop next s)
    pub after : at ≤ next
    pub fits : next ≤ length s

  -- question 2 of what r reads: 0 with it and the place after it, or 2
  pub record Found (v : Said (A × ℕ)) : Type 0 where
    pub is : Says 2 (λ f. FieldAt f.0 f.1) (r (drop at s) ≡ bad) v

-- ---- lists
-- 0 with the place after a list, or 2
abbrev pub skip_says : Option ℕ → Said ℕ
skip_says (Some next) = done next
skip_says None = no 2

module _ {A : Type 0} where
  -- the list that was read; nothing where there is none
  abbrev pub list_of : Read (List A) → List A
  list_of (got xs t) = xs
  list_of bad = []

  -- question 2 of a list: the place after it, in bytes that end at `end`; or 2
  abbrev pub skipped : ℕ → Read A → Said ℕ
  skipped end (got x t) = done (end - length t)
  skipped end bad = no 2

  -- n things from a place on, each read by r
  abbrev pub things_read : (List ℕ → Read A) → List ℕ → ℕ → ℕ → List A
  things_read r s at n = list_of (times r n (drop at s))

  -- n things, each read by r, reach from a place to an end within the script
  pub record Reaches (r : List ℕ → Read A) (s : List ℕ) (at n end : ℕ) : Type 0 where
    pub read : times r n (drop at s) ≡ got (things_read r s at n) (drop end s)
    pub after : at ≤ end
    pub fits : end ≤ length s

  -- n things stand from a place on
  pub record Stand (r : List ℕ → Read A) (s : List ℕ) (at n : ℕ) : Type 0 where
    pub end : ℕ
    pub reach : Reaches r s at n end

abbrev pub numbers_read : List ℕ → ℕ → ℕ → List ℕ
numbers_read s at n = things_read read_number s at n

abbrev pub cycles_read : List ℕ → ℕ → ℕ → List Cycle
cycles_read s at n = things_read read_cycle s at n

-- ---- a bend list, by its places in the whole script
-- with those places, 0 with the bends and the bytes after them, or 2
abbrev pub bends_say : List ℕ → Option (ℕ × ℕ × ℕ) → Said (List Position × List ℕ)
bends_say s (Some (n, first, end)) = done (positions_at s first n, drop end s)
bends_say s None = no 2

abbrev pub BendsEnd : List ℕ → ℕ → Option (ℕ × ℕ × ℕ) → Type 0
BendsEnd s at (Some (n, first, end)) = (at ≤ first) × (end ≡ first + 16 * n) × (end ≤ length s)
BendsEnd s at None = Unit {0}

-- b is the bend list at a place
pub record BendsAt (s : List ℕ) (at : ℕ) (b : Option (ℕ × ℕ × ℕ)) : Type 0 where
  pub answer : bends_say s b ≡ found_or 2 (read_bends (drop at s))
  pub ends : BendsEnd s at b
