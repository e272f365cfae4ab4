-- An answer in document 01's numbers. Each enum that a function answers has a definition into these. Definitions only.
use Rattle.std.specs.Prelude.{ℕ, ◌-◌, ◌≡◌, List, length}
use Rattle.number.specs.Readers.{Read, got, bad}

-- 0 and the values beside it, or the number of the question whose answer is no
pub data Said (A : Type 0) : Type 0 where
  done : A → Said A
  no : ℕ → Said A

module _ {A : Type 0} where
  -- what a reader finds and the bytes after it, or a no to question q
  abbrev pub found_or : ℕ → Read A → Said (A × List ℕ)
  found_or q (got x t) = done (x, t)
  found_or q bad = no q

  -- the same with the place after it, in bytes that end at `end`
  abbrev pub placed_or : ℕ → ℕ → Read A → Said (A × ℕ)
  placed_or q end (got x t) = done (x, end - length t)
  placed_or q end bad = no q

  -- 0 and values of which P holds, or a no to question q, where N holds
  abbrev pub Says : ℕ → (A → Type 0) → Type 0 → Said A → Type 0
  Says q P N (done x) = P x
  Says q P N (no n) = (n ≡ q) × N
