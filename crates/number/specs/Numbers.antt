-- A number: groups of seven bits, low group first, the top bit set on all but the last byte, shortest form, at most three bytes.
-- Definitions only.
use Rattle.std.specs.Prelude.{ℕ, zero, suc, ◌+◌, ◌-◌, ◌*◌, ◌/◌, ◌%◌, ◌^◌, Bool, true, false, cond, List, [], ◌∷◌, ◌++◌, length, drop, eqb, ltb, Option, Some, None}
use Rattle.number.specs.Readers.{Read, got, bad, and_then, times, spread}
use Rattle.number.specs.Said.{Said, done, no, placed_or}

-- the most bytes that a number takes
abbrev pub number_bytes : ℕ
number_bytes = 3

-- the first number that has no spelling
abbrev pub numbers_end : ℕ
numbers_end = 128 ^ number_bytes

-- at most k bytes more of a number; a last byte of 0 would not be the shortest form
abbrev pub more : ℕ → List ℕ → Read ℕ
more zero s = bad
more (suc k) [] = bad
more (suc k) (b ∷ s) =
    elim (ltb b 128) [
      | true ↦ cond (eqb b 0) bad (got b s)
      | false ↦ and_then (more k s) λ n t. got (b - 128 + 128 * n) t
    ]

abbrev pub read_number : List ℕ → Read ℕ
read_number [] = bad
read_number (b ∷ s) =
    elim (ltb b 128) [
      | true ↦ got b s
      | false ↦ and_then (more (number_bytes - 1) s) λ n t. got (b - 128 + 128 * n) t
    ]

-- the spelling of n in at most k bytes
abbrev pub spelled : ℕ → ℕ → List ℕ
spelled zero n = []
spelled (suc k) n =
    elim (ltb n 128) [
      | true ↦ n ∷ []
      | false ↦ (n % 128 + 128) ∷ spelled k (n / 128)
    ]

abbrev pub spell : ℕ → List ℕ
spell n = spelled number_bytes n

-- 0 with a number and the place after it, or 2
abbrev pub number_says : Option (ℕ × ℕ) → Said (ℕ × ℕ)
number_says (Some found) = done found
number_says None = no 2

-- question 2 of the number at a place
abbrev pub number_at : List ℕ → ℕ → Said (ℕ × ℕ)
number_at s at = placed_or 2 (length s) (read_number (drop at s))

-- ---- a count, and so many things
abbrev pub counted : {A : Type 0} → (List ℕ → Read A) → List ℕ → Read (List A)
counted r s = and_then (read_number s) λ n t. times r n t

abbrev pub counted_bytes : {A : Type 0} → (A → List ℕ) → List A → List ℕ
counted_bytes w xs = spell (length xs) ++ spread w xs
