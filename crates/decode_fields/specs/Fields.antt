-- Fields that stand one after another. Definitions only.
use Rattle.std.specs.Prelude.{Option, Some, None}
use Rattle.std.specs.Prelude.{ℕ, ◌+◌, ◌*◌, ◌≤◌, List, length}
use Rattle.number.specs.Readers.{Read, got, and_then}
use Rattle.number.specs.Said.{Said, done, no}
use Rattle.number.specs.Numbers.{read_number, counted}
use Rattle.coordinate.specs.declared.Position.{Position}
use Rattle.bends.specs.Bends.{read_bends, positions_at}
use Rattle.decode_parts.specs.Lists.{Stand, numbers_read}

-- one reader after another
abbrev pub read_pair : {A B : Type 0} → (List ℕ → Read A) → (List ℕ → Read B) → List ℕ → Read (A × B)
read_pair r q s = and_then (r s) λ a t. and_then (q t) λ b u. got (a, b) u

abbrev pub read_two_numbers : List ℕ → Read (ℕ × ℕ)
read_two_numbers = read_pair read_number read_number

abbrev pub read_three_numbers : List ℕ → Read ((ℕ × ℕ) × ℕ)
read_three_numbers = read_pair read_two_numbers read_number

-- the bend list and the moved cycles of a cut
abbrev pub read_cut_lists : List ℕ → Read (List Position × List ℕ)
read_cut_lists = read_pair read_bends (counted read_number)

-- ---- 0 with the fields and the place after them, or 2
abbrev pub two_says : Option (ℕ × ℕ × ℕ) → Said ((ℕ × ℕ) × ℕ)
two_says (Some (a, b, next)) = done ((a, b), next)
two_says None = no 2

abbrev pub three_says : Option (ℕ × ℕ × ℕ × ℕ) → Said (((ℕ × ℕ) × ℕ) × ℕ)
three_says (Some (a, b, c, next)) = done (((a, b), c), next)
three_says None = no 2

-- the lists stay in the script
abbrev pub cut_says : List ℕ → Option (ℕ × ℕ × ℕ × ℕ × ℕ) → Said ((List Position × List ℕ) × ℕ)
cut_says s (Some (n, first, m, place, next)) = done ((positions_at s first n, numbers_read s place m), next)
cut_says s None = no 2

abbrev pub CutLie : List ℕ → Option (ℕ × ℕ × ℕ × ℕ × ℕ) → Type 0
CutLie s (Some (n, first, m, place, next)) = (first + 16 * n ≤ length s) × Stand read_number s place m
CutLie s None = Unit {0}
