-- Text put into a lent buffer. Definitions only.
use Rattle.std.specs.Prelude.{ℕ, ◌+◌, ◌≤◌, ◌≡◌, List, ◌++◌, ℤ, length}
use Rattle.std.proofs.lemmas.List.Edits.{sets}
use Rattle.complex.specs.Program.{decimal, signed, space, newline, euler_word, cells_word}

-- the most bytes of a command's line, and of the end line
abbrev pub line_most : ℕ
line_most = 44

abbrev pub last_most : ℕ
last_most = 35

-- a text of at most `most` bytes stands in the buffer from a place on, and ends at r
pub record TextPut (entry : List ℕ) (at : ℕ) (text : List ℕ) (most : ℕ) (exit : List ℕ) (r : ℕ) : Type 0 where
  pub stands : exit ≡ sets entry at text
  pub ends : r ≡ at + length text
  pub short : length text ≤ most

-- the end line
abbrev pub end_text : ℤ → ℕ → List ℕ
end_text z n = euler_word ++ space ++ signed z ++ space ++ cells_word ++ space ++ decimal n ++ newline
