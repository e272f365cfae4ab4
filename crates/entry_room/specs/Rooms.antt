-- Question 9 of a run. Definitions only.
use Rattle.std.specs.Prelude.{ℕ, ◌*◌, Bool, ◌&&◌, cond, leb, ltb}
use Rattle.entry_told.specs.Told.{line_width, lengths_end}

-- room for the longest file of a sound drawing
abbrev pub file_most : ℕ
file_most = 65536

-- 9: are there five places for each byte of a script, whose length is a u32?
abbrev pub lines_for : ℕ → ℕ → Bool
lines_for script lines = ltb script lengths_end && leb (line_width * script) lines

-- 9: and room for any file?
abbrev pub room_for : ℕ → ℕ → ℕ → Bool
room_for script lines out = lines_for script lines && leb file_most out

-- the numbers that they give
abbrev pub or_nine : Bool → ℕ
or_nine b = cond b 0 9

abbrev pub lines_no : ℕ → ℕ → ℕ
lines_no script lines = or_nine (lines_for script lines)

abbrev pub room_no : ℕ → ℕ → ℕ → ℕ
room_no script lines out = or_nine (room_for script lines out)
