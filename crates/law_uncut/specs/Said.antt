-- The answer to question 6 of 0E, with the case. Definitions only.
use Rattle.std.specs.Prelude.{cond}
use Rattle.number.specs.Said.{Said, done, no}
use Rattle.complex.specs.Uncut.{Uncut, allowed}

-- question 6 of 0E: a case that may be undone, or 6
abbrev pub uncut_said : Uncut → Said Uncut
uncut_said c = cond (allowed c) (done c) (no 6)
