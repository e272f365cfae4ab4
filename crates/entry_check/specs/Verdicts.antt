-- What the soundness test answers. Definitions only.
use Rattle.std.specs.Prelude.{ℕ, eqb}
use Rattle.complex.specs.Visits.{Verdict as Told}
use Rattle.entry_check.specs.declared.Verdict.{Verdict}

-- the struct in the definitions' words
abbrev pub verdict_by : Verdict → Told
verdict_by r = record { sound = r.sound; visited = r.visited }

-- two numbers: 1 is a yes, any other a no; the count
abbrev pub verdict_as : ℕ → ℕ → Told
verdict_as sound visited = record { sound = eqb sound 1; visited = visited }
