-- A part of a list turned round, and two parts that change places. Definitions only.
use Rattle.std.specs.Prelude.{ℕ, ◌+◌, ◌-◌, List, ◌++◌, reverse, take, drop}
use Rattle.std.proofs.Math.Seq.{slice}

-- the elements from f up to t, back to front
abbrev pub turned : {A : Type 0} → ℕ → ℕ → List A → List A
turned f t l = take f l ++ (reverse (slice f t l) ++ drop t l)

-- those from f up to m go after those from m up to t
abbrev pub rotated : {A : Type 0} → ℕ → ℕ → ℕ → List A → List A
rotated f m t l = take f l ++ (slice m t l ++ (slice f m l ++ drop t l))

-- m places from base on go to the end of the first t; of them those from i up to j go to the very end
abbrev pub moved_last : {A : Type 0} → ℕ → ℕ → ℕ → ℕ → ℕ → List A → List A
moved_last base m i j t l = rotated (t - m + i) (t - m + j) t (rotated base (base + m) t l)
