-- What walks along a script's lists find and leave. Definitions only.
use Rattle.std.specs.Prelude.{ℕ, ◌+◌, ◌≤◌, ◌<◌, ◌≡◌, Bool, false, List, ltb, length, get_or}
use Rattle.std.proofs.lemmas.List.Edits.{sets}
use Rattle.number.specs.Numbers.{read_number}
use Rattle.complex.specs.Lists.{all, total, holds}
use Rattle.complex.specs.Sound.{step_count}
use Rattle.complex.specs.Decode.{read_cycle}
use Rattle.decode_parts.specs.Lists.{numbers_read, cycles_read, Reaches, Stand}

-- every number is below n
abbrev pub below : ℕ → List ℕ → Bool
below n ms = all (λ (m : ℕ). ltb m n) ms

-- each flag says whether ms hold its place
pub record Marks (ms : List ℕ) (flags : List Bool) : Type 0 where
  pub size : length flags ≡ 512
  pub at : (i : ℕ) → i < 512 → get_or flags i false ≡ holds i ms

-- n numbers of the script stand in `out` from `to` on
pub record Copied (s : List ℕ) (at n to : ℕ) (out₀ out : List ℕ) (next : ℕ) : Type 0 where
  pub numbers : out ≡ sets out₀ to (numbers_read s at n)
  pub reach : Reaches read_number s at n next

-- n cycles stand in the script, and the arrays have room for them
pub record ScriptRoom (s : List ℕ) (at n : ℕ) (counts : List ℕ) (i : ℕ) (steps : List ℕ) (used : ℕ) : Type 0 where
  pub stand : Stand read_cycle s at n
  pub rows : i + n ≤ length counts
  pub places : used + total step_count (cycles_read s at n) ≤ length steps
