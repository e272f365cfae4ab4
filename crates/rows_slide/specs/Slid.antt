-- Runs that go to an earlier place of their own array, and flags that are alike. Definitions only.
use Rattle.std.specs.Prelude.{ℕ, ◌+◌, ◌-◌, ◌<◌, ◌≤◌, ◌≡◌, Bool, false, not, List, ◌++◌, length, get_or, take, drop, replicate, Float}
use Rattle.store.specs.Edits.{PlacesKept}

-- n elements of old, from a place on, stand in out from an earlier one on; before and behind them out is what old is
pub record Slid {A : Type 0} (old : List A) (from n to : ℕ) (out : List A) : Type 0 where
  pub size : length out ≡ length old
  pub front : take (to + n) out ≡ take to old ++ take n (drop from old)
  pub rest : drop (to + n) out ≡ drop (to + n) old

-- the flags from i up to r are v
pub record Seen (flags : List Bool) (v : Bool) (i n r : ℕ) : Type 0 where
  pub from : i ≤ r
  pub within : r ≤ n
  pub same : take (r - i) (drop i flags) ≡ replicate (r - i) v

-- the flags from i up to r are v, and r is n or the next flag is not
pub record Alike (flags : List Bool) (v : Bool) (i n r : ℕ) : Type 0 where
  pub from : i ≤ r
  pub within : r ≤ n
  pub same : take (r - i) (drop i flags) ≡ replicate (r - i) v
  pub stop : r < n → get_or flags r false ≡ not v

-- the bends of the rows that are not flagged
pub record BendsKept (flags : List Bool) (counts : List ℕ) (us₀ vs₀ us vs : List Float) : Type 0 where
  pub xs : PlacesKept 0 flags counts us₀ us
  pub ys : PlacesKept 0 flags counts vs₀ vs
