-- When sizes keep the ceilings after a change. Assumes nothing.
use Prim.Native.Nat.{ℕ, ◌+◌, ◌-◌, ◌≤◌, ◌<◌}
use native.Mathlib.Omega.{arith}
use mathlib.Core.Path.{◌≡◌, sym, ap, ◌∙◌}
use mathlib.Core.Bool.{Bool, true, false, ◌&&◌}
use lib.Dec.{leb}
use borrow.Author.Tests.{le-leb, lt-leb}

-- more than the limit and what is taken away
pub above : (a m l k : ℕ) → k + l < a + m → leb (a + m - l) k ≡ false
above a m l k h = lt-leb (a + m - l) k (omega arith)

pub upto : (a m l k : ℕ) → a + m ≤ k + l → leb (a + m - l) k ≡ true
upto a m l k h = le-leb (a + m - l) k (omega arith)

pub no_first : (a b : Bool) → a ≡ false → false ≡ (a && b)
no_first a b e = sym (ap (λ (x : Bool). x && b) e)

pub yes_first : (a b r : Bool) → a ≡ true → r ≡ b → r ≡ (a && b)
yes_first a b r e f = f ∙ sym (ap (λ (x : Bool). x && b) e)
