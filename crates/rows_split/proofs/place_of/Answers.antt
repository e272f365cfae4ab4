-- `place_of` meets its contract. Assumes nothing.
use Prim.Native.Nat.{ℕ, ◌+◌}
use mathlib.Core.Path.{ap}
use borrow.Author.Rules.{rules}
use lib.ListN.{get_or}
use Rattle.rows_split.proofs.place_of.Goals as goal

pub returns : goal.returns
returns c =
    let a = c.args in
    ap (λ (n : ℕ). record { m = get_or a.cycles.now (a.t.cycles.first + a.c) 0; at = n }) c.cycle_place.ensures
