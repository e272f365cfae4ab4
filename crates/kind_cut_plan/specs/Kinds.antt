-- 0A of an open edge and of a closed one, by a flag that is true for an open one. Definitions only.
use Rattle.std.specs.Prelude.{ℕ, zero, suc, ◌+◌, ◌/◌, ◌%◌, Bool, true, false, List, ltb, leb, Float}
use Rattle.std.proofs.Math.Option.{Option}
use Rattle.coordinate.specs.declared.Position.{Position}
use Rattle.complex.specs.Lists.{total}
use Rattle.complex.specs.Cells.{Figure, is_open, is_closed}
use Rattle.complex.specs.Uses.{step_use}
use Rattle.store.specs.Index.{row_of}
use Rattle.store.specs.View.{cycles_from}
use Rattle.ask_cut_edge.specs.Cuts.{point_place, open_between, next_bend, closed_between}
use Rattle.lent.specs.Arrays.{position_in}

-- how many cells come where a cell of the kind k is cut at a place; 0 where it is no edge
abbrev pub new_by : ℕ → ℕ
new_by zero = 0
new_by (suc zero) = 3
new_by (suc (suc zero)) = 2
new_by (suc (suc (suc k))) = 0

abbrev pub edge_on : Bool → Option Figure → Bool
edge_on true = is_open
edge_on false = is_closed

abbrev pub new_on : Bool → ℕ
new_on true = 3
new_on false = 2

-- an edge of m bends has a place q
abbrev pub exists_on : Bool → ℕ → ℕ → Bool
exists_on true m q = leb (q / 2 + q % 2) m
exists_on false m q = ltb (q / 2) m

-- how many steps more there are when the edge e is cut
abbrev pub uses_on : Bool → ℕ → List ℕ → List ℕ → ℕ
uses_on true e ns st = total (step_use e) (cycles_from ns st)
uses_on false e ns st = 0

-- where place q lies: is are the ids, xs and ys the positions, us and vs the bends
abbrev pub place_on : Bool → List ℕ → List Float → List Float → List Float → List Float → ℕ → ℕ → ℕ → ℕ → ℕ → Position
place_on true is xs ys us vs s f base m q =
    open_between (position_in xs ys (row_of s is)) (position_in xs ys (row_of f is)) (position_in us vs (point_place base m (q / 2)))
    (position_in us vs (point_place base m (q / 2 + 1))) m q
place_on false is xs ys us vs s f base m q = closed_between (position_in us vs (base + q / 2)) (position_in us vs (next_bend base m (q / 2))) q
