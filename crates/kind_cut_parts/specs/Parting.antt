-- The parts of an edge that is cut, by a flag that is true for an open one. Definitions only.
use Rattle.std.specs.Prelude.{ℕ, ◌+◌, ◌-◌, ◌/◌, ◌%◌, Bool, true, false}
use Rattle.coordinate.specs.declared.Position.{Position}
use Rattle.rows_steps.specs.Swap.{one_for, two_for}
use Rattle.lent.specs.Arrays.{Arrays}
use Rattle.lent.specs.Growing.{with_vertex, with_open}
use Rattle.kind_cut_parts.specs.declared.Parts.{Parts}

-- of the edge e from s with m bends, cut at place q; the vertex gets the id v
abbrev pub parts_of : Bool → ℕ → ℕ → ℕ → ℕ → ℕ → Parts
parts_of true v e s m q =
    record {
      new = 3;
      i = q / 2;
      j = q / 2 + q % 2;
      start = s;
      first = q / 2;
      second = m - (q / 2 + q % 2);
      swap = two_for e (v + 1) (v + 2);
    }
parts_of false v e s m q =
    record { new = 2; i = 0; j = q / 2 + 1; start = v; first = m - q % 2; second = 0; swap = one_for e (v + 1) false }

-- b with a vertex at p, an edge from s to it of i bends, and, where an open edge is cut, one from it to f of k bends
abbrev pub parted : Bool → Arrays → Position → ℕ → ℕ → ℕ → ℕ → Arrays
parted true b p s f i k = with_open (with_open (with_vertex b p) s b.next i) b.next f k
parted false b p s f i k = with_open (with_vertex b p) s b.next i
