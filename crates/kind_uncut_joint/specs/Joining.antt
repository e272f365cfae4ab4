-- 0E at a vertex with one end each of two open edges, in lent arrays. Definitions only.
use Rattle.std.specs.Prelude.{ℕ, ◌+◌, ◌-◌, ◌<◌, ◌≡◌, Bool, true, false, not, cond, List, [], ◌∷◌, ◌++◌, get_or, take, set, replicate}
use Rattle.coordinate.specs.declared.Position.{Position}
use Rattle.number.specs.Readers.{spread}
use Rattle.complex.specs.Lists.{total}
use Rattle.complex.specs.Cells.{Figure, open_edge, Sheet}
use Rattle.complex.specs.Edits.{reshape, rewired, same_vertex}
use Rattle.complex.specs.Uncut.{in_one}
use Rattle.store.specs.Sheet.{all_real}
use Rattle.store.specs.Places.{entry_cycles}
use Rattle.store.specs.View.{sheet_of, Fits, cycle_total, step_total}
use Rattle.store.specs.Edits.{kept, places_of, with_entries, appended}
use Rattle.rows_new.specs.Runs.{turn, run_at}
use Rattle.rows_new.specs.Appends.{RoomIn}
use Rattle.ask_uncut_vertex.specs.declared.Side.{Side}
use Rattle.kernel_bends.specs.Turned.{turned, rotated}
use Rattle.kernel_drop.specs.Three.{ThreeRows}
use Rattle.lent.specs.Arrays.{Arrays, positions_in, held_by, normal, Lengths}
use Rattle.lent.specs.declared.Line.{Line}
use Rattle.kind_uncut_joint.specs.declared.Order.{Order}

-- ---- an edge as it leaves a vertex, read from the rows
abbrev pub side_from : ℕ → List ℕ → List ℕ → List ℕ → Bool → Side
side_from row starts ends bends back =
    record {
      row = row;
      far = cond back (get_or starts row 0) (get_or ends row 0);
      first = total (places_of 0) (take row bends);
      count = get_or bends row 0;
    }

-- which edge's bends come first, and which are turned round
abbrev pub order_of : Side → Bool → Side → Bool → Order
order_of x true y back = record { first = x; turned = false; second = y; turned2 = back }
order_of x false y back = record { first = y; turned = not back; second = x; turned2 = false }

-- ---- steps: those of x become the next cell's, those of y go
pub record Merges (a : Arrays) (k m x y : ℕ) : Type 0 where
  pub fits : Fits (held_by a)
  pub long : Lengths a
  pub cycles : k ≡ cycle_total (held_by a)
  pub steps : m ≡ step_total (held_by a)
  pub small : x < 2147483648
  pub small2 : y < 2147483648
  pub small3 : a.next < 2147483648
  pub apart : x ≡ y → ⊥
  pub below : y < a.next
  pub real : all_real (spread entry_cycles (reshape (rewired same_vertex (in_one x y a.next)) (sheet_of (held_by a)).cells)) ≡ true

pub record MergedIn (a : Arrays) (x y : ℕ) (b : Arrays) : Type 0 where
  pub sheet : sheet_of (held_by b)
      ≡ with_entries (sheet_of (held_by a)) (reshape (rewired same_vertex (in_one x y a.next)) (sheet_of (held_by a)).cells)
  pub fits : Fits (held_by b)
  pub long : Lengths b

-- ---- bends
-- the numbers from f up to u back to front, or as they are
abbrev pub turned_if : {A : Type 0} → Bool → ℕ → ℕ → List A → List A
turned_if b f u l = cond b (turned f u l) l

-- v comes at t, before the last m2 of the first t; these and the m1 before them are turned or not
abbrev pub joined_runs : {A : Type 0} → ℕ → ℕ → Bool → ℕ → Bool → A → List A → List A
joined_runs t m1 b1 m2 b2 v l =
    turned_if b2 (t - m2 + 1) (t + 1) (turned_if b1 (t - m2 - m1) (t - m2) (rotated (t - m2) t (t + 1) (set l t v)))

-- ---- rows
-- the edge that two become, with p between their bends
abbrev pub edge_of : List Position → Order → Position → Figure
edge_of bs o p =
    open_edge o.first.far o.second.far
    (turn o.turned (run_at o.first.first o.first.count bs)
    ++ (p ∷ turn o.turned2 (run_at o.second.first o.second.count bs)))

-- a's cells without the two edges and the vertex in the row bare
abbrev pub left_of : Arrays → Order → ℕ → Sheet
left_of a o bare =
    with_entries (sheet_of (held_by a))
    (kept (take a.count (set (set (set (replicate 256 false) o.first.row true) o.second.row true) bare true))
    (sheet_of (held_by a)).cells)

-- the two edges and the vertex may go, and there is room for the edge of both
pub record Joins (a : Arrays) (o : Order) (bare t : ℕ) (p : Position) : Type 0 where
  pub fits : Fits (held_by a)
  pub long : Lengths a
  pub rows : normal a ≡ true
  pub three : ThreeRows a o.first.row o.first.first o.first.count
      o.second.row o.second.first o.second.count bare t
  pub room : RoomIn (left_of a o bare) (edge_of (positions_in a.bx a.by) o p ∷ [])

-- b holds a's cells without the three, and the edge of both; l tells it
pub record Joined (a : Arrays) (o : Order) (bare : ℕ) (p : Position) (b : Arrays) (l : Line) : Type 0 where
  pub sheet : sheet_of (held_by b) ≡ appended (left_of a o bare) (edge_of (positions_in a.bx a.by) o p)
  pub fits : Fits (held_by b)
  pub long : Lengths b
  pub rows : normal b ≡ true
  pub issued : b.next ≡ a.next + 1
  pub line : l ≡ record { number = 0; first = a.next; new = 1; removed = a.count + 1 - b.count }
