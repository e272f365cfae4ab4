-- What the results of 0E need of a drawing. Definitions only.
use Rattle.std.specs.Prelude.{ℕ, ◌<◌, ◌≡◌, Bool, true, false, not, [], ◌∷◌, length, take, T, leb}
use Rattle.coordinate.specs.declared.Position.{Position}
use Rattle.complex.specs.Cells.{Halfedge, open_edge, closed_edge, cell_at, bends_of, position_of, head_of, ids}
use Rattle.complex.specs.Sound.{ids_end, ceilings}
use Rattle.complex.specs.Edits.{neither, none_of, rewired, same_vertex, in_place_of, reshape}
use Rattle.complex.specs.Uncut.{joint, in_one, uncut_case, uncut_result}
use Rattle.number.specs.Readers.{spread}
use Rattle.store.specs.Sheet.{all_real}
use Rattle.store.specs.Places.{entry_cycles, figure_bends}
use Rattle.rows_new.specs.declared.Runs.{Runs}
use Rattle.rows_new.specs.Runs.{runs_of, InRange}
use Rattle.store.specs.declared.Drawing.{Drawing}
use Rattle.store.specs.declared.Index.{Index}
use Rattle.store.specs.Index.{Indexes, row_of}
use Rattle.store.specs.View.{sheet_of, bend_sum}
use Rattle.sound.specs.Soundness.{sound_drawing}
use Rattle.rows_new.specs.Appends.{remade, RoomIn, figure_at}
use Rattle.ask_uncut_vertex.specs.declared.Side.{Side}
pub use Rattle.rows_gone.specs.Rows.{Pair}

-- the rows of three cells of a sound drawing
pub record Triple (d : Drawing) (i a j b k c : ℕ) : Type 0 where
  pub pair : Pair d i a j b
  pub third : c ≡ row_of k (ids (sheet_of d).cells)
  pub third_in : c < d.count

-- the vertex v at p, in row a, becomes the first bend of the edge e, in row b, whose m bends begin at first
pub record Looped (d : Drawing) (v a e b : ℕ) (p : Position) (first m : ℕ) : Type 0 where
  pub pair : Pair d v a e b
  pub small : e < 2147483648
  pub place : position_of (cell_at (sheet_of d) v) ≡ p
  pub begin : first ≡ bend_sum (take b d.cells)
  pub count : m ≡ length (figure_bends (figure_at (sheet_of d) b))
  pub room : RoomIn (remade (neither v e) (rewired same_vertex (in_place_of e (sheet_of d).next false)) (sheet_of d))
      (closed_edge (p ∷ bends_of (cell_at (sheet_of d) e)) ∷ [])

-- the edges x and y, in rows b and c, become one through the vertex v, in row a: from start to end, with the bends of r
pub record Merged (d : Drawing) (v a x b y c start end : ℕ) (r : Runs) : Type 0 where
  pub triple : Triple d v a x b y c
  pub small : x < 2147483648
  pub small2 : y < 2147483648
  pub real : all_real (spread entry_cycles (reshape (rewired same_vertex (in_one x y (sheet_of d).next)) (sheet_of d).cells)) ≡ true
  pub range : InRange r
  pub room : RoomIn (remade (none_of v x y) (rewired same_vertex (in_one x y (sheet_of d).next)) (sheet_of d))
      (open_edge start end (runs_of d.bends r) ∷ [])

-- ---- an edge as it leaves a vertex
abbrev pub leaving : ℕ → Bool → Halfedge
leaving e back = record { edge = e; backward = back }

-- its row, the vertex where it leads, and where its bends stand
pub record Sided (d : Drawing) (e : ℕ) (back : Bool) (s : Side) : Type 0 where
  pub row : s.row ≡ row_of e (ids (sheet_of d).cells)
  pub row_in : s.row < d.count
  pub far : s.far ≡ head_of (cell_at (sheet_of d)) (leaving e back)
  pub first : s.first ≡ bend_sum (take s.row d.cells)
  pub count : s.count ≡ length (figure_bends (figure_at (sheet_of d) s.row))

-- the bends of two edges, each back to front if it is turned, with p between
abbrev pub runs_around : Position → Side → Bool → Side → Bool → Runs
runs_around p x turned y turned2 =
    record {
      first = x.first;
      count = x.count;
      turned = turned;
      middle = true;
      at = p;
      first2 = y.first;
      count2 = y.count;
      turned2 = turned2;
    }

-- the bends of the edge that x and y become, directed as x
abbrev pub joint_runs : Position → Side → Bool → Side → Bool → Runs
joint_runs p x true y back = runs_around p x false y back
joint_runs p x false y back = runs_around p y (not back) x false

-- the edges x and y may become one at v, and the result keeps the ceilings
pub record Joint (d : Drawing) (ix : Index) (v x : ℕ) (back1 : Bool) (y : ℕ) (back2 : Bool) : Type 0 where
  pub sound : T (sound_drawing d)
  pub indexes : Indexes d ix
  pub holds : uncut_case (sheet_of d) v ≡ joint (leaving x back1) (leaving y back2)
  pub ids_suffice : T (leb (uncut_result (sheet_of d) v (joint (leaving x back1) (leaving y back2))).next ids_end)
  pub sizes_hold : T (ceilings (uncut_result (sheet_of d) v (joint (leaving x back1) (leaving y back2))).cells)
