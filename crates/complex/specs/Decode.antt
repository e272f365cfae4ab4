-- A command and its bytes. Definitions only.
use Rattle.std.specs.Prelude.{ℕ, zero, suc, ◌+◌, ◌*◌, ◌/◌, ◌%◌, Bool, true, false, cond, List, [], ◌∷◌, ◌++◌, length, get_or, eqb}
use Rattle.number.specs.Readers.{Read, got, bad, and_then, times}
use Rattle.number.specs.Numbers.{read_number, spell, counted, counted_bytes}
use Rattle.coordinate.specs.declared.Position.{Position}
use Rattle.coordinate.specs.Positions.{read_position, coordinate_in}
use Rattle.bends.specs.Bends.{read_bends}
use Rattle.complex.specs.Cells.{Halfedge, Cycle, lone, path, Figure, vertex, open_edge, closed_edge, face}

-- the fourteen kinds, with their fields in the order of the bytes; kinds 01 to 04 create a cell
pub data Command : Type 0 where
  create : Figure → Command  -- 01 to 04
  move : ℕ → Position → Command  -- 05
  delete : ℕ → Command  -- 06
  glue_vertices : ℕ → ℕ → Command  -- 07
  glue_edges : ℕ → ℕ → ℕ → Command  -- 08
  unglue : ℕ → Command  -- 09
  cut_edge : ℕ → ℕ → Command  -- 0A
  cut_face_vertex : ℕ → Position → Command  -- 0B
  cut_face_open : ℕ → ℕ → ℕ → ℕ → ℕ → List Position → List ℕ → Command  -- 0C
  cut_face_closed : ℕ → List Position → List ℕ → Command  -- 0D
  uncut : ℕ → Command  -- 0E

-- what bytes order: an edit, which is a command of those kinds, or 0F, which gives the cells other ids
pub data Order : Type 0 where
  edit : Command → Order
  renumber : Order  -- 0F

-- ---- steps and cycles
-- 2 × id, plus 1 if backward
abbrev pub step_of : ℕ → Halfedge
step_of n = record { edge = n / 2; backward = eqb (n % 2) 1 }

abbrev pub step_number : Halfedge → ℕ
step_number h = 2 * h.edge + cond h.backward 1 0

abbrev pub read_step : List ℕ → Read Halfedge
read_step s = and_then (read_number s) λ n t. got (step_of n) t

abbrev pub step_bytes : Halfedge → List ℕ
step_bytes h = spell (step_number h)

-- a length m; m = 0 is followed by a vertex, else by m steps
abbrev pub read_cycle : List ℕ → Read Cycle
read_cycle s = and_then (read_number s) λ m t. elim (eqb m 0) [
  | true ↦ and_then (read_number t) λ v u. got (lone v) u
  | false ↦ and_then (times read_step m t) λ hs u. got (path hs) u
]

abbrev pub cycle_bytes : Cycle → List ℕ
cycle_bytes (lone v) = spell 0 ++ spell v
cycle_bytes (path hs) = counted_bytes step_bytes hs

-- ---- the fields of a cell, which a file has too
-- 01: position
abbrev pub read_vertex : List ℕ → Read Figure
read_vertex s = and_then (read_position s) λ p t. got (vertex p) t

-- 02: start, end, bend list
abbrev pub read_open_edge : List ℕ → Read Figure
read_open_edge s = and_then (read_number s) λ a t. and_then (read_number t) λ b u. and_then (read_bends u) λ bs v. got (open_edge a b bs) v

-- 03: bend list
abbrev pub read_closed_edge : List ℕ → Read Figure
read_closed_edge s = and_then (read_bends s) λ bs t. got (closed_edge bs) t

-- 04: k, then the cycles
abbrev pub read_face : List ℕ → Read Figure
read_face s = and_then (counted read_cycle s) λ ks t. got (face ks) t

-- ---- the fields of a command
abbrev pub read_create : (List ℕ → Read Figure) → List ℕ → Read Command
read_create r s = and_then (r s) λ x t. got (create x) t

-- 06, 09, 0E: one cell
abbrev pub read_cell_only : (ℕ → Command) → List ℕ → Read Command
read_cell_only c s = and_then (read_number s) λ i t. got (c i) t

-- 07, 0A: two numbers
abbrev pub read_two : (ℕ → ℕ → Command) → List ℕ → Read Command
read_two c s = and_then (read_number s) λ a t. and_then (read_number t) λ b u. got (c a b) u

-- 05, 0B: a cell and a position
abbrev pub read_place : (ℕ → Position → Command) → List ℕ → Read Command
read_place c s = and_then (read_number s) λ i t. and_then (read_position t) λ p u. got (c i p) u

-- 08: a, b, flag
abbrev pub read_glue_edges : List ℕ → Read Command
read_glue_edges s = and_then (read_number s) λ a t. and_then (read_number t) λ b u. and_then (read_number u) λ f v. got (glue_edges a b f) v

-- 0C: face, cycle c1, step s1, c2, s2, bend list, list of moved cycles
abbrev pub read_cut_face_open : List ℕ → Read Command
read_cut_face_open s =
    and_then (read_number s) λ f t.
    and_then (read_number t) λ c1 t1. and_then (read_number t1) λ s1 t2.
    and_then (read_number t2) λ c2 t3. and_then (read_number t3) λ s2 t4.
    and_then (read_bends t4) λ bs t5. and_then (counted read_number t5) λ ms t6. got (cut_face_open f c1 s1 c2 s2 bs ms) t6

-- 0D: face, bend list, moved cycles
abbrev pub read_cut_face_closed : List ℕ → Read Command
read_cut_face_closed s =
    and_then (read_number s) λ f t. and_then (read_bends t) λ bs u. and_then (counted read_number u) λ ms v. got (cut_face_closed f bs ms) v

-- ---- a kind byte, then its fields
abbrev pub unreadable : List ℕ → Read Order
unreadable s = bad

-- 01 to 0E
abbrev pub edits : (List ℕ → Read Command) → List ℕ → Read Order
edits r s = and_then (r s) λ c t. got (edit c) t

-- 0F: no fields
abbrev pub read_renumber : List ℕ → Read Order
read_renumber s = got renumber s

-- the reader of each kind byte, from 00 on
abbrev pub kinds : List (List ℕ → Read Order)
kinds =
    unreadable  -- 00
    ∷ edits (read_create read_vertex)  -- 01
    ∷ edits (read_create read_open_edge)  -- 02
    ∷ edits (read_create read_closed_edge)  -- 03
    ∷ edits (read_create read_face)  -- 04
    ∷ edits (read_place move)  -- 05
    ∷ edits (read_cell_only delete)  -- 06
    ∷ edits (read_two glue_vertices)  -- 07
    ∷ edits read_glue_edges  -- 08
    ∷ edits (read_cell_only unglue)  -- 09
    ∷ edits (read_two cut_edge)  -- 0A
    ∷ edits (read_place cut_face_vertex)  -- 0B
    ∷ edits read_cut_face_open  -- 0C
    ∷ edits read_cut_face_closed  -- 0D
    ∷ edits (read_cell_only uncut)  -- 0E
    ∷ read_renumber  -- 0F
    ∷ []

unfoldable pub decode : List ℕ → Read Order
unfolding coordinate_in
decode [] = bad
decode (k ∷ s) = get_or kinds k unreadable s
