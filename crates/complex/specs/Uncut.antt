-- 0E uncut. Definitions only.
use Rattle.std.specs.Prelude.{ℕ, zero, suc, ◌+◌, Bool, true, false, not, ◌&&◌, cond, List, [], ◌∷◌, ◌++◌, reverse, get_or, take, drop, eqb}
use Rattle.std.specs.Bool.{beq}
use Rattle.std.proofs.Math.Option.{Option, none, some}
use Rattle.coordinate.specs.declared.Position.{Position}
use Rattle.complex.specs.Lists.{any, filter, one}
use Rattle.complex.specs.Cells.{Halfedge, Cycle, lone, path, Figure, vertex, open_edge, closed_edge, face, LiveCell, Sheet}
use Rattle.complex.specs.Cells.{Look, cell_at, start_of, end_of, bends_of, cycles_of, position_of, steps_of, flipped, same, head_of}
use Rattle.complex.specs.Edits.{rebuild, others, neither, none_of, cycles_become, cycle_replaced, without_cycle}
use Rattle.complex.specs.Edits.{rewired, same_vertex, in_place_of}
use Rattle.complex.specs.Uses.{ends_at, Passage, passages_at, lone_use, uses_by, Use, uses_of}
use Rattle.complex.specs.Cut.{no_cycle, stretch}

-- ---- 0E: which of its cases holds
pub data Uncut : Type 0 where
  refused : Uncut
  -- vertex, no edge end, exactly one lone cycle
  lonely : Uncut
  -- vertex, exactly the two ends of this open edge
  loop : ℕ → Uncut
  -- vertex, exactly these ends, of two open edges, the lower id first
  joint : Halfedge → Halfedge → Uncut
  -- open edge with exactly these two steps, in two faces, the lower id first
  two_faces : Use → Use → Uncut
  -- in one cycle, the backward step first
  one_cycle : Use → Use → Uncut
  -- closed edge with exactly these two steps, in two faces, the lower id first
  rings : Use → Use → Uncut

-- ---- vertex
abbrev pub ends_of_one_edge : Halfedge → Halfedge → Bool
ends_of_one_edge x y = same (flipped x) y

-- some cycle passes forward to backward or back: it leaves by the end that it arrived by
abbrev pub doubles_back : List Passage → Bool
doubles_back ts = any (λ (t : Passage). same t.arrives t.leaves) ts

-- some cycle passes from an edge to itself
abbrev pub stays_on_edge : List Passage → Bool
stays_on_edge ts = any (λ (t : Passage). eqb t.arrives.edge t.leaves.edge) ts

-- by the passages there, the count of its lone cycles, and its edge ends
abbrev pub uncut_vertex : List Passage → ℕ → List Halfedge → Uncut
uncut_vertex ts lones [] = cond (eqb lones 1) lonely refused
uncut_vertex ts lones (x ∷ []) = refused
uncut_vertex ts lones (x ∷ y ∷ []) =
    cond (not (eqb lones 0)) refused
    (cond (ends_of_one_edge x y)
    (cond (doubles_back ts) refused (loop x.edge))
    (cond (stays_on_edge ts) refused (joint x y)))
uncut_vertex ts lones (x ∷ y ∷ z ∷ zs) = refused

-- ---- edge, by its steps
abbrev pub opposite : Use → Use → Bool
opposite u w = not (beq u.halfedge.backward w.halfedge.backward)

-- exactly two steps, opposite
abbrev pub uncut_open : List Use → Uncut
uncut_open [] = refused
uncut_open (u ∷ []) = refused
uncut_open (u ∷ w ∷ []) =
    cond (not (opposite u w)) refused
    (cond (not (eqb u.face w.face)) (two_faces u w)
    (cond (not (eqb u.cycle w.cycle)) refused
    (cond u.halfedge.backward (one_cycle u w) (one_cycle w u))))
uncut_open (u ∷ w ∷ x ∷ xs) = refused

abbrev pub uncut_closed : List Use → Uncut
uncut_closed [] = refused
uncut_closed (u ∷ []) = refused
uncut_closed (u ∷ w ∷ []) = cond (opposite u w && not (eqb u.face w.face)) (rings u w) refused
uncut_closed (u ∷ w ∷ x ∷ xs) = refused

abbrev pub uncut_figure : List LiveCell → ℕ → Option Figure → Uncut
uncut_figure cs i none = refused
uncut_figure cs i (some (vertex p)) = uncut_vertex (passages_at cs i) (uses_by (lone_use i) cs) (ends_at cs i)
uncut_figure cs i (some (open_edge a b bs)) = uncut_open (uses_of cs i)
uncut_figure cs i (some (closed_edge bs)) = uncut_closed (uses_of cs i)
uncut_figure cs i (some (face ks)) = refused

unfoldable pub uncut_case : Sheet → ℕ → Uncut
uncut_case s i = uncut_figure s.cells i (cell_at s i)

-- ---- vertex alone in a cycle: that cycle goes
abbrev pub is_lone : ℕ → Cycle → Bool
is_lone v (lone w) = eqb v w
is_lone v (path hs) = false

abbrev pub without_lone : ℕ → ℕ → Figure → Figure
without_lone v i (vertex p) = vertex p
without_lone v i (open_edge a b bs) = open_edge a b bs
without_lone v i (closed_edge bs) = closed_edge bs
without_lone v i (face ks) = face (filter (λ (k : Cycle). not (is_lone v k)) ks)

-- ---- one end each of two edges
-- steps of a become n's, steps of b go
abbrev pub in_one : ℕ → ℕ → ℕ → Halfedge → List Halfedge
in_one a b n h = cond (eqb b h.edge) [] (one (cond (eqb a h.edge) (record { edge = n; backward = h.backward }) h))

-- the bends in the order that a halfedge passes them
abbrev pub bends_along : Look → Halfedge → List Position
bends_along look h = cond h.backward (reverse (bends_of (look h.edge))) (bends_of (look h.edge))

-- x and y leave the vertex at p. The edge of both, directed as x's edge a: if x is a⁻, along a, by p, along y; else back along y,
-- by p, along a
abbrev pub joined : Look → Position → Halfedge → Halfedge → Figure
joined look p x y =
    let a = look x.edge in
    cond x.backward
    (open_edge (start_of a) (head_of look y) (bends_of a ++ (p ∷ bends_along look y)))
    (open_edge (head_of look y) (end_of a) (reverse (bends_along look y) ++ (p ∷ bends_of a)))

-- ---- two steps of an edge
-- the cycles of the face of a use
abbrev pub face_cycles : Look → Use → List Cycle
face_cycles look u = cycles_of (look u.face)

-- the steps of its cycle
abbrev pub cycle_of_use : Look → Use → List Halfedge
cycle_of_use look u = steps_of (get_or (face_cycles look u) u.cycle no_cycle)

-- what follows its step, round to before it
abbrev pub following : Look → Use → List Halfedge
following look u = let hs = cycle_of_use look u in drop (suc u.step) hs ++ take u.step hs

-- what follows its step, up to the step of w in the same cycle
abbrev pub following_to : Look → Use → Use → List Halfedge
following_to look u w = stretch (suc u.step) w.step (cycle_of_use look u)

-- nothing left means a vertex, alone
abbrev pub path_or : ℕ → List Halfedge → Cycle
path_or v [] = lone v
path_or v (h ∷ hs) = path (h ∷ hs)

-- after the step of u: the edge's start after a backward step, its end after a forward one
abbrev pub left_after : Look → Use → List Halfedge → Cycle
left_after look u hs = path_or (head_of look u.halfedge) hs

-- ---- the result of each case
abbrev pub uncut_result : Sheet → ℕ → Uncut → Sheet
uncut_result s i refused = s
-- vertex and lone cycle: both go
uncut_result s i lonely = rebuild (others i) (without_lone i) [] s
-- vertex and edge become a new closed edge, its bends the vertex's position, then the edge's; directions stay
uncut_result s i (loop e) =
    rebuild (neither i e) (rewired same_vertex (in_place_of e s.next false))
    (closed_edge (position_of (cell_at s i) ∷ bends_of (cell_at s e)) ∷ []) s
-- x an end of a, y of b: a new edge directed as a, with the bends of both in the order passed and the vertex's position between;
-- steps of a become its steps, steps of b go
uncut_result s i (joint x y) =
    rebuild (none_of i x.edge y.edge) (rewired same_vertex (in_one x.edge y.edge s.next))
    (joined (cell_at s) (position_of (cell_at s i)) x y ∷ []) s
-- in two faces: the lower id stays; its cycle becomes what follows its step, then what follows the other's; the other face's
-- remaining cycles are appended
uncut_result s i (two_faces u w) =
    let look = cell_at s in
    let k = left_after look u (following look u ++ following look w) in
    rebuild (neither i w.face)
    (cycles_become u.face (cycle_replaced u.cycle k (face_cycles look u) ++ without_cycle w.cycle (face_cycles look w))) [] s
-- in one cycle: what follows the backward step, up to the forward one, takes the cycle's place; what follows the forward step,
-- up to the backward one, goes last
uncut_result s i (one_cycle u w) =
    let look = cell_at s in
    let k = left_after look u (following_to look u w) in
    let last = left_after look w (following_to look w u) in
    rebuild (others i) (cycles_become u.face (cycle_replaced u.cycle k (face_cycles look u) ++ one last)) [] s
-- closed: as in two faces, both cycles dropped
uncut_result s i (rings u w) =
    let look = cell_at s in
    rebuild (neither i w.face)
    (cycles_become u.face (without_cycle u.cycle (face_cycles look u) ++ without_cycle w.cycle (face_cycles look w))) [] s

unfoldable pub uncut_at : Sheet → ℕ → Sheet
unfolding uncut_case
uncut_at s i = uncut_result s i (uncut_case s i)

-- its rule, as question 6 asks
abbrev pub allowed : Uncut → Bool
allowed refused = false
allowed lonely = true
allowed (loop e) = true
allowed (joint x y) = true
allowed (two_faces u w) = true
allowed (one_cycle u w) = true
allowed (rings u w) = true
