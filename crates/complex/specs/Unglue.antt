-- 09 unglue. Definitions only.
use Rattle.std.specs.Prelude.{ℕ, zero, suc, ◌+◌, ◌-◌, Bool, true, false, cond, List, [], ◌∷◌, length, replicate, eqb}
use Rattle.std.proofs.Math.Option.{Option, none, some}
use Rattle.complex.specs.Cells.{Halfedge, Cycle, lone, path, Figure, vertex, open_edge, closed_edge, face, LiveCell, Sheet}
use Rattle.complex.specs.Cells.{cell_at, along, against}
use Rattle.complex.specs.Edits.{rebuild, every_id, as_it_is, rewired_cycle, same_vertex, in_place_of}
use Rattle.complex.specs.Uses.{groups, group_of, lone_use, edge_use, step_use, ring_use, uses_by, on_uses}

-- ---- 09: the first group, step or cycle keeps the cell i, each other gets a copy, with the next ids in turn; n stand before this one
abbrev pub copy_of : ℕ → ℕ → ℕ → ℕ
copy_of i next zero = i
copy_of i next (suc n) = next + n

-- the copies, where there are n in all
abbrev pub copies : ℕ → Option Figure → List Figure
copies n none = []
copies n (some t) = replicate (n - 1) t

-- open edge: every step after the first gets a new copy; n of e's steps stand before these
abbrev pub new_steps : ℕ → ℕ → ℕ → List Halfedge → List Halfedge
new_steps e next n [] = []
new_steps e next n (h ∷ hs) =
    record { edge = cond (eqb e h.edge) (copy_of e next n) h.edge; backward = h.backward }
    ∷ new_steps e next (n + edge_use e h) hs

abbrev pub new_path : ℕ → ℕ → ℕ → Cycle → Cycle
new_path e next n (lone v) = lone v
new_path e next n (path hs) = path (new_steps e next n hs)

-- closed edge: the same per cycle; n of e's cycles stand before k
abbrev pub new_ring : ℕ → ℕ → ℕ → Cycle → Cycle
new_ring e next n k = rewired_cycle same_vertex (in_place_of e (copy_of e next n) false) k

-- vertex: each lone cycle is a group; n groups stand before it
abbrev pub new_lone : ℕ → ℕ → ℕ → Cycle → Cycle
new_lone v next n (lone w) = lone (cond (eqb v w) (copy_of v next n) w)
new_lone v next n (path hs) = path hs

-- where the end h is, which was at u: if that is v, at the copy of h's group
abbrev pub new_end : ℕ → ℕ → List (List Halfedge) → ℕ → Halfedge → ℕ
new_end v next gs u h = cond (eqb v u) (copy_of v next (group_of gs h)) u

-- the groups gs of edge ends first, the lone cycles after
abbrev pub new_ends : ℕ → ℕ → List (List Halfedge) → List LiveCell → ℕ → Figure → Figure
new_ends v next gs cs i (vertex p) = vertex p
new_ends v next gs cs i (open_edge a b bs) = open_edge (new_end v next gs a (along i)) (new_end v next gs b (against i)) bs
new_ends v next gs cs i (closed_edge bs) = closed_edge bs
new_ends v next gs cs i (face ks) = on_uses (lone_use v) (new_lone v next) (length gs) cs i (face ks)

-- how many groups, steps or cycles there are
abbrev pub parts : List LiveCell → ℕ → Option Figure → ℕ
parts cs i none = 0
parts cs i (some (vertex p)) = length (groups cs i) + uses_by (lone_use i) cs
parts cs i (some (open_edge a b bs)) = uses_by (step_use i) cs
parts cs i (some (closed_edge bs)) = uses_by (ring_use i) cs
parts cs i (some (face ks)) = 0

abbrev pub ungluing : Sheet → ℕ → Option Figure → ℕ → Figure → Figure
ungluing s i none = as_it_is
ungluing s i (some (vertex p)) = new_ends i s.next (groups s.cells i) s.cells
ungluing s i (some (open_edge a b bs)) = on_uses (step_use i) (new_path i s.next) 0 s.cells
ungluing s i (some (closed_edge bs)) = on_uses (ring_use i) (new_ring i s.next) 0 s.cells
ungluing s i (some (face ks)) = as_it_is

unfoldable pub unglued : Sheet → ℕ → Sheet
unglued s i = rebuild every_id (ungluing s i (cell_at s i)) (copies (parts s.cells i (cell_at s i)) (cell_at s i)) s
