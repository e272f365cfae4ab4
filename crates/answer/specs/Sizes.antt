-- The sizes of a drawing, and of a command's result before it is built. Definitions only.
use Rattle.std.specs.Prelude.{ℕ, suc, ◌+◌, ◌-◌, ◌*◌, ◌%◌, Bool, true, false, ◌&&◌, cond, List, length, get_or, eqb, leb}
use Rattle.std.proofs.Math.Option.{Option, none, some}
use Rattle.complex.specs.Lists.{distance}
use Rattle.complex.specs.Cells.{Cycle, lone, path, Figure, vertex, open_edge, closed_edge, face, LiveCell, Sheet, cell_at, bends_of, cycles_of}
use Rattle.complex.specs.Sound.{cells_most, cycles_most, steps_most, bends_most, cycles_in, steps_in, bends_in, over}
use Rattle.complex.specs.Decode.{Command, create, move, delete, glue_vertices, glue_edges, unglue}
use Rattle.complex.specs.Decode.{cut_edge, cut_face_vertex, cut_face_open, cut_face_closed, uncut}
use Rattle.complex.specs.Uses.{step_use, uses_by}
use Rattle.complex.specs.Unglue.{parts}
use Rattle.complex.specs.Cut.{no_cycle}
use Rattle.complex.specs.Uncut.{Uncut, refused, lonely, loop, joint, two_faces, one_cycle, rings, uncut_case, cycle_of_use}

pub record SheetSizes : Type 0 where
  pub cells : ℕ
  pub cycles : ℕ
  pub steps : ℕ
  pub bends : ℕ

abbrev pub sized : ℕ → ℕ → ℕ → ℕ → SheetSizes
sized c k h b = record { cells = c; cycles = k; steps = h; bends = b }

abbrev pub sizes_of : List LiveCell → SheetSizes
sizes_of cs = sized (length cs) (over cycles_in cs) (over steps_in cs) (over bends_in cs)

-- whether sizes keep the ceilings, in the order of `ceilings`
abbrev pub sizes_fit : SheetSizes → Bool
sizes_fit z = leb z.cells cells_most && (leb z.cycles cycles_most && (leb z.steps steps_most && leb z.bends bends_most))

-- ---- how many ids a command issues
abbrev pub new_by_cut : Option Figure → ℕ
new_by_cut none = 0
new_by_cut (some (vertex p)) = 0
new_by_cut (some (open_edge a b bs)) = 3
new_by_cut (some (closed_edge bs)) = 2
new_by_cut (some (face ks)) = 0

abbrev pub new_by_uncut : Uncut → ℕ
new_by_uncut refused = 0
new_by_uncut lonely = 0
new_by_uncut (loop e) = 1
new_by_uncut (joint x y) = 1
new_by_uncut (two_faces u w) = 0
new_by_uncut (one_cycle u w) = 0
new_by_uncut (rings u w) = 0

unfoldable pub new_cells : Sheet → Command → ℕ
unfolding uncut_case
new_cells s (create x) = 1
new_cells s (move v p) = 0
new_cells s (delete i) = 0
new_cells s (glue_vertices a b) = 0
new_cells s (glue_edges a b flag) = 0
new_cells s (unglue i) = parts s.cells i (cell_at s i) - 1
new_cells s (cut_edge e q) = new_by_cut (cell_at s e)
new_cells s (cut_face_vertex f p) = 1
new_cells s (cut_face_open f c1 s1 c2 s2 bs ms) = cond (eqb c1 c2) 2 1
new_cells s (cut_face_closed f bs ms) = 2
new_cells s (uncut i) = new_by_uncut (uncut_case s i)

-- ---- how much more and how much less a command makes
pub record Change : Type 0 where
  pub more : SheetSizes
  pub less : SheetSizes

abbrev pub more_less : SheetSizes → SheetSizes → Change
more_less m l = record { more = m; less = l }

abbrev pub nothing : SheetSizes
nothing = sized 0 0 0 0

abbrev pub no_change : Change
no_change = more_less nothing nothing

-- first more, then less
abbrev pub changed_by : SheetSizes → Change → SheetSizes
changed_by z d =
    sized (z.cells + d.more.cells - d.less.cells) (z.cycles + d.more.cycles - d.less.cycles)
    (z.steps + d.more.steps - d.less.steps) (z.bends + d.more.bends - d.less.bends)

-- a lone vertex counts as one step
abbrev pub alone_in : Cycle → ℕ
alone_in (lone v) = 1
alone_in (path hs) = 0

-- a path with no steps left is a lone vertex
abbrev pub alone_left : ℕ → ℕ
alone_left n = cond (eqb n 0) 1 0

abbrev pub cell_bends : Option Figure → ℕ
cell_bends o = length (bends_of o)

-- 09: n copies, each with the bends of what it copies
abbrev pub unglue_change : ℕ → Option Figure → Change
unglue_change n o = more_less (sized n 0 0 (n * cell_bends o)) nothing

-- 0A: an open edge's steps, so many, become two each; a cut at a bend takes it away
abbrev pub cut_change : ℕ → ℕ → Option Figure → Change
cut_change uses q none = no_change
cut_change uses q (some (vertex p)) = no_change
cut_change uses q (some (open_edge a b bs)) = more_less (sized 2 0 uses 0) (sized 0 0 0 (q % 2))
cut_change uses q (some (closed_edge bs)) = more_less (sized 1 0 0 0) (sized 0 0 0 (q % 2))
cut_change uses q (some (face ks)) = no_change

-- 0C: from cycle k1 to cycle k2 by an edge with n bends
abbrev pub along_change : Bool → Cycle → Cycle → ℕ → Change
along_change true k1 k2 n = more_less (sized 2 1 2 n) (sized 0 0 (alone_in k1) 0)
along_change false k1 k2 n = more_less (sized 1 0 2 n) (sized 0 1 (alone_in k1 + alone_in k2) 0)

-- 0E: an edge goes with its bends and its two steps, a face goes with the second use; a vertex that goes becomes a bend
abbrev pub uncut_change : Sheet → ℕ → Uncut → Change
uncut_change s i refused = no_change
uncut_change s i lonely = more_less nothing (sized 1 1 1 0)
uncut_change s i (loop e) = more_less (sized 0 0 0 1) (sized 1 0 0 0)
uncut_change s i (joint x y) = more_less (sized 0 0 0 1) (sized 2 0 (uses_by (step_use y.edge) s.cells) 0)
uncut_change s i (two_faces u w) =
    let left = length (cycle_of_use (cell_at s) u) + length (cycle_of_use (cell_at s) w) - 2 in
    more_less (sized 0 0 (alone_left left) 0) (sized 2 1 2 (cell_bends (cell_at s i)))
uncut_change s i (one_cycle u w) =
    let n = length (cycle_of_use (cell_at s) u) in
    more_less (sized 0 1 (alone_left (distance n (suc u.step) w.step) + alone_left (distance n (suc w.step) u.step)) 0)
    (sized 1 0 2 (cell_bends (cell_at s i)))
uncut_change s i (rings u w) = more_less nothing (sized 2 2 2 (cell_bends (cell_at s i)))

-- by kind. What a delete takes away is left out: its result is no larger than the drawing
unfoldable pub change_of : Sheet → Command → Change
unfolding uncut_case
change_of s (create x) = more_less (sized 1 (cycles_in x) (steps_in x) (bends_in x)) nothing
change_of s (move v p) = no_change
change_of s (delete i) = no_change
change_of s (glue_vertices a b) = more_less nothing (sized 1 0 0 0)
change_of s (glue_edges a b flag) = more_less nothing (sized 1 0 0 (cell_bends (cell_at s b)))
change_of s (unglue i) = unglue_change (parts s.cells i (cell_at s i) - 1) (cell_at s i)
change_of s (cut_edge e q) = cut_change (uses_by (step_use e) s.cells) q (cell_at s e)
change_of s (cut_face_vertex f p) = more_less (sized 1 1 1 0) nothing
change_of s (cut_face_open f c1 s1 c2 s2 bs ms) =
    along_change (eqb c1 c2) (get_or (cycles_of (cell_at s f)) c1 no_cycle) (get_or (cycles_of (cell_at s f)) c2 no_cycle) (length bs)
change_of s (cut_face_closed f bs ms) = more_less (sized 2 2 2 (length bs)) nothing
change_of s (uncut i) = uncut_change s i (uncut_case s i)

unfoldable pub sizes_after : Sheet → Command → SheetSizes
unfolding change_of
sizes_after s c = changed_by (sizes_of s.cells) (change_of s c)
