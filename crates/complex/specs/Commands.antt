-- Questions 3 to 6, the result and the share of each kind of command. Definitions only.
use Rattle.std.specs.Prelude.{ℕ, zero, suc, ◌-◌, Bool, true, false, not, ◌&&◌, cond, List, [], ◌∷◌, length, ℤ, pos, neg_ℤ, eqb, leb}
use Rattle.std.proofs.Math.Option.{Option, none, some}
use Rattle.coordinate.specs.declared.Position.{Position}
use Rattle.coordinate.specs.Bounds.{within}
use Rattle.complex.specs.Lists.{all, is_empty, places, one}
use Rattle.complex.specs.Cells.{Halfedge, Cycle, lone, path, Figure, vertex, open_edge, closed_edge, face, Sheet, Look, cell_at}
use Rattle.complex.specs.Cells.{is_vertex, is_open, is_face, is_live, is_edge, is_vertex_or_edge, cycles_of}
use Rattle.complex.specs.Sound.{cycle_ok}
use Rattle.complex.specs.Euler.{cell_share, euler}
use Rattle.complex.specs.Decode.{Command, create, move, delete, glue_vertices, glue_edges, unglue}
use Rattle.complex.specs.Decode.{cut_edge, cut_face_vertex, cut_face_open, cut_face_closed, uncut}
use Rattle.complex.specs.Edits.{rebuild, every_id, as_it_is}
use Rattle.complex.specs.Delete.{moved, going, deleted}
use Rattle.complex.specs.Glue.{glued_vertices, glued_edges, may_glue}
use Rattle.complex.specs.Unglue.{parts, unglued}
use Rattle.complex.specs.Cut.{edge_cut, face_cut_at, face_cut_along, face_cut_round, cut_exists, cut_corners}
use Rattle.complex.specs.Uncut.{uncut_case, allowed, uncut_at}

-- ---- 3: is every coordinate in bounds?
abbrev pub figure_positions : Figure → List Position
figure_positions (vertex p) = one p  -- 01
figure_positions (open_edge a b bs) = bs  -- 02
figure_positions (closed_edge bs) = bs  -- 03
figure_positions (face ks) = []  -- 04

abbrev pub positions : Command → List Position
positions (create x) = figure_positions x  -- 01 to 04
positions (move v p) = one p  -- 05
positions (delete i) = []  -- 06
positions (glue_vertices a b) = []  -- 07
positions (glue_edges a b flag) = []  -- 08
positions (unglue i) = []  -- 09
positions (cut_edge e q) = []  -- 0A
positions (cut_face_vertex f p) = one p  -- 0B
positions (cut_face_open f c1 s1 c2 s2 bs ms) = bs  -- 0C
positions (cut_face_closed f bs ms) = bs  -- 0D
positions (uncut i) = []  -- 0E

unfoldable pub question3 : Command → Bool
unfolding within
question3 c = all within (positions c)

-- ---- 4: is every cell named live and of a kind the command takes?
abbrev pub cycle_names : Look → Cycle → Bool
cycle_names look (lone v) = is_vertex (look v)
cycle_names look (path hs) = all (λ (h : Halfedge). is_edge (look h.edge)) hs

abbrev pub figure_names : Look → Figure → Bool
figure_names look (vertex p) = true  -- 01
figure_names look (open_edge a b bs) = is_vertex (look a) && is_vertex (look b)  -- 02
figure_names look (closed_edge bs) = true  -- 03
figure_names look (face ks) = all (cycle_names look) ks  -- 04

unfoldable pub question4 : Sheet → Command → Bool
question4 s (create x) = figure_names (cell_at s) x  -- 01 to 04
question4 s (move v p) = is_vertex (cell_at s v)  -- 05
question4 s (delete i) = is_live (cell_at s i)  -- 06
question4 s (glue_vertices a b) = is_vertex (cell_at s a) && is_vertex (cell_at s b)  -- 07
question4 s (glue_edges a b flag) = is_edge (cell_at s a) && is_edge (cell_at s b)  -- 08
question4 s (unglue i) = is_vertex_or_edge (cell_at s i)  -- 09
question4 s (cut_edge e q) = is_edge (cell_at s e)  -- 0A
question4 s (cut_face_vertex f p) = is_face (cell_at s f)  -- 0B
question4 s (cut_face_open f c1 s1 c2 s2 bs ms) = is_face (cell_at s f)  -- 0C
question4 s (cut_face_closed f bs ms) = is_face (cell_at s f)  -- 0D
question4 s (uncut i) = is_vertex_or_edge (cell_at s i)  -- 0E

-- ---- 5: is every count, place, flag, cycle and corner one that exists, closed bend counts at least 1, moved cycles strictly rising?
abbrev pub figure_counts : Figure → Bool
figure_counts (vertex p) = true  -- 01
figure_counts (open_edge a b bs) = true  -- 02
figure_counts (closed_edge bs) = not (is_empty bs)  -- 03
figure_counts (face ks) = true  -- 04

unfoldable pub question5 : Sheet → Command → Bool
question5 s (create x) = figure_counts x  -- 01 to 04
question5 s (move v p) = true  -- 05
question5 s (delete i) = true  -- 06
question5 s (glue_vertices a b) = true  -- 07
question5 s (glue_edges a b flag) = leb flag 1  -- 08
question5 s (unglue i) = true  -- 09
question5 s (cut_edge e q) = cut_exists (cell_at s e) q  -- 0A
question5 s (cut_face_vertex f p) = true  -- 0B
question5 s (cut_face_open f c1 s1 c2 s2 bs ms) = cut_corners (cell_at s) (cycles_of (cell_at s f)) c1 s1 c2 s2 ms  -- 0C
question5 s (cut_face_closed f bs ms) = not (is_empty bs) && places 0 ms (length (cycles_of (cell_at s f)))  -- 0D
question5 s (uncut i) = true  -- 0E

-- ---- 6: do cycles join, and does the rule of 07, 08, 09 or 0E hold? Gluing a cell to itself: no
abbrev pub figure_joins : Look → Figure → Bool
figure_joins look (vertex p) = true  -- 01
figure_joins look (open_edge a b bs) = true  -- 02
figure_joins look (closed_edge bs) = true  -- 03
figure_joins look (face ks) = all (cycle_ok look) ks  -- 04

unfoldable pub question6 : Sheet → Command → Bool
unfolding uncut_case
question6 s (create x) = figure_joins (cell_at s) x  -- 01 to 04
question6 s (move v p) = true  -- 05
question6 s (delete i) = true  -- 06
question6 s (glue_vertices a b) = not (eqb a b)  -- 07
question6 s (glue_edges a b flag) = not (eqb a b) && may_glue (cell_at s a) (cell_at s b) flag  -- 08
question6 s (unglue i) = leb 2 (parts s.cells i (cell_at s i))  -- 09
question6 s (cut_edge e q) = true  -- 0A
question6 s (cut_face_vertex f p) = true  -- 0B
question6 s (cut_face_open f c1 s1 c2 s2 bs ms) = true  -- 0C
question6 s (cut_face_closed f bs ms) = true  -- 0D
question6 s (uncut i) = allowed (uncut_case s i)  -- 0E

-- ---- the result, where questions 1 to 6 let the command pass
unfoldable pub result : Sheet → Command → Sheet
unfolding moved deleted glued_vertices glued_edges unglued edge_cut face_cut_at face_cut_along face_cut_round uncut_at
result s (create x) = rebuild every_id as_it_is (one x) s  -- 01 to 04
result s (move v p) = moved s v p  -- 05
result s (delete i) = deleted s i  -- 06
result s (glue_vertices a b) = glued_vertices s a b  -- 07
result s (glue_edges a b flag) = glued_edges s a b flag  -- 08
result s (unglue i) = unglued s i  -- 09
result s (cut_edge e q) = edge_cut s e q  -- 0A
result s (cut_face_vertex f p) = face_cut_at s f p  -- 0B
result s (cut_face_open f c1 s1 c2 s2 bs ms) = face_cut_along s f c1 s1 c2 s2 bs ms  -- 0C
result s (cut_face_closed f bs ms) = face_cut_round s f bs ms  -- 0D
result s (uncut i) = uncut_at s i  -- 0E

-- ---- the Euler share, from the command and the drawing that it was handed
-- n new cells: plus their count for a vertex, minus it for an open edge
abbrev pub unglue_share : ℕ → Option Figure → ℤ
unglue_share n none = pos 0
unglue_share n (some (vertex p)) = pos n
unglue_share n (some (open_edge a b bs)) = neg_ℤ (pos n)
unglue_share n (some (closed_edge bs)) = pos 0
unglue_share n (some (face ks)) = pos 0

abbrev pub share : Sheet → Command → ℤ
share s (create x) = cell_share x  -- 01 to 04
share s (move v p) = pos 0  -- 05
share s (delete i) = neg_ℤ (euler (going s i))  -- 06
share s (glue_vertices a b) = neg_ℤ (pos 1)  -- 07
share s (glue_edges a b flag) = cond (is_open (cell_at s a)) (pos 1) (pos 0)  -- 08
share s (unglue i) = unglue_share (parts s.cells i (cell_at s i) - 1) (cell_at s i)  -- 09
share s (cut_edge e q) = pos 0  -- 0A
share s (cut_face_vertex f p) = pos 0  -- 0B
share s (cut_face_open f c1 s1 c2 s2 bs ms) = pos 0  -- 0C
share s (cut_face_closed f bs ms) = pos 0  -- 0D
share s (uncut i) = pos 0  -- 0E
