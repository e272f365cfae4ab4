-- 0A cut edge, 0B cut face at vertex, 0C and 0D cut face along an open or a closed edge. Definitions only.
use Rattle.std.specs.Prelude.{ℕ, zero, suc, ◌+◌, ◌-◌, ◌*◌, ◌/◌, ◌%◌, Bool, true, false, not, ◌&&◌, ◌||◌, cond, List, [], ◌∷◌, ◌++◌, length, get_or, take, drop, eqb, ltb, leb}
use Rattle.std.proofs.Math.Option.{Option, none, some}
use Rattle.coordinate.specs.declared.Position.{Position}
use Rattle.coordinate.specs.Bounds.{middle}
use Rattle.complex.specs.Lists.{is_empty, holds, places, one, rotated, without, chosen, distance}
use Rattle.complex.specs.Cells.{Halfedge, Cycle, lone, path, Figure, vertex, open_edge, closed_edge, face, Sheet, origin, Look, cell_at}
use Rattle.complex.specs.Cells.{is_open, is_closed, bends_of, cycles_of, position_of, steps_of, along, against, tail_of}
use Rattle.complex.specs.Edits.{rebuild, every_id, others, cycles_become, cycle_replaced, without_cycle, rewired, same_vertex, in_place_of}

-- ---- 0A
-- the points that an edge passes; segment i leaves point i
abbrev pub points : Look → Option Figure → List Position
points look none = []
points look (some (vertex p)) = []
points look (some (open_edge a b bs)) = position_of (look a) ∷ bs ++ one (position_of (look b))
points look (some (closed_edge bs)) = bs ++ take 1 bs
points look (some (face ks)) = []

-- odd: a bend; even: halfway on a segment
abbrev pub cut_place : Look → Option Figure → ℕ → Position
cut_place look o q =
    let ps = points look o in
    let m = middle (get_or ps (q / 2) origin) (get_or ps (q / 2 + 1) origin) in
    cond (eqb (q % 2) 1) (get_or (bends_of o) (q / 2) origin) m

-- the bends before and after the cut
abbrev pub bends_before : List Position → ℕ → List Position
bends_before bs q = take (q / 2) bs

abbrev pub bends_after : List Position → ℕ → List Position
bends_after bs q = drop (q / 2 + q % 2) bs

-- e's steps become a b, backward b⁻ a⁻
abbrev pub in_two : ℕ → ℕ → ℕ → Halfedge → List Halfedge
in_two e a b h = cond (eqb e h.edge) (cond h.backward (against b ∷ against a ∷ []) (along a ∷ along b ∷ [])) (one h)

-- round a closed edge from the cut, the bends onward; at a segment's middle the bend that it leaves comes last
abbrev pub bends_round : List Position → ℕ → List Position
bends_round bs q = drop (q / 2 + 1) bs ++ take (q / 2 + (1 - q % 2)) bs

abbrev pub cut_figure : Sheet → ℕ → ℕ → Option Figure → Sheet
cut_figure s e q none = s
cut_figure s e q (some (vertex p)) = s
cut_figure s e q (some (open_edge a b bs)) =
    let v = s.next in
    rebuild (others e) (rewired same_vertex (in_two e (suc v) (suc (suc v))))
    (vertex (cut_place (cell_at s) (some (open_edge a b bs)) q) ∷ open_edge a v (bends_before bs q) ∷ open_edge v b (bends_after bs q) ∷ []) s
cut_figure s e q (some (closed_edge bs)) =
    let v = s.next in
    rebuild (others e) (rewired same_vertex (in_place_of e (suc v) false))
    (vertex (cut_place (cell_at s) (some (closed_edge bs)) q) ∷ open_edge v v (bends_round bs q) ∷ []) s
cut_figure s e q (some (face ks)) = s

unfoldable pub edge_cut : Sheet → ℕ → ℕ → Sheet
unfolding middle
edge_cut s e q = cut_figure s e q (cell_at s e)

-- ---- 0B: the new vertex's lone cycle goes last
unfoldable pub face_cut_at : Sheet → ℕ → Position → Sheet
face_cut_at s f p = rebuild every_id (cycles_become f (cycles_of (cell_at s f) ++ one (lone s.next))) (vertex p ∷ []) s

-- ---- 0C
abbrev pub no_cycle : Cycle
no_cycle = lone 0

abbrev pub no_step : Halfedge
no_step = along 0

-- the vertex of a corner
abbrev pub corner : Look → Cycle → ℕ → ℕ
corner look (lone v) n = v
corner look (path hs) n = tail_of look (get_or hs n no_step)

-- P: the steps from s to before t, round the end; empty if s = t
abbrev pub stretch : ℕ → ℕ → List Halfedge → List Halfedge
stretch s t hs = take (distance (length hs) s t) (rotated s hs)

-- Q: the steps from t to before s, round the end; the whole cycle if s = t
abbrev pub remainder : ℕ → ℕ → List Halfedge → List Halfedge
remainder s t hs = drop (distance (length hs) s t) (rotated s hs)

-- the moved cycles, and the others
abbrev pub moved_cycles : List ℕ → List Cycle → List Cycle
moved_cycles ms ks = chosen no_cycle ms ks

abbrev pub staying_cycles : List ℕ → List Cycle → List Cycle
staying_cycles ms ks = without ms 0 ks

-- c1 = c2: P e⁻ takes the cycle's place; a new face gets Q e and then the moved cycles
abbrev pub split_in_two : Sheet → ℕ → ℕ → ℕ → ℕ → List Position → List ℕ → List Cycle → Sheet
split_in_two s f c s1 s2 bs ms ks =
    let k = get_or ks c no_cycle in
    let e = s.next in
    let P = stretch s1 s2 (steps_of k) in
    let Q = remainder s1 s2 (steps_of k) in
    rebuild every_id (cycles_become f (staying_cycles ms (cycle_replaced c (path (P ++ one (against e))) ks)))
    (open_edge (corner (cell_at s) k s1) (corner (cell_at s) k s2) bs
    ∷ face (path (Q ++ one (along e)) ∷ moved_cycles ms ks) ∷ []) s

-- otherwise: cycle c1 from s1, e, cycle c2 from s2, e⁻ take c1's place, c2 goes
abbrev pub bridged : Sheet → ℕ → ℕ → ℕ → ℕ → ℕ → List Position → List Cycle → Sheet
bridged s f c1 s1 c2 s2 bs ks =
    let k1 = get_or ks c1 no_cycle in
    let k2 = get_or ks c2 no_cycle in
    let e = s.next in
    let k = path (rotated s1 (steps_of k1) ++ (along e ∷ rotated s2 (steps_of k2) ++ one (against e))) in
    rebuild every_id (cycles_become f (without_cycle c2 (cycle_replaced c1 k ks)))
    (open_edge (corner (cell_at s) k1 s1) (corner (cell_at s) k2 s2) bs ∷ []) s

unfoldable pub face_cut_along : Sheet → ℕ → ℕ → ℕ → ℕ → ℕ → List Position → List ℕ → Sheet
face_cut_along s f c1 s1 c2 s2 bs ms =
    let ks = cycles_of (cell_at s f) in
    cond (eqb c1 c2) (split_in_two s f c1 s1 s2 bs ms ks) (bridged s f c1 s1 c2 s2 bs ks)

-- ---- 0D: e, forward, goes last; a new face gets e⁻ and the moved cycles
unfoldable pub face_cut_round : Sheet → ℕ → List Position → List ℕ → Sheet
face_cut_round s f bs ms =
    let ks = cycles_of (cell_at s f) in
    let e = s.next in
    rebuild every_id (cycles_become f (staying_cycles ms ks ++ one (path (one (along e)))))
    (closed_edge bs ∷ face (path (one (against e)) ∷ moved_cycles ms ks) ∷ []) s

-- ---- what exists to be cut, as question 5 asks
-- a bend, or a segment: an open edge has one more than it has bends
abbrev pub cut_exists : Option Figure → ℕ → Bool
cut_exists o q = cond (eqb (q % 2) 1 || is_closed o) (ltb (q / 2) (length (bends_of o))) (leb (q / 2) (length (bends_of o)))

-- a closed cycle has no corner, a lone vertex has corner 0
abbrev pub corner_exists : Look → Cycle → ℕ → Bool
corner_exists look (lone v) n = eqb n 0
corner_exists look (path hs) n = ltb n (length hs) && is_open (look (get_or hs n no_step).edge)

-- moved cycles strictly rising and without c1, none where c1 and c2 differ
abbrev pub cut_corners : Look → List Cycle → ℕ → ℕ → ℕ → ℕ → List ℕ → Bool
cut_corners look ks c1 s1 c2 s2 ms =
    ltb c1 (length ks) && (ltb c2 (length ks)
    && (corner_exists look (get_or ks c1 no_cycle) s1 && (corner_exists look (get_or ks c2 no_cycle) s2
    && cond (eqb c1 c2) (places 0 ms (length ks) && not (holds c1 ms)) (is_empty ms))))
