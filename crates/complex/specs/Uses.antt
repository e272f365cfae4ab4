-- Where a drawing uses a cell. An edge end is written as the halfedge that leaves by it: e for the start, e⁻ for the end. Definitions only.
use Rattle.std.specs.Prelude.{ℕ, zero, suc, ◌+◌, Bool, ◌&&◌, cond, List, [], ◌∷◌, ◌++◌, map, length, eqb, ltb}
use Rattle.std.proofs.Math.Option.{Option, none, some}
use Rattle.number.specs.Readers.{spread}
use Rattle.complex.specs.Lists.{any, filter, total, cons_if, one}
use Rattle.complex.specs.Cells.{Halfedge, Cycle, lone, path, Figure, vertex, open_edge, closed_edge, face, LiveCell, lookup, is_open}
use Rattle.complex.specs.Cells.{cycles_of, steps_of, along, against, flipped, same, tail_of}
use Rattle.complex.specs.Sound.{over}
use Rattle.complex.specs.Groups

-- ---- edge ends at a vertex, by edge id, start before end
abbrev pub figure_ends : ℕ → ℕ → Figure → List Halfedge
figure_ends v i (vertex p) = []
figure_ends v i (open_edge a b bs) = cons_if (eqb a v) (along i) (cons_if (eqb b v) (against i) [])
figure_ends v i (closed_edge bs) = []
figure_ends v i (face ks) = []

abbrev pub ends_at : List LiveCell → ℕ → List Halfedge
ends_at cs v = spread (λ (c : LiveCell). figure_ends v c.id c.figure) cs

-- ---- passages: a cycle arrives by one end and leaves by another
pub record Passage : Type 0 where
  pub arrives : Halfedge
  pub leaves : Halfedge

abbrev pub passage : Halfedge → Halfedge → Passage
passage h k = record { arrives = flipped h; leaves = k }

-- from h on to the last step, and on to the first, f
abbrev pub passages_from : Halfedge → Halfedge → List Halfedge → List Passage
passages_from f h [] = passage h f ∷ []
passages_from f h (k ∷ ks) = passage h k ∷ passages_from f k ks

abbrev pub passages : List Halfedge → List Passage
passages [] = []
passages (h ∷ hs) = passages_from h h hs

abbrev pub all_cycles : List LiveCell → List Cycle
all_cycles cs = spread (λ (c : LiveCell). cycles_of (some c.figure)) cs

abbrev pub passages_at : List LiveCell → ℕ → List Passage
passages_at cs v =
    filter (λ (t : Passage). is_open (lookup cs t.leaves.edge) && eqb (tail_of (lookup cs) t.leaves) v)
    (spread (λ (k : Cycle). passages (steps_of k)) (all_cycles cs))

-- ---- groups of ends: joined by a passage, and so on through chains
abbrev pub is_in : List Halfedge → Halfedge → Bool
is_in hs h = Groups.is_in same hs h

-- a passage links the end by which it arrives and the one by which it leaves
abbrev pub arrival : Passage → Halfedge
arrival t = t.arrives

abbrev pub departure : Passage → Halfedge
departure t = t.leaves

abbrev pub join_all : List Passage → List (List Halfedge) → List (List Halfedge)
join_all ts gs = Groups.join_all same arrival departure ts gs

-- the groups of a vertex's ends, by their first members
abbrev pub groups : List LiveCell → ℕ → List (List Halfedge)
groups cs v = join_all (passages_at cs v) (map one (ends_at cs v))

-- two edge ends belong together if some cycle passes from one to the other, and so on through chains. ts are the passages
abbrev pub Together : List Passage → Halfedge → Halfedge → Type 0
Together ts x y = Groups.Together arrival departure ts x y

-- the place of the group that holds an end
abbrev pub group_of : List (List Halfedge) → Halfedge → ℕ
group_of gs x = Groups.group_of same gs x

-- ---- uses by a cycle, and counting them in the order of face id, cycle and step
abbrev pub lone_use : ℕ → Cycle → ℕ
lone_use v (lone w) = cond (eqb v w) 1 0
lone_use v (path hs) = 0

abbrev pub edge_use : ℕ → Halfedge → ℕ
edge_use e h = cond (eqb e h.edge) 1 0

abbrev pub step_use : ℕ → Cycle → ℕ
step_use e k = total (edge_use e) (steps_of k)

abbrev pub ring_use : ℕ → Cycle → ℕ
ring_use e k = cond (any (λ (h : Halfedge). eqb e h.edge) (steps_of k)) 1 0

abbrev pub uses_by : (Cycle → ℕ) → List LiveCell → ℕ
uses_by uses cs = over (λ (x : Figure). total uses (cycles_of (some x))) cs

abbrev pub earlier : ℕ → List LiveCell → List LiveCell
earlier i cs = filter (λ (c : LiveCell). ltb c.id i) cs

-- each cycle by f, which is told how many uses stand before that cycle. n uses stand before the first cycle of the list
abbrev pub counting : (Cycle → ℕ) → (ℕ → Cycle → Cycle) → ℕ → List Cycle → List Cycle
counting uses f n [] = []
counting uses f n (k ∷ ks) = f n k ∷ counting uses f (n + uses k) ks

-- the same in face i. Before its first cycle stand n uses that come before all faces (at a vertex its groups of ends, at an edge none)
-- and the uses by faces of lower ids
abbrev pub on_uses : (Cycle → ℕ) → (ℕ → Cycle → Cycle) → ℕ → List LiveCell → ℕ → Figure → Figure
on_uses uses f n cs i (vertex p) = vertex p
on_uses uses f n cs i (open_edge a b bs) = open_edge a b bs
on_uses uses f n cs i (closed_edge bs) = closed_edge bs
on_uses uses f n cs i (face ks) = face (counting uses f (n + uses_by uses (earlier i cs)) ks)

-- ---- the steps of an edge, with their places
pub record Use : Type 0 where
  pub face : ℕ
  pub cycle : ℕ
  pub step : ℕ
  pub halfedge : Halfedge

abbrev pub step_uses : ℕ → ℕ → ℕ → ℕ → List Halfedge → List Use
step_uses e f k n [] = []
step_uses e f k n (h ∷ hs) = cons_if (eqb e h.edge) (record { face = f; cycle = k; step = n; halfedge = h }) (step_uses e f k (suc n) hs)

abbrev pub cycle_uses : ℕ → ℕ → ℕ → List Cycle → List Use
cycle_uses e f n [] = []
cycle_uses e f n (k ∷ ks) = step_uses e f n 0 (steps_of k) ++ cycle_uses e f (suc n) ks

abbrev pub uses_of : List LiveCell → ℕ → List Use
uses_of cs e = spread (λ (c : LiveCell). cycle_uses e c.id 0 (cycles_of (some c.figure))) cs
