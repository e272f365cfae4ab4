-- How a drawing is changed: cells go, cells change, cells come. Definitions only.
use Rattle.std.specs.Prelude.{ℕ, zero, suc, ◌+◌, Bool, true, false, not, ◌&&◌, cond, List, [], ◌∷◌, ◌++◌, map, length, set, eqb}
use Rattle.number.specs.Readers.{spread}
use Rattle.complex.specs.Lists.{filter, one, without}
use Rattle.complex.specs.Cells.{Halfedge, Cycle, lone, path, Figure, vertex, open_edge, closed_edge, face, LiveCell, Sheet}

-- the cells whose ids p keeps
abbrev pub keep_ids : (ℕ → Bool) → List LiveCell → List LiveCell
keep_ids p cs = filter (λ (c : LiveCell). p c.id) cs

-- each cell with the figure that f gives for its id and figure
abbrev pub reshape : (ℕ → Figure → Figure) → List LiveCell → List LiveCell
reshape f cs = map (λ (c : LiveCell). record { id = c.id; figure = f c.id c.figure }) cs

-- new cells with the ids from n on
abbrev pub numbered : ℕ → List Figure → List LiveCell
numbered n [] = []
numbered n (x ∷ xs) = record { id = n; figure = x } ∷ numbered (suc n) xs

-- the cells that p keeps, changed by f, and the new ones with the next ids
abbrev pub rebuild : (ℕ → Bool) → (ℕ → Figure → Figure) → List Figure → Sheet → Sheet
rebuild p f new s = record { next = s.next + length new; cells = reshape f (keep_ids p s.cells) ++ numbered s.next new }

-- ---- which cells stay
abbrev pub every_id : ℕ → Bool
every_id i = true

-- all but i
abbrev pub others : ℕ → ℕ → Bool
others i n = not (eqb i n)

-- all but i and j
abbrev pub neither : ℕ → ℕ → ℕ → Bool
neither i j n = others i n && others j n

-- all but i, j and k
abbrev pub none_of : ℕ → ℕ → ℕ → ℕ → Bool
none_of i j k n = others i n && neither j k n

-- ---- how cells change
abbrev pub as_it_is : ℕ → Figure → Figure
as_it_is i x = x

-- the cell i becomes y
abbrev pub replaced : ℕ → Figure → ℕ → Figure → Figure
replaced i y j x = cond (eqb i j) y x

-- the face f gets the cycles ks
abbrev pub cycles_become : ℕ → List Cycle → ℕ → Figure → Figure
cycles_become f ks = replaced f (face ks)

-- cycle n becomes k
abbrev pub cycle_replaced : ℕ → Cycle → List Cycle → List Cycle
cycle_replaced n k ks = set ks n k

-- cycle n goes
abbrev pub without_cycle : ℕ → List Cycle → List Cycle
without_cycle n ks = without (one n) 0 ks

-- every use of a vertex by r, every step by σ
abbrev pub rewired_cycle : (ℕ → ℕ) → (Halfedge → List Halfedge) → Cycle → Cycle
rewired_cycle r σ (lone v) = lone (r v)
rewired_cycle r σ (path hs) = path (spread σ hs)

abbrev pub rewired : (ℕ → ℕ) → (Halfedge → List Halfedge) → ℕ → Figure → Figure
rewired r σ i (vertex p) = vertex p
rewired r σ i (open_edge a b bs) = open_edge (r a) (r b) bs
rewired r σ i (closed_edge bs) = closed_edge bs
rewired r σ i (face ks) = face (map (rewired_cycle r σ) ks)

abbrev pub same_vertex : ℕ → ℕ
same_vertex v = v

-- e's steps become a's, reversed or not
abbrev pub in_place_of : ℕ → ℕ → Bool → Halfedge → List Halfedge
in_place_of e a flip h = one (cond (eqb e h.edge) (record { edge = a; backward = cond flip (not h.backward) h.backward }) h)
