-- Of the links of a sound drawing one for each cycle is enough: the boundary of a cycle hangs together by its edges. Assumes nothing.
use Prim.Native.Nat.{ℕ}
use mathlib.Core.Path.{◌≡◌, refl, sym, subst}
use mathlib.Core.Logic.{inl, inr}
use mathlib.Core.Bool.{Bool, true, false, cond}
use mathlib.Core.List.{List, [], ◌∷◌, map, Memᴰ}
use mathlib.Core.Option.{Option, none, some}
use lib.ListN.{length}
use lib.Dec.{T, eqb}
use Rattle.number.specs.Readers.{spread}
use Rattle.coordinate.specs.declared.Position.{Position}
use Rattle.complex.specs.Lists.{all}
use Rattle.complex.specs.Cells.{Halfedge, Cycle, lone, path, Figure, vertex, open_edge, closed_edge, face, LiveCell, Sheet, cell_at, ids}
use Rattle.complex.specs.Cells.{is_open, start_of, end_of, same, tail_of, head_of}
use Rattle.complex.specs.Boundary.{ends_of, cycle_boundary, boundary}
use Rattle.complex.specs.Groups.{Together, linked, itself, back, chain}
use Rattle.complex.specs.Sound.{Walk, cycle_ok, figure_ok}
use Rattle.complex.specs.Pieces.{Link, cell_of, bound_of, link, links, joined, pieces}
use Rattle.complex.proofs.Bools.{both, pair}
use Rattle.complex.proofs.Lookup.{every_cell, cell_with, found_member}
use Rattle.complex.proofs.Walks.{joins_cases}
use Rattle.complex.proofs.Keep.{Sound, same_eq, same_refl}
use Rattle.complex.proofs.Every.{Every, every_both, every_at, every_of, every_more, every_all, member_map, member_spread, every_map, every_spread}
use Rattle.complex.proofs.Groups
use Rattle.complex.proofs.Merges
use Rattle.complex.proofs.Pieces.{numbers, ids_once, each_link, links_inside, link_in}

-- the first cell that a cycle names: its lone vertex, or the edge of its first step
abbrev pub anchor : Cycle → ℕ
anchor (lone v) = v
anchor (path []) = 0
anchor (path (h ∷ hs)) = h.edge

-- the links of a figure that are enough: both ends of an open edge, one cell of each cycle
abbrev pub anchors : Figure → List ℕ
anchors (vertex p) = []
anchors (open_edge a b bs) = a ∷ b ∷ []
anchors (closed_edge bs) = []
anchors (face ks) = map anchor ks

abbrev pub ties_of : LiveCell → List Link
ties_of c = map (link c.id) (anchors c.figure)

abbrev pub ties : List LiveCell → List Link
ties cs = spread ties_of cs

-- a cell that its id finds
abbrev pub Own : Sheet → LiveCell → Type 0
Own s c = cell_at s c.id ≡ some c.figure

pub every_own : (s : Sheet) → Sound s → Every (Own s) s.cells
every_own s S = every_cell (Own s) 0 s.cells s.next S.rises (λ c e. e)

-- ---- the boundary of a cycle hangs together, where each open edge does with its ends
abbrev pub Tied : List Link → ℕ → ℕ → Type 0
Tied ls i j = Together cell_of bound_of ls i j

abbrev pub EndsTied : Sheet → List Link → Type 0
EndsTied s ls = (e a b : ℕ) (bs : List Position) → cell_at s e ≡ some (open_edge a b bs) → Tied ls e a × Tied ls e b

module _ (s : Sheet) (ls : List Link) (own : EndsTied s ls) where
  ends_tied : (o e : ℕ) → Tied ls o e → Every (Tied ls o) (ends_of (cell_at s e))
  ends_tied o e t = go (cell_at s e) refl
    where
      go : (f : Option Figure) → cell_at s e ≡ f → Every (Tied ls o) (ends_of f)
      go none q = tt
      go (some (vertex p)) q = tt
      go (some (open_edge a b bs)) q = let h = own e a b bs q in (chain t h.0, (chain t h.1, tt))
      go (some (closed_edge bs)) q = tt
      go (some (face ks)) q = tt

  -- a step of an open edge leads from one of its ends to the other
  step_tied : (h : Halfedge) → T (is_open (cell_at s h.edge)) → Tied ls h.edge (tail_of (cell_at s) h) × Tied ls h.edge (head_of (cell_at s) h)
  step_tied h t = go (cell_at s h.edge) refl t h.backward
    where
      go : (f : Option Figure) → cell_at s h.edge ≡ f → T (is_open f) → (y : Bool)
          → Tied ls h.edge (cond y (end_of f) (start_of f)) × Tied ls h.edge (cond y (start_of f) (end_of f))
      go none q u y = absurd u
      go (some (vertex p)) q u y = absurd u
      go (some (open_edge a b bs)) q u true = let w = own h.edge a b bs q in (w.1, w.0)
      go (some (open_edge a b bs)) q u false = own h.edge a b bs q
      go (some (closed_edge bs)) q u y = absurd u
      go (some (face ks)) q u y = absurd u

  walk_tied : (o u : ℕ) (hs : List Halfedge) (w : ℕ) → Walk (cell_at s) u hs w → Tied ls o u → Every (Tied ls o) (cycle_boundary (cell_at s) (path hs))
  walk_tied o u [] w k t = tt
  walk_tied o u (h ∷ hs) w k t =
      let d = step_tied h k.0 in
      let e : Tied ls o h.edge = chain (subst (Tied ls o) k.1 t) (back d.0) in
      every_both (Tied ls o) (h.edge ∷ ends_of (cell_at s h.edge)) (cycle_boundary (cell_at s) (path hs)) (e, ends_tied o h.edge e)
      (walk_tied o (head_of (cell_at s) h) hs w k.2 (chain e d.1))

  -- steps of one edge
  ring_tied : (h : Halfedge) (hs : List Halfedge) → T (all (same h) hs) → Every (Tied ls h.edge) (cycle_boundary (cell_at s) (path hs))
  ring_tied h [] t = tt
  ring_tied h (k ∷ hs) t =
      let b = both (same h k) (all (same h) hs) t in
      let e : Tied ls h.edge k.edge = subst (λ (g : Halfedge). Tied ls h.edge g.edge) (same_eq h k b.0) (itself h.edge) in
      every_both (Tied ls h.edge) (k.edge ∷ ends_of (cell_at s k.edge)) (cycle_boundary (cell_at s) (path hs)) (e, ends_tied h.edge k.edge e)
      (ring_tied h hs b.1)

  pub cycle_linked : (k : Cycle) → T (cycle_ok (cell_at s) k) → Every (Tied ls (anchor k)) (cycle_boundary (cell_at s) k)
  cycle_linked (lone v) t = (itself v, tt)
  cycle_linked (path []) t = absurd t
  cycle_linked (path (h ∷ hs)) t = elim (joins_cases (cell_at s) (h ∷ hs) t) [
    | inl w ↦ walk_tied h.edge w.1.0 (h ∷ hs) w.1.0 w.1.1
        (subst (Tied ls h.edge) (sym w.1.1.1) (step_tied h w.1.1.0).0)
    | inr g ↦ ring_tied h (h ∷ hs) (pair (same h h) (all (same h) hs) (same_refl h) g.1)
  ]

-- ---- both lists of links say the same
module _ (s : Sheet) (S : Sound s) where
  tie_in : (c : LiveCell) (x : ℕ) → Memᴰ c s.cells → Memᴰ x (anchors c.figure) → Memᴰ (link c.id x) (ties s.cells)
  tie_in c x m n = member_spread ties_of s.cells m (member_map (link c.id) (anchors c.figure) n)

  figure_ok_lem : (c : LiveCell) → Memᴰ c s.cells → T (figure_ok (cell_at s) c.figure)
  figure_ok_lem c m = S.figures c.id c.figure (every_at (Own s) s.cells (every_own s S) m)

  -- a tie is a link
  anchor_in_lem : (k : Cycle) → T (cycle_ok (cell_at s) k) → Memᴰ (anchor k) (cycle_boundary (cell_at s) k)
  anchor_in_lem (lone v) t = Memᴰ.head refl
  anchor_in_lem (path []) t = absurd t
  anchor_in_lem (path (h ∷ hs)) t = Memᴰ.head refl

  pub anchors_in_lem : (x : Figure) → T (figure_ok (cell_at s) x) → Every (λ (i : ℕ). Memᴰ i (boundary (cell_at s) x)) (anchors x)
  anchors_in_lem (vertex p) t = tt
  anchors_in_lem (open_edge a b bs) t = (Memᴰ.head refl, (Memᴰ.tail (Memᴰ.head refl), tt))
  anchors_in_lem (closed_edge bs) t = tt
  anchors_in_lem (face ks) t =
      every_map (λ (i : ℕ). Memᴰ i (boundary (cell_at s) (face ks))) anchor ks
      (every_of (λ (k : Cycle). Memᴰ (anchor k) (boundary (cell_at s) (face ks))) ks
      (λ k m. member_spread (cycle_boundary (cell_at s)) ks m
      (anchor_in_lem k (every_at (λ (k : Cycle). T (cycle_ok (cell_at s) k)) ks (every_all (cycle_ok (cell_at s)) ks t) m))))

  abbrev In : Link → Type 0
  In l = Memᴰ l (links s.cells)

  ties_in : Every In (ties s.cells)
  ties_in =
      every_spread In ties_of s.cells
      (every_of (λ (c : LiveCell). Every In (ties_of c)) s.cells
      (λ c m. every_map In (link c.id) (anchors c.figure)
      (every_more (λ (i : ℕ). Memᴰ i (boundary (cell_at s) c.figure)) (λ (i : ℕ). In (link c.id i)) (λ i n. link_in s c i m n) (anchors c.figure)
      (anchors_in_lem c.figure (figure_ok_lem c m)))))

  -- a link's cells hang together by ties
  own_ties : EndsTied s (ties s.cells)
  own_ties e a b bs q =
      let m = found_member s.cells e (open_edge a b bs) q in
      let c = cell_with e (open_edge a b bs) in
      (linked (link e a) (tie_in c a m (Memᴰ.head refl)), linked (link e b) (tie_in c b m (Memᴰ.tail (Memᴰ.head refl))))

  bounds_tied : (i : ℕ) (x : Figure) → Memᴰ (cell_with i x) s.cells → T (figure_ok (cell_at s) x)
      → Every (Tied (ties s.cells) i) (boundary (cell_at s) x)
  bounds_tied i (vertex p) m t = tt
  bounds_tied i (open_edge a b bs) m t =
      let c = cell_with i (open_edge a b bs) in
      (linked (link i a) (tie_in c a m (Memᴰ.head refl)), (linked (link i b) (tie_in c b m (Memᴰ.tail (Memᴰ.head refl))), tt))
  bounds_tied i (closed_edge bs) m t = tt
  bounds_tied i (face ks) m t =
      every_spread (Tied (ties s.cells) i) (cycle_boundary (cell_at s)) ks
      (every_of (λ (k : Cycle). Every (Tied (ties s.cells) i) (cycle_boundary (cell_at s) k)) ks
      (λ k n. every_more (Tied (ties s.cells) (anchor k)) (Tied (ties s.cells) i)
      (λ j r. chain (linked (link i (anchor k)) (tie_in (cell_with i (face ks)) (anchor k) m (member_map anchor ks n))) r)
      (cycle_boundary (cell_at s) k)
      (cycle_linked s (ties s.cells) own_ties k (every_at (λ (k : Cycle). T (cycle_ok (cell_at s) k)) ks (every_all (cycle_ok (cell_at s)) ks t) n))))

  links_tied : Every (λ (l : Link). Tied (ties s.cells) l.cell l.bound) (links s.cells)
  links_tied = each_link s S (λ (l : Link). Tied (ties s.cells) l.cell l.bound)
      (λ i x e. bounds_tied i x (found_member s.cells i x e) (S.figures i x e))

abbrev pub Inside : List ℕ → Link → Type 0
Inside is l = Groups.Inside eqb cell_of bound_of is l

pub ties_inside : (s : Sheet) → Sound s → Every (Inside (ids s.cells)) (ties s.cells)
ties_inside s S =
    every_more (In s S) (Inside (ids s.cells))
    (λ l m. every_at (Inside (ids s.cells)) (links s.cells) (links_inside s S) m) (ties s.cells) (ties_in s S)

pub pieces_ties : (s : Sheet) → Sound s → length (joined (ties s.cells) (ids s.cells)) ≡ pieces s.cells
pieces_ties s S =
    Merges.as_many eqb numbers cell_of bound_of (ids s.cells) (ids_once s S) (ties s.cells) (links s.cells) (ties_inside s S) (links_inside s S)
    (every_more (In s S) (λ (l : Link). Tied (links s.cells) l.cell l.bound) (λ l m. linked l m) (ties s.cells) (ties_in s S)) (links_tied s S)
