-- The pieces of a sound drawing are exactly the classes of linked cells: its links are between live cells, and cells belong together by them
-- exactly if they are linked. Assumes nothing.
use Prim.Native.Nat.{ℕ, ◌+◌, ◌≤◌, ◌<◌}
use native.Mathlib.Omega.{arith}
use mathlib.Core.Path.{◌≡◌, refl, sym, subst}
use mathlib.Core.Logic.{◌⊎◌, inl, inr}
use mathlib.Core.Bool.{Bool, true, false, ◌&&◌, ◌||◌, cond}
use mathlib.Core.List.{List, [], ◌∷◌, Memᴰ}
use mathlib.Core.Option.{Option, none, some}
use lib.Dec.{T, eqb, ltb, eqb→eq, eqb_refl, ltb→lt}
use borrow.Author.Tests.{eq-eqb, ne_eqb, eqb-true, eqb-false}
use Rattle.coordinate.specs.declared.Position.{Position}
use Rattle.coordinate.specs.Bounds.{within}
use Rattle.complex.specs.Lists.{all, holds, rising}
use Rattle.complex.specs.Cells.{Halfedge, Cycle, lone, path, Figure, vertex, open_edge, closed_edge, face, LiveCell, Sheet, some_if, lookup}
use Rattle.complex.specs.Cells.{cell_at, ids, is_vertex, is_open, is_closed, is_live, is_edge, is_vertex_or_edge}
use Rattle.complex.specs.Boundary.{ends_of, cycle_boundary, boundary, bounds_at}
use Rattle.complex.specs.Groups.{Together, linked}
use Rattle.complex.specs.Sound.{cycle_ok, figure_ok, sound}
use Rattle.complex.specs.Demands.{live}
use Rattle.complex.specs.Pieces.{Linked, holding, itself, back, chain, Link, cell_of, bound_of, link, links_of, links, pieces, pieces_call, PiecesRight}
use Rattle.complex.proofs.Bools.{true_of, both, or_left, or_right}
use Rattle.complex.proofs.Lookup.{every_cell, cell_with, found_member}
use Rattle.complex.proofs.Every.{Every, every_both, every_at, every_more, every_all, every_map, every_spread, every_holds}
use Rattle.complex.proofs.Every.{holds_member, member_map, member_spread}
use Rattle.complex.proofs.Keep.{Sound, sound_parts}
use Rattle.complex.proofs.Delete.{Edges, joins_edges}
use Rattle.complex.proofs.Groups
use Rattle.complex.proofs.Groups.{Decides, is_in, count, Inside, first_at}

pub numbers : Decides eqb
numbers = record { equal = λ x y t. eqb→eq x y t; reflexive = eqb_refl }

-- ---- the live ids
-- ids rise, so each stands once, and none up to lo stands after lo
rising_once : (lo : ℕ) (ns : List ℕ) (hi x : ℕ) → T (rising lo ns hi) → (count eqb x ns ≤ 1) × (x ≤ lo → count eqb x ns ≡ 0)
rising_once lo [] hi x t = (omega arith, λ l. refl)
rising_once lo (n ∷ ns) hi x t =
    let b = both (ltb lo n) (rising n ns hi) t in
    go (eqb x n) refl (ltb→lt lo n b.0) (rising_once n ns hi x b.1)
  where
    go : (e : Bool) → eqb x n ≡ e → lo < n → (count eqb x ns ≤ 1) × (x ≤ n → count eqb x ns ≡ 0)
        → (cond e 1 0 + count eqb x ns ≤ 1) × (x ≤ lo → cond e 1 0 + count eqb x ns ≡ 0)
    go true q l r = let z = eqb-true x n q in let y = r.1 (omega arith) in (omega arith, λ m. absurd (omega arith))
    go false q l r = (let y = r.0 in omega arith, λ m. let y = r.1 (omega arith) in omega arith)

pub ids_once : (s : Sheet) → Sound s → (x : ℕ) → count eqb x (ids s.cells) ≤ 1
ids_once s S x = (rising_once 0 (ids s.cells) s.next x S.rises).0

-- the ids are those of live cells
pub in_ids : (cs : List LiveCell) (i : ℕ) → is_in eqb (ids cs) i ≡ is_live (lookup cs i)
in_ids [] i = refl
in_ids (c ∷ cs) i = go (eqb c.id i) refl (in_ids cs i)
  where
    go : (y : Bool) → eqb c.id i ≡ y → is_in eqb (ids cs) i ≡ is_live (lookup cs i)
        → (eqb i c.id || is_in eqb (ids cs) i) ≡ is_live (some_if y c.figure (lookup cs i))
    go true q h = rw (eq-eqb i c.id (sym (eqb-true c.id i q)))
    go false q h = rw (ne_eqb i c.id (λ e. eqb-false c.id i q (sym e))) h

pub live_in : (s : Sheet) (i : ℕ) → live s i → T (is_in eqb (ids s.cells) i)
live_in s i t = subst T (sym (in_ids s.cells i)) t

pub in_live : (s : Sheet) (i : ℕ) → T (is_in eqb (ids s.cells) i) → live s i
in_live s i t = subst T (in_ids s.cells i) t

-- ---- what bounds a cell is a vertex or an edge
low_live : (o : Option Figure) → T (is_vertex_or_edge o) → T (is_live o)
low_live none t = t
low_live (some x) t = tt

module _ (s : Sheet) (S : Sound s) where
  abbrev pub Low : ℕ → Type 0
  Low x = T (is_vertex_or_edge (cell_at s x))

  of_vertex : (x : ℕ) → T (is_vertex (cell_at s x)) → Low x
  of_vertex x t = or_left (is_vertex (cell_at s x)) (is_edge (cell_at s x)) t

  of_edge : (x : ℕ) → T (is_open (cell_at s x)) ⊎ T (is_closed (cell_at s x)) → Low x
  of_edge x t = or_right (is_vertex (cell_at s x)) (is_edge (cell_at s x)) (elim t [
    | inl a ↦ or_left (is_open (cell_at s x)) (is_closed (cell_at s x)) a
    | inr b ↦ or_right (is_open (cell_at s x)) (is_closed (cell_at s x)) b
  ])

  figure_ends_low : (a b : ℕ) (bs : List Position) → T (figure_ok (cell_at s) (open_edge a b bs)) → Every Low (a ∷ b ∷ [])
  figure_ends_low a b bs t =
      let u = both (is_vertex (cell_at s a)) (is_vertex (cell_at s b) && all within bs) t in
      let w = both (is_vertex (cell_at s b)) (all within bs) u.1 in
      (of_vertex a u.0, (of_vertex b w.0, tt))

  ends_low : (e : ℕ) → Every Low (ends_of (cell_at s e))
  ends_low e = go (cell_at s e) refl
    where
      go : (o : Option Figure) → cell_at s e ≡ o → Every Low (ends_of o)
      go none q = tt
      go (some (vertex p)) q = tt
      go (some (open_edge a b bs)) q = figure_ends_low a b bs (S.figures e (open_edge a b bs) q)
      go (some (closed_edge bs)) q = tt
      go (some (face ks)) q = tt

  path_low : (hs : List Halfedge) → Edges s S hs → Every Low (cycle_boundary (cell_at s) (path hs))
  path_low [] E = tt
  path_low (h ∷ hs) E =
      every_both Low (h.edge ∷ ends_of (cell_at s h.edge)) (cycle_boundary (cell_at s) (path hs)) (of_edge h.edge E.0, ends_low h.edge)
      (path_low hs E.1)

  cycle_low : (k : Cycle) → T (cycle_ok (cell_at s) k) → Every Low (cycle_boundary (cell_at s) k)
  cycle_low (lone v) t = (of_vertex v t, tt)
  cycle_low (path hs) t = path_low hs (joins_edges s S hs t)

  pub bounds_low : (x : Figure) → T (figure_ok (cell_at s) x) → Every Low (boundary (cell_at s) x)
  bounds_low (vertex p) t = tt
  bounds_low (open_edge a b bs) t = figure_ends_low a b bs t
  bounds_low (closed_edge bs) t = tt
  bounds_low (face ks) t =
      every_spread Low (cycle_boundary (cell_at s)) ks
      (every_more (λ (k : Cycle). T (cycle_ok (cell_at s) k)) (λ (k : Cycle). Every Low (cycle_boundary (cell_at s) k)) cycle_low ks
      (every_all (cycle_ok (cell_at s)) ks t))

  -- ---- the links
  -- what holds of a link to each id in a live cell's boundary holds of every link
  pub each_link : (Q : Link → Type 0)
      → ((i : ℕ) (t : Figure) → cell_at s i ≡ some t → Every (λ (j : ℕ). Q (link i j)) (boundary (cell_at s) t)) → Every Q (links s.cells)
  each_link Q h = every_spread Q (links_of (cell_at s)) s.cells
      (every_cell (λ (c : LiveCell). Every Q (links_of (cell_at s) c)) 0 s.cells s.next S.rises
      (λ c e. every_map Q (link c.id) (boundary (cell_at s) c.figure) (h c.id c.figure e)))

  -- they are between live cells
  pub links_inside : Every (Inside eqb cell_of bound_of (ids s.cells)) (links s.cells)
  links_inside = each_link (Inside eqb cell_of bound_of (ids s.cells)) λ i t e.
      every_more Low (λ (j : ℕ). Inside eqb cell_of bound_of (ids s.cells) (link i j))
      (λ j l. (live_in s i (subst (λ (o : Option Figure). T (is_live o)) (sym e) tt), live_in s j (low_live (cell_at s j) l)))
      (boundary (cell_at s) t) (bounds_low t (S.figures i t e))

  -- what belongs together by them is linked
  pub together_linked : {i j : ℕ} → Together cell_of bound_of (links s.cells) i j → Linked s i j
  together_linked (linked l m) = every_at (λ (l : Link). Linked s (cell_of l) (bound_of l)) (links s.cells)
      (each_link (λ (l : Link). Linked s (cell_of l) (bound_of l)) λ i t e.
      every_holds (λ (j : ℕ). Linked s i j) (boundary (cell_at s) t)
      (λ j b. holding (subst (λ (o : Option Figure). T (bounds_at (cell_at s) j o)) (sym e) b))) m
  together_linked (Together.itself i) = itself i
  together_linked (Together.back h) = back (together_linked h)
  together_linked (Together.chain h k) = chain (together_linked h) (together_linked k)

-- a link for each cell and each id in its boundary
pub link_in : (s : Sheet) (c : LiveCell) (x : ℕ) → Memᴰ c s.cells → Memᴰ x (boundary (cell_at s) c.figure)
    → Memᴰ (link c.id x) (links s.cells)
link_in s c x m n = member_spread (links_of (cell_at s)) s.cells m (member_map (link c.id) (boundary (cell_at s) c.figure) n)

-- so what is linked belongs together
pub linked_together : (s : Sheet) {i j : ℕ} → Linked s i j → Together cell_of bound_of (links s.cells) i j
linked_together s (holding {i} {j} t) = go (cell_at s i) refl t
  where
    go : (o : Option Figure) → cell_at s i ≡ o → T (bounds_at (cell_at s) j o) → Together cell_of bound_of (links s.cells) i j
    go none q t = absurd t
    go (some x) q t = linked (link i j) (link_in s (cell_with i x) j (found_member s.cells i x q) (holds_member (boundary (cell_at s) x) j t))
linked_together s (itself i) = Together.itself i
linked_together s (back h) = Together.back (linked_together s h)
linked_together s (chain h k) = Together.chain (linked_together s h) (linked_together s k)

-- ---- the classes
pub pieces_right : PiecesRight
pieces_right s t =
    record {
      in_some = λ i l. Groups.in_some eqb cell_of bound_of xs ts i (live_in s i l);
      in_own = λ i l. Groups.in_own eqb cell_of bound_of xs ts i (live_in s i l);
      in_only = λ i n h. Groups.in_only eqb cell_of bound_of xs ts numbers once i n h;
      members_live = λ i n h. in_live s i (Groups.members_in eqb cell_of bound_of xs ts i n h);
      none_empty = λ n l. (first_at 0 (Groups.parts eqb cell_of bound_of xs ts) n, Groups.none_empty eqb cell_of bound_of xs ts numbers once 0 n l);
      linked_same = λ i j l m. (
        λ q. together_linked s S (Groups.same_together eqb cell_of bound_of xs ts numbers i j (live_in s i l) q),
        λ h. Groups.together_same eqb cell_of bound_of xs ts (links_inside s S) (linked_together s h),
      );
    }
  where
    S : Sound s
    S = sound_parts s t

    xs : List ℕ
    xs = ids s.cells

    ts : List Link
    ts = links s.cells

    once : (x : ℕ) → count eqb x xs ≤ 1
    once = ids_once s S

-- the call on a sound drawing
pub pieces_of : (s : Sheet) → T (sound s) → pieces_call s ≡ record { number = 0; count = pieces s.cells }
unfolding pieces_call
pieces_of s t = rw (true_of (sound s) t)
