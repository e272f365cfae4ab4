-- The groups of a vertex's ends: exactly the classes of ends that belong together, each end in one of them, in the order of their first members.
-- Assumes nothing.
use Prim.Native.Nat.{ℕ, suc, ◌+◌, ◌≤◌, ◌<◌}
use native.Mathlib.Omega.{arith}
use mathlib.Core.Path.{◌≡◌, refl}
use mathlib.Core.Bool.{Bool, true, false, ◌&&◌, cond, beq}
use mathlib.Core.List.{List, [], ◌∷◌, ◌++◌}
use mathlib.Core.Option.{some}
use lib.ListN.{length}
use lib.Dec.{T, eqb, ltb, ltb→lt}
use borrow.Author.Tests.{eqb-true}
use Rattle.coordinate.specs.declared.Position.{Position}
use Rattle.complex.specs.Lists.{cons_if, total, rising}
use Rattle.complex.specs.Cells.{Halfedge, Figure, vertex, open_edge, closed_edge, face, LiveCell, Sheet, ids, along, against, same, cell_at}
use Rattle.complex.specs.Uses.{figure_ends, ends_at, Passage, passages_at, arrival, departure, is_in, groups, group_of, Together}
use Rattle.complex.proofs.Bools.{both}
use Rattle.complex.proofs.Keep.{Sound}
use Rattle.complex.proofs.Groups
use Rattle.complex.proofs.Sums.{total_append}
use Rattle.complex.proofs.Groups.{hit, count, group_at}
use Rattle.complex.proofs.UnglueVertex.{halfedges, turns_inside}

-- an edge's own ends
figure_once : (v i : ℕ) (t : Figure) (x : Halfedge) → count same x (figure_ends v i t) ≤ cond (eqb x.edge i) 1 0
figure_once v i (vertex p) x = omega arith
figure_once v i (open_edge a b bs) x = go (eqb a v) (eqb b v) (full (eqb x.edge i) x.backward)
  where
    full : (e w : Bool) → cond (e && beq w false) 1 0 + cond (e && beq w true) 1 0 ≤ cond e 1 0
    full true true = omega arith
    full true false = omega arith
    full false true = omega arith
    full false false = omega arith

    go : (p q : Bool) → hit same x (along i) + hit same x (against i) ≤ cond (eqb x.edge i) 1 0
        → count same x (cons_if p (along i) (cons_if q (against i) [])) ≤ cond (eqb x.edge i) 1 0
    go true true h = omega arith
    go true false h = omega arith
    go false true h = omega arith
    go false false h = omega arith
figure_once v i (closed_edge bs) x = omega arith
figure_once v i (face ks) x = omega arith

-- ids rise, so each end stands once, and none of an edge up to lo stands after lo
ends_once : (lo : ℕ) (cs : List LiveCell) (hi v : ℕ) (x : Halfedge) → T (rising lo (ids cs) hi)
    → (count same x (ends_at cs v) ≤ 1) × (x.edge ≤ lo → count same x (ends_at cs v) ≡ 0)
ends_once lo [] hi v x t = (omega arith, λ l. refl)
ends_once lo (c ∷ cs) hi v x t =
    let b = both (ltb lo c.id) (rising c.id (ids cs) hi) t in
    go (eqb x.edge c.id) refl (ltb→lt lo c.id b.0) (figure_once v c.id c.figure x) (ends_once c.id cs hi v x b.1)
  where
    go : (e : Bool) → eqb x.edge c.id ≡ e → lo < c.id → count same x (figure_ends v c.id c.figure) ≤ cond e 1 0
        → (count same x (ends_at cs v) ≤ 1) × (x.edge ≤ c.id → count same x (ends_at cs v) ≡ 0)
        → (count same x (ends_at (c ∷ cs) v) ≤ 1) × (x.edge ≤ lo → count same x (ends_at (c ∷ cs) v) ≡ 0)
    go true q l h r =
        let z = eqb-true x.edge c.id q in
        let y = r.1 (omega arith) in
        simp total_append (omega arith)
    go false q l h r = simp total_append (let y = r.0 in omega arith, λ m. let y = r.1 (omega arith) in omega arith)

-- the place of an end in a list
abbrev pub place_of : List Halfedge → Halfedge → ℕ
place_of hs h = Groups.place_of same hs h

-- the first member of group i
abbrev pub first_at : List (List Halfedge) → ℕ → Halfedge
first_at gs i = Groups.first_at (along 0) gs i

-- ---- the groups of a vertex
module _ (s : Sheet) (S : Sound s) (v : ℕ) where
  abbrev ends : List Halfedge
  ends = ends_at s.cells v

  abbrev turns : List Passage
  turns = passages_at s.cells v

  once : (x : Halfedge) → count same x ends ≤ 1
  once x = (ends_once 0 s.cells s.next v x S.rises).0

  -- ends are in one group exactly if they belong together
  pub together_same : (p : Position) → cell_at s v ≡ some (vertex p) → {x y : Halfedge} → Together (passages_at s.cells v) x y
      → group_of (groups s.cells v) x ≡ group_of (groups s.cells v) y
  together_same p at t = Groups.together_same same arrival departure ends turns (turns_inside s S v p at) t

  pub same_together : (x y : Halfedge) → T (is_in (ends_at s.cells v) x) → group_of (groups s.cells v) x ≡ group_of (groups s.cells v) y
      → Together (passages_at s.cells v) x y
  same_together x y t q = Groups.same_together same arrival departure ends turns halfedges x y t q

  -- each end is in exactly one group, the one of its place
  pub in_some : (x : Halfedge) → T (is_in (ends_at s.cells v) x) → group_of (groups s.cells v) x < length (groups s.cells v)
  in_some x t = Groups.in_some same arrival departure ends turns x t

  pub in_own : (x : Halfedge) → T (is_in (ends_at s.cells v) x) → T (is_in (group_at (groups s.cells v) (group_of (groups s.cells v) x)) x)
  in_own x t = Groups.in_own same arrival departure ends turns x t

  pub in_only : (x : Halfedge) (i : ℕ) → T (is_in (group_at (groups s.cells v) i) x) → i ≡ group_of (groups s.cells v) x
  in_only x i t = Groups.in_only same arrival departure ends turns halfedges once x i t

  -- no group has another member
  pub members_end : (x : Halfedge) (i : ℕ) → T (is_in (group_at (groups s.cells v) i) x) → T (is_in (ends_at s.cells v) x)
  members_end x i t = Groups.members_in same arrival departure ends turns x i t

  -- no group is empty: its first member is in it
  pub none_empty : (i : ℕ) → i < length (groups s.cells v) → T (is_in (group_at (groups s.cells v) i) (first_at (groups s.cells v) i))
  none_empty i l = Groups.none_empty same arrival departure ends turns halfedges once (along 0) i l

  -- of a group's members the first stands earliest among the ends
  pub first_earliest : (i : ℕ) (x : Halfedge) → T (is_in (group_at (groups s.cells v) i) x)
      → place_of (ends_at s.cells v) (first_at (groups s.cells v) i) ≤ place_of (ends_at s.cells v) x
  first_earliest i x t = Groups.first_earliest same arrival departure ends turns halfedges once (along 0) i x t

  -- the groups are in the order of their first members
  pub by_first : (i j : ℕ) → i < j → j < length (groups s.cells v)
      → place_of (ends_at s.cells v) (first_at (groups s.cells v) i) < place_of (ends_at s.cells v) (first_at (groups s.cells v) j)
  by_first i j l m = Groups.by_first same arrival departure ends turns halfedges once (along 0) i j l m
