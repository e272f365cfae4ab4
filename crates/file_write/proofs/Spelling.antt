-- A file can hold a sound sheet: its numbers have spellings, and its coordinates are in bounds. Assumes nothing.
use Prim.Native.Nat.{ℕ, ◌+◌, ◌*◌, ◌≤◌, ◌<◌}
use native.Mathlib.Omega.{arith}
use mathlib.Core.Path.{◌≡◌, subst}
use mathlib.Core.Logic.{inl, inr, ⊎_elim}
use mathlib.Core.Bool.{Bool, true, false, not, ◌&&◌, cond}
use mathlib.Core.List.{List, [], ◌∷◌}
use mathlib.Core.Option.{none}
use lib.Dec.{T, ltb, leb, leb→le, lt→ltb}
use Rattle.number.specs.Readers.{all}
use Rattle.number.specs.Numbers.{numbers_end}
use Rattle.number.proofs.Laws.{lt_or_le}
use Rattle.coordinate.specs.Bounds.{within}
use Rattle.complex.specs.Lists.{is_empty, rising}
use Rattle.complex.specs.Cells.{Halfedge, Cycle, lone, path, Figure, vertex, open_edge, closed_edge, face, LiveCell, Sheet, Look, lookup, ids, is_vertex, is_open}
use Rattle.complex.specs.Cells.{is_closed, same, head_of}
use Rattle.complex.specs.Sound.{ids_end, Walk, joins, cycle_ok, figure_ok, sound}
use Rattle.complex.proofs.Bools.{both, pair, all_more}
use Rattle.complex.proofs.Lookup.{rising_lt, lookup_from, all_from}
use Rattle.complex.proofs.Walks.{joins_cases}
use Rattle.complex.proofs.Keep.{sound_parts, same_eq}
use Rattle.complex.proofs.Files.{named}
use Rattle.file_parts.specs.Parts.{spells, step_spells, cycle_spells}
use Rattle.file_write.specs.Places.{figure_spells, cell_spells, sheet_spells}

id_spells : (i : ℕ) → i < ids_end → T (spells i)
id_spells i h = lt→ltb i numbers_end (omega arith)

step_spells_lem : (h : Halfedge) → h.edge < ids_end → T (step_spells h)
step_spells_lem h l = go h.backward
  where
    go : (b : Bool) → T (spells (2 * h.edge + cond b 1 0))
    go true = lt→ltb (2 * h.edge + 1) numbers_end (omega arith)
    go false = lt→ltb (2 * h.edge + 0) numbers_end (omega arith)

-- where what is named is live, its id is below the end of ids
module _ (look : Look) (live : (i : ℕ) → (look i ≡ none → ⊥) → i < ids_end) where
  walk_spells : (u : ℕ) (hs : List Halfedge) (w : ℕ) → Walk look u hs w → T (all step_spells hs)
  walk_spells u [] w k = tt
  walk_spells u (h ∷ hs) w k =
      pair (step_spells h) (all step_spells hs) (step_spells_lem h (named look live is_open (λ z. z) h.edge k.0)) (walk_spells (head_of look h) hs w k.2)

  ring_spells : (h : Halfedge) → T (step_spells h) → (hs : List Halfedge) → T (all (same h) hs) → T (all step_spells hs)
  ring_spells h l [] t = tt
  ring_spells h l (g ∷ gs) t =
      let b = both (same h g) (all (same h) gs) t in
      pair (step_spells g) (all step_spells gs) (subst (λ (x : Halfedge). T (step_spells x)) (same_eq h g b.0) l) (ring_spells h l gs b.1)

  path_spells : (hs : List Halfedge) → T (joins look hs) → T (all step_spells hs)
  path_spells [] t = absurd t
  path_spells (h ∷ hs) t = elim (joins_cases look (h ∷ hs) t) [
    | inl r ↦ walk_spells r.1.0 (h ∷ hs) r.1.0 r.1.1
    | inr r ↦ let l =
        step_spells_lem h (named look live is_closed (λ z. z) h.edge r.0) in pair (step_spells h) (all step_spells hs) l (ring_spells h l hs r.1)
  ]

  cycle_spells_lem : (k : Cycle) → T (cycle_ok look k) → T (cycle_spells k)
  cycle_spells_lem (lone v) t = id_spells v (named look live is_vertex (λ z. z) v t)
  cycle_spells_lem (path hs) t = path_spells hs t

  figure_spells_lem : (x : Figure) → T (figure_ok look x) → T (figure_spells x)
  figure_spells_lem (vertex p) t = t
  figure_spells_lem (open_edge a b bs) t =
      let u = both (is_vertex (look a)) (is_vertex (look b) && all within bs) t in
      let v = both (is_vertex (look b)) (all within bs) u.1 in
      pair (spells a) (spells b && all within bs) (id_spells a (named look live is_vertex (λ z. z) a u.0))
      (pair (spells b) (all within bs) (id_spells b (named look live is_vertex (λ z. z) b v.0)) v.1)
  figure_spells_lem (closed_edge bs) t = (both (not (is_empty bs)) (all within bs) t).1
  figure_spells_lem (face ks) t = all_more (cycle_ok look) cycle_spells cycle_spells_lem ks t

  cells_spell : (lo hi : ℕ) (cs : List LiveCell) → hi ≤ ids_end → T (rising lo (ids cs) hi)
      → T (all (λ (c : LiveCell). figure_ok look c.figure) cs) → T (all cell_spells cs)
  cells_spell lo hi [] h r t = tt
  cells_spell lo hi (c ∷ cs) h r t =
      let a = both (ltb lo c.id) (rising c.id (ids cs) hi) r in
      let b = both (figure_ok look c.figure) (all (λ (x : LiveCell). figure_ok look x.figure) cs) t in
      let i = rising_lt c.id (ids cs) hi a.1 in
      pair (cell_spells c) (all cell_spells cs)
      (pair (spells c.id) (figure_spells c.figure) (id_spells c.id (omega arith)) (figure_spells_lem c.figure b.0))
      (cells_spell c.id hi cs h a.1 b.1)

pub sound_spells : (s : Sheet) → T (sound s) → T (sheet_spells s)
sound_spells s t =
    let S = sound_parts s t in
    let cs = s.cells in
    let n = leb→le s.next ids_end S.in_ids in
    pair (spells s.next) (all cell_spells cs) (lt→ltb s.next numbers_end (omega arith))
    (cells_spell (lookup cs) (λ i z. ⊎_elim (λ h. omega arith) (λ h. absurd (z (lookup_from 0 cs s.next i S.rises h))) (lt_or_le i s.next))
    0 s.next cs n S.rises (all_from (figure_ok (lookup cs)) 0 cs s.next S.rises S.figures))
