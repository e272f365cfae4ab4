-- What the functions ask of a drawing, from what its sheet shows. Assumes nothing.
use Prim.Native.Nat.{ℕ, suc, ◌<◌}
use mathlib.Core.Path.{◌≡◌, refl, ap, ap₂, sym, subst, ◌∙◌}
use mathlib.Core.List.{List, [], ◌∷◌, map}
use mathlib.Core.Bool.{Bool, true, false, ◌&&◌, cond}
use mathlib.Core.Option.{some}
use native.Mathlib.Omega.{arith}
use lib.Dec.{T, eqb}
use borrow.Author.Tests.{eqb-true}
use lib.ListN.{length, set, get_or, length-map}
use Rattle.coordinate.specs.declared.Position.{Position}
use Rattle.store.specs.declared.Cell.{Cell}
use Rattle.store.specs.declared.Drawing.{Drawing}
use Rattle.store.specs.Sizes.{Sizes}
use Rattle.complex.specs.Lists.{all, rising}
use Rattle.complex.specs.Cells.{Cycle, lone, path, Figure, vertex, open_edge, closed_edge, face, LiveCell, Look, lookup, some_if, ids, is_vertex}
use Rattle.complex.specs.Edits.{reshape, replaced}
use Rattle.complex.specs.Sound.{cycle_ok, figure_ok}
use Rattle.store.specs.Sheet.{real, all_real}
use Rattle.store.specs.View.{sheet_of, Fits}
use Rattle.store.specs.Index.{kind_of, row_of}
use Rattle.store.specs.Places.{shape_of, entry_cell, figure_cycles, entry_cycles}
use Rattle.number.specs.Readers.{spread}
use Rattle.store.proofs.Stands.{stands}
use Rattle.store.proofs.Grow.{real_append}
use Rattle.rows_steps.specs.Ends.{kinds_of}
use Rattle.rows_steps.proofs.Placed.{row_within, row_replaced}

both : (a b : Bool) → T (a && b) → T a × T b
both true b t = (tt, t)
both false b t = absurd t

-- ---- cells that are right have no empty cycle
cycle_real : (look : Look) (k : Cycle) → T (cycle_ok look k) → real k ≡ true
cycle_real look (lone v) t = refl
cycle_real look (path []) t = absurd t
cycle_real look (path (h ∷ hs)) t = refl

cycles_real : (look : Look) (ks : List Cycle) → T (all (cycle_ok look) ks) → all_real ks ≡ true
cycles_real look [] t = refl
cycles_real look (k ∷ ks) t = let b = both (cycle_ok look k) (all (cycle_ok look) ks) t in ap₂ ◌&&◌ (cycle_real look k b.0) (cycles_real look ks b.1)

figure_real : (look : Look) (f : Figure) → T (figure_ok look f) → all_real (figure_cycles f) ≡ true
figure_real look (vertex p) t = refl
figure_real look (open_edge a b bs) t = refl
figure_real look (closed_edge bs) t = refl
figure_real look (face ks) t = cycles_real look ks t

pub cells_real : (look : Look) (cs : List LiveCell) → T (all (λ (c : LiveCell). figure_ok look c.figure) cs) → all_real (spread entry_cycles cs) ≡ true
cells_real look [] t = refl
cells_real look (c ∷ cs) t =
    let b = both (figure_ok look c.figure) (all (λ (x : LiveCell). figure_ok look x.figure) cs) t in
    real_append (entry_cycles c) (spread entry_cycles cs) (figure_real look c.figure b.0) (cells_real look cs b.1)

-- ---- the row of a vertex
abbrev kinds : List LiveCell → List ℕ
kinds xs = map (λ (c : Cell). kind_of c.shape) (map entry_cell xs)

vertex_kind : (f : Figure) → T (is_vertex (some f)) → kind_of (shape_of f) ≡ 0
vertex_kind (vertex p) t = refl
vertex_kind (open_edge a b bs) t = absurd t
vertex_kind (closed_edge bs) t = absurd t
vertex_kind (face ks) t = absurd t

module _ (i : ℕ) where
  row_kind : (xs : List LiveCell) → T (is_vertex (lookup xs i)) → get_or (kinds xs) (row_of i (ids xs)) 4 ≡ 0
  row_kind [] t = absurd t
  row_kind (x ∷ xs) t = go (eqb x.id i) t (row_kind xs)
    where
      go : (b : Bool) → T (is_vertex (some_if b x.figure (lookup xs i))) → (T (is_vertex (lookup xs i)) → get_or (kinds xs) (row_of i (ids xs)) 4 ≡ 0)
          → get_or (kind_of (shape_of x.figure) ∷ kinds xs) (cond b 0 (suc (row_of i (ids xs)))) 4 ≡ 0
      go true u ih = vertex_kind x.figure u
      go false u ih = ih u

  row_id : (xs : List LiveCell) → T (is_vertex (lookup xs i)) → get_or (ids xs) (row_of i (ids xs)) 0 ≡ i
  row_id [] t = absurd t
  row_id (x ∷ xs) t = go (eqb x.id i) refl t (row_id xs)
    where
      go : (b : Bool) → eqb x.id i ≡ b → T (is_vertex (some_if b x.figure (lookup xs i)))
          → (T (is_vertex (lookup xs i)) → get_or (ids xs) (row_of i (ids xs)) 0 ≡ i)
          → get_or (x.id ∷ ids xs) (cond b 0 (suc (row_of i (ids xs)))) 0 ≡ i
      go true e u ih = eqb-true x.id i e
      go false e u ih = ih u

  -- what set_position asks
  pub vertex_row : (d : Drawing) → Sizes d → Fits d → T (is_vertex (lookup (sheet_of d).cells i)) → get_or (kinds_of d) (row_of i (ids (sheet_of d).cells)) 4 ≡ 0
  vertex_row d z f t =
      subst (λ (cs : List Cell). get_or (map (λ (c : Cell). kind_of c.shape) cs) (row_of i (ids (sheet_of d).cells)) 4 ≡ 0) (sym (stands d z f).cells)
      (row_kind (sheet_of d).cells t)

  -- and what it gives
  pub vertex_moved : (lo : ℕ) (cs : List LiveCell) (hi : ℕ) (p : Position) → T (rising lo (ids cs) hi) → T (is_vertex (lookup cs i))
      → set cs (row_of i (ids cs)) (record { id = get_or (ids cs) (row_of i (ids cs)) 0; figure = vertex p }) ≡ reshape (replaced i (vertex p)) cs
  vertex_moved lo cs hi p r t =
      let k = row_within (kinds cs) (row_of i (ids cs)) (row_kind cs t) in
      let h : row_of i (ids cs) < length cs = omega (arith, length-map cs entry_cell, length-map (map entry_cell cs) (λ (c : Cell). kind_of c.shape)) in
      row_replaced (vertex p) lo cs hi (row_of i (ids cs)) r h ∙ ap (λ (j : ℕ). reshape (replaced j (vertex p)) cs) (row_id cs t)
