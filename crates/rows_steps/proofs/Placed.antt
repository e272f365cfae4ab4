-- Open edges with other ends, and a vertex at another place. Assumes nothing.
use Prim.Native.Nat.{ℕ, zero, suc, ◌+◌, ◌<◌, ◌≤◌}
use mathlib.Core.Path.{◌≡◌, refl, ap, ap₂, sym, subst, ◌∙◌}
use mathlib.Core.List.{List, [], ◌∷◌, ◌++◌, map}
use mathlib.Core.Bool.{Bool, true, false, ◌&&◌, cond}
use native.Mathlib.Omega.{arith}
use native.Mathlib.Numerals.{add-one}
use lib.Dec.{T, ltb, ltb→lt}
use borrow.Author.Tests.{eq-eqb, ne_eqb}
use lib.ListN.{length, take, set, get_or, length-map, length-set}
use lib.Seq.{take-suc, take-suc-set, take-set-lt, length-take-le, get_or-take}
use Rattle.coordinate.specs.declared.Position.{Position}
use Rattle.store.specs.declared.Shape.{Shape}
use Rattle.store.specs.declared.Shape.TheVariants.{Vertex}
use Rattle.store.specs.declared.Cell.{Cell}
use Rattle.store.specs.declared.Drawing.{Drawing}
use Rattle.store.specs.Sizes.{Sizes}
use Rattle.complex.specs.Lists.{rising}
use Rattle.complex.specs.Cells.{Cycle, Figure, vertex, open_edge, closed_edge, face, LiveCell, ids}
use Rattle.complex.specs.Edits.{reshape, replaced}
use Rattle.store.specs.View.{sheet_of, Fits, cycle_total, step_total}
use Rattle.store.specs.Index.{kind_of}
use Rattle.store.specs.Edits.{with_entries, with_cells}
use Rattle.store.specs.Places.{shape_of, entry_cell, figure_cycles, figure_bends, entry_cycles, entry_bends}
use Rattle.store.specs.Pools.{Held}
use Rattle.number.specs.Readers.{spread}
use Rattle.store.proofs.Stands.{stands}
use Rattle.store.proofs.Pools.{drawing_held}
use Rattle.rows_steps.specs.Ends.{ended_figure, re_ended, ends_by, ended_shape, ended_cells, kinds_of}
use Rattle.rows_steps.proofs.Renamed.{no_cell}
use Rattle.rows_steps.proofs.Rewired.{changed_is}

-- ---- other cells over the same arrays
same_pools : (d r : Drawing) → Sizes d → Fits d → Sizes r → r ≡ with_cells d d.next d.count r.cells → (xs : List LiveCell)
    → take d.count r.cells ≡ map entry_cell xs
    → spread entry_cycles xs ≡ spread entry_cycles (sheet_of d).cells → spread entry_bends xs ≡ spread entry_bends (sheet_of d).cells
    → (sheet_of r ≡ with_entries (sheet_of d) xs) × Fits r
same_pools d r z f zr e xs ec hk hb =
    changed_is d r z f zr (ap (λ (q : Drawing). q.next) e) (ap (λ (q : Drawing). q.count) e) (ap (λ (q : Drawing). q.bends) e) xs ec hb (cycle_total d)
    (step_total d)
    (subst (λ (q : Drawing). Held (spread entry_cycles xs) q.cycles (cycle_total d) q.steps (step_total d)) (sym e)
    (subst (λ (ks : List Cycle). Held ks d.cycles (cycle_total d) d.steps (step_total d)) (sym hk) (drawing_held d z f)))

-- ---- ends
module _ (starts ends : List ℕ) where
  figure_shape : (a b : ℕ) (g : Figure) → ended_shape a b (shape_of g) ≡ shape_of (ended_figure a b g)
  figure_shape a b (vertex p) = refl
  figure_shape a b (open_edge s e bs) = refl
  figure_shape a b (closed_edge bs) = refl
  figure_shape a b (face ks) = refl

  figure_cycles_lem : (a b : ℕ) (g : Figure) → figure_cycles (ended_figure a b g) ≡ figure_cycles g
  figure_cycles_lem a b (vertex p) = refl
  figure_cycles_lem a b (open_edge s e bs) = refl
  figure_cycles_lem a b (closed_edge bs) = refl
  figure_cycles_lem a b (face ks) = refl

  figure_bends_lem : (a b : ℕ) (g : Figure) → figure_bends (ended_figure a b g) ≡ figure_bends g
  figure_bends_lem a b (vertex p) = refl
  figure_bends_lem a b (open_edge s e bs) = refl
  figure_bends_lem a b (closed_edge bs) = refl
  figure_bends_lem a b (face ks) = refl

  ended_heads : (i : ℕ) (xs : List LiveCell) → ended_cells starts ends i (map entry_cell xs) ≡ map entry_cell (re_ended starts ends i xs)
  ended_heads i [] = refl
  ended_heads i (x ∷ xs) = ap₂ (λ (s : Shape) (q : List Cell). record { id = x.id; shape = s } ∷ q)
      (figure_shape (get_or starts i 0) (get_or ends i 0) x.figure) (ended_heads (suc i) xs)

  ended_cycles : (i : ℕ) (xs : List LiveCell) → spread entry_cycles (re_ended starts ends i xs) ≡ spread entry_cycles xs
  ended_cycles i [] = refl
  ended_cycles i (x ∷ xs) = ap₂ (λ (p q : List Cycle). p ++ q) (figure_cycles_lem (get_or starts i 0) (get_or ends i 0) x.figure) (ended_cycles (suc i) xs)

  ended_bends : (i : ℕ) (xs : List LiveCell) → spread entry_bends (re_ended starts ends i xs) ≡ spread entry_bends xs
  ended_bends i [] = refl
  ended_bends i (x ∷ xs) = ap₂ (λ (p q : List Position). p ++ q) (figure_bends_lem (get_or starts i 0) (get_or ends i 0) x.figure) (ended_bends (suc i) xs)

  pub ended_is : (d r : Drawing) → Sizes d → Fits d → Sizes r → r ≡ with_cells d d.next d.count r.cells
      → take d.count r.cells ≡ ended_cells starts ends 0 (take d.count d.cells)
      → (sheet_of r ≡ with_entries (sheet_of d) (re_ended starts ends 0 (sheet_of d).cells)) × Fits r
  ended_is d r z f zr e g =
      let xs = (sheet_of d).cells in
      same_pools d r z f zr e (re_ended starts ends 0 xs) (g ∙ ap (ended_cells starts ends 0) (stands d z f).cells ∙ ended_heads 0 xs) (ended_cycles 0 xs)
      (ended_bends 0 xs)

  -- one row more
  abbrev cell_of : ℕ → Cell → Cell
  cell_of i c = record { id = c.id; shape = ended_shape (get_or starts i 0) (get_or ends i 0) c.shape }

  ended_snoc : (i : ℕ) (cs : List Cell) (c : Cell) → ended_cells starts ends i (cs ++ (c ∷ [])) ≡ ended_cells starts ends i cs ++ (cell_of (i + length cs) c ∷ [])
  ended_snoc i [] c = ap (λ (k : ℕ). cell_of k c ∷ []) (omega arith)
  ended_snoc i (x ∷ cs) c =
      let e : suc i + length cs ≡ i + suc (length cs) = omega arith in
      ap (λ (q : List Cell). cell_of i x ∷ q) (ended_snoc (suc i) cs c ∙ ap (λ (k : ℕ). ended_cells starts ends (suc i) cs ++ (cell_of k c ∷ [])) e)

  -- the first i cells have their new ends
  pub record Ending (cs : List Cell) (i : ℕ) (out : List Cell) : Type 0 where
    pub front : take i out ≡ ended_cells starts ends 0 (take i cs)

  pub ending_turn : (cs : List Cell) (i : ℕ) (out : List Cell) (t : Shape) → i < length cs → i < length out
      → t ≡ ended_shape (get_or starts i 0) (get_or ends i 0) (get_or cs i no_cell).shape
      → Ending cs i out → Ending cs (i + 1) (set out i (record { id = (get_or cs i no_cell).id; shape = t }))
  ending_turn cs i out t h k e p =
      record {
        front =
            ap (λ (n : ℕ). take n (set out i (record { id = (get_or cs i no_cell).id; shape = t }))) (add-one i) ∙ take-suc-set out i _ k
            ∙ ap₂ (λ (x : List Cell) (s : Shape). x ++ (record { id = (get_or cs i no_cell).id; shape = s } ∷ [])) p.front e
            ∙ sym (rw (add-one, take-suc cs i no_cell h)
            (ended_snoc 0 (take i cs) (get_or cs i no_cell) ∙ ap (λ (n : ℕ). ended_cells starts ends 0 (take i cs) ++ (cell_of n (get_or cs i no_cell) ∷ []))
            (row i (length-take-le i cs (omega arith)))));
      }
    where
      row : (n : ℕ) {m : ℕ} → m ≡ n → 0 + m ≡ n
      row n e = omega arith

-- what stands past the end of a list of cells
abbrev pub no_entry : LiveCell
no_entry = record { id = 0; figure = face [] }

-- rows that follow the ids and the old ends
module _ (f g : ℕ → ℕ → ℕ) (starts ends : List ℕ) where
  -- what the row of a cell holds, if the cell is an open edge
  abbrev pub RowOk : ℕ → LiveCell → Type 0
  RowOk i c = ended_figure (get_or starts i 0) (get_or ends i 0) c.figure ≡ ends_by f g c.id c.figure

  pub row_ok : (i : ℕ) (c : LiveCell) → ((a b : ℕ) (bs : List Position) → c.figure ≡ open_edge a b bs
      → (get_or starts i 0 ≡ f c.id a) × (get_or ends i 0 ≡ g c.id b)) → RowOk i c
  row_ok i c h = go c.figure refl
    where
      go : (x : Figure) → c.figure ≡ x → ended_figure (get_or starts i 0) (get_or ends i 0) x ≡ ends_by f g c.id x
      go (vertex p) e = refl
      go (open_edge a b bs) e = let q = h a b bs e in ap₂ (λ (s t : ℕ). open_edge s t bs) q.0 q.1
      go (closed_edge bs) e = refl
      go (face ks) e = refl

  ended_from : (i : ℕ) (cs : List LiveCell) → ((j : ℕ) → j < length cs → RowOk (i + j) (get_or cs j no_entry)) → re_ended starts ends i cs ≡ reshape (ends_by f g) cs
  ended_from i [] h = refl
  ended_from i (c ∷ cs) h =
      ap₂ (λ (x : Figure) (q : List LiveCell). record { id = c.id; figure = x } ∷ q)
      (subst (λ (n : ℕ). RowOk n c) (right i) (h 0 (omega arith)))
      (ended_from (suc i) cs (λ j l. subst (λ (n : ℕ). RowOk n (get_or cs j no_entry)) (shift i j) (h (suc j) (omega arith))))
    where
      right : (n : ℕ) → n + 0 ≡ n
      right n = omega arith

      shift : (n m : ℕ) → n + suc m ≡ suc n + m
      shift n m = omega arith

  -- the ends by f and g, where each row holds them
  pub ended_rows : (cs : List LiveCell) → ((j : ℕ) → j < length cs → RowOk j (get_or cs j no_entry)) → re_ended starts ends 0 cs ≡ reshape (ends_by f g) cs
  ended_rows cs h = ended_from 0 cs (λ j l. subst (λ (n : ℕ). RowOk n (get_or cs j no_entry)) (left j) (h j l))
    where
      left : (n : ℕ) → n ≡ 0 + n
      left n = omega arith

-- ---- a vertex at another place
-- the row is one of the cells
pub row_within : (ns : List ℕ) (row : ℕ) → get_or ns row 4 ≡ 0 → row < length ns
row_within [] row e = absurd (omega arith)
row_within (n ∷ ns) zero e = omega arith
row_within (n ∷ ns) (suc row) e = let h = row_within ns row e in omega arith

pub row_counted : (d : Drawing) (row : ℕ) → Sizes d → Fits d → get_or (kinds_of d) row 4 ≡ 0 → row < d.count
row_counted d row z f e =
    let h = row_within (kinds_of d) row e in
    let l = length-map (take d.count d.cells) (λ (c : Cell). kind_of c.shape) in
    omega (arith, length-take-le d.count d.cells (omega (arith, f.cells, z.cells)))

module _ (p : Position) where
  vertex_shape_lem : (f : Figure) → kind_of (shape_of f) ≡ 0 → (figure_cycles f ≡ []) × (figure_bends f ≡ [])
  vertex_shape_lem (vertex q) e = (refl, refl)
  vertex_shape_lem (open_edge a b bs) e = absurd (omega arith)
  vertex_shape_lem (closed_edge bs) e = absurd (omega arith)
  vertex_shape_lem (face ks) e = absurd (omega arith)

  abbrev kinds : List LiveCell → List ℕ
  kinds xs = map (λ (c : Cell). kind_of c.shape) (map entry_cell xs)

  moved_cycles_lem : (xs : List LiveCell) (row i : ℕ) → get_or (kinds xs) row 4 ≡ 0
      → spread entry_cycles (set xs row (record { id = i; figure = vertex p })) ≡ spread entry_cycles xs
  moved_cycles_lem [] row i e = refl
  moved_cycles_lem (x ∷ xs) zero i e = ap (λ (q : List Cycle). q ++ spread entry_cycles xs) (sym (vertex_shape_lem x.figure e).0)
  moved_cycles_lem (x ∷ xs) (suc row) i e = ap (λ (q : List Cycle). entry_cycles x ++ q) (moved_cycles_lem xs row i e)

  moved_bends : (xs : List LiveCell) (row i : ℕ) → get_or (kinds xs) row 4 ≡ 0
      → spread entry_bends (set xs row (record { id = i; figure = vertex p })) ≡ spread entry_bends xs
  moved_bends [] row i e = refl
  moved_bends (x ∷ xs) zero i e = ap (λ (q : List Position). q ++ spread entry_bends xs) (sym (vertex_shape_lem x.figure e).1)
  moved_bends (x ∷ xs) (suc row) i e = ap (λ (q : List Position). entry_bends x ++ q) (moved_bends xs row i e)

  moved_heads : (xs : List LiveCell) (row i : ℕ) → set (map entry_cell xs) row (record { id = i; shape = Vertex p })
      ≡ map entry_cell (set xs row (record { id = i; figure = vertex p }))
  moved_heads [] row i = refl
  moved_heads (x ∷ xs) zero i = refl
  moved_heads (x ∷ xs) (suc row) i = ap (λ (q : List Cell). entry_cell x ∷ q) (moved_heads xs row i)

  head_id : (xs : List LiveCell) (row : ℕ) → (get_or (map entry_cell xs) row no_cell).id ≡ get_or (ids xs) row 0
  head_id [] row = refl
  head_id (x ∷ xs) zero = refl
  head_id (x ∷ xs) (suc row) = head_id xs row

  row_id : (xs : List LiveCell) (cs : List Cell) (row n : ℕ) → take n cs ≡ map entry_cell xs → row < n → (get_or cs row no_cell).id ≡ get_or (ids xs) row 0
  row_id xs cs row n e h = ap (λ (c : Cell). c.id) (sym (get_or-take n cs row no_cell h)) ∙ ap (λ (l : List Cell). (get_or l row no_cell).id) e ∙ head_id xs row

  pub moved_is : (d : Drawing) (row : ℕ) → Sizes d → Fits d → get_or (kinds_of d) row 4 ≡ 0
      → (sheet_of (with_cells d d.next d.count (set d.cells row (record { id = (get_or d.cells row no_cell).id; shape = Vertex p })))
      ≡ with_entries (sheet_of d) (set (sheet_of d).cells row (record { id = get_or (ids (sheet_of d).cells) row 0; figure = vertex p })))
      × Fits (with_cells d d.next d.count (set d.cells row (record { id = (get_or d.cells row no_cell).id; shape = Vertex p })))
  moved_is d row z f e =
      let xs = (sheet_of d).cells in
      let s = stands d z f in
      let i = get_or (ids xs) row 0 in
      let h = row_counted d row z f e in
      let k : get_or (kinds xs) row 4 ≡ 0 = subst (λ (cs : List Cell). get_or (map (λ (c : Cell). kind_of c.shape) cs) row 4 ≡ 0) s.cells e in
      let q : (get_or d.cells row no_cell).id ≡ i = row_id xs d.cells row d.count s.cells h in
      same_pools d (with_cells d d.next d.count (set d.cells row (record { id = (get_or d.cells row no_cell).id; shape = Vertex p }))) z f
      (record { cells = length-set d.cells row _ ∙ z.cells; cycles = z.cycles; steps = z.steps; bends = z.bends }) refl
      (set xs row (record { id = i; figure = vertex p }))
      (take-set-lt d.count d.cells row _ h ∙ ap₂ (λ (cs : List Cell) (j : ℕ). set cs row (record { id = j; shape = Vertex p })) s.cells q
      ∙ moved_heads xs row i)
      (moved_cycles_lem xs row i k) (moved_bends xs row i k)

-- ---- one cell replaced, where ids rise
both : (a b : Bool) → T (a && b) → T a × T b
both true b t = (tt, t)
both false b t = absurd t

module _ (y : Figure) where
  none_replaced : (i lo : ℕ) (cs : List LiveCell) (hi : ℕ) → T (rising lo (ids cs) hi) → i ≤ lo → cs ≡ reshape (replaced i y) cs
  none_replaced i lo [] hi t h = refl
  none_replaced i lo (c ∷ cs) hi t h =
      let b = both (ltb lo c.id) (rising c.id (ids cs) hi) t in
      let l = ltb→lt lo c.id b.0 in
      ap₂ (λ (x : Bool) (q : List LiveCell). record { id = c.id; figure = cond x y c.figure } ∷ q) (sym (ne_eqb i c.id (omega arith)))
      (none_replaced i c.id cs hi b.1 (omega arith))

  rising_row : (lo : ℕ) (ns : List ℕ) (hi row : ℕ) → T (rising lo ns hi) → row < length ns → lo < get_or ns row 0
  rising_row lo [] hi row t h = absurd (omega arith)
  rising_row lo (n ∷ ns) hi zero t h = ltb→lt lo n (both (ltb lo n) (rising n ns hi) t).0
  rising_row lo (n ∷ ns) hi (suc row) t h =
      let b = both (ltb lo n) (rising n ns hi) t in
      let l = ltb→lt lo n b.0 in
      let m = rising_row n ns hi row b.1 (omega arith) in
      omega arith

  -- the cell in a row becomes y
  pub row_replaced : (lo : ℕ) (cs : List LiveCell) (hi row : ℕ) → T (rising lo (ids cs) hi) → row < length cs
      → set cs row (record { id = get_or (ids cs) row 0; figure = y }) ≡ reshape (replaced (get_or (ids cs) row 0) y) cs
  row_replaced lo [] hi row t h = absurd (omega arith)
  row_replaced lo (c ∷ cs) hi zero t h =
      let b = both (ltb lo c.id) (rising c.id (ids cs) hi) t in
      ap₂ (λ (x : Bool) (q : List LiveCell). record { id = c.id; figure = cond x y c.figure } ∷ q) (sym (eq-eqb c.id c.id refl))
      (none_replaced c.id c.id cs hi b.1 (omega arith))
  row_replaced lo (c ∷ cs) hi (suc row) t h =
      let b = both (ltb lo c.id) (rising c.id (ids cs) hi) t in
      let g = rising_row c.id (ids cs) hi row b.1 (omega (arith, length-map cs (λ (x : LiveCell). x.id))) in
      ap₂ (λ (x : Bool) (q : List LiveCell). record { id = c.id; figure = cond x y c.figure } ∷ q)
      (sym (ne_eqb (get_or (ids cs) row 0) c.id (omega arith))) (row_replaced c.id cs hi row b.1 (omega arith))
