-- An open edge cut: where, the bends of its parts, and what is made. Assumes nothing.
use Prim.Native.Nat.{ℕ, zero, suc, ◌+◌, ◌-◌, ◌/◌, ◌%◌, ◌<◌, ◌≤◌}
use native.Mathlib.Omega.{arith}
use mathlib.Core.Path.{◌≡◌, refl, sym, ap, ap₂, ◌∙◌, subst}
use mathlib.Core.Bool.{Bool, true, false, ◌||◌, ◌&&◌, cond, false≢true}
use mathlib.Core.List.{List, [], ◌∷◌, ◌++◌}
use mathlib.Core.Option.{Option, none, some}
use lib.ListN.{length, get_or, take, drop, get_or-append}
use lib.Seq.{get_or-append-add}
use lib.Dec.{T, eqb, ltb, leb}
use borrow.Author.Tests.{ltb-true, ltb-false, leb-true, eqb-true, eqb-false, ne_eqb, le-ltb}
use Rattle.coordinate.specs.declared.Position.{Position}
use Rattle.coordinate.specs.Bounds.{within, middle}
use Rattle.complex.specs.Lists.{one, all}
use Rattle.complex.specs.Cells.{Figure, vertex, open_edge, closed_edge, face, LiveCell, Look, Sheet, cell_at, lookup, some_if, ids, is_vertex, is_open, is_closed}
use Rattle.complex.specs.Cells.{is_live, start_of, end_of, bends_of, position_of, origin}
use Rattle.complex.specs.Edits.{keep_ids, reshape, rebuild, others, rewired, same_vertex}
use Rattle.complex.specs.Sound.{ids_end, steps_most, steps_in, over}
use Rattle.complex.specs.Cut.{cut_place, cut_exists, bends_before, bends_after, in_two, cut_figure, edge_cut}
use Rattle.complex.specs.Decode.{cut_edge}
use Rattle.complex.specs.Commands.{result}
use Rattle.complex.proofs.Bools.{both}
use Rattle.complex.proofs.Faces.{without_one}
use Rattle.complex.proofs.Euler.{over_rebuild}
use Rattle.store.specs.declared.Cell.{Cell}
use Rattle.store.specs.declared.Drawing.{Drawing}
use Rattle.store.specs.Index.{Rising, row_of}
use Rattle.store.specs.Sheet.{ids_of}
use Rattle.store.specs.Sizes.{Sizes}
use Rattle.store.specs.View.{sheet_of}
use Rattle.store.specs.Places.{shape_of}
use Rattle.store.proofs.Rows.{get_d_any}
use Rattle.store.proofs.Stands.{stands, count_is}
use Rattle.sound.specs.Soundness.{sound_drawing}
use Rattle.sound.proofs.Meaning.{sound_fits, sound_sheet_lem, rising_is, sheet_rising}
use Rattle.rows_new.specs.declared.Runs.{Runs}
use Rattle.rows_new.specs.Runs.{run_at, runs_of, InRange}
use Rattle.rows_new.specs.Appends.{remade, RoomIn, figure_at}
use Rattle.rows_new.proofs.Appended.{appended_each}
use Rattle.rows_new.proofs.Copied.{row_shape, row_lookup}
use Rattle.rows_new.proofs.RunLists.{run_take, run_drop, runs_single}
use Rattle.rows_new.proofs.Rooms.{below}
use Rattle.rows_gone.proofs.Dropped.{live_id}
use Rattle.ask_cut_edge.specs.Cuts.{vertex_place, no_cell, point_place, point_of, open_between, open_point, open_place, part_run, EdgeCuts, OpenEnds, CutPlaced}
use Rattle.ask_cut_edge.proofs.Made.{made_room, made_is}
use Rattle.ask_cut_edge.proofs.Closed.{bends_count, bend_at}
use Rattle.answer.proofs.Asked.{sound_in}

pub open_figure : (o : Option Figure) → is_open o ≡ true → o ≡ some (open_edge (start_of o) (end_of o) (bends_of o))
open_figure none e = absurd (false≢true e)
open_figure (some (vertex p)) e = absurd (false≢true e)
open_figure (some (open_edge a b bs)) e = refl
open_figure (some (closed_edge bs)) e = absurd (false≢true e)
open_figure (some (face ks)) e = absurd (false≢true e)

pub open_exists : (o : Option Figure) (q : ℕ) → is_open o ≡ true → cut_exists o q ≡ leb (q / 2 + q % 2) (length (bends_of o))
open_exists o q e =
    ap (λ (c : Bool). cond (eqb (q % 2) 1 || c) (ltb (q / 2) (length (bends_of o))) (leb (q / 2) (length (bends_of o)))) (ap is_closed (open_figure o e))
    ∙ go (eqb (q % 2) 1) refl
  where
    go : (b : Bool) → eqb (q % 2) 1 ≡ b → cond (b || false) (ltb (q / 2) (length (bends_of o))) (leb (q / 2) (length (bends_of o)))
        ≡ leb (q / 2 + q % 2) (length (bends_of o))
    go true h =
        let k = eqb-true (q % 2) 1 h in
        let g : suc (q / 2) ≡ q / 2 + q % 2 = omega arith in
        ap (λ (n : ℕ). leb n (length (bends_of o))) g
    go false h =
        let k = eqb-false (q % 2) 1 h in
        let g : q / 2 ≡ q / 2 + q % 2 = omega arith in
        ap (λ (n : ℕ). leb n (length (bends_of o))) g

-- ---- the bends bs of an edge stand in l from base on
module _ (l bs : List Position) (base m : ℕ) (h : base + m ≤ length l) (eb : run_at base m l ≡ bs) where
  module _ (pa pb : Position) where
    point_at : (k : ℕ) → k ≤ m + 1 → open_point pa pb l base m k ≡ get_or (pa ∷ bs ++ one pb) k origin
    point_at zero g = refl
    point_at (suc j) g = ap (λ (b : Bool). cond b pa (cond (ltb m (suc j)) pb (get_or l (base + (suc j - 1)) origin))) (ne_eqb (suc j) 0 (λ u. omega arith))
        ∙ go (ltb m (suc j)) refl
      where
        n : length bs ≡ m
        n = bends_count l bs base m h eb

        go : (b : Bool) → ltb m (suc j) ≡ b → cond b pb (get_or l (base + (suc j - 1)) origin) ≡ get_or (bs ++ one pb) j origin
        go true e =
            let u = ltb-true m (suc j) e in
            let b : length bs + 0 ≡ j = (let v = n in omega arith) in
            sym (get_or-append-add bs (one pb) 0 origin) ∙ ap (λ (k : ℕ). get_or (bs ++ one pb) k origin) b
        go false e =
            let u = ltb-false m (suc j) e in
            let a : base + (suc j - 1) ≡ base + j = omega arith in
            ap (λ (k : ℕ). get_or l k origin) a ∙ bend_at l bs base m h eb j (omega arith)
            ∙ sym (get_or-append bs (one pb) origin j (let v = n in omega arith))

  pub open_place_is : (look : Look) (a b q : ℕ) (pa pb : Position) → pa ≡ position_of (look a) → pb ≡ position_of (look b) → q / 2 + q % 2 ≤ m
      → open_place pa pb l base m q ≡ cut_place look (some (open_edge a b bs)) q
  open_place_is look a b q pa pb ea eb' g =
      (λ i. open_place (ea i) (eb' i) l base m q) ∙ go (eqb (q % 2) 1) refl
    where
      ps : List Position
      ps = position_of (look a) ∷ bs ++ one (position_of (look b))

      go : (t : Bool) → eqb (q % 2) 1 ≡ t
          → cond t (get_or l (base + q / 2) origin)
          (middle (open_point (position_of (look a)) (position_of (look b)) l base m (q / 2))
          (open_point (position_of (look a)) (position_of (look b)) l base m (q / 2 + 1)))
          ≡ cond t (get_or bs (q / 2) origin)
          (middle (get_or (position_of (look a) ∷ bs ++ one (position_of (look b))) (q / 2) origin)
          (get_or (position_of (look a) ∷ bs ++ one (position_of (look b))) (q / 2 + 1) origin))
      go true e = let k = eqb-true (q % 2) 1 e in bend_at l bs base m h eb (q / 2) (omega arith)
      go false e = ap₂ middle (point_at (position_of (look a)) (position_of (look b)) (q / 2) (omega arith))
          (point_at (position_of (look a)) (position_of (look b)) (q / 2 + 1) (omega arith))

  before_are : (p : Position) (q : ℕ) → q / 2 + q % 2 ≤ m → runs_of l (part_run p base (q / 2)) ≡ bends_before bs q
  before_are p q g = runs_single l (part_run p base (q / 2)) refl refl ∙ run_take base m (q / 2) l (omega arith) ∙ ap (take (q / 2)) eb

  after_are : (p : Position) (q : ℕ) → runs_of l (part_run p (base + (q / 2 + q % 2)) (m - (q / 2 + q % 2))) ≡ bends_after bs q
  after_are p q = runs_single l (part_run p (base + (q / 2 + q % 2)) (m - (q / 2 + q % 2))) refl refl ∙ run_drop base m (q / 2 + q % 2) l
      ∙ ap (drop (q / 2 + q % 2)) eb

-- ---- the bends that are read
bend_below : (base m k : ℕ) → base + m ≤ 2048 → (k ≡ 0 → ⊥) → k ≤ m → base + (k - 1) < 2048
bend_below base m k h n g = omega arith

pub point_below : (base m k : ℕ) → base + m ≤ 2048 → point_place base m k < 2048
point_below base m k h = go (eqb k 0) (ltb m k) refl refl
  where
    go : (x y : Bool) → eqb k 0 ≡ x → ltb m k ≡ y → cond x 0 (cond y 0 (base + (k - 1))) < 2048
    go true y ex ey = omega arith
    go false true ex ey = omega arith
    go false false ex ey = bend_below base m k h (eqb-false k 0 ex) (ltb-false m k ey)

module _ (pa pb : Position) (l : List Position) (base m : ℕ) (y : Position) (z : length l ≡ 2048) (h : base + m ≤ 2048) where
  point_read : (k : ℕ) → point_of pa pb (get_or l (point_place base m k) y) m k ≡ open_point pa pb l base m k
  point_read k = go (eqb k 0) (ltb m k) refl refl
    where
      go : (x w : Bool) → eqb k 0 ≡ x → ltb m k ≡ w → cond x pa (cond w pb (get_or l (cond x 0 (cond w 0 (base + (k - 1)))) y))
          ≡ cond x pa (cond w pb (get_or l (base + (k - 1)) origin))
      go true w ex ew = refl
      go false true ex ew = refl
      go false false ex ew = let u = bend_below base m k h (eqb-false k 0 ex) (ltb-false m k ew) in get_d_any l (base + (k - 1)) y origin (omega arith)

  at_bend : (q : ℕ) → q / 2 + 1 ≤ m → get_or l (point_place base m (q / 2 + 1)) y ≡ get_or l (base + q / 2) origin
  at_bend q g =
      let a = ne_eqb (q / 2 + 1) 0 (λ u. omega arith) in
      let b = le-ltb m (q / 2 + 1) g in
      let e : base + (q / 2 + 1 - 1) ≡ base + q / 2 = omega arith in
      (λ i. get_or l (cond (a i) 0 (cond (b i) 0 (base + (q / 2 + 1 - 1)))) y)
      ∙ ap (λ (k : ℕ). get_or l k y) e ∙ get_d_any l (base + q / 2) y origin (omega arith)

  place_read : (q : ℕ) → q / 2 + q % 2 ≤ m → open_between pa pb (get_or l (point_place base m (q / 2)) y) (get_or l (point_place base m (q / 2 + 1)) y) m q
      ≡ open_place pa pb l base m q
  place_read q g = go (eqb (q % 2) 1) refl
    where
      go : (t : Bool) → eqb (q % 2) 1 ≡ t
          → cond t (get_or l (point_place base m (q / 2 + 1)) y)
          (middle (point_of pa pb (get_or l (point_place base m (q / 2)) y) m (q / 2)) (point_of pa pb (get_or l (point_place base m (q / 2 + 1)) y) m (q / 2 + 1)))
          ≡ cond t (get_or l (base + q / 2) origin) (middle (open_point pa pb l base m (q / 2)) (open_point pa pb l base m (q / 2 + 1)))
      go true e = let k = eqb-true (q % 2) 1 e in at_bend q (omega arith)
      go false e = ap₂ middle (point_read (q / 2)) (point_read (q / 2 + 1))

pub part_range : (p : Position) (first count : ℕ) → first + count ≤ 2048 → InRange (part_run p first count)
part_range p first count h = record { one = h; two = omega arith }

-- ---- what is made
module _ (d : Drawing) (z : Sizes d) (e row base m q : ℕ) (c : EdgeCuts d e row base m q) (s f : ℕ) (n : OpenEnds d e s f) where
  room_bends : base + m ≤ length d.bends
  room_bends = let a = c.range in let b = z.bends in omega arith

  pub place_below : q / 2 + q % 2 ≤ m
  place_below =
      let a = leb-true (q / 2 + q % 2) (length (bends_of (cell_at (sheet_of d) e))) (sym (open_exists (cell_at (sheet_of d) e) q n.is_one) ∙ c.exists) in
      let b = bends_count d.bends (bends_of (cell_at (sheet_of d) e)) base m room_bends c.bends in
      omega arith

  pub edge_small : e < ids_end
  edge_small = live_id (sheet_of d) (sound_in d c.sound) e (ap is_live (open_figure (cell_at (sheet_of d) e) n.is_one))

  abbrev pub part_step : ℕ → Figure → Figure
  part_step = rewired same_vertex (in_two e (d.next + 1) (d.next + 2))

  abbrev pub part_cells : Position → Runs → Runs → List Figure
  part_cells p r1 r2 = vertex p ∷ open_edge s d.next (runs_of d.bends r1) ∷ open_edge d.next f (runs_of d.bends r2) ∷ []

  module _ (p : Position) (ep : CutPlaced d e q p) where
    abbrev pub first : Runs
    first = part_run p base (q / 2)

    abbrev pub second : Runs
    second = part_run p (base + (q / 2 + q % 2)) (m - (q / 2 + q % 2))

    cells_are : vertex (cut_place (cell_at (sheet_of d))
        (some (open_edge (start_of (cell_at (sheet_of d) e)) (end_of (cell_at (sheet_of d) e)) (bends_of (cell_at (sheet_of d) e)))) q)
        ∷ open_edge (start_of (cell_at (sheet_of d) e)) d.next (bends_before (bends_of (cell_at (sheet_of d) e)) q)
        ∷ open_edge d.next (end_of (cell_at (sheet_of d) e)) (bends_after (bends_of (cell_at (sheet_of d) e)) q) ∷ []
        ≡ part_cells p first second
    cells_are =
        let o = cell_at (sheet_of d) e in
        let a = ap (λ (x : Option Figure). cut_place (cell_at (sheet_of d)) x q) (sym (open_figure o n.is_one)) ∙ sym ep.place in
        let b = sym (before_are d.bends (bends_of o) base m room_bends c.bends p q place_below) in
        let g = sym (after_are d.bends (bends_of o) base m room_bends c.bends p q) in
        let u = sym n.start in
        let v = sym n.end in
        λ i. vertex (a i) ∷ open_edge (u i) d.next (b i) ∷ open_edge d.next (v i) (g i) ∷ []

    pub parts_are : result (sheet_of d) (cut_edge e q) ≡ rebuild (others e) part_step (part_cells p first second) (sheet_of d)
    unfolding result edge_cut sheet_of
    parts_are =
        let k : suc (suc d.next) ≡ d.next + 2 = omega arith in
        let j : suc d.next ≡ d.next + 1 = omega arith in
        let g = cells_are in
        ap (cut_figure (sheet_of d) e q) (open_figure (cell_at (sheet_of d) e) n.is_one)
        ∙ λ i. rebuild (others e) (rewired same_vertex (in_two e (j i) (k i))) (g i) (sheet_of d)

    pub parts_room : (u : Sheet) → u ≡ remade (others e) part_step (sheet_of d) → RoomIn u (part_cells p first second)
    parts_room u eu = made_room (sheet_of d) (others e) part_step (part_cells p first second) (result (sheet_of d) (cut_edge e q)) parts_are u eu c.ids_suffice
        c.sizes_hold

    pub parts_made : (u : Sheet) → u ≡ remade (others e) part_step (sheet_of d) → appended_each (part_cells p first second) u ≡ result (sheet_of d) (cut_edge e q)
    parts_made u eu = made_is (sheet_of d) (others e) part_step (part_cells p first second) (result (sheet_of d) (cut_edge e q)) parts_are u eu

    -- the steps keep the ceiling before e goes, too, for e has none
    abbrev pub steps_after : Figure → ℕ
    steps_after x = steps_in (part_step 0 x)

    any_id : (i : ℕ) (x : Figure) → steps_in (part_step i x) ≡ steps_after x
    any_id i (vertex y) = refl
    any_id i (open_edge a b bs) = refl
    any_id i (closed_edge bs) = refl
    any_id i (face ks) = refl

    pub steps_by : (cs : List LiveCell) → over steps_in (reshape part_step cs) ≡ over steps_after cs
    steps_by [] = refl
    steps_by (x ∷ cs) = ap₂ ◌+◌ (any_id x.id x.figure) (steps_by cs)

    pub steps_room : over steps_in (reshape part_step (sheet_of d).cells) ≤ steps_most
    steps_room =
        let cs = (sheet_of d).cells in
        let k = keep_ids (others e) cs in
        let b = (below (result (sheet_of d) (cut_edge e q)).cells c.sizes_hold).steps in
        let r : over steps_in (result (sheet_of d) (cut_edge e q)).cells ≡ over steps_in (reshape part_step k) + 0 =
        ap (λ (t : Sheet). over steps_in t.cells) parts_are ∙ over_rebuild steps_in (others e) part_step (part_cells p first second) (sheet_of d) in
        let w = without_one e (open_edge (start_of (cell_at (sheet_of d) e)) (end_of (cell_at (sheet_of d) e)) (bends_of (cell_at (sheet_of d) e))) (sheet_of d)
        (sound_in d c.sound) (open_figure (cell_at (sheet_of d) e) n.is_one) steps_after in
        let x = steps_by cs in
        let y = steps_by k in
        omega arith

-- ---- the end vertices
row_lives : (cs : List LiveCell) (i : ℕ) → is_live (lookup cs i) ≡ true → row_of i (ids cs) < length cs
row_lives [] i e = absurd (false≢true e)
row_lives (x ∷ cs) i e = go (eqb x.id i) e (row_lives cs i)
  where
    go : (b : Bool) → is_live (some_if b x.figure (lookup cs i)) ≡ true → (is_live (lookup cs i) ≡ true → row_of i (ids cs) < length cs)
        → cond b 0 (suc (row_of i (ids cs))) < suc (length cs)
    go true h ih = omega arith
    go false h ih = let k = ih h in omega arith

place_figure : (x : Figure) → vertex_place (shape_of x) ≡ position_of (some x)
place_figure (vertex p) = refl
place_figure (open_edge a b bs) = refl
place_figure (closed_edge bs) = refl
place_figure (face ks) = refl

pub vertex_live : (o : Option Figure) → T (is_vertex o) → is_live o ≡ true
vertex_live none t = absurd t
vertex_live (some x) t = refl

module _ (d : Drawing) (z : Sizes d) (w : T (sound_drawing d)) where
  module _ (v row : ℕ) (er : row ≡ row_of v (ids (sheet_of d).cells)) (l : is_live (cell_at (sheet_of d) v) ≡ true) where
    pub vertex_below : row < d.count
    vertex_below =
        let a = row_lives (sheet_of d).cells v l in
        let b = count_is d (sheet_of d).cells (stands d z (sound_fits d w)) z (sound_fits d w).cells in
        omega arith

    pub vertex_place_lem : vertex_place (get_or d.cells row no_cell).shape ≡ position_of (cell_at (sheet_of d) v)
    vertex_place_lem =
        let y : LiveCell = record { id = 0; figure = vertex origin } in
        ap vertex_place (row_shape d z (sound_fits d w) row vertex_below no_cell)
        ∙ place_figure (figure_at (sheet_of d) row)
        ∙ ap position_of (ap (λ (k : ℕ). some (get_or (sheet_of d).cells k y).figure) er
        ∙ sym (row_lookup (sheet_of d).cells v y (row_lives (sheet_of d).cells v l)))

  pub ends_live : (e : ℕ) → is_open (cell_at (sheet_of d) e) ≡ true
      → (is_live (cell_at (sheet_of d) (start_of (cell_at (sheet_of d) e))) ≡ true) × (is_live (cell_at (sheet_of d) (end_of (cell_at (sheet_of d) e))) ≡ true)
  ends_live e k =
      let o = cell_at (sheet_of d) e in
      let t = (sound_in d w).figures e (open_edge (start_of o) (end_of o) (bends_of o)) (open_figure o k) in
      let a = both (is_vertex (cell_at (sheet_of d) (start_of o))) (is_vertex (cell_at (sheet_of d) (end_of o)) && all within (bends_of o)) t in
      let b = both (is_vertex (cell_at (sheet_of d) (end_of o))) (all within (bends_of o)) a.1 in
      (vertex_live (cell_at (sheet_of d) (start_of o)) a.0, vertex_live (cell_at (sheet_of d) (end_of o)) b.0)

-- ---- by the rows of the two ends
module _ (d : Drawing) (z : Sizes d) (e row base m q : ℕ) (c : EdgeCuts d e row base m q) (s f : ℕ) (n : OpenEnds d e s f) (is : List ℕ)
    (ei : take d.count is ≡ ids_of (sheet_of d)) where
  pub ids_rise : Rising (take d.count is)
  ids_rise = subst Rising (sym ei) (rising_is (ids_of (sheet_of d)) (sheet_of d).next (sheet_rising d (sound_sheet_lem d c.sound)))

  module _ (rs re : ℕ) (es : rs ≡ row_of s (take d.count is)) (ef : re ≡ row_of f (take d.count is)) where
    start_row_lem : rs ≡ row_of (start_of (cell_at (sheet_of d) e)) (ids (sheet_of d).cells)
    start_row_lem = es ∙ ap₂ row_of n.start ei

    end_row_lem : re ≡ row_of (end_of (cell_at (sheet_of d) e)) (ids (sheet_of d).cells)
    end_row_lem = ef ∙ ap₂ row_of n.end ei

    lives : (is_live (cell_at (sheet_of d) (start_of (cell_at (sheet_of d) e))) ≡ true) × (is_live (cell_at (sheet_of d) (end_of (cell_at (sheet_of d) e))) ≡ true)
    lives = ends_live d z c.sound e n.is_one

    pub start_below : rs < 256
    start_below = let h = vertex_below d z c.sound (start_of (cell_at (sheet_of d) e)) rs start_row_lem lives.0 in let g = (sound_fits d c.sound).cells in
        omega arith

    pub end_below : re < 256
    end_below = let h = vertex_below d z c.sound (end_of (cell_at (sheet_of d) e)) re end_row_lem lives.1 in let g = (sound_fits d c.sound).cells in
        omega arith

    placed_at : (p : Position) → p ≡ open_place (vertex_place (get_or d.cells rs no_cell).shape) (vertex_place (get_or d.cells re no_cell).shape)
        d.bends base m q → CutPlaced d e q p
    placed_at p ep =
        let o = cell_at (sheet_of d) e in
        record {
          place =
              ep
              ∙ open_place_is d.bends (bends_of o) base m (room_bends d z e row base m q c s f n) c.bends (cell_at (sheet_of d)) (start_of o) (end_of o) q
              (vertex_place (get_or d.cells rs no_cell).shape) (vertex_place (get_or d.cells re no_cell).shape)
              (vertex_place_lem d z c.sound (start_of o) rs start_row_lem lives.0) (vertex_place_lem d z c.sound (end_of o) re end_row_lem lives.1)
              (place_below d z e row base m q c s f n)
              ∙ ap (λ (x : Option Figure). cut_place (cell_at (sheet_of d)) x q) (sym (open_figure o n.is_one));
        }

    cell_read : (k : ℕ) (y : Cell) → k < 256 → vertex_place (get_or d.cells k y).shape ≡ vertex_place (get_or d.cells k no_cell).shape
    cell_read k y h = let u = z.cells in ap (λ (x : Cell). vertex_place x.shape) (get_d_any d.cells k y no_cell (omega arith))

    -- p by the positions that are read: a and b of the two ends, and the bends in the places k1 and k2
    pub placed_read : (y : Cell) (o a b p : Position) (k1 k2 : ℕ) → a ≡ vertex_place (get_or d.cells rs y).shape
        → b ≡ vertex_place (get_or d.cells re y).shape → k1 ≡ point_place base m (q / 2) → k2 ≡ point_place base m (q / 2 + 1)
        → p ≡ open_between a b (get_or d.bends k1 o) (get_or d.bends k2 o) m q → CutPlaced d e q p
    placed_read y o a b p k1 k2 ea eb e1 e2 ep =
        let u = ea ∙ cell_read rs y start_below in
        let v = eb ∙ cell_read re y end_below in
        placed_at p
        (ep ∙ (λ i. open_between (u i) (v i) (get_or d.bends (e1 i) o) (get_or d.bends (e2 i) o) m q)
        ∙ place_read (vertex_place (get_or d.cells rs no_cell).shape) (vertex_place (get_or d.cells re no_cell).shape) d.bends base m o z.bends
        c.range q (place_below d z e row base m q c s f n))
