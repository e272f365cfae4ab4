-- The cells that stand in a drawing's arrays, one after another. Assumes nothing.
use Prim.Native.Nat.{ℕ, zero, suc, ◌+◌, ◌<◌, ◌≤◌}
use mathlib.Core.Path.{◌≡◌, refl, ap, ap₂, sym, ◌∙◌, subst}
use mathlib.Core.List.{List, [], ◌∷◌}
use mathlib.Core.Bool.{◌&&◌}
use native.Mathlib.Omega.{arith}
use lib.Dec.{T, ltb→lt}
use lib.Ieee.{Float}
use lib.Ieee.Fits.{and_l, and_r}
use lib.ListN.{length, take, drop, get_or}
use lib.Seq.{drop-drop, take-add, take-take, get_or-take, length-take-le}
use Rattle.number.specs.Readers.{all}
use Rattle.number.specs.Numbers.{numbers_end}
use Rattle.coordinate.specs.declared.Position.{Position}
use Rattle.coordinate.specs.Bounds.{within}
use Rattle.complex.specs.Cells.{Cycle, vertex, open_edge, closed_edge, face, LiveCell}
use Rattle.complex.specs.File.{cell_bytes}
use Rattle.store.specs.declared.Shape.{Shape}
use Rattle.store.specs.declared.Shape.TheVariants.{Vertex, Open, Closed, Face}
use Rattle.store.specs.declared.Cell.{Cell}
use Rattle.store.specs.View.{width, cycles_from, cells_of, figure_of, cycle_count, bend_count, cycle_sum, bend_sum, width_sum}
use Rattle.store.proofs.Encode.{take_cycles, length_cells, cell_at_lem}
use Rattle.store.proofs.Lists.{sum_append, sum_more, sum_le}
use Rattle.file_write.specs.declared.Place.{Place}
use Rattle.file_parts.specs.Parts.{spells, positions_from, run_of, Bends, Rings}
use Rattle.file_write.specs.Places.{figure_spells, cell_spells, cell_in, place_after, PlaceFits, CellReady, AllReady}
use Rattle.file_parts.proofs.Laying.{all_get}

-- ---- a cell by its shape
module _ {c : Cell} {at : Place} {xs ys : List Float} {ns st : List ℕ} (r : CellReady c at xs ys ns st) where
  abbrev cell : Shape → LiveCell
  cell s = record { id = c.id; figure = figure_of s (cycles_from (drop at.cycles ns) (drop at.steps st)) (drop at.bends (positions_from xs ys)) }

  pub vertex_is : (p : Position) → c.shape ≡ Vertex p → cell_in c at ns st (positions_from xs ys) ≡ record { id = c.id; figure = vertex p }
  vertex_is p e = ap cell e

  pub open_is : (a b n : ℕ) → c.shape ≡ Open a b n → cell_in c at ns st
      (positions_from xs ys) ≡ record { id = c.id; figure = open_edge a b (run_of at.bends n (positions_from xs ys)) }
  open_is a b n e = ap cell e

  pub closed_is : (n : ℕ) → c.shape ≡ Closed n → cell_in c at ns st
      (positions_from xs ys) ≡ record { id = c.id; figure = closed_edge (run_of at.bends n (positions_from xs ys)) }
  closed_is n e = ap cell e

  pub face_is : (k : ℕ) → c.shape ≡ Face k → cell_in c at ns st
      (positions_from xs ys) ≡ record { id = c.id; figure = face (cycles_from (run_of at.cycles k ns) (drop at.steps st)) }
  face_is k e = ap cell e ∙ ap (λ (ks : List Cycle). record { id = c.id; figure = face ks }) (take_cycles k (drop at.cycles ns) (drop at.steps st))

  id_spells : c.id < numbers_end
  id_spells = ltb→lt c.id numbers_end (and_l (spells c.id) (figure_spells (cell_in c at ns st (positions_from xs ys)).figure) r.spelled)

  figure_spells_lem : (x : LiveCell) → cell_in c at ns st (positions_from xs ys) ≡ x → T (figure_spells x.figure)
  figure_spells_lem x e = and_r (spells x.id) (figure_spells x.figure) (subst (λ (y : LiveCell). T (cell_spells y)) e r.spelled)

  bends_of_lem : (n : ℕ) → bend_count c.shape ≡ n → T (all within (run_of at.bends n (positions_from xs ys))) → Bends xs ys at.bends n
  bends_of_lem n e t = record { room = subst (λ (m : ℕ). at.bends + m ≤ 2048) e r.bends; sizes = (r.sizes.first, r.sizes.second); bounds = t }

  open_ends : (a b n : ℕ) → c.shape ≡ Open a b n → (a < numbers_end) × (b < numbers_end)
  open_ends a b n e =
      let t = figure_spells_lem (record { id = c.id; figure = open_edge a b (run_of at.bends n (positions_from xs ys)) }) (open_is a b n e) in
      let u = and_r (spells a) (spells b && all within (run_of at.bends n (positions_from xs ys))) t in (
        ltb→lt a numbers_end (and_l (spells a) (spells b && all within (run_of at.bends n (positions_from xs ys))) t),
        ltb→lt b numbers_end (and_l (spells b) (all within (run_of at.bends n (positions_from xs ys))) u),
      )

  open_bends : (a b n : ℕ) → c.shape ≡ Open a b n → Bends xs ys at.bends n
  open_bends a b n e =
      let t = figure_spells_lem (record { id = c.id; figure = open_edge a b (run_of at.bends n (positions_from xs ys)) }) (open_is a b n e) in
      let u = and_r (spells a) (spells b && all within (run_of at.bends n (positions_from xs ys))) t in
      bends_of_lem n (ap bend_count e) (and_r (spells b) (all within (run_of at.bends n (positions_from xs ys))) u)

  closed_bends : (n : ℕ) → c.shape ≡ Closed n → Bends xs ys at.bends n
  closed_bends n e =
      bends_of_lem n (ap bend_count e) (figure_spells_lem (record { id = c.id; figure = closed_edge (run_of at.bends n (positions_from xs ys)) }) (closed_is n e))

  face_rings : (k : ℕ) → c.shape ≡ Face k → Rings ns at.cycles k st at.steps
  face_rings k e =
      record {
        room = subst (λ (m : ℕ). at.cycles + m ≤ 512) (ap cycle_count e) r.cycles;
        places = subst (λ (m : ℕ). at.steps + width_sum (run_of at.cycles m ns) ≤ 2048) (ap cycle_count e) r.steps;
        sizes = (r.sizes.cycles, r.sizes.steps);
        spelled = figure_spells_lem (record { id = c.id; figure = face (cycles_from (run_of at.cycles k ns) (drop at.steps st)) }) (face_is k e);
      }

  -- what each way to put a cell requires, where there are n bytes for it
  module _ (n : ℕ) (h : length (cell_bytes (cell_in c at ns st (positions_from xs ys))) ≤ n) where
    room : {x : LiveCell} → cell_in c at ns st (positions_from xs ys) ≡ x → length (cell_bytes x) ≤ n
    room e = subst (λ (y : LiveCell). length (cell_bytes y) ≤ n) e h

    pub vertex_needs : (p : Position) → c.shape ≡ Vertex p → (c.id < numbers_end)
        × (T (within p) × (length (cell_bytes (record { id = c.id; figure = vertex p })) ≤ n))
    vertex_needs p e = (id_spells, (figure_spells_lem (record { id = c.id; figure = vertex p }) (vertex_is p e), room (vertex_is p e)))

    pub open_needs : (a b m : ℕ) → c.shape ≡ Open a b m → ((c.id < numbers_end) × (a < numbers_end) × (b < numbers_end))
        × (Bends xs ys at.bends m × (length (cell_bytes (record { id = c.id; figure = open_edge a b (run_of at.bends m (positions_from xs ys)) })) ≤ n))
    open_needs a b m e = let z = open_ends a b m e in ((id_spells, z.0, z.1), (open_bends a b m e, room (open_is a b m e)))

    pub closed_needs : (m : ℕ) → c.shape ≡ Closed m → (c.id < numbers_end)
        × (Bends xs ys at.bends m × (length (cell_bytes (record { id = c.id; figure = closed_edge (run_of at.bends m (positions_from xs ys)) })) ≤ n))
    closed_needs m e = (id_spells, (closed_bends m e, room (closed_is m e)))

    pub face_needs : (k : ℕ) → c.shape ≡ Face k → (c.id < numbers_end)
        × (Rings ns at.cycles k st at.steps
        × (length (cell_bytes (record { id = c.id; figure = face (cycles_from (run_of at.cycles k ns) (drop at.steps st)) })) ≤ n))
    face_needs k e = (id_spells, (face_rings k e, room (face_is k e)))

  pub place_fits : PlaceFits c.shape ns at
  place_fits = record { size = r.sizes.cycles; bends = r.bends; cycles = r.cycles; steps = r.steps }

-- ---- the i-th cell
drop_cycles : (m : ℕ) (ns st : List ℕ) → drop m (cycles_from ns st) ≡ cycles_from (drop m ns) (drop (width_sum (take m ns)) st)
drop_cycles zero ns st = refl
drop_cycles (suc m) [] st = refl
drop_cycles (suc m) (n ∷ ns) st = drop_cycles m ns (drop (width n) st) ∙ ap (cycles_from (drop m ns)) (drop-drop (width_sum (take m ns)) (width n) st)

-- where the bends, cycles and steps of the i-th cell begin
abbrev pub place_of : List Cell → List ℕ → ℕ → Place
place_of cs ns i = record { bends = bend_sum (take i cs); cycles = cycle_sum (take i cs); steps = width_sum (take (cycle_sum (take i cs)) ns) }

module _ (cs : List Cell) (n : ℕ) (xs ys : List Float) (ns st : List ℕ) (r : AllReady cs n xs ys ns st) where
  abbrev pub cells : List LiveCell
  cells = cells_of (take n cs) (cycles_from ns st) (positions_from xs ys)

  pub cells_length : length cells ≡ n
  cells_length = length_cells (take n cs) (cycles_from ns st) (positions_from xs ys) ∙ length-take-le n cs (let a = r.few in let b = r.cells in omega arith)

  module _ (i : ℕ) (h : i < n) (z : LiveCell) (y : Cell) where
    inside : i < length cs
    inside = let a = r.few in let b = r.cells in omega arith

    pub cell_is : get_or cells i z ≡ cell_in (get_or cs i y) (place_of cs ns i) ns st (positions_from xs ys)
    cell_is =
        let k : i < length (take n cs) = let g = length-take-le n cs (let a = r.few in let b = r.cells in omega arith) in omega arith in
        cell_at_lem (take n cs) (cycles_from ns st) (positions_from xs ys) i z y k
        ∙ ap₂ (λ (c : Cell) (l : List Cell). record {
          id = c.id;
          figure = figure_of c.shape (drop (cycle_sum l) (cycles_from ns st)) (drop (bend_sum l) (positions_from xs ys));
        })
        (get_or-take n cs i y h) (take-take i n cs (omega arith))
        ∙ ap (λ (ks : List Cycle). record {
          id = (get_or cs i y).id;
          figure = figure_of (get_or cs i y).shape ks (drop (bend_sum (take i cs))
              (positions_from xs ys));
        })
        (drop_cycles (cycle_sum (take i cs)) ns st)

    bends_more_lem : bend_sum (take i cs) + bend_count (get_or cs i y).shape ≡ bend_sum (take (i + 1) cs)
    bends_more_lem = sym (sum_more (λ (c : Cell). bend_count c.shape) cs i y inside)

    cycles_more : cycle_sum (take i cs) + cycle_count (get_or cs i y).shape ≡ cycle_sum (take (i + 1) cs)
    cycles_more = sym (sum_more (λ (c : Cell). cycle_count c.shape) cs i y inside)

    steps_more : width_sum (take (cycle_sum (take i cs)) ns) + width_sum (run_of (cycle_sum (take i cs)) (cycle_count (get_or cs i y).shape) ns) ≡ width_sum
        (take (cycle_sum (take (i + 1) cs)) ns)
    steps_more =
        let a = cycle_sum (take i cs) in
        let k = cycle_count (get_or cs i y).shape in
        sym (ap width_sum (ap (λ (m : ℕ). take m ns) (sym cycles_more) ∙ take-add a k ns) ∙ sum_append width (take a ns) (run_of a k ns))

    pub place_next : place_after (get_or cs i y).shape ns (place_of cs ns i) ≡ place_of cs ns (i + 1)
    place_next = λ j. record { bends = bends_more_lem j; cycles = cycles_more j; steps = steps_more j }

    pub ready : CellReady (get_or cs i y) (place_of cs ns i) xs ys ns st
    ready =
        record {
          sizes = r.sizes;
          bends = let a = bends_more_lem in let b = sum_le (λ (c : Cell). bend_count c.shape) cs (i + 1) n (omega arith) in let d = r.bends in omega arith;
          cycles = let a = cycles_more in let b = sum_le (λ (c : Cell). cycle_count c.shape) cs (i + 1) n (omega arith) in let d = r.cycles in omega arith;
          steps =
              let a = steps_more in
              let b = sum_le (λ (c : Cell). cycle_count c.shape) cs (i + 1) n (omega arith) in
              let e = sum_le width ns (cycle_sum (take (i + 1) cs)) (cycle_sum (take n cs)) b in
              let d = r.steps in
              omega arith;
          spelled = subst (λ (x : LiveCell). T (cell_spells x)) cell_is (all_get cell_spells cells i z r.spelled (let k = cells_length in omega arith));
        }
