-- The rows of a sound drawing, one after another: what each is tied to is what its cell is. Assumes nothing.
use Prim.Native.Nat.{ℕ, ◌+◌, ◌<◌, ◌≤◌}
use native.Mathlib.Omega.{arith}
use native.Mathlib.Numerals.{add-one}
use mathlib.Core.Path.{◌≡◌, refl, sym, ap, ap₂, ◌∙◌, subst}
use mathlib.Core.List.{List, [], ◌∷◌, ◌++◌, map, append-nil}
use lib.Dec.{T, eqb}
use lib.ListN.{length, take, drop, get_or}
use lib.Seq.{take-suc, take-add, take_all, take-take, get_or-take, length-take-le}
use Rattle.coordinate.specs.declared.Position.{Position}
use Rattle.complex.specs.Groups.{is_in}
use Rattle.complex.specs.Sound.{cycles_most, steps_most}
use Rattle.complex.specs.Cells.{Cycle, face, LiveCell, ids}
use Rattle.complex.specs.Pieces.{Link, link, joined, pieces}
use Rattle.complex.proofs.Every.{Every, every_more, every_place, of_map, of_spread}
use Rattle.complex.proofs.Groups.{count}
use Rattle.complex.proofs.Keep.{Sound, sound_parts}
use Rattle.complex.proofs.Pieces.{ids_once}
use Rattle.complex.proofs.Ties.{Inside, anchors, ties_of, ties, ties_inside, pieces_ties}
use Rattle.complex.proofs.UnglueVertex.{spread_append}
use Rattle.store.specs.declared.Shape.{Shape}
use Rattle.store.specs.declared.Shape.TheVariants.{Vertex, Open, Closed, Face}
use Rattle.store.specs.declared.Cell.{Cell}
use Rattle.store.specs.declared.Drawing.{Drawing}
use Rattle.store.specs.declared.Index.{Index}
use Rattle.store.specs.Sizes.{Sizes}
use Rattle.store.specs.Index.{Indexes, kind_of, shape_start, shape_end}
use Rattle.store.specs.View.{sheet_of, Fits, width, width_sum, cycle_count, cycle_sum, cycles_from, figure_of}
use Rattle.store.proofs.Lists.{sum_append, sum_le, map_place}
use Rattle.store.proofs.Encode.{take_cycles, cell_at_lem}
use Rattle.store.proofs.Stands.{stands, count_is, ids_same}
use Rattle.sound.specs.Soundness.{sound_drawing}
use Rattle.sound.proofs.Looking.{row_is}
use Rattle.sound.proofs.Meaning.{looks, sound_sheet_lem}
use Rattle.rows_marks.specs.Marks.{sum_of}
use Rattle.rows_marks.proofs.Marking.{counts_sum, sum_map, sum_on, sum_within}
use Rattle.rows_marks.proofs.Faces.{take_map, drop_cycles}
use Rattle.rows_pieces.specs.Ways.{Owns}
use Rattle.rows_pieces.specs.Merging.{Merged}
use Rattle.rows_pieces.proofs.Merging.{merged_none}
use Rattle.lent_table.specs.Table.{Table}
use Rattle.call_pieces.specs.Tying.{Finds, Some, Grown, anchors_in}

-- ---- what a shape is tied to
anchors_shape : (x : Shape) (ks : List Cycle) (bs : List Position)
    → anchors (figure_of x ks bs) ≡ anchors_in (kind_of x) (shape_start x) (shape_end x) (take (cycle_count x) ks)
anchors_shape (Vertex p) ks bs = refl
anchors_shape (Open s e n) ks bs = refl
anchors_shape (Closed n) ks bs = refl
anchors_shape (Face k) ks bs = refl

no_cycles : (x : Shape) → kind_of x ≡ 1 → cycle_count x ≡ 0
no_cycles (Vertex p) e = refl
no_cycles (Open s f n) e = refl
no_cycles (Closed n) e = refl
no_cycles (Face k) e = absurd (omega arith)

abbrev none : LiveCell
none = record { id = 0; figure = face [] }

abbrev no_cell : Cell
no_cell = record { id = 0; shape = Face 0 }

-- the cycles of a run of counts
run_cycles : (ns st : List ℕ) (a k : ℕ) → take k (drop a (cycles_from ns st)) ≡ cycles_from (take k (drop a ns)) (drop (width_sum (take a ns)) st)
run_cycles ns st a k = ap (take k) (drop_cycles a ns st) ∙ take_cycles k (drop a ns) (drop (width_sum (take a ns)) st)

-- ---- after i rows
pub record Counting (d : Drawing) (ix : Index) (i : ℕ) (up : List ℕ) (left first from : ℕ) : Type 0 where
  pub merged : Merged (take d.count ix.ids) up (ties (take i (sheet_of d).cells)) left
  pub first_is : first ≡ sum_of (take i ix.cycles)
  pub from_is : from ≡ width_sum (take first d.cycles)

module _ (d : Drawing) (z : Sizes d) (w : T (sound_drawing d)) (f : Fits d) (ix : Index) (x : Indexes d ix) where
  abbrev cells : List Cell
  cells = take d.count d.cells

  abbrev pub xs : List LiveCell
  xs = (sheet_of d).cells

  sound : Sound (sheet_of d)
  sound = sound_parts (sheet_of d) (sound_sheet_lem d w)

  ids_held : take d.count ix.ids ≡ ids xs
  ids_held = x.ids ∙ ids_same d z f

  -- ---- the rows of the ids
  pub finds : (table : List ℕ) → Table d.count table ix.ids → Finds d.count table ix.ids
  finds table t =
      record {
        table = t;
        rows = λ r h. row_is ix.ids d.count r (get_or ix.ids r 0) (omega (arith, t.few, t.ids)) (looks d z ix x w).rising h refl;
        once = λ y. subst (λ (is : List ℕ). count eqb y is ≤ 1) (sym ids_held) (ids_once (sheet_of d) sound y);
      }

  -- ---- the row i
  module _ (i : ℕ) (h : i < d.count) where
    many : length cells ≡ d.count
    many = length-take-le d.count d.cells (omega (arith, z.cells, f.cells))

    abbrev shape : Shape
    shape = (get_or cells i no_cell).shape

    number_is : (ks : List ℕ) (g : Cell → ℕ) → take d.count ks ≡ map g cells → get_or ks i 0 ≡ g (get_or cells i no_cell)
    number_is ks g e =
        sym (get_or-take d.count ks i 0 h) ∙ ap (λ (l : List ℕ). get_or l i 0) e ∙ map_place g cells i no_cell 0 (omega (arith, many))

    id_is : get_or ix.ids i 0 ≡ (get_or cells i no_cell).id
    id_is = number_is ix.ids (λ (c : Cell). c.id) x.ids

    count_shape : get_or ix.cycles i 0 ≡ cycle_count shape
    count_shape = number_is ix.cycles (λ (c : Cell). cycle_count c.shape) x.cycles

    kind_shape : get_or ix.kinds i 0 ≡ kind_of shape
    kind_shape = number_is ix.kinds (λ (c : Cell). kind_of c.shape) x.kinds

    -- an open edge has no cycles
    pub edge_alone : get_or ix.kinds i 0 ≡ 1 → (k : ℕ) → k ≡ get_or ix.cycles i 0 → k ≡ 0
    edge_alone e k g = g ∙ count_shape ∙ no_cycles shape (sym kind_shape ∙ e)

    -- the cycles of the rows before it
    before : sum_of (take i ix.cycles) ≡ cycle_sum (take i cells)
    before =
        ap sum_of (sym (take-take i d.count ix.cycles (omega arith)) ∙ ap (take i) x.cycles
        ∙ take_map (λ (c : Cell). cycle_count c.shape) i cells)
        ∙ sum_map (λ (c : Cell). cycle_count c.shape) (take i cells)

    module _ (first from k : ℕ) (ef : first ≡ sum_of (take i ix.cycles)) (eg : from ≡ width_sum (take first d.cycles))
        (ek : k ≡ get_or ix.cycles i 0) where
      abbrev own : List Cycle
      own = cycles_from (take k (drop first d.cycles)) (drop from d.steps)

      abbrev named : List ℕ
      named = anchors_in (get_or ix.kinds i 0) (get_or ix.starts i 0) (get_or ix.ends i 0) own

      own_is : own ≡ take (cycle_count shape) (drop (cycle_sum (take i cells)) (cycles_from d.cycles d.steps))
      own_is =
          ap (λ (n : ℕ). cycles_from (take k (drop first d.cycles)) (drop n d.steps)) eg
          ∙ sym (run_cycles d.cycles d.steps first k)
          ∙ ap₂ (λ (n m : ℕ). take n (drop m (cycles_from d.cycles d.steps))) (ek ∙ count_shape) (ef ∙ before)

      cell_is : get_or xs i none ≡ record { id = get_or ix.ids i 0; figure = (get_or xs i none).figure }
      unfolding sheet_of
      cell_is =
          ap (λ (n : ℕ). record { id = n; figure = (get_or xs i none).figure })
          (ap (λ (c : LiveCell). c.id) (cell_at_lem cells (cycles_from d.cycles d.steps) d.bends i none no_cell (omega (arith, many))) ∙ sym id_is)

      named_is : anchors (get_or xs i none).figure ≡ named
      unfolding sheet_of
      named_is =
          ap (λ (c : LiveCell). anchors c.figure) (cell_at_lem cells (cycles_from d.cycles d.steps) d.bends i none no_cell (omega (arith, many)))
          ∙ anchors_shape shape (drop (cycle_sum (take i cells)) (cycles_from d.cycles d.steps)) _
          ∙ ap₂ (λ (s e : ℕ). anchors_in (kind_of shape) s e (take (cycle_count shape) (drop (cycle_sum (take i cells)) (cycles_from d.cycles d.steps))))
          (sym (number_is ix.starts (λ (c : Cell). shape_start c.shape) x.starts))
          (sym (number_is ix.ends (λ (c : Cell). shape_end c.shape) x.ends))
          ∙ ap₂ (λ (n : ℕ) (ys : List Cycle). anchors_in n (get_or ix.starts i 0) (get_or ix.ends i 0) ys) (sym kind_shape) (sym own_is)

      ties_is : ties_of (get_or xs i none) ≡ map (link (get_or ix.ids i 0)) named
      ties_is = ap ties_of cell_is ∙ ap (map (link (get_or ix.ids i 0))) named_is

      cells_many : i < length xs
      cells_many = omega (arith, count_is d xs (stands d z f) z f.cells)

      -- what it is tied to is the id of a row
      pub row_named : Every (λ (j : ℕ). T (is_in eqb (take d.count ix.ids) j)) named
      row_named =
          subst (λ (is : List ℕ). Every (λ (j : ℕ). T (is_in eqb is j)) named) (sym ids_held)
          (inner (of_map (Inside (ids xs)) (link (get_or ix.ids i 0)) named
          (subst (Every (Inside (ids xs))) ties_is (every_place (λ (c : LiveCell). Every (Inside (ids xs)) (ties_of c)) xs i none
          (of_spread (Inside (ids xs)) ties_of xs (ties_inside (sheet_of d) sound)) cells_many))))
        where
          inner : Every (λ (j : ℕ). Inside (ids xs) (link (get_or ix.ids i 0) j)) named → Every (λ (j : ℕ). T (is_in eqb (ids xs) j)) named
          inner e = every_more (λ (j : ℕ). Inside (ids xs) (link (get_or ix.ids i 0) j)) (λ (j : ℕ). T (is_in eqb (ids xs) j)) (λ j p. p.1) named e

      -- its ties come after those of the rows before it
      pub row_more : ties (take i xs) ++ map (link (get_or ix.ids i 0)) named ≡ ties (take (i + 1) xs)
      row_more =
          ap (λ (ls : List Link). ties (take i xs) ++ ls) (sym ties_is ∙ sym (append-nil (ties_of (get_or xs i none))))
          ∙ sym (spread_append ties_of (take i xs) (get_or xs i none ∷ []))
          ∙ ap ties (sym (ap (λ (n : ℕ). take n xs) (add-one i) ∙ take-suc xs i none cells_many))

      -- its cycles and steps keep within the arrays
      counts_long : d.count ≤ length ix.cycles
      counts_long = omega (arith, x.sizes.5, f.cells)

      within_all : first + k ≤ sum_of (take d.count ix.cycles)
      within_all = sum_within (λ (n : ℕ). n) ix.cycles d.count i 0 counts_long h first ef k ek

      pub row_cycles : first + k ≤ cycles_most
      row_cycles = omega (arith, within_all, counts_sum d ix x, f.cycles)

      pub row_next : from + width_sum (take k (drop first d.cycles)) ≡ width_sum (take (first + k) d.cycles)
      row_next =
          ap (λ (n : ℕ). n + width_sum (take k (drop first d.cycles))) eg
          ∙ sym (ap width_sum (take-add first k d.cycles) ∙ sum_append width (take first d.cycles) (take k (drop first d.cycles)))

      pub row_steps : from + width_sum (take k (drop first d.cycles)) ≤ steps_most
      row_steps =
          omega (
            arith,
            row_next,
            sum_le width d.cycles (first + k) (sum_of (take d.count ix.cycles)) within_all,
            ap (λ (n : ℕ). width_sum (take n d.cycles)) (counts_sum d ix x),
            f.steps,
          )

      pub row_first : first + k ≡ sum_of (take (i + 1) ix.cycles)
      row_first = sum_on (λ (n : ℕ). n) ix.cycles d.count i 0 counts_long h first ef k ek

  -- ---- the rows one after another
  pub counting_some : (i : ℕ) (up : List ℕ) (left first from : ℕ) → Counting d ix i up left first from → Some (take d.count ix.ids) up left
  counting_some i up left first from C = (ties (take i xs), C.merged)

  pub counting_turn : (i : ℕ) → i < d.count → (up : List ℕ) (left first from : ℕ) → Counting d ix i up left first from → (k : ℕ) → k ≡ get_or ix.cycles i 0
      → (up' : List ℕ) (less : ℕ)
      → Grown (take d.count ix.ids) up left (get_or ix.ids i 0) (anchors_in (get_or ix.kinds i 0) (get_or ix.starts i 0) (get_or ix.ends i 0)
      (cycles_from (take k (drop first d.cycles)) (drop from d.steps))) up' less
      → (next : ℕ) → next ≡ from + width_sum (take k (drop first d.cycles)) → Counting d ix (i + 1) up' less (first + k) next
  counting_turn i h up left first from C k e up' less g next q =
      record {
        merged = subst (λ (ls : List Link). Merged (take d.count ix.ids) up' ls less) (row_more i h first from k C.first_is C.from_is e)
            (g (ties (take i xs)) C.merged);
        first_is = row_first i h first from k C.first_is C.from_is e;
        from_is = q ∙ row_next i h first from k C.first_is C.from_is e;
      }

  rows_long : length (take d.count ix.ids) ≡ d.count
  rows_long = length-take-le d.count ix.ids (omega (arith, x.sizes.0, f.cells))

  pub counting_none : (up : List ℕ) → Owns d.count up → (left : ℕ) → left ≡ d.count → Counting d ix 0 up left 0 0
  counting_none up O left e =
      record {
        merged = subst (Merged (take d.count ix.ids) up []) (rows_long ∙ sym e)
            (merged_none (take d.count ix.ids) up (subst (λ (n : ℕ). Owns n up) (sym rows_long) O));
        first_is = refl;
        from_is = refl;
      }

  -- all rows are tied: that many pieces there are
  pub counting_all : (up : List ℕ) (left first from : ℕ) → Counting d ix d.count up left first from → left ≡ pieces xs
  counting_all up left first from C =
      C.merged.number
      ∙ ap₂ (λ (ls : List Link) (is : List ℕ). length (joined ls is))
      (ap ties (take_all d.count xs (omega (arith, count_is d xs (stands d z f) z f.cells)))) ids_held
      ∙ pieces_ties (sheet_of d) sound
