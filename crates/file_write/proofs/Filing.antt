-- A drawing's file from its arrays: what the functions that measure and write ask, and what they make. Assumes nothing.
use Prim.Native.Nat.{ℕ, ◌+◌, ◌*◌, ◌≤◌, ◌<◌}
use native.Mathlib.Omega.{arith}
use mathlib.Core.Path.{◌≡◌, ap, sym, ◌∙◌, subst}
use mathlib.Core.Bool.{Bool, true, ◌&&◌, cond}
use mathlib.Core.List.{List, [], ◌∷◌, ◌++◌, append_assoc}
use lib.Dec.{T, ltb→lt, lt→ltb}
use lib.Ieee.{Float}
use lib.ListN.{length, take, drop, length-append}
use lib.Seq.{length-take-le, sets-eq}
use borrow.Author.Tests.{le-leb, lt-leb}
use Rattle.number.specs.Readers.{spread, all}
use Rattle.number.specs.Numbers.{numbers_end, spell}
use Rattle.coordinate.specs.declared.Position.{Position}
use Rattle.coordinate.specs.Bounds.{within}
use Rattle.complex.specs.Cells.{Cycle, Figure, vertex, open_edge, closed_edge, face, LiveCell}
use Rattle.complex.specs.Decode.{cycle_bytes}
use Rattle.complex.specs.Calls.{Filled, filled, unfilled, write_call}
use Rattle.complex.specs.Sound.{sound}
use Rattle.complex.specs.File.{cell_bytes, file_of}
use Rattle.complex.specs.Lists.{total}
use Rattle.complex.proofs.Bools.{truth, true_of, both, pair, all_append}
use Rattle.store.specs.declared.Shape.{Shape}
use Rattle.store.specs.declared.Shape.TheVariants.{Vertex, Open, Closed, Face}
use Rattle.store.specs.declared.Cell.{Cell}
use Rattle.store.specs.declared.Drawing.{Drawing}
use Rattle.store.specs.Places.{entry_cycles}
use Rattle.store.specs.Sizes.{Sizes}
use Rattle.store.specs.View.{cycles_from, cells_of, figure_of, cycle_count, bend_count, cycle_sum, bend_sum, cycle_total, bend_total, sheet_of}
use Rattle.store.proofs.Encode.{take_cycles, length_cycles}
use Rattle.store.proofs.Stands.{used_cycles}
use Rattle.sound.specs.Soundness.{sound_drawing}
use Rattle.sound.proofs.Meaning.{sound_fits, sound_sheet_lem}
use Rattle.file_write.specs.Writes.{filled_with, write_of}
use Rattle.file_parts.specs.Parts.{BytesPut, spells, cycle_spells, positions_from, Rings}
use Rattle.file_write.specs.Places.{figure_spells, cell_spells, PointsOf, AllReady, Writable}
use Rattle.file_length.specs.Widths.{Heads, spell_width, shape_spells, head_spells, head_width}
use Rattle.store.proofs.Encode.{length_cells}
use Rattle.file_write.proofs.Spelling.{sound_spells}
use Rattle.file_length.proofs.Lengths.{cells_bytes, rings_most, total_most, head_most, width_most}

-- ---- the numbers of the cells and of their cycles
count_spells : (n : ℕ) → n ≤ 2048 → T (spells n)
count_spells n h = lt→ltb n numbers_end (omega arith)

shape_spells_lem : (s : Shape) (ks : List Cycle) (bs : List Position) → cycle_count s ≤ 512 → bend_count s ≤ 2048 → T (figure_spells (figure_of s ks bs))
    → T (shape_spells s)
shape_spells_lem (Vertex p) ks bs h g t = tt
shape_spells_lem (Open a b n) ks bs h g t =
    let u = both (spells a) (spells b && all within (take n bs)) t in
    pair (spells a) (spells b && spells n) u.0 (pair (spells b) (spells n) (both (spells b) (all within (take n bs)) u.1).0 (count_spells n g))
shape_spells_lem (Closed n) ks bs h g t = count_spells n g
shape_spells_lem (Face k) ks bs h g t = count_spells k (omega arith)

heads_spell : (cs : List Cell) (ks : List Cycle) (bs : List Position) → cycle_sum cs ≤ 512 → bend_sum cs ≤ 2048 → T (all cell_spells (cells_of cs ks bs))
    → T (all head_spells cs)
heads_spell [] ks bs h g t = tt
heads_spell (c ∷ cs) ks bs h g t =
    let x : LiveCell = record { id = c.id; figure = figure_of c.shape ks bs } in
    let rest = cells_of cs (drop (cycle_count c.shape) ks) (drop (bend_count c.shape) bs) in
    let u = both (cell_spells x) (all cell_spells rest) t in
    let v = both (spells c.id) (figure_spells x.figure) u.0 in
    pair (head_spells c) (all head_spells cs)
    (pair (spells c.id) (shape_spells c.shape) v.0 (shape_spells_lem c.shape ks bs (omega arith) (omega arith) v.1))
    (heads_spell cs (drop (cycle_count c.shape) ks) (drop (bend_count c.shape) bs) (omega arith) (omega arith) u.1)

figure_rings : (x : LiveCell) → T (cell_spells x) → T (all cycle_spells (entry_cycles x))
figure_rings x t = go x.figure (both (spells x.id) (figure_spells x.figure) t).1
  where
    go : (f : Figure) → T (figure_spells f) → T (all cycle_spells (entry_cycles (record { id = x.id; figure = f })))
    go (vertex p) u = tt
    go (open_edge a b bs) u = tt
    go (closed_edge bs) u = tt
    go (face ks) u = u

rings_spell : (xs : List LiveCell) → T (all cell_spells xs) → T (all cycle_spells (spread entry_cycles xs))
rings_spell [] t = tt
rings_spell (x ∷ xs) t =
    let b = both (cell_spells x) (all cell_spells xs) t in
    all_append cycle_spells (entry_cycles x) (spread entry_cycles xs) (figure_rings x b.0) (rings_spell xs b.1)

module _ (d : Drawing) (z : Sizes d) (w : Writable d) where
  cells_spell : T (all cell_spells (sheet_of d).cells)
  cells_spell = (both (spells (sheet_of d).next) (all cell_spells (sheet_of d).cells) w.spelled).1

  pub next_spells : d.next < numbers_end
  unfolding sheet_of
  next_spells = ltb→lt d.next numbers_end (both (spells (sheet_of d).next) (all cell_spells (sheet_of d).cells) w.spelled).0

  pub heads_ready : Heads d.cells d.count
  unfolding sheet_of
  heads_ready =
      record {
        few = w.fits.cells;
        cells = z.cells;
        bends = w.fits.bends;
        cycles = w.fits.cycles;
        spelled = heads_spell (take d.count d.cells) (cycles_from d.cycles d.steps) d.bends w.fits.cycles w.fits.bends cells_spell;
      }

  pub rings_ready : Rings d.cycles 0 (cycle_total d) d.steps 0
  rings_ready =
      record {
        room = let f = w.fits.cycles in omega arith;
        places = let f = w.fits.steps in omega arith;
        sizes = (z.cycles, z.steps);
        spelled = subst (λ (ks : List Cycle). T (all cycle_spells ks)) (used_cycles d z w.fits) (rings_spell (sheet_of d).cells cells_spell);
      }

  pub cells_ready : (xs ys : List Float) → PointsOf d.bends xs ys → AllReady d.cells d.count xs ys d.cycles d.steps
  unfolding sheet_of
  cells_ready xs ys e =
      record {
        few = w.fits.cells;
        cells = z.cells;
        sizes = record { first = e.first; second = e.second; cycles = z.cycles; steps = z.steps };
        bends = w.fits.bends;
        cycles = w.fits.cycles;
        steps = w.fits.steps;
        spelled =
            subst (λ (bs : List Position). T (all cell_spells (cells_of (take d.count d.cells) (cycles_from d.cycles d.steps) bs))) (sym e.same)
            cells_spell;
      }

  -- ---- the file
  count_is : length (sheet_of d).cells ≡ d.count
  unfolding sheet_of
  count_is =
      length_cells (take d.count d.cells) (cycles_from d.cycles d.steps) d.bends
      ∙ length-take-le d.count d.cells (let f = w.fits.cells in let y = z.cells in omega arith)

  -- the next id and the count, then the cells
  pub file_is : file_of (sheet_of d) ≡ (spell d.next ++ spell d.count) ++ spread cell_bytes (sheet_of d).cells
  unfolding file_of sheet_of
  file_is =
      ap (λ (n : ℕ). spell d.next ++ (spell n ++ spread cell_bytes (sheet_of d).cells)) count_is
      ∙ sym (append_assoc (spell d.next) (spell d.count) (spread cell_bytes (sheet_of d).cells))

  pub file_bytes : length (file_of (sheet_of d)) ≡ spell_width d.next
      + (spell_width d.count + (total head_width (take d.count d.cells)
      + (length (spread cycle_bytes (cycles_from (take (cycle_total d) d.cycles) d.steps)) + 16 * bend_total d)))
  unfolding sheet_of
  file_bytes =
      let ks = cycles_from d.cycles d.steps in
      let e = ap length file_is in
      let a = length-append (spell d.next ++ spell d.count) (spread cell_bytes (sheet_of d).cells) in
      let b = length-append (spell d.next) (spell d.count) in
      let k = length_cycles d.cycles d.steps in
      let f = w.fits.cycles in
      let g = w.fits.bends in
      let y = z.cycles in
      let u = z.bends in
      let c = cells_bytes (take d.count d.cells) ks d.bends (omega arith, omega arith) in
      let t = ap (λ (l : List Cycle). length (spread cycle_bytes l)) (take_cycles (cycle_total d) d.cycles d.steps) in
      omega arith

  pub file_small : length (file_of (sheet_of d)) ≤ 65536
  file_small =
      let e = file_bytes in
      let f = w.fits.cells in
      let g = w.fits.cycles in
      let h = w.fits.steps in
      let b = w.fits.bends in
      let y = z.cells in
      let k = z.cycles in
      let t = z.steps in
      let m = total_most head_width 20 head_most (take d.count d.cells) in
      let l = length-take-le d.count d.cells (omega arith) in
      let c = length-take-le (cycle_total d) d.cycles (omega arith) in
      let r = rings_most (take (cycle_total d) d.cycles) d.steps (omega arith) h (omega arith) in
      let u = width_most d.next in
      let v = width_most d.count in
      omega arith

  pub cells_same : (xs ys : List Float) → PointsOf d.bends xs ys
      → spread cell_bytes (cells_of (take d.count d.cells) (cycles_from d.cycles d.steps) (positions_from xs ys)) ≡ spread cell_bytes (sheet_of d).cells
  unfolding sheet_of
  cells_same xs ys e = ap (λ (bs : List Position). spread cell_bytes (cells_of (take d.count d.cells) (cycles_from d.cycles d.steps) bs)) e.same

-- ---- the answer
-- a file can hold a sound drawing
pub writable : (d : Drawing) → T (sound_drawing d) → Writable d
writable d t = record { fits = sound_fits d t; spelled = sound_spells (sheet_of d) (sound_sheet_lem d t) }

pub write_sound : (d : Drawing) (l : List ℕ) → sound_drawing d ≡ true → filled_with d l ≡ write_of d l
unfolding write_call
write_sound d l e =
    let t = sound_sheet_lem d (truth e) in
    sym (ap (λ (b : Bool). cond b (write_call (sheet_of d) l) (unfilled 1 l)) e
    ∙ ap (λ (b : Bool). cond b (filled_with d l) (unfilled 1 l)) (true_of (sound (sheet_of d)) t))

pub filled_put : {l m : List ℕ} {r : ℕ} (bs : List ℕ) → length bs ≤ length l → BytesPut l 0 bs m r
    → ◌≡◌ {A = Filled} (record { number = 0; count = r; buffer = m }) (filled bs l)
filled_put {l} {m} {r} bs h a =
    let e : 0 + length bs ≡ length bs = omega arith in
    let f : m ≡ bs ++ drop (length bs) l = a.bytes ∙ sets-eq bs l 0 (omega arith) ∙ ap (λ (n : ℕ). bs ++ drop n l) e in
    let g : r ≡ length bs = a.next ∙ e in
    (λ i. record { number = 0; count = g i; buffer = f i })
    ∙ sym (ap (λ (b : Bool). cond b (record { number = 0; count = length bs; buffer = bs ++ drop (length bs) l })
    (record { number = 9; count = length bs; buffer = l })) (le-leb (length bs) (length l) h))

pub filled_short : (bs l : List ℕ) (n : ℕ) → n ≡ length bs → length l < n → ◌≡◌ {A = Filled} (record { number = 9; count = n; buffer = l }) (filled bs l)
filled_short bs l n e h =
    (λ i. record { number = 9; count = e i; buffer = l })
    ∙ sym (ap (λ (b : Bool). cond b (record { number = 0; count = length bs; buffer = bs ++ drop (length bs) l })
    (record { number = 9; count = length bs; buffer = l })) (lt-leb (length bs) (length l) (omega arith)))
