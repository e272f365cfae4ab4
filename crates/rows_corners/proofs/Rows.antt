-- A face of a sound drawing: its row, where its cycles stand, and the room for others in their place. Assumes nothing.
use Prim.Native.Nat.{ℕ, zero, suc, ◌+◌, ◌<◌, ◌≤◌}
use mathlib.Core.Path.{◌≡◌, refl, ap, ap₂, sym, subst, ◌∙◌}
use mathlib.Core.Bool.{true, false≢true}
use mathlib.Core.List.{List, [], ◌∷◌, ◌++◌}
use mathlib.Core.Option.{Option, none, some}
use native.Mathlib.Omega.{arith}
use borrow.Author.Tests.{ltb-true, eqb-true}
use lib.ListN.{length, take, drop, get_or, set, length-map, length-drop}
use lib.Seq.{length-take-le}
use Rattle.complex.specs.Lists.{total}
use Rattle.complex.specs.Cells.{Cycle, Figure, vertex, open_edge, closed_edge, face, LiveCell, Sheet, cell_at, is_face, is_live}
use Rattle.complex.specs.Cells as cells
use Rattle.complex.specs.Edits.{reshape, numbered, every_id, replaced}
use Rattle.complex.specs.Sound.{step_count, cycles_in, steps_in, over}
use Rattle.complex.proofs.Lookup.{kept_all}
use Rattle.store.specs.declared.Drawing.{Drawing}
use Rattle.store.specs.declared.Index.{Index}
use Rattle.store.specs.Sizes.{Sizes}
use Rattle.store.specs.Sheet.{ids_of}
use Rattle.store.specs.Index.{Rising, row_of}
use Rattle.store.specs.View.{sheet_of, Fits, halfedge_of, width, cycle_of, cycles_from, width_sum, cycle_total, step_total}
use Rattle.store.specs.Edits.{places_of}
use Rattle.store.proofs.Encode.{length_cycles}
use Rattle.store.proofs.Lists.{sum_append, width_places}
use Rattle.store.proofs.Stands.{stands, count_is, cycle_total_lem, step_total_lem, ids_same}
use Rattle.sound.proofs.Meaning.{looks_in, live_row, found_row}
use Rattle.sound.specs.Looks.{Looks}
use Rattle.rows_spans.specs.declared.Used.{Used}
use Rattle.rows_spans.specs.declared.Spans.{Spans}
use Rattle.rows_spans.specs.Runs.{spans_of, row_span, span_of, kinds, cycle_span, step_span, Replaces, sheet_with_row}
use Rattle.rows_spans.specs.Building.{Building, built}
use Rattle.rows_spans.proofs.Splicing.{span_take}
use Rattle.rows_spans.proofs.Replaced.{cycles_in_use, steps_in_use, row_cycles, row_face, row_replaced, found_has}
use Rattle.rows_new.specs.Appends.{remade, RoomIn}
use Rattle.rows_new.proofs.Rooms.{over_cycles, over_steps, below}
use Rattle.answer.specs.Late.{Summed}
use Rattle.answer.proofs.Laws.{summed}
use Rattle.rows_corners.specs.Faces.{Named, Within, Spanned, cycles_at, recycled, Roomy}

-- ---- sums
total_set : {A : Type 0} (h : A → ℕ) (l : List A) (i : ℕ) (v z : A) → i < length l → total h (set l i v) + h (get_or l i z) ≡ total h l + h v
total_set h [] i v z k = absurd (omega arith)
total_set h (x ∷ l) zero v z k = omega arith
total_set h (x ∷ l) (suc i) v z k = let e = total_set h l i v z (omega arith) in omega arith

cycle_steps : (n : ℕ) (st : List ℕ) → width n ≤ length st → step_count (cycle_of n st) ≡ width n
cycle_steps zero st h = refl
cycle_steps (suc n) st h = length-map (take (suc n) st) halfedge_of ∙ length-take-le (suc n) st h

-- cycles that are read have as many steps as their counts are wide
pub list_steps : (ns st : List ℕ) → width_sum ns ≤ length st → total step_count (cycles_from ns st) ≡ width_sum ns
list_steps [] st h = refl
list_steps (n ∷ ns) st h = ap₂ ◌+◌ (cycle_steps n st (omega arith)) (list_steps ns (drop (width n) st) (omega (arith, length-drop (width n) st)))

-- ---- a face
face_live : (o : Option Figure) → is_face o ≡ true → is_live o ≡ true
face_live none e = absurd (false≢true e)
face_live (some x) e = refl

face_own : (x : Figure) → is_face (some x) ≡ true → x ≡ face (cells.cycles_of (some x))
face_own (vertex p) e = absurd (false≢true e)
face_own (open_edge a b bs) e = absurd (false≢true e)
face_own (closed_edge bs) e = absurd (false≢true e)
face_own (face ks) e = refl

-- where there is room for more cells, there is room for the cycles
pub roomy : (s : Sheet) (new : List Figure) → RoomIn s new → Roomy s
roomy s new r =
    let cs = s.cells in
    let xs = numbered s.next new in
    let b = below (cs ++ xs) r.sizes in
    let bc = b.cycles in
    let bs = b.steps in
    let hc = sum_append (λ (c : LiveCell). cycles_in c.figure) cs xs in
    let hs = sum_append (λ (c : LiveCell). steps_in c.figure) cs xs in
    record { cycles = omega arith; steps = omega arith }

module _ (d : Drawing) (z : Sizes d) (ix : Index) (f : ℕ) (m : Named d ix f) where
  abbrev pub row_in : ℕ
  row_in = row_of f (take d.count ix.ids)

  abbrev pub own : List Cycle
  own = cells.cycles_of (cell_at (sheet_of d) f)

  pub fits : Fits d
  fits = m.fits

  seen : Looks d ix
  seen = looks_in d z m.fits ix m.index m.rising

  pub live : row_in < d.count
  live = ltb-true row_in d.count (live_row d z fits ix m.index f ∙ face_live (cell_at (sheet_of d) f) m.face)

  rises : Rising (ids_of (sheet_of d))
  rises = subst Rising (m.index.ids ∙ ids_same d z fits) seen.rising

  has : get_or (ids_of (sheet_of d)) row_in 0 ≡ f
  has = found_has d z fits ix m.index f row_in refl live

  pub kind : get_or (kinds d) row_in 0 ≡ 3
  kind = eqb-true (get_or (kinds d) row_in 0) 3 (sym (row_face d z fits row_in live f has rises) ∙ m.face)

  -- what the functions that look the row up ask
  pub finding : (d.count ≤ 256) × ((length ix.ids ≡ 256) × Rising (take d.count ix.ids))
  finding = (fits.cells, (m.index.sizes.0, seen.rising))

  counted : Summed ix.bends ix.cycles d.count d.cycles
  counted = summed d z fits ix m.index

  pub spanning : (row : ℕ) → row ≡ row_in
      → (d.count ≤ length ix.cycles) × ((row < d.count)
      × ((total (places_of 0) (take d.count ix.cycles) ≤ length d.cycles) × ((total (places_of 0) (take d.count ix.cycles) ≤ 2048)
      × (total (places_of 1) (take (total (places_of 0) (take d.count ix.cycles)) d.cycles) ≤ 2048))))
  spanning row e =
      let k = counted in
      let l = live in
      let s = k.cycle_sum in
      let r = k.cycle_room in
      (k.cycle_rows, (omega arith, (omega arith, (omega arith, k.step_sum))))

  -- ---- where the cycles stand
  cycles_read_lem : span_of 0 ix.cycles (row_span d.count row_in) ≡ cycle_span d row_in
  cycles_read_lem =
      sym (span_take 0 ix.cycles d.count (row_span d.count row_in) (let h = live in omega arith))
      ∙ ap (λ (l : List ℕ). span_of 0 l (row_span d.count row_in)) m.index.cycles

  abbrev spans : Spans
  spans = record { cycles = cycle_span d row_in; steps = step_span d row_in }

  spans_read : spans_of ix.cycles d.count row_in d.cycles ≡ spans
  spans_read = ap (λ s. record { cycles = s; steps = span_of 1 d.cycles s }) cycles_read_lem

  own_list : own ≡ cycles_at d.cycles d.steps spans
  own_list = row_cycles d z fits row_in live f has rises

  within : Within d.cycles d.steps spans
  within =
      let a = cycles_in_use d z fits row_in live in
      let b = steps_in_use d z fits row_in live in
      record {
        cycles_size = z.cycles;
        steps_size = z.steps;
        in_cycles = omega (arith, fits.cycles);
        in_steps = omega (arith, fits.steps);
        wide = sym (width_places (take (cycle_span d row_in).count (drop (cycle_span d row_in).first d.cycles)));
      }

  pub spanned : (row : ℕ) (t : Spans) → row ≡ row_in → t ≡ spans_of ix.cycles d.count row d.cycles → Spanned d f t
  spanned row t e g =
      subst (Spanned d f) (sym (g ∙ ap (λ (n : ℕ). spans_of ix.cycles d.count n d.cycles) e ∙ spans_read))
      (record {
        within = within;
        list = sym own_list;
        few_cycles = let a = cycles_in_use d z fits row_in live in omega arith;
        few_steps = let b = steps_in_use d z fits row_in live in omega arith;
      })

  own_length : length own ≡ (cycle_span d row_in).count
  own_length =
      let w = within in
      let l = d.cycles in
      ap length own_list ∙ length_cycles (take (cycle_span d row_in).count (drop (cycle_span d row_in).first l)) (drop (step_span d row_in).first d.steps)
      ∙ length-take-le (cycle_span d row_in).count (drop (cycle_span d row_in).first l)
      (omega (arith, w.in_cycles, w.cycles_size, length-drop (cycle_span d row_in).first l))

  own_steps : total step_count own ≡ (step_span d row_in).count
  own_steps =
      let w = within in
      ap (total step_count) own_list
      ∙ list_steps (take (cycle_span d row_in).count (drop (cycle_span d row_in).first d.cycles)) (drop (step_span d row_in).first d.steps)
      (omega (arith, w.in_steps, w.steps_size, w.wide, length-drop (step_span d row_in).first d.steps))
      ∙ w.wide

  -- ---- other cycles
  pub recycled_is : (y : Figure) → sheet_with_row (sheet_of d) row_in y ≡ remade every_id (replaced f y) (sheet_of d)
  recycled_is y =
      row_replaced d z fits row_in live f has rises y
      ∙ ap (λ (l : List LiveCell). record { next = (sheet_of d).next; cells = reshape (replaced f y) l }) (sym (kept_all (sheet_of d).cells))

  in_sheet : row_in < length (sheet_of d).cells
  in_sheet = let l = live in let c = length-map (sheet_of d).cells (λ (c : LiveCell). c.id) in omega (arith, rows_in_lem)
    where
      rows_in_lem : d.count ≡ length (sheet_of d).cells
      rows_in_lem = count_is d (sheet_of d).cells (stands d z fits) z fits.cells

  own_figure : (get_or (sheet_of d).cells row_in (record { id = 0; figure = face [] })).figure ≡ face own
  own_figure =
      let x = (get_or (sheet_of d).cells row_in (record { id = 0; figure = face [] })).figure in
      let e : cell_at (sheet_of d) f ≡ some x = found_row d z fits ix m.index f row_in refl live (record { id = 0; figure = face [] }) in
      face_own x (sym (ap is_face e) ∙ m.face) ∙ ap (λ (o : Option Figure). face (cells.cycles_of o)) (sym e)

  sums : (g : Figure → ℕ) (y : Figure) → over g (remade every_id (replaced f y) (sheet_of d)).cells + g (face own) ≡ over g (sheet_of d).cells + g y
  sums g y =
      let e = ap (λ (s : Sheet). over g s.cells) (recycled_is y) in
      let o = ap g own_figure in
      let t = total_set (λ (c : LiveCell). g c.figure) (sheet_of d).cells row_in (record { id = get_or (ids_of (sheet_of d)) row_in 0; figure = y })
      (record { id = 0; figure = face [] }) in_sheet in
      omega arith

  module _ (ks : List Cycle) (r : Roomy (recycled (sheet_of d) f ks)) where
    pub spare_cycles : cycle_total d + length ks ≤ 512 + length own
    spare_cycles =
        let a = sums cycles_in (face ks) in
        let b = over_cycles (sheet_of d).cells in
        let c = cycle_total_lem d (sheet_of d).cells (stands d z fits) in
        let h = r.cycles in
        omega arith

    pub spare_steps : step_total d + total step_count ks ≤ 2048 + total step_count own
    spare_steps =
        let a = sums steps_in (face ks) in
        let b = over_steps (sheet_of d).cells in
        let c = step_total_lem d (sheet_of d).cells (stands d z fits) in
        let h = r.steps in
        omega arith

  pub replacing : (counts : List ℕ) (u : Used) (steps : List ℕ) (row : ℕ) → row ≡ row_in → Building counts u steps
      → Roomy (recycled (sheet_of d) f (built counts u steps))
      → Replaces d row counts u.cycles steps u.steps
  replacing counts u steps row e b r =
      subst (λ (n : ℕ). Replaces d n counts u.cycles steps u.steps) (sym e)
      (let ks = built counts u steps in
      let a = spare_cycles ks r in
      let c = spare_steps ks r in
      let oc = own_length in
      let os = own_steps in
      let lk = length_cycles (take u.cycles counts) steps ∙ length-take-le u.cycles counts b.cycle_room in
      let sk = list_steps (take u.cycles counts) steps (omega (arith, b.width, b.step_room)) in
      let w = b.width in
      record {
        fits = fits;
        live = live;
        face = kind;
        in_counts = b.cycle_room;
        in_steps = b.step_room;
        width = w;
        cycle_room = omega arith;
        step_room = omega arith;
      })

  pub replaced_with : (counts : List ℕ) (u : Used) (steps : List ℕ) (row : ℕ) → row ≡ row_in → (t : Sheet)
      → t ≡ sheet_with_row (sheet_of d) row (face (built counts u steps))
      → t ≡ recycled (sheet_of d) f (built counts u steps)
  replaced_with counts u steps row e t g =
      g ∙ ap (λ (n : ℕ). sheet_with_row (sheet_of d) n (face (built counts u steps))) e ∙ recycled_is (face (built counts u steps))
