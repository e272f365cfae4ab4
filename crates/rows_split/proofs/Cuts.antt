-- A face cut along an open edge: what question 5 and the room for the result leave, and the result. Assumes nothing.
use Prim.Native.Nat.{ℕ, ◌+◌, ◌≤◌, ◌<◌}
use mathlib.Core.Path.{◌≡◌, refl, ap, ap₂, sym, subst, subst₂, ◌∙◌}
use mathlib.Core.Bool.{Bool, true, false, not, cond, ◌&&◌}
use mathlib.Core.List.{List, [], ◌∷◌, ◌++◌}
use native.Mathlib.Omega.{arith}
use borrow.Author.Tests.{eqb-false}
use lib.Dec.{T, eqb, ltb, ltb→lt}
use lib.ListN.{length, drop, get_or, take, length-drop}
use Rattle.bends.specs.Bends.{positions_at}
use Rattle.complex.specs.Lists.{total, holds, places, is_empty}
use Rattle.complex.specs.Cells.{Cycle, Figure, vertex, face, LiveCell, Sheet, Look, cell_at, origin}
use Rattle.complex.specs.Cells as cells
use Rattle.complex.specs.Edits.{numbered, every_id, replaced}
use Rattle.complex.specs.Sound.{step_count, cycles_in, steps_in, over}
use Rattle.complex.specs.Cut.{no_cycle, corner_exists}
use Rattle.complex.proofs.Bools.{truth, both}
use Rattle.complex.proofs.Sums.{total_set}
use Rattle.store.specs.declared.Drawing.{Drawing}
use Rattle.store.specs.declared.Index.{Index}
use Rattle.store.specs.Sizes.{Sizes}
use Rattle.store.specs.Sheet.{ids_of}
use Rattle.store.specs.View.{sheet_of}
use Rattle.store.proofs.Lists.{sum_append}
use Rattle.store.proofs.Grow.{next_is}
use Rattle.store.proofs.Stands.{stands, count_is}
use Rattle.rows_spans.specs.declared.Spans.{Spans}
use Rattle.rows_spans.specs.Building.{RoomFor}
use Rattle.rows_new.specs.Appends.{remade, RoomIn}
use Rattle.rows_new.proofs.Rooms.{below}
use Rattle.decode_parts.specs.Lists.{numbers_read}
use Rattle.rows_corners.specs.Faces.{Named, Spanned, cycles_at, recycled}
use Rattle.rows_corners.proofs.Rows.{row_in, live, recycled_is, list_steps, roomy, spare_cycles, spare_steps}
use Rattle.rows_corners.proofs.Lists.{at_length}
use Rattle.rows_split.specs.Along.{chord, near_side, far_side, bridge, old_side, new_side, Along, Cutting}
use Rattle.rows_split.specs.Parts.{RoomForBoth}
use Rattle.rows_split.proofs.Sizes.{sides_few, bridge_few}

-- ---- what question 5 leaves
module _ {d : Drawing} {ix : Index} {script : List ℕ} {f c1 s1 c2 s2 bends first moved place : ℕ}
    (g : Along d ix script f c1 s1 c2 s2 bends first moved place) where
  abbrev pub own : List Cycle
  own = cells.cycles_of (cell_at (sheet_of d) f)

  abbrev pub ms : List ℕ
  ms = numbers_read script place moved

  abbrev look : Look
  look = cell_at (sheet_of d)

  abbrev at_first : Bool
  at_first = corner_exists look (get_or own c1 no_cycle) s1

  abbrev at_second : Bool
  at_second = corner_exists look (get_or own c2 no_cycle) s2

  abbrev rest : Bool
  rest = cond (eqb c1 c2) (places 0 ms (length own) && not (holds c1 ms)) (is_empty ms)

  after_first : T (ltb c1 (length own)) × T (ltb c2 (length own) && (at_first && (at_second && rest)))
  after_first = both (ltb c1 (length own)) (ltb c2 (length own) && (at_first && (at_second && rest))) (truth g.corners)

  after_second : T (ltb c2 (length own)) × T (at_first && (at_second && rest))
  after_second = both (ltb c2 (length own)) (at_first && (at_second && rest)) after_first.1

  after_corner : T at_first × T (at_second && rest)
  after_corner = both at_first (at_second && rest) after_second.1

  after_corners : T at_second × T rest
  after_corners = both at_second rest after_corner.1

  pub in_first : c1 < length own
  in_first = ltb→lt c1 (length own) after_first.0

  pub in_second : c2 < length own
  in_second = ltb→lt c2 (length own) after_second.0

  pub at_first_lem : T at_first
  at_first_lem = after_corner.0

  pub at_second_lem : T at_second
  at_second_lem = after_corners.0

  -- the moved cycles, where there is one cycle
  pub moves : eqb c1 c2 ≡ true → T (places 0 ms (length own)) × T (not (holds c1 ms))
  moves e =
      both (places 0 ms (length own)) (not (holds c1 ms))
      (subst (λ (q : Bool). T (cond q (places 0 ms (length own) && not (holds c1 ms)) (is_empty ms))) e after_corners.1)

-- ---- the steps that stand at the spans of a face
module _ {d : Drawing} {f : ℕ} {t : Spans} (s : Spanned d f t) where
  listed_steps : total step_count (cycles_at d.cycles d.steps t) ≡ t.steps.count
  listed_steps =
      let w = s.within in
      list_steps (take t.cycles.count (drop t.cycles.first d.cycles)) (drop t.steps.first d.steps)
      (omega (arith, w.in_steps, w.steps_size, w.wide, length-drop t.steps.first d.steps))
      ∙ w.wide

-- ---- what the room for the result leaves
module _ {d : Drawing} {ix : Index} {f : ℕ} {t : Spans} (z : Sizes d) (n : Named d ix f) (s : Spanned d f t) (ks : List Cycle) (new : List Figure)
    (r : RoomIn (recycled (sheet_of d) f ks) new) where
  cycles_most_lem : length ks ≤ 512
  cycles_most_lem =
      let a = spare_cycles d z ix f n ks (roomy (recycled (sheet_of d) f ks) new r) in
      let l = sym (ap length s.list) ∙ at_length d.cycles d.steps t s.within in
      omega (arith, s.few_cycles)

  steps_most_lem : total step_count ks ≤ 2048
  steps_most_lem =
      let a = spare_steps d z ix f n ks (roomy (recycled (sheet_of d) f ks) new r) in
      let e = ap (total step_count) (sym s.list) in
      let l = listed_steps s in
      omega (arith, s.few_steps)

  pub list_takes : RoomFor 512 2048 ks
  list_takes = record { few_counts = omega arith; few_steps = omega arith; cycles = cycles_most_lem; steps = steps_most_lem }

-- what a face gets counts among the cells with it
got : {d : Drawing} {ix : Index} {f : ℕ} → Sizes d → Named d ix f → (g : Figure → ℕ) → g (vertex origin) ≡ 0 → (y : Figure)
    → g y ≤ over g (remade every_id (replaced f y) (sheet_of d)).cells
got {d} {ix} {f} z n g e0 y =
    let cs = (sheet_of d).cells in
    let row = row_in d z ix f n in
    let none : LiveCell = record { id = 0; figure = vertex origin } in
    let h : row < length cs = omega (arith, live d z ix f n, count_is d cs (stands d z n.fits) z n.fits.cells) in
    let a = total_set (λ (c : LiveCell). g c.figure) cs row (record { id = get_or (ids_of (sheet_of d)) row 0; figure = y }) none h in
    let b = total_set (λ (c : LiveCell). g c.figure) cs row none none h in
    let e = ap (λ (s : Sheet). over g s.cells) (recycled_is d z ix f n y) in
    omega arith

-- the cycles of a face and those of a new one
both_take : {d : Drawing} {ix : Index} {f : ℕ} → Sizes d → Named d ix f → (ks ls : List Cycle) (x : Figure)
    → RoomIn (recycled (sheet_of d) f ks) (x ∷ face ls ∷ []) → RoomForBoth 512 2048 ks ls
both_take {d} {ix} {f} z n ks ls x r =
    let s = recycled (sheet_of d) f ks in
    let xs = numbered s.next (x ∷ face ls ∷ []) in
    let b = below (s.cells ++ xs) r.sizes in
    let hc = sum_append (λ (c : LiveCell). cycles_in c.figure) s.cells xs in
    let hs = sum_append (λ (c : LiveCell). steps_in c.figure) s.cells xs in
    let bc = b.cycles in
    let bs = b.steps in
    let kc = got z n cycles_in refl (face ks) in
    let ks' = got z n steps_in refl (face ks) in
    record { few_counts = omega arith; few_steps = omega arith; cycles = omega arith; steps = omega arith }

-- ---- the lists
module _ {d : Drawing} {ix : Index} {script : List ℕ} {f c1 s1 c2 s2 bends first moved place : ℕ} (z : Sizes d)
    (r : Cutting d ix script f c1 s1 c2 s2 bends first moved place) {t : Spans} (s : Spanned d f t) where
  abbrev cut : Along d ix script f c1 s1 c2 s2 bends first moved place
  cut = r.asked

  abbrev edge : Figure
  edge = chord (cell_at (sheet_of d)) (own cut) c1 s1 c2 s2 (positions_at script first bends)

  abbrev ks : List Cycle
  ks = cycles_at d.cycles d.steps t

  -- by whether the corners are of one cycle
  abbrev old_by : Bool → ℕ → List Cycle → List Cycle
  old_by q e l = cond q (near_side e c1 s1 s2 (ms cut) l) (bridge e c1 s1 c2 s2 l)

  abbrev new_by : Bool → ℕ → List Cycle → List Cycle
  new_by q e l = cond q (far_side e c1 s1 s2 (ms cut) l) []

  lists_as : (g : ℕ → List Cycle → List Cycle) → g d.next ks ≡ g (sheet_of d).next (own cut)
  lists_as g = ap₂ g (sym (next_is d)) s.list

  pub old_list_lem : old_side d.next c1 s1 c2 s2 (ms cut) ks ≡ old_side (sheet_of d).next c1 s1 c2 s2 (ms cut) (own cut)
  old_list_lem = lists_as (old_by (eqb c1 c2))

  pub new_list_lem : new_side d.next c1 s1 c2 s2 (ms cut) ks ≡ new_side (sheet_of d).next c1 s1 c2 s2 (ms cut) (own cut)
  new_list_lem = lists_as (new_by (eqb c1 c2))

  -- the arrays of a drawing have room for both
  pub large_room : RoomForBoth 512 2048 (old_side d.next c1 s1 c2 s2 (ms cut) ks) (new_side d.next c1 s1 c2 s2 (ms cut) ks)
  large_room = subst₂ (RoomForBoth 512 2048) (sym old_list_lem) (sym new_list_lem) (go (eqb c1 c2) r.room)
    where
      go : (q : Bool) → RoomIn (recycled (sheet_of d) f (old_by q (sheet_of d).next (own cut)))
          (edge ∷ cond q (face (far_side (sheet_of d).next c1 s1 s2 (ms cut) (own cut)) ∷ []) [])
          → RoomForBoth 512 2048 (old_by q (sheet_of d).next (own cut)) (new_by q (sheet_of d).next (own cut))
      go true x = both_take z cut.named _ _ edge x
      go false x =
          let g = list_takes z cut.named s _ (edge ∷ []) x in
          let gc = g.cycles in
          let gs = g.steps in
          record { few_counts = g.few_counts; few_steps = g.few_steps; cycles = omega arith; steps = omega arith }

  -- and so have arrays with room for a cycle and two steps more than the face has
  pub small_room : {n m : ℕ} → n ≤ 512 → m ≤ 2048 → t.cycles.count < n → t.steps.count + 2 ≤ m
      → RoomForBoth n m (old_side d.next c1 s1 c2 s2 (ms cut) ks) (new_side d.next c1 s1 c2 s2 (ms cut) ks)
  small_room {n} {m} hn hm hc hs =
      let g = go (eqb c1 c2) refl in
      let l = at_length d.cycles d.steps t s.within in
      let k = listed_steps s in
      let a = g.0 in
      let b = g.1 in
      record { few_counts = hn; few_steps = hm; cycles = omega arith; steps = omega arith }
    where
      here : {c : ℕ} → c < length (own cut) → c < length ks
      here {c} h = subst (λ (l : List Cycle). c < length l) (sym s.list) h

      go : (q : Bool) → eqb c1 c2 ≡ q
          → (length (old_by q d.next ks) + length (new_by q d.next ks) ≤ length ks + 1)
          × (total step_count (old_by q d.next ks) + total step_count (new_by q d.next ks) ≤ total step_count ks + 2)
      go true e =
          let y = moves cut e in
          sides_few ks d.next c1 (here (in_first cut)) s1 s2 (ms cut)
          (subst (λ (l : List Cycle). T (places 0 (ms cut) (length l))) (sym s.list) y.0) y.1
      go false e =
          let y = bridge_few ks d.next c1 (here (in_first cut)) s1 s2 c2 (here (in_second cut)) (eqb-false c1 c2 e) in
          let a = y.0 in
          let b = y.1 in
          (omega arith, omega arith)
