-- What is found before an edge is cut, open or closed. Assumes nothing.
use Prim.Native.Nat.{ℕ, zero, suc, ◌+◌, ◌-◌, ◌/◌, ◌%◌, ◌<◌, ◌≤◌}
use native.Mathlib.Omega.{arith}
use mathlib.Core.Path.{◌≡◌, refl, sym, ap, ap₂, ◌∙◌, subst}
use mathlib.Core.Bool.{Bool, true, false, ◌||◌, false≢true}
use mathlib.Core.Option.{Option}
use lib.Dec.{eqb}
use lib.ListN.{length, get_or, take}
use borrow.Author.Tests.{ltb-true, ltb-false, leb-true, leb-false, ne_eqb}
use Rattle.std.specs.Prelude.{Ok, Err}
use Rattle.coordinate.specs.declared.Position.{Position}
use Rattle.complex.specs.Lists.{total}
use Rattle.complex.specs.Cells.{Figure, Sheet, cell_at, is_open, is_closed, is_live}
use Rattle.complex.specs.Decode.{cut_edge}
use Rattle.complex.specs.Commands.{question4}
use Rattle.complex.specs.Answer.{no, asked3}
use Rattle.complex.proofs.Asked.{no_4}
use Rattle.store.specs.Index.{Rising, row_of}
use Rattle.store.specs.View.{sheet_of}
use Rattle.store.specs.Edits.{places_of}
use Rattle.sound.specs.Looks.{index_value}
use Rattle.sound.proofs.Meaning.{open_at, closed_at}
use Rattle.answer.specs.declared.Question.TheVariants.{Live, Exists}
use Rattle.answer.specs.declared.Totals.{Totals}
use Rattle.answer.specs.Sizes.{sized, more_less, changed_by}
use Rattle.answer.specs.Late.{Small, sizes_by, late_no}
use Rattle.answer.proofs.Asked.{Asked}
use Rattle.ask_cut_edge.specs.Cuts.{EdgeCuts, OpenEnds, CutCounted}
use Rattle.ask_cut_edge.proofs.Found.{cut_bytes, base_asks}
use Rattle.ask_cut_edge.proofs.OpenAnswer as opened
use Rattle.ask_cut_edge.proofs.ClosedAnswer as closed
use Rattle.lent.specs.Arrays.{Arrays, held_by, rows_by}
use Rattle.lent.specs.Replies.{Ready}
use Rattle.lent.proofs.Sums.{ready_drawing, ready_sizes, ready_indexes, ready_looks, ready_totals}
use Rattle.lent.proofs.Finds.{ready_finds}
use Rattle.kind_cut_plan.specs.Kinds.{new_by, new_on, edge_on, exists_on, uses_on, place_on}
use Rattle.kind_cut_plan.specs.Plans.{Planned}
use Rattle.kind_cut_plan.proofs.Late.{late_refuses}
use Rattle.kind_cut_plan.proofs.OpenPlans as opens
use Rattle.kind_cut_plan.proofs.RingPlans as rings

-- ---- the kind of a cell
edge_kind : (k : ℕ) (c : Option Figure) → eqb k 1 ≡ is_open c → eqb k 2 ≡ is_closed c → (new_by k ≡ 0 → ⊥)
    → (edge_on (eqb k 1) c ≡ true) × (new_by k ≡ new_on (eqb k 1))
edge_kind zero c f g nz = absurd (nz refl)
edge_kind (suc zero) c f g nz = (sym f, refl)
edge_kind (suc (suc zero)) c f g nz = (sym g, refl)
edge_kind (suc (suc (suc k))) c f g nz = absurd (nz refl)

no_kind : (k : ℕ) → new_by k ≡ 0 → (eqb k 1 ≡ false) × (eqb k 2 ≡ false)
no_kind zero h = (refl, refl)
no_kind (suc zero) h = absurd (omega (arith, h))
no_kind (suc (suc zero)) h = absurd (omega (arith, h))
no_kind (suc (suc (suc k))) h = (ne_eqb (suc (suc (suc k))) 1 (λ z. omega (arith, z)), ne_eqb (suc (suc (suc k))) 2 (λ z. omega (arith, z)))

no_edge : (s : Sheet) (e q : ℕ) → is_open (cell_at s e) ≡ false → is_closed (cell_at s e) ≡ false → asked3 s (cut_edge e q) ≡ no 4 s
unfolding question4
no_edge s e q a b = no_4 s (cut_edge e q) (cut_bytes e q) (ap₂ ◌||◌ a b)

new_most : (o : Bool) → (1 ≤ new_on o) × (new_on o ≤ 3)
new_most true = (omega arith, omega arith)
new_most false = (omega arith, omega arith)

-- ---- what is found before question 7 of the edge e, open where o, at place q
pub record Found (a : Arrays) (t : Totals) (e q : ℕ) (o : Bool) (row m uses r : ℕ) : Type 0 where
  pub ready : Ready a t
  pub edge : edge_on o (cell_at (sheet_of (held_by a)) e) ≡ true
  pub at : row ≡ row_of e (take a.count a.ids)
  pub own : m ≡ get_or a.bends row 0
  pub exists : exists_on o m q ≡ true
  pub counted : uses ≡ uses_on o e (take t.cycles a.cycles) a.steps
  pub late : r ≡ late_no a.next (new_on o) (changed_by (sizes_by t) (more_less (sized (new_on o - 1) 0 uses 0) (sized 0 0 0 (q % 2))))

module _ (a : Arrays) (t : Totals) (y : Ready a t) (e q : ℕ) where
  abbrev Is : Bool → Type 0
  Is o = edge_on o (cell_at (sheet_of (held_by a)) e) ≡ true

  module _ (k : ℕ) (ek : k ≡ index_value 4 (held_by a) (rows_by a) a.kinds e) where
    open_is : eqb k 1 ≡ is_open (cell_at (sheet_of (held_by a)) e)
    open_is = ap (λ (n : ℕ). eqb n 1) ek ∙ open_at (ready_looks a t y) e

    closed_is : eqb k 2 ≡ is_closed (cell_at (sheet_of (held_by a)) e)
    closed_is = ap (λ (n : ℕ). eqb n 2) ek ∙ closed_at (ready_looks a t y) e

    -- 4
    pub kind_no : new_by k ≡ 0 → Planned a e q (Err Live)
    kind_no h = no_edge (sheet_of (held_by a)) e q (sym open_is ∙ (no_kind k h).0) (sym closed_is ∙ (no_kind k h).1)

    pub kind_yes : (new_by k ≡ 0 → ⊥) → (edge_on (eqb k 1) (cell_at (sheet_of (held_by a)) e) ≡ true) × (new_by k ≡ new_on (eqb k 1))
    kind_yes = edge_kind k (cell_at (sheet_of (held_by a)) e) open_is closed_is

  pub counts_in : CutCounted a.cycles a.steps a.next t
  counts_in = opened.counted_in (held_by a) (ready_sizes a t y) (ready_drawing a t y) (rows_by a) (ready_indexes a t y) t (ready_totals a t y)

  uses_in_lem : (o : Bool) → uses_on o e (take t.cycles a.cycles) a.steps ≤ 2048
  uses_in_lem true = omega (arith, opened.uses_most e (take t.cycles a.cycles) a.steps, counts_in.steps_in)
  uses_in_lem false = omega arith

  -- what cut_asked asks
  pub late_asks : (o : Bool) (new uses : ℕ) → new ≡ new_on o → uses ≡ uses_on o e (take t.cycles a.cycles) a.steps
      → (a.next ≤ 65536) × ((1 ≤ new) × ((new ≤ 65536) × (Small t × (uses ≤ 2048))))
  late_asks o new uses en eu =
      let m = new_most o in
      (counts_in.next_in, (omega (arith, en, m.0), (omega (arith, en, m.1), (counts_in.small, omega (arith, eu, uses_in_lem o)))))

  live : (o : Bool) → Is o → is_live (cell_at (sheet_of (held_by a)) e) ≡ true
  live true h = opened.open_live (held_by a) (ready_sizes a t y) (ready_drawing a t y) (rows_by a) (ready_indexes a t y) t (ready_totals a t y) e q h
  live false h = closed.closed_live (held_by a) (ready_sizes a t y) (ready_drawing a t y) e q h

  module _ (row : ℕ) (er : row ≡ row_of e (take a.count a.ids)) where
    pub base_in : (o : Bool) → Is o
        → (row ≤ length a.bends) × (total (places_of 0) (take row a.bends) ≤ 2048)
    base_in o h = base_asks (held_by a) (ready_sizes a t y) (ready_drawing a t y) (rows_by a) (ready_indexes a t y) e row er (live o h)

    -- 5
    pub place_no : (o : Bool) → Is o → (m : ℕ) → m ≡ get_or a.bends row 0 → exists_on o m q ≡ false → Planned a e q (Err Exists)
    place_no true h m em g =
        opened.no_place (held_by a) (ready_sizes a t y) (ready_drawing a t y) (rows_by a) (ready_indexes a t y) t (ready_totals a t y) e q h row er m em
        (leb-false (q / 2 + q % 2) m g)
    place_no false h m em g =
        closed.no_place (held_by a) (ready_sizes a t y) (ready_drawing a t y) e q h (rows_by a) (ready_indexes a t y) row er m em (ltb-false (q / 2) m g)

module _ (a : Arrays) (t : Totals) (e q row m uses r : ℕ) where
  -- the late number by the uses as they are counted
  open_late : (k : Found a t e q true row m uses r)
      → r ≡ late_no a.next 3 (changed_by (sizes_by t) (more_less (sized 2 0 (uses_on true e (take t.cycles a.cycles) a.steps) 0) (sized 0 0 0 (q % 2))))
  open_late k = k.late ∙ ap (λ (n : ℕ). late_no a.next 3 (changed_by (sizes_by t) (more_less (sized 2 0 n 0) (sized 0 0 0 (q % 2))))) k.counted

  ring_late : (k : Found a t e q false row m uses r) → r ≡ late_no a.next 2 (changed_by (sizes_by t) (more_less (sized 1 0 0 0) (sized 0 0 0 (q % 2))))
  ring_late k = k.late ∙ ap (λ (n : ℕ). late_no a.next 2 (changed_by (sizes_by t) (more_less (sized 1 0 n 0) (sized 0 0 0 (q % 2))))) k.counted

  pass : (o : Bool) → Found a t e q o row m uses r → Asked (held_by a) (cut_edge e q) r
  pass true k =
      let y = k.ready in
      opened.asked (held_by a) (ready_sizes a t y) (ready_drawing a t y) (rows_by a) (ready_indexes a t y) t (ready_totals a t y) e q k.edge
      row k.at m k.own (leb-true (q / 2 + q % 2) m k.exists) r (open_late k)
  pass false k =
      let y = k.ready in
      closed.asked (held_by a) (ready_sizes a t y) (ready_drawing a t y) e q k.edge (rows_by a) (ready_indexes a t y)
      row k.at m k.own (ltb-true (q / 2) m k.exists) t (ready_totals a t y) r (ring_late k)

  -- 7 and 8
  pub late_no_lem : (o : Bool) → Found a t e q o row m uses r → (r ≡ 0 → ⊥) → asked3 (sheet_of (held_by a)) (cut_edge e q) ≡ no r (sheet_of (held_by a))
  late_no_lem o k nz = late_refuses a k.ready.long k.ready.sound e q r (pass o k) nz

  module _ (r0 : r ≡ 0) (base : ℕ) (eb : base ≡ total (places_of 0) (take row a.bends)) where
    cuts : (o : Bool) → Found a t e q o row m uses r → EdgeCuts (held_by a) e row base m q
    cuts true k =
        let y = k.ready in
        opened.open_cuts (held_by a) (ready_sizes a t y) (ready_drawing a t y) (rows_by a) (ready_indexes a t y) t (ready_totals a t y) e q k.edge
        row k.at m k.own (leb-true (q / 2 + q % 2) m k.exists) r (open_late k) r0 base eb
    cuts false k =
        let y = k.ready in
        closed.closed_cuts (held_by a) (ready_sizes a t y) (ready_drawing a t y) e q k.edge (rows_by a) (ready_indexes a t y)
        row k.at m k.own (ltb-true (q / 2) m k.exists) t (ready_totals a t y) r (ring_late k) r0 base eb

    module _ (u f : ℕ) (eu : u ≡ get_or a.starts row 0) (ef : f ≡ get_or a.ends row 0) where
      ends : (k : Found a t e q true row m uses r) → OpenEnds (held_by a) e u f
      ends k = opens.ends_at a k.ready.long k.ready.sound e k.edge q t k.ready.sums row k.at m k.own u f eu ef

      ends_in_lem : (o : Bool) → Found a t e q o row m uses r → o ≡ true
          → (row_of u (take a.count a.ids) < 256) × (row_of f (take a.count a.ids) < 256)
      ends_in_lem true k z = opens.rows_below a k.ready.long k.ready.sound e k.edge q row base m (cuts true k) u f (ends k)
      ends_in_lem false k z = absurd (false≢true z)

      ring_in : (o : Bool) → Found a t e q o row m uses r → o ≡ false → q / 2 < m
      ring_in true k z = absurd (false≢true (sym z))
      ring_in false k z = ltb-true (q / 2) m k.exists

      -- what place_at asks
      pub place_asks : (o : Bool) → Found a t e q o row m uses r
          → (a.count ≤ 256) × ((length a.ids ≡ 256) × (Rising (take a.count a.ids)
          × ((o ≡ true → (row_of u (take a.count a.ids) < 256) × (row_of f (take a.count a.ids) < 256))
          × ((base + m ≤ 2048) × (o ≡ false → q / 2 < m)))))
      place_asks o k =
          let n = ready_finds a t k.ready in
          (n.0, (n.1.0, (n.1.1, (ends_in_lem o k, ((cuts o k).range, ring_in o k)))))

      pub planned : (o : Bool) → Found a t e q o row m uses r
          → (p : Position) → p ≡ place_on o (take a.count a.ids) a.px a.py a.bx a.by u f base m q
          → Planned a e q (Ok (record {
            two = o;
            row = row;
            base = base;
            m = m;
            s = u;
            f = f;
            cycles = t.cycles;
            steps = t.steps;
            bends = t.bends;
            uses = uses;
            p = p;
          }))
      planned true k p ep =
          opens.planned a k.ready.long k.ready.sound e k.edge q t k.ready.sums row k.at m k.own
          (leb-true (q / 2 + q % 2) m k.exists) r (open_late k) r0 base eb u f eu ef p
          (opens.placed_in a k.ready.long k.ready.sound e k.edge q row base m (cuts true k) u f (ends k) p ep) uses k.counted
      planned false k p ep =
          rings.planned a t k.ready e q k.edge row k.at m k.own (ltb-true (q / 2) m k.exists)
          (subst (Asked (held_by a) (cut_edge e q)) r0 (pass false k)) base eb (cuts false k) u f uses k.counted p ep
