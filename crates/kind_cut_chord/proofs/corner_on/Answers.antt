-- `corner_on` meets its contract. Assumes nothing.
use native.Mathlib.Omega.{arith}
use Prim.Native.Nat.{ℕ, ◌+◌, ◌<◌, ◌≤◌}
use mathlib.Core.Path.{◌≡◌, refl}
use mathlib.Core.Bool.{false}
use mathlib.Core.List.{List, []}
use lib.Dec.{eqb}
use lib.ListN.{take, drop, get_or}
use Rattle.store.specs.declared.Index.{Index}
use Rattle.store.specs.View.{width_sum}
use Rattle.rows_spans.specs.declared.Spans.{Spans}
use Rattle.rows_spans.proofs.Building.{width_some}
use Rattle.rows_corners.specs.Faces.{Within}
use Rattle.rows_corners.proofs.Arcs.{corner_lone, corner_none, corner_found}
use Rattle.rows_split.proofs.Places.{place_room}
use Rattle.ask_cut_along.proofs.Corners.{no_cycle_lem, place_asks, corner_at_lem}
use Rattle.kind_cut_chord.proofs.corner_on.Goals as goal

-- the rows as an index
abbrev rows : List ℕ → List ℕ → Index
rows ids kinds = record { ids = ids; kinds = kinds; starts = []; ends = []; bends = []; cycles = [] }

-- the steps of cycle i, and where they begin
abbrev number : List ℕ → Spans → ℕ → ℕ
number cycles t i = get_or cycles (t.cycles.first + i) 0

abbrev begin : List ℕ → Spans → ℕ → ℕ
begin cycles t i = t.steps.first + width_sum (take i (drop t.cycles.first cycles))

-- the step lies in the array
inside : {cycles steps : List ℕ} {t : Spans} → Within cycles steps t → (i : ℕ) → i < t.cycles.count → {s p w : ℕ} → s < number cycles t i
    → p ≡ begin cycles t i → w ≡ s → p + w < 2048
inside {cycles} {steps} {t} x i h {s} {p} {w} hs ep ew =
    let r = place_room cycles steps t x i h in
    let d = width_some (number cycles t i) (omega (arith, hs)) in
    omega (arith, r, d, hs, ep, ew)

pub returns-then-k-i : goal.returns-then-k-i
returns-then-k-i c =
    let a = c.args in
    no_cycle_lem a.cycles.now a.steps.now a.spans a.c c.wide-i.result c.wide-i.ensures (rows a.ids.now a.kinds.now) a.n c.if-k-i.true a.s

pub returns-then-m-eq0 : goal.returns-then-m-eq0
returns-then-m-eq0 c =
    let a = c.args in
    let i = c.wide-i.result in
    corner_at_lem a.cycles.now a.steps.now a.spans a.c i c.wide-i.ensures (rows a.ids.now a.kinds.now) a.n c.requires.within
    c.if-k-i.false (begin a.cycles.now a.spans i) refl a.s (eqb a.s 0)
    (corner_lone (rows a.ids.now a.kinds.now) a.n (number a.cycles.now a.spans i) a.steps.now (begin a.cycles.now a.spans i) a.s c.if-m-eq0.true)

pub returns-then-m-s : goal.returns-then-m-s
returns-then-m-s c =
    let a = c.args in
    let i = c.wide-i.result in
    corner_at_lem a.cycles.now a.steps.now a.spans a.c i c.wide-i.ensures (rows a.ids.now a.kinds.now) a.n c.requires.within
    c.if-k-i.false (begin a.cycles.now a.spans i) refl a.s false
    (corner_none (rows a.ids.now a.kinds.now) a.n (number a.cycles.now a.spans i) a.steps.now (begin a.cycles.now a.spans i) a.s c.if-m-eq0.false
    c.if-m-s.true)

pub cycle_place-requires : goal.cycle_place-requires
cycle_place-requires c =
    let a = c.args in
    let whole = place_asks a.cycles.now a.steps.now a.spans a.c c.wide-i.result c.wide-i.ensures (rows a.ids.now a.kinds.now) a.n c.requires.within
    c.if-k-i.false in record {
      cycles_len = whole.0;
      c_bound = whole.1.0;
      cycles_bound = whole.1.1;
    }

pub overflow_add-at : goal.overflow_add-at
overflow_add-at c =
    let h = inside c.requires.within c.wide-i.result c.if-k-i.false c.if-m-s.false c.cycle_place.ensures c.wide.ensures in
    omega (arith, h)

pub offset_bounds-steps-at : goal.offset_bounds-steps-at
offset_bounds-steps-at c =
    let h = inside c.requires.within c.wide-i.result c.if-k-i.false c.if-m-s.false c.cycle_place.ensures c.wide.ensures in
    omega (arith, h)

pub bounds-steps-at : goal.bounds-steps-at
bounds-steps-at c =
    let h = inside c.requires.within c.wide-i.result c.if-k-i.false c.if-m-s.false c.cycle_place.ensures c.wide.ensures in
    omega (arith, h)

pub value_at-kind-requires : goal.value_at-kind-requires
value_at-kind-requires c =
    let r = c.requires.ruled in
    record {
      n_bound = r.few;
      ids_len = r.ids;
      values_len = r.values;
      rising = r.rising;
    }

pub returns : goal.returns
returns c =
    let a = c.args in
    let i = c.wide-i.result in
    corner_at_lem a.cycles.now a.steps.now a.spans a.c i c.wide-i.ensures (rows a.ids.now a.kinds.now) a.n c.requires.within
    c.if-k-i.false c.cycle_place.result c.cycle_place.ensures a.s
    (eqb c.value_at-kind.result 1)
    (corner_found (rows a.ids.now a.kinds.now) a.n (number a.cycles.now a.spans i) a.steps.now c.cycle_place.result a.s c.if-m-eq0.false
    c.if-m-s.false c.wide.result c.value_at-kind.result c.wide.ensures c.value_at-kind.ensures)
