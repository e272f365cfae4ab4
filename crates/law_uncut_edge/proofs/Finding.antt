-- Where a cycle of a face stands in the arrays, and the rows of cells that go. Assumes nothing.
use Prim.Native.Nat.{ℕ, zero, suc, ◌+◌, ◌<◌, ◌≤◌}
use mathlib.Core.Path.{◌≡◌, refl, ap, ap₂, sym, ◌∙◌}
use mathlib.Core.Bool.{Bool, cond}
use mathlib.Core.List.{List}
use native.Mathlib.Omega.{arith}
use lib.ListN.{length, take, drop, get_or, length-drop}
use lib.Seq.{length-take-le, get_or-take, get_or-drop}
use Rattle.complex.specs.Cells.{Cycle, cell_at, cycles_of, steps_of, head_of}
use Rattle.complex.specs.Cut.{no_cycle}
use Rattle.store.specs.declared.Drawing.{Drawing}
use Rattle.store.specs.declared.Index.{Index}
use Rattle.store.specs.Index.{row_of}
use Rattle.store.specs.Sizes.{Sizes}
use Rattle.store.specs.View.{sheet_of, width, width_sum, cycle_of}
use Rattle.store.proofs.Lists.{sum_le}
use Rattle.sound.specs.Looks.{Looks}
use Rattle.rows_spans.specs.declared.Used.{Used}
use Rattle.rows_spans.specs.declared.Spans.{Spans}
use Rattle.store.proofs.Encode.{cycle_at_lem}
use Rattle.rows_gone.proofs.Dropped.{live_below, row_among}
use Rattle.rows_corners.specs.Faces.{Spanned}
use Rattle.rows_corners.proofs.Lists.{at_length}
use Rattle.rows_reface.specs.Needs.{Refaced}
use Rattle.rows_stretches.specs.declared.Place.{Place}
use Rattle.rows_stretches.specs.Paths.{steps_at}
use Rattle.rows_stretches.proofs.Places.{cycle_is}
use Rattle.law_uncut_edge.specs.Needs.{head_by, Has, CycleFound, Going}

some_steps : (n : ℕ) (st : List ℕ) → 1 ≤ length (steps_of (cycle_of n st)) → 1 ≤ n
some_steps zero st h = absurd (omega arith)
some_steps (suc n) st h = omega arith

-- ---- a cycle of a face
module _ (d : Drawing) (ix : Index) (f c : ℕ) (h : Has d ix f c) (t : Spans) (s : Spanned d f t) where
  below : c < t.cycles.count
  below =
      let n = at_length d.cycles d.steps t s.within in
      let m = ap length s.list in
      omega (arith, h.cycle)

  pub index_in : t.cycles.first + c < 512
  index_in = let b = below in omega (arith, s.within.in_cycles)

  pub place_asks : (length d.cycles ≡ 512) × ((t.cycles.first + c ≤ 512)
      × (t.steps.first + width_sum (take c (drop t.cycles.first d.cycles)) ≤ 2048))
  place_asks =
      let w = s.within in
      let b = below in
      let m = sum_le width (drop t.cycles.first d.cycles) c t.cycles.count (omega arith) in
      (w.cycles_size, (omega (arith, w.in_cycles), omega (arith, w.wide, w.in_steps)))

  module _ (at m : ℕ) (ea : at ≡ t.steps.first + width_sum (take c (drop t.cycles.first d.cycles)))
      (em : m ≡ get_or d.cycles (t.cycles.first + c) 0) where
    counted : 1 ≤ m
    counted =
        let w = s.within in
        let b = below in
        let ns = drop t.cycles.first d.cycles in
        let l = length-take-le t.cycles.count ns (omega (arith, w.in_cycles, w.cycles_size, length-drop t.cycles.first d.cycles)) in
        let st = drop (width_sum (take c (take t.cycles.count ns))) (drop t.steps.first d.steps) in
        let n : get_or (take t.cycles.count ns) c 0 ≡ m = get_or-take t.cycles.count ns c 0 b ∙ get_or-drop t.cycles.first d.cycles c 0 ∙ sym em in
        let e : get_or (cycles_of (cell_at (sheet_of d) f)) c no_cycle ≡ cycle_of m st =
        ap (λ (ks : List Cycle). get_or ks c no_cycle) (sym s.list) ∙ cycle_at_lem (take t.cycles.count ns) (drop t.steps.first d.steps) c no_cycle
        (omega arith) ∙ ap (λ (k : ℕ). cycle_of k st) n
        in
        some_steps m st (let x = ap (λ (k : Cycle). length (steps_of k)) e in omega (arith, h.some))

    pub found : CycleFound d f c (record { spans = t; cycle = c; count = m; at = at })
    found = record { lies = record { within = s.within; cycle = below; number = sym em; place = sym ea; some = counted }; cycle = refl; list = s.list }

-- its steps
pub found_steps : (d : Drawing) (f c : ℕ) (p : Place) → CycleFound d f c p → steps_at d.steps p ≡ steps_of (get_or (cycles_of (cell_at (sheet_of d) f)) c no_cycle)
found_steps d f c p g =
    ap steps_of (sym (cycle_is d.cycles d.steps p g.lies) ∙ ap₂ (λ (ks : List Cycle) (n : ℕ). get_or ks n no_cycle) g.list g.cycle)

-- ---- where a step ends
pub head_is : {d : Drawing} {ix : Index} → Looks d ix → (e : ℕ) (b : Bool) (r : ℕ) → r ≡ head_by ix d.count e b
    → r ≡ head_of (cell_at (sheet_of d)) (record { edge = e; backward = b })
head_is {d} {ix} k e b r q = q ∙ ap₂ (cond b) (k.starts e) (k.ends e)

-- ---- the rows of the cells that go
module _ (d : Drawing) (z : Sizes d) (ix : Index) (i j f : ℕ) (counts : List ℕ) (u : Used) (steps : List ℕ) (g : Going d ix i j f counts u steps) where
  pub going : (a b : ℕ) → a ≡ row_of i (take d.count ix.ids) → b ≡ row_of j (take d.count ix.ids) → Refaced d i a j b f counts u steps
  going a b ea eb =
      record {
        pair =
            record {
              sound = g.sound;
              first = row_among d z g.sound ix g.index i a ea g.first;
              first_in = live_below d z g.sound ix g.index i a ea g.first;
              second = row_among d z g.sound ix g.index j b eb g.second;
              second_in = live_below d z g.sound ix g.index j b eb g.second;
            };
        building = g.building;
        stays = g.stays;
        room = g.room;
        face = g.face;
      }
