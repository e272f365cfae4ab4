-- The place of a cycle in a face's spans, and the lists of cycles with another in its place. Assumes nothing.
use Prim.Native.Nat.{ℕ, zero, suc, ◌+◌, ◌-◌, ◌*◌, ◌<◌, ◌≤◌}
use mathlib.Core.Path.{◌≡◌, refl, ap, ap₂, sym, subst, ◌∙◌}
use mathlib.Core.Bool.{Bool, true, false, cond}
use mathlib.Core.List.{List, [], ◌∷◌, ◌++◌, map}
use native.Mathlib.Omega.{arith}
use lib.ListN.{length, take, drop, get_or, length-append, length-drop}
use lib.Seq.{length-take-le, take-take, get_or-take, get_or-drop, drop-drop}
use Rattle.complex.specs.Lists.{total, one, rotated, distance}
use Rattle.complex.specs.Cells.{Cycle, path, along, steps_of}
use Rattle.complex.specs.Sound.{step_count}
use Rattle.complex.specs.Cut.{no_cycle, remainder}
use Rattle.complex.proofs.Split.{length_rotated}
use Rattle.store.specs.View.{halfedge_of, width, width_sum, cycle_of, cycles_from}
use Rattle.store.specs.Edits.{kept}
use Rattle.store.proofs.Lists.{sum_more, sum_le}
use Rattle.store.proofs.Encode.{length_cycles}
use Rattle.rows_spans.specs.declared.Used.{Used}
use Rattle.rows_spans.specs.declared.Spans.{Spans}
use Rattle.rows_spans.specs.Building.{Built}
use Rattle.store.proofs.Encode.{cycle_at_lem}
use Rattle.rows_spans.proofs.Building.{built_none}
use Rattle.rows_corners.specs.Faces.{Within, cycles_at}
use Rattle.rows_corners.specs.Arcs.{arc_of, ArcRoom, CopyRoom}
use Rattle.rows_corners.proofs.Lists.{built_as}
use Rattle.rows_corners.proofs.Rows.{list_steps}
use Rattle.rows_corners.proofs.Splits.{kept_steps}
use Rattle.rows_split.specs.declared.Place.{Place}
use Rattle.rows_split.specs.Parts.{place_of, cycle_at, far_cycle, Cornered}
use Rattle.rows_split.proofs.Arcs.{corner_most, halves_length, far_is}

-- ---- a list of cycles says how much of the arrays it takes
pub built_size : {ks : List Cycle} {counts : List ℕ} {u : Used} {steps : List ℕ} → Built ks counts u steps
    → (u.cycles ≡ length ks) × (u.steps ≡ total step_count ks)
built_size {ks} {counts} {u} {steps} b =
    let g = b.building in
    let w = g.width in
    let l = length_cycles (take u.cycles counts) steps in
    let n = length-take-le u.cycles counts g.cycle_room in
    let s = list_steps (take u.cycles counts) steps (omega (arith, g.step_room)) in
    (sym (l ∙ n) ∙ ap length b.list, sym (s ∙ w) ∙ ap (total step_count) b.list)

-- what is kept of cycles that are read are as many as what is kept of their counts
pub kept_count : (bs : List Bool) (ns st : List ℕ) → length (kept bs (cycles_from ns st)) ≡ length (kept bs ns)
kept_count [] ns st = refl
kept_count (b ∷ bs) [] st = refl
kept_count (b ∷ bs) (n ∷ ns) st = go b (kept_count bs ns (drop (width n) st))
  where
    go : (b : Bool) → length (kept bs (cycles_from ns (drop (width n) st))) ≡ length (kept bs ns)
        → length (cond b (kept bs (cycles_from ns (drop (width n) st))) (cycle_of n st ∷ kept bs (cycles_from ns (drop (width n) st))))
        ≡ length (cond b (kept bs ns) (n ∷ kept bs ns))
    go true e = e
    go false e = ap suc e

-- ---- the place of a cycle
module _ (cycles steps : List ℕ) (t : Spans) (w : Within cycles steps t) (c : ℕ) (h : c < t.cycles.count) where
  abbrev numbers : List ℕ
  numbers = drop t.cycles.first cycles

  numbers_length : t.cycles.count ≤ length numbers
  numbers_length = omega (arith, length-drop t.cycles.first cycles, w.in_cycles, w.cycles_size)

  pub place_room : (place_of cycles t c).at + width (place_of cycles t c).m ≤ 2048
  place_room =
      let l = numbers_length in
      let a = sum_more width numbers c 0 (omega arith) in
      let b = sum_le width numbers (c + 1) t.cycles.count (omega arith) in
      let n = ap width (get_or-drop t.cycles.first cycles c 0) in
      let s = w.in_steps in
      let e = w.wide in
      omega arith

  pub place_cycle : get_or (cycles_at cycles steps t) c no_cycle ≡ cycle_at steps (place_of cycles t c)
  place_cycle =
      let ns = take t.cycles.count numbers in
      let l = length-take-le t.cycles.count numbers numbers_length in
      cycle_at_lem ns (drop t.steps.first steps) c no_cycle (omega arith)
      ∙ ap₂ cycle_of (get_or-take t.cycles.count numbers c 0 h ∙ get_or-drop t.cycles.first cycles c 0)
      (ap (λ (l : List ℕ). drop (width_sum l) (drop t.steps.first steps)) (take-take c t.cycles.count numbers (omega arith))
      ∙ drop-drop (width_sum (take c numbers)) t.steps.first steps)

-- ---- an arc and a step as the one cycle of a list
module _ (steps : List ℕ) (z : length steps ≡ 2048) (p : Place) (r : p.at + width p.m ≤ 2048) where
  pub steps_within : p.at + p.m ≤ length steps
  steps_within = let w = wide p.m in omega arith
    where
      wide : (m : ℕ) → m ≤ width m
      wide zero = omega arith
      wide (suc m) = omega arith

  module _ (s t : ℕ) (hs : s < width p.m) (ht : t < width p.m) where
    pub between_asks : (p.m ≤ 2048) × ((s ≤ p.m) × (t ≤ p.m))
    between_asks = let w = steps_within in (omega arith, (corner_most p.m s hs, corner_most p.m t ht))

    -- of an arc that is the first of a list
    pub arc_asks : (len : ℕ) → len ≤ p.m → {counts out : List ℕ} → length counts ≤ 512 → length out ≤ 2048 → 0 < length counts → len < length out
        → ArcRoom steps p.at p.m s len counts (record { cycles = 0; steps = 0 }) out
    arc_asks len hl {counts} {out} lc lo hc hm =
        let w = steps_within in
        record {
          building = (built_none counts out lc lo).building;
          steps_size = z;
          cycle = omega arith;
          start = corner_most p.m s hs;
          least = hl;
          cycle_room = hc;
          step_room = omega arith;
        }

    -- how many steps the far side's cycle has
    pub far_steps : (e : ℕ) → step_count (far_cycle e s t (cycle_at steps p)) ≡ p.m - distance p.m s t + 1
    far_steps e =
        let hs = steps_of (cycle_at steps p) in
        let l = halves_length steps p.at p.m steps_within in
        let a = length-append (remainder s t hs) (one (along e)) in
        let b = length-drop (distance (length hs) s t) (rotated s hs) in
        let d = ap (λ (n : ℕ). distance n s t) l in
        let r = length_rotated s hs in
        omega arith

    pub far_built : (e len : ℕ) → len ≡ distance p.m s t → {counts : List ℕ} {u : Used} {out : List ℕ}
        → Built (one (path (map halfedge_of (arc_of steps p.at p.m t (p.m - len)) ++ one (halfedge_of (2 * e))))) counts u out
        → Built (one (far_cycle e s t (cycle_at steps p))) counts u out
    far_built e len el b =
        built_as
        (ap (λ (n : ℕ). one (path (map halfedge_of (arc_of steps p.at p.m t (p.m - n)) ++ one (halfedge_of (2 * e))))) el
        ∙ ap one (far_is steps p.at p.m steps_within s t between_asks.1.0 between_asks.1.1 e)) b

-- ---- a cycle in the place of another
module _ (cycles steps : List ℕ) (t : Spans) (c : ℕ) (p : Place) (s : ℕ) (k : Cornered cycles steps t c p s) where
  pub cornered_room : p.at + width p.m ≤ 2048
  cornered_room = subst (λ (q : Place). q.at + width q.m ≤ 2048) (sym k.place) (place_room cycles steps t k.within c k.cycle)

  pub cornered_cycle : get_or (cycles_at cycles steps t) c no_cycle ≡ cycle_at steps p
  cornered_cycle = place_cycle cycles steps t k.within c k.cycle ∙ ap (cycle_at steps) (sym k.place)

-- ---- a cycle, and then those of the spans that are kept
module _ (cycles steps : List ℕ) (t : Spans) (w : Within cycles steps t) (flags : List Bool) (fs : t.cycles.count ≤ length flags)
    (x : Cycle) {counts : List ℕ} {u : Used} {out : List ℕ}
    (hc : length (x ∷ kept (take t.cycles.count flags) (cycles_at cycles steps t)) ≤ length counts)
    (hs : total step_count (x ∷ kept (take t.cycles.count flags) (cycles_at cycles steps t)) ≤ length out) (b : Built (one x) counts u out) where
  pub kept_asks : CopyRoom cycles steps t.cycles.first t.cycles.count t.steps.first flags counts u out
  kept_asks =
      let ns = take t.cycles.count (drop t.cycles.first cycles) in
      let st = drop t.steps.first steps in
      let fl = take t.cycles.count flags in
      let i = w.in_cycles in
      let j = w.in_steps in
      let e = w.wide in
      let a = kept_count fl ns st in
      let d = kept_steps fl ns st (omega (arith, length-drop t.steps.first steps, w.steps_size)) in
      let z = built_size b in
      let zc = z.0 in
      let zs = z.1 in
      record {
        building = b.building;
        cycles_size = w.cycles_size;
        steps_size = w.steps_size;
        in_cycles = i;
        in_steps = omega arith;
        flags = omega arith;
        cycle_room = omega arith;
        step_room = omega arith;
      }
