-- The plan of a cut: what its parts ask, and what they make. Assumes nothing.
use Prim.Native.Nat.{ℕ, ◌+◌, ◌<◌, ◌≤◌}
use mathlib.Core.Path.{◌≡◌, ap, sym, subst}
use mathlib.Core.Bool.{Bool, cond}
use mathlib.Core.List.{List, []}
use native.Mathlib.Omega.{arith}
use borrow.Author.Tests.{eq-eqb, ne_eqb}
use lib.Dec.{eqb}
use lib.ListN.{length, take, drop, length-drop}
use Rattle.complex.specs.Cells.{Cycle}
use Rattle.store.specs.View.{width, width_sum}
use Rattle.rows_spans.specs.declared.Spans.{Spans}
use Rattle.rows_spans.specs.declared.Used.{Used}
use Rattle.rows_spans.specs.Building.{Built, RoomFor}
use Rattle.rows_spans.proofs.Building.{built_none}
use Rattle.decode_parts.specs.Lists.{numbers_read}
use Rattle.rows_corners.specs.Faces.{cycles_at}
use Rattle.rows_corners.proofs.Lists.{built_as}
use Rattle.rows_split.specs.declared.Place.{Place}
use Rattle.rows_split.specs.Along.{near_side, far_side, bridge, old_side, new_side}
use Rattle.rows_split.specs.Parts.{place_of, Cornered, RoomForBoth, SplitParting, Bridging}
use Rattle.rows_split.proofs.Places.{cornered_room}
use Rattle.kernel_arcs.proofs.Pairs.{first_room}
use Rattle.kind_cut_chord.specs.Chords.{Ruled, Chorded}

module _ {is starts ends : List ℕ} {n : ℕ} {cycles steps : List ℕ} {t : Spans} {script : List ℕ} {moved place c1 s1 c2 s2 e : ℕ}
    (x : Chorded is starts ends n cycles steps t script moved place c1 s1 c2 s2 e) where
  -- what `place_of` and `corner_vertex` ask of a corner
  pub place_asks : {c s : ℕ} → Cornered cycles steps t c (place_of cycles t c) s
      → (length cycles ≡ 512) × ((t.cycles.first + c < 512) × (t.steps.first + width_sum (take c (drop t.cycles.first cycles)) ≤ 2048))
  place_asks {c} {s} k =
      let h = k.cycle in
      let r = cornered_room cycles steps t c (place_of cycles t c) s k in
      (k.within.cycles_size, (omega (arith, k.within.in_cycles), omega arith))

  placed : {c s : ℕ} {p : Place} → p ≡ place_of cycles t c → Cornered cycles steps t c (place_of cycles t c) s → Cornered cycles steps t c p s
  placed {c} {s} g k = subst (λ (q : Place). Cornered cycles steps t c q s) (sym g) k

  pub vertex_asks : {c s : ℕ} {p : Place} → p ≡ place_of cycles t c → Cornered cycles steps t c (place_of cycles t c) s
      → Ruled is starts n × (Ruled is ends n × ((length steps ≡ 2048) × ((p.at + width p.m ≤ 2048) × (s < width p.m))))
  vertex_asks {c} {s} {p} g k =
      let h = placed g k in
      (x.starts, (x.ends, (k.within.steps_size, (cornered_room cycles steps t c p s h, h.corner))))

  -- ---- the lists, by whether the corners are of one cycle
  abbrev old_by : Bool → List Cycle
  old_by q = cond q (near_side e c1 s1 s2 (numbers_read script place moved) (cycles_at cycles steps t)) (bridge e c1 s1 c2 s2 (cycles_at cycles steps t))

  abbrev new_by : Bool → List Cycle
  new_by q = cond q (far_side e c1 s1 s2 (numbers_read script place moved) (cycles_at cycles steps t)) []

  module _ (one : c1 ≡ c2) where
    -- the second corner is one of the first cycle
    pub same_cycle : Cornered cycles steps t c1 (place_of cycles t c1) s2
    same_cycle = subst (λ (c : ℕ). Cornered cycles steps t c (place_of cycles t c) s2) (sym one) x.to

    pub parting : {p : Place} → p ≡ place_of cycles t c1 → SplitParting cycles steps t script moved place c1 p s1 s2 e
    parting g =
        let q = eq-eqb c1 c2 one in
        record { start = placed g x.from; end = placed g same_cycle; stand = x.stand; rise = x.rise q; stays = x.stays q; few = x.few }

    pub one_room : {i j : ℕ} → RoomForBoth i j (old_by (eqb c1 c2)) (new_by (eqb c1 c2))
        → RoomForBoth i j (near_side e c1 s1 s2 (numbers_read script place moved) (cycles_at cycles steps t))
        (far_side e c1 s1 s2 (numbers_read script place moved) (cycles_at cycles steps t))
    one_room {i} {j} r = subst (λ (q : Bool). RoomForBoth i j (old_by q) (new_by q)) (eq-eqb c1 c2 one) r

    pub near_built : {cs : List ℕ} {u : Used} {st : List ℕ} → Built (near_side e c1 s1 s2 (numbers_read script place moved) (cycles_at cycles steps t)) cs u st
        → Built (old_side e c1 s1 c2 s2 (numbers_read script place moved) (cycles_at cycles steps t)) cs u st
    near_built b = built_as (sym (ap old_by (eq-eqb c1 c2 one))) b

    pub far_built : {cs : List ℕ} {u : Used} {st : List ℕ} → Built (far_side e c1 s1 s2 (numbers_read script place moved) (cycles_at cycles steps t)) cs u st
        → Built (new_side e c1 s1 c2 s2 (numbers_read script place moved) (cycles_at cycles steps t)) cs u st
    far_built b = built_as (sym (ap new_by (eq-eqb c1 c2 one))) b

  module _ (two : c1 ≡ c2 → ⊥) where
    pub bridging : {p q : Place} → p ≡ place_of cycles t c1 → q ≡ place_of cycles t c2 → Bridging cycles steps t c1 p s1 c2 q s2 e
    bridging g h = record { start = placed g x.from; end = placed h x.to; apart = ne_eqb c1 c2 two; few = x.few }

    pub two_room : {i j : ℕ} → RoomForBoth i j (old_by (eqb c1 c2)) (new_by (eqb c1 c2)) → RoomFor i j (bridge e c1 s1 c2 s2 (cycles_at cycles steps t))
    two_room {i} {j} r = first_room (subst (λ (q : Bool). RoomForBoth i j (old_by q) (new_by q)) (ne_eqb c1 c2 two) r)

    pub joint_built : {cs : List ℕ} {u : Used} {st : List ℕ} → Built (bridge e c1 s1 c2 s2 (cycles_at cycles steps t)) cs u st
        → Built (old_side e c1 s1 c2 s2 (numbers_read script place moved) (cycles_at cycles steps t)) cs u st
        × Built (new_side e c1 s1 c2 s2 (numbers_read script place moved) (cycles_at cycles steps t)) (drop u.cycles cs) (record { cycles = 0; steps = 0 })
        (drop u.steps st)
    joint_built {cs} {u} {st} b =
        let g = b.building in (
          built_as (sym (ap old_by (ne_eqb c1 c2 two))) b,
          built_as (sym (ap new_by (ne_eqb c1 c2 two)))
              (built_none (drop u.cycles cs) (drop u.steps st) (omega (arith, length-drop u.cycles cs, g.counts_size))
              (omega (arith, length-drop u.steps st, g.steps_size))),
        )
