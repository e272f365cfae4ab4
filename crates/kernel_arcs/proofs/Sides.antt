-- One cycle in two: what its arcs ask, and the cycles that they become. Assumes nothing.
use Prim.Native.Nat.{ℕ, ◌+◌, ◌*◌, ◌≤◌}
use mathlib.Core.Path.{◌≡◌, ap, sym, ◌∙◌}
use mathlib.Core.Bool.{Bool, false}
use mathlib.Core.List.{List, ◌∷◌, ◌++◌, map}
use native.Mathlib.Omega.{arith}
use lib.ListN.{length, take, drop, get_or, set, length-append, length-map}
use Rattle.complex.specs.Lists.{one, distance}
use Rattle.complex.specs.Cells.{Halfedge, Cycle, path}
use Rattle.complex.specs.Sound.{step_count}
use Rattle.store.specs.View.{halfedge_of, cycles_from}
use Rattle.store.specs.Edits.{kept}
use Rattle.rows_spans.specs.declared.Used.{Used}
use Rattle.rows_spans.specs.declared.Spans.{Spans}
use Rattle.rows_spans.specs.Building.{Built, built, RoomFor}
use Rattle.rows_corners.specs.Faces.{Within, cycles_at}
use Rattle.rows_corners.specs.Arcs.{arc_of, ArcRoom, CopyRoom}
use Rattle.rows_corners.proofs.Arcs.{arc_length}
use Rattle.rows_corners.proofs.Lists.{built_as}
use Rattle.rows_split.specs.declared.Place.{Place}
use Rattle.rows_split.specs.Parts.{cycle_at, near_cycle, Cornered}
use Rattle.rows_split.proofs.Arcs.{corner_most, distance_most, near_is}
use Rattle.rows_split.proofs.Places.{steps_within, cornered_room, kept_asks}
use Rattle.kernel_arcs.specs.Lists.{ahead}
use Rattle.kernel_arcs.proofs.Lists.{CopyAsks, new_room, new_built}

copy_asks : {cycles steps : List ℕ} {from k step : ℕ} {skip : List Bool} {numbers places : List ℕ} {u : Used}
    → CopyRoom cycles steps from k step skip numbers u places → CopyAsks cycles from k steps step skip numbers u places
copy_asks r =
    let zc = r.cycles_size in
    let zs = r.steps_size in
    let i = r.in_cycles in
    let j = r.in_steps in
    (r.building, (omega arith, (omega arith, (r.flags, (r.cycle_room, r.step_room)))))

-- the cycles that are kept follow x
pub far_asks : {cycles steps : List ℕ} {t : Spans} → (w : Within cycles steps t) (flags : List Bool) → t.cycles.count ≤ length flags → (x : Cycle) {N M : ℕ}
    → RoomFor N M (x ∷ kept (take t.cycles.count flags) (cycles_at cycles steps t)) → {numbers places : List ℕ} {u : Used} → length numbers ≡ N
    → length places ≡ M
    → Built (one x) numbers u places → CopyAsks cycles t.cycles.first t.cycles.count steps t.steps.first flags numbers u places
far_asks {cycles} {steps} {t} w flags fs x room lc ls b =
    copy_asks (kept_asks cycles steps t w flags fs x (omega (arith, room.cycles)) (omega (arith, room.steps)) b)

-- ---- the arc from s1 to s2 in the place of its cycle
module _ {cycles steps : List ℕ} {t : Spans} {c : ℕ} {p : Place} {s1 s2 : ℕ} (k1 : Cornered cycles steps t c p s1) (k2 : Cornered cycles steps t c p s2) (e : ℕ)
    (flags : List Bool) (fs : t.cycles.count ≤ length flags) (st : get_or flags c false ≡ false) {N M : ℕ}
    (room : RoomFor N M (kept (take t.cycles.count flags) (set (cycles_at cycles steps t) c (near_cycle e s1 s2 (cycle_at steps p)))))
    {len : ℕ} (el : len ≡ distance p.m s1 s2) where
  abbrev arc : ℕ → List ℕ
  arc = arc_of steps p.at p.m s1

  abbrev ending : List Halfedge
  ending = one (halfedge_of (2 * e + 1))

  abbrev new : Cycle
  new = near_cycle e s1 s2 (cycle_at steps p)

  abbrev before : List Cycle
  before = ahead flags c (cycles_at cycles steps t)

  abbrev copied : List Cycle
  copied = kept (take c flags) (cycles_from (take c (drop t.cycles.first cycles)) (drop t.steps.first steps))

  in_steps_lem : p.at + p.m ≤ length steps
  in_steps_lem = steps_within steps k1.within.steps_size p (cornered_room cycles steps t c p s1 k1)

  arc_is : path (map halfedge_of (arc len) ++ ending) ≡ new
  arc_is =
      ap (λ (n : ℕ). path (map halfedge_of (arc n) ++ ending)) el
      ∙ near_is steps p.at p.m in_steps_lem s1 s2 (corner_most p.m s1 k1.corner) (corner_most p.m s2 k2.corner) e

  least : len ≤ p.m
  least = let d = (distance_most p.m s1 s2 k1.corner k2.corner).0 in omega arith

  cycle_in : p.at + p.m ≤ 2048
  cycle_in = let i = in_steps_lem in let z = k1.within.steps_size in omega arith

  arc_long : length (arc len) ≡ len
  arc_long = arc_length steps p.at p.m s1 len k1.within.steps_size cycle_in (corner_most p.m s1 k1.corner) least

  new_steps_lem : step_count new ≡ len + 1
  new_steps_lem =
      ap step_count (sym arc_is) ∙ length-append (map halfedge_of (arc len)) ending
      ∙ ap (λ (n : ℕ). n + 1) (length-map (arc len) halfedge_of ∙ arc_long)

  module _ {numbers places : List ℕ} {u : Used} (b : Built copied numbers u places) where
    pub near_asks : length numbers ≡ N → length places ≡ M → ArcRoom steps p.at p.m s1 len numbers u places
    near_asks lc ls =
        let r = new_room k1.within flags fs c k1.cycle st new room lc ls b in
        let r1 = r.1 in
        let s = new_steps_lem in
        record {
          building = b.building;
          steps_size = k1.within.steps_size;
          cycle = cycle_in;
          start = corner_most p.m s1 k1.corner;
          least = least;
          cycle_room = r.0;
          step_room = omega arith;
        }

    pub near_put : {numbers' places' : List ℕ} {u' : Used}
        → Built (built numbers u places ++ one (path (map halfedge_of (arc len) ++ ending))) numbers' u' places'
        → Built (before ++ one new) numbers' u' places'
    near_put d =
        new_built k1.within flags fs c k1.cycle st new b (built_as (ap (λ (y : Cycle). built numbers u places ++ one y) arc_is) d)
