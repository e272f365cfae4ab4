-- Two cycles as one: its steps, and the list of the face. Assumes nothing.
use Prim.Native.Nat.{ℕ, ◌+◌, ◌*◌, ◌<◌, ◌≤◌}
use mathlib.Core.Path.{◌≡◌, refl, ap, ap₂, sym, subst, ◌∙◌}
use mathlib.Core.Bool.{Bool, true, false, ◌||◌}
use mathlib.Core.List.{List, ◌∷◌, ◌++◌, map, append_assoc}
use native.Mathlib.Omega.{arith}
use borrow.Author.Tests.{eqb-true, eqb-false}
use lib.Dec.{eqb}
use lib.ListN.{length, take, get_or, set, replicate, length-append, length-set, length-replicate, get_or-replicate}
use lib.Seq.{get_or-set_same, get_or-set_other}
use Rattle.complex.specs.Lists.{one, rotated, without}
use Rattle.complex.specs.Cells.{Halfedge, Cycle, along, against, steps_of}
use Rattle.complex.specs.Sound.{step_count}
use Rattle.complex.proofs.Split.{length_rotated}
use Rattle.store.specs.View.{halfedge_of, width}
use Rattle.store.specs.Edits.{kept}
use Rattle.store.proofs.Lists.{map_append}
use Rattle.rows_spans.specs.declared.Spans.{Spans}
use Rattle.rows_spans.specs.Building.{RoomFor}
use Rattle.script.specs.Walks.{Marks}
use Rattle.rows_corners.specs.Faces.{cycles_at}
use Rattle.rows_corners.specs.Arcs.{arc_of}
use Rattle.rows_corners.proofs.Arcs.{arc_length}
use Rattle.rows_corners.proofs.Lists.{at_length, along_read, against_read}
use Rattle.rows_corners.proofs.Moved.{without_kept}
use Rattle.rows_split.specs.declared.Place.{Place}
use Rattle.rows_split.specs.Along.{bridge}
use Rattle.rows_split.specs.Parts.{cycle_at, bridge_cycle, Joining, Bridging}
use Rattle.rows_split.proofs.Arcs.{corner_most, halves_length, whole_arc}
use Rattle.rows_split.proofs.Places.{steps_within, cornered_room, cornered_cycle}

-- ---- the joined cycle
module _ {steps : List ℕ} {p : Place} {s1 : ℕ} {q : Place} {s2 e : ℕ} (j : Joining steps p s1 q s2 e) where
  abbrev arc1 : List ℕ
  arc1 = arc_of steps p.at p.m s1 p.m

  abbrev arc2 : List ℕ
  arc2 = arc_of steps q.at q.m s2 q.m

  within1 : p.at + p.m ≤ length steps
  within1 = steps_within steps j.steps_size p j.start

  within2 : q.at + q.m ≤ length steps
  within2 = steps_within steps j.steps_size q j.end

  pub length1 : length arc1 ≡ p.m
  length1 = arc_length steps p.at p.m s1 p.m j.steps_size (omega (arith, within1, j.steps_size)) (corner_most p.m s1 j.start_corner)
      (omega arith)

  pub length2 : length arc2 ≡ q.m
  length2 = arc_length steps q.at q.m s2 q.m j.steps_size (omega (arith, within2, j.steps_size)) (corner_most q.m s2 j.end_corner) (omega arith)

  -- the steps in memory are those of the cycle
  pub joined_steps : map halfedge_of (((arc1 ++ one (2 * e)) ++ arc2) ++ one (2 * e + 1)) ≡ rotated s1 (steps_of (cycle_at steps p))
      ++ (along e ∷ rotated s2 (steps_of (cycle_at steps q)) ++ one (against e))
  joined_steps =
      let a = arc1 ++ one (2 * e) in
      map_append halfedge_of (a ++ arc2) (one (2 * e + 1))
      ∙ ap₂ (λ (x y : List Halfedge). x ++ y) (map_append halfedge_of a arc2) (against_read e)
      ∙ append_assoc (map halfedge_of a) (map halfedge_of arc2) (one (against e))
      ∙ ap₂ (λ (x y : List Halfedge). x ++ (y ++ one (against e))) (map_append halfedge_of arc1 (one (2 * e))) (whole_arc steps q.at q.m within2 s2)
      ∙ ap₂ (λ (x y : List Halfedge). (x ++ y) ++ (rotated s2 (steps_of (cycle_at steps q)) ++ one (against e))) (whole_arc steps p.at p.m within1 s1)
      (along_read e)
      ∙ append_assoc (rotated s1 (steps_of (cycle_at steps p))) (one (along e)) (rotated s2 (steps_of (cycle_at steps q)) ++ one (against e))

-- ---- the list of the face
-- one flag
abbrev pub flagged : ℕ → List Bool
flagged c = set (replicate 512 false) c true

flagged_marks : (c : ℕ) → c < 512 → Marks (one c) (flagged c)
flagged_marks c h =
    record {
      size = length-set (replicate 512 false) c true ∙ length-replicate 512 false;
      at = λ i hi. go i hi (eqb i c) refl;
    }
  where
    go : (i : ℕ) → i < 512 → (b : Bool) → eqb i c ≡ b → get_or (flagged c) i false ≡ (b || false)
    go i hi true e = ap (λ (n : ℕ). get_or (flagged c) n false) (eqb-true i c e)
        ∙ get_or-set_same (replicate 512 false) c true false (omega (arith, length-replicate 512 false))
    go i hi false e = get_or-set_other (replicate 512 false) c i true false (eqb-false i c e) ∙ get_or-replicate 512 i false false hi

module _ {cycles steps : List ℕ} {t : Spans} {c1 : ℕ} {p : Place} {s1 c2 : ℕ} {q : Place} {s2 e : ℕ} (r : Bridging cycles steps t c1 p s1 c2 q s2 e) where
  abbrev ks : List Cycle
  ks = cycles_at cycles steps t

  abbrev pub both : Cycle
  both = bridge_cycle e s1 (cycle_at steps p) s2 (cycle_at steps q)

  count_is : length ks ≡ t.cycles.count
  count_is = at_length cycles steps t r.start.within

  pub second_below : c2 < 512
  second_below = let h = r.end.cycle in omega (arith, r.start.within.in_cycles)

  pub flags_size : length (flagged c2) ≡ 512
  flags_size = (flagged_marks c2 second_below).size

  pub first_stays : get_or (flagged c2) c1 false ≡ false
  first_stays =
      let h = r.start.cycle in
      (flagged_marks c2 second_below).at c1 (omega (arith, r.start.within.in_cycles)) ∙ ap (λ (b : Bool). b || false) r.apart

  pub bridge_kept : kept (take t.cycles.count (flagged c2)) (set ks c1 both) ≡ bridge e c1 s1 c2 s2 ks
  bridge_kept =
      let l : length (set ks c1 both) ≡ t.cycles.count = length-set ks c1 both ∙ count_is in
      let k = r.start.within.in_cycles in
      ap (λ (n : ℕ). kept (take n (flagged c2)) (set ks c1 both)) (sym l)
      ∙ sym (without_kept (one c2) (flagged c2) (flagged_marks c2 second_below) (set ks c1 both) (omega arith))
      ∙ ap₂ (λ (x y : Cycle). without (one c2) 0 (set ks c1 (bridge_cycle e s1 x s2 y)))
      (sym (cornered_cycle cycles steps t c1 p s1 r.start)) (sym (cornered_cycle cycles steps t c2 q s2 r.end))

  pub bridge_room : {n m : ℕ} → RoomFor n m (bridge e c1 s1 c2 s2 ks) → RoomFor n m (kept (take t.cycles.count (flagged c2)) (set ks c1 both))
  bridge_room {n} {m} f = subst (RoomFor n m) (sym bridge_kept) f

  room1 : p.at + width p.m ≤ 2048
  room1 = cornered_room cycles steps t c1 p s1 r.start

  room2 : q.at + width q.m ≤ 2048
  room2 = cornered_room cycles steps t c2 q s2 r.end

  pub both_steps : step_count both ≡ p.m + q.m + 2
  both_steps =
      let z = r.start.within.steps_size in
      let a = rotated s1 (steps_of (cycle_at steps p)) in
      let b = rotated s2 (steps_of (cycle_at steps q)) in
      let la = length_rotated s1 (steps_of (cycle_at steps p)) ∙ halves_length steps p.at p.m (steps_within steps z p room1) in
      let lb = length_rotated s2 (steps_of (cycle_at steps q)) ∙ halves_length steps q.at q.m (steps_within steps z q room2) in
      let x = length-append a (along e ∷ (b ++ one (against e))) in
      let y = length-append b (one (against e)) in
      omega arith

  pub joining : Joining steps p s1 q s2 e
  joining = record {
    steps_size = r.start.within.steps_size;
    start = room1;
    start_corner = r.start.corner;
    end = room2;
    end_corner = r.end.corner;
    few = r.few;
  }
