-- One cycle in two: the lists of both faces. Assumes nothing.
use Prim.Native.Nat.{ℕ, ◌≤◌}
use mathlib.Core.Path.{◌≡◌, ap, ap₂, sym, subst, ◌∙◌}
use mathlib.Core.Bool.{Bool, true, false, not}
use mathlib.Core.List.{List, ◌∷◌, map}
use native.Mathlib.Omega.{arith}
use lib.ListN.{length, take, get_or, set, length-set}
use Rattle.complex.specs.Lists.{places, without}
use Rattle.complex.specs.Cells.{Cycle}
use Rattle.complex.specs.Cut.{no_cycle}
use Rattle.store.specs.Edits.{kept}
use Rattle.rows_spans.specs.declared.Spans.{Spans}
use Rattle.rows_spans.specs.Building.{RoomFor}
use Rattle.decode_parts.specs.Lists.{numbers_read}
use Rattle.script.specs.Walks.{Marks, below}
use Rattle.script.proofs.Moved.{places_below}
use Rattle.rows_corners.specs.Faces.{cycles_at}
use Rattle.rows_corners.proofs.Lists.{at_length}
use Rattle.rows_corners.proofs.Moved.{without_kept, chosen_kept}
use Rattle.rows_split.specs.declared.Place.{Place}
use Rattle.rows_split.specs.Along.{near_side, far_side}
use Rattle.rows_split.specs.Parts.{cycle_at, near_cycle, far_cycle, SplitParting}
use Rattle.rows_split.proofs.Places.{cornered_cycle}

module _ {cycles steps : List ℕ} {t : Spans} {script : List ℕ} {moved place c : ℕ} {p : Place} {s1 s2 e : ℕ}
    (r : SplitParting cycles steps t script moved place c p s1 s2 e) where
  abbrev ms : List ℕ
  ms = numbers_read script place moved

  abbrev ks : List Cycle
  ks = cycles_at cycles steps t

  count_is : length ks ≡ t.cycles.count
  count_is = at_length cycles steps t r.start.within

  few : length ks ≤ 512
  few = let c = count_is in omega (arith, r.start.within.in_cycles)

  own_is : get_or ks c no_cycle ≡ cycle_at steps p
  own_is = cornered_cycle cycles steps t c p s1 r.start

  pub moved_below : below 512 ms ≡ true
  moved_below = places_below 0 ms t.cycles.count 512 (let f = few in let k = count_is in omega arith) r.rise

  module _ {flags : List Bool} (m : Marks ms flags) where
    pub stays_put : get_or flags c false ≡ false
    stays_put = let f = r.start.cycle in m.at c (omega (arith, r.start.within.in_cycles)) ∙ r.stays

    pub near_kept : kept (take t.cycles.count flags) (set ks c (near_cycle e s1 s2 (cycle_at steps p))) ≡ near_side e c s1 s2 ms ks
    near_kept =
        let x = set ks c (near_cycle e s1 s2 (cycle_at steps p)) in
        let l : length x ≡ t.cycles.count = length-set ks c (near_cycle e s1 s2 (cycle_at steps p)) ∙ count_is in
        let k = r.start.within.in_cycles in
        ap (λ (n : ℕ). kept (take n flags) x) (sym l) ∙ sym (without_kept ms flags m x (omega arith))
        ∙ ap (λ (y : Cycle). without ms 0 (set ks c (near_cycle e s1 s2 y))) (sym own_is)

    pub near_room : {n k : ℕ} → RoomFor n k (near_side e c s1 s2 ms ks)
        → RoomFor n k (kept (take t.cycles.count flags) (set ks c (near_cycle e s1 s2 (cycle_at steps p))))
    near_room {n} {k} f = subst (RoomFor n k) (sym near_kept) f

    module _ {stays : List Bool} (g : stays ≡ map not flags) where
      pub far_kept : far_cycle e s1 s2 (cycle_at steps p) ∷ kept (take t.cycles.count stays) ks ≡ far_side e c s1 s2 ms ks
      far_kept =
          ap₂ (λ (y : Cycle) (l : List Cycle). far_cycle e s1 s2 y ∷ l) (sym own_is)
          (ap₂ (λ (n : ℕ) (l : List Bool). kept (take n l) ks) (sym count_is) g
          ∙ sym (chosen_kept ms flags m ks few no_cycle (ap (places 0 ms) count_is ∙ r.rise)))

      pub far_room : {n k : ℕ} → RoomFor n k (far_side e c s1 s2 ms ks)
          → RoomFor n k (far_cycle e s1 s2 (cycle_at steps p) ∷ kept (take t.cycles.count stays) ks)
      far_room {n} {k} f = subst (RoomFor n k) (sym far_kept) f
