-- `left` meets its contract: by how the two uses lie. Assumes nothing.
use Prim.Native.Nat.{ℕ}
use mathlib.Core.Path.{◌≡◌}
use Rattle.rows_stretches.specs.declared.Place.{Place}
use Rattle.answer.specs.declared.Totals.{Totals}
use Rattle.ask_uncut_uses.specs.declared.Use.{Use}
use Rattle.ask_uncut_uses.specs.declared.Between.{Between}
use Rattle.law_uncut_edge.specs.Needs.{Has, CycleFound, head_by}
use Rattle.law_uncut_edge.proofs.Results.{Stands, has_first, has_second, merged_asks, merged_built, parted_asks, parted_built, ringed_asks, ringed_built}
use Rattle.lent.specs.Arrays.{Arrays, held_by, rows_by}
use Rattle.lent.proofs.Sums.{ready_sizes}
use Rattle.kernel_places.specs.Standing.{HasBy, FoundBy}
use Rattle.kernel_places.proofs.Standing.{has_by, found_by, rows_by_lem}
use Rattle.kind_uncut_edge.specs.Left.{Leaves}
use Rattle.kind_uncut_edge.proofs.left.Goals as goal

-- the cycles of the two uses
module _ {a : Arrays} {t : Totals} {e : ℕ} {k : Between} {u w : Use} {n m : ℕ} (l : Leaves a t e k u w n m) where
  first : Has (held_by a) (rows_by a) u.face u.cycle
  first = has_first (held_by a) (ready_sizes a t l.ready) (rows_by a) e k u w l.is

  second : Has (held_by a) (rows_by a) w.face w.cycle
  second = has_second (held_by a) (ready_sizes a t l.ready) (rows_by a) e k u w l.is

  first_asks : HasBy a.count a.ids a.counts a.cycles t u.face u.cycle
  first_asks = has_by a t l.ready u.face u.cycle first

  second_asks : HasBy a.count a.ids a.counts a.cycles t w.face w.cycle
  second_asks = has_by a t l.ready w.face w.cycle second

  -- where the second stands
  there : (q : Place) → FoundBy a.count a.ids a.counts a.cycles t w.face w.cycle q → CycleFound (held_by a) w.face w.cycle q
  there = found_by a t l.ready w.face w.cycle second

  -- what is known once the first cycle and the end of its step are found
  stands : (p : Place) → FoundBy a.count a.ids a.counts a.cycles t u.face u.cycle p → (v : ℕ) → v ≡ head_by (rows_by a) a.count e u.back
      → Stands (held_by a) (rows_by a) e k u w p v
  stands p f v ev = record { sizes = ready_sizes a t l.ready; is = l.is; first = found_by a t l.ready u.face u.cycle first p f; head = ev }

pub place_of-p-requires : goal.place_of-p-requires
place_of-p-requires c = first_asks c.requires.leaves

pub head_of-v-requires : goal.head_of-v-requires
head_of-v-requires c = rows_by_lem _ _ c.requires.leaves.ready

pub place_of-q-requires : goal.place_of-q-requires
place_of-q-requires c = second_asks c.requires.leaves

-- ---- two faces, one cycle, rings
pub merged_cycles-requires : goal.merged_cycles-requires
merged_cycles-requires c =
    let l = c.requires.leaves in
    let whole = merged_asks (stands l _ c.place_of-p.ensures _ c.head_of-v.ensures) _ (there l _ c.place_of-q.ensures) c.in-TwoFaces.is l.takes in record {
      merging = whole.0;
      room_for = whole.1;
    }

pub head_of-x-requires : goal.head_of-x-requires
head_of-x-requires c = rows_by_lem _ _ c.requires.leaves.ready

pub parted_cycles-requires : goal.parted_cycles-requires
parted_cycles-requires c =
    let l = c.requires.leaves in
    let whole = parted_asks (stands l _ c.place_of-p.ensures _ c.head_of-v.ensures) _ c.head_of-x.ensures c.in-OneCycle.is l.takes in record {
      parting = whole.0;
      room_for = whole.1;
    }

pub place_of-q-requires-in-Rings : goal.place_of-q-requires-in-Rings
place_of-q-requires-in-Rings c = second_asks c.requires.leaves

pub ringed_cycles-requires : goal.ringed_cycles-requires
ringed_cycles-requires c =
    let l = c.requires.leaves in
    let whole = ringed_asks (stands l _ c.place_of-p.ensures _ c.head_of-v.ensures) _ (there l _ c.place_of-q-in-Rings.ensures) c.in-Rings.is l.takes in record {
      ringing = whole.0;
      room_for = whole.1;
    }

pub returns-in-TwoFaces : goal.returns-in-TwoFaces
returns-in-TwoFaces c =
    record {
      every = λ x l.
          merged_built (stands l _ c.place_of-p.ensures _ c.head_of-v.ensures) _ (there l _ c.place_of-q.ensures) c.in-TwoFaces.is c.merged_cycles.ensures;
    }

pub returns-in-OneCycle : goal.returns-in-OneCycle
returns-in-OneCycle c =
    record {
      every = λ x l.
          parted_built (stands l _ c.place_of-p.ensures _ c.head_of-v.ensures) _ c.head_of-x.ensures c.in-OneCycle.is c.parted_cycles.ensures;
    }

pub returns-in-Rings : goal.returns-in-Rings
returns-in-Rings c =
    record {
      every = λ x l.
          ringed_built (stands l _ c.place_of-p.ensures _ c.head_of-v.ensures) _ (there l _ c.place_of-q-in-Rings.ensures) c.in-Rings.is
          c.ringed_cycles.ensures;
    }
