-- A face that comes in lent arrays, with the cycles of a list. Assumes nothing.
use Prim.Native.Nat.{ℕ, ◌+◌, ◌≤◌}
use mathlib.Core.Path.{◌≡◌, refl, sym, ap, ap₂, ◌∙◌}
use mathlib.Core.List.{List, ◌++◌, map}
use native.Mathlib.Omega.{arith}
use lib.ListN.{length, take, length-map}
use lib.Seq.{paste, take-paste, length-paste, length-take-le}
use Rattle.number.specs.Readers.{spread}
use Rattle.complex.specs.Cells.{face}
use Rattle.store.specs.Places.{num_of, cycle_words}
use Rattle.store.specs.View.{sheet_of}
use Rattle.store.specs.Edits.{appended}
use Rattle.store.specs.Pools.{Held}
use Rattle.rows_spans.specs.declared.Used.{Used}
use Rattle.rows_spans.specs.Building.{built}
use Rattle.rows_spans.proofs.Building.{built_held}
use Rattle.rows_new.proofs.Bends.{Grew}
use Rattle.lent.specs.Arrays.{Arrays, held_by, Lengths}
use Rattle.lent.specs.Replies.{Holds}
use Rattle.lent.specs.Growing.{with_face}
use Rattle.lent.proofs.Grown.{face_long, face_normal}
use Rattle.kernel_add.proofs.Faces.{with_pools, pools_long, face_grew}
use Rattle.kernel_part.specs.Rounds.{PartRoom}

-- arrays whose parts are equal
pub same_arrays : (a b : Arrays) → a.next ≡ b.next → a.count ≡ b.count → a.ids ≡ b.ids → a.kinds ≡ b.kinds → a.starts ≡ b.starts → a.ends ≡ b.ends
    → a.bends ≡ b.bends
    → a.counts ≡ b.counts → a.px ≡ b.px → a.py ≡ b.py → a.cycles ≡ b.cycles → a.steps ≡ b.steps → a.bx ≡ b.bx → a.by ≡ b.by → a ≡ b
same_arrays a b e1 e2 e3 e4 e5 e6 e7 e8 e9 e10 e11 e12 e13 e14 =
    λ i.
    record {
      next = e1 i;
      count = e2 i;
      ids = e3 i;
      kinds = e4 i;
      starts = e5 i;
      ends = e6 i;
      bends = e7 i;
      counts = e8 i;
      px = e9 i;
      py = e10 i;
      cycles = e11 i;
      steps = e12 i;
      bx = e13 i;
      by = e14 i;
    }

-- ---- the face
module _ (b : Arrays) (c p : ℕ) (numbers : List ℕ) (u : Used) (places : List ℕ) (w : PartRoom b c p numbers u places) where
  held_list : Held (built numbers u places) numbers u.cycles places u.steps
  held_list = built_held (built numbers u places) numbers u places (record { list = refl; building = w.building })

  cycles_many : length (map num_of (built numbers u places)) ≡ u.cycles
  cycles_many = ap length (sym held_list.lengths) ∙ length-take-le u.cycles numbers held_list.lengths_room

  steps_many : length (spread cycle_words (built numbers u places)) ≡ u.steps
  steps_many = ap length (sym held_list.places) ∙ length-take-le u.steps places held_list.places_room

  pub part_cycles : (u.cycles ≤ length numbers) × (c + u.cycles ≤ length b.cycles)
  part_cycles = (held_list.lengths_room, omega (arith, w.cycles, w.room.cycles, cycles_many, length-map (built numbers u places) num_of, w.long.cycles))

  pub part_steps : (u.steps ≤ length places) × (p + u.steps ≤ length b.steps)
  part_steps = (held_list.places_room, omega (arith, w.steps, w.room.steps, steps_many, w.long.steps))

  -- the list stands after what was in use
  module _ (cs ss : List ℕ) (lc : length cs ≡ 512) (ls : length ss ≡ 2048) (fc : take (c + u.cycles) cs ≡ take c b.cycles ++ take u.cycles numbers)
      (fs : take (p + u.steps) ss ≡ take p b.steps ++ take u.steps places) where
    long : Lengths (with_pools b cs ss)
    long = pools_long b w.long cs ss lc ls

    grew : Grew (held_by b) (face (built numbers u places)) (held_by (with_face (with_pools b cs ss) u.cycles))
    grew =
        face_grew b w.long cs ss lc ls (built numbers u places) u.cycles (sym (length-map (built numbers u places) num_of) ∙ cycles_many)
        held_list.real w.room
        (ap₂ (λ (i j : ℕ). take (i + j) cs) (sym w.cycles) cycles_many ∙ fc
        ∙ ap₂ (λ (i : ℕ) (q : List ℕ). take i b.cycles ++ q) w.cycles held_list.lengths)
        (ap₂ (λ (i j : ℕ). take (i + j) ss) (sym w.steps) steps_many ∙ fs
        ∙ ap₂ (λ (i : ℕ) (q : List ℕ). take i b.steps ++ q) w.steps held_list.places)

    pub part_holds : Holds (appended (sheet_of (held_by b)) (face (built numbers u places))) (with_face (with_pools b cs ss) u.cycles)
    part_holds =
        record {
          sheet = grew.0;
          fits = grew.1;
          long = face_long (with_pools b cs ss) long u.cycles;
          rows = face_normal (with_pools b cs ss) long u.cycles w.room.cells w.rows;
        }

  -- the list is copied there
  pub pasted_holds : (cs ss : List ℕ) → cs ≡ paste b.cycles c numbers u.cycles → ss ≡ paste b.steps p places u.steps
      → Holds (appended (sheet_of (held_by b)) (face (built numbers u places))) (with_face (with_pools b cs ss) u.cycles)
  pasted_holds cs ss ec es =
      let i = part_cycles in
      let j = part_steps in
      part_holds cs ss (ap length ec ∙ length-paste b.cycles c numbers u.cycles i.1 i.0 ∙ w.long.cycles)
      (ap length es ∙ length-paste b.steps p places u.steps j.1 j.0 ∙ w.long.steps)
      (ap (take (c + u.cycles)) ec ∙ take-paste b.cycles c numbers u.cycles (omega (arith, i.1)) i.0)
      (ap (take (p + u.steps)) es ∙ take-paste b.steps p places u.steps (omega (arith, j.1)) j.0)
