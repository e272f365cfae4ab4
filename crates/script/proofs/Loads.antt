-- Numbers and cycles on their way from a script to arrays. Assumes nothing.
use mathlib.Core.Path.{◌≡◌, refl, sym, ap, ◌∙◌, subst}
use mathlib.Core.List.{List, [], ◌∷◌, map, append-nil}
use Prim.Native.Nat.{ℕ, ◌+◌, ◌-◌, ◌≤◌, ◌<◌}
use native.Mathlib.Numerals.{add-one}
use native.Mathlib.Omega.{arith}
use lib.ListN.{length, set, drop, length-set}
use lib.Seq.{sets, length-sets}
use Rattle.number.specs.Readers.{Read, got, bad, spread}
use Rattle.number.specs.Numbers.{read_number}
use Rattle.number.proofs.Counted.{times_length}
use Rattle.coordinate.proofs.Bytes.{sets_append}
use Rattle.complex.specs.Lists.{total}
use Rattle.complex.specs.Cells.{Cycle}
use Rattle.complex.specs.Sound.{step_count}
use Rattle.complex.specs.Decode.{read_cycle}
use Rattle.store.specs.Places.{num_of, cycle_words}
use Rattle.store.specs.Edits.{places_of}
use Rattle.store.proofs.Encode.{places_size}
use Rattle.decode_parts.specs.Lists.{FieldAt, numbers_read, cycles_read, Reaches, Stand}
use Rattle.decode_parts.proofs.Rest.{leaves_number, leaves_cycle, cycle_none}
use Rattle.script.specs.Walks.{Copied, ScriptRoom}
use Rattle.script.proofs.Steps.{stuck, first_thing, turn, one_stands, none_after, field_reaches, reach_field, field_list}
use Rattle.script.proofs.Steps.{Walking, walking_start, walking_turn, walking_end}
use Rattle.script.proofs.Cycles.{cycle_from, from_number, from_places, cycle_size, numbers_stand, cycle_is, cycle_reach}

-- ---- numbers
-- what is left to copy makes, from here on, what all of it makes
pub record Copying (s : List ℕ) (at n to : ℕ) (out₀ out : List ℕ) (place left row : ℕ) : Type 0 where
  pub walk : Walking read_number s at n place left
  pub rows : row + left ≡ to + n
  pub size : length out ≡ length out₀
  pub numbers : sets out row (numbers_read s place left) ≡ sets out₀ to (numbers_read s at n)

pub copying_start : {s : List ℕ} {at n to : ℕ} {out : List ℕ} → Stand read_number s at n → Copying s at n to out out at n to
copying_start h = record { walk = walking_start h; rows = refl; size = refl; numbers = refl }

module _ {s : List ℕ} {at n to : ℕ} {out₀ out : List ℕ} {place left row : ℕ} (c : Copying s at n to out₀ out place left row) where
  pub copying_turn : 0 < left → {x next : ℕ} → FieldAt read_number s place x next → Copying s at n to out₀ (set out row x) next (left - 1) (row + 1)
  copying_turn some {x} {next} f =
      let w = walking_turn c.walk leaves_number some f in
      let r = c.rows in
      record {
        walk = w.1;
        rows = omega arith;
        size = length-set out row x ∙ c.size;
        numbers =
            ap (λ (k : ℕ). sets (set out row x) k (numbers_read s next (left - 1))) (add-one row)
            ∙ ap (sets out row) (sym w.0)
            ∙ c.numbers;
      }

  pub copying_end : left ≤ 0 → Copied s at n to out₀ out place
  copying_end z =
      let e : left ≡ 0 = omega arith in
      record {
        numbers = ap (λ (k : ℕ). sets out row (numbers_read s place k)) (sym e) ∙ c.numbers;
        reach = walking_end c.walk leaves_number z;
      }

-- ---- one cycle
-- the length that it begins with stands
pub length_stands : {s : List ℕ} {at left : ℕ} → Stand read_cycle s at left → 0 < left → Stand read_number s at 1
length_stands {s} {at} {left} stand some = go (read_number (drop at s)) refl
  where
    inside : at ≤ length s
    inside = let a = stand.reach.after in let f = stand.reach.fits in omega arith

    go : (q : Read ℕ) → read_number (drop at s) ≡ q → Stand read_number s at 1
    go (got m t) e =
        let l = leaves_number s at m t inside e in
        record { end = l.next; reach = field_reaches (record { read = e ∙ ap (got m) l.is; after = l.after; fits = l.fits }) }
    go bad e = absurd (stuck stand some (cycle_none (drop at s) e))

module _ {s : List ℕ} {at left m first : ℕ} (stand : Stand read_cycle s at left) (some : 0 < left) (size : FieldAt read_number s at m first) where
  -- its steps, and those of the cycles after it
  pub first_steps : (rest : ℕ) × ((total step_count (cycles_read s at left) ≡ places_of 1 m + rest) × (left ≡ 1 → rest ≡ 0))
  first_steps =
      let f = first_thing stand some in
      let z = cycle_size m (drop at s) (drop first s) f.between f.head size.read f.one in
      let w : total step_count (cycles_read s at left) ≡ step_count f.head + total step_count f.tail = ap (total step_count) f.whole in (
        total step_count f.tail,
        (omega arith, λ e. ap (total step_count) (none_after read_cycle left e f.between (drop stand.end s) f.tail f.others)),
      )

  -- the same where it ends
  module _ {next : ℕ} (reach : Reaches read_cycle s at 1 next) where
    pub steps_after_lem : total step_count (cycles_read s at left) ≡ places_of 1 m + total step_count (cycles_read s next (left - 1))
    steps_after_lem =
        let k = reach_field reach in
        let z = cycle_size m (drop at s) (drop first s) (drop next s) k.0 size.read k.1.read in
        let w : total step_count (cycles_read s at left) ≡ step_count k.0 + total step_count (cycles_read s next (left - 1)) = ap (total step_count)
        (turn stand some leaves_cycle k.1).0 in
        omega arith

    pub cycles_after : Stand read_cycle s next (left - 1)
    cycles_after = (turn stand some leaves_cycle (reach_field reach).1).1

-- its numbers, as many as the places that it takes, on their way to the arrays
module _ {s : List ℕ} {at m first n : ℕ} (size : FieldAt read_number s at m first) (wide : n ≡ places_of 1 m) where
  pub cycle_stands : Stand read_cycle s at 1 → Stand read_number s first n
  cycle_stands stand = subst (Stand read_number s first) (sym wide) (numbers_stand s at m first size.read size.fits stand)

  -- one cycle of the script stands in the arrays
  record Loaded (counts : List ℕ) (i : ℕ) (steps : List ℕ) (used : ℕ) (counts' steps' : List ℕ) (next : ℕ) : Type 0 where
    lengths : counts' ≡ sets counts i (map num_of (cycles_read s at 1))
    places : steps' ≡ sets steps used (spread cycle_words (cycles_read s at 1))
    reach : Reaches read_cycle s at 1 next

  loaded : (counts : List ℕ) (i : ℕ) (steps : List ℕ) (used : ℕ) (steps' : List ℕ) (next : ℕ) → Copied s first n used steps steps' next
      → Loaded counts i steps used (set counts i m) steps' next
  loaded counts i steps used steps' next done =
      let c = subst (λ (k : ℕ). Copied s first k used steps steps' next) wide done in
      let ns = numbers_read s first (places_of 1 m) in
      let z : length ns ≡ places_of 1 m = times_length read_number (places_of 1 m) (drop first s) (drop next s) ns c.reach.read in
      let e = cycle_is s at m first size.read next size.after c.reach in
      record {
        lengths = ap (set counts i) (sym (from_number m ns z)) ∙ ap (λ (ks : List Cycle). sets counts i (map num_of ks)) (sym e);
        places =
            c.numbers
            ∙ ap (sets steps used) (sym (from_places m ns z) ∙ sym (append-nil (cycle_words (cycle_from m ns))))
            ∙ ap (λ (ks : List Cycle). sets steps used (spread cycle_words ks)) (sym e);
        reach = cycle_reach s at m first size.read next size.after c.reach;
      }

-- ---- a face's cycles
-- what is left to load makes, from here on, what all of it makes
pub record Loading (s : List ℕ) (first n : ℕ) (counts₀ : List ℕ) (row : ℕ) (steps₀ : List ℕ) (place : ℕ) (counts steps : List ℕ) (at left i used : ℕ) : Type 0
  where
    pub walk : Walking read_cycle s first n at left
    pub rows : i + left ≡ row + n
    pub sum : used + total step_count (cycles_read s at left) ≡ place + total step_count (cycles_read s first n)
    pub counts_size : length counts ≡ length counts₀
    pub steps_size : length steps ≡ length steps₀
    pub lengths : sets counts i (map num_of (cycles_read s at left)) ≡ sets counts₀ row (map num_of (cycles_read s first n))
    pub places : sets steps used (spread cycle_words (cycles_read s at left)) ≡ sets steps₀ place (spread cycle_words (cycles_read s first n))

pub loading_start : (s : List ℕ) (first n : ℕ) (counts : List ℕ) (row : ℕ) (steps : List ℕ) (place : ℕ) → Stand read_cycle s first n
    → Loading s first n counts row steps place counts steps first n row place
loading_start s first n counts row steps place h =
    record {
      walk = walking_start h;
      rows = refl;
      sum = refl;
      counts_size = refl;
      steps_size = refl;
      lengths = refl;
      places = refl;
    }

module _ {s : List ℕ} {first n : ℕ} {counts₀ : List ℕ} {row : ℕ} {steps₀ : List ℕ} {place : ℕ} {counts steps : List ℕ} {at left i used : ℕ}
    (room : ScriptRoom s first n counts₀ row steps₀ place) (l : Loading s first n counts₀ row steps₀ place counts steps at left i used) where
  module _ (some : 0 < left) where
    pub loading_one : Stand read_cycle s at 1
    loading_one = one_stands l.walk.stand some leaves_cycle

    module _ {m from k : ℕ} (size : FieldAt read_number s at m from) (wide : k ≡ places_of 1 m) where
      -- its places are left in the array
      pub loading_fit : used + k ≤ length steps₀
      loading_fit =
          let f = (first_steps l.walk.stand some size).1.0 in
          let u = l.sum in
          let r = room.places in
          omega arith

      module _ {steps' : List ℕ} {next : ℕ} (done : Copied s from k used steps steps' next) where
        here : Loaded size wide counts i steps used (set counts i m) steps' next
        here = loaded size wide counts i steps used steps' next done

        cycle : (x : Cycle) × FieldAt read_cycle s at x next
        cycle = reach_field here.reach

        pub loading_turn : Loading s first n counts₀ row steps₀ place (set counts i m) steps' next (left - 1) (i + 1) (used + k)
        loading_turn =
            let x = cycle.0 in
            let w = walking_turn l.walk leaves_cycle some cycle.1 in
            let b = steps_after_lem l.walk.stand some size here.reach in
            let z : step_count x ≡ places_of 1 m = cycle_size m (drop at s) (drop from s) (drop next s) x size.read cycle.1.read in
            let o : cycles_read s at 1 ≡ x ∷ [] = field_list cycle.1 in
            let stored : set counts i m ≡ set counts i (num_of x) = here.lengths ∙ ap (λ (ks : List Cycle). sets counts i (map num_of ks)) o in
            let written : steps' ≡ sets steps used (cycle_words x) = here.places
            ∙ ap (λ (ks : List Cycle). sets steps used (spread cycle_words ks)) o ∙ ap (sets steps used) (append-nil (cycle_words x)) in
            let r = l.rows in
            let u = l.sum in
            let y : used + k ≡ used + length (cycle_words x) = ap (λ (j : ℕ). used + j) (wide ∙ sym z ∙ sym (places_size x)) in
            record {
              walk = w.1;
              rows = omega arith;
              sum = omega arith;
              counts_size = length-set counts i m ∙ l.counts_size;
              steps_size = ap length here.places ∙ length-sets steps used (spread cycle_words (cycles_read s at 1)) ∙ l.steps_size;
              lengths =
                  (λ j. sets (stored j) (add-one i j) (map num_of (cycles_read s next (left - 1))))
                  ∙ ap (λ (ks : List Cycle). sets counts i (map num_of ks)) (sym w.0)
                  ∙ l.lengths;
              places =
                  (λ j. sets (written j) (y j) (spread cycle_words (cycles_read s next (left - 1))))
                  ∙ sets_append steps used (cycle_words x) (spread cycle_words (cycles_read s next (left - 1)))
                  ∙ ap (λ (ks : List Cycle). sets steps used (spread cycle_words ks)) (sym w.0)
                  ∙ l.places;
            }

  module _ (none : left ≤ 0) where
    nothing : cycles_read s at left ≡ []
    nothing = let e : left ≡ 0 = omega arith in ap (cycles_read s at) e

    pub loading_used : used ≡ place + total step_count (cycles_read s first n)
    loading_used =
        let z : total step_count (cycles_read s at left) ≡ 0 = ap (total step_count) nothing in
        let u = l.sum in
        omega arith

    pub loading_lengths : counts ≡ sets counts₀ row (map num_of (cycles_read s first n))
    loading_lengths = ap (λ (ks : List Cycle). sets counts i (map num_of ks)) (sym nothing) ∙ l.lengths

    pub loading_places : steps ≡ sets steps₀ place (spread cycle_words (cycles_read s first n))
    loading_places = ap (λ (ks : List Cycle). sets steps used (spread cycle_words ks)) (sym nothing) ∙ l.places
