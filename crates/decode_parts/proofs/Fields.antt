-- What a field that was read, or that is not there, says of the bytes at its place. Assumes nothing.
use Rattle.std.specs.Prelude.{Option, Some, None}
use mathlib.Core.Path.{◌≡◌, refl, sym, ap, ◌∙◌, subst}
use mathlib.Core.List.{List}
use Prim.Native.Nat.{ℕ, ◌+◌, ◌-◌, ◌*◌, ◌≤◌}
use native.Mathlib.Omega.{arith}
use lib.ListN.{length, take, drop, length-drop}
use lib.Seq.{take_all, drop-drop}
use Rattle.number.specs.Readers.{Read, got, bad, times}
use Rattle.number.specs.Said.{Said, done, no, found_or, placed_or}
use Rattle.number.specs.Numbers.{read_number, number_says, number_at}
use Rattle.number.proofs.Laws.{value_at_lem, found_got, found_bad}
use Rattle.coordinate.specs.declared.Position.{Position}
use Rattle.coordinate.specs.Positions.{read_position, located_says, located_at}
use Rattle.coordinate.proofs.Laws.{located_at_lem}
use Rattle.bends.specs.Bends.{read_bends, positions_at, bend_list_says, bend_list_in}
use Rattle.bends.proofs.Laws.{listed_in, malformed_in, positions_drop}
use Rattle.decode_parts.specs.Lists.{FieldAt, Found, skip_says, skipped, Reaches, Stand, bends_say, BendsEnd, BendsAt}
use Rattle.decode_parts.proofs.Rest.{Leaves}
use Rattle.decode_parts.proofs.Skips.{skipped_one, skipped_to, skipped_none}

-- ---- what a function that reads answered
-- where the answer is known to be w
pub heard : {A W : Type 0} {r : List ℕ → Read A} {s : List ℕ} {at : ℕ} (says : W → Said (A × ℕ)) {v w : W} → Found r s at (says v) → v ≡ w
    → Found r s at (says w)
heard {W = W} {r = r} {s = s} {at = at} says h e = subst (λ (u : W). Found r s at (says u)) e h

-- a thing and the place after it, where r leaves what stands from a place on
found_at : {A : Type 0} {r : List ℕ → Read A} {s : List ℕ} {at : ℕ} {v : Said (A × ℕ)} → v ≡ placed_or 2 (length s) (r (drop at s))
    → ((x : A) (next : ℕ) → placed_or 2 (length s) (r (drop at s)) ≡ done (x, next) → FieldAt r s at x next) → Found r s at v
found_at {A} {r} {s} {at} e f = subst (Found r s at) (sym e) (go (r (drop at s)) refl)
  where
    go : (q : Read A) → r (drop at s) ≡ q → Found r s at (placed_or 2 (length s) q)
    go (got x t) p = record { is = f x (length s - length t) (ap (placed_or 2 (length s)) p) }
    go bad p = record { is = (refl, p) }

module _ {s : List ℕ} {at : ℕ} where
  pub number_heard : {v w : Option (ℕ × ℕ)} → number_says v ≡ number_at s at → v ≡ w → Found read_number s at (number_says w)
  number_heard e = heard number_says (found_at e λ n next p.
      let q = value_at_lem s at n next p in
      let a = q.1 in
      record { read = q.0; after = omega arith; fits = q.2 })

  pub position_heard : {v w : Option (Position × ℕ)} → located_says v ≡ located_at s at → v ≡ w → Found read_position s at (located_says w)
  position_heard e = heard located_says (found_at e λ p next h.
      let q = located_at_lem s at p next h in
      let a = q.1 in
      record { read = q.0; after = omega arith; fits = q.2 })

-- a number that was read
pub number_at_lem : (s : List ℕ) (at : ℕ) {n next : ℕ} {v : Option (ℕ × ℕ)} → number_says v ≡ number_at s at → v ≡ Some (n, next) → FieldAt read_number s at n next
number_at_lem s at e f = (number_heard e f).is

-- ---- a bend list
pub record ListAt (s : List ℕ) (at n first next : ℕ) : Type 0 where
  pub read : read_bends (drop at s) ≡ got (positions_at s first n) (drop next s)
  pub after : at ≤ next
  pub lies : first + 16 * n ≤ length s
  pub fits : next ≤ length s

pub list_at_lem : {s : List ℕ} {at n first next : ℕ} {b : Option (ℕ × ℕ × ℕ)} → BendsAt s at b → b ≡ Some (n, first, next) → ListAt s at n first next
list_at_lem {s} {at} {n} {first} {next} h f =
    let q : BendsEnd s at (Some (n, first, next)) = subst (BendsEnd s at) f h.ends in
    let a = q.0 in
    let e = q.1 in
    let l = q.2 in
    record {
      read = found_got 2 (read_bends (drop at s)) (positions_at s first n) (drop next s) (sym h.answer ∙ ap (bends_say s) f);
      after = omega arith;
      lies = omega arith;
      fits = l;
    }

pub list_none : {s : List ℕ} {at : ℕ} {b : Option (ℕ × ℕ × ℕ)} → BendsAt s at b → b ≡ None → read_bends (drop at s) ≡ bad
list_none {s} {at} h f = found_bad 2 (read_bends (drop at s)) (sym h.answer ∙ ap (bends_say s) f)

module _ {s : List ℕ} {at : ℕ} {b : Option (ℕ × ℕ × ℕ)} (h : BendsAt s at b) where
  pub list_found : {n first next : ℕ} → b ≡ Some (n, first, next) → Found read_bends s at (done (positions_at s first n, next))
  list_found e = let l = list_at_lem h e in record { is = record { read = l.read; after = l.after; fits = l.fits } }

  pub no_list : b ≡ None → Found read_bends s at (no 2)
  no_list e = record { is = (refl, list_none h e) }

-- the list that the part from `at` on begins with, by its places in the whole
module _ (s : List ℕ) (at : ℕ) (within : at ≤ length s) (b : Option (ℕ × ℕ × ℕ)) (is : bend_list_says b ≡ bend_list_in (take (length s - at) (drop at s))) where
  whole : bend_list_says b ≡ bend_list_in (drop at s)
  whole =
      let d : length (drop at s) ≡ length s - at = length-drop at s in
      is ∙ ap bend_list_in (take_all (length s - at) (drop at s) (omega arith))

  part_ends : {n first end : ℕ} → b ≡ Some (n, first, end) → at + end ≤ length s
  part_ends {n} {first} {end} f =
      let l = (listed_in (drop at s) n first end (sym whole ∙ ap bend_list_says f)).fits in
      let d : length (drop at s) ≡ length s - at = length-drop at s in
      omega arith

  pub part_fits : {n first end : ℕ} → b ≡ Some (n, first, end) → (at + first ≤ length s) × (at + end ≤ length s)
  part_fits {n} {first} {end} f =
      let e = (listed_in (drop at s) n first end (sym whole ∙ ap bend_list_says f)).ends in
      let l = part_ends f in
      (omega arith, l)

  pub part_listed : {n first end : ℕ} → b ≡ Some (n, first, end) → BendsAt s at (Some (n, (at + first), (at + end)))
  part_listed {n} {first} {end} f =
      let q = listed_in (drop at s) n first end (sym whole ∙ ap bend_list_says f) in
      let e = q.ends in
      record {
        answer = ap (found_or 2) (sym (q.read ∙ (λ i. got (positions_drop s at first n i) (drop-drop end at s i))));
        ends = (omega arith, omega arith, part_ends f);
      }

  pub part_none : b ≡ None → BendsAt s at None
  part_none f = record { answer = ap (found_or 2) (sym (malformed_in (drop at s) (sym whole ∙ ap bend_list_says f))); ends = tt }

-- ---- a thing, or a list, that is walked
module _ {A : Type 0} {r : List ℕ → Read A} {s : List ℕ} {at : ℕ} {v : Option ℕ} (is : skip_says v ≡ skipped (length s) (r (drop at s))) where
  pub skip_heard : {next : ℕ} → Leaves r → at ≤ length s → v ≡ Some next → (x : A) × Found r s at (done (x, next))
  skip_heard {next} L h f =
      let q = skipped_one r L s at next h (sym is ∙ ap skip_says f) in
      (q.0, record { is = record { read = q.1.0; after = q.1.1; fits = q.1.2 } })

  pub no_skip : v ≡ None → Found r s at (no 2)
  no_skip f = record { is = (refl, skipped_none (length s) (r (drop at s)) (sym is ∙ ap skip_says f)) }

module _ {A : Type 0} (r : List ℕ → Read A) (s : List ℕ) (at n : ℕ) {v : Option ℕ} (is : skip_says v ≡ skipped (length s) (times r n (drop at s))) where
  pub things_at : {next : ℕ} → Leaves r → at ≤ length s → v ≡ Some next → Reaches r s at n next
  things_at {next} L h f = let q = skipped_to r L s at n next h (sym is ∙ ap skip_says f) in record { read = q.0; after = q.1; fits = q.2 }

  pub things_none : v ≡ None → times r n (drop at s) ≡ bad
  things_none f = skipped_none (length s) (times r n (drop at s)) (sym is ∙ ap skip_says f)

pub stands : {A : Type 0} {r : List ℕ → Read A} {s : List ℕ} {at n next : ℕ} → Reaches r s at n next → Stand r s at n
stands {next = next} h = record { end = next; reach = h }
