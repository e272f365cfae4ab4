-- `file_parts::put_cycle` meets its contract: a count, then the numbers at its places. Assumes nothing.
use borrow.Author.Rules.{rules}
use Prim.Native.Nat.{ℕ, ◌+◌, ◌≤◌}
use mathlib.Core.Path.{◌≡◌, ap, sym, ◌∙◌, subst}
use mathlib.Core.List.{List, ◌++◌}
use native.Mathlib.Omega.{arith}
use lib.Dec.{T}
use lib.ListN.{length, drop, length-drop}
use Rattle.number.specs.Readers.{spread}
use Rattle.number.specs.Numbers.{spell}
use Rattle.complex.specs.Decode.{cycle_bytes}
use Rattle.store.specs.View.{width, cycle_of}
use Rattle.store.proofs.Lists.{places_one}
use Rattle.file_parts.specs.Parts.{run_of, cycle_spells, SpelledNumbers}
use Rattle.file_parts.proofs.Laying.{put_of, put_then, put_as, room_first, room_then}
use Rattle.file_parts.proofs.Cycles.{cycle_bytes_lem, cycle_spells_lem, width_le}
use Rattle.file_parts.proofs.put_cycle.Goals as goal

-- c steps, which begin at a place
module _ (c : ℕ) (steps : List ℕ) (from : ℕ) (z : length steps ≡ 2048) (w : from + width c ≤ 2048) where
  long : width c ≤ length (drop from steps)
  long = omega (arith, length-drop from steps)

  bytes : cycle_bytes (cycle_of c (drop from steps)) ≡ spell c ++ spread spell (run_of from (width c) steps)
  bytes = cycle_bytes_lem c (drop from steps) long

  -- there is room for the count and the numbers
  room : (at : ℕ) (out : List ℕ) → at + length (cycle_bytes (cycle_of c (drop from steps))) ≤ length out
      → at + length (spell c ++ spread spell (run_of from (width c) steps)) ≤ length out
  room at out h = subst (λ (l : List ℕ). at + length l ≤ length out) bytes h

  numbers : T (cycle_spells (cycle_of c (drop from steps))) → SpelledNumbers steps from (width c)
  numbers t = record { room = omega arith; spelled = cycle_spells_lem c (drop from steps) long t }

pub put_number-next-requires : goal.put_number-next-requires
put_number-next-requires c =
    let s = c in
    let w = s.requires.c_bound in
    let l = width_le s.args.c in record {
      n_lt_numbers_end = omega arith;
      n_in_bounds = room_first s.args.out.now s.args.at (spell s.args.c)
          (spread spell (run_of s.args.from (width s.args.c) s.args.steps.now)) (room s.args.c s.args.steps.now s.args.from s.requires.steps_len s.requires.c_bound s.args.at s.args.out.now s.requires.steps_in_bounds);
    }

pub put_numbers-requires : goal.put_numbers-requires
put_numbers-requires c =
    let s = c in
    let f = c.put_number-next in
    let e : width s.args.c ≡ c.places.result = sym (c.places.ensures ∙ places_one s.args.c) in
    let a = spell s.args.c in
    let r = room_then s.args.out.now s.args.at a (spread spell (run_of s.args.from (width s.args.c) s.args.steps.now))
    (put_of a f.ensures.value f.ensures.out_after) (room s.args.c s.args.steps.now s.args.from s.requires.steps_len s.requires.c_bound s.args.at s.args.out.now s.requires.steps_in_bounds) in record {
      spelled_numbers = subst (SpelledNumbers s.args.steps.now s.args.from) e (numbers s.args.c s.args.steps.now s.args.from s.requires.steps_len s.requires.c_bound s.requires.t);
      src_in_bounds = subst (λ (k : ℕ). f.result + length (spread spell (run_of s.args.from k s.args.steps.now)) ≤ length f.new.out) e r;
    }

pub returns : goal.returns
returns c =
    let s = c in
    let f = c.put_number-next in
    let p = c.places in
    let g = c.put_numbers in
    let e : p.result ≡ width s.args.c = p.ensures ∙ places_one s.args.c in
    let a = spell s.args.c in
    put_as (sym (bytes s.args.c s.args.steps.now s.args.from s.requires.steps_len s.requires.c_bound))
    (put_then a (spread spell (run_of s.args.from (width s.args.c) s.args.steps.now)) (put_of a f.ensures.value f.ensures.out_after)
    (put_as (ap (λ (k : ℕ). spread spell (run_of s.args.from k s.args.steps.now)) e) g.ensures))
