-- `file_read::load_cycle` meets its contract. Assumes nothing.
use Rattle.std.specs.Prelude.{Option, Some, None}
use Prim.Native.Nat.{ℕ, ◌≤◌}
use native.Mathlib.Omega.{arith}
use mathlib.Core.Path.{◌≡◌, refl, sym, subst, ap, ◌∙◌}
use lib.ListN.{length, drop}
use mathlib.Core.List.{List}
use Rattle.number.specs.Readers.{got}
use Rattle.number.specs.Numbers.{read_number, number_says, number_at}
use Rattle.number.proofs.Laws.{value_at_lem, malformed_at}
use Rattle.store.specs.View.{width}
use Rattle.store.specs.Edits.{places_of}
use Rattle.store.proofs.Lists.{places_one}
use Rattle.file_read.specs.Filling.{NumbersPut}
use Rattle.file_read.proofs.CycleNumbers.{no_length, too_long_lem, no_numbers, cycle_loaded}
use borrow.Author.Rules.{rules}
use Rattle.file_read.proofs.load_cycle.Goals as goal

-- the number of steps, the place after it and the places that the cycle takes
length_found :
    (s : List ℕ) (at m first w : ℕ) (r : Option (ℕ × ℕ)) → r ≡ Some (m, first) → number_says r ≡ number_at s at → w ≡ places_of 1 m
    → (read_number (drop at s) ≡ got m (drop first s)) × (first ≤ length s) × (w ≡ width m)
length_found s at m first w r e f g =
    let v = value_at_lem s at m first (sym f ∙ ap number_says e) in
    (v.0, v.2, g ∙ places_one m)

pub returns-in_default : goal.returns-in_default
returns-in_default c =
    let a = c.args in (
      refl,
      no_length (drop a.at a.s.now) a.used (malformed_at a.s.now a.at (sym c.read_number.ensures ∙ ap number_says c.in_default.is)),
    )

pub returns-then-t-w : goal.returns-then-t-w
returns-then-t-w c =
    let a = c.args in
    let g = c.in-Some in
    let l = length_found a.s.now a.at g.m g.first c.places-w.result _ g.is c.read_number.ensures c.places-w.ensures in
    let w = l.2 in
    (refl, too_long_lem (drop a.at a.s.now) _ _ a.used l.0 (omega (arith, c.if-t-w.true, c.requires.steps_le_steps_most)))

pub put_numbers-requires : goal.put_numbers-requires
put_numbers-requires c =
    let a = c.args in
    let g = c.in-Some in
    record {
      at_in_bounds = (length_found a.s.now a.at g.m g.first c.places-w.result _ g.is c.read_number.ensures c.places-w.ensures).1;
      m_in_bounds = omega (arith, c.if-t-w.false, c.requires.steps_len, c.requires.steps_le_steps_most);
    }

pub returns-in_default-put_numbers : goal.returns-in_default-put_numbers
returns-in_default-put_numbers c =
    let a = c.args in
    let g = c.in-Some in
    let l = length_found a.s.now a.at g.m g.first c.places-w.result _ g.is c.read_number.ensures c.places-w.ensures in (
      refl,
      no_numbers a.s.now a.at g.first g.m c.places-w.result l.2 l.0 a.used
          (subst (NumbersPut a.s.now g.first c.places-w.result a.steps.now a.used.steps _) c.in_default-put_numbers.is c.put_numbers.ensures).1,
    )

pub returns : goal.returns
returns c =
    let a = c.args in
    let g = c.in-Some in
    let l = length_found a.s.now a.at g.m g.first c.places-w.result _ g.is c.read_number.ensures c.places-w.ensures in
    cycle_loaded a.s.now a.at g.first g.m c.places-w.result l.2 l.0 a.used a.cycles.now a.steps.now _ _
    (subst (NumbersPut a.s.now g.first c.places-w.result a.steps.now a.used.steps _) c.in-Some-put_numbers.is c.put_numbers.ensures)
    (omega (arith, c.requires.cycles_len, c.requires.cycles_lt_cycles_most))
