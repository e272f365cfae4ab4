-- `file_parts::put_rings` meets its contract. The loop's invariant: the first i cycles are written, and the next one's steps begin at step. Assumes nothing.
use borrow.Author.Rules.{rules}
use Prim.Native.Nat.{ℕ, ◌+◌, ◌-◌, ◌<◌, ◌≤◌}
use mathlib.Core.Path.{◌≡◌, ap, ◌∙◌}
use mathlib.Core.List.{List}
use native.Mathlib.Omega.{arith}
use lib.ListN.{length, take, drop, get_or}
use Rattle.number.specs.Readers.{spread}
use Rattle.complex.specs.Cells.{Cycle, lone}
use Rattle.complex.specs.Decode.{cycle_bytes}
use Rattle.store.specs.View.{width_sum, cycle_of, cycles_from}
use Rattle.store.proofs.Lists.{places_one}
use Rattle.file_parts.specs.Parts.{BytesPut, run_of, Rings}
use Rattle.file_parts.proofs.Laying.{put_none, put_size, put_turn, put_room, put_all}
use Rattle.file_parts.proofs.Cycles.{next_ring, rings_size}
use Rattle.file_parts.proofs.put_rings.Goals as goal

-- the cycles to write
abbrev rings : List ℕ → ℕ → ℕ → List ℕ → ℕ → List Cycle
rings cycles from n steps first = cycles_from (run_of from n cycles) (drop first steps)

inside : (cycles : List ℕ) (from n : ℕ) (steps : List ℕ) (first : ℕ) → Rings cycles from n steps first → (i : ℕ) → i < n
    → i < length (rings cycles from n steps first)
inside cycles from n steps first r i h = let k = rings_size cycles from n steps first r in omega arith

pub loop-i-init : goal.loop-i-init
loop-i-init c = (omega arith, omega arith, put_none _ _)

pub put_cycle-place-requires : goal.put_cycle-place-requires
put_cycle-place-requires c =
    let w = c in
    let l = w.loop-i in
    let s = w in
    let count = get_or s.args.cycles.now (s.args.from + l.i) 0 in
    let next = cycle_of count (drop l.step s.args.steps.now) in
    let told = next_ring s.args.cycles.now s.args.from s.args.n s.args.steps.now s.args.first s.requires.rings l.i l.step w.loop-i-test.true l.invariant.1 in
    record {
      steps_len = s.requires.rings.sizes.1;
      c_bound = told.within;
      t = told.spelled;
      steps_in_bounds = put_room cycle_bytes (rings s.args.cycles.now s.args.from s.args.n s.args.steps.now s.args.first) s.args.out.now l.out s.args.at l.place l.i (inside s.args.cycles.now s.args.from s.args.n s.args.steps.now s.args.first s.requires.rings l.i w.loop-i-test.true) l.invariant.2 (lone 0)
          (cycle_bytes next) (ap cycle_bytes told.is) s.requires.steps_in_bounds;
    }

pub overflow_add-step : goal.overflow_add-step
overflow_add-step c =
    let w = c in
    let l = w.loop-i in
    let s = w in
    let count = get_or s.args.cycles.now (s.args.from + l.i) 0 in
    let told = next_ring s.args.cycles.now s.args.from s.args.n s.args.steps.now s.args.first s.requires.rings l.i l.step w.loop-i-test.true l.invariant.1 in
    let e = c.places-step.ensures ∙ places_one count in
    let g = told.within in
    record { fits = omega arith }

pub loop-i-preserved : goal.loop-i-preserved
loop-i-preserved c =
    let w = c in
    let l = w.loop-i in
    let s = w in
    let count = get_or s.args.cycles.now (s.args.from + l.i) 0 in
    let next = cycle_of count (drop l.step s.args.steps.now) in
    let told = next_ring s.args.cycles.now s.args.from s.args.n s.args.steps.now s.args.first s.requires.rings l.i l.step w.loop-i-test.true l.invariant.1 in
    let h = w.loop-i-test.true in (
      omega arith,
      ap (λ (m : ℕ). l.step + m) (c.places-step.ensures ∙ places_one count) ∙ told.after,
      put_turn cycle_bytes (rings s.args.cycles.now s.args.from s.args.n s.args.steps.now s.args.first) s.args.out.now l.out s.args.at l.place l.i (inside s.args.cycles.now s.args.from s.args.n s.args.steps.now s.args.first s.requires.rings l.i w.loop-i-test.true) l.invariant.2 (lone 0)
          (cycle_bytes next) (ap cycle_bytes told.is) c.put_cycle-place.ensures,
    )

pub shape_of-out : goal.shape_of-out
shape_of-out c = put_size c.loop-i.invariant.2

pub returns : goal.returns
returns c = let s = c in put_all cycle_bytes (rings s.args.cycles.now s.args.from s.args.n s.args.steps.now s.args.first) c.loop-i.i (omega (arith, rings_size s.args.cycles.now s.args.from s.args.n s.args.steps.now s.args.first s.requires.rings)) c.loop-i.invariant.2
