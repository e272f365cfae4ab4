-- `copy_cycles` meets its contract. Assumes nothing.
use lib.ListN.{length, take, drop, get_or}
use mathlib.Core.List.{List}
use Rattle.store.specs.View.{width, width_sum, cycle_of}
use Rattle.rows_uses.specs.Uses.{uses_in}
use Rattle.rows_copied.specs.Copying.{Changed, copied}
use mathlib.Core.Path.{subst, ◌≡◌, refl, ap, ◌∙◌}
use Rattle.rows_sides.proofs.Passing.{part_is, part_room, from_within}
use Rattle.rows_copied.proofs.Passing.{part_put, Passing, passing_start, passing_turn}
use Prim.Native.Nat.{ℕ, ◌+◌, ◌-◌, ◌≤◌, ◌<◌}
use native.Mathlib.Omega.{arith}
use Rattle.store.proofs.Lists.{places_one}
use Rattle.rows_uses.proofs.Runs.{uses_few}
use Rattle.rows_copied.proofs.copy_cycles.Goals as goal

-- the steps of cycle j are there
room : (cycles steps₀ steps : List ℕ) (n j from : ℕ) → n ≤ length cycles → j < n → from ≡ width_sum (take j cycles)
    → width_sum (take n cycles) ≤ length steps₀ → length steps ≡ length steps₀ → from + width (get_or cycles j 0) ≤ length steps
room cycles steps₀ steps n j from h g e w z = omega (arith, from_within cycles j n from (get_or cycles j 0) h g e refl, w, z)

pub loop-j-init : goal.loop-j-init
loop-j-init c = (omega arith, passing_start _ _ _ _ _)

pub offset_bounds-steps-from : goal.offset_bounds-steps-from
offset_bounds-steps-from c =
    let a = c.args in
    let l = c.loop-j in
    let p = c.requires in
    let i = l.invariant.1 in
    let r = room a.cycles.now a.steps.now l.steps a.n l.j l.from p.n_in_bounds c.loop-j-test.true i.from_is p.cycles_in_bounds i.size in
    record { fits = omega (arith, r) }

pub slice_bounds-cycle_uses-count : goal.slice_bounds-cycle_uses-count
slice_bounds-cycle_uses-count c =
    let a = c.args in
    let l = c.loop-j in
    let p = c.requires in
    let i = l.invariant.1 in
    let r = room a.cycles.now a.steps.now l.steps a.n l.j l.from p.n_in_bounds c.loop-j-test.true i.from_is p.cycles_in_bounds i.size in
    omega (arith, r)

pub slice_bounds-cycle_uses-start : goal.slice_bounds-cycle_uses-start
slice_bounds-cycle_uses-start c =
    let a = c.args in
    let l = c.loop-j in
    let p = c.requires in
    let i = l.invariant.1 in
    let r = room a.cycles.now a.steps.now l.steps a.n l.j l.from p.n_in_bounds c.loop-j-test.true i.from_is p.cycles_in_bounds i.size in
    omega (arith, r)

pub cycle_uses-m-requires : goal.cycle_uses-m-requires
cycle_uses-m-requires c =
    let a = c.args in
    let l = c.loop-j in
    let p = c.requires in
    let i = l.invariant.1 in
    let r = room a.cycles.now a.steps.now l.steps a.n l.j l.from p.n_in_bounds c.loop-j-test.true i.from_is p.cycles_in_bounds i.size in
    part_room l.from (width (get_or a.cycles.now l.j 0)) l.steps r

pub offset_bounds-steps-from-in-loop-j : goal.offset_bounds-steps-from-in-loop-j
offset_bounds-steps-from-in-loop-j c =
    let a = c.args in
    let l = c.loop-j in
    let p = c.requires in
    let i = l.invariant.1 in
    let r = room a.cycles.now a.steps.now l.steps a.n l.j l.from p.n_in_bounds c.loop-j-test.true i.from_is p.cycles_in_bounds i.size in
    record { fits = omega (arith, r) }

pub slice_bounds-copy_cycle-count : goal.slice_bounds-copy_cycle-count
slice_bounds-copy_cycle-count c =
    let a = c.args in
    let l = c.loop-j in
    let p = c.requires in
    let i = l.invariant.1 in
    let r = room a.cycles.now a.steps.now l.steps a.n l.j l.from p.n_in_bounds c.loop-j-test.true i.from_is p.cycles_in_bounds i.size in
    omega (arith, r)

pub slice_bounds-copy_cycle-start : goal.slice_bounds-copy_cycle-start
slice_bounds-copy_cycle-start c =
    let a = c.args in
    let l = c.loop-j in
    let p = c.requires in
    let i = l.invariant.1 in
    let r = room a.cycles.now a.steps.now l.steps a.n l.j l.from p.n_in_bounds c.loop-j-test.true i.from_is p.cycles_in_bounds i.size in
    omega (arith, r)

pub copy_cycle-requires : goal.copy_cycle-requires
copy_cycle-requires c =
    let a = c.args in
    let l = c.loop-j in
    let p = c.requires in
    let i = l.invariant.1 in
    let r = room a.cycles.now a.steps.now l.steps a.n l.j l.from p.n_in_bounds c.loop-j-test.true i.from_is p.cycles_in_bounds i.size in
    record {
      c_in_bounds = part_room l.from (width (get_or a.cycles.now l.j 0)) l.steps r;
      next_le_ids_end = p.next_le_ids_end;
      c_bound = omega (arith, r, p.steps_bound, i.few, i.size);
    }

pub overflow_add-k : goal.overflow_add-k
overflow_add-k c =
    let a = c.args in
    let l = c.loop-j in
    let p = c.requires in
    let i = l.invariant.1 in
    let r = room a.cycles.now a.steps.now l.steps a.n l.j l.from p.n_in_bounds c.loop-j-test.true i.from_is p.cycles_in_bounds i.size in
    let u = uses_few a.u a.i (get_or a.cycles.now l.j 0) (take (length l.steps - l.from) (drop l.from l.steps)) in
    record { fits = omega (arith, r, c.cycle_uses-m.ensures, u, p.steps_bound, i.few, i.size) }

pub overflow_add-from : goal.overflow_add-from
overflow_add-from c =
    let a = c.args in
    let l = c.loop-j in
    let p = c.requires in
    let i = l.invariant.1 in
    let r = room a.cycles.now a.steps.now l.steps a.n l.j l.from p.n_in_bounds c.loop-j-test.true i.from_is p.cycles_in_bounds i.size in
    record { fits = omega (arith, r, p.steps_bound, c.places-from.ensures ∙ places_one (get_or a.cycles.now l.j 0)) }

pub loop-j-preserved : goal.loop-j-preserved
loop-j-preserved c =
    let a = c.args in
    let l = c.loop-j in
    let p = c.requires in
    let i = l.invariant.1 in
    let r = room a.cycles.now a.steps.now l.steps a.n l.j l.from p.n_in_bounds c.loop-j-test.true i.from_is p.cycles_in_bounds i.size in
    let u = uses_few a.u a.i (get_or a.cycles.now l.j 0) (take (length l.steps - l.from) (drop l.from l.steps)) in
    let few : c.cycle_uses-m.result ≤ width (get_or a.cycles.now l.j 0) = omega (arith, c.cycle_uses-m.ensures, u) in
    let h : l.j < length a.cycles.now = omega arith in
    let w = c.places-from.ensures ∙ places_one (get_or a.cycles.now l.j 0) in
    let o = part_is l.from l.steps in
    let y = c.copy_cycle in
    let e = c.cycle_uses-m.ensures ∙ ap (λ (x : List ℕ). uses_in a.u a.i (cycle_of (get_or a.cycles.now l.j 0) x)) o in
    let ch = subst (λ (x : List ℕ). Changed (copied a.u a.i a.next l.k) (get_or a.cycles.now l.j 0) x y.new.l) o y.ensures in (
      omega arith,
      passing_turn _ _ _ _ _ l.j l.from l.k l.steps i h (get_or a.cycles.now l.j 0) refl r y.new.l _ (part_put l.from l.steps y.new.l) ch _ _ e w few,
    )

pub shape_of-steps : goal.shape_of-steps
shape_of-steps c = c.loop-j.invariant.1.size

pub returns : goal.returns
returns c =
    let at = c in
    let e : at.loop-j.j ≡ at.args.n = omega arith in
    rw e at at.loop-j.invariant.1.front
