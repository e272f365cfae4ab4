-- `swap_cycles` meets its contract. Assumes nothing.
use borrow.Author.Rules.{rules}
use Prim.Native.Nat.{ℕ, ◌≤◌, ◌<◌, ◌-◌, ◌+◌}
use mathlib.Core.Path.{◌≡◌, refl, ap, sym, ◌∙◌}
use native.Mathlib.Omega.{arith}
use mathlib.Core.List.{List}
use lib.ListN.{length, take, drop, get_or}
use lib.Seq.{length-take-le}
use Rattle.complex.specs.Sound.{steps_most}
use Rattle.store.specs.View.{width, width_sum}
use Rattle.rows_steps.specs.declared.Swap.{Swap}
use Rattle.kernel_swap.specs.Swaps.{Enough}
use Rattle.rows_steps.specs.Swap.{swap_steps, all_steps}
use Rattle.store.proofs.Lists.{places_one}
use Rattle.rows_steps.proofs.Writing.{Swapping, swapping_start}
use Rattle.kernel_swap.proofs.Along.{cycle_ahead, cycle_end, cycle_room_lem, cycle_turn}
use Rattle.kernel_swap.proofs.swap_cycles.Goals as goal

-- its steps are there, and are swapped before the cycle is read
room : (t : Swap) (cs ss : List ℕ) (g i n from at : ℕ) (cs' ss' : List ℕ) → Swapping t cs (drop g ss) ss i from at cs' ss'
    → drop (g + from) ss' ≡ drop (g + from) ss → n ≤ length cs → i < n → g + width_sum (take n cs) ≤ length ss → Enough t (take n cs) (drop g ss) g
    → length ss ≤ steps_most → (g + from + width (get_or cs' i 0) ≤ length ss) × (g + from + width (get_or cs' i 0) ≤ steps_most)
    × (at + length (swap_steps t (get_or cs' i 0) (take (width (get_or cs' i 0)) (drop (g + from) ss'))) ≤ g + from + width (get_or cs' i 0))
room t cs ss g i n from at cs' ss' p q hn hi hg r few =
    let w = cycle_room_lem t cs ss g i n from at cs' ss' p q hn hi hg r (get_or cs' i 0) refl in
    (omega arith, omega arith, cycle_end t cs ss g i n from at cs' ss' p q hn hi hg r (get_or cs' i 0) refl)

pub loop-i-init : goal.loop-i-init
loop-i-init c = (omega arith, swapping_start _ _ _ _, refl)

pub bounds-cycles-i : goal.bounds-cycles-i
bounds-cycles-i c = omega (arith, c.loop-i.invariant.1.cycles_size_lem)

pub overflow_add-g : goal.overflow_add-g
overflow_add-g c =
    let q = c.requires in
    let l = c.loop-i in
    let r = room c.args.t c.args.cycles.now c.args.steps.now c.args.g l.i c.args.n l.from l.at l.cycles l.steps l.invariant.1 l.invariant.2
    q.n_in_bounds (omega arith) q.cycles_in_bounds q.enough q.steps_len_bound in
    record { fits = omega arith }

pub swap_cycle-w-requires : goal.swap_cycle-w-requires
swap_cycle-w-requires c =
    let a = c.args in
    let p = c.requires in
    let l = c.loop-i in
    let h : l.i < a.n = omega arith in
    let r = room a.t a.cycles.now a.steps.now a.g l.i a.n l.from l.at l.cycles l.steps l.invariant.1 l.invariant.2
    p.n_in_bounds h p.cycles_in_bounds p.enough p.steps_len_bound in
    record {
      n_bound = p.n_bound;
      c_in_bounds = omega (arith, r.0, l.invariant.1.size);
      ahead = cycle_ahead a.t _ _ a.g l.i a.n l.from l.at l.cycles l.steps l.invariant.1 l.invariant.2 p.n_in_bounds h p.cycles_in_bounds p.enough
          (get_or l.cycles l.i 0) refl;
    }

pub number_of-requires : goal.number_of-requires
number_of-requires c =
    let q = c.requires in
    let l = c.loop-i in
    let r = room c.args.t c.args.cycles.now c.args.steps.now c.args.g l.i c.args.n l.from l.at l.cycles l.steps l.invariant.1 l.invariant.2
    q.n_in_bounds (omega arith) q.cycles_in_bounds q.enough q.steps_len_bound in
    omega (arith, r.1, r.2, c.swap_cycle-w.ensures.value)

pub bounds-cycles-i-in-loop-i : goal.bounds-cycles-i-in-loop-i
bounds-cycles-i-in-loop-i c = omega (arith, c.loop-i.invariant.1.cycles_size_lem)

pub overflow_add-from : goal.overflow_add-from
overflow_add-from c =
    let q = c.requires in
    let l = c.loop-i in
    let r = room c.args.t c.args.cycles.now c.args.steps.now c.args.g l.i c.args.n l.from l.at l.cycles l.steps l.invariant.1 l.invariant.2
    q.n_in_bounds (omega arith) q.cycles_in_bounds q.enough q.steps_len_bound in
    record { fits = omega (arith, r.1, c.places-from.ensures ∙ places_one (get_or l.cycles l.i 0)) }

pub overflow_add-at : goal.overflow_add-at
overflow_add-at c =
    let q = c.requires in
    let l = c.loop-i in
    let r = room c.args.t c.args.cycles.now c.args.steps.now c.args.g l.i c.args.n l.from l.at l.cycles l.steps l.invariant.1 l.invariant.2
    q.n_in_bounds (omega arith) q.cycles_in_bounds q.enough q.steps_len_bound in
    record { fits = omega (arith, r.1, r.2, c.swap_cycle-w.ensures.value) }

pub loop-i-preserved : goal.loop-i-preserved
loop-i-preserved c =
    let o = c.swap_cycle-w in
    let q = c in
    let a = q.args in
    let p = q.requires in
    let l = q.loop-i in
    let h : l.i < a.n = omega arith in
    let x =
    cycle_turn a.t _ _ a.g l.i a.n l.from l.at l.cycles l.steps l.invariant.1 l.invariant.2 p.n_in_bounds h p.cycles_in_bounds p.enough (get_or q.loop-i.cycles q.loop-i.i 0) refl
    o.result c.places-from.result c.number_of.result o.new.steps (c.places-from.ensures ∙ places_one (get_or q.loop-i.cycles q.loop-i.i 0)) o.ensures.value
    c.number_of.ensures o.ensures.wrote in
    (omega arith, x.0, x.1)

pub shape_of-cycles : goal.shape_of-cycles
shape_of-cycles c = c.loop-i.invariant.1.cycles_size_lem

pub shape_of-steps : goal.shape_of-steps
shape_of-steps c = c.loop-i.invariant.1.size

pub returns : goal.returns
returns c =
    let at = c in
    let st = at in
    let a = st.args in
    let p = at.loop-i.invariant.1 in
    let e : at.loop-i.i ≡ a.n = omega arith in
    let l = length-take-le a.n a.cycles.now st.requires.n_in_bounds in
    let s : take at.loop-i.at at.loop-i.steps ≡ all_steps a.t (take a.n a.cycles.now) (drop a.g a.steps.now) = rw e at p.steps in
    let k : at.loop-i.at ≡ length (all_steps a.t (take a.n a.cycles.now) (drop a.g a.steps.now)) = rw e at p.at_is in
    record {
      numbers = ap (λ (m : ℕ). take m at.loop-i.cycles) l ∙ rw e at p.numbers;
      steps = ap (λ (m : ℕ). take m at.loop-i.steps) (sym k) ∙ s;
    }
