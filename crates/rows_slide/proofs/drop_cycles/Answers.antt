-- `drop_cycles` meets its contract. Assumes nothing.
use Prim.Native.Nat.{ℕ, ◌+◌, ◌≤◌}
use native.Mathlib.Omega.{arith}
use mathlib.Core.Path.{◌≡◌, refl}
use mathlib.Core.Bool.{Bool}
use mathlib.Core.List.{List}
use lib.ListN.{length, take, drop}
use Rattle.complex.specs.Lists.{total}
use Rattle.complex.specs.Sound.{cells_most, cycles_most, steps_most}
use Rattle.store.specs.Edits.{places_of, spread_flags}
use Rattle.rows_slide.specs.declared.Stretch.{Stretch}
use Rattle.rows_slide.specs.Stretches.{StretchAt}
use Rattle.rows_slide.proofs.Runs.{Places, Turned, none_gone, stretch_turn}
use Rattle.rows_slide.proofs.Steps.{StepsOf, steps_turn, steps_end}
use Rattle.rows_slide.proofs.drop_cycles.Goals as goal

module _ (dead : List Bool) (counts : List ℕ) (n : ℕ) (cycles₀ steps₀ : List ℕ) (hn : n ≤ cells_most) (hc : total (places_of 0) (take n counts) ≤ cycles_most)
    (hs : total (places_of 1) (take (total (places_of 0) (take n counts)) cycles₀) ≤ steps_most)
    (l : (length dead ≡ cells_most) × (length counts ≡ cells_most) × (length cycles₀ ≡ cycles_most) × (length steps₀ ≡ steps_most))
    (i at to step_at step_to : ℕ) (cycles steps : List ℕ)
    (v : (i ≤ n) × Places 0 (take n dead) (take n counts) cycles₀ i at to cycles
    × StepsOf (take n dead) (take n counts) cycles₀ steps₀ at step_at step_to steps)
    (s : Stretch) (q : StretchAt dead counts n i s) where
  -- what the stretch that was found gives for cycles
  along : Turned 0 (take n dead) (take n counts) cycles₀ at to cycles s.next s.gone s.stay
  along = stretch_turn dead counts n hn l.0 l.1 cycles₀ _ hc l.2 i at to cycles v.1 s q

  -- and for the steps of these, of which x go and y stay
  beside : (x y : ℕ) → x ≡ total (places_of 1) (take s.gone (drop at cycles)) → y ≡ total (places_of 1) (take s.stay (drop (at + s.gone) cycles))
      → Turned 1 (spread_flags 0 (take n dead) (take n counts)) (take (total (places_of 0) (take n counts)) cycles₀) steps₀
      step_at step_to steps (at + s.gone + s.stay) x y
  beside x y = steps_turn dead counts n hn l.0 l.1 cycles₀ steps₀ hc l.2 hs l.3 i at to cycles v.1 step_at step_to steps v.2 s q x y

  -- the cycles of the stretch and their steps are among those in use
  among : (at + s.gone + s.stay ≤ length cycles)
      × (step_at + total (places_of 1) (take s.gone (drop at cycles)) + total (places_of 1) (take s.stay (drop (at + s.gone) cycles)) ≤ 2048)
  among = (omega (arith, along.within, hc, l.2, v.1.packing.size), omega (arith, (beside _ _ refl refl).within, hs))

pub loop-i-init : goal.loop-i-init
loop-i-init c = (omega arith, none_gone 0 _ _ _, none_gone 1 _ _ _)

pub overflow_add-from : goal.overflow_add-from
overflow_add-from c =
    let a = c.args in
    let p = c.requires in
    let v = c.loop-i in
    let t = along a.dead.now a.counts.now a.n a.cycles.now a.steps.now p.n_le_cells_most p.counts_bound p.cycles_bound p.dead_len v.i v.at v.to v.step_at v.step_to v.cycles v.steps
    v.invariant c.next_stretch-s.result c.next_stretch-s.ensures in
    omega (arith, t.within, p.counts_bound)

pub place_sum-requires : goal.place_sum-requires
place_sum-requires c =
    let a = c.args in
    let p = c.requires in
    let v = c.loop-i in
    let w = among a.dead.now a.counts.now a.n a.cycles.now a.steps.now p.n_le_cells_most p.counts_bound p.cycles_bound p.dead_len v.i v.at v.to v.step_at v.step_to v.cycles v.steps
    v.invariant c.next_stretch-s.result c.next_stretch-s.ensures in
    record { n_in_bounds = omega (arith, w.0); counts_bound = omega (arith, w.1) }

pub overflow_add-step_from : goal.overflow_add-step_from
overflow_add-step_from c =
    let a = c.args in
    let p = c.requires in
    let v = c.loop-i in
    let w = among a.dead.now a.counts.now a.n a.cycles.now a.steps.now p.n_le_cells_most p.counts_bound p.cycles_bound p.dead_len v.i v.at v.to v.step_at v.step_to v.cycles v.steps
    v.invariant c.next_stretch-s.result c.next_stretch-s.ensures in
    omega (arith, w.1, c.place_sum.ensures)

pub place_sum-k-requires : goal.place_sum-k-requires
place_sum-k-requires c =
    let a = c.args in
    let p = c.requires in
    let v = c.loop-i in
    let w = among a.dead.now a.counts.now a.n a.cycles.now a.steps.now p.n_le_cells_most p.counts_bound p.cycles_bound p.dead_len v.i v.at v.to v.step_at v.step_to v.cycles v.steps
    v.invariant c.next_stretch-s.result c.next_stretch-s.ensures in
    record { n_in_bounds = omega (arith, w.0); counts_bound = omega (arith, w.1) }

pub slide-requires : goal.slide-requires
slide-requires c =
    let a = c.args in
    let p = c.requires in
    let v = c.loop-i in
    let t = beside a.dead.now a.counts.now a.n a.cycles.now a.steps.now p.n_le_cells_most p.counts_bound p.cycles_bound p.dead_len v.i v.at v.to v.step_at v.step_to v.cycles v.steps
    v.invariant c.next_stretch-s.result c.next_stretch-s.ensures
    c.place_sum.result c.place_sum-k.result c.place_sum.ensures c.place_sum-k.ensures in
    record { to_le_from = omega (arith, t.below); n_in_bounds = omega (arith, t.within, p.cycles_bound, p.dead_len.3, v.invariant.2.packing.size) }

pub slide-requires-in-loop-i : goal.slide-requires-in-loop-i
slide-requires-in-loop-i c =
    let a = c.args in
    let p = c.requires in
    let v = c.loop-i in
    let t = along a.dead.now a.counts.now a.n a.cycles.now a.steps.now p.n_le_cells_most p.counts_bound p.cycles_bound p.dead_len v.i v.at v.to v.step_at v.step_to v.cycles v.steps
    v.invariant c.next_stretch-s.result c.next_stretch-s.ensures in
    let w = among a.dead.now a.counts.now a.n a.cycles.now a.steps.now p.n_le_cells_most p.counts_bound p.cycles_bound p.dead_len v.i v.at v.to v.step_at v.step_to v.cycles v.steps
    v.invariant c.next_stretch-s.result c.next_stretch-s.ensures in
    record { to_le_from = omega (arith, t.below); n_in_bounds = omega (arith, w.0) }

pub overflow_add-step_at : goal.overflow_add-step_at
overflow_add-step_at c =
    let a = c.args in
    let p = c.requires in
    let v = c.loop-i in
    let t = beside a.dead.now a.counts.now a.n a.cycles.now a.steps.now p.n_le_cells_most p.counts_bound p.cycles_bound p.dead_len v.i v.at v.to v.step_at v.step_to v.cycles v.steps
    v.invariant c.next_stretch-s.result c.next_stretch-s.ensures
    c.place_sum.result c.place_sum-k.result c.place_sum.ensures c.place_sum-k.ensures in
    omega (arith, t.within, p.cycles_bound)

pub overflow_add-step_to : goal.overflow_add-step_to
overflow_add-step_to c =
    let a = c.args in
    let p = c.requires in
    let v = c.loop-i in
    let t = beside a.dead.now a.counts.now a.n a.cycles.now a.steps.now p.n_le_cells_most p.counts_bound p.cycles_bound p.dead_len v.i v.at v.to v.step_at v.step_to v.cycles v.steps
    v.invariant c.next_stretch-s.result c.next_stretch-s.ensures
    c.place_sum.result c.place_sum-k.result c.place_sum.ensures c.place_sum-k.ensures in
    omega (arith, t.below, t.within, p.cycles_bound)

pub overflow_add-at : goal.overflow_add-at
overflow_add-at c =
    let a = c.args in
    let p = c.requires in
    let v = c.loop-i in
    let t = along a.dead.now a.counts.now a.n a.cycles.now a.steps.now p.n_le_cells_most p.counts_bound p.cycles_bound p.dead_len v.i v.at v.to v.step_at v.step_to v.cycles v.steps
    v.invariant c.next_stretch-s.result c.next_stretch-s.ensures in
    omega (arith, t.within, p.counts_bound)

pub overflow_add-to : goal.overflow_add-to
overflow_add-to c =
    let a = c.args in
    let p = c.requires in
    let v = c.loop-i in
    let t = along a.dead.now a.counts.now a.n a.cycles.now a.steps.now p.n_le_cells_most p.counts_bound p.cycles_bound p.dead_len v.i v.at v.to v.step_at v.step_to v.cycles v.steps
    v.invariant c.next_stretch-s.result c.next_stretch-s.ensures in
    omega (arith, t.below, t.within, p.counts_bound)

pub loop-i-smaller : goal.loop-i-smaller
loop-i-smaller c = let q = c.next_stretch-s.ensures in omega (arith, q.more, q.living.within)

pub loop-i-preserved : goal.loop-i-preserved
loop-i-preserved c =
    let a = c.args in
    let p = c.requires in
    let v = c.loop-i in
    let t = along a.dead.now a.counts.now a.n a.cycles.now a.steps.now p.n_le_cells_most p.counts_bound p.cycles_bound p.dead_len v.i v.at v.to v.step_at v.step_to v.cycles v.steps
    v.invariant c.next_stretch-s.result c.next_stretch-s.ensures in
    let u = beside a.dead.now a.counts.now a.n a.cycles.now a.steps.now p.n_le_cells_most p.counts_bound p.cycles_bound p.dead_len v.i v.at v.to v.step_at v.step_to v.cycles v.steps
    v.invariant c.next_stretch-s.result c.next_stretch-s.ensures
    c.place_sum.result c.place_sum-k.result c.place_sum.ensures c.place_sum-k.ensures in
    (c.next_stretch-s.ensures.living.within, t.again _ c.slide-in-loop-i.ensures, u.again _ c.slide.ensures)

pub returns : goal.returns
returns c =
    let v = c.loop-i.invariant in
    let p = c.requires in
    let l = p.dead_len in
    steps_end _ _ _ p.n_le_cells_most l.0 l.1 _ _ p.counts_bound l.2 p.cycles_bound l.3 _ _ _ _ (omega (arith, v.0)) v.1 _ _ _ v.2
