-- `swap_steps` meets its contract. Assumes nothing.
use Prim.Native.Nat.{ℕ}
use mathlib.Core.Path.{◌≡◌, ap, sym, ◌∙◌}
use lib.ListN.{take}
use Rattle.store.specs.View.{width_sum}
use Rattle.kernel_swap.proofs.Lent.{swap_room, grow_room, swapped_in}
use Rattle.kernel_swap.proofs.swap_steps.Goals as goal

pub swap_pools-requires : goal.swap_pools-requires
swap_pools-requires c =
    let s = c in
    let a = s.args in
    let p = s.requires in
    let r = swap_room a.t _ p.lengths p.fits p.by_bound a.k p.k_value in
    let y = grow_room a.t _ p.lengths p.fits p.by_bound a.m a.g p.m_value p.fact in
    record {
      n_bound = p.n_bound;
      n_le_cycles_most = r;
      m_value = p.m_value ∙ ap (λ (x : ℕ). width_sum (take x a.sheet.now.cycles.now)) (sym p.k_value);
      m_bound = y.0;
      enough = rw p.k_value y.1;
    }

pub returns-clause-swapped_in : goal.returns-clause-swapped_in
returns-clause-swapped_in c =
    let s = c in
    let a = s.args in
    let p = s.requires in
    let w = c.swap_pools.ensures in
    swapped_in a.t _ p.lengths p.fits p.by_bound _ _ w.cycles_len w.steps_len p.by_value (rw p.k_value at w.swapped)
