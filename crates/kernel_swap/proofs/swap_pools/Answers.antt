-- `swap_pools` meets its contract. Assumes nothing.
use borrow.Author.Rules.{rules}
use Prim.Native.Nat.{ℕ, ◌+◌, ◌≤◌}
use mathlib.Core.Path.{◌≡◌, ◌∙◌}
use native.Mathlib.Omega.{arith}
use lib.ListN.{length, take}
use Rattle.kernel_swap.proofs.Along.{shifted_room, shifted_swapped}
use Rattle.kernel_swap.proofs.swap_pools.Goals as goal

pub swap_cycles-requires : goal.swap_cycles-requires
swap_cycles-requires c =
    let sh = c in
    let st = sh in
    let a = st.args in
    let l : length a.steps.now ≡ 2048 = omega arith in
    let k : length a.cycles.now ≡ 512 = omega arith in
    let p = st.requires in
    let y : length sh.shift.new.l ≡ 2048 = sh.shift.auto.l ∙ l in
    let hs : a.g + a.m ≤ length a.steps.now = omega (arith, p.m_bound) in
    let r = shifted_room a.t (take a.n a.cycles.now) a.steps.now sh.shift.new.l a.g a.m p.m_value sh.shift.ensures hs
    sh.shift.auto.l p.enough in
    record {
      n_bound = st.requires.n_bound;
      n_in_bounds = omega (arith, st.requires.n_le_cycles_most, k);
      cycles_in_bounds = omega (arith, p.m_value, p.m_bound, y);
      steps_len_bound = omega (arith, y);
      enough = r;
    }

pub returns : goal.returns
returns c =
    let sh = c in
    let st = sh in
    let a = st.args in
    let l : length a.steps.now ≡ 2048 = omega arith in
    let p = st.requires in
    let hs : a.g + a.m ≤ length a.steps.now = omega (arith, p.m_bound) in record {
      swapped = shifted_swapped a.t (take a.n
          a.cycles.now) a.steps.now sh.shift.new.l a.g a.m p.m_value sh.shift.ensures hs sh.shift.auto.l _ _
          c.swap_cycles.ensures;
      cycles_len = search rules;
      steps_len = search rules;
    }
