-- `file_write::place_after` meets its contract. Assumes nothing.
use Prim.Native.Nat.{ℕ, ◌+◌, ◌≤◌}
use mathlib.Core.Path.{◌≡◌, ap, sym, ◌∙◌, subst}
use native.Mathlib.Omega.{arith}
use Rattle.store.specs.View.{cycle_count, bend_count, width_sum}
use Rattle.file_parts.specs.Parts.{run_of}
use Rattle.store.proofs.Lists.{width_places}
use borrow.Author.Rules.{rules}
use Rattle.file_write.proofs.place_after.Goals as goal

pub place_sum-w-requires : goal.place_sum-w-requires
place_sum-w-requires c =
    let a = c.args in
    let k : c.wide-k.result ≡ cycle_count a.s = c.wide-k.ensures ∙ c.cycle_count.ensures in
    let f = c.requires in
    let z = f.size in
    let h = subst (λ (m : ℕ). a.at.cycles + m ≤ 512) (sym k) f.cycles in
    let e = width_places (run_of a.at.cycles c.wide-k.result a.cycles.now) in
    let b = subst (λ (m : ℕ). width_sum (run_of a.at.cycles m a.cycles.now) ≤ 2048) (sym k) (let w = f.steps in omega arith) in
    record { n_in_bounds = omega arith; counts_bound = omega arith }

pub overflow_add-result-3 : goal.overflow_add-result-3
overflow_add-result-3 c =
    let a = c.args in
    let k : c.wide-k.result ≡ cycle_count a.s = c.wide-k.ensures ∙ c.cycle_count.ensures in
    let w = c.place_sum-w.ensures ∙ width_places (run_of a.at.cycles c.wide-k.result a.cycles.now) ∙ ap (λ (m : ℕ). width_sum (run_of a.at.cycles m a.cycles.now)) k in
    let f = c.requires.steps in
    record { fits = omega arith }

pub returns : goal.returns
returns c =
    let a = c.args in
    let k : c.wide-k.result ≡ cycle_count a.s = c.wide-k.ensures ∙ c.cycle_count.ensures in
    let b : c.wide-b.result ≡ bend_count a.s = c.wide-b.ensures ∙ c.bend_count.ensures in
    let w = c.place_sum-w.ensures ∙ width_places (run_of a.at.cycles c.wide-k.result a.cycles.now) ∙ ap (λ (m : ℕ). width_sum (run_of a.at.cycles m a.cycles.now)) k in
    λ i. record { bends = a.at.bends + b i; cycles = a.at.cycles + k i; steps = a.at.steps + w i }
