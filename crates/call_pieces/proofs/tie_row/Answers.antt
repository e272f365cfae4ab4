-- `tie_row` meets its contract. Assumes nothing.
use Prim.Native.Nat.{ℕ, ◌+◌}
use mathlib.Core.Path.{◌≡◌}
use mathlib.Core.List.{[], ◌∷◌}
use native.Mathlib.Omega.{arith}
use lib.Dec.{T, eqb}
use lib.ListN.{take, drop, get_or}
use Rattle.complex.specs.Groups.{is_in}
use Rattle.store.specs.View.{width_sum, cycles_from}
use Rattle.call_pieces.proofs.Tying.{some_then, edge_named, other_named, edge_grown, other_grown}
use Rattle.call_pieces.proofs.tie_row.Goals as goal

-- the ends of an open edge have rows
ends_named : (t : goal.After-tie-arg-then-kind-eq-OPEN-1) → let a = t.args in
    T (is_in eqb (take a.n a.ids.now) a.start) × T (is_in eqb (take a.n a.ids.now) a.end)
ends_named t =
    let s = t in
    let a = s.args in
    edge_named a.kind a.start a.end (cycles_from (take a.k (drop a.first a.cycles.now)) (drop a.from a.steps.now))
    (λ (j : ℕ). T (is_in eqb (take a.n a.ids.now) j)) t.if-kind-eq-OPEN.true s.requires.every

ends_named_2 : (t : goal.After-tie-arg-1) → let a = t.args in
    T (is_in eqb (take a.n a.ids.now) a.start) × T (is_in eqb (take a.n a.ids.now) a.end)
ends_named_2 t =
    let s = t in
    let a = s.args in
    edge_named a.kind a.start a.end (cycles_from (take a.k (drop a.first a.cycles.now)) (drop a.from a.steps.now))
    (λ (j : ℕ). T (is_in eqb (take a.n a.ids.now) j)) t.if-kind-eq-OPEN.true s.requires.every

no_steps_lem : (from k : ℕ) (ns : _) → k ≡ 0 → from ≡ from + width_sum (take k ns)
no_steps_lem from k ns e = rw e (omega arith)

pub tie-one-requires : goal.tie-one-requires
tie-one-requires c =
    let s = c in
    record {
      finds = s.requires.finds;
      row_lt_n = s.requires.row_lt_n.0;
      t = (ends_named_2 c).0;
      some = s.requires.some;
    }

pub tie-two-requires : goal.tie-two-requires
tie-two-requires c =
    let t = c in
    let s = t in
    let a = s.args in record {
      finds = s.requires.finds;
      row_lt_n = s.requires.row_lt_n.0;
      t = (ends_named t).1;
      some = some_then (take a.n a.ids.now) a.up.now a.left (get_or a.ids.now a.row 0) (a.start ∷ []) _ _
          s.requires.some c.tie-one.ensures;
    }

pub returns-then-kind-eq-OPEN : goal.returns-then-kind-eq-OPEN
returns-then-kind-eq-OPEN c =
    let t = c in
    let s = t in
    let a = s.args in record {
      grown = edge_grown a.kind a.start a.end (cycles_from (take a.k (drop a.first a.cycles.now)) (drop a.from a.steps.now))
          (take a.n a.ids.now) a.up.now a.left (get_or a.ids.now a.row 0) t.if-kind-eq-OPEN.true _ _ _ _
          c.tie-one.ensures c.tie-two.ensures;
      next_value = no_steps_lem a.from a.k (drop a.first a.cycles.now) (s.requires.row_lt_n.1 t.if-kind-eq-OPEN.true);
    }

pub tie_cycles-requires : goal.tie_cycles-requires
tie_cycles-requires c =
    let t = c in
    let s = t in
    let a = s.args in record {
      finds = s.requires.finds;
      row_lt_n = s.requires.row_lt_n.0;
      cycles_len = s.requires.cycles_len;
      k_bound = s.requires.k_bound;
      every = other_named a.kind a.start a.end (cycles_from (take a.k (drop a.first a.cycles.now)) (drop a.from a.steps.now))
          (λ (j : ℕ). T (is_in eqb (take a.n a.ids.now) j)) t.if-kind-eq-OPEN.false s.requires.every;
      some = s.requires.some;
    }

pub returns : goal.returns
returns c =
    let t = c in
    let a = t.args in record {
      grown = other_grown a.kind a.start a.end (cycles_from (take a.k (drop a.first a.cycles.now)) (drop a.from a.steps.now))
          (take a.n a.ids.now) a.up.now a.left (get_or a.ids.now a.row 0) t.if-kind-eq-OPEN.false _ _ c.tie_cycles.ensures.grown;
      next_value = c.tie_cycles.ensures.next_value;
    }
