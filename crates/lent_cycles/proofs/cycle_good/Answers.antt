-- `lent_cycles::cycle_good` meets its contract. A lone vertex, or by the kind of the first step. Assumes nothing.
use borrow.Author.Rules.{rules}
use Prim.Native.Nat.{ℕ, zero, suc, ◌+◌, ◌≤◌}
use native.Mathlib.Omega.{arith}
use mathlib.Core.Path.{◌≡◌, refl}
use mathlib.Core.List.{List}
use lib.ListN.{length}
use Rattle.store.specs.View.{width}
use Rattle.sound.specs.Rows.{rows_of}
use Rattle.sound.proofs.Looking.{step_head, step_tail, step_kind, step_none}
use Rattle.sound.proofs.Walking.{cycle_lone, cycle_path, width_some, path_open, path_closed, path_none}
use Rattle.lent_cycles.proofs.cycle_good.Goals as goal

one_place : (c : ℕ) → 1 ≤ width c
one_place zero = omega arith
one_place (suc c) = omega arith

some : (c m : ℕ) → (c ≡ 0 → ⊥) → m ≡ c → 1 ≤ m
some c m h e = omega arith

within : (st : List ℕ) (from c m : ℕ) → (c ≡ 0 → ⊥) → m ≡ c → from + width c ≤ length st → from + m ≤ length st
within st from c m h e k = let w = width_some c h in omega arith

pub bounds-steps-from : goal.bounds-steps-from
bounds-steps-from c = let h = one_place c.args.c in omega (arith, c.requires.steps_len, c.requires.c_bound)

pub is_vertex-requires : goal.is_vertex-requires
is_vertex-requires c = let p = c.requires.looked in record {
  table = p.table;
  kinds_len = p.kinds;
}

pub returns-then-c-eq0 : goal.returns-then-c-eq0
returns-then-c-eq0 c =
    let a = c.args in
    cycle_lone (rows_of a.n a.ids.now a.kinds.now a.starts.now a.ends.now) a.steps.now a.from a.c c.if-c-eq0.true _ c.is_vertex.ensures

pub returns-then-n-row : goal.returns-then-n-row
returns-then-n-row c =
    let a = c.args in
    let t = rows_of a.n a.ids.now a.kinds.now a.starts.now a.ends.now in
    let q = c.requires in
    let ne = c.if-c-eq0.false in
    let long : a.n ≤ length a.kinds.now = omega (arith, q.looked.table.few, q.looked.kinds) in
    let room : a.from + width a.c ≤ length a.steps.now = omega (arith, q.steps_len, q.c_bound) in
    cycle_path t a.steps.now a.from a.c ne a.c refl _
    (path_none t a.steps.now a.from a.c (some a.c a.c ne refl) (within a.steps.now a.from a.c a.c ne refl room) 4
    (step_none a.n a.ids.now a.kinds.now a.starts.now a.ends.now _ _ c.row_of-row.ensures long (omega (arith, c.if-n-row.true)))
    (λ q. omega arith) (λ q. omega arith))

pub overflow_sub-m : goal.overflow_sub-m
overflow_sub-m c = let h = some c.args.c c.wide-m.result c.if-c-eq0.false c.wide-m.ensures in omega arith

pub walk-requires : goal.walk-requires
walk-requires c =
    let a = c.args in
    let q = c.requires in
    let m = c.wide-m.result in
    let ne = c.if-c-eq0.false in
    let h = some a.c m ne c.wide-m.ensures in
    let w = width_some a.c ne in
    record {
      looked = q.looked;
      steps_len = q.steps_len;
      m_bound = omega (arith, q.c_bound, c.wide-m.ensures);
    }

pub returns-then-k-eq-OPEN : goal.returns-then-k-eq-OPEN
returns-then-k-eq-OPEN c =
    let a = c.args in
    let t = rows_of a.n a.ids.now a.kinds.now a.starts.now a.ends.now in
    let q = c.requires in
    let m = c.wide-m.result in
    let ne = c.if-c-eq0.false in
    let long : a.n ≤ length a.kinds.now = omega (arith, q.looked.table.few, q.looked.kinds) in
    let room : a.from + width a.c ≤ length a.steps.now = omega (arith, q.steps_len, q.c_bound) in
    let r = c.row_of-row.ensures in
    cycle_path t a.steps.now a.from a.c ne m c.wide-m.ensures _
    (path_open t a.steps.now a.from m (some a.c m ne c.wide-m.ensures) (within a.steps.now a.from a.c m ne c.wide-m.ensures room) _
    (step_kind a.n a.ids.now a.kinds.now a.starts.now a.ends.now _ _ r long (omega (arith, c.if-n-row.false)))
    c.if-k-eq-OPEN.true _ _
    (step_head a.n a.ids.now a.kinds.now a.starts.now a.ends.now _ _ r _ c.side-u.ensures)
    (step_tail a.n a.ids.now a.kinds.now a.starts.now a.ends.now _ _ r _ c.side-w.ensures) _ c.walk.ensures)

pub repeated-requires : goal.repeated-requires
repeated-requires c =
    let a = c.args in
    let q = c.requires in
    let m = c.wide-m.result in
    let ne = c.if-c-eq0.false in
    let h = some a.c m ne c.wide-m.ensures in
    let w = width_some a.c ne in
    record {
      steps_len = q.steps_len;
      m_bound = omega (arith, q.c_bound, c.wide-m.ensures);
    }

pub returns-then-k-eq-CLOSED : goal.returns-then-k-eq-CLOSED
returns-then-k-eq-CLOSED c =
    let a = c.args in
    let t = rows_of a.n a.ids.now a.kinds.now a.starts.now a.ends.now in
    let q = c.requires in
    let m = c.wide-m.result in
    let ne = c.if-c-eq0.false in
    let long : a.n ≤ length a.kinds.now = omega (arith, q.looked.table.few, q.looked.kinds) in
    let room : a.from + width a.c ≤ length a.steps.now = omega (arith, q.steps_len, q.c_bound) in
    cycle_path t a.steps.now a.from a.c ne m c.wide-m.ensures _
    (path_closed t a.steps.now a.from m (some a.c m ne c.wide-m.ensures) (within a.steps.now a.from a.c m ne c.wide-m.ensures room) _
    (step_kind a.n a.ids.now a.kinds.now a.starts.now a.ends.now _ _ c.row_of-row.ensures long (omega (arith, c.if-n-row.false)))
    c.if-k-eq-CLOSED.true _ c.repeated.ensures)

pub returns : goal.returns
returns c =
    let a = c.args in
    let t = rows_of a.n a.ids.now a.kinds.now a.starts.now a.ends.now in
    let q = c.requires in
    let m = c.wide-m.result in
    let ne = c.if-c-eq0.false in
    let long : a.n ≤ length a.kinds.now = omega (arith, q.looked.table.few, q.looked.kinds) in
    let room : a.from + width a.c ≤ length a.steps.now = omega (arith, q.steps_len, q.c_bound) in
    cycle_path t a.steps.now a.from a.c ne m c.wide-m.ensures _
    (path_none t a.steps.now a.from m (some a.c m ne c.wide-m.ensures) (within a.steps.now a.from a.c m ne c.wide-m.ensures room) _
    (step_kind a.n a.ids.now a.kinds.now a.starts.now a.ends.now _ _ c.row_of-row.ensures long (omega (arith, c.if-n-row.false)))
    c.if-k-eq-OPEN.false c.if-k-eq-CLOSED.false)
