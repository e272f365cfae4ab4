-- `cycle_links` meets its contract. Assumes nothing.
use borrow.Author.Rules.{rules}
use Prim.Native.Nat.{ℕ, zero, suc, ◌-◌}
use native.Mathlib.Omega.{arith}
use mathlib.Core.Path.{◌≡◌, refl, ap, ◌∙◌}
use mathlib.Core.List.{List, [], map}
use lib.ListN.{take}
use Rattle.complex.specs.Cells.{steps_of}
use Rattle.complex.specs.Uses.{passages}
use Rattle.store.specs.View.{halfedge_of, width, cycle_of}
use Rattle.rows_links.proofs.Links.{put_none, put_as}
use Rattle.rows_links.proofs.cycle_links.Goals as goal

no_steps_lem : (c : ℕ) (l : List ℕ) → c ≡ 0 → [] ≡ passages (steps_of (cycle_of c l))
no_steps_lem zero l e = refl
no_steps_lem (suc n) l e = absurd (omega arith)

some_steps : (c : ℕ) (l : List ℕ) → (c ≡ 0 → ⊥) → passages (map halfedge_of (take c l)) ≡ passages (steps_of (cycle_of c l))
some_steps zero l n = absurd (n refl)
some_steps (suc k) l n = refl

some_width : (c : ℕ) → (c ≡ 0 → ⊥) → width c ≡ c
some_width zero n = absurd (n refl)
some_width (suc k) n = refl

pub returns-then-c-eq0 : goal.returns-then-c-eq0
returns-then-c-eq0 c =
    let a = c.args in
    put_as (take a.n a.ids.now) a.at.now [] (passages (steps_of (cycle_of a.c a.l.now))) (no_steps_lem a.c a.l.now c.if-c-eq0.true)
    a.used a.xs.now a.ys.now a.used a.xs.now a.ys.now
    (put_none (take a.n a.ids.now) a.at.now a.used a.xs.now a.ys.now)

pub path_links-requires : goal.path_links-requires
path_links-requires c =
    let w = c in
    let st = w in
    let a = st.args in
    let e = w.wide.ensures in
    let n = some_width a.c w.if-c-eq0.false in
    let h = st.requires.c_in_bounds in
    let x = st.requires.c_in_bounds_2 in
    let y = st.requires in
    record {
      id_rows = st.requires.id_rows;
      c_in_bounds = omega arith;
      c_in_bounds_2 = omega arith;
      c_in_bounds_3 = omega arith;
    }

pub returns : goal.returns
returns c =
    let q = c in
    let w = q in
    let a = w.args in
    put_as (take a.n a.ids.now) a.at.now (passages (map halfedge_of (take w.wide.result a.l.now)))
    (passages (steps_of (cycle_of a.c a.l.now))) (ap (λ (k : ℕ). passages (map halfedge_of (take k a.l.now))) w.wide.ensures
    ∙ some_steps a.c a.l.now w.if-c-eq0.false) a.used a.xs.now a.ys.now q.path_links.result _ _ q.path_links.ensures
