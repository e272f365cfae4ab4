-- `join` meets its contract. Assumes nothing.
use native.Mathlib.Omega.{arith}
use mathlib.Core.Path.{refl, ap}
use Rattle.lent.specs.Arrays.{Arrays}
use Rattle.kind_uncut_joint.proofs.Joining.{fits, row_comes, id_comes, joined_by}
use Rattle.kind_uncut_joint.proofs.join.Goals as goal

pub drop_three-requires : goal.drop_three-requires
drop_three-requires c =
    let g = c.requires in
    record {
      fits = g.fits;
      lengths = g.long;
      by_value = g.rows;
      three_rows = g.three;
    }

pub join_runs-requires : goal.join_runs-requires
join_runs-requires c =
    let h = fits _ _ _ _ _ c.requires _ (ap (λ (b : Arrays). b.next) c.drop_three.ensures.kept) c.drop_three.ensures.three_gone in
    record { m2_bound = h.0; t_lt_bends_most = h.1 }

pub join_runs-requires-2 : goal.join_runs-requires-2
join_runs-requires-2 c =
    let h = fits _ _ _ _ _ c.requires _ (ap (λ (b : Arrays). b.next) c.drop_three.ensures.kept) c.drop_three.ensures.three_gone in
    record { m2_bound = h.0; t_lt_bends_most = h.1 }

pub overflow_add-m : goal.overflow_add-m
overflow_add-m c =
    let h = fits _ _ _ _ _ c.requires _ (ap (λ (b : Arrays). b.next) c.drop_three.ensures.kept) c.drop_three.ensures.three_gone in
    omega (arith, h.0, h.1)

pub overflow_add-m-2 : goal.overflow_add-m-2
overflow_add-m-2 c =
    let h = fits _ _ _ _ _ c.requires _ (ap (λ (b : Arrays). b.next) c.drop_three.ensures.kept) c.drop_three.ensures.three_gone in
    omega (arith, h.0, h.1)

pub overflow_cast-m : goal.overflow_cast-m
overflow_cast-m c =
    let h = fits _ _ _ _ _ c.requires _ (ap (λ (b : Arrays). b.next) c.drop_three.ensures.kept) c.drop_three.ensures.three_gone in
    omega (arith, h.0, h.1)

pub put_row-requires : goal.put_row-requires
put_row-requires c =
    row_comes _ _ _ _ _ c.requires _ (ap (λ (b : Arrays). b.next) c.drop_three.ensures.kept) c.drop_three.ensures.three_gone

pub overflow_add-sheet-2 : goal.overflow_add-sheet-2
overflow_add-sheet-2 c =
    let h = id_comes _ _ _ _ _ c.requires _ (ap (λ (b : Arrays). b.next) c.drop_three.ensures.kept) c.drop_three.ensures.three_gone in
    omega (arith, h)

pub returns-clause-joined : goal.returns-clause-joined
returns-clause-joined c =
    joined_by _ _ _ _ _ c.requires _ (ap (λ (b : Arrays). b.next) c.drop_three.ensures.kept) c.drop_three.ensures.three_gone _ _
    c.join_runs.ensures c.join_runs-2.ensures _ c.put_row.ensures.put _ refl
