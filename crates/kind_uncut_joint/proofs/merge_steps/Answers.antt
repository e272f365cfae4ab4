-- `merge_steps` meets its contract. Assumes nothing.
use mathlib.Core.Path.{ap}
use Rattle.store.specs.View.{cycle_total}
use Rattle.lent.specs.Arrays.{Arrays, held_by}
use Rattle.lent.specs.Sheets.{arrays}
use Rattle.kind_uncut_joint.proofs.Merging.{first_asks, second_asks, merged_in}
use Rattle.kind_uncut_joint.proofs.merge_steps.Goals as goal

pub swap_steps-requires : goal.swap_steps-requires
swap_steps-requires c =
    let s = c.args in
    let w = c.one_for-one in
    let whole = first_asks (arrays s.sheet.now) s.k s.m s.x s.y c.requires w.result w.ensures in record {
      fits = whole.0;
      lengths = whole.1.0;
      k_value = whole.1.1.0;
      n_bound = whole.1.1.1.0;
      by_value = whole.1.1.1.1.0;
      by_bound = whole.1.1.1.1.1.0;
      m_value = whole.1.1.1.1.1.1.0;
      fact = whole.1.1.1.1.1.1.1;
    }

pub swap_steps-requires-2 : goal.swap_steps-requires-2
swap_steps-requires-2 c =
    let s = c.args in
    let w = c.one_for-one in
    let u = c.none_for-none in
    let whole = second_asks (arrays s.sheet.now) s.k s.m s.x s.y c.requires w.result w.ensures _
    c.swap_steps.ensures.swapped_in (ap (λ (b : Arrays). cycle_total (held_by b)) c.swap_steps.ensures.kept) u.result u.ensures in record {
      fits = whole.0;
      lengths = whole.1.0;
      k_value = whole.1.1.0;
      n_bound = whole.1.1.1.0;
      by_value = whole.1.1.1.1.0;
      by_bound = whole.1.1.1.1.1.0;
      m_value = whole.1.1.1.1.1.1.0;
      fact = whole.1.1.1.1.1.1.1;
    }

pub returns-clause-merged_in : goal.returns-clause-merged_in
returns-clause-merged_in c =
    let s = c.args in
    let w = c.one_for-one in
    let u = c.none_for-none in
    merged_in (arrays s.sheet.now) s.k s.m s.x s.y c.requires w.result w.ensures _
    c.swap_steps.ensures.swapped_in (ap (λ (b : Arrays). cycle_total (held_by b)) c.swap_steps.ensures.kept) u.result u.ensures _
    c.swap_steps-2.ensures.swapped_in
