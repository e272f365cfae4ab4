-- `round_list` meets its contract: the cycles that do not go, both rings, and the cycles that do not stay. Assumes nothing.
use Prim.Native.Nat.{◌+◌, ◌-◌, ◌*◌, ◌≤◌, ◌<◌}
use mathlib.Core.Path.{◌≡◌, ap, ◌∙◌}
use mathlib.Core.List.{◌++◌, append_assoc}
use native.Mathlib.Omega.{arith}
use lib.ListN.{length, take}
use Rattle.complex.specs.Lists.{one}
use Rattle.complex.specs.Cells.{path}
use Rattle.store.specs.View.{halfedge_of}
use Rattle.store.specs.Edits.{kept}
use Rattle.rows_spans.specs.declared.Used.{Used}
use Rattle.rows_spans.specs.Building.{Built}
use Rattle.rows_spans.proofs.Building.{built_none}
use Rattle.rows_corners.specs.Faces.{cycles_at}
use Rattle.rows_corners.proofs.Lists.{copy_asks, built_as, built_then, ring_built}
use Rattle.rows_split.proofs.Places.{built_size}
use Rattle.kernel_round.proofs.Parting.{two_built, one_room, second_asks, all_taken}
use Rattle.kernel_round.proofs.round_list.Goals as goal

pub copy_cycles-a-requires : goal.copy_cycles-a-requires
copy_cycles-a-requires c =
    let s = c in
    let a = s.args in
    let w = s.requires.within in
    let h = s.requires in
    let n = built_none a.counts.now a.places.now h.fit.few_counts h.fit.few_steps in
    let whole = copy_asks a.cycles.now a.steps.now a.s w a.goes.now (omega (arith, s.requires.flagged.goes_size, w.in_cycles)) a.counts.now _ a.places.now
    n.building (omega (arith, h.fit.cycles)) (omega (arith, h.fit.steps)) in record {
      building = whole.0;
      k_in_bounds = whole.1.0;
      cycles_in_bounds = whole.1.1.0;
      k_in_bounds_2 = whole.1.1.1.0;
      cycles_in_bounds_2 = whole.1.1.1.1.0;
      cycles_in_bounds_3 = whole.1.1.1.1.1;
    }

pub put_step-requires : goal.put_step-requires
put_step-requires c =
    let a = c.args in
    let p = c.requires in
    let f = c.copy_cycles-a in
    let r = one_room a.cycles.now a.steps.now a.s a.goes.now a.stays.now p.flagged p.within (length a.counts.now) (length a.places.now) p.fit
    f.result f.result f.result f.ensures.value in
    omega (arith, r.1.0, f.auto.steps)

pub close_path-u-requires : goal.close_path-u-requires
close_path-u-requires c =
    let a = c.args in
    let p = c.requires in
    let f = c.copy_cycles-a in
    let r = one_room a.cycles.now a.steps.now a.s a.goes.now a.stays.now p.flagged p.within (length a.counts.now) (length a.places.now) p.fit
    f.result f.result f.result f.ensures.value in
    record {
      cycles_in_bounds = omega (arith, r.0, f.auto.counts);
      le_m = omega arith;
      m_bound = omega (arith, r.1.1);
    }

pub put_step-requires-2 : goal.put_step-requires-2
put_step-requires-2 c =
    let a = c.args in
    let p = c.requires in
    let f = c.copy_cycles-a in
    let r = one_room a.cycles.now a.steps.now a.s a.goes.now a.stays.now p.flagged p.within (length a.counts.now) (length a.places.now) p.fit
    f.result f.result f.result f.ensures.value in
    let d = ap (λ (q : Used). q.steps) c.close_path-u.ensures.value in
    omega (arith, d, r.1.0, c.put_step.auto.steps, f.auto.steps)

pub close_path-b-requires : goal.close_path-b-requires
close_path-b-requires c =
    let a = c.args in
    let p = c.requires in
    let f = c.copy_cycles-a in
    let r = one_room a.cycles.now a.steps.now a.s a.goes.now a.stays.now p.flagged p.within (length a.counts.now) (length a.places.now) p.fit
    f.result f.result f.result f.ensures.value in
    let b = ap (λ (q : Used). q.cycles) c.close_path-u.ensures.value in
    let d = ap (λ (q : Used). q.steps) c.close_path-u.ensures.value in
    record {
      cycles_in_bounds = omega (arith, b, r.0, c.close_path-u.auto.counts, f.auto.counts);
      le_m = omega arith;
      m_bound = omega (arith, d, r.1.1);
    }

pub copy_cycles-w-requires : goal.copy_cycles-w-requires
copy_cycles-w-requires c =
    let a = c.args in
    let p = c.requires in
    let f = c.copy_cycles-a in
    let r = one_room a.cycles.now a.steps.now a.s a.goes.now a.stays.now p.flagged p.within (length a.counts.now) (length a.places.now) p.fit
    f.result f.result f.result f.ensures.value in
    let d = ap (λ (q : Used). q.steps) c.close_path-u.ensures.value in
    let x = ring_built f.ensures.built (omega (arith, r.1.0, f.auto.steps)) (2 * a.e) c.put_step.new.steps c.close_path-u.new.counts
    c.put_step.ensures.steps_after c.close_path-u.ensures.closes c.close_path-u.result c.close_path-u.ensures.value in
    let y = ring_built x (omega (arith, d, r.1.0, c.put_step.auto.steps, f.auto.steps)) (2 * a.e + 1) c.put_step-2.new.steps c.close_path-b.new.counts
    c.put_step-2.ensures.steps_after c.close_path-b.ensures.closes c.close_path-b.result c.close_path-b.ensures.value in
    let whole = second_asks a.cycles.now a.steps.now a.s a.goes.now a.stays.now p.flagged p.within (length a.counts.now) (length a.places.now) p.fit
    f.result c.close_path-u.result c.close_path-b.result f.ensures.value c.close_path-u.ensures.value c.close_path-b.ensures.value
    c.close_path-b.new.counts c.put_step-2.new.steps (c.close_path-b.auto.counts ∙ c.close_path-u.auto.counts ∙ f.auto.counts)
    (c.put_step-2.auto.steps ∙ c.put_step.auto.steps ∙ f.auto.steps) y.building in record {
      building = whole.0;
      k_in_bounds = whole.1.0;
      cycles_in_bounds = whole.1.1.0;
      k_in_bounds_2 = whole.1.1.1.0;
      cycles_in_bounds_2 = whole.1.1.1.1.0;
      cycles_in_bounds_3 = whole.1.1.1.1.1;
    }

pub overflow_sub-result : goal.overflow_sub-result
overflow_sub-result c =
    let a = c.args in
    let p = c.requires in
    let f = c.copy_cycles-a in
    let t = all_taken a.cycles.now a.steps.now a.s a.goes.now a.stays.now p.flagged p.within (length a.counts.now) (length a.places.now) p.fit
    f.result c.close_path-u.result c.close_path-b.result f.ensures.value c.close_path-u.ensures.value c.close_path-b.ensures.value
    c.copy_cycles-w.result c.copy_cycles-w.ensures.value in
    t.0.0

pub overflow_sub-result-2 : goal.overflow_sub-result-2
overflow_sub-result-2 c =
    let a = c.args in
    let p = c.requires in
    let f = c.copy_cycles-a in
    let t = all_taken a.cycles.now a.steps.now a.s a.goes.now a.stays.now p.flagged p.within (length a.counts.now) (length a.places.now) p.fit
    f.result c.close_path-u.result c.close_path-b.result f.ensures.value c.close_path-u.ensures.value c.close_path-b.ensures.value
    c.copy_cycles-w.result c.copy_cycles-w.ensures.value in
    t.0.1

pub returns : goal.returns
returns c =
    let a = c.args in
    let p = c.requires in
    let f = c.copy_cycles-a in
    let r = one_room a.cycles.now a.steps.now a.s a.goes.now a.stays.now p.flagged p.within (length a.counts.now) (length a.places.now) p.fit
    f.result f.result f.result f.ensures.value in
    let d = ap (λ (q : Used). q.steps) c.close_path-u.ensures.value in
    let x = ring_built f.ensures.built (omega (arith, r.1.0, f.auto.steps)) (2 * a.e) c.put_step.new.steps c.close_path-u.new.counts
    c.put_step.ensures.steps_after c.close_path-u.ensures.closes c.close_path-u.result c.close_path-u.ensures.value in
    let y = ring_built x (omega (arith, d, r.1.0, c.put_step.auto.steps, f.auto.steps)) (2 * a.e + 1) c.put_step-2.new.steps c.close_path-b.new.counts
    c.put_step-2.ensures.steps_after c.close_path-b.ensures.closes c.close_path-b.result c.close_path-b.ensures.value in
    let t = all_taken a.cycles.now a.steps.now a.s a.goes.now a.stays.now p.flagged p.within (length a.counts.now) (length a.places.now) p.fit
    f.result c.close_path-u.result c.close_path-b.result f.ensures.value c.close_path-u.ensures.value c.close_path-b.ensures.value
    c.copy_cycles-w.result c.copy_cycles-w.ensures.value in
    let ks = cycles_at a.cycles.now a.steps.now a.s in
    let first = kept (take a.s.cycles.count a.goes.now) ks ++ one (path (one (halfedge_of (2 * a.e)))) in
    let gone = kept (take a.s.cycles.count a.stays.now) ks in
    record {
      two_built =
          two_built c.close_path-u.result (built_size x)
          (built_as (append_assoc first (one (path (one (halfedge_of (2 * a.e + 1))))) gone) (built_then gone y c.copy_cycles-w.ensures.built));
      cycles_after = t.1.0;
      steps_after = t.1.1;
    }
