-- `find_links` meets its contract. Assumes nothing.
use borrow.Author.Rules.{rules}
use Prim.Native.Nat.{ℕ, ◌+◌, ◌-◌, ◌≤◌, ◌<◌}
use native.Mathlib.Omega.{arith}
use mathlib.Core.Path.{◌≡◌, refl, ap, ◌∙◌}
use lib.ListN.{length, take, drop, get_or, length-drop}
use Rattle.store.specs.View.{width, width_sum, cycles_from}
use Rattle.store.proofs.Lists.{places_one}
use Rattle.rows_sides.proofs.Passing.{part_is, from_more, from_within}
use Rattle.rows_links.specs.Links.{turns_of}
use Rattle.rows_links.proofs.Links.{Linking, linking_none, linking_on, put_as, put_over, cycles_turn}
use Rattle.rows_links.proofs.find_links.Goals as goal

pub loop-j-init : goal.loop-j-init
loop-j-init c = (omega arith, refl, linking_none _ _ _ _ _ _ (omega arith))

-- the steps of one more cycle are there, and there is room for their links
pub offset_bounds-steps-from : goal.offset_bounds-steps-from
offset_bounds-steps-from c =
    let a = c.args in
    let l = c.loop-j in
    let p = c.requires in
    let n = get_or a.cycles.now l.j 0 in
    let r = from_within a.cycles.now l.j a.m l.from n p.m_in_bounds c.loop-j-test.true l.invariant.1 refl in
    record { fits = omega (arith, r, p.cycles_in_bounds) }

pub slice_bounds-cycle_links-count : goal.slice_bounds-cycle_links-count
slice_bounds-cycle_links-count c =
    let a = c.args in
    let l = c.loop-j in
    let p = c.requires in
    let n = get_or a.cycles.now l.j 0 in
    let r = from_within a.cycles.now l.j a.m l.from n p.m_in_bounds c.loop-j-test.true l.invariant.1 refl in
    omega (arith, r, p.cycles_in_bounds)

pub slice_bounds-cycle_links-start : goal.slice_bounds-cycle_links-start
slice_bounds-cycle_links-start c =
    let a = c.args in
    let l = c.loop-j in
    let p = c.requires in
    let n = get_or a.cycles.now l.j 0 in
    let r = from_within a.cycles.now l.j a.m l.from n p.m_in_bounds c.loop-j-test.true l.invariant.1 refl in
    omega (arith, r, p.cycles_in_bounds)

pub cycle_links-k-requires : goal.cycle_links-k-requires
cycle_links-k-requires c =
    let a = c.args in
    let l = c.loop-j in
    let p = c.requires in
    let n = get_or a.cycles.now l.j 0 in
    let r = from_within a.cycles.now l.j a.m l.from n p.m_in_bounds c.loop-j-test.true l.invariant.1 refl in
    let i = l.invariant.2 in
    let f = i.few in
    let s : l.from + width n ≤ length a.steps.now = omega (arith, r, p.cycles_in_bounds) in
    record {
      id_rows = p.id_rows;
      c_in_bounds = rw (part_is l.from a.steps.now) (simp length-drop (omega arith));
      c_in_bounds_2 = omega (arith, r, f, p.cycles_in_bounds_2, i.lefts);
      c_in_bounds_3 = omega (arith, r, f, p.cycles_in_bounds_3, i.rights);
    }

pub overflow_add-from : goal.overflow_add-from
overflow_add-from c =
    let a = c.args in
    let l = c.loop-j in
    let p = c.requires in
    let n = get_or a.cycles.now l.j 0 in
    let r = from_within a.cycles.now l.j a.m l.from n p.m_in_bounds c.loop-j-test.true l.invariant.1 refl in
    record { fits = omega (arith, r, p.cycles_in_bounds, c.places-from.ensures ∙ places_one n) }

pub loop-j-preserved : goal.loop-j-preserved
loop-j-preserved c =
    let a = c.args in
    let l = c.loop-j in
    let p = c.requires in
    let n = get_or a.cycles.now l.j 0 in
    let r = from_within a.cycles.now l.j a.m l.from n p.m_in_bounds c.loop-j-test.true l.invariant.1 refl in
    let s : l.from + width n ≤ length a.steps.now = omega (arith, r, p.cycles_in_bounds) in
    let h : l.j < length a.cycles.now = omega arith in
    let q = c.cycle_links-k in
    let e = c.places-from.ensures ∙ places_one n in
    let y = cycles_turn _ _ _ a.steps.now l.j l.from _ h l.invariant.1 refl (simp length-drop (omega arith)) _ _ _ _ _ _ _ _ _ l.invariant.2.put
    (put_over _ _ n _ (drop l.from a.steps.now) (part_is l.from a.steps.now) _ _ _ _ _ _ q.ensures) in (
      omega arith,
      ap (λ (x : ℕ). l.from + x) e ∙ from_more _ l.j l.from _ h l.invariant.1 refl,
      linking_on _ _ (width n) _ (omega arith) l.invariant.2 q.auto.xs q.auto.ys y,
    )

pub shape_of-xs : goal.shape_of-xs
shape_of-xs c = c.loop-j.invariant.2.lefts

pub shape_of-ys : goal.shape_of-ys
shape_of-ys c = c.loop-j.invariant.2.rights

pub returns : goal.returns
returns c =
    let l = c.loop-j in
    let a = c.args in
    let e : l.j ≡ a.m = omega (arith, l.invariant.0) in
    put_as _ _ _ _ (ap (λ (n : ℕ). turns_of (cycles_from (take n a.cycles.now) a.steps.now)) e) _ _ _ _ _ _ l.invariant.2.put
