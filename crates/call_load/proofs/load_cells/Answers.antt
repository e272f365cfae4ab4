-- `load_cells` meets its contract. The loop's invariant: i cells stand in the rows, and their bends were kept or looked at. Assumes nothing.
use Prim.Native.Nat.{◌+◌}
use borrow.Author.Rules.{rules}
use native.Mathlib.Omega.{arith}
use mathlib.Core.Path.{refl, ap, ◌∙◌}
use Rattle.lent.specs.Arrays.{Arrays}
use Rattle.lent.proofs.Held.{numbered}
use Rattle.call_load.proofs.Loads.{rowed_room, head_some, head_none, parts_some, parts_none, bends_inside, bends_room, rowed_left}
use Rattle.call_load.proofs.Bare.{stays_on, bare_start, bare_long, bare_turn, bare_given}
use Rattle.call_load.proofs.load_cells.Goals as goal

pub loop-i-init : goal.loop-i-init
loop-i-init c =
    record {
      inside = omega arith;
      rows = bare_start _ _ _ _ _ c.requires.at_in_bounds c.known.ensures;
      stays = λ _. (refl, refl);
      same = search rules;
      next = refl;
      count = refl;
    }

pub returns-in_default-clause-rows_told : goal.returns-in_default-clause-rows_told
returns-in_default-clause-rows_told c =
    head_none _ _ _ _ _ _ c.loop-i.invariant.rows.rowed c.head_at.result c.head_at.ensures c.in_default.is c.loop-i-test.true

pub load_parts-requires : goal.load_parts-requires
load_parts-requires c =
    let R = c.loop-i.invariant.rows.rowed in
    record {
      first_in_bounds = (head_some _ _ _ _ _ _ R c.head_at.result c.head_at.ensures _ _ c.in-Some.is).inside;
      load_room = rowed_room _ _ _ _ _ _ R;
    }

pub returns-in_default-load_parts-clause-rows_told : goal.returns-in_default-load_parts-clause-rows_told
returns-in_default-load_parts-clause-rows_told c =
    let R = c.loop-i.invariant.rows.rowed in
    let H = head_some _ _ _ _ _ _ R c.head_at.result c.head_at.ensures _ _ c.in-Some.is in
    parts_none _ _ _ _ _ _ R _ _ H _ _ c.load_parts.result c.load_parts.ensures c.in_default-load_parts.is c.loop-i-test.true

pub bends_taken-good-requires : goal.bends_taken-good-requires
bends_taken-good-requires c =
    let v = c.loop-i.invariant in
    let R = v.rows.rowed in
    let H = head_some _ _ _ _ _ _ R c.head_at.result c.head_at.ensures _ _ c.in-Some.is in
    let P = parts_some _ _ _ _ _ _ R _ _ H _ _ c.load_parts.result c.load_parts.ensures _ _ c.in-Some-load_parts.is in
    let e = c.bend_count.ensures in
    let k = c.known.ensures in
    let w = bare_long _ _ _ _ _ _ _ _ v.rows _ _ v.stays k.bx k.by in
    record {
      n_in_bounds = bends_inside _ _ _ _ _ _ _ _ _ _ P _ e;
      n_bound = bends_room _ _ _ _ _ _ _ _ _ _ P _ e;
      bx_len = w.0;
      by_len = w.1;
    }

pub loop-i-preserved : goal.loop-i-preserved
loop-i-preserved c =
    let v = c.loop-i.invariant in
    let R = v.rows.rowed in
    let H = head_some _ _ _ _ _ _ R c.head_at.result c.head_at.ensures _ _ c.in-Some.is in
    let P = parts_some _ _ _ _ _ _ R _ _ H _ _ c.load_parts.result c.load_parts.ensures _ _ c.in-Some-load_parts.is in
    let t = c.loop-i-test.true in
    let e = c.put_cell.ensures.put in
    let S = stays_on _ _ _ _ _ _ _ _ _ _ _ _ v.stays c.bends_taken-good.ensures in
    record {
      inside = omega (arith, t);
      rows =
          bare_turn _ _ _ _ _ _ _ _ v.rows _ _ H _ _ _ _ P t
          (omega (arith, t, c.requires.n_le_cells_most)) _ _ _ _ c.bend_count.ensures c.bends_taken-good.ensures _
          (ap (λ (b : Arrays). numbered b 0 (c.loop-i.i + 1)) e);
      stays = λ h. (ap (λ (b : Arrays). b.bx) e ∙ (S h).0, ap (λ (b : Arrays). b.by) e ∙ (S h).1);
      same = search rules;
      next = ap (λ (b : Arrays). b.next) e ∙ v.next;
      count = ap (λ (b : Arrays). b.count) e ∙ v.count;
    }

pub returns-then-place-s-clause-rows_told : goal.returns-then-place-s-clause-rows_told
returns-then-place-s-clause-rows_told c =
    let v = c.loop-i.invariant in
    rowed_left _ _ _ _ _ _ v.rows.rowed (omega (arith, v.inside, c.loop-i-test.false)) c.if-place-s.true

pub returns-clause-rows_told : goal.returns-clause-rows_told
returns-clause-rows_told c =
    let v = c.loop-i.invariant in
    bare_given _ _ _ _ _ _ _ _ v.rows (omega (arith, v.inside, c.loop-i-test.false)) c.if-place-s.false c.requires.n_le_cells_most
