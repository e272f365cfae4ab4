-- `unglue_vertex` meets its contract: question 6, then 7 and 8, then the copies. Assumes nothing.
use Prim.Native.Nat.{ℕ, ◌+◌, ◌-◌, ◌≤◌}
use native.Mathlib.Omega.{arith}
use mathlib.Core.Path.{◌≡◌, refl, sym, ap, ◌∙◌, subst}
use mathlib.Core.Bool.{Bool, false}
use mathlib.Core.List.{List}
use lib.Dec.{T, lit≤}
use lib.ListN.{take, length-replicate}
use Rattle.complex.specs.Lists.{total}
use Rattle.complex.specs.Cells.{cell_at, is_vertex}
use Rattle.store.specs.View.{sheet_of, cycles_from}
use Rattle.answer.specs.declared.Totals.{Totals}
use Rattle.answer.proofs.Asked.{next_in_lem}
use Rattle.ask_unglue.specs.Places.{GroupedEnds}
use Rattle.ask_unglue.proofs.Copies.{ids_rising, count_asks, sizes_small}
use Rattle.ask_unglue.proofs.Found.{fresh}
use Rattle.rows_uses.specs.declared.Use.TheVariants.{Lone}
use Rattle.rows_uses.specs.Uses.{uses_in}
use Rattle.lent.specs.Arrays.{Arrays, held_by, rows_by, normal, totals_of}
use Rattle.lent.specs.Sheets.{arrays}
use Rattle.lent.specs.Replies.{Ready}
use Rattle.lent.proofs.Sums.{ready_drawing, ready_sizes, ready_indexes, ready_fits}
use Rattle.kind_unglue_vertex.specs.Parts.{VertexOf}
use Rattle.kind_unglue_vertex.proofs.Ended.{end_asks, mid_long, mid_held, mid_rising, mid_cycles, ends_parted}
use Rattle.kind_unglue_vertex.proofs.Unglued.{Asked, few_lone, few, late, room, bends_same, obeyed_unglued}
use Rattle.answer.proofs.Questions.{all_yes, some_no}
use Rattle.lent.proofs.Refusals.{handed_on}
use Rattle.kind_unglue_vertex.proofs.unglue_vertex.Goals as goal

-- the groups were found in the view b
grouped : {a b : Arrays} → b ≡ a → {v g : ℕ} {at : List Bool} {G : List ℕ} → GroupedEnds (held_by b) (rows_by b) v g at G
    → GroupedEnds (held_by a) (rows_by a) v g at G
grouped e {v} {g} {at} {G} R = subst (λ (x : Arrays). GroupedEnds (held_by x) (rows_by x) v g at G) e R

-- what the questions before 7 gave
asked : {a b : Arrays} {t : Totals} {v : ℕ} → VertexOf a t v → b ≡ a → {g : ℕ} {at : List Bool} {G : List ℕ}
    → GroupedEnds (held_by b) (rows_by b) v g at G
    → (k : ℕ) → k ≡ g → (n : ℕ) → n ≡ total (uses_in Lone v) (cycles_from (take t.cycles a.cycles) a.steps) → Asked a t v g k n
asked y e G k w n l = record { ready = y.ready; vertex = y.vertex; groups_are = (grouped e G).count; wide = w; lone = l }

-- there are few parts
few_parts : {a : Arrays} {t : Totals} {v g k b : ℕ} → Asked a t v g k b → g ≤ 512 → k + b ≤ 2560
few_parts q h = omega (arith, h, q.wide, few_lone q)

pub group_ends-g-requires : goal.group_ends-g-requires
group_ends-g-requires c =
    record {
      ready = subst (λ (x : Arrays). Ready x c.args.t) (sym c.view.ensures) c.requires.ready;
      t = subst (λ (x : Arrays). T (is_vertex (cell_at (sheet_of (held_by x)) c.args.v))) (sym c.view.ensures) c.requires.vertex;
      fresh = fresh;
    }

pub count_uses-lone-requires : goal.count_uses-lone-requires
count_uses-lone-requires c =
    let a = arrays c.args.sheet.now in
    let t = c.args.t in
    let r = c.requires.ready in
    let whole = count_asks (held_by a) (ready_sizes a t r) (ready_drawing a t r) (rows_by a) (ready_indexes a t r) t r.sums in
    record { n_in_bounds = whole.0; cycles_in_bounds = whole.1 }

pub overflow_add-parts : goal.overflow_add-parts
overflow_add-parts c =
    let q = asked c.requires c.view.ensures c.group_ends-g.ensures.grouped_ends _ c.wide-k.ensures _ c.count_uses-lone.ensures in
    record { fits = omega (arith, few_parts q c.group_ends-g.ensures.upper_bound) }

pub returns-then-parts-lt2-clause-obeyed : goal.returns-then-parts-lt2-clause-obeyed
returns-then-parts-lt2-clause-obeyed c =
    let q = asked c.requires c.view.ensures c.group_ends-g.ensures.grouped_ends _ c.wide-k.ensures _ c.count_uses-lone.ensures in
    few q c.if-parts-lt2.true _ refl

pub copies_asked-requires : goal.copies_asked-requires
copies_asked-requires c =
    let a = arrays c.args.sheet.now in
    let t = c.args.t in
    let r = c.requires.ready in
    let q = asked c.requires c.view.ensures c.group_ends-g.ensures.grouped_ends _ c.wide-k.ensures _ c.count_uses-lone.ensures in
    let w = ready_drawing a t r in
    record {
      next_le_ids_end = next_in_lem (held_by a) w;
      small = sizes_small (held_by a) (ready_sizes a t r) w (rows_by a) (ready_indexes a t r) t r.sums;
      b_le_bends_most = lit≤ tt;
      n_bound = omega (arith, few_parts q c.group_ends-g.ensures.upper_bound);
    }

pub returns-in_err-copies_asked-clause-obeyed : goal.returns-in_err-copies_asked-clause-obeyed
returns-in_err-copies_asked-clause-obeyed c =
    let q = asked c.requires c.view.ensures c.group_ends-g.ensures.grouped_ends _ c.wide-k.ensures _ c.count_uses-lone.ensures in
    late q c.if-parts-lt2.false _ c.copies_asked.ensures (some_no c.in_err-copies_asked.was) _ (handed_on _ c.in_err-copies_asked.was c.from_residual.ensures)

pub find-row-requires : goal.find-row-requires
find-row-requires c =
    let a = arrays c.args.sheet.now in
    let t = c.args.t in
    let r = c.requires.ready in
    record {
      n_bound = (ready_fits a t r).cells;
      ids_len = r.long.ids;
      rising = ids_rising (held_by a) (ready_sizes a t r) (ready_drawing a t r) (rows_by a) (ready_indexes a t r);
    }

-- what is asked of the starts or the ends, once the vertex's row is found
pub new_ends-requires : goal.new_ends-requires
new_ends-requires c =
    let k = c.group_ends-g in
    end_asks 0 (lit≤ tt) c.requires.ready (grouped c.view.ensures k.ensures.grouped_ends, k.ensures.upper_bound) (k.auto.at ∙ length-replicate 512 false)
    (k.auto.groups ∙ length-replicate {A = ℕ} 512 0) _ c.requires.ready.long.starts

pub new_ends-requires-2 : goal.new_ends-requires-2
new_ends-requires-2 c =
    let k = c.group_ends-g in
    end_asks 1 (lit≤ tt) c.requires.ready (grouped c.view.ensures k.ensures.grouped_ends, k.ensures.upper_bound) (k.auto.at ∙ length-replicate 512 false)
    (k.auto.groups ∙ length-replicate {A = ℕ} 512 0) _ c.requires.ready.long.ends

pub copy_uses-requires : goal.copy_uses-requires
copy_uses-requires c =
    let a = arrays c.args.sheet.now in
    let t = c.args.t in
    let v = c.args.v in
    let r = c.requires.ready in
    let n = c.group_ends-g.result in
    let R = grouped c.view.ensures c.group_ends-g.ensures.grouped_ends in
    let A = c.new_ends.ensures in
    let E = c.new_ends-2.ensures in
    record {
      fits = (mid_held a t r v n _ _ R _ _ A E).1;
      lengths = mid_long a t r v n _ _ R _ _ A E;
      t = mid_rising a t r v n _ _ R _ _ A E;
      m_value = mid_cycles a t r v n _ _ R _ _ A E;
      next_le_ids_end = next_in_lem (held_by a) (ready_drawing a t r);
      k0_bound = omega (arith, c.wide-k.ensures, c.group_ends-g.ensures.upper_bound);
    }

pub put_copies-requires : goal.put_copies-requires
put_copies-requires c =
    let q = asked c.requires c.view.ensures c.group_ends-g.ensures.grouped_ends _ c.wide-k.ensures _ c.count_uses-lone.ensures in
    let u = c.copy_uses.ensures in
    let e = ends_parted _ c.args.t c.requires.ready c.args.v c.group_ends-g.result _ _ (grouped c.view.ensures c.group_ends-g.ensures.grouped_ends) _ _
    c.new_ends.ensures c.new_ends-2.ensures c.requires.vertex _ c.wide-k.ensures _ u.uses_copied (ap normal u.kept) in
    record {
      copies_room = room q c.if-parts-lt2.false _ c.copies_asked.ensures (all_yes c.in_ok-copies_asked.was) _ c.find-row.ensures _ e;
      lengths = e.long;
      by_value = e.rows;
      base_value = bends_same q c.if-parts-lt2.false _ c.copies_asked.ensures (all_yes c.in_ok-copies_asked.was) _ c.find-row.ensures _ e
          (ap (λ (x : Arrays). (totals_of x).bends) u.kept);
    }

pub overflow_cast-new : goal.overflow_cast-new
overflow_cast-new c =
    let q = asked c.requires c.view.ensures c.group_ends-g.ensures.grouped_ends _ c.wide-k.ensures _ c.count_uses-lone.ensures in
    omega (arith, few_parts q c.group_ends-g.ensures.upper_bound)

pub returns-clause-obeyed : goal.returns-clause-obeyed
returns-clause-obeyed c =
    let q = asked c.requires c.view.ensures c.group_ends-g.ensures.grouped_ends _ c.wide-k.ensures _ c.count_uses-lone.ensures in
    let u = c.copy_uses.ensures in
    let w = c.put_copies.ensures in
    let e = ends_parted _ c.args.t c.requires.ready c.args.v c.group_ends-g.result _ _ (grouped c.view.ensures c.group_ends-g.ensures.grouped_ends) _ _
    c.new_ends.ensures c.new_ends-2.ensures c.requires.vertex _ c.wide-k.ensures _ u.uses_copied (ap normal u.kept) in
    obeyed_unglued q c.if-parts-lt2.false _ c.copies_asked.ensures (all_yes c.in_ok-copies_asked.was) _ c.find-row.ensures _
    e _ w.copies_come
    (ap (λ (x : Arrays). x.next) w.kept ∙ ap (λ (x : Arrays). x.next + (c.wide-k.result + c.count_uses-lone.result - 1)) u.kept)
    (ap (λ (x : Arrays). x.count) w.kept ∙ ap (λ (x : Arrays). x.count + (c.wide-k.result + c.count_uses-lone.result - 1)) u.kept)
    _ refl
