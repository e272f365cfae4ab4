-- `unglue` meets its contract: question 4, then a vertex, or of an edge question 6, then 7 and 8, then the copies. Assumes nothing.
use Prim.Native.Nat.{ℕ, ◌+◌, ◌-◌, ◌*◌, ◌≤◌}
use native.Mathlib.Omega.{arith}
use mathlib.Core.Path.{◌≡◌, refl, sym, ap, ◌∙◌}
use mathlib.Core.Bool.{cond}
use lib.Dec.{eqb, lit≤}
use lib.ListN.{take, get_or}
use Rattle.complex.specs.Lists.{total}
use Rattle.store.specs.Index.{row_of}
use Rattle.store.specs.View.{cycles_from, bend_total}
use Rattle.sound.specs.Looks.{index_value}
use Rattle.answer.specs.Sizes.{sized, nothing, more_less, changed_by}
use Rattle.answer.specs.declared.Totals.{Totals}
use Rattle.answer.specs.Late.{sizes_by, late_no}
use Rattle.answer.proofs.Asked.{sound_in, next_in_lem}
use Rattle.ask_unglue.proofs.Copies.{count_asks, sizes_small}
use Rattle.rows_uses.specs.declared.Use.{Use}
use Rattle.rows_uses.specs.declared.Use.TheVariants.{Step, Ring}
use Rattle.rows_uses.specs.Uses.{uses_in}
use Rattle.lent.specs.Arrays.{Arrays, held_by, rows_by, normal}
use Rattle.lent.specs.Sheets.{arrays}
use Rattle.lent.specs.Replies.{Ready}
use Rattle.lent.proofs.Sums.{ready_rows, ready_drawing, ready_sizes, ready_indexes, ready_looks, ready_cycles, ready_bends, ready_fits}
use Rattle.lent.proofs.Finds.{ready_finds}
use Rattle.kind_unglue.proofs.Unglued.{Counted, Asked, vertex_by, neither, has_uses_lem, few_parts, few, row_in, bends_small, late, room, obeyed_unglued}
use Rattle.answer.proofs.Questions.{all_yes, some_no}
use Rattle.lent.proofs.Refusals.{handed_on}
use Rattle.kind_unglue.proofs.unglue.Goals as goal

-- what is known of the edge's uses
counted : {a : Arrays} {t : Totals} → Ready a t → (i k : ℕ) → k ≡ index_value 4 (held_by a) (rows_by a) a.kinds i → (k ≡ 0 → ⊥) → k ≤ 2
    → (u : Use) → u ≡ cond (eqb k 1) Step Ring → (n : ℕ) → n ≡ total (uses_in u i) (cycles_from (take t.cycles a.cycles) a.steps) → Counted u a t i n
counted {a} {t} y i k ek nz h u eu n en = record { ready = y; uses = has_uses_lem a t y i k ek nz h u eu; count = en }

-- what the questions gave
asked : {u : Use} {a : Arrays} {t : Totals} {i n : ℕ} → Counted u a t i n → 2 ≤ n → (row : ℕ) → row ≡ row_of i (take a.count a.ids)
    → (b : ℕ) → b ≡ get_or a.bends row 0
    → (l : ℕ) → l ≡ late_no a.next (n - 1) (changed_by (sizes_by t) (more_less (sized (n - 1) 0 0 ((n - 1) * b)) nothing)) → Asked u a t i n row b l
asked q h row er b eb l el = record { counted = q; many = h; here = er; bends = eb; late = el }

pub value_at-k-requires : goal.value_at-k-requires
value_at-k-requires c =
    record {
      n_bound = (ready_fits _ _ c.requires).cells;
      ids_len = c.requires.long.ids;
      values_len = c.requires.long.kinds;
      rising = (ready_looks _ _ c.requires).rising;
    }

pub unglue_vertex-requires : goal.unglue_vertex-requires
unglue_vertex-requires c =
    record {
      ready = c.requires;
      vertex = vertex_by _ _ c.requires c.args.i c.value_at-k.result c.value_at-k.ensures c.if-k-eq0.true;
    }

pub returns-then-k-eq0-clause-obeyed : goal.returns-then-k-eq0-clause-obeyed
returns-then-k-eq0-clause-obeyed c = c.unglue_vertex.ensures.obeyed

pub returns-then-k-gt2-clause-obeyed : goal.returns-then-k-gt2-clause-obeyed
returns-then-k-gt2-clause-obeyed c = neither _ _ c.requires c.args.i c.value_at-k.result c.value_at-k.ensures c.if-k-gt2.true _ refl

pub count_uses-parts-requires : goal.count_uses-parts-requires
count_uses-parts-requires c =
    let s = c.args in
    let a = arrays s.sheet.now in
    let r = c.requires in
    let whole = count_asks (held_by a) (ready_sizes a s.t r) (ready_drawing a s.t r) (rows_by a) (ready_indexes a s.t r) s.t r.sums in record {
      n_in_bounds = whole.0;
      cycles_in_bounds = whole.1;
    }

pub returns-then-parts-lt2-clause-obeyed : goal.returns-then-parts-lt2-clause-obeyed
returns-then-parts-lt2-clause-obeyed c =
    let q = counted c.requires c.args.i _ c.value_at-k.ensures c.if-k-eq0.false c.if-k-gt2.false _ c.uses_of-u.ensures _ c.count_uses-parts.ensures in
    few q c.if-parts-lt2.true _ refl

pub find-row-requires : goal.find-row-requires
find-row-requires c = let whole = ready_finds _ _ c.requires in record {
  n_bound = whole.0;
  ids_len = whole.1.0;
  rising = whole.1.1;
}

pub offset_bounds-sheet-row : goal.offset_bounds-sheet-row
offset_bounds-sheet-row c =
    let q = counted c.requires c.args.i _ c.value_at-k.ensures c.if-k-eq0.false c.if-k-gt2.false _ c.uses_of-u.ensures _ c.count_uses-parts.ensures in
    omega (arith, row_in q c.if-parts-lt2.false c.find-row.result c.find-row.ensures, (ready_fits _ _ c.requires).cells)

pub bounds-sheet-row : goal.bounds-sheet-row
bounds-sheet-row c =
    let q = counted c.requires c.args.i _ c.value_at-k.ensures c.if-k-eq0.false c.if-k-gt2.false _ c.uses_of-u.ensures _ c.count_uses-parts.ensures in
    omega (arith, row_in q c.if-parts-lt2.false c.find-row.result c.find-row.ensures, (ready_fits _ _ c.requires).cells)

pub copies_asked-requires : goal.copies_asked-requires
copies_asked-requires c =
    let s = c.args in
    let a = arrays s.sheet.now in
    let r = c.requires in
    let q = counted c.requires c.args.i _ c.value_at-k.ensures c.if-k-eq0.false c.if-k-gt2.false _ c.uses_of-u.ensures _ c.count_uses-parts.ensures in
    let w = ready_drawing a s.t r in
    record {
      next_le_ids_end = next_in_lem (held_by a) w;
      small = sizes_small (held_by a) (ready_sizes a s.t r) w (rows_by a) (ready_indexes a s.t r) s.t r.sums;
      b_le_bends_most = bends_small q c.if-parts-lt2.false c.find-row.result c.find-row.ensures c.wide-b.result c.wide-b.ensures;
      n_bound = omega (arith, few_parts q);
    }

pub returns-in_err-copies_asked-clause-obeyed : goal.returns-in_err-copies_asked-clause-obeyed
returns-in_err-copies_asked-clause-obeyed c =
    let q = counted c.requires c.args.i _ c.value_at-k.ensures c.if-k-eq0.false c.if-k-gt2.false _ c.uses_of-u.ensures _ c.count_uses-parts.ensures in
    let z = asked q c.if-parts-lt2.false _ c.find-row.ensures _ c.wide-b.ensures _ c.copies_asked.ensures in
    late z (some_no c.in_err-copies_asked.was) _ (handed_on _ c.in_err-copies_asked.was c.from_residual.ensures)

pub copy_uses-requires : goal.copy_uses-requires
copy_uses-requires c =
    let s = c.args in
    let a = arrays s.sheet.now in
    let r = c.requires in
    let w = ready_drawing a s.t r in
    record {
      fits = ready_fits a s.t r;
      lengths = r.long;
      t = (sound_in (held_by a) w).rises;
      m_value = ready_cycles a s.t r;
      next_le_ids_end = next_in_lem (held_by a) w;
      k0_bound = lit≤ tt;
    }

pub put_copies-requires : goal.put_copies-requires
put_copies-requires c =
    let q = counted c.requires c.args.i _ c.value_at-k.ensures c.if-k-eq0.false c.if-k-gt2.false _ c.uses_of-u.ensures _ c.count_uses-parts.ensures in
    let z = asked q c.if-parts-lt2.false _ c.find-row.ensures _ c.wide-b.ensures _ c.copies_asked.ensures in
    record {
      copies_room = room z (all_yes c.in_ok-copies_asked.was) _ c.copy_uses.ensures.uses_copied;
      lengths = c.copy_uses.ensures.uses_copied.long;
      by_value = ap normal c.copy_uses.ensures.kept ∙ ready_rows _ _ c.requires;
      base_value = ready_bends _ _ c.requires ∙ sym (ap (λ (x : Arrays). bend_total (held_by x)) c.copy_uses.ensures.kept);
    }

pub overflow_cast-new : goal.overflow_cast-new
overflow_cast-new c =
    let q = counted c.requires c.args.i _ c.value_at-k.ensures c.if-k-eq0.false c.if-k-gt2.false _ c.uses_of-u.ensures _ c.count_uses-parts.ensures in
    omega (arith, few_parts q)

pub returns-clause-obeyed : goal.returns-clause-obeyed
returns-clause-obeyed c =
    let q = counted c.requires c.args.i _ c.value_at-k.ensures c.if-k-eq0.false c.if-k-gt2.false _ c.uses_of-u.ensures _ c.count_uses-parts.ensures in
    let z = asked q c.if-parts-lt2.false _ c.find-row.ensures _ c.wide-b.ensures _ c.copies_asked.ensures in
    let u = c.copy_uses.ensures in
    let w = c.put_copies.ensures in
    obeyed_unglued z (all_yes c.in_ok-copies_asked.was) _ u.uses_copied _ w.copies_come
    (ap (λ (x : Arrays). x.next) w.kept ∙ ap (λ (x : Arrays). x.next + (c.count_uses-parts.result - 1)) u.kept)
    (ap (λ (x : Arrays). x.count) w.kept ∙ ap (λ (x : Arrays). x.count + (c.count_uses-parts.result - 1)) u.kept)
    _ refl
