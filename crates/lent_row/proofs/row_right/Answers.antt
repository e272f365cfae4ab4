-- `lent_row::row_right` meets its contract. One rule after another. Assumes nothing.
use borrow.Author.Rules.{rules}
use Prim.Native.Nat.{ℕ, ◌<◌}
use native.Mathlib.Omega.{arith}
use mathlib.Core.Path.{◌≡◌, refl, ap, sym, ◌∙◌}
use lib.ListN.{take}
use borrow.Author.Tests.{not-true, not-false}
use Rattle.sound.proofs.Testing.{and_true, and_false}
use Rattle.lent.specs.Arrays.{Arrays, position_in, of_lists}
use Rattle.lent_row.specs.Row.{rows_in, row_right, bare}
use Rattle.lent_figure.specs.Figure.{figure_right}
use Rattle.lent_row.proofs.Rows.{after_id, after_normal, after_bends, after_cycles, after_figure}
use Rattle.lent_row.proofs.Rows.{row_in, steps_so, looked, row_fault, bends_over, bends_fit_lem, cycles_over, cycles_fit_lem, row_stop, row_done, row_plain}
use Rattle.lent_row.proofs.row_right.Goals as goal

abbrev held : goal.After-struct_known-4-1 → Arrays
held s =
    let a = s.args in
    bare a.view.now.next a.view.now.count a.view.now.ids.now a.view.now.kinds.now a.view.now.starts.now a.view.now.ends.now a.view.now.bends.now a.view.now.counts.now a.view.now.px.now a.view.now.py.now a.view.now.cycles.now a.view.now.steps.now

abbrev held_2 : goal.In_default → Arrays
held_2 s =
    let a = s.args in
    bare a.view.now.next a.view.now.count a.view.now.ids.now a.view.now.kinds.now a.view.now.starts.now a.view.now.ends.now a.view.now.bends.now a.view.now.counts.now a.view.now.px.now a.view.now.py.now a.view.now.cycles.now a.view.now.steps.now

abbrev held_3 : goal.Then-t-c → Arrays
held_3 s =
    let a = s.args in
    bare a.view.now.next a.view.now.count a.view.now.ids.now a.view.now.kinds.now a.view.now.starts.now a.view.now.ends.now a.view.now.bends.now a.view.now.counts.now a.view.now.px.now a.view.now.py.now a.view.now.cycles.now a.view.now.steps.now

abbrev held_4 : goal.After-struct_known-then-c-eq0-2-1 → Arrays
held_4 s =
    let a = s.args in
    bare a.view.now.next a.view.now.count a.view.now.ids.now a.view.now.kinds.now a.view.now.starts.now a.view.now.ends.now a.view.now.bends.now a.view.now.counts.now a.view.now.px.now a.view.now.py.now a.view.now.cycles.now a.view.now.steps.now

abbrev held_5 : goal.Then-t-b → Arrays
held_5 s =
    let a = s.args in
    bare a.view.now.next a.view.now.count a.view.now.ids.now a.view.now.kinds.now a.view.now.starts.now a.view.now.ends.now a.view.now.bends.now a.view.now.counts.now a.view.now.px.now a.view.now.py.now a.view.now.cycles.now a.view.now.steps.now

abbrev held_6 : goal.Then-not-figure_right → Arrays
held_6 s =
    let a = s.args in
    bare a.view.now.next a.view.now.count a.view.now.ids.now a.view.now.kinds.now a.view.now.starts.now a.view.now.ends.now a.view.now.bends.now a.view.now.counts.now a.view.now.px.now a.view.now.py.now a.view.now.cycles.now a.view.now.steps.now

abbrev held_7 : goal.Then-not-row_normal → Arrays
held_7 s =
    let a = s.args in
    bare a.view.now.next a.view.now.count a.view.now.ids.now a.view.now.kinds.now a.view.now.starts.now a.view.now.ends.now a.view.now.bends.now a.view.now.counts.now a.view.now.px.now a.view.now.py.now a.view.now.cycles.now a.view.now.steps.now

below : (s : goal.In-Some) → s.args.i < 256
below s = row_in s.requires.upto s.requires.i_lt_count

below_2 : (s : goal.Then-c-eq0) → s.args.i < 256
below_2 s = row_in s.requires.upto s.requires.i_lt_count

-- ---- what is left then
left1 : (c : goal.After-struct_known-4-1) → row_right (held c) c.args.i ≡ after_id (held c) c.args.i
left1 c = and_true _ (sym c.id_right.ensures ∙ c.if-not-id_right.false)

left1_2 : (c : goal.In_default) → row_right (held_2 c) c.args.i ≡ after_id (held_2 c) c.args.i
left1_2 c = and_true _ (sym c.id_right.ensures ∙ c.if-not-id_right.false)

left1_3 : (c : goal.Then-t-c) → row_right (held_3 c) c.args.i ≡ after_id (held_3 c) c.args.i
left1_3 c = and_true _ (sym c.id_right.ensures ∙ c.if-not-id_right.false)

left1_4 : (c : goal.After-struct_known-then-c-eq0-2-1) → row_right (held_4 c) c.args.i ≡ after_id (held_4 c) c.args.i
left1_4 c = and_true _ (sym c.id_right.ensures ∙ c.if-not-id_right.false)

left1_5 : (c : goal.Then-t-b) → row_right (held_5 c) c.args.i ≡ after_id (held_5 c) c.args.i
left1_5 c = and_true _ (sym c.id_right.ensures ∙ c.if-not-id_right.false)

left1_6 : (c : goal.Then-not-figure_right) → row_right (held_6 c) c.args.i ≡ after_id (held_6 c) c.args.i
left1_6 c = and_true _ (sym c.id_right.ensures ∙ c.if-not-id_right.false)

left1_7 : (c : goal.Then-not-row_normal) → row_right (held_7 c) c.args.i ≡ after_id (held_7 c) c.args.i
left1_7 c = and_true _ (sym c.id_right.ensures ∙ c.if-not-id_right.false)

left2 : (c : goal.After-struct_known-4-1) → row_right (held c) c.args.i ≡ after_normal (held c) c.args.i
left2 c = left1 c ∙ and_true _ (sym c.row_normal.ensures ∙ c.if-not-row_normal.false)

left2_2 : (c : goal.In_default) → row_right (held_2 c) c.args.i ≡ after_normal (held_2 c) c.args.i
left2_2 c = left1_2 c ∙ and_true _ (sym c.row_normal.ensures ∙ c.if-not-row_normal.false)

left2_3 : (c : goal.Then-t-c) → row_right (held_3 c) c.args.i ≡ after_normal (held_3 c) c.args.i
left2_3 c = left1_3 c ∙ and_true _ (sym c.row_normal.ensures ∙ c.if-not-row_normal.false)

left2_4 : (c : goal.After-struct_known-then-c-eq0-2-1) → row_right (held_4 c) c.args.i ≡ after_normal (held_4 c) c.args.i
left2_4 c = left1_4 c ∙ and_true _ (sym c.row_normal.ensures ∙ c.if-not-row_normal.false)

left2_5 : (c : goal.Then-t-b) → row_right (held_5 c) c.args.i ≡ after_normal (held_5 c) c.args.i
left2_5 c = left1_5 c ∙ and_true _ (sym c.row_normal.ensures ∙ c.if-not-row_normal.false)

left2_6 : (c : goal.Then-not-figure_right) → row_right (held_6 c) c.args.i ≡ after_normal (held_6 c) c.args.i
left2_6 c = left1_6 c ∙ and_true _ (sym c.row_normal.ensures ∙ c.if-not-row_normal.false)

-- the figure is asked of the place in the row
figure_is : (c : goal.After-struct_known-4-1) →
    let s = c in
    c.figure_right.result ≡ figure_right (rows_in (held s)) (take s.args.view.now.count s.args.view.now.bends.now) s.args.i
    (position_in s.args.view.now.px.now s.args.view.now.py.now s.args.i)
figure_is c =
    let s = c in
    c.figure_right.ensures s.args.view.now.bends.now refl
    ∙ ap (figure_right (rows_in (held s)) (take s.args.view.now.count s.args.view.now.bends.now) s.args.i) c.vertex_at-p.ensures

figure_is_2 : (c : goal.In_default) →
    let s = c in
    c.figure_right.result ≡ figure_right (rows_in (held_2 s)) (take s.args.view.now.count s.args.view.now.bends.now) s.args.i
    (position_in s.args.view.now.px.now s.args.view.now.py.now s.args.i)
figure_is_2 c =
    let s = c in
    c.figure_right.ensures s.args.view.now.bends.now refl
    ∙ ap (figure_right (rows_in (held_2 s)) (take s.args.view.now.count s.args.view.now.bends.now) s.args.i) c.vertex_at-p.ensures

figure_is_3 : (c : goal.Then-t-c) →
    let s = c in
    c.figure_right.result ≡ figure_right (rows_in (held_3 s)) (take s.args.view.now.count s.args.view.now.bends.now) s.args.i
    (position_in s.args.view.now.px.now s.args.view.now.py.now s.args.i)
figure_is_3 c =
    let s = c in
    c.figure_right.ensures s.args.view.now.bends.now refl
    ∙ ap (figure_right (rows_in (held_3 s)) (take s.args.view.now.count s.args.view.now.bends.now) s.args.i) c.vertex_at-p.ensures

figure_is_4 : (c : goal.After-struct_known-then-c-eq0-2-1) →
    let s = c in
    c.figure_right.result ≡ figure_right (rows_in (held_4 s)) (take s.args.view.now.count s.args.view.now.bends.now) s.args.i
    (position_in s.args.view.now.px.now s.args.view.now.py.now s.args.i)
figure_is_4 c =
    let s = c in
    c.figure_right.ensures s.args.view.now.bends.now refl
    ∙ ap (figure_right (rows_in (held_4 s)) (take s.args.view.now.count s.args.view.now.bends.now) s.args.i) c.vertex_at-p.ensures

figure_is_5 : (c : goal.Then-t-b) →
    let s = c in
    c.figure_right.result ≡ figure_right (rows_in (held_5 s)) (take s.args.view.now.count s.args.view.now.bends.now) s.args.i
    (position_in s.args.view.now.px.now s.args.view.now.py.now s.args.i)
figure_is_5 c =
    let s = c in
    c.figure_right.ensures s.args.view.now.bends.now refl
    ∙ ap (figure_right (rows_in (held_5 s)) (take s.args.view.now.count s.args.view.now.bends.now) s.args.i) c.vertex_at-p.ensures

figure_is_6 : (c : goal.Then-not-figure_right) →
    let s = c in
    c.figure_right.result ≡ figure_right (rows_in (held_6 s)) (take s.args.view.now.count s.args.view.now.bends.now) s.args.i
    (position_in s.args.view.now.px.now s.args.view.now.py.now s.args.i)
figure_is_6 c =
    let s = c in
    c.figure_right.ensures s.args.view.now.bends.now refl
    ∙ ap (figure_right (rows_in (held_6 s)) (take s.args.view.now.count s.args.view.now.bends.now) s.args.i) c.vertex_at-p.ensures

left3 : (c : goal.After-struct_known-4-1) → row_right (held c) c.args.i ≡ after_figure (held c) c.args.i
left3 c = left2 c ∙ and_true _ (sym (figure_is c) ∙ c.if-not-figure_right.false)

left3_2 : (c : goal.In_default) → row_right (held_2 c) c.args.i ≡ after_figure (held_2 c) c.args.i
left3_2 c = left2_2 c ∙ and_true _ (sym (figure_is_2 c) ∙ c.if-not-figure_right.false)

left3_3 : (c : goal.Then-t-c) → row_right (held_3 c) c.args.i ≡ after_figure (held_3 c) c.args.i
left3_3 c = left2_3 c ∙ and_true _ (sym (figure_is_3 c) ∙ c.if-not-figure_right.false)

left3_4 : (c : goal.After-struct_known-then-c-eq0-2-1) → row_right (held_4 c) c.args.i ≡ after_figure (held_4 c) c.args.i
left3_4 c = left2_4 c ∙ and_true _ (sym (figure_is_4 c) ∙ c.if-not-figure_right.false)

left3_5 : (c : goal.Then-t-b) → row_right (held_5 c) c.args.i ≡ after_figure (held_5 c) c.args.i
left3_5 c = left2_5 c ∙ and_true _ (sym (figure_is_5 c) ∙ c.if-not-figure_right.false)

left4 : (c : goal.After-struct_known-4-1) → row_right (held c) c.args.i ≡ after_bends (held c) c.args.i
left4 c =
    let s = c in
    let b = c in
    left3 b ∙ and_true _ (bends_fit_lem s.requires.upto s.requires.i_lt_count _ b.wide-b.ensures c.if-t-b.false)

left4_2 : (c : goal.In_default) → row_right (held_2 c) c.args.i ≡ after_bends (held_2 c) c.args.i
left4_2 c =
    let s = c in
    let b = c in
    left3_2 b ∙ and_true _ (bends_fit_lem s.requires.upto s.requires.i_lt_count _ b.wide-b.ensures c.if-t-b.false)

left4_3 : (c : goal.Then-t-c) → row_right (held_3 c) c.args.i ≡ after_bends (held_3 c) c.args.i
left4_3 c =
    let s = c in
    let b = c in
    left3_3 b ∙ and_true _ (bends_fit_lem s.requires.upto s.requires.i_lt_count _ b.wide-b.ensures c.if-t-b.false)

left4_4 : (c : goal.After-struct_known-then-c-eq0-2-1) → row_right (held_4 c) c.args.i ≡ after_bends (held_4 c) c.args.i
left4_4 c =
    let s = c in
    let b = c in
    left3_4 b ∙ and_true _ (bends_fit_lem s.requires.upto s.requires.i_lt_count _ b.wide-b.ensures c.if-t-b.false)

left6 : (c : goal.After-struct_known-4-1) → row_right (held c) c.args.i ≡ after_cycles (held c) c.args.i
left6 c =
    let s = c in
    let w = c in
    left4 w ∙ and_true _ (cycles_fit_lem s.requires.upto s.requires.i_lt_count _ w.wide-c.ensures c.if-t-c.false)

left6_2 : (c : goal.In_default) → row_right (held_2 c) c.args.i ≡ after_cycles (held_2 c) c.args.i
left6_2 c =
    let s = c in
    let w = c in
    left4_2 w ∙ and_true _ (cycles_fit_lem s.requires.upto s.requires.i_lt_count _ w.wide-c.ensures c.if-t-c.false)

pub returns-then-not-id_right : goal.returns-then-not-id_right
returns-then-not-id_right c =
    let q = c in
    let s = q in
    row_fault s.requires.upto s.requires.i_lt_count (and_false _ (sym q.id_right.ensures ∙ c.if-not-id_right.true))

pub returns-then-not-row_normal : goal.returns-then-not-row_normal
returns-then-not-row_normal c =
    let q = c in
    let s = q in
    row_fault s.requires.upto s.requires.i_lt_count
    (left1_7 q ∙ and_false _ (sym q.row_normal.ensures ∙ c.if-not-row_normal.true))

pub figure_right-requires : goal.figure_right-requires
figure_right-requires c =
    let s = c in
    record {
      looked = looked s.requires.upto s.requires.i_lt_count _ s.requires.table;
      i_lt_n = s.requires.i_lt_count;
    }

pub returns-then-not-figure_right : goal.returns-then-not-figure_right
returns-then-not-figure_right c =
    let q = c in
    let s = q in
    row_fault s.requires.upto s.requires.i_lt_count (left2_6 q ∙ and_false _ (sym (figure_is_6 q) ∙ c.if-not-figure_right.true))

pub returns-then-t-b : goal.returns-then-t-b
returns-then-t-b c =
    let q = c in
    let s = q in
    row_fault s.requires.upto s.requires.i_lt_count
    (left3_5 q ∙ and_false _ (bends_over s.requires.upto s.requires.i_lt_count _ q.wide-b.ensures c.if-t-b.true))

pub overflow_add-result : goal.overflow_add-result
overflow_add-result c = record { fits = omega (arith, below_2 c) }

pub returns-then-c-eq0 : goal.returns-then-c-eq0
returns-then-c-eq0 c =
    let w = c in
    let s = w in
    row_plain s.requires.upto s.requires.i_lt_count _ w.wide-c.ensures (left4_4 w) _ w.wide-b.ensures
    c.if-c-eq0.true

pub overflow_sub-t-2 : goal.overflow_sub-t-2
overflow_sub-t-2 c = omega (arith, c.requires.upto.cycles)

pub returns-then-t-c : goal.returns-then-t-c
returns-then-t-c c =
    let w = c in
    let s = w in
    row_fault s.requires.upto s.requires.i_lt_count
    (left4_3 w ∙ and_false _ (cycles_over s.requires.upto s.requires.i_lt_count _ w.wide-c.ensures c.if-t-c.true))

pub cycles_good-requires : goal.cycles_good-requires
cycles_good-requires c =
    let s = c in
    let u = s.requires.upto in
    let h = s.requires in record {
      looked = looked u h.i_lt_count _ s.requires.table;
      cycles_len = u.sized.long.cycles;
      steps_len = u.sized.long.steps;
      m_bound = omega (arith, c.if-t-c.false, u.cycles);
      from_value = steps_so u h.i_lt_count;
      from_le_steps_most = u.steps;
    }

pub returns-in_default : goal.returns-in_default
returns-in_default c =
    let w = c in
    let q = w in
    let s = q in
    row_stop s.requires.upto s.requires.i_lt_count _ q.wide-c.ensures (left6_2 q) _ w.cycles_good.ensures
    c.in_default.is

pub overflow_add-result-2 : goal.overflow_add-result-2
overflow_add-result-2 c = record { fits = omega (arith, below c) }

pub returns : goal.returns
returns c =
    let k = c in
    let w = k in
    let q = w in
    let s = q in
    row_done s.requires.upto s.requires.i_lt_count _ q.wide-c.ensures (left6 q) _ q.wide-b.ensures _
    w.cycles_good.ensures _ k.in-Some.is
