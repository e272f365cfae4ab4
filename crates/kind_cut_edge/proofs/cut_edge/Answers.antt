-- `cut_edge` meets its contract: the questions, then the steps, the row and the bends, the vertex and the parts. Assumes nothing.
use native.Mathlib.Omega.{arith}
use Prim.Native.Nat.{ℕ}
use mathlib.Core.Path.{◌≡◌, refl, sym, ap, ◌∙◌, subst}
use mathlib.Core.Bool.{true}
use Rattle.complex.specs.Decode.{cut_edge}
use Rattle.complex.specs.Answer.{no, asked3}
use Rattle.store.specs.View.{sheet_of}
use Rattle.answer.specs.declared.Totals.{Totals}
use Rattle.answer.proofs.Questions.{that_no}
use Rattle.lent.specs.Arrays.{Arrays, held_by, normal}
use Rattle.lent.specs.declared.Line.{Line}
use Rattle.lent.specs.Replies.{line_of, Ready, Obeyed}
use Rattle.lent.proofs.Refusals.{handed_on}
use Rattle.lent.proofs.Sums.{ready_rows, ready_fits, ready_no}
use Rattle.kernel_swap.specs.Swaps.{SwappedIn}
use Rattle.kernel_swap.proofs.Lent.{with_pools}
use Rattle.kernel_drop.specs.Gone.{EdgeRow, RowGone}
use Rattle.kind_cut_plan.specs.declared.Plan.{Plan}
use Rattle.kind_cut_plan.specs.Plans.{Goes}
use Rattle.kind_cut_parts.specs.declared.Parts.{Parts}
use Rattle.kind_cut_parts.specs.Parting.{parts_of}
use Rattle.kind_cut_edge.proofs.Cuts.{Gone, Parting, parts_asks, swap_asks, order, mid_row, parts_fit, obeyed_cut}
use Rattle.kind_cut_edge.proofs.cut_edge.Goals as goal

obeyed_at : (a b : Arrays) (l : Line) (e : ℕ) {p q : ℕ} → p ≡ q → Obeyed a (cut_edge e p) b l → Obeyed a (cut_edge e q) b l
obeyed_at a b l e h o = subst (λ (n : ℕ). Obeyed a (cut_edge e n) b l) h o

-- b is what the view shows
plan_at : {a b : Arrays} (e q : ℕ) (r : Plan) → b ≡ a → Goes r.two b e q r → Goes r.two a e q r
plan_at e q r v h = subst (λ (x : Arrays). Goes r.two x e q r) v h

no_at : {a b : Arrays} (e q n : ℕ) → b ≡ a → asked3 (sheet_of (held_by b)) (cut_edge e q) ≡ no n (sheet_of (held_by b))
    → asked3 (sheet_of (held_by a)) (cut_edge e q) ≡ no n (sheet_of (held_by a))
no_at e q n v h = subst (λ (x : Arrays). asked3 (sheet_of (held_by x)) (cut_edge e q) ≡ no n (sheet_of (held_by x))) v h

parting : {a b : Arrays} {t : Totals} (e q : ℕ) (r : Plan) {p : Parts} → Ready a t → b ≡ a → Goes r.two b e q r → p ≡ parts_of r.two a.next e r.s r.m q
    → Parting a e q r p
parting e q r y v h k = record { long = y.long; sound = y.sound; goes = plan_at e q r v h; parts = k }

-- m are the arrays with the steps swapped, and b those without the edge's row
gone_at : {a m b : Arrays} {r : Plan} {p : Parts} → m ≡ with_pools a m.cycles m.steps → SwappedIn p.swap a m
    → RowGone m r.row r.base r.m r.bends p.i p.j b → b.next ≡ m.next → Gone a r p m.cycles m.steps b
gone_at {a} {m} {b} {r} {p} k s g n =
    record {
      swapped = subst (SwappedIn p.swap a) k s;
      gone = subst (λ (x : Arrays). RowGone x r.row r.base r.m r.bends p.i p.j b) k g;
      same = n ∙ ap (λ (x : Arrays). x.next) k;
    }

mid_rows : {a m : Arrays} {t : Totals} → m ≡ with_pools a m.cycles m.steps → Ready a t → normal m ≡ true
mid_rows {a} {m} {t} k y = subst (λ (x : Arrays). normal x ≡ true) (sym k) (ready_rows a t y)

pub returns-in_err-c-clause-obeyed : goal.returns-in_err-c-clause-obeyed
returns-in_err-c-clause-obeyed c =
    obeyed_at _ _ _ c.args.e c.wide-place.ensures
    (ready_no _ c.args.t c.requires (cut_edge c.args.e c.wide-place.result) _ _
    (handed_on _ c.in_err-c.was c.from_residual.ensures ∙ ap line_of (sym (that_no c.in_err-c.was)))
    (no_at c.args.e c.wide-place.result _ c.view.ensures c.in_err-c.ensures))

pub parts_of-w-requires : goal.parts_of-w-requires
parts_of-w-requires c =
    let whole =
    parts_asks _ c.requires.long c.requires.sound c.args.e c.wide-place.result c.in_ok-c.c c.in_ok-c.c.two
    (plan_at c.args.e c.wide-place.result c.in_ok-c.c c.view.ensures c.in_ok-c.ensures) in record {
      id_le_ids_end = whole.0;
      e_lt_ids_end = whole.1.0;
      m_le_bends_most = whole.1.1.0;
      q_bound = whole.1.1.1.0;
      q_bound_2 = whole.1.1.1.1;
    }

pub swap_steps-requires : goal.swap_steps-requires
swap_steps-requires c =
    let whole = swap_asks _ _ _ _ _ (parting c.args.e c.wide-place.result c.in_ok-c.c c.requires c.view.ensures c.in_ok-c.ensures c.parts_of-w.ensures) in record {
      fits = whole.0;
      lengths = whole.1.0;
      k_value = whole.1.1.0;
      n_bound = whole.1.1.1.0;
      by_value = whole.1.1.1.1.0;
      by_bound = whole.1.1.1.1.1.0;
      m_value = whole.1.1.1.1.1.1.0;
      fact = whole.1.1.1.1.1.1.1;
    }

pub drop_row-requires : goal.drop_row-requires
drop_row-requires c =
    let k = parting c.args.e c.wide-place.result c.in_ok-c.c c.requires c.view.ensures c.in_ok-c.ensures c.parts_of-w.ensures in
    let sw = c.swap_steps.ensures.swapped_in in
    let o = order _ _ _ _ _ k in
    let r = c.in_ok-c.c in
    record {
      fits = sw.fits;
      lengths = sw.long;
      by_value = mid_rows c.swap_steps.ensures.kept c.requires;
      edge_row = subst (λ (x : Arrays). EdgeRow x r.row r.base r.m r.bends) (sym c.swap_steps.ensures.kept) (mid_row _ _ _ _ _ k _ _);
      i_le_j = o.0;
      j_le_m = o.1;
    }

pub overflow_cast-removed : goal.overflow_cast-removed
overflow_cast-removed c = omega (arith, (ready_fits _ _ c.requires).cells)

pub put_parts-requires : goal.put_parts-requires
put_parts-requires c =
    let whole =
    parts_fit _ _ _ _ _ (parting c.args.e c.wide-place.result c.in_ok-c.c c.requires c.view.ensures c.in_ok-c.ensures c.parts_of-w.ensures) _ _ _
    (gone_at c.swap_steps.ensures.kept c.swap_steps.ensures.swapped_in c.drop_row.ensures.row_gone (ap (λ (x : Arrays). x.next) c.drop_row.ensures.kept)) in record {
      count_bound = whole.0;
      next_bound = whole.1.0;
      count_bound_2 = whole.1.1;
    }

pub returns-clause-obeyed : goal.returns-clause-obeyed
returns-clause-obeyed c =
    obeyed_at _ _ _ c.args.e c.wide-place.ensures
    (obeyed_cut _ _ _ _ _ (parting c.args.e c.wide-place.result c.in_ok-c.c c.requires c.view.ensures c.in_ok-c.ensures c.parts_of-w.ensures) _ _ _
    (gone_at c.swap_steps.ensures.kept c.swap_steps.ensures.swapped_in c.drop_row.ensures.row_gone (ap (λ (x : Arrays). x.next) c.drop_row.ensures.kept))
    _ c.put_parts.ensures.parted _ refl)
