-- `uncut` meets its contract: by the case that is found. Assumes nothing.
use Prim.Native.Nat.{ℕ}
use mathlib.Core.Path.{◌≡◌, refl, sym, ap, ◌∙◌}
use Rattle.std.specs.Prelude.{Ok, Err}
use Rattle.number.specs.Said.{done, no}
use Rattle.complex.specs.Uncut.{Uncut, uncut_case}
use Rattle.store.specs.View.{sheet_of}
use Rattle.answer.specs.declared.Totals.{Totals}
use Rattle.answer.proofs.Questions.{that_no}
use Rattle.ask_uncut.specs.declared.Case.{Case}
use Rattle.ask_uncut.specs.declared.Case.TheVariants.{Vertex}
use Rattle.ask_uncut.specs.Decided.{case_says}
use Rattle.ask_uncut.proofs.Cases.{asked_case}
use Rattle.lent.specs.Arrays.{Arrays, held_by}
use Rattle.lent.specs.Replies.{Ready}
use Rattle.lent.proofs.Refusals.{handed_on}
use Rattle.kind_uncut.specs.Found.{CaseFound}
use Rattle.kind_uncut.proofs.Found.{asks, said}
use Rattle.kind_uncut.proofs.Refused.{obeyed_no}
use Rattle.kind_uncut.proofs.uncut.Goals as goal

-- the case that holds at the cell i, by what was found there
case_is : {a : Arrays} {t : Totals} (y : Ready a t) (i : ℕ) (f : Case)
    → CaseFound a.count a.ids a.kinds a.starts a.ends a.counts a.cycles t.cycles a.steps i (Ok f) → (x : Case) → f ≡ x
    → (k : Uncut) → case_says i (Ok x) ≡ done k → uncut_case (sheet_of (held_by a)) i ≡ k
case_is y i f h x e k n = asked_case _ _ (sym n ∙ ap (λ (u : Case). case_says i (Ok u)) (sym e) ∙ said _ _ y i (Ok f) h)

pub case_in-requires : goal.case_in-requires
case_in-requires c = asks _ _ c.requires

pub returns-in_err-case_in-clause-obeyed : goal.returns-in_err-case_in-clause-obeyed
returns-in_err-case_in-clause-obeyed c =
    obeyed_no _ _ c.requires c.args.i _ (ap no (sym (that_no c.in_err-case_in.was)) ∙ said _ _ c.requires c.args.i (Err c.in_err-case_in.field-0.0) c.in_err-case_in.ensures) _
    (handed_on _ c.in_err-case_in.was c.from_residual.ensures)

pub lonely-requires : goal.lonely-requires
lonely-requires c =
    let k = c.in-Vertex-Lonely in
    record { ready = c.requires; is = case_is c.requires c.args.i _ c.in_ok-case_in.ensures _ (k.is ∙ ap Vertex k.field-0-is) _ refl }

pub looped-requires-clause-v_value : goal.looped-requires-clause-v_value
looped-requires-clause-v_value c =
    let k = c.in-Vertex-Loop in
    case_is c.requires c.args.i _ c.in_ok-case_in.ensures _ (k.is ∙ ap Vertex k.field-0-is) _ refl

pub jointed-requires-clause-v_value : goal.jointed-requires-clause-v_value
jointed-requires-clause-v_value c =
    let k = c.in-Vertex-Joint in
    case_is c.requires c.args.i _ c.in_ok-case_in.ensures _ (k.is ∙ ap Vertex k.field-0-is) _ refl

pub uncut_edge-requires-clause-e_value : goal.uncut_edge-requires-clause-e_value
uncut_edge-requires-clause-e_value c = case_is c.requires c.args.i _ c.in_ok-case_in.ensures _ c.in-Edge.is _ refl
