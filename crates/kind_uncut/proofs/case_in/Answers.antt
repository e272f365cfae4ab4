-- `case_in` meets its contract: by the kind of the cell. Assumes nothing.
use mathlib.Core.Path.{◌∙◌}
use Rattle.kind_uncut.proofs.Found.{vertex_kind, edge_kind, err_said}
use Rattle.kind_uncut.proofs.case_in.Goals as goal

pub returns-in_err-v : goal.returns-in_err-v
returns-in_err-v c =
    err_said _ _ _ c.from_residual.ensures ∙ c.in_err-v.ensures ∙ vertex_kind _ _ c.value_at-k.ensures c.if-k-eq0.true _ _ _

pub returns-in_err-b : goal.returns-in_err-b
returns-in_err-b c =
    err_said _ _ _ c.from_residual-in_err-b.ensures ∙ c.in_err-b.ensures c.args.i
    ∙ edge_kind _ _ c.value_at-k.ensures c.if-k-eq0.false c.if-k-gt2.false c.args.i _ _ c.uses_of-x.ensures _

pub returns : goal.returns
returns c =
    c.in_ok-b.ensures c.args.i ∙ edge_kind _ _ c.value_at-k.ensures c.if-k-eq0.false c.if-k-gt2.false c.args.i _ _ c.uses_of-x.ensures _
