-- `read` meets its contract. Assumes nothing.
use mathlib.Core.Path.{sym, ◌∙◌}
use Rattle.lent.specs.Sheets.{arrays}
use Rattle.call_open.proofs.Judged.{loaded_some, loaded_none, no_refusal, read_in, not_in}
use Rattle.call_read.proofs.read.Goals as goal

pub returns-in_default-clause-read_in : goal.returns-in_default-clause-read_in
returns-in_default-clause-read_in c =
    absurd (no_refusal c.args.bytes.now (sym c.readable.ensures.value ∙ c.if-readable.true)
    (loaded_none _ _ _ _ c.load.result c.load.ensures.rows_loaded c.in_default.is))

pub returns-then-readable-clause-read_in : goal.returns-then-readable-clause-read_in
returns-then-readable-clause-read_in c =
    let S = loaded_some _ _ _ _ c.load.result c.load.ensures.rows_loaded _ _ _ c.in-Some.is in
    read_in c.args.bytes.now _ S _ (sym c.readable.ensures.value ∙ c.if-readable.true)

pub returns-clause-read_in : goal.returns-clause-read_in
returns-clause-read_in c =
    let a = arrays c.args.sheet.now in
    let e = c.readable.ensures in
    not_in c.args.bytes.now _ _ (λ j. record a { bx = e.bx_unchanged.0 j; by = e.bx_unchanged.1 j }) (sym e.value ∙ c.if-readable.false)
