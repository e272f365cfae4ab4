-- `euler` meets its contract: 1, or the Euler number of sound arrays. Assumes nothing.
use mir.Syntax.{w32}
use mir.ValLaws.{to_z-of_z}
use mathlib.Core.Path.{◌∙◌}
use lib.IntN.{pos}
use Rattle.complex.specs.Calls.{euler_call}
use Rattle.store.specs.View.{sheet_of}
use Rattle.lent.specs.Arrays.{held_by}
use Rattle.lent.specs.Sheets.{seen}
use Rattle.call_asked.proofs.Questions.{asked_sums, asked_no, of_unsound, euler_is}
use Rattle.entry_euler.proofs.euler.Goals as goal

pub returns-in_default : goal.returns-in_default
returns-in_default c =
    let a = seen c.args.view.now in
    of_unsound a (euler_call (sheet_of (held_by a))) (record { number = 1; value = pos 0 }) (asked_no a _ c.asked.ensures c.in_default.is)

-- past question 1
pub euler-value-requires : goal.euler-value-requires
euler-value-requires c = (asked_sums (seen c.args.view.now) _ _ c.asked.ensures c.in-Some.is).sound

-- the number that is found is the Euler number
pub returns : goal.returns
returns c =
    let a = seen c.args.view.now in
    euler_is a (asked_sums a _ _ c.asked.ensures c.in-Some.is).sound _
    (to_z-of_z w32 c.euler-value.result (record { sfits = c.euler-value.type_inv }) ∙ c.euler-value.ensures)
