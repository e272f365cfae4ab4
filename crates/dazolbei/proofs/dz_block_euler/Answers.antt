-- `dazolbei::dz_block_euler` meets its contract: the Euler number. Assumes nothing.
use borrow.Author.Rules.{rules}
use mir.Syntax.{w32}
use mir.ValLaws.{to_z-of_z}
use mathlib.Core.Path.{◌∙◌}
use Rattle.entry_files.specs.Calls.{euler_as}
use Rattle.dazolbei.proofs.dz_block_euler.Goals as goal

pub returns : goal.returns
returns c =
    let t = c in
    (λ j. euler_as t.euler-e.result.number (to_z-of_z w32 t.euler-e.result.value (search rules) j)) ∙ t.euler-e.ensures
