-- `decode_parts::skip_cycle` meets its contract. Assumes nothing.
use mathlib.Core.Path.{◌∙◌}
use borrow.Author.Rules.{rules}
use Rattle.number.specs.Numbers.{read_number}
use Rattle.decode_parts.specs.Lists.{FieldAt}
use Rattle.decode_parts.proofs.Skips.{cycle_stop, cycle_vertex, cycle_steps}
use Rattle.decode_parts.proofs.Fields.{number_at_lem, number_heard}
use Rattle.decode_parts.proofs.skip_cycle.Goals as goal

pub returns-in_default : goal.returns-in_default
returns-in_default c =
    let a = c.args in
    cycle_stop a.script.now a.at (number_heard c.read_number.ensures c.in_default.is)

pub skip_numbers-requires : goal.skip_numbers-requires
skip_numbers-requires c = (number_at_lem _ _ c.read_number.ensures c.in-Some.is).fits

pub returns-then-m-eq0 : goal.returns-then-m-eq0
returns-then-m-eq0 c = c.skip_numbers.ensures ∙ cycle_vertex (number_at_lem _ _ c.read_number.ensures c.in-Some.is) c.if-m-eq0.true

pub skip_numbers-requires-2 : goal.skip_numbers-requires-2
skip_numbers-requires-2 c = (number_at_lem _ _ c.read_number.ensures c.in-Some.is).fits

pub returns : goal.returns
returns c = c.skip_numbers-2.ensures ∙ cycle_steps (number_at_lem _ _ c.read_number.ensures c.in-Some.is) c.if-m-eq0.false
