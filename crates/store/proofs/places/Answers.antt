-- `places` meets its contract. Assumes nothing.
use borrow.Author.Rules.{rules}
use mathlib.Core.Path.{sym, ◌∙◌}
use Rattle.store.proofs.Lists.{places_of_some}
use Rattle.store.proofs.places.Goals as goal

pub returns : goal.returns
returns c = c.wide.ensures ∙ sym (places_of_some c.args.z c.args.c c.if-c-eq0.false)
