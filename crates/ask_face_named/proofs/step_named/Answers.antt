-- `step_named` meets its contract. Assumes nothing.
use mathlib.Core.Bool.{◌||◌}
use Prim.Native.Nat.{ℕ}
use mathlib.Core.Path.{ap, ◌∙◌}
use lib.Dec.{eqb}
use borrow.Author.Rules.{rules}
use Rattle.ask_face_named.proofs.step_named.Goals as goal

pub returns : goal.returns
returns c = c.is_edge.ensures ∙ ap (λ (k : ℕ). eqb k 1 || eqb k 2) c.value_at-kind.ensures
