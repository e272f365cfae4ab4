-- What holds of a command's case holds of the command. Assumes nothing.
use Prim.Native.Nat.{ℕ}
use mathlib.Core.Path.{◌≡◌, sym, subst}
use mathlib.Core.List.{List}
use Rattle.decode_command.specs.declared.Command.{Command}
use Rattle.decode_command.specs.View.{order_of, ListsLie}
use Rattle.lent.specs.Arrays.{Arrays}
use Rattle.lent.specs.declared.Line.{Line}
use Rattle.lent.specs.Replies.{Carried}

module _ (s : List ℕ) {c k : Command} (e : c ≡ k) where
  pub lies : ListsLie s c → ListsLie s k
  lies = subst (ListsLie s) e

  pub carried : (a b : Arrays) (l : Line) → Carried a (order_of s k) b l → Carried a (order_of s c) b l
  carried a b l = subst (λ (x : Command). Carried a (order_of s x) b l) (sym e)
