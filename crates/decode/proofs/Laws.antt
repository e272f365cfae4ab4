-- What decoding says to its callers. Assumes nothing.
use Rattle.std.specs.Prelude.{Option, Some, None}
use mathlib.Core.Path.{◌≡◌, sym, ap, ◌∙◌, subst}
use mathlib.Core.List.{List}
use Prim.Native.Nat.{ℕ, ◌≤◌, ◌<◌}
use native.Mathlib.Omega.{arith}
use lib.ListN.{length, drop}
use Rattle.number.specs.Readers.{got, bad}
use Rattle.number.specs.Said.{found_or}
use Rattle.number.proofs.Laws.{found_got, found_bad}
use Rattle.complex.specs.Decode.{decode}
use Rattle.decode_command.specs.declared.Command.{Command}
use Rattle.decode_command.specs.View.{order_of, decoded_says, ListsLie, Ended, DecodedEnd}

-- a script begins with the command c, which ends at `next`
pub record Begins (s : List ℕ) (c : Command) (next : ℕ) : Type 0 where
  pub read : decode s ≡ got (order_of s c) (drop next s)
  pub some : 0 < next
  pub fits : next ≤ length s
  pub lists : ListsLie s c

pub begins : {s : List ℕ} {r : Option (Command × ℕ)} {c : Command} {next : ℕ} → decoded_says s r ≡ found_or 2 (decode s) → DecodedEnd s 1 r → r ≡ Some (c, next)
    → Begins s c next
begins {s} {c = c} {next = next} d e f =
    let h : Ended s 1 c next = subst (DecodedEnd s 1) f e in
    let a = h.after in
    record { read = found_got 2 (decode s) (order_of s c) (drop next s) (sym d ∙ ap (decoded_says s) f); some = omega arith; fits = h.fits; lists = h.lists }

pub unread : (s : List ℕ) {r : Option (Command × ℕ)} → decoded_says s r ≡ found_or 2 (decode s) → r ≡ None → decode s ≡ bad
unread s d f = found_bad 2 (decode s) (sym d ∙ ap (decoded_says s) f)
