-- `script::take_number` meets its contract. Assumes nothing.
use Rattle.std.specs.Prelude.{Option, Some, None}
use Rattle.std.specs.Prelude.{IsSome}
use Prim.Native.Nat.{ℕ}
use mathlib.Core.Path.{◌≡◌, refl}
use mathlib.Core.List.{List}
use native.Mathlib.Omega.{arith}
use Rattle.number.specs.Said.{no}
use Rattle.number.specs.Numbers.{read_number, number_at, number_says}
use Rattle.decode_parts.specs.Lists.{Found, Stand}
use Rattle.decode_parts.proofs.Fields.{number_heard, number_at_lem}
use Rattle.script.proofs.Steps.{stuck}
use Rattle.script.proofs.take_number.Goals as goal

-- a number that stands is read
is_read : {s : List ℕ} {at : ℕ} (v : Option (ℕ × ℕ)) → number_says v ≡ number_at s at → Stand read_number s at 1 → IsSome v
is_read (Some p) e h = refl
is_read {s} {at} None e h =
    let none : Found read_number s at (no 2) = number_heard {v = None} e refl in
    absurd (stuck h (omega arith) none.is.1)

pub unwrap-value-requires : goal.unwrap-value-requires
unwrap-value-requires c = is_read _ c.read_number.ensures c.requires

pub returns : goal.returns
returns c = number_at_lem _ _ c.read_number.ensures c.unwrap-value.ensures
