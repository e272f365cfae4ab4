-- `script::cycle_end` meets its contract. Assumes nothing.
use Rattle.std.specs.Prelude.{Option, Some, None}
use Rattle.std.specs.Prelude.{IsSome}
use Prim.Native.Nat.{ℕ}
use mathlib.Core.Path.{◌≡◌, refl}
use mathlib.Core.List.{List}
use native.Mathlib.Omega.{arith}
use lib.ListN.{length, drop}
use Rattle.number.specs.Said.{no}
use Rattle.complex.specs.Decode.{read_cycle}
use Rattle.decode_parts.specs.Lists.{Found, Stand, skip_says, skipped}
use Rattle.decode_parts.proofs.Rest.{leaves_cycle}
use Rattle.decode_parts.proofs.Fields.{skip_heard, no_skip}
use Rattle.script.proofs.Steps.{stuck, field_reaches}
use Rattle.script.proofs.cycle_end.Goals as goal

-- a cycle that stands has an end
is_skipped : {s : List ℕ} {at : ℕ} (v : Option ℕ) → skip_says v ≡ skipped (length s) (read_cycle (drop at s)) → Stand read_cycle s at 1 → IsSome v
is_skipped (Some next) e h = refl
is_skipped {s} {at} None e h =
    let none : Found read_cycle s at (no 2) = no_skip e refl in
    absurd (stuck h (omega arith) none.is.1)

pub unwrap-requires : goal.unwrap-requires
unwrap-requires c = is_skipped _ c.skip_cycle.ensures c.requires

pub returns : goal.returns
returns c =
    let x = c.requires.reach.after in
    let y = c.requires.reach.fits in
    field_reaches (skip_heard c.skip_cycle.ensures leaves_cycle (omega arith) c.unwrap.ensures).1.is
