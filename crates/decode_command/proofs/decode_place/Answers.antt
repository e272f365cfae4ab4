-- `decode_command::decode_place` meets its contract: of the two kinds it takes the one that the flag names. Assumes nothing.
use Rattle.std.specs.Prelude.{Option}
use Prim.Native.Nat.{ℕ}
use mathlib.Core.Path.{◌≡◌, refl, sym, subst}
use mathlib.Core.Bool.{Bool}
use mathlib.Core.List.{List}
use lib.ListN.{drop}
use Rattle.complex.specs.Decode.{read_place, edits}
use Rattle.complex.specs.Decode as bytes
use Rattle.decode_command.specs.declared.Command.{Command}
use Rattle.decode_command.specs.View.{Decodes, place_kind}
use Rattle.decode_command.proofs.Decides.{alone}
use Rattle.decode_command.proofs.decode_place.Goals as goal

-- a flag that is known
known : {s : List ℕ} {at : ℕ} {a b : Bool} {d : Option (Command × ℕ)} → a ≡ b
    → Decodes s at (edits (read_place (place_kind b)) (drop at s)) d → Decodes s at (edits (read_place (place_kind a)) (drop at s)) d
known {s} {at} {d = d} e h = subst (λ (k : Bool). Decodes s at (edits (read_place (place_kind k)) (drop at s)) d) (sym e) h

pub returns-then-face : goal.returns-then-face
returns-then-face c = known c.if-face.true (c.decode_placed.ensures bytes.cut_face_vertex (λ n p c e. alone e (λ s. refl) (λ s. tt)))

pub returns : goal.returns
returns c = known c.if-face.false (c.decode_placed-2.ensures bytes.move (λ n p c e. alone e (λ s. refl) (λ s. tt)))
