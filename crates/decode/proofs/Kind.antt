-- What the kind byte decides. Assumes nothing.
use Rattle.std.specs.Prelude.{Option, Some, None}
use mathlib.Core.Path.{◌≡◌, refl, sym, ap, ◌∙◌}
use mathlib.Core.Logic.{◌⊎◌, ⊎_elim}
use mathlib.Core.List.{List, [], ◌∷◌}
use Prim.Native.Nat.{ℕ, ◌≤◌}
use native.Mathlib.Omega.{arith}
use lib.ListN.{length, get_or, drop, get_or-eq_default}
use Rattle.number.specs.Readers.{Read, bad}
use Rattle.number.specs.Said.{no, found_or}
use Rattle.complex.specs.Decode.{Order, unreadable, kinds, decode}
use Rattle.decode_command.specs.declared.Command.{Command}
use Rattle.decode_command.specs.declared.Command.TheVariants.{Renumber}
use Rattle.decode_command.specs.View.{decoded_says, Decodes, DecodedEnd}

pub nothing : (s : List ℕ) → length s ≡ 0 → no 2 ≡ found_or 2 (decode s)
unfolding decode
nothing [] e = refl
nothing (b ∷ s) e = absurd (omega arith)

-- the fields of kind k
pub kind : {s : List ℕ} (k : ℕ) {r : Option (Command × ℕ)} → Decodes s 1 (get_or kinds k unreadable (drop 1 s)) r → (length s ≡ 0 → ⊥) → get_or s 0 0 ≡ k
    → (decoded_says s r ≡ found_or 2 (decode s)) × DecodedEnd s 1 r
unfolding decode
kind {s = []} k d some e = absurd (some refl)
kind {s = b ∷ s} k d some e = (d.answer ∙ ap (λ (i : ℕ). found_or 2 (get_or kinds i unreadable s)) (sym e), d.ends)

-- 0F has no field
pub no_field : (s : List ℕ) → (length s ≡ 0 → ⊥) → Decodes s 1 (get_or kinds 15 unreadable (drop 1 s)) (Some (Renumber, 1))
no_field s some = record { answer = refl; ends = record { after = omega arith; fits = omega arith; lists = tt } }

-- ---- a byte that is no kind
no_kind : (k : ℕ) → (k ≡ 0) ⊎ (16 ≤ k) → get_or kinds k unreadable ≡ unreadable
no_kind k h = ⊎_elim (λ e. ap (λ (i : ℕ). get_or kinds i unreadable) e) (λ l. get_or-eq_default kinds unreadable l) h

pub unknown : (s : List ℕ) (k : ℕ) → (length s ≡ 0 → ⊥) → get_or s 0 0 ≡ k → (k ≡ 0) ⊎ (16 ≤ k) → (no 2 ≡ found_or 2 (decode s)) × Unit {0}
unknown s k some e h =
    let f : (t : List ℕ) → get_or kinds k unreadable t ≡ bad = λ t. ap (λ (r : List ℕ → Read Order). r t) (no_kind k h) in
    kind k {r = None} (record { answer = ap (found_or 2) (sym (f (drop 1 s))); ends = tt }) some e
