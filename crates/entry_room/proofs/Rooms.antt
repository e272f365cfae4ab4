-- What question 9 gives. Assumes nothing.
use Prim.Native.Nat.{ℕ, ◌*◌, ◌≤◌, ◌<◌}
use native.Mathlib.Omega.{arith}
use mathlib.Core.Path.{◌≡◌, refl}
use mathlib.Core.Bool.{Bool, true, false, ◌&&◌}
use lib.Dec.{leb, ltb, leb→le, ltb→lt}
use Rattle.complex.proofs.Bools.{truth, true_of, both}
use Rattle.entry_told.specs.Told.{line_width, lengths_end}
use Rattle.entry_room.specs.Rooms.{file_most, lines_for, room_for, or_nine}

pub lines_parts : (n m : ℕ) → lines_for n m ≡ true → (n < lengths_end) × (line_width * n ≤ m)
lines_parts n m e =
    let a = both (ltb n lengths_end) (leb (line_width * n) m) (truth e) in
    (ltb→lt n lengths_end a.0, leb→le (line_width * n) m a.1)

pub record Room (n m k : ℕ) : Type 0 where
  pub script : n < lengths_end
  pub lines : line_width * n ≤ m
  pub out : file_most ≤ k

pub room_parts : (n m k : ℕ) → room_for n m k ≡ true → Room n m k
room_parts n m k e =
    let a = both (lines_for n m) (leb file_most k) (truth e) in
    let l = lines_parts n m (true_of (lines_for n m) a.0) in
    record { script = l.0; lines = l.1; out = leb→le file_most k a.1 }

-- ---- the number n that a test gives: 9 where it fails
pub no_first : (a b : Bool) (n : ℕ) → n ≡ or_nine a → (n ≡ 0 → ⊥) → n ≡ or_nine (a && b)
no_first true b n e h = absurd (h e)
no_first false b n e h = e

pub no_later : (a b : Bool) (n : ℕ) → n ≡ or_nine a → n ≡ 0 → or_nine b ≡ or_nine (a && b)
no_later true b n e h = refl
no_later false b n e h = absurd (omega arith)

pub nine_of : (b : Bool) (n : ℕ) → n ≡ or_nine b → (n ≡ 0 → ⊥) → (n ≡ 9) × (b ≡ false)
nine_of true n e h = absurd (h e)
nine_of false n e h = (e, refl)

pub none_of_lem : (b : Bool) (n : ℕ) → n ≡ or_nine b → n ≡ 0 → b ≡ true
none_of_lem true n e h = refl
none_of_lem false n e h = absurd (omega arith)
