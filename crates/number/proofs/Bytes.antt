-- Lists of bytes. Assumes nothing.
use mathlib.Core.Path.{◌≡◌, subst}
use mathlib.Core.List.{List, [], ◌∷◌, ◌++◌}
use Prim.Native.Nat.{ℕ, zero, suc, ◌+◌, ◌<◌}
use lib.ListN.{get_or, drop}
use lib.Seq.{get_or-drop}

-- every element is below 256, as a slice of bytes has it; past the end stands 0
abbrev pub Bytes : List ℕ → Type 0
Bytes s = (k : ℕ) → get_or s k 0 < 256

pub bytes_tail : (b : ℕ) (s : List ℕ) → Bytes (b ∷ s) → Bytes s
bytes_tail b s B k = B (suc k)

pub bytes_drop : (n : ℕ) (s : List ℕ) → Bytes s → Bytes (drop n s)
bytes_drop n s B k = rw get_or-drop (B (n + k))

-- what is left of bytes after their front
pub bytes_after : (s t : List ℕ) → Bytes (s ++ t) → Bytes t
bytes_after [] t B = B
bytes_after (b ∷ s) t B = bytes_after s t (λ k. B (suc k))

pub bytes_rest : (s front t : List ℕ) → s ≡ front ++ t → Bytes s → Bytes t
bytes_rest s front t e B = bytes_after front t (subst Bytes e B)

pub bytes_join : (s t : List ℕ) → Bytes s → Bytes t → Bytes (s ++ t)
bytes_join [] t B C k = C k
bytes_join (b ∷ s) t B C zero = B 0
bytes_join (b ∷ s) t B C (suc k) = bytes_join s t (λ i. B (suc i)) C k
