-- What the code that reads a number at a place answers, by the byte that stands there. Assumes nothing.
use mathlib.Core.Path.{◌≡◌, refl, sym, ap, ◌∙◌}
use mathlib.Core.List.{List, [], ◌∷◌}
use Prim.Native.Nat.{ℕ, zero, suc, ◌+◌, ◌-◌, ◌*◌, ◌≤◌, ◌<◌}
use native.Mathlib.Nat.{pos_of_ne-zero}
use native.Mathlib.Numerals.{add-one}
use native.Mathlib.Omega.{arith}
use lib.ListN.{length, get_or, drop, length-drop, drop_of_length-le}
use lib.Seq.{drop-cons}
use Rattle.number.specs.Said.{done, no, placed_or}
use Rattle.number.specs.Readers.{Read, got, bad}
use Rattle.number.specs.Numbers.{number_bytes, more, read_number, number_at}
use Rattle.number.proofs.Laws.{joined, more_last, more_next, read_last, read_next, done_two, not_done}

-- ---- a byte and the bytes after it
drop_first : (s : List ℕ) (at : ℕ) → at < length s → drop at s ≡ get_or s at 0 ∷ drop (at + 1) s
drop_first s at h = drop-cons s at 0 h ∙ ap (λ (k : ℕ). get_or s at 0 ∷ drop k s) (sym (add-one at))

after_first : (s : List ℕ) (at n : ℕ) → at < length s → done (n, at + 1) ≡ placed_or 2 (length s) (got n (drop (at + 1) s))
after_first s at n h =
    let e : at + 1 ≡ length s - length (drop (at + 1) s) = omega (arith, length-drop (at + 1) s) in
    ap (λ (k : ℕ). done (n, k)) e

joined_value : (end b n next : ℕ) (r : Read ℕ) → placed_or 2 end r ≡ done (n, next) → done (b - 128 + 128 * n, next) ≡ placed_or 2 end (joined b r)
joined_value end b n next (got m t) e =
    let p = done_two m n (end - length t) next e in
    λ i. done (b - 128 + 128 * sym p.0 i, sym p.1 i)
joined_value end b n next bad e = absurd (not_done 2 (n, next) e)

joined_malformed : (end b : ℕ) (r : Read ℕ) → placed_or 2 end r ≡ no 2 → no 2 ≡ placed_or 2 end (joined b r)
joined_malformed end b (got m t) e = absurd (not_done 2 (m, end - length t) (sym e))
joined_malformed end b bad e = refl

-- ---- after the first byte, with at most k bytes to come
more_none : (k : ℕ) → more k [] ≡ bad
more_none zero = refl
more_none (suc k) = refl

module _ (s : List ℕ) (at k : ℕ) where
  pub more_at_end : length s ≤ at → no 2 ≡ placed_or 2 (length s) (more k (drop at s))
  more_at_end h = ap (placed_or 2 (length s)) (sym (more_none k) ∙ ap (more k) (sym (drop_of_length-le s h)))

  module _ (some : k ≡ 0 → ⊥) (there : at < length s) where
    first : more (suc (k - 1)) (get_or s at 0 ∷ drop (at + 1) s) ≡ more k (drop at s)
    first =
        let p = pos_of_ne-zero some in
        let e : suc (k - 1) ≡ k = omega arith in
        λ i. more (e i) (sym (drop_first s at there) i)

    pub more_at_zero : get_or s at 0 ≡ 0 → no 2 ≡ placed_or 2 (length s) (more k (drop at s))
    more_at_zero z = ap (λ (b : ℕ). placed_or 2 (length s) (more (suc (k - 1)) (b ∷ drop (at + 1) s))) (sym z) ∙ ap (placed_or 2 (length s)) first

    pub more_at_last : (get_or s at 0 ≡ 0 → ⊥) → get_or s at 0 < 128 → done (get_or s at 0, at + 1) ≡ placed_or 2 (length s) (more k (drop at s))
    more_at_last z h = after_first s at (get_or s at 0) there ∙ ap (placed_or 2 (length s)) (sym (more_last (k - 1) (get_or s at 0) (drop (at + 1) s) h z) ∙ first)

    module _ (big : 128 ≤ get_or s at 0) where
      pub more_at_next : (n next : ℕ) → placed_or 2 (length s) (more (k - 1) (drop (at + 1) s)) ≡ done (n, next)
          → done (get_or s at 0 - 128 + 128 * n, next) ≡ placed_or 2 (length s) (more k (drop at s))
      more_at_next n next e =
          joined_value (length s) (get_or s at 0) n next (more (k - 1) (drop (at + 1) s)) e
          ∙ ap (placed_or 2 (length s)) (sym (more_next (k - 1) (get_or s at 0) (drop (at + 1) s) big) ∙ first)

      pub more_at_stop : placed_or 2 (length s) (more (k - 1) (drop (at + 1) s)) ≡ no 2 → no 2 ≡ placed_or 2 (length s) (more k (drop at s))
      more_at_stop e =
          joined_malformed (length s) (get_or s at 0) (more (k - 1) (drop (at + 1) s)) e
          ∙ ap (placed_or 2 (length s)) (sym (more_next (k - 1) (get_or s at 0) (drop (at + 1) s) big) ∙ first)

-- ---- the first byte
module _ (s : List ℕ) (at : ℕ) where
  pub read_at_end : length s ≤ at → no 2 ≡ number_at s at
  read_at_end h = ap (λ (v : List ℕ). placed_or 2 (length s) (read_number v)) (sym (drop_of_length-le s h))

  module _ (there : at < length s) where
    pub read_at_last : get_or s at 0 < 128 → done (get_or s at 0, at + 1) ≡ number_at s at
    read_at_last h =
        after_first s at (get_or s at 0) there
        ∙ ap (placed_or 2 (length s)) (sym (read_last (get_or s at 0) (drop (at + 1) s) h) ∙ ap read_number (sym (drop_first s at there)))

    module _ (big : 128 ≤ get_or s at 0) where
      pub read_at_next : (n next : ℕ) → placed_or 2 (length s) (more (number_bytes - 1) (drop (at + 1) s)) ≡ done (n, next)
          → done (get_or s at 0 - 128 + 128 * n, next) ≡ number_at s at
      read_at_next n next e =
          joined_value (length s) (get_or s at 0) n next (more (number_bytes - 1) (drop (at + 1) s)) e
          ∙ ap (placed_or 2 (length s)) (sym (read_next (get_or s at 0) (drop (at + 1) s) big) ∙ ap read_number (sym (drop_first s at there)))

      pub read_at_stop : placed_or 2 (length s) (more (number_bytes - 1) (drop (at + 1) s)) ≡ no 2 → no 2 ≡ number_at s at
      read_at_stop e =
          joined_malformed (length s) (get_or s at 0) (more (number_bytes - 1) (drop (at + 1) s)) e
          ∙ ap (placed_or 2 (length s)) (sym (read_next (get_or s at 0) (drop (at + 1) s) big) ∙ ap read_number (sym (drop_first s at there)))
