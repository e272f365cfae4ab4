-- What reading a bend list answers, by its count, and that a bend list is read back from its bytes and spelled one way. Assumes nothing.
use mathlib.Core.Path.{◌≡◌, refl, sym, ap, ◌∙◌}
use mathlib.Core.Logic.{⊎_elim}
use mathlib.Core.List.{List, [], ◌∷◌, ◌++◌}
use Prim.Native.Nat.{ℕ, zero, suc, ◌+◌, ◌-◌, ◌*◌, ◌≤◌, ◌<◌}
use native.Mathlib.Omega.{arith}
use lib.Dec.{T}
use lib.ListN.{length, drop, length-drop}
use lib.Seq.{drop-drop}
use Rattle.number.specs.Readers.{Read, got, bad, and_then, times, all}
use Rattle.number.specs.Said.{Said, done, no}
use Rattle.number.specs.Numbers.{numbers_end, read_number}
use Rattle.number.proofs.Bytes.{Bytes}
use Rattle.number.proofs.Laws.{lt_or_le, read_left, not_done, done_one}
use Rattle.number.proofs.Counted.{Each, each_all, counted_back, counted_from}
use Rattle.coordinate.specs.declared.Position.{Position}
use Rattle.coordinate.specs.Bounds.{within}
use Rattle.coordinate.specs.Positions.{FloatFits, coordinate_in, position_at, read_position, position_bytes}
use Rattle.coordinate.proofs.Laws.{position_at_lem, position_short, read_position_lem, position_read}
use Rattle.bends.specs.Bends.{read_bends, bend_bytes, listed, bend_list_in, positions_at}

pub positions_length : (s : List ℕ) (at n : ℕ) → length (positions_at s at n) ≡ n
positions_length s at zero = refl
positions_length s at (suc n) = ap suc (positions_length s (at + 16) n)

-- a place in a part of the bytes, from k on, is k further in the whole
pub positions_drop : (s : List ℕ) (k at n : ℕ) → positions_at (drop k s) at n ≡ positions_at s (k + at) n
positions_drop s k at zero = refl
positions_drop s k at (suc n) =
    let e : k + (at + 8) ≡ k + at + 8 = omega arith in
    let f : k + (at + 16) ≡ k + at + 16 = omega arith in
    let x : drop at (drop k s) ≡ drop (k + at) s = drop-drop at k s in
    let y : drop (at + 8) (drop k s) ≡ drop (k + at + 8) s = drop-drop (at + 8) k s ∙ ap (λ (j : ℕ). drop j s) e in
    let r = positions_drop s k (at + 16) n ∙ ap (λ (j : ℕ). positions_at s j n) f in
    λ i. record { x = coordinate_in (x i); y = coordinate_in (y i) } ∷ r i

-- ---- n positions from a place on
-- what is read after one position
abbrev after : ℕ → Read Position → Read (List Position)
after n r = and_then r λ p t. and_then (times read_position n t) λ ps u. got (p ∷ ps) u

abbrev before : Position → Read (List Position) → Read (List Position)
before p r = and_then r λ ps u. got (p ∷ ps) u

pub positions_long : (s : List ℕ) (at n : ℕ) → at + 16 * n ≤ length s → times read_position n (drop at s) ≡ got (positions_at s at n) (drop (at + 16 * n) s)
positions_long s at zero h = let e : at ≡ at + 16 * 0 = omega arith in ap (λ (k : ℕ). got [] (drop k s)) e
positions_long s at (suc n) h =
    let e : at + 16 + 16 * n ≡ at + 16 * suc n = omega arith in
    ap (after n) (position_at_lem s at (omega arith))
    ∙ ap (before (position_at s at)) (positions_long s (at + 16) n (omega arith))
    ∙ ap (λ (k : ℕ). got (positions_at s at (suc n)) (drop k s)) e

pub positions_short : (s : List ℕ) (at n : ℕ) → at ≤ length s → length s < at + 16 * n → times read_position n (drop at s) ≡ bad
positions_short s at zero l h = absurd (omega arith)
positions_short s at (suc n) l h =
    ⊎_elim
    (λ k. ap (after n) (position_short s at k))
    (λ k. ap (after n) (position_at_lem s at k) ∙ ap (before (position_at s at)) (positions_short s (at + 16) n k (omega arith)))
    (lt_or_le (length s) (at + 16))

-- ---- a bend list, by its count and the place after that
module _ (s : List ℕ) (count first : ℕ) (number : read_number s ≡ got count (drop first s)) where
  counted_bends : read_bends s ≡ times read_position count (drop first s)
  counted_bends = ap (λ (r : Read ℕ). and_then r λ n t. times read_position n t) number

  pub bends_long : first + 16 * count ≤ length s → read_bends s ≡ got (positions_at s first count) (drop (first + 16 * count) s)
  bends_long h = counted_bends ∙ positions_long s first count h

  pub bends_short : first ≤ length s → length s < first + 16 * count → read_bends s ≡ bad
  bends_short l h = counted_bends ∙ positions_short s first count l h

  pub listed_long : first + 16 * count ≤ length s → bend_list_in s ≡ done (count, first, first + 16 * count)
  listed_long h =
      let l : length (positions_at s first count) ≡ count = positions_length s first count in
      let d : length (drop (first + 16 * count) s) ≡ length s - (first + 16 * count) = length-drop (first + 16 * count) s in
      let e : length s - length (drop (first + 16 * count) s) ≡ first + 16 * count = omega arith in
      let f : length s - length (drop (first + 16 * count) s) - 16 * length (positions_at s first count) ≡ first = omega arith in
      ap (listed (length s)) (bends_long h) ∙ (λ i. done (l i, f i, e i))

  pub listed_short : first ≤ length s → length s < first + 16 * count → bend_list_in s ≡ no 2
  listed_short l h = ap (listed (length s)) (bends_short l h)

pub listed_none : (s : List ℕ) → read_number s ≡ bad → bend_list_in s ≡ no 2
listed_none s e = ap (λ (r : Read ℕ). listed (length s) (and_then r λ n t. times read_position n t)) e

-- ---- what the answer says of the bytes
done_three : (n f e m g h : ℕ) → ◌≡◌ {A = Said (ℕ × ℕ × ℕ)} (done (n, f, e)) (done (m, g, h)) → (n ≡ m) × (f ≡ g) × (e ≡ h)
done_three n f e m g h p =
    let q = done_one (n, f, e) (m, g, h) p in
    (ap (λ z. z.0) q, ap (λ z. z.1) q, ap (λ z. z.2) q)

pub record Bends (s : List ℕ) (n first end : ℕ) : Type 0 where
  pub read : read_bends s ≡ got (positions_at s first n) (drop end s)
  pub ends : end ≡ first + 16 * n
  pub fits : end ≤ length s

pub listed_in : (s : List ℕ) (n first end : ℕ) → bend_list_in s ≡ done (n, first, end) → Bends s n first end
listed_in s n first end e = go (read_number s) refl
  where
    long : (m f : ℕ) → read_number s ≡ got m (drop f s) → f + 16 * m ≤ length s → Bends s n first end
    long m f q h =
        let p = done_three m f (f + 16 * m) n first end (sym (listed_long s m f q h) ∙ e) in
        let a = p.0 in
        let b = p.1 in
        let c = p.2 in
        record {
          read = bends_long s m f q h ∙ (λ i. got (positions_at s (b i) (a i)) (drop (c i) s));
          ends = omega arith;
          fits = omega arith;
        }

    go : (r : Read ℕ) → read_number s ≡ r → Bends s n first end
    go (got m t) q =
        let l = read_left s t 0 m q in
        let f : ℕ = length s - length t in
        let w : read_number s ≡ got m (drop f s) = q ∙ ap (got m) l.0 in
        ⊎_elim
        (λ h. absurd (not_done 2 (n, first, end) (sym (listed_short s m f w (omega arith) h) ∙ e)))
        (λ h. long m f w h)
        (lt_or_le (length s) (f + 16 * m))
    go bad q = absurd (not_done 2 (n, first, end) (sym (listed_none s q) ∙ e))

pub malformed_in : (s : List ℕ) → bend_list_in s ≡ no 2 → read_bends s ≡ bad
malformed_in s e = go (read_bends s) e
  where
    go : (r : Read (List Position)) → listed (length s) r ≡ no 2 → r ≡ bad
    go (got bs t) p = absurd (not_done 2 (length bs, length s - length t - 16 * length bs, length s - length t) (sym p))
    go bad p = refl

-- ---- bytes and bends
pub bends_back : (bs : List Position) (t : List ℕ) → Each FloatFits bs → length bs < numbers_end → read_bends (bend_bytes bs ++ t) ≡ got bs t
bends_back bs t h l = counted_back read_position position_bytes FloatFits (λ p f u. read_position_lem p u f) bs h l t

pub bends_from : (s t : List ℕ) (bs : List Position) → Bytes s → read_bends s ≡ got bs t → T (all within bs) → (s ≡ bend_bytes bs ++ t) × (length bs < numbers_end)
bends_from s t bs B e h = counted_from read_position position_bytes (λ p. T (within p)) position_read s t bs B e (each_all within bs h)
