-- Bytes put one after another: a run after a run, one element more of a list, and into a part of a buffer. Assumes nothing.
use Prim.Native.Nat.{ℕ, zero, suc, ◌+◌, ◌-◌, ◌<◌, ◌≤◌}
use mathlib.Core.Path.{◌≡◌, refl, ap, ap₂, sym, ◌∙◌, subst}
use mathlib.Core.List.{List, [], ◌∷◌, ◌++◌, append-nil, append_assoc}
use mathlib.Core.Bool.{Bool}
use native.Mathlib.Omega.{arith}
use native.Mathlib.Numerals.{add-one}
use lib.Dec.{T}
use lib.Ieee.Fits.{and_l, and_r}
use lib.ListN.{length, take, drop, get_or, length-append, length-drop, drop_of_length-le}
use lib.Seq.{sets, length-sets, take-suc, take-add, take_all, length-take-le, get_or-take, get_or-drop, drop-drop, sets-eq}
use borrow.Rule.Slice.PartMut.{put_mid}
use lib.Ieee.{Float, nan}
use Rattle.number.specs.Readers.{spread, all}
use Rattle.coordinate.specs.declared.Position.{Position}
use Rattle.number.specs.Numbers.{spell}
use Rattle.coordinate.specs.Positions.{position_bytes}
use Rattle.bends.specs.Bends.{bend_bytes}
use Rattle.complex.specs.Cells.{origin}
use Rattle.coordinate.proofs.Bytes.{sets_append}
use Rattle.store.proofs.Encode.{flat_append}
use Rattle.file_parts.specs.Parts.{BytesPut, run_of, positions_from, Bends}

-- ---- a run of bytes after a run
pub put_of : {l m : List ℕ} {at p : ℕ} (xs : List ℕ) → p ≡ at + length xs → m ≡ sets l at xs → BytesPut l at xs m p
put_of xs e f = record { next = e; bytes = f }

pub put_then : {l m n : List ℕ} {at p q : ℕ} (xs ys : List ℕ) → BytesPut l at xs m p → BytesPut m p ys n q → BytesPut l at (xs ++ ys) n q
put_then {l} {m} {n} {at} {p} {q} xs ys a b =
    record {
      next = let u = a.next in let v = b.next in let w = length-append xs ys in omega arith;
      bytes = b.bytes ∙ ap₂ (λ (z : List ℕ) (k : ℕ). sets z k ys) a.bytes a.next ∙ sets_append l at xs ys;
    }

pub put_as : {l m xs ys : List ℕ} {at p : ℕ} → xs ≡ ys → BytesPut l at xs m p → BytesPut l at ys m p
put_as {l} {m} {xs} {ys} {at} {p} e a = subst (λ (z : List ℕ). BytesPut l at z m p) e a

pub put_none : (l : List ℕ) (at : ℕ) → BytesPut l at [] l at
put_none l at = record { next = omega arith; bytes = refl }

pub put_size : {l m xs : List ℕ} {at p : ℕ} → BytesPut l at xs m p → length m ≡ length l
put_size {l} {m} {xs} {at} {p} a = ap length a.bytes ∙ length-sets l at xs

-- there is room for the first run, and for the next after it
pub room_first : (l : List ℕ) (at : ℕ) (xs ys : List ℕ) → at + length (xs ++ ys) ≤ length l → at + length xs ≤ length l
room_first l at xs ys h = let w = length-append xs ys in omega arith

pub room_then : {m : List ℕ} {p : ℕ} (l : List ℕ) (at : ℕ) (xs ys : List ℕ) → BytesPut l at xs m p → at + length (xs ++ ys) ≤ length l
    → p + length ys ≤ length m
room_then {m} {p} l at xs ys a h =
    let w = length-append xs ys in
    let u = a.next in
    let v = put_size a in
    omega arith

-- a head of two parts and what follows it, from the first place on
module _ (l xs ys zs : List ℕ) (h : length (xs ++ (ys ++ zs)) ≤ length l) where
  joined : 0 + length ((xs ++ ys) ++ zs) ≤ length l
  joined = let e = ap length (append_assoc xs ys zs) in omega arith

  pub room_head : 0 + length (xs ++ ys) ≤ length l
  room_head = room_first l 0 (xs ++ ys) zs joined

  pub room_tail : {m : List ℕ} {p : ℕ} → BytesPut l 0 (xs ++ ys) m p → p + length zs ≤ length m
  room_tail a = room_then l 0 (xs ++ ys) zs a joined

  pub put_tail : {m n : List ℕ} {p q : ℕ} → BytesPut l 0 (xs ++ ys) m p → BytesPut m p zs n q → BytesPut l 0 (xs ++ (ys ++ zs)) n q
  put_tail a b = put_as (append_assoc xs ys zs) (put_then (xs ++ ys) zs a b)

-- ---- one element more of a list
module _ {A : Type 0} (f : A → List ℕ) (l : List A) where
  pub flat_more : (i : ℕ) (z : A) → i < length l → spread f (take (i + 1) l) ≡ spread f (take i l) ++ f (get_or l i z)
  flat_more i z h =
      rw (add-one, take-suc l i z h) (flat_append f (take i l) (get_or l i z ∷ []) ∙ ap (λ (r : List ℕ). spread f (take i l) ++ r) (append-nil (f (get_or l i z))))

  pub flat_le : (i : ℕ) → i ≤ length l → length (spread f (take i l)) ≤ length (spread f l)
  flat_le i h =
      let k : length l ≡ i + (length l - i) = omega arith in
      let e : take (length l) l ≡ take i l ++ take (length l - i) (drop i l) = ap (λ (n : ℕ). take n l) k ∙ take-add i (length l - i) l in
      let g : length (spread f l) ≡ length (spread f (take i l)) + length (spread f (take (length l - i) (drop i l))) =
      ap (λ (k : List A). length (spread f k)) (sym (take_all (length l) l (omega arith)) ∙ e)
      ∙ ap length (flat_append f (take i l) (take (length l - i) (drop i l)))
      ∙ length-append (spread f (take i l)) (spread f (take (length l - i) (drop i l)))
      in
      omega arith

  -- the first i elements stand at a place, and bs are the bytes of the next
  module _ (o out : List ℕ) (at p i : ℕ) (h : i < length l) (a : BytesPut o at (spread f (take i l)) out p) (z : A) (bs : List ℕ)
      (e : f (get_or l i z) ≡ bs) where
    more : spread f (take (i + 1) l) ≡ spread f (take i l) ++ bs
    more = flat_more i z h ∙ ap (λ (r : List ℕ). spread f (take i l) ++ r) e

    pub put_turn : {out' : List ℕ} {p' : ℕ} → BytesPut out p bs out' p' → BytesPut o at (spread f (take (i + 1) l)) out' p'
    put_turn b = put_as (sym more) (put_then (spread f (take i l)) bs a b)

    pub put_room : at + length (spread f l) ≤ length o → p + length bs ≤ length out
    put_room r =
        let m = ap length more in
        let k = flat_le (i + 1) (omega arith) in
        room_then o at (spread f (take i l)) bs a (omega arith)

  pub put_all : {o out : List ℕ} {at p : ℕ} (i : ℕ) → length l ≤ i → BytesPut o at (spread f (take i l)) out p → BytesPut o at (spread f l) out p
  put_all i h a = put_as (ap (spread f) (take_all i l h)) a

-- ---- a part of a list
module _ {A : Type 0} (from n : ℕ) (l : List A) where
  pub run_length : from + n ≤ length l → length (run_of from n l) ≡ n
  run_length h = length-take-le n (drop from l) (omega (arith, length-drop from l))

  pub run_get : (i : ℕ) (z : A) → i < n → get_or (run_of from n l) i z ≡ get_or l (from + i) z
  run_get i z h = get_or-take n (drop from l) i z h ∙ get_or-drop from l i z

pub all_get : {A : Type 0} (p : A → Bool) (l : List A) (i : ℕ) (z : A) → T (all p l) → i < length l → T (p (get_or l i z))
all_get p [] i z t h = absurd (omega arith)
all_get p (x ∷ l) zero z t h = and_l (p x) (all p l) t
all_get p (x ∷ l) (suc i) z t h = all_get p l i z (and_r (p x) (all p l) t) (omega arith)

-- ---- a buffer of which the part from a place on was lent, and came back with bs at its front
pub put_part : (l bs part : List ℕ) (at r : ℕ) → at + length bs ≤ length l → BytesPut (take (length l - at) (drop at l)) 0 bs part r
    → BytesPut l at bs (put_mid at (length l - at) l part) (at + r)
put_part l bs part at r h a =
    let d = length-drop at l in
    let same : at + (0 + length bs) ≡ at + length bs = omega arith in
    let whole : take (length l - at) (drop at l) ≡ drop at l = take_all (length l - at) (drop at l) (omega arith) in
    let none : drop (length l - at) (drop at l) ≡ [] = drop_of_length-le (drop at l) {i = length l - at} (omega arith) in
    let front : part ≡ bs ++ drop (at + length bs) l =
    a.bytes ∙ ap (λ (z : List ℕ). sets z 0 bs) whole ∙ sets-eq bs (drop at l) 0 (omega arith)
    ∙ ap (λ (z : List ℕ). bs ++ z) (drop-drop (0 + length bs) at l ∙ ap (λ (n : ℕ). drop n l) same)
    in
    record {
      next = let e = a.next in omega arith;
      bytes =
          ap₂ (λ (x y : List ℕ). take at l ++ (x ++ y)) front none
          ∙ ap (λ (z : List ℕ). take at l ++ z) (append-nil (bs ++ drop (at + length bs) l))
          ∙ sym (append_assoc (take at l) bs (drop (at + length bs) l))
          ∙ sym (sets-eq bs l at h);
    }

-- ---- positions in two arrays
pub length_points : (xs ys : List Float) → length xs ≡ length ys → length (positions_from xs ys) ≡ length xs
length_points [] ys e = refl
length_points (x ∷ xs) [] e = absurd (omega arith)
length_points (x ∷ xs) (y ∷ ys) e = ap suc (length_points xs ys (omega arith))

pub points_get : (xs ys : List Float) (i : ℕ) (z : Position) (x₀ y₀ : Float) → i < length xs → i < length ys
    → get_or (positions_from xs ys) i z ≡ record { x = get_or xs i x₀; y = get_or ys i y₀ }
points_get [] ys i z x₀ y₀ h k = absurd (omega arith)
points_get (x ∷ xs) [] i z x₀ y₀ h k = absurd (omega arith)
points_get (x ∷ xs) (y ∷ ys) zero z x₀ y₀ h k = refl
points_get (x ∷ xs) (y ∷ ys) (suc i) z x₀ y₀ h k = points_get xs ys i z x₀ y₀ (omega arith) (omega arith)

module _ (xs ys : List Float) (from n : ℕ) (b : Bends xs ys from n) where
  bends_length : length (positions_from xs ys) ≡ 2048
  bends_length = length_points xs ys (b.sizes.0 ∙ sym b.sizes.1) ∙ b.sizes.0

  pub bends_size : length (run_of from n (positions_from xs ys)) ≡ n
  bends_size = run_length from n (positions_from xs ys) (let r = b.room in let z = bends_length in omega arith)

  pub bend_at : (i : ℕ) → i < n → get_or (run_of from n (positions_from xs ys)) i origin ≡ record { x = get_or xs (from + i) nan; y = get_or ys (from + i) nan }
  bend_at i h =
      let r = b.room in
      let u = b.sizes.0 in
      let v = b.sizes.1 in
      run_get from n (positions_from xs ys) i origin h ∙ points_get xs ys (from + i) origin nan nan (omega arith) (omega arith)

  -- a bend list: the count and the positions
  pub bends_bytes : bend_bytes (run_of from n (positions_from xs ys)) ≡ spell n ++ spread position_bytes (run_of from n (positions_from xs ys))
  bends_bytes = ap (λ (k : ℕ). spell k ++ spread position_bytes (run_of from n (positions_from xs ys))) bends_size
