-- What a reader leaves is an end of the bytes that it was handed. Assumes nothing.
use mathlib.Core.Path.{◌≡◌, refl, sym, ap, ◌∙◌}
use mathlib.Core.Bool.{Bool, true, false}
use mathlib.Core.List.{List, [], ◌∷◌, map}
use Prim.Native.Nat.{ℕ, zero, suc, ◌-◌, ◌≤◌}
use native.Mathlib.Omega.{arith}
use borrow.Author.Tests.{ne_eqb}
use lib.ListN.{length, drop}
use Rattle.number.specs.Readers.{Read, got, bad, and_then, times}
use Rattle.number.specs.Numbers.{read_number}
use Rattle.number.proofs.Laws.{not_bad, got_rest, read_left}
use Rattle.number.proofs.Counted.{times_cases}
use Rattle.complex.specs.Cells.{Halfedge, Cycle, lone, path}
use Rattle.complex.specs.Decode.{step_of, read_step, read_cycle}

-- t is what stands in s from a place on, which is not before `at`
pub record Rest (s : List ℕ) (at : ℕ) (t : List ℕ) : Type 0 where
  pub next : ℕ
  pub is : t ≡ drop next s
  pub after : at ≤ next
  pub fits : next ≤ length s

-- what r leaves of the bytes from a place on
abbrev pub Leaves : {A : Type 0} → (List ℕ → Read A) → Type 0
Leaves {A} r = (s : List ℕ) (at : ℕ) (x : A) (t : List ℕ) → at ≤ length s → r (drop at s) ≡ got x t → Rest s at t

rest_from : (s : List ℕ) (at : ℕ) (t u : List ℕ) (q : Rest s at t) → Rest s q.next u → Rest s at u
rest_from s at t u q p =
    let a = q.after in
    let b = p.after in
    record { next = p.next; is = p.is; after = omega arith; fits = p.fits }

pub leaves_number : Leaves read_number
leaves_number s at n t h e =
    let l = read_left s t at n e in
    let a = l.1 in
    record { next = length s - length t; is = l.0; after = omega arith; fits = omega arith }

-- a reader, and then a change of what it found
pub leaves_changed : {A B : Type 0} (r : List ℕ → Read A) (f : A → B) → Leaves r → Leaves (λ s. and_then (r s) λ x t. got (f x) t)
leaves_changed {A} {B} r f L s at y t h e = go (r (drop at s)) refl e
  where
    go : (q : Read A) → r (drop at s) ≡ q → and_then q (λ x u. got (f x) u) ≡ got y t → Rest s at t
    go (got x u) g p = L s at x t h (g ∙ ap (got x) (got_rest (f x) y u t p))
    go bad g p = absurd (not_bad y t p)

pub leaves_times : {A : Type 0} (r : List ℕ → Read A) → Leaves r → (n : ℕ) → Leaves (times r n)
leaves_times r L zero s at xs t h e = record { next = at; is = sym (got_rest [] xs (drop at s) t e); after = omega arith; fits = h }
leaves_times r L (suc n) s at xs t h e =
    let c = times_cases r n (drop at s) t xs e in
    let q = L s at c.head c.between h c.one in
    rest_from s at c.between t q (leaves_times r L n s q.next c.tail t q.fits (ap (times r n) (sym q.is) ∙ c.others))

-- ---- cycles
pub cycle_none : (s : List ℕ) → read_number s ≡ bad → read_cycle s ≡ bad
cycle_none s e = rw e

pub cycle_lone : (s t : List ℕ) → read_number s ≡ got 0 t → read_cycle s ≡ and_then (read_number t) λ v u. got (lone v) u
cycle_lone s t e = rw e

-- after a length m, which is 0 or not
abbrev cycle_of : ℕ → List ℕ → Bool → Read Cycle
cycle_of m t b = elim b [
  | true ↦ and_then (read_number t) λ v u. got (lone v) u
  | false ↦ and_then (times read_step m t) λ hs u. got (path hs) u
]

pub cycle_path : (s t : List ℕ) (m : ℕ) → read_number s ≡ got m t → (m ≡ 0 → ⊥) → read_cycle s ≡ and_then (times read_step m t) λ hs u. got (path hs) u
cycle_path s t m e z = rw e (ap (cycle_of m t) (ne_eqb m 0 z))

pub leaves_cycle : Leaves read_cycle
leaves_cycle s at k t h e = go (read_number (drop at s)) refl
  where
    go : (q : Read ℕ) → read_number (drop at s) ≡ q → Rest s at t
    go (got zero u) f =
        let q = leaves_number s at 0 u h f in
        rest_from s at u t q
        (leaves_changed read_number lone leaves_number s q.next k t q.fits
        (ap (λ (v : List ℕ). and_then (read_number v) λ x w. got (lone x) w) (sym q.is) ∙ sym (cycle_lone (drop at s) u f) ∙ e))
    go (got (suc m) u) f =
        let q = leaves_number s at (suc m) u h f in
        rest_from s at u t q
        (leaves_changed (times read_step (suc m)) path (leaves_times read_step (leaves_changed read_number step_of leaves_number) (suc m)) s q.next k t q.fits
        (ap (λ (v : List ℕ). and_then (times read_step (suc m) v) λ x w. got (path x) w) (sym q.is)
        ∙ sym (cycle_path (drop at s) u (suc m) f (λ z. omega arith)) ∙ e))
    go bad f = absurd (not_bad k t (sym (cycle_none (drop at s) f) ∙ e))

-- the steps of a cycle are numbers
pub steps_read : (m : ℕ) (t : List ℕ) → times read_step m t ≡ and_then (times read_number m t) λ ns u. got (map step_of ns) u
steps_read zero t = refl
steps_read (suc m) t = go (λ u. steps_read m u) (read_number t)
  where
    after : (v : ℕ) (q : Read (List ℕ)) → and_then (and_then q λ ns w. got (map step_of ns) w) (λ hs w. got (step_of v ∷ hs) w) ≡ and_then
        (and_then q λ ns w. got (v ∷ ns) w) λ ns w. got (map step_of ns) w
    after v (got ns w) = refl
    after v bad = refl

    go : ((u : List ℕ) → times read_step m u ≡ and_then (times read_number m u) λ ns w. got (map step_of ns) w) → (q : Read ℕ) →
        and_then (and_then q λ n u. got (step_of n) u) (λ x u. and_then (times read_step m u) λ xs w. got (x ∷ xs) w)
        ≡ and_then (and_then q λ x u. and_then (times read_number m u) λ xs w. got (x ∷ xs) w) λ ns u. got (map step_of ns) u
    go rest (got v u) = ap (λ (r : Read (List Halfedge)). and_then r λ hs w. got (step_of v ∷ hs) w) (rest u) ∙ after v (times read_number m u)
    go rest bad = refl
