-- A cycle of a script, as the length and the numbers that it is spelled by. Assumes nothing.
use mathlib.Core.Path.{◌≡◌, refl, sym, ap, ◌∙◌}
use mathlib.Core.Bool.{true, ◌&&◌}
use mathlib.Core.List.{List, [], ◌∷◌, map}
use Prim.Native.Nat.{ℕ, zero, suc, ◌-◌, ◌≤◌}
use native.Mathlib.Omega.{arith}
use lib.ListN.{length, get_or, drop, length-map}
use Rattle.number.specs.Readers.{Read, got, bad, and_then, times}
use Rattle.number.specs.Numbers.{read_number}
use Rattle.number.proofs.Laws.{not_bad, got_thing, got_rest}
use Rattle.number.proofs.Counted.{times_cases, times_length}
use Rattle.complex.specs.Cells.{Halfedge, Cycle, lone, path}
use Rattle.complex.specs.Sound.{step_count}
use Rattle.complex.specs.Decode.{step_of, read_cycle}
use Rattle.store.specs.Sheet.{real, all_real}
use Rattle.store.specs.Places.{num_of, cycle_words}
use Rattle.store.specs.Edits.{places_of}
use Rattle.store.proofs.Encode.{words}
use Rattle.decode_parts.specs.Lists.{list_of, numbers_read, cycles_read, Reaches, Stand}
use Rattle.decode_parts.proofs.Rest.{leaves_number, leaves_times, cycle_none, cycle_lone, cycle_path, steps_read}

-- the cycle of m steps whose places hold ns
abbrev pub cycle_from : ℕ → List ℕ → Cycle
cycle_from zero ns = lone (get_or ns 0 0)
cycle_from (suc m) ns = path (map step_of ns)

-- ---- its parts
pub from_number : (m : ℕ) (ns : List ℕ) → length ns ≡ places_of 1 m → num_of (cycle_from m ns) ≡ m
from_number zero ns e = refl
from_number (suc m) ns e = length-map ns step_of ∙ e

pub from_places : (m : ℕ) (ns : List ℕ) → length ns ≡ places_of 1 m → cycle_words (cycle_from m ns) ≡ ns
from_places zero [] e = absurd (omega arith)
from_places zero (v ∷ []) e = refl
from_places zero (v ∷ w ∷ ns) e = absurd (omega arith)
from_places (suc m) ns e = words ns

pub from_size : (m : ℕ) (ns : List ℕ) → length ns ≡ places_of 1 m → step_count (cycle_from m ns) ≡ places_of 1 m
from_size zero ns e = refl
from_size (suc m) ns e = length-map ns step_of ∙ e

pub from_real : (m : ℕ) (ns : List ℕ) → length ns ≡ places_of 1 m → real (cycle_from m ns) ≡ true
from_real zero ns e = refl
from_real (suc m) [] e = absurd (omega arith)
from_real (suc m) (n ∷ ns) e = refl

-- ---- a cycle is read where its numbers are
pub cycle_numbers : (m : ℕ) (s t : List ℕ) → read_number s ≡ got m t → read_cycle s ≡ and_then (times read_number (places_of 1 m) t) λ ns u. got (cycle_from m ns) u
cycle_numbers zero s t e = cycle_lone s t e ∙ one (read_number t)
  where
    one : (q : Read ℕ) → and_then q (λ v u. got (lone v) u) ≡ and_then (and_then q λ v u. got (v ∷ []) u) λ ns u. got (lone (get_or ns 0 0)) u
    one (got v u) = refl
    one bad = refl
cycle_numbers (suc m) s t e =
    cycle_path s t (suc m) e (λ z. omega arith)
    ∙ ap (λ (q : Read (List Halfedge)). and_then q λ hs u. got (path hs) u) (steps_read (suc m) t)
    ∙ many (times read_number (suc m) t)
  where
    many : (q : Read (List ℕ)) → and_then (and_then q λ ns u. got (map step_of ns) u) (λ hs u. got (path hs) u) ≡ and_then q λ ns u. got (path (map step_of ns)) u
    many (got ns u) = refl
    many bad = refl

-- what a cycle that was read is made of
pub record Parts (m : ℕ) (t u : List ℕ) (k : Cycle) : Type 0 where
  pub numbers : List ℕ
  pub read : times read_number (places_of 1 m) t ≡ got numbers u
  pub is : k ≡ cycle_from m numbers
  pub size : length numbers ≡ places_of 1 m

pub cycle_parts : (m : ℕ) (s t u : List ℕ) (k : Cycle) → read_number s ≡ got m t → read_cycle s ≡ got k u → Parts m t u k
cycle_parts m s t u k e f = go (times read_number (places_of 1 m) t) refl (sym (cycle_numbers m s t e) ∙ f)
  where
    go : (q : Read (List ℕ)) → times read_number (places_of 1 m) t ≡ q → and_then q (λ ns v. got (cycle_from m ns) v) ≡ got k u → Parts m t u k
    go (got ns v) g p =
        let r : times read_number (places_of 1 m) t ≡ got ns u = g ∙ ap (got ns) (got_rest (cycle_from m ns) k v u p) in
        record { numbers = ns; read = r; is = sym (got_thing (cycle_from m ns) k v u p); size = times_length read_number (places_of 1 m) t u ns r }
    go bad g p = absurd (not_bad k u p)

pub cycle_size : (m : ℕ) (s t u : List ℕ) (k : Cycle) → read_number s ≡ got m t → read_cycle s ≡ got k u → step_count k ≡ places_of 1 m
cycle_size m s t u k e f = let p = cycle_parts m s t u k e f in ap step_count p.is ∙ from_size m p.numbers p.size

-- ---- no cycle that was read is empty
pub real_read : (s u : List ℕ) (k : Cycle) → read_cycle s ≡ got k u → real k ≡ true
real_read s u k f = go (read_number s) refl
  where
    go : (q : Read ℕ) → read_number s ≡ q → real k ≡ true
    go (got m t) e = let p = cycle_parts m s t u k e f in ap real p.is ∙ from_real m p.numbers p.size
    go bad e = absurd (not_bad k u (sym (cycle_none s e) ∙ f))

pub reals_read : (n : ℕ) (s t : List ℕ) (ks : List Cycle) → times read_cycle n s ≡ got ks t → all_real ks ≡ true
reals_read zero s t ks e = ap all_real (sym (got_thing [] ks s t e))
reals_read (suc n) s t ks e =
    let c = times_cases read_cycle n s t ks e in
    ap all_real c.whole ∙ (λ i. real_read s c.between c.head c.one i && reals_read n c.between t c.tail c.others i)

-- ---- one cycle at a place, of m steps, its numbers from `first` on
module _ (s : List ℕ) (at m first : ℕ) (number : read_number (drop at s) ≡ got m (drop first s)) where
  -- its numbers stand
  pub numbers_stand : first ≤ length s → Stand read_cycle s at 1 → Stand read_number s first (places_of 1 m)
  numbers_stand h stand = go (read_cycle (drop at s)) refl
    where
      go : (q : Read Cycle) → read_cycle (drop at s) ≡ q → Stand read_number s first (places_of 1 m)
      go (got k u) f =
          let p = cycle_parts m (drop at s) (drop first s) u k number f in
          let l = leaves_times read_number leaves_number (places_of 1 m) s first p.numbers u h p.read in
          record {
            end = l.next;
            reach = record { read = p.read ∙ (λ i. got (list_of (sym p.read i)) (l.is i)); after = l.after; fits = l.fits };
          }
      go bad f = absurd (not_bad (cycles_read s at 1) (drop stand.end s) (sym (ap one f) ∙ stand.reach.read))
        where
          one : Read Cycle → Read (List Cycle)
          one q = and_then q λ k u. got (k ∷ []) u

  -- and where they end, it ends
  module _ (next : ℕ) (far : at ≤ first) (reach : Reaches read_number s first (places_of 1 m) next) where
    the_cycle : times read_cycle 1 (drop at s) ≡ got (cycle_from m (numbers_read s first (places_of 1 m)) ∷ []) (drop next s)
    the_cycle =
        ap (λ (q : Read Cycle). and_then q λ k u. got (k ∷ []) u) (cycle_numbers m (drop at s) (drop first s) number)
        ∙ ap (λ (q : Read (List ℕ)). and_then (and_then q λ ns u. got (cycle_from m ns) u) λ k u. got (k ∷ []) u) reach.read

    pub cycle_is : cycles_read s at 1 ≡ cycle_from m (numbers_read s first (places_of 1 m)) ∷ []
    cycle_is = ap list_of the_cycle

    pub cycle_reach : Reaches read_cycle s at 1 next
    cycle_reach =
        let a = reach.after in
        record { read = the_cycle ∙ ap (λ (ks : List Cycle). got ks (drop next s)) (sym cycle_is); after = omega arith; fits = reach.fits }
