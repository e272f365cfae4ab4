-- The cycles of a face put into arrays, one after another. Assumes nothing.
use Prim.Native.Nat.{ℕ, ◌+◌, ◌≤◌, ◌<◌}
use native.Mathlib.Omega.{arith}
use mathlib.Core.Path.{◌≡◌, refl, sym, ap, ◌∙◌}
use mathlib.Core.Bool.{true}
use mathlib.Core.List.{List, [], ◌∷◌, ◌++◌, map}
use lib.ListN.{length, drop, length-append, length-map}
use Rattle.number.specs.Readers.{Read, got, and_then, times, spread}
use Rattle.number.proofs.Laws.{got_thing, got_rest}
use Rattle.number.proofs.Counted.{times_cases, times_length}
use Rattle.complex.specs.Cells.{Cycle}
use Rattle.complex.specs.Decode.{read_cycle}
use Rattle.store.specs.Sheet.{all_real}
use Rattle.store.specs.Places.{num_of, cycle_words}
use Rattle.store.proofs.Encode.{flat_append}
use Rattle.store.proofs.Lists.{map_append}
use Rattle.store.proofs.Grow.{real_append}
use Rattle.file_read.specs.declared.Used.{Used}
use Rattle.file_read.specs.Filling.{Added, CyclesIn, CyclesOver}
use Rattle.file_read.proofs.Reading.{Reading, reading_start, reading_turn, reading_end, reading_ahead}
use Rattle.file_read.proofs.Adding.{added_none, added_then}

-- ---- one thing
record One {A : Type 0} (r : List ℕ → Read A) (s t : List ℕ) (xs : List A) : Type 0 where
  thing : A
  only : xs ≡ thing ∷ []
  read : r s ≡ got thing t

one_of : {A : Type 0} (r : List ℕ → Read A) (s t : List ℕ) (xs : List A) → times r 1 s ≡ got xs t → One r s t xs
one_of r s t xs e =
    let c = times_cases r 0 s t xs e in
    record {
      thing = c.head;
      only = c.whole ∙ ap (λ (l : List _). c.head ∷ l) (sym (got_thing [] c.tail c.between t c.others));
      read = c.one ∙ ap (got c.head) (got_rest [] c.tail c.between t c.others);
    }

-- ---- of n cycles i were read and put into the arrays
pub record Loading (s : List ℕ) (at n : ℕ) (counts₀ steps₀ : List ℕ) (used₀ : Used) (i p : ℕ) (counts steps : List ℕ) (used : Used) : Type 0 where
  pub cycles : List Cycle
  pub reading : Reading read_cycle s at n i p cycles
  pub real : all_real cycles ≡ true
  pub counted : Added counts₀ used₀.cycles (map num_of cycles) counts
  pub stepped : Added steps₀ used₀.steps (spread cycle_words cycles) steps
  pub same_bends : used.bends ≡ used₀.bends
  pub more_cycles : used.cycles ≡ used₀.cycles + length cycles
  pub more_steps : used.steps ≡ used₀.steps + length (spread cycle_words cycles)

pub loading_start : (s : List ℕ) (at n : ℕ) (counts steps : List ℕ) (used : Used) → at ≤ length s → used.cycles ≤ length counts → used.steps ≤ length steps
    → Loading s at n counts steps used 0 at counts steps used
loading_start s at n counts steps used h k l =
    record {
      cycles = [];
      reading = reading_start read_cycle s at n h;
      real = refl;
      counted = added_none counts used.cycles k;
      stepped = added_none steps used.steps l;
      same_bends = refl;
      more_cycles = omega arith;
      more_steps = omega arith;
    }

-- more cycles than there is room for
pub too_many : (s : List ℕ) (n : ℕ) (used : Used) → 512 < used.cycles + n → CyclesOver (times read_cycle n s) used
too_many s n used h ks t e k l = let m = times_length read_cycle n s t ks e in omega arith

module _ (s : List ℕ) (at n : ℕ) (counts₀ steps₀ : List ℕ) (used₀ : Used) (i p : ℕ) (counts steps : List ℕ) (used : Used)
    (L : Loading s at n counts₀ steps₀ used₀ i p counts steps used) where
  pub loading_sizes : i < n → used₀.cycles + n ≤ length counts₀ → (used.cycles < length counts₀) × (used.steps ≤ length steps₀)
  loading_sizes h k =
      let c = L.reading.count in
      let m = L.more_cycles in
      let t = L.more_steps in
      (omega arith, omega (arith, L.stepped.room))

  pub loading_turn : (counts' steps' : List ℕ) (next : ℕ) (used' : Used) → i < n
      → CyclesIn (times read_cycle 1 (drop p s)) s counts steps used counts' steps' next used'
      → Loading s at n counts₀ steps₀ used₀ (i + 1) next counts' steps' used'
  loading_turn counts' steps' next used' h C =
      let ks = L.cycles in
      let o = one_of read_cycle (drop p s) (drop next s) C.cycles C.read in
      let zs = C.cycles in
      let only = o.only in
      let lc = ap length only in
      let a = length-append ks zs in
      let b = ap length (flat_append cycle_words ks zs) ∙ length-append (spread cycle_words ks) (spread cycle_words zs) in
      let m = L.more_cycles in
      let t = L.more_steps in
      let nc = C.more_cycles in
      let nt = C.more_steps in
      record {
        cycles = ks ++ zs;
        reading = rw only (reading_turn read_cycle s at n i p ks L.reading o.thing next h o.read C.inside);
        real = real_append ks zs L.real C.real;
        counted = rw (map_append num_of ks zs)
            (added_then used.cycles (m ∙ ap (λ (k : ℕ). used₀.cycles + k) (sym (length-map ks num_of))) L.counted C.counted);
        stepped = rw (flat_append cycle_words ks zs) (added_then used.steps t L.stepped C.stepped);
        same_bends = C.same_bends ∙ L.same_bends;
        more_cycles = omega arith;
        more_steps = omega arith;
      }

  pub loading_over : i < n → CyclesOver (times read_cycle 1 (drop p s)) used → CyclesOver (times read_cycle n (drop at s)) used₀
  loading_over h over ks t e k l =
      let a = reading_ahead read_cycle s at n i p L.cycles L.reading ks t h e in
      let x = a.next in
      let w = a.later in
      let z : ks ≡ L.cycles ++ ((x ∷ []) ++ w) = a.whole in
      let c : length ks ≡ length L.cycles + (1 + length w) = ap length z ∙ simp length-append (omega arith) in
      let d : length (spread cycle_words ks) ≡ length (spread cycle_words L.cycles) + (length (spread cycle_words (x ∷ [])) + length (spread cycle_words w)) =
      ap (λ (q : List Cycle). length (spread cycle_words q)) z
      ∙ ap length (flat_append cycle_words L.cycles ((x ∷ []) ++ w) ∙ ap (λ (q : List ℕ). spread cycle_words L.cycles ++ q)
      (flat_append cycle_words (x ∷ []) w))
      ∙ length-append (spread cycle_words L.cycles) (spread cycle_words (x ∷ []) ++ spread cycle_words w)
      ∙ ap (λ (q : ℕ). length (spread cycle_words L.cycles) + q) (length-append (spread cycle_words (x ∷ [])) (spread cycle_words w))
      in
      let m = L.more_cycles in
      let y = L.more_steps in
      over (x ∷ []) a.rest (ap (λ (q : Read Cycle). and_then q λ b u. got (b ∷ []) u) a.read) (omega arith) (omega arith)

  pub loading_end : i ≡ n → CyclesIn (times read_cycle n (drop at s)) s counts₀ steps₀ used₀ counts steps p used
  loading_end e =
      record {
        cycles = L.cycles;
        read = reading_end read_cycle s at n i p L.cycles L.reading e;
        inside = L.reading.inside;
        real = L.real;
        counted = L.counted;
        stepped = L.stepped;
        same_bends = L.same_bends;
        more_cycles = L.more_cycles;
        more_steps = L.more_steps;
      }
