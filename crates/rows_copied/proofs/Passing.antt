-- The cycles in number arrays, changed one after another. Assumes nothing.
use Prim.Native.Nat.{ℕ, zero, suc, ◌+◌, ◌-◌, ◌<◌, ◌≤◌}
use mathlib.Core.Path.{◌≡◌, refl, ap, ap₂, sym, ◌∙◌}
use mathlib.Core.List.{List, [], ◌∷◌, ◌++◌, map, append-nil}
use native.Mathlib.Omega.{arith}
use lib.ListN.{length, take, drop, get_or, length-append, length-drop, take-append-drop, drop_of_length-le}
use lib.Seq.{take-append-le, drop-append-le, drop-drop, drop_at, length-take-le}
use Rattle.complex.specs.Lists.{total}
use Rattle.complex.specs.Cells.{Cycle, path}
use Rattle.complex.specs.Uses.{counting}
use Rattle.store.specs.View.{halfedge_of, width, width_sum, cycle_of, cycles_from}
use Rattle.rows_sides.proofs.Passing.{cycles_more, from_more, total_more}
use Rattle.rows_copied.specs.Copying.{Changed}

cycle_within : (n : ℕ) (x r : List ℕ) → width n ≤ length x → cycle_of n (x ++ r) ≡ cycle_of n x
cycle_within zero [] r h = absurd (omega arith)
cycle_within zero (y ∷ x) r h = refl
cycle_within (suc n) x r h = ap (λ (l : List ℕ). path (map halfedge_of l)) (take-append-le (suc n) x r h)

cycles_within : (ns x r : List ℕ) → width_sum ns ≤ length x → cycles_from ns (x ++ r) ≡ cycles_from ns x
cycles_within [] x r h = refl
cycles_within (n ∷ ns) x r h =
    ap₂ (λ (k : Cycle) (ks : List Cycle). k ∷ ks) (cycle_within n x r (omega arith))
    (ap (cycles_from ns) (drop-append-le (width n) x r (omega arith)) ∙ cycles_within ns (drop (width n) x) r (simp length-drop (omega arith)))

-- ---- counting
module _ (uses : Cycle → ℕ) where
  module _ (f : ℕ → Cycle → Cycle) where
    counting_snoc : (k : ℕ) (ks : List Cycle) (x : Cycle) → counting uses f k (ks ++ (x ∷ [])) ≡ counting uses f k ks ++ (f (k + total uses ks) x ∷ [])
    counting_snoc k [] x = ap (λ (n : ℕ). f n x ∷ []) (omega arith)
    counting_snoc k (y ∷ ks) x =
        ap (λ (r : List Cycle). f k y ∷ r) (counting_snoc (k + uses y) ks x ∙ ap (λ (n : ℕ). counting uses f (k + uses y) ks ++ (f n x ∷ [])) (omega arith))

    -- the first j cycles are changed, the others are as they were
    pub record Passing (k₀ : ℕ) (ns st₀ : List ℕ) (j from k : ℕ) (st : List ℕ) : Type 0 where
      pub from_is : from ≡ width_sum (take j ns)
      pub size : length st ≡ length st₀
      pub rest : drop from st ≡ drop from st₀
      pub front : cycles_from (take j ns) st ≡ counting uses f k₀ (cycles_from (take j ns) st₀)
      pub count : k ≡ k₀ + total uses (cycles_from (take j ns) st₀)
      pub few : k ≤ k₀ + from

    pub passing_start : (k : ℕ) (ns st : List ℕ) → Passing k ns st 0 0 k st
    passing_start k ns st = record { from_is = refl; size = refl; rest = refl; front = refl; count = omega arith; few = omega arith }

    module _ (k₀ : ℕ) (ns st₀ : List ℕ) (j from k : ℕ) (st : List ℕ) (p : Passing k₀ ns st₀ j from k st) (h : j < length ns) (c : ℕ) (e : c ≡ get_or ns j 0)
        (room : from + width c ≤ length st) (l st' : List ℕ) (es : st' ≡ take from st ++ l) (ch : Changed (f k) c (drop from st) l) where
      first : length (take from st) ≡ from
      first = length-take-le from st (omega arith)

      after : drop from st' ≡ l
      after = ap (drop from) es ∙ drop_at (take from st) l from first

      before : cycles_from (take j ns) st' ≡ cycles_from (take j ns) st
      before =
          let w : width_sum (take j ns) ≤ length (take from st) = omega (arith, p.from_is, first) in
          ap (cycles_from (take j ns)) es ∙ cycles_within (take j ns) (take from st) l w ∙ sym (cycles_within (take j ns) (take from st) (drop from st) w)
          ∙ ap (cycles_from (take j ns)) (take-append-drop from st)

      pub passing_turn : (m w : ℕ) → m ≡ uses (cycle_of c (drop from st)) → w ≡ width c → m ≤ width c → Passing k₀ ns st₀ (j + 1) (from + w) (k + m) st'
      passing_turn m w em ew few =
          let there : cycle_of c (drop from st) ≡ cycle_of c (drop from st₀) = ap (cycle_of c) p.rest in
          record {
            from_is = ap (λ (a : ℕ). from + a) ew ∙ from_more ns j from c h p.from_is e;
            size = ap length es ∙ length-append (take from st) l ∙ ap₂ ◌+◌ first (ch.size ∙ length-drop from st) ∙ (let z = p.size in omega arith);
            rest =
                ap (λ (a : ℕ). drop (from + a) st') ew ∙ sym (drop-drop (width c) from st') ∙ ap (drop (width c)) after ∙ ch.rest
                ∙ ap (drop (width c)) p.rest
                ∙ drop-drop (width c) from st₀ ∙ ap (λ (a : ℕ). drop (from + a) st₀) (sym ew);
            front =
                cycles_more ns j from c st' h p.from_is e
                ∙ ap₂ (λ (ks : List Cycle) (x : Cycle). ks ++ (x ∷ [])) (before ∙ p.front) (ap (cycle_of c) after ∙ ch.cycle ∙ ap₂ f p.count there)
                ∙ sym (ap (counting uses f k₀) (cycles_more ns j from c st₀ h p.from_is e)
                ∙ counting_snoc k₀ (cycles_from (take j ns) st₀) (cycle_of c (drop from st₀)));
            count =
                ap₂ ◌+◌ p.count (em ∙ ap uses there)
                ∙ (let t = total_more uses ns j from c st₀ h p.from_is e in omega arith);
            few = omega (arith, p.few, ew);
          }

-- ---- the part of an array from a place on
pub part_put : (from : ℕ) (st l : List ℕ) → take from st ++ (l ++ drop (length st - from) (drop from st)) ≡ take from st ++ l
part_put from st l =
    ap (λ (r : List ℕ). take from st ++ (l ++ r)) (drop_of_length-le (drop from st) {i = length st - from} (omega (arith, length-drop from st)))
    ∙ ap (λ (r : List ℕ). take from st ++ r) (append-nil l)
