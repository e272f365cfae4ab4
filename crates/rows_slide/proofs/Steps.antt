-- The steps of cycles that stay, moved in runs with their cycles. Assumes nothing.
use Prim.Native.Nat.{ℕ, ◌+◌, ◌≤◌}
use native.Mathlib.Omega.{arith}
use mathlib.Core.Path.{◌≡◌, refl, sym, ap, ◌∙◌, subst}
use mathlib.Core.Bool.{Bool}
use mathlib.Core.List.{List}
use lib.ListN.{length, take, drop}
use lib.Seq.{length-take-le, take_all}
use Rattle.complex.specs.Lists.{total}
use Rattle.complex.specs.Sound.{cells_most, cycles_most, steps_most}
use Rattle.store.specs.Edits.{places_of, spread_flags, CyclesKept}
use Rattle.rows_spans.proofs.Splicing.{run_take}
use Rattle.rows_slide.specs.declared.Stretch.{Stretch}
use Rattle.rows_slide.specs.Stretches.{StretchAt}
use Rattle.rows_slide.proofs.Sliding.{drop_more}
use Rattle.rows_slide.proofs.Runs.{Places, Turned, spread_length, places_turn, places_end, both_first, stretch_turn, stretch_end}

-- the steps of the cycles of the first rows; at is where the cycles of the next row begin, u where their steps do, and v where these go
abbrev pub StepsOf : List Bool → List ℕ → List ℕ → List ℕ → ℕ → ℕ → ℕ → List ℕ → Type 0
StepsOf fs cs ks₀ st₀ at u v st = Places 1 (spread_flags 0 fs cs) (take (total (places_of 0) cs) ks₀) st₀ at u v st

module _ (flags : List Bool) (counts : List ℕ) (n : ℕ) (hn : n ≤ cells_most) (lf : length flags ≡ cells_most) (lc : length counts ≡ cells_most)
    (ks₀ st₀ : List ℕ) (hk : total (places_of 0) (take n counts) ≤ cycles_most) (lk : length ks₀ ≡ cycles_most)
    (hs : total (places_of 1) (take (total (places_of 0) (take n counts)) ks₀) ≤ steps_most) (ls : length st₀ ≡ steps_most) where
  abbrev all : ℕ
  all = total (places_of 0) (take n counts)

  abbrev spread : List Bool
  spread = spread_flags 0 (take n flags) (take n counts)

  cycles_length : length (take (total (places_of 0) (take n counts)) ks₀) ≡ total (places_of 0) (take n counts)
  cycles_length = length-take-le (total (places_of 0) (take n counts)) ks₀ (omega arith)

  spread_all : length (spread_flags 0 (take n flags) (take n counts)) ≡ length (take (total (places_of 0) (take n counts)) ks₀)
  spread_all = spread_length 0 (take n flags) (take n counts) (both_first flags counts n hn lf lc) ∙ sym cycles_length

  module _ (i at to : ℕ) (ks : List ℕ) (p : Places 0 (take n flags) (take n counts) ks₀ i at to ks) (u v : ℕ) (st : List ℕ)
      (w : StepsOf (take n flags) (take n counts) ks₀ st₀ at u v st) (s : Stretch) (q : StretchAt flags counts n i s) where
    pub steps_turn : (x y : ℕ) → x ≡ total (places_of 1) (take s.gone (drop at ks)) → y ≡ total (places_of 1) (take s.stay (drop (at + s.gone) ks))
        → Turned 1 (spread_flags 0 (take n flags) (take n counts)) (take (total (places_of 0) (take n counts)) ks₀) st₀ u v st (at + s.gone + s.stay) x y
    steps_turn x y ex ey =
        let r = stretch_turn flags counts n hn lf lc ks₀ cycles_most hk lk i at to ks p s q in
        let k = r.within in
        places_turn 1 spread (take all ks₀) spread_all st₀ (omega arith) at u v st w s.gone s.stay (at + s.gone) (at + s.gone + s.stay) refl refl
        (omega (arith, cycles_length)) r.dead r.living x y
        (ex ∙ ap (λ (l : List ℕ). total (places_of 1) (take s.gone l)) p.packing.rest
        ∙ ap (total (places_of 1)) (sym (run_take s.gone at all ks₀ (omega arith))))
        (ey ∙ ap (λ (l : List ℕ). total (places_of 1) (take s.stay l)) (drop_more at (at + s.gone) ks ks₀ (omega arith) p.packing.rest)
        ∙ ap (total (places_of 1)) (sym (run_take s.stay (at + s.gone) all ks₀ (omega arith))))

  pub steps_end : (i at to : ℕ) (ks : List ℕ) → i ≡ n → Places 0 (take n flags) (take n counts) ks₀ i at to ks → (u v : ℕ) (st : List ℕ)
      → StepsOf (take n flags) (take n counts) ks₀ st₀ at u v st → CyclesKept (take n flags) (take n counts) ks₀ st₀ ks st
  steps_end i at to ks e p u v st w =
      let f : at ≡ total (places_of 0) (take n counts) =
      p.place ∙ ap (λ (k : ℕ). total (places_of 0) (take k (take n counts))) e
      ∙ ap (total (places_of 0)) (take_all n (take n counts) (omega (arith, length-take-le n counts (omega arith)))) in
      record {
        cycles = stretch_end flags counts n hn lf lc ks₀ cycles_most hk lk i at to ks e p;
        steps =
            places_end 1 spread (take all ks₀) spread_all st₀ (omega arith) u v st
            (subst (λ (k : ℕ). Places 1 spread (take all ks₀) st₀ k u v st) (f ∙ sym cycles_length) w);
      }
