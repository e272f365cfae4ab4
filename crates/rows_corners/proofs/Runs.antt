-- The runs of a face's spans copied to the front of two arrays. Assumes nothing.
use Prim.Native.Nat.{ℕ, ◌+◌, ◌≤◌}
use mathlib.Core.Path.{◌≡◌, sym, ap, ◌∙◌}
use mathlib.Core.List.{List}
use native.Mathlib.Omega.{arith}
use lib.ListN.{length, take, drop, length-drop}
use lib.Seq.{paste, take-paste, length-paste}
use Rattle.store.specs.View.{cycles_from, width_sum}
use Rattle.store.proofs.Pools.{held_cycles}
use Rattle.rows_spans.specs.declared.Spans.{Spans}
use Rattle.rows_spans.specs.Building.{Built}
use Rattle.rows_spans.proofs.Building.{held}
use Rattle.rows_corners.specs.Faces.{Within, cycles_at}

front : (d s : List ℕ) (n : ℕ) → n ≤ length s → take n (paste d 0 s n) ≡ take n s
front d s n h = let e : n ≡ 0 + n = omega arith in ap (λ (k : ℕ). take k (paste d 0 s n)) e ∙ take-paste d 0 s n (omega arith) h

-- the runs of a span, copied to the front of two arrays, leave these as long as they were
pub runs_long : (cycles steps : List ℕ) (t : Spans) → Within cycles steps t → (bc bs : List ℕ) → length bc ≡ 512 → length bs ≡ 2048
    → (length (paste bc 0 (drop t.cycles.first cycles) t.cycles.count) ≡ 512)
    × (length (paste bs 0 (drop t.steps.first steps) t.steps.count) ≡ 2048)
runs_long cycles steps t w bc bs lc ls = (
  length-paste bc 0 (drop t.cycles.first cycles) t.cycles.count (omega (arith, w.in_cycles))
      (omega (arith, w.in_cycles, w.cycles_size, length-drop t.cycles.first cycles)) ∙ lc,
  length-paste bs 0 (drop t.steps.first steps) t.steps.count (omega (arith, w.in_steps))
      (omega (arith, w.in_steps, w.steps_size, length-drop t.steps.first steps)) ∙ ls,
)

pub runs_built : (cycles steps : List ℕ) (t : Spans) → Within cycles steps t → (bc bs : List ℕ) → length bc ≡ 512 → length bs ≡ 2048
    → (cs ps : List ℕ) → cs ≡ paste bc 0 (drop t.cycles.first cycles) t.cycles.count → ps ≡ paste bs 0 (drop t.steps.first steps) t.steps.count
    → Built (cycles_at cycles steps t) cs (record { cycles = t.cycles.count; steps = t.steps.count }) ps
runs_built cycles steps t w bc bs lc ls cs ps ec ep =
    let n = t.cycles.count in
    let m = t.steps.count in
    let src = drop t.steps.first steps in
    let hn : n ≤ length (drop t.cycles.first cycles) = omega (arith, w.in_cycles, w.cycles_size, length-drop t.cycles.first cycles) in
    let hm : m ≤ length src = omega (arith, w.in_steps, w.steps_size, length-drop t.steps.first steps) in
    let z = runs_long cycles steps t w bc bs lc ls in
    let zc : length cs ≡ 512 = ap length ec ∙ z.0 in
    let zs : length ps ≡ 2048 = ap length ep ∙ z.1 in
    let fc : take n cs ≡ take n (drop t.cycles.first cycles) = ap (take n) ec ∙ front bc (drop t.cycles.first cycles) n hn in
    let fs : take m ps ≡ take m src = ap (take m) ep ∙ front bs src m hm in
    let wide : width_sum (take n cs) ≡ m = ap width_sum fc ∙ w.wide in
    let h = held cs n src (omega (arith, zc, w.in_cycles)) (omega (arith, wide, hm)) in
    record {
      list =
          held_cycles (cycles_from (take n cs) src) cs n ps (width_sum (take n cs))
          (record {
            lengths = h.lengths;
            places = ap (λ (k : ℕ). take k ps) wide ∙ fs ∙ ap (λ (k : ℕ). take k src) (sym wide) ∙ h.places;
            real = h.real;
            lengths_room = h.lengths_room;
            places_room = omega (arith, wide, zs, w.in_steps);
          })
          ∙ ap (λ (l : List ℕ). cycles_from l src) fc;
      building =
          record {
            counts_size = omega arith;
            steps_size = omega arith;
            width = wide;
            cycle_room = omega (arith, w.in_cycles);
            step_room = omega (arith, w.in_steps);
          };
    }
