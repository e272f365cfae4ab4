-- Cycles copied as two runs of numbers, after a list. Assumes nothing.
use Prim.Native.Nat.{ℕ, ◌+◌, ◌≤◌}
use mathlib.Core.Path.{◌≡◌, ap, ap₂, sym, ◌∙◌}
use mathlib.Core.List.{List, ◌++◌}
use native.Mathlib.Omega.{arith}
use lib.ListN.{length, take, drop, length-drop}
use lib.Seq.{paste, take-paste, length-paste}
use Rattle.complex.specs.Cells.{Cycle}
use Rattle.store.specs.View.{width, width_sum, cycles_from}
use Rattle.store.proofs.Lists.{sum_append}
use Rattle.store.proofs.Pools.{held_cycles}
use Rattle.rows_spans.specs.declared.Used.{Used}
use Rattle.rows_spans.specs.Building.{Built, built}
use Rattle.rows_spans.proofs.Building.{cycles_append, held, built_same}
use Rattle.rows_spans.proofs.Splicing.{paste_front, paste_run}
use Rattle.kernel_paths.specs.declared.Run.{Run}
use Rattle.kernel_paths.specs.Runs.{path_run, RunRoom}

-- cycles are read from their own places alone
cycles_same : (l : List ℕ) (k : ℕ) (s t : List ℕ) → k ≤ length l → width_sum (take k l) ≤ length s → width_sum (take k l) ≤ length t
    → take (width_sum (take k l)) s ≡ take (width_sum (take k l)) t → cycles_from (take k l) s ≡ cycles_from (take k l) t
cycles_same l k s t h hs ht e =
    let g = held l k t h ht in
    held_cycles (cycles_from (take k l) t) l k s (width_sum (take k l))
    (record { lengths = g.lengths; places = e ∙ g.places; real = g.real; lengths_room = g.lengths_room; places_room = hs })

pub run_built : {cycles steps : List ℕ} {r : Run} {numbers : List ℕ} {u : Used} {places : List ℕ} → RunRoom cycles steps r numbers u places
    → (c s : ℕ) (cs ps : List ℕ) → c ≡ u.cycles + r.count → cs ≡ paste numbers u.cycles (drop r.first cycles) r.count
    → s ≡ u.steps + r.len → ps ≡ paste places u.steps (drop r.from steps) r.len
    → Built (built numbers u places ++ path_run cycles steps r) cs (record { cycles = c; steps = s }) ps
run_built {cycles} {steps} {r} {numbers} {u} {places} room c s cs ps ec ecs es eps =
    let k = r.count in
    let m = r.len in
    let b = room.building in
    let i = u.cycles in
    let j = u.steps in
    let ns = drop r.first cycles in
    let src = drop r.from steps in
    let hc = room.cycle_room in
    let hs = room.step_room in
    let lc = b.counts_size in
    let ls = b.steps_size in
    let hn : k ≤ length ns = omega (arith, room.in_cycles, room.cycles_size, length-drop r.first cycles) in
    let hm : m ≤ length src = omega (arith, room.in_steps, room.steps_size, length-drop r.from steps) in
    let zc : length cs ≡ length numbers = ap length ecs ∙ length-paste numbers i ns k (omega arith) hn in
    let zs : length ps ≡ length places = ap length eps ∙ length-paste places j src m (omega arith) hm in
    let fc : take c cs ≡ take i numbers ++ take k ns = ap₂ take ec ecs ∙ take-paste numbers i ns k (omega arith) hn in
    let fs : take j ps ≡ take j places = ap (take j) eps ∙ paste_front places j src m (omega arith) hm in
    let run : take m (drop j ps) ≡ take m src = ap (λ (q : List ℕ). take m (drop j q)) eps ∙ paste_run places j src m (omega arith) hm in
    let w = room.wide in
    let same = built_same numbers u places b ps zs fs in
    let own : cycles_from (take k ns) (drop (width_sum (take i numbers)) ps) ≡ cycles_from (take k ns) src =
    ap (λ (n : ℕ). cycles_from (take k ns) (drop n ps)) b.width
    ∙ cycles_same ns k (drop j ps) src hn (omega (arith, length-drop j ps)) (omega arith)
    (ap (λ (n : ℕ). take n (drop j ps)) w ∙ run ∙ ap (λ (n : ℕ). take n src) (sym w))
    in
    record {
      list =
          ap (λ (l : List ℕ). cycles_from l ps) fc ∙ cycles_append (take i numbers) (take k ns) ps
          ∙ ap₂ (λ (x y : List Cycle). x ++ y) same.list own;
      building =
          record {
            counts_size = omega arith;
            steps_size = omega arith;
            width = ap width_sum fc ∙ sum_append width (take i numbers) (take k ns) ∙ omega (arith, b.width);
            cycle_room = omega arith;
            step_room = omega arith;
          };
    }
