-- Cycles held in number arrays: of a drawing, and read back. Assumes nothing.
use Prim.Native.Nat.{ℕ}
use mathlib.Core.Path.{◌≡◌, ap, ap₂, sym, ◌∙◌}
use mathlib.Core.List.{List, [], ◌++◌, map, append-nil}
use native.Mathlib.Omega.{arith}
use lib.ListN.{take, drop, take-append-drop, length-map}
use Rattle.number.specs.Readers.{spread}
use Rattle.complex.specs.Cells.{Cycle}
use Rattle.store.specs.declared.Drawing.{Drawing}
use Rattle.store.specs.Sizes.{Sizes}
use Rattle.store.specs.View.{sheet_of, Fits, cycles_from, cycle_total, step_total}
use Rattle.store.specs.Places.{entry_cycles, num_of}
use Rattle.store.specs.Pools.{Held}
use Rattle.store.proofs.Encode.{cycles_back}
use Rattle.store.proofs.Stands.{begins_take, stands, cycle_total_lem, step_total_lem}

-- what the arrays hold is read back from them
pub held_cycles : (ks : List Cycle) (counts : List ℕ) (n : ℕ) (steps : List ℕ) (m : ℕ) → Held ks counts n steps m → cycles_from (take n counts) steps ≡ ks
held_cycles ks counts n steps m h =
    ap₂ cycles_from (h.lengths ∙ sym (append-nil (map num_of ks))) (sym (take-append-drop m steps) ∙ ap (λ (x : List ℕ). x ++ drop m steps) h.places)
    ∙ cycles_back ks [] (drop m steps) h.real
    ∙ append-nil ks

-- a drawing's arrays hold the cycles of its cells
pub drawing_held : (d : Drawing) → Sizes d → Fits d → Held (spread entry_cycles (sheet_of d).cells) d.cycles (cycle_total d) d.steps (step_total d)
drawing_held d z f =
    let xs = (sheet_of d).cells in
    let s = stands d z f in
    record {
      lengths = begins_take (cycle_total d) (length-map (spread entry_cycles xs) num_of ∙ sym (cycle_total_lem d xs s)) s.cycles;
      places = begins_take (step_total d) (sym (step_total_lem d xs s)) s.steps;
      real = s.real;
      lengths_room = omega (arith, f.cycles, z.cycles);
      places_room = omega (arith, f.steps, z.steps);
    }
