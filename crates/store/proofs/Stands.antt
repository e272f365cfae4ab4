-- A drawing whose arrays begin with what cells xs put there is viewed as xs, and every drawing that fits is such a one. Assumes nothing.
use Prim.Native.Nat.{ℕ, ◌≤◌}
use mathlib.Core.Path.{◌≡◌, refl, ap, ap₂, sym, ◌∙◌}
use mathlib.Core.List.{List, [], ◌∷◌, ◌++◌, map}
use mathlib.Core.Bool.{true}
use native.Mathlib.Omega.{arith}
use lib.ListN.{length, take, drop, length-map, length-take, take-append-drop}
use lib.Seq.{length-take-le}
use Rattle.coordinate.specs.declared.Position.{Position}
use Rattle.store.specs.declared.Cell.{Cell}
use Rattle.store.specs.declared.Drawing.{Drawing}
use Rattle.store.specs.Sizes.{Sizes}
use Rattle.complex.specs.Cells.{Cycle, LiveCell as Entry}
use Rattle.store.specs.Sheet.{all_real, ids_of}
use Rattle.store.specs.View.{sheet_of, Fits, cycles_from, cells_of, cycle_sum, bend_sum, width_sum, cycle_total, bend_total, step_total}
use Rattle.store.specs.Places.{entry_cell, entry_cycles, entry_bends, num_of, cycle_words}
use Rattle.number.specs.Readers.{spread}
use Rattle.store.proofs.Encode.{numbers, places, cycles_real, take_cycles, length_cycles, heads, cycles_of_cells, bends_of_cells, cycles_back}
use Rattle.store.proofs.Encode.{cells_back, cycle_sum_lem, bend_sum_lem, width_sum_lem}

-- l begins with x
pub record Begins {A : Type 0} (l x : List A) : Type 0 where
  pub front : take (length x) l ≡ x

module _ {A : Type 0} where
  pub begins_split : {l x : List A} → Begins l x → l ≡ x ++ drop (length x) l
  begins_split {l} {x} b = sym (take-append-drop (length x) l) ∙ ap (λ (y : List A). y ++ drop (length x) l) b.front

  pub begins_length : {l x : List A} → Begins l x → length x ≤ length l
  begins_length {l} {x} b = let e : length (take (length x) l) ≡ length x = ap length b.front in let g = length-take (length x) l in omega arith

  pub take_begins : {l x : List A} (n : ℕ) → n ≤ length l → take n l ≡ x → Begins l x
  take_begins {l} {x} n h e = record { front = ap (λ (k : ℕ). take k l) (sym (ap length e) ∙ length-take-le n l h) ∙ e }

  pub begins_take : {l x : List A} (n : ℕ) → length x ≡ n → Begins l x → take n l ≡ x
  begins_take {l} {x} n h e = ap (λ (k : ℕ). take k l) (sym h) ∙ e.front

-- the cells of a drawing stand in its arrays
pub record Stands (d : Drawing) (xs : List Entry) : Type 0 where
  pub cells : take d.count d.cells ≡ map entry_cell xs
  pub cycles : Begins d.cycles (map num_of (spread entry_cycles xs))
  pub steps : Begins d.steps (spread cycle_words (spread entry_cycles xs))
  pub bends : Begins d.bends (spread entry_bends xs)
  pub real : all_real (spread entry_cycles xs) ≡ true

module _ (d : Drawing) (z : Sizes d) (f : Fits d) where
  -- the cycles that are in use
  abbrev pub in_use : List ℕ
  in_use = take (cycle_total d) d.cycles

  pub used_cycles : spread entry_cycles (sheet_of d).cells ≡ cycles_from in_use d.steps
  unfolding sheet_of
  used_cycles =
      cycles_of_cells (take d.count d.cells) (cycles_from d.cycles d.steps) d.bends ∙ take_cycles (cycle_total d) d.cycles d.steps

  pub stands : Stands d (sheet_of d).cells
  unfolding sheet_of
  stands =
      let cs = take d.count d.cells in
      let k = length_cycles d.cycles d.steps in
      let w : width_sum (take (cycle_total d) d.cycles) ≤ length d.steps = omega (arith, f.steps, z.steps) in
      record {
        cells = sym (heads cs (cycles_from d.cycles d.steps) d.bends (omega (arith, f.cycles, z.cycles)) (omega (arith, f.bends, z.bends)));
        cycles =
            take_begins (cycle_total d) (omega (arith, f.cycles, z.cycles))
            (sym (numbers in_use d.steps w) ∙ ap (map num_of) (sym used_cycles));
        steps = take_begins (step_total d) w (sym (places in_use d.steps w) ∙ ap (spread cycle_words) (sym used_cycles));
        bends = take_begins (bend_total d) (omega (arith, f.bends, z.bends)) (sym (bends_of_cells cs (cycles_from d.cycles d.steps) d.bends));
        real = ap all_real used_cycles ∙ cycles_real in_use d.steps w;
      }

module _ (d : Drawing) (xs : List Entry) (s : Stands d xs) where
  pub viewed : (sheet_of d).cells ≡ xs
  unfolding sheet_of
  viewed =
      let ks = spread entry_cycles xs in
      let ns = drop (length (map num_of ks)) d.cycles in
      let st = drop (length (spread cycle_words ks)) d.steps in
      ap₂ (λ (c : List Cell) (b : List Position). cells_of c (cycles_from d.cycles d.steps) b) s.cells (begins_split s.bends)
      ∙ ap₂ (λ (n t : List ℕ). cells_of (map entry_cell xs) (cycles_from n t) (spread entry_bends xs ++ drop (length (spread entry_bends xs)) d.bends))
      (begins_split s.cycles) (begins_split s.steps)
      ∙ ap (λ (k : List Cycle). cells_of (map entry_cell xs) k (spread entry_bends xs ++ drop (length (spread entry_bends xs)) d.bends))
      (cycles_back ks ns st s.real)
      ∙ cells_back xs (cycles_from ns st) (drop (length (spread entry_bends xs)) d.bends)

  pub cycle_total_lem : cycle_total d ≡ length (spread entry_cycles xs)
  cycle_total_lem = ap cycle_sum s.cells ∙ cycle_sum_lem xs

  pub bend_total_lem : bend_total d ≡ length (spread entry_bends xs)
  bend_total_lem = ap bend_sum s.cells ∙ bend_sum_lem xs

  pub step_total_lem : step_total d ≡ length (spread cycle_words (spread entry_cycles xs))
  step_total_lem =
      let ks = spread entry_cycles xs in
      ap width_sum (begins_take (cycle_total d) (length-map ks num_of ∙ sym cycle_total_lem) s.cycles) ∙ width_sum_lem ks s.real

  pub fitting : Sizes d → d.count ≤ 256 → Fits d
  fitting z h =
      record {
        cells = h;
        cycles = omega (arith, cycle_total_lem, z.cycles, begins_length s.cycles, length-map (spread entry_cycles xs) num_of);
        steps = omega (arith, step_total_lem, z.steps, begins_length s.steps);
        bends = omega (arith, bend_total_lem, z.bends, begins_length s.bends);
      }

  pub count_is : Sizes d → d.count ≤ 256 → d.count ≡ length xs
  count_is z h = sym (length-take-le d.count d.cells (omega (arith, z.cells))) ∙ ap length s.cells ∙ length-map xs entry_cell

pub heads_ids : (xs : List Entry) → map (λ (c : Cell). c.id) (map entry_cell xs) ≡ map (λ (x : Entry). x.id) xs
heads_ids [] = refl
heads_ids (x ∷ xs) = ap (λ (r : List ℕ). x.id ∷ r) (heads_ids xs)

pub ids_same : (d : Drawing) → Sizes d → Fits d → map (λ (c : Cell). c.id) (take d.count d.cells) ≡ ids_of (sheet_of d)
ids_same d z f = ap (map (λ (c : Cell). c.id)) (stands d z f).cells ∙ heads_ids (sheet_of d).cells
