-- After some cells of a file the arrays begin with what those cells put there. Assumes nothing.
use Prim.Native.Nat.{ℕ, ◌+◌, ◌*◌, ◌≤◌, ◌<◌}
use native.Mathlib.Omega.{arith}
use mathlib.Core.Path.{◌≡◌, refl, sym, ap, ap₂, ◌∙◌, subst}
use mathlib.Core.Bool.{true}
use mathlib.Core.List.{List, [], ◌∷◌, ◌++◌, map}
use lib.ListN.{length, take, drop, set, length-append, length-map, length-set, length-drop, drop_of_length-le}
use Rattle.number.specs.Readers.{got, bad, times, spread}
use Rattle.number.proofs.Laws.{not_bad, got_rest}
use Rattle.number.proofs.Counted.{Each, times_length}
use Rattle.coordinate.specs.declared.Position.{Position}
use Rattle.coordinate.specs.Positions.{read_position, position_at}
use Rattle.bends.specs.Bends.{positions_at}
use Rattle.bends.proofs.Laws.{positions_length, positions_long}
use Rattle.complex.specs.Cells.{Cycle, LiveCell}
use Rattle.complex.specs.Decode.{read_cycle}
use Rattle.complex.specs.File.{read_cell}
use Rattle.store.specs.declared.Cell.{Cell}
use Rattle.store.specs.declared.Drawing.{Drawing}
use Rattle.store.specs.Sizes.{Sizes}
use Rattle.store.specs.Sheet.{all_real}
use Rattle.store.specs.View.{sheet_of, Fits, bend_count, cycle_count, bend_total}
use Rattle.store.specs.Places.{entry_cell, entry_cycles, entry_bends, num_of, cycle_words}
use Rattle.store.proofs.Encode.{flat_append}
use Rattle.store.proofs.Lists.{map_append}
use Rattle.store.proofs.Stands.{Begins, begins_length, begins_take, take_begins, Stands, viewed, fitting, bend_total_lem}
use Rattle.store.proofs.Grow.{real_append, sheet_is}
use Rattle.file_read.specs.declared.ReadAnswer.{ReadAnswer}
use Rattle.file_read.specs.declared.Used.{Used}
use Rattle.file_read.specs.Heads.{read_head, ReadAt}
use Rattle.file_read.specs.Filling.{spots_from, PartsIn, PartsOver, PoolRoom}
use Rattle.file_read.specs.Outcome.{CellsIn, CellsOver}
use Rattle.file_read.proofs.Reading.{Reading, reading_start, reading_turn, reading_end, reading_ahead}
use Rattle.file_read.proofs.Adding.{added_one, begins_added, each_append, spots_length, spots_positions, spots_inside}
use Rattle.file_read.proofs.CellParts.{no_head, cell_with, cell_found, cell_parts, one_head, one_cycles, one_bends}

-- xs are the cells that were read, and the bends of them stand at the places ps of the bytes
pub record Filled (s : List ℕ) (at n i p : ℕ) (cells : List Cell) (counts steps spots : List ℕ) (used : Used) : Type 0 where
  pub xs : List LiveCell
  pub ps : List ℕ
  pub reading : Reading read_cell s at n i p xs
  pub heads : Begins cells (map entry_cell xs)
  pub counted : Begins counts (map num_of (spread entry_cycles xs))
  pub stepped : Begins steps (spread cycle_words (spread entry_cycles xs))
  pub spotted : Begins spots ps
  pub bends : map (position_at s) ps ≡ spread entry_bends xs
  pub inside : Each (λ (q : ℕ). q + 16 ≤ length s) ps
  pub real : all_real (spread entry_cycles xs) ≡ true
  pub used_bends : used.bends ≡ length ps
  pub used_cycles : used.cycles ≡ length (spread entry_cycles xs)
  pub used_steps : used.steps ≡ length (spread cycle_words (spread entry_cycles xs))
  pub cells_size : length cells ≡ 256
  pub counts_size : length counts ≡ 512
  pub steps_size : length steps ≡ 2048
  pub spots_size : length spots ≡ 2048

pub filled_start : (s : List ℕ) (at n : ℕ) (cells : List Cell) (counts steps spots : List ℕ) → at ≤ length s → length cells ≡ 256 → length counts ≡ 512
    → length steps ≡ 2048 → length spots ≡ 2048
    → Filled s at n 0 at cells counts steps spots (record { bends = 0; cycles = 0; steps = 0 })
filled_start s at n cells counts steps spots h a b c d =
    record {
      xs = [];
      ps = [];
      reading = reading_start read_cell s at n h;
      heads = record { front = refl };
      counted = record { front = refl };
      stepped = record { front = refl };
      spotted = record { front = refl };
      bends = refl;
      inside = tt;
      real = refl;
      used_bends = refl;
      used_cycles = refl;
      used_steps = refl;
      cells_size = a;
      counts_size = b;
      steps_size = c;
      spots_size = d;
    }

module _ (s : List ℕ) (at n i p : ℕ) (cells : List Cell) (counts steps spots : List ℕ) (used : Used) (F : Filled s at n i p cells counts steps spots used) where
  pub filled_room : PoolRoom used spots counts steps
  filled_room =
      record {
        spots_size = F.spots_size;
        counts_size = F.counts_size;
        steps_size = F.steps_size;
        bends_fit = omega (arith, F.used_bends, F.spots_size, begins_length F.spotted);
        cycles_fit = omega (arith, F.used_cycles, F.counts_size, begins_length F.counted, length-map (spread entry_cycles F.xs) num_of);
        steps_fit = omega (arith, F.used_steps, F.steps_size, begins_length F.stepped);
      }

  -- ---- one cell more
  module _ (c : Cell) (first : ℕ) (H : ReadAt (read_head (drop p s)) s c first) (spots' counts' steps' : List ℕ) (next : ℕ) (used' : Used)
      (P : PartsIn s first c.shape spots counts steps used spots' counts' steps' next used') where
    pub filled_turn : i < n → i < 256 → Filled s at n (i + 1) next (set cells i c) counts' steps' spots' used'
    filled_turn h g =
        let b = bend_count c.shape in
        let bs = positions_at s first b in
        let C = P.filled in
        let ks = C.cycles in
        let read-bends = positions_long s first b P.inside in
        let lb : length bs ≡ b = positions_length s first b in
        let lk : length ks ≡ cycle_count c.shape = times_length read_cycle (cycle_count c.shape) (drop (first + 16 * b) s) (drop next s) ks C.read in
        let y = cell_with c ks bs in
        let xs = F.xs in
        let ls = spread entry_cycles xs in
        let more_cycles_lem : spread entry_cycles (xs ++ (y ∷ [])) ≡ ls ++ ks = flat_append entry_cycles xs (y ∷ [])
        ∙ ap (λ (l : List Cycle). ls ++ l) (one_cycles c ks bs lk lb) in
        let more-bends : spread entry_bends (xs ++ (y ∷ [])) ≡ spread entry_bends xs ++ bs = flat_append entry_bends xs (y ∷ [])
        ∙ ap (λ (l : List Position). spread entry_bends xs ++ l) (one_bends c ks bs lk lb) in
        let ps = F.ps in
        let sp = spots_from first b in
        let ul : used.cycles ≡ length (map num_of ls) = F.used_cycles ∙ sym (length-map ls num_of) in
        let il : i ≡ length (map entry_cell xs) = sym (length-map xs entry_cell ∙ F.reading.count) in
        record {
          xs = xs ++ (y ∷ []);
          ps = ps ++ sp;
          reading = reading_turn read_cell s at n i p xs F.reading y next h
              (cell_found c (drop p s) (drop first s) H.read bs ks (drop (first + 16 * b) s) (drop next s) read-bends C.read) C.inside;
          heads =
              rw (map_append entry_cell xs (y ∷ []), one_head c ks bs lk lb)
              (begins_added i il F.heads (added_one cells i c (omega (arith, F.cells_size))));
          counted = rw (more_cycles_lem, map_append num_of ls ks) (begins_added used.cycles ul F.counted C.counted);
          stepped = rw (more_cycles_lem, flat_append cycle_words ls ks) (begins_added used.steps F.used_steps F.stepped C.stepped);
          spotted = begins_added used.bends F.used_bends F.spotted P.spotted;
          bends = map_append (position_at s) ps sp ∙ ap₂ (λ (l m : List Position). l ++ m) F.bends (spots_positions s first b) ∙ sym more-bends;
          inside = each_append (λ (q : ℕ). q + 16 ≤ length s) ps sp F.inside (spots_inside (length s) first b P.inside);
          real = ap all_real more_cycles_lem ∙ real_append ls ks F.real C.real;
          used_bends = C.same_bends ∙ (let e = F.used_bends in let l = length-append ps sp in let m = spots_length first b in omega arith);
          used_cycles = C.more_cycles ∙ ap (λ (m : ℕ). m + length ks) F.used_cycles ∙ sym (length-append ls ks) ∙ ap length (sym more_cycles_lem);
          used_steps =
              C.more_steps ∙ ap (λ (m : ℕ). m + length (spread cycle_words ks)) F.used_steps
              ∙ sym (length-append (spread cycle_words ls) (spread cycle_words ks))
              ∙ ap length (sym (flat_append cycle_words ls ks)) ∙ ap (λ (l : List Cycle). length (spread cycle_words l)) (sym more_cycles_lem);
          cells_size = length-set cells i c ∙ F.cells_size;
          counts_size = C.counted.size ∙ F.counts_size;
          steps_size = C.stepped.size ∙ F.steps_size;
          spots_size = P.spotted.size ∙ F.spots_size;
        }

  -- ---- no cell more
  pub head_bad : i < n → read_head (drop p s) ≡ bad → CellsOver (times read_cell n (drop at s))
  head_bad h e zs f r =
      let a = reading_ahead read_cell s at n i p F.xs F.reading zs [] h f in
      not_bad a.next a.rest (sym (no_head (drop p s) e) ∙ a.read)

  pub parts_over : (c : Cell) (first : ℕ) → i < n → ReadAt (read_head (drop p s)) s c first → PartsOver s first c.shape used
      → CellsOver (times read_cell n (drop at s))
  parts_over c first h H over zs f r =
      let a = reading_ahead read_cell s at n i p F.xs F.reading zs [] h f in
      let q = cell_parts c (drop p s) (drop first s) H.read a.next a.rest a.read in
      let bs = q.bends in
      let ks = q.cycles in
      let lb = times_length read_position (bend_count c.shape) (drop first s) q.between bs q.read_bends in
      let lk = times_length read_cycle (cycle_count c.shape) q.between a.rest ks q.read_cycles in
      let xs = F.xs in
      let ls = spread entry_cycles xs in
      let y = cell_with c ks bs in
      let w = a.later in
      let z : zs ≡ xs ++ ((y ∷ []) ++ w) = a.whole ∙ ap (λ (m : LiveCell). xs ++ (m ∷ w)) q.same in
      let cycles : spread entry_cycles zs ≡ ls ++ (ks ++ spread entry_cycles w) =
      ap (spread entry_cycles) z ∙ flat_append entry_cycles xs ((y ∷ []) ++ w)
      ∙ ap (λ (l : List Cycle). ls ++ l)
      (flat_append entry_cycles (y ∷ []) w ∙ ap (λ (l : List Cycle). l ++ spread entry_cycles w) (one_cycles c ks bs lk lb))
      in
      let bends : spread entry_bends zs ≡ spread entry_bends xs ++ (bs ++ spread entry_bends w) =
      ap (spread entry_bends) z ∙ flat_append entry_bends xs ((y ∷ []) ++ w) ∙ ap (λ (l : List Position). spread entry_bends xs ++ l)
      (flat_append entry_bends (y ∷ []) w ∙ ap (λ (l : List Position). l ++ spread entry_bends w) (one_bends c ks bs lk lb))
      in
      let steps : spread cycle_words (spread entry_cycles zs) ≡ spread cycle_words ls ++ (spread cycle_words ks ++ spread cycle_words (spread entry_cycles w)) =
      ap (spread cycle_words) cycles ∙ flat_append cycle_words ls (ks ++ spread entry_cycles w)
      ∙ ap (λ (l : List ℕ). spread cycle_words ls ++ l) (flat_append cycle_words ks (spread entry_cycles w))
      in
      let nb : length (spread entry_bends zs) ≡ length (spread entry_bends xs) + (length bs + length (spread entry_bends w)) = ap length bends
      ∙ simp length-append in
      let nk : length (spread entry_cycles zs) ≡ length ls + (length ks + length (spread entry_cycles w)) = ap length cycles ∙ simp length-append in
      let ns : length (spread cycle_words (spread entry_cycles zs)) ≡ length (spread cycle_words ls)
      + (length (spread cycle_words ks) + length (spread cycle_words (spread entry_cycles w))) = ap length steps ∙ simp length-append in
      let lp : length F.ps ≡ length (spread entry_bends xs) = sym (length-map F.ps (position_at s)) ∙ ap length F.bends in
      let ub = F.used_bends in
      let uk = F.used_cycles in
      let us = F.used_steps in
      over bs ks q.between a.rest q.read_bends q.read_cycles (omega (arith, r.bends)) (omega (arith, r.cycles)) (omega (arith, r.steps))

  -- bytes are left
  pub bytes_left : i ≡ n → p < length s → CellsOver (times read_cell n (drop at s))
  bytes_left e h zs f r =
      let t : drop p s ≡ [] = sym (got_rest zs F.xs [] (drop p s) (sym f ∙ reading_end read_cell s at n i p F.xs F.reading e)) in
      let l = ap length t in
      let m = length-drop p s in
      omega arith

  -- ---- all cells
  module _ (end : i ≡ n) (d : Drawing) (z : Sizes d) (few : n ≤ 256) (count : d.count ≡ n) (cs : d.cells ≡ cells) (ns : d.cycles ≡ counts)
      (st : d.steps ≡ steps)
      (bs : take used.bends d.bends ≡ map (position_at s) (take used.bends spots)) where
    filled_stands : Stands d F.xs
    filled_stands =
        let xs = F.xs in
        let il : length (map entry_cell xs) ≡ n = length-map xs entry_cell ∙ F.reading.count ∙ end in
        let room = filled_room.bends_fit in
        record {
          cells = ap₂ (λ (k : ℕ) (l : List Cell). take k l) count cs ∙ begins_take n il F.heads;
          cycles = subst (λ (l : List ℕ). Begins l (map num_of (spread entry_cycles xs))) (sym ns) F.counted;
          steps = subst (λ (l : List ℕ). Begins l (spread cycle_words (spread entry_cycles xs))) (sym st) F.stepped;
          bends = take_begins used.bends (omega (arith, z.bends))
              (bs ∙ ap (map (position_at s)) (begins_take used.bends (sym F.used_bends) F.spotted) ∙ F.bends);
          real = F.real;
        }

    filled_sheet : sheet_of d ≡ record { next = d.next; cells = F.xs }
    filled_sheet = sheet_is d (record { next = d.next; cells = F.xs }) refl (viewed d F.xs filled_stands)

    filled_fits : Fits d
    filled_fits = fitting d F.xs filled_stands z (omega arith)

    pub filled_total : used.bends ≡ bend_total d
    filled_total = F.used_bends ∙ sym (length-map F.ps (position_at s)) ∙ ap length F.bends ∙ sym (bend_total_lem d F.xs filled_stands)

  pub filled_given : (next : ℕ) (r : ReadAnswer) → r.number ≡ 0 → r.drawing.next ≡ next → i ≡ n → length s ≤ p → Sizes r.drawing → n ≤ 256
      → r.drawing.count ≡ n → r.drawing.cells ≡ cells
      → r.drawing.cycles ≡ counts → r.drawing.steps ≡ steps → take used.bends r.drawing.bends ≡ map (position_at s) (take used.bends spots)
      → CellsIn (times read_cell n (drop at s)) next r
  filled_given next r good e end h z few count cs ns st bs =
      record {
        cells = F.xs;
        read = reading_end read_cell s at n i p F.xs F.reading end ∙ ap (got F.xs) (drop_of_length-le s h);
        given =
            record {
              number = good;
              sheet = filled_sheet end r.drawing z few count cs ns st bs ∙ (λ j. record { next = e j; cells = F.xs });
              fits = filled_fits end r.drawing z few count cs ns st bs;
            };
      }
