-- The file of sound arrays: what the functions that measure and write ask, and what they make. Assumes nothing.
use Prim.Native.Nat.{ℕ, ◌+◌, ◌*◌, ◌≤◌}
use native.Mathlib.Omega.{arith}
use mathlib.Core.Path.{◌≡◌, refl, sym, ap, ap₂, ◌∙◌, subst}
use mathlib.Core.Bool.{Bool, cond}
use mathlib.Core.List.{List, [], ◌∷◌, ◌++◌}
use lib.Ieee.{Float}
use lib.ListN.{length, take}
use Rattle.number.specs.Readers.{spread}
use Rattle.number.specs.Numbers.{spell}
use Rattle.coordinate.specs.declared.Position.{Position}
use Rattle.complex.specs.Calls.{filled, unfilled, write_call}
use Rattle.complex.specs.Decode.{cycle_bytes}
use Rattle.complex.specs.File.{cell_bytes, file_of}
use Rattle.complex.specs.Lists.{total}
use Rattle.complex.proofs.Bools.{true_of}
use Rattle.store.specs.View.{cycles_from, cells_of, sheet_of, cycle_total, width_sum}
use Rattle.sound.specs.Soundness.{sound_drawing}
use Rattle.answer.specs.declared.Totals.{Totals}
use Rattle.file_parts.specs.Parts.{positions_from, SpelledNumbers}
use Rattle.file_write.specs.Places.{PointsOf, AllReady, Writable}
use Rattle.file_length.specs.Widths.{Heads, spell_width, head_width}
use Rattle.file_length.proofs.Lengths.{rings_length, counts_spell, places_spell}
use Rattle.file_write.proofs.Filing.{writable, heads_ready, rings_ready, cells_ready, cells_same, file_is, file_bytes, file_small, write_sound}
use Rattle.lent.specs.Arrays.{Arrays, positions_in, held_by}
use Rattle.lent.specs.Replies.{Ready}
use Rattle.lent.proofs.Sums.{ready_drawing, ready_sizes, ready_cycles, ready_steps, ready_bends}

points_same : (xs ys : List Float) → positions_from xs ys ≡ positions_in xs ys
points_same [] ys = refl
points_same (x ∷ xs) [] = refl
points_same (x ∷ xs) (y ∷ ys) = ap (λ (l : List Position). record { x = x; y = y } ∷ l) (points_same xs ys)

module _ (a : Arrays) (t : Totals) (r : Ready a t) where
  pub ready_writable : Writable (held_by a)
  ready_writable = writable (held_by a) (ready_drawing a t r)

  pub ready_heads : Heads (held_by a).cells a.count
  ready_heads = heads_ready (held_by a) (ready_sizes a t r) ready_writable

  -- ---- the numbers of the cycles and of their steps
  steps_few : width_sum (take (cycle_total (held_by a)) a.cycles) ≤ 2048
  steps_few = ready_writable.fits.steps

  steps_long : width_sum (take (cycle_total (held_by a)) a.cycles) ≤ length a.steps
  steps_long = let f = steps_few in let z = r.long.steps in omega arith

  pub cycle_numbers : SpelledNumbers a.cycles 0 t.cycles × (t.cycles ≤ 2048)
  cycle_numbers =
      let f = ready_writable.fits.cycles in
      let z = r.long.cycles in
      subst (λ (n : ℕ). SpelledNumbers a.cycles 0 n × (n ≤ 2048)) (sym (ready_cycles a t r))
      (record { room = omega arith; spelled = counts_spell (take (cycle_total (held_by a)) a.cycles) steps_few }, omega arith)

  pub step_numbers : SpelledNumbers a.steps 0 t.steps × (t.steps ≤ 2048)
  step_numbers =
      let l = steps_long in
      subst (λ (n : ℕ). SpelledNumbers a.steps 0 n × (n ≤ 2048)) (sym (ready_steps a t r)) (
        record {
          room = omega arith;
          spelled = places_spell (take (cycle_total (held_by a)) a.cycles) a.steps l (rings_ready (held_by a) (ready_sizes a t r) ready_writable).spelled;
        },
        steps_few,
      )

  -- ---- the length
  pub length_is : (h c s x y : ℕ) → h ≡ total head_width (take a.count (held_by a).cells) → c ≡ total spell_width (take t.cycles a.cycles)
      → s ≡ total spell_width (take t.steps a.steps)
      → x ≡ spell_width a.next → y ≡ spell_width a.count → x + (y + (h + ((c + s) + 16 * t.bends))) ≡ length (file_of (sheet_of (held_by a)))
  length_is h c s x y eh ec es ex ey =
      let n = cycle_total (held_by a) in
      let fc : c ≡ total spell_width (take n a.cycles) = ec ∙ ap (λ (m : ℕ). total spell_width (take m a.cycles)) (ready_cycles a t r) in
      let fs : s ≡ total spell_width (take (width_sum (take n a.cycles)) a.steps) = es
      ∙ ap (λ (m : ℕ). total spell_width (take m a.steps)) (ready_steps a t r) in
      let g : c + s ≡ length (spread cycle_bytes (cycles_from (take n a.cycles) a.steps)) = ap₂ ◌+◌ fc fs
      ∙ sym (rings_length (take n a.cycles) a.steps steps_long) in
      let b = ready_bends a t r in
      (λ i. ex i + (ey i + (eh i + (g i + 16 * b i)))) ∙ sym (file_bytes (held_by a) (ready_sizes a t r) ready_writable)

  pub length_small : length (file_of (sheet_of (held_by a))) ≤ 65536
  length_small = file_small (held_by a) (ready_sizes a t r) ready_writable

  -- ---- the cells
  held_points : PointsOf (held_by a).bends a.bx a.by
  held_points = record { first = r.long.bx; second = r.long.by; same = points_same a.bx a.by }

  pub ready_all : AllReady (held_by a).cells a.count a.bx a.by a.cycles a.steps
  ready_all = cells_ready (held_by a) (ready_sizes a t r) ready_writable a.bx a.by held_points

  -- the next id and the count, then the cells
  pub file_parts : file_of (sheet_of (held_by a)) ≡ (spell a.next ++ spell a.count)
      ++ spread cell_bytes (cells_of (take a.count (held_by a).cells) (cycles_from a.cycles a.steps) (positions_from a.bx a.by))
  file_parts =
      file_is (held_by a) (ready_sizes a t r) ready_writable
      ∙ ap (λ (l : List ℕ). (spell a.next ++ spell a.count) ++ l)
      (sym (cells_same (held_by a) (ready_sizes a t r) ready_writable a.bx a.by held_points))

  pub call_is : (l : List ℕ) → filled (file_of (sheet_of (held_by a))) l ≡ write_call (sheet_of (held_by a)) l
  call_is l =
      let e = true_of (sound_drawing (held_by a)) (ready_drawing a t r) in
      write_sound (held_by a) l e ∙ ap (λ (b : Bool). cond b (write_call (sheet_of (held_by a)) l) (unfilled 1 l)) e
