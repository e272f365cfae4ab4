-- What is asked of one row, part by part. Assumes nothing.
use Prim.Native.Nat.{ℕ, zero, suc, ◌+◌, ◌<◌, ◌≤◌}
use mathlib.Core.Path.{◌≡◌, refl, ap, ap₂, sym, ◌∙◌}
use mathlib.Core.Bool.{Bool, true, ◌&&◌, cond}
use native.Mathlib.Omega.{arith}
use lib.Dec.{eqb, leb}
use lib.ListN.{length, take, get_or}
use borrow.Author.Tests.{ne_eqb}
use Rattle.coordinate.specs.declared.Position.{Position}
use Rattle.coordinate.specs.Bounds.{within}
use Rattle.complex.specs.Lists.{all}
use Rattle.complex.specs.Sound.{cells_most, cycles_most, steps_most, bends_most}
use Rattle.complex.specs.Visits.{id_right}
use Rattle.complex.proofs.Bools.{both_true}
use Rattle.store.specs.Edits.{places_of}
use Rattle.store.proofs.Lists.{sum_le}
use Rattle.sound.specs.Soundness.{placed}
use Rattle.sound.specs.Rows.{row_good, all_from}
use Rattle.lent.specs.Arrays.{Arrays, shape_by, position_in, held_by, normal_at, Lengths}
use Rattle.lent.proofs.Held.{positions_length, positions_at_lem}
use Rattle.lent_cycles.specs.Ring.{steps_upto, cycle_right}
use Rattle.lent_row.specs.Row.{places_upto, rows_in, row_right}
use Rattle.lent_row.proofs.Rows.{places_more}
use Rattle.lent_figure.specs.Figure.{figure_right}
use Rattle.lent_sound.specs.Walk.{bend_right, right_at}
use Rattle.lent_sound.proofs.Ranges.{range_of, first_at_lem}

-- a vertex lies in bounds
pub row_placed : (k s e b c : ℕ) (p : Position) → cond (eqb k 0) (within p) true ≡ placed (shape_by k s e b c p)
row_placed zero s e b c p = refl
row_placed (suc zero) s e b c p = refl
row_placed (suc (suc zero)) s e b c p = refl
row_placed (suc (suc (suc k))) s e b c p = ap (λ (t : Bool). cond t (within p) true) (ne_eqb (suc (suc (suc k))) 0 (λ q. omega (arith, q)))

pub record Parts (a : Arrays) (i : ℕ) : Type 0 where
  pub id : id_right a.next a.ids i ≡ true
  pub row : normal_at a.kinds a.starts a.ends a.bends a.counts i ≡ true
  pub bend_sum : leb (places_upto a.bends (i + 1)) bends_most ≡ true
  pub cycle_sum : leb (places_upto a.counts (i + 1)) cycles_most ≡ true
  pub edge : row_good (rows_in a) (take a.count a.bends) i ≡ true
  pub vertex : cond (eqb (get_or (take a.count a.kinds) i 0) 0) (within (position_in a.px a.py i)) true ≡ true
  pub bends : all_from (bend_right a.bx a.by) (places_upto a.bends i) (get_or a.bends i 0) ≡ true
  pub step_sum : leb (steps_upto a.cycles (places_upto a.counts i + get_or a.counts i 0)) steps_most ≡ true
  pub cycles : all_from (cycle_right (rows_in a) a.cycles a.steps) (places_upto a.counts i) (get_or a.counts i 0) ≡ true

pub parts_of_lem : (a : Arrays) (i : ℕ) → right_at true a i ≡ true → Parts a i
parts_of_lem a i e =
    let b0 = both_true (row_right a i) _ e in
    let b1 = both_true (id_right a.next a.ids i) _ b0.0 in
    let b2 = both_true (normal_at a.kinds a.starts a.ends a.bends a.counts i) _ b1.1 in
    let b3 = both_true (figure_right (rows_in a) (take a.count a.bends) i (position_in a.px a.py i)) _ b2.1 in
    let b4 = both_true (leb (places_upto a.bends (i + 1)) bends_most) _ b3.1 in
    let b5 = both_true (leb (places_upto a.counts (i + 1)) cycles_most) _ b4.1 in
    let f = both_true (row_good (rows_in a) (take a.count a.bends) i) _ b3.0 in
    let k = both_true (leb (steps_upto a.cycles (places_upto a.counts i + get_or a.counts i 0)) steps_most) _ b5.1 in
    record { id = b1.0; row = b2.0; bend_sum = b4.0; cycle_sum = b5.0; edge = f.0; vertex = f.1; bends = b0.1; step_sum = k.0; cycles = k.1 }

pub parts_right : (a : Arrays) (i : ℕ) → Parts a i → right_at true a i ≡ true
parts_right a i q =
    ap₂ ◌&&◌
    (ap₂ ◌&&◌ q.id (ap₂ ◌&&◌ q.row (ap₂ ◌&&◌ (ap₂ ◌&&◌ q.edge q.vertex)
    (ap₂ ◌&&◌ q.bend_sum (ap₂ ◌&&◌ q.cycle_sum (ap₂ ◌&&◌ q.step_sum q.cycles))))))
    q.bends

pub row_bends : (a : Arrays) (i : ℕ) → row_right a i ≡ true → leb (places_upto a.bends (i + 1)) bends_most ≡ true
row_bends a i e =
    let b1 = both_true (id_right a.next a.ids i) _ e in
    let b2 = both_true (normal_at a.kinds a.starts a.ends a.bends a.counts i) _ b1.1 in
    let b3 = both_true (figure_right (rows_in a) (take a.count a.bends) i (position_in a.px a.py i)) _ b2.1 in
    (both_true (leb (places_upto a.bends (i + 1)) bends_most) _ b3.1).0

module _ (a : Arrays) (l : Lengths a) where
  pub bend_in : (j : ℕ) → j < bends_most → get_or (held_by a).bends j (position_in a.px a.py 0) ≡ position_in a.bx a.by j
  bend_in j h = positions_at_lem a.bx a.by j (position_in a.px a.py 0) (omega (arith, l.bx, h)) (omega (arith, l.by, h))

  pub bends_long : length (held_by a).bends ≡ bends_most
  bends_long = positions_length a.bx a.by (l.bx ∙ sym l.by) ∙ l.bx

  -- where all bends in use lie in bounds, those of each row do
  pub bends_in_lem : a.count ≤ cells_most → places_upto a.bends a.count ≤ bends_most
      → all within (take (places_upto a.bends a.count) (held_by a).bends) ≡ true
      → (i : ℕ) → i < a.count → all_from (bend_right a.bx a.by) (places_upto a.bends i) (get_or a.bends i 0) ≡ true
  bends_in_lem few most e i h =
      let m = places_more a.bends i (omega (arith, l.bends, h, few)) in
      let k = sum_le (places_of 0) a.bends (i + 1) a.count (omega (arith, h)) in
      range_of (bend_right a.bx a.by) (places_upto a.bends i) (get_or a.bends i 0)
      (λ j u v.
      ap within (sym (bend_in j (omega (arith, v, m, k, most))))
      ∙ first_at_lem within (position_in a.px a.py 0) (held_by a).bends (places_upto a.bends a.count) j (omega (arith, bends_long, most))
      (omega (arith, v, m, k)) e)
