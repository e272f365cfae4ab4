-- One cell after another, with the sums so far. Assumes nothing.
use Rattle.std.specs.Prelude.{Option, Some, None, Result, Ok, Err}
use Prim.Native.Nat.{ℕ, ◌+◌, ◌-◌, ◌<◌, ◌≤◌}
use mathlib.Core.Path.{◌≡◌, refl, ap, ap₂, sym, ◌∙◌}
use mathlib.Core.Bool.{Bool, true, false, cond}
use native.Mathlib.Omega.{arith}
use lib.Dec.{leb}
use lib.ListN.{take, get_or}
use borrow.Author.Tests.{leb-true}
use Rattle.number.specs.Said.{Said, done, no}
use Rattle.complex.specs.Sound.{cells_most, cycles_most, steps_most, bends_most, ids_end}
use Rattle.complex.specs.Visits.{id_right, bounds_right, visits}
use Rattle.complex.proofs.Bools.{both_true}
use Rattle.complex.proofs.Visits.{Visiting, visiting_turn, visiting_stop, visiting_end}
use Rattle.sound.specs.Rows.{all_from}
use Rattle.sound.proofs.Testing.{and_true, and_false, Counting, counting_turn, counting_fail, counting_end}
use Rattle.answer.specs.declared.Totals.{Totals}
use Rattle.lent.specs.Arrays.{Arrays, position_in, normal_at, totals_of, Lengths}
use Rattle.lent_cycles.specs.Ring.{steps_upto}
use Rattle.lent_row.specs.Row.{places_upto, rows_in, row_right, bare_of, row_says, totals_upto, RowLengths, Upto}
use Rattle.lent_figure.specs.Figure.{figure_right}
use Rattle.lent_row.proofs.Rows.{said_no, said_done, places_more}
use Rattle.lent_sound.specs.Walk.{bend_right, right_at, walk_right, walk_visits, walk_says, visit_says}

-- ---- the next id and the number of cells
pub bounds_few : (next count : ℕ) → bounds_right next count ≡ true → count ≤ cells_most
bounds_few next count e = leb-true count cells_most (both_true (leb next ids_end) _ (both_true (leb 1 next) _ e).1).1

-- ---- rows, one after another
module _ (a : Arrays) (l : RowLengths a) (few : a.count ≤ cells_most) where
  pub rows_start : Upto a 0 (record { cells = 0; cycles = 0; steps = 0; bends = 0 })
  rows_start = record { few = few; sized = l; sums = refl; bends = omega arith; cycles = omega arith; steps = omega arith }

  module _ (i : ℕ) (h : i < a.count) (r : Option Totals) (e : row_says r ≡ cond (row_right a i) (done (totals_upto a (i + 1))) (no 1)) where
    pub row_wrong : r ≡ None → row_right a i ≡ false
    row_wrong q = said_no (row_right a i) (totals_upto a (i + 1)) (ap row_says (sym q) ∙ e)

    module _ (t : Totals) (q : r ≡ Some t) where
      told : (row_right a i ≡ true) × (t ≡ totals_upto a (i + 1))
      told = said_done (row_right a i) t (totals_upto a (i + 1)) (ap row_says (sym q) ∙ e)

      pub row_holds : row_right a i ≡ true
      row_holds = told.0

      pub rows_turn : Upto a (i + 1) t
      rows_turn =
          let w = told in
          let b1 = both_true (id_right a.next a.ids i) _ w.0 in
          let b2 = both_true (normal_at a.kinds a.starts a.ends a.bends a.counts i) _ b1.1 in
          let b3 = both_true (figure_right (rows_in a) (take a.count a.bends) i (position_in a.px a.py i)) _ b2.1 in
          let b4 = both_true (leb (places_upto a.bends (i + 1)) bends_most) _ b3.1 in
          let b5 = both_true (leb (places_upto a.counts (i + 1)) cycles_most) _ b4.1 in
          let k = both_true (leb (steps_upto a.cycles (places_upto a.counts i + get_or a.counts i 0)) steps_most) _ b5.1 in
          let m = places_more a.counts i (omega (arith, h, few, l.long.counts)) in
          let x = leb-true (places_upto a.bends (i + 1)) bends_most b4.0 in
          let y = leb-true (places_upto a.counts (i + 1)) cycles_most b5.0 in
          let z = leb-true (steps_upto a.cycles (places_upto a.counts i + get_or a.counts i 0)) steps_most k.0 in
          let xt = ap (λ (s : Totals). s.bends) w.1 in
          let yt = ap (λ (s : Totals). s.cycles) w.1 in
          let zt = ap (λ (s : Totals). s.steps) w.1 ∙ ap (steps_upto a.cycles) m in
          record { few = few; sized = l; sums = w.1; bends = omega (arith, x, xt); cycles = omega (arith, y, yt); steps = omega (arith, z, zt) }

-- ---- cells, one after another
pub bare_long : (a : Arrays) → Lengths a → RowLengths (bare_of a)
bare_long a l = record { xs = a.bx; ys = a.by; long = l }

module _ (look : Bool) (a : Arrays) (l : Lengths a) where
  abbrev said_of : Bool → Said Totals
  said_of b = cond b (done (totals_of a)) (no 1)

  -- the walk ends, having visited v: with a fault, or with the sums t
  abbrev Ends : Said Totals → ℕ → Type 0
  Ends w v = (w ≡ said_of (walk_right look a)) × (v ≡ walk_visits look a)

  pub walk_out : bounds_right a.next a.count ≡ false → Ends (no 1) 0
  walk_out e = (sym (ap said_of (and_false _ e)), sym (ap (λ (b : Bool). cond b (visits (right_at look a) 0 a.count) 0) e))

  module _ (b : bounds_right a.next a.count ≡ true) where
    visits_are : visits (right_at look a) 0 a.count ≡ walk_visits look a
    visits_are = sym (ap (λ (t : Bool). cond t (visits (right_at look a) 0 a.count) 0) b)

    module _ (i : ℕ) (h : i < a.count) (g : Counting (right_at look a) a.count i) (s : Visiting (right_at look a) a.count i) where
      cell_no : right_at look a i ≡ false → Ends (no 1) (i + 1)
      cell_no e = (
        sym (ap said_of (and_true _ b ∙ sym (counting_fail (right_at look a) a.count i h g e))),
        visiting_stop (right_at look a) a.count i h s e ∙ visits_are,
      )

      pub walk_fault : row_right a i ≡ false → Ends (no 1) (i + 1)
      walk_fault e = cell_no (and_false _ e)

      -- the bends of the row are those between the sums
      module _ (w : row_right a i ≡ true) (t u : Totals) (ut : Upto (bare_of a) i t) (uu : Upto (bare_of a) (i + 1) u) (r : Bool)
          (e : r ≡ cond look (all_from (bend_right a.bx a.by) t.bends (u.bends - t.bends)) true) where
        cell_is : right_at look a i ≡ r
        cell_is =
            let m = places_more a.bends i (omega (arith, h, ut.few, l.bends)) in
            let x : t.bends ≡ places_upto a.bends i = ap (λ (s : Totals). s.bends) ut.sums in
            let y : u.bends ≡ places_upto a.bends (i + 1) = ap (λ (s : Totals). s.bends) uu.sums in
            let z : u.bends - t.bends ≡ get_or a.bends i 0 = omega (arith, m, x, y) in
            and_true _ w ∙ sym (e ∙ ap₂ (λ (k n : ℕ). cond look (all_from (bend_right a.bx a.by) k n) true) x z)

        pub walk_bent : r ≡ false → Ends (no 1) u.cells
        walk_bent f = let w = cell_no (cell_is ∙ f) in (w.0, ap (λ (s : Totals). s.cells) uu.sums ∙ w.1)

        pub walk_turn : r ≡ true → Counting (right_at look a) a.count (i + 1) × Visiting (right_at look a) a.count (i + 1)
        walk_turn f = (
          counting_turn (right_at look a) a.count i h g (cell_is ∙ f),
          visiting_turn (right_at look a) a.count i h s (cell_is ∙ f),
        )

    pub walk_end : (i : ℕ) (t : Totals) → i ≡ a.count → Counting (right_at look a) a.count i → Visiting (right_at look a) a.count i
        → Upto (bare_of a) i t → Ends (done t) t.cells
    walk_end i t e g s u = (
      ap done (u.sums ∙ ap (totals_upto a) e)
          ∙ sym (ap said_of (and_true _ b ∙ sym (counting_end (right_at look a) a.count i e g))),
      ap (λ (x : Totals). x.cells) u.sums ∙ visiting_end (right_at look a) a.count i e s ∙ visits_are,
    )

-- ---- what the walk said
module _ (x : Said Totals) (r : Result Totals ℕ) (e : visit_says r ≡ x) where
  pub visited_no : (n : ℕ) → r ≡ Err n → no 1 ≡ x
  visited_no n q = ap visit_says (sym q) ∙ e

  pub visited_yes : (t : Totals) → r ≡ Ok t → done t ≡ x
  visited_yes t q = ap visit_says (sym q) ∙ e

module _ (b : Bool) (t : Totals) (r : Option Totals) (e : walk_says r ≡ cond b (done t) (no 1)) where
  pub walked_no : r ≡ None → false ≡ b
  walked_no q = sym (said_no b t (ap walk_says (sym q) ∙ e))

  pub walked_yes : (u : Totals) → r ≡ Some u → true ≡ b
  walked_yes u q = sym (said_done b u t (ap walk_says (sym q) ∙ e)).0
