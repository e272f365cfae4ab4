-- From the questions to the answer in memory. Assumes nothing.
use Prim.Native.Nat.{ℕ}
use native.Mathlib.Omega.{arith}
use mathlib.Core.Path.{◌≡◌, sym, ap, ◌∙◌, subst}
use lib.ListN.{take}
use Rattle.complex.specs.Lists.{total}
use Rattle.complex.specs.Decode.{Command}
use Rattle.answer.specs.Sizes.{sized, sizes_of, new_cells, change_of, more_less, changed_by, sizes_after, sizes_fit}
use Rattle.complex.specs.Answer.{no, asked3}
use Rattle.answer.proofs.SizesAfter.{next_after, sizes_after_lem}
use Rattle.store.specs.declared.Drawing.{Drawing}
use Rattle.store.specs.Sizes.{Sizes}
use Rattle.store.specs.declared.Cell.{Cell}
use Rattle.store.specs.declared.Index.{Index}
use Rattle.store.specs.Index.{Indexes}
use Rattle.store.specs.View.{sheet_of, Fits, bend_count, cycle_count, bend_total, cycle_total, step_total}
use Rattle.store.specs.Edits.{places_of}
use Rattle.store.proofs.Lists.{places_sum, width_places}
use Rattle.store.proofs.Stands.{stands, count_is, cycle_total_lem, bend_total_lem, step_total_lem}
use Rattle.rows_new.proofs.Rooms.{over_cycles, over_steps, over_bends}
use Rattle.answer.specs.declared.Answer.{Answer}
use Rattle.answer.specs.declared.Totals.{Totals}
use Rattle.answer.specs.Late.{sizes_by, Small, Summed}
use Rattle.answer.specs.Answers.{said_by, refusal, Answers}

sizes_equal : {a b c d e f g h : ℕ} → a ≡ e → b ≡ f → c ≡ g → d ≡ h → sized a b c d ≡ sized e f g h
sizes_equal p q r s = λ i. sized (p i) (q i) (r i) (s i)

-- ---- a no
pub answers_no : (d : Drawing) → Fits d → (c : Command) (n : ℕ) (r : Answer) → r ≡ refusal d n → asked3 (sheet_of d) c ≡ no n (sheet_of d) → Answers d c r
answers_no d f c n r e q =
    record {
      said = ap said_by e ∙ sym q;
      back = λ z. ap (λ (a : Answer). a.drawing) e;
      fits = subst Fits (sym (ap (λ (a : Answer). a.drawing) e)) f;
    }

-- ---- the totals of a drawing are its sizes
module _ (d : Drawing) (z : Sizes d) (f : Fits d) (ix : Index) (x : Indexes d ix) where
  bend_places : total (places_of 0) (take d.count ix.bends) ≡ bend_total d
  bend_places = ap (total (places_of 0)) x.bends ∙ places_sum (λ (c : Cell). bend_count c.shape) (take d.count d.cells)

  cycle_places : total (places_of 0) (take d.count ix.cycles) ≡ cycle_total d
  cycle_places = ap (total (places_of 0)) x.cycles ∙ places_sum (λ (c : Cell). cycle_count c.shape) (take d.count d.cells)

  step_places : total (places_of 1) (take (total (places_of 0) (take d.count ix.cycles)) d.cycles) ≡ step_total d
  step_places = ap (λ (n : ℕ). total (places_of 1) (take n d.cycles)) cycle_places ∙ width_places (take (cycle_total d) d.cycles)

  pub summed : Summed ix.bends ix.cycles d.count d.cycles
  summed =
      let s = x.sizes in
      let a = bend_places in
      let b = cycle_places in
      let e = step_places in
      let h = f.cells in
      record {
        bend_rows = omega (arith, s.4);
        cycle_rows = omega (arith, s.5);
        bend_sum = omega (arith, f.bends);
        cycle_sum = omega (arith, f.cycles);
        cycle_room = z.cycles;
        step_sum = omega (arith, f.steps);
      }

  abbrev pub totals_in : Totals
  totals_in =
      record {
        cells = d.count;
        cycles = total (places_of 0) (take d.count ix.cycles);
        steps = total (places_of 1) (take (total (places_of 0) (take d.count ix.cycles)) d.cycles);
        bends = total (places_of 0) (take d.count ix.bends);
      }

  pub totals_are_lem : sizes_by totals_in ≡ sizes_of (sheet_of d).cells
  totals_are_lem =
      let xs = (sheet_of d).cells in
      let s = stands d z f in
      sizes_equal
      (count_is d xs s z f.cells)
      (cycle_places ∙ cycle_total_lem d xs s ∙ sym (over_cycles xs))
      (step_places ∙ step_total_lem d xs s ∙ sym (over_steps xs))
      (bend_places ∙ bend_total_lem d xs s ∙ sym (over_bends xs))

  pub totals_small : Small totals_in
  totals_small =
      let a = bend_places in
      let b = cycle_places in
      let e = step_places in
      record { cells = omega (arith, f.cells); cycles = omega (arith, f.cycles); steps = omega (arith, f.steps); bends = omega (arith, f.bends) }
