-- What holds of sound arrays whose sums are known. Assumes nothing.
use Prim.Native.Nat.{ℕ}
use mathlib.Core.Path.{◌≡◌, sym, ap, ◌∙◌, subst}
use mathlib.Core.Bool.{true}
use lib.Dec.{T}
use lib.ListN.{take}
use Rattle.complex.specs.Lists.{total}
use Rattle.complex.specs.Decode.{Command}
use Rattle.complex.specs.Answer.{no, asked3}
use Rattle.complex.specs.Sound.{sound}
use Rattle.store.specs.declared.Cell.{Cell}
use Rattle.store.specs.Sizes.{Sizes}
use Rattle.store.specs.Index.{Indexes}
use Rattle.store.specs.View.{sheet_of, Fits, bend_count, cycle_count, bend_total, cycle_total, step_total}
use Rattle.store.specs.Edits.{places_of}
use Rattle.store.proofs.Lists.{places_sum, width_places}
use Rattle.sound.specs.Soundness.{sound_drawing}
use Rattle.sound.specs.Looks.{Looks}
use Rattle.sound.proofs.Meaning.{sound_fits, sound_sheet_lem, looks}
use Rattle.answer.specs.declared.Totals.{Totals}
use Rattle.answer.specs.Late.{Small, Summed}
use Rattle.answer.proofs.Laws.{summed, totals_in, totals_small}
use Rattle.lent.specs.Arrays.{Arrays, held_by, rows_by, normal, totals_of, Lengths}
use Rattle.lent.specs.declared.Line.{Line}
use Rattle.lent.specs.Replies.{line_of, Ready, Obeyed}
use Rattle.lent.proofs.Held.{held_sizes, held_indexes}
use Rattle.lent.proofs.Replies.{rows_of, drawing_of, obeyed_no}

-- ---- the sums of the rows are those of the drawing
module _ (a : Arrays) (l : Lengths a) (n : normal a ≡ true) where
  pub bends_held : (totals_of a).bends ≡ bend_total (held_by a)
  bends_held = ap (total (places_of 0)) (held_indexes a l n).bends ∙ places_sum (λ (c : Cell). bend_count c.shape) (take a.count (held_by a).cells)

  pub cycles_held : (totals_of a).cycles ≡ cycle_total (held_by a)
  cycles_held = ap (total (places_of 0)) (held_indexes a l n).cycles ∙ places_sum (λ (c : Cell). cycle_count c.shape) (take a.count (held_by a).cells)

  pub steps_held : (totals_of a).steps ≡ step_total (held_by a)
  steps_held = ap (λ (k : ℕ). total (places_of 1) (take k a.cycles)) cycles_held ∙ width_places (take (cycle_total (held_by a)) a.cycles)

-- ---- sound arrays and their sums
module _ (a : Arrays) (t : Totals) (r : Ready a t) where
  pub ready_rows : normal a ≡ true
  ready_rows = rows_of a r.sound

  pub ready_drawing : T (sound_drawing (held_by a))
  ready_drawing = drawing_of a r.sound

  pub ready_sheet : T (sound (sheet_of (held_by a)))
  ready_sheet = sound_sheet_lem (held_by a) ready_drawing

  pub ready_sizes : Sizes (held_by a)
  ready_sizes = held_sizes a r.long

  pub ready_fits : Fits (held_by a)
  ready_fits = sound_fits (held_by a) ready_drawing

  pub ready_indexes : Indexes (held_by a) (rows_by a)
  ready_indexes = held_indexes a r.long ready_rows

  pub ready_looks : Looks (held_by a) (rows_by a)
  ready_looks = looks (held_by a) ready_sizes (rows_by a) ready_indexes ready_drawing

  pub ready_cells : t.cells ≡ a.count
  ready_cells = ap (λ (u : Totals). u.cells) r.sums

  pub ready_bends : t.bends ≡ bend_total (held_by a)
  ready_bends = ap (λ (u : Totals). u.bends) r.sums ∙ bends_held a r.long ready_rows

  pub ready_cycles : t.cycles ≡ cycle_total (held_by a)
  ready_cycles = ap (λ (u : Totals). u.cycles) r.sums ∙ cycles_held a r.long ready_rows

  pub ready_steps : t.steps ≡ step_total (held_by a)
  ready_steps = ap (λ (u : Totals). u.steps) r.sums ∙ steps_held a r.long ready_rows

  pub ready_summed : Summed a.bends a.counts a.count a.cycles
  ready_summed = summed (held_by a) ready_sizes ready_fits (rows_by a) ready_indexes

  -- the sums as the by-value laws name them
  pub ready_totals : t ≡ totals_in (held_by a) ready_sizes ready_fits (rows_by a) ready_indexes
  ready_totals = r.sums

  pub ready_small : Small t
  ready_small = subst Small (sym r.sums) (totals_small (held_by a) ready_sizes ready_fits (rows_by a) ready_indexes)

  -- a kind that refuses
  pub ready_no : (c : Command) (n : ℕ) (l : Line) → l ≡ line_of n → asked3 (sheet_of (held_by a)) c ≡ no n (sheet_of (held_by a)) → Obeyed a c a l
  ready_no = obeyed_no a r.sound
