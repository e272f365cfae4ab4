-- The end line of sound arrays. Assumes nothing.
use Prim.Native.Nat.{ℕ, ◌≤◌, ◌<◌}
use native.Mathlib.Omega.{arith}
use mir.Syntax.{w32}
use mir.Val.{SFits, of_z, to_z}
use mir.ValLaws.{to_z-of_z}
use mathlib.Core.Path.{◌≡◌, refl, sym, ap₂, ◌∙◌, subst}
use lib.Dec.{T}
use lib.IntN.{ℤ}
use lib.ListN.{length}
use Rattle.complex.specs.Euler.{euler}
use Rattle.store.specs.View.{sheet_of}
use Rattle.store.proofs.Stands.{stands, count_is}
use Rattle.sound.proofs.Meaning.{sound_fits}
use Rattle.lent.specs.Arrays.{Arrays, held_by, sound_arrays, totals_of, Lengths}
use Rattle.lent.proofs.Replies.{drawing_of}
use Rattle.lent.proofs.Sums.{ready_sizes}
use Rattle.text.specs.Texts.{last_most, end_text}
use Rattle.text.proofs.Puts.{end_few}
use Rattle.printing.specs.Lines.{last_text}

module _ (a : Arrays) (w : T (sound_arrays a)) (l : Lengths a) where
  cells_count : a.count ≡ length (sheet_of (held_by a)).cells
  cells_count =
      let z = ready_sizes a (totals_of a) (record { sound = w; long = l; sums = refl }) in
      let f = sound_fits (held_by a) (drawing_of a w) in
      count_is (held_by a) (sheet_of (held_by a)).cells (stands (held_by a) z f) z f.cells

  pub cells_few : a.count ≤ 256
  cells_few = (sound_fits (held_by a) (drawing_of a w)).cells

  -- v is the Euler number that the code found
  module _ (v : ℤ) (f : SFits w32 v) where
    pub last_text_lem : v ≡ euler (sheet_of (held_by a)).cells → end_text (to_z w32 (of_z w32 v)) a.count ≡ last_text (sheet_of (held_by a))
    last_text_lem e = ap₂ end_text (to_z-of_z w32 v f ∙ e) cells_count

    pub last_few : length (end_text (to_z w32 (of_z w32 v)) a.count) ≤ last_most
    last_few = let h = cells_few in end_few (to_z w32 (of_z w32 v)) a.count (subst (SFits w32) (sym (to_z-of_z w32 v f)) f) (omega arith)
