-- The Euler number that the rows show is that of the sheet. Assumes nothing.
use Prim.Native.Nat.{◌+◌}
use mathlib.Core.Path.{◌≡◌, refl, ap, ap₂, sym, ◌∙◌}
use mathlib.Core.List.{List, [], ◌∷◌}
use mathlib.Core.Bool.{Bool, cond}
use lib.Dec.{T}
use lib.IntN.{pos, sub_ℕ}
use lib.ListN.{take}
use Rattle.complex.specs.Lists.{total}
use Rattle.complex.specs.Cells.{Figure, vertex, open_edge, closed_edge, face, LiveCell}
use Rattle.complex.specs.Calls.{euler_call}
use Rattle.complex.specs.Sound.{over}
use Rattle.complex.specs.Euler.{euler}
use Rattle.complex.proofs.Bools.{true_of}
use Rattle.complex.proofs.Gains.{gain, loss, euler_sub}
use Rattle.store.specs.declared.Drawing.{Drawing}
use Rattle.store.specs.declared.Index.{Index}
use Rattle.store.specs.Sizes.{Sizes}
use Rattle.store.specs.View.{sheet_of, Fits, cycle_count}
use Rattle.store.specs.Places.{shape_of}
use Rattle.store.specs.Index.{kind_of, Indexes}
use Rattle.sound.specs.Soundness.{sound_drawing}
use Rattle.sound.proofs.Parts.{kind_row, cycle_row}
use Rattle.sound.proofs.Meaning.{kinds_are, cycles_are}
use Rattle.rows_euler.specs.Shares.{gain_in, loss_in, losses_in, euler_in}
use Rattle.rows_euler.specs.Calls.{euler_of}

gain_shape : (s : Figure) → gain_in (kind_of (shape_of s)) ≡ gain s
gain_shape (vertex p) = refl
gain_shape (open_edge a b bs) = refl
gain_shape (closed_edge bs) = refl
gain_shape (face ks) = refl

loss_shape : (s : Figure) → loss_in (kind_of (shape_of s)) (cycle_count (shape_of s)) ≡ loss s
loss_shape (vertex p) = refl
loss_shape (open_edge a b bs) = refl
loss_shape (closed_edge bs) = refl
loss_shape (face ks) = refl

gains_row : (xs : List LiveCell) → total gain_in (kind_row xs) ≡ over gain xs
gains_row [] = refl
gains_row (x ∷ xs) = ap₂ ◌+◌ (gain_shape x.figure) (gains_row xs)

losses_row : (xs : List LiveCell) → losses_in (kind_row xs) (cycle_row xs) ≡ over loss xs
losses_row [] = refl
losses_row (x ∷ xs) = ap₂ ◌+◌ (loss_shape x.figure) (losses_row xs)

euler_row : (xs : List LiveCell) → euler_in (kind_row xs) (cycle_row xs) ≡ euler xs
euler_row xs = ap₂ sub_ℕ (gains_row xs) (losses_row xs) ∙ sym (euler_sub xs)

module _ (d : Drawing) (z : Sizes d) (f : Fits d) (t : Index) (x : Indexes d t) where
  pub euler_meant : euler_in (take d.count t.kinds) (take d.count t.cycles) ≡ euler (sheet_of d).cells
  euler_meant = ap₂ euler_in (kinds_are d z f t x) (cycles_are d z f t x) ∙ euler_row (sheet_of d).cells

-- the answer to a sound drawing is that to its sheet
pub euler_of_sheet : (d : Drawing) → T (sound_drawing d) → euler_of d ≡ euler_call (sheet_of d)
unfolding euler_of
euler_of_sheet d s = ap (λ (b : Bool). cond b (euler_call (sheet_of d)) (record { number = 1; value = pos 0 })) (true_of (sound_drawing d) s)
