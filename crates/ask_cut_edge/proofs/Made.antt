-- Cells that come after those that stay: room for them, and what they make. Assumes nothing.
use Prim.Native.Nat.{ℕ}
use mathlib.Core.Path.{◌≡◌, sym, ap, ◌∙◌, subst}
use mathlib.Core.Bool.{Bool}
use mathlib.Core.List.{List}
use lib.Dec.{T, leb}
use Rattle.complex.specs.Cells.{Figure, Sheet}
use Rattle.complex.specs.Edits.{rebuild}
use Rattle.complex.specs.Sound.{ids_end, ceilings}
use Rattle.rows_new.specs.Appends.{appended_all, remade, RoomIn}
use Rattle.rows_new.proofs.Appended.{appended_each, appended_each_lem}
use Rattle.rows_new.proofs.Rooms.{room_rebuilt}

-- t is s rebuilt, u has what stays of s, and the new cells come after it
module _ (s : Sheet) (p : ℕ → Bool) (f : ℕ → Figure → Figure) (new : List Figure) (t : Sheet) (et : t ≡ rebuild p f new s) (u : Sheet)
    (eu : u ≡ remade p f s) where
  pub made_room : T (leb t.next ids_end) → T (ceilings t.cells) → RoomIn u new
  made_room hi hs =
      subst (λ (x : Sheet). RoomIn x new) (sym eu)
      (room_rebuilt p f new s (subst (λ (x : Sheet). T (leb x.next ids_end)) et hi) (subst (λ (x : Sheet). T (ceilings x.cells)) et hs))

  pub made_is : appended_each new u ≡ t
  made_is = appended_each_lem new u ∙ ap (appended_all new) eu ∙ sym et
