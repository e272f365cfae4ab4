-- 06: the arrays without a cell and its star. Assumes nothing.
use Prim.Native.Nat.{ℕ, ◌-◌, ◌<◌}
use mathlib.Core.Path.{◌≡◌, sym, ◌∙◌}
use mathlib.Core.Bool.{Bool, true}
use mathlib.Core.List.{List}
use lib.Dec.{T}
use lib.ListN.{take, set}
use borrow.Author.Tests.{lt-ltb}
use Rattle.complex.specs.Decode.{delete}
use Rattle.store.specs.Index.{row_of}
use Rattle.rows_star.specs.Marks.{star_marks}
use Rattle.law_move_delete.proofs.Edit.{delete_passed, delete_live, delete_new, delete_change, delete_result, edit_answers}
use Rattle.lent.specs.Arrays.{Arrays, held_by, rows_by, sound_arrays, Lengths}
use Rattle.lent.proofs.Held.{held_sizes, held_indexes}
use Rattle.lent.specs.declared.Line.{Line}
use Rattle.lent.specs.Replies.{Obeyed}
use Rattle.lent.proofs.Replies.{rows_of, drawing_of}
use Rattle.kernel_keep.specs.Keeps.{Keeps}
use Rattle.kernel_keep.proofs.Less.{obeyed_less}

module _ (a : Arrays) (l : Lengths a) (w : T (sound_arrays a)) (i row : ℕ) (er : row ≡ row_of i (take a.count a.ids)) (h : row < a.count)
    (dead : List Bool)
    (md : take a.count dead ≡ star_marks (take a.count a.ids) (take a.count a.kinds) (take a.count a.starts) (take a.count a.ends)
    (take a.count a.counts) a.cycles a.steps i) where
  pub obeyed_deleted : (b : Arrays) → Keeps (set dead row true) a b → b.next ≡ a.next → (k : Line)
      → k ≡ record { number = 0; first = 0; new = 0; removed = a.count - b.count } → Obeyed a (delete i) b k
  obeyed_deleted b p e k ek =
      let d = held_by a in
      let z = held_sizes a l in
      let x = held_indexes a l (rows_of a w) in
      let s = drawing_of a w in
      obeyed_less a (delete i) b e p.rows
      (edit_answers d z s (delete i) (delete_new d i) (delete_change d i)
      (delete_passed d i (sym (delete_live d z s (rows_by a) x i row er) ∙ lt-ltb row a.count h))
      (held_by b) p.sizes p.fits (p.sheet ∙ delete_result d z s (rows_by a) x i row er h dead md)) k ek
