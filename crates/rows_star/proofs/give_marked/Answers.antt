-- `rows_star::give_marked` meets its contract. Assumes nothing.
use Prim.Native.Nat.{ℕ}
use mathlib.Core.Path.{◌≡◌, ap, sym, ◌∙◌}
use native.Mathlib.Omega.{arith}
use mathlib.Core.List.{◌++◌}
use lib.ListN.{length, take, drop}
use lib.Seq.{length-take-le}
use Rattle.rows_star.specs.Marks.{picked}
use Rattle.rows_star.proofs.Marking.{picked_length, filled_room, filled_short}
use borrow.Author.Rules.{rules}
use Rattle.rows_star.proofs.give_marked.Goals as goal

pub returns-then-k-buffer : goal.returns-then-k-buffer
returns-then-k-buffer c =
    let k = c in
    let a = k.args in
    let xs = picked (take a.n a.marks.now) (take a.n a.ids.now) in
    let e : length xs ≡ k.count_marked-k.result =
    picked_length (take a.n a.marks.now) (take a.n a.ids.now)
    (length-take-le a.n a.marks.now (omega arith) ∙ sym (length-take-le a.n a.ids.now (omega arith)))
    ∙ sym k.count_marked-k.ensures
    in
    filled_room xs a.buffer.now k.count_marked-k.result (sym e) (omega arith) _
    (c.list_marked.ensures ∙ ap (λ (n : ℕ). xs ++ drop n a.buffer.now) (sym k.count_marked-k.ensures))

pub returns : goal.returns
returns c =
    let k = c in
    let a = k.args in
    let xs = picked (take a.n a.marks.now) (take a.n a.ids.now) in
    let e : length xs ≡ k.count_marked-k.result =
    picked_length (take a.n a.marks.now) (take a.n a.ids.now)
    (length-take-le a.n a.marks.now (omega arith) ∙ sym (length-take-le a.n a.ids.now (omega arith)))
    ∙ sym k.count_marked-k.ensures
    in
    filled_short xs a.buffer.now k.count_marked-k.result (sym e) (omega arith)
