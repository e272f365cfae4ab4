-- `heads` meets its contract. The loop's invariant: the sum is that of the first i cells. Assumes nothing.
use Prim.Native.Nat.{ℕ, ◌+◌, ◌<◌}
use mathlib.Core.Path.{◌≡◌, refl, ap, sym, ◌∙◌, subst}
use mathlib.Core.List.{List}
use native.Mathlib.Omega.{arith}
use lib.Dec.{T}
use lib.ListN.{length, take}
use lib.Seq.{length-take-le, get_or-take}
use Rattle.complex.specs.Lists.{total}
use Rattle.store.specs.declared.Cell.{Cell}
use Rattle.store.proofs.Lists.{sum_more}
use Rattle.file_length.specs.Widths.{head_spells, head_width}
use Rattle.file_parts.proofs.Laying.{all_get}
use Rattle.file_length.proofs.Lengths.{total_most, head_most}
use Rattle.lent.specs.Arrays.{held_by}
use Rattle.lent.specs.Sheets.{seen}
use Rattle.lent.proofs.Held.{cells_length}
use Rattle.call_cells.specs.Rows.{past_cell}
use Rattle.call_cells.proofs.heads.Goals as goal

abbrev cells : (s : goal.After-loop-i) → List Cell
cells s = let a = s.args in (held_by (seen a.view.now)).cells

abbrev cells_2 : (s : goal.After-head_length-sum) → List Cell
cells_2 s = let a = s.args in (held_by (seen a.view.now)).cells

abbrev cells_3 : (s : goal.After-cell_at-c) → List Cell
cells_3 s = let a = s.args in (held_by (seen a.view.now)).cells

inside : (w : goal.After-head_length-sum) → w.loop-i.i < length (cells_2 w)
inside w =
    let h = w.loop-i-test.true in
    let f = w.requires.few in
    let z = w.requires.cells in
    omega arith

pub loop-i-init : goal.loop-i-init
loop-i-init c = (omega arith, refl)

pub cell_at-c-requires : goal.cell_at-c-requires
cell_at-c-requires c =
    let s = c in
    let f = s.requires.few in
    record {
      row_lt_cells_most = omega (arith, c.loop-i-test.true);
      ids_len = sym (cells_length _ s.args.view.now.ids.now) ∙ s.requires.cells;
    }

pub head_length-sum-requires : goal.head_length-sum-requires
head_length-sum-requires c =
    let w = c in
    let l = w.loop-i in
    let s = w in
    let n = s.args.n in
    let k : length (take n (cells_3 s)) ≡ n = length-take-le n (cells_3 s) (let f = s.requires.few in let z = s.requires.cells in omega arith) in
    subst (λ (x : Cell). T (head_spells x)) (get_or-take n (cells_3 s) l.i past_cell w.loop-i-test.true ∙ sym c.cell_at-c.ensures)
    (all_get head_spells (take n (cells_3 s)) l.i past_cell s.requires.spelled (omega arith))

pub overflow_add-sum : goal.overflow_add-sum
overflow_add-sum c =
    let w = c in
    let l = w.loop-i in
    let cs = cells_2 w in
    let h = inside w in
    let z = w.requires.cells in
    let m = total_most head_width 20 head_most (take l.i cs) in
    let k = length-take-le l.i cs (omega arith) in
    let v = head_most c.cell_at-c.result in
    let e = c.head_length-sum.ensures in
    record { fits = omega arith }

pub loop-i-preserved : goal.loop-i-preserved
loop-i-preserved c =
    let w = c in
    let l = w.loop-i in
    let e = c.head_length-sum.ensures ∙ ap head_width c.cell_at-c.ensures in
    (omega (arith, w.loop-i-test.true), (λ i. l.invariant.1 i + e i) ∙ sym (sum_more head_width (cells_2 w) l.i past_cell (inside w)))

pub returns : goal.returns
returns c =
    let l = c.loop-i in
    let s = c in
    let e : l.i ≡ s.args.n = omega arith in
    l.invariant.1 ∙ ap (λ (k : ℕ). total head_width (take k (cells s))) e
