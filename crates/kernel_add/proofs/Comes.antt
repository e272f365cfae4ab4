-- A cell that comes: the answer, where 3 to 6 got a yes. Assumes nothing.
use Prim.Native.Nat.{ℕ, ◌+◌, ◌-◌}
use native.Mathlib.Omega.{arith}
use mathlib.Core.Path.{◌≡◌, refl, sym, ap, ◌∙◌, subst}
use mathlib.Core.Bool.{true, cond}
use mathlib.Core.List.{List}
use lib.Dec.{eqb}
use lib.ListN.{set}
use Rattle.complex.specs.Cells.{Figure}
use Rattle.complex.specs.Sound.{cycles_in, steps_in, bends_in}
use Rattle.complex.specs.Decode.{create}
use Rattle.complex.proofs.Asked.{Passed}
use Rattle.store.specs.declared.Drawing.{Drawing}
use Rattle.store.specs.View.{sheet_of}
use Rattle.rows_new.specs.Appends.{CellRoom}
use Rattle.rows_new.proofs.Bends.{Grew}
use Rattle.answer.specs.declared.Totals.{Totals}
use Rattle.answer.specs.Sizes.{sized, nothing, more_less, changed_by}
use Rattle.answer.specs.Late.{sizes_by, late_no}
use Rattle.answer.specs.Answers.{outcome}
use Rattle.ask_create.proofs.Create.{cell_refuses, cell_room, cell_answers}
use Rattle.lent.specs.Arrays.{Arrays, held_by, rows_by, normal, Lengths}
use Rattle.lent.specs.declared.Line.{Line}
use Rattle.lent.specs.Replies.{line_of, answer_by, Ready, Obeyed}
use Rattle.lent.proofs.Held.{held_sizes}
use Rattle.lent.proofs.Sums.{ready_rows, ready_drawing, ready_sizes, ready_indexes, ready_totals}
use Rattle.lent.specs.Growing.{with_row}
use Rattle.kernel_add.specs.Comes.{one_new}

-- what `add_row` says of b, with the old numbers of cycles, and of o
abbrev RowIn : Arrays → Arrays → List ℕ → ℕ → ℕ → ℕ → ℕ → ℕ → Type 0
RowIn o b old k s e n c =
    (o.next ≡ b.next + 1) × ((o.count ≡ b.count + 1) × ((o.ids ≡ set b.ids b.count b.next)
    × ((o.kinds ≡ set b.kinds b.count k) × ((o.starts ≡ set b.starts b.count s) × ((o.ends ≡ set b.ends b.count e)
    × ((o.bends ≡ set b.bends b.count n) × (o.counts ≡ set old b.count c)))))))

-- o are b with that row
pub row_added : (o b : Arrays) (k s e n c : ℕ) → RowIn o b b.counts k s e n c
    → o.cycles ≡ b.cycles → o.steps ≡ b.steps → o.bx ≡ b.bx → o.by ≡ b.by → o ≡ with_row b k s e n c o.px o.py
row_added o b k s e n c w cs ss xs ys =
    let y = w.1.1 in
    λ i. record {
      next = w.0 i;
      count = w.1.0 i;
      ids = y.0 i;
      kinds = y.1.0 i;
      starts = y.1.1.0 i;
      ends = y.1.1.1.0 i;
      bends = y.1.1.1.1.0 i;
      counts = y.1.1.1.1.1 i;
      px = o.px;
      py = o.py;
      cycles = cs i;
      steps = ss i;
      bx = xs i;
      by = ys i;
    }

-- the same, where the old numbers of cycles are those of b
pub row_recounted : (o b : Arrays) (old : List ℕ) (k s e n c : ℕ) → old ≡ b.counts
    → RowIn o b old k s e n c
    → o.cycles ≡ b.cycles → o.steps ≡ b.steps → o.bx ≡ b.bx → o.by ≡ b.by → o ≡ with_row b k s e n c o.px o.py
row_recounted o b old k s e n c h w =
    let y = w.1.1.1 in
    row_added o b k s e n c
    (w.0, (w.1.0, (w.1.1.0, (y.0, (y.1.0, (y.1.1.0, (y.1.1.1.0, y.1.1.1.1 ∙ ap (λ (l : List ℕ). set l b.count c) h)))))))

one_outcome : (next n : ℕ) (out : Drawing) → out.next ≡ next + 1 → out.count ≡ n + 1 → answer_by (one_new next) out ≡ outcome next n out
one_outcome next n out e f =
    let g : out.next - next ≡ 1 = omega (arith, e) in
    let h : n + (out.next - next) - out.count ≡ 0 = omega (arith, e, f) in
    λ i. record { number = 0; first = cond (eqb (sym g i) 0) 0 next; new = sym g i; removed = sym h i; drawing = out }

-- n is what `cell_asked` answers for the figure x
module _ (a : Arrays) (t : Totals) (r : Ready a t) (x : Figure) (p : Passed (sheet_of (held_by a)) (create x)) (n : ℕ)
    (en : n ≡ late_no a.next 1 (changed_by (sizes_by t) (more_less (sized 1 (cycles_in x) (steps_in x) (bends_in x)) nothing))) where
  pub obeyed_full : (n ≡ 0 → ⊥) → (k : Line) → k ≡ line_of n → Obeyed a (create x) a k
  obeyed_full nz k e =
      let d = held_by a in
      record {
        answers =
            cell_refuses d (ready_sizes a t r) (ready_drawing a t r) x p (rows_by a) (ready_indexes a t r) t (ready_totals a t r) n en nz
            (answer_by k d) (ap (λ (u : Line). answer_by u d) e);
        back = λ z. refl;
        rows = ready_rows a t r;
      }

  module _ (z : n ≡ 0) where
    pub came_room : CellRoom (held_by a) x
    came_room = cell_room (held_by a) (ready_sizes a t r) (ready_drawing a t r) x p (rows_by a) (ready_indexes a t r) t (ready_totals a t r) n en z

    -- b are the arrays with the cell
    pub obeyed_came : (b : Arrays) → Lengths b → b.next ≡ a.next + 1 → b.count ≡ a.count + 1 → normal b ≡ true → Grew (held_by a) x (held_by b)
        → (o : Arrays) → o ≡ b → (k : Line) → k ≡ one_new a.next → Obeyed a (create x) o k
    obeyed_came b l e f m g o eo k ek =
        subst (λ (q : Arrays). Obeyed a (create x) q k) (sym eo)
        (record {
          answers =
              cell_answers (held_by a) (ready_sizes a t r) (ready_drawing a t r) x p (rows_by a) (ready_indexes a t r) t (ready_totals a t r) n en z
              (held_by b) (held_sizes b l) g.1 g.0
              (answer_by k (held_by b)) (ap (λ (u : Line). answer_by u (held_by b)) ek ∙ one_outcome a.next a.count (held_by b) e f);
          back = λ s. absurd (s (ap (λ (u : Line). u.number) ek));
          rows = m;
        })
