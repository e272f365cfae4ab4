-- A face of lent arrays: where its cycles stand, other cycles in their place, and what is answered where cells came. Assumes nothing.
use Prim.Native.Nat.{ℕ, ◌+◌, ◌-◌, ◌<◌, ◌≤◌}
use mathlib.Core.Path.{◌≡◌, sym, ap, subst, ◌∙◌}
use mathlib.Core.Bool.{Bool, cond}
use mathlib.Core.List.{List}
use native.Mathlib.Omega.{arith}
use lib.Dec.{eqb}
use borrow.Author.Tests.{ne_eqb}
use lib.ListN.{take}
use Rattle.complex.specs.Cells.{Cycle, Figure}
use Rattle.store.specs.declared.Drawing.{Drawing}
use Rattle.store.specs.Sizes.{Sizes}
use Rattle.store.specs.Index.{row_of}
use Rattle.store.specs.View.{sheet_of}
use Rattle.rows_spans.specs.declared.Spans.{Spans}
use Rattle.rows_spans.specs.declared.Used.{Used}
use Rattle.rows_spans.specs.Runs.{spans_of}
use Rattle.rows_spans.specs.Building.{Building, built}
use Rattle.answer.specs.declared.Totals.{Totals}
use Rattle.answer.specs.Answers.{outcome}
use Rattle.rows_corners.specs.Faces.{Spanned, recycled}
use Rattle.rows_corners.proofs.Rows.{live, spanned, replacing, replaced_with}
use Rattle.rows_corners.proofs.Edits.{room_listed, sheet_listed}
use Rattle.lent.specs.Arrays.{Arrays, held_by, rows_by}
use Rattle.lent.specs.declared.Line.{Line}
use Rattle.lent.specs.Replies.{answer_by}
use Rattle.lent.proofs.Sums.{ready_sizes, ready_rows, ready_cells}
use Rattle.kernel_cycles.specs.Replacing.{RowCounted, ReplacesIn, ReplacedIn}
use Rattle.kernel_cycles.proofs.Ready.{ready_counted}
use Rattle.kind_cut_face.specs.Cuts.{FaceCuts}

-- the line of a command that issues k ids and removes nothing
abbrev pub new_line : ℕ → ℕ → Line
new_line next k = record { number = 0; first = next; new = k; removed = 0 }

pub new_outcome : (next n k : ℕ) (out : Drawing) → 1 ≤ k → out.next ≡ next + k → out.count ≡ n + k → answer_by (new_line next k) out ≡ outcome next n out
new_outcome next n k out l e f =
    let g : out.next - next ≡ k = omega (arith, e) in
    let h : n + (out.next - next) - out.count ≡ 0 = omega (arith, e, f) in
    ap (λ (b : Bool). record { number = 0; first = cond b 0 next; new = k; removed = 0; drawing = out }) (sym (ne_eqb k 0 (λ z. omega (arith, z, l))))
    ∙ (λ i. record { number = 0; first = cond (eqb (sym g i) 0) 0 next; new = sym g i; removed = sym h i; drawing = out })

module _ (a : Arrays) (t : Totals) (f : ℕ) (ks : List Cycle) (new : List Figure) (w : FaceCuts a t f ks new) where
  pub sizes_in : Sizes (held_by a)
  sizes_in = ready_sizes a t w.ready

  module _ (row : ℕ) (e : row ≡ row_of f (take a.count a.ids)) where
    pub in_rows : row < a.count
    in_rows = subst (λ (i : ℕ). i < a.count) (sym e) (live (held_by a) sizes_in (rows_by a) f w.named)

    pub counted : RowCounted a.counts a.cycles row t
    counted = ready_counted a t w.ready row in_rows

    module _ (s : Spans) (es : s ≡ spans_of a.counts t.cells row a.cycles) where
      spans_are : s ≡ spans_of a.counts a.count row a.cycles
      spans_are = es ∙ ap (λ (n : ℕ). spans_of a.counts n row a.cycles) (ready_cells a t w.ready)

      pub span : Spanned (held_by a) f s
      span = spanned (held_by a) sizes_in (rows_by a) f w.named row s e spans_are

      -- the list in two arrays is ks
      module _ (numbers : List ℕ) (u : Used) (places : List ℕ) (b : Building numbers u places) (ek : built numbers u places ≡ ks) where
        pub replaces : ReplacesIn a row s numbers u.cycles places u.steps
        replaces =
            record {
              long = w.ready.long;
              rows = ready_rows a t w.ready;
              spans = spans_are;
              replaces =
                  replacing (held_by a) sizes_in (rows_by a) f w.named numbers u places row e b
                  (room_listed (held_by a) sizes_in (rows_by a) f w.named ks new w.room numbers u places ek);
            }

        pub replaced_sheet : (o : Arrays) → ReplacedIn a row s u.cycles u.steps (built numbers u places) o
            → sheet_of (held_by o) ≡ recycled (sheet_of (held_by a)) f ks
        replaced_sheet o r =
            sheet_listed (held_by a) sizes_in (rows_by a) f w.named ks new w.room numbers u places ek (sheet_of (held_by o))
            (replaced_with (held_by a) sizes_in (rows_by a) f w.named numbers u places row e (sheet_of (held_by o)) r.sheet)
