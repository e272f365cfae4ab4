-- 09 of a vertex: the arrays hold the drawing with a copy for each group and lone cycle but the first. Assumes nothing.
use Prim.Native.Nat.{ℕ, ◌+◌, ◌-◌, ◌*◌, ◌<◌, ◌≤◌}
use native.Mathlib.Omega.{arith}
use mathlib.Core.Path.{◌≡◌, sym, ap, ◌∙◌}
use lib.Dec.{T}
use lib.ListN.{length, take}
use Rattle.complex.specs.Lists.{total}
use Rattle.complex.specs.Cells.{cell_at, is_vertex}
use Rattle.complex.specs.Uses.{groups}
use Rattle.complex.specs.Decode.{unglue}
use Rattle.answer.specs.Sizes.{sized, nothing, more_less, changed_by}
use Rattle.store.specs.declared.Drawing.{Drawing}
use Rattle.store.specs.Index.{Indexes, row_of}
use Rattle.store.specs.Sizes.{Sizes}
use Rattle.store.specs.View.{sheet_of, cycles_from, bend_total}
use Rattle.sound.specs.Soundness.{sound_drawing}
use Rattle.rows_new.specs.Requirements.{CopiesRoom}
use Rattle.answer.specs.declared.Totals.{Totals}
use Rattle.answer.specs.Late.{sizes_by, late_no}
use Rattle.rows_uses.specs.declared.Use.TheVariants.{Lone}
use Rattle.rows_uses.specs.Uses.{uses_in}
use Rattle.ask_unglue.proofs.Parts as parts
use Rattle.lent.specs.Arrays.{Arrays, held_by, rows_by, totals_of}
use Rattle.lent.specs.declared.Line.{Line}
use Rattle.lent.specs.Replies.{line_of, Ready, Obeyed}
use Rattle.lent.proofs.Held.{held_sizes}
use Rattle.lent.proofs.Sums.{bends_held, ready_drawing, ready_sizes, ready_indexes}
use Rattle.kernel_copies.specs.Copies.{CopiesCome}
use Rattle.kernel_copies.proofs.Answering.{obeyed_refused, obeyed_more}
use Rattle.kind_unglue_vertex.specs.Parts.{Parted}

-- what was asked of the vertex v: g groups of ends, k as a place, and b lone cycles
pub record Asked (a : Arrays) (t : Totals) (v g k b : ℕ) : Type 0 where
  pub ready : Ready a t
  pub vertex : T (is_vertex (cell_at (sheet_of (held_by a)) v))
  pub groups_are : g ≡ length (groups (sheet_of (held_by a)).cells v)
  pub wide : k ≡ g
  pub lone : b ≡ total (uses_in Lone v) (cycles_from (take t.cycles a.cycles) a.steps)

module _ {a : Arrays} {t : Totals} {v g k b : ℕ} (q : Asked a t v g k b) where
  abbrev d : Drawing
  d = held_by a

  abbrev x : Indexes (held_by a) (rows_by a)
  x = ready_indexes a t q.ready

  abbrev z : Sizes (held_by a)
  z = ready_sizes a t q.ready

  abbrev w : T (sound_drawing (held_by a))
  w = ready_drawing a t q.ready

  pub few_lone : b ≤ 2048
  few_lone = parts.few_lone d z w (rows_by a) x v q.vertex t q.ready.sums g q.groups_are k q.wide b q.lone

  pub few : k + b < 2 → (l : Line) → l ≡ line_of 6 → Obeyed a (unglue v) a l
  few h l el =
      obeyed_refused a t q.ready (unglue v) 6 l el
      (parts.few d z w (rows_by a) x v q.vertex t q.ready.sums g q.groups_are k q.wide b q.lone h)

  module _ (h : 2 ≤ k + b) (no : ℕ)
      (eo : no ≡ late_no a.next (k + b - 1) (changed_by (sizes_by t) (more_less (sized (k + b - 1) 0 0 ((k + b - 1) * 0)) nothing))) where
    pub late : (no ≡ 0 → ⊥) → (l : Line) → l ≡ line_of no → Obeyed a (unglue v) a l
    late n l el =
        obeyed_refused a t q.ready (unglue v) no l el
        (parts.late d z w (rows_by a) x v q.vertex t q.ready.sums g q.groups_are k q.wide b q.lone h no eo n)

    module _ (rz : no ≡ 0) (row : ℕ) (er : row ≡ row_of v (take a.count a.ids)) (mid : Arrays) (p : Parted a v mid) where
      pub room : CopiesRoom (held_by mid) row (k + b - 1)
      room =
          parts.room d z w (rows_by a) x v q.vertex t q.ready.sums g q.groups_are k q.wide b q.lone h no eo rz row er
          (held_by mid) (held_sizes mid p.long) p.fits p.sheet

      pub bends_same : (totals_of mid).bends ≡ (totals_of a).bends → t.bends ≡ bend_total (held_by mid)
      bends_same e = ap (λ (u : Totals). u.bends) q.ready.sums ∙ sym e ∙ bends_held mid p.long p.rows

      pub obeyed_unglued : (out : Arrays) → CopiesCome mid row (k + b - 1) out → out.next ≡ a.next + (k + b - 1) → out.count ≡ a.count + (k + b - 1)
          → (l : Line) → l ≡ record { number = 0; first = a.next; new = k + b - 1; removed = 0 } → Obeyed a (unglue v) out l
      obeyed_unglued out o ex ec =
          obeyed_more a (unglue v) out (k + b - 1) (omega arith) ex ec o.rows
          (parts.vertex_answers d z w (rows_by a) x v q.vertex t q.ready.sums g q.groups_are k q.wide b q.lone h no eo rz row er
          (held_by mid) (held_sizes mid p.long) p.fits p.sheet (held_by out) (held_sizes out o.long) o.fits o.sheet)
