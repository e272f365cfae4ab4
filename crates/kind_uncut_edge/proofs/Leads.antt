-- 0E at an edge of lent arrays: the answer, where the arrays hold the result. Assumes nothing.
use Prim.Native.Nat.{ℕ, ◌-◌, ◌<◌, ◌≤◌}
use native.Mathlib.Omega.{arith}
use mathlib.Core.Path.{◌≡◌, refl, ap, subst, ◌∙◌}
use lib.ListN.{length, replicate, length-replicate}
use Rattle.complex.specs.Cells.{Sheet}
use Rattle.complex.specs.Decode.{Command, uncut}
use Rattle.complex.specs.Uncut.{uncut_case, uncut_result}
use Rattle.store.specs.declared.Drawing.{Drawing}
use Rattle.store.specs.Sizes.{Sizes}
use Rattle.store.specs.View.{sheet_of, Fits}
use Rattle.answer.specs.Sizes.{sized, nothing, more_less, changed_by}
use Rattle.answer.specs.declared.Answer.{Answer}
use Rattle.answer.specs.declared.Totals.{Totals}
use Rattle.answer.specs.Answers.{outcome, Counts, Answers}
use Rattle.answer.specs.Late.{sizes_by, late_no}
use Rattle.rows_corners.specs.Faces.{Roomy}
use Rattle.ask_uncut_uses.specs.declared.Use.{Use}
use Rattle.ask_uncut_uses.specs.declared.Between.{Between}
use Rattle.ask_uncut_uses.specs.declared.Between.TheVariants.{TwoFaces, OneCycle, Rings}
use Rattle.ask_uncut_uses.specs.Uses.{use_at, case_of}
use Rattle.law_uncut_edge.specs.Needs.{more_cycles, Case, Takes, TakesBy}
use Rattle.law_uncut_edge.proofs.Answering.{takes_by, refuses_by, case_by, counts_by, answers_by}
use Rattle.lent.specs.Arrays.{Arrays, held_by, rows_by}
use Rattle.lent.specs.declared.Line.{Line}
use Rattle.lent.specs.Replies.{line_of, answer_by, Ready, Obeyed, Holds}
use Rattle.lent.proofs.Held.{held_sizes}
use Rattle.lent.proofs.Sums.{ready_sizes, ready_drawing, ready_rows, ready_indexes, ready_totals}
use Rattle.kernel_reface.proofs.Left.{less_line, less_outcome}

-- arrays that hold the result s of a command that issues nothing
module _ (a : Arrays) (s : Sheet) (out : Arrays) (en : out.next ≡ a.next) (H : Holds s out) where
  no_more : ((o : Drawing) → Sizes o → Fits o → sheet_of o ≡ s → Counts a.next a.count o) → out.count ≤ a.count
  no_more f = let c = f (held_by out) (held_sizes out H.long) H.fits H.sheet in omega (arith, c.balance, en)

  obeyed_gone : (c : Command) → ((o : Drawing) → Sizes o → Fits o → sheet_of o ≡ s → (r : Answer) → r ≡ outcome a.next a.count o → Answers (held_by a) c r)
      → (l : Line) → l ≡ less_line (a.count - out.count) → Obeyed a c out l
  obeyed_gone c f l el =
      record {
        answers =
            f (held_by out) (held_sizes out H.long) H.fits H.sheet (answer_by l (held_by out))
            (ap (λ (k : Line). answer_by k (held_by out)) el ∙ less_outcome a.next a.count (held_by out) en);
        back = λ n. absurd (n (ap (λ (k : Line). k.number) el));
        rows = H.rows;
      }

pub after : {s x : Sheet} {b : Arrays} → s ≡ x → Holds s b → Holds x b
after {s} {x} {b} e h = subst (λ (y : Sheet). Holds y b) e h

-- ---- new arrays with room for the result: small ones where the drawing has few cycles and steps, and large ones
abbrev of_size : ℕ → ℕ
of_size n = length (replicate {A = ℕ} n 0)

pub small : {t : Totals} {s : Sheet} → TakesBy t s → (t.cycles < 32) × (t.steps ≤ 128) → Takes (of_size 32) (of_size 128) s
small {t} {s} l h =
    let en = length-replicate {A = ℕ} 32 0 in
    let em = length-replicate {A = ℕ} 128 0 in
    let c = h.0 in
    let m = h.1 in
    l.takes (of_size 32) (of_size 128) (omega arith) (omega arith) (omega arith) (omega arith)

pub large : {s : Sheet} → Roomy s → Takes (of_size 512) (of_size 2048) s
large {s} r =
    let en = length-replicate {A = ℕ} 512 0 in
    let em = length-replicate {A = ℕ} 2048 0 in
    record { few_counts = omega arith; few_steps = omega arith; cycles = omega (arith, r.cycles); steps = omega (arith, r.steps) }

most_one : (k : Between) → more_cycles k ≤ 1
most_one TwoFaces = omega arith
most_one OneCycle = omega arith
most_one Rings = omega arith

pub few_more : (k : Between) (n : ℕ) → n ≡ more_cycles k → n ≤ 4294967296
few_more k n e = let m = most_one k in omega (arith, e)

-- ---- the case of e by its two uses, and what `late_no` says
module _ (a : Arrays) (t : Totals) (y : Ready a t) (e : ℕ) (k : Between) (u w : Use)
    (h : uncut_case (sheet_of (held_by a)) e ≡ case_of k (use_at e u) (use_at e w)) where
  pub room_by : TakesBy t (uncut_result (sheet_of (held_by a)) e (case_of k (use_at e u) (use_at e w)))
  room_by = takes_by (held_by a) (ready_sizes a t y) (ready_drawing a t y) (rows_by a) (ready_indexes a t y) e k u w h t (ready_totals a t y)

  module _ (n : ℕ) (en : n ≡ more_cycles k) (r : ℕ) (er : r ≡ late_no a.next 0 (changed_by (sizes_by t) (more_less (sized 0 n 0 0) nothing))) where
    late_is : r ≡ late_no a.next 0 (changed_by (sizes_by t) (more_less (sized 0 (more_cycles k) 0 0) nothing))
    late_is = er ∙ ap (λ (m : ℕ). late_no a.next 0 (changed_by (sizes_by t) (more_less (sized 0 m 0 0) nothing))) en

    pub edge_no : (r ≡ 0 → ⊥) → (l : Line) → l ≡ line_of r → Obeyed a (uncut e) a l
    edge_no q l el =
        record {
          answers =
              refuses_by (held_by a) (ready_sizes a t y) (ready_drawing a t y) (rows_by a) (ready_indexes a t y) e k u w h t (ready_totals a t y)
              r late_is q (answer_by l (held_by a))
              (ap (λ (v : Line). answer_by v (held_by a)) el);
          back = λ z. refl;
          rows = ready_rows a t y;
        }

    module _ (o : r ≡ 0) where
      pub case_is : Case (held_by a) (rows_by a) e (case_of k (use_at e u) (use_at e w))
      case_is = case_by (held_by a) (ready_sizes a t y) (ready_drawing a t y) (rows_by a) (ready_indexes a t y) e k u w h t (ready_totals a t y) r late_is o

      module _ (out : Arrays) (q : out.next ≡ a.next) (H : Holds (uncut_result (sheet_of (held_by a)) e (case_of k (use_at e u) (use_at e w))) out) where
        pub fewer : out.count ≤ a.count
        fewer =
            no_more a _ out q H
            (counts_by (held_by a) (ready_sizes a t y) (ready_drawing a t y) (rows_by a) (ready_indexes a t y) e k u w h t (ready_totals a t y) r late_is o)

        pub edge_obeyed : (l : Line) → l ≡ less_line (a.count - out.count) → Obeyed a (uncut e) out l
        edge_obeyed =
            obeyed_gone a _ out q H (uncut e)
            (answers_by (held_by a) (ready_sizes a t y) (ready_drawing a t y) (rows_by a) (ready_indexes a t y) e k u w h t (ready_totals a t y) r late_is o)
