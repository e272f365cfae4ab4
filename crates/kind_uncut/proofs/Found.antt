-- What is asked of ready arrays, and that the case found in them is that of the drawing. Assumes nothing.
use Prim.Native.Nat.{ℕ, zero, suc, ◌≤◌, ◌<◌}
use native.Mathlib.Omega.{arith}
use mathlib.Core.Path.{◌≡◌, refl, sym, ap, ap₂, ◌∙◌}
use mathlib.Core.Bool.{Bool, true, false, cond}
use lib.Dec.{eqb}
use lib.ListN.{take}
use borrow.Author.Tests.{ne_eqb}
use Rattle.std.specs.Prelude.{Result, Err, IsErr, IsErrAnd}
use Rattle.std.proofs.lemmas.Result.{err_from_is_err_and}
use Rattle.number.specs.Said.{Said, no}
use Rattle.complex.specs.Lists.{total}
use Rattle.complex.specs.Uncut.{Uncut}
use Rattle.complex.specs.Uses.{lone_use}
use Rattle.store.specs.View.{sheet_of, cycles_from}
use Rattle.store.specs.Edits.{places_of}
use Rattle.sound.specs.Looks.{index_value}
use Rattle.answer.specs.declared.Question.{Question}
use Rattle.answer.specs.declared.Totals.{Totals}
use Rattle.answer.specs.Questions.{number_of}
use Rattle.ask_uncut_turns.specs.Turns.{turns_in}
use Rattle.ask_uncut_turns.proofs.Meaning.{rows_in}
use Rattle.ask_uncut_ends.specs.Ends.{ends_in, two_ends}
use Rattle.ask_uncut_ends.specs.Cases.{ends_case}
use Rattle.ask_uncut_uses.specs.declared.Uses.{Uses}
use Rattle.ask_uncut_uses.specs.Uses.{row_uses, uses_two}
use Rattle.ask_uncut_uses.proofs.Meaning.{faces_are}
use Rattle.ask_uncut.specs.declared.Case.{Case}
use Rattle.ask_uncut.specs.Cases.{open_case, closed_case}
use Rattle.ask_uncut.specs.Decided.{case_says, uncut_asked}
use Rattle.ask_uncut.proofs.Finding.{vertex_asks, vertex_found, edge_found, closed_is, is_vertex_lem, is_edge_lem, is_neither}
use Rattle.ask_uncut.proofs.Cases.{dead_told}
use Rattle.lent.specs.Arrays.{Arrays, held_by, rows_by}
use Rattle.lent.specs.Replies.{Ready}
use Rattle.lent.proofs.Sums.{ready_sizes, ready_fits, ready_drawing, ready_indexes, ready_looks}
use Rattle.kind_uncut.specs.Found.{AsksIn, CaseFound, by_kind}

-- what is said by the kind k of a cell
module _ (k : ℕ) (v o c : Said Uncut) where
  of_other : 2 < k → no 4 ≡ by_kind k v o c
  of_other h =
      sym (ap₂ (λ (p q : Bool). cond p v (cond q o (cond (eqb k 2) c (no 4)))) (ne_eqb k 0 (λ e. omega arith)) (ne_eqb k 1 (λ e. omega arith))
      ∙ ap (λ (q : Bool). cond q c (no 4)) (ne_eqb k 2 (λ e. omega arith)))

-- by the number j that the code has
module _ (j k : ℕ) (e : j ≡ k) where
  pub vertex_kind : j ≡ 0 → (v o c : Said Uncut) → v ≡ by_kind k v o c
  vertex_kind z v o c = ap (λ (n : ℕ). by_kind n v o c) (sym z ∙ e)

  pub edge_kind : (j ≡ 0 → ⊥) → j ≤ 2 → (i : ℕ) (x w : Uses) → x ≡ w → (v : Said Uncut)
      → cond (eqb j 2) (closed_case x) (open_case x) i ≡ by_kind k v (open_case w i) (closed_case w i)
  edge_kind z h i x w ex v = go j z h ∙ ap₂ (λ (n : ℕ) (u : Uses). by_kind n v (open_case u i) (closed_case u i)) e ex
    where
      go : (n : ℕ) → (n ≡ 0 → ⊥) → n ≤ 2 → cond (eqb n 2) (closed_case x) (open_case x) i ≡ by_kind n v (open_case x i) (closed_case x i)
      go zero n g = absurd (n refl)
      go (suc zero) n g = refl
      go (suc (suc zero)) n g = refl
      go (suc (suc (suc n))) m g = absurd (omega (arith, g))

-- the no that `?` hands on
pub err_said : (i : ℕ) (q : Question) (s : Result Case Question) → IsErr s × IsErrAnd s (λ p. p ≡ q) → case_says i s ≡ no (number_of q)
err_said i q s h = let p = err_from_is_err_and s h.1 in ap (case_says i) (p.1 ∙ ap Err p.2)

module _ (a : Arrays) (t : Totals) (y : Ready a t) where
  sum_is : t.cycles ≡ total (places_of 0) (take a.count a.counts)
  sum_is = ap (λ (u : Totals). u.cycles) y.sums

  pub asks : AsksIn a.count a.ids a.kinds a.starts a.ends a.counts a.cycles t.cycles a.steps
  asks =
      let v = vertex_asks (held_by a) (ready_sizes a t y) (ready_drawing a t y) (rows_by a) (ready_indexes a t y) 0 t.cycles sum_is in
      record {
        rows = v.0;
        faces = faces_are (held_by a) (ready_sizes a t y) (ready_fits a t y) (rows_by a) (ready_indexes a t y);
        few = v.1.1.1.0;
        widths = v.1.1.1.1;
      }

  -- an edge of kind k
  edge_said : (i k : ℕ) → k ≡ index_value 4 (held_by a) (rows_by a) a.kinds i → (k ≡ 0 → ⊥) → k ≤ 2 → (x : Said Uncut)
      → x ≡ cond (eqb k 2) (closed_case (uses_two (row_uses i (take a.count a.ids) (take a.count a.counts) (cycles_from a.cycles a.steps))) i)
      (open_case (uses_two (row_uses i (take a.count a.ids) (take a.count a.counts) (cycles_from a.cycles a.steps))) i)
      → x ≡ uncut_asked (sheet_of (held_by a)) i
  edge_said i k e n h x g =
      let L = ready_looks a t y in
      edge_found (held_by a) (ready_sizes a t y) (ready_drawing a t y) (rows_by a) (ready_indexes a t y) i _ refl
      (is_edge_lem (held_by a) (rows_by a) L i k e n h) _ (sym (closed_is (held_by a) (rows_by a) L i k e)) x g

  pub said : (i : ℕ) (r : Result Case Question) → CaseFound a.count a.ids a.kinds a.starts a.ends a.counts a.cycles t.cycles a.steps i r
      → case_says i r ≡ uncut_asked (sheet_of (held_by a)) i
  said i r h = go (index_value 4 (held_by a) (rows_by a) a.kinds i) refl (case_says i r) _ _ _ h refl refl refl
    where
      go : (k : ℕ) → k ≡ index_value 4 (held_by a) (rows_by a) a.kinds i → (x v o c : Said Uncut) → x ≡ by_kind k v o c
          → v ≡ ends_case (turns_in (rows_in (held_by a) (rows_by a)) true i (cycles_from (take t.cycles a.cycles) a.steps))
          (turns_in (rows_in (held_by a) (rows_by a)) false i (cycles_from (take t.cycles a.cycles) a.steps))
          (total (lone_use i) (cycles_from (take t.cycles a.cycles) a.steps))
          (two_ends (ends_in i (take a.count a.ids) (take a.count a.kinds) (take a.count a.starts) (take a.count a.ends)))
          → o ≡ open_case (uses_two (row_uses i (take a.count a.ids) (take a.count a.counts) (cycles_from a.cycles a.steps))) i
          → c ≡ closed_case (uses_two (row_uses i (take a.count a.ids) (take a.count a.counts) (cycles_from a.cycles a.steps))) i
          → x ≡ uncut_asked (sheet_of (held_by a)) i
      go zero e x v o c g ev eo ec =
          vertex_found (held_by a) (ready_sizes a t y) (ready_drawing a t y) (rows_by a) (ready_indexes a t y) i t.cycles sum_is
          (is_vertex_lem (held_by a) (rows_by a) (ready_looks a t y) i _ refl (sym e)) x (g ∙ ev)
      go (suc zero) e x v o c g ev eo ec = edge_said i 1 e (λ q. omega arith) (omega arith) x (g ∙ eo)
      go (suc (suc zero)) e x v o c g ev eo ec = edge_said i 2 e (λ q. omega arith) (omega arith) x (g ∙ ec)
      go (suc (suc (suc k))) e x v o c g ev eo ec =
          g ∙ sym (of_other (suc (suc (suc k))) v o c (omega arith))
          ∙ dead_told (sheet_of (held_by a)) i (is_neither (held_by a) (rows_by a) (ready_looks a t y) i _ e (omega arith))
