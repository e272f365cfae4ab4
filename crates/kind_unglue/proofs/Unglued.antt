-- 09 of an edge: the arrays hold the drawing with a copy for each use but the first. Assumes nothing.
use Prim.Native.Nat.{ℕ, zero, suc, ◌+◌, ◌-◌, ◌*◌, ◌<◌, ◌≤◌}
use native.Mathlib.Omega.{arith}
use borrow.Author.Tests.{ltb-true, ne_eqb}
use mathlib.Core.Path.{◌≡◌, refl, sym, ap, ap₂, subst, ◌∙◌}
use mathlib.Core.Bool.{true, false, cond, ◌||◌}
use mathlib.Core.Option.{Option, none, some}
use lib.Dec.{T, eqb, ltb}
use lib.ListN.{get_or, take}
use lib.Seq.{get_or-take}
use Rattle.complex.specs.Lists.{total}
use Rattle.complex.specs.Cells.{Figure, Sheet, cell_at, is_vertex, is_open, is_closed, is_live}
use Rattle.complex.specs.Decode.{unglue}
use Rattle.complex.specs.Commands.{question4}
use Rattle.complex.specs.Answer.{no, asked3}
use Rattle.complex.proofs.Bools.{truth}
use Rattle.complex.proofs.Asked.{early_none, no_4}
use Rattle.answer.specs.Sizes.{sized, nothing, more_less, changed_by}
use Rattle.store.specs.Index.{row_of}
use Rattle.store.specs.View.{sheet_of, cycles_from}
use Rattle.sound.specs.Looks.{index_value}
use Rattle.sound.proofs.Meaning.{live_row, vertex_at, open_at, closed_at}
use Rattle.rows_new.specs.Requirements.{CopiesRoom}
use Rattle.answer.specs.declared.Totals.{Totals}
use Rattle.answer.specs.Late.{sizes_by, late_no}
use Rattle.rows_uses.specs.declared.Use.{Use}
use Rattle.rows_uses.specs.declared.Use.TheVariants.{Step, Ring, Lone}
use Rattle.rows_uses.specs.Uses.{uses_in}
use Rattle.ask_unglue.specs.Unglues.{has_uses}
use Rattle.ask_unglue.proofs.Edge as edge
use Rattle.lent.specs.Arrays.{Arrays, held_by, rows_by}
use Rattle.lent.specs.declared.Line.{Line}
use Rattle.lent.specs.Replies.{line_of, Ready, Obeyed}
use Rattle.lent.proofs.Held.{held_sizes}
use Rattle.lent.proofs.Sums.{ready_drawing, ready_sizes, ready_fits, ready_indexes, ready_looks, ready_no}
use Rattle.kernel_copies.specs.Copies.{UsesCopied, CopiesCome}
use Rattle.kernel_copies.proofs.Answering.{obeyed_refused, obeyed_more}

-- ---- by the number k of the kind
no_uses_lem : (s : Sheet) (i : ℕ) → is_vertex (cell_at s i) ≡ false → is_open (cell_at s i) ≡ false → is_closed (cell_at s i) ≡ false → asked3 s (unglue i) ≡ no 4 s
unfolding question4
no_uses_lem s i a b c = no_4 s (unglue i) (early_none (unglue i) refl) (ap₂ ◌||◌ a (ap₂ ◌||◌ b c))

uses_by_lem : (k : ℕ) (o : Option Figure) → (k ≡ 0 → ⊥) → k ≤ 2 → eqb k 1 ≡ is_open o → eqb k 2 ≡ is_closed o
    → (u : Use) → u ≡ cond (eqb k 1) Step Ring → T (has_uses u o)
uses_by_lem zero o n h a b u e = absurd (n refl)
uses_by_lem (suc zero) o n h a b u e = subst (λ (x : Use). T (has_uses x o)) (sym e) (truth (sym a))
uses_by_lem (suc (suc zero)) o n h a b u e = subst (λ (x : Use). T (has_uses x o)) (sym e) (truth (sym b))
uses_by_lem (suc (suc (suc k))) o n h a b u e = absurd (omega (arith, h))

module _ (a : Arrays) (t : Totals) (r : Ready a t) (i k : ℕ) (e : k ≡ index_value 4 (held_by a) (rows_by a) a.kinds i) where
  pub vertex_by : k ≡ 0 → T (is_vertex (cell_at (sheet_of (held_by a)) i))
  vertex_by q = truth (sym (vertex_at (ready_looks a t r) i) ∙ ap (λ (n : ℕ). eqb n 0) (sym e ∙ q))

  pub neither : 2 < k → (l : Line) → l ≡ line_of 4 → Obeyed a (unglue i) a l
  neither h l el =
      let L = ready_looks a t r in
      ready_no a t r (unglue i) 4 l el
      (no_uses_lem (sheet_of (held_by a)) i (sym (vertex_at L i) ∙ ap (λ (n : ℕ). eqb n 0) (sym e) ∙ ne_eqb k 0 (λ q. omega (arith, h, q)))
      (sym (open_at L i) ∙ ap (λ (n : ℕ). eqb n 1) (sym e) ∙ ne_eqb k 1 (λ q. omega (arith, h, q)))
      (sym (closed_at L i) ∙ ap (λ (n : ℕ). eqb n 2) (sym e) ∙ ne_eqb k 2 (λ q. omega (arith, h, q))))

  pub has_uses_lem : (k ≡ 0 → ⊥) → k ≤ 2 → (u : Use) → u ≡ cond (eqb k 1) Step Ring → T (has_uses u (cell_at (sheet_of (held_by a)) i))
  has_uses_lem n h =
      let L = ready_looks a t r in
      uses_by_lem k (cell_at (sheet_of (held_by a)) i) n h (ap (λ (m : ℕ). eqb m 1) e ∙ open_at L i) (ap (λ (m : ℕ). eqb m 2) e ∙ closed_at L i)

-- an edge that has uses is live
uses_live : (u : Use) (o : Option Figure) → T (has_uses u o) → is_live o ≡ true
uses_live Step none h = absurd h
uses_live Step (some f) h = refl
uses_live Ring none h = absurd h
uses_live Ring (some f) h = refl
uses_live Lone o h = absurd h

-- ---- the edge e has n uses
pub record Counted (u : Use) (a : Arrays) (t : Totals) (e n : ℕ) : Type 0 where
  pub ready : Ready a t
  pub uses : T (has_uses u (cell_at (sheet_of (held_by a)) e))
  pub count : n ≡ total (uses_in u e) (cycles_from (take t.cycles a.cycles) a.steps)

module _ {u : Use} {a : Arrays} {t : Totals} {e n : ℕ} (q : Counted u a t e n) where
  pub few_parts : n ≤ 2048
  few_parts =
      let r = q.ready in
      edge.few_parts u (held_by a) (ready_sizes a t r) (ready_drawing a t r) (rows_by a) (ready_indexes a t r) e q.uses t r.sums n q.count

  pub few : n < 2 → (l : Line) → l ≡ line_of 6 → Obeyed a (unglue e) a l
  few k l el =
      let r = q.ready in
      obeyed_refused a t r (unglue e) 6 l el
      (edge.few u (held_by a) (ready_sizes a t r) (ready_drawing a t r) (rows_by a) (ready_indexes a t r) e q.uses t r.sums n q.count k)

  module _ (k : 2 ≤ n) (row : ℕ) (er : row ≡ row_of e (take a.count a.ids)) where
    pub row_in : row < a.count
    row_in =
        let r = q.ready in
        ltb-true row a.count
        (ap (λ (i : ℕ). ltb i a.count) er ∙ live_row (held_by a) (ready_sizes a t r) (ready_fits a t r) (rows_by a) (ready_indexes a t r) e
        ∙ uses_live u (cell_at (sheet_of (held_by a)) e) q.uses)

    module _ (b : ℕ) (eb : b ≡ get_or a.bends row 0) where
      pub bends_told : b ≡ index_value 0 (held_by a) (rows_by a) a.bends e
      bends_told = eb ∙ sym (get_or-take a.count a.bends row 0 row_in) ∙ ap (λ (i : ℕ). get_or (take a.count a.bends) i 0) er

      pub bends_small : b ≤ 2048
      bends_small =
          let r = q.ready in
          edge.bends_small u (held_by a) (ready_sizes a t r) (ready_drawing a t r) (rows_by a) (ready_indexes a t r) e q.uses t r.sums n q.count
          k b bends_told

-- ---- and more than one of them, a row with b bends, and the number for questions 7 and 8
pub record Asked (u : Use) (a : Arrays) (t : Totals) (e n row b no : ℕ) : Type 0 where
  pub counted : Counted u a t e n
  pub many : 2 ≤ n
  pub here : row ≡ row_of e (take a.count a.ids)
  pub bends : b ≡ get_or a.bends row 0
  pub late : no ≡ late_no a.next (n - 1) (changed_by (sizes_by t) (more_less (sized (n - 1) 0 0 ((n - 1) * b)) nothing))

module _ {u : Use} {a : Arrays} {t : Totals} {e n row b no : ℕ} (q : Asked u a t e n row b no) where
  abbrev told : b ≡ index_value 0 (held_by a) (rows_by a) a.bends e
  told = bends_told q.counted q.many row q.here b q.bends

  pub late : (no ≡ 0 → ⊥) → (l : Line) → l ≡ line_of no → Obeyed a (unglue e) a l
  late g l el =
      let c = q.counted in
      let r = c.ready in
      obeyed_refused a t r (unglue e) no l el
      (edge.late u (held_by a) (ready_sizes a t r) (ready_drawing a t r) (rows_by a) (ready_indexes a t r) e c.uses t r.sums n c.count q.many b
      told no q.late g)

  module _ (rz : no ≡ 0) (mid : Arrays) (m : UsesCopied u e 0 a mid) where
    pub room : CopiesRoom (held_by mid) row (n - 1)
    room =
        let c = q.counted in
        let r = c.ready in
        edge.room u (held_by a) (ready_sizes a t r) (ready_drawing a t r) (rows_by a) (ready_indexes a t r) e c.uses t r.sums n c.count q.many b
        told no q.late rz row q.here (held_by mid) (held_sizes mid m.long) m.fits m.sheet

    pub obeyed_unglued : (out : Arrays) → CopiesCome mid row (n - 1) out → out.next ≡ a.next + (n - 1) → out.count ≡ a.count + (n - 1)
        → (l : Line) → l ≡ record { number = 0; first = a.next; new = n - 1; removed = 0 } → Obeyed a (unglue e) out l
    obeyed_unglued out o ex ec =
        let c = q.counted in
        let r = c.ready in
        let k = q.many in
        obeyed_more a (unglue e) out (n - 1) (omega arith) ex ec o.rows
        (edge.edge_answers u (held_by a) (ready_sizes a t r) (ready_drawing a t r) (rows_by a) (ready_indexes a t r) e c.uses t r.sums n c.count k b
        told no q.late rz row q.here (held_by mid) (held_sizes mid m.long) m.fits m.sheet
        (held_by out) (held_sizes out o.long) o.fits o.sheet)
