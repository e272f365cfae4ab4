-- 0E at a vertex with both ends of an open edge: the arrays hold the drawing with the closed edge. Assumes nothing.
use Prim.Native.Nat.{ℕ, suc, ◌+◌, ◌-◌, ◌<◌, ◌≤◌}
use native.Mathlib.Omega.{arith}
use mathlib.Core.Path.{◌≡◌, refl, sym, ap, ◌∙◌, subst}
use mathlib.Core.Bool.{true, false}
use mathlib.Core.List.{List, ◌∷◌}
use lib.ListN.{set, replicate}
use Rattle.coordinate.specs.declared.Position.{Position}
use Rattle.complex.specs.Cells.{Figure, closed_edge}
use Rattle.complex.specs.Edits.{reshape, rewired, same_vertex, neither, in_place_of}
use Rattle.complex.specs.Decode.{uncut}
use Rattle.complex.specs.Uncut.{loop, uncut_case}
use Rattle.complex.specs.Commands.{result}
use Rattle.store.specs.View.{sheet_of, Fits, bend_total}
use Rattle.store.specs.Edits.{appended, with_entries}
use Rattle.store.proofs.Grow.{next_is}
use Rattle.rows_new.specs.Runs.{run_at}
use Rattle.rows_new.specs.Appends.{remade, CellRoom}
use Rattle.rows_new.proofs.RunLists.{run_length}
use Rattle.answer.specs.declared.Totals.{Totals}
use Rattle.answer.proofs.Asked.{answers}
use Rattle.rows_gone.proofs.Both.{dropped_both}
use Rattle.rows_steps.specs.Swap.{one_for}
use Rattle.rows_steps.specs.declared.Swap.{Swap}
use Rattle.law_uncut.proofs.Passing.{uncut_result_lem}
use Rattle.ask_uncut_vertex.proofs.Answering.{new_outcome}
use Rattle.ask_uncut_vertex.proofs.Joining.{loop_room, loop_result}
use Rattle.lent.specs.Arrays.{Arrays, positions_in, held_by, normal, Lengths}
use Rattle.lent.specs.declared.Line.{Line}
use Rattle.lent.specs.Replies.{answer_by, Ready, Obeyed}
use Rattle.lent.specs.Growing.{row_put, with_closed}
use Rattle.lent.proofs.Held.{held_sizes}
use Rattle.lent.proofs.Sums.{bends_held, ready_rows, ready_drawing, ready_sizes, ready_fits}
use Rattle.lent.proofs.Grown.{closed_long, closed_normal, closed_comes}
use Rattle.kernel_swap.specs.Swaps.{SwappedIn}
use Rattle.kernel_swap.proofs.Lent.{with_pools}
use Rattle.kernel_swap.proofs.Asking.{one_swapped}
use Rattle.kernel_drop.specs.Gone.{EdgeRow, BareRow, PairGone}
use Rattle.kernel_drop.proofs.Gone.{row_range}
use Rattle.kind_uncut_loop.specs.Uncutting.{Plan, LoopGoes}

more_one : (n m : ℕ) → n ≡ m → suc n ≡ m + 1
more_one n m e = omega (arith, e)

-- the row of the closed edge, of the id n, is written
closed_row_lem : (b o : Arrays) (n k : ℕ) → n ≡ b.next → o ≡ row_put b b.count n 2 0 0 k 0
    → record o { next = n + 1; count = b.count + 1 } ≡ with_closed b k
closed_row_lem b o n k en e =
    ap (λ (x : Arrays). record x { next = n + 1; count = b.count + 1 }) e
    ∙ ap (λ (i : ℕ). record (row_put b b.count i 2 0 0 k 0) { next = i + 1; count = b.count + 1 }) en

module _ (a : Arrays) (t : Totals) (y : Ready a t) (v e : ℕ) (h : uncut_case (sheet_of (held_by a)) v ≡ loop e) (r : Plan) (g : LoopGoes a t v e r) where
  pub bends_in_lem : (r.base + r.m ≤ t.bends) × (t.bends ≤ 2048)
  bends_in_lem = row_range a y.long (ready_fits a t y) (ready_rows a t y) r.row r.base r.m t.bends g.edge

  -- the steps are swapped
  module _ (w : Swap) (ew : w ≡ one_for e a.next false) (mid : Arrays) (kept : mid ≡ with_pools a mid.cycles mid.steps) (sw : SwappedIn w a mid) where
    pub mid_edge : EdgeRow mid r.row r.base r.m t.bends
    mid_edge =
        let k = g.edge in
        subst (λ (b : Arrays). EdgeRow b r.row r.base r.m t.bends) (sym kept)
        (record { below = k.below; from = k.from; own = k.own; none = k.none; all = k.all })

    pub mid_bare : BareRow mid r.vertex
    mid_bare =
        let k = g.bare in
        subst (λ (b : Arrays). BareRow b r.vertex) (sym kept) (record { below = k.below; bends = k.bends; cycles = k.cycles })

    pub mid_rows : normal mid ≡ true
    mid_rows = ap normal kept ∙ ready_rows a t y

    module _ (b : Arrays) (en : b.next ≡ mid.next) (gone : PairGone mid r.vertex r.row r.base r.m t.bends r.p b) where
      next_stays : b.next ≡ a.next
      next_stays = en ∙ ap (λ (x : Arrays). x.next) kept

      abbrev step : ℕ → Figure → Figure
      step = rewired same_vertex (in_place_of e (sheet_of (held_by a)).next false)

      left : sheet_of (held_by b) ≡ remade (neither v e) step (sheet_of (held_by a))
      left =
          dropped_both (held_by a) (ready_sizes a t y) v r.vertex e r.row g.looped.pair step (held_by mid) (held_sizes mid sw.long) sw.fits
          (one_swapped a e a.next false w ew mid sw
          ∙ ap (λ (n : ℕ). with_entries (sheet_of (held_by a)) (reshape (rewired same_vertex (in_place_of e n false)) (sheet_of (held_by a)).cells))
          (sym (next_is (held_by a))))
          (set (set (replicate 256 false) r.vertex true) r.row true) refl (held_by b) gone.keeps.sheet

      -- the new edge's bends
      abbrev round : List Position
      round = r.p ∷ run_at r.base r.m (held_by a).bends

      room : CellRoom (held_by b) (closed_edge round)
      room =
          (loop_room (held_by a) (ready_sizes a t y) v r.vertex e r.row r.p r.base r.m g.looped (held_by b) (held_sizes b gone.long)
          gone.keeps.fits left).room

      used : bend_total (held_by b) ≡ t.bends - r.m
      used = sym (bends_held b gone.long gone.keeps.rows) ∙ gone.less

      abbrev out : Arrays
      out = with_closed b (r.m + 1)

      long : Lengths out
      long = closed_long b gone.long (r.m + 1)

      came : (sheet_of (held_by out) ≡ appended (sheet_of (held_by b)) (closed_edge round)) × Fits (held_by out)
      came =
          closed_comes b gone.long (r.m + 1) round room
          (more_one _ r.m (run_length r.base r.m (held_by a).bends (omega (arith, bends_in_lem.0, bends_in_lem.1, (ready_sizes a t y).bends))))
          (ap (λ (n : ℕ). run_at n (r.m + 1) (positions_in b.bx b.by)) used ∙ gone.bends
          ∙ ap (λ (x : Arrays). r.p ∷ run_at r.base r.m (positions_in x.bx x.by)) kept)

      made : sheet_of (held_by out) ≡ result (sheet_of (held_by a)) (uncut v)
      made =
          loop_result (held_by a) (ready_sizes a t y) v r.vertex e r.row r.p r.base r.m g.looped (held_by b) (held_sizes b gone.long)
          gone.keeps.fits left (held_by out) came.0
          ∙ sym (uncut_result_lem (sheet_of (held_by a)) v (loop e) h)

      pub row_in : b.count < 256
      row_in = room.cells

      obeyed : (k : Line) → k ≡ record { number = 0; first = a.next; new = 1; removed = a.count - b.count } → Obeyed a (uncut v) out k
      obeyed k ek =
          record {
            answers =
                answers (held_by a) (ready_sizes a t y) (ready_drawing a t y) (uncut v) 0 g.asked refl (held_by out) (held_sizes out long) came.1 made
                (answer_by k (held_by out))
                (ap (λ (u : Line). answer_by u (held_by out)) ek ∙ new_outcome a.next a.count _ (held_by out) (ap (λ (n : ℕ). n + 1) next_stays) (omega arith));
            back = λ n. absurd (n (ap (λ (u : Line). u.number) ek));
            rows = closed_normal b gone.long (r.m + 1) room.cells gone.keeps.rows;
          }

      -- the row of the closed edge is written, and counted
      pub obeyed_loop : (o : Arrays) → o ≡ row_put b b.count a.next 2 0 0 (r.m + 1) 0
          → (k : Line) → k ≡ record { number = 0; first = a.next; new = 1; removed = a.count - b.count }
          → Obeyed a (uncut v) (record o { next = a.next + 1; count = b.count + 1 }) k
      obeyed_loop o q k ek =
          subst (λ (u : Arrays). Obeyed a (uncut v) u k) (sym (closed_row_lem b o a.next (r.m + 1) (sym next_stays) q)) (obeyed k ek)
