-- 07 and 08: the arrays with b's uses replaced, and without b. Assumes nothing.
use Prim.Native.Nat.{ℕ, ◌+◌, ◌-◌, ◌<◌, ◌≤◌}
use native.Mathlib.Omega.{arith}
use mathlib.Core.Path.{◌≡◌, refl, sym, ap, ◌∙◌, subst}
use mathlib.Core.Bool.{Bool, true, false, ◌&&◌, ◌||◌, cond}
use mathlib.Core.Logic.{◌⊎◌, inl, inr}
use mathlib.Core.Option.{Option, none, some}
use mathlib.Core.List.{List}
use lib.Dec.{eqb}
use lib.ListN.{length, get_or, take, set, replicate}
use lib.Seq.{get_or-take}
use borrow.Author.Tests.{eqb-true}
use Rattle.complex.specs.Lists.{total}
use Rattle.complex.specs.Cells.{Figure, Halfedge, vertex, open_edge, closed_edge, face, cell_at, is_live, bends_of, cycles_of}
use Rattle.complex.specs.Sound.{over, steps_in}
use Rattle.complex.specs.Edits.{reshape, rewired, same_vertex, in_place_of}
use Rattle.complex.specs.Decode.{Command}
use Rattle.number.specs.Readers.{spread}
use Rattle.store.specs.Index.{row_of}
use Rattle.store.specs.Sheet.{all_real}
use Rattle.store.specs.Places.{entry_cycles}
use Rattle.store.specs.View.{sheet_of, Fits, cycle_total, step_total}
use Rattle.store.specs.Edits.{places_of, with_entries}
use Rattle.store.proofs.Lists.{sum_le}
use Rattle.sound.specs.Looks.{index_value, kind_number}
use Rattle.answer.proofs.Asked.{answers}
use Rattle.answer.specs.declared.Totals.{Totals}
use Rattle.rows_gone.proofs.Dropped.{live_below}
use Rattle.rows_steps.specs.declared.Swap.{Swap}
use Rattle.rows_steps.specs.Swap.{swap_half, one_for}
use Rattle.rows_steps.proofs.Merging.{real_with, room_with}
use Rattle.rows_steps.proofs.Swaps.{one_for_lem, one_some, one_few}
use Rattle.ask_glue.specs.Questions.{vertices_no, edges_no}
use Rattle.ask_glue.proofs.Glued.{Glues, glued_made}
use Rattle.lent.specs.Arrays.{Arrays, held_by, rows_by, Lengths}
use Rattle.lent.proofs.Held.{held_sizes}
use Rattle.lent.proofs.Sums.{ready_drawing, ready_sizes, ready_fits, ready_indexes, ready_looks, ready_cycles, ready_steps, ready_summed}
use Rattle.lent.specs.declared.Line.{Line}
use Rattle.lent.specs.Replies.{Ready, Obeyed}
use Rattle.kernel_keep.specs.Keeps.{Keeps}
use Rattle.kernel_keep.proofs.Less.{obeyed_less}
use Rattle.kernel_drop.specs.Gone.{EdgeRow}
use Rattle.kernel_swap.specs.Swaps.{SwappedIn}

-- ---- what the questions say of b
kind_vertex : (ka kb : ℕ) (same : Bool) → vertices_no ka kb same ≡ 0 → kb ≡ 0
kind_vertex ka kb same = go (eqb ka 0) (eqb kb 0) refl
  where
    go : (p q : Bool) → eqb kb 0 ≡ q → ◌≡◌ {A = ℕ} (cond p (cond q (cond same 6 0) 4) 4) 0 → kb ≡ 0
    go true true e h = eqb-true kb 0 e
    go true false e h = absurd (omega (arith, h))
    go false q e h = absurd (omega (arith, h))

kind_edge : (ka kb : ℕ) (same : Bool) (flag : ℕ) (meet : Bool) → edges_no ka kb same flag meet ≡ 0 → (kb ≡ 1) ⊎ (kb ≡ 2)
kind_edge ka kb same flag meet = go (eqb ka 1 || eqb ka 2) (eqb kb 1) (eqb kb 2) _ refl refl
  where
    go : (p q r : Bool) (x : ℕ) → eqb kb 1 ≡ q → eqb kb 2 ≡ r → cond (p && (q || r)) x 4 ≡ 0 → (kb ≡ 1) ⊎ (kb ≡ 2)
    go true true r x e f h = inl (eqb-true kb 1 e)
    go true false true x e f h = inr (eqb-true kb 2 f)
    go true false false x e f h = absurd (omega (arith, h))
    go false q r x e f h = absurd (omega (arith, h))

vertex_bare : (o : Option Figure) → kind_number o ≡ 0 → (length (bends_of o) ≡ 0) × (length (cycles_of o) ≡ 0)
vertex_bare none e = absurd (omega (arith, e))
vertex_bare (some (vertex p)) e = (refl, refl)
vertex_bare (some (open_edge a b bs)) e = absurd (omega (arith, e))
vertex_bare (some (closed_edge bs)) e = absurd (omega (arith, e))
vertex_bare (some (face ks)) e = absurd (omega (arith, e))

edge_bare : (o : Option Figure) → (kind_number o ≡ 1) ⊎ (kind_number o ≡ 2) → length (cycles_of o) ≡ 0
edge_bare none (inl e) = absurd (omega (arith, e))
edge_bare none (inr e) = absurd (omega (arith, e))
edge_bare (some (vertex p)) e = refl
edge_bare (some (open_edge a b bs)) e = refl
edge_bare (some (closed_edge bs)) e = refl
edge_bare (some (face ks)) (inl e) = absurd (omega (arith, e))
edge_bare (some (face ks)) (inr e) = absurd (omega (arith, e))

-- the row of an edge is one where only cycles and steps change
pub edge_stays : (a b : Arrays) (cy st : List ℕ) → b ≡ record a { cycles = cy; steps = st } → {row base m t : ℕ} → EdgeRow a row base m t
    → EdgeRow b row base m t
edge_stays a b cy st e {row} {base} {m} {t} r =
    subst (λ (u : Arrays). EdgeRow u row base m t) (sym e)
    (record { below = r.below; from = r.from; own = r.own; none = r.none; all = r.all })

module _ (a : Arrays) (t : Totals) (y : Ready a t) where
  -- the bends before a row
  pub bends_before_lem : (i : ℕ) → i ≤ a.count → (i ≤ length a.bends) × (total (places_of 0) (take i a.bends) ≤ 2048)
  bends_before_lem i h =
      (omega (arith, (ready_fits a t y).cells, y.long.bends), omega (arith, sum_le (places_of 0) a.bends i a.count h, (ready_summed a t y).bend_sum))

  -- ---- the row of b
  module _ (b row : ℕ) (er : row ≡ row_of b (take a.count a.ids)) (live : is_live (cell_at (sheet_of (held_by a)) b) ≡ true) where
    pub row_below : row < a.count
    row_below = live_below (held_by a) (ready_sizes a t y) (ready_drawing a t y) (rows_by a) (ready_indexes a t y) b row er live

    -- the number that an array has there
    read_row : (vs : List ℕ) → get_or vs row 0 ≡ index_value 0 (held_by a) (rows_by a) vs b
    read_row vs = sym (get_or-take a.count vs row 0 row_below) ∙ ap (λ (k : ℕ). get_or (take a.count vs) k 0) er

    pub vertex_row : (e k : ℕ) → k ≡ vertices_no (index_value 4 (held_by a) (rows_by a) a.kinds e) (index_value 4 (held_by a) (rows_by a) a.kinds b) (eqb e b)
        → k ≡ 0 → (get_or a.bends row 0 ≡ 0) × (get_or a.counts row 0 ≡ 0)
    vertex_row e k ek z =
        let q = ready_looks a t y in
        let v = vertex_bare (cell_at (sheet_of (held_by a)) b)
        (sym (q.kinds b) ∙ kind_vertex (index_value 4 (held_by a) (rows_by a) a.kinds e) (index_value 4 (held_by a) (rows_by a) a.kinds b) (eqb e b)
        (sym ek ∙ z)) in
        (read_row a.bends ∙ q.bends b ∙ v.0, read_row a.counts ∙ q.cycles b ∙ v.1)

    pub edge_row : (k ka kb : ℕ) (same : Bool) (flag : ℕ) (meet : Bool) → kb ≡ index_value 4 (held_by a) (rows_by a) a.kinds b
        → k ≡ edges_no ka kb same flag meet → k ≡ 0 → get_or a.counts row 0 ≡ 0
    edge_row k ka kb same flag meet eb ek z =
        let q = ready_looks a t y in
        read_row a.counts ∙ q.cycles b
        ∙ edge_bare (cell_at (sheet_of (held_by a)) b) (subst (λ (n : ℕ). (n ≡ 1) ⊎ (n ≡ 2)) (eb ∙ q.kinds b) (kind_edge ka kb same flag meet (sym ek ∙ z)))

  -- ---- what the swap asks
  pub swap_asks : (b e : ℕ) (flip : Bool) (s : Swap) → s ≡ one_for b e flip
      → Fits (held_by a) × (Lengths a × ((t.cycles ≡ cycle_total (held_by a))
      × ((s.n ≤ 2) × ((all_real (spread entry_cycles (reshape (rewired same_vertex (swap_half s)) (sheet_of (held_by a)).cells)) ≡ true)
      × ((over steps_in (reshape (rewired same_vertex (swap_half s)) (sheet_of (held_by a)).cells) ≤ 2048) × ((t.steps ≡ step_total (held_by a))
      × (((s.n ≤ 1) × (◌≡◌ {A = ℕ} 0 0)) ⊎ ((1 ≤ s.n)
      × (over steps_in (reshape (rewired same_vertex (swap_half s)) (sheet_of (held_by a)).cells) ≡ 0 + t.steps)))))))))
  swap_asks b e flip s es =
      let d = held_by a in
      let z = ready_sizes a t y in
      let f = ready_fits a t y in
      let h : swap_half s ≡ in_place_of b e flip = ap swap_half es ∙ one_for_lem b e flip in
      let n : s.n ≡ 1 = ap (λ (k : Swap). k.n) es in
      let real = subst (λ (σ : Halfedge → List Halfedge). all_real (spread entry_cycles (reshape (rewired same_vertex σ) (sheet_of d).cells)) ≡ true) (sym h)
      (real_with d z f (in_place_of b e flip) (one_some b e flip)) in
      let room = subst (λ (σ : Halfedge → List Halfedge). over steps_in (reshape (rewired same_vertex σ) (sheet_of d).cells) ≤ 2048) (sym h)
      (room_with d z f (in_place_of b e flip) (one_few b e flip)) in
      (f, (y.long, (ready_cycles a t y, (omega (arith, n), (real, (room, (ready_steps a t y, inl (omega (arith, n), refl))))))))

  pub swapped_is : (b e : ℕ) (flip : Bool) (s : Swap) → s ≡ one_for b e flip → (mid : Arrays) → SwappedIn s a mid
      → sheet_of (held_by mid) ≡ with_entries (sheet_of (held_by a)) (reshape (rewired same_vertex (in_place_of b e flip)) (sheet_of (held_by a)).cells)
  swapped_is b e flip s es mid sw =
      sw.sheet ∙ ap (λ (σ : Halfedge → List Halfedge). with_entries (sheet_of (held_by a)) (reshape (rewired same_vertex σ) (sheet_of (held_by a)).cells))
      (ap swap_half es ∙ one_for_lem b e flip)

  -- ---- the whole
  module _ (c : Command) (b : ℕ) (f : ℕ → Figure → Figure) (g : Glues (held_by a) c b f) (row : ℕ) (er : row ≡ row_of b (take a.count a.ids))
      (mid : Arrays) (lm : Lengths mid) (fm : Fits (held_by mid))
      (em : sheet_of (held_by mid) ≡ with_entries (sheet_of (held_by a)) (reshape f (sheet_of (held_by a)).cells)) where
    pub obeyed_glued : (out : Arrays) → Keeps (set (replicate 256 false) row true) mid out → out.next ≡ a.next → (k : Line)
        → k ≡ record { number = 0; first = 0; new = 0; removed = a.count - out.count } → Obeyed a c out k
    obeyed_glued out p en k ek =
        obeyed_less a c out en p.rows
        (answers (held_by a) (ready_sizes a t y) (ready_drawing a t y) c 0 g.asked refl (held_by out) p.sizes p.fits
        (glued_made (held_by a) (ready_sizes a t y) (ready_drawing a t y) c b f g (rows_by a) (ready_indexes a t y) row er (held_by mid) (held_sizes mid lm) fm em
        (set (replicate 256 false) row true) refl (held_by out) p.sheet)) k ek
