-- 0A in lent arrays: what is alike for an open edge and a closed one, where its halfedges are swapped and its row is gone. Assumes nothing.
use Prim.Native.Nat.{ℕ, ◌+◌, ◌-◌, ◌<◌, ◌≤◌}
use native.Mathlib.Omega.{arith}
use mathlib.Core.Path.{◌≡◌, refl, sym, ap, ap₂, ◌∙◌, subst}
use mathlib.Core.Bool.{Bool, true, false, cond}
use mathlib.Core.List.{List, ◌∷◌}
use mathlib.Core.Logic.{◌⊎◌}
use lib.Dec.{T, eqb}
use lib.ListN.{length, set, take, replicate}
use borrow.Author.Tests.{ne_eqb}
use Rattle.number.specs.Readers.{spread}
use Rattle.coordinate.specs.declared.Position.{Position}
use Rattle.complex.specs.Lists.{total}
use Rattle.complex.specs.Cells.{Figure, vertex, open_edge, Sheet, Halfedge}
use Rattle.complex.specs.Edits.{reshape, rewired, same_vertex, others}
use Rattle.complex.specs.Sound.{over, steps_in}
use Rattle.complex.specs.Decode.{cut_edge}
use Rattle.complex.specs.Commands.{result}
use Rattle.store.specs.declared.Cell.{Cell}
use Rattle.store.specs.declared.Drawing.{Drawing}
use Rattle.store.specs.Sheet.{all_real}
use Rattle.store.specs.Places.{entry_cycles}
use Rattle.store.specs.View.{sheet_of, Fits, cycle_total, step_total, bend_total, bend_count}
use Rattle.store.specs.Edits.{places_of, appended, with_entries}
use Rattle.store.proofs.Lists.{places_sum}
use Rattle.sound.proofs.Meaning.{sound_fits}
use Rattle.rows_new.specs.Runs.{run_at}
use Rattle.rows_new.specs.Appends.{remade, RoomIn, CellRoom}
use Rattle.rows_new.proofs.Rooms.{room_first, room_next}
use Rattle.rows_new.proofs.RunLists.{run_length}
use Rattle.answer.specs.Answers.{outcome}
use Rattle.answer.proofs.Asked.{Asked, answers}
use Rattle.rows_gone.proofs.Dropped.{dropped_row}
use Rattle.rows_steps.specs.Swap.{swap_half}
use Rattle.rows_steps.specs.declared.Swap.{Swap}
use Rattle.ask_cut_edge.specs.Cuts.{EdgeCuts}
use Rattle.lent.specs.Arrays.{Arrays, positions_in, held_by, sound_arrays, normal, Lengths}
use Rattle.lent.specs.declared.Line.{Line}
use Rattle.lent.specs.Replies.{answer_by, Obeyed}
use Rattle.lent.specs.Growing.{with_vertex, with_open}
use Rattle.lent.proofs.Held.{held_sizes, held_indexes}
use Rattle.lent.proofs.Replies.{rows_of, drawing_of}
use Rattle.lent.proofs.Grown.{vertex_long, vertex_comes, vertex_bends, vertex_normal, open_long, open_normal, open_bends, open_comes}
use Rattle.kernel_swap.specs.Swaps.{SwappedIn}
use Rattle.kernel_swap.proofs.Lent.{with_pools}
use Rattle.kernel_bends.specs.Turned.{moved_last}
use Rattle.kernel_bends.proofs.Positions.{positions_moved}
use Rattle.kernel_drop.specs.Gone.{EdgeRow, RowGone}
use Rattle.kernel_drop.proofs.Gone.{row_range}
use Rattle.kind_cut_plan.specs.declared.Plan.{Plan}

-- what the swap t asks of a with c cycles and m steps, which become u more
abbrev pub SwapAsks : Arrays → ℕ → ℕ → ℕ → Swap → Type 0
SwapAsks a c m u t =
    Fits (held_by a) × (Lengths a × ((c ≡ cycle_total (held_by a))
    × ((t.n ≤ 2) × ((all_real (spread entry_cycles (reshape (rewired same_vertex (swap_half t)) (sheet_of (held_by a)).cells)) ≡ true)
    × ((over steps_in (reshape (rewired same_vertex (swap_half t)) (sheet_of (held_by a)).cells) ≤ 2048) × ((m ≡ step_total (held_by a))
    × (((t.n ≤ 1) × (u ≡ 0)) ⊎ ((1 ≤ t.n) × (over steps_in (reshape (rewired same_vertex (swap_half t)) (sheet_of (held_by a)).cells) ≡ u + m)))))))))

-- k rows are left of n, and m cells came
came_outcome : (next n k m : ℕ) (out : Drawing) → 1 ≤ m → out.next ≡ next + m → out.count ≡ k + m
    → record { number = 0; first = next; new = m; removed = n - k; drawing = out } ≡ outcome next n out
came_outcome next n k m out l e f =
    let g : out.next - next ≡ m = omega (arith, e) in
    let h : n + (out.next - next) - out.count ≡ n - k = omega (arith, e, f) in
    ap (λ (b : Bool). record { number = 0; first = cond b 0 next; new = m; removed = n - k; drawing = out }) (sym (ne_eqb m 0 (λ z. omega (arith, z, l))))
    ∙ (λ i. record { number = 0; first = cond (eqb (sym g i) 0) 0 next; new = sym g i; removed = sym h i; drawing = out })

-- c are b with a vertex at p, its id that of v, and an edge from s to it; ys have room after them, and n bends are in use
pub record Parted (b : Arrays) (p : Position) (v s : ℕ) (bs : List Position) (ys : List Figure) (n : ℕ) (c : Arrays) : Type 0 where
  pub cells : b.count + 1 < 256
  pub ids : b.next + 1 < 65536
  pub long : Lengths c
  pub rows : normal c ≡ true
  pub fits : Fits (held_by c)
  pub sheet : sheet_of (held_by c) ≡ appended (appended (sheet_of (held_by b)) (vertex p)) (open_edge s v bs)
  pub used : bend_total (held_by c) ≡ n
  pub room : RoomIn (sheet_of (held_by c)) ys

module _ (a : Arrays) (l : Lengths a) (w : T (sound_arrays a)) (e q : ℕ) (r : Plan) (c : EdgeCuts (held_by a) e r.row r.base r.m q)
    (er : EdgeRow a r.row r.base r.m r.bends) where
  pub below : r.base + r.m ≤ r.bends
  below = (row_range a l (sound_fits (held_by a) (drawing_of a w)) (rows_of a w) r.row r.base r.m r.bends er).0

  pub most : r.bends ≤ 2048
  most = (row_range a l (sound_fits (held_by a) (drawing_of a w)) (rows_of a w) r.row r.base r.m r.bends er).1

  module _ (t : Swap) (cy st : List ℕ) (sw : SwappedIn t a (with_pools a cy st)) where
    abbrev mid : Arrays
    mid = with_pools a cy st

    module _ (i j : ℕ) (ij : i ≤ j) (jm : j ≤ r.m) (b : Arrays) (gone : RowGone (with_pools a cy st) r.row r.base r.m r.bends i j b) where
      pub left : (σ : Halfedge → List Halfedge) → swap_half t ≡ σ → sheet_of (held_by b) ≡ remade (others e) (rewired same_vertex σ) (sheet_of (held_by a))
      left σ h =
          dropped_row (held_by a) (held_sizes a l) (drawing_of a w) e r.row c.found c.below (rewired same_vertex σ) (held_by mid)
          (held_sizes mid sw.long) sw.fits
          (sw.sheet ∙ ap (λ (y : Halfedge → List Halfedge). with_entries (sheet_of (held_by a)) (reshape (rewired same_vertex y) (sheet_of (held_by a)).cells)) h)
          (set (replicate 256 false) r.row true) refl (held_by b) gone.keeps.sheet

      in_use_lem : bend_total (held_by b) ≡ r.bends - r.m
      in_use_lem =
          sym (ap (total (places_of 0)) (held_indexes b gone.long gone.keeps.rows).bends
          ∙ places_sum (λ (y : Cell). bend_count y.shape) (take b.count (held_by b).cells))
          ∙ gone.less

      pub bends_are : positions_in b.bx b.by ≡ moved_last r.base r.m i j r.bends (held_by a).bends
      bends_are =
          ap₂ positions_in gone.bx gone.by
          ∙ positions_moved r.base r.m i j r.bends a.bx a.by (l.bx ∙ sym l.by) ij jm below (omega (arith, most, l.bx))

      -- the vertex, and then an edge from s to it, of k bends; ys come after it
      module _ (s k : ℕ) (bs : List Position) (ys : List Figure) (rooms : RoomIn (sheet_of (held_by b)) (vertex r.p ∷ open_edge s a.next bs ∷ ys))
          (run : run_at (r.bends - r.m) k (positions_in b.bx b.by) ≡ bs) (few : r.bends - r.m + k ≤ 2048) where
        abbrev x : Figure
        x = open_edge s a.next bs

        room1 : CellRoom (held_by b) (vertex r.p)
        room1 = room_first (held_by b) (held_sizes b gone.long) gone.keeps.fits (vertex r.p) (x ∷ ys) rooms

        abbrev b1 : Arrays
        b1 = with_vertex b r.p

        long1 : Lengths b1
        long1 = vertex_long b gone.long r.p

        came1 : (sheet_of (held_by b1) ≡ appended (sheet_of (held_by b)) (vertex r.p)) × Fits (held_by b1)
        came1 = vertex_comes b gone.long r.p room1

        rooms2 : RoomIn (sheet_of (held_by b1)) (x ∷ ys)
        rooms2 = subst (λ (z : Sheet). RoomIn z (x ∷ ys)) (sym came1.0) (room_next (vertex r.p) (x ∷ ys) (sheet_of (held_by b)) rooms)

        room2 : CellRoom (held_by b1) x
        room2 = room_first (held_by b1) (held_sizes b1 long1) came1.1 x ys rooms2

        used1 : bend_total (held_by b1) ≡ r.bends - r.m
        used1 = vertex_bends b gone.long r.p room1.cells ∙ in_use_lem

        all_bends : length (positions_in b.bx b.by) ≡ 2048
        all_bends = (held_sizes b gone.long).bends

        abbrev b2 : Arrays
        b2 = with_open b1 s a.next k

        came2 : (sheet_of (held_by b2) ≡ appended (sheet_of (held_by b1)) x) × Fits (held_by b2)
        came2 =
            open_comes b1 long1 s a.next k bs room2
            (ap length (sym run) ∙ run_length (r.bends - r.m) k (positions_in b.bx b.by) (omega (arith, all_bends, few)))
            (ap (λ (n : ℕ). run_at n k (positions_in b.bx b.by)) used1 ∙ run)

        pub parted : Parted b r.p a.next s bs ys (r.bends - r.m + k) (with_open (with_vertex b r.p) s a.next k)
        parted =
            record {
              cells = room2.cells;
              ids = room2.ids;
              long = open_long b1 long1 s a.next k;
              rows = open_normal b1 long1 s a.next k room2.cells (vertex_normal b gone.long r.p room1.cells gone.keeps.rows);
              fits = came2.1;
              sheet = came2.0 ∙ ap (λ (z : Sheet). appended z x) came1.0;
              used = open_bends b1 long1 s a.next k room2.cells ∙ ap (λ (n : ℕ). n + k) used1;
              room = subst (λ (z : Sheet). RoomIn z ys) (sym came2.0) (room_next x ys (sheet_of (held_by b1)) rooms2);
            }

-- ---- the answer, where z hold the result: k rows are left, and n cells came
pub cut_obeyed : (a : Arrays) (l : Lengths a) (w : T (sound_arrays a)) (e q : ℕ) → Asked (held_by a) (cut_edge e q) 0 → (z : Arrays) → Lengths z → Fits (held_by z)
    → sheet_of (held_by z) ≡ result (sheet_of (held_by a)) (cut_edge e q) → normal z ≡ true → (k n : ℕ) → 1 ≤ n → z.next ≡ a.next + n → z.count ≡ k + n
    → (o : Arrays) → o ≡ z → (m : Line) → m ≡ record { number = 0; first = a.next; new = n; removed = a.count - k } → Obeyed a (cut_edge e q) o m
cut_obeyed a l w e q y z lz fz made rz k n h en ec o eo m em =
    subst (λ (v : Arrays). Obeyed a (cut_edge e q) v m) (sym eo)
    (record {
      answers =
          answers (held_by a) (held_sizes a l) (drawing_of a w) (cut_edge e q) 0 y refl (held_by z) (held_sizes z lz) fz made (answer_by m (held_by z))
          (ap (λ (u : Line). answer_by u (held_by z)) em ∙ came_outcome a.next a.count k n (held_by z) h en ec);
      back = λ i. absurd (i (ap (λ (u : Line). u.number) em));
      rows = rz;
    })
