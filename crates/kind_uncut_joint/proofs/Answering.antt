-- 0E at a vertex with one end each of two open edges: from what is asked to what is answered. Assumes nothing.
use Prim.Native.Nat.{ℕ, zero, suc, ◌+◌, ◌-◌, ◌<◌, ◌≤◌}
use native.Mathlib.Omega.{arith}
use mathlib.Core.Path.{◌≡◌, refl, sym, ap, ap₂, ◌∙◌, subst}
use mathlib.Core.Bool.{Bool, true, false, cond, false≢true}
use mathlib.Core.List.{List, [], ◌∷◌}
use mathlib.Core.Option.{Option}
use lib.Dec.{T, ltb, lit≤}
use lib.ListN.{length, get_or, take, set, replicate, length-map}
use lib.Seq.{get_or-take}
use borrow.Author.Tests.{eqb-true, eqb-false, eq-eqb, ltb-true, ltb-false}
use Rattle.coordinate.specs.declared.Position.{Position}
use Rattle.complex.specs.Lists.{total}
use Rattle.complex.specs.Cells.{Figure, open_edge, Sheet, LiveCell, cell_at, is_live, is_open, bends_of, cycles_of as cyclesHeld, ids}
use Rattle.complex.specs.Edits.{none_of, reshape, rewired, same_vertex}
use Rattle.complex.specs.Uncut.{joint, in_one, uncut_case}
use Rattle.complex.specs.Sound.{ids_end}
use Rattle.complex.specs.Decode.{uncut}
use Rattle.complex.specs.Commands.{result}
use Rattle.complex.proofs.Asked.{answered_no}
use Rattle.complex.proofs.Bools.{true_of}
use Rattle.complex.proofs.Keep.{Sound}
use Rattle.complex.proofs.Lookup.{lookup_from}
use Rattle.complex.proofs.UncutVertex.{real_ends}
use Rattle.store.specs.declared.Cell.{Cell}
use Rattle.number.specs.Readers.{spread}
use Rattle.store.specs.Sheet.{all_real}
use Rattle.store.specs.Places.{entry_cycles}
use Rattle.store.specs.Index.{Rising, row_of}
use Rattle.store.specs.View.{sheet_of}
use Rattle.store.specs.Edits.{places_of, with_entries, appended}
use Rattle.store.proofs.Grow.{next_is}
use Rattle.store.proofs.Rows.{get_d_any}
use Rattle.store.proofs.Stands.{stands, count_is}
use Rattle.sound.specs.Looks.{kind_number}
use Rattle.sound.proofs.Meaning.{rising_is, sheet_rising}
use Rattle.rows_new.specs.Appends.{remade, RoomIn}
use Rattle.rows_new.specs.Runs.{runs_of}
use Rattle.answer.specs.Sizes.{sized, more_less, changed_by}
use Rattle.answer.specs.Late.{sizes_by, late_no, Small}
use Rattle.answer.specs.declared.Totals.{Totals}
use Rattle.answer.proofs.Asked.{sound_in, next_in_lem, Asked, answer, answers}
use Rattle.rows_gone.proofs.Dropped.{live_below, row_only}
use Rattle.ask_cut_edge.specs.Cuts.{vertex_place, no_cell}
use Rattle.ask_cut_edge.proofs.Found.{row_below, read_row, base_asks}
use Rattle.ask_cut_edge.proofs.Opened.{open_figure}
use Rattle.law_uncut.proofs.Passing.{uncut_result_lem}
use Rattle.ask_uncut_vertex.specs.declared.Side.{Side}
use Rattle.ask_uncut_vertex.specs.Needs.{Merged, leaving, Sided, joint_runs, Joint}
use Rattle.ask_uncut_vertex.proofs.Told.{AtJoint, joint_told}
use Rattle.ask_uncut_vertex.proofs.Dropping.{three_left}
use Rattle.ask_uncut_vertex.proofs.Answering.{new_outcome, sided, at_first_lem, at_second_lem, joint_made, joint_needs, joint_asked, joint_meets}
use Rattle.lent.specs.Arrays.{Arrays, position_in, positions_in, shape_by, shape_at, held_by, rows_by, normal}
use Rattle.lent.proofs.Held.{held_sizes}
use Rattle.lent.proofs.Sums.{ready_rows, ready_drawing, ready_sheet}
use Rattle.lent.proofs.Finds.{ready_finds}
use Rattle.lent.proofs.Sums.{ready_sizes, ready_fits, ready_indexes, ready_looks, ready_cycles, ready_steps, ready_totals, ready_small, ready_no}
use Rattle.lent.specs.declared.Line.{Line}
use Rattle.lent.specs.Replies.{line_of, answer_by, Ready, Obeyed}
use Rattle.kernel_drop.specs.Gone.{EdgeRow}
use Rattle.kernel_drop.specs.Three.{ThreeRows}
use Rattle.kernel_keep.proofs.Rows.{cell_at_lem}
use Rattle.kernel_swap.proofs.Lent.{with_pools}
use Rattle.kind_uncut_joint.specs.declared.Order.{Order}
use Rattle.kind_uncut_joint.specs.Joining.{side_from, order_of, Merges, MergedIn, edge_of, left_of, Joins, Joined}

-- ---- the order of the two edges
set_turn : (l : List Bool) (i j : ℕ) → set (set l i true) j true ≡ set (set l j true) i true
set_turn [] i j = refl
set_turn (b ∷ l) zero zero = refl
set_turn (b ∷ l) zero (suc j) = refl
set_turn (b ∷ l) (suc i) zero = refl
set_turn (b ∷ l) (suc i) (suc j) = ap (λ (q : List Bool). b ∷ q) (set_turn l i j)

flags_are : (s u : Side) (back1 back2 : Bool) (bare : ℕ) (none : List Bool)
    → set (set (set none (order_of s back1 u back2).first.row true) (order_of s back1 u back2).second.row true) bare true
    ≡ set (set (set none bare true) s.row true) u.row true
flags_are s u true back2 bare none = set_turn (set none s.row true) u.row bare ∙ ap (λ (q : List Bool). set q u.row true) (set_turn none s.row bare)
flags_are s u false back2 bare none =
    set_turn (set none u.row true) s.row bare ∙ ap (λ (q : List Bool). set q s.row true) (set_turn none u.row bare)
    ∙ set_turn (set none bare true) u.row s.row

edge_is : (bs : List Position) (s u : Side) (back1 back2 : Bool) (p : Position)
    → edge_of bs (order_of s back1 u back2) p ≡ open_edge (cond back1 s.far u.far) (cond back1 u.far s.far) (runs_of bs (joint_runs p s back1 u back2))
edge_is bs s u true back2 p = refl
edge_is bs s u false back2 p = refl

three_of : (a : Arrays) (s u : Side) (back1 back2 : Bool) (bare t : ℕ) → EdgeRow a s.row s.first s.count t
    → EdgeRow a u.row u.first u.count t → (s.row ≡ u.row → ⊥)
    → bare < a.count → get_or a.bends bare 0 ≡ 0 → get_or a.counts bare 0 ≡ 0
    → ThreeRows a (order_of s back1 u back2).first.row (order_of s back1 u back2).first.first (order_of s back1 u back2).first.count
    (order_of s back1 u back2).second.row (order_of s back1 u back2).second.first (order_of s back1 u back2).second.count bare t
three_of a s u true back2 bare t es eu ne h b c = record { one = es; two = eu; apart = ne; bare_in = h; bare_bends = b; bare_cycles = c }
three_of a s u false back2 bare t es eu ne h b c = record { one = eu; two = es; apart = λ q. ne (sym q); bare_in = h; bare_bends = b; bare_cycles = c }

-- the id of a live cell is below the next
live_before : (s : Sheet) → Sound s → (i : ℕ) → is_live (cell_at s i) ≡ true → i < s.next
live_before s S i l = go (ltb i s.next) refl
  where
    go : (b : Bool) → ltb i s.next ≡ b → i < s.next
    go true e = ltb-true i s.next e
    go false e = absurd (false≢true (sym (ap is_live (lookup_from 0 s.cells s.next i S.rises (ltb-false i s.next e))) ∙ l))

module _ (a : Arrays) (t : Totals) (r : Ready a t) (v x : ℕ) (back1 : Bool) (y : ℕ) (back2 : Bool)
    (h : uncut_case (sheet_of (held_by a)) v ≡ joint (leaving x back1) (leaving y back2)) where
  pub counts : (a.next ≤ ids_end) × (Small t × (2 ≤ 4294967296))
  counts = (next_in_lem (held_by a) (ready_drawing a t r), (ready_small a t r, lit≤ tt))

  tells : AtJoint (sheet_of (held_by a)) v (leaving x back1) (leaving y back2)
  tells = joint_told (sheet_of (held_by a)) (sound_in (held_by a) (ready_drawing a t r)) v (leaving x back1) (leaving y back2) h

  opens : T (is_open (cell_at (sheet_of (held_by a)) x)) × T (is_open (cell_at (sheet_of (held_by a)) y))
  opens =
      let m = tells in
      let e = real_ends (sheet_of (held_by a)) (sound_in (held_by a) (ready_drawing a t r)) v m.place m.at (leaving x back1) (leaving y back2) m.ends
      m.alone in
      (e.0.0, e.1.0.0)

  module _ (no : ℕ) (en : no ≡ late_no a.next 1 (changed_by (sizes_by t) (more_less (sized 0 0 0 1) (sized 2 0 0 0)))) where
    asks : Asked (held_by a) (uncut v) no
    asks = joint_asked (held_by a) (ready_sizes a t r) (ready_drawing a t r) v x back1 y back2 h (rows_by a) (ready_indexes a t r) t (ready_totals a t r) no en

    pub refuses : (no ≡ 0 → ⊥) → (l : Line) → l ≡ line_of no → Obeyed a (uncut v) a l
    refuses nz l e =
        ready_no a t r (uncut v) no l e
        (answer (held_by a) (ready_sizes a t r) (ready_drawing a t r) (uncut v) no asks
        ∙ answered_no (sheet_of (held_by a)) (result (sheet_of (held_by a)) (uncut v)) no nz)

    module _ (yes : no ≡ 0) where
      meets : Joint (held_by a) (rows_by a) v x back1 y back2
      meets = joint_meets (held_by a) (ready_sizes a t r) (ready_drawing a t r) v x back1 y back2 h no asks yes (rows_by a) (ready_indexes a t r)

      live1 : is_live (cell_at (sheet_of (held_by a)) x) ≡ true
      live1 = at_first_lem (held_by a) (ready_sizes a t r) (rows_by a) v x back1 y back2 meets

      live2 : is_live (cell_at (sheet_of (held_by a)) y) ≡ true
      live2 = at_second_lem (held_by a) (ready_sizes a t r) (rows_by a) v x back1 y back2 meets

      live0 : is_live (cell_at (sheet_of (held_by a)) v) ≡ true
      live0 = ap is_live tells.at

      pub vertex_row : (row : ℕ) → row ≡ row_of v (take a.count a.ids) → row < 256
      vertex_row row e = row_below (held_by a) (ready_sizes a t r) (ready_drawing a t r) (rows_by a) (ready_indexes a t r) v row e live0

      side_asks : (e : ℕ) → is_live (cell_at (sheet_of (held_by a)) e) ≡ true → (a.count ≤ 256) × ((length a.ids ≡ 256) × (Rising (take a.count a.ids)
          × ((row_of e (take a.count a.ids) < 256)
          × ((total (places_of 0) (take (row_of e (take a.count a.ids)) a.bends) ≤ 2048) × (length a.bends ≡ 256)))))
      side_asks e l =
          let f = ready_finds a t r in
          let row = row_of e (take a.count a.ids) in (
            f.0,
            (
              f.1.0,
              (
                f.1.1,
                (
                  row_below (held_by a) (ready_sizes a t r) (ready_drawing a t r) (rows_by a) (ready_indexes a t r) e row refl l,
                  ((base_asks (held_by a) (ready_sizes a t r) (ready_drawing a t r) (rows_by a) (ready_indexes a t r) e row refl l).1, r.long.bends),
                ),
              ),
            ),
          )

      pub first_asks : (a.count ≤ 256) × ((length a.ids ≡ 256) × (Rising (take a.count a.ids)
          × ((row_of x (take a.count a.ids) < 256)
          × ((total (places_of 0) (take (row_of x (take a.count a.ids)) a.bends) ≤ 2048) × (length a.bends ≡ 256)))))
      first_asks = side_asks x live1

      pub second_asks : (a.count ≤ 256) × ((length a.ids ≡ 256) × (Rising (take a.count a.ids)
          × ((row_of y (take a.count a.ids) < 256)
          × ((total (places_of 0) (take (row_of y (take a.count a.ids)) a.bends) ≤ 2048) × (length a.bends ≡ 256)))))
      second_asks = side_asks y live2

      -- an edge's row
      side_is : (e : ℕ) → is_live (cell_at (sheet_of (held_by a)) e) ≡ true → (back : Bool) (s : Side)
          → s ≡ side_from (row_of e (take a.count a.ids)) a.starts a.ends a.bends back → Sided (held_by a) e back s
      side_is e l back s es =
          subst (Sided (held_by a) e back) (sym es)
          (sided (held_by a) (ready_sizes a t r) (ready_drawing a t r) (rows_by a) (ready_indexes a t r) e
          (row_of e (take a.count a.ids)) refl l back _ _ _ refl refl refl)

      edge_row : (e : ℕ) → is_live (cell_at (sheet_of (held_by a)) e) ≡ true → T (is_open (cell_at (sheet_of (held_by a)) e)) → (back : Bool) (s : Side)
          → s ≡ side_from (row_of e (take a.count a.ids)) a.starts a.ends a.bends back
          → EdgeRow a s.row s.first s.count t.bends
      edge_row e l op back s es =
          let row = row_of e (take a.count a.ids) in
          subst (λ (q : Side). EdgeRow a q.row q.first q.count t.bends) (sym es)
          (record {
            below = live_below (held_by a) (ready_sizes a t r) (ready_drawing a t r) (rows_by a) (ready_indexes a t r) e row refl l;
            from = refl;
            own = refl;
            none =
                read_row (held_by a) (ready_sizes a t r) (ready_drawing a t r) (rows_by a) (ready_indexes a t r) e row refl l a.counts
                ∙ (ready_looks a t r).cycles e
                ∙ ap (λ (o : Option Figure). length (cyclesHeld o)) (open_figure (cell_at (sheet_of (held_by a)) e) (true_of _ op));
            all = ap (λ (k : Totals). k.bends) r.sums;
          })

      module _ (row : ℕ) (er : row ≡ row_of v (take a.count a.ids)) (p : Position) (ep : p ≡ position_in a.px a.py row)
          (s u : Side) (es : s ≡ side_from (row_of x (take a.count a.ids)) a.starts a.ends a.bends back1)
          (eu : u ≡ side_from (row_of y (take a.count a.ids)) a.starts a.ends a.bends back2) where
        below : row < a.count
        below = live_below (held_by a) (ready_sizes a t r) (ready_drawing a t r) (rows_by a) (ready_indexes a t r) v row er live0

        kind_is : get_or a.kinds row 0 ≡ 0
        kind_is =
            get_d_any a.kinds row 0 4 (omega (arith, vertex_row row er, r.long.kinds)) ∙ sym (get_or-take a.count a.kinds row 4 below)
            ∙ ap (λ (k : ℕ). get_or (take a.count a.kinds) k 4) er ∙ (ready_looks a t r).kinds v ∙ ap kind_number tells.at

        place : p ≡ vertex_place (get_or (held_by a).cells row no_cell).shape
        place =
            ep
            ∙ sym (ap (λ (k : ℕ). vertex_place
            (shape_by k (get_or a.starts row 0) (get_or a.ends row 0) (get_or a.bends row 0) (get_or a.counts row 0)
            (position_in a.px a.py row))) kind_is)
            ∙ sym (ap (λ (c : Cell). vertex_place c.shape) (cell_at_lem (shape_at a) a.ids row no_cell (omega (arith, vertex_row row er, r.long.ids))))

        need : Merged (held_by a) v row x s.row y u.row (cond back1 s.far u.far) (cond back1 u.far s.far) (joint_runs p s back1 u back2)
        need =
            joint_needs (held_by a) (ready_sizes a t r) (rows_by a) v x back1 y back2 meets row er p place s u (side_is x live1 back1 s es)
            (side_is y live2 back2 u eu) _ _ refl refl _ refl

        next_same : (sheet_of (held_by a)).next ≡ a.next
        next_same = next_is (held_by a)

        apart : x ≡ y → ⊥
        apart = eqb-false x y tells.apart

        pub merges : Merges a t.cycles t.steps x y
        merges =
            record {
              fits = ready_fits a t r;
              long = r.long;
              cycles = ready_cycles a t r;
              steps = ready_steps a t r;
              small = need.small;
              small2 = need.small2;
              small3 = omega (arith, next_in_lem (held_by a) (ready_drawing a t r));
              apart = apart;
              below = subst (λ (n : ℕ). y < n) next_same (live_before (sheet_of (held_by a)) (sound_in (held_by a) (ready_drawing a t r)) y live2);
              real =
                  subst (λ (n : ℕ). all_real (spread entry_cycles (reshape (rewired same_vertex (in_one x y n)) (sheet_of (held_by a)).cells)) ≡ true) next_same
                  need.real;
            }

        rows_apart : s.row ≡ u.row → ⊥
        rows_apart q =
            let d = held_by a in
            let cs = (sheet_of d).cells in
            let z = ready_sizes a t r in
            let f = ready_fits a t r in
            let sx = side_is x live1 back1 s es in
            let sy = side_is y live2 back2 u eu in
            let rs : Rising (ids cs) = rising_is (ids cs) (sheet_of d).next (sheet_rising d (ready_sheet a t r)) in
            let n = count_is d cs (stands d z f) z f.cells in
            let l = length-map cs (λ (c : LiveCell). c.id) in
            let hx = row_only (ids cs) rs x s.row (omega (arith, sx.row, sx.row_in, n, l)) (omega (arith, sx.row_in, n, l)) in
            let hy = row_only (ids cs) rs y s.row (omega (arith, sy.row, sy.row_in, n, l)) (omega (arith, sx.row_in, n, l)) in
            let ix = eqb-true x (get_or (ids cs) s.row 0) (sym hx ∙ eq-eqb _ _ (sym sx.row)) in
            let iy = eqb-true y (get_or (ids cs) s.row 0) (sym hy ∙ eq-eqb _ _ (sym sy.row ∙ sym q)) in
            apart (ix ∙ sym iy)

        three_rows : ThreeRows a (order_of s back1 u back2).first.row (order_of s back1 u back2).first.first (order_of s back1 u back2).first.count
            (order_of s back1 u back2).second.row (order_of s back1 u back2).second.first (order_of s back1 u back2).second.count row t.bends
        three_rows =
            let o = opens in
            let read = read_row (held_by a) (ready_sizes a t r) (ready_drawing a t r) (rows_by a) (ready_indexes a t r) v row er live0 in
            three_of a s u back1 back2 row t.bends (edge_row x live1 o.0 back1 s es) (edge_row y live2 o.1 back2 u eu) rows_apart below
            (read a.bends ∙ (ready_looks a t r).bends v ∙ ap (λ (k : Option Figure). length (bends_of k)) tells.at)
            (read a.counts ∙ (ready_looks a t r).cycles v ∙ ap (λ (k : Option Figure). length (cyclesHeld k)) tells.at)

        -- the steps of both edges are those of the next cell
        module _ (mid : Arrays) (kept : mid ≡ with_pools a mid.cycles mid.steps) (g : MergedIn a x y mid) where
          abbrev step : ℕ → Figure → Figure
          step = rewired same_vertex (in_one x y (sheet_of (held_by a)).next)

          three_mid : ThreeRows mid (order_of s back1 u back2).first.row (order_of s back1 u back2).first.first
              (order_of s back1 u back2).first.count (order_of s back1 u back2).second.row (order_of s back1 u back2).second.first
              (order_of s back1 u back2).second.count row t.bends
          three_mid =
              let k = three_rows in
              let i = k.one in
              let j = k.two in
              subst
              (λ (b : Arrays). ThreeRows b (order_of s back1 u back2).first.row (order_of s back1 u back2).first.first
              (order_of s back1 u back2).first.count (order_of s back1 u back2).second.row (order_of s back1 u back2).second.first
              (order_of s back1 u back2).second.count row t.bends)
              (sym kept)
              (record {
                one = record { below = i.below; from = i.from; own = i.own; none = i.none; all = i.all };
                two = record { below = j.below; from = j.from; own = j.own; none = j.none; all = j.all };
                apart = k.apart;
                bare_in = k.bare_in;
                bare_bends = k.bare_bends;
                bare_cycles = k.bare_cycles;
              })

          left : left_of mid (order_of s back1 u back2) row ≡ remade (none_of v x y) step (sheet_of (held_by a))
          left =
              three_left (held_by a) (ready_sizes a t r) v row x s.row y u.row need.triple step (held_by mid) (held_sizes mid g.long) g.fits
              (g.sheet ∙ ap (λ (n : ℕ). with_entries (sheet_of (held_by a)) (reshape (rewired same_vertex (in_one x y n)) (sheet_of (held_by a)).cells))
              (sym next_same)) _
              (flags_are s u back1 back2 row (replicate 256 false))

          abbrev edge : Figure
          edge = open_edge (cond back1 s.far u.far) (cond back1 u.far s.far) (runs_of (held_by a).bends (joint_runs p s back1 u back2))

          -- their bends are as they were
          bends_are : positions_in mid.bx mid.by ≡ positions_in a.bx a.by
          bends_are = ap (λ (b : Arrays). positions_in b.bx b.by) kept

          edge_mid : edge_of (positions_in mid.bx mid.by) (order_of s back1 u back2) p ≡ edge
          edge_mid =
              ap (λ (l : List Position). edge_of l (order_of s back1 u back2) p) bends_are
              ∙ edge_is (positions_in a.bx a.by) s u back1 back2 p

          joins_ordered : Joins mid (order_of s back1 u back2) row t.bends p
          joins_ordered =
              record {
                fits = g.fits;
                long = g.long;
                rows = ap normal kept ∙ ready_rows a t r;
                three = three_mid;
                room =
                    subst (λ (f : Figure). RoomIn (left_of mid (order_of s back1 u back2) row) (f ∷ []))
                    (sym edge_mid)
                    (subst (λ (w : Sheet). RoomIn w (edge ∷ [])) (sym left) need.room);
              }

          module _ (o : Order) (eo : o ≡ order_of s back1 u back2) where
            pub joins : Joins mid o row t.bends p
            joins = subst (λ (q : Order). Joins mid q row t.bends p) (sym eo) joins_ordered

            pub obeyed : (out : Arrays) (l : Line) → Joined mid o row p out l → Obeyed a (uncut v) out l
            obeyed out l jo =
                let d = held_by a in
                let z = ready_sizes a t r in
                let w = ready_drawing a t r in
                let j = subst (λ (q : Order). Joined mid q row p out l) eo jo in
                let line = j.line ∙ ap (λ (b : Arrays). record { number = 0; first = b.next; new = 1; removed = b.count + 1 - out.count }) kept in
                let made =
                j.sheet ∙ ap₂ appended left edge_mid
                ∙ joint_made d z (rows_by a) v x back1 y back2 meets row er p place s u (side_is x live1 back1 s es)
                (side_is y live2 back2 u eu) _ _ refl refl _ refl
                ∙ sym (uncut_result_lem (sheet_of d) v (joint (leaving x back1) (leaving y back2)) h) in
                record {
                  answers =
                      answers d z w (uncut v) no asks yes (held_by out) (held_sizes out j.long) j.fits made (answer_by l (held_by out))
                      (ap (λ (k : Line). answer_by k (held_by out)) line ∙ new_outcome a.next a.count _ (held_by out)
                      (j.issued ∙ ap (λ (b : Arrays). b.next + 1) kept) refl);
                  back = λ n. absurd (n (ap (λ (k : Line). k.number) j.line));
                  rows = j.rows;
                }
