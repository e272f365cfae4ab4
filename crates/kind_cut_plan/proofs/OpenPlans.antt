-- What is found before an open edge is cut. Assumes nothing.
use Prim.Native.Nat.{ℕ, zero, suc, ◌+◌, ◌-◌, ◌/◌, ◌%◌, ◌<◌, ◌≤◌}
use native.Mathlib.Omega.{arith}
use mathlib.Core.Path.{◌≡◌, refl, sym, ap, ◌∙◌, subst}
use mathlib.Core.Bool.{true, ◌&&◌}
use mathlib.Core.Option.{Option, some}
use lib.Dec.{T}
use lib.ListN.{length, get_or, take}
use Rattle.std.specs.Prelude.{Ok}
use Rattle.coordinate.specs.declared.Position.{Position}
use Rattle.coordinate.specs.Bounds.{within}
use Rattle.complex.specs.Lists.{all, total}
use Rattle.complex.specs.Cells.{Figure, vertex, open_edge, closed_edge, face, Sheet, cell_at, is_vertex, is_open, is_live, start_of, end_of, bends_of}
use Rattle.complex.specs.Cells.{cycles_of as cyclesHeld, origin}
use Rattle.complex.specs.Edits.{keep_ids, reshape, others}
use Rattle.complex.specs.Sound.{steps_in, over}
use Rattle.complex.specs.Uses.{step_use, uses_by}
use Rattle.answer.specs.Sizes.{sized, sizes_of, more_less, changed_by, cut_change, change_of, sizes_after}
use Rattle.answer.specs.Sizes as whole
use Rattle.complex.specs.Decode.{cut_edge}
use Rattle.complex.specs.Commands.{result}
use Rattle.complex.proofs.Bools.{both}
use Rattle.complex.proofs.Faces.{without_one}
use Rattle.complex.proofs.Euler.{over_rebuild}
use Rattle.answer.proofs.SizesCut.{cut_edge_sizes}
use Rattle.store.specs.declared.Cell.{Cell}
use Rattle.store.specs.declared.Drawing.{Drawing}
use Rattle.store.specs.Index.{Indexes, row_of, kind_of}
use Rattle.store.specs.Sizes.{Sizes}
use Rattle.store.specs.View.{sheet_of, cycles_from}
use Rattle.store.specs.Places.{shape_of}
use Rattle.store.specs.Edits.{places_of}
use Rattle.store.proofs.Stands.{ids_same}
use Rattle.sound.specs.Soundness.{sound_drawing}
use Rattle.sound.proofs.Meaning.{sound_fits, looks}
use Rattle.rows_new.specs.Appends.{figure_at}
use Rattle.rows_new.proofs.Copied.{row_shape}
use Rattle.answer.specs.declared.Totals.{Totals}
use Rattle.answer.specs.Late.{sizes_by, late_no}
use Rattle.answer.proofs.Laws.{totals_in, totals_are_lem}
use Rattle.answer.proofs.Asked.{sound_in, Asked, asked_six}
use Rattle.rows_gone.proofs.Dropped.{live_below}
use Rattle.ask_cut_edge.specs.Cuts.{EdgeCuts, OpenEnds, CutPlaced, vertex_place, no_cell, point_place, open_between}
use Rattle.ask_cut_edge.proofs.Found.{own_figure, read_row}
use Rattle.ask_cut_edge.proofs.Opened.{vertex_live, open_figure, point_below, part_step, part_cells, first, second, parts_are, steps_after, steps_by, placed_read}
use Rattle.ask_cut_edge.proofs.OpenAnswer.{uses_are, open_live, ends_found, asked, open_cuts}
use Rattle.lent.specs.Arrays.{Arrays, shape_by, shape_at, position_in, held_by, rows_by, sound_arrays, Lengths}
use Rattle.lent.proofs.Held.{held_sizes, held_indexes, positions_at_lem}
use Rattle.lent.proofs.Replies.{rows_of, drawing_of}
use Rattle.lent.proofs.Sums.{ready_cycles, ready_steps}
use Rattle.kernel_keep.proofs.Rows.{cell_at_lem}
use Rattle.kind_cut_plan.specs.Plans.{Planned}

-- ---- a vertex's row
vertex_kind : (x : Figure) → T (is_vertex (some x)) → kind_of (shape_of x) ≡ 0
vertex_kind (vertex p) t = refl
vertex_kind (open_edge a b bs) t = absurd t
vertex_kind (closed_edge bs) t = absurd t
vertex_kind (face ks) t = absurd t

place_read : (k s e b c : ℕ) (p : Position) → kind_of (shape_by k s e b c p) ≡ 0 → p ≡ vertex_place (shape_by k s e b c p)
place_read zero s e b c p h = refl
place_read (suc zero) s e b c p h = absurd (omega (arith, h))
place_read (suc (suc zero)) s e b c p h = absurd (omega (arith, h))
place_read (suc (suc (suc k))) s e b c p h = absurd (omega (arith, h))

module _ (a : Arrays) (l : Lengths a) (w : T (sound_arrays a)) where
  abbrev d : Drawing
  d = held_by a

  abbrev z : Sizes (held_by a)
  z = held_sizes a l

  abbrev s : T (sound_drawing (held_by a))
  s = drawing_of a w

  abbrev x : Indexes (held_by a) (rows_by a)
  x = held_indexes a l (rows_of a w)

  module _ (v row : ℕ) (er : row ≡ row_of v (take a.count a.ids)) (t : T (is_vertex (cell_at (sheet_of (held_by a)) v))) where
    live : is_live (cell_at (sheet_of (held_by a)) v) ≡ true
    live = vertex_live (cell_at (sheet_of (held_by a)) v) t

    below : row < a.count
    below = live_below d z s (rows_by a) x v row er live

    pub end_below : row < 256
    end_below = omega (arith, below, (sound_fits d s).cells)

    pub end_place : position_in a.px a.py row ≡ vertex_place (get_or (held_by a).cells row no_cell).shape
    end_place =
        let c : (get_or (held_by a).cells row no_cell).shape ≡ shape_at a row = ap (λ (y : Cell). y.shape)
        (cell_at_lem (shape_at a) a.ids row no_cell (omega (arith, end_below, l.ids))) in
        let k : kind_of (shape_at a row) ≡ 0 =
        ap kind_of (sym c ∙ row_shape d z (sound_fits d s) row below no_cell)
        ∙ vertex_kind (figure_at (sheet_of d) row) (subst (λ (o : Option Figure). T (is_vertex o)) (own_figure d z s (rows_by a) x v row er live) t) in
        place_read (get_or a.kinds row 0) (get_or a.starts row 0) (get_or a.ends row 0) (get_or a.bends row 0) (get_or a.counts row 0)
        (position_in a.px a.py row) k
        ∙ ap vertex_place (sym c)

  module _ (e : ℕ) (op : is_open (cell_at (sheet_of (held_by a)) e) ≡ true) where
    pub ends_are : T (is_vertex (cell_at (sheet_of (held_by a)) (start_of (cell_at (sheet_of (held_by a)) e))))
        × T (is_vertex (cell_at (sheet_of (held_by a)) (end_of (cell_at (sheet_of (held_by a)) e))))
    ends_are =
        let o = cell_at (sheet_of d) e in
        let t = (sound_in d s).figures e (open_edge (start_of o) (end_of o) (bends_of o)) (open_figure o op) in
        let p = both (is_vertex (cell_at (sheet_of d) (start_of o))) (is_vertex (cell_at (sheet_of d) (end_of o)) && all within (bends_of o)) t in
        let r = both (is_vertex (cell_at (sheet_of d) (end_of o))) (all within (bends_of o)) p.1 in
        (p.0, r.0)

    module _ (q row base m : ℕ) (c : EdgeCuts (held_by a) e row base m q) (u f : ℕ) (n : OpenEnds (held_by a) e u f) where
      start_is : T (is_vertex (cell_at (sheet_of (held_by a)) u))
      start_is = subst (λ (v : ℕ). T (is_vertex (cell_at (sheet_of (held_by a)) v))) (sym n.start) ends_are.0

      end_is : T (is_vertex (cell_at (sheet_of (held_by a)) f))
      end_is = subst (λ (v : ℕ). T (is_vertex (cell_at (sheet_of (held_by a)) v))) (sym n.end) ends_are.1

      pub rows_below : (row_of u (take a.count a.ids) < 256) × (row_of f (take a.count a.ids) < 256)
      rows_below = (end_below u (row_of u (take a.count a.ids)) refl start_is, end_below f (row_of f (take a.count a.ids)) refl end_is)

      pub placed_in : (p : Position)
          → p ≡ open_between (position_in a.px a.py (row_of u (take a.count a.ids))) (position_in a.px a.py (row_of f (take a.count a.ids)))
          (position_in a.bx a.by (point_place base m (q / 2))) (position_in a.bx a.by (point_place base m (q / 2 + 1))) m q
          → CutPlaced (held_by a) e q p
      placed_in p ep =
          let rs = row_of u (take a.count a.ids) in
          let re = row_of f (take a.count a.ids) in
          let k1 = point_place base m (q / 2) in
          let k2 = point_place base m (q / 2 + 1) in
          let pa = position_in a.px a.py rs in
          let pb = position_in a.px a.py re in
          let b1 = point_below base m (q / 2) c.range in
          let b2 = point_below base m (q / 2 + 1) c.range in
          let g1 = positions_at_lem a.bx a.by k1 origin (omega (arith, b1, l.bx)) (omega (arith, b1, l.by)) in
          let g2 = positions_at_lem a.bx a.by k2 origin (omega (arith, b2, l.bx)) (omega (arith, b2, l.by)) in
          placed_read d z e row base m q c u f n a.ids (x.ids ∙ ids_same d z (sound_fits d s)) rs re refl refl no_cell origin pa pb p k1 k2
          (end_place u rs refl start_is) (end_place f re refl end_is) refl refl
          (ep ∙ (λ i. open_between pa pb (sym g1 i) (sym g2 i) m q))

    module _ (q : ℕ) (t : Totals) (et : t ≡ totals_in (held_by a) z (sound_fits (held_by a) s) (rows_by a) x) where
      sizes_are : sizes_by t ≡ sizes_of (sheet_of (held_by a)).cells
      sizes_are = ap sizes_by et ∙ totals_are_lem d z (sound_fits d s) (rows_by a) x

      change_is : change_of (sheet_of (held_by a)) (cut_edge e q)
          ≡ more_less (sized 2 0 (total (step_use e) (cycles_from (take t.cycles a.cycles) a.steps)) 0)
          (sized 0 0 0 (q % 2))
      unfolding change_of
      change_is =
          ap (cut_change (uses_by (step_use e) (sheet_of d).cells) q) (open_figure (cell_at (sheet_of d) e) op)
          ∙ ap (λ (u : ℕ). more_less (sized 2 0 u 0) (sized 0 0 0 (q % 2))) (uses_are d z s (rows_by a) x t et e q op)

      after_is : sizes_after (sheet_of (held_by a)) (cut_edge e q) ≡ changed_by (sizes_of (sheet_of (held_by a)).cells) (change_of (sheet_of (held_by a)) (cut_edge e q))
      unfolding sizes_after
      after_is = refl

      pub ends_at : (row : ℕ) → row ≡ row_of e (take a.count a.ids) → (m : ℕ) → m ≡ get_or a.bends row 0 → (u f : ℕ) → u ≡ get_or a.starts row 0
          → f ≡ get_or a.ends row 0 → OpenEnds (held_by a) e u f
      ends_at = ends_found d z s (rows_by a) x t et e q op

      module _ (row : ℕ) (er : row ≡ row_of e (take a.count a.ids)) (m : ℕ) (em : m ≡ get_or a.bends row 0) (h : q / 2 + q % 2 ≤ m)
          (r : ℕ) (ro : r ≡ late_no a.next 3 (changed_by (sizes_by t)
          (more_less (sized 2 0 (total (step_use e) (cycles_from (take t.cycles a.cycles) a.steps)) 0) (sized 0 0 0 (q % 2))))) (r0 : r ≡ 0)
          (base : ℕ) (eb : base ≡ total (places_of 0) (take row a.bends)) (u f : ℕ) (eu : u ≡ get_or a.starts row 0) (ef : f ≡ get_or a.ends row 0) where
        pub cuts : EdgeCuts (held_by a) e row base m q
        cuts = open_cuts d z s (rows_by a) x t et e q op row er m em h r ro r0 base eb

        ends : OpenEnds (held_by a) e u f
        ends = ends_at row er m em u f eu ef

        pass : Asked (held_by a) (cut_edge e q) r
        pass = asked d z s (rows_by a) x t et e q op row er m em h r ro

        none_own : get_or a.counts row 0 ≡ 0
        none_own =
            read_row d z s (rows_by a) x e row er (open_live d z s (rows_by a) x t et e q op) a.counts
            ∙ (looks d z (rows_by a) x s).cycles e ∙ ap (λ (o : Option Figure). length (cyclesHeld o)) (open_figure (cell_at (sheet_of d) e) op)

        module _ (p : Position) (ep : CutPlaced (held_by a) e q p) where
          grown : over steps_in (reshape (part_step (held_by a) z e row base m q cuts u f ends) (sheet_of (held_by a)).cells) ≡ total (step_use e)
              (cycles_from (take t.cycles a.cycles) a.steps) + t.steps
          grown =
              let cs = (sheet_of d).cells in
              let k = keep_ids (others e) cs in
              let step = part_step d z e row base m q cuts u f ends in
              let g = parts_are d z e row base m q cuts u f ends p ep in
              let o = cell_at (sheet_of d) e in
              let new = part_cells d z e row base m q cuts u f ends p (first d z e row base m q cuts u f ends p ep)
              (second d z e row base m q cuts u f ends p ep) in
              let y : over steps_in (result (sheet_of d) (cut_edge e q)).cells ≡ over steps_in (reshape step k) + 0 = ap (λ (i : Sheet). over steps_in i.cells)
              g ∙ over_rebuild steps_in (others e) step new (sheet_of d) in
              let v = without_one e (open_edge (start_of o) (end_of o) (bends_of o)) (sheet_of d) (sound_in d s) (open_figure o op)
              (steps_after d z e row base m q cuts u f ends p ep) in
              let b1 = steps_by d z e row base m q cuts u f ends p ep cs in
              let b2 = steps_by d z e row base m q cuts u f ends p ep k in
              let sz = cut_edge_sizes (sheet_of d) (sound_in d s) e q (asked_six (sheet_of d) (cut_edge e q) pass.passed) ∙ after_is
              ∙ ap (changed_by (sizes_of cs)) change_is in
              let ss : over steps_in (result (sheet_of d) (cut_edge e q)).cells ≡ over steps_in cs + total (step_use e)
              (cycles_from (take t.cycles a.cycles) a.steps) - 0 = ap (λ (i : whole.SheetSizes). i.steps) sz in
              let st : t.steps ≡ over steps_in cs = ap (λ (i : whole.SheetSizes). i.steps) sizes_are in
              omega (arith, y, v, b1, b2, ss, st)

          pub planned : (uses : ℕ) → uses ≡ total (step_use e) (cycles_from (take t.cycles a.cycles) a.steps)
              → Planned a e q (Ok (record {
                two = true;
                row = row;
                base = base;
                m = m;
                s = u;
                f = f;
                cycles = t.cycles;
                steps = t.steps;
                bends = t.bends;
                uses = uses;
                p = p;
              }))
          planned uses eu' =
              record {
                cuts = cuts;
                ends = ends;
                placed = ep;
                row = record { below = cuts.below; from = eb; own = em; none = none_own; all = ap (λ (j : Totals). j.bends) et };
                cycles = ready_cycles a t (record { sound = w; long = l; sums = et });
                steps = ready_steps a t (record { sound = w; long = l; sums = et });
                grows = grown ∙ ap (λ (j : ℕ). j + t.steps) (sym eu');
                asked = subst (Asked (held_by a) (cut_edge e q)) r0 pass;
              }
