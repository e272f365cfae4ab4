-- 0E at a vertex with two ends: its rows in an index, questions 7 and 8, what the results need. Assumes nothing.
use Prim.Native.Nat.{ℕ, ◌+◌, ◌-◌, ◌≤◌}
use native.Mathlib.Omega.{arith}
use mathlib.Core.Path.{◌≡◌, refl, sym, ap, ap₂, ◌∙◌, subst}
use mathlib.Core.Bool.{Bool, true, false, ◌&&◌, cond}
use mathlib.Core.List.{[], ◌∷◌}
use lib.ListN.{length, get_or, take}
use lib.Dec.{T, eqb, leb}
use borrow.Author.Tests.{le-leb}
use Rattle.coordinate.specs.declared.Position.{Position}
use Rattle.complex.specs.Lists.{total}
use Rattle.complex.specs.Cells.{open_edge, closed_edge, Sheet, cell_at, is_live, bends_of, position_of}
use Rattle.complex.specs.Sound.{ids_end, cells_most, cycles_most, steps_most, bends_most, ceilings}
use Rattle.complex.specs.Edits.{neither, none_of, rewired, same_vertex, in_place_of, rebuild}
use Rattle.complex.specs.Uses.{step_use}
use Rattle.complex.specs.Decode.{uncut}
use Rattle.answer.specs.Sizes.{sized, more_less, changed_by, new_by_uncut, uncut_change}
use Rattle.complex.specs.Uncut.{Uncut, loop, joint, in_one, joined, uncut_case, uncut_result, allowed}
use Rattle.complex.proofs.Bools.{true_of}
use Rattle.store.specs.declared.Drawing.{Drawing}
use Rattle.store.specs.declared.Index.{Index}
use Rattle.store.specs.Index.{Indexes, row_of}
use Rattle.store.specs.Sizes.{Sizes}
use Rattle.store.specs.View.{sheet_of, cycles_from, bend_sum}
use Rattle.store.specs.Places.{figure_bends}
use Rattle.store.specs.Edits.{places_of}
use Rattle.sound.specs.Soundness.{sound_drawing}
use Rattle.sound.proofs.Meaning.{sound_fits, looks}
use Rattle.rows_new.specs.declared.Runs.{Runs}
use Rattle.rows_new.specs.Runs.{runs_of, InRange}
use Rattle.rows_new.specs.Appends.{remade, RoomIn, figure_at}
use Rattle.rows_new.proofs.Copied.{row_range}
use Rattle.answer.specs.declared.Totals.{Totals}
use Rattle.answer.specs.Answers.{outcome}
use Rattle.answer.specs.Late.{sizes_by, late_no}
use Rattle.answer.proofs.Laws.{summed, totals_in}
use Rattle.rows_gone.proofs.Dropped.{live_below, row_among, live_id}
use Rattle.ask_cut_edge.specs.Cuts.{vertex_place, no_cell}
use Rattle.ask_cut_edge.proofs.Found.{own_count, own_base, read_row}
use Rattle.ask_cut_edge.proofs.Opened.{vertex_place_lem}
use Rattle.ask_cut_edge.proofs.OpenAnswer.{uses_are}
use Rattle.law_uncut.proofs.Passing.{uncut_passed, uncut_result_lem}
use Rattle.answer.proofs.SizesUncut.{uncut_new, uncut_change_lem}
use Rattle.answer.proofs.Asked.{sound_in, Asked, room, asked_of}
use Rattle.ask_uncut_vertex.specs.declared.Side.{Side}
use Rattle.ask_uncut_vertex.specs.Needs.{Pair, Triple, Looped, Merged, leaving, Sided, joint_runs, Joint}
use Rattle.ask_uncut_vertex.proofs.Joining.{pair_bends, joined_back, joined_forth, joint_back, joint_forth}
use Rattle.ask_uncut_vertex.proofs.Told.{AtLoop, AtJoint, loop_told, joint_told, vertex_live, first_live, second_live, second_open, joint_real}

-- ---- questions 7 and 8 of 0E in the case k
pub asked : (d : Drawing) (z : Sizes d) (w : T (sound_drawing d)) (v : ℕ) (k : Uncut) → uncut_case (sheet_of d) v ≡ k → allowed k ≡ true
    → (ix : Index) (x : Indexes d ix) (t more less : Totals) → t ≡ totals_in d z (sound_fits d w) ix x
    → uncut_change (sheet_of d) v k ≡ more_less (sizes_by more) (sizes_by less) → (r : ℕ)
    → r ≡ late_no d.next (new_by_uncut k) (changed_by (sizes_by t) (more_less (sizes_by more) (sizes_by less))) → Asked d (uncut v) r
asked d z w v k h a ix x t more less et ec r er =
    asked_of d z w (uncut v) r
    (record {
      index = ix;
      indexes = x;
      new = new_by_uncut k;
      totals = t;
      more = more;
      less = less;
      passed = uncut_passed (sheet_of d) v k h a;
      new_is = uncut_new (sheet_of d) v k h;
      change_is = uncut_change_lem (sheet_of d) v k h ∙ ec;
      totals_are = et;
      says = er;
    })

-- ---- rows in an index
module _ (d : Drawing) (z : Sizes d) (w : T (sound_drawing d)) (ix : Index) (x : Indexes d ix) where
  pub paired : (i a j b : ℕ) → a ≡ row_of i (take d.count ix.ids) → is_live (cell_at (sheet_of d) i) ≡ true → b ≡ row_of j (take d.count ix.ids)
      → is_live (cell_at (sheet_of d) j) ≡ true → Pair d i a j b
  paired i a j b ea la eb lb =
      record {
        sound = w;
        first = row_among d z w ix x i a ea la;
        first_in = live_below d z w ix x i a ea la;
        second = row_among d z w ix x j b eb lb;
        second_in = live_below d z w ix x j b eb lb;
      }

  -- the position of a vertex
  pub placed : (v a : ℕ) → a ≡ row_of v (take d.count ix.ids) → is_live (cell_at (sheet_of d) v) ≡ true → (p : Position)
      → p ≡ vertex_place (get_or d.cells a no_cell).shape → position_of (cell_at (sheet_of d) v) ≡ p
  placed v a ea l p ep = sym (ep ∙ vertex_place_lem d z w v a (row_among d z w ix x v a ea l) l)

  -- where the bends of a cell begin, and how many they are
  began : (e row : ℕ) → row ≡ row_of e (take d.count ix.ids) → is_live (cell_at (sheet_of d) e) ≡ true → (first : ℕ)
      → first ≡ total (places_of 0) (take row ix.bends) → first ≡ bend_sum (take row d.cells)
  began e row er l first ef = ef ∙ own_base d z w ix x e row er l

  counted : (e row : ℕ) → row ≡ row_of e (take d.count ix.ids) → is_live (cell_at (sheet_of d) e) ≡ true → (m : ℕ) → m ≡ get_or ix.bends row 0
      → m ≡ length (figure_bends (figure_at (sheet_of d) row))
  counted e row er l m em = em ∙ own_count d z w ix x e row er l ∙ ap length (sym (pair_bends d z e row e row (paired e row e row er l er l)))

  -- an edge as it leaves a vertex
  pub sided : (e row : ℕ) → row ≡ row_of e (take d.count ix.ids) → is_live (cell_at (sheet_of d) e) ≡ true → (back : Bool) (far first m : ℕ)
      → far ≡ cond back (get_or ix.starts row 0) (get_or ix.ends row 0) → first ≡ total (places_of 0) (take row ix.bends) → m ≡ get_or ix.bends row 0
      → Sided d e back (record { row = row; far = far; first = first; count = m })
  sided e row er l back far first m ef eb em =
      let k = looks d z ix x w in
      record {
        row = row_among d z w ix x e row er l;
        row_in = live_below d z w ix x e row er l;
        far = ef ∙ ap₂ (cond back) (read_row d z w ix x e row er l ix.starts ∙ k.starts e) (read_row d z w ix x e row er l ix.ends ∙ k.ends e);
        first = began e row er l first eb;
        count = counted e row er l m em;
      }

-- what a command with one new cell answers
pub new_outcome : (next n r : ℕ) (out : Drawing) → out.next ≡ next + 1 → r ≡ n + 1 - out.count
    → record { number = 0; first = next; new = 1; removed = r; drawing = out } ≡ outcome next n out
new_outcome next n r out e f =
    let g : 1 ≡ out.next - next = omega (arith, e) in
    let h : r ≡ n + (out.next - next) - out.count = omega (arith, e, f) in
    λ i. record { number = 0; first = cond (eqb (g i) 0) 0 next; new = g i; removed = h i; drawing = out }

-- steps that go make no difference to questions 7 and 8
steps_fewer : (next : ℕ) (t : Totals) → t.steps ≤ steps_most → (n : ℕ)
    → late_no next 1 (changed_by (sizes_by t) (more_less (sized 0 0 0 1) (sized 2 0 0 0)))
    ≡ late_no next 1 (changed_by (sizes_by t) (more_less (sized 0 0 0 1) (sized 2 0 n 0)))
steps_fewer next t h n =
    ap (λ (b : Bool). cond (leb (next + 1) ids_end)
    (cond (leb (t.cells + 0 - 2) cells_most && (leb (t.cycles + 0 - 0) cycles_most && (b && leb (t.bends + 1 - 0) bends_most))) 0 8) 7)
    (le-leb (t.steps + 0 - 0) steps_most (omega (arith, h)) ∙ sym (le-leb (t.steps + 0 - n) steps_most (omega (arith, h))))

-- ---- both ends of the edge e
module _ (d : Drawing) (z : Sizes d) (w : T (sound_drawing d)) (v e : ℕ) (h : uncut_case (sheet_of d) v ≡ loop e) where
  pub loop_asked : (ix : Index) (x : Indexes d ix) (t : Totals) → t ≡ totals_in d z (sound_fits d w) ix x
      → (r : ℕ) → r ≡ late_no d.next 1 (changed_by (sizes_by t) (more_less (sized 0 0 0 1) (sized 1 0 0 0))) → Asked d (uncut v) r
  loop_asked ix x t et =
      asked d z w v (loop e) h refl ix x t (record { cells = 0; cycles = 0; steps = 0; bends = 1 })
      (record { cells = 1; cycles = 0; steps = 0; bends = 0 }) et refl

  pub loop_live : AtLoop (sheet_of d) v e
  loop_live = loop_told (sheet_of d) (sound_in d w) v e h

  pub looped_needs : (r : ℕ) → Asked d (uncut v) r → r ≡ 0 → (ix : Index) → Indexes d ix → (a b : ℕ) → a ≡ row_of v (take d.count ix.ids)
      → b ≡ row_of e (take d.count ix.ids) → (p : Position) → p ≡ vertex_place (get_or d.cells a no_cell).shape
      → (first m : ℕ) → first ≡ total (places_of 0) (take b ix.bends) → m ≡ get_or ix.bends b 0 → Looped d v a e b p first m
  looped_needs r k y ix x a b ea eb p ep first m ef em =
      let s = sheet_of d in
      let lv = loop_live.vertex_live_lem in
      let le = loop_live.edge_live in
      let q = placed d z w ix x v a ea lv p ep in
      let f = rewired same_vertex (in_place_of e s.next false) in
      record {
        pair = paired d z w ix x v a e b ea lv eb le;
        small = omega (arith, live_id s (sound_in d w) e le);
        place = q;
        begin = began d z w ix x e b eb le first ef;
        count = counted d z w ix x e b eb le m em;
        room =
            subst (λ (o : Position). RoomIn (remade (neither v e) f s) (closed_edge (o ∷ bends_of (cell_at s e)) ∷ [])) q
            (room d z w (uncut v) r k y (neither v e) f (closed_edge (position_of (cell_at s v) ∷ bends_of (cell_at s e)) ∷ []) (uncut_result_lem s v (loop e) h));
      }

-- ---- one end each of the edges x and y
-- the edge of both
edge_made : (d : Drawing) → Sizes d → (v a x y : ℕ) (p : Position) → position_of (cell_at (sheet_of d) v) ≡ p → (back1 back2 : Bool) (s t : Side)
    → Triple d v a x s.row y t.row → Sided d x back1 s → Sided d y back2 t
    → (start end : ℕ) → start ≡ cond back1 s.far t.far → end ≡ cond back1 t.far s.far → (r : Runs) → r ≡ joint_runs p s back1 t back2
    → rebuild (none_of v x y) (rewired same_vertex (in_one x y (sheet_of d).next)) (open_edge start end (runs_of d.bends r) ∷ []) (sheet_of d)
    ≡ uncut_result (sheet_of d) v (joint (leaving x back1) (leaving y back2))
edge_made d z v a x y p q true back2 s t w es et start end e1 e2 r er =
    joint_back (sheet_of d) v (leaving x true) (leaving y back2) p q start end (runs_of d.bends r) refl (e1 ∙ es.far) (e2 ∙ et.far)
    (ap (runs_of d.bends) er
    ∙ joined_back d z v a x s.row y t.row w p back2 s.first s.count t.first t.count es.first es.count et.first et.count)
edge_made d z v a x y p q false back2 s t w es et start end e1 e2 r er =
    joint_forth (sheet_of d) v (leaving x false) (leaving y back2) p q start end (runs_of d.bends r) refl (e1 ∙ et.far) (e2 ∙ es.far)
    (ap (runs_of d.bends) er
    ∙ joined_forth d z v a x s.row y t.row w p back2 s.first s.count t.first t.count es.first es.count et.first et.count)

runs_range : (p : Position) (s t : Side) (back1 back2 : Bool) → s.first + s.count ≤ 2048 → t.first + t.count ≤ 2048 → InRange (joint_runs p s back1 t back2)
runs_range p s t true back2 h g = record { one = h; two = g }
runs_range p s t false back2 h g = record { one = g; two = h }

side_range : (d : Drawing) → Sizes d → T (sound_drawing d) → (e : ℕ) (back : Bool) (s : Side) → Sided d e back s → s.first + s.count ≤ 2048
side_range d z w e back s es = let h = row_range d z (sound_fits d w) s.row es.row_in in let a = es.first in let b = es.count in omega arith

module _ (d : Drawing) (z : Sizes d) (ix : Index) (v x : ℕ) (back1 : Bool) (y : ℕ) (back2 : Bool) (c : Joint d ix v x back1 y back2) where
  joint_live : AtJoint (sheet_of d) v (leaving x back1) (leaving y back2)
  joint_live = joint_told (sheet_of d) (sound_in d c.sound) v (leaving x back1) (leaving y back2) c.holds

  pub at_first_lem : is_live (cell_at (sheet_of d) x) ≡ true
  at_first_lem = first_live (sheet_of d) (sound_in d c.sound) v (leaving x back1) (leaving y back2) joint_live

  pub at_second_lem : is_live (cell_at (sheet_of d) y) ≡ true
  at_second_lem = second_live (sheet_of d) (sound_in d c.sound) v (leaving x back1) (leaving y back2) joint_live

  at_vertex : is_live (cell_at (sheet_of d) v) ≡ true
  at_vertex = vertex_live (sheet_of d) (sound_in d c.sound) v (leaving x back1) (leaving y back2) joint_live

  module _ (a : ℕ) (ea : a ≡ row_of v (take d.count ix.ids)) (p : Position) (ep : p ≡ vertex_place (get_or d.cells a no_cell).shape) (s t : Side)
      (es : Sided d x back1 s) (et : Sided d y back2 t)
      (start end : ℕ) (e1 : start ≡ cond back1 s.far t.far) (e2 : end ≡ cond back1 t.far s.far) (r : Runs)
      (er : r ≡ joint_runs p s back1 t back2) where
    triple : Triple d v a x s.row y t.row
    triple =
        record {
          pair =
              record {
                sound = c.sound;
                first = row_among d z c.sound ix c.indexes v a ea at_vertex;
                first_in = live_below d z c.sound ix c.indexes v a ea at_vertex;
                second = es.row;
                second_in = es.row_in;
              };
          third = et.row;
          third_in = et.row_in;
        }

    pub joint_made : rebuild (none_of v x y) (rewired same_vertex (in_one x y (sheet_of d).next)) (open_edge start end (runs_of d.bends r) ∷ []) (sheet_of d)
        ≡ uncut_result (sheet_of d) v (joint (leaving x back1) (leaving y back2))
    joint_made = edge_made d z v a x y p (placed d z c.sound ix c.indexes v a ea at_vertex p ep) back1 back2 s t triple es et start end e1 e2 r er

    pub joint_needs : Merged d v a x s.row y t.row start end r
    joint_needs =
        let u = sheet_of d in
        let S = sound_in d c.sound in
        let hx = leaving x back1 in
        let hy = leaving y back2 in
        record {
          triple = triple;
          small = omega (arith, live_id u S x at_first_lem);
          small2 = omega (arith, live_id u S y at_second_lem);
          real = joint_real u S v hx hy joint_live c.ids_suffice c.sizes_hold;
          range = subst InRange (sym er) (runs_range p s t back1 back2 (side_range d z c.sound x back1 s es) (side_range d z c.sound y back2 t et));
          room =
              record {
                ids = subst (λ (o : Sheet). T (leb o.next ids_end)) (sym joint_made) c.ids_suffice;
                sizes = subst (λ (o : Sheet). T (ceilings o.cells)) (sym joint_made) c.sizes_hold;
              };
        }

module _ (d : Drawing) (z : Sizes d) (w : T (sound_drawing d)) (v x : ℕ) (back1 : Bool) (y : ℕ) (back2 : Bool)
    (h : uncut_case (sheet_of d) v ≡ joint (leaving x back1) (leaving y back2)) where
  -- y's steps are those that the arrays have
  pub joint_asked : (ix : Index) (i : Indexes d ix) (t : Totals) → t ≡ totals_in d z (sound_fits d w) ix i
      → (r : ℕ) → r ≡ late_no d.next 1 (changed_by (sizes_by t) (more_less (sized 0 0 0 1) (sized 2 0 0 0))) → Asked d (uncut v) r
  joint_asked ix i t et r er =
      let hx = leaving x back1 in
      let hy = leaving y back2 in
      let m = joint_told (sheet_of d) (sound_in d w) v hx hy h in
      let steps = total (step_use y) (cycles_from (take t.cycles d.cycles) d.steps) in
      let few = (summed d z (sound_fits d w) ix i).step_sum in
      let sum = ap (λ (u : Totals). u.steps) et in
      asked d z w v (joint hx hy) h refl ix i t (record { cells = 0; cycles = 0; steps = 0; bends = 1 })
      (record { cells = 2; cycles = 0; steps = steps; bends = 0 }) et
      (ap (λ (n : ℕ). more_less (sized 0 0 0 1) (sized 2 0 n 0)) (uses_are d z w ix i t et y 0 (true_of _ (second_open (sheet_of d) (sound_in d w) v hx hy m))))
      r (er ∙ steps_fewer d.next t (omega (arith, few, sum)) steps)

  pub joint_meets : (r : ℕ) → Asked d (uncut v) r → r ≡ 0 → (ix : Index) → Indexes d ix → Joint d ix v x back1 y back2
  joint_meets r k e ix i =
      let s = sheet_of d in
      let f = room d z w (uncut v) r k e (none_of v x y) (rewired same_vertex (in_one x y s.next))
      (joined (cell_at s) (position_of (cell_at s v)) (leaving x back1) (leaving y back2) ∷ [])
      (uncut_result_lem s v (joint (leaving x back1) (leaving y back2)) h) in
      record { sound = w; indexes = i; holds = h; ids_suffice = f.ids; sizes_hold = f.sizes }
