-- A loop at a vertex becomes a closed edge, and two edges become one. Assumes nothing.
use Prim.Native.Nat.{ℕ, ◌<◌}
use native.Mathlib.Omega.{arith}
use mathlib.Core.Path.{◌≡◌, refl, sym, ap, ap₂, ◌∙◌, subst}
use mathlib.Core.Bool.{Bool, true, false, not, cond}
use mathlib.Core.List.{List, [], ◌∷◌, ◌++◌, reverse, reverse-reverse}
use mathlib.Core.Option.{some}
use lib.ListN.{length, take}
use lib.Dec.{T}
use Rattle.coordinate.specs.declared.Position.{Position}
use Rattle.complex.specs.Cells.{Halfedge, Figure, vertex, open_edge, closed_edge, face, Sheet, cell_at, bends_of, start_of, end_of, head_of, position_of, ids, origin}
use Rattle.complex.specs.Edits.{neither, none_of, rewired, same_vertex, in_place_of, rebuild}
use Rattle.complex.specs.Sound.{sound}
use Rattle.complex.specs.Uncut.{loop, joint, in_one, bends_along, uncut_result}
use Rattle.store.specs.declared.Drawing.{Drawing}
use Rattle.store.specs.Index.{row_of}
use Rattle.store.specs.Sizes.{Sizes}
use Rattle.store.specs.View.{sheet_of, Fits, bend_sum}
use Rattle.store.specs.Places.{figure_bends}
use Rattle.store.specs.Edits.{appended}
use Rattle.store.proofs.Stands.{stands, count_is}
use Rattle.sound.specs.Soundness.{sound_drawing}
use Rattle.sound.proofs.Meaning.{sound_fits}
use Rattle.rows_new.specs.declared.Runs.{Runs}
use Rattle.rows_new.specs.Appends.{remade, RoomIn, CellRoom, figure_at}
use Rattle.rows_new.specs.Runs.{turn, run_at, runs_of}
use Rattle.rows_new.specs.Requirements.{RunsRoom}
use Rattle.rows_new.proofs.Rooms.{room_first}
use Rattle.rows_new.proofs.Copied.{row_bends, row_range, row_lookup}
use Rattle.ask_uncut_vertex.specs.Needs.{Pair, Triple, Looped}

figure_bends_lem : (x : Figure) → figure_bends x ≡ bends_of (some x)
figure_bends_lem (vertex p) = refl
figure_bends_lem (open_edge a b bs) = refl
figure_bends_lem (closed_edge bs) = refl
figure_bends_lem (face ks) = refl

-- the bends of the cell j, in row b
pub pair_bends : (d : Drawing) → Sizes d → (i a j b : ℕ) → Pair d i a j b → figure_bends (figure_at (sheet_of d) b) ≡ bends_of (cell_at (sheet_of d) j)
pair_bends d z i a j b p =
    let cs = (sheet_of d).cells in
    let f = sound_fits d p.sound in
    let n = count_is d cs (stands d z f) z f.cells in
    let h = p.second_in in
    let e = p.second in
    figure_bends_lem (figure_at (sheet_of d) b)
    ∙ ap bends_of (ap (λ (k : ℕ). some (figure_at (sheet_of d) k)) e ∙ sym (row_lookup cs j (record { id = 0; figure = vertex origin }) (omega arith)))

abbrev pub loop_runs : Position → ℕ → ℕ → Runs
loop_runs p first m = record { first = 0; count = 0; turned = false; middle = true; at = p; first2 = first; count2 = m; turned2 = false }

module _ (d : Drawing) (z : Sizes d) (v a e b : ℕ) (p : Position) (first m : ℕ) (w : Looped d v a e b p first m)
    (mid : Drawing) (zm : Sizes mid) (fm : Fits mid)
    (eo : sheet_of mid ≡ remade (neither v e) (rewired same_vertex (in_place_of e (sheet_of d).next false)) (sheet_of d)) where
  loop_bends : runs_of d.bends (loop_runs p first m) ≡ p ∷ bends_of (cell_at (sheet_of d) e)
  loop_bends =
      let f = sound_fits d w.pair.sound in
      ap (λ (l : List Position). p ∷ l)
      (ap₂ (λ (x y : ℕ). run_at x y d.bends) w.begin w.count ∙ row_bends d z f b w.pair.second_in ∙ pair_bends d z v a e b w.pair)

  pub loop_room : RunsRoom mid (loop_runs p first m) (closed_edge (runs_of d.bends (loop_runs p first m)))
  loop_room =
      let f = sound_fits d w.pair.sound in
      let x = closed_edge (p ∷ bends_of (cell_at (sheet_of d) e)) in
      let r = row_range d z f b w.pair.second_in in
      let i = w.begin in
      let n = w.count in
      record {
        room =
            subst (λ (l : List Position). CellRoom mid (closed_edge l)) (sym loop_bends)
            (room_first mid zm fm x [] (subst (λ (t : Sheet). RoomIn t (x ∷ [])) (sym eo) w.room));
        range = record { one = omega arith; two = omega arith };
      }

  pub loop_result : (out : Drawing) → sheet_of out ≡ appended (sheet_of mid) (closed_edge (runs_of d.bends (loop_runs p first m)))
      → sheet_of out ≡ uncut_result (sheet_of d) v (loop e)
  loop_result out g =
      g
      ∙ ap₂ (λ (t : Sheet) (l : List Position). appended t (closed_edge l)) eo loop_bends
      ∙ ap (λ (q : Position). appended (remade (neither v e) (rewired same_vertex (in_place_of e (sheet_of d).next false)) (sheet_of d))
      (closed_edge (q ∷ bends_of (cell_at (sheet_of d) e)))) (sym w.place)

-- ---- two edges
turn_is : (b : Bool) (l : List Position) → turn b l ≡ cond b (reverse l) l
turn_is true l = refl
turn_is false l = refl

-- the bends of the cell in a row, by where they are
row_run : (d : Drawing) → Sizes d → T (sound_drawing d) → (j b : ℕ) → b ≡ row_of j (ids (sheet_of d).cells) → b < d.count → (first m : ℕ)
    → first ≡ bend_sum (take b d.cells) → m ≡ length (figure_bends (figure_at (sheet_of d) b))
    → run_at first m d.bends ≡ bends_of (cell_at (sheet_of d) j)
row_run d z w j b e h first m ef em =
    ap₂ (λ (x y : ℕ). run_at x y d.bends) ef em ∙ row_bends d z (sound_fits d w) b h
    ∙ pair_bends d z j b j b (record { sound = w; first = e; first_in = h; second = e; second_in = h })

-- x leaves the vertex at p backward: its bends, p, and those of y as its halfedge passes them
pub joined_back : (d : Drawing) → Sizes d → (v a x b y c : ℕ) → Triple d v a x b y c → (p : Position) (back : Bool) (fx mx fy my : ℕ)
    → fx ≡ bend_sum (take b d.cells) → mx ≡ length (figure_bends (figure_at (sheet_of d) b)) → fy ≡ bend_sum (take c d.cells)
    → my ≡ length (figure_bends (figure_at (sheet_of d) c))
    → runs_of d.bends (record { first = fx; count = mx; turned = false; middle = true; at = p; first2 = fy; count2 = my; turned2 = back })
    ≡ bends_of (cell_at (sheet_of d) x) ++ (p ∷ bends_along (cell_at (sheet_of d)) (record { edge = y; backward = back }))
joined_back d z v a x b y c t p back fx mx fy my ex hx ey hy =
    ap₂ (λ (k l : List Position). k ++ (p ∷ turn back l)) (row_run d z t.pair.sound x b t.pair.second t.pair.second_in fx mx ex hx)
    (row_run d z t.pair.sound y c t.third t.third_in fy my ey hy)
    ∙ ap (λ (l : List Position). bends_of (cell_at (sheet_of d) x) ++ (p ∷ l)) (turn_is back (bends_of (cell_at (sheet_of d) y)))

turn_not : (b : Bool) (l : List Position) → turn (not b) l ≡ reverse (cond b (reverse l) l)
turn_not true l = sym (reverse-reverse l)
turn_not false l = refl

-- x leaves it forward: the bends of y back to front, p, and those of x
pub joined_forth : (d : Drawing) → Sizes d → (v a x b y c : ℕ) → Triple d v a x b y c → (p : Position) (back : Bool) (fx mx fy my : ℕ)
    → fx ≡ bend_sum (take b d.cells) → mx ≡ length (figure_bends (figure_at (sheet_of d) b)) → fy ≡ bend_sum (take c d.cells)
    → my ≡ length (figure_bends (figure_at (sheet_of d) c))
    → runs_of d.bends (record { first = fy; count = my; turned = not back; middle = true; at = p; first2 = fx; count2 = mx; turned2 = false })
    ≡ reverse (bends_along (cell_at (sheet_of d)) (record { edge = y; backward = back })) ++ (p ∷ bends_of (cell_at (sheet_of d) x))
joined_forth d z v a x b y c t p back fx mx fy my ex hx ey hy =
    ap₂ (λ (k l : List Position). turn (not back) l ++ (p ∷ k)) (row_run d z t.pair.sound x b t.pair.second t.pair.second_in fx mx ex hx)
    (row_run d z t.pair.sound y c t.third t.third_in fy my ey hy)
    ∙ ap (λ (l : List Position). l ++ (p ∷ bends_of (cell_at (sheet_of d) x))) (turn_not back (bends_of (cell_at (sheet_of d) y)))

-- the edge of both is that of the definitions
module _ (s : Sheet) (v : ℕ) (x y : Halfedge) (p : Position) (e : position_of (cell_at s v) ≡ p) (start end : ℕ) (bs : List Position) where
  abbrev made : Figure → Sheet
  made t = rebuild (none_of v x.edge y.edge) (rewired same_vertex (in_one x.edge y.edge s.next)) (t ∷ []) s

  open_is : (a b : ℕ) (cs : List Position) → start ≡ a → end ≡ b → bs ≡ cs → open_edge start end bs ≡ open_edge a b cs
  open_is a b cs f g h = λ i. open_edge (f i) (g i) (h i)

  pub joint_back : x.backward ≡ true → start ≡ start_of (cell_at s x.edge) → end ≡ head_of (cell_at s) y
      → bs ≡ bends_of (cell_at s x.edge) ++ (p ∷ bends_along (cell_at s) y)
      → made (open_edge start end bs) ≡ uncut_result s v (joint x y)
  joint_back h f g k =
      let q = position_of (cell_at s v) in
      let ahead = open_edge (head_of (cell_at s) y) (end_of (cell_at s x.edge)) (reverse (bends_along (cell_at s) y) ++ (q ∷ bends_of (cell_at s x.edge))) in
      let behind = open_edge (start_of (cell_at s x.edge)) (head_of (cell_at s) y) (bends_of (cell_at s x.edge) ++ (q ∷ bends_along (cell_at s) y)) in
      ap made
      (open_is (start_of (cell_at s x.edge)) (head_of (cell_at s) y) (bends_of (cell_at s x.edge) ++ (q ∷ bends_along (cell_at s) y)) f g
      (k ∙ ap (λ (o : Position). bends_of (cell_at s x.edge) ++ (o ∷ bends_along (cell_at s) y)) (sym e))
      ∙ sym (ap (λ (b : Bool). cond b behind ahead) h))

  pub joint_forth : x.backward ≡ false → start ≡ head_of (cell_at s) y → end ≡ end_of (cell_at s x.edge)
      → bs ≡ reverse (bends_along (cell_at s) y) ++ (p ∷ bends_of (cell_at s x.edge))
      → made (open_edge start end bs) ≡ uncut_result s v (joint x y)
  joint_forth h f g k =
      let q = position_of (cell_at s v) in
      let ahead = open_edge (head_of (cell_at s) y) (end_of (cell_at s x.edge)) (reverse (bends_along (cell_at s) y) ++ (q ∷ bends_of (cell_at s x.edge))) in
      let behind = open_edge (start_of (cell_at s x.edge)) (head_of (cell_at s) y) (bends_of (cell_at s x.edge) ++ (q ∷ bends_along (cell_at s) y)) in
      ap made
      (open_is (head_of (cell_at s) y) (end_of (cell_at s x.edge)) (reverse (bends_along (cell_at s) y) ++ (q ∷ bends_of (cell_at s x.edge))) f g
      (k ∙ ap (λ (o : Position). reverse (bends_along (cell_at s) y) ++ (o ∷ bends_of (cell_at s x.edge))) (sym e))
      ∙ sym (ap (λ (b : Bool). cond b behind ahead) h))
