-- A closed edge cut: where, the loop's bends, and what is made. Assumes nothing.
use Prim.Native.Nat.{ℕ, ◌+◌, ◌-◌, ◌/◌, ◌%◌, ◌<◌, ◌≤◌}
use native.Mathlib.Omega.{arith}
use native.Mathlib.Numerals.{add-one}
use mathlib.Core.Path.{◌≡◌, refl, sym, ap, ap₂, ◌∙◌}
use mathlib.Core.Bool.{Bool, true, false, ◌||◌, cond, false≢true}
use mathlib.Core.List.{List, [], ◌∷◌, ◌++◌}
use mathlib.Core.Option.{Option, none, some}
use lib.ListN.{length, get_or, take, drop, get_or-append}
use lib.Seq.{get_or-take, get_or-drop, get_or-append-add}
use lib.Dec.{eqb, ltb, leb}
use borrow.Author.Tests.{ltb-true, eqb-true, eqb-false}
use Rattle.coordinate.specs.declared.Position.{Position}
use Rattle.coordinate.specs.Bounds.{middle}
use Rattle.complex.specs.Cells.{Figure, vertex, open_edge, closed_edge, face, Look, Sheet, cell_at, is_closed, is_live, bends_of, origin}
use Rattle.complex.specs.Edits.{rebuild, others, rewired, same_vertex, in_place_of}
use Rattle.complex.specs.Cut.{cut_place, cut_exists, bends_round, cut_figure, edge_cut}
use Rattle.complex.specs.Decode.{cut_edge}
use Rattle.complex.specs.Commands.{result}
use Rattle.complex.specs.Sound.{ids_end}
use Rattle.store.specs.declared.Drawing.{Drawing}
use Rattle.store.specs.Sizes.{Sizes}
use Rattle.store.specs.View.{sheet_of}
use Rattle.store.proofs.Rows.{get_d_any}
use Rattle.rows_new.specs.declared.Runs.{Runs}
use Rattle.rows_new.specs.Runs.{run_at, runs_of, InRange}
use Rattle.rows_new.specs.Appends.{remade, RoomIn}
use Rattle.rows_new.proofs.Appended.{appended_each}
use Rattle.rows_new.proofs.RunLists.{run_length, run_take, run_drop}
use Rattle.rows_gone.proofs.Dropped.{live_id}
use Rattle.ask_cut_edge.specs.Cuts.{next_bend, closed_between, closed_place, closed_runs, EdgeCuts}
use Rattle.ask_cut_edge.proofs.Made.{made_room, made_is}
use Rattle.answer.proofs.Asked.{sound_in}

pub closed_figure : (o : Option Figure) → is_closed o ≡ true → o ≡ some (closed_edge (bends_of o))
closed_figure none e = absurd (false≢true e)
closed_figure (some (vertex p)) e = absurd (false≢true e)
closed_figure (some (open_edge a b bs)) e = absurd (false≢true e)
closed_figure (some (closed_edge bs)) e = refl
closed_figure (some (face ks)) e = absurd (false≢true e)

pub closed_exists : (o : Option Figure) (q : ℕ) → is_closed o ≡ true → cut_exists o q ≡ ltb (q / 2) (length (bends_of o))
closed_exists o q e = ap (λ (c : Bool). cond (eqb (q % 2) 1 || c) (ltb (q / 2) (length (bends_of o))) (leb (q / 2) (length (bends_of o)))) e ∙ go (eqb (q % 2) 1)
  where
    go : (b : Bool) → cond (b || true) (ltb (q / 2) (length (bends_of o))) (leb (q / 2) (length (bends_of o))) ≡ ltb (q / 2) (length (bends_of o))
    go true = refl
    go false = refl

-- ---- the bends bs of an edge stand in l from base on
module _ (l bs : List Position) (base m : ℕ) (h : base + m ≤ length l) (eb : run_at base m l ≡ bs) where
  pub bends_count : length bs ≡ m
  bends_count = ap length (sym eb) ∙ run_length base m l h

  pub bend_at : (k : ℕ) → k < m → get_or l (base + k) origin ≡ get_or bs k origin
  bend_at k g = sym (get_or-drop base l k origin) ∙ sym (get_or-take m (drop base l) k origin g) ∙ ap (λ (x : List Position). get_or x k origin) eb

  module _ (look : Look) (q : ℕ) (g : q / 2 < m) where
    next_at : get_or l (next_bend base m (q / 2)) origin ≡ get_or (bs ++ take 1 bs) (q / 2 + 1) origin
    next_at = go (eqb (q / 2 + 1) m) refl
      where
        n : length bs ≡ m
        n = bends_count

        round : (xs : List Position) → get_or xs 0 origin ≡ get_or (take 1 xs) 0 origin
        round [] = refl
        round (x ∷ xs) = refl

        go : (b : Bool) → eqb (q / 2 + 1) m ≡ b → get_or l (cond b base (base + q / 2 + 1)) origin ≡ get_or (bs ++ take 1 bs) (q / 2 + 1) origin
        go true e =
            let k = eqb-true (q / 2 + 1) m e in
            let a : base ≡ base + 0 = omega arith in
            let b : length bs + 0 ≡ q / 2 + 1 = (let u = n in omega arith) in
            ap (λ (k : ℕ). get_or l k origin) a ∙ bend_at 0 (omega arith) ∙ round bs ∙ sym (get_or-append-add bs (take 1 bs) 0 origin)
            ∙ ap (λ (k : ℕ). get_or (bs ++ take 1 bs) k origin) b
        go false e =
            let k = eqb-false (q / 2 + 1) m e in
            let a : base + q / 2 + 1 ≡ base + (q / 2 + 1) = omega arith in
            let u : q / 2 + 1 < m = cut k in
            ap (λ (k : ℕ). get_or l k origin) a ∙ bend_at (q / 2 + 1) u ∙ sym (get_or-append bs (take 1 bs) origin (q / 2 + 1) (let v = n in omega arith))
          where
            cut : (q / 2 + 1 ≡ m → ⊥) → q / 2 + 1 < m
            cut k = omega arith

    pub closed_place_is : closed_place l base m q ≡ cut_place look (some (closed_edge bs)) q
    closed_place_is =
        let n = bends_count in
        let a = bend_at (q / 2) g in
        let b = a ∙ sym (get_or-append bs (take 1 bs) origin (q / 2) (omega arith)) in
        let c = next_at in
        λ i. cond (eqb (q % 2) 1) (a i) (middle (b i) (c i))

    pub closed_runs_are : (p : Position) → runs_of l (closed_runs p base m q) ≡ bends_round bs q
    closed_runs_are p =
        ap₂ ◌++◌ (run_drop base m (q / 2 + 1) l ∙ ap (drop (q / 2 + 1)) eb)
        (run_take base m (q / 2 + (1 - q % 2)) l (omega arith) ∙ ap (take (q / 2 + (1 - q % 2))) eb)

-- ---- the bends that are read
pub next_most : (base m i : ℕ) → base + m ≤ 2048 → i < m → next_bend base m i < 2048
next_most base m i h g = go (eqb (i + 1) m) refl
  where
    go : (b : Bool) → eqb (i + 1) m ≡ b → cond b base (base + i + 1) < 2048
    go true e = omega (arith, eqb-true (i + 1) m e)
    go false e = let k = eqb-false (i + 1) m e in cut k
      where
        cut : (i + 1 ≡ m → ⊥) → base + i + 1 < 2048
        cut k = omega arith

pub closed_read : (l : List Position) (base m q : ℕ) (y : Position) → length l ≡ 2048 → base + m ≤ 2048 → q / 2 < m → (j : ℕ) → j ≡ next_bend base m (q / 2)
    → closed_between (get_or l (base + q / 2) y) (get_or l j y) q ≡ closed_place l base m q
closed_read l base m q y z h g j ej =
    let u = next_most base m (q / 2) h g in
    let a = get_d_any l (base + q / 2) y origin (omega arith) in
    let b = ap (λ (k : ℕ). get_or l k y) ej ∙ get_d_any l (next_bend base m (q / 2)) y origin (omega arith) in
    λ i. closed_between (a i) (b i) q

pub closed_range : (p : Position) (base m q : ℕ) → base + m ≤ 2048 → q / 2 < m → InRange (closed_runs p base m q)
closed_range p base m q h g = record { one = omega arith; two = omega arith }

-- ---- what is made
module _ (d : Drawing) (z : Sizes d) (e row base m q : ℕ) (c : EdgeCuts d e row base m q) (k : is_closed (cell_at (sheet_of d) e) ≡ true) where
  room_bends : base + m ≤ length d.bends
  room_bends = let a = c.range in let b = z.bends in omega arith

  pub half_below : q / 2 < m
  half_below =
      let a = ltb-true (q / 2) (length (bends_of (cell_at (sheet_of d) e))) (sym (closed_exists (cell_at (sheet_of d) e) q k) ∙ c.exists) in
      let b = bends_count d.bends (bends_of (cell_at (sheet_of d) e)) base m room_bends c.bends in
      omega arith

  pub edge_small : e < ids_end
  edge_small = live_id (sheet_of d) (sound_in d c.sound) e (ap is_live (closed_figure (cell_at (sheet_of d) e) k))

  abbrev pub loop_step : ℕ → Figure → Figure
  loop_step = rewired same_vertex (in_place_of e (d.next + 1) false)

  abbrev pub loop_cells : Position → Runs → List Figure
  loop_cells p r = vertex p ∷ open_edge d.next d.next (runs_of d.bends r) ∷ []

  module _ (p : Position) (ep : p ≡ closed_place d.bends base m q) (r : Runs) (er : r ≡ closed_runs p base m q) where
    cells_are : loop_cells p r ≡ vertex (cut_place (cell_at (sheet_of d)) (some (closed_edge (bends_of (cell_at (sheet_of d) e)))) q)
        ∷ open_edge d.next d.next (bends_round (bends_of (cell_at (sheet_of d) e)) q) ∷ []
    cells_are =
        ap₂ (λ (a : Position) (b : List Position). vertex a ∷ open_edge d.next d.next b ∷ [])
        (ep ∙ closed_place_is d.bends (bends_of (cell_at (sheet_of d) e)) base m room_bends c.bends (cell_at (sheet_of d)) q half_below)
        (ap (runs_of d.bends) er ∙ closed_runs_are d.bends (bends_of (cell_at (sheet_of d) e)) base m room_bends c.bends
        (cell_at (sheet_of d)) q half_below p)

    loop_is : result (sheet_of d) (cut_edge e q) ≡ rebuild (others e) loop_step (loop_cells p r) (sheet_of d)
    unfolding result edge_cut sheet_of
    loop_is =
        ap (cut_figure (sheet_of d) e q) (closed_figure (cell_at (sheet_of d) e) k)
        ∙ ap₂ (λ (n : ℕ) (new : List Figure). rebuild (others e) (rewired same_vertex (in_place_of e n false)) new (sheet_of d)) (sym (add-one d.next))
        (sym cells_are)

    pub loop_room : (u : Sheet) → u ≡ remade (others e) loop_step (sheet_of d) → RoomIn u (loop_cells p r)
    loop_room u eu = made_room (sheet_of d) (others e) loop_step (loop_cells p r) (result (sheet_of d) (cut_edge e q)) loop_is u eu c.ids_suffice c.sizes_hold

    pub loop_made : (u : Sheet) → u ≡ remade (others e) loop_step (sheet_of d) → appended_each (loop_cells p r) u ≡ result (sheet_of d) (cut_edge e q)
    loop_made u eu = made_is (sheet_of d) (others e) loop_step (loop_cells p r) (result (sheet_of d) (cut_edge e q)) loop_is u eu
