-- Cells whose vertices and steps are replaced, and drawings whose cells keep their bends. Assumes nothing.
use Prim.Native.Nat.{ℕ, ◌+◌, ◌≤◌}
use mathlib.Core.Path.{◌≡◌, refl, ap, ap₂, sym, ◌∙◌}
use mathlib.Core.List.{List, [], ◌∷◌, ◌++◌, map}
use mathlib.Core.Bool.{true, ◌&&◌}
use native.Mathlib.Omega.{arith}
use lib.ListN.{length, take, length-map, length-append}
use lib.Seq.{length-take-le}
use Rattle.coordinate.specs.declared.Position.{Position}
use Rattle.store.specs.declared.Shape.{Shape}
use Rattle.store.specs.declared.Shape.TheVariants.{Vertex, Open, Closed, Face}
use Rattle.store.specs.declared.Cell.{Cell}
use Rattle.store.specs.declared.Drawing.{Drawing}
use Rattle.store.specs.Sizes.{Sizes}
use Rattle.complex.specs.Cells.{Halfedge, Cycle, lone, path, Figure, vertex, open_edge, closed_edge, face, LiveCell as Entry}
use Rattle.complex.specs.Edits.{reshape, rewired, rewired_cycle, same_vertex}
use Rattle.complex.specs.Sound.{over, steps_in as stepsHeld}
use Rattle.complex.proofs.Bools.{both_true}
use Rattle.store.specs.Sheet.{real, all_real}
use Rattle.store.specs.View.{sheet_of, Fits, width_sum}
use Rattle.store.specs.Places.{shape_of, entry_cell, figure_cycles, figure_bends, entry_cycles, entry_bends, cycle_words, word}
use Rattle.store.specs.Pools.{Held}
use Rattle.store.specs.Edits.{with_entries}
use Rattle.number.specs.Readers.{spread}
use Rattle.rows_steps.specs.Renaming.{rename_shape, rename_cell}
use Rattle.store.proofs.Lists.{map_append}
use Rattle.store.proofs.Encode.{flat_append, width_sum_lem, all_places}
use Rattle.store.proofs.Stands.{take_begins, Stands, stands, viewed, fitting}
use Rattle.store.proofs.Grow.{sheet_is, next_is}

-- ---- what the rewired cells put into the arrays
module _ (r : ℕ → ℕ) (σ : Halfedge → List Halfedge) where
  figure_shape : (i : ℕ) (f : Figure) → rename_shape r (shape_of f) ≡ shape_of (rewired r σ i f)
  figure_shape i (vertex p) = refl
  figure_shape i (open_edge s e bs) = refl
  figure_shape i (closed_edge bs) = refl
  figure_shape i (face ks) = ap Face (sym (length-map ks (rewired_cycle r σ)))

  figure_cycles_lem : (i : ℕ) (f : Figure) → figure_cycles (rewired r σ i f) ≡ map (rewired_cycle r σ) (figure_cycles f)
  figure_cycles_lem i (vertex p) = refl
  figure_cycles_lem i (open_edge s e bs) = refl
  figure_cycles_lem i (closed_edge bs) = refl
  figure_cycles_lem i (face ks) = refl

  figure_bends_lem : (i : ℕ) (f : Figure) → figure_bends (rewired r σ i f) ≡ figure_bends f
  figure_bends_lem i (vertex p) = refl
  figure_bends_lem i (open_edge s e bs) = refl
  figure_bends_lem i (closed_edge bs) = refl
  figure_bends_lem i (face ks) = refl

  pub rewired_heads : (xs : List Entry) → map (rename_cell r) (map entry_cell xs) ≡ map entry_cell (reshape (rewired r σ) xs)
  rewired_heads [] = refl
  rewired_heads (x ∷ xs) = ap₂ (λ (s : Shape) (q : List Cell). record { id = x.id; shape = s } ∷ q) (figure_shape x.id x.figure) (rewired_heads xs)

  pub rewired_cycles : (xs : List Entry) → spread entry_cycles (reshape (rewired r σ) xs) ≡ map (rewired_cycle r σ) (spread entry_cycles xs)
  rewired_cycles [] = refl
  rewired_cycles (x ∷ xs) =
      ap₂ (λ (p q : List Cycle). p ++ q) (figure_cycles_lem x.id x.figure) (rewired_cycles xs)
      ∙ sym (map_append (rewired_cycle r σ) (entry_cycles x) (spread entry_cycles xs))

  pub rewired_bends : (xs : List Entry) → spread entry_bends (reshape (rewired r σ) xs) ≡ spread entry_bends xs
  rewired_bends [] = refl
  rewired_bends (x ∷ xs) = ap₂ (λ (p q : List Position). p ++ q) (figure_bends_lem x.id x.figure) (rewired_bends xs)

shape_same : (s : Shape) → rename_shape same_vertex s ≡ s
shape_same (Vertex p) = refl
shape_same (Open s e n) = refl
shape_same (Closed n) = refl
shape_same (Face k) = refl

pub cells_same : (cs : List Cell) → map (rename_cell same_vertex) cs ≡ cs
cells_same [] = refl
cells_same (c ∷ cs) = ap₂ (λ (s : Shape) (q : List Cell). record { id = c.id; shape = s } ∷ q) (shape_same c.shape) (cells_same cs)

-- ---- cycles that are replaced step by step
module _ (r : ℕ → ℕ) (σ : Halfedge → List Halfedge) where
  -- a cycle that stays real was real
  cycle_was : (k : Cycle) → real (rewired_cycle r σ k) ≡ true → real k ≡ true
  cycle_was (lone v) h = refl
  cycle_was (path []) h = h
  cycle_was (path (x ∷ hs)) h = refl

  pub were_real : (ks : List Cycle) → all_real (map (rewired_cycle r σ) ks) ≡ true → all_real ks ≡ true
  were_real [] h = refl
  were_real (k ∷ ks) h =
      let b = both_true (real (rewired_cycle r σ k)) (all_real (map (rewired_cycle r σ) ks)) h in
      ap₂ ◌&&◌ (cycle_was k b.0) (were_real ks b.1)

  -- each step becomes one or more
  module _ (some : (h : Halfedge) → 1 ≤ length (σ h)) where
    real_of : (l : List Halfedge) → 1 ≤ length l → real (path l) ≡ true
    real_of [] h = absurd (omega arith)
    real_of (x ∷ l) h = refl

    cycle_stays : (k : Cycle) → real k ≡ true → real (rewired_cycle r σ k) ≡ true
    cycle_stays (lone v) h = refl
    cycle_stays (path []) h = h
    cycle_stays (path (x ∷ hs)) h = real_of (σ x ++ spread σ hs) (let g = some x in omega (arith, length-append (σ x) (spread σ hs)))

    pub stay_real : (ks : List Cycle) → all_real ks ≡ true → all_real (map (rewired_cycle r σ) ks) ≡ true
    stay_real [] h = refl
    stay_real (k ∷ ks) h = let b = both_true (real k) (all_real ks) h in ap₂ ◌&&◌ (cycle_stays k b.0) (stay_real ks b.1)

  -- each step becomes at most one
  module _ (few : (h : Halfedge) → length (σ h) ≤ 1) where
    path_less : (hs : List Halfedge) → length (spread σ hs) ≤ length hs
    path_less [] = omega arith
    path_less (x ∷ hs) = let g = few x in let e = path_less hs in omega (arith, length-append (σ x) (spread σ hs))

    cycle_less : (k : Cycle) → length (cycle_words (rewired_cycle r σ k)) ≤ length (cycle_words k)
    cycle_less (lone v) = omega arith
    cycle_less (path hs) = omega (arith, path_less hs, length-map hs word, length-map (spread σ hs) word)

    pub steps_less : (ks : List Cycle) → length (spread cycle_words (map (rewired_cycle r σ) ks)) ≤ length (spread cycle_words ks)
    steps_less [] = omega arith
    steps_less (k ∷ ks) =
        let e = steps_less ks in
        omega (
          arith,
          cycle_less k,
          length-append (cycle_words k) (spread cycle_words ks),
          length-append (cycle_words (rewired_cycle r σ k)) (spread cycle_words
              (map (rewired_cycle r σ) ks)),
        )

-- two replacements, one after the other, are one
module _ (σ τ ρ : Halfedge → List Halfedge) (e : (h : Halfedge) → spread τ (σ h) ≡ ρ h) where
  path_then : (hs : List Halfedge) → spread τ (spread σ hs) ≡ spread ρ hs
  path_then [] = refl
  path_then (h ∷ hs) = flat_append τ (σ h) (spread σ hs) ∙ ap₂ (λ (a b : List Halfedge). a ++ b) (e h) (path_then hs)

  pub cycles_then : (ks : List Cycle) → map (rewired_cycle same_vertex τ) (map (rewired_cycle same_vertex σ) ks) ≡ map (rewired_cycle same_vertex ρ) ks
  cycles_then [] = refl
  cycles_then (lone v ∷ ks) = ap (λ (q : List Cycle). lone v ∷ q) (cycles_then ks)
  cycles_then (path hs ∷ ks) = ap₂ (λ (p : List Halfedge) (q : List Cycle). path p ∷ q) (path_then hs) (cycles_then ks)

-- ---- a drawing's steps are as many as complex counts
figure_steps : (f : Figure) → length (spread cycle_words (figure_cycles f)) ≡ stepsHeld f
figure_steps (vertex p) = refl
figure_steps (open_edge a b bs) = refl
figure_steps (closed_edge bs) = refl
figure_steps (face ks) = all_places ks

pub steps_held : (xs : List Entry) → length (spread cycle_words (spread entry_cycles xs)) ≡ over stepsHeld xs
steps_held [] = refl
steps_held (x ∷ xs) =
    ap length (flat_append cycle_words (entry_cycles x) (spread entry_cycles xs))
    ∙ length-append (spread cycle_words (entry_cycles x)) (spread cycle_words (spread entry_cycles xs))
    ∙ ap₂ ◌+◌ (figure_steps x.figure) (steps_held xs)

-- ---- held cycles take as many places as their numbers say
pub held_width : (ks : List Cycle) (cy : List ℕ) (n : ℕ) (st : List ℕ) (m : ℕ) → Held ks cy n st m → width_sum (take n cy) ≡ m
held_width ks cy n st m h = ap width_sum h.lengths ∙ width_sum_lem ks h.real ∙ sym (ap length h.places) ∙ length-take-le m st h.places_room

-- ---- a drawing with other cells, whose bends are those of d
module _ (d r : Drawing) (z : Sizes d) (f : Fits d) (zr : Sizes r) (ex : r.next ≡ d.next) (en : r.count ≡ d.count) (eb : r.bends ≡ d.bends)
    (xs : List Entry)
    (ec : take d.count r.cells ≡ map entry_cell xs) (hb : spread entry_bends xs ≡ spread entry_bends (sheet_of d).cells) (n m : ℕ)
    (hk : Held (spread entry_cycles xs) r.cycles n r.steps m) where
  changed_stands : Stands r xs
  changed_stands =
      record {
        cells = ap (λ (k : ℕ). take k r.cells) en ∙ ec;
        cycles = take_begins n hk.lengths_room hk.lengths;
        steps = take_begins m hk.places_room hk.places;
        bends = rw (eb, hb) (stands d z f).bends;
        real = hk.real;
      }

  pub changed_is : (sheet_of r ≡ with_entries (sheet_of d) xs) × Fits r
  changed_is = (
    sheet_is r (with_entries (sheet_of d) xs) (ex ∙ sym (next_is d)) (viewed r xs changed_stands),
    fitting r xs changed_stands zr (omega (arith, en, f.cells)),
  )
