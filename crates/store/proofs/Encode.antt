-- What a sheet's cells look like in the arrays, and that the view undoes it, both ways. Assumes nothing.
use Prim.Native.Nat.{ℕ, zero, suc, ◌+◌, ◌*◌, ◌/◌, ◌%◌, ◌<◌, ◌≤◌}
use mathlib.Core.Path.{◌≡◌, refl, ap, ap₂, sym, ◌∙◌}
use mathlib.Core.List.{List, [], ◌∷◌, ◌++◌, map, append_assoc}
use mathlib.Core.Bool.{Bool, true, false, ◌&&◌, false≢true}
use native.Mathlib.Omega.{arith}
use lib.Dec.{eqb}
use borrow.Author.Tests.{eqb-true, eqb-false, eq-eqb, ne_eqb}
use lib.ListN.{length, take, drop, get_or, length-map, length-drop, length-append}
use lib.Seq.{take-add, take_at, drop_at, drop-drop, length-take-le}
use Rattle.coordinate.specs.declared.Position.{Position}
use Rattle.store.specs.declared.Shape.{Shape}
use Rattle.store.specs.declared.Shape.TheVariants.{Vertex, Open, Closed, Face}
use Rattle.store.specs.declared.Cell.{Cell}
use Rattle.complex.specs.Lists.{total}
use Rattle.complex.specs.Sound.{step_count}
use Rattle.complex.specs.Cells.{Halfedge, Cycle, lone, path, Figure, vertex, open_edge, closed_edge, face, LiveCell as Entry}
use Rattle.store.specs.Sheet.{real, all_real}
use Rattle.store.specs.Places.{bit, word, num_of, cycle_words, shape_of, figure_cycles, figure_bends, entry_cell, entry_cycles, entry_bends}
use Rattle.number.specs.Readers.{spread}
use Rattle.store.specs.View.{halfedge_of, width, cycle_of, cycles_from, cycle_count, bend_count, figure_of, cells_of, cycle_sum, bend_sum, width_sum}

module _ {A B : Type 0} where
  pub flat_append : (f : A → List B) (xs ys : List A) → spread f (xs ++ ys) ≡ spread f xs ++ spread f ys
  flat_append f [] ys = refl
  flat_append f (x ∷ xs) ys = ap (λ (r : List B). f x ++ r) (flat_append f xs ys) ∙ sym (append_assoc (f x) (spread f xs) (spread f ys))

-- the places that cycles take: a lone vertex has one
pub places_size : (k : Cycle) → length (cycle_words k) ≡ step_count k
places_size (lone v) = refl
places_size (path hs) = length-map hs word

pub all_places : (ks : List Cycle) → length (spread cycle_words ks) ≡ total step_count ks
all_places [] = refl
all_places (k ∷ ks) = length-append (cycle_words k) (spread cycle_words ks) ∙ ap₂ ◌+◌ (places_size k) (all_places ks)

-- a step's number, both ways
word_half : (e : ℕ) (b : Bool) → halfedge_of (e * 2 + bit b) ≡ record { edge = e; backward = b }
word_half e true =
    let p : (e * 2 + 1) / 2 ≡ e = omega arith in
    let q : eqb ((e * 2 + 1) % 2) 1 ≡ true = eq-eqb ((e * 2 + 1) % 2) 1 (omega arith) in
    λ i. record { edge = p i; backward = q i }
word_half e false =
    let p : (e * 2 + 0) / 2 ≡ e = omega arith in
    let q : eqb ((e * 2 + 0) % 2) 1 ≡ false = ne_eqb ((e * 2 + 0) % 2) 1 (omega arith) in
    λ i. record { edge = p i; backward = q i }

pub halves : (hs : List Halfedge) → map halfedge_of (map word hs) ≡ hs
halves [] = refl
halves (h ∷ hs) = ap₂ (λ (x : Halfedge) (xs : List Halfedge). x ∷ xs) (word_half h.edge h.backward) (halves hs)

half_word : (s : ℕ) (t : Bool) → eqb (s % 2) 1 ≡ t → s / 2 * 2 + bit t ≡ s
half_word s true e = let h = eqb-true (s % 2) 1 e in omega arith
half_word s false e = let h = eqb-false (s % 2) 1 e in omega arith

pub words : (l : List ℕ) → map word (map halfedge_of l) ≡ l
words [] = refl
words (s ∷ l) = ap₂ (λ (x : ℕ) (xs : List ℕ). x ∷ xs) (half_word s (eqb (s % 2) 1) refl) (words l)

-- the view of the arrays, put back into arrays
cycle_number : (n : ℕ) (st : List ℕ) → width n ≤ length st → num_of (cycle_of n st) ≡ n
cycle_number zero st h = refl
cycle_number (suc n) st h = length-map (take (suc n) st) halfedge_of ∙ length-take-le (suc n) st h

pub numbers : (ns st : List ℕ) → width_sum ns ≤ length st → map num_of (cycles_from ns st) ≡ ns
numbers [] st h = refl
numbers (n ∷ ns) st h =
    ap₂ (λ (x : ℕ) (xs : List ℕ). x ∷ xs) (cycle_number n st (omega arith)) (numbers ns (drop (width n) st) (simp length-drop (omega arith)))

first_place : (st : List ℕ) → 1 ≤ length st → get_or st 0 0 ∷ [] ≡ take 1 st
first_place [] h = absurd (omega arith)
first_place (x ∷ st) h = refl

cycle_places : (n : ℕ) (st : List ℕ) → width n ≤ length st → cycle_words (cycle_of n st) ≡ take (width n) st
cycle_places zero st h = first_place st h
cycle_places (suc n) st h = words (take (suc n) st)

pub places : (ns st : List ℕ) → width_sum ns ≤ length st → spread cycle_words (cycles_from ns st) ≡ take (width_sum ns) st
places [] st h = refl
places (n ∷ ns) st h =
    ap₂ (λ (x xs : List ℕ). x ++ xs) (cycle_places n st (omega arith)) (places ns (drop (width n) st) (simp length-drop (omega arith)))
    ∙ sym (take-add (width n) (width_sum ns) st)

cycle_real : (n : ℕ) (st : List ℕ) → width n ≤ length st → real (cycle_of n st) ≡ true
cycle_real zero st h = refl
cycle_real (suc n) [] h = absurd (omega arith)
cycle_real (suc n) (x ∷ st) h = refl

pub cycles_real : (ns st : List ℕ) → width_sum ns ≤ length st → all_real (cycles_from ns st) ≡ true
cycles_real [] st h = refl
cycles_real (n ∷ ns) st h =
    ap₂ ◌&&◌ (cycle_real n st (omega arith)) (cycles_real ns (drop (width n) st) (simp length-drop (omega arith)))

pub take_cycles : (k : ℕ) (ns st : List ℕ) → take k (cycles_from ns st) ≡ cycles_from (take k ns) st
take_cycles zero ns st = refl
take_cycles (suc k) [] st = refl
take_cycles (suc k) (n ∷ ns) st = ap (λ (r : List Cycle). cycle_of n st ∷ r) (take_cycles k ns (drop (width n) st))

pub length_cycles : (ns st : List ℕ) → length (cycles_from ns st) ≡ length ns
length_cycles [] st = refl
length_cycles (n ∷ ns) st = ap suc (length_cycles ns (drop (width n) st))

-- the cycle in place i
pub cycle_at_lem : (ns st : List ℕ) (i : ℕ) (z : Cycle) → i < length ns → get_or (cycles_from ns st) i z ≡ cycle_of (get_or ns i 0) (drop (width_sum (take i ns)) st)
cycle_at_lem [] st i z h = absurd (omega arith)
cycle_at_lem (n ∷ ns) st zero z h = refl
cycle_at_lem (n ∷ ns) st (suc i) z h =
    cycle_at_lem ns (drop (width n) st) i z (omega arith) ∙ ap (cycle_of (get_or ns i 0)) (drop-drop (width_sum (take i ns)) (width n) st)

pub length_cells : (cs : List Cell) (ks : List Cycle) (bs : List Position) → length (cells_of cs ks bs) ≡ length cs
length_cells [] ks bs = refl
length_cells (c ∷ cs) ks bs = ap suc (length_cells cs (drop (cycle_count c.shape) ks) (drop (bend_count c.shape) bs))

-- the cell in place i has its cycles and bends behind those of the cells before it
pub cell_at_lem : (cs : List Cell) (ks : List Cycle) (bs : List Position) (i : ℕ) (z : Entry) (y : Cell) → i < length cs
    → get_or (cells_of cs ks bs) i z ≡ record {
      id =
          (get_or cs i y).id;
      figure = figure_of (get_or cs i y).shape (drop (cycle_sum (take i cs)) ks) (drop (bend_sum (take i cs)) bs);
    }
cell_at_lem [] ks bs i z y h = absurd (omega arith)
cell_at_lem (c ∷ cs) ks bs zero z y h = refl
cell_at_lem (c ∷ cs) ks bs (suc i) z y h =
    cell_at_lem cs (drop (cycle_count c.shape) ks) (drop (bend_count c.shape) bs) i z y (omega arith)
    ∙ ap₂ (λ (k : List Cycle) (b : List Position). record { id = (get_or cs i y).id; figure = figure_of (get_or cs i y).shape k b })
    (drop-drop (cycle_sum (take i cs)) (cycle_count c.shape) ks) (drop-drop (bend_sum (take i cs)) (bend_count c.shape) bs)

pub figure_shape : (s : Shape) (ks : List Cycle) (bs : List Position) → cycle_count s ≤ length ks → bend_count s ≤ length bs → shape_of (figure_of s ks bs) ≡ s
figure_shape (Vertex p) ks bs h g = refl
figure_shape (Open s e n) ks bs h g = ap (Open s e) (length-take-le n bs g)
figure_shape (Closed n) ks bs h g = ap Closed (length-take-le n bs g)
figure_shape (Face k) ks bs h g = ap Face (length-take-le k ks h)

pub heads : (cs : List Cell) (ks : List Cycle) (bs : List Position) → cycle_sum cs ≤ length ks → bend_sum cs ≤ length bs
    → map entry_cell (cells_of cs ks bs) ≡ cs
heads [] ks bs h g = refl
heads (c ∷ cs) ks bs h g =
    ap₂ (λ (s : Shape) (r : List Cell). record { id = c.id; shape = s } ∷ r)
    (figure_shape c.shape ks bs (omega arith) (omega arith))
    (heads cs (drop (cycle_count c.shape) ks) (drop (bend_count c.shape) bs) (simp length-drop (omega arith)) (simp length-drop (omega arith)))

pub figure_parts : (s : Shape) (ks : List Cycle) (bs : List Position)
    → (figure_cycles (figure_of s ks bs) ≡ take (cycle_count s) ks) × (figure_bends (figure_of s ks bs) ≡ take (bend_count s) bs)
figure_parts (Vertex p) ks bs = (refl, refl)
figure_parts (Open s e n) ks bs = (refl, refl)
figure_parts (Closed n) ks bs = (refl, refl)
figure_parts (Face k) ks bs = (refl, refl)

pub cycles_of_cells : (cs : List Cell) (ks : List Cycle) (bs : List Position) → spread entry_cycles (cells_of cs ks bs) ≡ take (cycle_sum cs) ks
cycles_of_cells [] ks bs = refl
cycles_of_cells (c ∷ cs) ks bs =
    ap₂ (λ (x xs : List Cycle). x ++ xs) (figure_parts c.shape ks bs).0
    (cycles_of_cells cs (drop (cycle_count c.shape) ks) (drop (bend_count c.shape) bs))
    ∙ sym (take-add (cycle_count c.shape) (cycle_sum cs) ks)

pub bends_of_cells : (cs : List Cell) (ks : List Cycle) (bs : List Position) → spread entry_bends (cells_of cs ks bs) ≡ take (bend_sum cs) bs
bends_of_cells [] ks bs = refl
bends_of_cells (c ∷ cs) ks bs =
    ap₂ (λ (x xs : List Position). x ++ xs) (figure_parts c.shape ks bs).1
    (bends_of_cells cs (drop (cycle_count c.shape) ks) (drop (bend_count c.shape) bs))
    ∙ sym (take-add (bend_count c.shape) (bend_sum cs) bs)

-- cells put into arrays, and viewed again
path_back : (hs : List Halfedge) (n : ℕ) (st : List ℕ) → length hs ≡ n → map halfedge_of (take n (map word hs ++ st)) ≡ hs
path_back hs n st e = ap (map halfedge_of) (take_at (map word hs) st n (length-map hs word ∙ e)) ∙ halves hs

path_drop : (hs : List Halfedge) (n : ℕ) (st : List ℕ) → length hs ≡ n → drop n (map word hs ++ st) ≡ st
path_drop hs n st e = drop_at (map word hs) st n (length-map hs word ∙ e)

pub cycles_back : (ks : List Cycle) (ns st : List ℕ) → all_real ks ≡ true → cycles_from (map num_of ks ++ ns) (spread cycle_words ks ++ st) ≡ ks ++ cycles_from ns st
cycles_back [] ns st h = refl
cycles_back (lone v ∷ ks) ns st h = ap (λ (r : List Cycle). lone v ∷ r) (cycles_back ks ns st h)
cycles_back (path [] ∷ ks) ns st h = absurd (false≢true h)
cycles_back (path (x ∷ hs) ∷ ks) ns st h =
    ap (λ (l : List ℕ). cycles_from (suc (length hs) ∷ (map num_of ks ++ ns)) l) (append_assoc (map word (x ∷ hs)) (spread cycle_words ks) st)
    ∙ ap₂ (λ (p : List Halfedge) (l : List ℕ). path p ∷ cycles_from (map num_of ks ++ ns) l)
    (path_back (x ∷ hs) (suc (length hs)) (spread cycle_words ks ++ st) refl)
    (path_drop (x ∷ hs) (suc (length hs)) (spread cycle_words ks ++ st) refl)
    ∙ ap (λ (r : List Cycle). path (x ∷ hs) ∷ r) (cycles_back ks ns st h)

figure_back : (f : Figure) (ks : List Cycle) (bs : List Position) → figure_of (shape_of f) (figure_cycles f ++ ks) (figure_bends f ++ bs) ≡ f
figure_back (vertex p) ks bs = refl
figure_back (open_edge s e b) ks bs = ap (open_edge s e) (take_at b bs (length b) refl)
figure_back (closed_edge b) ks bs = ap closed_edge (take_at b bs (length b) refl)
figure_back (face k) ks bs = ap face (take_at k ks (length k) refl)

cycles_past : (f : Figure) (ks : List Cycle) → drop (cycle_count (shape_of f)) (figure_cycles f ++ ks) ≡ ks
cycles_past (vertex p) ks = refl
cycles_past (open_edge s e b) ks = refl
cycles_past (closed_edge b) ks = refl
cycles_past (face k) ks = drop_at k ks (length k) refl

bends_past : (f : Figure) (bs : List Position) → drop (bend_count (shape_of f)) (figure_bends f ++ bs) ≡ bs
bends_past (vertex p) bs = refl
bends_past (open_edge s e b) bs = drop_at b bs (length b) refl
bends_past (closed_edge b) bs = drop_at b bs (length b) refl
bends_past (face k) bs = refl

pub cells_back : (xs : List Entry) (ks : List Cycle) (bs : List Position)
    → cells_of (map entry_cell xs) (spread entry_cycles xs ++ ks) (spread entry_bends xs ++ bs) ≡ xs
cells_back [] ks bs = refl
cells_back (x ∷ xs) ks bs =
    let f = x.figure in
    let kr : List Cycle = spread entry_cycles xs ++ ks in
    let br : List Position = spread entry_bends xs ++ bs in
    ap₂ (λ (k : List Cycle) (b : List Position). cells_of (entry_cell x ∷ map entry_cell xs) k b) (append_assoc (figure_cycles f) (spread entry_cycles xs) ks)
    (append_assoc (figure_bends f) (spread entry_bends xs) bs)
    ∙ ap (λ (g : Figure). record { id = x.id; figure = g } ∷ cells_of (map entry_cell xs) (drop (cycle_count (shape_of f)) (figure_cycles f ++ kr))
    (drop (bend_count (shape_of f)) (figure_bends f ++ br))) (figure_back f kr br)
    ∙ ap₂ (λ (k : List Cycle) (b : List Position). x ∷ cells_of (map entry_cell xs) k b) (cycles_past f kr) (bends_past f br)
    ∙ ap (λ (r : List Entry). x ∷ r) (cells_back xs ks bs)

-- the sums are the lengths
counts : (f : Figure) → (cycle_count (shape_of f) ≡ length (figure_cycles f)) × (bend_count (shape_of f) ≡ length (figure_bends f))
counts (vertex p) = (refl, refl)
counts (open_edge s e b) = (refl, refl)
counts (closed_edge b) = (refl, refl)
counts (face k) = (refl, refl)

pub cycle_sum_lem : (xs : List Entry) → cycle_sum (map entry_cell xs) ≡ length (spread entry_cycles xs)
cycle_sum_lem [] = refl
cycle_sum_lem (x ∷ xs) = ap₂ ◌+◌ (counts x.figure).0 (cycle_sum_lem xs) ∙ sym (length-append (entry_cycles x) (spread entry_cycles xs))

pub bend_sum_lem : (xs : List Entry) → bend_sum (map entry_cell xs) ≡ length (spread entry_bends xs)
bend_sum_lem [] = refl
bend_sum_lem (x ∷ xs) = ap₂ ◌+◌ (counts x.figure).1 (bend_sum_lem xs) ∙ sym (length-append (entry_bends x) (spread entry_bends xs))

pub width_sum_lem : (ks : List Cycle) → all_real ks ≡ true → width_sum (map num_of ks) ≡ length (spread cycle_words ks)
width_sum_lem [] h = refl
width_sum_lem (lone v ∷ ks) h = let e = width_sum_lem ks h in omega arith
width_sum_lem (path [] ∷ ks) h = absurd (false≢true h)
width_sum_lem (path (x ∷ hs) ∷ ks) h =
    ap₂ ◌+◌ (ap suc (sym (length-map hs word))) (width_sum_lem ks h) ∙ sym (length-append (map word (x ∷ hs)) (spread cycle_words ks))
