-- How many bytes cells take. Assumes nothing.
use Prim.Native.Nat.{ℕ, suc, ◌+◌, ◌*◌, ◌≤◌}
use mathlib.Core.Path.{◌≡◌, refl, ap, sym, ◌∙◌, subst}
use mathlib.Core.List.{List, [], ◌∷◌, ◌++◌}
use native.Mathlib.Omega.{arith}
use native.Mathlib.Nat.{mul-suc}
use lib.Dec.{T, lt→ltb}
use lib.Ieee.Fits.{and_i, and_l, and_r}
use lib.ListN.{length, take, drop, length-append, length-drop}
use lib.Seq.{take-add, length-take-le}
use Rattle.number.specs.Readers.{spread, all}
use Rattle.number.specs.Numbers.{numbers_end, spell}
use Rattle.number.proofs.Laws.{spelled_length}
use Rattle.coordinate.specs.declared.Position.{Position}
use Rattle.coordinate.specs.Positions.{position_bytes}
use Rattle.coordinate.proofs.Laws.{sixteen_bytes}
use Rattle.bends.specs.Bends.{bend_bytes}
use Rattle.complex.specs.Cells.{Cycle, LiveCell}
use Rattle.complex.specs.Decode.{cycle_bytes}
use Rattle.complex.specs.File.{figure_bytes, cell_bytes}
use Rattle.complex.specs.Lists.{total}
use Rattle.complex.proofs.Bools.{all_append}
use Rattle.store.specs.declared.Shape.{Shape}
use Rattle.store.specs.declared.Shape.TheVariants.{Vertex, Open, Closed, Face}
use Rattle.store.specs.declared.Cell.{Cell}
use Rattle.store.specs.View.{width, width_sum, cycle_of, cycles_from, figure_of, cells_of, cycle_count, bend_count, cycle_sum, bend_sum}
use Rattle.store.proofs.Encode.{flat_append}
use Rattle.store.proofs.Lists.{sum_append}
use Rattle.file_parts.specs.Parts.{spells, cycle_spells}
use Rattle.file_length.specs.Widths.{spell_width, shape_width, head_width}
use Rattle.file_parts.proofs.Cycles.{cycle_bytes_lem, cycle_spells_lem, width_le}

-- ---- sums
module _ {A : Type 0} where
  length_spread : {B : Type 0} (f : A → List B) (l : List A) → length (spread f l) ≡ total (λ (x : A). length (f x)) l
  length_spread f [] = refl
  length_spread f (x ∷ l) = length-append (f x) (spread f l) ∙ ap (λ (n : ℕ). length (f x) + n) (length_spread f l)

  pub total_most : (f : A → ℕ) (k : ℕ) → ((x : A) → f x ≤ k) → (l : List A) → total f l ≤ k * length l
  total_most f k h [] = omega arith
  total_most f k h (x ∷ l) =
      let a = h x in
      let b = total_most f k h l in
      let e : k * suc (length l) ≡ k * length l + k = mul-suc k (length l) in
      omega arith

pub width_most : (n : ℕ) → spell_width n ≤ 3
width_most n = (spelled_length n).1

pub head_most : (c : Cell) → head_width c ≤ 20
head_most c = let a = width_most c.id in let b = go c.shape in omega arith
  where
    go : (s : Shape) → shape_width s ≤ 16
    go (Vertex p) = omega arith
    go (Open s e n) = let a = width_most s in let b = width_most e in let d = width_most n in omega arith
    go (Closed n) = let a = width_most n in omega arith
    go (Face k) = let a = width_most k in omega arith

-- ---- cycles: their numbers and the numbers at their places
pub rings_length : (ns st : List ℕ) → width_sum ns ≤ length st
    → length (spread cycle_bytes (cycles_from ns st)) ≡ total spell_width ns + total spell_width (take (width_sum ns) st)
rings_length [] st h = refl
rings_length (n ∷ ns) st h =
    let k = length-drop (width n) st in
    let one : length (cycle_bytes (cycle_of n st)) ≡ spell_width n + total spell_width (take (width n) st) =
    ap length (cycle_bytes_lem n st (omega arith)) ∙ length-append (spell n) (spread spell (take (width n) st))
    ∙ ap (λ (m : ℕ). spell_width n + m) (length_spread spell (take (width n) st))
    in
    let more = rings_length ns (drop (width n) st) (omega arith) in
    let split : total spell_width (take (width n + width_sum ns) st) ≡ total spell_width (take (width n) st) + total spell_width
    (take (width_sum ns) (drop (width n) st)) =
    ap (total spell_width) (take-add (width n) (width_sum ns) st) ∙ sum_append spell_width (take (width n) st) (take (width_sum ns) (drop (width n) st))
    in
    let join = length-append (cycle_bytes (cycle_of n st)) (spread cycle_bytes (cycles_from ns (drop (width n) st))) in
    omega arith

pub rings_most : (ns st : List ℕ) → width_sum ns ≤ length st → width_sum ns ≤ 2048 → length ns ≤ 512 → length (spread cycle_bytes (cycles_from ns st)) ≤ 7680
rings_most ns st h g k =
    let e = rings_length ns st h in
    let u = total_most spell_width 3 width_most ns in
    let v = total_most spell_width 3 width_most (take (width_sum ns) st) in
    let l = length-take-le (width_sum ns) st h in
    omega arith

pub counts_spell : (ns : List ℕ) → width_sum ns ≤ 2048 → T (all spells ns)
counts_spell [] h = tt
counts_spell (n ∷ ns) h =
    let w = width_le n in
    and_i (spells n) (all spells ns) (lt→ltb n numbers_end (omega arith)) (counts_spell ns (omega arith))

pub places_spell : (ns st : List ℕ) → width_sum ns ≤ length st → T (all cycle_spells (cycles_from ns st)) → T (all spells (take (width_sum ns) st))
places_spell [] st h t = tt
places_spell (n ∷ ns) st h t =
    let k = length-drop (width n) st in
    let a = cycle_spells_lem n st (omega arith) (and_l (cycle_spells (cycle_of n st)) (all cycle_spells (cycles_from ns (drop (width n) st))) t) in
    let b = places_spell ns (drop (width n) st) (omega arith) (and_r (cycle_spells (cycle_of n st)) (all cycle_spells (cycles_from ns (drop (width n) st))) t) in
    subst (λ (l : List ℕ). T (all spells l)) (sym (take-add (width n) (width_sum ns) st))
    (all_append spells (take (width n) st) (take (width_sum ns) (drop (width n) st)) a b)

-- ---- cells
positions_length : (bs : List Position) → length (spread position_bytes bs) ≡ 16 * length bs
positions_length [] = refl
positions_length (p ∷ bs) =
    let a = length-append (position_bytes p) (spread position_bytes bs) in
    let b = sixteen_bytes p in
    let c = positions_length bs in
    omega arith

bends_length : (n : ℕ) (bs : List Position) → n ≤ length bs → length (bend_bytes (take n bs)) ≡ spell_width n + 16 * n
bends_length n bs h =
    let e = length-take-le n bs h in
    ap (λ (k : ℕ). length (spell k ++ spread position_bytes (take n bs))) e
    ∙ length-append (spell n) (spread position_bytes (take n bs))
    ∙ ap (λ (k : ℕ). spell_width n + k) (positions_length (take n bs) ∙ ap (λ (k : ℕ). 16 * k) e)

-- a kind takes one byte
figure_length : (s : Shape) (ks : List Cycle) (bs : List Position) → cycle_count s ≤ length ks → bend_count s ≤ length bs
    → length (figure_bytes (figure_of s ks bs)) ≡ 1 + shape_width s + (length (spread cycle_bytes (take (cycle_count s) ks)) + 16 * bend_count s)
figure_length (Vertex p) ks bs h g = let a = length-append (spell 0) (position_bytes p) in let b = sixteen_bytes p in omega arith
figure_length (Open s e n) ks bs h g =
    let a = length-append (spell 1) (spell s ++ (spell e ++ bend_bytes (take n bs))) in
    let b = length-append (spell s) (spell e ++ bend_bytes (take n bs)) in
    let c = length-append (spell e) (bend_bytes (take n bs)) in
    let d = bends_length n bs g in
    omega arith
figure_length (Closed n) ks bs h g = let a = length-append (spell 2) (bend_bytes (take n bs)) in let d = bends_length n bs g in omega arith
figure_length (Face k) ks bs h g =
    let e = ap (λ (m : ℕ). length (spell m ++ spread cycle_bytes (take k ks))) (length-take-le k ks h) in
    let a = length-append (spell 3) (spell (length (take k ks)) ++ spread cycle_bytes (take k ks)) in
    let b = length-append (spell k) (spread cycle_bytes (take k ks)) in
    omega arith

-- there are the cycles and the bends that cells have
abbrev pub Enough : List Cell → List Cycle → List Position → Type 0
Enough cs ks bs = (cycle_sum cs ≤ length ks) × (bend_sum cs ≤ length bs)

pub cells_bytes : (cs : List Cell) (ks : List Cycle) (bs : List Position) → Enough cs ks bs
    → length (spread cell_bytes (cells_of cs ks bs)) ≡ total head_width cs + (length (spread cycle_bytes (take (cycle_sum cs) ks)) + 16 * bend_sum cs)
cells_bytes [] ks bs h = refl
cells_bytes (c ∷ cs) ks bs h =
    let s = c.shape in
    let k = cycle_count s in
    let b = bend_count s in
    let x : LiveCell = record { id = c.id; figure = figure_of s ks bs } in
    let dk = length-drop k ks in
    let db = length-drop b bs in
    let a = length-append (cell_bytes x) (spread cell_bytes (cells_of cs (drop k ks) (drop b bs))) in
    let d = length-append (spell c.id) (figure_bytes (figure_of s ks bs)) in
    let f = figure_length s ks bs (omega arith) (omega arith) in
    let m = cells_bytes cs (drop k ks) (drop b bs) (omega arith, omega arith) in
    let j : length (spread cycle_bytes (take (k + cycle_sum cs) ks)) ≡ length (spread cycle_bytes (take k ks)) + length
    (spread cycle_bytes (take (cycle_sum cs) (drop k ks))) =
    ap (λ (l : List Cycle). length (spread cycle_bytes l)) (take-add k (cycle_sum cs) ks)
    ∙ ap length (flat_append cycle_bytes (take k ks) (take (cycle_sum cs) (drop k ks)))
    ∙ length-append (spread cycle_bytes (take k ks)) (spread cycle_bytes (take (cycle_sum cs) (drop k ks)))
    in
    omega arith
