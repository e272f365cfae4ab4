-- The readers of a drawing's file: what is written is read back, and what is read was written so. Assumes nothing.
use Prim.Native.Nat.{ℕ, zero, suc, ◌+◌, ◌*◌, ◌/◌, ◌%◌, ◌<◌}
use native.Mathlib.Omega.{arith}
use mathlib.Core.Path.{◌≡◌, refl, sym, ap, ◌∙◌, subst}
use mathlib.Core.Bool.{Bool, true, false, not, ◌&&◌, cond}
use mathlib.Core.List.{List, [], ◌∷◌, ◌++◌, append_assoc}
use lib.ListN.{length, get_or}
use lib.Dec.{T, eqb}
use borrow.Author.Tests.{eq-eqb, ne_eqb, eqb-true, eqb-false}
use Rattle.number.specs.Readers.{Read, got, bad, and_then, times, spread}
use Rattle.number.specs.Numbers.{numbers_end, read_number, spell, counted, counted_bytes}
use Rattle.number.proofs.Bytes.{Bytes, bytes_rest}
use Rattle.number.proofs.Laws.{not_bad, got_thing, got_rest, read_spell, spell_read}
use Rattle.number.proofs.Counted.{Each, each_all, times_length, times_back, counted_back, times_from, counted_from}
use Rattle.coordinate.specs.declared.Position.{Position}
use Rattle.coordinate.specs.Bounds.{within}
use Rattle.coordinate.specs.Positions.{FloatFits, read_position, position_bytes}
use Rattle.coordinate.proofs.Laws.{read_position_lem, position_read}
use Rattle.bends.specs.Bends.{read_bends, bend_bytes}
use Rattle.bends.proofs.Laws.{bends_back, bends_from}
use Rattle.complex.specs.Lists.{all, is_empty}
use Rattle.complex.specs.Cells.{Halfedge, Cycle, lone, path, Figure, vertex, open_edge, closed_edge, face, LiveCell, Sheet, Look, is_vertex}
use Rattle.complex.specs.Sound.{figure_ok}
use Rattle.complex.specs.Decode.{step_of, step_number, read_step, step_bytes, read_cycle, cycle_bytes, read_vertex, read_open_edge, read_closed_edge, read_face}
use Rattle.complex.specs.File.{figure_bytes, cell_bytes, figure_readers, no_figure, read_cell, file_of, read_sheet}
use Rattle.complex.proofs.Bools.{both}

-- ---- a step and its number
step_same : (h : Halfedge) → step_of (step_number h) ≡ h
step_same h = go h.edge h.backward
  where
    go : (e : ℕ) (b : Bool) → step_of (2 * e + cond b 1 0) ≡ record { edge = e; backward = b }
    go e true =
        let d : (2 * e + 1) / 2 ≡ e = omega arith in
        let m : (2 * e + 1) % 2 ≡ 1 = omega arith in
        λ i. record { edge = d i; backward = eq-eqb ((2 * e + 1) % 2) 1 m i }
    go e false =
        let d : (2 * e + 0) / 2 ≡ e = omega arith in
        let m : (2 * e + 0) % 2 ≡ 1 → ⊥ = λ z. omega arith in
        λ i. record { edge = d i; backward = ne_eqb ((2 * e + 0) % 2) 1 m i }

pub number_same : (n : ℕ) → step_number (step_of n) ≡ n
number_same n = go (eqb (n % 2) 1) refl
  where
    go : (b : Bool) → eqb (n % 2) 1 ≡ b → 2 * (n / 2) + cond b 1 0 ≡ n
    go true e = let m = eqb-true (n % 2) 1 e in omega arith
    go false e = let m = eqb-false (n % 2) 1 e in omega arith

-- ---- one reader after another: what is written is read back
module _ {B : Type 0} (k : ℕ → List ℕ → Read B) where
  number_then : (n : ℕ) (b t : List ℕ) → n < numbers_end → and_then (read_number ((spell n ++ b) ++ t)) k ≡ k n (b ++ t)
  number_then n b t h = ap (λ (s : List ℕ). and_then (read_number s) k) (append_assoc (spell n) b t) ∙ ap (λ (q : Read ℕ). and_then q k) (read_spell n (b ++ t) h)

-- what a file can hold: numbers that have a spelling, and coordinates that are f64s
abbrev pub StepHeld : Halfedge → Type 0
StepHeld h = step_number h < numbers_end

abbrev pub CycleHeld : Cycle → Type 0
CycleHeld (lone v) = v < numbers_end
CycleHeld (path hs) = (0 < length hs) × (length hs < numbers_end) × Each StepHeld hs

abbrev pub BendsHeld : List Position → Type 0
BendsHeld bs = (length bs < numbers_end) × Each FloatFits bs

abbrev pub FigureHeld : Figure → Type 0
FigureHeld (vertex p) = FloatFits p
FigureHeld (open_edge a b bs) = (a < numbers_end) × (b < numbers_end) × BendsHeld bs
FigureHeld (closed_edge bs) = BendsHeld bs
FigureHeld (face ks) = (length ks < numbers_end) × Each CycleHeld ks

abbrev pub CellHeld : LiveCell → Type 0
CellHeld c = (c.id < numbers_end) × FigureHeld c.figure

step_back : (h : Halfedge) → StepHeld h → (t : List ℕ) → read_step (step_bytes h ++ t) ≡ got h t
step_back h l t = ap (λ (q : Read ℕ). and_then q λ n u. got (step_of n) u) (read_spell (step_number h) t l) ∙ ap (λ (g : Halfedge). got g t) (step_same h)

cycle_back : (k : Cycle) → CycleHeld k → (t : List ℕ) → read_cycle (cycle_bytes k ++ t) ≡ got k t
cycle_back (lone v) l t = ap (λ (q : Read ℕ). and_then q λ w u. got (lone w) u) (read_spell v t l)
cycle_back (path hs) h t =
    let n = ne_eqb (length hs) 0 (λ z. omega arith) in
    number_then _ (length hs) (spread step_bytes hs) t h.1
    ∙ rw (n, times_back read_step step_bytes StepHeld step_back hs h.2 t)

-- a kind, and its fields
kind_back : (x : Figure) → FigureHeld x → {B : Type 0} (k : Figure → List ℕ → Read B) (t : List ℕ)
    → and_then (read_number (figure_bytes x ++ t)) (λ n u. and_then (get_or figure_readers n no_figure u) k) ≡ k x t
kind_back (vertex p) h k t =
    ap (λ (q : Read Position). and_then (and_then q λ r u. got (vertex r) u) k) (read_position_lem p t h)
kind_back (open_edge a b bs) h k t =
    ap (λ (q : Read Figure). and_then q k)
    (number_then _ a (spell b ++ bend_bytes bs) t h.0
    ∙ number_then _ b (bend_bytes bs) t h.1
    ∙ ap (λ (q : Read (List Position)). and_then q λ cs u. got (open_edge a b cs) u) (bends_back bs t h.2.1 h.2.0))
kind_back (closed_edge bs) h k t =
    ap (λ (q : Read (List Position)). and_then (and_then q λ cs u. got (closed_edge cs) u) k) (bends_back bs t h.1 h.0)
kind_back (face ks) h k t =
    ap (λ (q : Read (List Cycle)). and_then (and_then q λ cs u. got (face cs) u) k) (counted_back read_cycle cycle_bytes CycleHeld cycle_back ks h.1 h.0 t)

pub cell_back : (c : LiveCell) → CellHeld c → (t : List ℕ) → read_cell (cell_bytes c ++ t) ≡ got c t
cell_back c h t =
    number_then _ c.id (figure_bytes c.figure) t h.0
    ∙ kind_back c.figure h.1 (λ x u. got (record { id = c.id; figure = x }) u) t

pub sheet_back : (s : Sheet) → s.next < numbers_end → length s.cells < numbers_end → Each CellHeld s.cells → (t : List ℕ)
    → read_sheet (file_of s ++ t) ≡ got s t
unfolding file_of
sheet_back s n l h t =
    number_then _ s.next (counted_bytes cell_bytes s.cells) t n
    ∙ ap (λ (q : Read (List LiveCell)). and_then q λ cs u. got (record { next = s.next; cells = cs }) u)
    (counted_back read_cell cell_bytes CellHeld cell_back s.cells h l t)

-- ---- one reader after another: what was read first, and then
module _ {A B X : Type 0} where
  pub then_from : (q : Read A) (k : A → List ℕ → Read B) (y : B) (t : List ℕ) → and_then q k ≡ got y t
      → ((x : A) (u : List ℕ) → q ≡ got x u → k x u ≡ got y t → X) → X
  then_from (got x u) k y t e f = f x u refl e
  then_from bad k y t e f = absurd (not_bad y t e)

number_from : {B X : Type 0} (k : ℕ → List ℕ → Read B) (s t : List ℕ) (y : B) → Bytes s → and_then (read_number s) k ≡ got y t
    → ((n : ℕ) (u : List ℕ) → s ≡ spell n ++ u → Bytes u → k n u ≡ got y t → X) → X
number_from k s t y B e f =
    then_from (read_number s) k y t e λ n u r g.
    let b = spell_read s u n B r in
    f n u b (bytes_rest s (spell n) u b B) g

-- bytes in two parts
both_parts : (a b s t u : List ℕ) → s ≡ a ++ u → u ≡ b ++ t → s ≡ (a ++ b) ++ t
both_parts a b s t u f g = f ∙ ap (λ (v : List ℕ). a ++ v) g ∙ sym (append_assoc a b t)

-- what was read at last is the thing
last_part : {A : Type 0} (w : A → List ℕ) (x y : A) (s t u : List ℕ) → s ≡ w x ++ u → got x u ≡ got y t → s ≡ w y ++ t
last_part w x y s t u f e = f ∙ (λ i. w (got_thing x y u t e i) ++ got_rest x y u t e i)

each_unit : {A : Type 0} (xs : List A) → Each (λ x. Unit {0}) xs
each_unit [] = tt
each_unit (x ∷ xs) = (tt, each_unit xs)

step_from : (s t : List ℕ) (h : Halfedge) → Bytes s → read_step s ≡ got h t → Unit {0} → s ≡ step_bytes h ++ t
step_from s t h B e z =
    number_from (λ n u. got (step_of n) u) s t h B e λ n u f C g.
    last_part step_bytes (step_of n) h s t u (f ∙ ap (λ (m : ℕ). spell m ++ u) (sym (number_same n))) g

-- after the length m of a cycle
abbrev cycle_after : Bool → ℕ → List ℕ → Read Cycle
cycle_after b m t = elim b [
  | true ↦ and_then (read_number t) λ v u. got (lone v) u
  | false ↦ and_then (times read_step m t) λ hs u. got (path hs) u
]

cycle_from_lem : (s t : List ℕ) (k : Cycle) → Bytes s → read_cycle s ≡ got k t → Unit {0} → s ≡ cycle_bytes k ++ t
cycle_from_lem s t k B e z = number_from (λ m u. cycle_after (eqb m 0) m u) s t k B e λ m u f C g. go m u f C (eqb m 0) refl g
  where
    go : (m : ℕ) (u : List ℕ) → s ≡ spell m ++ u → Bytes u → (b : Bool) → eqb m 0 ≡ b → cycle_after b m u ≡ got k t → s ≡ cycle_bytes k ++ t
    go m u f C true y e =
        number_from (λ v w. got (lone v) w) u t k C e λ v w g D l.
        last_part cycle_bytes (lone v) k s t w (both_parts (spell 0) (spell v) s w u (f ∙ ap (λ (n : ℕ). spell n ++ u) (eqb-true m 0 y)) g) l
    go m u f C false y e =
        then_from (times read_step m u) (λ hs w. got (path hs) w) k t e λ hs w r l.
        last_part cycle_bytes (path hs) k s t w
        (both_parts (spell (length hs)) (spread step_bytes hs) s w u
        (f ∙ ap (λ (n : ℕ). spell n ++ u) (sym (times_length read_step m u w hs r)))
        (times_from read_step step_bytes (λ h. Unit {0}) step_from m u w hs C r (each_unit hs))) l

-- a kind, and its fields; a figure in order has its positions in bounds
module _ (look : Look) where
  abbrev Figured : ℕ → (List ℕ → Read Figure) → Type 0
  Figured n r = (s t : List ℕ) (x : Figure) → Bytes s → r s ≡ got x t → T (figure_ok look x) → spell n ++ s ≡ figure_bytes x ++ t

  -- the figure y that was read is x
  figured : (n : ℕ) (b : List ℕ) (y x : Figure) (s t u : List ℕ) → figure_bytes y ≡ spell n ++ b → got y u ≡ got x t → T (figure_ok look x)
      → (T (figure_ok look y) → s ≡ b ++ u) → spell n ++ s ≡ figure_bytes x ++ t
  figured n b y x s t u f e ok g =
      let h = g (subst (λ (z : Figure). T (figure_ok look z)) (sym (got_thing y x u t e)) ok) in
      last_part figure_bytes y x (spell n ++ s) t u (both_parts (spell n) b (spell n ++ s) u s refl h ∙ ap (λ (v : List ℕ). v ++ u) (sym f)) e

  vertex_from : Figured 0 read_vertex
  vertex_from s t x B e ok =
      then_from (read_position s) (λ p u. got (vertex p) u) x t e λ p u r l.
      figured 0 (position_bytes p) (vertex p) x s t u refl l ok λ h. position_read s u p B r h

  open_from : Figured 1 read_open_edge
  open_from s t x B e ok =
      number_from _ s t x B e λ a u f C d.
      number_from _ u t x C d λ b v g D k.
      then_from (read_bends v) _ x t k λ bs w r l.
      figured 1 (spell a ++ (spell b ++ bend_bytes bs)) (open_edge a b bs) x s t w refl l ok λ h.
      let inside = (both (is_vertex (look b)) (all within bs) (both (is_vertex (look a)) (is_vertex (look b) && all within bs) h).1).1 in
      both_parts (spell a) (spell b ++ bend_bytes bs) s w u f (both_parts (spell b) (bend_bytes bs) u w v g (bends_from v w bs D r inside).0)

  closed_from : Figured 2 read_closed_edge
  closed_from s t x B e ok =
      then_from (read_bends s) (λ bs u. got (closed_edge bs) u) x t e λ bs u r l.
      figured 2 (bend_bytes bs) (closed_edge bs) x s t u refl l ok λ h.
      (bends_from s u bs B r (both (not (is_empty bs)) (all within bs) h).1).0

  face_from : Figured 3 read_face
  face_from s t x B e ok =
      then_from (counted read_cycle s) (λ ks u. got (face ks) u) x t e λ ks u r l.
      figured 3 (counted_bytes cycle_bytes ks) (face ks) x s t u refl l ok λ h.
      (counted_from read_cycle cycle_bytes (λ k. Unit {0}) cycle_from_lem s u ks B r (each_unit ks)).0

  kind_from : (n : ℕ) → Figured n (get_or figure_readers n no_figure)
  kind_from zero = vertex_from
  kind_from (suc zero) = open_from
  kind_from (suc (suc zero)) = closed_from
  kind_from (suc (suc (suc zero))) = face_from
  kind_from (suc (suc (suc (suc n)))) = λ s t x B e ok. absurd (not_bad x t e)

  pub cell_from : (s t : List ℕ) (c : LiveCell) → Bytes s → read_cell s ≡ got c t → T (figure_ok look c.figure) → s ≡ cell_bytes c ++ t
  cell_from s t c B e ok =
      number_from _ s t c B e λ i u f C d.
      number_from _ u t c C d λ n v g D k.
      then_from (get_or figure_readers n no_figure v) _ c t k λ x w r l.
      let y : LiveCell = record { id = i; figure = x } in
      let h = subst (λ (z : LiveCell). T (figure_ok look z.figure)) (sym (got_thing y c w t l)) ok in
      last_part cell_bytes y c s t w (both_parts (spell i) (figure_bytes x) s w u f (g ∙ kind_from n v w x D r h)) l

  pub sheet_from : (s t : List ℕ) (d : Sheet) → Bytes s → read_sheet s ≡ got d t → T (all (λ (c : LiveCell). figure_ok look c.figure) d.cells)
      → s ≡ file_of d ++ t
  unfolding file_of
  sheet_from s t d B e ok =
      number_from _ s t d B e λ n u f C g.
      then_from (counted read_cell u) _ d t g λ cs v r l.
      let y : Sheet = record { next = n; cells = cs } in
      let P : LiveCell → Bool = λ (c : LiveCell). figure_ok look c.figure in
      let h = subst (λ (z : Sheet). T (all P z.cells)) (sym (got_thing y d v t l)) ok in
      last_part file_of y d s t v
      (both_parts (spell n) (counted_bytes cell_bytes cs) s v u f (counted_from read_cell cell_bytes (λ c. T (P c)) cell_from u v cs C r (each_all P cs h)).0) l
