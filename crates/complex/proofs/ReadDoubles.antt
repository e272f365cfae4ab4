-- Positions that were read are f64s: in a figure, a drawing and a command. Assumes nothing.
use Prim.Native.Nat.{ℕ, zero, suc}
use mathlib.Core.Path.{◌≡◌, sym, subst}
use mathlib.Core.Bool.{true}
use mathlib.Core.List.{List, [], ◌∷◌}
use lib.ListN.{get_or}
use lib.Dec.{T}
use lib.Ieee.{binary64, fits}
use Rattle.number.specs.Readers.{Read, got, times}
use Rattle.number.specs.Numbers.{read_number, counted}
use Rattle.number.proofs.Laws.{not_bad, got_thing}
use Rattle.number.proofs.Counted.{Each, all_each, times_cases, counted_cases}
use Rattle.coordinate.specs.declared.Position.{Position}
use Rattle.coordinate.specs.Positions.{FloatFits, read_position}
use Rattle.coordinate.proofs.Laws.{position_fits}
use Rattle.bends.specs.Bends.{read_bends}
use Rattle.complex.specs.Lists.{all, one}
use Rattle.complex.specs.Cells.{Figure, vertex, open_edge, closed_edge, face, LiveCell, Sheet}
use Rattle.complex.specs.Sound.{double, figure_double, doubles}
use Rattle.complex.specs.Decode.{Command, create, move, delete, glue_vertices, glue_edges, unglue, cut_edge, cut_face_vertex, cut_face_open, cut_face_closed}
use Rattle.complex.specs.Decode.{uncut, read_cycle, read_vertex, read_open_edge, read_closed_edge, read_face, read_create, read_cell_only, read_two, read_place}
use Rattle.complex.specs.Decode.{read_glue_edges, read_cut_face_open, read_cut_face_closed, Order, edit, renumber, unreadable, edits, read_renumber, kinds, decode}
use Rattle.complex.specs.Commands.{positions}
use Rattle.complex.specs.File.{figure_readers, no_figure, read_cell, read_sheet}
use Rattle.complex.proofs.Bools.{both, pair}
use Rattle.complex.proofs.FileReaders.{then_from}

-- ---- an f64 as a test and as a type
pub fits_double : (p : Position) → FloatFits p → T (double p)
unfolding double
fits_double p f = pair (fits binary64 p.x) (fits binary64 p.y) f.0 f.1

pub double_fits : (p : Position) → T (double p) → FloatFits p
unfolding double
double_fits p t = both (fits binary64 p.x) (fits binary64 p.y) t

-- ---- readers all of whose things are P
module _ {A : Type 0} (P : A → Type 0) where
  abbrev pub Gives : (List ℕ → Read A) → Type 0
  Gives r = (s t : List ℕ) (x : A) → r s ≡ got x t → P x

  -- the thing that is read at last
  pub gives_last : {x y : A} {s t : List ℕ} → got x s ≡ got y t → P x → P y
  gives_last {x} {y} {s} {t} e h = subst P (got_thing x y s t e) h

  pub get_d_gives : (rs : List (List ℕ → Read A)) (d : List ℕ → Read A) → Each Gives rs → Gives d → (n : ℕ) → Gives (get_or rs n d)
  get_d_gives [] d h g n = g
  get_d_gives (r ∷ rs) d h g zero = h.0
  get_d_gives (r ∷ rs) d h g (suc n) = get_d_gives rs d h.1 g n

  module _ (r : List ℕ → Read A) (gives : Gives r) where
    times_each : (n : ℕ) (s t : List ℕ) (xs : List A) → times r n s ≡ got xs t → Each P xs
    times_each zero s t xs e = subst (Each P) (got_thing [] xs s t e) tt
    times_each (suc n) s t xs e =
        let c = times_cases r n s t xs e in
        subst (Each P) (sym c.whole) (gives s c.between c.head c.one, times_each n c.between t c.tail c.others)

    pub counted_each : (s t : List ℕ) (xs : List A) → counted r s ≡ got xs t → Each P xs
    counted_each s t xs e = let c = counted_cases r s t xs e in times_each c.count c.between t xs c.things

-- one more, in a list of proofs
infixr 40 ◌&◌
◌&◌ : {X Y : Type 0} → X → Y → X × Y
x & y = (x, y)

position_double : Gives (λ p. T (double p)) read_position
position_double s t p e = fits_double p (position_fits s t p e)

bends_double : Gives (λ bs. T (all double bs)) read_bends
bends_double s t bs e = all_each double bs (counted_each (λ p. T (double p)) read_position position_double s t bs e)

-- ---- figures, cells and drawings
abbrev Double : Figure → Type 0
Double x = T (figure_double x)

vertices_double : Gives Double read_vertex
vertices_double s t x e = then_from (read_position s) _ x t e λ p u r l. gives_last Double {x = vertex p} l (position_double s u p r)

opens_double : Gives Double read_open_edge
opens_double s t x e =
    then_from (read_number s) _ x t e λ a u q f.
    then_from (read_number u) _ x t f λ b v o g.
    then_from (read_bends v) _ x t g λ bs w r l. gives_last Double {x = open_edge a b bs} l (bends_double v w bs r)

closeds_double : Gives Double read_closed_edge
closeds_double s t x e = then_from (read_bends s) _ x t e λ bs u r l. gives_last Double {x = closed_edge bs} l (bends_double s u bs r)

faces_double : Gives Double read_face
faces_double s t x e = then_from (counted read_cycle s) _ x t e λ ks u r l. gives_last Double {x = face ks} l tt

figures_double : (n : ℕ) → Gives Double (get_or figure_readers n no_figure)
figures_double = get_d_gives Double figure_readers no_figure (vertices_double & opens_double & closeds_double & faces_double & tt)
    (λ s t x e. absurd (not_bad x t e))

abbrev DoubleCell : LiveCell → Type 0
DoubleCell c = T (figure_double c.figure)

cells_double : Gives DoubleCell read_cell
cells_double s t c e =
    then_from (read_number s) _ c t e λ i u q f.
    then_from (read_number u) _ c t f λ n v o g.
    then_from (get_or figure_readers n no_figure v) _ c t g λ x w r l. gives_last DoubleCell {x = record { id = i; figure = x }} l (figures_double n v w x r)

pub sheets_double : Gives (λ s. T (doubles s)) read_sheet
sheets_double s t d e =
    then_from (read_number s) _ d t e λ n u q f.
    then_from (counted read_cell u) _ d t f λ cs v r l.
    gives_last (λ (z : Sheet). T (doubles z)) {x = record { next = n; cells = cs }} l
    (all_each (λ (c : LiveCell). figure_double c.figure) cs (counted_each DoubleCell read_cell cells_double u v cs r))

-- ---- commands
abbrev pub Placed : Command → Type 0
Placed c = T (all double (positions c))

one_double : (p : Position) → T (double p) → T (all double (one p))
one_double p t = pair (double p) true t tt

figure_placed : (x : Figure) → Double x → Placed (create x)
figure_placed (vertex p) t = one_double p t
figure_placed (open_edge a b bs) t = t
figure_placed (closed_edge bs) t = t
figure_placed (face ks) t = tt

create_placed : (r : List ℕ → Read Figure) → Gives Double r → Gives Placed (read_create r)
create_placed r g s t c e = then_from (r s) _ c t e λ x u q l. gives_last Placed {x = create x} l (figure_placed x (g s u x q))

cell_placed : (k : ℕ → Command) → ((i : ℕ) → Placed (k i)) → Gives Placed (read_cell_only k)
cell_placed k h s t c e = then_from (read_number s) _ c t e λ i u q l. gives_last Placed {x = k i} l (h i)

two_placed : (k : ℕ → ℕ → Command) → ((a b : ℕ) → Placed (k a b)) → Gives Placed (read_two k)
two_placed k h s t c e =
    then_from (read_number s) _ c t e λ a u q f.
    then_from (read_number u) _ c t f λ b v r l. gives_last Placed {x = k a b} l (h a b)

place_placed : (k : ℕ → Position → Command) → ((i : ℕ) (p : Position) → T (double p) → Placed (k i p)) → Gives Placed (read_place k)
place_placed k h s t c e =
    then_from (read_number s) _ c t e λ i u q f.
    then_from (read_position u) _ c t f λ p v r l. gives_last Placed {x = k i p} l (h i p (position_double u v p r))

glue_placed : Gives Placed read_glue_edges
glue_placed s t c e =
    then_from (read_number s) _ c t e λ a u q f.
    then_from (read_number u) _ c t f λ b v r g.
    then_from (read_number v) _ c t g λ n w o l. gives_last Placed {x = glue_edges a b n} l tt

open_placed : Gives Placed read_cut_face_open
open_placed s t c e =
    then_from (read_number s) _ c t e λ f t0 q e0.
    then_from (read_number t0) _ c t e0 λ c1 t1 q0 e1.
    then_from (read_number t1) _ c t e1 λ s1 t2 q1 e2.
    then_from (read_number t2) _ c t e2 λ c2 t3 q2 e3.
    then_from (read_number t3) _ c t e3 λ s2 t4 q3 e4.
    then_from (read_bends t4) _ c t e4 λ bs t5 r e5.
    then_from (counted read_number t5) _ c t e5 λ ms t6 q4 l. gives_last Placed {x = cut_face_open f c1 s1 c2 s2 bs ms} l (bends_double t4 t5 bs r)

closed_placed : Gives Placed read_cut_face_closed
closed_placed s t c e =
    then_from (read_number s) _ c t e λ f u q e0.
    then_from (read_bends u) _ c t e0 λ bs v r e1.
    then_from (counted read_number v) _ c t e1 λ ms w q0 l. gives_last Placed {x = cut_face_closed f bs ms} l (bends_double u v bs r)

-- ---- orders
abbrev pub OrderPlaced : Order → Type 0
OrderPlaced (edit c) = Placed c
OrderPlaced renumber = Unit {0}

none_placed : Gives OrderPlaced unreadable
none_placed s t o e = absurd (not_bad o t e)

edits_placed : {r : List ℕ → Read Command} → Gives Placed r → Gives OrderPlaced (edits r)
edits_placed {r} g s t o e = then_from (r s) _ o t e λ c u q l. gives_last OrderPlaced {x = edit c} l (g s u c q)

renumber_placed : Gives OrderPlaced read_renumber
renumber_placed s t o e = gives_last OrderPlaced {x = renumber} e tt

kinds_placed : Each (Gives OrderPlaced) kinds
kinds_placed =
    none_placed
    & edits_placed (create_placed read_vertex vertices_double)
    & edits_placed (create_placed read_open_edge opens_double)
    & edits_placed (create_placed read_closed_edge closeds_double)
    & edits_placed (create_placed read_face faces_double)
    & edits_placed (place_placed move (λ i. one_double))
    & edits_placed (cell_placed delete (λ i. tt))
    & edits_placed (two_placed glue_vertices (λ a b. tt))
    & edits_placed glue_placed
    & edits_placed (cell_placed unglue (λ i. tt))
    & edits_placed (two_placed cut_edge (λ a b. tt))
    & edits_placed (place_placed cut_face_vertex (λ i. one_double))
    & edits_placed open_placed
    & edits_placed closed_placed
    & edits_placed (cell_placed uncut (λ i. tt))
    & renumber_placed
    & tt

pub decode_doubles : (b t : List ℕ) (c : Command) → decode b ≡ got (edit c) t → T (all double (positions c))
unfolding decode
decode_doubles [] t c e = absurd (not_bad (edit c) t e)
decode_doubles (k ∷ s) t c e = get_d_gives OrderPlaced kinds unreadable kinds_placed none_placed k s t (edit c) e
