-- Commands keep every coordinate an f64. Assumes nothing.
use Prim.Native.Nat.{ℕ, zero, suc, ◌+◌, ◌-◌, ◌/◌, ◌%◌}
use mathlib.Core.Path.{◌≡◌, refl, sym, subst}
use mathlib.Core.Logic.{inl, inr}
use mathlib.Core.Bool.{Bool, true, false, ◌&&◌, cond}
use mathlib.Core.List.{List, [], ◌∷◌, ◌++◌, reverse}
use mathlib.Core.Option.{Option, none, some}
use lib.ListN.{get_or, take, drop, replicate}
use lib.Dec.{T, eqb}
use lib.Ieee.{binary64}
use lib.Ieee.Bits.{of_bits-fits}
use Rattle.coordinate.specs.declared.Position.{Position}
use Rattle.coordinate.specs.Bounds.{middle}
use Rattle.coordinate.proofs.Laws.{middle_fits}
use Rattle.complex.specs.Lists.{all, one}
use Rattle.complex.specs.Cells.{Halfedge, Cycle, Figure, vertex, open_edge, closed_edge, face, LiveCell, Sheet, empty, origin, Look, cell_at, start_of, end_of}
use Rattle.complex.specs.Cells.{head_of, bends_of, cycles_of, position_of}
use Rattle.complex.specs.Sound.{double, figure_double, doubles, sound}
use Rattle.complex.specs.Decode.{Command, create, move, delete, glue_vertices, glue_edges, unglue, cut_edge, cut_face_vertex, cut_face_open, cut_face_closed}
use Rattle.complex.specs.Decode.{uncut}
use Rattle.complex.specs.Edits.{keep_ids, reshape, numbered, rebuild, every_id, others, neither, none_of, as_it_is, replaced, rewired, same_vertex, in_place_of}
use Rattle.complex.specs.Glue.{renamed}
use Rattle.complex.specs.Uses.{on_uses}
use Rattle.complex.specs.Unglue.{new_ends, copies, parts, ungluing}
use Rattle.complex.specs.Cut.{points, cut_place, bends_before, bends_after, bends_round, in_two, cut_figure, split_in_two, bridged}
use Rattle.complex.specs.Uncut.{Uncut, refused, lonely, loop, joint, two_faces, one_cycle, rings, without_lone, bends_along, joined, in_one, uncut_result, uncut_case}
use Rattle.complex.specs.Commands.{positions, result}
use Rattle.complex.specs.Answer.{Answer, renewed, command}
use Rattle.complex.specs.Demands.{command_step, after}
use Rattle.complex.proofs.Bools.{truth, either, both, pair, all_append, all_map}
use Rattle.complex.proofs.Lookup.{all_at}
use Rattle.complex.proofs.CutEdge.{all_take, all_drop}
use Rattle.complex.proofs.UncutVertex.{all_filter, all_reverse}
use Rattle.complex.proofs.Steps.{items_good}
use Rattle.complex.proofs.RenumberSound.{all_numbered, double_rewired, renumber_doubles}
use Rattle.complex.proofs.Obey.{refusal, obeyed, renews, outcome}
use Rattle.complex.proofs.ReadDoubles.{fits_double, decode_doubles}

-- ---- a change keeps f64s if it keeps each cell's, and the new cells have them
abbrev Steady : (ℕ → Figure → Figure) → Type 0
Steady f = (i : ℕ) (x : Figure) → T (figure_double x) → T (figure_double (f i x))

pub rebuild_doubles : (p : ℕ → Bool) (f : ℕ → Figure → Figure) (new : List Figure) (s : Sheet) → Steady f → T (all figure_double new) → T (doubles s)
    → T (doubles (rebuild p f new s))
rebuild_doubles p f new s F N S =
    let D : LiveCell → Bool = λ (c : LiveCell). figure_double c.figure in
    all_append D (reshape f (keep_ids p s.cells)) (numbered s.next new)
    (all_map D D (λ (c : LiveCell). record { id = c.id; figure = f c.id c.figure }) (λ c t. F c.id c.figure t) (keep_ids p s.cells)
    (all_filter D D (λ (c : LiveCell). p c.id) (λ c q t. t) s.cells S))
    (all_numbered figure_double s.next new N)

-- ---- the changes
as_steady : Steady as_it_is
as_steady i x t = t

replaced_steady : (i : ℕ) (y : Figure) → T (figure_double y) → Steady (replaced i y)
replaced_steady i y d j x t = go (eqb i j)
  where
    go : (b : Bool) → T (figure_double (cond b y x))
    go true = d
    go false = t

lone_steady : (v : ℕ) → Steady (without_lone v)
lone_steady v i (vertex p) t = t
lone_steady v i (open_edge a b bs) t = t
lone_steady v i (closed_edge bs) t = t
lone_steady v i (face ks) t = tt

uses_steady : (uses : Cycle → ℕ) (f : ℕ → Cycle → Cycle) (n : ℕ) (cs : List LiveCell) → Steady (on_uses uses f n cs)
uses_steady uses f n cs i (vertex p) t = t
uses_steady uses f n cs i (open_edge a b bs) t = t
uses_steady uses f n cs i (closed_edge bs) t = t
uses_steady uses f n cs i (face ks) t = tt

ends_steady : (v next : ℕ) (gs : List (List Halfedge)) (cs : List LiveCell) → Steady (new_ends v next gs cs)
ends_steady v next gs cs i (vertex p) t = t
ends_steady v next gs cs i (open_edge a b bs) t = t
ends_steady v next gs cs i (closed_edge bs) t = t
ends_steady v next gs cs i (face ks) t = tt

unglue_steady : (s : Sheet) (i : ℕ) (o : Option Figure) → Steady (ungluing s i o)
unglue_steady s i none = as_steady
unglue_steady s i (some (vertex p)) = ends_steady _ _ _ _
unglue_steady s i (some (open_edge a b bs)) = uses_steady _ _ _ _
unglue_steady s i (some (closed_edge bs)) = uses_steady _ _ _ _
unglue_steady s i (some (face ks)) = as_steady

-- ---- what stands at an id
abbrev DoubleAt : Option Figure → Type 0
DoubleAt none = Unit {0}
DoubleAt (some x) = T (figure_double x)

double_at : (s : Sheet) (i : ℕ) → T (doubles s) → DoubleAt (cell_at s i)
double_at s i S = go (cell_at s i) refl
  where
    go : (o : Option Figure) → cell_at s i ≡ o → DoubleAt o
    go none e = tt
    go (some x) e = all_at figure_double s.cells i x S e

origin_double : T (double origin)
origin_double = fits_double origin (of_bits-fits binary64 0, of_bits-fits binary64 0)

bends_at : (o : Option Figure) → DoubleAt o → T (all double (bends_of o))
bends_at none t = tt
bends_at (some (vertex p)) t = tt
bends_at (some (open_edge a b bs)) t = t
bends_at (some (closed_edge bs)) t = t
bends_at (some (face ks)) t = tt

place_at_lem : (o : Option Figure) → DoubleAt o → T (double (position_of o))
place_at_lem none t = origin_double
place_at_lem (some (vertex p)) t = t
place_at_lem (some (open_edge a b bs)) t = origin_double
place_at_lem (some (closed_edge bs)) t = origin_double
place_at_lem (some (face ks)) t = origin_double

copies_at : (n : ℕ) (o : Option Figure) → DoubleAt o → T (all figure_double (copies n o))
copies_at n none t = tt
copies_at n (some x) t = go (n - 1)
  where
    go : (m : ℕ) → T (all figure_double (replicate m x))
    go zero = tt
    go (suc m) = pair (figure_double x) (all figure_double (replicate m x)) t (go m)

-- ---- new cells
get_d_double : (ps : List Position) (n : ℕ) → T (all double ps) → T (double (get_or ps n origin))
get_d_double [] n t = origin_double
get_d_double (p ∷ ps) zero t = (both (double p) (all double ps) t).0
get_d_double (p ∷ ps) (suc n) t = get_d_double ps n (both (double p) (all double ps) t).1

cut_double : (look : Look) (o : Option Figure) (q : ℕ) → DoubleAt o → T (double (cut_place look o q))
cut_double look o q h = go (eqb (q % 2) 1)
  where
    m : Position
    m = middle (get_or (points look o) (q / 2) origin) (get_or (points look o) (q / 2 + 1) origin)

    go : (b : Bool) → T (double (cond b (get_or (bends_of o) (q / 2) origin) m))
    go true = get_d_double (bends_of o) (q / 2) (bends_at o h)
    go false = fits_double m (middle_fits _ _)

both_double : (x y : Figure) → T (figure_double x) → T (figure_double y) → T (all figure_double (x ∷ y ∷ []))
both_double x y t u = pair (figure_double x) (figure_double y && true) t (pair (figure_double y) true u tt)

single_double : (x : Figure) → T (figure_double x) → T (all figure_double (one x))
single_double x t = pair (figure_double x) true t tt

figure_from : (x : Figure) → T (all double (positions (create x))) → T (figure_double x)
figure_from (vertex p) t = (both (double p) true t).0
figure_from (open_edge a b bs) t = t
figure_from (closed_edge bs) t = t
figure_from (face ks) t = tt

-- ---- results
module _ (s : Sheet) (S : T (doubles s)) where
  cut_kept : (e q : ℕ) (o : Option Figure) → DoubleAt o → T (doubles (cut_figure s e q o))
  cut_kept e q none h = S
  cut_kept e q (some (vertex p)) h = S
  cut_kept e q (some (open_edge a b bs)) h =
      let v = vertex (cut_place (cell_at s) (some (open_edge a b bs)) q) in
      let x = open_edge a s.next (bends_before bs q) in
      let y = open_edge s.next b (bends_after bs q) in
      rebuild_doubles (others e) (rewired same_vertex (in_two e (suc s.next) (suc (suc s.next)))) (v ∷ x ∷ y ∷ []) s (double_rewired same_vertex (in_two e (suc s.next) (suc (suc s.next))))
      (pair (figure_double v) (all figure_double (x ∷ y ∷ [])) (cut_double (cell_at s) (some (open_edge a b bs)) q h)
      (both_double x y (all_take double (q / 2) bs h) (all_drop double (q / 2 + q % 2) bs h))) S
  cut_kept e q (some (closed_edge bs)) h =
      let v = vertex (cut_place (cell_at s) (some (closed_edge bs)) q) in
      let x = open_edge s.next s.next (bends_round bs q) in
      let m = q / 2 + 1 in
      let n = q / 2 + (1 - q % 2) in
      rebuild_doubles (others e) (rewired same_vertex (in_place_of e (suc s.next) false)) (v ∷ x ∷ []) s (double_rewired same_vertex (in_place_of e (suc s.next) false))
      (both_double v x (cut_double (cell_at s) (some (closed_edge bs)) q h)
      (all_append double (drop m bs) (take n bs) (all_drop double m bs h) (all_take double n bs h))) S
  cut_kept e q (some (face ks)) h = S

  along_kept : (h : Halfedge) → T (all double (bends_along (cell_at s) h))
  along_kept h = go h.backward
    where
      bs : List Position
      bs = bends_of (cell_at s h.edge)

      t : T (all double bs)
      t = bends_at (cell_at s h.edge) (double_at s h.edge S)

      go : (b : Bool) → T (all double (cond b (reverse bs) bs))
      go true = all_reverse double bs t
      go false = t

  joined_double : (p : Position) (x y : Halfedge) → T (double p) → T (figure_double (joined (cell_at s) p x y))
  joined_double p x y d = go x.backward
    where
      a : Option Figure
      a = cell_at s x.edge

      w : List Position
      w = bends_along (cell_at s) y

      u : T (all double (bends_of a))
      u = bends_at a (double_at s x.edge S)

      go : (b : Bool) → T (figure_double
          (cond b (open_edge (start_of a) (head_of (cell_at s) y) (bends_of a ++ (p ∷ w)))
          (open_edge (head_of (cell_at s) y) (end_of a) (reverse w ++ (p ∷ bends_of a)))))
      go true = all_append double (bends_of a) (p ∷ w) u (pair (double p) (all double w) d (along_kept y))
      go false = all_append double (reverse w) (p ∷ bends_of a) (all_reverse double w (along_kept y)) (pair (double p) (all double (bends_of a)) d u)

  uncut_kept : (i : ℕ) (c : Uncut) → T (doubles (uncut_result s i c))
  uncut_kept i refused = S
  uncut_kept i lonely = rebuild_doubles _ _ [] s (lone_steady i) tt S
  uncut_kept i (loop e) =
      let p = position_of (cell_at s i) in
      let bs = bends_of (cell_at s e) in
      let x = closed_edge (p ∷ bs) in
      rebuild_doubles (neither i e) (rewired same_vertex (in_place_of e s.next false)) (one x) s (double_rewired same_vertex (in_place_of e s.next false))
      (single_double x (pair (double p) (all double bs) (place_at_lem (cell_at s i) (double_at s i S)) (bends_at (cell_at s e) (double_at s e S)))) S
  uncut_kept i (joint h k) =
      let p = position_of (cell_at s i) in
      let x = joined (cell_at s) p h k in
      rebuild_doubles (none_of i h.edge k.edge) (rewired same_vertex (in_one h.edge k.edge s.next)) (one x) s (double_rewired same_vertex (in_one h.edge k.edge s.next)) (single_double x (joined_double p h k (place_at_lem (cell_at s i) (double_at s i S)))) S
  uncut_kept i (two_faces u w) = rebuild_doubles _ _ [] s (replaced_steady _ _ tt) tt S
  uncut_kept i (one_cycle u w) = rebuild_doubles _ _ [] s (replaced_steady _ _ tt) tt S
  uncut_kept i (rings u w) = rebuild_doubles _ _ [] s (replaced_steady _ _ tt) tt S

  -- a face gets other cycles, and cells come
  face_kept : (f : ℕ) (ks : List Cycle) (new : List Figure) → T (all figure_double new) → T (doubles (rebuild every_id (replaced f (face ks)) new s))
  face_kept f ks new t = rebuild_doubles every_id (replaced f (face ks)) new s (replaced_steady f (face ks) tt) t S

  split_kept : (f : ℕ) (ks : List Cycle) (x : Figure) (js : List Cycle) → T (figure_double x)
      → T (doubles (rebuild every_id (replaced f (face ks)) (x ∷ face js ∷ []) s))
  split_kept f ks x js t = face_kept f ks (x ∷ face js ∷ []) (both_double x (face js) t tt)

  -- 0C, in one cycle or between two
  along_edge : (f c1 s1 c2 s2 : ℕ) (bs : List Position) (ms : List ℕ) (ks : List Cycle) (b : Bool) → T (all double bs)
      → T (doubles (cond b (split_in_two s f c1 s1 s2 bs ms ks) (bridged s f c1 s1 c2 s2 bs ks)))
  along_edge f c1 s1 c2 s2 bs ms ks true t = split_kept f _ (open_edge _ _ bs) _ t
  along_edge f c1 s1 c2 s2 bs ms ks false t = face_kept f _ (open_edge _ _ bs ∷ []) (pair (all double bs) true t tt)

  -- each kind
  pub result_doubles : (c : Command) → T (all double (positions c)) → T (doubles (result s c))
  unfolding result
  result_doubles (create x) t = rebuild_doubles every_id as_it_is (one x) s as_steady (single_double x (figure_from x t)) S
  result_doubles (move v p) t = rebuild_doubles every_id (replaced v (vertex p)) [] s (replaced_steady v (vertex p) (both (double p) true t).0) tt S
  result_doubles (delete i) t = rebuild_doubles _ as_it_is [] s as_steady tt S
  result_doubles (glue_vertices a b) t = rebuild_doubles (others b) (rewired (renamed a b) one) [] s (double_rewired (renamed a b) one) tt S
  result_doubles (glue_edges a b flag) t =
      rebuild_doubles (others b) (rewired same_vertex (in_place_of b a (eqb flag 1))) [] s (double_rewired same_vertex (in_place_of b a (eqb flag 1))) tt S
  result_doubles (unglue i) t =
      let o = cell_at s i in
      let n = parts s.cells i o in
      rebuild_doubles every_id (ungluing s i o) (copies n o) s (unglue_steady s i o) (copies_at n o (double_at s i S)) S
  result_doubles (cut_edge e q) t = cut_kept e q (cell_at s e) (double_at s e S)
  result_doubles (cut_face_vertex f p) t = face_kept f _ (one (vertex p)) t
  result_doubles (cut_face_open f c1 s1 c2 s2 bs ms) t = along_edge f c1 s1 c2 s2 bs ms (cycles_of (cell_at s f)) (eqb c1 c2) t
  result_doubles (cut_face_closed f bs ms) t = split_kept f _ (closed_edge bs) _ t
  result_doubles (uncut i) t = uncut_kept i (uncut_case s i)

-- ---- any bytes as a command, and any list of them
pub command_doubles : (s : Sheet) (b : List ℕ) → T (doubles s) → T (doubles (command s b).sheet)
unfolding command renewed
command_doubles s b S = elim (either (sound s)) [
  | inl e ↦ elim (outcome s b (truth e)) [
    | refusal n z q ↦ subst (λ (a : Answer). T (doubles a.sheet)) (sym q) S
    | obeyed c t d p q ↦ subst (λ (a : Answer). T (doubles a.sheet)) (sym q) (result_doubles s S c (decode_doubles b t c d))
    | renews t d q ↦ subst (λ (a : Answer). T (doubles a.sheet)) (sym q) (renumber_doubles s S)
  ]
  | inr e ↦ rw e S
]

pub after_doubles : (bs : List (List ℕ)) → T (doubles (after empty bs))
after_doubles bs = items_good command_step (λ (s : Sheet). T (doubles s)) command_doubles empty bs tt
