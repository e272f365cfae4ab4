-- What each command does with a drawing: which cells stay, how they change, which come. Assumes nothing.
use Prim.Native.Nat.{ℕ, suc}
use mathlib.Core.Path.{◌≡◌, refl, sym}
use mathlib.Core.Bool.{Bool, true, false, not, ◌&&◌, cond}
use mathlib.Core.List.{List, [], ◌∷◌, ◌++◌}
use mathlib.Core.Option.{Option, none, some}
use lib.ListN.{get_or, set}
use lib.Dec.{eqb}
use Rattle.coordinate.specs.declared.Position.{Position}
use Rattle.complex.specs.Lists.{one, rotated, without, chosen}
use Rattle.complex.specs.Cells.{Cycle, lone, path, Figure, vertex, open_edge, closed_edge, face, Sheet, cell_at, bends_of, cycles_of, position_of, steps_of}
use Rattle.complex.specs.Cells.{along, against, head_of}
use Rattle.complex.specs.Edits.{rebuild, every_id, as_it_is, others, replaced, rewired, same_vertex, in_place_of}
use Rattle.complex.specs.Delete.{goes, moved, deleted}
use Rattle.complex.specs.Glue.{renamed, glued_vertices, glued_edges}
use Rattle.complex.specs.Unglue.{copies, parts, ungluing, unglued}
use Rattle.complex.specs.Cut.{cut_place, bends_before, bends_after, bends_round, in_two, no_cycle, corner, stretch, remainder, split_in_two, bridged, cut_figure}
use Rattle.complex.specs.Cut.{edge_cut, face_cut_at, face_cut_along, face_cut_round}
use Rattle.complex.specs.Uncut.{Uncut, refused, lonely, loop, joint, two_faces, one_cycle, rings, uncut_case, without_lone, in_one, joined, path_or, following}
use Rattle.complex.specs.Uncut.{following_to, uncut_result, uncut_at}
use Rattle.complex.specs.Decode.{Command, create, move, delete, glue_vertices, glue_edges, unglue, cut_edge, cut_face_vertex, cut_face_open, cut_face_closed}
use Rattle.complex.specs.Decode.{uncut}
use Rattle.complex.specs.Commands.{result}
use Rattle.complex.proofs.Lookup.{rebuild_none}

pub record Plan : Type 0 where
  pub stays : ℕ → Bool
  pub change : ℕ → Figure → Figure
  pub new : List Figure

abbrev pub built : Plan → Sheet → Sheet
built p s = rebuild p.stays p.change p.new s

-- nothing goes, changes or comes
abbrev pub nothing : Plan
nothing = record { stays = every_id; change = as_it_is; new = [] }

-- cells come, and the face f gets the cycles ks
abbrev pub reface : ℕ → List Cycle → List Figure → Plan
reface f ks new = record { stays = every_id; change = replaced f (face ks); new = new }

-- ---- 0A
abbrev pub cut_plan : Sheet → ℕ → ℕ → Option Figure → Plan
cut_plan s e q none = nothing
cut_plan s e q (some (vertex p)) = nothing
cut_plan s e q (some (open_edge a b bs)) =
    let v = s.next in
    record {
      stays = others e;
      change = rewired same_vertex (in_two e (suc v) (suc (suc v)));
      new = vertex (cut_place (cell_at s) (some (open_edge a b bs)) q) ∷ open_edge a v (bends_before bs q) ∷ open_edge v b (bends_after bs q) ∷ [];
    }
cut_plan s e q (some (closed_edge bs)) =
    let v = s.next in
    record {
      stays = others e;
      change = rewired same_vertex (in_place_of e (suc v) false);
      new = vertex (cut_place (cell_at s) (some (closed_edge bs)) q) ∷ open_edge v v (bends_round bs q) ∷ [];
    }
cut_plan s e q (some (face ks)) = nothing

-- ---- 0C
abbrev pub split_plan : Sheet → ℕ → ℕ → ℕ → ℕ → List Position → List ℕ → List Cycle → Plan
split_plan s f c s1 s2 bs ms ks =
    let k = get_or ks c no_cycle in
    let e = s.next in
    reface f
    (without ms 0 (set ks c (path (stretch s1 s2 (steps_of k) ++ one (against e)))))
    (open_edge (corner (cell_at s) k s1) (corner (cell_at s) k s2) bs ∷ face (path (remainder s1 s2 (steps_of k) ++ one (along e)) ∷ chosen no_cycle ms ks) ∷ [])

abbrev pub bridge_plan : Sheet → ℕ → ℕ → ℕ → ℕ → ℕ → List Position → List Cycle → Plan
bridge_plan s f c1 s1 c2 s2 bs ks =
    let k1 = get_or ks c1 no_cycle in
    let k2 = get_or ks c2 no_cycle in
    let e = s.next in
    reface f
    (without (one c2) 0 (set ks c1 (path (rotated s1 (steps_of k1) ++ (along e ∷ rotated s2 (steps_of k2) ++ one (against e))))))
    (open_edge (corner (cell_at s) k1 s1) (corner (cell_at s) k2 s2) bs ∷ [])

abbrev pub along_plan : Bool → Sheet → ℕ → ℕ → ℕ → ℕ → ℕ → List Position → List ℕ → Plan
along_plan true s f c1 s1 c2 s2 bs ms = split_plan s f c1 s1 s2 bs ms (cycles_of (cell_at s f))
along_plan false s f c1 s1 c2 s2 bs ms = bridge_plan s f c1 s1 c2 s2 bs (cycles_of (cell_at s f))

-- ---- 0E
abbrev pub uncut_plan : Sheet → ℕ → Uncut → Plan
uncut_plan s i refused = nothing
uncut_plan s i lonely = record { stays = others i; change = without_lone i; new = [] }
uncut_plan s i (loop e) =
    record {
      stays = λ (j : ℕ). others i j && others e j;
      change = rewired same_vertex (in_place_of e s.next false);
      new = closed_edge (position_of (cell_at s i) ∷ bends_of (cell_at s e)) ∷ [];
    }
uncut_plan s i (joint x y) =
    record {
      stays = λ (j : ℕ). others i j && (others x.edge j && others y.edge j);
      change = rewired same_vertex (in_one x.edge y.edge s.next);
      new = joined (cell_at s) (position_of (cell_at s i)) x y ∷ [];
    }
uncut_plan s i (two_faces u w) =
    let look = cell_at s in
    let k = path_or (head_of look u.halfedge) (following look u ++ following look w) in
    record {
      stays = λ (j : ℕ). others i j && others w.face j;
      change = replaced u.face (face (set (cycles_of (look u.face)) u.cycle k ++ without (one w.cycle) 0 (cycles_of (look w.face))));
      new = [];
    }
uncut_plan s i (one_cycle u w) =
    let look = cell_at s in
    let k = path_or (head_of look u.halfedge) (following_to look u w) in
    let l = path_or (head_of look w.halfedge) (following_to look w u) in
    record { stays = others i; change = replaced u.face (face (set (cycles_of (look u.face)) u.cycle k ++ one l)); new = [] }
uncut_plan s i (rings u w) =
    let look = cell_at s in
    record {
      stays = λ (j : ℕ). others i j && others w.face j;
      change = replaced u.face (face (without (one u.cycle) 0 (cycles_of (look u.face)) ++ without (one w.cycle) 0 (cycles_of (look w.face))));
      new = [];
    }

-- ---- every kind
abbrev pub plan : Sheet → Command → Plan
plan s (create x) = record { stays = every_id; change = as_it_is; new = one x }
plan s (move v p) = record { stays = every_id; change = replaced v (vertex p); new = [] }
plan s (delete i) = record { stays = λ (j : ℕ). not (goes s i j); change = as_it_is; new = [] }
plan s (glue_vertices a b) = record { stays = others b; change = rewired (renamed a b) one; new = [] }
plan s (glue_edges a b flag) = record { stays = others b; change = rewired same_vertex (in_place_of b a (eqb flag 1)); new = [] }
plan s (unglue i) = record { stays = every_id; change = ungluing s i (cell_at s i); new = copies (parts s.cells i (cell_at s i)) (cell_at s i) }
plan s (cut_edge e q) = cut_plan s e q (cell_at s e)
plan s (cut_face_vertex f p) = reface f (cycles_of (cell_at s f) ++ one (lone s.next)) (vertex p ∷ [])
plan s (cut_face_open f c1 s1 c2 s2 bs ms) = along_plan (eqb c1 c2) s f c1 s1 c2 s2 bs ms
plan s (cut_face_closed f bs ms) =
    let ks = cycles_of (cell_at s f) in
    let e = s.next in
    reface f (without ms 0 ks ++ one (path (one (along e)))) (closed_edge bs ∷ face (path (one (against e)) ∷ chosen no_cycle ms ks) ∷ [])
plan s (uncut i) = uncut_plan s i (uncut_case s i)

-- ---- the result is what the plan builds
built_cut : (s : Sheet) (e q : ℕ) (o : Option Figure) → cut_figure s e q o ≡ built (cut_plan s e q o) s
built_cut s e q none = sym (rebuild_none s)
built_cut s e q (some (vertex p)) = sym (rebuild_none s)
built_cut s e q (some (open_edge a b bs)) = refl
built_cut s e q (some (closed_edge bs)) = refl
built_cut s e q (some (face ks)) = sym (rebuild_none s)

built_along : (y : Bool) (s : Sheet) (f c1 s1 c2 s2 : ℕ) (bs : List Position) (ms : List ℕ)
    → cond y (split_in_two s f c1 s1 s2 bs ms (cycles_of (cell_at s f))) (bridged s f c1 s1 c2 s2 bs (cycles_of (cell_at s f)))
    ≡ built (along_plan y s f c1 s1 c2 s2 bs ms) s
built_along true s f c1 s1 c2 s2 bs ms = refl
built_along false s f c1 s1 c2 s2 bs ms = refl

built_uncut : (s : Sheet) (i : ℕ) (c : Uncut) → uncut_result s i c ≡ built (uncut_plan s i c) s
built_uncut s i refused = sym (rebuild_none s)
built_uncut s i lonely = refl
built_uncut s i (loop e) = refl
built_uncut s i (joint x y) = refl
built_uncut s i (two_faces u w) = refl
built_uncut s i (one_cycle u w) = refl
built_uncut s i (rings u w) = refl

pub result_built : (s : Sheet) (c : Command) → result s c ≡ built (plan s c) s
unfolding result moved deleted glued_vertices glued_edges unglued edge_cut face_cut_at face_cut_along face_cut_round uncut_at
result_built s (create x) = refl
result_built s (move v p) = refl
result_built s (delete i) = refl
result_built s (glue_vertices a b) = refl
result_built s (glue_edges a b flag) = refl
result_built s (unglue i) = refl
result_built s (cut_edge e q) = built_cut s e q (cell_at s e)
result_built s (cut_face_vertex f p) = refl
result_built s (cut_face_open f c1 s1 c2 s2 bs ms) = built_along (eqb c1 c2) s f c1 s1 c2 s2 bs ms
result_built s (cut_face_closed f bs ms) = refl
result_built s (uncut i) = built_uncut s i (uncut_case s i)
