-- Questions 7 and 8 from the drawing and the command, before the result is built. Assumes nothing.
use Prim.Native.Nat.{ℕ, ◌+◌, ◌-◌}
use native.Mathlib.Omega.{arith}
use mathlib.Core.Path.{◌≡◌, refl, sym, ap, ◌∙◌}
use mathlib.Core.Bool.{Bool, true, false, cond}
use mathlib.Core.List.{List}
use mathlib.Core.Option.{Option, none, some}
use lib.ListN.{length, length-replicate}
use lib.Dec.{eqb}
use Rattle.coordinate.specs.declared.Position.{Position}
use Rattle.complex.specs.Cells.{Figure, vertex, open_edge, closed_edge, face, LiveCell, Sheet, cycles_of, cell_at}
use Rattle.complex.specs.Sound.{ceilings}
use Rattle.complex.specs.Decode.{Command, create, move, delete, glue_vertices, glue_edges, unglue, cut_edge, cut_face_vertex, cut_face_open, cut_face_closed, uncut}
use Rattle.complex.specs.Delete.{moved, deleted}
use Rattle.complex.specs.Glue.{glued_vertices, glued_edges}
use Rattle.complex.specs.Unglue.{copies, parts, unglued}
use Rattle.complex.specs.Cut.{split_in_two, bridged, cut_figure, edge_cut, face_cut_at, face_cut_along, face_cut_round}
use Rattle.complex.specs.Uncut.{Uncut, refused, lonely, loop, joint, two_faces, one_cycle, rings, uncut_case, uncut_result, uncut_at}
use Rattle.complex.specs.Commands.{result}
use Rattle.answer.specs.Sizes.{SheetSizes, sized, sizes_of, sizes_fit, new_by_cut, new_by_uncut, new_cells, no_change, changed_by, sizes_after}
use Rattle.complex.proofs.Bools.{true_of}
use Rattle.complex.proofs.Keep.{Sound}
use Rattle.answer.proofs.Sizes.{Asked6, create_sizes, move_sizes, delete_fits, glue_sizes, glue_edges_sizes}
use Rattle.answer.proofs.SizesCut.{dot_sizes, round_sizes, along_sizes, cut_edge_sizes}
use Rattle.answer.proofs.SizesUnglue.{unglue_sizes}
use Rattle.answer.proofs.SizesUncut.{uncut_sizes}

-- ---- 7: the next id, of any drawing and command
copies_count : (cs : List LiveCell) (i : ℕ) (o : Option Figure) → length (copies (parts cs i o) o) ≡ parts cs i o - 1
copies_count cs i none = refl
copies_count cs i (some t) = length-replicate (parts cs i (some t) - 1) t

cut_next : (s : Sheet) (e q : ℕ) (o : Option Figure) → (cut_figure s e q o).next ≡ s.next + new_by_cut o
cut_next s e q none = omega arith
cut_next s e q (some (vertex p)) = omega arith
cut_next s e q (some (open_edge a b bs)) = refl
cut_next s e q (some (closed_edge bs)) = refl
cut_next s e q (some (face ks)) = omega arith

along_next : (s : Sheet) (f c1 s1 c2 s2 : ℕ) (bs : List Position) (ms : List ℕ) (b : Bool)
    → (cond b (split_in_two s f c1 s1 s2 bs ms (cycles_of (cell_at s f))) (bridged s f c1 s1 c2 s2 bs (cycles_of (cell_at s f)))).next ≡ s.next + cond b 2 1
along_next s f c1 s1 c2 s2 bs ms true = refl
along_next s f c1 s1 c2 s2 bs ms false = refl

uncut_next : (s : Sheet) (i : ℕ) (c : Uncut) → (uncut_result s i c).next ≡ s.next + new_by_uncut c
uncut_next s i refused = omega arith
uncut_next s i lonely = refl
uncut_next s i (loop e) = refl
uncut_next s i (joint x y) = refl
uncut_next s i (two_faces u w) = refl
uncut_next s i (one_cycle u w) = refl
uncut_next s i (rings u w) = refl

pub next_after : (s : Sheet) (c : Command) → (result s c).next ≡ s.next + new_cells s c
unfolding result new_cells moved deleted glued_vertices glued_edges unglued edge_cut face_cut_at face_cut_along face_cut_round uncut_at
next_after s (create x) = refl
next_after s (move v p) = refl
next_after s (delete i) = refl
next_after s (glue_vertices a b) = refl
next_after s (glue_edges a b flag) = refl
next_after s (unglue i) = ap (λ (n : ℕ). s.next + n) (copies_count s.cells i (cell_at s i))
next_after s (cut_edge e q) = cut_next s e q (cell_at s e)
next_after s (cut_face_vertex f p) = refl
next_after s (cut_face_open f c1 s1 c2 s2 bs ms) = along_next s f c1 s1 c2 s2 bs ms (eqb c1 c2)
next_after s (cut_face_closed f bs ms) = refl
next_after s (uncut i) = uncut_next s i (uncut_case s i)

-- ---- 8: the ceilings
unchanged : (z : SheetSizes) → z ≡ changed_by z no_change
unchanged z =
    let p : z.cells ≡ z.cells + 0 - 0 = omega arith in
    let q : z.cycles ≡ z.cycles + 0 - 0 = omega arith in
    let r : z.steps ≡ z.steps + 0 - 0 = omega arith in
    let t : z.bends ≡ z.bends + 0 - 0 = omega arith in
    λ i. sized (p i) (q i) (r i) (t i)

-- a delete's result fits, and so does the drawing it was handed
delete_after : (s : Sheet) → Sound s → (i : ℕ) → ceilings (result s (delete i)).cells ≡ sizes_fit (sizes_after s (delete i))
unfolding sizes_after
delete_after s S i = true_of (ceilings (result s (delete i)).cells) (delete_fits s S i) ∙ sym (true_of (ceilings s.cells) S.fits)
    ∙ ap sizes_fit (unchanged (sizes_of s.cells))

pub sizes_after_lem : (s : Sheet) → Sound s → (c : Command) → Asked6 s c → ceilings (result s c).cells ≡ sizes_fit (sizes_after s c)
sizes_after_lem s S (create x) q = ap sizes_fit (create_sizes s x)
sizes_after_lem s S (move v p) q = ap sizes_fit (move_sizes s S v p q)
sizes_after_lem s S (delete i) q = delete_after s S i
sizes_after_lem s S (glue_vertices a b) q = ap sizes_fit (glue_sizes s S a b q)
sizes_after_lem s S (glue_edges a b flag) q = ap sizes_fit (glue_edges_sizes s S a b flag q)
sizes_after_lem s S (unglue i) q = ap sizes_fit (unglue_sizes s S i q)
sizes_after_lem s S (cut_edge e n) q = ap sizes_fit (cut_edge_sizes s S e n q)
sizes_after_lem s S (cut_face_vertex f p) q = ap sizes_fit (dot_sizes s S f p q)
sizes_after_lem s S (cut_face_open f c1 s1 c2 s2 bs ms) q = ap sizes_fit (along_sizes s S f c1 s1 c2 s2 bs ms q)
sizes_after_lem s S (cut_face_closed f bs ms) q = ap sizes_fit (round_sizes s S f bs ms q)
sizes_after_lem s S (uncut i) q = ap sizes_fit (uncut_sizes s S i q)
