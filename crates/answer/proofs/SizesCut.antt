-- The sizes of a cut's result before it is built: 0A to 0D. Assumes nothing.
use Prim.Native.Nat.{ℕ, suc, ◌+◌, ◌-◌, ◌/◌, ◌%◌, ◌<◌, min}
use native.Mathlib.Omega.{arith}
use mathlib.Core.Path.{◌≡◌, refl, sym, ap, ◌∙◌, subst}
use mathlib.Core.Bool.{Bool, true, false, not, ◌&&◌, ◌||◌, cond}
use mathlib.Core.List.{List, [], ◌∷◌, ◌++◌}
use mathlib.Core.Option.{Option, none, some}
use lib.ListN.{length, get_or, set, take, drop, take-append-drop, length-append, length-set, length-take, length-drop, length-map}
use lib.Seq.{get_or-set_other}
use lib.Dec.{T, eqb, ltb, leb, ltb→lt, leb→le}
use borrow.Author.Tests.{eqb-true, eqb-false}
use Rattle.coordinate.specs.declared.Position.{Position}
use Rattle.complex.specs.Lists.{is_empty, total, holds, places, one, rotated, without, chosen, distance}
use Rattle.complex.specs.Cells.{Halfedge, Cycle, lone, path, Figure, vertex, open_edge, closed_edge, face, Sheet, is_edge, is_face, cycles_of, steps_of, along}
use Rattle.complex.specs.Cells.{against, cell_at}
use Rattle.complex.specs.Sound.{step_count}
use Rattle.complex.specs.Decode.{cut_edge, cut_face_vertex, cut_face_open, cut_face_closed}
use Rattle.complex.specs.Edits.{rebuild, every_id, replaced, same_vertex, others, in_place_of}
use Rattle.complex.specs.Uses.{edge_use, step_use, uses_by}
use Rattle.complex.specs.Cut.{no_cycle, corner, stretch, remainder, split_in_two, bridged, face_cut_at, face_cut_along, face_cut_round, corner_exists, bends_before}
use Rattle.complex.specs.Cut.{bends_after, bends_round, in_two, cut_figure, edge_cut, cut_exists, cut_place}
use Rattle.complex.specs.Commands.{question4, question5, result}
use Rattle.answer.specs.Sizes.{sizes_of, Change, changed_by, alone_in, along_change, cut_change, change_of, sizes_after}
use Rattle.complex.proofs.Bools.{both}
use Rattle.complex.proofs.Keep.{Sound}
use Rattle.complex.proofs.Split.{length_rotated, is_face_lem}
use Rattle.complex.proofs.Sums.{total_append, total_set, total_left, total_but_one, length_left, length_but_one, chosen_set}
use Rattle.complex.proofs.Euler.{over_changed}
use Rattle.complex.proofs.Faces.{without_one}
use Rattle.complex.proofs.CutEdge.{round_place}
use Rattle.answer.proofs.Sizes.{Asked6, Comes, sums_sizes, rewired_sizes, no_step_more, none_used}

-- ---- a face with other cycles, and new cells
pub refaced_sizes : (s : Sheet) → Sound s → (f : ℕ) → T (is_face (cell_at s f)) → (ks' : List Cycle) (new : List Figure) (c : Change)
    → Comes (λ g. g (face (cycles_of (cell_at s f)))) (λ g. g (face ks') + total g new) c
    → sizes_of (rebuild every_id (replaced f (face ks')) new s).cells ≡ changed_by (sizes_of s.cells) c
refaced_sizes s S f is_f ks' new c k =
    sums_sizes s (rebuild every_id (replaced f (face ks')) new s) c (λ g. g (face (cycles_of (cell_at s f)))) (λ g. g (face ks') + total g new)
    (λ g. let a = over_changed g f (face ks') (face (cycles_of (cell_at s f))) new s S (is_face_lem s f is_f) in omega arith) k

-- ---- 0B
pub dot_sizes : (s : Sheet) → Sound s → (f : ℕ) (p : Position) → Asked6 s (cut_face_vertex f p)
    → sizes_of (result s (cut_face_vertex f p)).cells ≡ sizes_after s (cut_face_vertex f p)
unfolding question4 result face_cut_at sizes_after
dot_sizes s S f p q =
    let ks = cycles_of (cell_at s f) in
    let a = length-append ks (one (lone s.next)) in
    let b = total_append step_count ks (one (lone s.next)) in
    refaced_sizes s S f q.1 (ks ++ one (lone s.next)) (vertex p ∷ []) (change_of s (cut_face_vertex f p)) (omega arith)

-- ---- 0D
pub round_sizes : (s : Sheet) → Sound s → (f : ℕ) (bs : List Position) (ms : List ℕ) → Asked6 s (cut_face_closed f bs ms)
    → sizes_of (result s (cut_face_closed f bs ms)).cells ≡ sizes_after s (cut_face_closed f bs ms)
unfolding question4 question5 result face_cut_round sizes_after
round_sizes s S f bs ms q =
    let ks = cycles_of (cell_at s f) in
    let e = s.next in
    let there = (both (not (is_empty bs)) (places 0 ms (length ks)) q.2).1 in
    let a = length-append (without ms 0 ks) (one (path (one (along e)))) in
    let b = total_append step_count (without ms 0 ks) (one (path (one (along e)))) in
    let c = length_left no_cycle ms ks there in
    let d = total_left step_count no_cycle ms ks there in
    let n : length (chosen no_cycle ms ks) ≡ length ms = length-map ms _ in
    refaced_sizes s S f q.1 (without ms 0 ks ++ one (path (one (along e)))) (closed_edge bs ∷ face (path (one (against e)) ∷ chosen no_cycle ms ks) ∷ [])
    (change_of s (cut_face_closed f bs ms)) (omega arith)

-- ---- 0C
count_alone : (k : Cycle) → step_count k ≡ length (steps_of k) + alone_in k
count_alone (lone v) = refl
count_alone (path hs) = omega arith

pub parted_length : (s t : ℕ) (hs : List Halfedge) → length (stretch s t hs) + length (remainder s t hs) ≡ length hs
parted_length s t hs = sym (length-append (stretch s t hs) (remainder s t hs)) ∙ ap length (take-append-drop (distance (length hs) s t) (rotated s hs))
    ∙ length_rotated s hs

-- two cycles as one: round the first, along the new edge, round the second, and back
abbrev bridge_of : ℕ → ℕ → ℕ → List Halfedge → List Halfedge → Cycle
bridge_of e s1 s2 hs gs = path (rotated s1 hs ++ (along e ∷ (rotated s2 gs ++ one (against e))))

bridge_steps : (e s1 s2 : ℕ) (hs gs : List Halfedge) → step_count (bridge_of e s1 s2 hs gs) ≡ length hs + length gs + 2
bridge_steps e s1 s2 hs gs =
    let a = length-append (rotated s1 hs) (along e ∷ (rotated s2 gs ++ one (against e))) in
    let b = length-append (rotated s2 gs) (one (against e)) in
    let c = length_rotated s1 hs in
    let d = length_rotated s2 gs in
    omega arith

-- y in the place of one cycle, and another goes
one_for_two : (ks : List Cycle) (c1 c2 : ℕ) (y : Cycle) → c1 < length ks → c2 < length ks → (c1 ≡ c2 → ⊥)
    → (length (without (one c2) 0 (set ks c1 y)) + 1 ≡ length ks)
    × (total step_count (without (one c2) 0 (set ks c1 y)) + (step_count (get_or ks c1 no_cycle) + step_count (get_or ks c2 no_cycle))
    ≡ total step_count ks + step_count y)
one_for_two ks c1 c2 y l1 l2 ne =
    let a = length-set ks c1 y in
    let l : c2 < length (set ks c1 y) = omega arith in
    let b = length_but_one no_cycle c2 (set ks c1 y) l in
    let d = total_but_one step_count no_cycle c2 (set ks c1 y) l in
    let e = ap step_count (get_or-set_other ks c1 c2 y no_cycle (λ z. ne (sym z))) in
    let g = total_set step_count ks c1 y no_cycle l1 in
    (omega arith, omega arith)

module _ (s : Sheet) (S : Sound s) (f c1 s1 c2 s2 : ℕ) (bs : List Position) (ms : List ℕ) (is_f : T (is_face (cell_at s f)))
    (l1 : c1 < length (cycles_of (cell_at s f))) where
  abbrev ks : List Cycle
  ks = cycles_of (cell_at s f)

  abbrev k1 : Cycle
  k1 = get_or ks c1 no_cycle

  abbrev k2 : Cycle
  k2 = get_or ks c2 no_cycle

  -- one cycle: P e⁻ and Q e
  split_sizes : T (places 0 ms (length ks)) → T (not (holds c1 ms))
      → sizes_of (split_in_two s f c1 s1 s2 bs ms ks).cells ≡ changed_by (sizes_of s.cells) (along_change true k1 k2 (length bs))
  split_sizes there h =
      let P = stretch s1 s2 (steps_of k1) in
      let Q = remainder s1 s2 (steps_of k1) in
      let y = path (P ++ one (against s.next)) in
      let x = set ks c1 y in
      let there' : T (places 0 ms (length x)) = subst (λ (n : ℕ). T (places 0 ms n)) (sym (length-set ks c1 y)) there in
      let a = length-set ks c1 y in
      let b = length_left no_cycle ms x there' in
      let d = total_left step_count no_cycle ms x there' in
      let e = ap (total step_count) (chosen_set no_cycle ms ks c1 y h) in
      let g = total_set step_count ks c1 y no_cycle l1 in
      let i = count_alone k1 in
      let j = length-append P (one (against s.next)) in
      let k = length-append Q (one (along s.next)) in
      let l = parted_length s1 s2 (steps_of k1) in
      let m : length (chosen no_cycle ms ks) ≡ length ms = length-map ms _ in
      refaced_sizes s S f is_f (without ms 0 x)
      (open_edge (corner (cell_at s) k1 s1) (corner (cell_at s) k1 s2) bs ∷ face (path (Q ++ one (along s.next)) ∷ chosen no_cycle ms ks) ∷ [])
      (along_change true k1 k2 (length bs)) (omega arith)

  -- two cycles
  bridge_sizes : c2 < length ks → (c1 ≡ c2 → ⊥) → sizes_of (bridged s f c1 s1 c2 s2 bs ks).cells
      ≡ changed_by (sizes_of s.cells) (along_change false k1 k2 (length bs))
  bridge_sizes l2 ne =
      let y = bridge_of s.next s1 s2 (steps_of k1) (steps_of k2) in
      let a = one_for_two ks c1 c2 y l1 l2 ne in
      let b = bridge_steps s.next s1 s2 (steps_of k1) (steps_of k2) in
      let i = count_alone k1 in
      let j = count_alone k2 in
      refaced_sizes s S f is_f (without (one c2) 0 (set ks c1 y)) (open_edge (corner (cell_at s) k1 s1) (corner (cell_at s) k2 s2) bs ∷ [])
      (along_change false k1 k2 (length bs)) (omega arith)

pub along_sizes : (s : Sheet) → Sound s → (f c1 s1 c2 s2 : ℕ) (bs : List Position) (ms : List ℕ) → Asked6 s (cut_face_open f c1 s1 c2 s2 bs ms)
    → sizes_of (result s (cut_face_open f c1 s1 c2 s2 bs ms)).cells ≡ sizes_after s (cut_face_open f c1 s1 c2 s2 bs ms)
unfolding question4 question5 result face_cut_along sizes_after
along_sizes s S f c1 s1 c2 s2 bs ms q =
    let l1 = both (ltb c1 (length ks)) _ q.2 in
    let l2 = both (ltb c2 (length ks)) _ l1.1 in
    let d = both (corner_exists (cell_at s) (get_or ks c1 no_cycle) s1) _ l2.1 in
    let e = both (corner_exists (cell_at s) (get_or ks c2 no_cycle) s2) _ d.1 in
    go (ltb→lt c1 (length ks) l1.0) (ltb→lt c2 (length ks) l2.0) (eqb c1 c2) refl e.1
  where
    ks : List Cycle
    ks = cycles_of (cell_at s f)

    go : c1 < length ks → c2 < length ks → (b : Bool) → eqb c1 c2 ≡ b → T (cond b (places 0 ms (length ks) && not (holds c1 ms)) (is_empty ms))
        → sizes_of (cond b (split_in_two s f c1 s1 s2 bs ms ks) (bridged s f c1 s1 c2 s2 bs ks)).cells
        ≡ changed_by (sizes_of s.cells) (along_change b (get_or ks c1 no_cycle) (get_or ks c2 no_cycle) (length bs))
    go l1 l2 true e t = let b = both (places 0 ms (length ks)) (not (holds c1 ms)) t in split_sizes s S f c1 s1 c2 s2 bs ms q.1 l1 b.0 b.1
    go l1 l2 false e t = bridge_sizes s S f c1 s1 c2 s2 bs ms q.1 l1 l2 (eqb-false c1 c2 e)

-- ---- 0A
-- the bends of the two parts, and those round a closed edge: all but a bend that is cut at
parts_bends : (bs : List Position) (q : ℕ) → T (cond (eqb (q % 2) 1 || false) (ltb (q / 2) (length bs)) (leb (q / 2) (length bs)))
    → length (bends_before bs q) + length (bends_after bs q) + q % 2 ≡ length bs
parts_bends bs q t =
    let a = length-take (q / 2) bs in
    let b = length-drop (q / 2 + q % 2) bs in
    go (eqb (q % 2) 1) refl t a b
  where
    go : (x : Bool) → eqb (q % 2) 1 ≡ x → T (cond (x || false) (ltb (q / 2) (length bs)) (leb (q / 2) (length bs)))
        → length (bends_before bs q) ≡ min (q / 2) (length bs) → length (bends_after bs q) ≡ length bs - (q / 2 + q % 2)
        → length (bends_before bs q) + length (bends_after bs q) + q % 2 ≡ length bs
    go true e t a b = let z = eqb-true (q % 2) 1 e in let l = ltb→lt (q / 2) (length bs) t in omega arith
    go false e t a b = let z = eqb-false (q % 2) 1 e in let l = leb→le (q / 2) (length bs) t in omega arith

round_bends : (bs : List Position) (q : ℕ) → q / 2 < length bs → length (bends_round bs q) + q % 2 ≡ length bs
round_bends bs q l =
    let a = length-append (drop (q / 2 + 1) bs) (take (q / 2 + (1 - q % 2)) bs) in
    let b = length-take (q / 2 + (1 - q % 2)) bs in
    let c = length-drop (q / 2 + 1) bs in
    omega arith

-- a step of e becomes two
two_fair : (e a b : ℕ) (h : Halfedge) → length (in_two e a b h) + 0 ≡ 1 + edge_use e h
two_fair e a b h = go (eqb e h.edge) h.backward
  where
    go : (x y : Bool) → length (cond x (cond y (against b ∷ against a ∷ []) (along a ∷ along b ∷ [])) (one h)) + 0 ≡ 1 + cond x 1 0
    go true true = refl
    go true false = refl
    go false y = refl

module _ (s : Sheet) (S : Sound s) (e q : ℕ) where
  figure_cut : (o : Option Figure) → cell_at s e ≡ o → T (is_edge o) → T (cut_exists o q)
      → sizes_of (cut_figure s e q o).cells ≡ changed_by (sizes_of s.cells) (cut_change (uses_by (step_use e) s.cells) q o)
  figure_cut none at k x = absurd k
  figure_cut (some (vertex p)) at k x = absurd k
  figure_cut (some (open_edge a b bs)) at k x =
      let n = parts_bends bs q x in
      let z = none_used s.cells in
      let v = s.next in
      rewired_sizes same_vertex (in_two e (suc v) (suc (suc v))) no_step_more (edge_use e) (two_fair e (suc v) (suc (suc v))) s (others e) (one (open_edge a b bs))
      (vertex (cut_place (cell_at s) (some (open_edge a b bs)) q) ∷ open_edge a v (bends_before bs q) ∷ open_edge v b (bends_after bs q) ∷ [])
      (without_one e (open_edge a b bs) s S at)
      (cut_change (uses_by (step_use e) s.cells) q (some (open_edge a b bs))) (omega arith)
  figure_cut (some (closed_edge bs)) at k x =
      let n = round_bends bs q (round_place bs q (eqb (q % 2) 1) x) in
      let v = s.next in
      rewired_sizes same_vertex (in_place_of e (suc v) false) no_step_more no_step_more (λ h. refl) s (others e) (one (closed_edge bs))
      (vertex (cut_place (cell_at s) (some (closed_edge bs)) q) ∷ open_edge v v (bends_round bs q) ∷ []) (without_one e (closed_edge bs) s S at)
      (cut_change (uses_by (step_use e) s.cells) q (some (closed_edge bs))) (omega arith)
  figure_cut (some (face ks)) at k x = absurd k

  pub cut_edge_sizes : Asked6 s (cut_edge e q) → sizes_of (result s (cut_edge e q)).cells ≡ sizes_after s (cut_edge e q)
  unfolding question4 question5 result edge_cut sizes_after
  cut_edge_sizes p = figure_cut (cell_at s e) refl p.1 p.2
