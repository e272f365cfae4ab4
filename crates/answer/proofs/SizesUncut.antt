-- The sizes of an uncut's result before it is built: 0E, by its cases. Assumes nothing.
use Prim.Native.Nat.{ℕ, zero, suc, ◌+◌, ◌-◌, ◌<◌}
use native.Mathlib.Omega.{arith}
use mathlib.Core.Path.{◌≡◌, refl, sym, ap, ◌∙◌, subst}
use mathlib.Core.Logic.{inl, inr}
use mathlib.Core.Bool.{Bool, true, false, ◌&&◌, cond}
use mathlib.Core.List.{List, [], ◌∷◌, ◌++◌, reverse}
use mathlib.Core.Option.{some}
use lib.ListN.{length, get_or, set, length-append, length-reverse}
use lib.Dec.{T, eqb, leb}
use borrow.Author.Tests.{ne_eqb, eqb-true, eqb-false, leb-true, leb-false}
use Rattle.coordinate.specs.declared.Position.{Position}
use Rattle.complex.specs.Lists.{total, one, without}
use Rattle.complex.specs.Cells.{Halfedge, Cycle, lone, path, Figure, vertex, open_edge, closed_edge, face, Sheet, Look, is_open, is_closed, is_edge, start_of, end_of}
use Rattle.complex.specs.Cells.{bends_of, cycles_of, position_of, steps_of, same, head_of, cell_at}
use Rattle.complex.specs.Sound.{Walk, cycle_ok, step_count, cycles_in, steps_in, bends_in}
use Rattle.complex.specs.Decode.{uncut}
use Rattle.complex.specs.Edits.{same_vertex, in_place_of, others, neither}
use Rattle.complex.specs.Uses.{ends_at, edge_use, lone_use, uses_by, Use, uses_of}
use Rattle.complex.specs.Cut.{no_cycle, no_step}
use Rattle.complex.specs.Uncut.{Uncut, lonely, loop, joint, two_faces, one_cycle, rings, opposite, without_lone, in_one, bends_along, joined, path_or, cycle_of_use}
use Rattle.complex.specs.Uncut.{following, following_to, uncut_case, uncut_result, uncut_at}
use Rattle.complex.specs.Commands.{result}
use Rattle.answer.specs.Sizes.{sizes_of, new_by_uncut, new_cells, changed_by, alone_left, cell_bends, uncut_change, change_of, sizes_after}
use Rattle.complex.proofs.Walks.{Ring, joins_cases}
use Rattle.complex.proofs.Keep.{Sound, same_eq}
use Rattle.complex.proofs.Split.{all_get_d, apart}
use Rattle.complex.proofs.Sums.{total_append, total_set, total_but_one}
use Rattle.complex.proofs.UnglueVertex.{open_at}
use Rattle.complex.proofs.UncutFaces.{Placed, placed_use, real_u, real_w, following_length, u_only, w_only, two_less, merged_cycles, rings_cycles}
use Rattle.complex.proofs.UncutCycle.{Only, stretch_length, stretches_length, w_lt, distinct, Y_is, one_less, more_cycles_lem}
use Rattle.complex.proofs.UncutVertex.{cycles_less, steps_less, lonely_less, lonely_same, real_ends, loop_gone, joint_gone}
use Rattle.complex.proofs.Uncut.{Holds, is_lonely, is_loop, is_joint, is_two, is_one_lem, is_rings, uncut_holds}
use Rattle.answer.proofs.Sizes.{Asked6, each, shifts_sizes, sums_sizes, rewired_sizes, no_step_more, none_used}

-- ---- cycles and their counts
-- nothing left is a lone vertex
left_count : (v : ℕ) (hs : List Halfedge) → step_count (path_or v hs) ≡ length hs + alone_left (length hs)
left_count v [] = refl
left_count v (h ∷ hs) = rw (ne_eqb (suc (length hs)) 0 (λ e. omega arith)) (omega arith)

-- a cycle with a step is a path
step_count_lem : (k : Cycle) (n : ℕ) → n < length (steps_of k) → step_count k ≡ length (steps_of k)
step_count_lem (lone v) n l = absurd (omega arith)
step_count_lem (path hs) n l = refl

-- ---- a ring in which a closed edge has one step
walk_open : (look : Look) (u : ℕ) (hs : List Halfedge) (w n : ℕ) → Walk look u hs w → n < length hs → T (is_open (look (get_or hs n no_step).edge))
walk_open look u [] w n k l = absurd (omega arith)
walk_open look u (h ∷ hs) w zero k l = k.0
walk_open look u (h ∷ hs) w (suc n) k l = walk_open look (head_of look h) hs w n k.2 (omega arith)

ring_same : (look : Look) (hs : List Halfedge) (m n : ℕ) → Ring look hs → m < length hs → n < length hs → get_or hs m no_step ≡ get_or hs n no_step
ring_same look [] m n r k l = absurd r
ring_same look (h ∷ hs) m n r k l = sym (first m k) ∙ first n l
  where
    first : (j : ℕ) → j < length (h ∷ hs) → h ≡ get_or (h ∷ hs) j no_step
    first zero l = refl
    first (suc j) l = same_eq h (get_or hs j no_step) (all_get_d (same h) hs j no_step r.1 (omega arith))

ring_one : (s : Sheet) → Sound s → (e : ℕ) → T (is_closed (cell_at s e)) → (x : Use) → Placed (cell_at s) e x
    → ((j : ℕ) → j < length (cycle_of_use (cell_at s) x) → (j ≡ x.step → ⊥) → (get_or (cycle_of_use (cell_at s) x) j no_step).edge ≡ e → ⊥)
    → length (cycle_of_use (cell_at s) x) ≡ 1
ring_one s S e c x r only = go (leb (length (cycle_of_use (cell_at s) x)) 1) refl
  where
    -- all its steps are of e
    edges : (k : Cycle) → T (cycle_ok (cell_at s) k) → x.step < length (steps_of k) → (get_or (steps_of k) x.step no_step).edge ≡ e → (j : ℕ)
        → j < length (steps_of k) → (get_or (steps_of k) j no_step).edge ≡ e
    edges (lone v) t l z j m = absurd (omega arith)
    edges (path hs) t l z j m = elim (joins_cases (cell_at s) hs t) [
      | inl w ↦ absurd (apart (cell_at s e) c (subst (λ (i : ℕ). T (is_open (cell_at s i))) z (walk_open (cell_at s) w.1.0 hs w.1.0 x.step w.1.1 l)))
      | inr g ↦ ap (λ (h : Halfedge). h.edge) (ring_same (cell_at s) hs j x.step g m l) ∙ z
    ]

    of_e : (j : ℕ) → j < length (cycle_of_use (cell_at s) x) → (get_or (cycle_of_use (cell_at s) x) j no_step).edge ≡ e
    of_e =
        edges (get_or (cycles_of (cell_at s x.face)) x.cycle no_cycle)
        (all_get_d (cycle_ok (cell_at s)) (cycles_of (cell_at s x.face)) x.cycle no_cycle
        (S.figures x.face (face (cycles_of (cell_at s x.face))) r.0) r.1)
        r.2 (ap (λ (h : Halfedge). h.edge) r.3 ∙ r.4)

    other : 1 < length (cycle_of_use (cell_at s) x) → (b : Bool) → eqb x.step 0 ≡ b → ⊥
    other l true q = let z = eqb-true x.step 0 q in only 1 (omega arith) (λ y. omega arith) (of_e 1 (omega arith))
    other l false q = only 0 (omega arith) (λ y. eqb-false x.step 0 q (sym y)) (of_e 0 (omega arith))

    go : (b : Bool) → leb (length (cycle_of_use (cell_at s) x)) 1 ≡ b → length (cycle_of_use (cell_at s) x) ≡ 1
    go true q = let a = leb-true (length (cycle_of_use (cell_at s) x)) 1 q in let b = r.2 in omega arith
    go false q = absurd (other (leb-false (length (cycle_of_use (cell_at s) x)) 1 q) (eqb x.step 0) refl)

-- ---- the edge that two become
along_length : (look : Look) (h : Halfedge) → length (bends_along look h) ≡ cell_bends (look h.edge)
along_length look h = go h.backward
  where
    go : (b : Bool) → length (cond b (reverse (bends_of (look h.edge))) (bends_of (look h.edge))) ≡ cell_bends (look h.edge)
    go true = length-reverse (bends_of (look h.edge))
    go false = refl

joined_counts : (look : Look) (p : Position) (x y : Halfedge)
    → (cycles_in (joined look p x y) ≡ 0) × (steps_in (joined look p x y) ≡ 0)
    × (bends_in (joined look p x y) ≡ cell_bends (look x.edge) + cell_bends (look y.edge) + 1)
joined_counts look p x y = go x.backward
  where
    bs : List Position
    bs = bends_along look y

    go : (b : Bool) → let t = cond b (open_edge (start_of (look x.edge)) (head_of look y) (bends_of (look x.edge) ++ (p ∷ bs)))
        (open_edge (head_of look y) (end_of (look x.edge)) (reverse bs ++ (p ∷ bends_of (look x.edge)))) in
        (cycles_in t ≡ 0) × (steps_in t ≡ 0) × (bends_in t ≡ cell_bends (look x.edge) + cell_bends (look y.edge) + 1)
    go true = let a = length-append (bends_of (look x.edge)) (p ∷ bs) in let b = along_length look y in (refl, refl, omega arith)
    go false = let a = length-append (reverse bs) (p ∷ bends_of (look x.edge)) in let b = along_length look y in let c = length-reverse bs in
        (refl, refl, omega arith)

-- a step of b goes
one_fair : (a b n : ℕ) (h : Halfedge) → length (in_one a b n h) + edge_use b h ≡ 1 + 0
one_fair a b n h = go (eqb b h.edge)
  where
    go : (x : Bool) → length (cond x [] (one (cond (eqb a h.edge) (record { edge = n; backward = h.backward }) h))) + cond x 1 0 ≡ 1 + 0
    go true = refl
    go false = refl

-- ---- the cases
module _ (s : Sheet) (S : Sound s) (i : ℕ) where
  abbrev Right : Uncut → Type 0
  Right c = sizes_of (uncut_result s i c).cells ≡ changed_by (sizes_of s.cells) (uncut_change s i c)

  lonely_sizes : (p : Position) → cell_at s i ≡ some (vertex p) → ends_at s.cells i ≡ [] → uses_by (lone_use i) s.cells ≡ 1 → Right lonely
  lonely_sizes p at e n =
      let a = lonely_same s S i p at e each (λ j t. refl) in
      let b = lonely_less s S i p at e cycles_in cycles in
      let c = lonely_less s S i p at e steps_in steps in
      let d = lonely_same s S i p at e bends_in bends in
      shifts_sizes s (uncut_result s i lonely) (uncut_change s i lonely) (omega arith)
    where
      cycles : (j : ℕ) (t : Figure) → cycles_in (without_lone i j t) + total (lone_use i) (cycles_of (some t)) ≡ cycles_in t
      cycles j (vertex r) = refl
      cycles j (open_edge a b bs) = refl
      cycles j (closed_edge bs) = refl
      cycles j (face ks) = cycles_less s S i p at e ks

      steps : (j : ℕ) (t : Figure) → steps_in (without_lone i j t) + total (lone_use i) (cycles_of (some t)) ≡ steps_in t
      steps j (vertex r) = refl
      steps j (open_edge a b bs) = refl
      steps j (closed_edge bs) = refl
      steps j (face ks) = steps_less s S i p at e ks

      bends : (j : ℕ) (t : Figure) → bends_in (without_lone i j t) ≡ bends_in t
      bends j (vertex r) = refl
      bends j (open_edge a b bs) = refl
      bends j (closed_edge bs) = refl
      bends j (face ks) = refl

  two_sizes : (a b : ℕ) (bs : List Position) → cell_at s i ≡ some (open_edge a b bs) → (u w : Use) → uses_of s.cells i ≡ u ∷ w ∷ []
      → T (opposite u w) → (u.face ≡ w.face → ⊥) → Right (two_faces u w)
  two_sizes a b bs at u w q k n =
      let E : T (is_edge (cell_at s i)) = rw at tt in
      let ru = placed_use (cell_at s) i u (real_u s S i E u w q) in
      let rw' = placed_use (cell_at s) i w (real_w s S i E u w q) in
      let ks1 = cycles_of (cell_at s u.face) in
      let ks2 = cycles_of (cell_at s w.face) in
      let left = following (cell_at s) u ++ following (cell_at s) w in
      let m = path_or (head_of (cell_at s) u.halfedge) left in
      let ks' = set ks1 u.cycle m ++ without (one w.cycle) 0 ks2 in
      let cycles = merged_cycles s S i u w q E k n in
      let s1 = total_append step_count (set ks1 u.cycle m) (without (one w.cycle) 0 ks2) in
      let s2 = total_set step_count ks1 u.cycle m no_cycle ru.1 in
      let s3 = total_but_one step_count no_cycle w.cycle ks2 rw'.1 in
      let s4 = step_count_lem (get_or ks1 u.cycle no_cycle) u.step ru.2 in
      let s5 = step_count_lem (get_or ks2 w.cycle no_cycle) w.step rw'.2 in
      let s6 = following_length (cycle_of_use (cell_at s) u) u.step ru.2 in
      let s7 = following_length (cycle_of_use (cell_at s) w) w.step rw'.2 in
      let s8 = length-append (following (cell_at s) u) (following (cell_at s) w) in
      let s9 : length left ≡ length (cycle_of_use (cell_at s) u) + length (cycle_of_use (cell_at s) w) - 2 = omega arith in
      let s10 = left_count (head_of (cell_at s) u.halfedge) left ∙ ap (λ (x : ℕ). length left + alone_left x) s9 in
      let z = ap cell_bends at in
      sums_sizes s (uncut_result s i (two_faces u w)) (uncut_change s i (two_faces u w)) (λ g. g (face ks1) + g (face ks2) + g (open_edge a b bs))
      (λ g. g (face ks')) (λ g. let h = two_less s S i u w q E k n g (open_edge a b bs) at ks' in omega arith) (omega arith)

  ring_sizes : (bs : List Position) → cell_at s i ≡ some (closed_edge bs) → (u w : Use) → uses_of s.cells i ≡ u ∷ w ∷ []
      → T (opposite u w) → (u.face ≡ w.face → ⊥) → Right (rings u w)
  ring_sizes bs at u w q k n =
      let E : T (is_edge (cell_at s i)) = rw at tt in
      let C : T (is_closed (cell_at s i)) = rw at tt in
      let ru = placed_use (cell_at s) i u (real_u s S i E u w q) in
      let rw' = placed_use (cell_at s) i w (real_w s S i E u w q) in
      let ks1 = cycles_of (cell_at s u.face) in
      let ks2 = cycles_of (cell_at s w.face) in
      let ks' = without (one u.cycle) 0 ks1 ++ without (one w.cycle) 0 ks2 in
      let cycles = rings_cycles s S i u w q E k n in
      let s1 = total_append step_count (without (one u.cycle) 0 ks1) (without (one w.cycle) 0 ks2) in
      let s2 = total_but_one step_count no_cycle u.cycle ks1 ru.1 in
      let s3 = total_but_one step_count no_cycle w.cycle ks2 rw'.1 in
      let s4 = step_count_lem (get_or ks1 u.cycle no_cycle) u.step ru.2 in
      let s5 = step_count_lem (get_or ks2 w.cycle no_cycle) w.step rw'.2 in
      let s6 = ring_one s S i C u ru (u_only s S i u w q E k n) in
      let s7 = ring_one s S i C w rw' (w_only s S i u w q E k n) in
      let z = ap cell_bends at in
      sums_sizes s (uncut_result s i (rings u w)) (uncut_change s i (rings u w)) (λ g. g (face ks1) + g (face ks2) + g (closed_edge bs)) (λ g. g (face ks'))
      (λ g. let h = two_less s S i u w q E k n g (closed_edge bs) at ks' in omega arith) (omega arith)

  one_sizes : (a b : ℕ) (bs : List Position) → cell_at s i ≡ some (open_edge a b bs) → (u w : Use) → Placed (cell_at s) i u → Placed (cell_at s) i w
      → Only s i u w → T (opposite u w) → u.face ≡ w.face → u.cycle ≡ w.cycle → Right (one_cycle u w)
  one_sizes a b bs at u w ru rw' L k ef ec =
      let E : T (is_edge (cell_at s i)) = rw at tt in
      let o : T (is_open (cell_at s i)) = rw at tt in
      let ks = cycles_of (cell_at s u.face) in
      let hs = cycle_of_use (cell_at s) u in
      let X = following_to (cell_at s) u w in
      let Y = following_to (cell_at s) w u in
      let x = path_or (head_of (cell_at s) u.halfedge) X in
      let y = path_or (head_of (cell_at s) w.halfedge) Y in
      let ks' = set ks u.cycle x ++ one y in
      let d = distinct s S i E o u w ru rw' L k ef ec in
      let lw = w_lt s S i E o u w ru rw' L k ef ec in
      let cycles = more_cycles_lem s S i E o u w ru rw' L k ef ec in
      let s1 = total_append step_count (set ks u.cycle x) (one y) in
      let s2 = total_set step_count ks u.cycle x no_cycle ru.1 in
      let s3 = step_count_lem (get_or ks u.cycle no_cycle) u.step ru.2 in
      let s4 = stretches_length hs u.step w.step ru.2 lw d in
      let s5 = ap length (Y_is s S i E o u w ru rw' L k ef ec) in
      let s6 = left_count (head_of (cell_at s) u.halfedge) X ∙ ap (λ (n : ℕ). length X + alone_left n) (stretch_length hs u.step w.step ru.2 lw d) in
      let s7 = left_count (head_of (cell_at s) w.halfedge) Y
      ∙ ap (λ (n : ℕ). length Y + alone_left n) (s5 ∙ stretch_length hs w.step u.step lw ru.2 (λ z. d (sym z))) in
      let z = ap cell_bends at in
      sums_sizes s (uncut_result s i (one_cycle u w)) (uncut_change s i (one_cycle u w)) (λ g. g (face ks) + g (open_edge a b bs)) (λ g. g (face ks'))
      (λ g. let h = one_less s S i E o u w ru rw' L k ef ec g (open_edge a b bs) at in omega arith) (omega arith)

  case_sizes : (c : Uncut) → Holds s i c → Right c
  case_sizes c (is_lonely p at e n) = lonely_sizes p at e n
  case_sizes c (is_loop p at x y e n k z) =
      let o = open_at (cell_at s) x.edge (real_ends s S i p at x y e n).0.0 in
      let t = open_edge o.0 o.1 o.2 in
      let b = ap cell_bends o.3 in
      rewired_sizes same_vertex (in_place_of x.edge s.next false) no_step_more no_step_more (λ h. refl) s (neither i x.edge) (vertex p ∷ t ∷ [])
      (closed_edge (position_of (cell_at s i) ∷ bends_of (cell_at s x.edge)) ∷ []) (loop_gone s S i p at x y e n k z t o.3) (uncut_change s i (loop x.edge))
      (omega arith)
  case_sizes c (is_joint p at x y e n k z) =
      let o = open_at (cell_at s) x.edge (real_ends s S i p at x y e n).0.0 in
      let o' = open_at (cell_at s) y.edge (real_ends s S i p at x y e n).1.0.0 in
      let t = open_edge o.0 o.1 o.2 in
      let t' = open_edge o'.0 o'.1 o'.2 in
      let j = joined_counts (cell_at s) (position_of (cell_at s i)) x y in
      let b = ap cell_bends o.3 in
      let b' = ap cell_bends o'.3 in
      let d = none_used s.cells in
      rewired_sizes same_vertex (in_one x.edge y.edge s.next) (edge_use y.edge) no_step_more (one_fair x.edge y.edge s.next) s
      (λ (m : ℕ). others i m && neither x.edge y.edge m) (vertex p ∷ t ∷ t' ∷ [])
      (joined (cell_at s) (position_of (cell_at s i)) x y ∷ []) (joint_gone s S i p at x y e n k z t t' o.3 o'.3) (uncut_change s i (joint x y)) (omega arith)
  case_sizes c (is_two a b bs at u w q k n) = two_sizes a b bs at u w q k n
  case_sizes c (is_one_lem a b bs at u w ru rw' L k ef ec) = one_sizes a b bs at u w ru rw' L k ef ec
  case_sizes c (is_rings bs at u w q k n) = ring_sizes bs at u w q k n

  pub uncut_sizes : Asked6 s (uncut i) → sizes_of (result s (uncut i)).cells ≡ sizes_after s (uncut i)
  unfolding result uncut_at sizes_after
  uncut_sizes q = case_sizes (uncut_case s i) (uncut_holds s S i q.3)

-- by a case that is known
module _ (s : Sheet) (i : ℕ) (k : Uncut) (e : uncut_case s i ≡ k) where
  pub uncut_new : new_cells s (uncut i) ≡ new_by_uncut k
  unfolding new_cells
  uncut_new = ap new_by_uncut e

  pub uncut_change_lem : change_of s (uncut i) ≡ uncut_change s i k
  unfolding change_of
  uncut_change_lem = ap (uncut_change s i) e
