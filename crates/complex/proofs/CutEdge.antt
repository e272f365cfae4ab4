-- 0A: soundness and shift. Assumes nothing.
use Prim.Native.Nat.{ℕ, zero, suc, ◌+◌, ◌-◌, ◌*◌, ◌/◌, ◌%◌, ◌≤◌, ◌<◌}
use native.Mathlib.Omega.{arith}
use mathlib.Core.Path.{◌≡◌, refl, sym, ap, ◌∙◌, subst}
use mathlib.Core.Logic.{◌⊎◌, inl, inr}
use mathlib.Core.Bool.{Bool, true, false, not, ◌&&◌, ◌||◌, cond, or-true}
use mathlib.Core.List.{List, [], ◌∷◌, ◌++◌, map}
use mathlib.Core.Option.{Option, none, some}
use lib.ListN.{length, get_or, take, drop, length-append, length-take}
use lib.Dec.{T, eqb, ltb, leb, eqb→eq, ltb→lt, leb→le}
use borrow.Author.Tests.{eq-eqb, ne_eqb, eqb-true, eqb-false}
use Rattle.number.specs.Readers.{spread}
use Rattle.coordinate.specs.declared.Position.{Position}
use Rattle.coordinate.specs.Bounds.{within, in_bounds, middle}
use Rattle.complex.specs.Lists.{all, is_empty, one, total}
use Rattle.complex.specs.Cells.{Halfedge, Cycle, lone, path, Figure, vertex, open_edge, closed_edge, face, LiveCell, Sheet, origin, Look, lookup, is_vertex}
use Rattle.complex.specs.Cells.{is_open, is_closed, is_edge, start_of, end_of, bends_of, position_of, along, against, same, tail_of, head_of, cell_at}
use Rattle.complex.specs.Sound.{Walk, ids_end, cycle_ok, figure_ok, ceilings, joins}
use Rattle.complex.specs.Decode.{Command, cut_edge}
use Rattle.complex.specs.Edits.{numbered, rebuild, rewired, same_vertex, others, in_place_of}
use Rattle.complex.specs.Cut.{points, cut_place, bends_before, bends_after, bends_round, in_two, cut_figure, edge_cut, cut_exists}
use Rattle.complex.specs.Commands.{question4, question5, result}
use Rattle.complex.proofs.Gains.{gain, loss, Even, Shift, shift}
use Rattle.complex.proofs.Bools.{truth, true_of, either, both, pair, cases, all_append}
use Rattle.complex.proofs.Walks.{walk_append, Round, Ring, Some, round_joins}
use Rattle.complex.proofs.Keep.{Sound, Look', same_eq}
use Rattle.complex.proofs.Passes.{Passes}
use Rattle.complex.proofs.Adds.{new_at}
use Rattle.complex.proofs.Split.{all_get_d, apart}
use Rattle.complex.proofs.Euler.{Balanced}
use Rattle.complex.proofs.Faces.{gain_rewired, loss_rewired, vertex_at}
use Rattle.complex.proofs.Edges.{swapped, left_vertex, swapped_sound, swapped_over, stays_one, becomes}
use Rattle.coordinate.proofs.Within.{middle_within}

-- ---- positions
module _ {A : Type 0} (p : A → Bool) where
  pub all_take : (n : ℕ) (xs : List A) → T (all p xs) → T (all p (take n xs))
  all_take zero xs t = tt
  all_take (suc n) [] t = tt
  all_take (suc n) (x ∷ xs) t = let b = both (p x) (all p xs) t in pair (p x) (all p (take n xs)) b.0 (all_take n xs b.1)

  pub all_drop : (n : ℕ) (xs : List A) → T (all p xs) → T (all p (drop n xs))
  all_drop zero xs t = t
  all_drop (suc n) [] t = tt
  all_drop (suc n) (x ∷ xs) t = all_drop n xs (both (p x) (all p xs) t).1

-- a closed edge is cut at a bend or after one
pub round_place : (bs : List Position) (q : ℕ) (b : Bool) → T (cond (b || true) (ltb (q / 2) (length bs)) (leb (q / 2) (length bs))) → q / 2 < length bs
round_place bs q true t = ltb→lt (q / 2) (length bs) t
round_place bs q false t = ltb→lt (q / 2) (length bs) t

-- a bend that is there, or the middle of a segment that is there
place_ok : (ps bs : List Position) (q : ℕ) (b : Bool) → T (all within ps) → T (all within bs) → (b ≡ true → q / 2 < length bs)
    → (b ≡ false → q / 2 + 1 < length ps)
    → T (within (cond b (get_or bs (q / 2) origin) (middle (get_or ps (q / 2) origin) (get_or ps (q / 2 + 1) origin))))
place_ok ps bs q true P B h k = all_get_d within bs (q / 2) origin B (h refl)
place_ok ps bs q false P B h k =
    let l = k refl in
    middle_within (get_or ps (q / 2) origin) (get_or ps (q / 2 + 1) origin) (all_get_d within ps (q / 2) origin P (omega arith))
    (all_get_d within ps (q / 2 + 1) origin P l)

-- ---- new cells' ids
second : (n : ℕ) (t u : Figure) (ts : List Figure) → lookup (numbered n (t ∷ u ∷ ts)) (suc n) ≡ some u
second n t u ts = rw (ne_eqb n (suc n) (λ e. omega arith), eq-eqb (suc n) (suc n) refl)

third : (n : ℕ) (t u v : Figure) (ts : List Figure) → lookup (numbered n (t ∷ u ∷ v ∷ ts)) (suc (suc n)) ≡ some v
third n t u v ts = rw (ne_eqb n (suc (suc n)) (λ e. omega arith), ne_eqb (suc n) (suc (suc n)) (λ e. omega arith), eq-eqb (suc (suc n)) (suc (suc n)) refl)

first : (n : ℕ) (t : Figure) (ts : List Figure) → lookup (numbered n (t ∷ ts)) n ≡ some t
first n t ts = rw (eq-eqb n n refl)

-- ---- an open edge
module _ (s : Sheet) (S : Sound s) (e q a b : ℕ) (bs : List Position) (at : cell_at s e ≡ some (open_edge a b bs))
    (ex : T (cut_exists (some (open_edge a b bs)) q)) where
  abbrev v : ℕ
  v = s.next

  abbrev place : Position
  place = cut_place (cell_at s) (some (open_edge a b bs)) q

  abbrev new : List Figure
  new = vertex place ∷ open_edge a v (bends_before bs q) ∷ open_edge v b (bends_after bs q) ∷ []

  abbrev σ : Halfedge → List Halfedge
  σ = in_two e (suc v) (suc (suc v))

  E : T (is_edge (cell_at s e))
  E = rw at tt

  abbrev look' : Look
  look' = swapped s S e E σ new

  at_v : look' v ≡ some (vertex place)
  at_v = new_at (others e) (rewired same_vertex σ) new s S v (omega arith)
      ∙ first v (vertex place) (open_edge a v (bends_before bs q) ∷ open_edge v b (bends_after bs q) ∷ [])

  at_a : look' (suc v) ≡ some (open_edge a v (bends_before bs q))
  at_a = new_at (others e) (rewired same_vertex σ) new s S (suc v) (omega arith) ∙ second v (vertex place) (open_edge a v (bends_before bs q))
      (open_edge v b (bends_after bs q) ∷ [])

  at_b : look' (suc (suc v)) ≡ some (open_edge v b (bends_after bs q))
  at_b = new_at (others e) (rewired same_vertex σ) new s S (suc (suc v)) (omega arith) ∙ third v (vertex place) (open_edge a v (bends_before bs q))
      (open_edge v b (bends_after bs q)) []

  ok : T (is_vertex (cell_at s a)) × T (is_vertex (cell_at s b)) × T (all within bs)
  ok =
      let x = both (is_vertex (cell_at s a)) (is_vertex (cell_at s b) && all within bs) (S.figures e (open_edge a b bs) at) in
      let y = both (is_vertex (cell_at s b)) (all within bs) x.1 in
      (x.0, y.0, y.1)

  position_ok : (u : ℕ) → T (is_vertex (cell_at s u)) → T (within (position_of (cell_at s u)))
  position_ok u t = let p = vertex_at s u t in rw p.1 (S.figures u (vertex p.0) p.1)

  place_is_ok : T (within place)
  place_is_ok =
      place_ok (points (cell_at s) (some (open_edge a b bs))) bs q (eqb (q % 2) 1)
      (pair (within (position_of (cell_at s a))) (all within (bs ++ one (position_of (cell_at s b)))) (position_ok a ok.0)
      (all_append within bs (one (position_of (cell_at s b))) ok.2 (pair (within (position_of (cell_at s b))) true (position_ok b ok.1) tt)))
      ok.2 (λ z. ltb→lt (q / 2) (length bs) (odd z ex)) (λ z. let l = leb→le (q / 2) (length bs) (even z ex) in
      let n = length-append bs (one (position_of (cell_at s b))) in omega arith)
    where
      odd : eqb (q % 2) 1 ≡ true → T (cond (eqb (q % 2) 1 || false) (ltb (q / 2) (length bs)) (leb (q / 2) (length bs))) → T (ltb (q / 2) (length bs))
      odd z t = rw z at t

      even : eqb (q % 2) 1 ≡ false → T (cond (eqb (q % 2) 1 || false) (ltb (q / 2) (length bs)) (leb (q / 2) (length bs))) → T (leb (q / 2) (length bs))
      even z t = rw z at t

  two : (bw : Bool) → Walk look' (cond bw b a) (cond bw (against (suc (suc v)) ∷ against (suc v) ∷ []) (along (suc v) ∷ along (suc (suc v)) ∷ [])) (cond bw a b)
  two true = (rw at_b tt, ap end_of (sym at_b), (rw at_a tt, ap start_of at_b ∙ ap end_of (sym at_a), ap start_of at_a))
  two false = (rw at_a tt, ap start_of (sym at_a), (rw at_b tt, ap end_of at_a ∙ ap start_of (sym at_b), ap end_of at_b))

  here_walk : (h : Halfedge) → h.edge ≡ e → T (is_open (cell_at s e)) → Walk look' (tail_of (cell_at s) h) (σ h) (head_of (cell_at s) h)
  here_walk h z o =
      let c : cell_at s h.edge ≡ some (open_edge a b bs) = ap (cell_at s) z ∙ at in
      let t : tail_of (cell_at s) h ≡ cond h.backward b a = ap (λ (x : Option Figure). cond h.backward (end_of x) (start_of x)) c in
      let u : head_of (cell_at s) h ≡ cond h.backward a b = ap (λ (x : Option Figure). cond h.backward (start_of x) (end_of x)) c in
      let n : σ h ≡ cond h.backward (against (suc (suc v)) ∷ against (suc v) ∷ []) (along (suc v) ∷ along (suc (suc v)) ∷ []) =
      rw (eq-eqb e h.edge (sym z)) in
      subst (λ (x : ℕ). Walk look' x (σ h) (head_of (cell_at s) h)) (sym t)
      (subst (λ (x : ℕ). Walk look' (cond h.backward b a) (σ h) x) (sym u)
      (subst (λ (ks : List Halfedge). Walk look' (cond h.backward b a) ks (cond h.backward a b)) (sym n) (two h.backward)))

  here_ring : (h : Halfedge) (hs : List Halfedge) → h.edge ≡ e → T (is_closed (cell_at s e)) → T (all (same h) hs) → T (joins look' (spread σ (h ∷ hs)))
  here_ring h hs z c t = absurd (subst (λ (o : Option Figure). T (is_closed o)) at c)

  stay : (h : Halfedge) → eqb e h.edge ≡ false → σ h ≡ one h
  stay h z = rw z

  some-σ : (h : Halfedge) → Some (σ h)
  some-σ h = go (eqb e h.edge) h.backward
    where
      go : (x y : Bool) → Some (cond x (cond y (against (suc (suc v)) ∷ against (suc v) ∷ []) (along (suc v) ∷ along (suc (suc v)) ∷ [])) (one h))
      go true true = tt
      go true false = tt
      go false y = tt

  new_ok : T (all (figure_ok look') new)
  new_ok =
      let M : T (is_vertex (look' v)) = rw at_v tt in
      let A = left_vertex s S e E σ new a ok.0 in
      let B = left_vertex s S e E σ new b ok.1 in
      pair (within place) _ place_is_ok
      (pair (is_vertex (look' a) && (is_vertex (look' v) && all within (bends_before bs q))) _
      (pair (is_vertex (look' a)) (is_vertex (look' v) && all within (bends_before bs q)) A
      (pair (is_vertex (look' v)) (all within (bends_before bs q)) M (all_take within (q / 2) bs ok.2)))
      (pair (is_vertex (look' v) && (is_vertex (look' b) && all within (bends_after bs q))) true
      (pair (is_vertex (look' v)) (is_vertex (look' b) && all within (bends_after bs q)) M
      (pair (is_vertex (look' b)) (all within (bends_after bs q)) B (all_drop within (q / 2 + q % 2) bs ok.2))) tt))

  pub open_cut_sound : T (leb (rebuild (others e) (rewired same_vertex σ) new s).next ids_end)
      → T (ceilings (rebuild (others e) (rewired same_vertex σ) new s).cells) → Sound (rebuild (others e) (rewired same_vertex σ) new s)
  open_cut_sound seven eight = swapped_sound s S e E σ new stay some-σ here_walk here_ring seven eight new_ok

  pub open_cut_over : Even s (rebuild (others e) (rewired same_vertex σ) new s)
  open_cut_over =
      let m = swapped_over s S e E σ new gain (gain_rewired same_vertex σ) (open_edge a b bs) at in
      let n = swapped_over s S e E σ new loss (loss_rewired same_vertex σ) (open_edge a b bs) at in
      omega arith

-- ---- a closed edge: its steps become those of a loop at the new vertex
module _ (s : Sheet) (S : Sound s) (e q : ℕ) (bs : List Position) (at : cell_at s e ≡ some (closed_edge bs)) (ex : T (cut_exists (some (closed_edge bs)) q)) where
  abbrev w : ℕ
  w = s.next

  abbrev placeᶜ : Position
  placeᶜ = cut_place (cell_at s) (some (closed_edge bs)) q

  abbrev newᶜ : List Figure
  newᶜ = vertex placeᶜ ∷ open_edge w w (bends_round bs q) ∷ []

  abbrev σᶜ : Halfedge → List Halfedge
  σᶜ = in_place_of e (suc w) false

  Eᶜ : T (is_edge (cell_at s e))
  Eᶜ = rw at tt

  abbrev lookᶜ : Look
  lookᶜ = swapped s S e Eᶜ σᶜ newᶜ

  at_w : lookᶜ w ≡ some (vertex placeᶜ)
  at_w = new_at (others e) (rewired same_vertex σᶜ) newᶜ s S w (omega arith) ∙ first w (vertex placeᶜ) (open_edge w w (bends_round bs q) ∷ [])

  at_loop : lookᶜ (suc w) ≡ some (open_edge w w (bends_round bs q))
  at_loop = new_at (others e) (rewired same_vertex σᶜ) newᶜ s S (suc w) (omega arith) ∙ second w (vertex placeᶜ) (open_edge w w (bends_round bs q)) []

  okᶜ : T (all within bs)
  okᶜ = (both (not (is_empty bs)) (all within bs) (S.figures e (closed_edge bs) at)).1

  here : q / 2 < length bs
  here = round_place bs q (eqb (q % 2) 1) ex

  place-is-okᶜ : T (within placeᶜ)
  place-is-okᶜ =
      place_ok (bs ++ take 1 bs) bs q (eqb (q % 2) 1) (all_append within bs (take 1 bs) okᶜ (all_take within 1 bs okᶜ)) okᶜ (λ z. here)
      (λ z. let h = here in let n = length-append bs (take 1 bs) in let m = length-take 1 bs in omega arith)

  loop_step_lem : (h : Halfedge) → h.edge ≡ e → Walk lookᶜ w (σᶜ h) w
  loop_step_lem h z = subst (λ (ks : List Halfedge). Walk lookᶜ w ks w) (sym (becomes e (suc w) false h z)) (go h.backward)
    where
      go : (b : Bool) → Walk lookᶜ w (one (record { edge = suc w; backward = b })) w
      go true = (rw at_loop tt, ap end_of (sym at_loop), ap start_of at_loop)
      go false = (rw at_loop tt, ap start_of (sym at_loop), ap end_of at_loop)

  loops : (h : Halfedge) → h.edge ≡ e → (hs : List Halfedge) → T (all (same h) hs) → Walk lookᶜ w (spread σᶜ hs) w
  loops h z [] t = refl
  loops h z (k ∷ hs) t =
      let b = both (same h k) (all (same h) hs) t in
      walk_append lookᶜ w (σᶜ k) w (spread σᶜ hs) w (loop_step_lem k (ap (λ (x : Halfedge). x.edge) (sym (same_eq h k b.0)) ∙ z)) (loops h z hs b.1)

  here-ringᶜ : (h : Halfedge) (hs : List Halfedge) → h.edge ≡ e → T (is_closed (cell_at s e)) → T (all (same h) hs) → T (joins lookᶜ (spread σᶜ (h ∷ hs)))
  here-ringᶜ h hs z c t = round_joins lookᶜ (spread σᶜ (h ∷ hs)) tt (w, walk_append lookᶜ w (σᶜ h) w (spread σᶜ hs) w (loop_step_lem h z) (loops h z hs t))

  here-walkᶜ : (h : Halfedge) → h.edge ≡ e → T (is_open (cell_at s e)) → Walk lookᶜ (tail_of (cell_at s) h) (σᶜ h) (head_of (cell_at s) h)
  here-walkᶜ h z o = absurd (subst (λ (x : Option Figure). T (is_open x)) at o)

  new-okᶜ : T (all (figure_ok lookᶜ) newᶜ)
  new-okᶜ =
      let M : T (is_vertex (lookᶜ w)) = rw at_w tt in
      pair (within placeᶜ) _ place-is-okᶜ
      (pair (is_vertex (lookᶜ w) && (is_vertex (lookᶜ w) && all within (bends_round bs q))) true
      (pair (is_vertex (lookᶜ w)) (is_vertex (lookᶜ w) && all within (bends_round bs q)) M
      (pair (is_vertex (lookᶜ w)) (all within (bends_round bs q)) M
      (all_append within (drop (q / 2 + 1) bs) (take (q / 2 + (1 - q % 2)) bs) (all_drop within (q / 2 + 1) bs okᶜ)
      (all_take within (q / 2 + (1 - q % 2)) bs okᶜ)))) tt)

  pub closed_cut_sound : T (leb (rebuild (others e) (rewired same_vertex σᶜ) newᶜ s).next ids_end)
      → T (ceilings (rebuild (others e) (rewired same_vertex σᶜ) newᶜ s).cells) → Sound (rebuild (others e) (rewired same_vertex σᶜ) newᶜ s)
  closed_cut_sound seven eight = swapped_sound s S e Eᶜ σᶜ newᶜ (stays_one e (suc w) false) (λ h. tt) here-walkᶜ here-ringᶜ seven eight new-okᶜ

  pub closed_cut_over : Even s (rebuild (others e) (rewired same_vertex σᶜ) newᶜ s)
  closed_cut_over =
      let m = swapped_over s S e Eᶜ σᶜ newᶜ gain (gain_rewired same_vertex σᶜ) (closed_edge bs) at in
      let n = swapped_over s S e Eᶜ σᶜ newᶜ loss (loss_rewired same_vertex σᶜ) (closed_edge bs) at in
      omega arith

-- ---- both
module _ (e q : ℕ) (s : Sheet) (S : Sound s) (p : Passes s (cut_edge e q)) where
  named : T (is_edge (cell_at s e))
  unfolding question4
  named = p.four

  exists : T (cut_exists (cell_at s e) q)
  unfolding question5
  exists = p.five

  as_shape : result s (cut_edge e q) ≡ cut_figure s e q (cell_at s e)
  unfolding result edge_cut
  as_shape = refl

  pub cut_edge_sound : Sound (result s (cut_edge e q))
  cut_edge_sound = go (cell_at s e) refl
    where
      go : (o : Option Figure) → cell_at s e ≡ o → Sound (result s (cut_edge e q))
      go none z = absurd (subst (λ (o : Option Figure). T (is_edge o)) z named)
      go (some (vertex r)) z = absurd (subst (λ (o : Option Figure). T (is_edge o)) z named)
      go (some (open_edge a b bs)) z =
          let r : result s (cut_edge e q) ≡ cut_figure s e q (some (open_edge a b bs)) = as_shape ∙ ap (cut_figure s e q) z in
          rw r (open_cut_sound s S e q a b bs z (subst (λ (o : Option Figure). T (cut_exists o q)) z exists) (rw r at p.seven) (rw r at p.eight))
      go (some (closed_edge bs)) z =
          let r : result s (cut_edge e q) ≡ cut_figure s e q (some (closed_edge bs)) = as_shape ∙ ap (cut_figure s e q) z in
          rw r (closed_cut_sound s S e q bs z (subst (λ (o : Option Figure). T (cut_exists o q)) z exists) (rw r at p.seven) (rw r at p.eight))
      go (some (face ks)) z = absurd (subst (λ (o : Option Figure). T (is_edge o)) z named)

  pub cut_edge_balanced : Balanced s (cut_edge e q)
  cut_edge_balanced = go (cell_at s e) refl
    where
      go : (o : Option Figure) → cell_at s e ≡ o → Balanced s (cut_edge e q)
      go none z = absurd (subst (λ (o : Option Figure). T (is_edge o)) z named)
      go (some (vertex r)) z = absurd (subst (λ (o : Option Figure). T (is_edge o)) z named)
      go (some (open_edge a b bs)) z =
          let r : result s (cut_edge e q) ≡ cut_figure s e q (some (open_edge a b bs)) = as_shape ∙ ap (cut_figure s e q) z in
          let h = open_cut_over s S e q a b bs z (subst (λ (o : Option Figure). T (cut_exists o q)) z exists) in
          rw r (omega arith)
      go (some (closed_edge bs)) z =
          let r : result s (cut_edge e q) ≡ cut_figure s e q (some (closed_edge bs)) = as_shape ∙ ap (cut_figure s e q) z in
          let h = closed_cut_over s S e q bs z (subst (λ (o : Option Figure). T (cut_exists o q)) z exists) in
          rw r (omega arith)
      go (some (face ks)) z = absurd (subst (λ (o : Option Figure). T (is_edge o)) z named)
