-- 08 and 0A: an edge goes, and each of its steps becomes a walk of others. Soundness and shift. Assumes nothing.
use Prim.Native.Nat.{ℕ, zero, suc, ◌+◌, ◌-◌, ◌*◌, ◌/◌, ◌%◌, ◌≤◌, ◌<◌}
use native.Mathlib.Omega.{arith}
use mathlib.Core.Path.{◌≡◌, refl, sym, ap, ◌∙◌, subst}
use mathlib.Core.Logic.{◌⊎◌, inl, inr}
use mathlib.Core.Bool.{Bool, true, false, not, ◌&&◌, ◌||◌, cond}
use mathlib.Core.List.{List, [], ◌∷◌, ◌++◌, map}
use mathlib.Core.Option.{Option, none, some}
use lib.ListN.{length, get_or, take, drop, length-append}
use lib.Dec.{T, eqb, ltb, leb, eqb→eq, ltb→lt, leb→le}
use borrow.Author.Tests.{eq-eqb, ne_eqb, eqb-true, eqb-false, leb-true, leb-false, ltb-true}
use Rattle.number.specs.Readers.{spread}
use Rattle.coordinate.specs.declared.Position.{Position}
use Rattle.coordinate.specs.Bounds.{within, in_bounds, middle}
use Rattle.complex.specs.Lists.{all, is_empty, one}
use Rattle.complex.specs.Cells.{Halfedge, Cycle, lone, path, Figure, vertex, open_edge, closed_edge, face, LiveCell, Sheet, origin, Look, some_if, lookup}
use Rattle.complex.specs.Cells.{is_vertex, is_open, is_closed, is_edge, start_of, end_of, bends_of, position_of, along, against, same, tail_of, head_of, cell_at}
use Rattle.complex.specs.Sound.{Walk, ids_end, cycle_ok, figure_ok, ceilings, joins, over}
use Rattle.complex.specs.Decode.{Command, glue_edges, cut_edge}
use Rattle.complex.specs.Edits.{numbered, rebuild, rewired, same_vertex, others, in_place_of}
use Rattle.complex.specs.Glue.{glued_edges, may_glue}
use Rattle.complex.specs.Cut.{points, cut_place, bends_before, bends_after, bends_round, in_two, cut_figure, edge_cut, cut_exists}
use Rattle.complex.specs.Commands.{question4, question5, question6, result}
use Rattle.complex.proofs.Gains.{gain, loss, Shift, shift}
use Rattle.complex.proofs.Bools.{truth, true_of, either, both, pair, cases, or_left, or_right, not_of, all_append}
use Rattle.complex.proofs.Walks.{walk_append, Round, Ring, Some, round_joins, ring_joins}
use Rattle.complex.proofs.Keep.{Sound, Look', rebuild_sound, same_eq, Carries, ring_carried, round_carried, some_spread, shape_carried}
use Rattle.complex.proofs.Passes.{Passes, KeepsSound}
use Rattle.complex.proofs.Adds.{Alike, vertex_of, open_of, closed_of, stays_at, new_at}
use Rattle.complex.proofs.Split.{all_get_d, apart}
use Rattle.complex.proofs.Euler.{over_kept, Balanced}
use Rattle.complex.proofs.Faces.{over_others, gain_rewired, loss_rewired}

alike_rewired : (σ : Halfedge → List Halfedge) (i : ℕ) (t : Figure) → Alike (some t) (some (rewired same_vertex σ i t))
alike_rewired σ i (vertex p) = tt
alike_rewired σ i (open_edge a b bs) = (tt, refl, refl)
alike_rewired σ i (closed_edge bs) = tt
alike_rewired σ i (face ks) = tt

pub edge_of : (o : Option Figure) → (T (is_open o) ⊎ T (is_closed o)) → T (is_edge o)
edge_of o (inl a) = or_left (is_open o) (is_closed o) a
edge_of o (inr a) = or_right (is_open o) (is_closed o) a

pub edge_no_vertex : (o : Option Figure) → T (is_edge o) → T (is_vertex o) → ⊥
edge_no_vertex none e v = v
edge_no_vertex (some (vertex p)) e v = e
edge_no_vertex (some (open_edge a b bs)) e v = v
edge_no_vertex (some (closed_edge bs)) e v = v
edge_no_vertex (some (face ks)) e v = v

-- ---- the edge e goes, its steps by σ, other steps stay
module _ (s : Sheet) (S : Sound s) (e : ℕ) (E : T (is_edge (cell_at s e))) (σ : Halfedge → List Halfedge) (new : List Figure) where
  abbrev pub swapped : Look
  swapped = Look' (others e) (rewired same_vertex σ) new s

  pub left_alike : (i : ℕ) → (i ≡ e → ⊥) → Alike (cell_at s i) (swapped i)
  left_alike i n = go (cell_at s i) refl
    where
      go : (o : Option Figure) → cell_at s i ≡ o → Alike o (swapped i)
      go none q = tt
      go (some t) q = subst (Alike (some t)) (sym (stays_at (others e) (rewired same_vertex σ) new s i t (rw (ne_eqb e i (λ z. n (sym z))) tt) q))
          (alike_rewired σ i t)

  pub left_vertex : (v : ℕ) → T (is_vertex (cell_at s v)) → T (is_vertex (swapped v))
  left_vertex v t = vertex_of (cell_at s v) (swapped v) (left_alike v (λ q. edge_no_vertex (cell_at s e) E (subst (λ (i : ℕ). T (is_vertex (cell_at s i))) q t))) t

  pub left_walk : (h : Halfedge) → (h.edge ≡ e → ⊥) → T (is_open (cell_at s h.edge)) → Walk swapped (tail_of (cell_at s) h) (one h) (head_of (cell_at s) h)
  left_walk h n t =
      let o = open_of (cell_at s h.edge) (swapped h.edge) (left_alike h.edge n) t in
      (o.0, (λ i. cond h.backward (o.2 i) (o.1 i)), (λ i. cond h.backward (sym o.1 i) (sym o.2 i)))

  -- open edges carried, closed edges carried
  module _ (stay : (h : Halfedge) → eqb e h.edge ≡ false → σ h ≡ one h) (some-σ : (h : Halfedge) → Some (σ h))
      (here_walk : (h : Halfedge) → h.edge ≡ e → T (is_open (cell_at s e)) → Walk swapped (tail_of (cell_at s) h) (σ h) (head_of (cell_at s) h))
      (here_ring : (h : Halfedge) (hs : List Halfedge) → h.edge ≡ e → T (is_closed (cell_at s e)) → T (all (same h) hs)
      → T (joins swapped (spread σ (h ∷ hs)))) where
    walks : (h : Halfedge) → T (is_open (cell_at s h.edge)) → Walk swapped (tail_of (cell_at s) h) (σ h) (head_of (cell_at s) h)
    walks h t = go (eqb e h.edge) refl
      where
        go : (b : Bool) → eqb e h.edge ≡ b → Walk swapped (tail_of (cell_at s) h) (σ h) (head_of (cell_at s) h)
        go true q = let z = sym (eqb-true e h.edge q) in here_walk h z (subst (λ (i : ℕ). T (is_open (cell_at s i))) z t)
        go false q = rw (stay h q) (left_walk h (λ z. eqb-false e h.edge q (sym z)) t)

    rings : (hs : List Halfedge) → Ring (cell_at s) hs → T (joins swapped (spread σ hs))
    rings [] g = absurd g
    rings (h ∷ hs) g = go (eqb e h.edge) refl
      where
        go : (b : Bool) → eqb e h.edge ≡ b → T (joins swapped (spread σ (h ∷ hs)))
        go true q = let z = sym (eqb-true e h.edge q) in here_ring h hs z (subst (λ (i : ℕ). T (is_closed (cell_at s i))) z g.0) g.1
        go false q =
            ring_carried (cell_at s) swapped σ h hs h (stay h q)
            (closed_of (cell_at s h.edge) (swapped h.edge) (left_alike h.edge (λ z. eqb-false e h.edge q (sym z))) g.0) g.1

    carried : Carries (cell_at s) swapped same_vertex σ
    carried = record {
      vertices = left_vertex;
      rounds = λ hs t w. round_carried (cell_at s) swapped same_vertex σ walks hs (some_spread σ some-σ hs
          t) w;
      rings = rings;
    }

    pub swapped_sound : T (leb (rebuild (others e) (rewired same_vertex σ) new s).next ids_end)
        → T (ceilings (rebuild (others e) (rewired same_vertex σ) new s).cells)
        → T (all (figure_ok swapped) new) → Sound (rebuild (others e) (rewired same_vertex σ) new s)
    swapped_sound seven eight fresh =
        rebuild_sound (others e) (rewired same_vertex σ) new s S seven eight
        (λ i t k q. shape_carried (cell_at s) swapped same_vertex σ carried i t (S.figures i t q)) fresh

  pub swapped_over : (g : Figure → ℕ) → ((i : ℕ) (t : Figure) → g (rewired same_vertex σ i t) ≡ g t) → (u : Figure) → cell_at s e ≡ some u
      → over g (rebuild (others e) (rewired same_vertex σ) new s).cells + g u ≡ over g s.cells + Rattle.complex.specs.Lists.total g new
  swapped_over g h u q =
      let a = over_kept g (rewired same_vertex σ) h (others e) new s in
      let b = over_others g e u 0 s.cells s.next S.rises q in
      omega arith

-- ---- 08
pub stays_one : (e a : ℕ) (flip : Bool) (h : Halfedge) → eqb e h.edge ≡ false → in_place_of e a flip h ≡ one h
stays_one e a flip h q = rw q

pub becomes : (e a : ℕ) (flip : Bool) (h : Halfedge) → h.edge ≡ e
    → in_place_of e a flip h ≡ one (record { edge = a; backward = cond flip (not h.backward) h.backward })
becomes e a flip h q = rw (eq-eqb e h.edge (sym q))

module _ (a b flag : ℕ) (s : Sheet) (S : Sound s) (q : Passes s (glue_edges a b flag)) where
  abbrev σ₈ : Halfedge → List Halfedge
  σ₈ = in_place_of b a (eqb flag 1)

  edges : T (is_edge (cell_at s a)) × T (is_edge (cell_at s b))
  unfolding question4
  edges = both (is_edge (cell_at s a)) (is_edge (cell_at s b)) q.four

  flags : flag ≤ 1
  unfolding question5
  flags = leb→le flag 1 q.five

  apart₈ : eqb a b ≡ false
  unfolding question6
  apart₈ = not_of (eqb a b) (both (not (eqb a b)) (may_glue (cell_at s a) (cell_at s b) flag) q.six).0

  rule : (T (is_closed (cell_at s a)) × T (is_closed (cell_at s b)))
      ⊎ (T (is_open (cell_at s a)) × T (is_open (cell_at s b))
      × T (cond (eqb flag 0) (eqb (start_of (cell_at s a)) (start_of (cell_at s b)) && eqb (end_of (cell_at s a)) (end_of (cell_at s b)))
      (eqb (start_of (cell_at s a)) (end_of (cell_at s b)) && eqb (end_of (cell_at s a)) (start_of (cell_at s b)))))
  unfolding question6
  rule = elim (cases (is_closed (cell_at s a) && is_closed (cell_at s b)) _ (both (not (eqb a b)) (may_glue (cell_at s a) (cell_at s b) flag) q.six).1) [
    | inl c ↦ inl (both (is_closed (cell_at s a)) (is_closed (cell_at s b)) c)
    | inr o ↦ let x = both (is_open (cell_at s a)) _ o in let y = both (is_open (cell_at s b)) _ x.1 in inr (x.0, y.0, y.1)
  ]

  abbrev look₈ : Look
  look₈ = swapped s S b edges.1 σ₈ []

  a_alike : Alike (cell_at s a) (look₈ a)
  a_alike = left_alike s S b edges.1 σ₈ [] a (eqb-false a b apart₈)

  -- the ends of a and b agree along the direction that a step of b gets
  ends_agree : T (is_open (cell_at s b)) → (bw : Bool)
      → (cond bw (end_of (cell_at s b)) (start_of (cell_at s b)) ≡ cond (cond (eqb flag 1) (not bw) bw) (end_of (cell_at s a)) (start_of (cell_at s a)))
      × (cond bw (start_of (cell_at s b)) (end_of (cell_at s b)) ≡ cond (cond (eqb flag 1) (not bw) bw) (start_of (cell_at s a)) (end_of (cell_at s a)))
  ends_agree o bw = elim rule [
    | inl c ↦ absurd (apart (cell_at s b) c.1 o)
    | inr r ↦ go flag flags r.2 bw
  ]
    where
      go : (n : ℕ) → n ≤ 1
          → T (cond (eqb n 0) (eqb (start_of (cell_at s a)) (start_of (cell_at s b)) && eqb (end_of (cell_at s a)) (end_of (cell_at s b)))
          (eqb (start_of (cell_at s a)) (end_of (cell_at s b)) && eqb (end_of (cell_at s a)) (start_of (cell_at s b))))
          → (bw : Bool)
          → (cond bw (end_of (cell_at s b)) (start_of (cell_at s b)) ≡ cond (cond (eqb n 1) (not bw) bw) (end_of (cell_at s a)) (start_of (cell_at s a)))
          × (cond bw (start_of (cell_at s b)) (end_of (cell_at s b)) ≡ cond (cond (eqb n 1) (not bw) bw) (start_of (cell_at s a)) (end_of (cell_at s a)))
      go zero l t true = let x = both (eqb (start_of (cell_at s a)) (start_of (cell_at s b))) (eqb (end_of (cell_at s a)) (end_of (cell_at s b))) t in
          (sym (eqb→eq (end_of (cell_at s a)) (end_of (cell_at s b)) x.1), sym (eqb→eq (start_of (cell_at s a)) (start_of (cell_at s b)) x.0))
      go zero l t false = let x = both (eqb (start_of (cell_at s a)) (start_of (cell_at s b))) (eqb (end_of (cell_at s a)) (end_of (cell_at s b))) t in
          (sym (eqb→eq (start_of (cell_at s a)) (start_of (cell_at s b)) x.0), sym (eqb→eq (end_of (cell_at s a)) (end_of (cell_at s b)) x.1))
      go (suc zero) l t true = let x = both (eqb (start_of (cell_at s a)) (end_of (cell_at s b))) (eqb (end_of (cell_at s a)) (start_of (cell_at s b))) t in
          (sym (eqb→eq (start_of (cell_at s a)) (end_of (cell_at s b)) x.0), sym (eqb→eq (end_of (cell_at s a)) (start_of (cell_at s b)) x.1))
      go (suc zero) l t false = let x = both (eqb (start_of (cell_at s a)) (end_of (cell_at s b))) (eqb (end_of (cell_at s a)) (start_of (cell_at s b))) t in
          (sym (eqb→eq (end_of (cell_at s a)) (start_of (cell_at s b)) x.1), sym (eqb→eq (start_of (cell_at s a)) (end_of (cell_at s b)) x.0))
      go (suc (suc n)) l t bw = absurd (omega arith)

  here-walk₈ : (h : Halfedge) → h.edge ≡ b → T (is_open (cell_at s b)) → Walk look₈ (tail_of (cell_at s) h) (σ₈ h) (head_of (cell_at s) h)
  here-walk₈ h z o =
      let d = cond (eqb flag 1) (not h.backward) h.backward in
      let g = ends_agree o h.backward in
      let oa : T (is_open (cell_at s a)) = elim rule [ inl c ↦ absurd (apart (cell_at s b) c.1 o) | inr r ↦ r.0 ] in
      let k = open_of (cell_at s a) (look₈ a) a_alike oa in
      let t : tail_of (cell_at s) h ≡ cond h.backward (end_of (cell_at s b)) (start_of (cell_at s b)) =
      ap (λ (i : ℕ). cond h.backward (end_of (cell_at s i)) (start_of (cell_at s i))) z in
      let u : head_of (cell_at s) h ≡ cond h.backward (start_of (cell_at s b)) (end_of (cell_at s b)) =
      ap (λ (i : ℕ). cond h.backward (start_of (cell_at s i)) (end_of (cell_at s i))) z in
      subst (λ (ks : List Halfedge). Walk look₈ (tail_of (cell_at s) h) ks (head_of (cell_at s) h)) (sym (becomes b a (eqb flag 1) h z))
      (k.0, t ∙ g.0 ∙ (λ i. cond d (k.2 i) (k.1 i)), (λ i. cond d (sym k.1 i) (sym k.2 i)) ∙ sym g.1 ∙ sym u)

  here-ring₈ : (h : Halfedge) (hs : List Halfedge) → h.edge ≡ b → T (is_closed (cell_at s b)) → T (all (same h) hs) → T (joins look₈ (spread σ₈ (h ∷ hs)))
  here-ring₈ h hs z c t =
      let ca : T (is_closed (cell_at s a)) = elim rule [ inl r ↦ r.0 | inr r ↦ absurd (apart (cell_at s b) c r.1) ] in
      ring_carried (cell_at s) look₈ σ₈ h hs _ (becomes b a (eqb flag 1) h z) (closed_of (cell_at s a) (look₈ a) a_alike ca) t

  pub glue_edges_sound : Sound (result s (glue_edges a b flag))
  unfolding result glued_edges
  glue_edges_sound = swapped_sound s S b edges.1 σ₈ [] (stays_one b a (eqb flag 1)) (λ h. tt) here-walk₈ here-ring₈ q.seven q.eight tt

  pub glue_edges_balanced : Balanced s (glue_edges a b flag)
  unfolding result glued_edges
  glue_edges_balanced = go (cell_at s a) (cell_at s b) refl refl
    where
      sums : (g : Figure → ℕ) → ((i : ℕ) (t : Figure) → g (rewired same_vertex σ₈ i t) ≡ g t) → (u : Figure) → cell_at s b ≡ some u
          → over g (rebuild (others b) (rewired same_vertex σ₈) [] s).cells + g u ≡ over g s.cells + 0
      sums = swapped_over s S b edges.1 σ₈ []

      go : (x y : Option Figure) → cell_at s a ≡ x → cell_at s b ≡ y
          → over gain (rebuild (others b) (rewired same_vertex σ₈) [] s).cells + over loss s.cells + 0 ≡ over gain s.cells
          + over loss (rebuild (others b) (rewired same_vertex σ₈) [] s).cells + cond (is_open (cell_at s a)) 1 0
      go x none d e = absurd (subst (λ (o : Option Figure). T (is_edge o)) e edges.1)
      go x (some (vertex p)) d e = absurd (subst (λ (o : Option Figure). T (is_edge o)) e edges.1)
      go x (some (open_edge u w bs)) d e =
          let o : T (is_open (cell_at s a)) = elim rule [ inl c ↦ absurd (subst (λ (z : Option Figure). T (is_closed z)) e c.1) | inr r ↦ r.0 ] in
          let m = sums gain (gain_rewired same_vertex σ₈) (open_edge u w bs) e in
          let n = sums loss (loss_rewired same_vertex σ₈) (open_edge u w bs) e in
          rw (true_of (is_open (cell_at s a)) o) (omega arith)
      go x (some (closed_edge bs)) d e =
          let c : T (is_closed (cell_at s a)) = elim rule [ inl r ↦ r.0 | inr r ↦ absurd (subst (λ (z : Option Figure). T (is_open z)) e r.1) ] in
          let m = sums gain (gain_rewired same_vertex σ₈) (closed_edge bs) e in
          let n = sums loss (loss_rewired same_vertex σ₈) (closed_edge bs) e in
          let f : is_open (cell_at s a) ≡ false = elim (either (is_open (cell_at s a))) [ inl t ↦ absurd (apart (cell_at s a) c (truth t)) | inr t ↦ t ] in
          rw f (omega arith)
      go x (some (face ks)) d e = absurd (subst (λ (o : Option Figure). T (is_edge o)) e edges.1)
