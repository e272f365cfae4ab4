-- 09 at a vertex: ends that a passage joins get one vertex, so every cycle stays joined. Soundness and shift. Assumes nothing.
use Prim.Native.Nat.{ℕ, zero, suc, ◌+◌, ◌-◌, ◌*◌, ◌≤◌, ◌<◌}
use native.Mathlib.Omega.{arith}
use mathlib.Core.Path.{◌≡◌, refl, sym, ap, ◌∙◌, subst}
use mathlib.Core.Logic.{◌⊎◌, inl, inr}
use mathlib.Core.Bool.{Bool, true, false, not, ◌&&◌, ◌||◌, cond, true≢false, or_assoc, or-true}
use mathlib.Core.List.{List, [], ◌∷◌, ◌++◌, map}
use mathlib.Core.Option.{Option, none, some}
use lib.ListN.{length, replicate}
use lib.Dec.{T, eqb, ltb, leb, eqb→eq, eqb_refl}
use borrow.Author.Tests.{eq-eqb, ne_eqb, eqb-true, eqb-false}
use Rattle.number.specs.Readers.{spread}
use Rattle.coordinate.specs.declared.Position.{Position}
use Rattle.coordinate.specs.Bounds.{within}
use Rattle.complex.specs.Lists.{all, any, filter, cons_if, total, one}
use Rattle.complex.specs.Cells.{Halfedge, Cycle, lone, path, Figure, vertex, open_edge, closed_edge, face, LiveCell, Sheet, Look, some_if, lookup, is_vertex}
use Rattle.complex.specs.Cells.{is_open, is_closed, start_of, end_of, cycles_of, steps_of, along, against, flipped, same, tail_of, head_of, cell_at}
use Rattle.complex.specs.Cells.{is_vertex_or_edge}
use Rattle.complex.specs.Sound.{Walk, ids_end, leads, cycle_ok, figure_ok, ceilings, joins, over}
use Rattle.complex.specs.Decode.{Command, unglue}
use Rattle.complex.specs.Edits.{numbered, rebuild, every_id}
use Rattle.complex.specs.Uses.{figure_ends, ends_at, Passage, passage, passages_from, passages, all_cycles, passages_at, arrival, departure, is_in, groups}
use Rattle.complex.specs.Uses.{group_of, lone_use, uses_by, earlier, counting, on_uses}
use Rattle.complex.specs.Unglue.{copy_of, copies, new_lone, new_end, new_ends, parts, ungluing, unglued}
use Rattle.complex.specs.Commands.{question4, question6, result}
use Rattle.complex.proofs.Gains.{gain, loss, Shift, shift}
use Rattle.complex.proofs.Bools.{truth, true_of, either, both, pair, cases, or_left, or_right, equal}
use Rattle.complex.proofs.Walks.{walk_of, Round, Ring, Some, joins_cases, round_joins, ring_joins}
use Rattle.complex.proofs.Every.{Every, every_left, every_right, every_both, filter_append}
use Rattle.complex.proofs.Groups.{Decides, in_left, in_right, in_some, linked_same}
use Rattle.complex.proofs.Keep.{Sound, Look', rebuild_sound, same_eq, same_refl}
use Rattle.complex.proofs.Passes.{Passes}
use Rattle.complex.proofs.Adds.{stays_at, new_at}
use Rattle.complex.proofs.Unglue.{as_part, unglue_open_sound, unglue_closed_sound, unglue_open_balanced, unglue_closed_balanced, uses_within}
use Rattle.complex.proofs.Unglue.{lookup_copies, length_counting}
use Rattle.complex.proofs.Sums.{total_copies}
use Rattle.complex.proofs.Euler.{over_all, Balanced}

pub halfedges : Decides same
halfedges = record { equal = same_eq; reflexive = same_refl }

-- ---- every edge end at a vertex is listed
pub end_in : (cs : List LiveCell) (v : ℕ) (h : Halfedge) (a b : ℕ) (bs : List Position) → lookup cs h.edge ≡ some (open_edge a b bs)
    → cond h.backward b a ≡ v → T (is_in (ends_at cs v) h)
end_in [] v h a b bs e q = absurd (let z : ◌≡◌ {A = ℕ} 0 1 = cc in omega arith)
end_in (c ∷ cs) v h a b bs e q = go (eqb c.id h.edge) refl e (λ r. end_in cs v h a b bs r q)
  where
    here : (bw : Bool) → h.backward ≡ bw → c.id ≡ h.edge → cond bw b a ≡ v → T (is_in (figure_ends v c.id (open_edge a b bs)) h)
    here true z i k =
        let w : T (same h (against c.id)) = pair (eqb h.edge c.id) (mathlib.Core.Bool.beq h.backward true) (equal (sym i)) (rw z tt) in
        let y : T (is_in (against c.id ∷ []) h) = or_left (same h (against c.id)) false w in
        rw (eq-eqb b v k) (first (eqb a v) y)
      where
        first : (x : Bool) → T (is_in (against c.id ∷ []) h) → T (is_in (cons_if x (along c.id) (against c.id ∷ [])) h)
        first true y = or_right (same h (along c.id)) (is_in (against c.id ∷ []) h) y
        first false y = y
    here false z i k =
        let w : T (same h (along c.id)) = pair (eqb h.edge c.id) (mathlib.Core.Bool.beq h.backward false) (equal (sym i)) (rw z tt) in
        rw (eq-eqb a v k) (or_left (same h (along c.id)) _ w)

    go : (x : Bool) → eqb c.id h.edge ≡ x → some_if x c.figure (lookup cs h.edge) ≡ some (open_edge a b bs)
        → (lookup cs h.edge ≡ some (open_edge a b bs) → T (is_in (ends_at cs v) h)) → T (is_in (ends_at (c ∷ cs) v) h)
    go true i e r =
        let z : c.figure ≡ open_edge a b bs = cc in
        in_left same (figure_ends v c.id c.figure) (ends_at cs v) h
        (subst (λ (t : Figure). T (is_in (figure_ends v c.id t) h)) (sym z) (here h.backward refl (eqb-true c.id h.edge i) q))
    go false i e r = in_right same (figure_ends v c.id c.figure) (ends_at cs v) h (r e)

pub open_at : (look : Look) (e : ℕ) → T (is_open (look e)) → (a b : ℕ) × (bs : List Position) × (look e ≡ some (open_edge a b bs))
open_at look e t = go (look e) refl t
  where
    go : (o : Option Figure) → look e ≡ o → T (is_open o) → (a b : ℕ) × (bs : List Position) × (look e ≡ some (open_edge a b bs))
    go none q k = absurd k
    go (some (vertex p)) q k = absurd k
    go (some (open_edge a b bs)) q k = (a, b, bs, q)
    go (some (closed_edge bs)) q k = absurd k
    go (some (face ks)) q k = absurd k

-- ---- lists of lists
pub spread_append : {A B : Type 0} (g : A → List B) (xs ys : List A) → spread g (xs ++ ys) ≡ spread g xs ++ spread g ys
spread_append g [] ys = refl
spread_append g (x ∷ xs) ys = ap (λ (l : List _). g x ++ l) (spread_append g xs ys) ∙ sym (mathlib.Core.List.append_assoc (g x) (spread g xs) (spread g ys))

abbrev pub turns_of : List Cycle → List Passage
turns_of ks = spread (λ (k : Cycle). passages (steps_of k)) ks

-- ---- what holds of all passages holds of each face's
pub passages_in : (Q : Passage → Type 0) (Here : Passage → Bool) (cs : List LiveCell) → Every Q (filter Here (turns_of (all_cycles cs))) → (j : ℕ) (t : Figure)
    → lookup cs j ≡ some t → Every Q (filter Here (turns_of (cycles_of (some t))))
passages_in Q Here [] e j t q = absurd (let z : ◌≡◌ {A = ℕ} 0 1 = cc in omega arith)
passages_in Q Here (c ∷ cs) e j t q = go (eqb c.id j) q
    (λ r. passages_in Q Here cs (every_right Q (filter Here (turns_of (cycles_of (some c.figure)))) (filter Here (turns_of (all_cycles cs))) split) j t r)
  where
    split : Every Q (filter Here (turns_of (cycles_of (some c.figure))) ++ filter Here (turns_of (all_cycles cs)))
    split = subst (Every Q) (ap (filter Here) (spread_append (λ (k : Cycle). passages (steps_of k)) (cycles_of (some c.figure)) (all_cycles cs))
        ∙ filter_append Here (turns_of (cycles_of (some c.figure))) (turns_of (all_cycles cs))) e

    go : (y : Bool) → some_if y c.figure (lookup cs j) ≡ some t → (lookup cs j ≡ some t → Every Q (filter Here (turns_of (cycles_of (some t)))))
        → Every Q (filter Here (turns_of (cycles_of (some t))))
    go true q r = let z : c.figure ≡ t = cc in subst (λ (x : Figure). Every Q (filter Here (turns_of (cycles_of (some x))))) z
        (every_left Q (filter Here (turns_of (cycles_of (some c.figure)))) (filter Here (turns_of (all_cycles cs))) split)
    go false q r = r q

-- ---- the vertex
module _ (s : Sheet) (S : Sound s) (v : ℕ) (p : Position) (at : cell_at s v ≡ some (vertex p)) where
  abbrev gs : List (List Halfedge)
  gs = groups s.cells v

  -- a passage between two of the ends
  abbrev Inside : Passage → Type 0
  Inside t = T (is_in (ends_at s.cells v) t.arrives) × T (is_in (ends_at s.cells v) t.leaves)

  abbrev Here : Passage → Bool
  Here t = is_open (cell_at s t.leaves.edge) && eqb (tail_of (cell_at s) t.leaves) v

  abbrev turns : List Cycle → List Passage
  turns ks = spread (λ (k : Cycle). passages (steps_of k)) ks

  end_listed : (h : Halfedge) → T (is_open (cell_at s h.edge)) → tail_of (cell_at s) h ≡ v → T (is_in (ends_at s.cells v) h)
  end_listed h o q =
      let k = open_at (cell_at s) h.edge o in
      end_in s.cells v h k.0 k.1 k.2 k.3 (ap (λ (x : Option Figure). cond h.backward (end_of x) (start_of x)) (sym k.3) ∙ q)

  flipped_tail : (h : Halfedge) → tail_of (cell_at s) (flipped h) ≡ head_of (cell_at s) h
  flipped_tail h = go h.backward
    where
      go : (b : Bool) → cond (not b) (end_of (cell_at s h.edge)) (start_of (cell_at s h.edge))
          ≡ cond b (start_of (cell_at s h.edge)) (end_of (cell_at s h.edge))
      go true = refl
      go false = refl

  passage_ends : (h k : Halfedge) (ts : List Passage) → T (is_open (cell_at s h.edge)) → T (is_open (cell_at s k.edge))
      → head_of (cell_at s) h ≡ tail_of (cell_at s) k → Every Inside ts → Every Inside (cons_if (Here (passage h k)) (passage h k) ts)
  passage_ends h k ts a b e r = go (Here (passage h k)) refl
    where
      go : (x : Bool) → Here (passage h k) ≡ x → Every Inside (cons_if x (passage h k) ts)
      go true q =
          let z : tail_of (cell_at s) k ≡ v = eqb→eq (tail_of (cell_at s) k) v (both (is_open (cell_at s k.edge)) (eqb (tail_of (cell_at s) k) v) (truth q)).1 in
          ((end_listed (flipped h) a (flipped_tail h ∙ e ∙ z), end_listed k b z), r)
      go false q = r

  passages_ends : (f h : Halfedge) (hs : List Halfedge) → T (is_open (cell_at s h.edge)) → T (is_open (cell_at s f.edge))
      → Walk (cell_at s) (head_of (cell_at s) h) hs (tail_of (cell_at s) f) → Every Inside (filter Here (passages_from f h hs))
  passages_ends f h [] a b w = passage_ends h f [] a b w tt
  passages_ends f h (k ∷ ks) a b w = passage_ends h k (filter Here (passages_from f k ks)) a w.0 w.1 (passages_ends f k ks w.0 b w.2)

  -- a closed edge passes no vertex
  passages_ring : (f h : Halfedge) (hs : List Halfedge) → T (is_closed (cell_at s f.edge)) → T (all (same f) hs)
      → Every Inside (filter Here (passages_from f h hs))
  passages_ring f h [] c t = go (is_open (cell_at s f.edge)) refl
    where
      go : (x : Bool) → is_open (cell_at s f.edge) ≡ x → Every Inside (cons_if (x && eqb (tail_of (cell_at s) f) v) (passage h f) [])
      go true q = absurd (Rattle.complex.proofs.Split.apart (cell_at s f.edge) c (truth q))
      go false q = tt
  passages_ring f h (k ∷ ks) c t =
      let b = both (same f k) (all (same f) ks) t in
      go (is_open (cell_at s k.edge)) refl (subst (λ (x : Halfedge). T (is_closed (cell_at s x.edge))) (same_eq f k b.0) c) (passages_ring f k ks c b.1)
    where
      go : (x : Bool) → is_open (cell_at s k.edge) ≡ x → T (is_closed (cell_at s k.edge)) → Every Inside (filter Here (passages_from f k ks))
          → Every Inside (cons_if (x && eqb (tail_of (cell_at s) k) v) (passage h k) (filter Here (passages_from f k ks)))
      go true q d r = absurd (Rattle.complex.proofs.Split.apart (cell_at s k.edge) d (truth q))
      go false q d r = r

  cycle_ends : (k : Cycle) → T (cycle_ok (cell_at s) k) → Every Inside (filter Here (passages (steps_of k)))
  cycle_ends (lone u) t = tt
  cycle_ends (path []) t = tt
  cycle_ends (path (h ∷ hs)) t = elim (joins_cases (cell_at s) (h ∷ hs) t) [
    | inl w ↦ let k = w.1.1 in passages_ends h h hs k.0 k.0 (subst (λ (u : ℕ). Walk (cell_at s) (head_of (cell_at s) h) hs u) k.1 k.2)
    | inr g ↦ passages_ring h h hs g.0 g.1
  ]

  cycles_ends : (ks : List Cycle) → T (all (cycle_ok (cell_at s)) ks) → Every Inside (filter Here (turns ks))
  cycles_ends [] t = tt
  cycles_ends (k ∷ ks) t =
      let b = both (cycle_ok (cell_at s) k) (all (cycle_ok (cell_at s)) ks) t in
      subst (Every Inside) (sym (filter_append Here (passages (steps_of k)) (turns ks)))
      (every_both Inside (filter Here (passages (steps_of k))) (filter Here (turns ks)) (cycle_ends k b.0) (cycles_ends ks b.1))

  all_cycles_lem : (cs : List LiveCell) → T (all (λ (c : LiveCell). figure_ok (cell_at s) c.figure) cs) → T (all (cycle_ok (cell_at s)) (all_cycles cs))
  all_cycles_lem [] t = tt
  all_cycles_lem (c ∷ cs) t =
      let b = both (figure_ok (cell_at s) c.figure) (all (λ (d : LiveCell). figure_ok (cell_at s) d.figure) cs) t in
      Rattle.complex.proofs.Bools.all_append (cycle_ok (cell_at s)) (cycles_of (some c.figure)) (all_cycles cs) (go c.figure b.0)
      (all_cycles_lem cs b.1)
    where
      go : (t : Figure) → T (figure_ok (cell_at s) t) → T (all (cycle_ok (cell_at s)) (cycles_of (some t)))
      go (vertex p) o = tt
      go (open_edge a b bs) o = tt
      go (closed_edge bs) o = tt
      go (face ks) o = o

  pub turns_inside : Every (λ (t : Passage). T (is_in (ends_at s.cells v) t.arrives) × T (is_in (ends_at s.cells v) t.leaves)) (passages_at s.cells v)
  turns_inside = cycles_ends (all_cycles s.cells)
      (all_cycles_lem s.cells (Rattle.complex.proofs.Lookup.all_from (figure_ok (cell_at s)) 0 s.cells s.next S.rises S.figures))

  abbrev Joined : Passage → Type 0
  Joined t = group_of gs t.arrives ≡ group_of gs t.leaves

  joined : Every Joined (passages_at s.cells v)
  joined = linked_same same arrival departure (ends_at s.cells v) (passages_at s.cells v) turns_inside

  -- ---- afterwards
  abbrev uᵛ : Cycle → ℕ
  uᵛ = lone_use v

  abbrev N : ℕ
  N = length gs + uses_by uᵛ s.cells

  abbrev fᵛ : ℕ → Figure → Figure
  fᵛ = new_ends v s.next gs s.cells

  abbrev new : List Figure
  new = replicate (N - 1) (vertex p)

  abbrev lookᵛ : Look
  lookᵛ = Look' every_id fᵛ new s

  vertex_left : (u : ℕ) → T (is_vertex (cell_at s u)) → T (is_vertex (lookᵛ u))
  vertex_left u t = let w = Rattle.complex.proofs.Faces.vertex_at s u t in rw (stays_at every_id fᵛ new s u (vertex w.0) tt w.1) tt

  vertex_new : (n : ℕ) → n < N → T (is_vertex (lookᵛ (copy_of v s.next n)))
  vertex_new zero l = rw (stays_at every_id fᵛ new s v (vertex p) tt at) tt
  vertex_new (suc k) l = let e = new_at every_id fᵛ new s S (s.next + k) (omega arith) ∙ lookup_copies s.next (N - 1) k (vertex p) (omega arith) in rw e tt

  closed_left : (e : ℕ) → T (is_closed (cell_at s e)) → T (is_closed (lookᵛ e))
  closed_left e t = go (cell_at s e) refl t
    where
      go : (o : Option Figure) → cell_at s e ≡ o → T (is_closed o) → T (is_closed (lookᵛ e))
      go none q k = absurd k
      go (some (vertex r)) q k = absurd k
      go (some (open_edge a b bs)) q k = absurd k
      go (some (closed_edge bs)) q k = rw (stays_at every_id fᵛ new s e (closed_edge bs) tt q) tt
      go (some (face ks)) q k = absurd k

  -- an open edge's halfedge: its tail and head, by its groups
  ends_new : (h : Halfedge) → T (is_open (cell_at s h.edge))
      → T (is_open (lookᵛ h.edge)) × (tail_of lookᵛ h ≡ new_end v s.next gs (tail_of (cell_at s) h) h)
      × (head_of lookᵛ h ≡ new_end v s.next gs (head_of (cell_at s) h) (flipped h))
  ends_new h o =
      let k = open_at (cell_at s) h.edge o in
      let z = stays_at every_id fᵛ new s h.edge (open_edge k.0 k.1 k.2) tt k.3 in
      go k.0 k.1 k.2 h.backward refl k.3 z
    where
      go : (a b : ℕ) (bs : List Position) (x : Bool) → h.backward ≡ x → cell_at s h.edge ≡ some (open_edge a b bs)
          → lookᵛ h.edge ≡ some (open_edge (new_end v s.next gs a (along h.edge)) (new_end v s.next gs b (against h.edge)) bs)
          → T (is_open (lookᵛ h.edge)) × (tail_of lookᵛ h ≡ new_end v s.next gs (tail_of (cell_at s) h) h)
          × (head_of lookᵛ h ≡ new_end v s.next gs (head_of (cell_at s) h) (flipped h))
      go a b bs true x c z =
          let i : against h.edge ≡ h = λ j. record { edge = h.edge; backward = sym x j } in
          let k : along h.edge ≡ flipped h = λ j. record { edge = h.edge; backward = not (sym x j) } in (
            rw z tt,
            (λ j. cond (x j) (end_of (z j)) (start_of (z j))) ∙ (λ j. new_end v s.next gs (cond (sym x j) (end_of (sym c j)) (start_of (sym c j))) (i j)),
            (λ j. cond (x j) (start_of (z j)) (end_of (z j))) ∙ (λ j. new_end v s.next gs (cond (sym x j) (start_of (sym c j)) (end_of (sym c j))) (k j)),
          )
      go a b bs false x c z =
          let i : along h.edge ≡ h = λ j. record { edge = h.edge; backward = sym x j } in
          let k : against h.edge ≡ flipped h = λ j. record { edge = h.edge; backward = not (sym x j) } in (
            rw z tt,
            (λ j. cond (x j) (end_of (z j)) (start_of (z j))) ∙ (λ j. new_end v s.next gs (cond (sym x j) (end_of (sym c j)) (start_of (sym c j))) (i j)),
            (λ j. cond (x j) (start_of (z j)) (end_of (z j))) ∙ (λ j. new_end v s.next gs (cond (sym x j) (start_of (sym c j)) (end_of (sym c j))) (k j)),
          )

  -- across a passage
  across : (h k : Halfedge) (ts : List Passage) → T (is_open (cell_at s h.edge)) → T (is_open (cell_at s k.edge)) → head_of (cell_at s) h ≡ tail_of (cell_at s) k
      → Every Joined (cons_if (Here (passage h k)) (passage h k) ts) → (head_of lookᵛ h ≡ tail_of lookᵛ k) × Every Joined ts
  across h k ts a b e r = ((ends_new h a).2 ∙ meet ∙ sym (ends_new k b).1, after (Here (passage h k)) r)
    where
      after : (x : Bool) → Every Joined (cons_if x (passage h k) ts) → Every Joined ts
      after true r = r.1
      after false r = r

      meet : new_end v s.next gs (head_of (cell_at s) h) (flipped h) ≡ new_end v s.next gs (tail_of (cell_at s) k) k
      meet = ap (λ (u : ℕ). new_end v s.next gs u (flipped h)) e ∙ go (eqb v (tail_of (cell_at s) k)) refl
        where
          go : (x : Bool) → eqb v (tail_of (cell_at s) k) ≡ x → cond x (copy_of v s.next (group_of gs (flipped h))) (tail_of (cell_at s) k)
              ≡ cond x (copy_of v s.next (group_of gs k)) (tail_of (cell_at s) k)
          go true q =
              let z : Here (passage h k) ≡ true = true_of (Here (passage h k))
              (pair (is_open (cell_at s k.edge)) (eqb (tail_of (cell_at s) k) v) b (equal (sym (eqb-true v (tail_of (cell_at s) k) q)))) in
              let j : Every Joined (passage h k ∷ ts) = subst (λ (y : Bool). Every Joined (cons_if y (passage h k) ts)) z r in
              ap (copy_of v s.next) j.0
          go false q = refl

  ended_walk : (f h : Halfedge) (hs : List Halfedge) → T (is_open (cell_at s h.edge)) → T (is_open (cell_at s f.edge))
      → Walk (cell_at s) (head_of (cell_at s) h) hs (tail_of (cell_at s) f) → Every Joined (filter Here (passages_from f h hs))
      → Walk lookᵛ (head_of lookᵛ h) hs (tail_of lookᵛ f)
  ended_walk f h [] a b w e = (across h f [] a b w e).0
  ended_walk f h (k ∷ ks) a b w e = let x = across h k (filter Here (passages_from f k ks)) a w.0 w.1 e in
      ((ends_new k w.0).0, x.0, ended_walk f k ks w.0 b w.2 x.1)

  path_ended : (hs : List Halfedge) → T (joins (cell_at s) hs) → Every Joined (filter Here (passages hs)) → T (joins lookᵛ hs)
  path_ended [] t e = t
  path_ended (h ∷ hs) t e = elim (joins_cases (cell_at s) (h ∷ hs) t) [
    | inl w ↦ let k = w.1.1 in round_joins lookᵛ (h ∷ hs) tt (
      tail_of lookᵛ h,
      (
        (ends_new h k.0).0,
        refl,
        ended_walk h h hs k.0 k.0 (subst (λ (u : ℕ). Walk (cell_at s) (head_of (cell_at s) h) hs u) k.1
            k.2) e,
      ),
    )
    | inr g ↦ ring_joins lookᵛ (h ∷ hs) (closed_left h.edge g.0, g.1)
  ]

  cycle_ended : (n : ℕ) (k : Cycle) → n + lone_use v k ≤ N → T (cycle_ok (cell_at s) k) → Every Joined (filter Here (passages (steps_of k)))
      → T (cycle_ok lookᵛ (new_lone v s.next n k))
  cycle_ended n (lone w) l t e = go (eqb v w) l
    where
      go : (x : Bool) → n + cond x 1 0 ≤ N → T (is_vertex (lookᵛ (cond x (copy_of v s.next n) w)))
      go true l = vertex_new n (omega arith)
      go false l = vertex_left w t
  cycle_ended n (path hs) l t e = path_ended hs t e

  cycles_ended : (n : ℕ) (ks : List Cycle) → n + total uᵛ ks ≤ N → T (all (cycle_ok (cell_at s)) ks) → Every Joined (filter Here (turns ks))
      → T (all (cycle_ok lookᵛ) (counting uᵛ (new_lone v s.next) n ks))
  cycles_ended n [] l t e = tt
  cycles_ended n (k ∷ ks) l t e =
      let b = both (cycle_ok (cell_at s) k) (all (cycle_ok (cell_at s)) ks) t in
      let d = subst (Every Joined) (filter_append Here (passages (steps_of k)) (turns ks)) e in
      pair (cycle_ok lookᵛ (new_lone v s.next n k)) (all (cycle_ok lookᵛ) (counting uᵛ (new_lone v s.next) (n + lone_use v k) ks))
      (cycle_ended n k (omega arith) b.0 (every_left Joined (filter Here (passages (steps_of k))) (filter Here (turns ks)) d))
      (cycles_ended (n + lone_use v k) ks (omega arith) b.1 (every_right Joined (filter Here (passages (steps_of k))) (filter Here (turns ks)) d))

  end_vertex : (u : ℕ) (h : Halfedge) → T (is_vertex (cell_at s u)) → (u ≡ v → T (is_in (ends_at s.cells v) h))
      → T (is_vertex (lookᵛ (new_end v s.next gs u h)))
  end_vertex u h t a = go (eqb v u) refl
    where
      go : (x : Bool) → eqb v u ≡ x → T (is_vertex (lookᵛ (cond x (copy_of v s.next (group_of gs h)) u)))
      go true q = vertex_new (group_of gs h)
          (let l = in_some same arrival departure (ends_at s.cells v) (passages_at s.cells v) h (a (sym (eqb-true v u q))) in omega arith)
      go false q = vertex_left u t

  old_ok : (j : ℕ) (t : Figure) → cell_at s j ≡ some t → T (figure_ok (cell_at s) t) → T (figure_ok lookᵛ (fᵛ j t))
  old_ok j (vertex r) e o = o
  old_ok j (open_edge a b bs) e o =
      let x = both (is_vertex (cell_at s a)) (is_vertex (cell_at s b) && all within bs) o in
      let y = both (is_vertex (cell_at s b)) (all within bs) x.1 in
      let q : T (is_open (cell_at s j)) = rw e tt in
      pair (is_vertex (lookᵛ (new_end v s.next gs a (along j)))) (is_vertex (lookᵛ (new_end v s.next gs b (against j))) && all within bs)
      (end_vertex a (along j) x.0 (λ z. end_listed (along j) q (ap start_of e ∙ z)))
      (pair (is_vertex (lookᵛ (new_end v s.next gs b (against j)))) (all within bs)
      (end_vertex b (against j) y.0 (λ z. end_listed (against j) q (ap end_of e ∙ z))) y.1)
  old_ok j (closed_edge bs) e o = o
  old_ok j (face ks) e o =
      let w = uses_within (λ (x : Figure). total uᵛ (cycles_of (some x))) s.cells j (face ks) e in
      cycles_ended (length gs + uses_by uᵛ (earlier j s.cells)) ks (omega arith) o (passages_in Joined Here s.cells joined j (face ks) e)

  new_ok : (n : ℕ) → T (all (figure_ok lookᵛ) (replicate n (vertex p)))
  new_ok zero = tt
  new_ok (suc n) = pair (within p) (all (figure_ok lookᵛ) (replicate n (vertex p))) (S.figures v (vertex p) at) (new_ok n)

  pub vertex_unglued : T (leb (rebuild every_id fᵛ new s).next ids_end) → T (ceilings (rebuild every_id fᵛ new s).cells) → Sound (rebuild every_id fᵛ new s)
  vertex_unglued seven eight = rebuild_sound every_id fᵛ new s S seven eight (λ j t k e. old_ok j t e (S.figures j t e)) (new_ok (N - 1))

  gain_ends : (j : ℕ) (t : Figure) → gain (fᵛ j t) ≡ gain t
  gain_ends j (vertex r) = refl
  gain_ends j (open_edge a b bs) = refl
  gain_ends j (closed_edge bs) = refl
  gain_ends j (face ks) = refl

  loss_ends : (j : ℕ) (t : Figure) → loss (fᵛ j t) ≡ loss t
  loss_ends j (vertex r) = refl
  loss_ends j (open_edge a b bs) = refl
  loss_ends j (closed_edge bs) = refl
  loss_ends j (face ks) = length_counting uᵛ (new_lone v s.next) (length gs + uses_by uᵛ (earlier j s.cells)) ks

  pub ends_over : (g : Figure → ℕ) → ((j : ℕ) (t : Figure) → g (fᵛ j t) ≡ g t)
      → over g (rebuild every_id fᵛ new s).cells ≡ over g s.cells + (N - 1) * g (vertex p)
  ends_over g same = over_all g fᵛ same new s ∙ ap (λ (k : ℕ). over g s.cells + k) (total_copies g (N - 1) (vertex p))

  pub vertex_unglued_over : (over gain (rebuild every_id fᵛ new s).cells ≡ over gain s.cells + (N - 1))
      × (over loss (rebuild every_id fᵛ new s).cells ≡ over loss s.cells + 0)
  vertex_unglued_over = let a = ends_over gain gain_ends in let b = ends_over loss loss_ends in (omega arith, omega arith)

-- ---- the command
module _ (i : ℕ) (s : Sheet) (S : Sound s) (q : Passes s (unglue i)) where
  pub unglue_sound : Sound (result s (unglue i))
  unfolding question4
  unglue_sound = go (cell_at s i) refl
    where
      go : (o : Option Figure) → cell_at s i ≡ o → Sound (result s (unglue i))
      go none z = absurd (subst (λ (o : Option Figure). T (is_vertex_or_edge o)) z q.four)
      go (some (vertex p)) z = let r = as_part i s (some (vertex p)) z in rw r (vertex_unglued s S i p z (rw r at q.seven) (rw r at q.eight))
      go (some (open_edge a b bs)) z = unglue_open_sound i s S q a b bs z
      go (some (closed_edge bs)) z = unglue_closed_sound i s S q bs z
      go (some (face ks)) z = absurd (subst (λ (o : Option Figure). T (is_vertex_or_edge o)) z q.four)

  pub unglue_balanced : Balanced s (unglue i)
  unfolding question4
  unglue_balanced = go (cell_at s i) refl
    where
      go : (o : Option Figure) → cell_at s i ≡ o → Balanced s (unglue i)
      go none z = absurd (subst (λ (o : Option Figure). T (is_vertex_or_edge o)) z q.four)
      go (some (vertex p)) z =
          let r = as_part i s (some (vertex p)) z in
          let w = vertex_unglued_over s S i p z in
          let x = w.0 in
          let y = w.1 in
          rw (r, z) (omega arith)
      go (some (open_edge a b bs)) z = unglue_open_balanced i s S q a b bs z
      go (some (closed_edge bs)) z = unglue_closed_balanced i s S q bs z
      go (some (face ks)) z = absurd (subst (λ (o : Option Figure). T (is_vertex_or_edge o)) z q.four)
