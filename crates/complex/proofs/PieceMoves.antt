-- How far 01, 02 and the delete of a face move the number of pieces: each is a drawing and the same with one cell more. Assumes nothing.
use Prim.Native.Nat.{ℕ, ◌≤◌}
use native.Mathlib.Omega.{arith}
use mathlib.Core.Path.{◌≡◌, refl, sym, ap, ◌∙◌, subst}
use mathlib.Core.Logic.{inl, inr}
use mathlib.Core.Bool.{Bool, true, false, not, ◌&&◌, ◌||◌}
use mathlib.Core.List.Memᴰ
use mathlib.Core.List.{List, [], ◌∷◌, ◌++◌, append-nil, map-append, Memᴰ}
use mathlib.Core.Option.{Option, none, some}
use lib.ListN.{length, length-map}
use lib.Dec.{T, eqb, ltb, ltb→lt}
use borrow.Author.Tests.{eq-eqb, ne_eqb, eqb-true, eqb-false}
use Rattle.number.specs.Readers.{got}
use Rattle.coordinate.specs.Bounds.{within}
use Rattle.complex.specs.Lists.{all, rising, one}
use Rattle.complex.specs.Cells.{Cycle, Figure, vertex, open_edge, closed_edge, face, LiveCell, Sheet, some_if, lookup, cell_at, ids, is_vertex}
use Rattle.complex.specs.Cells.{is_vertex_or_edge}
use Rattle.complex.specs.Boundary.{boundary, bounds_at, rests}
use Rattle.complex.specs.Sound.{sound}
use Rattle.complex.specs.Decode.{Command, create, delete, edit, decode}
use Rattle.complex.specs.Edits.{keep_ids, reshape, numbered, every_id, as_it_is, others}
use Rattle.complex.specs.Delete.{goes, deleted}
use Rattle.complex.specs.Commands.{result}
use Rattle.complex.specs.Answer.{Answer, no, asked3, command}
use Rattle.complex.specs.Demands.{accepted}
use Rattle.complex.specs.Pieces.{Link, cell_of, bound_of, link, pieces, FaceGone, PiecesMoved}
use Rattle.complex.proofs.Bools.{truth, true_of, either, both, or_none}
use Rattle.complex.proofs.Lookup.{kept_all, reshaped_none, cell_with}
use Rattle.complex.proofs.Keep.{Sound, sound_parts}
use Rattle.complex.proofs.Passes.{Passes}
use Rattle.complex.proofs.Adds.{create_sound}
use Rattle.complex.proofs.Delete.{rests_exact, rests_bounds, delete_sound}
use Rattle.complex.proofs.Obey.{Asked, refusal, passed, asked}
use Rattle.complex.proofs.Every.{Every, every_at, every_more, every_map, holds_every, every_left, every_right, every_both}
use Rattle.complex.proofs.UnglueVertex.{spread_append}
use Rattle.complex.proofs.Groups.{count}
use Rattle.complex.proofs.Merges
use Rattle.complex.proofs.Pieces.{numbers, ids_once, Low, bounds_low}
use Rattle.complex.proofs.Ties.{anchor, anchors, ties_of, ties, Own, every_own, Inside, anchors_in_lem, ties_inside, pieces_ties}

-- no cell is in its own boundary
not_own : (s : Sheet) → Sound s → (i : ℕ) (x : Figure) → cell_at s i ≡ some x → Every (λ (j : ℕ). j ≡ i → ⊥) (boundary (cell_at s) x)
not_own s S i (vertex p) e = tt
not_own s S i (open_edge a b bs) e =
    let u = both (is_vertex (cell_at s a)) (is_vertex (cell_at s b) && all within bs) (S.figures i (open_edge a b bs) e) in
    let w = both (is_vertex (cell_at s b)) (all within bs) u.1 in
    (none a u.0, (none b w.0, tt))
  where
    none : (j : ℕ) → T (is_vertex (cell_at s j)) → j ≡ i → ⊥
    none j t z = subst (λ (o : Option Figure). T (is_vertex o)) (ap (cell_at s) z ∙ e) t
not_own s S i (closed_edge bs) e = tt
not_own s S i (face ks) e =
    every_more (Low s S) (λ (j : ℕ). j ≡ i → ⊥) (λ j t z. subst (λ (o : Option Figure). T (is_vertex_or_edge o)) (ap (cell_at s) z ∙ e) t)
    (boundary (cell_at s) (face ks)) (bounds_low s S (face ks) (S.figures i (face ks) e))

-- ---- one cell more: it is a piece of its own, its first tie joins it to another, each further one joins two pieces at most
abbrev number : List ℕ → List Link → ℕ
number is ls = Merges.number eqb numbers cell_of bound_of is ls

module _ (s t : Sheet) (S : Sound s) (U : Sound t) (cs : List LiveCell) (c : LiveCell) (ds : List LiveCell)
    (before : s.cells ≡ cs ++ ds) (after : t.cells ≡ cs ++ c ∷ ds) where
  abbrev old : List ℕ
  old = ids cs ++ ids ds

  abbrev new : List ℕ
  new = ids cs ++ c.id ∷ ids ds

  abbrev old_ties : List Link
  old_ties = ties cs ++ ties ds

  ids_before : ids s.cells ≡ old
  ids_before = ap ids before ∙ map-append (λ (c : LiveCell). c.id) cs ds

  ids_after : ids t.cells ≡ new
  ids_after = ap ids after ∙ map-append (λ (c : LiveCell). c.id) cs (c ∷ ds)

  ties_before : ties s.cells ≡ old_ties
  ties_before = ap ties before ∙ spread_append ties_of cs ds

  ties_after : ties t.cells ≡ ties cs ++ (ties_of c ++ ties ds)
  ties_after = ap ties after ∙ spread_append ties_of cs (c ∷ ds)

  inside_before : Every (Inside old) old_ties
  inside_before = subst (λ (ls : List Link). Every (Inside old) ls) ties_before
      (subst (λ (is : List ℕ). Every (Inside is) (ties s.cells)) ids_before (ties_inside s S))

  inside_after : Every (Inside new) (ties cs ++ (ties_of c ++ ties ds))
  inside_after = subst (λ (ls : List Link). Every (Inside new) ls) ties_after
      (subst (λ (is : List ℕ). Every (Inside is) (ties t.cells)) ids_after (ties_inside t U))

  -- the ties of c last
  inside_last : Every (Inside new) (old_ties ++ ties_of c)
  inside_last =
      let a = every_left (Inside new) (ties cs) (ties_of c ++ ties ds) inside_after in
      let b = every_right (Inside new) (ties cs) (ties_of c ++ ties ds) inside_after in
      every_both (Inside new) old_ties (ties_of c) (every_both (Inside new) (ties cs) (ties ds) a (every_right (Inside new) (ties_of c) (ties ds) b))
      (every_left (Inside new) (ties_of c) (ties ds) b)

  once : (i : ℕ) → count eqb i new ≤ 1
  once = subst (λ (is : List ℕ). (i : ℕ) → count eqb i is ≤ 1) ids_after (ids_once t U)

  pieces_before : number old old_ties ≡ pieces s.cells
  pieces_before = (λ i. number (sym ids_before i) (sym ties_before i)) ∙ pieces_ties s S

  pieces_after : number new (old_ties ++ ties_of c) ≡ pieces t.cells
  pieces_after =
      sym (Merges.join_last eqb numbers cell_of bound_of new once (ties cs) (ties_of c) (ties ds) inside_after)
      ∙ (λ i. number (sym ids_after i) (sym ties_after i))
      ∙ pieces_ties t U

  -- a tie of c leads to another cell
  abbrev Away : Link → Type 0
  Away l = (l.cell ≡ c.id) × (l.bound ≡ c.id → ⊥)

  ties_away : Every Away (ties_of c)
  ties_away =
      let m = subst (Memᴰ c) (sym after) (Memᴰ.append_right cs (Memᴰ.head refl)) in
      let e = every_at (Own t) t.cells (every_own t U) m in
      every_map Away (link c.id) (anchors c.figure)
      (every_more (λ (i : ℕ). Memᴰ i (boundary (cell_at t) c.figure)) (λ (i : ℕ). Away (link c.id i))
      (λ i n. (refl, every_at (λ (j : ℕ). j ≡ c.id → ⊥) (boundary (cell_at t) c.figure) (not_own t U c.id c.figure e) n)) (anchors c.figure)
      (anchors_in_lem t U c.figure (U.figures c.id c.figure e)))

  joined_by : (us : List Link) → Every Away us → Every (Inside new) (old_ties ++ us)
      → FaceGone (length us) (number new (old_ties ++ us)) (number old old_ties)
  joined_by [] a i =
      sym (ap (number new) (append-nil old_ties) ∙ Merges.one_alone eqb numbers cell_of bound_of (ids cs) (ids ds) c.id once old_ties inside_before)
  joined_by (u ∷ us) a i =
      Merges.one_joined eqb numbers cell_of bound_of (ids cs) (ids ds) c.id once old_ties inside_before u us a.0.0 a.0.1 i

  cell_more : FaceGone (length (anchors c.figure)) (pieces t.cells) (pieces s.cells)
  cell_more =
      subst (λ (n : ℕ). FaceGone n (pieces t.cells) (pieces s.cells)) (length-map (anchors c.figure) (link c.id))
      (subst (λ (n : ℕ). FaceGone (length (ties_of c)) n (pieces s.cells)) pieces_after
      (subst (λ (n : ℕ). FaceGone (length (ties_of c)) (number new (old_ties ++ ties_of c)) n) pieces_before (joined_by (ties_of c) ties_away inside_last)))

-- ---- an accepted command gives the result of a sound drawing
record Accepted (s : Sheet) (b : List ℕ) (c : Command) : Type 0 where
  is_sound : Sound s
  passes : Passes s c
  gives : (command s b).sheet ≡ result s c

accepted_edit : (s : Sheet) (b : List ℕ) (c : Command) (t : List ℕ) → decode b ≡ got (edit c) t → T (accepted s b) → Accepted s b c
unfolding command
accepted_edit s b c t d a = elim (either (sound s)) [
  | inl e ↦ judged e (rw (e, d)) (asked s c)
  | inr e ↦ absurd (refused 1 (λ z. omega arith) (rw e))
]
  where
    refused : (n : ℕ) → (n ≡ 0 → ⊥) → command s b ≡ no n s → ⊥
    refused n z q = z (eqb-true n 0 (ap (λ (x : Answer). eqb x.number 0) (sym q) ∙ true_of (accepted s b) a))

    judged : sound s ≡ true → command s b ≡ asked3 s c → Asked s c → Accepted s b c
    judged e q (refusal n z r) = absurd (refused n z (q ∙ r))
    judged e q (passed p r) = record { is_sound = sound_parts s (truth e); passes = p; gives = ap (λ (x : Answer). x.sheet) (q ∙ r) }

-- ---- 01 to 04
created_cells : (s : Sheet) (x : Figure) → (result s (create x)).cells ≡ s.cells ++ cell_with s.next x ∷ []
unfolding result
created_cells s x = ap (λ (cs : List LiveCell). cs ++ numbered s.next (one x)) (reshaped_none (keep_ids every_id s.cells) ∙ kept_all s.cells)

created : (s : Sheet) (b : List ℕ) (x : Figure) (t : List ℕ) → decode b ≡ got (edit (create x)) t → T (accepted s b)
    → FaceGone (length (anchors x)) (pieces (command s b).sheet.cells) (pieces s.cells)
created s b x t d a =
    let A = accepted_edit s b (create x) t d a in
    rw A.gives
    (cell_more s (result s (create x)) A.is_sound (create_sound x s A.is_sound A.passes) s.cells (cell_with s.next x) []
    (sym (append-nil s.cells)) (created_cells s x))

-- ---- a face deleted
-- the cells before and after one
record Around (cs : List LiveCell) (i : ℕ) (x : Figure) : Type 0 where
  front : List LiveCell
  back : List LiveCell
  all_cells : cs ≡ front ++ cell_with i x ∷ back
  other_cells : keep_ids (others i) cs ≡ front ++ back

kept_above : (lo : ℕ) (cs : List LiveCell) (hi i : ℕ) → T (rising lo (ids cs) hi) → i ≤ lo → keep_ids (others i) cs ≡ cs
kept_above lo [] hi i r h = refl
kept_above lo (c ∷ cs) hi i r h =
    let b = both (ltb lo c.id) (rising c.id (ids cs) hi) r in
    let l = ltb→lt lo c.id b.0 in
    rw (ne_eqb i c.id (λ e. omega arith)) (ap (λ (ds : List LiveCell). c ∷ ds) (kept_above c.id cs hi i b.1 (omega arith)))

around : (lo : ℕ) (cs : List LiveCell) (hi i : ℕ) (x : Figure) → T (rising lo (ids cs) hi) → lookup cs i ≡ some x → Around cs i x
around lo [] hi i x r e = absurd (let z : ◌≡◌ {A = ℕ} 0 1 = cc in omega arith)
around lo (c ∷ cs) hi i x r e =
    let b = both (ltb lo c.id) (rising c.id (ids cs) hi) r in
    go (eqb c.id i) refl e b.1 (around c.id cs hi i x b.1)
  where
    go : (y : Bool) → eqb c.id i ≡ y → some_if y c.figure (lookup cs i) ≡ some x → T (rising c.id (ids cs) hi)
        → (lookup cs i ≡ some x → Around cs i x) → Around (c ∷ cs) i x
    go true q g k f =
        let n = eqb-true c.id i q in
        let z : c.figure ≡ x = cc in
        record {
          front = [];
          back = cs;
          all_cells = λ j. cell_with (n j) (z j) ∷ cs;
          other_cells = rw (eq-eqb i c.id (sym n)) (kept_above c.id cs hi i k (omega arith));
        }
    go false q g k f =
        let A = f g in
        record {
          front = c ∷ A.front;
          back = A.back;
          all_cells = ap (λ (ds : List LiveCell). c ∷ ds) A.all_cells;
          other_cells = rw (ne_eqb i c.id (λ z. eqb-false c.id i q (sym z))) (ap (λ (ds : List LiveCell). c ∷ ds) A.other_cells);
        }

module _ (s : Sheet) (S : Sound s) (f : ℕ) (ks : List Cycle) (at : cell_at s f ≡ some (face ks)) where
  -- no boundary holds a face, so nothing rests on it
  none_rests : (j : ℕ) → rests (cell_at s) (length s.cells) f j ≡ false
  none_rests j = go (rests (cell_at s) (length s.cells) f j) refl
    where
      low : (o : Option Figure) → cell_at s j ≡ o → T (bounds_at (cell_at s) f o) → T (is_vertex_or_edge (cell_at s f))
      low none q t = absurd t
      low (some x) q t = holds_every (Low s S) (boundary (cell_at s) x) f (bounds_low s S x (S.figures j x q)) t

      go : (y : Bool) → rests (cell_at s) (length s.cells) f j ≡ y → y ≡ false
      go true q = absurd (subst (λ (o : Option Figure). T (is_vertex_or_edge o)) at
          (low (cell_at s j) refl (rests_bounds s S f j ((rests_exact s S f j).0 (truth q)))))
      go false q = refl

  deleted_cells : (result s (delete f)).cells ≡ keep_ids (others f) s.cells
  unfolding result deleted
  deleted_cells =
      append-nil (reshape as_it_is (keep_ids (λ (j : ℕ). not (goes s f j)) s.cells))
      ∙ reshaped_none (keep_ids (λ (j : ℕ). not (goes s f j)) s.cells)
      ∙ (λ i. keep_ids (λ (j : ℕ). not (only j i)) s.cells)
    where
      only : (j : ℕ) → goes s f j ≡ eqb f j
      only j = ap (λ (y : Bool). eqb f j || y) (none_rests j) ∙ or_none (eqb f j)

  face_less : Passes s (delete f) → FaceGone (length ks) (pieces s.cells) (pieces (result s (delete f)).cells)
  face_less p =
      let A = around 0 s.cells s.next f (face ks) S.rises at in
      subst (λ (n : ℕ). FaceGone n (pieces s.cells) (pieces (result s (delete f)).cells)) (length-map ks anchor)
      (cell_more (result s (delete f)) s (delete_sound f s S p) S A.front (cell_with f (face ks)) A.back
      (deleted_cells ∙ A.other_cells) A.all_cells)

pub pieces_moved : PiecesMoved
pieces_moved s b =
    record {
      vertex_more = λ p t d a. sym (created s b (vertex p) t d a);
      edge_no_more = λ u w bs t d a. (created s b (open_edge u w bs) t d a).0;
      edge_one_less = λ u w bs t d a. let h = (created s b (open_edge u w bs) t d a).1 in omega arith;
      face_gone = λ f ks t d e a. let A = accepted_edit s b (delete f) t d a in rw A.gives (face_less s A.is_sound f ks e A.passes);
    }
