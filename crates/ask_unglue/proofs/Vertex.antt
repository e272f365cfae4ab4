-- The links and the marks of a vertex's ends are its passages and ends, and their classes its groups. Assumes nothing.
use Prim.Native.Nat.{ℕ, zero, suc, ◌+◌, ◌-◌, ◌*◌, ◌/◌, ◌%◌, ◌≤◌, ◌<◌}
use native.Mathlib.Omega.{arith}
use mathlib.Core.Path.{◌≡◌, refl, sym, ap, ap₂, ◌∙◌, subst}
use mathlib.Core.Logic.{inl, inr}
use mathlib.Core.Bool.{Bool, true, false, ◌&&◌, cond, true≢false}
use mathlib.Core.List.Memᴰ
use mathlib.Core.List.{List, [], ◌∷◌, map, Memᴰ}
use mathlib.Core.Option.{Option, none, some}
use borrow.Author.Tests.{eqb-true, eqb-false, eq-eqb, ne_eqb, ltb-true, ltb-false}
use lib.Dec.{T, eqb, ltb}
use lib.ListN.{length, take, get_or, length-map, get_or-map, get_or-eq_default}
use lib.Seq.{get_or-take, length-take-le}
use Rattle.coordinate.specs.declared.Position.{Position}
use Rattle.complex.specs.Lists.{filter, cons_if, rising}
use Rattle.complex.specs.Cells.{Halfedge, Figure, vertex, open_edge, closed_edge, face, is_vertex, LiveCell, Sheet, along, against, lookup, cell_at, ids, is_open}
use Rattle.complex.specs.Cells.{start_of, end_of, tail_of}
use Rattle.complex.specs.Uses.{lone_use, on_uses, ends_at, Passage, passages_at, all_cycles, is_in, groups, group_of, Together}
use Rattle.complex.specs.Groups.{linked, itself, back, chain}
use Rattle.complex.proofs.Bools.{truth, true_of, both}
use Rattle.complex.proofs.Keep.{Sound, sound_parts}
use Rattle.complex.proofs.UnglueVertex.{end_in, open_at}
use Rattle.complex.proofs.Groups.{group_at}
use Rattle.complex.proofs.EndGroups.{first_at, together_same, same_together, in_some, in_own, in_only, members_end, none_empty, first_earliest, by_first}
use Rattle.store.specs.declared.Drawing.{Drawing}
use Rattle.store.specs.declared.Index.{Index}
use Rattle.store.specs.Index.{Indexes, Rising, row_of}
use Rattle.store.specs.Sizes.{Sizes}
use Rattle.store.specs.View.{sheet_of}
use Rattle.store.specs.Edits.{with_entries}
use Rattle.store.proofs.Grow.{next_is}
use Rattle.complex.proofs.Lookup.{ids_reshape}
use Rattle.store.proofs.Rows.{get_d_any}
use Rattle.store.proofs.Stands.{ids_same, stands, count_is}
use Rattle.complex.specs.Edits.{reshape}
use Rattle.complex.specs.Unglue.{copy_of, new_end, new_ends, new_lone, ungluing}
use Rattle.rows_steps.specs.Ends.{re_ended, ends_by}
use Rattle.rows_steps.proofs.Placed.{no_entry, RowOk, row_ok, ended_rows}
use Rattle.rows_copied.proofs.Ungluing.{new_start, new_stop, ends-then-lone}
use Rattle.sound.specs.Soundness.{sound_drawing}
use Rattle.sound.specs.Looks.{index_value, Looks}
use Rattle.sound.proofs.Meaning as meaning
use Rattle.rows_groups.specs.Search.{Links, SameAlong, Marked, Classes, Numbered}
use Rattle.rows_links.specs.Links.{place_at, turns_of, link_kept, left_places, right_places}
use Rattle.ask_unglue.specs.Places.{is_end, GroupedEnds}
use Rattle.rows_ends.specs.Ends.{EndMarks, end_after as newOf, NewEnds}
use Rattle.ask_unglue.proofs.Order.{listed, in_order}

-- ---- rows
row_first : (x : ℕ) (l : List ℕ) (j : ℕ) → j < length l → get_or l j 0 ≡ x → ((i : ℕ) → i < j → get_or l i 0 ≡ x → ⊥) → row_of x l ≡ j
row_first x [] j h e n = absurd (omega arith)
row_first x (y ∷ l) zero h e n = ap (λ (b : Bool). cond b 0 (suc (row_of x l))) (eq-eqb y x e)
row_first x (y ∷ l) (suc j) h e n =
    ap (λ (b : Bool). cond b 0 (suc (row_of x l))) (ne_eqb y x (n 0 (omega arith)))
    ∙ ap suc (row_first x l j (omega arith) e (λ i k. n (suc i) (omega arith)))

row_at : (l : List ℕ) → Rising l → (j : ℕ) → j < length l → row_of (get_or l j 0) l ≡ j
row_at l r j h = row_first (get_or l j 0) l j h refl (λ i k e. let b = r.below i j k h in omega arith)

at_row : (x : ℕ) (l : List ℕ) → row_of x l < length l → get_or l (row_of x l) 0 ≡ x
at_row x [] h = absurd (omega arith)
at_row x (y ∷ l) h = go (eqb y x) refl h (at_row x l)
  where
    go : (b : Bool) → eqb y x ≡ b → cond b 0 (suc (row_of x l)) < suc (length l) → (row_of x l < length l → get_or l (row_of x l) 0 ≡ x)
        → get_or (y ∷ l) (cond b 0 (suc (row_of x l))) 0 ≡ x
    go true e h r = eqb-true y x e
    go false e h r = r (omega arith)

-- the halfedge of a place
abbrev pub half_at : List ℕ → ℕ → Halfedge
half_at is p = record { edge = get_or is (p / 2) 0; backward = eqb (p % 2) 1 }

half_place : (is : List ℕ) (h : Halfedge) → row_of h.edge is < length is → half_at is (place_at is h) ≡ h
half_place is h l = go h.backward
  where
    r : ℕ
    r = row_of h.edge is

    go : (b : Bool) → half_at is (row_of h.edge is * 2 + cond b 1 0) ≡ record { edge = h.edge; backward = b }
    go true =
        ap₂ (λ (k : ℕ) (b : Bool). record { edge = get_or is k 0; backward = b }) (omega arith) (eq-eqb ((row_of h.edge is * 2 + 1) % 2) 1 (omega arith))
        ∙ ap (λ (k : ℕ). record { edge = k; backward = true }) (at_row h.edge is l)
    go false =
        ap₂ (λ (k : ℕ) (b : Bool). record { edge = get_or is k 0; backward = b }) (omega arith) (ne_eqb ((row_of h.edge is * 2 + 0) % 2) 1 (λ e. omega arith))
        ∙ ap (λ (k : ℕ). record { edge = k; backward = false }) (at_row h.edge is l)

place_half : (is : List ℕ) → Rising is → (p : ℕ) → p / 2 < length is → place_at is (half_at is p) ≡ p
place_half is r p h = ap (λ (k : ℕ). k * 2 + cond (eqb (p % 2) 1) 1 0) (row_at is r (p / 2) h) ∙ go (eqb (p % 2) 1) refl
  where
    go : (b : Bool) → eqb (p % 2) 1 ≡ b → p / 2 * 2 + cond b 1 0 ≡ p
    go true e = let q = eqb-true (p % 2) 1 e in omega arith
    go false e = let q = eqb-false (p % 2) 1 e in omega arith

-- ---- members
module _ {A : Type 0} where
  mem_at : (xs : List A) (i : ℕ) (d : A) → i < length xs → Memᴰ (get_or xs i d) xs
  mem_at [] i d h = absurd (omega arith)
  mem_at (x ∷ xs) zero d h = Memᴰ.head refl
  mem_at (x ∷ xs) (suc i) d h = Memᴰ.tail (mem_at xs i d (omega arith))

  at_mem : (Q : A → Type 0) (xs : List A) (d : A) → ((i : ℕ) → i < length xs → Q (get_or xs i d)) → {t : A} → Memᴰ t xs → Q t
  at_mem Q [] d h m = absurd (Memᴰ.not-nil m)
  at_mem Q (x ∷ xs) d h m = elim (Memᴰ.cases_cons m) [
    | inl e ↦ subst Q (sym e) (h 0 (omega arith))
    | inr n ↦ at_mem Q xs d (λ i l. h (suc i) (omega arith)) n
  ]

  mem_chosen : (q : A → Bool) (xs : List A) {t : A} → Memᴰ t (filter q xs) → T (q t)
  mem_chosen q [] m = absurd (Memᴰ.not-nil m)
  mem_chosen q (x ∷ xs) {t} m = go (q x) refl m (λ n. mem_chosen q xs n)
    where
      go : (b : Bool) → q x ≡ b → Memᴰ t (cons_if b x (filter q xs)) → (Memᴰ t (filter q xs) → T (q t)) → T (q t)
      go true e m r = elim (Memᴰ.cases_cons m) [
        | inl z ↦ subst (λ (y : A). T (q y)) (sym z) (truth e)
        | inr n ↦ r n
      ]
      go false e m r = r m

  narrow : (p q : A → Bool) (xs : List A) → ((t : A) → Memᴰ t (filter q xs) → p t ≡ true) → ((t : A) → T (p t) → T (q t)) → filter p xs ≡ filter q xs
  narrow p q [] h k = refl
  narrow p q (x ∷ xs) h k = go (p x) (q x) refl refl h (narrow p q xs)
    where
      go : (a b : Bool) → p x ≡ a → q x ≡ b → ((t : A) → Memᴰ t (cons_if b x (filter q xs)) → p t ≡ true)
          → (((t : A) → Memᴰ t (filter q xs) → p t ≡ true) → ((t : A) → T (p t) → T (q t)) → filter p xs ≡ filter q xs)
          → cons_if a x (filter p xs) ≡ cons_if b x (filter q xs)
      go true true e f h r = ap (λ (l : List A). x ∷ l) (r (λ t m. h t (Memᴰ.tail m)) k)
      go true false e f h r = absurd (subst T f (k x (truth e)))
      go false true e f h r = absurd (true≢false (sym (h x (Memᴰ.head refl)) ∙ e))
      go false false e f h r = r h k

own_lt : (gs : List (List Halfedge)) (x : Halfedge) → group_of gs x < length gs → T (is_in (group_at gs (group_of gs x)) x)
own_lt [] x h = absurd (omega arith)
own_lt (g ∷ gs) x h = go (is_in g x) refl h (own_lt gs x)
  where
    go : (b : Bool) → is_in g x ≡ b → cond b 0 (suc (group_of gs x)) < suc (length gs) → (group_of gs x < length gs → T (is_in (group_at gs (group_of gs x)) x))
        → T (is_in (group_at (g ∷ gs) (cond b 0 (suc (group_of gs x)))) x)
    go true e h r = truth e
    go false e h r = r (omega arith)

in_range : (at : List Bool) (p : ℕ) → Marked at p → p < length at
in_range at p m = go (ltb p (length at)) refl
  where
    go : (b : Bool) → ltb p (length at) ≡ b → p < length at
    go true q = ltb-true p (length at) q
    go false q = absurd (true≢false (sym m ∙ get_or-eq_default at false (ltb-false p (length at) q)))

mapped_at : (f : Passage → ℕ) (m : ℕ) (xs : List ℕ) (ts : List Passage) (t : Passage) → m ≡ length ts → take m xs ≡ map f ts → (i : ℕ) → i < m
    → get_or xs i 0 ≡ f (get_or ts i t)
mapped_at f m xs ts t em e i l =
    let n = length-map ts f in
    sym (get_or-take m xs i 0 l) ∙ ap (λ (r : List ℕ). get_or r i 0) e ∙ get_d_any (map f ts) i 0 (f t) (omega arith) ∙ get_or-map f ts i t

-- ---- the marks
module _ (d : Drawing) (z : Sizes d) (w : T (sound_drawing d)) (ix : Index) (x : Indexes d ix) (v : ℕ) (at : List Bool)
    (M : EndMarks ix.kinds ix.starts ix.ends v d.count at) where
  abbrev cs : List LiveCell
  cs = (sheet_of d).cells

  abbrev is : List ℕ
  is = take d.count ix.ids

  looks_in : Looks d ix
  looks_in = meaning.looks d z ix x w

  few : d.count ≤ 256
  few = (meaning.sound_fits d w).cells

  rows_length : length (take d.count ix.ids) ≡ d.count
  rows_length = let f = few in length-take-le d.count ix.ids (let s = x.sizes.0 in omega arith)

  value_in : (vs : List ℕ) → length vs ≡ 256 → (e y : ℕ) → row_of e (take d.count ix.ids) < d.count
      → get_or vs (row_of e (take d.count ix.ids)) 0 ≡ index_value y d ix vs e
  value_in vs l e y h = let f = few in get_d_any vs (row_of e is) 0 y (omega arith) ∙ sym (get_or-take d.count vs (row_of e is) y h)

  -- the mark at the place of a halfedge says if it is an end at v
  mark_side : (e : ℕ) (b : Bool) → get_or at (row_of e (take d.count ix.ids) * 2 + cond b 1 0)
      false ≡ (is_open (lookup (sheet_of d).cells e) && eqb (cond b (end_of (lookup (sheet_of d).cells e)) (start_of (lookup (sheet_of d).cells e))) v)
  mark_side e b = go (ltb (row_of e is) d.count) refl
    where
      kind : row_of e is < d.count → eqb (get_or ix.kinds (row_of e is) 0) 1 ≡ is_open (lookup cs e)
      kind h = ap (λ (k : ℕ). eqb k 1) (value_in ix.kinds x.sizes.1 e 4 h) ∙ meaning.open_at looks_in e

      in_row : row_of e is < d.count → (b : Bool) → get_or at (row_of e is * 2 + cond b 1 0)
          false ≡ (is_open (lookup cs e) && eqb (cond b (end_of (lookup cs e)) (start_of (lookup cs e))) v)
      in_row h true = M.end (row_of e is) h ∙ ap₂ (λ (o : Bool) (k : ℕ). o && eqb k v) (kind h) (value_in ix.ends x.sizes.3 e 0 h ∙ looks_in.ends e)
      in_row h false =
          ap (λ (k : ℕ). get_or at k false) (plain (row_of e is * 2)) ∙ M.start (row_of e is) h
          ∙ ap₂ (λ (o : Bool) (k : ℕ). o && eqb k v) (kind h) (value_in ix.starts x.sizes.2 e 0 h ∙ looks_in.starts e)
        where
          plain : (n : ℕ) → n + 0 ≡ n
          plain n = omega arith

      go : (t : Bool) → ltb (row_of e is) d.count ≡ t → get_or at (row_of e is * 2 + cond b 1 0)
          false ≡ (is_open (lookup cs e) && eqb (cond b (end_of (lookup cs e)) (start_of (lookup cs e))) v)
      go true q = in_row (ltb-true (row_of e is) d.count q) b
      go false q =
          let l = ltb-false (row_of e is) d.count q in
          let f = few in
          let t : index_value 4 d ix ix.kinds e ≡ 4 = get_or-eq_default (take d.count ix.kinds) 4
          (let k = length-take-le d.count ix.kinds (let s = x.sizes.1 in omega arith) in omega arith) in
          M.rest (row_of e is * 2 + cond b 1 0) (omega arith)
          ∙ sym (ap (λ (o : Bool). o && eqb (cond b (end_of (lookup cs e)) (start_of (lookup cs e))) v)
          (sym (meaning.open_at looks_in e) ∙ ap (λ (k : ℕ). eqb k 1) t))

  pub mark_is : (h : Halfedge) → get_or at (place_at (take d.count ix.ids) h) false ≡ is_end (sheet_of d).cells v h
  mark_is h = mark_side h.edge h.backward

  sound_in : Sound (sheet_of d)
  sound_in = sound_parts (sheet_of d) (meaning.sound_sheet_lem d w)

  -- ends are listed, and what is listed is an end
  end_listed : (h : Halfedge) → T (is_end (sheet_of d).cells v h) → T (is_in (ends_at (sheet_of d).cells v) h)
  end_listed h t =
      let b = both (is_open (lookup cs h.edge)) (eqb (tail_of (lookup cs) h) v) t in
      let o = open_at (lookup cs) h.edge b.0 in
      end_in cs v h o.0 o.1 o.2 o.3 (ap (λ (f : Option Figure). cond h.backward (end_of f) (start_of f)) (sym o.3)
      ∙ eqb-true (tail_of (lookup cs) h) v (true_of (eqb (tail_of (lookup cs) h) v) b.1))

  listed_end : (h : Halfedge) → T (is_in (ends_at (sheet_of d).cells v) h) → T (is_end (sheet_of d).cells v h)
  listed_end h m = (listed 0 cs (sheet_of d).next v h sound_in.rises m).0

  end_row_lem : (h : Halfedge) → T (is_end (sheet_of d).cells v h) → row_of h.edge (take d.count ix.ids) < d.count
  end_row_lem h t = go (ltb (row_of h.edge is) d.count) refl
    where
      go : (b : Bool) → ltb (row_of h.edge is) d.count ≡ b → row_of h.edge is < d.count
      go true q = ltb-true (row_of h.edge is) d.count q
      go false q =
          let l = ltb-false (row_of h.edge is) d.count q in
          absurd (true≢false (sym (mark_is h ∙ true_of (is_end cs v h) t) ∙ M.rest (place_at is h) (omega arith)))

  half_of : (h : Halfedge) → T (is_end (sheet_of d).cells v h) → half_at (take d.count ix.ids) (place_at (take d.count ix.ids) h) ≡ h
  half_of h t = let r = end_row_lem h t in let l = rows_length in half_place is h (omega arith)

  place_of_lem : (p : ℕ) → Marked at p → place_at (take d.count ix.ids) (half_at (take d.count ix.ids) p) ≡ p
  place_of_lem p m = go (ltb (p / 2) d.count) refl
    where
      go : (b : Bool) → ltb (p / 2) d.count ≡ b → place_at is (half_at is p) ≡ p
      go true q = let l = ltb-true (p / 2) d.count q in let r = rows_length in place_half is looks_in.rising p (omega arith)
      go false q = let l = ltb-false (p / 2) d.count q in absurd (true≢false (sym m ∙ M.rest p (omega arith)))

  marked_end : (p : ℕ) → Marked at p → T (is_end (sheet_of d).cells v (half_at (take d.count ix.ids) p))
  marked_end p m = truth (sym (mark_is (half_at is p)) ∙ ap (λ (k : ℕ). get_or at k false) (place_of_lem p m) ∙ m)

  -- ---- the links are the passages at v
  module _ (q : Position) (av : cell_at (sheet_of d) v ≡ some (vertex q)) where
    abbrev gs : List (List Halfedge)
    gs = groups (sheet_of d).cells v

    abbrev ts : List Passage
    ts = passages_at (sheet_of d).cells v

    leaves_end : (t : Passage) → Memᴰ t (passages_at (sheet_of d).cells v) → T (is_end (sheet_of d).cells v t.leaves)
    leaves_end t m = mem_chosen (λ (u : Passage). is_end cs v u.leaves) (turns_of (all_cycles cs)) m

    arrives_end : (t : Passage) → Memᴰ t (passages_at (sheet_of d).cells v) → T (is_end (sheet_of d).cells v t.arrives)
    arrives_end t m =
        let s = in_some (sheet_of d) sound_in v t.leaves (end_listed t.leaves (leaves_end t m)) in
        let e = together_same (sheet_of d) sound_in v q av (linked t m) in
        listed_end t.arrives (members_end (sheet_of d) sound_in v t.arrives (group_of gs t.arrives) (own_lt gs t.arrives (omega arith)))

    pub kept_are : filter (link_kept (take d.count ix.ids) at) (turns_of (all_cycles (sheet_of d).cells)) ≡ passages_at (sheet_of d).cells v
    kept_are =
        narrow (link_kept is at) (λ (u : Passage). is_end cs v u.leaves) (turns_of (all_cycles cs))
        (λ t m. ap₂ ◌&&◌ (mark_is t.arrives ∙ true_of (is_end cs v t.arrives) (arrives_end t m))
        (mark_is t.leaves ∙ true_of (is_end cs v t.leaves) (leaves_end t m)))
        (λ t k. subst T (mark_is t.leaves) (both (get_or at (place_at is t.arrives) false) (get_or at (place_at is t.leaves) false) k).1)

    -- the class of a place is the group of its end
    abbrev pub label : ℕ → ℕ
    label p = group_of (groups (sheet_of d).cells v) (half_at (take d.count ix.ids) p)

    label_of : (h : Halfedge) → T (is_end (sheet_of d).cells v h) → label (place_at (take d.count ix.ids) h) ≡ group_of (groups (sheet_of d).cells v) h
    label_of h t = ap (group_of gs) (half_of h t)

    end_marked : (h : Halfedge) → T (is_end (sheet_of d).cells v h) → Marked at (place_at (take d.count ix.ids) h)
    end_marked h t = mark_is h ∙ true_of (is_end cs v h) t

    module _ (m : ℕ) (xs ys : List ℕ) (em : m ≡ length (passages_at (sheet_of d).cells v))
        (ex : take m xs ≡ left_places (take d.count ix.ids) (passages_at (sheet_of d).cells v))
        (ey : take m ys ≡ right_places (take d.count ix.ids) (passages_at (sheet_of d).cells v)) where
      abbrev blank : Passage
      blank = record { arrives = along 0; leaves = along 0 }

      left_at : (i : ℕ) → i < m → get_or xs i 0 ≡ place_at is (get_or ts i blank).arrives
      left_at = mapped_at (λ (t : Passage). place_at is t.arrives) m xs ts blank em ex

      right_at_lem : (i : ℕ) → i < m → get_or ys i 0 ≡ place_at is (get_or ts i blank).leaves
      right_at_lem = mapped_at (λ (t : Passage). place_at is t.leaves) m ys ts blank em ey

      member : (i : ℕ) → i < m → Memᴰ (get_or ts i blank) ts
      member i l = mem_at ts i blank (omega arith)

      pub links_in : m ≤ length xs → m ≤ length ys → Links (length at) xs ys m
      links_in hx hy =
          record {
            lefts = hx;
            rights = hy;
            left =
                λ i l. let e = left_at i l in let r = in_range at (place_at is (get_or ts i blank).arrives)
                (end_marked (get_or ts i blank).arrives (arrives_end (get_or ts i blank) (member i l))) in omega arith;
            right =
                λ i l. let e = right_at_lem i l in let r = in_range at (place_at is (get_or ts i blank).leaves)
                (end_marked (get_or ts i blank).leaves (leaves_end (get_or ts i blank) (member i l))) in omega arith;
          }

      label_along : SameAlong xs ys m label
      label_along i l =
          let t = get_or ts i blank in
          ap label (left_at i l) ∙ label_of t.arrives (arrives_end t (member i l)) ∙ together_same (sheet_of d) sound_in v q av (linked t (member i l))
          ∙ sym (label_of t.leaves (leaves_end t (member i l))) ∙ ap label (sym (right_at_lem i l))

      follow : (H : ℕ → ℕ) → SameAlong xs ys m H → {x y : Halfedge} → Together (passages_at (sheet_of d).cells v) x y
          → H (place_at (take d.count ix.ids) x) ≡ H (place_at (take d.count ix.ids) y)
      follow H a (linked t k) =
          at_mem (λ (u : Passage). H (place_at is u.arrives) ≡ H (place_at is u.leaves)) ts blank
          (λ i l. let n : i < m = omega arith in ap H (sym (left_at i n)) ∙ a i n ∙ ap H (right_at_lem i n)) k
      follow H a (itself x) = refl
      follow H a (back h) = sym (follow H a h)
      follow H a (chain h k) = follow H a h ∙ follow H a k

      pub classes : Classes at xs ys m label
      classes =
          record {
            along = label_along;
            alike =
                λ H a p r mp mr e. ap H (sym (place_of_lem p mp))
                ∙ follow H a (same_together (sheet_of d) sound_in v (half_at is p) (half_at is r) (end_listed (half_at is p) (marked_end p mp)) e)
                ∙ ap H (place_of_lem r mr);
            earlier = λ p mp k l. before p mp k l;
          }
        where
          before : (p : ℕ) → Marked at p → (k : ℕ) → k < label p → (r : ℕ) × Marked at r × (r < p) × (label r ≡ k)
          before p mp k l =
              let h = half_at is p in
              let n = end_listed h (marked_end p mp) in
              let b = in_some (sheet_of d) sound_in v h n in
              let f = first_at gs k in
              let g = first_at gs (label p) in
              let u = none_empty (sheet_of d) sound_in v k (omega arith) in
              let fm = members_end (sheet_of d) sound_in v f k u in
              let c = by_first (sheet_of d) sound_in v k (label p) l b in
              let e = first_earliest (sheet_of d) sound_in v (label p) h (in_own (sheet_of d) sound_in v h n) in
              let o = in_order 0 cs (sheet_of d).next v f h sound_in.rises fm n (omega arith) in
              let i = rows_are in (
                place_at is f,
                end_marked f (listed_end f fm),
                subst (λ (j : ℕ). place_at is f < j) (place_of_lem p mp) (subst (λ (r : List ℕ). place_at r f < place_at r h) (sym i) o),
                label_of f (listed_end f fm)
                    ∙ sym (in_only (sheet_of d) sound_in v f k u),
              )
            where
              rows_are : take d.count ix.ids ≡ ids (sheet_of d).cells
              rows_are = x.ids ∙ ids_same d z (meaning.sound_fits d w)

      -- ---- what the search found
      module _ (g : ℕ) (G : List ℕ) (N : Numbered at xs ys m label (length at) g G) where
        pub group_at_lem : (h : Halfedge) → T (is_end (sheet_of d).cells v h)
            → get_or G (place_at (take d.count ix.ids) h) 0 ≡ suc (group_of (groups (sheet_of d).cells v) h)
        group_at_lem h t =
            let e = end_marked h t in
            N.label (place_at is h) (N.done (place_at is h) (in_range at (place_at is h) e) e) ∙ ap suc (label_of h t)

        pub groups_counted : g ≡ length (groups (sheet_of d).cells v)
        groups_counted = go (ltb g (length gs)) (ltb (length gs) g) refl refl
          where
            go : (a b : Bool) → ltb g (length gs) ≡ a → ltb (length gs) g ≡ b → g ≡ length gs
            go true b u w =
                let f = first_at gs g in
                let n = none_empty (sheet_of d) sound_in v g (ltb-true g (length gs) u) in
                let t = listed_end f (members_end (sheet_of d) sound_in v f g n) in
                let e = group_at_lem f t in
                let k = in_only (sheet_of d) sound_in v f g n in
                let o = N.most (place_at is f) in
                absurd (omega arith)
            go false true u w =
                let f = N.found (length gs) (ltb-true (length gs) g w) in
                let l = N.label f.0 (λ k. let y = f.2 in omega arith) in
                let y = f.2 in
                let b = in_some (sheet_of d) sound_in v (half_at is f.0) (end_listed (half_at is f.0) (marked_end f.0 f.1)) in
                absurd (omega arith)
            go false false u w = let a = ltb-false g (length gs) u in let b = ltb-false (length gs) g w in omega arith

        pub grouped : GroupedEnds d ix v g at G
        grouped = record { marks = M; number = group_at_lem; count = groups_counted; most = N.most }

-- ---- the new ends
less : (n : ℕ) → suc n - 1 ≡ n
less n = omega arith

eqb_turned : (a b : ℕ) → eqb a b ≡ eqb b a
eqb_turned a b = go (eqb a b) refl
  where
    go : (t : Bool) → eqb a b ≡ t → t ≡ eqb b a
    go true e = sym (eq-eqb b a (sym (eqb-true a b e)))
    go false e = sym (ne_eqb b a (λ f. eqb-false a b e (sym f)))

module _ (d : Drawing) (z : Sizes d) (w : T (sound_drawing d)) (ix : Index) (x : Indexes d ix) (v g : ℕ) (at : List Bool) (G : List ℕ)
    (R : GroupedEnds d ix v g at G) (starts ends : List ℕ)
    (A : NewEnds 0 at G v d.next d.count ix.starts starts) (B : NewEnds 1 at G v d.next d.count ix.ends ends) where
  abbrev groups_of : List (List Halfedge)
  groups_of = groups (sheet_of d).cells v

  end_new : (h : Halfedge) (a p : ℕ) → is_open (lookup (sheet_of d).cells h.edge) ≡ true → tail_of (lookup (sheet_of d).cells) h ≡ a
      → p ≡ place_at (take d.count ix.ids) h
      → newOf (get_or at p false) (get_or G p 0) a v d.next ≡ new_end v d.next (groups (sheet_of d).cells v) a h
  end_new h a p o e q =
      let is = take d.count ix.ids in
      let m : get_or at p false ≡ is_end (sheet_of d).cells v h = ap (λ (k : ℕ). get_or at k false) q ∙ mark_is d z w ix x v at R.marks h in
      let n : is_end (sheet_of d).cells v h ≡ eqb a v = ap₂ (λ (b : Bool) (k : ℕ). b && eqb k v) o e in
      go (eqb a v) refl (m ∙ n) n
    where
      go : (t : Bool) → eqb a v ≡ t → get_or at p false ≡ eqb a v → is_end (sheet_of d).cells v h ≡ eqb a v
          → newOf (get_or at p false) (get_or G p 0) a v d.next ≡ new_end v d.next (groups (sheet_of d).cells v) a h
      go true f m n =
          let k = R.number h (truth (n ∙ f)) in
          let j = ap (λ (i : ℕ). get_or G i 0) q ∙ k in
          ap₂ (λ (b : Bool) (i : ℕ). newOf b i a v d.next) (m ∙ f) j ∙ ap (copy_of v d.next) (less (group_of (groups (sheet_of d).cells v) h))
          ∙ sym (ap (λ (b : Bool). cond b (copy_of v d.next (group_of (groups (sheet_of d).cells v) h)) a) (eqb_turned v a ∙ f))
      go false f m n =
          ap (λ (b : Bool). newOf b (get_or G p 0) a v d.next) (m ∙ f)
          ∙ sym (ap (λ (b : Bool). cond b (copy_of v d.next (group_of (groups (sheet_of d).cells v) h)) a) (eqb_turned v a ∙ f))

  pub rows_ended : re_ended starts ends 0 (sheet_of d).cells ≡ reshape
      (ends_by (new_start v d.next (groups (sheet_of d).cells v)) (new_stop v d.next (groups (sheet_of d).cells v))) (sheet_of d).cells
  rows_ended = ended_rows (new_start v d.next groups_of) (new_stop v d.next groups_of) starts ends (sheet_of d).cells row
    where
      row : (j : ℕ) → j < length (sheet_of d).cells → RowOk (new_start v d.next groups_of) (new_stop v d.next groups_of) starts ends j
          (get_or (sheet_of d).cells j no_entry)
      row j l = row_ok (new_start v d.next groups_of) (new_stop v d.next groups_of) starts ends j (get_or (sheet_of d).cells j no_entry) edge
        where
          edge : (a b : ℕ) (bs : List Position) → (get_or (sheet_of d).cells j no_entry).figure ≡ open_edge a b bs
              → (get_or starts j 0 ≡ new_start v d.next groups_of (get_or (sheet_of d).cells j no_entry).id a)
              × (get_or ends j 0 ≡ new_stop v d.next groups_of (get_or (sheet_of d).cells j no_entry).id b)
          edge a b bs f =
              let cs = (sheet_of d).cells in
              let is = take d.count ix.ids in
              let F = meaning.sound_fits d w in
              let k : j < d.count = let n = count_is d cs (stands d z F) z F.cells in omega arith in
              let i = (get_or cs j no_entry).id in
              let r = x.ids ∙ ids_same d z F in
              let len = rows_length d z w ix x v at R.marks in
              let ri : get_or is j 0 ≡ i = ap (λ (q : List ℕ). get_or q j 0) r ∙ get_or-map (λ (c : LiveCell). c.id) cs j no_entry in
              let rj : j ≡ row_of i is = sym (ap (λ (n : ℕ). row_of n is) (sym ri) ∙ row_at is (meaning.looks d z ix x w).rising j (omega arith)) in
              let look : lookup cs i ≡ some (open_edge a b bs) = meaning.found_row d z F ix x i j rj k no_entry ∙ ap some f in
              let s0 : get_or ix.starts j 0 ≡ a = ap (λ (n : ℕ). get_or ix.starts n 0) rj
              ∙ value_in d z w ix x v at R.marks ix.starts x.sizes.2 i 0 (omega arith) ∙ (meaning.looks d z ix x w).starts i ∙ ap start_of look in
              let e0 : get_or ix.ends j 0 ≡ b = ap (λ (n : ℕ). get_or ix.ends n 0) rj
              ∙ value_in d z w ix x v at R.marks ix.ends x.sizes.3 i 0 (omega arith) ∙ (meaning.looks d z ix x w).ends i ∙ ap end_of look in (
                A.changed j k ∙ ap (λ (n : ℕ). newOf (get_or at (j * 2 + 0) false) (get_or G (j * 2 + 0) 0) n v d.next) s0
                    ∙ end_new (along i) a (j * 2 + 0) (ap is_open look) (ap start_of look) (ap (λ (n : ℕ). n * 2 + 0) rj),
                B.changed j k ∙ ap (λ (n : ℕ). newOf (get_or at (j * 2 + 1) false) (get_or G (j * 2 + 1) 0) n v d.next) e0
                    ∙ end_new (against i) b (j * 2 + 1) (ap is_open look) (ap end_of look) (ap (λ (n : ℕ). n * 2 + 1) rj),
              )

  -- ---- then the lone cycles
  module _ (mid : Drawing) (em : sheet_of mid ≡ with_entries (sheet_of d) (re_ended starts ends 0 (sheet_of d).cells)) where
    mid_is : sheet_of mid ≡ with_entries (sheet_of d) (reshape (ends_by (new_start v d.next groups_of) (new_stop v d.next groups_of)) (sheet_of d).cells)
    mid_is = em ∙ ap (with_entries (sheet_of d)) rows_ended

    pub mid_rises : T (rising 0 (ids (sheet_of mid).cells) (sheet_of mid).next)
    mid_rises =
        subst (λ (s : Sheet). T (rising 0 (ids s.cells) s.next)) (sym mid_is)
        (subst (λ (l : List ℕ). T (rising 0 l (sheet_of d).next))
        (sym (ids_reshape (ends_by (new_start v d.next groups_of) (new_stop v d.next groups_of)) (sheet_of d).cells))
        (sound_parts (sheet_of d) (meaning.sound_sheet_lem d w)).rises)

    pub parted : T (is_vertex (cell_at (sheet_of d) v)) → with_entries (sheet_of mid)
        (reshape (on_uses (lone_use v) (new_lone v d.next) g (sheet_of mid).cells) (sheet_of mid).cells) ≡ with_entries (sheet_of d)
        (reshape (ungluing (sheet_of d) v (cell_at (sheet_of d) v)) (sheet_of d).cells)
    parted t =
        ap₂ (λ (s : Sheet) (n : ℕ). with_entries s (reshape (on_uses (lone_use v) (new_lone v d.next) n s.cells) s.cells)) mid_is R.count
        ∙ ap (with_entries (sheet_of d)) (ends-then-lone v d.next groups_of (sheet_of d).cells)
        ∙ ap (λ (n : ℕ). with_entries (sheet_of d) (reshape (new_ends v n groups_of (sheet_of d).cells) (sheet_of d).cells)) (sym (next_is d))
        ∙ ap (λ (f : ℕ → Figure → Figure). with_entries (sheet_of d) (reshape f (sheet_of d).cells)) (go (cell_at (sheet_of d) v) t)
      where
        go : (o : Option Figure) → T (is_vertex o) → new_ends v (sheet_of d).next groups_of (sheet_of d).cells ≡ ungluing (sheet_of d) v o
        go none t = absurd t
        go (some (vertex p)) t = refl
        go (some (open_edge a b bs)) t = absurd t
        go (some (closed_edge bs)) t = absurd t
        go (some (face ks)) t = absurd t
