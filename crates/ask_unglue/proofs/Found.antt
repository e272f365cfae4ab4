-- What the search for groups is given and finds. Assumes nothing.
use Prim.Native.Nat.{ℕ, zero, suc, ◌+◌, ◌*◌, ◌≤◌, ◌<◌}
use native.Mathlib.Omega.{arith}
use mathlib.Core.Path.{◌≡◌, refl, sym, ap, ◌∙◌, subst}
use mathlib.Core.Bool.{Bool, true, false, true≢false}
use borrow.Author.Tests.{ltb-true, ltb-false}
use mathlib.Core.List.{List, [], ◌∷◌, ◌++◌}
use mathlib.Core.Option.{Option, none, some}
use lib.Dec.{T, ltb}
use lib.ListN.{length, take, get_or, replicate, length-replicate, length-map}
use Rattle.coordinate.specs.declared.Position.{Position}
use Rattle.number.specs.Readers.{spread}
use Rattle.complex.specs.Lists.{filter}
use Rattle.complex.specs.Cells.{Cycle, Figure, vertex, open_edge, closed_edge, face, LiveCell, cell_at, bends_of, is_vertex, is_vertex_or_edge}
use Rattle.complex.specs.Cells as cells
use Rattle.complex.specs.Uses.{groups, uses_by, lone_use, Passage, passages_at, all_cycles}
use Rattle.complex.specs.Unglue.{parts}
use Rattle.store.specs.declared.Drawing.{Drawing}
use Rattle.store.specs.declared.Index.{Index}
use Rattle.store.specs.Index.{Indexes}
use Rattle.store.specs.Sizes.{Sizes}
use Rattle.store.specs.Places.{entry_cycles, figure_cycles}
use Rattle.store.specs.View.{sheet_of, cycles_from, cycle_total}
use Rattle.store.proofs.Stands.{used_cycles}
use Rattle.sound.specs.Soundness.{sound_drawing}
use Rattle.sound.proofs.Meaning.{sound_fits}
use Rattle.rows_groups.specs.Search.{Links, LinksReady, Marked, Numbered, Sorting}
use Rattle.rows_links.specs.Links.{place_at, turns_of, link_kept, left_places, right_places, LinksPut}
use Rattle.rows_ends.specs.Ends.{EndMarks}
use Rattle.ask_unglue.specs.Places.{GroupedEnds, Fresh}
use Rattle.rows_groups.proofs.Search.{sorting_start}
use Rattle.ask_unglue.proofs.Vertex.{kept_are, label, links_in, classes, grouped}

pub fresh_marks : (ix : Index) (v : ℕ) (at : List Bool) → ((p : ℕ) → get_or at p false ≡ false) → EndMarks ix.kinds ix.starts ix.ends v 0 at
fresh_marks ix v at u = record { start = λ i l. absurd (omega arith); end = λ i l. absurd (omega arith); rest = λ p l. u p }

is_vertex_lem : (o : Option Figure) → T (is_vertex o) → (q : Position) × (o ≡ some (vertex q))
is_vertex_lem none t = absurd t
is_vertex_lem (some (vertex p)) t = (p, refl)
is_vertex_lem (some (open_edge a b bs)) t = absurd t
is_vertex_lem (some (closed_edge bs)) t = absurd t
is_vertex_lem (some (face ks)) t = absurd t

figure_in_lem : (f : Figure) → cells.cycles_of (some f) ≡ figure_cycles f
figure_in_lem (vertex p) = refl
figure_in_lem (open_edge a b bs) = refl
figure_in_lem (closed_edge bs) = refl
figure_in_lem (face ks) = refl

all_in : (cs : List LiveCell) → all_cycles cs ≡ spread entry_cycles cs
all_in [] = refl
all_in (c ∷ cs) = ap (λ (l : List Cycle). l ++ all_cycles cs) (figure_in_lem c.figure) ∙ ap (λ (l : List Cycle). figure_cycles c.figure ++ l) (all_in cs)

pub fresh : Fresh (replicate 512 false) (replicate 512 0)
fresh =
    record { marks = length-replicate 512 false; numbers = length-replicate {A = ℕ} 512 0; unmarked = none_of_lem 512 false; unnumbered = none_of_lem {A = ℕ} 512 0 }
  where
    none_of_lem : {A : Type 0} (n : ℕ) (a : A) (p : ℕ) → get_or (replicate n a) p a ≡ a
    none_of_lem zero a p = refl
    none_of_lem (suc n) a zero = refl
    none_of_lem (suc n) a (suc p) = none_of_lem n a p

pub vertex_parts : (cs : List LiveCell) (v : ℕ) (o : Option Figure) → T (is_vertex o) → length (groups cs v) + uses_by (lone_use v) cs ≡ parts cs v o
vertex_parts cs v none t = absurd t
vertex_parts cs v (some (vertex p)) t = refl
vertex_parts cs v (some (open_edge a b bs)) t = absurd t
vertex_parts cs v (some (closed_edge bs)) t = absurd t
vertex_parts cs v (some (face ks)) t = absurd t

pub vertex_plain : (o : Option Figure) → T (is_vertex o) → T (is_vertex_or_edge o)
vertex_plain none t = absurd t
vertex_plain (some (vertex p)) t = tt
vertex_plain (some (open_edge a b bs)) t = absurd t
vertex_plain (some (closed_edge bs)) t = absurd t
vertex_plain (some (face ks)) t = absurd t

pub vertex_bends : (o : Option Figure) → T (is_vertex o) → 0 ≡ length (bends_of o)
vertex_bends none t = absurd t
vertex_bends (some (vertex p)) t = refl
vertex_bends (some (open_edge a b bs)) t = absurd t
vertex_bends (some (closed_edge bs)) t = absurd t
vertex_bends (some (face ks)) t = absurd t

take_full : (m : ℕ) (xs : List ℕ) → length (take m xs) ≡ m → m ≤ length xs
take_full zero xs e = omega arith
take_full (suc m) [] e = absurd (omega arith)
take_full (suc m) (x ∷ xs) e = let r = take_full m xs (omega arith) in omega arith

module _ (d : Drawing) (z : Sizes d) (w : T (sound_drawing d)) (ix : Index) (x : Indexes d ix) (v : ℕ) (at : List Bool)
    (M : EndMarks ix.kinds ix.starts ix.ends v d.count at)
    (t : T (is_vertex (cell_at (sheet_of d) v))) (size : length at ≡ 512) (n : ℕ) (en : n ≡ cycle_total d) (xs₀ ys₀ : List ℕ) (m : ℕ) (xs ys : List ℕ)
    (P : LinksPut (take d.count ix.ids) at (turns_of (cycles_from (take n d.cycles) d.steps)) 0 xs₀ ys₀ m xs ys) where
  abbrev at_v : (q : Position) × (cell_at (sheet_of d) v ≡ some (vertex q))
  at_v = is_vertex_lem (cell_at (sheet_of d) v) t

  kept : filter (link_kept (take d.count ix.ids) at) (turns_of (cycles_from (take n d.cycles) d.steps)) ≡ passages_at (sheet_of d).cells v
  kept =
      ap (λ (ks : List Cycle). filter (link_kept (take d.count ix.ids) at) (turns_of ks))
      (ap (λ (k : ℕ). cycles_from (take k d.cycles) d.steps) en ∙ sym (used_cycles d z (sound_fits d w)) ∙ sym (all_in (sheet_of d).cells))
      ∙ kept_are d z w ix x v at M at_v.0 at_v.1

  many : m ≡ length (passages_at (sheet_of d).cells v)
  many = omega (arith, P.count, ap length kept)

  lefts : take m xs ≡ left_places (take d.count ix.ids) (passages_at (sheet_of d).cells v)
  lefts = P.lefts ∙ ap (left_places (take d.count ix.ids)) kept

  rights : take m ys ≡ right_places (take d.count ix.ids) (passages_at (sheet_of d).cells v)
  rights = P.rights ∙ ap (right_places (take d.count ix.ids)) kept

  -- past the rows in use no place is marked
  all_done : (L : ℕ → ℕ) (g : ℕ) (G : List ℕ) → Numbered at xs ys m L (d.count * 2) g G → Numbered at xs ys m L (length at) g G
  all_done L g G N = record { most = N.most; done = done; along = N.along; label = N.label; found = N.found }
    where
      done : (q : ℕ) → q < length at → Marked at q → (get_or G q 0 ≡ 0 → ⊥)
      done q l k = go (ltb q (d.count * 2)) refl
        where
          go : (b : Bool) → ltb q (d.count * 2) ≡ b → (get_or G q 0 ≡ 0 → ⊥)
          go true e = N.done q (ltb-true q (d.count * 2) e) k
          go false e = absurd (true≢false (sym k ∙ M.rest q (ltb-false q (d.count * 2) e)))

  pub groups_found : (g : ℕ) (G : List ℕ) → d.count * 2 ≤ 512 → Sorting at xs ys m (d.count * 2) g G → GroupedEnds d ix v g at G × (g ≤ 512)
  groups_found g G small S =
      let v-at = at_v.0 in
      let is_at = at_v.1 in
      let l = label d z w ix x v at M v-at is_at in
      let n = S.right l (classes d z w ix x v at M v-at is_at m xs ys many lefts rights) in
      let f = S.few in
      (grouped d z w ix x v at M v-at is_at m xs ys many lefts rights g G (all_done l g G n), omega arith)

  pub links_ready : (G : List ℕ) → length G ≡ 512 → ((p : ℕ) → get_or G p 0 ≡ 0) → LinksReady (length G) at xs ys m × Sorting at xs ys m 0 0 G
  links_ready G e u =
      let is = take d.count ix.ids in
      let ts = passages_at (sheet_of d).cells v in
      let hx = take_full m xs (ap length lefts ∙ length-map ts (λ (p : Passage). place_at is p.arrives) ∙ sym many) in
      let hy = take_full m ys (ap length rights ∙ length-map ts (λ (p : Passage). place_at is p.leaves) ∙ sym many) in (
        record {
          links = subst (λ (k : ℕ). Links k xs ys m) (size ∙ sym e) (links_in d z w ix x v at M at_v.0 at_v.1 m xs ys many lefts rights hx hy);
          marks = omega arith;
          few = omega arith;
        },
        sorting_start at xs ys m G u,
      )
