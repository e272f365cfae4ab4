-- What the cases loop and joint of 0E tell of a drawing. Assumes nothing.
use Prim.Native.Nat.{ℕ}
use mathlib.Core.Path.{◌≡◌, refl, sym, ap, ◌∙◌, subst}
use mathlib.Core.Bool.{Bool, true, false, false≢true}
use mathlib.Core.List.{List, [], ◌∷◌, append-nil}
use mathlib.Core.Option.{Option, none, some}
use lib.Dec.{T, eqb, leb}
use borrow.Author.Tests.{ne_eqb}
use Rattle.number.specs.Readers.{spread}
use Rattle.coordinate.specs.declared.Position.{Position}
use Rattle.complex.specs.Lists.{any}
use Rattle.complex.specs.Cells.{Halfedge, Figure, vertex, open_edge, closed_edge, face, LiveCell, Sheet, cell_at, lookup, is_live, is_open, is_face, position_of}
use Rattle.complex.specs.Sound.{ids_end, figure_ok, ceilings}
use Rattle.complex.specs.Edits.{none_of, reshape, rebuild, rewired, same_vertex}
use Rattle.complex.specs.Uses.{ends_at, Passage, passages_at, lone_use, uses_by}
use Rattle.complex.specs.Uncut.{Uncut, refused, lonely, loop, joint, two_faces, one_cycle, rings, in_one, joined, uncut_case, uncut_result, allowed}
use Rattle.complex.proofs.Bools.{truth, pair}
use Rattle.complex.proofs.Keep.{Sound}
use Rattle.complex.proofs.Adds.{stays_at}
use Rattle.complex.proofs.Every.{Every}
use Rattle.complex.proofs.UncutEdge.{own_cells}
use Rattle.complex.proofs.UncutVertex.{real_ends, joint_sound}
use Rattle.complex.proofs.Uncut.{Holds, is_lonely, is_loop, is_joint, is_two, is_one_lem, is_rings, uncut_holds}
use Rattle.store.specs.Sheet.{all_real}
use Rattle.store.specs.Places.{figure_cycles, entry_cycles}
use Rattle.store.proofs.Grow.{real_append}
use Rattle.rows_steps.proofs.Asking.{cells_real}
use Rattle.law_uncut.proofs.Passing.{uncut_passed}

-- the vertex and the edge of a loop
pub record AtLoop (s : Sheet) (v e : ℕ) : Type 0 where
  pub place : Position
  pub at : cell_at s v ≡ some (vertex place)
  pub edge_open : T (is_open (cell_at s e))
  pub vertex_live_lem : is_live (cell_at s v) ≡ true
  pub edge_live : is_live (cell_at s e) ≡ true

-- a vertex with the ends x and y
pub record AtJoint (s : Sheet) (v : ℕ) (x y : Halfedge) : Type 0 where
  pub place : Position
  pub at : cell_at s v ≡ some (vertex place)
  pub ends : ends_at s.cells v ≡ x ∷ y ∷ []
  pub alone : uses_by (lone_use v) s.cells ≡ 0
  pub apart : eqb x.edge y.edge ≡ false
  pub turnless : any (λ (t : Passage). eqb t.arrives.edge t.leaves.edge) (passages_at s.cells v) ≡ false

open_live : (o : Option Figure) → T (is_open o) → is_live o ≡ true
open_live none t = absurd t
open_live (some x) t = refl

open_face : (o : Option Figure) → T (is_open o) → is_face o ≡ false
open_face none t = refl
open_face (some (vertex p)) t = refl
open_face (some (open_edge a b bs)) t = refl
open_face (some (closed_edge bs)) t = refl
open_face (some (face ks)) t = absurd t

module _ (s : Sheet) (S : Sound s) (v : ℕ) where
  abbrev Told : Uncut → Type 0
  Told refused = Unit {0}
  Told lonely = Unit {0}
  Told (loop e) = AtLoop s v e
  Told (joint x y) = AtJoint s v x y
  Told (two_faces u w) = Unit {0}
  Told (one_cycle u w) = Unit {0}
  Told (rings u w) = Unit {0}

  told : (k : Uncut) → Holds s v k → Told k
  told k (is_lonely p at e n) = tt
  told k (is_loop p at x y e n f z) =
      let o = (real_ends s S v p at x y e n).0.0 in
      record { place = p; at = at; edge_open = o; vertex_live_lem = ap is_live at; edge_live = open_live (cell_at s x.edge) o }
  told k (is_joint p at x y e n a z) = record { place = p; at = at; ends = e; alone = n; apart = a; turnless = z }
  told k (is_two a b bs at u w q f n) = tt
  told k (is_one_lem a b bs at u w p q o f m n) = tt
  told k (is_rings bs at u w q f n) = tt

  of_case : (k : Uncut) → uncut_case s v ≡ k → allowed k ≡ true → Told k
  of_case k e a = subst Told e (told (uncut_case s v) (uncut_holds s S v (truth (uncut_passed s v k e a).six)))

  pub loop_told : (e : ℕ) → uncut_case s v ≡ loop e → AtLoop s v e
  loop_told e h = of_case (loop e) h refl

  pub joint_told : (x y : Halfedge) → uncut_case s v ≡ joint x y → AtJoint s v x y
  joint_told x y h = of_case (joint x y) h refl

-- ---- cells without cycles go: if what is left is sound, no path is empty
module _ (s : Sheet) (S : Sound s) (keep : ℕ → Bool) (f : ℕ → Figure → Figure) (new : List Figure) (R : Sound (rebuild keep f new s))
    (bare : (j : ℕ) (t : Figure) → cell_at s j ≡ some t → keep j ≡ false → figure_cycles (f j t) ≡ []) where
  figure_real : (j : ℕ) (t : Figure) → cell_at s j ≡ some t → all_real (figure_cycles (f j t)) ≡ true
  figure_real j t q = go (keep j) refl
    where
      go : (b : Bool) → keep j ≡ b → all_real (figure_cycles (f j t)) ≡ true
      go true e =
          let k : T (figure_ok (lookup (rebuild keep f new s).cells) (f j t)) = R.figures j (f j t) (stays_at keep f new s j t (truth e) q) in
          ap all_real (sym (append-nil (figure_cycles (f j t))))
          ∙ cells_real (lookup (rebuild keep f new s).cells) (record { id = j; figure = f j t } ∷ [])
          (pair (figure_ok (lookup (rebuild keep f new s).cells) (f j t)) true k tt)
      go false e = ap all_real (bare j t q e)

  each_real : (cs : List LiveCell) → Every (λ (c : LiveCell). cell_at s c.id ≡ some c.figure) cs → all_real (spread entry_cycles (reshape f cs)) ≡ true
  each_real [] h = refl
  each_real (c ∷ cs) h =
      real_append (figure_cycles (f c.id c.figure)) (spread entry_cycles (reshape f cs)) (figure_real c.id c.figure h.0) (each_real cs h.1)

  all_real_lem : all_real (spread entry_cycles (reshape f s.cells)) ≡ true
  all_real_lem = each_real s.cells (own_cells (cell_at s) 0 s.cells s.next S.rises (λ i t q. q))

-- ---- the edges x and y become one at v
module _ (s : Sheet) (S : Sound s) (v : ℕ) (x y : Halfedge) (m : AtJoint s v x y) where
  first_open : T (is_open (cell_at s x.edge))
  first_open = (real_ends s S v m.place m.at x y m.ends m.alone).0.0

  pub second_open : T (is_open (cell_at s y.edge))
  second_open = (real_ends s S v m.place m.at x y m.ends m.alone).1.0.0

  pub vertex_live : is_live (cell_at s v) ≡ true
  vertex_live = ap is_live m.at

  pub first_live : is_live (cell_at s x.edge) ≡ true
  first_live = open_live (cell_at s x.edge) first_open

  pub second_live : is_live (cell_at s y.edge) ≡ true
  second_live = open_live (cell_at s y.edge) second_open

  -- a face is none of the three
  stays : (j : ℕ) → is_face (cell_at s j) ≡ true → none_of v x.edge y.edge j ≡ true
  stays j f =
      rw (
        other v (ap is_face m.at),
        other x.edge (open_face (cell_at s x.edge) first_open),
        other y.edge
            (open_face (cell_at s y.edge) second_open),
      )
    where
      other : (i : ℕ) → is_face (cell_at s i) ≡ false → eqb i j ≡ false
      other i g = ne_eqb i j (λ z. false≢true (sym g ∙ ap (λ (k : ℕ). is_face (cell_at s k)) z ∙ f))

  bare : (j : ℕ) (t : Figure) → cell_at s j ≡ some t → none_of v x.edge y.edge j ≡ false
      → figure_cycles (rewired same_vertex (in_one x.edge y.edge s.next) j t) ≡ []
  bare j (vertex p) q e = refl
  bare j (open_edge a b bs) q e = refl
  bare j (closed_edge bs) q e = refl
  bare j (face ks) q e = absurd (false≢true (sym e ∙ stays j (ap is_face q)))

  -- no path is empty
  pub joint_real : T (leb (uncut_result s v (joint x y)).next ids_end) → T (ceilings (uncut_result s v (joint x y)).cells)
      → all_real (spread entry_cycles (reshape (rewired same_vertex (in_one x.edge y.edge s.next)) s.cells)) ≡ true
  joint_real seven eight =
      all_real_lem s S (none_of v x.edge y.edge) (rewired same_vertex (in_one x.edge y.edge s.next))
      (joined (cell_at s) (position_of (cell_at s v)) x y ∷ [])
      (joint_sound s S v m.place m.at x y m.ends m.alone m.apart m.turnless seven eight) bare
