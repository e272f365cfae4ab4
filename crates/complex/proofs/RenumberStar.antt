-- 0F renames the star of a live cell. Assumes nothing.
use Prim.Native.Nat.{ℕ}
use mathlib.Core.Path.{◌≡◌, refl, sym, ap, ◌∙◌}
use mathlib.Core.Bool.{Bool, true, false, ◌||◌}
use mathlib.Core.List.{List, [], ◌∷◌, ◌++◌, map, map-append}
use mathlib.Core.Option.{Option, none, some}
use lib.Dec.{T, eqb}
use borrow.Author.Tests.{eq-eqb, ne_eqb, eqb-true, eqb-false}
use Rattle.number.specs.Readers.{spread}
use Rattle.complex.specs.Lists.{holds}
use Rattle.complex.specs.Cells.{Halfedge, Cycle, lone, path, Figure, vertex, open_edge, closed_edge, face, LiveCell, Sheet, Look, cell_at}
use Rattle.complex.specs.Boundary.{ends_of, cycle_boundary, boundary, bounds, star}
use Rattle.complex.specs.Sound.{sound}
use Rattle.complex.specs.Edits.{rewired_cycle, rewired}
use Rattle.complex.specs.Renumber.{rank, renamed_step, renamed_figure, renumbered}
use Rattle.complex.specs.Demands.{live}
use Rattle.complex.proofs.Lookup.{changed}
use Rattle.complex.proofs.Keep.{sound_parts}
use Rattle.complex.proofs.Renumber.{rank_apart, renumber_at, chosen_renamed}

-- ---- the boundary of what is renamed is the boundary, renamed
module _ (look look' : Look) (r : ℕ → ℕ) (at : (i : ℕ) → look' (r i) ≡ changed (rewired r (renamed_step r) i) (look i)) where
  ends_renamed : (i : ℕ) (o : Option Figure) → ends_of (changed (rewired r (renamed_step r) i) o) ≡ map r (ends_of o)
  ends_renamed i none = refl
  ends_renamed i (some (vertex p)) = refl
  ends_renamed i (some (open_edge a b bs)) = refl
  ends_renamed i (some (closed_edge bs)) = refl
  ends_renamed i (some (face ks)) = refl

  cycle_renamed : (k : Cycle) → cycle_boundary look' (rewired_cycle r (renamed_step r) k) ≡ map r (cycle_boundary look k)
  cycle_renamed (lone v) = refl
  cycle_renamed (path hs) = go hs
    where
      go : (hs : List Halfedge) → cycle_boundary look' (path (spread (renamed_step r) hs)) ≡ map r (cycle_boundary look (path hs))
      go [] = refl
      go (h ∷ hs) =
          (λ i. r h.edge ∷ ((ap ends_of (at h.edge) ∙ ends_renamed h.edge (look h.edge)) i ++ go hs i))
          ∙ sym (map-append r (h.edge ∷ ends_of (look h.edge)) (cycle_boundary look (path hs)))

  cycles_renamed : (ks : List Cycle) → spread (cycle_boundary look') (map (rewired_cycle r (renamed_step r)) ks) ≡ map r (spread (cycle_boundary look) ks)
  cycles_renamed [] = refl
  cycles_renamed (k ∷ ks) = (λ i. cycle_renamed k i ++ cycles_renamed ks i) ∙ sym (map-append r (cycle_boundary look k) (spread (cycle_boundary look) ks))

  boundary_renamed : (i : ℕ) (x : Figure) → boundary look' (rewired r (renamed_step r) i x) ≡ map r (boundary look x)
  boundary_renamed i (vertex p) = refl
  boundary_renamed i (open_edge a b bs) = refl
  boundary_renamed i (closed_edge bs) = refl
  boundary_renamed i (face ks) = cycles_renamed ks

-- a name that is no other's
holds_renamed : (r : ℕ → ℕ) (i : ℕ) → ((j : ℕ) → r i ≡ r j → i ≡ j) → (ns : List ℕ) → holds (r i) (map r ns) ≡ holds i ns
holds_renamed r i apart [] = refl
holds_renamed r i apart (n ∷ ns) = λ k. go (eqb i n) refl k || holds_renamed r i apart ns k
  where
    go : (y : Bool) → eqb i n ≡ y → eqb (r i) (r n) ≡ y
    go true e = eq-eqb (r i) (r n) (ap r (eqb-true i n e))
    go false e = ne_eqb (r i) (r n) (λ q. eqb-false i n e (apart n q))

pub renumber_stars : (s : Sheet) → T (sound s) → (i : ℕ) → live s i
    → star (renumbered s).cells (rank s.cells i) ≡ map (rank s.cells) (star s.cells i)
unfolding renumbered
renumber_stars s t i l =
    let r = rank s.cells in
    chosen_renamed (renamed_figure r) (λ (c : LiveCell). bounds (cell_at s) i c.figure) (bounds (cell_at (renumbered s)) (r i)) alike s.cells s.next
    (sound_parts s t).rises
  where
    alike : (c : LiveCell) → bounds (cell_at (renumbered s)) (rank s.cells i) (renamed_figure (rank s.cells) c) ≡ bounds (cell_at s) i c.figure
    alike c =
        let r = rank s.cells in
        ap (holds (r i)) (boundary_renamed (cell_at s) (cell_at (renumbered s)) r (renumber_at s) c.id c.figure)
        ∙ holds_renamed r i (λ j q. rank_apart s.cells i j l q) (boundary (cell_at s) c.figure)
