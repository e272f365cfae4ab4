-- Star lists exactly the cells whose boundary holds the cell, rising, and answers so. Assumes nothing.
use Prim.Native.Nat.{ℕ, zero, suc, ◌≤◌, ◌<◌}
use native.Mathlib.Omega.{arith}
use mathlib.Core.Path.{◌≡◌, refl, sym, ap, ◌∙◌, subst}
use mathlib.Core.Logic.{◌↔◌}
use mathlib.Core.Bool.{Bool, true, false, ◌||◌}
use mathlib.Core.List.{List, [], ◌∷◌, ◌++◌}
use mathlib.Core.Option.{Option, none, some}
use lib.ListN.{length, drop}
use lib.Dec.{T, eqb, ltb, leb, ltb→lt}
use borrow.Author.Tests.{le-leb, lt-leb, eq-eqb, ne_eqb, eqb-true, eqb-false}
use Rattle.complex.specs.Lists.{cons_if, filter, holds, rising}
use Rattle.complex.specs.Cells.{Figure, LiveCell, Sheet, some_if, lookup, cell_at, ids, is_live}
use Rattle.complex.specs.Boundary.{bounds, bounds_at, star}
use Rattle.complex.specs.Sound.{sound}
use Rattle.complex.specs.Calls.{star_call}
use Rattle.complex.specs.Demands.{live, StarRight}
use Rattle.complex.proofs.Bools.{both, true_of}
use Rattle.complex.proofs.Lookup.{rising_filter}
use Rattle.complex.proofs.Keep.{Sound, sound_parts}

-- ---- the ids of the cells of which Q holds
-- what is not above the first id is not among them
absent : (p : LiveCell → Bool) (lo : ℕ) (cs : List LiveCell) (hi j : ℕ) → T (rising lo (ids cs) hi) → j ≤ lo → holds j (ids (filter p cs)) ≡ false
absent p lo [] hi j r h = refl
absent p lo (c ∷ cs) hi j r h =
    let b = both (ltb lo c.id) (rising c.id (ids cs) hi) r in
    let l = ltb→lt lo c.id b.0 in
    go (p c) (ne_eqb j c.id (λ e. omega arith)) (absent p c.id cs hi j b.1 (omega arith))
  where
    go : (x : Bool) → eqb j c.id ≡ false → holds j (ids (filter p cs)) ≡ false → holds j (ids (cons_if x c (filter p cs))) ≡ false
    go true n k = rw n k
    go false n k = k

module _ (Q : Figure → Bool) where
  abbrev holds_of : Option Figure → Bool
  holds_of none = false
  holds_of (some x) = Q x

  abbrev of_cell : LiveCell → Bool
  of_cell c = Q c.figure

  chosen_at : (lo : ℕ) (cs : List LiveCell) (hi j : ℕ) → T (rising lo (ids cs) hi) → holds j (ids (filter of_cell cs)) ≡ holds_of (lookup cs j)
  chosen_at lo [] hi j r = refl
  chosen_at lo (c ∷ cs) hi j r =
      let b = both (ltb lo c.id) (rising c.id (ids cs) hi) r in
      go (of_cell c) (eqb c.id j) refl refl (chosen_at c.id cs hi j b.1) (λ h. absent of_cell c.id cs hi j b.1 h)
    where
      go : (x y : Bool) → of_cell c ≡ x → eqb c.id j ≡ y → holds j (ids (filter of_cell cs)) ≡ holds_of (lookup cs j)
          → (j ≤ c.id → holds j (ids (filter of_cell cs)) ≡ false)
          → holds j (ids (cons_if x c (filter of_cell cs))) ≡ holds_of (some_if y c.figure (lookup cs j))
      go true true e f h n = rw (eq-eqb j c.id (sym (eqb-true c.id j f)), e)
      go true false e f h n = rw (ne_eqb j c.id (λ z. eqb-false c.id j f (sym z))) h
      go false true e f h n = n (let z = eqb-true c.id j f in omega arith) ∙ sym e
      go false false e f h n = h

-- ---- star
module _ (s : Sheet) (S : T (sound s)) (i : ℕ) where
  bounds_of : (o : Option Figure) → holds_of (bounds (cell_at s) i) o ≡ bounds_at (cell_at s) i o
  bounds_of none = refl
  bounds_of (some x) = refl

  star_at_lem : (j : ℕ) → holds j (star s.cells i) ≡ bounds_at (cell_at s) i (cell_at s j)
  star_at_lem j = chosen_at (bounds (cell_at s) i) 0 s.cells s.next j (sound_parts s S).rises ∙ bounds_of (cell_at s j)

  star_rises : T (rising 0 (star s.cells i) s.next)
  star_rises = rising_filter (λ (c : LiveCell). bounds (cell_at s) i c.figure) 0 s.cells s.next (sound_parts s S).rises

  star_fits : live s i → (buffer : List ℕ) → length (star s.cells i) ≤ length buffer
      → star_call s i buffer ≡ record { number = 0; count = length (star s.cells i); buffer = star s.cells i ++ drop (length (star s.cells i)) buffer }
  unfolding star_call
  star_fits l buffer h = rw (true_of (sound s) S, true_of (is_live (cell_at s i)) l, le-leb (length (star s.cells i)) (length buffer) h)

  star_short : live s i → (buffer : List ℕ) → length buffer < length (star s.cells i)
      → star_call s i buffer ≡ record { number = 9; count = length (star s.cells i); buffer = buffer }
  unfolding star_call
  star_short l buffer h = rw (true_of (sound s) S, true_of (is_live (cell_at s i)) l, lt-leb (length (star s.cells i)) (length buffer) h)

  pub star_right : live s i → StarRight s i
  star_right l =
      record {
        exact = λ j. (subst T (star_at_lem j), subst T (sym (star_at_lem j)));
        rises = star_rises;
        fits = star_fits l;
        short = star_short l;
      }
