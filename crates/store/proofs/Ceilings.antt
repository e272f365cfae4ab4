-- The numbers that the ceilings bound are lengths. Assumes nothing.
use Prim.Native.Nat.{ℕ, ◌+◌}
use mathlib.Core.Path.{◌≡◌, refl, ap, ap₂, sym, ◌∙◌}
use mathlib.Core.List.{List, [], ◌∷◌, ◌++◌}
use lib.ListN.{length, length-append}
use Rattle.number.specs.Readers.{spread}
use Rattle.complex.specs.Cells.{Figure, vertex, open_edge, closed_edge, face, LiveCell}
use Rattle.complex.specs.Sound.{cycles_in, steps_in, bends_in, over}
use Rattle.store.specs.Places.{figure_cycles, figure_bends, cycle_words, entry_cycles, entry_bends}
use Rattle.store.proofs.Encode.{flat_append, all_places}

pub figure_sizes : (x : Figure) → (cycles_in x ≡ length (figure_cycles x))
    × (steps_in x ≡ length (spread cycle_words (figure_cycles x))) × (bends_in x ≡ length (figure_bends x))
figure_sizes (vertex p) = (refl, refl, refl)
figure_sizes (open_edge a b bs) = (refl, refl, refl)
figure_sizes (closed_edge bs) = (refl, refl, refl)
figure_sizes (face ks) = (refl, sym (all_places ks), refl)

-- a sum over cells is the length of what is listed of each
module _ {B : Type 0} (g : Figure → ℕ) (f : LiveCell → List B) (e : (c : LiveCell) → g c.figure ≡ length (f c)) where
  over_length : (cs : List LiveCell) → over g cs ≡ length (spread f cs)
  over_length [] = refl
  over_length (c ∷ cs) = ap₂ ◌+◌ (e c) (over_length cs) ∙ sym (length-append (f c) (spread f cs))

pub over_cycles : (cs : List LiveCell) → over cycles_in cs ≡ length (spread entry_cycles cs)
over_cycles = over_length cycles_in entry_cycles (λ c. (figure_sizes c.figure).0)

pub over_bends : (cs : List LiveCell) → over bends_in cs ≡ length (spread entry_bends cs)
over_bends = over_length bends_in entry_bends (λ c. (figure_sizes c.figure).2)

words_of : (cs : List LiveCell) → spread (λ (c : LiveCell). spread cycle_words (entry_cycles c)) cs ≡ spread cycle_words (spread entry_cycles cs)
words_of [] = refl
words_of (c ∷ cs) =
    ap (λ (l : List ℕ). spread cycle_words (entry_cycles c) ++ l) (words_of cs) ∙ sym (flat_append cycle_words (entry_cycles c) (spread entry_cycles cs))

pub over_steps : (cs : List LiveCell) → over steps_in cs ≡ length (spread cycle_words (spread entry_cycles cs))
over_steps cs = over_length steps_in (λ (c : LiveCell). spread cycle_words (entry_cycles c)) (λ c. (figure_sizes c.figure).1) cs ∙ ap length (words_of cs)
