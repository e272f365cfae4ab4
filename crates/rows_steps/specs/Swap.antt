-- The steps of one edge replaced by others, in every cycle. Definitions only.
use Rattle.std.specs.Prelude.{ℕ, ◌+◌, ◌*◌, ◌≡◌, eqb, List, [], ◌∷◌, ◌++◌, map, length, take, drop, Bool, not, cond}
use Rattle.rows_steps.specs.declared.Swap.{Swap}
use Rattle.complex.specs.Cells.{Halfedge, Cycle}
use Rattle.complex.specs.Edits.{rewired_cycle, same_vertex}
use Rattle.store.specs.View.{halfedge_of, width}
use Rattle.store.specs.Places.{bit, word}
use Rattle.number.specs.Readers.{spread}

-- what the step s becomes: the edge's own steps n others each way, any other step itself
abbrev pub swap_word : Swap → ℕ → List ℕ
swap_word t s =
    cond (eqb s t.fore) (take t.n (t.f1 ∷ t.f2 ∷ []))
    (cond (eqb s t.back) (take t.n (t.b1 ∷ t.b2 ∷ [])) (s ∷ []))

abbrev pub swap_half : Swap → Halfedge → List Halfedge
swap_half t h = map halfedge_of (swap_word t (word h))

abbrev pub swap_cycle : Swap → Cycle → Cycle
swap_cycle t = rewired_cycle same_vertex (swap_half t)

-- the same on the arrays: a cycle's number and the steps of it, and those of all cycles
abbrev pub swap_steps : Swap → ℕ → List ℕ → List ℕ
swap_steps t c y = cond (eqb c 0) y (spread (swap_word t) y)

abbrev pub swap_number : Swap → ℕ → List ℕ → ℕ
swap_number t c y = cond (eqb c 0) 0 (length (spread (swap_word t) y))

abbrev pub all_steps : Swap → List ℕ → List ℕ → List ℕ
all_steps t [] st = []
all_steps t (c ∷ cs) st = swap_steps t c (take (width c) st) ++ all_steps t cs (drop (width c) st)

abbrev pub all_numbers : Swap → List ℕ → List ℕ → List ℕ
all_numbers t [] st = []
all_numbers t (c ∷ cs) st = swap_number t c (take (width c) st) ∷ all_numbers t cs (drop (width c) st)

-- out has ys at a place, and before and after it what out₀ has
pub record Wrote (out₀ : List ℕ) (at : ℕ) (ys out : List ℕ) : Type 0 where
  pub size : length out ≡ length out₀
  pub front : take (at + length ys) out ≡ take at out₀ ++ ys
  pub back : drop (at + length ys) out ≡ drop (at + length ys) out₀

-- the numbers and the steps after the swap
pub record Swapped (t : Swap) (ns st ns' st' : List ℕ) : Type 0 where
  pub numbers : take (length ns) ns' ≡ all_numbers t ns st
  pub steps : take (length (all_steps t ns st)) st' ≡ all_steps t ns st

-- the swaps that the commands need: e's steps become a's, reversed or not; those of a and b; none
abbrev pub one_for : ℕ → ℕ → Bool → Swap
one_for e a flip = record { fore = e * 2; back = e * 2 + 1; n = 1; f1 = a * 2 + bit flip; f2 = 0; b1 = a * 2 + bit (not flip); b2 = 0 }

abbrev pub two_for : ℕ → ℕ → ℕ → Swap
two_for e a b = record { fore = e * 2; back = e * 2 + 1; n = 2; f1 = a * 2; f2 = b * 2; b1 = b * 2 + 1; b2 = a * 2 + 1 }

abbrev pub none_for : ℕ → Swap
none_for e = record { fore = e * 2; back = e * 2 + 1; n = 0; f1 = 0; f2 = 0; b1 = 0; b2 = 0 }
