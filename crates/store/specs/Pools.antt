-- Lists of cycles in number arrays: how many steps each has, and the steps. Definitions only.
use Rattle.std.specs.Prelude.{ℕ, ◌≤◌, ◌≡◌, true, List, [], ◌∷◌, map, length, take, drop}
use Rattle.number.specs.Readers.{spread}
use Rattle.complex.specs.Cells.{Cycle, Figure, vertex, open_edge, closed_edge, face, LiveCell}
use Rattle.store.specs.Sheet.{all_real}
use Rattle.store.specs.Places.{num_of, cycle_words, entry_cycles}

-- the first n places of counts and the first m of steps hold the cycles ks
pub record Held (ks : List Cycle) (counts : List ℕ) (n : ℕ) (steps : List ℕ) (m : ℕ) : Type 0 where
  pub lengths : take n counts ≡ map num_of ks
  pub places : take m steps ≡ spread cycle_words ks
  pub real : all_real ks ≡ true
  pub lengths_room : n ≤ length counts
  pub places_room : m ≤ length steps

-- a face with other cycles, as many as it had, off the front of ks
abbrev pub dealt_figure : List Cycle → Figure → Figure
dealt_figure ks (vertex p) = vertex p
dealt_figure ks (open_edge a b bs) = open_edge a b bs
dealt_figure ks (closed_edge bs) = closed_edge bs
dealt_figure ks (face old) = face (take (length old) ks)

-- the cells with the cycles ks dealt out to the faces in order
abbrev pub dealt : List Cycle → List LiveCell → List LiveCell
dealt ks [] = []
dealt ks (c ∷ cs) = record { id = c.id; figure = dealt_figure ks c.figure } ∷ dealt (drop (length (entry_cycles c)) ks) cs
