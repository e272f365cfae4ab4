-- Turns at a vertex, over the rows of an index and the cycles in number arrays. Definitions only.
use Rattle.std.specs.Prelude.{ℕ, ◌≤◌, ◌≡◌, Bool, true, false, ◌&&◌, cond, List, eqb, length, take}
use Rattle.number.specs.Readers.{spread}
use Rattle.complex.specs.Lists.{any}
use Rattle.complex.specs.Cells.{Halfedge, Cycle, steps_of, same}
use Rattle.complex.specs.Uses.{Passage, passages}
use Rattle.store.specs.View.{width_sum}
use Rattle.store.specs.Index.{Rising, value_at}
use Rattle.sound.specs.Rows.{Rows}

-- the arrays of n rows whose ids rise
pub record Rowed (n : ℕ) (is ks ss es : List ℕ) : Type 0 where
  pub few : n ≤ 256
  pub ids : length is ≡ 256
  pub kinds : length ks ≡ 256
  pub starts : length ss ≡ 256
  pub ends : length es ≡ 256
  pub rising : Rising (take n is)

-- the first m cycles of the number arrays ns and st stand within them
pub record Cycled (m : ℕ) (ns st : List ℕ) : Type 0 where
  pub counts : length ns ≡ 512
  pub steps : length st ≡ 2048
  pub few : m ≤ 512
  pub wide : width_sum (take m ns) ≤ 2048

-- where the halfedge h begins; with ss and es exchanged, where it ends
abbrev pub side_in : List ℕ → List ℕ → List ℕ → Halfedge → ℕ
side_in is ss es h = cond h.backward (value_at 0 is es h.edge) (value_at 0 is ss h.edge)

-- the halfedge h is of an open edge and begins at v
abbrev pub leaves_in : Rows → ℕ → Halfedge → Bool
leaves_in t v h = eqb (value_at 4 t.ids t.kinds h.edge) 1 && eqb (side_in t.ids t.starts t.ends h) v

-- a passage leaves by the end, or if not whole by the edge, that it arrives by
abbrev pub turns_back : Bool → Passage → Bool
turns_back true t = same t.arrives t.leaves
turns_back false t = eqb t.arrives.edge t.leaves.edge

-- a passage at v turns back
abbrev pub turns_at : Rows → Bool → ℕ → Passage → Bool
turns_at t whole v p = leaves_in t v p.leaves && turns_back whole p

-- some passage at v of these cycles turns back
abbrev pub turns_in : Rows → Bool → ℕ → List Cycle → Bool
turns_in t whole v ks = any (turns_at t whole v) (spread (λ (k : Cycle). passages (steps_of k)) ks)
