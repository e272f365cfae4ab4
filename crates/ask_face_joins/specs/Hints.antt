-- Rows that are looked up by hints. Definitions only.
use Rattle.std.specs.Prelude.{ℕ, ◌≡◌, List, length}
use Rattle.ask_face_named.specs.Walks.{Rowed}

-- the arrays of n rows whose ids rise, and those of the hints
pub record Hinted (n : ℕ) (is ks ss es hs : List ℕ) : Type 0 where
  pub rows : Rowed n is ks ss es
  pub hints : length hs ≡ 256
