-- 0D: what is asked by rows. Definitions only.
use Rattle.std.specs.Prelude.{ℕ, ◌≤◌, ◌≡◌, List, [], length, take}
use Rattle.complex.specs.Sound.{cells_most}
use Rattle.store.specs.declared.Index.{Index}
use Rattle.store.specs.Index.{Rising}

-- n rows by rising ids, with their kinds and their numbers of cycles
pub record FaceRows (ids kinds counts : List ℕ) (n : ℕ) : Type 0 where
  pub few : n ≤ cells_most
  pub ids_size : length ids ≡ cells_most
  pub kinds_size : length kinds ≡ cells_most
  pub counts_size : length counts ≡ cells_most
  pub rising : Rising (take n ids)

-- an index of these alone
abbrev pub index_with : List ℕ → List ℕ → List ℕ → Index
index_with ids kinds counts = record { ids = ids; kinds = kinds; starts = []; ends = []; bends = []; cycles = counts }
