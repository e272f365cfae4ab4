-- Dead rows and the living ones after them. Definitions only.
use Rattle.std.specs.Prelude.{ℕ, ◌-◌, ◌<◌, ◌≡◌, Bool, true, false, List, take, drop}
use Rattle.complex.specs.Lists.{total}
use Rattle.store.specs.Edits.{places_of}
use Rattle.rows_slide.specs.declared.Stretch.{Stretch}
use Rattle.rows_slide.specs.Slid.{Alike}

-- the dead rows from i on, the living ones after them, and the places of both
pub record StretchAt (flags : List Bool) (counts : List ℕ) (n i : ℕ) (s : Stretch) : Type 0 where
  pub dead : Alike flags true i n s.mid
  pub living : Alike flags false s.mid n s.next
  pub more : i < s.next
  pub gone : s.gone ≡ total (places_of 0) (take (s.mid - i) (drop i counts))
  pub stay : s.stay ≡ total (places_of 0) (take (s.next - s.mid) (drop s.mid counts))
