-- A face cut along a new open edge, in its rows: the corners and their vertices. Definitions only.
use Rattle.std.specs.Prelude.{ℕ, ◌≤◌, ◌≡◌, Bool, true, false, ◌&&◌, List, [], eqb, length, take}
use Rattle.number.specs.Numbers.{read_number}
use Rattle.complex.specs.Lists.{holds, places}
use Rattle.complex.specs.Sound.{ids_end}
use Rattle.store.specs.Index.{Rising}
use Rattle.rows_spans.specs.declared.Spans.{Spans}
use Rattle.decode_parts.specs.Lists.{Stand, numbers_read}
use Rattle.rows_corners.specs.Arcs.{corner_vertex}
use Rattle.rows_split.specs.declared.Place.{Place}
use Rattle.rows_split.specs.Parts.{place_of, Cornered}
use Rattle.ask_cut_along.specs.Corners.{corner_at, moved_fit}

-- n rows by rising ids, with an array of values beside them
pub record Ruled (is vs : List ℕ) (n : ℕ) : Type 0 where
  pub few : n ≤ 256
  pub ids : length is ≡ 256
  pub values : length vs ≡ 256
  pub rising : Rising (take n is)

-- the vertex of corner s of the cycle at p, by n rows of ids, starts and ends
abbrev pub vertex_in : List ℕ → List ℕ → List ℕ → ℕ → List ℕ → Place → ℕ → ℕ
vertex_in ids starts ends n steps p s =
    corner_vertex (record { ids = ids; kinds = []; starts = starts; ends = ends; bends = []; cycles = [] }) n p.m steps p.at s

-- there is a cycle c in the spans, and it has the corner s, by n rows of ids and kinds
abbrev pub corner_by : List ℕ → List ℕ → ℕ → List ℕ → List ℕ → Spans → ℕ → ℕ → Bool
corner_by ids kinds n cycles steps t c s =
    corner_at (record { ids = ids; kinds = kinds; starts = []; ends = []; bends = []; cycles = [] }) n cycles steps t c s

-- both corners exist, and the moved cycles ms fit
abbrev pub corners_by : List ℕ → List ℕ → ℕ → List ℕ → List ℕ → Spans → ℕ → ℕ → ℕ → ℕ → List ℕ → Bool
corners_by ids kinds n cycles steps t c1 s1 c2 s2 ms =
    corner_by ids kinds n cycles steps t c1 s1 && (corner_by ids kinds n cycles steps t c2 s2 && moved_fit t.cycles.count c1 c2 ms)

-- the corners s1 and s2 of the cycles c1 and c2 exist, by n rows, and the moved cycles lie in the script and fit; the edge's id is e
pub record Chorded (is ss es : List ℕ) (n : ℕ) (cycles steps : List ℕ) (t : Spans) (script : List ℕ) (moved place c1 s1 c2 s2 e : ℕ) : Type 0 where
  pub starts : Ruled is ss n
  pub ends : Ruled is es n
  pub from : Cornered cycles steps t c1 (place_of cycles t c1) s1
  pub to : Cornered cycles steps t c2 (place_of cycles t c2) s2
  pub stand : Stand read_number script place moved
  pub rise : eqb c1 c2 ≡ true → places 0 (numbers_read script place moved) t.cycles.count ≡ true
  pub stays : eqb c1 c2 ≡ true → holds c1 (numbers_read script place moved) ≡ false
  pub few : e ≤ ids_end
