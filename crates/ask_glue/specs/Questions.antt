-- The questions that a glue can fail, from the rows of an index. Definitions only.
use Rattle.std.specs.Prelude.{ℕ, ◌≤◌, ◌≡◌, Bool, not, ◌&&◌, ◌||◌, cond, List, length, take, eqb, leb}
use Rattle.store.specs.Index.{Rising}

-- n rows of ids, which rise, and of numbers
pub record NumberRows (ids values : List ℕ) (n : ℕ) : Type 0 where
  pub few : n ≤ 256
  pub id_rows : length ids ≡ 256
  pub value_rows : length values ≡ 256
  pub rising : Rising (take n ids)

-- 07: 4 unless both kinds are those of a vertex, 6 where the ids are the same, or 0
abbrev pub vertices_no : ℕ → ℕ → Bool → ℕ
vertices_no ka kb same = cond (eqb ka 0) (cond (eqb kb 0) (cond same 6 0) 4) 4

-- 08: equal ends where the flag is 0, else swapped ends
abbrev pub ends_meet : ℕ → ℕ → ℕ → ℕ → ℕ → Bool
ends_meet flag sa ea sb eb = cond (eqb flag 0) (eqb sa sb && eqb ea eb) (eqb sa eb && eqb ea sb)

-- both closed, or both open with ends that meet
abbrev pub may_glue_by : ℕ → ℕ → Bool → Bool
may_glue_by ka kb meet = (eqb ka 2 && eqb kb 2) || (eqb ka 1 && (eqb kb 1 && meet))

-- 4 unless both kinds are those of an edge, 5 unless the flag is 0 or 1, 6 by the rule, or 0
abbrev pub edges_no : ℕ → ℕ → Bool → ℕ → Bool → ℕ
edges_no ka kb same flag meet =
    cond ((eqb ka 1 || eqb ka 2) && (eqb kb 1 || eqb kb 2)) (cond (leb flag 1) (cond (not same && may_glue_by ka kb meet) 0 6) 5) 4
