-- Where a vertex is a lone cycle. Definitions only.
use Rattle.std.specs.Prelude.{ℕ, suc, ◌+◌, ◌-◌, cond, List, [], ◌∷◌, ltb}
use Rattle.complex.specs.Cells.{Cycle}
use Rattle.complex.specs.Uncut.{is_lone}
use Rattle.ask_uncut_lone.specs.declared.Held.{Held}

-- the place of the first lone cycle of v, or the number of cycles
abbrev pub lone_place : ℕ → List Cycle → ℕ
lone_place v [] = 0
lone_place v (k ∷ ks) = cond (is_lone v k) 0 (suc (lone_place v ks))

abbrev pub rows_on : ℕ → Held → Held
rows_on i h = record { row = i + h.row; place = h.place }

-- which row holds the cycle j, and its place there, if the rows have so many cycles each
abbrev pub holding : List ℕ → ℕ → Held
holding [] j = record { row = 0; place = j }
holding (k ∷ ks) j = cond (ltb j k) (record { row = 0; place = j }) (rows_on 1 (holding ks (j - k)))
