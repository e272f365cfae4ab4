-- 0F renumber. Definitions only.
use Rattle.std.specs.Prelude.{ℕ, suc, cond, List, [], ◌∷◌, map, length, eqb}
use Rattle.complex.specs.Lists.{one}
use Rattle.complex.specs.Cells.{Halfedge, Figure, LiveCell, Sheet}
use Rattle.complex.specs.Edits.{rewired, numbered}

-- the new id of i: the place of its cell, the first one's being 1; one more than the cells where no cell has it
abbrev pub rank : List LiveCell → ℕ → ℕ
rank [] i = 1
rank (c ∷ cs) i = cond (eqb c.id i) 1 (suc (rank cs i))

-- a step's edge is renamed by r, its direction stays
abbrev pub renamed_step : (ℕ → ℕ) → Halfedge → List Halfedge
renamed_step r h = one (record { edge = r h.edge; backward = h.backward })

-- every end, step and lone vertex is renamed by r
abbrev pub renamed_figure : (ℕ → ℕ) → LiveCell → Figure
renamed_figure r c = rewired r (renamed_step r) c.id c.figure

-- the live cells get the ids 1 to n in the order they have, every end, step and lone vertex is renamed, and the next id is n + 1
unfoldable pub renumbered : Sheet → Sheet
renumbered s = record { next = suc (length s.cells); cells = numbered 1 (map (renamed_figure (rank s.cells)) s.cells) }
