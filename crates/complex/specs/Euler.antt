-- The Euler number: vertices minus open edges plus 2 − k for each face. Definitions only.
use Rattle.std.specs.Prelude.{ℕ, List, [], ◌∷◌, length, ℤ, pos, neg_ℤ, ◌+ℤ◌}
use Rattle.std.proofs.Math.IntN.{sub_ℕ}
use Rattle.complex.specs.Cells.{Figure, vertex, open_edge, closed_edge, face, LiveCell}

-- a cell's share; a closed edge has 0
abbrev pub cell_share : Figure → ℤ
cell_share (vertex p) = pos 1
cell_share (open_edge a b bs) = neg_ℤ (pos 1)
cell_share (closed_edge bs) = pos 0
cell_share (face ks) = sub_ℕ 2 (length ks)

-- the sum of the shares
abbrev pub euler : List LiveCell → ℤ
euler [] = pos 0
euler (c ∷ cs) = cell_share c.figure +ℤ euler cs
