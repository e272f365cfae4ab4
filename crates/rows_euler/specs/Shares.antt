-- The Euler number, as the rows of a drawing show it. Definitions only.
use Rattle.std.specs.Prelude.{ℕ, ◌+◌, cond, List, [], ◌∷◌, eqb, ℤ}
use Rattle.std.proofs.Math.IntN.{sub_ℕ}
use Rattle.complex.specs.Lists.{total}

-- what a cell of this kind adds: a vertex 1, a face 2
abbrev pub gain_in : ℕ → ℕ
gain_in kind = cond (eqb kind 0) 1 (cond (eqb kind 3) 2 0)

-- what it takes away: an open edge 1, a face one for each cycle
abbrev pub loss_in : ℕ → ℕ → ℕ
loss_in kind cycles = cond (eqb kind 1) 1 cycles

abbrev pub losses_in : List ℕ → List ℕ → ℕ
losses_in [] cs = 0
losses_in (k ∷ ks) [] = 0
losses_in (k ∷ ks) (c ∷ cs) = loss_in k c + losses_in ks cs

-- the Euler number of cells with the kinds ks and the counts of cycles cs
abbrev pub euler_in : List ℕ → List ℕ → ℤ
euler_in ks cs = sub_ℕ (total gain_in ks) (losses_in ks cs)
