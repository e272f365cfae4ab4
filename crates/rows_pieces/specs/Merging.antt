-- Links that are joined, and the ways up that they make. Definitions only.
use Rattle.std.specs.Prelude.{ℕ, ◌≡◌, List, T, eqb, length}
use Rattle.complex.specs.Groups.{is_in}
use Rattle.complex.specs.Pieces.{Link, joined}
use Rattle.complex.specs.Sound.{cells_most}
use Rattle.complex.proofs.Every.{Every}
use Rattle.complex.proofs.Ties.{Inside, Tied}
use Rattle.store.specs.Index.{row_of}
use Rattle.rows_pieces.specs.Ways.{Leads, Tops}

-- the top of the row of an id
abbrev pub top_of : (ℕ → ℕ) → List ℕ → ℕ → ℕ
top_of t is i = t (row_of i is)

-- of the rows of the ids is, those lead to one top that the links ls join; the groups that they make are n
pub record Merged (is up : List ℕ) (ls : List Link) (n : ℕ) : Type 0 where
  pub size : length up ≡ cells_most
  pub leads : Leads (length is) up
  pub top : ℕ → ℕ
  pub tops : Tops (length is) up top
  pub inside : Every (Inside is) ls
  pub same : Every (λ (l : Link). top_of top is l.cell ≡ top_of top is l.bound) ls
  pub tied : (i j : ℕ) → T (is_in eqb is i) → T (is_in eqb is j) → top_of top is i ≡ top_of top is j → Tied ls i j
  pub number : n ≡ length (joined ls is)
