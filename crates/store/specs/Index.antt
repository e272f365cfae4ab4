-- What a call derives from the cells of a drawing once: a row of numbers for each cell. Definitions only.
use Rattle.std.specs.Prelude.{ℕ, suc, ◌<◌, eqb, length, take, get_or, ◌≡◌, cond, List, [], ◌∷◌, map}
use Rattle.store.specs.declared.Shape.{Shape}
use Rattle.store.specs.declared.Cell.{Cell}
use Rattle.store.specs.declared.Drawing.{Drawing}
use Rattle.store.specs.declared.Index.{Index}
use Rattle.store.specs.View.{numbers_of, bend_count, cycle_count}

abbrev pub kind_of : Shape → ℕ
kind_of x = (numbers_of x).kind

abbrev pub shape_start : Shape → ℕ
shape_start x = (numbers_of x).start

abbrev pub shape_end : Shape → ℕ
shape_end x = (numbers_of x).end

-- the index r has the numbers of the first n cells
pub record CellRows (cells : List Cell) (n : ℕ) (r : Index) : Type 0 where
  pub sizes : (length r.ids ≡ 256) × (length r.kinds ≡ 256) × (length r.starts ≡ 256) × (length r.ends ≡ 256)
      × (length r.bends ≡ 256) × (length r.cycles ≡ 256)
  pub ids : take n r.ids ≡ map (λ (c : Cell). c.id) (take n cells)
  pub kinds : take n r.kinds ≡ map (λ (c : Cell). kind_of c.shape) (take n cells)
  pub starts : take n r.starts ≡ map (λ (c : Cell). shape_start c.shape) (take n cells)
  pub ends : take n r.ends ≡ map (λ (c : Cell). shape_end c.shape) (take n cells)
  pub bends : take n r.bends ≡ map (λ (c : Cell). bend_count c.shape) (take n cells)
  pub cycles : take n r.cycles ≡ map (λ (c : Cell). cycle_count c.shape) (take n cells)

-- the index r has the numbers of d's cells
abbrev pub Indexes : Drawing → Index → Type 0
Indexes d r = CellRows d.cells d.count r

-- ---- the row of an id
-- the place of the first x in a list, or the list's length
abbrev pub row_of : ℕ → List ℕ → ℕ
row_of x [] = 0
row_of x (y ∷ ys) = cond (eqb y x) 0 (suc (row_of x ys))

-- each number is below the next
pub record Rising (l : List ℕ) : Type 0 where
  pub below : (i j : ℕ) → i < j → j < length l → get_or l i 0 < get_or l j 0

-- the number that stands where the id i stands among is, or z
abbrev pub value_at : ℕ → List ℕ → List ℕ → ℕ → ℕ
value_at z is vs i = get_or vs (row_of i is) z
