-- Rows that lead up to the lowest row of their piece. Definitions only.
use Rattle.std.specs.Prelude.{ℕ, ◌≤◌, ◌<◌, ◌≡◌, cond, List, eqb, ltb, length, get_or}
use Rattle.complex.specs.Sound.{cells_most}

-- where a row leads
abbrev pub above : List ℕ → ℕ → ℕ
above up r = get_or up r 0

-- each of n rows leads to itself or to one before it
abbrev pub Leads : ℕ → List ℕ → Type 0
Leads n up = (r : ℕ) → r < n → above up r ≤ r

-- of n rows, t is the same all the way up, and at the top it is the row itself
pub record Tops (n : ℕ) (up : List ℕ) (t : ℕ → ℕ) : Type 0 where
  pub along : (r : ℕ) → r < n → t (above up r) ≡ t r
  pub ends : (r : ℕ) → r < n → above up r ≡ r → t r ≡ r

-- each of n rows is its own top
pub record Owns (n : ℕ) (up : List ℕ) : Type 0 where
  pub size : length up ≡ cells_most
  pub own : (r : ℕ) → r < n → above up r ≡ r

-- the ways up are others, and each leads to the top that it led to
pub record Shorter (row : ℕ) (up up' : List ℕ) : Type 0 where
  pub size : length up' ≡ cells_most
  pub leads : (n : ℕ) → Leads n up → Leads n up'
  pub tops : (n : ℕ) (t : ℕ → ℕ) → row < n → Tops n up t → Tops n up' t

-- r is the top of a row
pub record Topped (row : ℕ) (up : List ℕ) (r : ℕ) (up' : List ℕ) : Type 0 where
  pub shorter : Shorter row up up'
  pub before : r ≤ row
  pub own : above up' r ≡ r
  pub top : (n : ℕ) (t : ℕ → ℕ) → row < n → Tops n up t → t row ≡ r

-- the tops, where hi gives way to lo
abbrev pub instead : ℕ → ℕ → (ℕ → ℕ) → ℕ → ℕ
instead hi lo t r = cond (eqb (t r) hi) lo (t r)

-- and where the higher of two gives way to the lower
abbrev pub lower : ℕ → ℕ → ℕ
lower a b = cond (ltb a b) a b

abbrev pub higher : ℕ → ℕ → ℕ
higher a b = cond (ltb a b) b a

abbrev pub merged : ℕ → ℕ → (ℕ → ℕ) → ℕ → ℕ
merged a b t = instead (higher a b) (lower a b) t

-- the pieces of the rows x and y are joined; c is 1 if they were two and 0 if they were one
pub record Joins (x y : ℕ) (up : List ℕ) (c : ℕ) (up' : List ℕ) : Type 0 where
  pub size : length up' ≡ cells_most
  pub leads : (n : ℕ) → Leads n up → Leads n up'
  pub tops : (n : ℕ) (t : ℕ → ℕ) → x < n → y < n → Tops n up t → Tops n up' (merged (t x) (t y) t)
  pub count : (n : ℕ) (t : ℕ → ℕ) → x < n → y < n → Tops n up t → c ≡ cond (eqb (t x) (t y)) 0 1
