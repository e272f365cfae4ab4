-- Places joined by links, and group numbers that a search gives them. Definitions only.
use Rattle.std.specs.Prelude.{ℕ, suc, ◌≤◌, ◌<◌, ◌≡◌, Bool, true, false, not, cond, List, eqb, length, get_or}
use Rattle.complex.specs.Lists.{total}

-- one of two numbers is g, and the other not
abbrev pub differs : ℕ → ℕ → ℕ → Bool
differs a b g = cond (eqb a g) (not (eqb b g)) (eqb b g)

-- the same of the group numbers at the two places of link i
abbrev pub splits : List ℕ → List ℕ → List ℕ → ℕ → ℕ → Bool
splits G xs ys g i = differs (get_or G (get_or xs i 0) 0) (get_or G (get_or ys i 0) 0) g

-- the first m links are between places below n
pub record Links (n : ℕ) (xs ys : List ℕ) (m : ℕ) : Type 0 where
  pub lefts : m ≤ length xs
  pub rights : m ≤ length ys
  pub left : (i : ℕ) → i < m → get_or xs i 0 < n
  pub right : (i : ℕ) → i < m → get_or ys i 0 < n

-- r is the first link of which one place is in group g and the other not, or m
pub record FirstSplit (G xs ys : List ℕ) (m g r : ℕ) : Type 0 where
  pub within : r ≤ m
  pub before : (i : ℕ) → i < r → splits G xs ys g i ≡ false
  pub here : r < m → splits G xs ys g r ≡ true

-- H says the same of the two places of each link
abbrev pub SameAlong : List ℕ → List ℕ → ℕ → (ℕ → ℕ) → Type 0
SameAlong xs ys m H = (i : ℕ) → i < m → H (get_or xs i 0) ≡ H (get_or ys i 0)

-- group g has grown along the links as far as they lead
pub record Reached (xs ys : List ℕ) (m g : ℕ) (G G' : List ℕ) : Type 0 where
  pub size : length G' ≡ length G
  pub closed : (i : ℕ) → i < m → splits G' xs ys g i ≡ false
  pub kept : (p : ℕ) → (get_or G' p 0 ≡ g → ⊥) → get_or G' p 0 ≡ get_or G p 0
  pub held : (p : ℕ) → get_or G p 0 ≡ g → get_or G' p 0 ≡ g
  pub only : (H : ℕ → ℕ) → SameAlong xs ys m H → (n : ℕ) → ((p : ℕ) → get_or G p 0 ≡ g → H p ≡ n) → (p : ℕ) → get_or G' p 0 ≡ g → H p ≡ n

-- how many places are in other groups
abbrev pub outside : ℕ → List ℕ → ℕ
outside g G = total (λ (a : ℕ). cond (eqb a g) 0 1) G

-- ---- the groups of the marked places
abbrev pub Marked : List Bool → ℕ → Type 0
Marked at p = get_or at p false ≡ true

-- L numbers the classes of marked places that links join, in the order of their first places
pub record Classes (at : List Bool) (xs ys : List ℕ) (m : ℕ) (L : ℕ → ℕ) : Type 0 where
  pub along : SameAlong xs ys m L
  pub alike : (H : ℕ → ℕ) → SameAlong xs ys m H → (p q : ℕ) → Marked at p → Marked at q → L p ≡ L q → H p ≡ H q
  pub earlier : (p : ℕ) → Marked at p → (k : ℕ) → k < L p → (q : ℕ) × Marked at q × (q < p) × (L q ≡ k)

-- the marked places before p have the numbers of their classes in G, from 1 on, and g is the greatest
pub record Numbered (at : List Bool) (xs ys : List ℕ) (m : ℕ) (L : ℕ → ℕ) (p g : ℕ) (G : List ℕ) : Type 0 where
  pub most : (q : ℕ) → get_or G q 0 ≤ g
  pub done : (q : ℕ) → q < p → Marked at q → (get_or G q 0 ≡ 0 → ⊥)
  pub along : SameAlong xs ys m (λ (q : ℕ). get_or G q 0)
  pub label : (q : ℕ) → (get_or G q 0 ≡ 0 → ⊥) → get_or G q 0 ≡ suc (L q)
  pub found : (k : ℕ) → k < g → (q : ℕ) × Marked at q × (get_or G q 0 ≡ suc k)

pub record Sorting (at : List Bool) (xs ys : List ℕ) (m p g : ℕ) (G : List ℕ) : Type 0 where
  pub few : g ≤ p
  pub right : (L : ℕ → ℕ) → Classes at xs ys m L → Numbered at xs ys m L p g G

-- the links are between places of n, of which `at` marks some
pub record LinksReady (n : ℕ) (at : List Bool) (xs ys : List ℕ) (m : ℕ) : Type 0 where
  pub links : Links n xs ys m
  pub marks : length at ≤ n
  pub few : length at ≤ 512
