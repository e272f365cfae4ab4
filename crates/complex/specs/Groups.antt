-- Groups of elements, and links that put groups together. The elements are of any type that has a test of equality. Definitions only.
use Rattle.std.specs.Prelude.{ℕ, suc, Bool, not, ◌||◌, cond}
use mathlib.Core.List.{List, [], ◌∷◌, ◌++◌, Memᴰ}
use Rattle.number.specs.Readers.{spread}
use Rattle.complex.specs.Lists.{any, filter}

module _ {A : Type 0} (same : A → A → Bool) where
  abbrev pub is_in : List A → A → Bool
  is_in g x = any (same x) g

  -- the place of the first group that holds x, or how many groups there are if none does
  abbrev pub group_of : List (List A) → A → ℕ
  group_of [] x = 0
  group_of (g ∷ gs) x = cond (is_in g x) 0 (suc (group_of gs x))

  -- a link l is between the elements `from l` and `to l`
  module _ {L : Type 0} (from to : L → A) where
    abbrev pub touches : L → List A → Bool
    touches l g = is_in g (from l) || is_in g (to l)

    -- the members of the groups that a link touches
    abbrev pub touched : L → List (List A) → List A
    touched l gs = spread (λ (g : List A). g) (filter (touches l) gs)

    -- the groups that it does not touch
    abbrev pub untouched : L → List (List A) → List (List A)
    untouched l gs = filter (λ (g : List A). not (touches l g)) gs

    -- the groups that a link touches are put together at the place of the first; the others stay
    abbrev pub join_groups : L → List (List A) → List (List A)
    join_groups l [] = []
    join_groups l (g ∷ gs) = cond (touches l g) ((g ++ touched l gs) ∷ untouched l gs) (g ∷ join_groups l gs)

    -- link after link
    abbrev pub join_all : List L → List (List A) → List (List A)
    join_all [] gs = gs
    join_all (l ∷ ls) gs = join_all ls (join_groups l gs)

-- two elements belong together if one of the links ls is between them, and so on through chains
pub data Together {A L : Type 0} (from to : L → A) (ls : List L) : A → A → Type 0 where
  linked : (l : L) → Memᴰ l ls → Together from to ls (from l) (to l)
  itself : (x : A) → Together from to ls x x
  back : {x y : A} → Together from to ls x y → Together from to ls y x
  chain : {x y z : A} → Together from to ls x y → Together from to ls y z → Together from to ls x z
