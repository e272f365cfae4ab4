-- Tests and choices on lists. Definitions only.
use Rattle.std.specs.Prelude.{ℕ, zero, suc, ◌+◌, ◌-◌, Bool, true, false, not, ◌&&◌, ◌||◌, cond, List, [], ◌∷◌, ◌++◌, map, length, get_or, take, drop, eqb, ltb, leb}
pub use Rattle.number.specs.Readers.{all}

module _ {A : Type 0} where
  abbrev pub any : (A → Bool) → List A → Bool
  any p [] = false
  any p (x ∷ xs) = p x || any p xs

  abbrev pub is_empty : List A → Bool
  is_empty [] = true
  is_empty (x ∷ xs) = false

  abbrev pub cons_if : Bool → A → List A → List A
  cons_if true x xs = x ∷ xs
  cons_if false x xs = xs

  -- the elements of which p holds
  abbrev pub filter : (A → Bool) → List A → List A
  filter p [] = []
  filter p (x ∷ xs) = cons_if (p x) x (filter p xs)

  -- the sum of f over the elements
  abbrev pub total : (A → ℕ) → List A → ℕ
  total f [] = 0
  total f (x ∷ xs) = f x + total f xs

  abbrev pub one : A → List A
  one x = x ∷ []

  -- the elements from place n on, round the end
  abbrev pub rotated : ℕ → List A → List A
  rotated n xs = drop n xs ++ take n xs

abbrev pub holds : ℕ → List ℕ → Bool
holds n [] = false
holds n (m ∷ ms) = eqb n m || holds n ms

-- strictly rising, above lo and below hi
abbrev pub rising : ℕ → List ℕ → ℕ → Bool
rising lo [] hi = ltb lo hi
rising lo (n ∷ ns) hi = ltb lo n && rising n ns hi

-- strictly rising, from lo on and below hi
abbrev pub places : ℕ → List ℕ → ℕ → Bool
places lo [] hi = true
places lo (n ∷ ns) hi = leb lo n && (ltb n hi && places (suc n) ns hi)

module _ {A : Type 0} where
  -- the elements whose places, counted from n, are not in ns
  abbrev pub without : List ℕ → ℕ → List A → List A
  without ns n [] = []
  without ns n (x ∷ xs) = cons_if (not (holds n ns)) x (without ns (suc n) xs)

  -- the elements at the places ns
  abbrev pub chosen : A → List ℕ → List A → List A
  chosen d ns xs = map (λ (n : ℕ). get_or xs n d) ns

-- how many steps lead from place s to place t, round the end of n places
abbrev pub distance : ℕ → ℕ → ℕ → ℕ
distance n s t = cond (leb s t) (t - s) (t + n - s)
