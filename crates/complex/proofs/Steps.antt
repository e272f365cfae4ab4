-- Laws of any list of items, each handed the state that the one before it gave back: a step's law is the list's. Assumes nothing.
use mathlib.Core.Path.{◌≡◌, sym, ap, ◌∙◌}
use mathlib.Core.Bool.{cond}
use mathlib.Core.List.{List, [], ◌∷◌}
use lib.IntN.{ℤ, pos, ◌+ℤ◌, +ℤ_idr, +ℤ_assoc}
use Rattle.complex.specs.Demands.{Step, after_items, accepted_item, shares_of_items, Each}

-- every step keeps what is good
module _ {State Item : Type 0} (step : State → Item → Step State) (Good : State → Type 0) (keeps : (s : State) (i : Item) → Good s
    → Good (step s i).state) where
  pub items_good : (s : State) (is : List Item) → Good s → Good (after_items step s is)
  items_good s [] g = g
  items_good s (i ∷ is) g = items_good (step s i).state is (keeps s i g)

  -- a value that every step moves by its share, where it is accepted
  pub items_sum : (value : State → ℤ) (share : State → Item → ℤ)
      → ((s : State) (i : Item) → Good s → value (step s i).state ≡ value s +ℤ cond (accepted_item step s i) (share s i) (pos 0))
      → (s : State) (is : List Item) → Good s → value (after_items step s is) ≡ value s +ℤ shares_of_items step share s is
  items_sum value share moves s [] g = sym (+ℤ_idr (value s))
  items_sum value share moves s (i ∷ is) g =
      let t = (step s i).state in
      items_sum value share moves t is (keeps s i g)
      ∙ ap (λ (z : ℤ). z +ℤ shares_of_items step share t is) (moves s i g)
      ∙ +ℤ_assoc (value s) (cond (accepted_item step s i) (share s i) (pos 0)) (shares_of_items step share t is)

  -- what holds of every item
  pub items_each : (Claim : State → Item → Type 0) → ((s : State) (i : Item) → Good s → Claim s i) → (s : State) (is : List Item) → Good s
      → Each step Claim s is
  items_each Claim holds s [] g = tt
  items_each Claim holds s (i ∷ is) g = (holds s i g, items_each Claim holds (step s i).state is (keeps s i g))
