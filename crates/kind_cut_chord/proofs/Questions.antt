-- Question 5 in three parts: what was answered of each corner. Assumes nothing.
use mathlib.Core.Path.{◌≡◌, ap, ap₂, sym, ◌∙◌}
use mathlib.Core.Bool.{Bool, true, false, ◌&&◌}

module _ (a b p x : Bool) (ex : x ≡ a) where
  pub first_no_lem : x ≡ false → false ≡ (a && (b && p))
  first_no_lem n = sym (ap (λ (q : Bool). q && (b && p)) (sym ex ∙ n))

  module _ (nx : x ≡ true) (y : Bool) (ey : y ≡ b) where
    pub second_no : y ≡ false → false ≡ (a && (b && p))
    second_no n = sym (ap₂ (λ (q r : Bool). q && (r && p)) (sym ex ∙ nx) (sym ey ∙ n))

    pub rest_says : y ≡ true → (r : Bool) → r ≡ p → r ≡ (a && (b && p))
    rest_says ny r er = er ∙ sym (ap₂ (λ (q t : Bool). q && (t && p)) (sym ex ∙ nx) (sym ey ∙ ny))
