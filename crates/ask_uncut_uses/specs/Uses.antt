-- The uses of an edge, over the rows of an index and the cycles in number arrays. Definitions only.
use Rattle.std.specs.Prelude.{ℕ, ◌≤◌, ◌≡◌, false, cond, List, [], ◌∷◌, ◌++◌, eqb, length, take, drop}
use Rattle.complex.specs.Lists.{total}
use Rattle.complex.specs.Cells.{Cycle}
use Rattle.complex.specs.Uses.{cycle_uses, Use as Used}
use Rattle.complex.specs.Uncut.{Uncut, two_faces, one_cycle, rings}
use Rattle.store.specs.Edits.{places_of}
use Rattle.store.specs.View.{width_sum}
use Rattle.ask_uncut_uses.specs.declared.Use.{Use}
use Rattle.ask_uncut_uses.specs.declared.Uses.{Uses}
use Rattle.ask_uncut_uses.specs.declared.Between.{Between}
use Rattle.ask_uncut_uses.specs.declared.Between.TheVariants.{TwoFaces, OneCycle, Rings}

abbrev pub use_of : Used → Use
use_of u = record { face = u.face; cycle = u.cycle; step = u.step; back = u.halfedge.backward }

-- a use of the edge e, in the definitions' words
abbrev pub use_at : ℕ → Use → Used
use_at e u = record { face = u.face; cycle = u.cycle; step = u.step; halfedge = record { edge = e; backward = u.back } }

-- the case of 0E at an edge by its two uses
abbrev pub case_of : Between → Used → Used → Uncut
case_of TwoFaces u w = two_faces u w
case_of OneCycle u w = one_cycle u w
case_of Rings u w = rings u w

abbrev pub no_use : Use
no_use = record { face = 0; cycle = 0; step = 0; back = false }

abbrev pub no_uses : Uses
no_uses = record { count = 0; one = no_use; two = no_use }

-- one use more: 1, 2, or 3 for more than 2, and the first two
abbrev pub add_use : Uses → Use → Uses
add_use x u =
    cond (eqb x.count 0) (record { count = 1; one = u; two = u })
    (cond (eqb x.count 1) (record { count = 2; one = x.one; two = u }) (record { count = 3; one = x.one; two = x.two }))

abbrev pub one_use : Uses → Used → Uses
one_use x u = add_use x (use_of u)

abbrev pub uses_two : List Used → Uses
uses_two [] = no_uses
uses_two (u ∷ []) = record { count = 1; one = use_of u; two = use_of u }
uses_two (u ∷ w ∷ []) = record { count = 2; one = use_of u; two = use_of w }
uses_two (u ∷ w ∷ x ∷ l) = record { count = 3; one = use_of u; two = use_of w }

-- the uses of e by the rows of ids and numbers of cycles, which follow each other in cy
abbrev pub row_uses : ℕ → List ℕ → List ℕ → List Cycle → List Used
row_uses e [] ks cy = []
row_uses e (i ∷ is) [] cy = []
row_uses e (i ∷ is) (k ∷ ks) cy = cycle_uses e i 0 (take k cy) ++ row_uses e is ks (drop k cy)

-- the arrays of n rows and of their cycles
pub record Faces (n : ℕ) (is ks ns st : List ℕ) : Type 0 where
  pub few : n ≤ 256
  pub ids : length is ≡ 256
  pub counts : length ks ≡ 256
  pub cycles : length ns ≡ 512
  pub steps : length st ≡ 2048
  pub cycles_fit : total (places_of 0) (take n ks) ≤ 512
  pub steps_fit : width_sum (take (total (places_of 0) (take n ks)) ns) ≤ 2048
