-- The cycles of the arrays are right as those of the sheet are. Assumes nothing.
use Prim.Native.Nat.{ℕ, zero, suc, ◌/◌, ◌%◌}
use mathlib.Core.Path.{◌≡◌, refl, ap, ap₂, sym, ◌∙◌}
use mathlib.Core.List.{List, [], ◌∷◌, map}
use mathlib.Core.Bool.{Bool, true, false, ◌&&◌, ◌||◌, cond, beq}
use native.Mathlib.Omega.{arith}
use lib.Dec.{eqb}
use lib.ListN.{take, drop, get_or}
use borrow.Author.Tests.{eq-eqb, ne_eqb, eqb-true, eqb-false}
use Rattle.complex.specs.Lists.{all}
use Rattle.complex.specs.Cells.{LiveCell, lookup, is_open, same, tail_of, head_of}
use Rattle.complex.specs.Sound.{leads, joins, cycle_ok}
use Rattle.store.specs.View.{halfedge_of, width, cycle_of, cycles_from}
use Rattle.sound.specs.Rows.{Rows, tail_in, head_in, leads_in, joins_in, cycle_good, cycles_good}
use Rattle.sound.proofs.Parts.{and_assoc, all_same, all_map, is_open_lem, is_closed_lem, id_row, kind_row, start_row, end_row, kind_row_lem, start_row_lem, end_row_lem}
use Rattle.sound.proofs.Parts.{vertex_row}

same_step : (s t : ℕ) (x p q : Bool) → eqb (s / 2) (t / 2) ≡ x → eqb (s % 2) 1 ≡ p → eqb (t % 2) 1 ≡ q → eqb s t ≡ x && beq p q
same_step s t false p q e f g = ne_eqb s t (λ u. eqb-false (s / 2) (t / 2) e (ap (λ (n : ℕ). n / 2) u))
same_step s t true true true e f g = let a = eqb-true (s / 2) (t / 2) e in let b = eqb-true (s % 2) 1 f in let c = eqb-true (t % 2) 1 g in
    eq-eqb s t (omega arith)
same_step s t true true false e f g = ne_eqb s t (λ u. eqb-false (t % 2) 1 g (ap (λ (n : ℕ). n % 2) (sym u) ∙ eqb-true (s % 2) 1 f))
same_step s t true false true e f g = ne_eqb s t (λ u. eqb-false (s % 2) 1 f (ap (λ (n : ℕ). n % 2) u ∙ eqb-true (t % 2) 1 g))
same_step s t true false false e f g = let a = eqb-true (s / 2) (t / 2) e in let b = eqb-false (s % 2) 1 f in let c = eqb-false (t % 2) 1 g in
    eq-eqb s t (omega arith)

module _ (xs : List LiveCell) where
  abbrev pub cell_rows : Rows
  cell_rows = record { ids = id_row xs; kinds = kind_row xs; starts = start_row xs; ends = end_row xs }

  tail_row : (s : ℕ) → tail_in cell_rows s ≡ tail_of (lookup xs) (halfedge_of s)
  tail_row s = ap₂ (cond (eqb (s % 2) 1)) (end_row_lem xs (s / 2)) (start_row_lem xs (s / 2))

  head_row : (s : ℕ) → head_in cell_rows s ≡ head_of (lookup xs) (halfedge_of s)
  head_row s = ap₂ (cond (eqb (s % 2) 1)) (start_row_lem xs (s / 2)) (end_row_lem xs (s / 2))

  leads_row : (u : ℕ) (st : List ℕ) (w : ℕ) → leads_in cell_rows u st w ≡ leads (lookup xs) u (map halfedge_of st) w
  leads_row u [] w = refl
  leads_row u (s ∷ st) w =
      let look = lookup xs in
      ap₂ ◌&&◌
      (ap₂ ◌&&◌ (ap (λ (n : ℕ). eqb n 1) (kind_row_lem xs (s / 2)) ∙ is_open_lem (look (s / 2))) (ap (eqb u) (tail_row s)))
      (leads_row (head_in cell_rows s) st w ∙ ap (λ (x : ℕ). leads look x (map halfedge_of st) w) (head_row s))
      ∙ sym (and_assoc (is_open (look (s / 2))) (eqb u (tail_of look (halfedge_of s))) (leads look (head_of look (halfedge_of s)) (map halfedge_of st) w))

  joins_row : (st : List ℕ) → joins_in cell_rows st ≡ joins (lookup xs) (map halfedge_of st)
  joins_row [] = refl
  joins_row (s ∷ st) =
      let look = lookup xs in
      ap₂ ◌||◌
      (leads_row (tail_in cell_rows s) (s ∷ st) (tail_in cell_rows s)
      ∙ ap (λ (x : ℕ). leads look x (map halfedge_of (s ∷ st)) x) (tail_row s))
      (ap₂ ◌&&◌ (ap (λ (n : ℕ). eqb n 2) (kind_row_lem xs (s / 2)) ∙ is_closed_lem (look (s / 2)))
      (all_same (eqb s) (λ (t : ℕ). same (halfedge_of s) (halfedge_of t))
      (λ t. same_step s t (eqb (s / 2) (t / 2)) (eqb (s % 2) 1) (eqb (t % 2) 1) refl refl refl) st
      ∙ all_map (same (halfedge_of s)) halfedge_of st))

  pub cycle_right_lem : (n : ℕ) (st : List ℕ) → cycle_good cell_rows n st ≡ cycle_ok (lookup xs) (cycle_of n st)
  cycle_right_lem zero st = vertex_row xs (get_or st 0 0)
  cycle_right_lem (suc n) st = joins_row (take (suc n) st)

  -- the cycles as they are tested are the cycles as the sheet has them
  pub cycles_right_lem : (ns st : List ℕ) → cycles_good cell_rows ns st ≡ all (cycle_ok (lookup xs)) (cycles_from ns st)
  cycles_right_lem [] st = refl
  cycles_right_lem (n ∷ ns) st = ap₂ ◌&&◌ (cycle_right_lem n st) (cycles_right_lem ns (drop (width n) st))
