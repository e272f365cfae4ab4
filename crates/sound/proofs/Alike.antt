-- Rows that tell the same of vertices, open and closed edges: the tests of cycles on them are the same. Assumes nothing.
use Prim.Native.Nat.{ℕ, zero, suc, ◌%◌}
use mathlib.Core.Path.{◌≡◌, refl, ap, ap₂, sym, ◌∙◌}
use mathlib.Core.List.{List, [], ◌∷◌}
use mathlib.Core.Bool.{Bool, true, false, not, ◌&&◌, ◌||◌, cond}
use lib.Dec.{eqb}
use lib.ListN.{take, get_or}
use Rattle.complex.specs.Lists.{all}
use Rattle.sound.specs.Rows.{Rows, is_vertex_in, edge_good, side_at, row_in, tail_in, head_in, leads_in, joins_in, cycle_good}
use Rattle.sound.proofs.Testing.{and_false}
use Rattle.sound.proofs.Parts.{and_assoc}

pub record Alike (t t' : Rows) : Type 0 where
  pub ids : t.ids ≡ t'.ids
  pub vertex : (r : ℕ) → eqb (get_or t.kinds r 4) 0 ≡ eqb (get_or t'.kinds r 4) 0
  pub open_edge : (r : ℕ) → eqb (get_or t.kinds r 4) 1 ≡ eqb (get_or t'.kinds r 4) 1
  pub closed_edge : (r : ℕ) → eqb (get_or t.kinds r 4) 2 ≡ eqb (get_or t'.kinds r 4) 2
  pub start : (r : ℕ) → eqb (get_or t.kinds r 4) 1 ≡ true → get_or t.starts r 0 ≡ get_or t'.starts r 0
  pub end : (r : ℕ) → eqb (get_or t.kinds r 4) 1 ≡ true → get_or t.ends r 0 ≡ get_or t'.ends r 0

module _ {t t' : Rows} (a : Alike t t') where
  row_alike : (s : ℕ) → row_in t s ≡ row_in t' s
  row_alike s = ap (λ (is : List ℕ). row_in (record { ids = is; kinds = t.kinds; starts = t.starts; ends = t.ends }) s) a.ids

  pub vertex_alike : (v : ℕ) → is_vertex_in t.ids t.kinds v ≡ is_vertex_in t'.ids t'.kinds v
  vertex_alike v = ap (λ (is : List ℕ). is_vertex_in is t.kinds v) a.ids ∙ a.vertex _

  pub edge_alike : (k s e m : ℕ) → edge_good t.ids t.kinds k s e m ≡ edge_good t'.ids t'.kinds k s e m
  edge_alike k s e m = ap (λ (x : Bool). cond (eqb k 1) x (cond (eqb k 2) (not (eqb m 0)) true)) (ap₂ ◌&&◌ (vertex_alike s) (vertex_alike e))

  -- the ends of a step of an open edge
  module _ (s : ℕ) (o : eqb (get_or t.kinds (row_in t s) 4) 1 ≡ true) where
    tail_alike : tail_in t s ≡ tail_in t' s
    tail_alike =
        ap₂ (cond (eqb (s % 2) 1)) (a.end (row_in t s) o) (a.start (row_in t s) o)
        ∙ ap (λ (r : ℕ). side_at t'.starts t'.ends r s) (row_alike s)

    head_alike : head_in t s ≡ head_in t' s
    head_alike =
        ap₂ (cond (eqb (s % 2) 1)) (a.start (row_in t s) o) (a.end (row_in t s) o)
        ∙ ap (λ (r : ℕ). side_at t'.ends t'.starts r s) (row_alike s)

  open_alike : (s : ℕ) → eqb (get_or t.kinds (row_in t s) 4) 1 ≡ eqb (get_or t'.kinds (row_in t' s) 4) 1
  open_alike s = a.open_edge (row_in t s) ∙ ap (λ (r : ℕ). eqb (get_or t'.kinds r 4) 1) (row_alike s)

  -- what is asked of a step after it is found to be of an open edge
  if_open : (s : ℕ) (x y : Bool) → (eqb (get_or t.kinds (row_in t s) 4) 1 ≡ true → x ≡ y)
      → eqb (get_or t.kinds (row_in t s) 4) 1 && x ≡ eqb (get_or t'.kinds (row_in t' s) 4) 1 && y
  if_open s x y f = go (eqb (get_or t.kinds (row_in t s) 4) 1) refl
    where
      go : (b : Bool) → eqb (get_or t.kinds (row_in t s) 4) 1 ≡ b
          → eqb (get_or t.kinds (row_in t s) 4) 1 && x ≡ eqb (get_or t'.kinds (row_in t' s) 4) 1 && y
      go true e = ap₂ ◌&&◌ (open_alike s) (f e)
      go false e = and_false x e ∙ sym (and_false y (sym (open_alike s) ∙ e))

  -- a step, where the rest leads alike from anywhere
  first_alike : (s : ℕ) (st : List ℕ) (u u' w w' : ℕ) → ((x : ℕ) → leads_in t x st w' ≡ leads_in t' x st w')
      → (eqb (get_or t.kinds (row_in t s) 4) 1 ≡ true → (u ≡ u') × (w ≡ w')) → leads_in t u (s ∷ st) w ≡ leads_in t' u' (s ∷ st) w'
  first_alike s st u u' w w' rest same =
      sym (and_assoc (eqb (get_or t.kinds (row_in t s) 4) 1) (eqb u (tail_in t s)) (leads_in t (head_in t s) st w))
      ∙ if_open s (eqb u (tail_in t s) && leads_in t (head_in t s) st w) (eqb u' (tail_in t' s) && leads_in t' (head_in t' s) st w')
      (λ o. ap₂ ◌&&◌ (ap₂ eqb (same o).0 (tail_alike s o)) (ap₂ (λ (x y : ℕ). leads_in t x st y) (head_alike s o) (same o).1 ∙ rest (head_in t' s)))
      ∙ and_assoc (eqb (get_or t'.kinds (row_in t' s) 4) 1) (eqb u' (tail_in t' s)) (leads_in t' (head_in t' s) st w')

  leads_alike : (st : List ℕ) (w u : ℕ) → leads_in t u st w ≡ leads_in t' u st w
  leads_alike [] w u = refl
  leads_alike (s ∷ st) w u = first_alike s st u u w w (leads_alike st w) (λ o. (refl, refl))

  joins_alike : (st : List ℕ) → joins_in t st ≡ joins_in t' st
  joins_alike [] = refl
  joins_alike (s ∷ st) =
      ap₂ ◌||◌
      (first_alike s st (tail_in t s) (tail_in t' s) (tail_in t s) (tail_in t' s) (leads_alike st (tail_in t' s)) (λ o. (tail_alike s o, tail_alike s o)))
      (ap (λ (x : Bool). x && all (eqb s) st) (a.closed_edge (row_in t s) ∙ ap (λ (r : ℕ). eqb (get_or t'.kinds r 4) 2) (row_alike s)))

  pub cycle_alike : (n : ℕ) (st : List ℕ) → cycle_good t n st ≡ cycle_good t' n st
  cycle_alike zero st = vertex_alike (get_or st 0 0)
  cycle_alike (suc n) st = joins_alike (take (suc n) st)
