-- New ends and then new lone cycles are what unglue makes of the cells. Assumes nothing.
use Prim.Native.Nat.{ℕ, ◌+◌}
use mathlib.Core.Path.{◌≡◌, refl, ap, ap₂}
use mathlib.Core.List.{List, [], ◌∷◌}
use mathlib.Core.Bool.{Bool, true, false}
use mathlib.Core.Option.{some}
use lib.Dec.{ltb}
use lib.ListN.{length}
use Rattle.complex.specs.Lists.{total, cons_if}
use Rattle.complex.specs.Cells.{Halfedge, Cycle, Figure, vertex, open_edge, closed_edge, face, LiveCell, cycles_of, along, against}
use Rattle.complex.specs.Edits.{reshape}
use Rattle.complex.specs.Uses.{uses_by, earlier, counting, on_uses, lone_use}
use Rattle.complex.specs.Unglue.{new_lone, new_end, new_ends}
use Rattle.rows_steps.specs.Ends.{ends_by}

module _ (f g : ℕ → ℕ → ℕ) (uses : Cycle → ℕ) where
  same_cycles_lem : (i : ℕ) (x : Figure) → cycles_of (some (ends_by f g i x)) ≡ cycles_of (some x)
  same_cycles_lem i (vertex p) = refl
  same_cycles_lem i (open_edge a b bs) = refl
  same_cycles_lem i (closed_edge bs) = refl
  same_cycles_lem i (face ks) = refl

  -- new ends change no use
  same_uses : (i : ℕ) (cs : List LiveCell) → uses_by uses (earlier i (reshape (ends_by f g) cs)) ≡ uses_by uses (earlier i cs)
  same_uses i [] = refl
  same_uses i (c ∷ cs) = go (ltb c.id i) (same_uses i cs)
    where
      go : (b : Bool) → uses_by uses (earlier i (reshape (ends_by f g) cs)) ≡ uses_by uses (earlier i cs)
          → uses_by uses (cons_if b (record { id = c.id; figure = ends_by f g c.id c.figure }) (earlier i (reshape (ends_by f g) cs)))
          ≡ uses_by uses (cons_if b c (earlier i cs))
      go true e = ap₂ (λ (ks : List Cycle) (n : ℕ). total uses ks + n) (same_cycles_lem c.id c.figure) e
      go false e = e

module _ (v next : ℕ) (gs : List (List Halfedge)) where
  -- the ends of the groups
  abbrev pub new_start : ℕ → ℕ → ℕ
  new_start i a = new_end v next gs a (along i)

  abbrev pub new_stop : ℕ → ℕ → ℕ
  new_stop i b = new_end v next gs b (against i)

  module _ (all : List LiveCell) where
    figure_unglued : (i : ℕ) (x : Figure)
        → on_uses (lone_use v) (new_lone v next) (length gs) (reshape (ends_by new_start new_stop) all) i (ends_by new_start new_stop i x) ≡ new_ends v next gs all i x
    figure_unglued i (vertex p) = refl
    figure_unglued i (open_edge a b bs) = refl
    figure_unglued i (closed_edge bs) = refl
    figure_unglued i (face ks) = ap (λ (n : ℕ). face (counting (lone_use v) (new_lone v next) (length gs + n) ks)) (same_uses new_start new_stop (lone_use v) i all)

    unglued_from : (cs : List LiveCell)
        → reshape (on_uses (lone_use v) (new_lone v next) (length gs) (reshape (ends_by new_start new_stop) all)) (reshape (ends_by new_start new_stop) cs)
        ≡ reshape (new_ends v next gs all) cs
    unglued_from [] = refl
    unglued_from (c ∷ cs) = ap₂ (λ (x : Figure) (q : List LiveCell). record { id = c.id; figure = x } ∷ q) (figure_unglued c.id c.figure)
        (unglued_from cs)

    -- first the ends, then the lone cycles
    pub ends-then-lone :
        reshape (on_uses (lone_use v) (new_lone v next) (length gs) (reshape (ends_by new_start new_stop) all)) (reshape (ends_by new_start new_stop) all)
        ≡ reshape (new_ends v next gs all) all
    ends-then-lone = unglued_from all
