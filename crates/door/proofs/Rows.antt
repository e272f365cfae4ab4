-- Cells that are written into rows, one after another. Assumes nothing.
use Prim.Native.Nat.{ℕ, ◌+◌, ◌<◌, ◌≤◌}
use mathlib.Core.Path.{◌≡◌, sym, ap, ◌∙◌, subst}
use mathlib.Core.Bool.{true}
use mathlib.Core.List.{List}
use native.Mathlib.Omega.{arith}
use native.Mathlib.Decide.{dec_lt}
use lib.Ieee.{Float}
use lib.ListN.{length, get_or, take}
use Rattle.store.specs.declared.Shape.{Shape}
use Rattle.store.specs.declared.Cell.{Cell}
use Rattle.store.specs.declared.Drawing.{Drawing}
use Rattle.store.proofs.Rows.{get_d_past}
use Rattle.lent.specs.Arrays.{Arrays, of_lists, shape_at, positions_in, held_by, row_normal, normal_at, normal, Lengths}
use Rattle.lent.specs.Growing.{cell_put, with_shape}
use Rattle.lent.proofs.Held.{cells_length, all_at, all_intro, numbered, numbered_long}
use Rattle.lent.proofs.Grown.{shape_long, shape_held, shape_normal}
use Rattle.door.specs.Parts.{AllRows}
use Rattle.door.proofs.Fronts.{front_turn, front_all}

-- ---- the first rows of a hold the first cells of l
pub record Put (l : List Cell) (a : Arrays) : Type 0 where
  pub long : Lengths a
  pub front : take a.count (held_by a).cells ≡ take a.count l
  pub rows : normal a ≡ true

-- the rows of b, and of a the rest
abbrev pub rest_from : Arrays → Arrays → Arrays
rest_from a b = record b { next = a.next; count = a.count; cycles = a.cycles; steps = a.steps; bx = a.bx; by = a.by }

-- a row that is written leaves the rest
pub rest_kept : (a b d : Arrays) (row i : ℕ) (x : Shape) → b ≡ rest_from a b → d ≡ cell_put b row i x → d ≡ rest_from a d
rest_kept a b d row i x e q =
    subst (λ (z : Arrays). z ≡ rest_from a z) (sym q) (ap (λ (z : Arrays). cell_put z row i x) e)

module _ (l : List Cell) (h : length l ≡ 256) (a : Arrays) (p : Put l a) where
  -- the cell c is written into the row after them
  pub put_turn : (c z : Cell) → a.count < 256 → c ≡ get_or l a.count z → (b : Arrays) → b ≡ record (cell_put a a.count c.id c.shape) { count = a.count + 1 }
      → Put l b
  put_turn c z k e b q =
      let s = c.shape in
      let i = a.count in
      let g = numbered a c.id i in
      let lg = numbered_long a c.id i p.long in
      subst (Put l) (sym q)
      (record {
        long = numbered_long (with_shape g s) a.next (i + 1) (shape_long g lg s);
        front =
            ap (λ (d : Drawing). take (i + 1) d.cells) (shape_held g lg k s)
            ∙ front_turn l (held_by a).cells i c z (omega (arith, h, k)) (omega (arith, cells_length (shape_at a) a.ids, p.long.ids, k)) e p.front;
        rows = shape_normal g lg k p.rows s;
      })

  module _ (e : a.count ≡ 256) where
    past : (j : ℕ) → 256 ≤ j → normal_at a.kinds a.starts a.ends a.bends a.counts j ≡ true
    past j k =
        let q = get_d_past a.kinds j 0 (omega (arith, p.long.kinds, k)) in
        let x = get_d_past a.starts j 0 (omega (arith, p.long.starts, k)) in
        let y = get_d_past a.ends j 0 (omega (arith, p.long.ends, k)) in
        let u = get_d_past a.bends j 0 (omega (arith, p.long.bends, k)) in
        let v = get_d_past a.counts j 0 (omega (arith, p.long.counts, k)) in
        λ i. row_normal (q i) (x i) (y i) (u i) (v i)

    each : (j : ℕ) → Dec (j < a.count) → normal_at a.kinds a.starts a.ends a.bends a.counts j ≡ true
    each j (yes k) = all_at (normal_at a.kinds a.starts a.ends a.bends a.counts) a.count j k p.rows
    each j (no k) = past j (omega (arith, k, e))

    pub put_all : AllRows l a
    put_all =
        record {
          cells = front_all l (held_by a).cells a.count (h ∙ sym e) (cells_length (shape_at a) a.ids ∙ p.long.ids ∙ sym e) p.front;
          rows = λ j. each j (dec_lt j a.count);
        }

-- ---- the whole
abbrev pub apart : Drawing → Arrays → List Float → List Float → Arrays
apart d a xs ys =
    of_lists d.next d.count a.ids a.kinds a.starts a.ends a.bends a.counts a.px a.py d.cycles d.steps xs ys

module _ (d : Drawing) (a : Arrays) (xs ys : List Float) (r : AllRows d.cells a) where
  pub apart_held : positions_in xs ys ≡ d.bends → held_by (apart d a xs ys) ≡ d
  apart_held e = λ j. record { next = d.next; count = d.count; cells = r.cells j; cycles = d.cycles; steps = d.steps; bends = e j }

  pub apart_normal : normal (apart d a xs ys) ≡ true
  apart_normal = all_intro (normal_at a.kinds a.starts a.ends a.bends a.counts) d.count (λ j h. r.rows j)
