-- Arrays whose ends and places are rewritten hold the drawing with them rewired. Assumes nothing.
use Prim.Native.Nat.{ℕ, zero, suc, ◌+◌, ◌<◌, ◌≤◌}
use native.Mathlib.Omega.{arith}
use mathlib.Core.Path.{◌≡◌, refl, sym, ap, ap₂, ◌∙◌}
use mathlib.Core.Bool.{Bool, true, cond}
use mathlib.Core.List.{List, [], ◌∷◌, map}
use borrow.Author.Tests.{ne_eqb}
use lib.ListN.{length, get_or, take}
use Rattle.coordinate.specs.declared.Position.{Position}
use Rattle.complex.specs.Lists.{total}
use Rattle.complex.specs.Cells.{Halfedge}
use Rattle.complex.specs.Edits.{reshape, rewired}
use Rattle.number.specs.Readers.{spread}
use Rattle.store.specs.declared.Shape.{Shape}
use Rattle.store.specs.declared.Cell.{Cell}
use Rattle.store.specs.View.{sheet_of, Fits, cycle_total, step_total}
use Rattle.store.specs.Edits.{places_of, with_entries}
use Rattle.store.specs.Places.{entry_cycles}
use Rattle.store.proofs.Lists.{width_places}
use Rattle.store.proofs.Stands.{stands}
use Rattle.store.proofs.Pools.{drawing_held}
use Rattle.rows_steps.specs.Renaming.{rename_shape, rename_cell, PlacesRewritten}
use Rattle.rows_steps.proofs.Rewired.{rewired_heads, rewired_cycles, rewired_bends, changed_is}
use Rattle.rows_steps.proofs.Renamed.{Rewrites, held_rewritten}
use Rattle.lent.specs.Arrays.{Arrays, shape_by, shape_at, position_in, cells_by, held_by, row_normal, normal_at, normal, Lengths}
use Rattle.lent.proofs.Held.{held_sizes, all_at, all_intro}
use Rattle.kernel_rename.specs.Renames.{rename_end, EndsRenamed, RewiredIn}

-- the arrays with other starts, ends and steps
abbrev pub with_ends : Arrays → List ℕ → List ℕ → List ℕ → Arrays
with_ends a ss es st =
    record {
      next = a.next;
      count = a.count;
      ids = a.ids;
      kinds = a.kinds;
      starts = ss;
      ends = es;
      bends = a.bends;
      counts = a.counts;
      px = a.px;
      py = a.py;
      cycles = a.cycles;
      steps = st;
      bx = a.bx;
      by = a.by;
    }

module _ (r : ℕ → ℕ) where
  -- a row
  shape_renamed : (k s e b c : ℕ) (p : Position) → shape_by k (rename_end r k s) (rename_end r k e) b c p ≡ rename_shape r (shape_by k s e b c p)
  shape_renamed zero s e b c p = refl
  shape_renamed (suc zero) s e b c p = refl
  shape_renamed (suc (suc zero)) s e b c p = refl
  shape_renamed (suc (suc (suc k))) s e b c p = refl

  as_it_was : (k v : ℕ) → (k ≡ 1 → ⊥) → rename_end r k v ≡ v
  as_it_was k v h = ap (λ (b : Bool). cond b (r v) v) (ne_eqb k 1 h)

  normal_renamed : (k s e b c : ℕ) → row_normal k (rename_end r k s) (rename_end r k e) b c ≡ row_normal k s e b c
  normal_renamed zero s e b c = refl
  normal_renamed (suc zero) s e b c = refl
  normal_renamed (suc (suc k)) s e b c =
      ap₂ (λ (x y : ℕ). row_normal (suc (suc k)) x y b c) (as_it_was (suc (suc k)) s (λ q. omega (arith, q))) (as_it_was (suc (suc k)) e (λ q. omega (arith, q)))

  cells_renamed : (f g : ℕ → Shape) (n : ℕ) (is : List ℕ) → ((j : ℕ) → j < n → g j ≡ rename_shape r (f j))
      → take n (cells_by g is) ≡ map (rename_cell r) (take n (cells_by f is))
  cells_renamed f g zero is h = refl
  cells_renamed f g (suc n) [] h = refl
  cells_renamed f g (suc n) (x ∷ is) h =
      ap₂ (λ (s : Shape) (l : List Cell). record { id = x; shape = s } ∷ l) (h 0 (omega arith))
      (cells_renamed (λ i. f (suc i)) (λ i. g (suc i)) n is (λ j q. h (suc j) (omega arith)))

module _ (a : Arrays) (l : Lengths a) (f : Fits (held_by a)) (k : ℕ) (e : k ≡ cycle_total (held_by a)) where
  -- the cycles in use and their steps
  pub lone_cycles : k ≤ 512
  lone_cycles = omega (arith, e, f.cycles)

  pub lone_steps : total (places_of 1) (take k a.cycles) ≤ 2048
  lone_steps = let w = ap (λ (m : ℕ). total (places_of 1) (take m a.cycles)) e ∙ width_places (take (cycle_total (held_by a)) a.cycles) in
      omega (arith, w, f.steps)

module _ (r : ℕ → ℕ) (σ : Halfedge → List Halfedge) (g : Bool → ℕ → ℕ) (w : Rewrites g r σ)
    (a : Arrays) (l : Lengths a) (f : Fits (held_by a)) (n : normal a ≡ true) (ss es st : List ℕ)
    (rs : EndsRenamed r a.kinds a.count a.starts ss) (re : EndsRenamed r a.kinds a.count a.ends es)
    (lt : length st ≡ 2048) (rl : PlacesRewritten g (take (cycle_total (held_by a)) a.cycles) a.steps st) where
  abbrev b : Arrays
  b = with_ends a ss es st

  long : Lengths b
  long =
      record {
        ids = l.ids;
        kinds = l.kinds;
        starts = rs.size ∙ l.starts;
        ends = re.size ∙ l.ends;
        bends = l.bends;
        counts = l.counts;
        px = l.px;
        py = l.py;
        cycles = l.cycles;
        steps = lt;
        bx = l.bx;
        by = l.by;
      }

  shape_at_lem : (j : ℕ) → j < a.count → shape_at b j ≡ rename_shape r (shape_at a j)
  shape_at_lem j h =
      ap₂ (λ (s e : ℕ). shape_by (get_or a.kinds j 0) s e (get_or a.bends j 0) (get_or a.counts j 0) (position_in a.px a.py j)) (rs.rows j h)
      (re.rows j h)
      ∙ shape_renamed r (get_or a.kinds j 0) (get_or a.starts j 0) (get_or a.ends j 0) (get_or a.bends j 0) (get_or a.counts j 0)
      (position_in a.px a.py j)

  normal_at_lem : (j : ℕ) → j < a.count → normal_at a.kinds ss es a.bends a.counts j ≡ true
  normal_at_lem j h =
      ap₂ (λ (s e : ℕ). row_normal (get_or a.kinds j 0) s e (get_or a.bends j 0) (get_or a.counts j 0)) (rs.rows j h) (re.rows j h)
      ∙ normal_renamed r (get_or a.kinds j 0) (get_or a.starts j 0) (get_or a.ends j 0) (get_or a.bends j 0) (get_or a.counts j 0)
      ∙ all_at (normal_at a.kinds a.starts a.ends a.bends a.counts) a.count j h n

  both : (sheet_of (held_by b) ≡ with_entries (sheet_of (held_by a)) (reshape (rewired r σ) (sheet_of (held_by a)).cells)) × Fits (held_by b)
  both =
      let d = held_by a in
      let z = held_sizes a l in
      let xs = (sheet_of d).cells in
      let held = held_rewritten g r σ w (spread entry_cycles xs) a.cycles (cycle_total d) a.steps (step_total d) st (drawing_held d z f)
      (lt ∙ sym l.steps) rl in
      changed_is d (held_by b) z f (held_sizes b long) refl refl refl (reshape (rewired r σ) xs)
      (cells_renamed r (shape_at a) (shape_at b) a.count a.ids shape_at_lem ∙ ap (map (rename_cell r)) (stands d z f).cells ∙ rewired_heads r σ xs)
      (rewired_bends r σ xs) (cycle_total d) (step_total d) (rw (rewired_cycles r σ xs) held)

  pub rewired_in : RewiredIn r σ a b
  rewired_in =
      record {
        sheet = both.0;
        fits = both.1;
        long = long;
        rows = all_intro (normal_at a.kinds ss es a.bends a.counts) a.count normal_at_lem;
      }
