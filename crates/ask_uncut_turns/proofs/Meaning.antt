-- What the tests over rows and arrays tell of the sheet's passages. Assumes nothing.
use Prim.Native.Nat.{ℕ}
use mathlib.Core.Path.{◌≡◌, refl, ap, ap₂, sym, ◌∙◌}
use mathlib.Core.Bool.{Bool, true, false, ◌&&◌, ◌||◌, cond}
use mathlib.Core.List.{List, [], ◌∷◌}
use lib.Dec.{eqb}
use lib.ListN.{take}
use Rattle.number.specs.Readers.{spread}
use Rattle.complex.specs.Lists.{any, filter, cons_if}
use Rattle.complex.specs.Cells.{Halfedge, Cycle, lookup, cell_at, is_open, tail_of, steps_of}
use Rattle.complex.specs.Uses.{Passage, passages, all_cycles, passages_at}
use Rattle.store.specs.declared.Drawing.{Drawing}
use Rattle.store.specs.declared.Index.{Index}
use Rattle.store.specs.Index.{Indexes}
use Rattle.store.specs.Sizes.{Sizes}
use Rattle.store.specs.View.{sheet_of, Fits, cycle_total, cycles_from}
use Rattle.sound.specs.Looks.{Looks}
use Rattle.sound.specs.Rows.{Rows, rows_of}
use Rattle.sound.proofs.Meaning.{open_at}
use Rattle.law_uncut.proofs.Held.{cycles_held}
use Rattle.ask_uncut_turns.specs.Turns.{Rowed, side_in, leaves_in, turns_back, turns_at, turns_in}

module _ {A : Type 0} where
  any_filter : (p q : A → Bool) (xs : List A) → any p (filter q xs) ≡ any (λ (x : A). q x && p x) xs
  any_filter p q [] = refl
  any_filter p q (x ∷ xs) = go (q x) (any_filter p q xs)
    where
      go : (b : Bool) → any p (filter q xs) ≡ any (λ (y : A). q y && p y) xs → any p (cons_if b x (filter q xs)) ≡ (b && p x) || any (λ (y : A). q y && p y) xs
      go true e = ap (λ (c : Bool). p x || c) e
      go false e = e

  any_same : (p q : A → Bool) → ((x : A) → p x ≡ q x) → (xs : List A) → any p xs ≡ any q xs
  any_same p q h [] = refl
  any_same p q h (x ∷ xs) = ap₂ ◌||◌ (h x) (any_same p q h xs)

-- ---- by the index of a drawing
abbrev pub rows_in : Drawing → Index → Rows
rows_in d ix = rows_of d.count ix.ids ix.kinds ix.starts ix.ends

module _ {d : Drawing} {ix : Index} (k : Looks d ix) where
  tail_is : (h : Halfedge) → side_in (take d.count ix.ids) (take d.count ix.starts) (take d.count ix.ends) h ≡ tail_of (cell_at (sheet_of d)) h
  tail_is h = ap₂ (cond h.backward) (k.ends h.edge) (k.starts h.edge)

  leaves_is : (v : ℕ) (h : Halfedge) → leaves_in (rows_in d ix) v h ≡ is_open (cell_at (sheet_of d) h.edge) && eqb (tail_of (cell_at (sheet_of d)) h) v
  leaves_is v h = ap₂ ◌&&◌ (open_at k h.edge) (ap (λ (n : ℕ). eqb n v) (tail_is h))

  -- a cycle of the drawing turns back at v
  pub turns_are : Sizes d → Fits d → (whole : Bool) (v : ℕ)
      → turns_in (rows_in d ix) whole v (cycles_from (take (cycle_total d) d.cycles) d.steps) ≡ any (turns_back whole) (passages_at (sheet_of d).cells v)
  turns_are z f whole v =
      let s = sheet_of d in
      let look = lookup s.cells in
      ap (turns_in (rows_in d ix) whole v) (cycles_held d z f)
      ∙ any_same (turns_at (rows_in d ix) whole v) (λ (t : Passage). (is_open (look t.leaves.edge) && eqb (tail_of look t.leaves) v) && turns_back whole t)
      (λ t. ap (λ (b : Bool). b && turns_back whole t) (leaves_is v t.leaves)) (spread (λ (c : Cycle). passages (steps_of c)) (all_cycles s.cells))
      ∙ sym (any_filter (turns_back whole) (λ (t : Passage). is_open (look t.leaves.edge) && eqb (tail_of look t.leaves) v)
      (spread (λ (c : Cycle). passages (steps_of c)) (all_cycles s.cells)))

-- the arrays of the index
pub rowed_is : (d : Drawing) → Fits d → (ix : Index) → Indexes d ix → Looks d ix → Rowed d.count ix.ids ix.kinds ix.starts ix.ends
rowed_is d f ix x k =
    let z = x.sizes in
    record { few = f.cells; ids = z.0; kinds = z.1; starts = z.2; ends = z.3; rising = k.rising }
