-- The two laws of the view: frame (only the places in use count) and append (one cell more). Assumes nothing.
use Prim.Native.Nat.{ℕ, ◌+◌, ◌<◌, ◌≤◌}
use mathlib.Core.Path.{◌≡◌, refl, ap, ap₂, sym, ◌∙◌}
use mathlib.Core.List.{List, [], ◌∷◌, ◌++◌, map, append-nil}
use mathlib.Core.Bool.{Bool, true, false, ◌&&◌}
use native.Mathlib.Omega.{arith}
use native.Mathlib.Numerals.{add-one}
use native.Mathlib.Nat.{add-zero}
use lib.ListN.{length, take, set, length-map, length-set}
use lib.Seq.{take-suc-set}
use Rattle.coordinate.specs.declared.Position.{Position}
use Rattle.store.specs.declared.Cell.{Cell}
use Rattle.store.specs.declared.Drawing.{Drawing}
use Rattle.store.specs.Sizes.{Sizes}
use Rattle.complex.specs.Cells.{Cycle, LiveCell as Entry, Figure, Sheet}
use Rattle.store.specs.Sheet.{real, all_real}
use Rattle.store.specs.View.{sheet_of, Fits, cycle_total, bend_total, step_total}
use Rattle.store.specs.Edits.{appended}
use Rattle.store.proofs.Lists.{map_append}
use Rattle.store.specs.Places.{shape_of, entry_cell, figure_cycles, figure_bends, entry_cycles, entry_bends, num_of, cycle_words}
use Rattle.number.specs.Readers.{spread}
use Rattle.store.proofs.Encode.{flat_append}
use Rattle.store.proofs.Stands.{Begins, begins_take, take_begins, Stands, stands, viewed, fitting, cycle_total_lem, bend_total_lem, step_total_lem}

pub sheet_is : (d : Drawing) (s : Sheet) → d.next ≡ s.next → (sheet_of d).cells ≡ s.cells → sheet_of d ≡ s
unfolding sheet_of
sheet_is d s p q = λ i. record { next = p i; cells = q i }

pub next_is : (d : Drawing) → (sheet_of d).next ≡ d.next
unfolding sheet_of
next_is d = refl

module _ {A : Type 0} where
  -- what follows a front
  pub begins_more : {l x : List A} (l' y : List A) (n : ℕ) → n ≡ length x → n + length y ≤ length l' → take (n + length y) l' ≡ take n l ++ y → Begins l x
      → Begins l' (x ++ y)
  begins_more {l} {x} l' y n e h g b = take_begins (n + length y) h (g ∙ ap (λ (r : List A). r ++ y) (begins_take n (sym e) b))

  pub no_more : (l : List A) (n : ℕ) → take (n + 0) l ≡ take n l ++ []
  no_more l n = rw (add-zero, append-nil)

  pub flat_snoc : {B : Type 0} (f : B → List A) (xs : List B) (x : B) → spread f (xs ++ (x ∷ [])) ≡ spread f xs ++ f x
  flat_snoc f xs x = flat_append f xs (x ∷ []) ∙ ap (λ (r : List A). spread f xs ++ r) (append-nil (f x))

pub real_append : (ks ls : List Cycle) → all_real ks ≡ true → all_real ls ≡ true → all_real (ks ++ ls) ≡ true
real_append [] ls h g = g
real_append (k ∷ ks) ls h g = go (real k) (all_real ks) h (real_append ks ls)
  where
    go : (a b : Bool) → (a && b) ≡ true → (b ≡ true → all_real ls ≡ true → all_real (ks ++ ls) ≡ true) → (a && all_real (ks ++ ls)) ≡ true
    go true b e ih = ih e g
    go false b e ih = e

-- the drawing d with a cell put after its own, and other pools
abbrev pub grown : Drawing → Figure → List ℕ → List ℕ → List Position → Drawing
grown d x cy st bs =
    record {
      next = d.next + 1;
      count = d.count + 1;
      cells = set d.cells d.count (record { id = d.next; shape = shape_of x });
      cycles = cy;
      steps = st;
      bends = bs;
    }

module _ (d : Drawing) (z : Sizes d) (f : Fits d) (h : d.count < 256) (x : Figure) (cy st : List ℕ) (bs : List Position) where
  -- the pools that are d's up to the sums, and then have the figure's own
  pub append : Sizes (grown d x cy st bs)
      → cycle_total d + length (map num_of (figure_cycles x)) ≤ 512
      → take (cycle_total d + length (map num_of (figure_cycles x))) cy ≡ take (cycle_total d) d.cycles ++ map num_of (figure_cycles x)
      → step_total d + length (spread cycle_words (figure_cycles x)) ≤ 2048
      → take (step_total d + length (spread cycle_words (figure_cycles x))) st ≡ take (step_total d) d.steps ++ spread cycle_words (figure_cycles x)
      → bend_total d + length (figure_bends x) ≤ 2048 → take (bend_total d + length (figure_bends x)) bs ≡ take (bend_total d) d.bends ++ figure_bends x
      → all_real (figure_cycles x) ≡ true → (sheet_of (grown d x cy st bs) ≡ appended (sheet_of d) x) × Fits (grown d x cy st bs)
  append zr hk k ht t hb b e =
      let xs = (sheet_of d).cells in
      let s = stands d z f in
      let r = grown d x cy st bs in
      let new : Entry = record { id = (sheet_of d).next; figure = x } in
      let ks = spread entry_cycles xs in
      let fk = flat_snoc entry_cycles xs new in
      let sr : Stands r (xs ++ (new ∷ [])) =
      record {
        cells =
            ap (λ (n : ℕ). take n r.cells) (add-one d.count) ∙ take-suc-set d.cells d.count _ (omega (arith, z.cells))
            ∙ ap₂ (λ (l : List Cell) (n : ℕ). l ++ (record { id = n; shape = shape_of x } ∷ [])) s.cells (sym (next_is d))
            ∙ sym (map_append entry_cell xs (new ∷ []));
        cycles =
            rw (fk, map_append num_of ks (figure_cycles x))
            (begins_more cy (map num_of (figure_cycles x)) (cycle_total d) (cycle_total_lem d xs s ∙ sym (length-map ks num_of)) (omega (arith, zr.cycles)) k
            s.cycles);
        steps =
            rw (fk, flat_append cycle_words ks (figure_cycles x))
            (begins_more st (spread cycle_words (figure_cycles x)) (step_total d) (step_total_lem d xs s) (omega (arith, zr.steps)) t s.steps);
        bends =
            rw (flat_snoc entry_bends xs new)
            (begins_more bs (figure_bends x) (bend_total d) (bend_total_lem d xs s) (omega (arith, zr.bends)) b s.bends);
        real = ap all_real fk ∙ real_append ks (figure_cycles x) s.real e;
      }
      in
      let n : d.next + 1 ≡ (sheet_of d).next + 1 = ap (λ (m : ℕ). m + 1) (sym (next_is d)) in
      (sheet_is r (appended (sheet_of d) x) n (viewed r _ sr), fitting r _ sr zr (omega arith))

-- a figure without cycles
module _ (d : Drawing) (z : Sizes d) (f : Fits d) (h : d.count < 256) (x : Figure) (bs : List Position) where
  pub append_edge : figure_cycles x ≡ [] → length bs ≡ 2048 → bend_total d + length (figure_bends x) ≤ 2048
      → take (bend_total d + length (figure_bends x)) bs ≡ take (bend_total d) d.bends ++ figure_bends x
      → (sheet_of (grown d x d.cycles d.steps bs) ≡ appended (sheet_of d) x) × Fits (grown d x d.cycles d.steps bs)
  append_edge e zb hb b =
      append d z f h x d.cycles d.steps bs
      (record { cells = length-set d.cells d.count _ ∙ z.cells; cycles = z.cycles; steps = z.steps; bends = zb })
      (rw e (omega (arith, f.cycles))) (rw e (no_more d.cycles (cycle_total d)))
      (rw e (omega (arith, f.steps))) (rw e (no_more d.steps (step_total d)))
      hb b (ap all_real e)
