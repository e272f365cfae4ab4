-- The places of cycles rewritten one by one. Assumes nothing.
use Prim.Native.Nat.{ℕ, suc, ◌≤◌}
use mathlib.Core.Path.{◌≡◌, refl, ap, ap₂, sym, ◌∙◌}
use mathlib.Core.List.{List, [], ◌∷◌, ◌++◌, map}
use mathlib.Core.Bool.{Bool, true, false, false≢true}
use native.Mathlib.Omega.{arith}
use borrow.Author.Tests.{ne_eqb}
use lib.Ieee.{nan}
use lib.ListN.{length, take, replicate, length-map}
use Rattle.store.specs.declared.Shape.{Shape}
use Rattle.store.specs.declared.Shape.TheVariants.{Vertex}
use Rattle.store.specs.declared.Cell.{Cell}
use Rattle.complex.specs.Lists.{total, one}
use Rattle.complex.specs.Cells.{Halfedge, Cycle, lone, path}
use Rattle.complex.specs.Edits.{rewired_cycle}
use Rattle.store.specs.Sheet.{all_real}
use Rattle.store.specs.Edits.{zipped, places_of, lone_places}
use Rattle.store.specs.Places.{num_of, cycle_words, word}
use Rattle.store.specs.Pools.{Held}
use Rattle.number.specs.Readers.{spread}
use Rattle.complex.proofs.Keep.{length_each}
use Rattle.rows_steps.specs.Renaming.{rename_place, PlacesRewritten}
use Rattle.store.proofs.Lists.{map_append, width_places}
use Rattle.rows_steps.proofs.Rewired.{stay_real, held_width}

-- what stands past the end of a list of cells
abbrev pub no_cell : Cell
no_cell = record { id = 0; shape = Vertex (record { x = nan; y = nan }) }

pub cell_shape : (c : Cell) (s t : Shape) → s ≡ t → ◌≡◌ {A = Cell} (record { id = c.id; shape = s }) (record { id = c.id; shape = t })
cell_shape c s t e = ap (λ (u : Shape). record { id = c.id; shape = u }) e

module _ (f : Bool → ℕ → ℕ) where
  zip_run : (m : Bool) (y ys : List ℕ) (rs : List Bool) → zipped f (replicate (length y) m ++ rs) (y ++ ys) ≡ map (f m) y ++ zipped f rs ys
  zip_run m [] ys rs = refl
  zip_run m (n ∷ y) ys rs = ap (λ (r : List ℕ). f m n ∷ r) (zip_run m y ys rs)

-- f makes of a lone vertex's place what r makes of the vertex, and of a step's place what σ makes of the step: one step
pub record Rewrites (f : Bool → ℕ → ℕ) (r : ℕ → ℕ) (σ : Halfedge → List Halfedge) : Type 0 where
  pub vertex : (v : ℕ) → f true v ≡ r v
  pub step : (h : Halfedge) → map word (σ h) ≡ f false (word h) ∷ []

pub lone_rewrites : (r : ℕ → ℕ) → Rewrites (rename_place r) r one
lone_rewrites r = record { vertex = λ v. refl; step = λ h. refl }

module _ (f : Bool → ℕ → ℕ) (r : ℕ → ℕ) (σ : Halfedge → List Halfedge) (w : Rewrites f r σ) where
  path_words : (hs : List Halfedge) → map word (spread σ hs) ≡ map (f false) (map word hs)
  path_words [] = refl
  path_words (h ∷ hs) = map_append word (σ h) (spread σ hs) ∙ ap₂ (λ (p q : List ℕ). p ++ q) (w.step h) (path_words hs)

  step_one : (h : Halfedge) → length (σ h) ≡ 1
  step_one h = sym (length-map (σ h) word) ∙ ap length (w.step h)

  step_some : (h : Halfedge) → 1 ≤ length (σ h)
  step_some h = omega (arith, step_one h)

  rewritten_places : (ks : List Cycle) → all_real ks ≡ true → zipped f (lone_places (map num_of ks)) (spread cycle_words ks)
      ≡ spread cycle_words (map (rewired_cycle r σ) ks)
  rewritten_places [] h = refl
  rewritten_places (lone v ∷ ks) h = ap₂ (λ (x : ℕ) (q : List ℕ). x ∷ q) (w.vertex v) (rewritten_places ks h)
  rewritten_places (path [] ∷ ks) h = absurd (false≢true h)
  rewritten_places (path (x ∷ hs) ∷ ks) h =
      let rs = lone_places (map num_of ks) in
      ap (λ (m : Bool). zipped f (replicate (suc (length hs)) m ++ rs) (map word (x ∷ hs) ++ spread cycle_words ks))
      (ne_eqb (suc (length hs)) 0 (omega arith))
      ∙ ap (λ (n : ℕ). zipped f (replicate (suc n) false ++ rs) (map word (x ∷ hs) ++ spread cycle_words ks)) (sym (length-map hs word))
      ∙ zip_run f false (map word (x ∷ hs)) (spread cycle_words ks) rs
      ∙ ap₂ (λ (p q : List ℕ). p ++ q) (sym (path_words (x ∷ hs))) (rewritten_places ks h)

  rewritten_numbers : (ks : List Cycle) → map num_of (map (rewired_cycle r σ) ks) ≡ map num_of ks
  rewritten_numbers [] = refl
  rewritten_numbers (lone v ∷ ks) = ap (λ (q : List ℕ). 0 ∷ q) (rewritten_numbers ks)
  rewritten_numbers (path hs ∷ ks) = ap₂ (λ (n : ℕ) (q : List ℕ). n ∷ q) (length_each σ step_one hs) (rewritten_numbers ks)

  -- arrays that hold cycles, with their places rewritten, hold the rewired cycles
  pub held_rewritten : (ks : List Cycle) (cy : List ℕ) (n : ℕ) (st : List ℕ) (m : ℕ) (st' : List ℕ) → Held ks cy n st m → length st' ≡ length st
      → PlacesRewritten f (take n cy) st st' → Held (map (rewired_cycle r σ) ks) cy n st' m
  held_rewritten ks cy n st m st' h e l =
      let u : total (places_of 1) (take n cy) ≡ m = width_places (take n cy) ∙ held_width ks cy n st m h in
      record {
        lengths = h.lengths ∙ sym (rewritten_numbers ks);
        places =
            ap (λ (k : ℕ). take k st') (sym u) ∙ l.front
            ∙ ap₂ (λ (k : ℕ) (ns : List ℕ). zipped f (lone_places ns) (take k st)) u h.lengths
            ∙ ap (zipped f (lone_places (map num_of ks))) h.places
            ∙ rewritten_places ks h.real;
        real = stay_real r σ step_some ks h.real;
        lengths_room = h.lengths_room;
        places_room = omega (arith, h.places_room);
      }
