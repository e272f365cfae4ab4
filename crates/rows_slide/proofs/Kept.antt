-- Cells that are dropped, and the places of theirs with them. Assumes nothing.
use Prim.Native.Nat.{ℕ, suc, ◌+◌, ◌≤◌}
use mathlib.Core.Path.{◌≡◌, refl, ap, ap₂, sym, subst, subst₂, ◌∙◌}
use mathlib.Core.List.{List, [], ◌∷◌, ◌++◌, map}
use mathlib.Core.Bool.{Bool, true, false, ◌&&◌, false≢true, cond}
use native.Mathlib.Omega.{arith}
use lib.ListN.{length, take, replicate, length-map}
use Rattle.coordinate.specs.declared.Position.{Position}
use Rattle.store.specs.declared.Cell.{Cell}
use Rattle.store.specs.declared.Drawing.{Drawing}
use Rattle.store.specs.Sizes.{Sizes}
use Rattle.complex.specs.Cells.{Cycle, lone, path, Figure, vertex, open_edge, closed_edge, face, LiveCell as Entry}
use Rattle.store.specs.Sheet.{real, all_real}
use Rattle.store.specs.View.{sheet_of, Fits, cycle_count, bend_count, cycle_total, bend_total, step_total}
use Rattle.complex.specs.Lists.{total}
use Rattle.complex.proofs.Bools.{both_true}
use Rattle.store.specs.Edits.{kept, places_of, spread_flags, Compacted, PlacesKept, CyclesKept, with_entries}
use Rattle.store.specs.Places.{shape_of, entry_cell, figure_cycles, figure_bends, entry_cycles, entry_bends, num_of, cycle_words, word}
use Rattle.number.specs.Readers.{spread}
use Rattle.store.proofs.Stands.{Begins, begins_take, Stands, stands, viewed, fitting, cycle_total_lem, bend_total_lem, step_total_lem}
use Rattle.store.proofs.Grow.{sheet_is, next_is}
use Rattle.store.proofs.Lists.{places_none, places_sum, width_places}

kept_run : {B : Type 0} (b : Bool) (y ys : List B) (rs : List Bool) → kept (replicate (length y) b ++ rs) (y ++ ys) ≡ cond b (kept rs ys) (y ++ kept rs ys)
kept_run true [] ys rs = refl
kept_run false [] ys rs = refl
kept_run true (x ∷ y) ys rs = kept_run true y ys rs
kept_run {B} false (x ∷ y) ys rs = ap (λ (r : List B). x ∷ r) (kept_run false y ys rs)

module _ {A B : Type 0} where
  pub kept_map : (f : A → B) (ms : List Bool) (xs : List A) → kept ms (map f xs) ≡ map f (kept ms xs)
  kept_map f [] xs = refl
  kept_map f (b ∷ ms) [] = refl
  kept_map f (true ∷ ms) (x ∷ xs) = kept_map f ms xs
  kept_map f (false ∷ ms) (x ∷ xs) = ap (λ (r : List B). f x ∷ r) (kept_map f ms xs)

  kept_flat_step : (f : A → List B) (b : Bool) (x : A) (l : List A) → cond b (spread f l) (f x ++ spread f l) ≡ spread f (cond b l (x ∷ l))
  kept_flat_step f true x l = refl
  kept_flat_step f false x l = refl

  -- flags that were spread_flags over the places keep what the flags keep
  pub kept_flat : (f : A → List B) (g : A → ℕ) (z : ℕ) (ms : List Bool) (xs : List A) → map (λ (x : A). places_of z (g x)) xs ≡ map (λ (x : A). length (f x)) xs
      → kept (spread_flags z ms (map g xs)) (spread f xs) ≡ spread f (kept ms xs)
  kept_flat f g z [] xs h = refl
  kept_flat f g z (b ∷ ms) [] h = refl
  kept_flat f g z (b ∷ ms) (x ∷ xs) h =
      let e : places_of z (g x) ≡ length (f x) = cc in
      let t : map (λ (x : A). places_of z (g x)) xs ≡ map (λ (x : A). length (f x)) xs = cc in
      ap (λ (n : ℕ). kept (replicate n b ++ spread_flags z ms (map g xs)) (f x ++ spread f xs)) e
      ∙ kept_run b (f x) (spread f xs) (spread_flags z ms (map g xs))
      ∙ ap (λ (r : List B). cond b r (f x ++ r)) (kept_flat f g z ms xs t)
      ∙ kept_flat_step f b x (kept ms xs)

cycle_places : (f : Figure) → places_of 0 (cycle_count (shape_of f)) ≡ length (figure_cycles f)
cycle_places (vertex p) = refl
cycle_places (open_edge s e b) = refl
cycle_places (closed_edge b) = refl
cycle_places (face k) = places_none (length k)

bend_places : (f : Figure) → places_of 0 (bend_count (shape_of f)) ≡ length (figure_bends f)
bend_places (vertex p) = refl
bend_places (open_edge s e b) = places_none (length b)
bend_places (closed_edge b) = places_none (length b)
bend_places (face k) = refl

map_same : {A B : Type 0} (f g : A → B) → ((x : A) → f x ≡ g x) → (l : List A) → map f l ≡ map g l
map_same f g h [] = refl
map_same {A} {B} f g h (x ∷ l) = ap₂ (λ (y : B) (r : List B). y ∷ r) (h x) (map_same f g h l)

pub step_places : (ks : List Cycle) → all_real ks ≡ true → map (λ (k : Cycle). places_of 1 (num_of k)) ks ≡ map (λ (k : Cycle). length (cycle_words k)) ks
step_places [] h = refl
step_places (lone v ∷ ks) h = ap (λ (r : List ℕ). 1 ∷ r) (step_places ks h)
step_places (path [] ∷ ks) h = absurd (false≢true h)
step_places (path (x ∷ hs) ∷ ks) h = ap₂ (λ (n : ℕ) (r : List ℕ). suc n ∷ r) (sym (length-map hs word)) (step_places ks h)

pub kept_real : (ms : List Bool) (ks : List Cycle) → all_real ks ≡ true → all_real (kept ms ks) ≡ true
kept_real [] ks h = refl
kept_real (b ∷ ms) [] h = refl
kept_real (true ∷ ms) (k ∷ ks) h = kept_real ms ks (both_true (real k) (all_real ks) h).1
kept_real (false ∷ ms) (k ∷ ks) h = let t = both_true (real k) (all_real ks) h in ap₂ ◌&&◌ t.0 (kept_real ms ks t.1)

pub map_heads : {B : Type 0} (g : Cell → B) (xs : List Entry) → map g (map entry_cell xs) ≡ map (λ (x : Entry). g (entry_cell x)) xs
map_heads g [] = refl
map_heads {B} g (x ∷ xs) = ap (λ (r : List B). g (entry_cell x) ∷ r) (map_heads g xs)

compacted_begins : {A : Type 0} {flags : List Bool} {xs l : List A} (y : List A) → kept flags xs ≡ y → Compacted flags xs l → Begins l y
compacted_begins {A} {flags} {xs} {l} y e k = record { front = ap (λ (q : List A). take (length q) l) (sym e) ∙ k.front ∙ e }

module _ (d r : Drawing) (z : Sizes d) (f : Fits d) (ms cm bm sm : List Bool)
    (ec : cm ≡ spread_flags 0 ms (map (λ (c : Cell). cycle_count c.shape) (take d.count d.cells)))
    (eb : bm ≡ spread_flags 0 ms (map (λ (c : Cell). bend_count c.shape) (take d.count d.cells)))
    (es : sm ≡ spread_flags 1 cm (take (cycle_total d) d.cycles))
    (kc : take r.count r.cells ≡ kept ms (take d.count d.cells))
    (kk : Compacted cm (take (cycle_total d) d.cycles) r.cycles)
    (ks : Compacted sm (take (step_total d) d.steps) r.steps)
    (kb : Compacted bm (take (bend_total d) d.bends) r.bends) where
  pub kept_stands : Stands r (kept ms (sheet_of d).cells)
  kept_stands =
      let xs = (sheet_of d).cells in
      let s = stands d z f in
      let k = spread entry_cycles xs in
      let tk : take (cycle_total d) d.cycles ≡ map num_of k = begins_take (cycle_total d) (length-map k num_of ∙ sym (cycle_total_lem d xs s)) s.cycles in
      let ts : take (step_total d) d.steps ≡ spread cycle_words k = begins_take (step_total d) (sym (step_total_lem d xs s)) s.steps in
      let tb : take (bend_total d) d.bends ≡ spread entry_bends xs = begins_take (bend_total d) (sym (bend_total_lem d xs s)) s.bends in
      let cyc : Cell → ℕ = λ c. cycle_count c.shape in
      let ben : Cell → ℕ = λ c. bend_count c.shape in
      let mk : cm ≡ spread_flags 0 ms (map (λ (x : Entry). cyc (entry_cell x)) xs) = ec ∙ ap (spread_flags 0 ms) (ap (map cyc) s.cells ∙ map_heads cyc xs) in
      let mb : bm ≡ spread_flags 0 ms (map (λ (x : Entry). ben (entry_cell x)) xs) = eb ∙ ap (spread_flags 0 ms) (ap (map ben) s.cells ∙ map_heads ben xs) in
      let ck : kept cm k ≡ spread entry_cycles (kept ms xs) =
      ap (λ (q : List Bool). kept q k) mk
      ∙ kept_flat entry_cycles (λ (x : Entry). cyc (entry_cell x)) 0 ms xs
      (map_same (λ (x : Entry). places_of 0 (cyc (entry_cell x))) (λ (x : Entry). length (entry_cycles x)) (λ x. cycle_places x.figure) xs)
      in
      record {
        cells = kc ∙ ap (kept ms) s.cells ∙ kept_map entry_cell ms xs;
        cycles = compacted_begins (map num_of (spread entry_cycles (kept ms xs))) (ap (kept cm) tk ∙ kept_map num_of cm k ∙ ap (map num_of) ck) kk;
        steps =
            compacted_begins (spread cycle_words (spread entry_cycles (kept ms xs)))
            (ap₂ kept (es ∙ ap (spread_flags 1 cm) tk) ts ∙ kept_flat cycle_words num_of 1 cm k (step_places k s.real) ∙ ap (spread cycle_words) ck)
            ks;
        bends =
            compacted_begins (spread entry_bends (kept ms xs))
            (ap₂ kept mb tb
            ∙ kept_flat entry_bends (λ (x : Entry). ben (entry_cell x)) 0 ms xs
            (map_same (λ (x : Entry). places_of 0 (ben (entry_cell x))) (λ (x : Entry). length (entry_bends x)) (λ x. bend_places x.figure) xs))
            kb;
        real = ap all_real (sym ck) ∙ kept_real cm k s.real;
      }

  pub kept_is : Sizes r → r.next ≡ d.next → r.count ≤ 256 → (sheet_of r ≡ with_entries (sheet_of d) (kept ms (sheet_of d).cells)) × Fits r
  kept_is zr n h =
      (sheet_is r (with_entries (sheet_of d) (kept ms (sheet_of d).cells)) (n ∙ sym (next_is d)) (viewed r _ kept_stands), fitting r _ kept_stands zr h)

-- r has the cells that stay, and their bends, cycles and steps
module _ (d r : Drawing) (z : Sizes d) (f : Fits d) (dead : List Bool) (bends cycles : List ℕ)
    (eb : take d.count bends ≡ map (λ (c : Cell). bend_count c.shape) (take d.count d.cells))
    (ec : take d.count cycles ≡ map (λ (c : Cell). cycle_count c.shape) (take d.count d.cells))
    (kb : PlacesKept 0 (take d.count dead) (take d.count bends) d.bends r.bends)
    (kk : CyclesKept (take d.count dead) (take d.count cycles) d.cycles d.steps r.cycles r.steps)
    (kc : take r.count r.cells ≡ kept (take d.count dead) (take d.count d.cells)) where
  pub dropped : Sizes r → r.next ≡ d.next → r.count ≤ d.count → (sheet_of r ≡ with_entries (sheet_of d) (kept (take d.count dead) (sheet_of d).cells))
      × Fits r
  dropped zr n h =
      let ms = take d.count dead in
      let cm = spread_flags 0 ms (take d.count cycles) in
      let bm = spread_flags 0 ms (take d.count bends) in
      let ct : total (places_of 0) (take d.count cycles) ≡ cycle_total d =
      ap (total (places_of 0)) ec ∙ places_sum (λ (c : Cell). cycle_count c.shape) (take d.count d.cells)
      in
      let bt : total (places_of 0) (take d.count bends) ≡ bend_total d =
      ap (total (places_of 0)) eb ∙ places_sum (λ (c : Cell). bend_count c.shape) (take d.count d.cells)
      in
      let te : take (total (places_of 0) (take d.count cycles)) d.cycles ≡ take (cycle_total d) d.cycles = ap (λ (m : ℕ). take m d.cycles) ct in
      let ts = ap (λ (m : ℕ). take m d.steps) (ap (total (places_of 1)) te ∙ width_places (take (cycle_total d) d.cycles)) in
      kept_is d r z f ms cm bm (spread_flags 1 cm (take (cycle_total d) d.cycles)) (ap (spread_flags 0 ms) ec) (ap (spread_flags 0 ms) eb) refl kc
      (subst (λ (b : List ℕ). Compacted cm b r.cycles) te kk.cycles.packed)
      (subst₂ (λ (a : List Bool) (b : List ℕ). Compacted a b r.steps) (ap (spread_flags 1 cm) te) ts kk.steps.packed)
      (subst (λ (m : ℕ). Compacted bm (take m d.bends) r.bends) bt kb.packed)
      zr n (omega (arith, f.cells))
