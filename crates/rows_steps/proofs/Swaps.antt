-- The steps of one edge replaced in arrays that hold cycles, and which replacement each swap is. Assumes nothing.
use Prim.Native.Nat.{ℕ, ◌+◌, ◌*◌, ◌≤◌}
use mathlib.Core.Path.{◌≡◌, refl, ap, ap₂, sym, fun_ext, ◌∙◌}
use mathlib.Core.List.{List, [], ◌∷◌, ◌++◌, map}
use mathlib.Core.Bool.{Bool, true, false, not, cond}
use native.Mathlib.Omega.{arith}
use lib.Dec.{eqb}
use borrow.Author.Tests.{eqb-true, eqb-false}
use lib.ListN.{length, take, drop, take-append-drop}
use lib.Seq.{length-take-le}
use Rattle.rows_steps.specs.declared.Swap.{Swap}
use Rattle.complex.specs.Lists.{one}
use Rattle.complex.specs.Cells.{Halfedge, Cycle, along, against}
use Rattle.complex.specs.Edits.{in_place_of}
use Rattle.complex.specs.Cut.{in_two}
use Rattle.complex.specs.Uncut.{in_one}
use Rattle.store.specs.Sheet.{all_real}
use Rattle.store.specs.View.{halfedge_of}
use Rattle.store.specs.Places.{bit, word, num_of, cycle_words}
use Rattle.store.specs.Pools.{Held}
use Rattle.number.specs.Readers.{spread}
use Rattle.rows_steps.specs.Swap.{swap_half, swap_cycle, all_steps, all_numbers, Swapped, one_for, two_for, none_for}
use Rattle.store.proofs.Encode.{halves}
use Rattle.rows_steps.proofs.Writing.{swapped_steps, swapped_numbers, swap_fore, swap_back, swap_other}

module _ (t : Swap) (ks : List Cycle) (cy : List ℕ) (n : ℕ) (st : List ℕ) (m : ℕ) (h : Held ks cy n st m) where
  split : st ≡ spread cycle_words ks ++ drop m st
  split = sym (take-append-drop m st) ∙ ap (λ (x : List ℕ). x ++ drop m st) h.places

  pub held_steps : all_steps t (take n cy) st ≡ spread cycle_words (map (swap_cycle t) ks)
  held_steps = ap₂ (all_steps t) h.lengths split ∙ swapped_steps t ks (drop m st) h.real

  held_numbers : all_numbers t (take n cy) st ≡ map num_of (map (swap_cycle t) ks)
  held_numbers = ap₂ (all_numbers t) h.lengths split ∙ swapped_numbers t ks (drop m st) h.real

  -- arrays that hold cycles, swapped, hold the swapped cycles
  pub held_swapped : (cy' st' : List ℕ) → length cy' ≡ length cy → length (spread cycle_words (map (swap_cycle t) ks)) ≤ length st'
      → all_real (map (swap_cycle t) ks) ≡ true
      → Swapped t (take n cy) st cy' st' → Held (map (swap_cycle t) ks) cy' n st' (length (spread cycle_words (map (swap_cycle t) ks)))
  held_swapped cy' st' e l r w =
      record {
        lengths = ap (λ (k : ℕ). take k cy') (sym (length-take-le n cy h.lengths_room)) ∙ w.numbers ∙ held_numbers;
        places = ap (λ (k : ℕ). take k st') (sym (ap length held_steps)) ∙ w.steps ∙ held_steps;
        real = r;
        lengths_room = omega (arith, h.lengths_room);
        places_room = l;
      }

-- ---- which replacement a swap is
module _ (t : Swap) (e : ℕ) (ef : t.fore ≡ e * 2) (eb : t.back ≡ e * 2 + 1) (fs bs : List Halfedge) (hf : take t.n (t.f1 ∷ t.f2 ∷ []) ≡ map word fs)
    (hb : take t.n (t.b1 ∷ t.b2 ∷ []) ≡ map word bs) where
  swap_is : (h : Halfedge) → swap_half t h ≡ cond (eqb e h.edge) (cond h.backward bs fs) (one h)
  swap_is h = go h.backward refl (eqb e h.edge) refl
    where
      go : (y : Bool) → h.backward ≡ y → (x : Bool) → eqb e h.edge ≡ x → swap_half t h ≡ cond x (cond y bs fs) (one h)
      go false p true q =
          let i = eqb-true e h.edge q in
          let u : word h ≡ h.edge * 2 + 0 = ap (λ (b : Bool). h.edge * 2 + bit b) p in
          ap (map halfedge_of) (swap_fore t (word h) (omega arith) ∙ hf) ∙ halves fs
      go true p true q =
          let i = eqb-true e h.edge q in
          let u : word h ≡ h.edge * 2 + 1 = ap (λ (b : Bool). h.edge * 2 + bit b) p in
          ap (map halfedge_of) (swap_back t (word h) (λ v. omega arith) (omega arith) ∙ hb) ∙ halves bs
      go false p false q =
          let i = eqb-false e h.edge q in
          let u : word h ≡ h.edge * 2 + 0 = ap (λ (b : Bool). h.edge * 2 + bit b) p in
          ap (map halfedge_of) (swap_other t (word h) (λ v. i (omega arith)) (λ v. omega arith)) ∙ halves (h ∷ [])
      go true p false q =
          let i = eqb-false e h.edge q in
          let u : word h ≡ h.edge * 2 + 1 = ap (λ (b : Bool). h.edge * 2 + bit b) p in
          ap (map halfedge_of) (swap_other t (word h) (λ v. omega arith) (λ v. i (omega arith))) ∙ halves (h ∷ [])

pub one_for_lem : (e a : ℕ) (flip : Bool) → swap_half (one_for e a flip) ≡ in_place_of e a flip
one_for_lem e a flip =
    fun_ext (λ h.
    swap_is (one_for e a flip) e refl refl (record { edge = a; backward = flip } ∷ []) (record { edge = a; backward = not flip } ∷ []) refl refl h
    ∙ go h (eqb e h.edge) h.backward flip)
  where
    go : (h : Halfedge) (x y f : Bool)
        → cond x (cond y (record { edge = a; backward = not f } ∷ []) (record { edge = a; backward = f } ∷ [])) (one h)
        ≡ one (cond x (record { edge = a; backward = cond f (not y) y }) h)
    go h true true true = refl
    go h true true false = refl
    go h true false true = refl
    go h true false false = refl
    go h false y f = refl

pub two_for_lem : (e a b : ℕ) → swap_half (two_for e a b) ≡ in_two e a b
two_for_lem e a b =
    fun_ext (swap_is (two_for e a b) e refl refl (along a ∷ along b ∷ []) (against b ∷ against a ∷ [])
    (ap₂ (λ (p q : ℕ). p ∷ q ∷ []) (omega arith) (omega arith)) (ap₂ (λ (p q : ℕ). p ∷ q ∷ []) (omega arith) (omega arith)))

none_for_lem : (b : ℕ) (h : Halfedge) → swap_half (none_for b) h ≡ cond (eqb b h.edge) [] (one h)
none_for_lem b h = swap_is (none_for b) b refl refl [] [] refl refl h ∙ go (eqb b h.edge) h.backward
  where
    go : (x y : Bool) → cond x (cond y [] []) (one h) ≡ cond x [] (one h)
    go true true = refl
    go true false = refl
    go false y = refl

-- b's steps go, and then a's become n's
pub none_then_one : (a b n : ℕ) (h : Halfedge) → spread (swap_half (one_for a n false)) (swap_half (none_for b) h) ≡ in_one a b n h
none_then_one a b n h = ap₂ (λ (σ : Halfedge → List Halfedge) (l : List Halfedge). spread σ l) (one_for_lem a n false) (none_for_lem b h) ∙ go (eqb b h.edge)
  where
    go : (x : Bool) → spread (in_place_of a n false) (cond x [] (one h))
        ≡ cond x [] (one (cond (eqb a h.edge) (record { edge = n; backward = h.backward }) h))
    go true = refl
    go false = refl

-- ---- how many steps each step becomes
pub one_some : (e a : ℕ) (flip : Bool) (h : Halfedge) → 1 ≤ length (in_place_of e a flip h)
one_some e a flip h = omega arith

pub one_few : (e a : ℕ) (flip : Bool) (h : Halfedge) → length (in_place_of e a flip h) ≤ 1
one_few e a flip h = omega arith

pub two_some : (e a b : ℕ) (h : Halfedge) → 1 ≤ length (in_two e a b h)
two_some e a b h = go (eqb e h.edge) h.backward
  where
    go : (x y : Bool) → 1 ≤ length (cond x (cond y (against b ∷ against a ∷ []) (along a ∷ along b ∷ [])) (one h))
    go true true = omega arith
    go true false = omega arith
    go false y = omega arith

pub none_few : (b : ℕ) (h : Halfedge) → length (swap_half (none_for b) h) ≤ 1
none_few b h = rw (none_for_lem b h) (go (eqb b h.edge))
  where
    go : (x : Bool) → length (cond x [] (one h)) ≤ 1
    go true = omega arith
    go false = omega arith
