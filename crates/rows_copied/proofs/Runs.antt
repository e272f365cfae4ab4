-- The steps of a cycle, copied one by one. Assumes nothing.
use Prim.Native.Nat.{ℕ, zero, suc, ◌+◌, ◌*◌, ◌-◌, ◌/◌, ◌%◌, ◌<◌, ◌≤◌}
use mathlib.Core.Path.{◌≡◌, refl, ap, ap₂, sym, ◌∙◌}
use mathlib.Core.List.{List, [], ◌∷◌, ◌++◌, map}
use mathlib.Core.Bool.{Bool, true, false, cond}
use native.Mathlib.Omega.{arith}
use native.Mathlib.Numerals.{add-one}
use lib.Dec.{eqb}
use borrow.Author.Tests.{eq-eqb, ne_eqb}
use lib.ListN.{length, take, drop, set, get_or, length-set}
use lib.Seq.{take-suc, take-suc-set, drop-drop, drop-set-lt, get_or-drop, get_or-set_same}
use Rattle.complex.specs.Cells.{Halfedge, lone, path}
use Rattle.complex.specs.Edits.{in_place_of}
use Rattle.complex.specs.Unglue.{copy_of, new_steps, new_lone}
use Rattle.store.specs.View.{halfedge_of, width}
use Rattle.number.specs.Readers.{spread}
use Rattle.rows_copied.specs.Copying.{word_use, copied_word, uses_after, copied_run, copied_path, copied_vertex, Changed}

-- ---- one number
pub copy_later : (i next k : ℕ) → (k ≡ 0 → ⊥) → next + (k - 1) ≡ copy_of i next k
copy_later i next zero h = absurd (h refl)
copy_later i next (suc n) h = omega arith

pub copy_most : (i next k m : ℕ) → i ≤ m → next + k ≤ m → copy_of i next k ≤ m
copy_most i next zero m h g = h
copy_most i next (suc n) m h g = omega arith

module _ (i next k s : ℕ) where
  pub word_other : (i ≡ s / 2 → ⊥) → s ≡ copied_word i next k s
  word_other h = rw (ne_eqb i (s / 2) h)

  pub word_own : i ≡ s / 2 → {w : ℕ} → w ≡ copy_of i next k → w * 2 + s % 2 ≡ copied_word i next k s
  word_own e h = rw (eq-eqb i (s / 2) e) (ap (λ (m : ℕ). m * 2 + s % 2) h)

  -- the halfedge of a copied number
  copied_half : halfedge_of (copied_word i next k s) ≡ record { edge = cond (eqb i (s / 2)) (copy_of i next k) (s / 2); backward = eqb (s % 2) 1 }
  copied_half = go (eqb i (s / 2))
    where
      go : (b : Bool) → halfedge_of (cond b (copy_of i next k * 2 + s % 2) s) ≡ record { edge = cond b (copy_of i next k) (s / 2); backward = eqb (s % 2) 1 }
      go true =
          let p : (copy_of i next k * 2 + s % 2) / 2 ≡ copy_of i next k = omega arith in
          let r : (copy_of i next k * 2 + s % 2) % 2 ≡ s % 2 = omega arith in
          let q : eqb ((copy_of i next k * 2 + s % 2) % 2) 1 ≡ eqb (s % 2) 1 = ap (λ (x : ℕ). eqb x 1) r in
          λ j. record { edge = p j; backward = q j }
      go false = refl

pub moved_le : (each : Bool) (i k s : ℕ) → uses_after each i k s ≤ k + 1
moved_le true i k s = go (eqb i (s / 2))
  where
    go : (b : Bool) → k + cond b 1 0 ≤ k + 1
    go true = omega arith
    go false = omega arith
moved_le false i k s = omega arith

-- ---- a run
module _ (i next : ℕ) where
  run_each : (k : ℕ) (ws : List ℕ) → map halfedge_of (copied_run true i next k ws) ≡ new_steps i next k (map halfedge_of ws)
  run_each k [] = refl
  run_each k (s ∷ ws) = ap₂ (λ (h : Halfedge) (hs : List Halfedge). h ∷ hs) (copied_half i next k s) (run_each (k + word_use i s) ws)

  run_all : (k : ℕ) (ws : List ℕ) → map halfedge_of (copied_run false i next k ws) ≡ spread (in_place_of i (copy_of i next k) false) (map halfedge_of ws)
  run_all k [] = refl
  run_all k (s ∷ ws) = ap₂ (λ (h : Halfedge) (hs : List Halfedge). h ∷ hs) (copied_half i next k s ∙ go (eqb i (s / 2))) (run_all k ws)
    where
      go : (b : Bool) → ◌≡◌ {A = Halfedge} (record { edge = cond b (copy_of i next k) (s / 2); backward = eqb (s % 2) 1 })
          (cond b (record { edge = copy_of i next k; backward = eqb (s % 2) 1 }) (halfedge_of s))
      go true = refl
      go false = refl

-- the uses before what follows a run
abbrev counted : Bool → ℕ → ℕ → List ℕ → ℕ
counted each i k [] = k
counted each i k (s ∷ ws) = counted each i (uses_after each i k s) ws

-- ---- lists that are alike from a place on: what they have there, and behind it when one of them is written there
read_same : (j : ℕ) (l l₀ : List ℕ) → drop j l ≡ drop j l₀ → get_or l j 0 ≡ get_or l₀ j 0
read_same j l l₀ e =
    ap (λ (n : ℕ). get_or l n 0) (omega arith) ∙ sym (get_or-drop j l 0 0) ∙ ap (λ (q : List ℕ). get_or q 0 0) e ∙ get_or-drop j l₀ 0 0
    ∙ ap (λ (n : ℕ). get_or l₀ n 0) (omega arith)

rest_next : (j : ℕ) (l l₀ : List ℕ) (v : ℕ) → drop j l ≡ drop j l₀ → drop (j + 1) (set l j v) ≡ drop (j + 1) l₀
rest_next j l l₀ v e = drop-set-lt (j + 1) l j v (omega arith) ∙ sym (drop-drop 1 j l) ∙ ap (drop 1) e ∙ drop-drop 1 j l₀

module _ (each : Bool) (i next : ℕ) where
  run_snoc : (k : ℕ) (ws : List ℕ) (s : ℕ) → copied_run each i next k (ws ++ (s ∷ [])) ≡ copied_run each i next k ws
      ++ (copied_word i next (counted each i k ws) s ∷ [])
  run_snoc k [] s = refl
  run_snoc k (w ∷ ws) s = ap (λ (q : List ℕ). copied_word i next k w ∷ q) (run_snoc (uses_after each i k w) ws s)

  counted_snoc : (k : ℕ) (ws : List ℕ) (s : ℕ) → counted each i k (ws ++ (s ∷ [])) ≡ uses_after each i (counted each i k ws) s
  counted_snoc k [] s = refl
  counted_snoc k (w ∷ ws) s = counted_snoc (uses_after each i k w) ws s

  -- the first j places are copied, the others are as they were
  pub record Running (k₀ : ℕ) (l₀ : List ℕ) (j k : ℕ) (l : List ℕ) : Type 0 where
    pub size : length l ≡ length l₀
    pub rest : drop j l ≡ drop j l₀
    pub front : take j l ≡ copied_run each i next k₀ (take j l₀)
    pub count : k ≡ counted each i k₀ (take j l₀)
    pub few : k ≤ k₀ + j

  pub running_start : (k : ℕ) (l : List ℕ) → Running k l 0 k l
  running_start k l = record { size = refl; rest = refl; front = refl; count = refl; few = omega arith }

  pub running_turn : (k₀ : ℕ) (l₀ : List ℕ) (j k : ℕ) (l : List ℕ) (v k' : ℕ) → j < length l₀ → Running k₀ l₀ j k l
      → v ≡ copied_word i next k (get_or l j 0) → k' ≡ uses_after each i k (get_or l j 0) → Running k₀ l₀ (j + 1) k' (set l j v)
  running_turn k₀ l₀ j k l v k' h p e g =
      let z = p.size in
      let same = read_same j l l₀ p.rest in
      record {
        size = length-set l j v ∙ p.size;
        rest = rest_next j l l₀ v p.rest;
        front =
            ap (λ (n : ℕ). take n (set l j v)) (add-one j) ∙ take-suc-set l j v (omega arith)
            ∙ ap₂ (λ (x : List ℕ) (y : ℕ). x ++ (y ∷ [])) p.front (e ∙ ap₂ (copied_word i next) p.count same)
            ∙ sym (rw (add-one, take-suc l₀ j 0 h) (run_snoc k₀ (take j l₀) (get_or l₀ j 0)));
        count = g ∙ ap₂ (uses_after each i) p.count same ∙ sym (rw (add-one, take-suc l₀ j 0 h) (counted_snoc k₀ (take j l₀) (get_or l₀ j 0)));
        few = omega (arith, p.few, g, moved_le each i k (get_or l j 0));
      }

-- ---- a cycle
pub path_changed : (each : Bool) (i next k c : ℕ) (l l' : List ℕ) → (c ≡ 0 → ⊥) → length l' ≡ length l → take c l' ≡ copied_run each i next k (take c l)
    → drop c l' ≡ drop c l
    → Changed (copied_path each i next k) c l l'
path_changed each i next k zero l l' n z e g = absurd (n refl)
path_changed true i next k (suc c) l l' n z e g = record { size = z; cycle = ap path (ap (map halfedge_of) e ∙ run_each i next k (take (suc c) l)); rest = g }
path_changed false i next k (suc c) l l' n z e g = record { size = z; cycle = ap path (ap (map halfedge_of) e ∙ run_all i next k (take (suc c) l)); rest = g }

pub path_none : (each : Bool) (i next k c : ℕ) (l : List ℕ) → c ≡ 0 → Changed (copied_path each i next k) c l l
path_none true i next k zero l e = record { size = refl; cycle = refl; rest = refl }
path_none false i next k zero l e = record { size = refl; cycle = refl; rest = refl }
path_none each i next k (suc c) l e = absurd (omega arith)

pub lone_none : (i next k c : ℕ) (l : List ℕ) → (c ≡ 0 → ⊥) → Changed (new_lone i next k) c l l
lone_none i next k zero l h = absurd (h refl)
lone_none i next k (suc c) l h = record { size = refl; cycle = refl; rest = refl }

pub lone_changed : (i next k c : ℕ) (l : List ℕ) (v : ℕ) → c ≡ 0 → width c ≤ length l → v ≡ copied_vertex i next k (get_or l 0 0)
    → Changed (new_lone i next k) c l (set l 0 v)
lone_changed i next k zero l v e h g =
    record { size = length-set l 0 v; cycle = ap lone (get_or-set_same l 0 v 0 (omega arith) ∙ g); rest = drop-set-lt 1 l 0 v (omega arith) }
lone_changed i next k (suc c) l v e h g = absurd (omega arith)
