-- Faces marked row by row, by their cycles and the flags of marked ids. Assumes nothing.
use Prim.Native.Nat.{ℕ, zero, suc, ◌+◌, ◌%◌, ◌<◌, ◌≤◌}
use mathlib.Core.Path.{◌≡◌, refl, ap, ap₂, sym, ◌∙◌, subst}
use mathlib.Core.List.{List, [], ◌∷◌, ◌++◌, map}
use mathlib.Core.Bool.{Bool, true, false, ◌||◌, true≢false}
use native.Mathlib.Omega.{arith}
use native.Mathlib.Numerals.{add-one}
use lib.Dec.{eqb, ltb}
use borrow.Author.Tests.{ltb-true, ltb-false, eqb-true, eqb-false}
use lib.ListN.{length, take, drop, set, get_or, length-set}
use lib.Seq.{take-suc, take-take, take-add, drop-set-lt, drop-drop, get_or-drop, get_or-take, get_or-set_same, set-get_or, length-take-le}
use Rattle.complex.specs.Lists.{any}
use Rattle.complex.specs.Sound.{cells_most, cycles_most, steps_most}
use Rattle.complex.specs.Cells.{Cycle}
use Rattle.complex.proofs.Bools.{or_none, or_assoc}
use Rattle.store.specs.Index.{row_of, Rising}
use Rattle.store.specs.View.{width, width_sum, halfedge_of, cycle_of, cycles_from}
use Rattle.store.proofs.Lists.{sum_append, sum_more, sum_le}
use Rattle.store.proofs.Rows.{get_d_any, get_d_past}
use Rattle.rows_spans.proofs.Replaced.{row_has}
use Rattle.rows_marks.specs.Marks.{mark_at, step_marked, cycle_marked, any_of, sum_of, cell_marks, Sought, Pooled}
use Rattle.rows_marks.proofs.Marking.{front_more, cell_more, sum_on, sum_within, any_map}

-- ---- flags of marked ids
-- the marked ids of the first i rows have a flag
pub record Flagging (is : List ℕ) (ms : List Bool) (i : ℕ) (flags : List Bool) : Type 0 where
  pub size : length flags ≡ cells_most
  pub marked : (j : ℕ) → j < i → get_or ms j false ≡ true → get_or flags (get_or is j 0 % cells_most) false ≡ true

flag_stays : (flags : List Bool) (a b : ℕ) → a < length flags → get_or flags b false ≡ true → get_or (set flags a true) b false ≡ true
flag_stays [] a b h e = absurd (omega arith)
flag_stays (x ∷ flags) zero zero h e = refl
flag_stays (x ∷ flags) zero (suc b) h e = e
flag_stays (x ∷ flags) (suc a) zero h e = e
flag_stays (x ∷ flags) (suc a) (suc b) h e = flag_stays flags a b (omega arith) e

module _ (is : List ℕ) (ms : List Bool) (i : ℕ) (flags : List Bool) (p : Flagging is ms i flags) where
  pub flagging_put : (at : ℕ) → at ≡ get_or is i 0 % cells_most → at < cells_most → Flagging is ms (i + 1) (set flags at true)
  flagging_put at e h =
      record {
        size = length-set flags at true ∙ p.size;
        marked = λ j k m. go j m (eqb j i) refl k;
      }
    where
      go : (j : ℕ) → get_or ms j false ≡ true → (b : Bool) → eqb j i ≡ b → j < i + 1 → get_or (set flags at true) (get_or is j 0 % cells_most) false ≡ true
      go j m true q k =
          let f = eqb-true j i q in
          ap (λ (x : ℕ). get_or (set flags at true) (get_or is x 0 % cells_most) false) f ∙ ap (λ (x : ℕ). get_or (set flags at true) x false) (sym e)
          ∙ get_or-set_same flags at true false (let s = p.size in omega arith)
      go j m false q k = flag_stays flags at (get_or is j 0 % cells_most) (let s = p.size in omega arith) (p.marked j (let f = eqb-false j i q in omega arith) m)

  pub flagging_skip : get_or ms i false ≡ false → Flagging is ms (i + 1) flags
  flagging_skip e =
      record {
        size = p.size;
        marked = λ j k m. go j m (eqb j i) refl k;
      }
    where
      go : (j : ℕ) → get_or ms j false ≡ true → (b : Bool) → eqb j i ≡ b → j < i + 1 → get_or flags (get_or is j 0 % cells_most) false ≡ true
      go j m true q k =
          absurd (true≢false (sym m ∙ ap (λ (x : ℕ). get_or ms x false) (eqb-true j i q) ∙ e))
      go j m false q k = p.marked j (let f = eqb-false j i q in omega arith) m

module _ (is : List ℕ) (ms : List Bool) (n : ℕ) (flags : List Bool) (hr : n ≤ cells_most) (hi : length is ≡ cells_most) (hm : length ms ≡ cells_most)
    (rises : Rising (take n is)) (p : Flagging is ms n flags) where
  flag_of : (e : ℕ) → mark_at (take n is) (take n ms) e ≡ true → get_or flags (e % cells_most) false ≡ true
  flag_of e m = go (ltb (row_of e (take n is)) n) refl
    where
      go : (b : Bool) → ltb (row_of e (take n is)) n ≡ b → get_or flags (e % cells_most) false ≡ true
      go true q =
          let h = ltb-true (row_of e (take n is)) n q in
          let l = length-take-le n is (omega arith) in
          let r = row_of e (take n is) in
          let g : get_or is r 0 ≡ e = sym (get_or-take n is r 0 h) ∙ row_has e (take n is) (omega arith) in
          ap (λ (x : ℕ). get_or flags (x % cells_most) false) (sym g) ∙ p.marked r h (sym (get_or-take n ms r false h) ∙ m)
      go false q =
          let h = ltb-false (row_of e (take n is)) n q in
          let l = length-take-le n ms (omega arith) in
          absurd (true≢false (sym m ∙ get_d_past (take n ms) (row_of e (take n is)) false (omega arith)))

  pub sought : Sought is ms n flags
  sought = record { rows = hr; ids = hi; marks = hm; flags = p.size; rising = rises; covers = flag_of }

-- an id without a flag is not marked
pub unflagged : (is : List ℕ) (ms : List Bool) (n : ℕ) (flags : List Bool) → Sought is ms n flags → (e at : ℕ) → at ≡ e % cells_most
    → get_or flags at false ≡ false → false ≡ mark_at (take n is) (take n ms) e
unflagged is ms n flags p e at q f = go (mark_at (take n is) (take n ms) e) refl
  where
    go : (b : Bool) → mark_at (take n is) (take n ms) e ≡ b → false ≡ b
    go true m = absurd (true≢false (sym (p.covers e m) ∙ ap (λ (x : ℕ). get_or flags x false) (sym q) ∙ f))
    go false m = refl

-- ---- a cycle by its number of steps
module _ (is : List ℕ) (ms : List Bool) (v : ℕ) (st : List ℕ) (from c : ℕ) where
  pub cycle_lone : c ≡ 0 → eqb v (get_or st from 0) ≡ cycle_marked is ms v (cycle_of c (drop from st))
  cycle_lone h =
      let z : from ≡ from + 0 = omega arith in
      ap (eqb v) (ap (λ (n : ℕ). get_or st n 0) z ∙ sym (get_or-drop from st 0 0)) ∙ sym (ap (λ (n : ℕ). cycle_marked is ms v (cycle_of n (drop from st))) h)

  steps_of_lem : (n : ℕ) (l : List ℕ) → (n ≡ 0 → ⊥) → any (step_marked is ms) (map halfedge_of (take n l)) ≡ cycle_marked is ms v (cycle_of n l)
  steps_of_lem zero l h = absurd (h refl)
  steps_of_lem (suc n) l h = refl

  pub cycle_path : (c ≡ 0 → ⊥) → (m : ℕ) → m ≡ c
      → any (step_marked is ms) (map halfedge_of (take m (drop from st))) ≡ cycle_marked is ms v (cycle_of c (drop from st))
  cycle_path h m e = ap (λ (n : ℕ). any (step_marked is ms) (map halfedge_of (take n (drop from st)))) e ∙ steps_of_lem c (drop from st) h

-- ---- a run of cycles
pub any_snoc : {A : Type 0} (q : A → Bool) (xs : List A) (y : A) → any q (xs ++ (y ∷ [])) ≡ any q xs || q y
any_snoc q [] y = or_none (q y)
any_snoc q (x ∷ xs) y = ap (λ (b : Bool). q x || b) (any_snoc q xs y) ∙ or_assoc (q x) (any q xs) (q y)

pub cycles_snoc : (ns : List ℕ) (n : ℕ) (st : List ℕ) → cycles_from (ns ++ (n ∷ [])) st ≡ cycles_from ns st ++ (cycle_of n (drop (width_sum ns) st) ∷ [])
cycles_snoc [] n st = refl
cycles_snoc (m ∷ ns) n st =
    ap (λ (r : List Cycle). cycle_of m st ∷ r)
    (cycles_snoc ns n (drop (width m) st) ∙ ap (λ (l : List ℕ). cycles_from ns (drop (width m) st) ++ (cycle_of n l ∷ [])) (drop-drop (width_sum ns) (width m) st))

-- of the first j of the cycles ns at the front of st, which start at a place of st₀: their marks, or the mark m, and the place after them
pub record Walking (q : Cycle → Bool) (m : Bool) (ns st : List ℕ) (from j : ℕ) (marked : Bool) (next : ℕ) : Type 0 where
  pub told : marked ≡ (m || any q (cycles_from (take j ns) (drop from st)))
  pub next_is : next ≡ from + width_sum (take j ns)

module _ {q : Cycle → Bool} {m : Bool} {ns st : List ℕ} {from j : ℕ} {marked : Bool} {next : ℕ} (p : Walking q m ns st from j marked next)
    (h : j < length ns) where
  walk_more : (c : ℕ) → c ≡ get_or ns j 0 → next + width c ≡ from + width_sum (take (j + 1) ns)
  walk_more c e = let g = p.next_is in let f = ap width e in let s = sum_more width ns j 0 h in omega arith

  pub walk_within : (c k : ℕ) → c ≡ get_or ns j 0 → j < k → next + width c ≤ from + width_sum (take k ns)
  walk_within c k e l = let f = walk_more c e in let s = sum_le width ns (j + 1) k (omega arith) in omega arith

  pub walk_turn : (c : ℕ) → c ≡ get_or ns j 0 → (b : Bool) → b ≡ (marked || q (cycle_of c (drop next st))) → (w : ℕ) → w ≡ width c
      → Walking q m ns st from (j + 1) b (next + w)
  walk_turn c e b f w g =
      record {
        told =
            f
            ∙ ap₂ (λ (x : Bool) (l : List ℕ). x || q (cycle_of c l)) p.told
            (ap (λ (n : ℕ). drop n st) p.next_is ∙ sym (drop-drop (width_sum (take j ns)) from st))
            ∙ sym (or_assoc m (any q (cycles_from (take j ns) (drop from st))) (q (cycle_of c (drop (width_sum (take j ns)) (drop from st)))))
            ∙ ap (λ (x : Bool). m || x)
            (ap (λ (n : ℕ). any q (cycles_from (take j ns) (drop from st)) || q (cycle_of n (drop (width_sum (take j ns)) (drop from st)))) e
            ∙ sym (ap (λ (l : List ℕ). any q (cycles_from l (drop from st))) (ap (λ (n : ℕ). take n ns) (add-one j) ∙ take-suc ns j 0 h)
            ∙ ap (any q) (cycles_snoc (take j ns) (get_or ns j 0) (drop from st))
            ∙ any_snoc q (cycles_from (take j ns) (drop from st)) (cycle_of (get_or ns j 0) (drop (width_sum (take j ns)) (drop from st)))));
        next_is = ap (λ (a : ℕ). next + a) g ∙ walk_more c e;
      }

-- ---- the cycles of one row among those of all
pub take_map : {A B : Type 0} (f : A → B) (n : ℕ) (l : List A) → take n (map f l) ≡ map f (take n l)
take_map f zero l = refl
take_map f (suc n) [] = refl
take_map {B = B} f (suc n) (x ∷ l) = ap (λ (r : List B). f x ∷ r) (take_map f n l)

drop_map : {A B : Type 0} (f : A → B) (n : ℕ) (l : List A) → drop n (map f l) ≡ map f (drop n l)
drop_map f zero l = refl
drop_map f (suc n) [] = refl
drop_map f (suc n) (x ∷ l) = drop_map f n l

take_cycles : (n : ℕ) (ns st : List ℕ) → take n (cycles_from ns st) ≡ cycles_from (take n ns) st
take_cycles zero ns st = refl
take_cycles (suc n) [] st = refl
take_cycles (suc n) (m ∷ ns) st = ap (λ (r : List Cycle). cycle_of m st ∷ r) (take_cycles n ns (drop (width m) st))

pub drop_cycles : (n : ℕ) (ns st : List ℕ) → drop n (cycles_from ns st) ≡ cycles_from (drop n ns) (drop (width_sum (take n ns)) st)
drop_cycles zero ns st = refl
drop_cycles (suc n) [] st = refl
drop_cycles (suc n) (m ∷ ns) st = drop_cycles n ns (drop (width m) st) ∙ ap (cycles_from (drop n ns)) (drop-drop (width_sum (take n ns)) (width m) st)

run_front : {A : Type 0} (a k m : ℕ) (l : List A) → a + k ≤ m → take k (drop a (take m l)) ≡ take k (drop a l)
run_front zero k m l h = take-take k m l (omega arith)
run_front (suc a) k zero l h = absurd (omega arith)
run_front (suc a) k (suc m) [] h = refl
run_front (suc a) k (suc m) (x ∷ l) h = run_front a k m l (omega arith)

-- the marks of k cycles of m, from the first of them on
run_marks : (q : Cycle → Bool) (ns st : List ℕ) (a k m from : ℕ) → a + k ≤ m → from ≡ width_sum (take a ns)
    → any_of (take k (drop a (map q (cycles_from (take m ns) st)))) ≡ any q (cycles_from (take k (drop a ns)) (drop from st))
run_marks q ns st a k m from h e =
    ap any_of (ap (take k) (drop_map q a (cycles_from (take m ns) st)) ∙ take_map q k (drop a (cycles_from (take m ns) st)))
    ∙ sym (any_map (λ (b : Bool). b) q (take k (drop a (cycles_from (take m ns) st))))
    ∙ ap (any q)
    (ap (take k) (drop_cycles a (take m ns) st)
    ∙ take_cycles k (drop a (take m ns)) (drop (width_sum (take a (take m ns))) st)
    ∙ ap₂ (λ (l : List ℕ) (n : ℕ). cycles_from l (drop n st)) (run_front a k m ns h) (ap width_sum (take-take a m ns (omega arith)) ∙ sym e))

-- ---- one row more
-- of the first i rows the marks stand in out, and the others are as they were; their cycles end before first, their steps before from
pub record Facing (q : Cycle → Bool) (n : ℕ) (cs ns st : List ℕ) (out₀ : List Bool) (i first from : ℕ) (out : List Bool) : Type 0 where
  pub size : length out ≡ cells_most
  pub first_is : first ≡ sum_of (take i cs)
  pub from_is : from ≡ width_sum (take first ns)
  pub front : take i out ≡ cell_marks (take i out₀) (take i cs) (map q (cycles_from (take (sum_of (take n cs)) ns) st))
  pub rest : drop i out ≡ drop i out₀

module _ {q : Cycle → Bool} {n : ℕ} {cs ns st : List ℕ} (pool : Pooled cs n ns st) {out₀ : List Bool} (size₀ : length out₀ ≡ cells_most)
    {i first from : ℕ} {out : List Bool} (p : Facing q n cs ns st out₀ i first from out) (h : i < n) (k : ℕ) (ek : k ≡ get_or cs i 0) where
  more_first : first + k ≡ sum_of (take (i + 1) cs)
  more_first = sum_on (λ (a : ℕ). a) cs n i 0 (let r = pool.rows in let l = pool.counts in omega arith) h first p.first_is k ek

  within_all : first + k ≤ sum_of (take n cs)
  within_all = sum_within (λ (a : ℕ). a) cs n i 0 (let r = pool.rows in let l = pool.counts in omega arith) h first p.first_is k ek

  pub facing_cycles : first + k ≤ cycles_most
  facing_cycles = let a = within_all in let b = pool.cycles_fit in omega arith

  more_from : from + width_sum (take k (drop first ns)) ≡ width_sum (take (first + k) ns)
  more_from =
      ap (λ (a : ℕ). a + width_sum (take k (drop first ns))) p.from_is
      ∙ sym (ap width_sum (take-add first k ns) ∙ sum_append width (take first ns) (take k (drop first ns)))

  pub facing_steps : from + width_sum (take k (drop first ns)) ≤ steps_most
  facing_steps = let a = more_from in let b = sum_le width ns (first + k) (sum_of (take n cs)) within_all in let c = pool.steps_fit in omega arith

  -- the mark in the row is the one that it had
  had : (z : Bool) → get_or out i z ≡ get_or out₀ i false
  had z =
      let r = pool.rows in
      let s = p.size in
      let e : i + 0 ≡ i = omega arith in
      get_d_any out i z false (omega arith) ∙ ap (λ (a : ℕ). get_or out a false) (sym e) ∙ sym (get_or-drop i out 0 false)
      ∙ ap (λ (l : List Bool). get_or l 0 false) p.rest ∙ get_or-drop i out₀ 0 false
      ∙ ap (λ (a : ℕ). get_or out₀ a false) e

  put_row : (b : Bool) → b ≡ (get_or out₀ i false || any_of (take k (drop first (map q (cycles_from (take (sum_of (take n cs)) ns) st))))) → (first' from' : ℕ)
      → first' ≡ first + k → from' ≡ width_sum (take first' ns) → Facing q n cs ns st out₀ (i + 1) first' from' (set out i b)
  put_row b e first' from' ef eg =
      let bs = map q (cycles_from (take (sum_of (take n cs)) ns) st) in
      let r = pool.rows in
      let s = p.size in
      let l = pool.counts in
      record {
        size = length-set out i b ∙ p.size;
        first_is = ef ∙ more_first;
        from_is = eg;
        front =
            front_more out i b (cell_marks (take i out₀) (take i cs) bs) (cell_marks (take (i + 1) out₀) (take (i + 1) cs) bs) (omega arith) p.front
            (cell_more out₀ cs bs i (omega arith) (omega arith) first p.first_is
            ∙ ap (λ (x : Bool). cell_marks (take i out₀) (take i cs) bs ++ (x ∷ []))
            (sym (e ∙ ap (λ (a : ℕ). get_or out₀ i false || any_of (take a (drop first bs))) ek)));
        rest = drop-set-lt (i + 1) out i b (omega arith) ∙ next_rest;
      }
    where
      next_rest : drop (i + 1) out ≡ drop (i + 1) out₀
      next_rest = sym (drop-drop 1 i out) ∙ ap (drop 1) p.rest ∙ drop-drop 1 i out₀

  -- a face
  pub facing_turn : (b z : Bool) → b ≡ (get_or out i z || any q (cycles_from (take k (drop first ns)) (drop from st)))
      → (w : ℕ) → w ≡ from + width_sum (take k (drop first ns))
      → Facing q n cs ns st out₀ (i + 1) (first + k) w (set out i b)
  facing_turn b z e w g =
      put_row b (e ∙ ap₂ ◌||◌ (had z) (sym (run_marks q ns st first k (sum_of (take n cs)) from within_all p.from_is))) (first + k) w refl (g ∙ more_from)

  -- a row without cycles
  pub facing_skip : k ≡ 0 → Facing q n cs ns st out₀ (i + 1) first from out
  facing_skip e =
      let bs = map q (cycles_from (take (sum_of (take n cs)) ns) st) in
      subst (λ (l : List Bool). Facing q n cs ns st out₀ (i + 1) first from l) (set-get_or out i false)
      (put_row (get_or out i false)
      (had false ∙ sym (ap (λ (a : ℕ). get_or out₀ i false || any_of (take a (drop first bs))) e ∙ or_none (get_or out₀ i false)))
      first from (omega arith) p.from_is)
