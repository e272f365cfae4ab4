-- The uses of an edge, one after another. Assumes nothing.
use Prim.Native.Nat.{ℕ, zero, suc, ◌+◌, ◌<◌, ◌≤◌, ◌/◌, ◌%◌}
use mathlib.Core.Path.{◌≡◌, refl, ap, ap₂, sym, ◌∙◌}
use mathlib.Core.Bool.{Bool, true, false}
use mathlib.Core.List.{List, [], ◌∷◌, map, foldl, foldl-append}
use native.Mathlib.Omega.{arith}
use native.Mathlib.Numerals.{add-one}
use lib.Dec.{eqb}
use lib.ListN.{length, take, drop, get_or, length-drop}
use lib.Seq.{get_or-drop, drop-drop, take-add}
use borrow.Author.Tests.{eq-eqb, ne_eqb}
use Rattle.complex.specs.Lists.{cons_if, total}
use Rattle.complex.specs.Cells.{Halfedge, Cycle, steps_of}
use Rattle.complex.specs.Uses.{step_uses, cycle_uses, Use as Used}
use Rattle.store.specs.Edits.{places_of}
use Rattle.store.specs.View.{halfedge_of, width, width_sum, cycle_of, cycles_from}
use Rattle.store.proofs.Lists.{sum_append, sum_more, sum_le}
use Rattle.store.proofs.Encode.{take_cycles}
use Rattle.sound.proofs.Testing.{left_cons, left_none}
use Rattle.sound.proofs.Walking.{room}
use Rattle.ask_uncut_uses.specs.declared.Use.{Use}
use Rattle.ask_uncut_uses.specs.declared.Uses.{Uses}
use Rattle.ask_uncut_uses.specs.declared.Past.{Past}
use Rattle.ask_uncut_uses.specs.Uses.{use_of, no_uses, add_use, one_use, uses_two, row_uses, Faces}

-- ---- one use more
three_on : (u w : Use) (l : List Used) → foldl one_use (record { count = 3; one = u; two = w }) l ≡ record { count = 3; one = u; two = w }
three_on u w [] = refl
three_on u w (a ∷ l) = three_on u w l

pub folded : (l : List Used) → foldl one_use no_uses l ≡ uses_two l
folded [] = refl
folded (u ∷ []) = refl
folded (u ∷ w ∷ []) = refl
folded (u ∷ w ∷ x ∷ l) = three_on (use_of u) (use_of w) l

-- ---- one step
module _ (x : Uses) (e s f c n : ℕ) where
  here : Used
  here = record { face = f; cycle = c; step = n; halfedge = halfedge_of s }

  pub step_is : e ≡ s / 2 → (r : Uses) → r ≡ add_use x (record { face = f; cycle = c; step = n; back = eqb (s % 2) 1 })
      → r ≡ foldl one_use x (step_uses e f c n (halfedge_of s ∷ []))
  unfolding here
  step_is h r g = g ∙ sym (ap (λ (b : Bool). foldl one_use x (cons_if b here [])) (eq-eqb e (s / 2) h))

  pub step_not : (e ≡ s / 2 → ⊥) → x ≡ foldl one_use x (step_uses e f c n (halfedge_of s ∷ []))
  unfolding here
  step_not h = sym (ap (λ (b : Bool). foldl one_use x (cons_if b here [])) (ne_eqb e (s / 2) h))

step_on : (x : Uses) (e f c n : ℕ) (h : Halfedge) (hs : List Halfedge)
    → foldl one_use x (step_uses e f c n (h ∷ hs)) ≡ foldl one_use (foldl one_use x (step_uses e f c n (h ∷ []))) (step_uses e f c (suc n) hs)
step_on x e f c n h hs = go (eqb e h.edge)
  where
    go : (b : Bool) → foldl one_use x (cons_if b (record { face = f; cycle = c; step = n; halfedge = h }) (step_uses e f c (suc n) hs))
        ≡ foldl one_use (foldl one_use x (cons_if b (record { face = f; cycle = c; step = n; halfedge = h }) [])) (step_uses e f c (suc n) hs)
    go true = refl
    go false = refl

-- ---- a path: the uses of the first i steps are in x
module _ (e f c : ℕ) (st : List ℕ) (from m : ℕ) (x₀ : Uses) where
  pub record Pathing (x : Uses) (i : ℕ) : Type 0 where
    pub rest : foldl one_use x₀ (step_uses e f c 0 (map halfedge_of (take m (drop from st))))
        ≡ foldl one_use x (step_uses e f c i (map halfedge_of (drop i (take m (drop from st)))))

  module _ (g : from + m ≤ length st) where
    pub pathing_turn : (x y : Uses) (i : ℕ) → i < m → Pathing x i → y ≡ foldl one_use x (step_uses e f c i (halfedge_of (get_or st (from + i) 0) ∷ []))
        → Pathing y (i + 1)
    pathing_turn x y i h t q =
        record {
          rest =
              t.rest
              ∙ ap (λ (l : List ℕ). foldl one_use x (step_uses e f c i (map halfedge_of l)))
              (left_cons (drop from st) m i 0 (room st from m g) h ∙ ap (λ (s : ℕ). s ∷ drop (i + 1) (take m (drop from st))) (get_or-drop from st i 0))
              ∙ step_on x e f c i (halfedge_of (get_or st (from + i) 0)) (map halfedge_of (drop (i + 1) (take m (drop from st))))
              ∙ ap₂ (λ (z : Uses) (n : ℕ). foldl one_use z (step_uses e f c n (map halfedge_of (drop (i + 1) (take m (drop from st)))))) (sym q) (sym (add-one i));
        }

    pub pathing_end : (x : Uses) (i : ℕ) → i ≡ m → Pathing x i → x ≡ foldl one_use x₀ (step_uses e f c 0 (map halfedge_of (take m (drop from st))))
    pathing_end x i h t =
        sym (t.rest ∙ ap (λ (l : List ℕ). foldl one_use x (step_uses e f c i (map halfedge_of l))) (left_none (drop from st) m i (room st from m g) h))

-- ---- a cycle by its number of steps
module _ (x : Uses) (e f k : ℕ) (l : List ℕ) where
  pub lone_uses : (c : ℕ) → c ≡ 0 → x ≡ foldl one_use x (step_uses e f k 0 (steps_of (cycle_of c l)))
  lone_uses c h = sym (ap (λ (n : ℕ). foldl one_use x (step_uses e f k 0 (steps_of (cycle_of n l)))) h)

  steps_use : (c : ℕ) → (c ≡ 0 → ⊥) → foldl one_use x (step_uses e f k 0 (map halfedge_of (take c l))) ≡ foldl one_use x (step_uses e f k 0 (steps_of (cycle_of c l)))
  steps_use zero h = absurd (h refl)
  steps_use (suc c) h = refl

  pub path_used : (c : ℕ) → (c ≡ 0 → ⊥) → (m : ℕ) → m ≡ c
      → foldl one_use x (step_uses e f k 0 (map halfedge_of (take m l))) ≡ foldl one_use x (step_uses e f k 0 (steps_of (cycle_of c l)))
  path_used c h m g = ap (λ (n : ℕ). foldl one_use x (step_uses e f k 0 (map halfedge_of (take n l)))) g ∙ steps_use c h

-- ---- a face: the uses of its first i cycles are in x, and the places of the others begin at `from`
module _ (e f : ℕ) (ns : List ℕ) (c0 k : ℕ) (st : List ℕ) (p0 : ℕ) (x₀ : Uses) where
  pub record Facing (x : Uses) (from i : ℕ) : Type 0 where
    pub from_is : from ≡ p0 + width_sum (take i (drop c0 ns))
    pub rest : foldl one_use x₀ (cycle_uses e f 0 (cycles_from (take k (drop c0 ns)) (drop p0 st)))
        ≡ foldl one_use x (cycle_uses e f i (cycles_from (drop i (take k (drop c0 ns))) (drop from st)))

  pub facing_start : Facing x₀ p0 0
  facing_start = record { from_is = omega arith; rest = refl }

  module _ (g : c0 + k ≤ length ns) (x : Uses) (from i : ℕ) (h : i < k) (t : Facing x from i) where
    sum : from + width (get_or ns (c0 + i) 0) ≡ p0 + width_sum (take (i + 1) (drop c0 ns))
    sum =
        let a = t.from_is in
        let l = length-drop c0 ns in
        let b = sum_more width (drop c0 ns) i 0 (omega arith) in
        let w = ap width (get_or-drop c0 ns i 0) in
        omega arith

    pub facing_room : p0 + width_sum (take k (drop c0 ns)) ≤ 2048 → from + width (get_or ns (c0 + i) 0) ≤ 2048
    facing_room r = let a = sum in let b = sum_le width (drop c0 ns) (i + 1) k (omega arith) in omega arith

    pub facing_turn : (y : Uses) → y ≡ foldl one_use x (step_uses e f i 0 (steps_of (cycle_of (get_or ns (c0 + i) 0) (drop from st)))) → (w : ℕ)
        → w ≡ width (get_or ns (c0 + i) 0) → Facing y (from + w) (i + 1)
    facing_turn y q w v =
        let c = get_or ns (c0 + i) 0 in
        let more = cycles_from (drop (i + 1) (take k (drop c0 ns))) (drop (width c) (drop from st)) in
        record {
          from_is = ap (λ (n : ℕ). from + n) v ∙ sum;
          rest =
              t.rest
              ∙ ap (λ (l : List ℕ). foldl one_use x (cycle_uses e f i (cycles_from l (drop from st))))
              (left_cons (drop c0 ns) k i 0 (room ns c0 k g) h ∙ ap (λ (n : ℕ). n ∷ drop (i + 1) (take k (drop c0 ns))) (get_or-drop c0 ns i 0))
              ∙ foldl-append one_use x (step_uses e f i 0 (steps_of (cycle_of c (drop from st)))) (cycle_uses e f (suc i) more)
              ∙ ap₂ (λ (z : Uses) (n : ℕ). foldl one_use z (cycle_uses e f n more)) (sym q) (sym (add-one i))
              ∙ ap (λ (l : List ℕ). foldl one_use y (cycle_uses e f (i + 1) (cycles_from (drop (i + 1) (take k (drop c0 ns))) l)))
              (drop-drop (width c) from st ∙ ap (λ (n : ℕ). drop (from + n) st) (sym v));
        }

  pub facing_end : c0 + k ≤ length ns → (x : Uses) (from i : ℕ) → i ≡ k → Facing x from i
      → ◌≡◌ {A = Past} (record { uses = x; place = from })
      (record { uses = foldl one_use x₀ (cycle_uses e f 0 (cycles_from (take k (drop c0 ns)) (drop p0 st))); place = p0 + width_sum (take k (drop c0 ns)) })
  facing_end g x from i h t =
      ap₂ (λ (y : Uses) (p : ℕ). record { uses = y; place = p })
      (sym (t.rest ∙ ap (λ (l : List ℕ). foldl one_use x (cycle_uses e f i (cycles_from l (drop from st)))) (left_none (drop c0 ns) k i (room ns c0 k g) h)))
      (t.from_is ∙ ap (λ (n : ℕ). p0 + width_sum (take n (drop c0 ns))) h)

-- ---- cycles part by part
pub cycles_drop : (c : ℕ) (ns st : List ℕ) → drop c (cycles_from ns st) ≡ cycles_from (drop c ns) (drop (width_sum (take c ns)) st)
cycles_drop zero ns st = refl
cycles_drop (suc c) [] st = refl
cycles_drop (suc c) (n ∷ ns) st =
    cycles_drop c ns (drop (width n) st) ∙ ap (cycles_from (drop c ns)) (drop-drop (width_sum (take c ns)) (width n) st)

places_nil : (c : ℕ) → places_of 0 c ≡ c
places_nil zero = refl
places_nil (suc c) = refl

-- ---- the rows: the uses of the first i are in x, the cycles of the others begin at c0 and their places at `from`
module _ (e n : ℕ) (is ks ns st : List ℕ) where
  pub record Rowing (x : Uses) (c0 from i : ℕ) : Type 0 where
    pub start_is : c0 ≡ total (places_of 0) (take i ks)
    pub from_is : from ≡ width_sum (take c0 ns)
    pub rest : foldl one_use no_uses (row_uses e (take n is) (take n ks) (cycles_from ns st))
        ≡ foldl one_use x (row_uses e (drop i (take n is)) (drop i (take n ks)) (drop c0 (cycles_from ns st)))

  pub rowing_start : (x : Uses) → x ≡ no_uses → Rowing x 0 0 0
  rowing_start x h =
      record { start_is = refl; from_is = refl; rest = ap (λ (y : Uses). foldl one_use y (row_uses e (take n is) (take n ks) (cycles_from ns st))) (sym h) }

  module _ (q : Faces n is ks ns st) (x : Uses) (c0 from i : ℕ) (h : i < n) (t : Rowing x c0 from i) (k : ℕ) (ek : k ≡ get_or ks i 0) where
    cycles_on : c0 + k ≡ total (places_of 0) (take (i + 1) ks)
    cycles_on =
        let a = t.start_is in
        let b = sum_more (places_of 0) ks i 0 (omega (arith, q.few, q.counts)) in
        let c = places_nil (get_or ks i 0) in
        omega arith

    places_on : from + width_sum (take k (drop c0 ns)) ≡ width_sum (take (c0 + k) ns)
    places_on =
        ap (λ (p : ℕ). p + width_sum (take k (drop c0 ns))) t.from_is
        ∙ sym (ap width_sum (take-add c0 k ns) ∙ sum_append width (take c0 ns) (take k (drop c0 ns)))

    pub rowing_cycles : c0 + k ≤ 512
    rowing_cycles = let a = cycles_on in let b = sum_le (places_of 0) ks (i + 1) n (omega arith) in omega (arith, q.cycles_fit)

    pub rowing_places : from + width_sum (take k (drop c0 ns)) ≤ 2048
    rowing_places =
        let a = cycles_on in
        let b = sum_le (places_of 0) ks (i + 1) n (omega arith) in
        let c = sum_le width ns (c0 + k) (total (places_of 0) (take n ks)) (omega arith) in
        let p = places_on in
        omega (arith, q.steps_fit)

    pub rowing_turn : (y : Uses) → y ≡ foldl one_use x (cycle_uses e (get_or is i 0) 0 (cycles_from (take k (drop c0 ns)) (drop from st)))
        → (c1 p1 : ℕ) → c1 ≡ c0 + k → p1 ≡ from + width_sum (take k (drop c0 ns)) → Rowing y c1 p1 (i + 1)
    rowing_turn y g c1 p1 ec ep =
        let cy = drop c0 (cycles_from ns st) in
        let mine : take k cy ≡ cycles_from (take k (drop c0 ns)) (drop from st) =
        ap (take k) (cycles_drop c0 ns st ∙ ap (λ (p : ℕ). cycles_from (drop c0 ns) (drop p st)) (sym t.from_is))
        ∙ take_cycles k (drop c0 ns) (drop from st) in
        let ys = row_uses e (drop (i + 1) (take n is)) (drop (i + 1) (take n ks)) in
        record {
          start_is = ec ∙ cycles_on;
          from_is = ep ∙ places_on ∙ ap (λ (m : ℕ). width_sum (take m ns)) (sym ec);
          rest =
              t.rest
              ∙ ap₂ (λ (a b : List ℕ). foldl one_use x (row_uses e a b cy)) (left_cons is n i 0 (omega (arith, q.few, q.ids)) h)
              (left_cons ks n i 0 (omega (arith, q.few, q.counts)) h ∙ ap (λ (c : ℕ). c ∷ drop (i + 1) (take n ks)) (sym ek))
              ∙ foldl-append one_use x (cycle_uses e (get_or is i 0) 0 (take k cy)) (ys (drop k cy))
              ∙ ap₂ (λ (z : Uses) (l : List Cycle). foldl one_use z (ys l))
              (ap (λ (l : List Cycle). foldl one_use x (cycle_uses e (get_or is i 0) 0 l)) mine ∙ sym g)
              (drop-drop k c0 (cycles_from ns st) ∙ ap (λ (m : ℕ). drop m (cycles_from ns st)) (sym ec));
        }

    -- a row without cycles
    pub rowing_skip : k ≡ 0 → Rowing x c0 from (i + 1)
    rowing_skip z =
        rowing_turn x (sym (ap (λ (m : ℕ). foldl one_use x (cycle_uses e (get_or is i 0) 0 (cycles_from (take m (drop c0 ns)) (drop from st)))) z)) c0 from
        (omega (arith, z)) (let w = ap (λ (m : ℕ). width_sum (take m (drop c0 ns))) z in omega (arith, w))

  pub rowing_end : Faces n is ks ns st → (x : Uses) (c0 from i : ℕ) → i ≡ n → Rowing x c0 from i
      → x ≡ uses_two (row_uses e (take n is) (take n ks) (cycles_from ns st))
  rowing_end q x c0 from i h t =
      sym (sym (folded (row_uses e (take n is) (take n ks) (cycles_from ns st))) ∙ t.rest
      ∙ ap (λ (a : List ℕ). foldl one_use x (row_uses e a (drop i (take n ks)) (drop c0 (cycles_from ns st))))
      (left_none is n i (omega (arith, q.few, q.ids)) h))
