-- The walk that ends at the first fault: its laws over any test, and that its verdict is that of soundness. Assumes nothing.
use Prim.Native.Nat.{ℕ, zero, suc, ◌+◌, ◌-◌, ◌≤◌, ◌<◌}
use native.Mathlib.Omega.{arith}
use native.Mathlib.Decide.{dec_lt}
use native.Mathlib.Numerals.{add-one}
use mathlib.Core.Path.{◌≡◌, refl, sym, ap, ap₂, ◌∙◌, subst}
use mathlib.Core.Logic.{◌⊎◌, inl, inr}
use mathlib.Core.Bool.{Bool, true, false, ◌&&◌, cond, true≢false}
use mathlib.Core.List.{List, [], ◌∷◌}
use lib.ListN.{length, take, get_or, length-map, get_or-map}
use lib.Seq.{take-length}
use lib.Dec.{ltb, leb}
use borrow.Author.Tests.{ltb-true, lt-ltb, leb-true, le-leb}
use Rattle.complex.specs.Lists.{rising}
use Rattle.complex.specs.Cells.{Figure, face, LiveCell, Sheet, lookup, ids}
use Rattle.complex.specs.Sound.{cycles_in, steps_in, bends_in, over, figure_ok, totals_ok, figures_ok, ceilings, sound, ids_end}
use Rattle.complex.specs.Sound.{cells_most, cycles_most, steps_most, bends_most}
use Rattle.complex.specs.Visits.{id_before, id_right, figure_in, right, bounds_right, visits, check_call, FirstFault, Judged, FirstFaults}
use Rattle.complex.proofs.Bools.{truth, true_of, both_true}
use Rattle.complex.proofs.Lookup.{rising_lt}
use Rattle.complex.proofs.Sums.{total_take}
use Rattle.complex.proofs.Split.{all_get_d}
use Rattle.complex.proofs.UncutFaces.{all_by}

-- p holds of all below n
abbrev pub Below : (ℕ → Bool) → ℕ → Type 0
Below p n = (i : ℕ) → i < n → p i ≡ true

-- ---- the walk over any test
module _ (p : ℕ → Bool) where
  below_more : (j : ℕ) → Below p j → p j ≡ true → Below p (suc j)
  below_more j f e i h = go (dec_lt i j)
    where
      go : Dec (i < j) → p i ≡ true
      go (yes u) = f i u
      go (no u) = let q : i ≡ j = omega (arith, u) in ap p q ∙ e

  -- where p holds all are visited
  pub visits_all : (j n : ℕ) → ((i : ℕ) → j ≤ i → i < j + n → p i ≡ true) → visits p j n ≡ j + n
  visits_all j zero f = omega arith
  visits_all j (suc n) f =
      ap (λ (b : Bool). cond b (visits p (suc j) n) (suc j)) (f j (omega arith) (omega arith))
      ∙ visits_all (suc j) n (λ i h g. f i (omega arith) (omega arith))
      ∙ omega arith

  -- the walk from place j to m, where p holds of all before j
  from : (m j n : ℕ) → j + n ≡ m → Below p j → Below p m ⊎ FirstFault p m (visits p j n)
  from m j zero e f = inl (λ i h. f i (omega arith))
  from m j (suc n) e f = go (p j) refl (from m (suc j) n (omega arith))
    where
      go : (b : Bool) → p j ≡ b → (Below p (suc j) → Below p m ⊎ FirstFault p m (visits p (suc j) n))
          → Below p m ⊎ FirstFault p m (cond b (visits p (suc j) n) (suc j))
      go true q k = k (below_more j f q)
      go false q k = inr (record { place = j; count = refl; inside = omega arith; before = f; fault = q })

  -- p holds of all, or the walk ends at the first of which it does not
  pub visits_first : (n : ℕ) → (Below p n × (visits p 0 n ≡ n)) ⊎ FirstFault p n (visits p 0 n)
  visits_first n = elim (from n 0 n (omega arith) (λ i h. absurd (omega arith))) [
    | inl f ↦ inl (f, visits_all 0 n (λ i h g. f i (omega arith)) ∙ omega arith)
    | inr w ↦ inr w
  ]

  -- ---- a loop that visits one after another
  module _ (n : ℕ) where
    -- the first i are visited, and p holds of them: the rest decides
    pub record Visiting (i : ℕ) : Type 0 where
      pub rest : visits p 0 n ≡ visits p i (n - i)

    pub visiting_start : Visiting 0
    visiting_start = let e : n ≡ n - 0 = omega arith in record { rest = ap (visits p 0) e }

    module _ (i : ℕ) (k : i < n) (t : Visiting i) where
      visiting : (b : Bool) → p i ≡ b → visits p 0 n ≡ cond b (visits p (i + 1) (n - (i + 1))) (i + 1)
      visiting b e =
          let m : n - i ≡ suc (n - (i + 1)) = omega arith in
          t.rest ∙ ap (visits p i) m ∙ ap₂ (λ (c : Bool) (j : ℕ). cond c (visits p j (n - (i + 1))) j) e (sym (add-one i))

      pub visiting_turn : p i ≡ true → Visiting (i + 1)
      visiting_turn e = record { rest = visiting true e }

      pub visiting_stop : p i ≡ false → i + 1 ≡ visits p 0 n
      visiting_stop e = sym (visiting false e)

    pub visiting_end : (i : ℕ) → i ≡ n → Visiting i → i ≡ visits p 0 n
    visiting_end i e t = let z : n - i ≡ 0 = omega arith in sym (t.rest ∙ ap (visits p i) z)

  -- at most all are visited
  visits_most : (j n : ℕ) → visits p j n ≤ j + n
  visits_most j zero = omega arith
  visits_most j (suc n) = go (p j) (visits_most (suc j) n)
    where
      go : (b : Bool) → visits p (suc j) n ≤ suc j + n → cond b (visits p (suc j) n) (suc j) ≤ j + suc n
      go true h = omega arith
      go false h = omega arith

  pub visited_most : (next n : ℕ) → cond (bounds_right next n) (visits p 0 n) 0 ≤ cells_most
  visited_most next n = go (bounds_right next n) refl
    where
      go : (t : Bool) → bounds_right next n ≡ t → cond t (visits p 0 n) 0 ≤ cells_most
      go true e =
          let b = both_true (leb 1 next) (leb next ids_end && leb n cells_most) e in
          let c = both_true (leb next ids_end) (leb n cells_most) b.1 in
          omega (arith, visits_most 0 n, leb-true n cells_most c.1)
      go false e = omega arith

-- ---- two tests
module _ (p q : ℕ → Bool) where
  same_from : (m j n : ℕ) → j + n ≡ m → Below p j → ((i : ℕ) → i < m → Below p i → p i ≡ q i) → visits p j n ≡ visits q j n
  same_from m j zero e f s = refl
  same_from m j (suc n) e f s =
      go (p j) refl (λ g. same_from m (suc j) n (omega arith) g s) ∙ ap (λ (b : Bool). cond b (visits q (suc j) n) (suc j)) (s j (omega arith) f)
    where
      go : (b : Bool) → p j ≡ b → (Below p (suc j) → visits p (suc j) n ≡ visits q (suc j) n)
          → cond b (visits p (suc j) n) (suc j) ≡ cond b (visits q (suc j) n) (suc j)
      go true u k = k (below_more p j f u)
      go false u k = refl

  -- tests that agree up to and with the first that fails visit as many
  pub visits_same : (n : ℕ) → ((i : ℕ) → i < n → Below p i → p i ≡ q i) → visits p 0 n ≡ visits q 0 n
  visits_same n s = same_from n 0 n (omega arith) (λ i h. absurd (omega arith)) s

-- ---- a verdict that is yes exactly where the bounds are kept and all are right
module _ (bounds : Bool) (p : ℕ → Bool) (n : ℕ) (v : Bool) where
  pub judged : (v ≡ true → (bounds ≡ true) × Below p n) → (bounds ≡ true → Below p n → v ≡ true)
      → Judged bounds p n (record { sound = v; visited = cond bounds (visits p 0 n) 0 })
  judged rights enough =
      record {
        yes = rights;
        enough = enough;
        all = λ e. let r = rights e in
            ap (λ (b : Bool). cond b (visits p 0 n) 0) r.0 ∙ visits_all p 0 n (λ i h g. r.1 i (omega arith)) ∙ omega arith;
        out = λ e. ap (λ (b : Bool). cond b (visits p 0 n) 0) e;
        first = λ b e. subst (λ (c : Bool). FirstFault p n (cond c (visits p 0 n) 0)) (sym b) (fault b e);
      }
    where
      fault : bounds ≡ true → v ≡ false → FirstFault p n (visits p 0 n)
      fault b e = elim (visits_first p n) [
        | inl a ↦ absurd (true≢false (sym (enough b a.0) ∙ e))
        | inr w ↦ w
      ]

-- ---- ids that rise
-- `get_or (lo ∷ is) i 0` stands before place i of a list that comes after lo
rising_at : (lo : ℕ) (is : List ℕ) (hi n i : ℕ) → n ≤ length is → i < n → rising lo (take n is) hi ≡ true
    → (ltb (get_or is i 0) hi && ltb (get_or (lo ∷ is) i 0) (get_or is i 0)) ≡ true
rising_at lo is hi zero i h g e = absurd (omega arith)
rising_at lo [] hi (suc n) i h g e = absurd (omega arith)
rising_at lo (x ∷ is) hi (suc n) zero h g e =
    let b = both_true (ltb lo x) (rising x (take n is) hi) e in
    ap₂ ◌&&◌ (lt-ltb x hi (rising_lt x (take n is) hi (truth b.1))) b.0
rising_at lo (x ∷ is) hi (suc n) (suc i) h g e =
    rising_at x is hi n i (omega arith) (omega arith) (both_true (ltb lo x) (rising x (take n is) hi) e).1

rising_of : (lo : ℕ) (is : List ℕ) (hi n : ℕ) → n ≤ length is → lo < hi
    → ((i : ℕ) → i < n → (ltb (get_or is i 0) hi && ltb (get_or (lo ∷ is) i 0) (get_or is i 0)) ≡ true) → rising lo (take n is) hi ≡ true
rising_of lo is hi zero h g f = lt-ltb lo hi g
rising_of lo [] hi (suc n) h g f = absurd (omega arith)
rising_of lo (x ∷ is) hi (suc n) h g f =
    let b = both_true (ltb x hi) (ltb lo x) (f 0 (omega arith)) in
    ap₂ ◌&&◌ b.1 (rising_of x is hi n (omega arith) (ltb-true x hi b.0) (λ i k. f (suc i) (omega arith)))

id_before_lem : (is : List ℕ) (i : ℕ) → get_or (0 ∷ is) i 0 ≡ id_before is i
id_before_lem is zero = refl
id_before_lem is (suc i) = refl

-- of n ids that rise each is right, and back
pub ids_at : (is : List ℕ) (next n i : ℕ) → n ≤ length is → i < n → rising 0 (take n is) next ≡ true → id_right next is i ≡ true
ids_at is next n i h g e =
    ap (λ (y : ℕ). ltb (get_or is i 0) next && ltb y (get_or is i 0)) (sym (id_before_lem is i)) ∙ rising_at 0 is next n i h g e

pub ids_of_lem : (is : List ℕ) (next n : ℕ) → n ≤ length is → 0 < next → ((i : ℕ) → i < n → id_right next is i ≡ true) → rising 0 (take n is) next ≡ true
ids_of_lem is next n h g f =
    rising_of 0 is next n h g (λ i k. ap (λ (y : ℕ). ltb (get_or is i 0) next && ltb y (get_or is i 0)) (id_before_lem is i) ∙ f i k)

-- ---- totals: those so far are at most those of the whole
totals_take : (n : ℕ) (cs : List LiveCell) → totals_ok cs ≡ true → totals_ok (take n cs) ≡ true
totals_take n cs e =
    let a = both_true (leb (over cycles_in cs) cycles_most) (leb (over steps_in cs) steps_most && leb (over bends_in cs) bends_most) e in
    let b = both_true (leb (over steps_in cs) steps_most) (leb (over bends_in cs) bends_most) a.1 in
    ap₂ ◌&&◌ (less cycles_in cycles_most a.0) (ap₂ ◌&&◌ (less steps_in steps_most b.0) (less bends_in bends_most b.1))
  where
    less : (f : Figure → ℕ) (most : ℕ) → leb (over f cs) most ≡ true → leb (over f (take n cs)) most ≡ true
    less f most t =
        let l = leb-true (over f cs) most t in
        let k = total_take (λ (c : LiveCell). f c.figure) n cs in
        le-leb (over f (take n cs)) most (omega (arith, l, k))

totals_last : (cs : List LiveCell) → ((i : ℕ) → i < length cs → totals_ok (take (suc i) cs) ≡ true) → totals_ok cs ≡ true
totals_last [] f = refl
totals_last (c ∷ cs) f = ap totals_ok (sym (take-length (c ∷ cs))) ∙ f (length cs) (omega arith)

-- ---- figures, place by place
abbrev no_cell : LiveCell
no_cell = record { id = 0; figure = face [] }

module _ (cs : List LiveCell) where
  abbrev figure_right : LiveCell → Bool
  figure_right c = figure_ok (lookup cs) c.figure

  figure_in_lem : (i : ℕ) → figure_ok (lookup cs) (figure_in cs i) ≡ figure_right (get_or cs i no_cell)
  figure_in_lem i = ap (figure_ok (lookup cs)) (get_or-map (λ (c : LiveCell). c.figure) cs i no_cell)

  figures_at : figures_ok cs ≡ true → (i : ℕ) → i < length cs → figure_ok (lookup cs) (figure_in cs i) ≡ true
  figures_at e i h = figure_in_lem i ∙ true_of _ (all_get_d figure_right cs i no_cell (truth e) h)

  figures_of : ((i : ℕ) → i < length cs → figure_ok (lookup cs) (figure_in cs i) ≡ true) → figures_ok cs ≡ true
  figures_of f = true_of _ (all_by figure_right cs no_cell (λ i h. truth (sym (figure_in_lem i) ∙ f i h)))

-- ---- a drawing is sound exactly where the bounds are kept and every cell is right
module _ (s : Sheet) where
  -- the rules about the cell in place i, one by one
  pub record Right (i : ℕ) : Type 0 where
    pub id : id_right s.next (ids s.cells) i ≡ true
    pub totals : totals_ok (take (suc i) s.cells) ≡ true
    pub figure : figure_ok (lookup s.cells) (figure_in s.cells i) ≡ true

  pub right_parts : (i : ℕ) → right s i ≡ true → Right i
  right_parts i e =
      let a = both_true (id_right s.next (ids s.cells) i) _ e in
      let b = both_true (totals_ok (take (suc i) s.cells)) (figure_ok (lookup s.cells) (figure_in s.cells i)) a.1 in
      record { id = a.0; totals = b.0; figure = b.1 }

  pub parts_right : (i : ℕ) → Right i → right s i ≡ true
  parts_right i r = ap₂ ◌&&◌ r.id (ap₂ ◌&&◌ r.totals r.figure)

  ids_count : length s.cells ≡ length (ids s.cells)
  ids_count = sym (length-map s.cells (λ (c : LiveCell). c.id))

  ids_taken : rising 0 (take (length s.cells) (ids s.cells)) s.next ≡ rising 0 (ids s.cells) s.next
  ids_taken = rw (ids_count, take-length)

  pub sound_rights : sound s ≡ true → (bounds_right s.next (length s.cells) ≡ true) × Below (right s) (length s.cells)
  unfolding sound
  sound_rights e =
      let a = both_true (rising 0 (ids s.cells) s.next) _ e in
      let b = both_true (leb s.next ids_end) _ a.1 in
      let c = both_true (ceilings s.cells) (figures_ok s.cells) b.1 in
      let d = both_true (leb (length s.cells) cells_most) (totals_ok s.cells) c.0 in (
        ap₂ ◌&&◌ (le-leb 1 s.next (rising_lt 0 (ids s.cells) s.next (truth a.0))) (ap₂ ◌&&◌ b.0 d.0),
        λ i h. parts_right i
            (record {
              id = ids_at (ids s.cells) s.next (length s.cells) i (omega (arith, ids_count)) h (ids_taken ∙ a.0);
              totals = totals_take (suc i) s.cells d.1;
              figure = figures_at s.cells c.1 i h;
            }),
      )

  pub rights_sound : bounds_right s.next (length s.cells) ≡ true → Below (right s) (length s.cells) → sound s ≡ true
  unfolding sound
  rights_sound e f =
      let a = both_true (leb 1 s.next) _ e in
      let b = both_true (leb s.next ids_end) (leb (length s.cells) cells_most) a.1 in
      let r : (i : ℕ) → i < length s.cells → Right i = λ i h. right_parts i (f i h) in
      let o = ids_of_lem (ids s.cells) s.next (length s.cells) (omega (arith, ids_count)) (leb-true 1 s.next a.0) (λ i h. (r i h).id) in
      ap₂ ◌&&◌ (sym ids_taken ∙ o)
      (ap₂ ◌&&◌ b.0
      (ap₂ ◌&&◌ (ap₂ ◌&&◌ b.1 (totals_last s.cells (λ i h. (r i h).totals))) (figures_of s.cells (λ i h. (r i h).figure))))

pub first_faults : FirstFaults
unfolding check_call
first_faults s = judged (bounds_right s.next (length s.cells)) (right s) (length s.cells) (sound s) (sound_rights s) (rights_sound s)
