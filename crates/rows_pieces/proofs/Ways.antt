-- Ways up: how they become shorter, and how two tops become one. Assumes nothing.
use Prim.Native.Nat.{ℕ, ◌+◌, ◌<◌, ◌≤◌}
use native.Mathlib.Omega.{arith}
use mathlib.Core.Path.{◌≡◌, refl, sym, ap, ◌∙◌, subst}
use mathlib.Core.Bool.{Bool, true, false, cond}
use mathlib.Core.List.{List}
use lib.ListN.{length, set, length-set}
use lib.Seq.{get_or-set_same, get_or-set_other}
use lib.Dec.{eqb}
use borrow.Author.Tests.{eq-eqb, ne_eqb, eqb-true, eqb-false, lt-ltb, le-ltb}
use Rattle.complex.specs.Sound.{cells_most}
use Rattle.rows_pieces.specs.Ways.{above, Leads, Tops, Owns, Shorter, Topped, instead, merged, Joins}

-- ---- one row leads elsewhere
module _ (up : List ℕ) (r v : ℕ) (l : r < length up) where
  put_here : above (set up r v) r ≡ v
  put_here = get_or-set_same up r v 0 l

  put_other : (q : ℕ) → (r ≡ q → ⊥) → above (set up r v) q ≡ above up q
  put_other q n = get_or-set_other up r q v 0 (λ e. n (sym e))

  -- what holds of where every row leads
  put_each : (P : ℕ → ℕ → Type 0) (q : ℕ) → (r ≡ q → P q v) → ((r ≡ q → ⊥) → P q (above up q)) → P q (above (set up r v) q)
  put_each P q here other = go (eqb r q) refl
    where
      go : (b : Bool) → eqb r q ≡ b → P q (above (set up r v) q)
      go true e = let z = eqb-true r q e in subst (P q) (sym (subst (λ (k : ℕ). above (set up r v) k ≡ v) z put_here)) (here z)
      go false e = let n = eqb-false r q e in subst (P q) (sym (put_other q n)) (other n)

  put_leads : v ≤ r → (n : ℕ) → Leads n up → Leads n (set up r v)
  put_leads h n m = λ q k. put_each (λ (q w : ℕ). w ≤ q) q (λ e. omega arith) (λ e. m q k)

-- one row more is its own top
pub owns_turn : (up : List ℕ) (i : ℕ) → Owns i up → i < cells_most → (v : ℕ) → v ≡ i → Owns (i + 1) (set up i v)
owns_turn up i O l v e =
    let s = O.size in
    record {
      size = length-set up i v ∙ s;
      own = λ r h. put_each up i v (omega arith) (λ (q w : ℕ). w ≡ q) r (λ z. e ∙ z) (λ z. O.own r (omega arith));
    }

-- ---- the way of one row is shorter
module _ (up : List ℕ) (s : length up ≡ cells_most) (r : ℕ) (l : r < cells_most) (a b : ℕ) (at : a ≡ above up r) (on : b ≡ above up a)
    (less : a < r) (below : b ≤ a) where
  over : Shorter r up (set up r b)
  over =
      record {
        size = length-set up r b ∙ s;
        leads = put_leads up r b (omega arith) (omega arith);
        tops = λ n t k T. record {
          along = λ q h. put_each up r b (omega arith) (λ (q w : ℕ). t w ≡ t q) q
              (λ e. ap t on ∙ T.along a (omega arith) ∙ ap t at ∙ T.along r k ∙ ap t e) (λ e. T.along q h);
          ends = λ q h. put_each up r b (omega arith) (λ (q w : ℕ). w ≡ q → t q ≡ q) q (λ e z. absurd (omega arith)) (λ e. T.ends q h);
        };
      }

-- ---- on the way up from a row: r is reached
pub record Climbing (row : ℕ) (up : List ℕ) (r : ℕ) (up' : List ℕ) : Type 0 where
  pub shorter : Shorter row up up'
  pub before : r ≤ row
  pub same : (n : ℕ) (t : ℕ → ℕ) → row < n → Tops n up t → t r ≡ t row

module _ (row : ℕ) (up : List ℕ) where
  pub climb_start : length up ≡ cells_most → Climbing row up row up
  climb_start s = record { shorter = record { size = s; leads = λ n m. m; tops = λ n t k T. T }; before = omega arith; same = λ n t k T. refl }

  module _ (r : ℕ) (up' : List ℕ) (C : Climbing row up r up') (m : Leads (row + 1) up) (l : row < cells_most) where
    -- a row on the way leads no higher than itself
    pub climb_below : (q : ℕ) → q ≤ row → above up' q ≤ q
    climb_below q h = C.shorter.leads (row + 1) m q (omega arith)

    -- the row leads over the next one, and that is reached
    pub climb_turn : (a b : ℕ) → a ≡ above up' r → b ≡ above up' a → a < r → Climbing row up b (set up' r b)
    climb_turn a b at on less =
        let h = C.before in
        let g = climb_below a (omega arith) in
        let w = over up' C.shorter.size r (omega arith) a b at on less (omega arith) in
        record {
          shorter = record {
            size = w.size;
            leads = λ n k. w.leads n (C.shorter.leads n k);
            tops = λ n t k T. w.tops n t (omega arith) (C.shorter.tops n t k T);
          };
          before = omega arith;
          same = λ n t k T.
              let U = C.shorter.tops n t k T in
              ap t on ∙ U.along a (omega arith) ∙ ap t at ∙ U.along r (omega arith) ∙ C.same n t k T;
        }

    pub climb_end : (a : ℕ) → a ≡ above up' r → (a < r → ⊥) → Topped row up r up'
    climb_end a at none =
        let h = C.before in
        let g = climb_below r h in
        let e : above up' r ≡ r = omega arith in
        record {
          shorter = C.shorter;
          before = h;
          own = e;
          top = λ n t k T. sym (C.same n t k T) ∙ (C.shorter.tops n t k T).ends r (omega arith) e;
        }

-- ---- one top leads to another
module _ (up : List ℕ) (lo hi : ℕ) (l : hi < length up) (less : lo < hi) where
  hang_tops : (n : ℕ) (t : ℕ → ℕ) → Tops n up t → t lo ≡ lo → t hi ≡ hi → Tops n (set up hi lo) (instead hi lo t)
  hang_tops n t T a b =
      record {
        along = λ q h. put_each up hi lo l (λ (q w : ℕ). instead hi lo t w ≡ instead hi lo t q) q (λ e. low ∙ sym high ∙ ap (instead hi lo t) e)
            (λ e. ap (λ (w : ℕ). cond (eqb w hi) lo w) (T.along q h));
        ends = λ q h. put_each up hi lo l (λ (q w : ℕ). w ≡ q → instead hi lo t q ≡ q) q (λ e z. absurd (omega arith))
            (λ e z. let g = T.ends q h z in ap (λ (b : Bool). cond b lo (t q)) (ne_eqb (t q) hi (omega arith)) ∙ g);
      }
    where
      low : instead hi lo t lo ≡ lo
      low = ap (λ (b : Bool). cond b lo (t lo)) (ne_eqb (t lo) hi (omega arith)) ∙ a

      high : instead hi lo t hi ≡ lo
      high = ap (λ (b : Bool). cond b lo (t hi)) (eq-eqb (t hi) hi b)

-- tops that give way to themselves
same_tops : (a : ℕ) (t : ℕ → ℕ) → t ≡ instead a a t
same_tops a t = λ i r. go r (eqb (t r) a) refl i
  where
    go : (r : ℕ) (b : Bool) → eqb (t r) a ≡ b → t r ≡ cond b a (t r)
    go r true e = eqb-true (t r) a e
    go r false e = refl

-- ---- the tops of two rows become one
module _ (x y : ℕ) (up : List ℕ) (a : ℕ) (up₁ : List ℕ) (b : ℕ) (up₂ : List ℕ) (A : Topped x up a up₁) (B : Topped y up₁ b up₂) where
  both_leads : (n : ℕ) → Leads n up → Leads n up₂
  both_leads n m = B.shorter.leads n (A.shorter.leads n m)

  module _ (n : ℕ) (t : ℕ → ℕ) (h : x < n) (k : y < n) (T : Tops n up t) where
    both_tops : Tops n up₂ t
    both_tops = B.shorter.tops n t k (A.shorter.tops n t h T)

    first_top : t x ≡ a
    first_top = A.top n t h T

    second_top : t y ≡ b
    second_top = B.top n t k (A.shorter.tops n t h T)

    first_own : t a ≡ a
    first_own = let l = A.before in (A.shorter.tops n t h T).ends a (omega arith) A.own

    second_own : t b ≡ b
    second_own = let l = B.before in both_tops.ends b (omega arith) B.own

  count_two : (a ≡ b → ⊥) → (n : ℕ) (t : ℕ → ℕ) → x < n → y < n → Tops n up t → ◌≡◌ {A = ℕ} 1 (cond (eqb (t x) (t y)) 0 1)
  count_two d n t h k T =
      let p = first_top n t h k T in
      let q = second_top n t h k T in
      sym (ap (λ (e : Bool). cond e 0 1) (ne_eqb (t x) (t y) (λ e. d (sym p ∙ e ∙ q))))

  -- the tops, by the numbers found
  as_found : (n : ℕ) (t : ℕ → ℕ) (h : x < n) (k : y < n) (T : Tops n up t) (up' : List ℕ) → Tops n up' (merged a b t) → Tops n up' (merged (t x) (t y) t)
  as_found n t h k T up' M =
      let p = first_top n t h k T in
      let q = second_top n t h k T in
      subst (Tops n up') (λ i. merged (sym p i) (sym q i) t) M

  pub join_up : a < b → b < cells_most → Joins x y up 1 (set up₂ b a)
  join_up d l =
      let s = B.shorter.size in
      record {
        size = length-set up₂ b a ∙ s;
        leads = λ n m. put_leads up₂ b a (omega arith) (omega arith) n (both_leads n m);
        tops = λ n t h k T. as_found n t h k T (set up₂ b a)
            (subst (λ (c : Bool). Tops n (set up₂ b a) (instead (cond c b a) (cond c a b) t)) (sym (lt-ltb a b d))
            (hang_tops up₂ a b (omega arith) d n t (both_tops n t h k T) (first_own n t h k T) (second_own n t h k T)));
        count = count_two (λ e. omega arith);
      }

  pub join_down : b < a → a < cells_most → Joins x y up 1 (set up₂ a b)
  join_down d l =
      let s = B.shorter.size in
      record {
        size = length-set up₂ a b ∙ s;
        leads = λ n m. put_leads up₂ a b (omega arith) (omega arith) n (both_leads n m);
        tops = λ n t h k T. as_found n t h k T (set up₂ a b)
            (subst (λ (c : Bool). Tops n (set up₂ a b) (instead (cond c b a) (cond c a b) t)) (sym (le-ltb a b (omega arith)))
            (hang_tops up₂ b a (omega arith) d n t (both_tops n t h k T) (second_own n t h k T) (first_own n t h k T)));
        count = count_two (λ e. omega arith);
      }

  pub join_none : (a < b → ⊥) → (b < a → ⊥) → Joins x y up 0 up₂
  join_none c d =
      let e : a ≡ b = omega arith in
      record {
        size = B.shorter.size;
        leads = both_leads;
        tops = λ n t h k T. as_found n t h k T up₂
            (subst (λ (z : Bool). Tops n up₂ (instead (cond z b a) (cond z a b) t)) (sym (le-ltb a b (omega arith)))
            (subst (λ (w : ℕ). Tops n up₂ (instead a w t)) e (subst (Tops n up₂) (same_tops a t) (both_tops n t h k T))));
        count = λ n t h k T.
            sym (ap (λ (z : Bool). cond z 0 1) (eq-eqb (t x) (t y) (first_top n t h k T ∙ e ∙ sym (second_top n t h k T))));
      }
