-- The passages of cycles, put one after another as links between places. Assumes nothing.
use Prim.Native.Nat.{ℕ, zero, suc, ◌+◌, ◌*◌, ◌-◌, ◌/◌, ◌%◌, ◌≤◌, ◌<◌}
use native.Mathlib.Omega.{arith}
use native.Mathlib.Numerals.{add-one}
use mathlib.Core.Path.{◌≡◌, refl, sym, ap, ap₂, ◌∙◌, subst}
use mathlib.Core.Bool.{Bool, true, false, not, ◌&&◌, cond}
use mathlib.Core.List.{List, [], ◌∷◌, ◌++◌, map, append_assoc, append-nil}
use borrow.Author.Tests.{eqb-true, eqb-false, ltb-true, ltb-false}
use lib.Dec.{eqb, ltb}
use lib.ListN.{length, take, drop, get_or, set, length-append, length-map, get_or-map}
use lib.Seq.{take-suc, take-suc-set, length-take-le, get_or-take}
use Rattle.complex.specs.Lists.{filter, cons_if, one}
use Rattle.complex.specs.Cells.{Halfedge, Cycle, steps_of}
use Rattle.complex.specs.Uses.{Passage, passage, passages, passages_from}
use Rattle.complex.proofs.Every.{filter_append}
use Rattle.store.specs.Index.{row_of}
use Rattle.store.specs.View.{halfedge_of, width, width_sum, cycle_of, cycles_from}
use Rattle.store.proofs.Lists.{map_append}
use Rattle.store.proofs.Encode.{flat_append}
use Rattle.rows_sides.proofs.Passing.{cycles_more}
use Rattle.rows_links.specs.Links.{place_at, turns_of, link_kept, left_places, right_places, Paired, LinksPut, next_step}

-- ---- a pair more
pub pair_none : (x y used : ℕ) (xs ys : List ℕ) → Paired false x y used xs ys used xs ys
pair_none x y used xs ys = record { count = omega arith; lefts = sym (append-nil (take used xs)); rights = sym (append-nil (take used ys)) }

pub pair_one : (x y used : ℕ) (xs ys : List ℕ) → used < length xs → used < length ys → Paired true x y used xs ys (used + 1) (set xs used x) (set ys used y)
pair_one x y used xs ys h k =
    record {
      count = refl;
      lefts = ap (λ (n : ℕ). take n (set xs used x)) (add-one used) ∙ take-suc-set xs used x h;
      rights = ap (λ (n : ℕ). take n (set ys used y)) (add-one used) ∙ take-suc-set ys used y k;
    }

pub pair_as : (b c : Bool) → b ≡ c → (x y used : ℕ) (xs ys : List ℕ) (r : ℕ) (xs' ys' : List ℕ) → Paired c x y used xs ys r xs' ys'
    → Paired b x y used xs ys r xs' ys'
pair_as b c e x y used xs ys r xs' ys' p = subst (λ (k : Bool). Paired k x y used xs ys r xs' ys') (sym e) p

-- ---- places
pub side_is : (s : ℕ) → s % 2 ≡ cond (eqb (s % 2) 1) 1 0
side_is s = go (eqb (s % 2) 1) refl
  where
    go : (b : Bool) → eqb (s % 2) 1 ≡ b → s % 2 ≡ cond b 1 0
    go true e = eqb-true (s % 2) 1 e
    go false e = let n = eqb-false (s % 2) 1 e in omega arith

pub other_side : (s : ℕ) → 1 - s % 2 ≡ cond (not (eqb (s % 2) 1)) 1 0
other_side s = go (eqb (s % 2) 1) refl
  where
    go : (b : Bool) → eqb (s % 2) 1 ≡ b → 1 - s % 2 ≡ cond (not b) 1 0
    go true e = let q = eqb-true (s % 2) 1 e in omega arith
    go false e = let n = eqb-false (s % 2) 1 e in omega arith

-- ---- lists of passages
module _ (is : List ℕ) (at : List Bool) where
  pub put_none : (used : ℕ) (xs ys : List ℕ) → LinksPut is at [] used xs ys used xs ys
  put_none used xs ys = record { count = omega arith; lefts = sym (append-nil (take used xs)); rights = sym (append-nil (take used ys)) }

  pub put_more : (ts us : List Passage) (used : ℕ) (xs ys : List ℕ) (r : ℕ) (xs' ys' : List ℕ) (q : ℕ) (xs'' ys'' : List ℕ)
      → LinksPut is at ts used xs ys r xs' ys'
      → LinksPut is at us r xs' ys' q xs'' ys'' → LinksPut is at (ts ++ us) used xs ys q xs'' ys''
  put_more ts us used xs ys r xs' ys' q xs'' ys'' a b =
      let k = link_kept is at in
      let e = filter_append k ts us in
      record {
        count = (let x = a.count in let y = b.count in let l = length-append (filter k ts) (filter k us) in let w = ap length e in omega arith);
        lefts =
            b.lefts ∙ ap (λ (l : List ℕ). l ++ left_places is (filter k us)) a.lefts
            ∙ append_assoc (take used xs) (left_places is (filter k ts)) (left_places is (filter k us))
            ∙ ap (λ (l : List ℕ). take used xs ++ l) (sym (ap (left_places is) e
            ∙ map_append (λ (t : Passage). place_at is t.arrives) (filter k ts) (filter k us)));
        rights =
            b.rights ∙ ap (λ (l : List ℕ). l ++ right_places is (filter k us)) a.rights
            ∙ append_assoc (take used ys) (right_places is (filter k ts)) (right_places is (filter k us))
            ∙ ap (λ (l : List ℕ). take used ys ++ l) (sym (ap (right_places is) e
            ∙ map_append (λ (t : Passage). place_at is t.leaves) (filter k ts) (filter k us)));
      }

  pub put_as : (ts us : List Passage) → ts ≡ us → (used : ℕ) (xs ys : List ℕ) (r : ℕ) (xs' ys' : List ℕ) → LinksPut is at ts used xs ys r xs' ys'
      → LinksPut is at us used xs ys r xs' ys'
  put_as ts us e used xs ys r xs' ys' p = subst (λ (l : List Passage). LinksPut is at l used xs ys r xs' ys') e p

  pub put_over : (c : ℕ) (l m : List ℕ) → l ≡ m → (used : ℕ) (xs ys : List ℕ) (r : ℕ) (xs' ys' : List ℕ)
      → LinksPut is at (passages (steps_of (cycle_of c l))) used xs ys r xs' ys' → LinksPut is at (passages (steps_of (cycle_of c m))) used xs ys r xs' ys'
  put_over c l m e = put_as (passages (steps_of (cycle_of c l))) (passages (steps_of (cycle_of c m))) (ap (λ (q : List ℕ). passages (steps_of (cycle_of c q))) e)

  filter_few : (ts : List Passage) → length (filter (link_kept is at) ts) ≤ length ts
  filter_few [] = omega arith
  filter_few (t ∷ ts) = go (link_kept is at t) (filter_few ts)
    where
      go : (b : Bool) → length (filter (link_kept is at) ts) ≤ length ts → length (cons_if b t (filter (link_kept is at) ts)) ≤ suc (length ts)
      go true h = omega arith
      go false h = omega arith

  pub put_few : (ts : List Passage) (used : ℕ) (xs ys : List ℕ) (r : ℕ) (xs' ys' : List ℕ) → LinksPut is at ts used xs ys r xs' ys' → r ≤ used + length ts
  put_few ts used xs ys r xs' ys' p = let c = p.count in let f = filter_few ts in omega arith

  -- at most n links so far, in arrays that are as long as before
  pub record Linking (ts : List Passage) (used : ℕ) (xs ys : List ℕ) (n k : ℕ) (xs' ys' : List ℕ) : Type 0 where
    pub lefts : length xs' ≡ length xs
    pub rights : length ys' ≡ length ys
    pub few : k ≤ n
    pub put : LinksPut is at ts used xs ys k xs' ys'

  pub linking_none : (used : ℕ) (xs ys : List ℕ) (n : ℕ) → used ≤ n → Linking [] used xs ys n used xs ys
  linking_none used xs ys n h = record { lefts = refl; rights = refl; few = h; put = put_none used xs ys }

  -- m more at most
  pub linking_on : {ts us : List Passage} {used : ℕ} {xs ys : List ℕ} {n k : ℕ} {xs' ys' : List ℕ} {r : ℕ} {xs'' ys'' : List ℕ} (m o : ℕ) → n + m ≤ o
      → Linking ts used xs ys n k xs' ys' → length xs'' ≡ length xs' → length ys'' ≡ length ys' → LinksPut is at us used xs ys r xs'' ys'' × (r ≤ k + m)
      → Linking us used xs ys o r xs'' ys''
  linking_on m o h l a b w = let f = l.few in let g = w.1 in record { lefts = a ∙ l.lefts; rights = b ∙ l.rights; few = omega arith; put = w.0 }

  -- a pair of steps
  module _ (h k x y : ℕ) (ex : x ≡ row_of (h / 2) is * 2 + (1 - h % 2)) (ey : y ≡ row_of (k / 2) is * 2 + k % 2) where
    abbrev turn : Passage
    turn = passage (halfedge_of h) (halfedge_of k)

    left_is : x ≡ place_at is turn.arrives
    left_is = ex ∙ ap (λ (n : ℕ). row_of (h / 2) is * 2 + n) (other_side h)

    right_is : y ≡ place_at is turn.leaves
    right_is = ey ∙ ap (λ (n : ℕ). row_of (k / 2) is * 2 + n) (side_is k)

    pub put_one : (b : Bool) → b ≡ (get_or at x false && get_or at y false) → (used : ℕ) (xs ys : List ℕ) (r : ℕ) (xs' ys' : List ℕ)
        → Paired b x y used xs ys r xs' ys' → LinksPut is at (one (passage (halfedge_of h) (halfedge_of k))) used xs ys r xs' ys'
    put_one b e used xs ys r xs' ys' p =
        let w : b ≡ link_kept is at turn = e ∙ ap₂ (λ (m n : ℕ). get_or at m false && get_or at n false) left_is right_is in
        let f = subst (λ (c : Bool). (r ≡ used + length (cons_if c turn [])) × (take r xs' ≡ take used xs ++ left_places is (cons_if c turn []))
        × (take r ys' ≡ take used ys ++ right_places is (cons_if c turn []))) w (go b p) in
        record { count = f.0; lefts = f.1; rights = f.2 }
      where
        go : (c : Bool) → Paired c x y used xs ys r xs' ys' → (r ≡ used + length (cons_if c turn []))
            × (take r xs' ≡ take used xs ++ left_places is (cons_if c turn [])) × (take r ys' ≡ take used ys ++ right_places is (cons_if c turn []))
        go true p = (p.count, p.lefts ∙ ap (λ (n : ℕ). take used xs ++ (n ∷ [])) left_is, p.rights ∙ ap (λ (n : ℕ). take used ys ++ (n ∷ [])) right_is)
        go false p = (p.count, p.lefts, p.rights)

    -- a passage that comes in at a place that is not marked
    pub put_skip : get_or at x false ≡ false → (used : ℕ) (xs ys : List ℕ) → LinksPut is at (one (passage (halfedge_of h) (halfedge_of k))) used xs ys used xs ys
    put_skip e used xs ys = put_one false (sym (ap (λ (b : Bool). b && get_or at y false) e)) used xs ys used xs ys (pair_none x y used xs ys)

-- ---- the passages of one cycle, by their places
passages_length : (f h : Halfedge) (hs : List Halfedge) → length (passages_from f h hs) ≡ suc (length hs)
passages_length f h [] = refl
passages_length f h (k ∷ ks) = ap suc (passages_length f k ks)

inner_at : (f h : Halfedge) (hs : List Halfedge) (j : ℕ) (z : Halfedge) (d : Passage) → j < length hs
    → get_or (passages_from f h hs) j d ≡ passage (get_or (h ∷ hs) j z) (get_or hs j z)
inner_at f h [] j z d l = absurd (omega arith)
inner_at f h (k ∷ ks) zero z d l = refl
inner_at f h (k ∷ ks) (suc j) z d l = inner_at f k ks j z d (omega arith)

last_at : (f h : Halfedge) (hs : List Halfedge) (j : ℕ) (z : Halfedge) (d : Passage) → j ≡ length hs
    → get_or (passages_from f h hs) j d ≡ passage (get_or (h ∷ hs) j z) f
last_at f h [] zero z d e = refl
last_at f h [] (suc j) z d e = absurd (omega arith)
last_at f h (k ∷ ks) zero z d e = absurd (omega arith)
last_at f h (k ∷ ks) (suc j) z d e = last_at f k ks j z d (omega arith)

cycle_inner : (hs : List Halfedge) (j : ℕ) (z : Halfedge) (d : Passage) → j + 1 < length hs → get_or (passages hs) j d ≡ passage (get_or hs j z) (get_or hs (suc j) z)
cycle_inner [] j z d l = absurd (omega arith)
cycle_inner (h ∷ hs) j z d l = inner_at h h hs j z d (omega arith)

cycle_last : (hs : List Halfedge) (j : ℕ) (z : Halfedge) (d : Passage) → j + 1 ≡ length hs → get_or (passages hs) j d ≡ passage (get_or hs j z) (get_or hs 0 z)
cycle_last [] j z d l = absurd (omega arith)
cycle_last (h ∷ hs) j z d l = last_at h h hs j z d (omega arith)

cycle_length : (hs : List Halfedge) → length (passages hs) ≡ length hs
cycle_length [] = refl
cycle_length (h ∷ hs) = passages_length h h hs

module _ (c : ℕ) (l : List ℕ) (h : c ≤ length l) where
  abbrev steps : List Halfedge
  steps = map halfedge_of (take c l)

  steps_length : length steps ≡ c
  steps_length = length-map (take c l) halfedge_of ∙ length-take-le c l h

  step_at : (j : ℕ) → j < c → get_or steps j (halfedge_of 0) ≡ halfedge_of (get_or l j 0)
  step_at j k = get_or-map halfedge_of (take c l) j 0 ∙ ap halfedge_of (get_or-take c l j 0 k)

  pub path_length : length (passages (map halfedge_of (take c l))) ≡ c
  path_length = cycle_length steps ∙ steps_length

  passage_at : (j : ℕ) (d : Passage) → j < c → get_or (passages steps) j d ≡ passage (halfedge_of (get_or l j 0)) (halfedge_of (next_step l c j))
  passage_at j d k = go (ltb (j + 1) c) refl
    where
      go : (b : Bool) → ltb (j + 1) c ≡ b → get_or (passages steps) j d ≡ passage (halfedge_of (get_or l j 0)) (halfedge_of (cond b (get_or l (j + 1) 0) (get_or l 0 0)))
      go true e =
          let n = ltb-true (j + 1) c e in
          let s = steps_length in
          cycle_inner steps j (halfedge_of 0) d (omega arith)
          ∙ ap₂ passage (step_at j k) (ap (λ (i : ℕ). get_or steps i (halfedge_of 0)) (sym (add-one j)) ∙ step_at (j + 1) n)
      go false e =
          let n = ltb-false (j + 1) c e in
          let s = steps_length in
          cycle_last steps j (halfedge_of 0) d (omega arith) ∙ ap₂ passage (step_at j k) (step_at 0 (omega arith))

  -- one passage more
  pub passages_more : (j : ℕ) → j < c → take (j + 1) (passages (map halfedge_of (take c l))) ≡ take j (passages (map halfedge_of (take c l))) ++ one
      (passage (halfedge_of (get_or l j 0)) (halfedge_of (next_step l c j)))
  passages_more j k =
      let d = passage (halfedge_of 0) (halfedge_of 0) in
      let n = path_length in
      ap (λ (i : ℕ). take i (passages steps)) (add-one j) ∙ take-suc (passages steps) j d (omega arith)
      ∙ ap (λ (t : Passage). take j (passages steps) ++ (t ∷ [])) (passage_at j d k)

  -- the links of one passage more
  pub path_turn : (is : List ℕ) (at : List Bool) (j g : ℕ) → j < c → g ≡ next_step l c j
      → (used : ℕ) (xs ys : List ℕ) (k : ℕ) (xs' ys' : List ℕ) (r : ℕ) (xs'' ys'' : List ℕ)
      → LinksPut is at (take j (passages (map halfedge_of (take c l)))) used xs ys k xs' ys'
      → LinksPut is at (one (passage (halfedge_of (get_or l j 0)) (halfedge_of g))) k xs' ys' r xs'' ys''
      → LinksPut is at (take (j + 1) (passages (map halfedge_of (take c l)))) used xs ys r xs'' ys'' × (r ≤ k + 1)
  path_turn is at j g t e used xs ys k xs' ys' r xs'' ys'' p q =
      let w = subst (λ (i : ℕ). LinksPut is at (one (passage (halfedge_of (get_or l j 0)) (halfedge_of i))) k xs' ys' r xs'' ys'') e q in (
        subst (λ (ts : List Passage). LinksPut is at ts used xs ys r xs'' ys'') (sym (passages_more j t))
            (put_more is at (take j (passages steps)) (one (passage (halfedge_of (get_or l j 0)) (halfedge_of (next_step l c j)))) used xs ys k xs' ys' r xs'' ys'' p
            w),
        put_few is at (one (passage (halfedge_of (get_or l j 0)) (halfedge_of g))) k xs' ys' r xs'' ys'' q,
      )

-- ---- the passages of all cycles
pub cycle_turns : (c : ℕ) (l : List ℕ) → width c ≤ length l → length (passages (steps_of (cycle_of c l))) ≤ width c
cycle_turns zero l h = omega arith
cycle_turns (suc n) l h = let e = path_length (suc n) l h in omega arith

pub turns_more : (ks : List Cycle) (k : Cycle) → turns_of (ks ++ (k ∷ [])) ≡ turns_of ks ++ passages (steps_of k)
turns_more ks k = flat_append (λ (x : Cycle). passages (steps_of x)) ks (k ∷ []) ∙ ap (λ (r : List Passage). turns_of ks ++ r) (append-nil (passages (steps_of k)))

-- the links of one cycle more
pub cycles_turn : (is : List ℕ) (at : List Bool) (ns st : List ℕ) (j from c : ℕ) → j < length ns → from ≡ width_sum (take j ns) → c ≡ get_or ns j 0
    → width c ≤ length (drop from st)
    → (used : ℕ) (xs ys : List ℕ) (k : ℕ) (xs' ys' : List ℕ) (r : ℕ) (xs'' ys'' : List ℕ)
    → LinksPut is at (turns_of (cycles_from (take j ns) st)) used xs ys k xs' ys'
    → LinksPut is at (passages (steps_of (cycle_of c (drop from st)))) k xs' ys' r xs'' ys''
    → LinksPut is at (turns_of (cycles_from (take (j + 1) ns) st)) used xs ys r xs'' ys'' × (r ≤ k + width c)
cycles_turn is at ns st j from c h f e w used xs ys k xs' ys' r xs'' ys'' p q =
    let ks = cycles_from (take j ns) st in
    let x = cycle_of c (drop from st) in
    let n = put_few is at (passages (steps_of x)) k xs' ys' r xs'' ys'' q in
    let m = cycle_turns c (drop from st) w in (
      subst (λ (ts : List Passage). LinksPut is at ts used xs ys r xs'' ys'') (sym (ap turns_of (cycles_more ns j from c st h f e) ∙ turns_more ks x))
          (put_more is at (turns_of ks) (passages (steps_of x)) used xs ys k xs' ys' r xs'' ys'' p q),
      omega arith,
    )
