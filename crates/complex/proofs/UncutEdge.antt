-- 0E at an edge: where its two steps stand, and that the cycles left behind are joined. Assumes nothing.
use Prim.Native.Nat.{ℕ, zero, suc, ◌+◌, ◌-◌, ◌≤◌, ◌<◌}
use native.Mathlib.Omega.{arith}
use mathlib.Core.Path.{◌≡◌, refl, sym, ap, ◌∙◌, subst}
use mathlib.Core.Logic.{◌⊎◌, inl, inr}
use mathlib.Core.Bool.{Bool, true, false, not, ◌&&◌, ◌||◌, cond, beq}
use mathlib.Core.List.{List, [], ◌∷◌, ◌++◌, map, append_assoc}
use mathlib.Core.Option.{Option, none, some}
use lib.ListN.{length, get_or, take, drop, set, length-append, length-drop, length-set}
use lib.Seq.{drop-cons, split_at, take-suc, take-append-le, get_or-set_same, get_or-set_other}
use lib.Dec.{T, eqb, leb, eqb→eq, eqb_refl, ltb→lt}
use borrow.Author.Tests.{ne_eqb, eqb-true, eqb-false}
use Rattle.number.specs.Readers.{spread}
use Rattle.coordinate.specs.declared.Position.{Position}
use Rattle.coordinate.specs.Bounds.{within}
use Rattle.complex.specs.Lists.{all, any, filter, cons_if, holds, rising, one, without}
use Rattle.complex.specs.Cells.{Halfedge, Cycle, lone, path, Figure, vertex, open_edge, closed_edge, face, LiveCell, Sheet, Look, some_if, lookup, ids}
use Rattle.complex.specs.Cells.{is_vertex, is_open, is_closed, start_of, end_of, cycles_of, steps_of, same, tail_of, head_of, flipped, cell_at}
use Rattle.complex.specs.Sound.{Walk, ids_end, cycle_ok, figure_ok, ceilings, joins}
use Rattle.complex.specs.Edits.{rebuild, replaced}
use Rattle.complex.specs.Uses.{Use, step_uses, cycle_uses, uses_of}
use Rattle.complex.specs.Cut.{no_cycle, no_step}
use Rattle.complex.specs.Uncut.{path_or}
use Rattle.complex.proofs.Bools.{truth, true_of, pair, equal}
use Rattle.complex.proofs.Lookup.{every_cell}
use Rattle.complex.proofs.Walks.{walk_append, walk_split, Round, Ring, Some, joins_cases, round_joins, ring_joins}
use Rattle.complex.proofs.Keep.{Sound}
use Rattle.complex.proofs.Every.{Every, every_left, every_right, every_both}
pub use Rattle.complex.proofs.Every.{every_more}

-- ---- every element
module _ {A : Type 0} (Q : A → Type 0) where
  pub every_from : (xs : List A) (d : A) → ((n : ℕ) → n < length xs → Q (get_or xs n d)) → Every Q xs
  every_from [] d h = tt
  every_from (x ∷ xs) d h = (h 0 (omega arith), every_from xs d (λ n l. h (suc n) (omega arith)))

-- ---- each listed use is one, and each use is listed
module _ (e f k : ℕ) where
  abbrev Step : ℕ → List Halfedge → Use → Type 0
  Step n hs x = (x.face ≡ f) × (x.cycle ≡ k) × (n ≤ x.step) × (x.step - n < length hs) × (get_or hs (x.step - n) no_step ≡ x.halfedge)
      × (x.halfedge.edge ≡ e)

  step_real : (n : ℕ) (hs : List Halfedge) → Every (Step n hs) (step_uses e f k n hs)
  step_real n [] = tt
  step_real n (h ∷ hs) = go (eqb e h.edge) refl (every_more (Step (suc n) hs) (Step n (h ∷ hs)) later (step_uses e f k (suc n) hs) (step_real (suc n) hs))
    where
      later : (x : Use) → Step (suc n) hs x → Step n (h ∷ hs) x
      later x r =
          let l = r.2 in
          let m = r.3 in
          let z : x.step - n ≡ suc (x.step - suc n) = omega arith in
          (r.0, r.1, omega arith, omega arith, ap (λ (j : ℕ). get_or (h ∷ hs) j no_step) z ∙ r.4, r.5)

      go : (b : Bool) → eqb e h.edge ≡ b → Every (Step n (h ∷ hs)) (step_uses e f k (suc n) hs)
          → Every (Step n (h ∷ hs)) (cons_if b (record { face = f; cycle = k; step = n; halfedge = h }) (step_uses e f k (suc n) hs))
      go true q r =
          let z : n - n ≡ 0 = omega arith in
          ((refl, refl, omega arith, omega arith, ap (λ (j : ℕ). get_or (h ∷ hs) j no_step) z, sym (eqb-true e h.edge q)), r)
      go false q r = r

  step_listed : (Q : Use → Type 0) (n : ℕ) (hs : List Halfedge) → Every Q (step_uses e f k n hs) → (j : ℕ) → j < length hs → (get_or hs j no_step).edge ≡ e
      → Q (record { face = f; cycle = k; step = n + j; halfedge = get_or hs j no_step })
  step_listed Q n [] a j l z = absurd (omega arith)
  step_listed Q n (h ∷ hs) a zero l z = subst (λ (m : ℕ). Q (record { face = f; cycle = k; step = m; halfedge = h })) (omega arith)
      (go (eqb e h.edge) refl a)
    where
      go : (b : Bool) → eqb e h.edge ≡ b → Every Q (cons_if b (record { face = f; cycle = k; step = n; halfedge = h }) (step_uses e f k (suc n) hs))
          → Q (record { face = f; cycle = k; step = n; halfedge = h })
      go true q r = r.0
      go false q r = absurd (eqb-false e h.edge q (sym z))
  step_listed Q n (h ∷ hs) a (suc j) l z = subst (λ (m : ℕ). Q (record { face = f; cycle = k; step = m; halfedge = get_or hs j no_step })) (omega arith)
      (step_listed Q (suc n) hs (go (eqb e h.edge) a) j (omega arith) z)
    where
      go : (b : Bool) → Every Q (cons_if b (record { face = f; cycle = k; step = n; halfedge = h }) (step_uses e f k (suc n) hs))
          → Every Q (step_uses e f k (suc n) hs)
      go true r = r.1
      go false r = r

module _ (e f : ℕ) where
  abbrev InCycles : ℕ → List Cycle → Use → Type 0
  InCycles n ks x = (x.face ≡ f) × (n ≤ x.cycle) × (x.cycle - n < length ks) × (x.step < length (steps_of (get_or ks (x.cycle - n) no_cycle)))
      × (get_or (steps_of (get_or ks (x.cycle - n) no_cycle)) x.step no_step ≡ x.halfedge) × (x.halfedge.edge ≡ e)

  cycle_real : (n : ℕ) (ks : List Cycle) → Every (InCycles n ks) (cycle_uses e f n ks)
  cycle_real n [] = tt
  cycle_real n (k ∷ ks) =
      every_both (InCycles n (k ∷ ks)) (step_uses e f n 0 (steps_of k)) (cycle_uses e f (suc n) ks)
      (every_more (Step e f n 0 (steps_of k)) (InCycles n (k ∷ ks)) here (step_uses e f n 0 (steps_of k)) (step_real e f n 0 (steps_of k)))
      (every_more (InCycles (suc n) ks) (InCycles n (k ∷ ks)) later (cycle_uses e f (suc n) ks) (cycle_real (suc n) ks))
    where
      here : (x : Use) → Step e f n 0 (steps_of k) x → InCycles n (k ∷ ks) x
      here x r =
          let c = r.1 in
          let m = r.3 in
          let z : x.cycle - n ≡ 0 = omega arith in
          let y : x.step - 0 ≡ x.step = omega arith in
          let g : get_or (k ∷ ks) (x.cycle - n) no_cycle ≡ k = ap (λ (j : ℕ). get_or (k ∷ ks) j no_cycle) z in
          (r.0, omega arith, omega arith, rw g (omega arith), rw (g, ← y) r.4, r.5)

      later : (x : Use) → InCycles (suc n) ks x → InCycles n (k ∷ ks) x
      later x r =
          let a = r.1 in
          let b = r.2 in
          let z : x.cycle - n ≡ suc (x.cycle - suc n) = omega arith in
          let g : get_or (k ∷ ks) (x.cycle - n) no_cycle ≡ get_or ks (x.cycle - suc n) no_cycle = ap (λ (j : ℕ). get_or (k ∷ ks) j no_cycle) z in
          (r.0, omega arith, omega arith, rw g r.3, rw g r.4, r.5)

  cycle_listed : (Q : Use → Type 0) (n : ℕ) (ks : List Cycle) → Every Q (cycle_uses e f n ks) → (c : ℕ) → c < length ks → (j : ℕ)
      → j < length (steps_of (get_or ks c no_cycle)) → (get_or (steps_of (get_or ks c no_cycle)) j no_step).edge ≡ e
      → Q (record { face = f; cycle = n + c; step = j; halfedge = get_or (steps_of (get_or ks c no_cycle)) j no_step })
  cycle_listed Q n [] a c l j m z = absurd (omega arith)
  cycle_listed Q n (k ∷ ks) a zero l j m z =
      let r = step_listed e f n Q 0 (steps_of k) (every_left Q (step_uses e f n 0 (steps_of k)) (cycle_uses e f (suc n) ks) a) j m z in
      let y : n ≡ n + 0 = omega arith in
      let x : 0 + j ≡ j = omega arith in
      subst (λ (i : ℕ). Q (record { face = f; cycle = i; step = j; halfedge = get_or (steps_of k) j no_step })) y
      (subst (λ (i : ℕ). Q (record { face = f; cycle = n; step = i; halfedge = get_or (steps_of k) j no_step })) x r)
  cycle_listed Q n (k ∷ ks) a (suc c) l j m z =
      let y : suc n + c ≡ n + suc c = omega arith in
      subst (λ (i : ℕ). Q (record { face = f; cycle = i; step = j; halfedge = get_or (steps_of (get_or ks c no_cycle)) j no_step })) y
      (cycle_listed Q (suc n) ks (every_right Q (step_uses e f n 0 (steps_of k)) (cycle_uses e f (suc n) ks) a) c (omega arith) j m z)

-- a use, in a drawing
abbrev pub Real : Look → ℕ → Use → Type 0
Real look e x = (ks : List Cycle) × (look x.face ≡ some (face ks)) × (x.cycle < length ks) × (x.step < length (steps_of (get_or ks x.cycle no_cycle)))
    × (get_or (steps_of (get_or ks x.cycle no_cycle)) x.step no_step ≡ x.halfedge) × (x.halfedge.edge ≡ e)

pub own_cells : (look : Look) (lo : ℕ) (cs : List LiveCell) (hi : ℕ) → T (rising lo (ids cs) hi)
    → ((i : ℕ) (t : Figure) → lookup cs i ≡ some t → look i ≡ some t) → Every (λ (c : LiveCell). look c.id ≡ some c.figure) cs
own_cells look lo cs hi r h = every_cell (λ (c : LiveCell). look c.id ≡ some c.figure) lo cs hi r (λ c e. h c.id c.figure e)

pub uses_real : (look : Look) (e : ℕ) (cs : List LiveCell) → Every (λ (c : LiveCell). look c.id ≡ some c.figure) cs → Every (Real look e) (uses_of cs e)
uses_real look e [] h = tt
uses_real look e (c ∷ cs) h = every_both (Real look e) (cycle_uses e c.id 0 (cycles_of (some c.figure))) (uses_of cs e) (go c.figure h.0)
    (uses_real look e cs h.1)
  where
    go : (t : Figure) → look c.id ≡ some t → Every (Real look e) (cycle_uses e c.id 0 (cycles_of (some t)))
    go (vertex p) q = tt
    go (open_edge a b bs) q = tt
    go (closed_edge bs) q = tt
    go (face ks) q = every_more (InCycles e c.id 0 ks) (Real look e) real (cycle_uses e c.id 0 ks) (cycle_real e c.id 0 ks)
      where
        real : (x : Use) → InCycles e c.id 0 ks x → Real look e x
        real x r =
            let z : x.cycle - 0 ≡ x.cycle = omega arith in (
              ks,
              ap look r.0 ∙ q,
              subst (λ (n : ℕ). n < length ks) z r.2,
              subst (λ (n : ℕ). x.step
                  < length (steps_of (get_or ks n no_cycle))) z r.3,
              subst (λ (n : ℕ). get_or (steps_of (get_or ks n no_cycle)) x.step no_step ≡ x.halfedge) z
                  r.4,
              r.5,
            )

pub use_listed : (Q : Use → Type 0) (e : ℕ) (cs : List LiveCell) → Every Q (uses_of cs e) → (f : ℕ) (ks : List Cycle) → lookup cs f ≡ some (face ks) → (c : ℕ)
    → c < length ks → (j : ℕ) → j < length (steps_of (get_or ks c no_cycle))
    → (get_or (steps_of (get_or ks c no_cycle)) j no_step).edge
    ≡ e → Q (record { face = f; cycle = c; step = j; halfedge = get_or (steps_of (get_or ks c no_cycle)) j no_step })
use_listed Q e [] a f ks q c l j m z = absurd (let y : ◌≡◌ {A = ℕ} 0 1 = cc in omega arith)
use_listed Q e (d ∷ cs) a f ks q c l j m z =
    go (eqb d.id f) refl q (λ r. use_listed Q e cs (every_right Q (cycle_uses e d.id 0 (cycles_of (some d.figure))) (uses_of cs e) a) f ks r c l j m z)
  where
    go : (y : Bool) → eqb d.id f ≡ y → some_if y d.figure (lookup cs f) ≡ some (face ks)
        → (lookup cs f ≡ some (face ks) → Q (record { face = f; cycle = c; step = j; halfedge = get_or (steps_of (get_or ks c no_cycle)) j no_step }))
        → Q (record { face = f; cycle = c; step = j; halfedge = get_or (steps_of (get_or ks c no_cycle)) j no_step })
    go true i q r =
        let w : d.figure ≡ face ks = cc in
        let b = every_left Q (cycle_uses e d.id 0 (cycles_of (some d.figure))) (uses_of cs e) a in
        let b' : Every Q (cycle_uses e d.id 0 ks) = subst (λ (t : Figure). Every Q (cycle_uses e d.id 0 (cycles_of (some t)))) w b in
        let u = cycle_listed e d.id Q 0 ks b' c l j m z in
        let o : 0 + c ≡ c = omega arith in
        subst (λ (n : ℕ). Q (record { face = n; cycle = c; step = j; halfedge = get_or (steps_of (get_or ks c no_cycle)) j no_step })) (eqb-true d.id f i)
        (subst (λ (n : ℕ). Q (record { face = d.id; cycle = n; step = j; halfedge = get_or (steps_of (get_or ks c no_cycle)) j no_step })) o u)
    go false i q r = r q

-- ---- what follows a step in its cycle leads from the step's head to its tail
pub following_walk : (look : Look) (hs : List Halfedge) (n : ℕ) (h : Halfedge) → n < length hs → get_or hs n no_step ≡ h → Round look hs
    → T (is_open (look h.edge)) × Walk look (head_of look h) (drop (suc n) hs ++ take n hs) (tail_of look h)
following_walk look hs n h l e k =
    let w : Walk look k.0 (take n hs ++ h ∷ drop (suc n) hs) k.0 = subst (λ (ks : List Halfedge). Walk look k.0 ks k.0)
    (split_at hs n no_step l ∙ ap (λ (x : Halfedge). take n hs ++ x ∷ drop (suc n) hs) e) k.1 in
    let m = walk_split look k.0 (take n hs) (h ∷ drop (suc n) hs) k.0 w in
    let r = m.2 in (
      r.0,
      walk_append look (head_of look h) (drop (suc n) hs) k.0 (take n hs) (tail_of look h) r.2 (subst (λ (u : ℕ). Walk look k.0 (take n hs) u)
          r.1 m.1),
    )

-- ---- halfedges whose edges stay as they are
module _ (look look' : Look) where
  abbrev Stays : Halfedge → Type 0
  Stays h = look' h.edge ≡ look h.edge

  pub walk_stays : (u : ℕ) (hs : List Halfedge) (w : ℕ) → Every Stays hs → Walk look u hs w → Walk look' u hs w
  walk_stays u [] w a k = k
  walk_stays u (h ∷ hs) w a k = (
    subst (λ (o : Option Figure). T (is_open o)) (sym a.0) k.0,
    k.1 ∙ ap (λ (o : Option Figure). cond h.backward (end_of o) (start_of o)) (sym a.0),
    subst (λ (v : ℕ). Walk look' v hs w) (ap (λ (o : Option Figure). cond h.backward (start_of o) (end_of o)) (sym a.0))
        (walk_stays (head_of look h) hs w a.1 k.2),
  )

  pub joins_stay : (hs : List Halfedge) → Every Stays hs → T (joins look hs) → T (joins look' hs)
  joins_stay [] a t = t
  joins_stay (h ∷ hs) a t = elim (joins_cases look (h ∷ hs) t) [
    | inl w ↦ round_joins look' (h ∷ hs) tt (w.1.0, walk_stays w.1.0 (h ∷ hs) w.1.0 a w.1.1)
    | inr g ↦ ring_joins look' (h ∷ hs) (subst (λ (o : Option Figure). T (is_closed o)) (sym a.0) g.0, g.1)
  ]

-- ---- all but one
module _ {A : Type 0} (p : A → Bool) where
  pub all_but_set : (xs : List A) (n : ℕ) (y d : A) → ((m : ℕ) → m < length xs → (m ≡ n → ⊥) → T (p (get_or xs m d))) → T (p y) → T (all p (set xs n y))
  all_but_set [] n y d h t = tt
  all_but_set (x ∷ xs) zero y d h t = pair (p y) (all p xs) t (rest xs (λ m l. h (suc m) (omega arith) (λ z. omega arith)))
    where
      rest : (zs : List A) → ((m : ℕ) → m < length zs → T (p (get_or zs m d))) → T (all p zs)
      rest [] k = tt
      rest (z ∷ zs) k = pair (p z) (all p zs) (k 0 (omega arith)) (rest zs (λ m l. k (suc m) (omega arith)))
  all_but_set (x ∷ xs) (suc n) y d h t = pair (p x) (all p (set xs n y)) (h 0 (omega arith) (λ z. omega arith))
      (all_but_set xs n y d (λ m l z. h (suc m) (omega arith) (λ w. z (omega arith))) t)

  pub all_but_without : (c : ℕ) (n : ℕ) (xs : List A) (d : A) → ((m : ℕ) → m < length xs → (n + m ≡ c → ⊥) → T (p (get_or xs m d)))
      → T (all p (without (one c) n xs))
  all_but_without c n [] d h = tt
  all_but_without c n (x ∷ xs) d h = go (eqb n c) refl (all_but_without c (suc n) xs d (λ m l z. h (suc m) (omega arith) (λ w. z (omega arith))))
    where
      go : (b : Bool) → eqb n c ≡ b → T (all p (without (one c) (suc n) xs)) → T (all p (cons_if (not (b || false)) x (without (one c) (suc n) xs)))
      go true q r = r
      go false q r = pair (p x) (all p (without (one c) (suc n) xs)) (h 0 (omega arith) (λ z. eqb-false n c q (let w : n ≡ c = omega arith in w))) r
