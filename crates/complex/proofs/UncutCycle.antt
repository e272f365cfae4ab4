-- 0E at an open edge whose two opposite steps are in one cycle: soundness and shift. Assumes nothing.
use Prim.Native.Nat.{ℕ, zero, suc, ◌+◌, ◌-◌, ◌≤◌, ◌<◌}
use native.Mathlib.Omega.{arith}
use mathlib.Core.Path.{◌≡◌, refl, sym, ap, ◌∙◌, subst}
use mathlib.Core.Logic.{◌⊎◌, inl, inr}
use mathlib.Core.Bool.{Bool, true, false, not, ◌&&◌, ◌||◌, cond, beq}
use mathlib.Core.List.{List, [], ◌∷◌, ◌++◌, append_assoc}
use mathlib.Core.Option.{Option, none, some}
use lib.ListN.{length, get_or, take, drop, set, length-append, length-drop, length-set, take-append-drop, get_or-append}
use lib.Seq.{take-suc, take-append-le, get_or-append-add, get_or-drop, get_or-take, length-take-le}
use lib.Dec.{T, eqb, ltb, leb}
use borrow.Author.Tests.{eq-eqb, ne_eqb, eqb-true, eqb-false, leb-true, leb-false, ltb-true, ltb-false}
use Rattle.coordinate.specs.declared.Position.{Position}
use Rattle.complex.specs.Lists.{all, one, rotated, distance}
use Rattle.complex.specs.Cells.{Halfedge, Cycle, lone, path, Figure, vertex, open_edge, closed_edge, face, LiveCell, Sheet, Look, is_vertex, is_open, is_edge}
use Rattle.complex.specs.Cells.{cycles_of, steps_of, tail_of, head_of, cell_at}
use Rattle.complex.specs.Sound.{Walk, ids_end, cycle_ok, ceilings, over}
use Rattle.complex.specs.Edits.{rebuild, replaced, others}
use Rattle.complex.specs.Uses.{Use}
use Rattle.complex.specs.Cut.{no_cycle, no_step, stretch}
use Rattle.complex.specs.Uncut.{opposite, path_or, cycle_of_use, following_to}
use Rattle.complex.proofs.Gains.{gain, loss, Even}
use Rattle.complex.proofs.Bools.{truth, pair, all_append}
use Rattle.complex.proofs.Walks.{walk_split, Round}
use Rattle.complex.proofs.Keep.{Sound}
use Rattle.complex.proofs.Split.{all_get_d, walk_begins}
use Rattle.complex.proofs.Faces.{without_one}
use Rattle.complex.proofs.Every.{Every}
use Rattle.complex.proofs.UncutEdge.{every_from, following_walk, walk_stays, all_but_set}
use Rattle.complex.proofs.UncutFaces.{lookˣ, no_face, vertex_stays, steps_stay, cycle_left, refaced_sound, refaced_over, following_length, path_or_ok}
use Rattle.complex.proofs.UncutFaces.{walk_edges, Placed, round_of, opposite_ends, head_vertex}

-- ---- the steps of a cycle after place a, up to place b
module _ (hs : List Halfedge) (a b : ℕ) (la : a < length hs) (lb : b < length hs) (ne : a ≡ b → ⊥) where
  abbrev F : List Halfedge
  F = drop (suc a) hs ++ take a hs

  abbrev d : ℕ
  d = distance (length hs) (suc a) b

  length_F : length F + 1 ≡ length hs
  length_F = following_length hs a la

  -- either b comes after a in the list, or before it
  where_b : ((a < b) × (d ≡ b - suc a)) ⊎ ((b < a) × (d ≡ length (drop (suc a) hs) + b))
  where_b = go (leb (suc a) b) refl
    where
      go : (x : Bool) → leb (suc a) b ≡ x → ((a < b) × (cond x (b - suc a) (b + length hs - suc a) ≡ b - suc a))
          ⊎ ((b < a) × (cond x (b - suc a) (b + length hs - suc a) ≡ length (drop (suc a) hs) + b))
      go true q = inl (leb-true (suc a) b q, refl)
      go false q =
          let l = leb-false (suc a) b q in
          let y = length-drop (suc a) hs in
          inr (omega arith, omega arith)

  d_lt : d < length F
  d_lt = elim where_b [
    | inl r ↦ let x = r.0 in let y = r.1 in let z = length_F in omega arith
    | inr r ↦ let x = r.0 in let y = r.1 in let z = length_F in let w = length-drop (suc a) hs in omega arith
  ]

  F_at_d : get_or F d no_step ≡ get_or hs b no_step
  F_at_d = elim where_b [
    | inl r ↦
        let l = r.0 in
        let i : b - suc a < length (drop (suc a) hs) = (let w = length-drop (suc a) hs in omega arith) in
        let z : suc a + (b - suc a) ≡ b = omega arith in
        ap (λ (n : ℕ). get_or F n no_step) r.1 ∙ get_or-append (drop (suc a) hs) (take a hs) no_step (b - suc a) i ∙ get_or-drop (suc a) hs (b - suc a) no_step
        ∙ ap (λ (n : ℕ). get_or hs n no_step) z
    | inr r ↦ ap (λ (n : ℕ). get_or F n no_step) r.1 ∙ get_or-append-add (drop (suc a) hs) (take a hs) b no_step ∙ get_or-take a hs b no_step r.0
  ]

  stretch_F : stretch (suc a) b hs ≡ take d F
  stretch_F =
      let z : rotated (suc a) hs ≡ F ++ (get_or hs a no_step ∷ []) = ap (λ (ks : List Halfedge). drop (suc a) hs ++ ks) (take-suc hs a no_step la)
      ∙ sym (append_assoc (drop (suc a) hs) (take a hs) (get_or hs a no_step ∷ [])) in
      ap (take d) z ∙ take-append-le d F (get_or hs a no_step ∷ []) (let l = d_lt in omega arith)

  pub stretch_length : length (stretch (suc a) b hs) ≡ d
  stretch_length = ap length stretch_F ∙ length-take-le d F (let l = d_lt in omega arith)

  stretch_every : (Q : Halfedge → Type 0) → ((j : ℕ) → j < length hs → (j ≡ a → ⊥) → (j ≡ b → ⊥) → Q (get_or hs j no_step)) → Every Q (stretch (suc a) b hs)
  stretch_every Q h = subst (Every Q) (sym stretch_F)
      (every_from Q (take d F) no_step (λ i l. let m : i < d = (let z = length-take-le d F (let w = d_lt in omega arith) in omega arith) in
      subst Q (sym (get_or-take d F i no_step m)) (at i m (ltb i (length (drop (suc a) hs))) refl)))
    where
      at : (i : ℕ) → i < d → (x : Bool) → ltb i (length (drop (suc a) hs)) ≡ x → Q (get_or F i no_step)
      at i m true q =
          let l = ltb-true i (length (drop (suc a) hs)) q in
          let w = length-drop (suc a) hs in
          let notb : suc a + i ≡ b → ⊥ = λ z. elim where_b [ inl r ↦ let x = r.0 in let y = r.1 in omega arith | inr r ↦ let x = r.0 in omega arith ] in
          subst Q (sym (get_or-append (drop (suc a) hs) (take a hs) no_step i l ∙ get_or-drop (suc a) hs i no_step))
          (h (suc a + i) (omega arith) (λ z. omega arith) notb)
      at i m false q =
          let l = ltb-false i (length (drop (suc a) hs)) q in
          let w = length-drop (suc a) hs in
          let k = i - length (drop (suc a) hs) in
          let z : i ≡ length (drop (suc a) hs) + k = omega arith in
          let r : (b < a) × (d ≡ length (drop (suc a) hs) + b) = elim where_b [ inl r ↦ absurd (let x = r.0 in let y = r.1 in omega arith) | inr r ↦ r ] in
          let x = r.0 in
          let y = r.1 in
          let u : k < a = omega arith in
          let v : k < b = omega arith in
          subst Q (sym (ap (λ (n : ℕ). get_or F n no_step) z ∙ get_or-append-add (drop (suc a) hs) (take a hs) k no_step ∙ get_or-take a hs k no_step u))
          (h k (omega arith) (λ e. omega arith) (λ e. omega arith))

  stretch_walk : (look : Look) (h k : Halfedge) → get_or hs a no_step ≡ h → get_or hs b no_step ≡ k → Round look hs
      → Walk look (head_of look h) (stretch (suc a) b hs) (tail_of look k)
  stretch_walk look h k p q r =
      let w = following_walk look hs a h la p r in
      let x : Walk look (head_of look h) (take d F ++ drop d F) (tail_of look h) = subst (λ (ks : List Halfedge). Walk look (head_of look h) ks (tail_of look h))
      (sym (take-append-drop d F)) w.1 in
      let m = walk_split look (head_of look h) (take d F) (drop d F) (tail_of look h) x in
      let e : m.0 ≡ tail_of look k = walk_begins look m.0 F (tail_of look h) d no_step d_lt m.2 ∙ ap (tail_of look) (F_at_d ∙ q) in
      subst (λ (ks : List Halfedge). Walk look (head_of look h) ks (tail_of look k)) (sym stretch_F)
      (subst (λ (v : ℕ). Walk look (head_of look h) (take d F) v) e m.1)

-- the two stretches between two places are all the steps but the two
pub stretches_length : (hs : List Halfedge) (a b : ℕ) → a < length hs → b < length hs → (a ≡ b → ⊥)
    → length (stretch (suc a) b hs) + length (stretch (suc b) a hs) + 2 ≡ length hs
stretches_length hs a b la lb ne =
    let x = stretch_length hs a b la lb ne in
    let y = stretch_length hs b a lb la (λ z. ne (sym z)) in
    let m = length-drop (suc a) hs in
    let n = length-drop (suc b) hs in
    elim (where_b hs a b la lb ne) [
      | inl p ↦ let p0 = p.0 in let p1 = p.1 in elim
          (where_b hs b a lb la (λ z. ne (sym z))) [ inl q ↦ absurd (let q0 = q.0 in omega arith) | inr q ↦ let q1 = q.1 in omega arith ]
      | inr p ↦ let p0 = p.0 in let p1 = p.1 in elim (where_b hs b a lb la (λ z. ne (sym z))) [
        | inl q ↦ let q1 = q.1 in
            omega arith
        | inr q ↦ absurd (let q0 = q.0 in omega arith)
      ]
    ]

-- ---- the two uses in one cycle
-- no step of e is another use
abbrev pub Only : Sheet → ℕ → Use → Use → Type 0
Only s e u w =
    (f : ℕ) (ks : List Cycle) → cell_at s f ≡ some (face ks) → (c : ℕ) → c < length ks → (j : ℕ) → j < length (steps_of (get_or ks c no_cycle))
    → (get_or (steps_of (get_or ks c no_cycle)) j no_step).edge ≡ e
    → (◌≡◌ {A = Use} (record { face = f; cycle = c; step = j; halfedge = get_or (steps_of (get_or ks c no_cycle)) j no_step }) u)
    ⊎ (◌≡◌ {A = Use} (record { face = f; cycle = c; step = j; halfedge = get_or (steps_of (get_or ks c no_cycle)) j no_step }) w)

module _ (s : Sheet) (S : Sound s) (e : ℕ) (E : T (is_edge (cell_at s e))) (o : T (is_open (cell_at s e))) (u w : Use) (ru : Placed (cell_at s) e u)
    (rw' : Placed (cell_at s) e w) (L : Only s e u w)
    (opp : T (opposite u w)) (ef : u.face ≡ w.face) (ec : u.cycle ≡ w.cycle) where
  abbrev ks : List Cycle
  ks = cycles_of (cell_at s u.face)

  abbrev hs : List Halfedge
  hs = cycle_of_use (cell_at s) u

  same_cycle : cycle_of_use (cell_at s) w ≡ hs
  same_cycle = λ i. steps_of (get_or (cycles_of (cell_at s (sym ef i))) (sym ec i) no_cycle)

  pub w_lt : w.step < length hs
  w_lt = subst (λ (l : List Halfedge). w.step < length l) same_cycle rw'.2

  w_at : get_or hs w.step no_step ≡ w.halfedge
  w_at = subst (λ (l : List Halfedge). get_or l w.step no_step ≡ w.halfedge) same_cycle rw'.3

  pub distinct : u.step ≡ w.step → ⊥
  distinct z =
      let q : u.halfedge ≡ w.halfedge = sym ru.3 ∙ ap (λ (n : ℕ). get_or hs n no_step) z ∙ w_at in
      go u.halfedge.backward w.halfedge.backward (ap (λ (h : Halfedge). h.backward) q) opp
    where
      go : (x y : Bool) → x ≡ y → T (not (beq x y)) → ⊥
      go true true q t = t
      go true false q t = mathlib.Core.Bool.true≢false q
      go false true q t = mathlib.Core.Bool.false≢true q
      go false false q t = t

  abbrev X : List Halfedge
  X = following_to (cell_at s) u w

  abbrev Y : List Halfedge
  Y = following_to (cell_at s) w u

  abbrev ks' : List Cycle
  ks' = set ks u.cycle (path_or (head_of (cell_at s) u.halfedge) X) ++ one (path_or (head_of (cell_at s) w.halfedge) Y)

  keeps : (x : ℕ) → (x ≡ e → ⊥) → (T (is_vertex (cell_at s x)) ⊎ T (is_edge (cell_at s x))) → T (others e x)
  keeps x n k = rw (ne_eqb e x (λ z. n (sym z))) tt

  abbrev look₁ : Look
  look₁ = lookˣ s S e E (others e) u.face ks ru.0 ks' keeps

  not_e : (j : ℕ) → j < length hs → (j ≡ u.step → ⊥) → (j ≡ w.step → ⊥) → (get_or hs j no_step).edge ≡ e → ⊥
  not_e j l a b z = elim (L u.face ks ru.0 u.cycle ru.1 j l z) [ inl x ↦ a (ap (λ (y : Use). y.step) x) | inr x ↦ b (ap (λ (y : Use). y.step) x) ]

  round : Round (cell_at s) hs
  round = round_of s S e o u ru

  ends : (tail_of (cell_at s) u.halfedge ≡ head_of (cell_at s) w.halfedge) × (tail_of (cell_at s) w.halfedge ≡ head_of (cell_at s) u.halfedge)
  ends = opposite_ends (cell_at s) u w (ru.4 ∙ sym rw'.4) opp

  piece : (v : ℕ) (gs : List Halfedge) → Walk (cell_at s) v gs v → Every (λ (h : Halfedge). h.edge ≡ e → ⊥) gs → Walk look₁ v gs v
  piece v gs k a = walk_stays (cell_at s) look₁ v gs v (steps_stay s S e E (others e) u.face ks ru.0 ks' keeps gs (walk_edges s S v gs v k) a) k

  X_ok : T (cycle_ok look₁ (path_or (head_of (cell_at s) u.halfedge) X))
  X_ok =
      let v = head_of (cell_at s) u.halfedge in
      let k = stretch_walk hs u.step w.step ru.2 w_lt distinct (cell_at s) u.halfedge w.halfedge ru.3 w_at round in
      path_or_ok look₁ v X (vertex_stays s S e E (others e) u.face ks ru.0 ks' keeps v
      (head_vertex s S u.halfedge (subst (λ (i : ℕ). T (is_open (cell_at s i))) (sym ru.4) o)))
      (piece v X (subst (λ (x : ℕ). Walk (cell_at s) v X x) ends.1 k)
      (stretch_every hs u.step w.step ru.2 w_lt distinct (λ (h : Halfedge). h.edge ≡ e → ⊥) (λ j l a b. not_e j l a b)))

  pub Y_is : Y ≡ stretch (suc w.step) u.step hs
  Y_is = ap (stretch (suc w.step) u.step) same_cycle

  Y_ok : T (cycle_ok look₁ (path_or (head_of (cell_at s) w.halfedge) Y))
  Y_ok =
      let v = head_of (cell_at s) w.halfedge in
      let Z = stretch (suc w.step) u.step hs in
      let k = stretch_walk hs w.step u.step w_lt ru.2 (λ z. distinct (sym z)) (cell_at s) w.halfedge u.halfedge w_at ru.3 round in
      subst (λ (l : List Halfedge). T (cycle_ok look₁ (path_or v l))) (sym Y_is)
      (path_or_ok look₁ v Z (vertex_stays s S e E (others e) u.face ks ru.0 ks' keeps v
      (head_vertex s S w.halfedge (subst (λ (i : ℕ). T (is_open (cell_at s i))) (sym rw'.4) o)))
      (piece v Z (subst (λ (x : ℕ). Walk (cell_at s) v Z x) ends.0 k)
      (stretch_every hs w.step u.step w_lt ru.2 (λ z. distinct (sym z)) (λ (h : Halfedge). h.edge ≡ e → ⊥) (λ j l a b. not_e j l b a))))

  avoid : (f : ℕ) (ls : List Cycle) → cell_at s f ≡ some (face ls) → (c : ℕ) → c < length ls → ((f ≡ u.face) → (c ≡ u.cycle) → ⊥)
      → Every (λ (h : Halfedge). h.edge ≡ e → ⊥) (steps_of (get_or ls c no_cycle))
  avoid f ls q c l n = every_from (λ (h : Halfedge). h.edge ≡ e → ⊥) (steps_of (get_or ls c no_cycle)) no_step (λ j m z. elim (L f ls q c l j m z) [
    | inl x ↦ n (ap (λ (y : Use). y.face) x) (ap (λ (y : Use). y.cycle) x)
    | inr x ↦ n (ap (λ (y : Use). y.face) x ∙ sym ef) (ap (λ (y : Use). y.cycle) x ∙ sym ec)
  ])

  pub one_cycle_sound : T (leb (rebuild (others e) (replaced u.face (face ks')) [] s).next ids_end)
      → T (ceilings (rebuild (others e) (replaced u.face (face ks')) [] s).cells) → Sound (rebuild (others e) (replaced u.face (face ks')) [] s)
  one_cycle_sound seven eight =
      refaced_sound s S e E (others e) u.face ks ru.0 ks' keeps seven eight (λ j ls k n q c l. avoid j ls q c l (λ z y. n z))
      (all_append (cycle_ok look₁) (set ks u.cycle (path_or (head_of (cell_at s) u.halfedge) X)) (one (path_or (head_of (cell_at s) w.halfedge) Y))
      (all_but_set (cycle_ok look₁) ks u.cycle (path_or (head_of (cell_at s) u.halfedge) X) no_cycle
      (λ m l n. cycle_left s S e E (others e) u.face ks ru.0 ks' keeps (get_or ks m no_cycle)
      (all_get_d (cycle_ok (cell_at s)) ks m no_cycle (S.figures u.face (face ks) ru.0) l) (avoid u.face ks ru.0 m l (λ z y. n y))) X_ok)
      (pair (cycle_ok look₁ (path_or (head_of (cell_at s) w.halfedge) Y)) true Y_ok tt))

  pub one_less : (g : Figure → ℕ) (t : Figure) → cell_at s e ≡ some t
      → over g (rebuild (others e) (replaced u.face (face ks')) [] s).cells + g (face ks) + g t ≡ over g s.cells + g (face ks')
  one_less g t q =
      let k : T (others e u.face) = rw (ne_eqb e u.face (λ z. no_face s S e E (others e) u.face ks ru.0 ks keeps e (inr E) (sym z))) tt in
      let x = refaced_over s S e E (others e) u.face ks ru.0 ks' keeps g k in
      let m = without_one e t s S q g in
      omega arith

  pub more_cycles_lem : length ks' ≡ length ks + 1
  more_cycles_lem = length-append (set ks u.cycle (path_or (head_of (cell_at s) u.halfedge) X)) (one (path_or (head_of (cell_at s) w.halfedge) Y))
      ∙ ap (λ (n : ℕ). n + 1) (length-set ks u.cycle (path_or (head_of (cell_at s) u.halfedge) X))

  pub one_cycle_over : (a b : ℕ) (bs : List Position) → cell_at s e ≡ some (open_edge a b bs) → Even s (rebuild (others e) (replaced u.face (face ks')) [] s)
  one_cycle_over a b bs q = let x = one_less gain (open_edge a b bs) q in let y = one_less loss (open_edge a b bs) q in let l = more_cycles_lem in omega arith
