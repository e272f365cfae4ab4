-- The sizes of a command's result before it is built: from sums to sizes, and the kinds 01 to 08. Assumes nothing.
use Prim.Native.Nat.{ℕ, ◌+◌, ◌-◌, ◌≤◌}
use native.Mathlib.Omega.{arith}
use mathlib.Core.Path.{◌≡◌, refl, ap}
use mathlib.Core.Bool.{Bool, not}
use mathlib.Core.List.{List, [], ◌∷◌}
use mathlib.Core.Option.{Option, none, some}
use lib.ListN.{length, length-append}
use lib.Dec.{T, eqb, leb, leb→le, le→leb}
use Rattle.number.specs.Readers.{spread}
use Rattle.coordinate.specs.declared.Position.{Position}
use Rattle.complex.specs.Lists.{total, one}
use Rattle.complex.specs.Cells.{Halfedge, Cycle, lone, path, Figure, vertex, open_edge, closed_edge, face, LiveCell, Sheet, is_vertex, is_edge, cycles_of, steps_of}
use Rattle.complex.specs.Cells.{cell_at}
use Rattle.complex.specs.Sound.{cells_most, cycles_most, steps_most, bends_most, step_count, cycles_in, steps_in, bends_in, over, ceilings}
use Rattle.complex.specs.Decode.{Command, create, move, delete, glue_vertices, glue_edges}
use Rattle.complex.specs.Edits.{keep_ids, rebuild, as_it_is, rewired_cycle, rewired, same_vertex, others, in_place_of}
use Rattle.complex.specs.Delete.{moved, goes, deleted}
use Rattle.complex.specs.Glue.{renamed, glued_vertices, glued_edges}
use Rattle.complex.specs.Commands.{question3, question4, question5, question6, result}
use Rattle.answer.specs.Sizes.{SheetSizes, sized, sizes_of, sizes_fit, Change, changed_by, cell_bends, change_of, sizes_after}
use Rattle.complex.proofs.Bools.{both, pair}
use Rattle.complex.proofs.Keep.{Sound}
use Rattle.complex.proofs.Sums.{total_zero, total_ones, total_by}
use Rattle.complex.proofs.Euler.{over_reshaped, over_keep, over_rebuild, over_kept, over_added, over_changed}
use Rattle.complex.proofs.Faces.{Without, without_one, vertex_at}
use Rattle.complex.proofs.RenumberSound.{cycles_rewired, bends_rewired}

-- it was asked 3 to 6
abbrev pub Asked6 : Sheet → Command → Type 0
Asked6 s c = T (question3 c) × T (question4 s c) × T (question5 s c) × T (question6 s c)

-- ---- from sums to sizes
abbrev pub each : Figure → ℕ
each t = 1

-- the four sums of t are those of s, with more and less
pub record Shifts (s t : Sheet) (d : Change) : Type 0 where
  pub cells : over each t.cells + d.less.cells ≡ over each s.cells + d.more.cells
  pub cycles : over cycles_in t.cells + d.less.cycles ≡ over cycles_in s.cells + d.more.cycles
  pub steps : over steps_in t.cells + d.less.steps ≡ over steps_in s.cells + d.more.steps
  pub bends : over bends_in t.cells + d.less.bends ≡ over bends_in s.cells + d.more.bends

pub shifts_sizes : (s t : Sheet) (d : Change) → Shifts s t d → sizes_of t.cells ≡ changed_by (sizes_of s.cells) d
shifts_sizes s t d h =
    let a = total_ones s.cells in
    let b = total_ones t.cells in
    let p : length t.cells ≡ length s.cells + d.more.cells - d.less.cells = omega arith in
    let q : over cycles_in t.cells ≡ over cycles_in s.cells + d.more.cycles - d.less.cycles = omega arith in
    let r : over steps_in t.cells ≡ over steps_in s.cells + d.more.steps - d.less.steps = omega arith in
    let u : over bends_in t.cells ≡ over bends_in s.cells + d.more.bends - d.less.bends = omega arith in
    λ i. sized (p i) (q i) (r i) (u i)

-- where one equation holds of every sum: what it takes and gives comes to more and less
pub record Comes (lo hi : (Figure → ℕ) → ℕ) (d : Change) : Type 0 where
  pub cells : lo each + d.more.cells ≡ hi each + d.less.cells
  pub cycles : lo cycles_in + d.more.cycles ≡ hi cycles_in + d.less.cycles
  pub steps : lo steps_in + d.more.steps ≡ hi steps_in + d.less.steps
  pub bends : lo bends_in + d.more.bends ≡ hi bends_in + d.less.bends

pub sums_sizes : (s t : Sheet) (d : Change) (lo hi : (Figure → ℕ) → ℕ) → ((g : Figure → ℕ) → over g t.cells + lo g ≡ over g s.cells + hi g)
    → Comes lo hi d → sizes_of t.cells ≡ changed_by (sizes_of s.cells) d
sums_sizes s t d lo hi h c =
    let a = h each in
    let b = h cycles_in in
    let e = h steps_in in
    let f = h bends_in in
    shifts_sizes s t d (omega arith)

-- ---- 01 to 04
pub create_sizes : (s : Sheet) (x : Figure) → sizes_of (result s (create x)).cells ≡ sizes_after s (create x)
unfolding result sizes_after
create_sizes s x =
    sums_sizes s (result s (create x)) (change_of s (create x)) (λ g. 0) (λ g. total g (one x)) (λ g. let a = over_added g (one x) s in omega arith)
    (omega arith)

-- ---- 05
pub move_sizes : (s : Sheet) → Sound s → (v : ℕ) (p : Position) → Asked6 s (move v p) → sizes_of (result s (move v p)).cells ≡ sizes_after s (move v p)
unfolding question4 result moved sizes_after
move_sizes s S v p q =
    let u = vertex_at s v q.1 in
    sums_sizes s (result s (move v p)) (change_of s (move v p)) (λ g. g (vertex u.0)) (λ g. g (vertex p))
    (λ g. let a = over_changed g v (vertex p) (vertex u.0) [] s S u.1 in omega arith) (omega arith)

-- ---- 06: no larger
pub record NoLarger (y z : SheetSizes) : Type 0 where
  pub cells : y.cells ≤ z.cells
  pub cycles : y.cycles ≤ z.cycles
  pub steps : y.steps ≤ z.steps
  pub bends : y.bends ≤ z.bends

pub fits_under : (y z : SheetSizes) → NoLarger y z → T (sizes_fit z) → T (sizes_fit y)
fits_under y z l t =
    let a = both (leb z.cells cells_most) _ t in
    let b = both (leb z.cycles cycles_most) _ a.1 in
    let c = both (leb z.steps steps_most) (leb z.bends bends_most) b.1 in
    pair (leb y.cells cells_most) _ (down y.cells z.cells cells_most a.0 l.cells)
    (pair (leb y.cycles cycles_most) _ (down y.cycles z.cycles cycles_most b.0 l.cycles)
    (pair (leb y.steps steps_most) (leb y.bends bends_most) (down y.steps z.steps steps_most c.0 l.steps)
    (down y.bends z.bends bends_most c.1 l.bends)))
  where
    down : (m n k : ℕ) → T (leb n k) → m ≤ n → T (leb m k)
    down m n k t l = let a = leb→le n k t in le→leb m k (omega arith)

pub delete_smaller : (s : Sheet) (i : ℕ) → NoLarger (sizes_of (result s (delete i)).cells) (sizes_of s.cells)
unfolding result deleted
delete_smaller s i =
    let x = total_ones s.cells in
    let y = total_ones (rebuild keeps as_it_is [] s).cells in
    let a = less each in
    let b = less cycles_in in
    let c = less steps_in in
    let d = less bends_in in
    omega arith
  where
    keeps : ℕ → Bool
    keeps j = not (goes s i j)

    less : (g : Figure → ℕ) → over g (rebuild keeps as_it_is [] s).cells ≤ over g s.cells
    less g = let a = over_kept g as_it_is (λ j t. refl) keeps [] s in let b = over_keep g (goes s i) s.cells in omega arith

pub delete_fits : (s : Sheet) → Sound s → (i : ℕ) → T (ceilings (result s (delete i)).cells)
delete_fits s S i = fits_under (sizes_of (result s (delete i)).cells) (sizes_of s.cells) (delete_smaller s i) S.fits

-- ---- rewiring: a step becomes d fewer and h more than one
abbrev pub used_by : (Halfedge → ℕ) → Figure → ℕ
used_by d t = total (λ (k : Cycle). total d (steps_of k)) (cycles_of (some t))

-- us go, new come, and the steps change
pub record Rewires (s : Sheet) (us new : List Figure) (d h : Halfedge → ℕ) (c : Change) : Type 0 where
  pub cells : total each us + c.more.cells ≡ total each new + c.less.cells
  pub cycles : total cycles_in us + c.more.cycles ≡ total cycles_in new + c.less.cycles
  pub bends : total bends_in us + c.more.bends ≡ total bends_in new + c.less.bends
  pub steps : total steps_in us + over (used_by d) s.cells + c.more.steps ≡ total steps_in new + over (used_by h) s.cells + c.less.steps
  pub fewer : total (used_by d) us ≡ 0
  pub extra : total (used_by h) us ≡ 0

module _ (r : ℕ → ℕ) (σ : Halfedge → List Halfedge) where
  module _ (d h : Halfedge → ℕ) (fair : (x : Halfedge) → length (σ x) + d x ≡ 1 + h x) where
    length_spread : (hs : List Halfedge) → length (spread σ hs) + total d hs ≡ length hs + total h hs
    length_spread [] = refl
    length_spread (x ∷ hs) = let a = fair x in let b = length_spread hs in let c = length-append (σ x) (spread σ hs) in omega arith

    pub steps_cycle : (k : Cycle) → step_count (rewired_cycle r σ k) + total d (steps_of k) ≡ step_count k + total h (steps_of k)
    steps_cycle (lone v) = refl
    steps_cycle (path hs) = length_spread hs

    steps_rewired : (i : ℕ) (t : Figure) → steps_in (rewired r σ i t) + used_by d t ≡ steps_in t + used_by h t
    steps_rewired i (vertex p) = refl
    steps_rewired i (open_edge a b bs) = refl
    steps_rewired i (closed_edge bs) = refl
    steps_rewired i (face ks) = total_by (rewired_cycle r σ) step_count step_count (λ (k : Cycle). total d (steps_of k))
        (λ (k : Cycle). total h (steps_of k)) steps_cycle ks

    pub rewired_sizes : (s : Sheet) (p : ℕ → Bool) (us new : List Figure) → Without s p us → (c : Change) → Rewires s us new d h c
        → sizes_of (rebuild p (rewired r σ) new s).cells ≡ changed_by (sizes_of s.cells) c
    rewired_sizes s p us new w c k =
        let a = over_kept each (rewired r σ) (λ i t. refl) p new s in
        let b = over_kept cycles_in (rewired r σ) (cycles_rewired r σ) p new s in
        let e = over_kept bends_in (rewired r σ) (bends_rewired r σ) p new s in
        let f = over_rebuild steps_in p (rewired r σ) new s in
        let g = over_reshaped steps_in (used_by d) (used_by h) (rewired r σ) steps_rewired (keep_ids p s.cells) in
        let w1 = w each in
        let w2 = w cycles_in in
        let w3 = w bends_in in
        let w4 = w steps_in in
        let w5 = w (used_by d) in
        let w6 = w (used_by h) in
        shifts_sizes s (rebuild p (rewired r σ) new s) c (omega arith)

-- no step more or fewer
abbrev pub no_step_more : Halfedge → ℕ
no_step_more h = 0

pub none_used : (cs : List LiveCell) → over (used_by no_step_more) cs ≡ 0
none_used [] = refl
none_used (c ∷ cs) = let a = none_used cs in let b = go (cycles_of (some c.figure)) in omega arith
  where
    go : (ks : List Cycle) → total (λ (k : Cycle). total no_step_more (steps_of k)) ks ≡ 0
    go [] = refl
    go (k ∷ ks) = let a = total_zero (steps_of k) in let b = go ks in omega arith

-- ---- 07
pub glue_sizes : (s : Sheet) → Sound s → (a b : ℕ) → Asked6 s (glue_vertices a b)
    → sizes_of (result s (glue_vertices a b)).cells ≡ sizes_after s (glue_vertices a b)
unfolding question4 result glued_vertices sizes_after
glue_sizes s S a b q =
    let v = vertex_at s b (both (is_vertex (cell_at s a)) (is_vertex (cell_at s b)) q.1).1 in
    rewired_sizes (renamed a b) one no_step_more no_step_more (λ h. refl) s (others b) (one (vertex v.0)) [] (without_one b (vertex v.0) s S v.1)
    (change_of s (glue_vertices a b)) (omega arith)

-- ---- 08
pub glue_edges_sizes : (s : Sheet) → Sound s → (a b flag : ℕ) → Asked6 s (glue_edges a b flag)
    → sizes_of (result s (glue_edges a b flag)).cells ≡ sizes_after s (glue_edges a b flag)
unfolding question4 result glued_edges sizes_after
glue_edges_sizes s S a b flag q = go (cell_at s b) refl (both (is_edge (cell_at s a)) (is_edge (cell_at s b)) q.1).1
  where
    gone : (t : Figure) → cell_at s b ≡ some t → Rewires s (one t) [] no_step_more no_step_more (change_of s (glue_edges a b flag))
        → sizes_of (result s (glue_edges a b flag)).cells ≡ sizes_after s (glue_edges a b flag)
    gone t e k = rewired_sizes same_vertex (in_place_of b a (eqb flag 1)) no_step_more no_step_more (λ h. refl) s (others b) (one t) [] (without_one b t s S e)
        (change_of s (glue_edges a b flag)) k

    go : (o : Option Figure) → cell_at s b ≡ o → T (is_edge o) → sizes_of (result s (glue_edges a b flag)).cells ≡ sizes_after s (glue_edges a b flag)
    go none e k = absurd k
    go (some (vertex p)) e k = absurd k
    go (some (open_edge u w bs)) e k = gone (open_edge u w bs) e (let z = ap cell_bends e in omega arith)
    go (some (closed_edge bs)) e k = gone (closed_edge bs) e (let z = ap cell_bends e in omega arith)
    go (some (face ks)) e k = absurd k

-- 07 and 08 take away only
pub glue_fits : (s : Sheet) → Sound s → (a b : ℕ) → Asked6 s (glue_vertices a b) → T (ceilings (result s (glue_vertices a b)).cells)
unfolding sizes_after
glue_fits s S a b q = rw (ap sizes_fit (glue_sizes s S a b q)) (fits_under (sizes_after s (glue_vertices a b)) (sizes_of s.cells) (omega arith) S.fits)

pub glue_edges_fits : (s : Sheet) → Sound s → (a b flag : ℕ) → Asked6 s (glue_edges a b flag) → T (ceilings (result s (glue_edges a b flag)).cells)
unfolding sizes_after
glue_edges_fits s S a b flag q = rw (ap sizes_fit (glue_edges_sizes s S a b flag q))
    (fits_under (sizes_after s (glue_edges a b flag)) (sizes_of s.cells) (omega arith) S.fits)
