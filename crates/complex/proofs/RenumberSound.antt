-- 0F keeps a drawing sound, its Euler number and its f64s, and gets a yes to questions 7 and 8. Assumes nothing.
use Prim.Native.Nat.{ℕ, suc, ◌+◌}
use native.Mathlib.Omega.{arith}
use mathlib.Core.Path.{◌≡◌, refl, sym, ap, ◌∙◌, subst}
use mathlib.Core.Bool.{Bool, true, false, ◌&&◌, cond}
use mathlib.Core.List.{List, [], ◌∷◌, map}
use mathlib.Core.Option.{Option, none, some}
use lib.ListN.{length, length-map}
use lib.IntN.{sub_ℕ}
use lib.Dec.{T, leb, leb→le, le→leb}
use Rattle.number.specs.Readers.{spread}
use Rattle.complex.specs.Lists.{all, total, rising}
use Rattle.complex.specs.Cells.{Halfedge, Cycle, lone, path, Figure, vertex, open_edge, closed_edge, face, LiveCell, Sheet, empty}
use Rattle.complex.specs.Cells.{Look, lookup, cell_at, ids, is_vertex, is_open, is_closed, start_of, end_of, tail_of, head_of}
use Rattle.complex.specs.Sound.{ids_end, Walk, joins, figure_ok, cells_most, cycles_most, steps_most, bends_most, step_count}
use Rattle.complex.specs.Sound.{cycles_in, steps_in, bends_in, over, ceilings, sound, figure_double, doubles}
use Rattle.complex.specs.Euler.{euler}
use Rattle.complex.specs.Edits.{numbered, every_id, as_it_is, rewired_cycle, rewired}
use Rattle.complex.specs.Renumber.{rank, renamed_step, renamed_figure, renumbered}
use Rattle.complex.specs.Answer.{first_no, of_result}
use Rattle.complex.proofs.Bools.{true_of, both, pair, all_map}
use Rattle.complex.proofs.Lookup.{changed, rising_rebuild, all_at, all_from}
use Rattle.complex.proofs.Walks.{Ring}
use Rattle.complex.proofs.Keep.{Sound, sound_parts, length_each, Carries, ring_carried, round_carried, some_spread, shape_carried}
use Rattle.complex.proofs.Gains.{gain, loss, euler_sub}
use Rattle.complex.proofs.Faces.{gain_rewired, loss_rewired}
use Rattle.complex.proofs.Renumber.{renumber_at, length_numbered}

-- ---- the cell of a new id serves as that of the old one did
module _ (look look' : Look) (r : ℕ → ℕ) (at : (i : ℕ) → look' (r i) ≡ changed (rewired r (renamed_step r) i) (look i)) where
  same_kind : (i : ℕ) (o : Option Figure)
      → (is_vertex (changed (rewired r (renamed_step r) i) o) ≡ is_vertex o) × (is_closed (changed (rewired r (renamed_step r) i) o) ≡ is_closed o)
  same_kind i none = (refl, refl)
  same_kind i (some (vertex p)) = (refl, refl)
  same_kind i (some (open_edge a b bs)) = (refl, refl)
  same_kind i (some (closed_edge bs)) = (refl, refl)
  same_kind i (some (face ks)) = (refl, refl)

  renamed_walk : (h : Halfedge) → T (is_open (look h.edge)) → Walk look' (r (tail_of look h)) (renamed_step r h) (r (head_of look h))
  renamed_walk h t = rw (at h.edge) (go (look h.edge) h.backward t)
    where
      go : (o : Option Figure) (y : Bool) → T (is_open o)
          → let o' = changed (rewired r (renamed_step r) h.edge) o in
          T (is_open o')
          × (r (cond y (end_of o) (start_of o)) ≡ cond y (end_of o') (start_of o'))
          × (cond y (start_of o') (end_of o') ≡ r (cond y (start_of o) (end_of o)))
      go none y k = absurd k
      go (some (vertex p)) y k = absurd k
      go (some (open_edge a b bs)) true k = (tt, refl, refl)
      go (some (open_edge a b bs)) false k = (tt, refl, refl)
      go (some (closed_edge bs)) y k = absurd k
      go (some (face ks)) y k = absurd k

  renamed_carries : Carries look look' r (renamed_step r)
  renamed_carries =
      record {
        vertices = λ v t. subst T (sym (ap is_vertex (at v) ∙ (same_kind v (look v)).0)) t;
        rounds = λ hs t w. round_carried look look' r (renamed_step r) renamed_walk hs (some_spread (renamed_step r) (λ h. tt) hs t) w;
        rings = rings;
      }
    where
      rings : (hs : List Halfedge) → Ring look hs → T (joins look' (spread (renamed_step r) hs))
      rings [] g = absurd g
      rings (h ∷ hs) g =
          ring_carried look look' (renamed_step r) h hs (record { edge = r h.edge; backward = h.backward }) refl
          (subst T (sym (ap is_closed (at h.edge) ∙ (same_kind h.edge (look h.edge)).1)) g.0) g.1

-- ---- names are nothing to the sums
module _ (r : ℕ → ℕ) (σ : Halfedge → List Halfedge) where
  pub cycles_rewired : (i : ℕ) (x : Figure) → cycles_in (rewired r σ i x) ≡ cycles_in x
  cycles_rewired i (vertex p) = refl
  cycles_rewired i (open_edge a b bs) = refl
  cycles_rewired i (closed_edge bs) = refl
  cycles_rewired i (face ks) = length-map ks _

  pub bends_rewired : (i : ℕ) (x : Figure) → bends_in (rewired r σ i x) ≡ bends_in x
  bends_rewired i (vertex p) = refl
  bends_rewired i (open_edge a b bs) = refl
  bends_rewired i (closed_edge bs) = refl
  bends_rewired i (face ks) = refl

  pub double_rewired : (i : ℕ) (x : Figure) → T (figure_double x) → T (figure_double (rewired r σ i x))
  double_rewired i (vertex p) t = t
  double_rewired i (open_edge a b bs) t = t
  double_rewired i (closed_edge bs) t = t
  double_rewired i (face ks) t = t

module _ (r : ℕ → ℕ) where
  counts_renamed : (ks : List Cycle) → total step_count (map (rewired_cycle r (renamed_step r)) ks) ≡ total step_count ks
  counts_renamed [] = refl
  counts_renamed (lone v ∷ ks) = ap (λ (n : ℕ). 1 + n) (counts_renamed ks)
  counts_renamed (path hs ∷ ks) = λ i. length_each (renamed_step r) (λ h. refl) hs i + counts_renamed ks i

  steps_renamed : (i : ℕ) (x : Figure) → steps_in (rewired r (renamed_step r) i x) ≡ steps_in x
  steps_renamed i (vertex p) = refl
  steps_renamed i (open_edge a b bs) = refl
  steps_renamed i (closed_edge bs) = refl
  steps_renamed i (face ks) = counts_renamed ks

  over_renamed : (g : Figure → ℕ) → ((i : ℕ) (x : Figure) → g (rewired r (renamed_step r) i x) ≡ g x) → (n : ℕ) (cs : List LiveCell)
      → over g (numbered n (map (renamed_figure r) cs)) ≡ over g cs
  over_renamed g h n [] = refl
  over_renamed g h n (c ∷ cs) = λ i. h c.id c.figure i + over_renamed g h (suc n) cs i

  ceilings_renamed : (n : ℕ) (cs : List LiveCell) → ceilings (numbered n (map (renamed_figure r) cs)) ≡ ceilings cs
  ceilings_renamed n cs =
      λ i. leb ((length_numbered n (map (renamed_figure r) cs) ∙ length-map cs (renamed_figure r)) i) cells_most
      && (leb (over_renamed cycles_in (cycles_rewired r (renamed_step r)) n cs i) cycles_most
      && (leb (over_renamed steps_in steps_renamed n cs i) steps_most
      && leb (over_renamed bends_in (bends_rewired r (renamed_step r)) n cs i) bends_most))

pub renumber_euler : (s : Sheet) → euler (renumbered s).cells ≡ euler s.cells
unfolding renumbered
renumber_euler s =
    let r = rank s.cells in
    let up = over_renamed r gain (gain_rewired r (renamed_step r)) 1 s.cells in
    let down = over_renamed r loss (loss_rewired r (renamed_step r)) 1 s.cells in
    euler_sub (numbered 1 (map (renamed_figure r) s.cells)) ∙ (λ i. sub_ℕ (up i) (down i)) ∙ sym (euler_sub s.cells)

-- ---- what holds of every figure holds of every cell
pub all_numbered : (P : Figure → Bool) (n : ℕ) (xs : List Figure) → T (all P xs) → T (all (λ (c : LiveCell). P c.figure) (numbered n xs))
all_numbered P n [] t = tt
all_numbered P n (x ∷ xs) t =
    let b = both (P x) (all P xs) t in
    pair (P x) (all (λ (c : LiveCell). P c.figure) (numbered (suc n) xs)) b.0 (all_numbered P (suc n) xs b.1)

module _ (P Q : Figure → Bool) (r : ℕ → ℕ) (h : (i : ℕ) (x : Figure) → T (P x) → T (Q (rewired r (renamed_step r) i x))) where
  all_renamed : (cs : List LiveCell) → T (all (λ (c : LiveCell). P c.figure) cs)
      → T (all (λ (c : LiveCell). Q c.figure) (numbered 1 (map (renamed_figure r) cs)))
  all_renamed cs t =
      all_numbered Q 1 (map (renamed_figure r) cs)
      (all_map (λ (c : LiveCell). P c.figure) Q (renamed_figure r) (λ c u. h c.id c.figure u) cs t)

pub renumber_doubles : (s : Sheet) → T (doubles s) → T (doubles (renumbered s))
unfolding renumbered
renumber_doubles s t =
    let r = rank s.cells in
    all_renamed figure_double figure_double r (double_rewired r (renamed_step r)) s.cells t

pub renumber_sound : (s : Sheet) → Sound s → Sound (renumbered s)
unfolding renumbered
renumber_sound s S =
    record {
      rises = subst (λ (n : ℕ). T (rising 0 (ids (numbered 1 new)) n)) next (rising_rebuild every_id as_it_is new empty tt);
      in_ids = le→leb (suc (length s.cells)) ids_end
          (let l = leb→le (length s.cells) cells_most (both (leb (length s.cells) cells_most) _ S.fits).0 in omega arith);
      fits = subst T (sym (ceilings_renamed r 1 s.cells)) S.fits;
      figures = λ i x e. all_at (figure_ok look') (numbered 1 new) i x renamed e;
    }
  where
    r : ℕ → ℕ
    r = rank s.cells

    new : List Figure
    new = map (renamed_figure r) s.cells

    look' : Look
    look' = lookup (numbered 1 new)

    next : 1 + length new ≡ suc (length s.cells)
    next = let l : length new ≡ length s.cells = length-map s.cells (renamed_figure r) in omega arith

    renamed : T (all (λ (c : LiveCell). figure_ok look' c.figure) (numbered 1 new))
    renamed =
        all_renamed (figure_ok (cell_at s)) (figure_ok look') r
        (shape_carried (cell_at s) look' r (renamed_step r) (renamed_carries (cell_at s) look' r (renumber_at s)))
        s.cells (all_from (figure_ok (cell_at s)) 0 s.cells s.next S.rises S.figures)

-- questions 7 and 8 get a yes
pub renumber_late : (s : Sheet) → T (sound s) → first_no (of_result (renumbered s)) ≡ 0
renumber_late s t =
    let S = renumber_sound s (sound_parts s t) in
    rw (true_of (leb (renumbered s).next ids_end) S.in_ids, true_of (ceilings (renumbered s).cells) S.fits)
