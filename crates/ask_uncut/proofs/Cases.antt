-- From the case that the code finds to the case of the definitions. Assumes nothing.
use Prim.Native.Nat.{ℕ}
use mathlib.Core.Path.{◌≡◌, refl, ap, sym, ◌∙◌, subst}
use mathlib.Core.Bool.{Bool, true, false, cond, false≢true}
use mathlib.Core.List.{List}
use mathlib.Core.Option.{Option, none, some}
use Rattle.complex.specs.Cells.{Figure, vertex, open_edge, closed_edge, face, LiveCell, Sheet, cell_at, is_vertex, is_open, is_closed, is_vertex_or_edge}
use Rattle.complex.specs.Uses.{passages_at, ends_at, lone_use, uses_by, uses_of}
use Rattle.complex.specs.Uncut.{Uncut, uncut_vertex, uncut_open, uncut_closed, uncut_figure, uncut_case, allowed}
use Rattle.complex.proofs.Every.{Every}
use Rattle.number.specs.Said.{Said, done, no}
use Rattle.number.proofs.Laws.{not_done, done_one}
use Rattle.complex.proofs.UncutEdge.{every_more, Real, own_cells, uses_real}
use Rattle.complex.proofs.Keep.{Sound}
use Rattle.law_uncut.specs.Said.{uncut_said}
use Rattle.ask_uncut.proofs.Deciding.{Own}
use Rattle.ask_uncut.specs.Decided.{uncut_asked}

-- ---- what is said of a vertex and of an edge is what is asked
asked_said : (s : Sheet) (i : ℕ) → is_vertex_or_edge (cell_at s i) ≡ true → (k : Uncut) → uncut_case s i ≡ k → uncut_said k ≡ uncut_asked s i
asked_said s i g k e = sym (ap (λ (b : Bool). cond b (uncut_said (uncut_case s i)) (no 4)) g ∙ ap uncut_said e)

figure_vertex : (cs : List LiveCell) (v : ℕ) (o : Option Figure) → is_vertex o ≡ true
    → uncut_figure cs v o ≡ uncut_vertex (passages_at cs v) (uses_by (lone_use v) cs) (ends_at cs v)
figure_vertex cs v none e = absurd (false≢true e)
figure_vertex cs v (some (vertex p)) e = refl
figure_vertex cs v (some (open_edge a b bs)) e = absurd (false≢true e)
figure_vertex cs v (some (closed_edge bs)) e = absurd (false≢true e)
figure_vertex cs v (some (face ks)) e = absurd (false≢true e)

pub vertex_told : (s : Sheet) (v : ℕ) → is_vertex (cell_at s v) ≡ true → is_vertex_or_edge (cell_at s v) ≡ true → (x : Said Uncut)
    → x ≡ uncut_said (uncut_vertex (passages_at s.cells v) (uses_by (lone_use v) s.cells) (ends_at s.cells v)) → x ≡ uncut_asked s v
unfolding uncut_case
vertex_told s v k g x e = e ∙ asked_said s v g _ (figure_vertex s.cells v (cell_at s v) k)

pub own_uses : (s : Sheet) → Sound s → (e : ℕ) → Every (Own e) (uses_of s.cells e)
own_uses s S e =
    every_more (Real (cell_at s) e) (Own e) (λ u r. r.5) (uses_of s.cells e)
    (uses_real (cell_at s) e s.cells (own_cells (cell_at s) 0 s.cells s.next S.rises (λ i t q. q)))

figure_open : (cs : List LiveCell) (e : ℕ) (o : Option Figure) → is_open o ≡ true → uncut_figure cs e o ≡ uncut_open (uses_of cs e)
figure_open cs e none q = absurd (false≢true q)
figure_open cs e (some (vertex p)) q = absurd (false≢true q)
figure_open cs e (some (open_edge a b bs)) q = refl
figure_open cs e (some (closed_edge bs)) q = absurd (false≢true q)
figure_open cs e (some (face ks)) q = absurd (false≢true q)

figure_closed : (cs : List LiveCell) (e : ℕ) (o : Option Figure) → is_closed o ≡ true → uncut_figure cs e o ≡ uncut_closed (uses_of cs e)
figure_closed cs e none q = absurd (false≢true q)
figure_closed cs e (some (vertex p)) q = absurd (false≢true q)
figure_closed cs e (some (open_edge a b bs)) q = absurd (false≢true q)
figure_closed cs e (some (closed_edge bs)) q = refl
figure_closed cs e (some (face ks)) q = absurd (false≢true q)

module _ (s : Sheet) (e : ℕ) (g : is_vertex_or_edge (cell_at s e) ≡ true) (x : Said Uncut) where
  pub open_told : is_open (cell_at s e) ≡ true → x ≡ uncut_said (uncut_open (uses_of s.cells e)) → x ≡ uncut_asked s e
  unfolding uncut_case
  open_told k q = q ∙ asked_said s e g _ (figure_open s.cells e (cell_at s e) k)

  pub closed_told : is_closed (cell_at s e) ≡ true → x ≡ uncut_said (uncut_closed (uses_of s.cells e)) → x ≡ uncut_asked s e
  unfolding uncut_case
  closed_told k q = q ∙ asked_said s e g _ (figure_closed s.cells e (cell_at s e) k)

pub dead_told : (s : Sheet) (i : ℕ) → is_vertex_or_edge (cell_at s i) ≡ false → no 4 ≡ uncut_asked s i
dead_told s i e = ap (λ (b : Bool). cond b (uncut_said (uncut_case s i)) (no 4)) (sym e)

-- ---- from an answer to the case
no_same : (m n : ℕ) → ◌≡◌ {A = Said Uncut} (no m) (no n) → m ≡ n
no_same m n e = cc

abbrev said_by : Uncut → Bool → Bool → Said Uncut
said_by c a b = cond a (cond b (done c) (no 6)) (no 4)

module _ (c : Uncut) where
  by_done : (k : Uncut) (a b : Bool) → done k ≡ said_by c a b → c ≡ k
  by_done k true true e = sym (done_one k c e)
  by_done k true false e = absurd (not_done 6 k (sym e))
  by_done k false b e = absurd (not_done 4 k (sym e))

  -- the number of a no is 6 or 4
  by_no : (P : ℕ → Type 0) (n : ℕ) (a b : Bool) → no n ≡ said_by c a b → (a ≡ true → b ≡ false → P 6) → (a ≡ false → P 4) → P n
  by_no P n true true e f g = absurd (not_done n c e)
  by_no P n true false e f g = subst P (sym (no_same n 6 e)) (f refl refl)
  by_no P n false b e f g = subst P (sym (no_same n 4 e)) (g refl)

module _ (s : Sheet) (i : ℕ) where
  pub asked_case : {k : Uncut} → done k ≡ uncut_asked s i → uncut_case s i ≡ k
  asked_case {k} e = by_done (uncut_case s i) k (is_vertex_or_edge (cell_at s i)) (allowed (uncut_case s i)) e

  pub asked_no : (P : ℕ → Type 0) (n : ℕ) → no n ≡ uncut_asked s i
      → (is_vertex_or_edge (cell_at s i) ≡ true → allowed (uncut_case s i) ≡ false → P 6) → (is_vertex_or_edge (cell_at s i) ≡ false → P 4) → P n
  asked_no P n e f g = by_no (uncut_case s i) P n (is_vertex_or_edge (cell_at s i)) (allowed (uncut_case s i)) e f g
