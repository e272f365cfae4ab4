-- 0E by its case: what is asked, and its result. Assumes nothing.
use Prim.Native.Nat.{ℕ}
use mathlib.Core.Path.{◌≡◌, refl, ap, ◌∙◌}
use mathlib.Core.Bool.{true, false, false≢true}
use mathlib.Core.List.{List}
use mathlib.Core.Option.{Option, none, some}
use Rattle.complex.specs.Cells.{Figure, vertex, open_edge, closed_edge, face, LiveCell, Sheet, cell_at, is_vertex_or_edge}
use Rattle.complex.specs.Decode.{uncut}
use Rattle.complex.specs.Commands.{question4, question5, question6, result}
use Rattle.complex.specs.Answer.{no, asked3}
use Rattle.complex.specs.Uncut.{Uncut, uncut_figure, uncut_case, uncut_result, allowed}
use Rattle.complex.proofs.Asked.{early, early_none, Passed, no_4, no_6}

-- a cell that may be uncut is a vertex or an edge
allowed_kind : (cs : List LiveCell) (i : ℕ) (o : Option Figure) → allowed (uncut_figure cs i o) ≡ true → is_vertex_or_edge o ≡ true
allowed_kind cs i none e = absurd (false≢true e)
allowed_kind cs i (some (vertex p)) e = refl
allowed_kind cs i (some (open_edge a b bs)) e = refl
allowed_kind cs i (some (closed_edge bs)) e = refl
allowed_kind cs i (some (face ks)) e = absurd (false≢true e)

module _ (s : Sheet) (i : ℕ) where
  bytes : early (uncut i) ≡ 0
  bytes = early_none (uncut i) refl

  four : question4 s (uncut i) ≡ is_vertex_or_edge (cell_at s i)
  unfolding question4
  four = refl

  five : question5 s (uncut i) ≡ true
  unfolding question5
  five = refl

  six : question6 s (uncut i) ≡ allowed (uncut_case s i)
  unfolding question6
  six = refl

  -- no vertex and no edge
  pub uncut_no_4 : is_vertex_or_edge (cell_at s i) ≡ false → asked3 s (uncut i) ≡ no 4 s
  uncut_no_4 e = no_4 s (uncut i) bytes (four ∙ e)

  -- none of the cases
  pub uncut_no_6 : is_vertex_or_edge (cell_at s i) ≡ true → allowed (uncut_case s i) ≡ false → asked3 s (uncut i) ≡ no 6 s
  uncut_no_6 e a = no_6 s (uncut i) bytes (four ∙ e) five (six ∙ a)

  module _ (k : Uncut) (e : uncut_case s i ≡ k) where
    pub uncut_passed : allowed k ≡ true → Passed s (uncut i)
    unfolding uncut_case
    uncut_passed a =
        let y = ap allowed e ∙ a in
        record { bytes = bytes; four = four ∙ allowed_kind s.cells i (cell_at s i) y; five = five; six = six ∙ y }

    pub uncut_result_lem : result s (uncut i) ≡ uncut_result s i k
    unfolding result
    uncut_result_lem = ap (uncut_result s i) e
