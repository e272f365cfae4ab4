-- 0C: question 5 by its parts, and questions 7 and 8. Definitions only.
use Rattle.std.specs.Prelude.{ℕ, ◌+◌, Bool, not, ◌&&◌, cond, List, eqb, ltb, length, take, drop, get_or}
use Rattle.complex.specs.Lists.{is_empty, holds, places}
use Rattle.complex.specs.Cells.{Cycle, Look}
use Rattle.complex.specs.Cut.{no_cycle, corner_exists}
use Rattle.store.specs.declared.Index.{Index}
use Rattle.store.specs.View.{width_sum}
use Rattle.rows_spans.specs.declared.Spans.{Spans}
use Rattle.answer.specs.declared.Totals.{Totals}
use Rattle.answer.specs.Sizes.{sized, more_less, changed_by}
use Rattle.answer.specs.Late.{sizes_by, late_no}
use Rattle.rows_corners.specs.Arcs.{corner_in}

-- there is a cycle c, and it has the corner s
abbrev pub corner_on : Look → List Cycle → ℕ → ℕ → Bool
corner_on look ks c s = ltb c (length ks) && corner_exists look (get_or ks c no_cycle) s

-- the same of spans in two arrays, by the rows of an index
abbrev pub corner_at : Index → ℕ → List ℕ → List ℕ → Spans → ℕ → ℕ → Bool
corner_at ix n cycles steps t c s =
    ltb c t.cycles.count
    && corner_in ix n (get_or cycles (t.cycles.first + c) 0) steps (t.steps.first + width_sum (take c (drop t.cycles.first cycles))) s

-- 1 if cycle c of the spans is a lone vertex, else 0
abbrev pub lone_count : List ℕ → Spans → ℕ → ℕ
lone_count cycles t c = cond (eqb (get_or cycles (t.cycles.first + c) 0) 0) 1 0

-- what questions 7 and 8 say of a cut with k bends: of one cycle, an edge, a face and a cycle come; of two, an edge comes and a cycle goes;
-- two steps come, and one goes for each lone vertex
abbrev pub cut_no : ℕ → Totals → List ℕ → Spans → ℕ → ℕ → ℕ → ℕ
cut_no next t cycles s c1 c2 k =
    cond (eqb c1 c2)
    (late_no next 2 (changed_by (sizes_by t) (more_less (sized 2 1 2 k) (sized 0 0 (lone_count cycles s c1) 0))))
    (late_no next 1 (changed_by (sizes_by t) (more_less (sized 1 0 2 k) (sized 0 1 (lone_count cycles s c1 + lone_count cycles s c2) 0))))

-- moved cycles strictly rising below k and without c1, none where c1 and c2 differ
abbrev pub moved_fit : ℕ → ℕ → ℕ → List ℕ → Bool
moved_fit k c1 c2 ms = cond (eqb c1 c2) (places 0 ms k && not (holds c1 ms)) (is_empty ms)
