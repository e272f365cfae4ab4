-- 07 glue vertices and 08 glue edges. Definitions only.
use Rattle.std.specs.Prelude.{ℕ, Bool, ◌&&◌, ◌||◌, cond, List, [], eqb}
use Rattle.std.proofs.Math.Option.{Option}
use Rattle.complex.specs.Lists.{one}
use Rattle.complex.specs.Cells.{Figure, Sheet, is_open, is_closed, start_of, end_of}
use Rattle.complex.specs.Edits.{rebuild, others, rewired, same_vertex, in_place_of}

-- ---- 07: every use of b becomes a; b goes
abbrev pub renamed : ℕ → ℕ → ℕ → ℕ
renamed a b v = cond (eqb b v) a v

unfoldable pub glued_vertices : Sheet → ℕ → ℕ → Sheet
glued_vertices s a b = rebuild (others b) (rewired (renamed a b) one) [] s

-- ---- 08: b's steps become a's, reversed if flag is 1; b goes
unfoldable pub glued_edges : Sheet → ℕ → ℕ → ℕ → Sheet
glued_edges s a b flag = rebuild (others b) (rewired same_vertex (in_place_of b a (eqb flag 1))) [] s

-- its rule: both closed, or open with equal ends (flag 0) or swapped ends (flag 1)
abbrev pub may_glue : Option Figure → Option Figure → ℕ → Bool
may_glue a b flag =
    (is_closed a && is_closed b)
    || (is_open a && (is_open b
    && cond (eqb flag 0) (eqb (start_of a) (start_of b) && eqb (end_of a) (end_of b)) (eqb (start_of a) (end_of b) && eqb (end_of a) (start_of b))))
