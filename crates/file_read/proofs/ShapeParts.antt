-- The bends and the cycles of a shape, put into arrays. Assumes nothing.
use Prim.Native.Nat.{ℕ, ◌+◌, ◌*◌, ◌≤◌, ◌<◌}
use native.Mathlib.Omega.{arith}
use mathlib.Core.Path.{◌≡◌, sym, ap, ◌∙◌}
use mathlib.Core.List.{List}
use lib.ListN.{length, drop}
use Rattle.number.specs.Readers.{times}
use Rattle.number.proofs.Laws.{not_bad, got_rest}
use Rattle.number.proofs.Counted.{times_length}
use Rattle.coordinate.specs.Positions.{read_position}
use Rattle.bends.specs.Bends.{positions_at}
use Rattle.bends.proofs.Laws.{positions_long, positions_short}
use Rattle.complex.specs.Decode.{read_cycle}
use Rattle.store.specs.declared.Shape.{Shape}
use Rattle.store.specs.View.{bend_count, cycle_count}
use Rattle.file_read.specs.declared.Used.{Used}
use Rattle.file_read.specs.Filling.{bends_more, CyclesOver, PartsOver}

module _ (s : List ℕ) (first : ℕ) (x : Shape) (used : Used) where
  pub too_many_bends : (b : ℕ) → b ≡ bend_count x → 2048 < used.bends + b → PartsOver s first x used
  too_many_bends b e h bs ks t u f g i j k = let l = times_length read_position (bend_count x) (drop first s) t bs f in omega arith

  pub too_few_bytes : (b : ℕ) → b ≡ bend_count x → first ≤ length s → length s < first + 16 * b → PartsOver s first x used
  too_few_bytes b e l h bs ks t u f g i j k = not_bad bs t (sym (positions_short s first (bend_count x) l (omega arith)) ∙ f)

  -- where there is no room for the cycles after the bends, there is none for the parts
  pub cycles_over : first + 16 * bend_count x ≤ length s → CyclesOver (times read_cycle (cycle_count x) (drop (first + 16 * bend_count x) s))
      (bends_more used (bend_count x)) → PartsOver s first x used
  cycles_over h over bs ks t u f g i j k =
      let m : t ≡ drop (first + 16 * bend_count x) s = got_rest bs (positions_at s first (bend_count x)) t (drop (first + 16 * bend_count x) s)
      (sym f ∙ positions_long s first (bend_count x) h) in
      over ks u (ap (times read_cycle (cycle_count x)) (sym m) ∙ g) j k
