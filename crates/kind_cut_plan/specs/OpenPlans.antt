-- 0A of an open edge in lent arrays. Definitions only.
use Rattle.std.specs.Prelude.{ℕ, ◌+◌, ◌≡◌}
use Rattle.complex.specs.Edits.{reshape, rewired, same_vertex}
use Rattle.complex.specs.Cut.{in_two}
use Rattle.complex.specs.Sound.{over, steps_in}
use Rattle.complex.specs.Decode.{cut_edge}
use Rattle.answer.proofs.Asked.{Asked}
use Rattle.store.specs.View.{sheet_of, cycle_total, step_total}
use Rattle.ask_cut_edge.specs.Cuts.{EdgeCuts, OpenEnds, CutPlaced}
use Rattle.lent.specs.Arrays.{Arrays, held_by}
use Rattle.kernel_drop.specs.Gone.{EdgeRow}
use Rattle.kind_cut_plan.specs.declared.Plan.{Plan}

-- what 0A of the open edge e at place q needs
pub record OpenGoes (a : Arrays) (e q : ℕ) (r : Plan) : Type 0 where
  pub cuts : EdgeCuts (held_by a) e r.row r.base r.m q
  pub ends : OpenEnds (held_by a) e r.s r.f
  pub placed : CutPlaced (held_by a) e q r.p
  pub row : EdgeRow a r.row r.base r.m r.bends
  pub cycles : r.cycles ≡ cycle_total (held_by a)
  pub steps : r.steps ≡ step_total (held_by a)
  pub grows : over steps_in (reshape (rewired same_vertex (in_two e (a.next + 1) (a.next + 2))) (sheet_of (held_by a)).cells)
      ≡ r.uses + r.steps
  pub asked : Asked (held_by a) (cut_edge e q) 0
