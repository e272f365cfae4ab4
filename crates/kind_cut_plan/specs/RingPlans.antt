-- 0A of a closed edge in lent arrays. Definitions only.
use Rattle.std.specs.Prelude.{ℕ, ◌≡◌, true}
use Rattle.complex.specs.Cells.{cell_at, is_closed}
use Rattle.complex.specs.Decode.{cut_edge}
use Rattle.store.specs.View.{sheet_of, cycle_total, step_total}
use Rattle.answer.proofs.Asked.{Asked}
use Rattle.ask_cut_edge.specs.Cuts.{EdgeCuts, closed_place}
use Rattle.lent.specs.Arrays.{Arrays, held_by}
use Rattle.kernel_drop.specs.Gone.{EdgeRow}
use Rattle.kind_cut_plan.specs.declared.Plan.{Plan}

-- what 0A of the closed edge e at place q needs
pub record RingGoes (a : Arrays) (e q : ℕ) (r : Plan) : Type 0 where
  pub closed : is_closed (cell_at (sheet_of (held_by a)) e) ≡ true
  pub cuts : EdgeCuts (held_by a) e r.row r.base r.m q
  pub placed : r.p ≡ closed_place (held_by a).bends r.base r.m q
  pub row : EdgeRow a r.row r.base r.m r.bends
  pub cycles : r.cycles ≡ cycle_total (held_by a)
  pub steps : r.steps ≡ step_total (held_by a)
  pub uses : r.uses ≡ 0
  pub asked : Asked (held_by a) (cut_edge e q) 0
