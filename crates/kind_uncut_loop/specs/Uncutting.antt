-- 0E at a vertex with both ends of an open edge, in lent arrays. Definitions only.
use Rattle.std.specs.Prelude.{ℕ, ◌<◌}
use Rattle.coordinate.specs.declared.Position.{Position}
use Rattle.complex.specs.Sound.{bends_most}
use Rattle.complex.specs.Decode.{uncut}
use Rattle.answer.specs.declared.Totals.{Totals}
use Rattle.answer.proofs.Asked.{Asked}
use Rattle.ask_uncut_vertex.specs.Needs.{Looped}
use Rattle.lent.specs.Arrays.{Arrays, held_by}
use Rattle.kernel_drop.specs.Gone.{EdgeRow, BareRow}

-- the rows of the vertex and of the edge, where the edge's bends stand and how many they are, and where the vertex lies
pub record Plan : Type 0 where
  pub vertex : ℕ
  pub row : ℕ
  pub base : ℕ
  pub m : ℕ
  pub p : Position

-- what 0E at the vertex v needs, where both ends are of the edge e
pub record LoopGoes (a : Arrays) (t : Totals) (v e : ℕ) (r : Plan) : Type 0 where
  pub looped : Looped (held_by a) v r.vertex e r.row r.p r.base r.m
  pub bare : BareRow a r.vertex
  pub edge : EdgeRow a r.row r.base r.m t.bends
  pub room : t.bends < bends_most
  pub asked : Asked (held_by a) (uncut v) 0
