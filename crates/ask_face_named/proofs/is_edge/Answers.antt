-- `is_edge` meets its contract. Assumes nothing.
use Rattle.ask_face_named.proofs.Walking.{edge_open, edge_other}
use Rattle.ask_face_named.proofs.is_edge.Goals as goal

pub returns-then-kind-eq1 : goal.returns-then-kind-eq1
returns-then-kind-eq1 c = edge_open _ c.if-kind-eq1.true

pub returns : goal.returns
returns c = edge_other _ c.if-kind-eq1.false
