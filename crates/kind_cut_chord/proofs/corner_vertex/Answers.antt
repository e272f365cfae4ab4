-- `corner_vertex` meets its contract. Assumes nothing.
use mathlib.Core.List.{List, []}
use Prim.Native.Nat.{ℕ}
use Rattle.store.specs.declared.Index.{Index}
use Rattle.rows_corners.proofs.Arcs.{vertex_lone, vertex_back, vertex_on}
use Rattle.kind_cut_chord.proofs.corner_vertex.Goals as goal

-- the rows as an index
abbrev rows : List ℕ → List ℕ → List ℕ → Index
rows ids starts ends = record { ids = ids; kinds = []; starts = starts; ends = ends; bends = []; cycles = [] }

pub returns-then-p-eq0 : goal.returns-then-p-eq0
returns-then-p-eq0 c =
    let a = c.args in
    vertex_lone (rows a.ids.now a.starts.now a.ends.now) a.n a.p.m a.steps.now a.p.at a.s c.if-p-eq0.true

pub value_at-requires : goal.value_at-requires
value_at-requires c = let r = c.requires.ruled_2 in record {
  n_bound = r.few;
  ids_len = r.ids;
  values_len = r.values;
  rising = r.rising;
}

pub returns-then-h-eq1 : goal.returns-then-h-eq1
returns-then-h-eq1 c =
    let a = c.args in
    vertex_back (rows a.ids.now a.starts.now a.ends.now) a.n a.p.m a.steps.now a.p.at a.s c.if-p-eq0.false c.wide.result
    c.value_at.result c.wide.ensures c.if-h-eq1.true c.value_at.ensures

pub value_at-requires-2 : goal.value_at-requires-2
value_at-requires-2 c = let r = c.requires.ruled in record {
  n_bound = r.few;
  ids_len = r.ids;
  values_len = r.values;
  rising = r.rising;
}

pub returns : goal.returns
returns c =
    let a = c.args in
    vertex_on (rows a.ids.now a.starts.now a.ends.now) a.n a.p.m a.steps.now a.p.at a.s c.if-p-eq0.false c.wide.result
    c.value_at-2.result c.wide.ensures c.if-h-eq1.false c.value_at-2.ensures
