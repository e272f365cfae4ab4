-- `file_write::put_cell` meets its contract, shape by shape. Assumes nothing.
use mathlib.Core.Path.{ap, sym}
use Rattle.complex.specs.File.{cell_bytes}
use Rattle.file_parts.proofs.Laying.{put_as}
use Rattle.file_write.proofs.Cells.{vertex_is, vertex_needs, open_is, open_needs, closed_is, closed_needs, face_is, face_needs}
use borrow.Author.Rules.{rules}
use Rattle.file_write.proofs.put_cell.Goals as goal

pub put_vertex-requires : goal.put_vertex-requires
put_vertex-requires c = let p = c.requires in let whole = vertex_needs p.cell_ready _ p.ys_in_bounds _ c.in-Vertex.is in record {
  id_lt_numbers_end = whole.0;
  t = whole.1.0;
  p_in_bounds = whole.1.1;
}

pub put_open-requires : goal.put_open-requires
put_open-requires c = let p = c.requires in let whole = open_needs p.cell_ready _ p.ys_in_bounds _ _ _ c.in-Open.is in record {
  id_lt_numbers_end = whole.0;
  bends = whole.1.0;
  ys_in_bounds = whole.1.1;
}

pub put_closed-requires : goal.put_closed-requires
put_closed-requires c = let p = c.requires in let whole = closed_needs p.cell_ready _ p.ys_in_bounds _ c.in-Closed.is in record {
  id_lt_numbers_end = whole.0;
  bends = whole.1.0;
  ys_in_bounds = whole.1.1;
}

pub put_face-requires : goal.put_face-requires
put_face-requires c = let p = c.requires in let whole = face_needs p.cell_ready _ p.ys_in_bounds _ c.in-Face.is in record {
  id_lt_numbers_end = whole.0;
  rings = whole.1.0;
  steps_in_bounds = whole.1.1;
}

pub returns-in-Vertex : goal.returns-in-Vertex
returns-in-Vertex c =
    let r = c.requires.cell_ready in
    put_as (ap cell_bytes (sym (vertex_is r _ c.in-Vertex.is))) c.put_vertex.ensures

pub returns-in-Open : goal.returns-in-Open
returns-in-Open c =
    let r = c.requires.cell_ready in
    put_as (ap cell_bytes (sym (open_is r _ _ _ c.in-Open.is))) c.put_open.ensures

pub returns-in-Closed : goal.returns-in-Closed
returns-in-Closed c =
    let r = c.requires.cell_ready in
    put_as (ap cell_bytes (sym (closed_is r _ c.in-Closed.is))) c.put_closed.ensures

pub returns-in-Face : goal.returns-in-Face
returns-in-Face c =
    let r = c.requires.cell_ready in
    put_as (ap cell_bytes (sym (face_is r _ c.in-Face.is))) c.put_face.ensures
