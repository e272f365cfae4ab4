-- `entry_dispatch::obey` meets its contract: each arm hands the command on. Assumes nothing.
use Rattle.lent.specs.Replies.{line_says}
use Rattle.entry_dispatch.proofs.Arms.{lies, carried}
use Rattle.entry_dispatch.proofs.obey.Goals as goal

-- ---- the arms whose commands have lists
pub add_open-requires : goal.add_open-requires
add_open-requires c =
    record {
      ready = c.requires.ready;
      k_in_bounds = lies c.args.script.now c.in-Open.is c.requires.lists_lie;
    }

pub add_closed-requires : goal.add_closed-requires
add_closed-requires c =
    record {
      ready = c.requires.ready;
      k_in_bounds = lies c.args.script.now c.in-Closed.is c.requires.lists_lie;
    }

pub add_face-requires : goal.add_face-requires
add_face-requires c =
    record {
      ready = c.requires.ready;
      stand = lies c.args.script.now c.in-Face.is c.requires.lists_lie;
    }

pub cut_face_open-requires : goal.cut_face_open-requires
cut_face_open-requires c =
    record {
      ready = c.requires.ready;
      in_script = lies c.args.script.now c.in-CutFaceOpen.is c.requires.lists_lie;
    }

pub cut_face_closed-requires : goal.cut_face_closed-requires
cut_face_closed-requires c =
    let lie = lies c.args.script.now c.in-CutFaceClosed.is c.requires.lists_lie in
    record {
      ready = c.requires.ready;
      k_in_bounds = lie.0;
      stand = lie.1;
    }

-- ---- what each arm answers
pub returns-in-Vertex-clause-carried : goal.returns-in-Vertex-clause-carried
returns-in-Vertex-clause-carried c = carried c.args.script.now c.in-Vertex.is _ _ (line_says c.add_vertex.result) c.add_vertex.ensures.obeyed

pub returns-in-Open-clause-carried : goal.returns-in-Open-clause-carried
returns-in-Open-clause-carried c = carried c.args.script.now c.in-Open.is _ _ (line_says c.add_open.result) c.add_open.ensures.obeyed

pub returns-in-Closed-clause-carried : goal.returns-in-Closed-clause-carried
returns-in-Closed-clause-carried c = carried c.args.script.now c.in-Closed.is _ _ (line_says c.add_closed.result) c.add_closed.ensures.obeyed

pub returns-in-Face-clause-carried : goal.returns-in-Face-clause-carried
returns-in-Face-clause-carried c = carried c.args.script.now c.in-Face.is _ _ (line_says c.add_face.result) c.add_face.ensures.obeyed

pub returns-in-Move-clause-carried : goal.returns-in-Move-clause-carried
returns-in-Move-clause-carried c = carried c.args.script.now c.in-Move.is _ _ (line_says c.move_vertex.result) c.move_vertex.ensures.obeyed

pub returns-in-Delete-clause-carried : goal.returns-in-Delete-clause-carried
returns-in-Delete-clause-carried c = carried c.args.script.now c.in-Delete.is _ _ (line_says c.delete_cell.result) c.delete_cell.ensures.obeyed

pub returns-in-GlueVertices-clause-carried : goal.returns-in-GlueVertices-clause-carried
returns-in-GlueVertices-clause-carried c = carried c.args.script.now c.in-GlueVertices.is _ _ (line_says c.glue_vertices.result) c.glue_vertices.ensures.obeyed

pub returns-in-GlueEdges-clause-carried : goal.returns-in-GlueEdges-clause-carried
returns-in-GlueEdges-clause-carried c = carried c.args.script.now c.in-GlueEdges.is _ _ (line_says c.glue_edges.result) c.glue_edges.ensures.obeyed

pub returns-in-Unglue-clause-carried : goal.returns-in-Unglue-clause-carried
returns-in-Unglue-clause-carried c = carried c.args.script.now c.in-Unglue.is _ _ (line_says c.unglue.result) c.unglue.ensures.obeyed

pub returns-in-CutEdge-clause-carried : goal.returns-in-CutEdge-clause-carried
returns-in-CutEdge-clause-carried c = carried c.args.script.now c.in-CutEdge.is _ _ (line_says c.cut_edge.result) c.cut_edge.ensures.obeyed

pub returns-in-CutFaceVertex-clause-carried : goal.returns-in-CutFaceVertex-clause-carried
returns-in-CutFaceVertex-clause-carried c = carried c.args.script.now c.in-CutFaceVertex.is _ _ (line_says c.cut_face_vertex.result) c.cut_face_vertex.ensures.obeyed

pub returns-in-CutFaceOpen-clause-carried : goal.returns-in-CutFaceOpen-clause-carried
returns-in-CutFaceOpen-clause-carried c = carried c.args.script.now c.in-CutFaceOpen.is _ _ (line_says c.cut_face_open.result) c.cut_face_open.ensures.obeyed

pub returns-in-CutFaceClosed-clause-carried : goal.returns-in-CutFaceClosed-clause-carried
returns-in-CutFaceClosed-clause-carried c = carried c.args.script.now c.in-CutFaceClosed.is _ _ (line_says c.cut_face_closed.result) c.cut_face_closed.ensures.obeyed

pub returns-in-Uncut-clause-carried : goal.returns-in-Uncut-clause-carried
returns-in-Uncut-clause-carried c = carried c.args.script.now c.in-Uncut.is _ _ (line_says c.uncut.result) c.uncut.ensures.obeyed

pub returns-in-Renumber-clause-carried : goal.returns-in-Renumber-clause-carried
returns-in-Renumber-clause-carried c = carried c.args.script.now c.in-Renumber.is _ _ (line_says c.renumber.result) c.renumber.ensures.renewed
