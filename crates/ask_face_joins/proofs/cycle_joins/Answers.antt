-- `cycle_joins` meets its contract. Assumes nothing.
use native.Mathlib.Omega.{arith}
use mathlib.Core.Path.{refl}
use mathlib.Core.Bool.{false}
use Rattle.sound.specs.Rows.{Rows, rows_of}
use Rattle.script.proofs.Loads.{length_stands}
use Rattle.ask_face_named.proofs.Passing.{walked_as, stands_one, stands_some, reach_lone, reach_path, passes_lone, passes_joined, rowed_valued}
use Rattle.ask_face_joins.proofs.cycle_joins.Goals as goal

abbrev rows : goal.After-path_joins → Rows
rows st = rows_of st.args.n st.args.ids.now st.args.kinds.now st.args.starts.now st.args.ends.now

abbrev rows_2 : goal.After-lone_named → Rows
rows_2 st = rows_of st.args.n st.args.ids.now st.args.kinds.now st.args.starts.now st.args.ends.now

pub take_number-size-requires : goal.take_number-size-requires
take_number-size-requires c = length_stands c.requires.stand (omega arith)

pub lone_named-requires : goal.lone_named-requires
lone_named-requires c =
    let st = c in
    record {
      stand = stands_one c.take_number-size.ensures st.requires.stand c.if-m-eq0.true;
      valued = rowed_valued st.requires.hinted.rows;
    }

pub returns-then-m-eq0 : goal.returns-then-m-eq0
returns-then-m-eq0 c =
    let t = c in
    let st = t in
    let z = c.if-m-eq0.true in
    let e = passes_lone t.take_number-size.ensures st.requires.stand (rows_2 st) false z _ refl in
    record {
      walked = walked_as e (reach_lone t.take_number-size.ensures z) c.lone_named.ensures;
      hints_len = st.requires.hinted.hints;
    }

pub path_joins-requires : goal.path_joins-requires
path_joins-requires c =
    let t = c in
    let st = t in
    let z = c.if-m-eq0.false in
    record {
      stand = stands_some t.take_number-size.ensures st.requires.stand z;
      le_m = omega arith;
      hinted = st.requires.hinted;
    }

pub returns : goal.returns
returns c =
    let t = c in
    let st = t in
    let z = c.if-m-eq0.false in
    let e = passes_joined t.take_number-size.ensures st.requires.stand (rows st) false z refl _ refl in
    record {
      walked = walked_as e (reach_path t.take_number-size.ensures z) c.path_joins.ensures.walked;
      hints_len = c.path_joins.ensures.hints_len;
    }
