-- `push_path` meets its contract. Assumes nothing.
use borrow.Author.Rules.{rules}
use mathlib.Core.Path.{refl}
use native.Mathlib.Omega.{arith}
use Rattle.rows_stretches.proofs.Paths.{path_room, lone_asks, lone_built, first_asks, second_asks, path_built}
use Rattle.kernel_paths.proofs.push_path.Goals as goal

pub push_lone-requires : goal.push_lone-requires
push_lone-requires c =
    let st = c in
    let whole = lone_asks st.requires in record {
      building = whole.0;
      cycles_in_bounds = whole.1.0;
      steps_in_bounds = whole.1.1;
    }

pub returns-then-m-eq0 : goal.returns-then-m-eq0
returns-then-m-eq0 c =
    let i = c in
    let st = i in
    lone_built st.requires _ refl i.if-m-eq0.true
    c.push_lone.ensures.built

pub copy_arc-mid-requires : goal.copy_arc-mid-requires
copy_arc-mid-requires c =
    let st = c in
    first_asks st.requires

pub copy_arc-requires : goal.copy_arc-requires
copy_arc-requires c =
    let y = c in
    let st = y in
    second_asks st.requires
    _ y.copy_arc-mid.result y.copy_arc-mid.ensures.value y.copy_arc-mid.ensures.pasted

pub close_path-requires : goal.close_path-requires
close_path-requires c =
    let i = c in
    let st = i in
    let r = path_room st.requires in
    let e = i.if-m-eq0.false in
    record {
      cycles_in_bounds = r.0;
      le_m = omega arith;
      m_bound = omega (arith, r.1.1, st.requires.building.steps_size);
    }

pub returns : goal.returns
returns c =
    let z = c in
    let y = z in
    let i = y in
    let st = i in
    path_built st.requires
    _ y.copy_arc-mid.result y.copy_arc-mid.ensures.value y.copy_arc-mid.ensures.pasted
    _ refl i.if-m-eq0.false z.copy_arc.ensures.pasted c.close_path.ensures.closes c.close_path.ensures.value
