-- `cycle_turns` meets its contract. Assumes nothing.
use borrow.Author.Rules.{rules}
use mathlib.Core.Path.{◌∙◌}
use native.Mathlib.Omega.{arith}
use lib.ListN.{drop}
use Rattle.sound.specs.Rows.{rows_of}
use Rattle.ask_uncut_turns.specs.Turns.{turns_at}
use Rattle.sound.proofs.Walking.{width_some}
use Rattle.ask_uncut_turns.proofs.Turning.{lone_turns, path_turned}
use Rattle.ask_uncut_turns.proofs.cycle_turns.Goals as goal

pub returns-then-c-eq0 : goal.returns-then-c-eq0
returns-then-c-eq0 c =
    let a = c.args in
    lone_turns (turns_at (rows_of a.n a.ids.now a.kinds.now a.starts.now a.ends.now) a.whole a.v) (drop a.from a.steps.now)
    a.c c.if-c-eq0.true

pub path_turns-requires : goal.path_turns-requires
path_turns-requires c =
    let s = c in
    let p = s.requires in
    let w = width_some s.args.c c.if-c-eq0.false in
    let n = c.if-c-eq0.false in
    let e = c.wide.ensures in
    record {
      rowed = p.rowed;
      steps_len = p.steps_len;
      le_m = omega (arith, e, n);
      m_bound = omega (arith, e, w, p.c_bound);
    }

pub returns : goal.returns
returns c =
    let a = c.args in
    c.path_turns.ensures
    ∙ path_turned (turns_at (rows_of a.n a.ids.now a.kinds.now a.starts.now a.ends.now) a.whole a.v) (drop a.from a.steps.now)
    a.c c.if-c-eq0.false _ c.wide.ensures
