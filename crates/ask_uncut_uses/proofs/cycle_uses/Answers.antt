-- `cycle_uses` meets its contract. Assumes nothing.
use borrow.Author.Rules.{rules}
use mathlib.Core.Path.{◌∙◌}
use native.Mathlib.Omega.{arith}
use lib.ListN.{drop}
use Rattle.sound.proofs.Walking.{width_some}
use Rattle.ask_uncut_uses.proofs.Using.{lone_uses, path_used}
use Rattle.ask_uncut_uses.proofs.cycle_uses.Goals as goal

pub returns-then-c-eq0 : goal.returns-then-c-eq0
returns-then-c-eq0 c =
    let a = c.args in
    lone_uses a.x a.e a.face a.cycle (drop a.from a.steps.now) a.c c.if-c-eq0.true

pub path_uses-requires : goal.path_uses-requires
path_uses-requires c =
    let s = c in
    let w = width_some s.args.c c.if-c-eq0.false in
    record {
      steps_len = s.requires.steps_len;
      m_bound = omega (arith, c.wide.ensures, w, s.requires.c_bound);
    }

pub returns : goal.returns
returns c =
    let a = c.args in
    c.path_uses.ensures
    ∙ path_used a.x a.e a.face a.cycle (drop a.from a.steps.now) a.c c.if-c-eq0.false _ c.wide.ensures
