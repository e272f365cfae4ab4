-- `path_turns` meets its contract. The loop keeps: the whole test is the test of the passages left. Assumes nothing.
use borrow.Author.Rules.{rules}
use Prim.Native.Nat.{◌≤◌, ◌-◌}
use mathlib.Core.Path.{refl, sym, ◌∙◌}
use native.Mathlib.Omega.{arith}
use Rattle.sound.specs.Rows.{rows_of}
use Rattle.ask_uncut_turns.specs.Turns.{turns_at}
use Rattle.ask_uncut_turns.proofs.Turning.{Turning, turning_start, turning_found, turning_turn, turning_end}
use Rattle.ask_uncut_turns.proofs.path_turns.Goals as goal

pub loop-i-init : goal.loop-i-init
loop-i-init c =
    let a = c.args in
    (omega arith, turning_start _ a.steps.now a.from a.m _ (omega arith) (omega arith) refl)

pub turns_at-requires : goal.turns_at-requires
turns_at-requires c = c.requires.rowed

pub returns-then-turns_at : goal.returns-then-turns_at
returns-then-turns_at c =
    turning_found c.loop-i.invariant.1 (omega arith) (omega arith) (sym c.turns_at.ensures ∙ c.if-turns_at.true)

pub loop-i-preserved : goal.loop-i-preserved
loop-i-preserved c =
    let t = c.loop-i.invariant.1 in
    (omega arith, turning_turn t (omega arith) (omega arith) (sym c.turns_at.ensures ∙ c.if-turns_at.false))

pub turns_at-requires-2 : goal.turns_at-requires-2
turns_at-requires-2 c = c.requires.rowed

pub returns : goal.returns
returns c = c.turns_at-2.ensures ∙ turning_end c.loop-i.invariant.1 (omega arith) (omega arith)
