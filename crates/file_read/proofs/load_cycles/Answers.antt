-- `file_read::load_cycles` meets its contract. The loop's invariant: i cycles were read and put into the arrays. Assumes nothing.
use Prim.Native.Nat.{◌-◌, ◌≤◌}
use borrow.Author.Rules.{rules}
use native.Mathlib.Omega.{arith}
use mathlib.Core.Path.{refl, subst, ◌∙◌}
use lib.ListN.{drop}
use Rattle.number.specs.Readers.{times}
use Rattle.complex.specs.Decode.{read_cycle}
use Rattle.file_read.specs.Filling.{CyclesLoaded}
use Rattle.file_read.proofs.Loading.{Loading, loading_start, too_many, loading_sizes, loading_turn, loading_over, loading_end}
use Rattle.file_read.proofs.load_cycles.Goals as goal

pub overflow_sub-used : goal.overflow_sub-used
overflow_sub-used c = c.requires.cycles_le_cycles_most

pub returns-then-used-n : goal.returns-then-used-n
returns-then-used-n c =
    let a = c.args in
    (refl, too_many (drop a.at a.s.now) a.n a.used (omega arith))

pub loop-i-init : goal.loop-i-init
loop-i-init c =
    let st = c in
    let p = st.requires in
    (omega arith, loading_start _ _ _ _ _ _ p.at_in_bounds (omega arith) (omega arith))

pub load_cycle-requires : goal.load_cycle-requires
load_cycle-requires c =
    let at = c in
    let p = at.requires in
    let L = at.loop-i.invariant.1 in
    let z = loading_sizes _ _ _ _ _ _ _ _ _ _ _ L c.loop-i-test.true (omega (arith, p.cycles_len, at.if-used-n.false)) in
    record {
      cycles_len = L.counted.size ∙ p.cycles_len;
      steps_len = L.stepped.size ∙ p.steps_len;
      cycles_lt_cycles_most = omega (arith, z.0, p.cycles_len);
      steps_le_steps_most = omega (arith, z.1, p.steps_len);
    }

pub returns-in_default : goal.returns-in_default
returns-in_default c =
    let l = c in
    let at = l in
    let a = at.args in
    let L = at.loop-i.invariant.1 in (
      refl,
      loading_over _ _ _ _ _ _ _ _ _ _ _ L l.loop-i-test.true
          (subst (CyclesLoaded (times read_cycle 1 (drop at.loop-i.p a.s.now)) a.s.now at.loop-i.cycles at.loop-i.steps at.loop-i.u _ _)
          c.in_default.is l.load_cycle.ensures).1,
    )

pub loop-i-preserved : goal.loop-i-preserved
loop-i-preserved c =
    let l = c in
    let at = l in
    let a = at.args in
    let L = at.loop-i.invariant.1 in (
      omega arith,
      loading_turn _ _ _ _ _ _ _ _ _ _ _ L _ _ _ _ l.loop-i-test.true
          (subst (CyclesLoaded (times read_cycle 1 (drop at.loop-i.p a.s.now)) a.s.now at.loop-i.cycles at.loop-i.steps at.loop-i.u _ _)
          c.in-Some.is l.load_cycle.ensures),
    )

pub shape_of-cycles : goal.shape_of-cycles
shape_of-cycles c = c.loop-i.invariant.1.counted.size

pub shape_of-steps : goal.shape_of-steps
shape_of-steps c = c.loop-i.invariant.1.stepped.size

pub returns : goal.returns
returns c = loading_end _ _ _ _ _ _ _ _ _ _ _ c.loop-i.invariant.1 (omega arith)
