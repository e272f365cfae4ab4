-- `rename_ends` meets its contract. Assumes nothing.
use borrow.Author.Rules.{rules}
use Prim.Native.Nat.{◌-◌, ◌<◌, ◌≤◌}
use native.Mathlib.Omega.{arith}
use mathlib.Core.Path.{◌≡◌}
use lib.ListN.{length, take}
use Rattle.kernel_rename.proofs.Ends.{Renaming, renaming_start, renaming_end, renaming_open, renaming_other}
use Rattle.kernel_renumber.specs.Renumbers.{new_id}
use Rattle.kernel_renumber.proofs.rename_ends.Goals as goal
use Rattle.kernel_renumber.proofs.rename_ends.Goals.{then-kinds-i-eq1, else-kinds-i-eq1}

pub loop-i-init : goal.loop-i-init
loop-i-init c =
    let a = c.args in
    let r = new_id (take a.n a.ids.now) in
    (omega arith, renaming_start r a.kinds.now a.starts.now, renaming_start r a.kinds.now a.ends.now)

pub loop-i-preserved : goal.loop-i-preserved
loop-i-preserved c =
    let at = c in
    let s = at in
    let a = s.args in
    let r = new_id (take a.n a.ids.now) in
    let few = s.requires.table.few in
    let hs : at.loop-i.i < length a.starts.now = omega (arith, few, s.requires.kinds_len.1) in
    let he : at.loop-i.i < length a.ends.now = omega (arith, few, s.requires.kinds_len.2) in
    let ps = at.loop-i.invariant.1 in
    let pe = at.loop-i.invariant.2 in
    elim c.if-kinds-i-eq1.branch [
      | then-kinds-i-eq1 w ↦ (
        omega arith,
        rw w.starts-is (renaming_open r a.kinds.now a.starts.now at.loop-i.i at.loop-i.starts ps hs w.if-kinds-i-eq1.true _ w.new_id.ensures),
        rw w.ends-is (renaming_open r a.kinds.now a.ends.now at.loop-i.i at.loop-i.ends pe he w.if-kinds-i-eq1.true _ w.new_id-then-kinds-i-eq1.ensures),
      )
      | else-kinds-i-eq1 w ↦ (
        omega arith,
        rw w.starts-is (renaming_other r a.kinds.now a.starts.now at.loop-i.i at.loop-i.starts ps w.if-kinds-i-eq1.false),
        rw w.ends-is (renaming_other r a.kinds.now a.ends.now at.loop-i.i at.loop-i.ends pe w.if-kinds-i-eq1.false),
      )
    ]

pub returns : goal.returns
returns c =
    let at = c in
    let a = at.args in
    let r = new_id (take a.n a.ids.now) in
    let e : at.loop-i.i ≡ a.n = omega arith in record {
      ends_renamed = renaming_end r a.kinds.now a.starts.now a.n at.loop-i.starts (rw e at at.loop-i.invariant.1);
      ends_renamed_2 = renaming_end r a.kinds.now a.ends.now a.n at.loop-i.ends (rw e at at.loop-i.invariant.2);
    }
