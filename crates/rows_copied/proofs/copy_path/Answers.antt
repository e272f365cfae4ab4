-- `copy_path` meets its contract. Assumes nothing.
use borrow.Author.Rules.{rules}
use Prim.Native.Nat.{ℕ}
use mathlib.Core.Path.{◌≡◌, subst}
use native.Mathlib.Omega.{arith}
use lib.ListN.{take, drop}
use Rattle.rows_copied.specs.Copying.{copied_run}
use Rattle.rows_uses.proofs.Runs.{width_some}
use Rattle.rows_copied.proofs.Runs.{path_none, path_changed}
use Rattle.rows_copied.proofs.copy_path.Goals as goal

pub returns-then-c-eq0 : goal.returns-then-c-eq0
returns-then-c-eq0 c = let a = c.args in path_none a.each a.i a.next a.k a.c a.l.now c.if-c-eq0.true

pub copy_run-requires : goal.copy_run-requires
copy_run-requires c =
    let st = c in
    let w = width_some st.args.c c.if-c-eq0.false in
    record {
      n_in_bounds = omega (arith, c.wide.ensures, w, st.requires.c_in_bounds);
      next_le_ids_end = st.requires.next_le_ids_end;
      n_bound = omega (arith, c.wide.ensures, w, st.requires.c_bound);
    }

pub returns : goal.returns
returns c =
    let st = c in
    let a = st.args in
    let r = c.copy_run in
    let e = c.wide.ensures in
    path_changed a.each a.i a.next a.k a.c a.l.now r.new.l c.if-c-eq0.false r.auto.l
    (subst (λ (n : ℕ). take n r.new.l ≡ copied_run a.each a.i a.next a.k (take n a.l.now)) e r.ensures.l_after)
    (subst (λ (n : ℕ). drop n r.new.l ≡ drop n a.l.now) e r.ensures.l_unchanged)
