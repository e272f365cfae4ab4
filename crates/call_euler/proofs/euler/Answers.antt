-- `euler` meets its contract. Assumes nothing.
use borrow.Author.Rules.{rules}
use mir.Syntax.{w32}
use mir.ValLaws.{to_z-of_z}
use mathlib.Core.Path.{refl, ◌∙◌}
use native.Mathlib.Omega.{arith}
use Rattle.rows_marks.proofs.Marking.{counts_sum}
use Rattle.rows_euler.proofs.Meaning.{euler_meant}
use Rattle.lent.specs.Arrays.{Arrays, held_by, rows_by, totals_of, of_lists}
use Rattle.lent.specs.Replies.{Ready}
use Rattle.lent.proofs.Sums.{ready_sizes, ready_fits, ready_indexes}
use Rattle.call_euler.proofs.euler.Goals as goal

abbrev arrays : (c : goal.After-euler_rows) → Arrays
arrays c =
    let a = c.args in
    of_lists a.view.now.next a.view.now.count a.view.now.ids.now a.view.now.kinds.now a.view.now.starts.now a.view.now.ends.now a.view.now.bends.now a.view.now.counts.now a.view.now.px.now a.view.now.py.now a.view.now.cycles.now a.view.now.steps.now a.view.now.bx.now a.view.now.by.now

abbrev arrays_2 : (c : goal.After-known) → Arrays
arrays_2 c =
    let a = c.args in
    of_lists a.view.now.next a.view.now.count a.view.now.ids.now a.view.now.kinds.now a.view.now.starts.now a.view.now.ends.now a.view.now.bends.now a.view.now.counts.now a.view.now.px.now a.view.now.py.now a.view.now.cycles.now a.view.now.steps.now a.view.now.bx.now a.view.now.by.now

-- ready, with the lengths that are known
ready : (k : goal.After-euler_rows) → Ready (arrays k) (totals_of (arrays k))
ready k = record { sound = k.requires; long = k.known.ensures; sums = refl }

ready_2 : (k : goal.After-known) → Ready (arrays_2 k) (totals_of (arrays_2 k))
ready_2 k = record { sound = k.requires; long = k.known.ensures; sums = refl }

pub euler_rows-requires : goal.euler_rows-requires
euler_rows-requires c =
    let a = arrays_2 c in
    let t = totals_of a in
    let f = ready_fits a t (ready_2 c) in
    record {
      n_bound = f.cells;
      kinds_len = search rules;
      counts_len = search rules;
      counts_bound = omega (arith, counts_sum (held_by a) (rows_by a) (ready_indexes a t (ready_2 c)), f.cycles);
    }

pub returns : goal.returns
returns c =
    let k = c in
    let a = arrays k in
    let t = totals_of a in
    to_z-of_z w32 c.euler_rows.result (record { sfits = c.euler_rows.type_inv })
    ∙ c.euler_rows.ensures
    ∙ euler_meant (held_by a) (ready_sizes a t (ready k)) (ready_fits a t (ready k)) (rows_by a) (ready_indexes a t (ready k))
