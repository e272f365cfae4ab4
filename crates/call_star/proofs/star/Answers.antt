-- `star` meets its contract: questions 4 and 9 of sound arrays. Assumes nothing.
use borrow.Author.Rules.{rules}
use mathlib.Core.Path.{◌∙◌}
use Rattle.rows_star.proofs.Answers.{sound_rows, star_answer, star_of_sheet}
use Rattle.lent.specs.Arrays.{Arrays, held_by, rows_by, of_lists}
use Rattle.lent.proofs.Sums.{ready_drawing, ready_sizes, ready_indexes}
use Rattle.call_star.proofs.star.Goals as goal

abbrev arrays : (c : goal.After-slice_known-2-1) → Arrays
arrays c =
    let a = c.args in
    of_lists a.view.now.next a.view.now.count a.view.now.ids.now a.view.now.kinds.now a.view.now.starts.now a.view.now.ends.now a.view.now.bends.now a.view.now.counts.now a.view.now.px.now a.view.now.py.now a.view.now.cycles.now a.view.now.steps.now a.view.now.bx.now a.view.now.by.now

abbrev arrays_2 : (c : goal.After-star_rows-arg-1) → Arrays
arrays_2 c =
    let a = c.args in
    of_lists a.view.now.next a.view.now.count a.view.now.ids.now a.view.now.kinds.now a.view.now.starts.now a.view.now.ends.now a.view.now.bends.now a.view.now.counts.now a.view.now.px.now a.view.now.py.now a.view.now.cycles.now a.view.now.steps.now a.view.now.bx.now a.view.now.by.now

pub star_rows-requires : goal.star_rows-requires
star_rows-requires c =
    let s = c in
    let a = arrays_2 s in
    let t = s.args.t in
    sound_rows (held_by a) (ready_sizes a t s.requires) (rows_by a) (ready_indexes a t s.requires) (ready_drawing a t s.requires)

pub returns : goal.returns
returns c =
    let r = c in
    let s = r in
    let a = arrays s in
    let t = s.args.t in
    r.star_rows.ensures
    ∙ star_answer (held_by a) (ready_sizes a t s.requires) (rows_by a) (ready_indexes a t s.requires) (ready_drawing a t s.requires) s.args.id
    s.args.buffer.now
    ∙ star_of_sheet (held_by a) (ready_drawing a t s.requires) s.args.id s.args.buffer.now
