-- `load_parts` meets its contract. Assumes nothing.
use borrow.Author.Rules.{rules}
use native.Mathlib.Omega.{arith}
use mathlib.Core.Path.{◌≡◌, refl, ◌∙◌}
use Rattle.store.specs.View.{bend_count, cycle_count}
use Rattle.file_read.proofs.ShapeParts.{too_many_bends, too_few_bytes}
use Rattle.call_load.proofs.Loads.{parts_stored}
use Rattle.call_load.proofs.load_parts.Goals as goal

-- the counts of the shape
counts :
    (c : goal.After-load_cycles) →
    let x = c.args.shape in
    (c.wide-b.result ≡ bend_count x) × (c.wide-k.result ≡ cycle_count x)
counts c = (c.wide-b.ensures ∙ c.bend_count.ensures, c.wide-k.ensures ∙ c.cycle_count.ensures)

counts_2 :
    (c : goal.Then-s-first) →
    let x = c.args.shape in
    (c.wide-b.result ≡ bend_count x) × (c.wide-k.result ≡ cycle_count x)
counts_2 c = (c.wide-b.ensures ∙ c.bend_count.ensures, c.wide-k.ensures ∙ c.cycle_count.ensures)

counts_3 :
    (c : goal.Then-used-b) →
    let x = c.args.shape in
    (c.wide-b.result ≡ bend_count x) × (c.wide-k.result ≡ cycle_count x)
counts_3 c = (c.wide-b.ensures ∙ c.bend_count.ensures, c.wide-k.ensures ∙ c.cycle_count.ensures)

pub returns-then-used-b : goal.returns-then-used-b
returns-then-used-b c =
    let w = c in
    let st = w in
    let a = st.args in
    (refl, too_many_bends a.s.now a.first a.shape a.used _ (counts_3 w).0 (omega (arith, c.if-used-b.true, st.requires.load_room.bends_fit)))

pub returns-then-s-first : goal.returns-then-s-first
returns-then-s-first c =
    let w = c in
    let st = w in
    let a = st.args in
    (refl, too_few_bytes a.s.now a.first a.shape a.used _ (counts_2 w).0 st.requires.first_in_bounds (omega (arith, c.if-s-first.true, st.requires.first_in_bounds)))

pub returns : goal.returns
returns c =
    let i = c in
    let w = i in
    let st = w in
    let a = st.args in
    let n = counts w in
    parts_stored a.s.now a.first a.shape a.cycles.now a.steps.now a.used _ _ c.load_cycles.result
    w.wide-b.result w.wide-k.result n.0 n.1
    (omega (arith, i.if-s-first.false, st.requires.first_in_bounds)) (omega (arith, i.if-used-b.false, st.requires.load_room.bends_fit)) c.load_cycles.ensures
