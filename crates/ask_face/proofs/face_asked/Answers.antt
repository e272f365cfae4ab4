-- `face_asked` meets its contract. Assumes nothing.
use borrow.Author.Rules.{rules}
use mathlib.Core.Path.{sym, ◌∙◌}
use Rattle.sound.specs.Rows.{rows_of}
use Rattle.decode_parts.specs.Lists.{cycles_read}
use Rattle.ask_face_named.proofs.Passing.{cycles_named, rowed_valued}
use Rattle.ask_face.proofs.Meaning.{no_four, no_six, no_zero}
use Rattle.ask_face.proofs.face_asked.Goals as goal

pub returns-then-cycles_join : goal.returns-then-cycles_join
returns-then-cycles_join c =
    let a = c.args in
    let t = rows_of a.n a.ids.now a.kinds.now a.starts.now a.ends.now in
    let ks = cycles_read a.script.now a.first a.k in
    let e = sym c.cycles_join.ensures ∙ c.if-cycles_join.true in
    no_zero t ks (cycles_named t ks e) e

pub cycles_named-requires : goal.cycles_named-requires
cycles_named-requires c = let p = c.requires in record {
  stand = p.stand;
  valued = rowed_valued p.rowed;
}

pub returns-then-cycles_named : goal.returns-then-cycles_named
returns-then-cycles_named c =
    let j = c in
    let a = j.args in
    let t = rows_of a.n a.ids.now a.kinds.now a.starts.now a.ends.now in
    no_six t (cycles_read a.script.now a.first a.k) (sym c.cycles_named.ensures ∙ c.if-cycles_named.true)
    (sym j.cycles_join.ensures ∙ j.if-cycles_join.false)

pub returns : goal.returns
returns c =
    let a = c.args in
    let t = rows_of a.n a.ids.now a.kinds.now a.starts.now a.ends.now in
    no_four t (cycles_read a.script.now a.first a.k) (sym c.cycles_named.ensures ∙ c.if-cycles_named.false)
