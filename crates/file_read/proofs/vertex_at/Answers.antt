-- `file_read::vertex_at` meets its contract. Assumes nothing.
use Prim.Native.Nat.{ℕ}
use mathlib.Core.Path.{refl, sym, ap, ◌∙◌}
use mathlib.Core.List.{List}
use borrow.Author.Rules.{rules}
use Rattle.number.specs.Readers.{Read, got}
use Rattle.coordinate.specs.declared.Position.{Position}
use Rattle.coordinate.specs.Positions.{located_says}
use Rattle.coordinate.proofs.Laws.{located_at_lem, short_at}
use Rattle.store.specs.declared.Shape.{Shape}
use Rattle.store.specs.declared.Shape.TheVariants.{Vertex}
use Rattle.file_read.proofs.Places.{first_bad, last_found}
use Rattle.file_read.proofs.vertex_at.Goals as goal

abbrev placed : Position → List ℕ → Read Shape
placed p t = got (Vertex p) t

pub returns-in_default : goal.returns-in_default
returns-in_default c =
    let r = c in
    let a = r.args in
    (refl, first_bad placed (short_at a.s.now a.at (sym r.read_position.ensures ∙ ap located_says c.in_default.is)))

pub returns : goal.returns
returns c =
    let r = c in
    let a = r.args in
    let l = located_at_lem a.s.now a.at _ _ (sym r.read_position.ensures ∙ ap located_says c.in-Some.is) in
    last_found placed (record { read = l.0; inside = l.2 }) refl
