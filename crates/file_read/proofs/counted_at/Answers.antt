-- `file_read::counted_at` meets its contract. Assumes nothing.
use mathlib.Core.Path.{refl, sym, ap, ◌∙◌}
use mathlib.Core.Bool.{cond}
use borrow.Author.Rules.{rules}
use Rattle.number.specs.Numbers.{number_says}
use Rattle.store.specs.declared.Shape.TheVariants.{Closed, Face}
use Rattle.file_read.proofs.Places.{number_bad, face_found, closed_found}
use Rattle.file_read.proofs.counted_at.Goals as goal

pub returns-in_default : goal.returns-in_default
returns-in_default c =
    let r = c in
    let a = r.args in
    (refl, number_bad (λ n. cond a.face (Face n) (Closed n)) a.s.now a.at (sym r.read_number.ensures ∙ ap number_says c.in_default.is))

pub returns-then-face : goal.returns-then-face
returns-then-face c =
    let k = c in
    let r = k in
    let a = r.args in
    face_found a.s.now a.at _ _ (sym r.read_number.ensures ∙ ap number_says k.in-Some.is) a.face c.if-face.true

pub returns : goal.returns
returns c =
    let k = c in
    let r = k in
    let a = r.args in
    closed_found a.s.now a.at _ _ (sym r.read_number.ensures ∙ ap number_says k.in-Some.is) a.face c.if-face.false
