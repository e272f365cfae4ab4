-- `file_length::shape_length` meets its contract. Assumes nothing.
use Prim.Native.Nat.{ℕ, ◌+◌, ◌≤◌}
use mathlib.Core.Path.{◌≡◌, ap, sym, ◌∙◌, subst}
use mathlib.Core.Bool.{◌&&◌}
use native.Mathlib.Omega.{arith}
use lib.Dec.{T, ltb→lt}
use lib.Ieee.Fits.{and_l, and_r}
use Rattle.number.specs.Numbers.{numbers_end}
use Rattle.store.specs.declared.Shape.{Shape}
use Rattle.store.specs.declared.Shape.TheVariants.{Open}
use Rattle.file_parts.specs.Parts.{spells}
use Rattle.file_length.specs.Widths.{shape_spells, shape_width}
use Rattle.file_length.proofs.Lengths.{width_most}
use borrow.Author.Rules.{rules}
use Rattle.file_length.proofs.shape_length.Goals as goal

open_spells : (s : Shape) (a b n : ℕ) → s ≡ Open a b n → T (shape_spells s) → T (spells a) × T (spells b) × T (spells n)
open_spells s a b n e t =
    let u = subst (λ (x : Shape). T (shape_spells x)) e t in
    let v = and_r (spells a) (spells b && spells n) u in
    (and_l (spells a) (spells b && spells n) u, and_l (spells b) (spells n) v, and_r (spells b) (spells n) v)

-- a number takes at most three bytes
small : (c : goal.After-number_width-n) → (c.number_width-a.result ≤ 3) × (c.number_width-b.result ≤ 3) × (c.number_width-n.result ≤ 3)
small c =
    let g = c.in-Open in (
      omega (arith, width_most g.start, c.number_width-a.ensures),
      omega (arith, width_most g.end, c.number_width-b.ensures),
      omega (arith, width_most g.bends, c.number_width-n.ensures),
    )

pub number_width-a-requires : goal.number_width-a-requires
number_width-a-requires c =
    let g = c.in-Open in
    ltb→lt g.start numbers_end (open_spells c.args.s g.start g.end g.bends g.is c.requires).0

pub number_width-b-requires : goal.number_width-b-requires
number_width-b-requires c =
    let g = c.in-Open in
    ltb→lt g.end numbers_end (open_spells c.args.s g.start g.end g.bends g.is c.requires).1

pub number_width-n-requires : goal.number_width-n-requires
number_width-n-requires c =
    let g = c.in-Open in
    ltb→lt g.bends numbers_end (open_spells c.args.s g.start g.end g.bends g.is c.requires).2

pub overflow_add-result : goal.overflow_add-result
overflow_add-result c = let k = small c in record { fits = omega arith }

pub overflow_add-result-in-Open : goal.overflow_add-result-in-Open
overflow_add-result-in-Open c = let k = small c in record { fits = omega arith }

pub number_width-requires : goal.number_width-requires
number_width-requires c = ltb→lt c.in-Closed.bends numbers_end (subst (λ (t : Shape). T (shape_spells t)) c.in-Closed.is c.requires)

pub number_width-requires-in-Face : goal.number_width-requires-in-Face
number_width-requires-in-Face c =
    ltb→lt c.in-Face.cycles numbers_end (subst (λ (t : Shape). T (shape_spells t)) c.in-Face.is c.requires)

pub returns-in-Open : goal.returns-in-Open
returns-in-Open c =
    (λ i. c.number_width-a.ensures i + (c.number_width-b.ensures i + c.number_width-n.ensures i)) ∙ sym (ap shape_width c.in-Open.is)

pub returns-in-Closed : goal.returns-in-Closed
returns-in-Closed c = c.number_width.ensures ∙ sym (ap shape_width c.in-Closed.is)

pub returns-in-Face : goal.returns-in-Face
returns-in-Face c = c.number_width-in-Face.ensures ∙ sym (ap shape_width c.in-Face.is)
