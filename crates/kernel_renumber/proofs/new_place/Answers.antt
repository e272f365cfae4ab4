-- `new_place` meets its contract. Assumes nothing.
use borrow.Author.Rules.{rules}
use Prim.Native.Nat.{ℕ, ◌+◌, ◌*◌, ◌/◌, ◌%◌, ◌≤◌}
use native.Mathlib.Omega.{arith}
use mathlib.Core.Path.{sym, ap, ◌∙◌}
use mathlib.Core.Bool.{Bool}
use lib.ListN.{take}
use Rattle.kernel_renumber.specs.Renumbers.{new_id, new_place}
use Rattle.kernel_renumber.proofs.Places.{id_small}
use Rattle.kernel_renumber.proofs.new_place.Goals as goal

small : (c : goal.After-new_id-e) → c.new_id-e.result ≤ 257
small c =
    let s = c in
    let a = s.args in
    omega (arith, c.new_id-e.ensures, id_small a.n a.table.now a.ids.now s.requires (a.s / 2))

pub returns-then-lone : goal.returns-then-lone
returns-then-lone c =
    let s = c in
    let r = new_id (take s.args.n s.args.ids.now) in
    c.new_id-v.ensures ∙ sym (ap (λ (m : Bool). new_place r m s.args.s) c.if-lone.true)

pub overflow_mul-result : goal.overflow_mul-result
overflow_mul-result c = record { fits = omega (arith, small c) }

pub overflow_add-result : goal.overflow_add-result
overflow_add-result c = record { fits = omega (arith, small c) }

pub returns : goal.returns
returns c =
    let s = c in
    let r = new_id (take s.args.n s.args.ids.now) in
    ap (λ (e : ℕ). e * 2 + s.args.s % 2) c.new_id-e.ensures ∙ sym (ap (λ (m : Bool). new_place r m s.args.s) c.if-lone.false)
