-- `put_link` meets its contract. Assumes nothing.
use borrow.Author.Rules.{rules}
use borrow.Author.Tests.{not-true, not-false}
use Prim.Native.Nat.{◌-◌}
use mathlib.Core.Path.{refl, sym, ap, ◌∙◌}
use mathlib.Core.Bool.{Bool, false, ◌&&◌}
use lib.ListN.{take, get_or}
use Rattle.rows_links.proofs.Links.{put_one, put_skip}
use Rattle.rows_links.proofs.put_link.Goals as goal

pub returns-then-not-is_marked : goal.returns-then-not-is_marked
returns-then-not-is_marked c =
    let m = c in
    let x = m in
    let a = x.args in
    put_skip (take a.n a.ids.now) a.at.now a.h a.k x.place-x.result _ x.place-x.ensures refl
    (sym m.is_marked.ensures ∙ c.if-not-is_marked.true) a.used a.xs.now a.ys.now

pub returns : goal.returns
returns c =
    let q = c in
    let k = q in
    let y = k in
    let i = y in
    let m = i in
    let x = m in
    let a = x.args in
    let e = sym (ap (λ (b : Bool). b && get_or a.at.now y.place-y.result false) (sym m.is_marked.ensures ∙ i.if-not-is_marked.false)) in
    put_one (take a.n a.ids.now) a.at.now a.h a.k x.place-x.result y.place-y.result x.place-x.ensures y.place-y.ensures
    k.is_marked-keep.result (k.is_marked-keep.ensures ∙ e) a.used a.xs.now a.ys.now q.put_pair.result _ _ q.put_pair.ensures
