-- `round_asked` meets its contract. Assumes nothing.
use borrow.Author.Tests.{eq-eqb, ne_eqb}
use Prim.Native.Nat.{ℕ}
use mathlib.Core.Path.{◌≡◌, sym, ap, ◌∙◌}
use mathlib.Core.Bool.{Bool, true}
use mathlib.Core.List.{List}
use lib.Dec.{eqb}
use Rattle.complex.specs.Lists.{places}
use Rattle.decode_parts.specs.Lists.{numbers_read}
use Rattle.law_cut_face.proofs.Rounds.{no_none}
use Rattle.kind_cut_round.specs.Asking.{index_with}
use Rattle.kind_cut_round.proofs.round_asked.Goals as goal

-- k is the kind m
a_face : {k m : ℕ} → k ≡ m → k ≡ 3 → eqb m 3 ≡ true
a_face {k} e z = ap (λ (n : ℕ). eqb n 3) (sym e) ∙ eq-eqb k 3 z

-- whether the numbers ms rise below c, which is m
rises : (ms : List ℕ) {c m : ℕ} {b r : Bool} → c ≡ m → r ≡ places 0 ms c → r ≡ b → places 0 ms m ≡ b
rises ms e er z = ap (places 0 ms) (sym e) ∙ sym er ∙ z

pub returns : goal.returns
returns c =
    let a = c.args in
    let ms = numbers_read a.script.now a.place a.moved in
    no_none (index_with a.ids.now a.kinds.now a.counts.now) a.n a.f a.k ms (a_face c.value_at-kind.ensures c.if-kind-ne3.false)
    (ne_eqb a.k 0 c.if-k-eq0.false) (rises ms c.value_at-c.ensures c.moved_rise.ensures c.if-not-moved_rise.false)
