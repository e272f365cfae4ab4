-- `place_sum` meets its contract: after i counts the sum is of those. Assumes nothing.
use Prim.Native.Nat.{ℕ, ◌<◌, ◌+◌}
use mathlib.Core.Path.{◌≡◌, ap, ap₂, sym, ◌∙◌}
use mathlib.Core.List.{List}
use native.Mathlib.Omega.{arith}
use lib.ListN.{length, take, drop, get_or, length-drop}
use lib.Seq.{get_or-drop}
use Rattle.complex.specs.Lists.{total}
use Rattle.store.specs.Edits.{places_of}
use Rattle.store.proofs.Lists.{sum_more, sum_le}
use Rattle.rows_spans.proofs.place_sum.Goals as goal

-- one count more
more : (z from i sum k : ℕ) (counts : List ℕ) → sum ≡ total (places_of z) (take i (drop from counts)) → k ≡ places_of z (get_or counts (from + i) 0)
    → i < length (drop from counts) → sum + k ≡ total (places_of z) (take (i + 1) (drop from counts))
more z from i sum k counts e f h =
    ap₂ ◌+◌ e (f ∙ ap (places_of z) (sym (get_or-drop from counts i 0)))
    ∙ sym (sum_more (places_of z) (drop from counts) i 0 h)

pub overflow_add-sum : goal.overflow_add-sum
overflow_add-sum c =
    let a = c.args in
    let run = drop a.from a.counts.now in
    let w = length-drop a.from a.counts.now in
    let m = more a.z a.from c.loop-i.i c.loop-i.sum c.places-k.result a.counts.now c.loop-i.invariant.1 c.places-k.ensures (omega arith) in
    let h = sum_le (places_of a.z) run (c.loop-i.i + 1) a.n (omega arith) in
    record { fits = omega (arith, m, h, c.requires.counts_bound) }

pub loop-i-preserved : goal.loop-i-preserved
loop-i-preserved c =
    let a = c.args in
    let w = length-drop a.from a.counts.now in
    (omega arith, more a.z a.from c.loop-i.i c.loop-i.sum c.places-k.result a.counts.now c.loop-i.invariant.1 c.places-k.ensures (omega arith))

pub returns : goal.returns
returns c =
    let e : c.loop-i.i ≡ c.args.n = omega arith in
    rw e at c.loop-i.invariant.1
