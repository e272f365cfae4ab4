-- `counts_at` meets its contract. Assumes nothing.
use Rattle.std.specs.Prelude.{Option, Some}
use Prim.Native.Nat.{ℕ, ◌≤◌}
use borrow.Author.Rules.{rules}
use mathlib.Core.Path.{◌≡◌, sym, ap, ◌∙◌}
use mathlib.Core.List.{List}
use lib.ListN.{length, drop}
use Rattle.number.specs.Readers.{got}
use Rattle.number.specs.Numbers.{read_number, number_says, number_at}
use Rattle.number.proofs.Laws.{value_at_lem, malformed_at}
use Rattle.file_read.proofs.Verdict.{no_next, no_count, too_many}
use Rattle.call_load.proofs.counts_at.Goals as goal

-- a number, and the place after it
number-found : (s : List ℕ) (at n next : ℕ) (r : Option (ℕ × ℕ)) → r ≡ Some (n, next) → number_says r ≡ number_at s at
    → (read_number (drop at s) ≡ got n (drop next s)) × (next ≤ length s)
number-found s at n next r e f = let v = value_at_lem s at n next (sym f ∙ ap number_says e) in (v.0, v.2)

-- the count of the cells, and the place after it
count-found : (s : List ℕ) (at n next w : ℕ) (r : Option (ℕ × ℕ)) → r ≡ Some (n, next) → number_says r ≡ number_at s at → w ≡ n
    → (read_number (drop at s) ≡ got w (drop next s)) × (next ≤ length s)
count-found s at n next w r e f g = let v = number-found s at n next r e f in (v.0 ∙ ap (λ m. got m (drop next s)) (sym g), v.1)

pub returns-in_default : goal.returns-in_default
returns-in_default c =
    let s = c.args.bytes.now in
    no_next s (malformed_at s 0 (sym c.read_number.ensures ∙ ap number_says c.in_default.is))

pub returns-in_default-read_number : goal.returns-in_default-read_number
returns-in_default-read_number c =
    let s = c.args.bytes.now in
    let g = c.in-Some in
    no_count s (drop g.a s) g.next (number-found s 0 g.next g.a _ g.is c.read_number.ensures).0
    (malformed_at s g.a (sym c.read_number-2.ensures ∙ ap number_says c.in_default-read_number.is))

pub returns-then-n-gt-CELLS_MOST : goal.returns-then-n-gt-CELLS_MOST
returns-then-n-gt-CELLS_MOST c =
    let s = c.args.bytes.now in
    let g = c.in-Some in
    let k = c.in-Some-read_number in
    too_many s (drop g.a s) g.next (number-found s 0 g.next g.a _ g.is c.read_number.ensures).0 c.wide-n.result (drop k.b s)
    (count-found s g.a k.count k.b c.wide-n.result _ k.is c.read_number-2.ensures c.wide-n.ensures).0 c.if-n-gt-CELLS_MOST.true

pub returns : goal.returns
returns c =
    let s = c.args.bytes.now in
    let g = c.in-Some in
    let k = c.in-Some-read_number in
    let f = count-found s g.a k.count k.b c.wide-n.result _ k.is c.read_number-2.ensures c.wide-n.ensures in
    record {
      after = _;
      first = (number-found s 0 g.next g.a _ g.is c.read_number.ensures).0;
      second = f.0;
      few = c.if-n-gt-CELLS_MOST.false;
      inside = f.1;
    }
