-- `coordinate::put_position` meets its contract: one run of stores after another. Assumes nothing.
use borrow.Author.Rules.{rules}
use mathlib.Core.Path.{refl, sym, ap, ◌∙◌}
use mathlib.Core.List.{List}
use Prim.Native.Nat.{ℕ, ◌+◌}
use lib.Seq.{sets}
use Rattle.coordinate.specs.Positions.{coordinate_bytes}
use Rattle.coordinate.proofs.Laws.{eight_bytes}
use Rattle.coordinate.proofs.Bytes.{sets_append}
use Rattle.coordinate.proofs.Within.{within_not_nan}
use Rattle.coordinate.proofs.put_position.Goals as goal

pub put_coordinate-requires : goal.put_coordinate-requires
put_coordinate-requires c =
    let start = c.before.before in
    record {
      t = (within_not_nan start.args.p start.requires.t).0;
      at_in_bounds = search rules;
    }

pub put_coordinate-requires-2 : goal.put_coordinate-requires-2
put_coordinate-requires-2 c =
    let start = c.before.before.before.before.before.before in
    record {
      t = (within_not_nan start.args.p start.requires.t).1;
      at_in_bounds = search rules;
    }

pub returns : goal.returns
returns c =
    let start = c.before.before.before.before.before.before.before.before.before in
    let first = c.before.before.before.before.before.before.put_coordinate in
    let p = start.args.p in
    let at = start.args.at in
    let x = coordinate_bytes p.x in
    let y = coordinate_bytes p.y in (
      refl,
      c.before.before.put_coordinate-2.ensures
          ∙ ap (λ (l : List ℕ). sets l (at + 8) y) first.ensures
          ∙ ap (λ (n : ℕ). sets (sets start.args.out.now at x) (at + n) y) (sym (eight_bytes p.x))
          ∙ sets_append start.args.out.now at x y,
    )
