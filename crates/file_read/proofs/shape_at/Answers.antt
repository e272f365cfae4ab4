-- `file_read::shape_at` meets its contract. Assumes nothing.
use Rattle.std.specs.Prelude.{Option, Some, None}
use Prim.Native.Nat.{ℕ, zero, suc}
use mathlib.Core.Path.{◌≡◌, refl, sym, subst}
use mathlib.Core.List.{List}
use native.Mathlib.Omega.{arith}
use borrow.Author.Rules.{rules}
use Rattle.number.specs.Readers.{bad}
use Rattle.store.specs.declared.Shape.{Shape}
use Rattle.file_read.specs.Heads.{read_shape, ShapeRead}
use Rattle.file_read.proofs.shape_at.Goals as goal

-- what the reader of a kind says, where the kind is that
of_kind : (s : List ℕ) (at kind k : ℕ) (r : Option (Shape × ℕ)) → kind ≡ k → ShapeRead (read_shape k) s at r → ShapeRead (read_shape kind) s at r
of_kind s at kind k r e h = subst (λ (m : ℕ). ShapeRead (read_shape m) s at r) (sym e) h

no_kind : (n : ℕ) (s : List ℕ) → (n ≡ 0 → ⊥) → (n ≡ 1 → ⊥) → (n ≡ 2 → ⊥) → (n ≡ 3 → ⊥) → read_shape n s ≡ bad
no_kind zero s a b c d = absurd (a refl)
no_kind (suc zero) s a b c d = absurd (b refl)
no_kind (suc (suc zero)) s a b c d = absurd (c refl)
no_kind (suc (suc (suc zero))) s a b c d = absurd (d refl)
no_kind (suc (suc (suc (suc n)))) s a b c d = refl

pub returns-in-0 : goal.returns-in-0
returns-in-0 c = of_kind c.args.s.now c.args.at c.args.kind 0 c.vertex_at.result c.in-0.is c.vertex_at.ensures

pub returns-in-1 : goal.returns-in-1
returns-in-1 c = of_kind c.args.s.now c.args.at c.args.kind 1 c.open_at.result c.in-1.is c.open_at.ensures

pub returns-in-2 : goal.returns-in-2
returns-in-2 c = of_kind c.args.s.now c.args.at c.args.kind 2 c.counted_at.result c.in-2.is c.counted_at.ensures

pub returns-in-3 : goal.returns-in-3
returns-in-3 c = of_kind c.args.s.now c.args.at c.args.kind 3 c.counted_at-in-3.result c.in-3.is c.counted_at-in-3.ensures

pub returns-in_default : goal.returns-in_default
returns-in_default c =
    (refl, no_kind c.args.kind _ (omega arith) (omega arith) (omega arith) (omega arith))
