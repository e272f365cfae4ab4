-- The cycles of a span but one, by flags. Assumes nothing.
use Prim.Native.Nat.{ℕ, ◌<◌}
use mathlib.Core.Path.{◌≡◌, refl, ap, sym, ◌∙◌}
use mathlib.Core.Bool.{Bool, true, false, ◌||◌}
use mathlib.Core.List.{List, [], ◌++◌}
use native.Mathlib.Omega.{arith}
use lib.Dec.{eqb}
use lib.ListN.{take, get_or, set, replicate, length-set, length-replicate, get_or-replicate}
use lib.Seq.{get_or-set_same, get_or-set_other}
use borrow.Author.Tests.{eqb-true, eqb-false}
use Rattle.complex.specs.Lists.{one, without}
use Rattle.store.specs.Edits.{kept}
use Rattle.script.specs.Walks.{Marks}
use Rattle.rows_spans.specs.declared.Used.{Used}
use Rattle.rows_spans.specs.declared.Spans.{Spans}
use Rattle.rows_spans.specs.Building.{Built, built}
use Rattle.rows_corners.specs.Faces.{Within, cycles_at}
use Rattle.rows_corners.proofs.Lists.{at_length, built_as, built_then}
use Rattle.rows_corners.proofs.Moved.{without_kept}

abbrev one_flag : ℕ → List Bool
one_flag c = set (replicate 512 false) c true

one_marks : (c : ℕ) → c < 512 → Marks (one c) (one_flag c)
one_marks c h =
    let l = length-replicate 512 false in
    record {
      size = length-set (replicate 512 false) c true ∙ l;
      at = λ i k. go i k (eqb i c) refl;
    }
  where
    go : (i : ℕ) → i < 512 → (b : Bool) → eqb i c ≡ b → get_or (one_flag c) i false ≡ b || false
    go i k true e =
        let l = length-replicate 512 false in
        ap (λ (n : ℕ). get_or (one_flag c) n false) (eqb-true i c e) ∙ get_or-set_same (replicate 512 false) c true false (omega arith)
    go i k false e = get_or-set_other (replicate 512 false) c i true false (eqb-false i c e) ∙ get_or-replicate 512 i false false k

module _ (cycles steps : List ℕ) (t : Spans) (w : Within cycles steps t) (c : ℕ) (h : c < t.cycles.count) where
  marks : Marks (one c) (one_flag c)
  marks = one_marks c (let i = w.in_cycles in omega arith)

  pub but_built : {counts₀ counts₁ : List ℕ} {u₀ u₁ : Used} {out₀ out₁ : List ℕ} → Built [] counts₀ u₀ out₀
      → Built (built counts₀ u₀ out₀ ++ kept (take t.cycles.count (one_flag c)) (cycles_at cycles steps t)) counts₁ u₁ out₁
      → Built (without (one c) 0 (cycles_at cycles steps t)) counts₁ u₁ out₁
  but_built {counts₀} {counts₁} {u₀} {u₁} {out₀} {out₁} b₀ b₁ =
      let ks = cycles_at cycles steps t in
      let l = at_length cycles steps t w in
      let i = w.in_cycles in
      built_as (sym (without_kept (one c) (one_flag c) marks ks (omega arith) ∙ ap (λ (n : ℕ). kept (take n (one_flag c)) ks) l))
      (built_then (kept (take t.cycles.count (one_flag c)) ks) b₀ b₁)
