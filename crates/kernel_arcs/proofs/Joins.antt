-- Two cycles as one, put down after a list in lent arrays. Assumes nothing.
use Prim.Native.Nat.{ℕ, ◌+◌, ◌*◌, ◌<◌, ◌≤◌}
use mathlib.Core.Path.{◌≡◌, ap, ap₂, sym, subst, ◌∙◌}
use mathlib.Core.List.{List, ◌++◌, map, append_assoc}
use native.Mathlib.Omega.{arith}
use native.Mathlib.Numerals.{add-one}
use lib.ListN.{length, take, drop, set, length-append, length-set}
use lib.Seq.{length-take-le, take_all, take_at, drop_at, take-suc-set}
use Rattle.complex.specs.Lists.{one}
use Rattle.complex.specs.Cells.{Halfedge, Cycle, path}
use Rattle.store.specs.View.{halfedge_of, width}
use Rattle.rows_spans.specs.declared.Used.{Used}
use Rattle.rows_spans.specs.Building.{Building, Built, built, more_cycle, Closes}
use Rattle.rows_spans.proofs.Building.{built_same}
use Rattle.rows_spans.proofs.Splicing.{run_take}
use Rattle.rows_corners.specs.Arcs.{arc_of, Arc, Pasted}
use Rattle.rows_corners.proofs.Lists.{built_as}
use Rattle.rows_split.specs.declared.Place.{Place}
use Rattle.rows_split.specs.Parts.{cycle_at, bridge_cycle, Joining}
use Rattle.rows_split.proofs.Arcs.{corner_most}
use Rattle.rows_split.proofs.Places.{steps_within}
use Rattle.rows_split.proofs.Bridges.{length1, length2, joined_steps}

-- ---- numbers put down one run after another
pasted_then : {out₀ out₁ out₂ xs ys : List ℕ} {at mid : ℕ} → Pasted out₀ at xs out₁ → mid ≡ at + length xs → Pasted out₁ mid ys out₂
    → Pasted out₀ at (xs ++ ys) out₂
pasted_then {out₀} {out₁} {out₂} {xs} {ys} {at} {mid} a e b =
    let l = length-append xs ys in
    let n : at + length (xs ++ ys) ≡ mid + length ys = omega arith in
    record {
      size = b.size ∙ a.size;
      front =
          ap (λ (k : ℕ). take k out₂) n ∙ b.front ∙ ap (λ (x : List ℕ). x ++ ys) (ap (λ (k : ℕ). take k out₁) e ∙ a.front)
          ∙ append_assoc (take at out₀) xs ys;
    }

pasted_step : {out out' : List ℕ} {at v : ℕ} → at < length out → out' ≡ set out at v → Pasted out at (one v) out'
pasted_step {out} {out'} {at} {v} h e =
    record {
      size = ap length e ∙ length-set out at v;
      front = ap₂ take (add-one at) e ∙ take-suc-set out at v h;
    }

-- k numbers put down after a list, as a cycle more
pasted_closed : {numbers places out xs numbers' : List ℕ} {u u' : Used} {k : ℕ} → Building numbers u places → Pasted places u.steps xs out → length xs ≡ k
    → u.steps + k ≤ length places → Closes numbers u k numbers' → u' ≡ more_cycle u k
    → Built (built numbers u places ++ one (path (map halfedge_of xs))) numbers' u' out
pasted_closed {numbers} {places} {out} {xs} {numbers'} {u} {u'} {k} b p l h c e =
    let j = u.steps in
    let zo = p.size in
    let lt = length-take-le j places (omega arith) in
    let keep : take j out ≡ take j places =
    sym (run_take j 0 (j + length xs) out (omega arith)) ∙ ap (take j) p.front ∙ take_at (take j places) xs j lt in
    let put : take k (drop j out) ≡ xs =
    sym (run_take k j (j + length xs) out (omega arith)) ∙ ap (λ (q : List ℕ). take k (drop j q)) p.front
    ∙ ap (take k) (drop_at (take j places) xs j lt) ∙ take_all k xs (omega arith) in
    let s = built_same numbers u places b out zo keep in
    subst (λ (v : Used). Built (built numbers u places ++ one (path (map halfedge_of xs))) numbers' v out) (sym e)
    (built_as (ap₂ (λ (q : List Cycle) (y : List ℕ). q ++ one (path (map halfedge_of y))) s.list put) (c.list out s.building (omega arith)))

-- ---- the joined cycle
module _ {steps : List ℕ} {p : Place} {s1 : ℕ} {q : Place} {s2 e : ℕ} (j : Joining steps p s1 q s2 e) {numbers places : List ℕ} {u : Used}
    (b : Building numbers u places) (room : u.steps + (p.m + q.m + 2) ≤ length places) where
  abbrev arc1 : List ℕ
  arc1 = arc_of steps p.at p.m s1 p.m

  abbrev arc2 : List ℕ
  arc2 = arc_of steps q.at q.m s2 q.m

  arc_asks : (r : Place) (s : ℕ) {out : List ℕ} {at : ℕ} → r.at + width r.m ≤ 2048 → s < width r.m → at + r.m ≤ length out
      → Arc steps r.at r.m s r.m out at
  arc_asks r s h k l =
      let w = steps_within steps j.steps_size r h in
      record {
        steps_size = j.steps_size;
        cycle = omega (arith, j.steps_size);
        start = corner_most r.m s k;
        least = omega arith;
        room = l;
      }

  pub first_asks : Arc steps p.at p.m s1 p.m places u.steps
  first_asks = arc_asks p s1 j.start j.start_corner (omega arith)

  module _ {out₁ : List ℕ} {mid : ℕ} (em : mid ≡ u.steps + p.m) (f₁ : Pasted places u.steps arc1 out₁) where
    pub put_asks : mid < length out₁
    put_asks = omega (arith, f₁.size)

    module _ {out₂ : List ℕ} {next : ℕ} (en : next ≡ mid + 1) (f₂ : out₂ ≡ set out₁ mid (2 * e)) where
      with_one : Pasted places u.steps (arc1 ++ one (2 * e)) out₂
      with_one = let l = length1 j in pasted_then f₁ (omega arith) (pasted_step put_asks f₂)

      pub second_asks : Arc steps q.at q.m s2 q.m out₂ next
      second_asks = arc_asks q s2 j.end j.end_corner (omega (arith, with_one.size))

      module _ {out₃ : List ℕ} {last : ℕ} (el : last ≡ next + q.m) (f₃ : Pasted out₂ next arc2 out₃) where
        with_both_lem : Pasted places u.steps ((arc1 ++ one (2 * e)) ++ arc2) out₃
        with_both_lem = let l = length1 j in pasted_then with_one (omega (arith, length-append arc1 (one (2 * e)))) f₃

        pub last_asks : last < length out₃
        last_asks = omega (arith, with_both_lem.size)

        pub joined_built : {out₄ numbers' : List ℕ} {u' : Used} → out₄ ≡ set out₃ last (2 * e + 1) → Closes numbers u (p.m + q.m + 2) numbers'
            → u' ≡ more_cycle u (p.m + q.m + 2) → Built (built numbers u places ++ one (bridge_cycle e s1 (cycle_at steps p) s2 (cycle_at steps q))) numbers' u'
            out₄
        joined_built f₄ cl eu =
            let l1 = length1 j in
            let l2 = length2 j in
            let la = length-append arc1 (one (2 * e)) in
            let lb = length-append (arc1 ++ one (2 * e)) arc2 in
            let lc = length-append ((arc1 ++ one (2 * e)) ++ arc2) (one (2 * e + 1)) in
            built_as (ap (λ (l : List Halfedge). built numbers u places ++ one (path l)) (joined_steps j))
            (pasted_closed b (pasted_then with_both_lem (omega arith) (pasted_step last_asks f₄)) (omega arith) room cl eu)
