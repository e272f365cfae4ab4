-- Lists of cycles copied from the spans of a face. Assumes nothing.
use Prim.Native.Nat.{ℕ, zero, suc, ◌+◌, ◌*◌, ◌<◌, ◌≤◌}
use mathlib.Core.Path.{◌≡◌, refl, ap, ap₂, sym, subst₂, ◌∙◌}
use mathlib.Core.Bool.{Bool, true, false, cond}
use mathlib.Core.List.{List, [], ◌∷◌, ◌++◌, map}
use native.Mathlib.Omega.{arith}
use lib.ListN.{length, take, drop, set, replicate, length-drop, length-set}
use lib.Seq.{length-take-le}
use Rattle.complex.specs.Lists.{one, rotated}
use Rattle.complex.specs.Cells.{Cycle, path, along, against}
use Rattle.store.specs.View.{halfedge_of, width, width_sum}
use Rattle.store.specs.Edits.{kept}
use Rattle.store.proofs.Encode.{length_cycles, halves}
use Rattle.store.proofs.Lists.{map_append}
use Rattle.rows_spans.specs.declared.Used.{Used}
use Rattle.rows_spans.specs.declared.Spans.{Spans}
use Rattle.rows_spans.specs.Building.{Building, Built, built, more_cycle, Closes}
use Rattle.rows_spans.proofs.Building.{built_set}
use Rattle.rows_spans.proofs.Splicing.{run_set}
use Rattle.rows_corners.specs.Faces.{Within, cycles_at}

-- ---- parts of a list, each element changed
module _ {A B : Type 0} (f : A → B) where
  pub take_map : (n : ℕ) (l : List A) → take n (map f l) ≡ map f (take n l)
  take_map zero l = refl
  take_map (suc n) [] = refl
  take_map (suc n) (x ∷ l) = ap (λ (r : List B). f x ∷ r) (take_map n l)

  pub drop_map : (n : ℕ) (l : List A) → drop n (map f l) ≡ map f (drop n l)
  drop_map zero l = refl
  drop_map (suc n) [] = refl
  drop_map (suc n) (x ∷ l) = drop_map n l

  pub rotated_map : (n : ℕ) (l : List A) → rotated n (map f l) ≡ map f (rotated n l)
  rotated_map n l = ap₂ (λ (x y : List B). x ++ y) (drop_map n l) (take_map n l) ∙ sym (map_append f (drop n l) (take n l))

-- ---- what is kept is no more than what there was
pub kept_few : {A : Type 0} (bs : List Bool) (xs : List A) → length (kept bs xs) ≤ length xs
kept_few [] xs = omega arith
kept_few (b ∷ bs) [] = omega arith
kept_few {A} (b ∷ bs) (x ∷ xs) = go b (kept_few bs xs)
  where
    go : (b : Bool) → length (kept bs xs) ≤ length xs → length (cond b (kept bs xs) (x ∷ kept bs xs)) ≤ suc (length xs)
    go true h = omega arith
    go false h = omega arith

pub kept_narrow : (bs : List Bool) (xs : List ℕ) → width_sum (kept bs xs) ≤ width_sum xs
kept_narrow [] xs = omega arith
kept_narrow (b ∷ bs) [] = omega arith
kept_narrow (b ∷ bs) (x ∷ xs) = go b (kept_narrow bs xs)
  where
    go : (b : Bool) → width_sum (kept bs xs) ≤ width_sum xs → width_sum (cond b (kept bs xs) (x ∷ kept bs xs)) ≤ width x + width_sum xs
    go true h = omega arith
    go false h = omega arith

kept_nil : {A : Type 0} (bs : List Bool) → ◌≡◌ {A = List A} (kept bs []) []
kept_nil [] = refl
kept_nil (b ∷ bs) = refl

-- nothing is left out
pub kept_none : {A : Type 0} (n k : ℕ) (xs : List A) → length xs ≤ k → k ≤ n → kept (take k (replicate n false)) xs ≡ xs
kept_none zero k [] h g = kept_nil (take k [])
kept_none zero k (x ∷ xs) h g = absurd (omega arith)
kept_none (suc n) zero [] h g = refl
kept_none (suc n) zero (x ∷ xs) h g = absurd (omega arith)
kept_none (suc n) (suc k) [] h g = refl
kept_none {A} (suc n) (suc k) (x ∷ xs) h g = ap (λ (l : List A). x ∷ l) (kept_none n k xs (omega arith) (omega arith))

-- ---- copying
module _ (cycles steps : List ℕ) (t : Spans) (w : Within cycles steps t) where
  abbrev numbers : List ℕ
  numbers = take t.cycles.count (drop t.cycles.first cycles)

  numbers_length : length numbers ≡ t.cycles.count
  numbers_length = length-take-le t.cycles.count (drop t.cycles.first cycles)
      (omega (arith, w.in_cycles, w.cycles_size, length-drop t.cycles.first cycles))

  pub at_length : length (cycles_at cycles steps t) ≡ t.cycles.count
  at_length = length_cycles numbers (drop t.steps.first steps) ∙ numbers_length

  -- what is asked, where the list so far leaves room
  pub copy_asks : (skip : List Bool) → t.cycles.count ≤ length skip → (counts : List ℕ) (u : Used) (out : List ℕ) → Building counts u out
      → u.cycles + t.cycles.count ≤ length counts → u.steps + t.steps.count ≤ length out
      → Building counts u out × ((t.cycles.first + t.cycles.count ≤ length cycles)
      × ((t.steps.first + width_sum numbers ≤ length steps) × ((t.cycles.count ≤ length skip)
      × ((u.cycles + length (kept (take t.cycles.count skip) numbers) ≤ length counts)
      × (u.steps + width_sum (kept (take t.cycles.count skip) numbers) ≤ length out)))))
  copy_asks skip ls counts u out b hc hs =
      let i = w.in_cycles in
      let j = w.in_steps in
      let lc = w.cycles_size in
      let le = w.steps_size in
      let wi = w.wide in
      let nl = numbers_length in
      let a = kept_few (take t.cycles.count skip) numbers in
      let e = kept_narrow (take t.cycles.count skip) numbers in
      (b, (omega arith, (omega arith, (omega arith, (omega arith, omega arith)))))

  -- how much is used then
  pub copy_used : (skip : List Bool) (u r : Used)
      → r ≡ record {
        cycles = u.cycles + length (kept (take t.cycles.count skip) numbers);
        steps = u.steps + width_sum (kept
            (take t.cycles.count skip) numbers);
      }
      → (r.cycles ≤ u.cycles + t.cycles.count) × (r.steps ≤ u.steps + t.steps.count)
  copy_used skip u r e =
      let wi = w.wide in
      let nl = numbers_length in
      let a = kept_few (take t.cycles.count skip) numbers in
      let b = kept_narrow (take t.cycles.count skip) numbers in
      let p = ap (λ (q : Used). q.cycles) e in
      let q = ap (λ (q : Used). q.steps) e in
      (omega arith, omega arith)

-- ---- lists one after another
pub built_as : {ks ls : List Cycle} {counts : List ℕ} {u : Used} {steps : List ℕ} → ks ≡ ls → Built ks counts u steps → Built ls counts u steps
built_as {ks} {ls} {counts} {u} {steps} e b = record { list = b.list ∙ e; building = b.building }

pub built_then : (xs : List Cycle) {ks : List Cycle} {counts counts' : List ℕ} {u u' : Used} {steps steps' : List ℕ} → Built ks counts u steps
    → Built (built counts u steps ++ xs) counts' u' steps' → Built (ks ++ xs) counts' u' steps'
built_then xs {ks} {counts} {counts'} {u} {u'} {steps} {steps'} a b =
    record { list = b.list ∙ ap (λ (l : List Cycle). l ++ xs) a.list; building = b.building }

-- ---- a cycle of one step more
pub ring_built : {ks : List Cycle} {counts : List ℕ} {u : Used} {steps : List ℕ} → Built ks counts u steps → u.steps < length steps → (h : ℕ) (st out : List ℕ)
    → st ≡ set steps u.steps h → Closes counts u 1 out
    → (w : Used) → w ≡ more_cycle u 1 → Built (ks ++ one (path (one (halfedge_of h)))) out w st
ring_built {ks} {counts} {u} {steps} b l h st out f c w e =
    let s = built_set counts u steps b.building u.steps h (omega arith) in
    let n : u.steps ≡ u.steps + 0 = omega arith in
    let q : take 1 (drop u.steps (set steps u.steps h)) ≡ h ∷ [] =
    ap (λ (k : ℕ). take 1 (drop u.steps (set steps k h))) n ∙ run_set steps u.steps 0 h (omega arith)
    in
    subst₂ (λ (v : Used) (t : List ℕ). Built (ks ++ one (path (one (halfedge_of h)))) out v t) (sym e) (sym f)
    (built_as (ap₂ (λ (l : List Cycle) (t : List ℕ). l ++ one (path (map halfedge_of t))) (s.list ∙ b.list) q)
    (c.list (set steps u.steps h) s.building (omega (arith, length-set steps u.steps h))))

-- ---- a step as it stands in memory
pub along_read : (e : ℕ) → one (halfedge_of (2 * e)) ≡ one (along e)
along_read e = let n : 2 * e ≡ e * 2 + 0 = omega arith in ap (λ (k : ℕ). one (halfedge_of k)) n ∙ halves (one (along e))

pub against_read : (e : ℕ) → one (halfedge_of (2 * e + 1)) ≡ one (against e)
against_read e = let n : 2 * e + 1 ≡ e * 2 + 1 = omega arith in ap (λ (k : ℕ). one (halfedge_of k)) n ∙ halves (one (against e))
