-- The places of cycles are renamed. Assumes nothing.
use Prim.Native.Nat.{ℕ, ◌+◌, ◌*◌, ◌/◌, ◌%◌, ◌<◌, ◌≤◌}
use native.Mathlib.Omega.{arith}
use mathlib.Core.Path.{◌≡◌, refl, sym, ap, ap₂, ◌∙◌}
use mathlib.Core.Bool.{Bool, true, false}
use mathlib.Core.List.{List, [], ◌∷◌, ◌++◌, map}
use lib.Dec.{eqb}
use lib.ListN.{length, get_or, set, take, drop, replicate, length-map, length-drop}
use lib.Seq.{length-take-le, take_at, take-add, drop_at, get_or-drop}
use Rattle.complex.specs.Renumber.{renamed_step}
use Rattle.store.specs.Places.{bit}
use Rattle.store.specs.Edits.{places_of, zipped}
use Rattle.store.proofs.Lists.{map_more}
use Rattle.store.proofs.Rows.{row_le}
use Rattle.rows_steps.specs.Swap.{Wrote}
use Rattle.rows_steps.proofs.Writing.{wrote_one, wrote_then}
use Rattle.rows_steps.proofs.Renamed.{Rewrites}
use Rattle.lent_table.specs.Table.{Table}
use Rattle.kernel_rename.proofs.Lone.{Walking, walk}
use Rattle.kernel_renumber.specs.Renumbers.{new_id, new_place}

-- a new id is small
pub id_small : (n : ℕ) (ts is : List ℕ) → Table n ts is → (i : ℕ) → new_id (take n is) i ≤ 257
id_small n ts is t i = omega (arith, row_le i (take n is), length-take-le n is (omega (arith, t.few, t.ids)), t.few)

-- a place is rewritten as its lone vertex or its step is renamed
pub new_rewrites : (r : ℕ → ℕ) → Rewrites (new_place r) r (renamed_step r)
new_rewrites r = record { vertex = λ v. refl; step = λ h. ap (λ (n : ℕ). n ∷ []) (go h.edge h.backward) }
  where
    go : (e : ℕ) (b : Bool) → r e * 2 + bit b ≡ r ((e * 2 + bit b) / 2) * 2 + (e * 2 + bit b) % 2
    go e true =
        let p : (e * 2 + 1) / 2 ≡ e = omega arith in
        let q : (e * 2 + 1) % 2 ≡ 1 = omega arith in
        sym (ap₂ (λ (x y : ℕ). r x * 2 + y) p q)
    go e false =
        let p : (e * 2 + 0) / 2 ≡ e = omega arith in
        let q : (e * 2 + 0) % 2 ≡ 0 = omega arith in
        sym (ap₂ (λ (x y : ℕ). r x * 2 + y) p q)

-- ---- one place of a cycle more
module _ (f : ℕ → ℕ) (st₀ : List ℕ) (at k j : ℕ) (st : List ℕ) (g : at + k ≤ length st₀) (h : j < k) (w : Wrote st₀ at (map f (take j (drop at st₀))) st) where
  many : length (map f (take j (drop at st₀))) ≡ j
  many = length-map (take j (drop at st₀)) f ∙ length-take-le j (drop at st₀) (omega (arith, length-drop at st₀))

  unread : get_or st (at + j) 0 ≡ get_or st₀ (at + j) 0
  unread =
      ap (λ (m : ℕ). get_or st m 0) (omega (arith, many)) ∙ sym (get_or-drop (at + length (map f (take j (drop at st₀)))) st 0 0)
      ∙ ap (λ (q : List ℕ). get_or q 0 0) w.back ∙ get_or-drop (at + length (map f (take j (drop at st₀)))) st₀ 0 0
      ∙ ap (λ (m : ℕ). get_or st₀ m 0) (omega (arith, many))

  pub wrote_more : (v : ℕ) → v ≡ f (get_or st (at + j) 0) → Wrote st₀ at (map f (take (j + 1) (drop at st₀))) (set st (at + j) v)
  wrote_more v e =
      rw (map_more f (drop at st₀) j 0 (omega (arith, length-drop at st₀)))
      (wrote_then st₀ st (set st (at + j) v) (map f (take j (drop at st₀))) (f (get_or (drop at st₀) j 0) ∷ []) at w
      (rw (many, sym (e ∙ ap f (unread ∙ sym (get_or-drop at st₀ j 0)))) (wrote_one st (at + j) v (omega (arith, w.size)))))

zip_map : (f : Bool → ℕ → ℕ) (b : Bool) (y : List ℕ) (k : ℕ) → length y ≡ k → map (f b) y ≡ zipped f (replicate k b) y
zip_map f b [] k e = rw (sym e) refl
zip_map f b (x ∷ y) k e = rw (sym e) (ap (λ (q : List ℕ). f b x ∷ q) (zip_map f b y (length y) refl))

-- ---- one cycle more
module _ (f : Bool → ℕ → ℕ) (ns st₀ : List ℕ) (i at : ℕ) (st : List ℕ) (w : Walking f ns st₀ i at st) (h : i < length ns) (k : ℕ)
    (e : k ≡ places_of 1 (get_or ns i 0)) (g : at + k ≤ length st₀) (st' : List ℕ)
    (o : Wrote st at (map (f (eqb (get_or ns i 0) 0)) (take k (drop at st))) st') where
  abbrev m : Bool
  m = eqb (get_or ns i 0) 0

  abbrev ys : List ℕ
  ys = map (f m) (take k (drop at st))

  many_ys : length ys ≡ k
  many_ys = length-map (take k (drop at st)) (f m) ∙ length-take-le k (drop at st) (omega (arith, length-drop at st, w.size))

  past : drop (at + k) st' ≡ drop (at + k) st
  past = ap (λ (n : ℕ). drop (at + n) st') (sym many_ys) ∙ o.back ∙ ap (λ (n : ℕ). drop (at + n) st) many_ys

  front : (take at st' ≡ take at st) × (take k (drop at st') ≡ ys)
  front =
      let a = length-take-le at st' (omega (arith, o.size, w.size)) in
      let b = length-take-le at st (omega (arith, w.size)) in
      let q : take at st' ++ take k (drop at st') ≡ take at st ++ ys = sym (take-add at k st') ∙ ap (λ (n : ℕ). take (at + n) st') (sym many_ys) ∙ o.front in (
        sym (take_at (take at st') (take k (drop at st')) at a) ∙ ap (take at) q ∙ take_at (take at st) ys at b,
        sym (drop_at (take at st') (take k (drop at st')) at a) ∙ ap (drop at) q ∙ drop_at (take at st) ys at b,
      )

  here : ys ≡ zipped f (replicate k m) (take k (drop at st₀))
  here =
      ap (λ (q : List ℕ). map (f m) (take k q)) w.rest
      ∙ zip_map f m (take k (drop at st₀)) k (length-take-le k (drop at st₀) (omega (arith, length-drop at st₀)))

  pub walk_cycle : Walking f ns st₀ (i + 1) (at + k) st'
  walk_cycle = rw e (walk w h (omega (arith, e, g)) st' o.size (rw e at past) front.0 (rw e at (front.1 ∙ here)))
