-- The cycles are walked, and their places are rewritten. Assumes nothing.
use Prim.Native.Nat.{ℕ, zero, suc, ◌+◌, ◌<◌, ◌≤◌}
use native.Mathlib.Omega.{arith}
use native.Mathlib.Numerals.{add-one}
use mathlib.Core.Path.{◌≡◌, refl, sym, ap, ap₂, ◌∙◌, subst}
use mathlib.Core.Bool.{Bool, true, false}
use mathlib.Core.List.{List, [], ◌∷◌, ◌++◌, map, append-nil}
use lib.Dec.{eqb}
use borrow.Author.Tests.{ne_eqb}
use lib.ListN.{length, get_or, set, take, drop, replicate, length-append, length-replicate, length-map, length-drop, length-set}
use lib.Seq.{length-take-le, take-suc, take-add, drop-cons, drop-drop, drop-set-lt, take-set-le, get_or-set_same, get_or-drop}
use Rattle.complex.specs.Lists.{total}
use Rattle.store.specs.Edits.{places_of, spread_flags, zipped, lone_places}
use Rattle.store.proofs.Lists.{sum_more, sum_le, map_more, spread_append, zipped_append}
use Rattle.rows_steps.specs.Renaming.{PlacesRewritten}

lone_length : (ns : List ℕ) → length (lone_places ns) ≡ total (places_of 1) ns
lone_length [] = refl
lone_length (n ∷ ns) =
    length-append (replicate (places_of 1 n) (eqb n 0)) (lone_places ns) ∙ ap₂ ◌+◌ (length-replicate (places_of 1 n) (eqb n 0)) (lone_length ns)

-- one cycle more
lone_more : (ns : List ℕ) (i : ℕ) → i < length ns → lone_places (take (i + 1) ns) ≡ lone_places (take i ns)
    ++ replicate (places_of 1 (get_or ns i 0)) (eqb (get_or ns i 0) 0)
lone_more ns i h =
    let is_lone : ℕ → Bool = λ n. eqb n 0 in
    ap₂ (λ (bs : List Bool) (cs : List ℕ). spread_flags 1 bs cs) (map_more is_lone ns i 0 h) (ap (λ (n : ℕ). take n ns) (add-one i) ∙ take-suc ns i 0 h)
    ∙ spread_append 1 (map is_lone (take i ns)) (is_lone (get_or ns i 0) ∷ []) (take i ns) (get_or ns i 0 ∷ []) (length-map (take i ns) is_lone)
    ∙ ap (λ (l : List Bool). lone_places (take i ns) ++ l) (append-nil _)

-- the places of the first i cycles, which end before at, are rewritten by f, and the others are as they were
pub record Walking (f : Bool → ℕ → ℕ) (ns st₀ : List ℕ) (i at : ℕ) (st : List ℕ) : Type 0 where
  pub at_is : at ≡ total (places_of 1) (take i ns)
  pub size : length st ≡ length st₀
  pub rest : drop at st ≡ drop at st₀
  pub front : take at st ≡ zipped f (lone_places (take i ns)) (take at st₀)

pub walking_start : (f : Bool → ℕ → ℕ) (ns st : List ℕ) → Walking f ns st 0 0 st
walking_start f ns st = record { at_is = refl; size = refl; rest = refl; front = refl }

-- where f keeps a step, the places of steps stay
zip_steps : (f : Bool → ℕ → ℕ) → ((s : ℕ) → f false s ≡ s) → (k : ℕ) (y : List ℕ) → length y ≡ k → zipped f (replicate k false) y ≡ y
zip_steps f u zero [] e = refl
zip_steps f u zero (n ∷ y) e = absurd (omega arith)
zip_steps f u (suc k) [] e = absurd (omega arith)
zip_steps f u (suc k) (n ∷ y) e = ap₂ (λ (x : ℕ) (l : List ℕ). x ∷ l) (u n) (zip_steps f u k y (omega arith))

module _ {f : Bool → ℕ → ℕ} {ns st₀ : List ℕ} {i at : ℕ} {st : List ℕ} (w : Walking f ns st₀ i at st) where
  abbrev k : ℕ
  k = places_of 1 (get_or ns i 0)

  -- a cycle's places are among those of the first n cycles
  pub walk_room : (n : ℕ) → i < n → n ≤ length ns → total (places_of 1) (take n ns) ≤ 2048 → at + k ≤ 2048
  walk_room n h g m =
      let e = sum_more (places_of 1) ns i 0 (omega arith) in
      let b = sum_le (places_of 1) ns (i + 1) n (omega arith) in
      omega (arith, w.at_is, e, b)

  module _ (h : i < length ns) (g : at + k ≤ length st₀) where
    sum : at + k ≡ total (places_of 1) (take (i + 1) ns)
    sum = ap (λ (m : ℕ). m + k) w.at_is ∙ sym (sum_more (places_of 1) ns i 0 h)

    past : drop (at + k) st ≡ drop (at + k) st₀
    past = sym (drop-drop k at st) ∙ ap (drop k) w.rest ∙ drop-drop k at st₀

    -- the places of one cycle
    pub walk : (st' : List ℕ) → length st' ≡ length st → drop (at + k) st' ≡ drop (at + k) st → take at st' ≡ take at st
        → take k (drop at st') ≡ zipped f (replicate k (eqb (get_or ns i 0) 0)) (take k (drop at st₀)) → Walking f ns st₀ (i + 1) (at + k) st'
    walk st' e d t c =
        let ll : length (lone_places (take i ns)) ≡ length (take at st₀) = lone_length (take i ns) ∙ sym w.at_is
        ∙ sym (length-take-le at st₀ (omega arith)) in
        record {
          at_is = sum;
          size = e ∙ w.size;
          rest = d ∙ past;
          front =
              take-add at k st' ∙ ap₂ (λ (x y : List ℕ). x ++ y) (t ∙ w.front) c
              ∙ sym (zipped_append f (lone_places (take i ns)) (replicate k (eqb (get_or ns i 0) 0)) (take at st₀) (take k (drop at st₀)) ll)
              ∙ sym (ap₂ (λ (x : List Bool) (y : List ℕ). zipped f x y) (lone_more ns i h) (take-add at k st₀));
        }

    pub walk_steps : ((s : ℕ) → f false s ≡ s) → (get_or ns i 0 ≡ 0 → ⊥) → Walking f ns st₀ (i + 1) (at + k) st
    walk_steps u z =
        let len : length (take k (drop at st₀)) ≡ k = length-take-le k (drop at st₀) (let q = length-drop at st₀ in omega arith) in
        walk st refl refl refl
        (ap (take k) w.rest ∙ sym (zip_steps f u k (take k (drop at st₀)) len)
        ∙ ap (λ (b : Bool). zipped f (replicate k b) (take k (drop at st₀))) (sym (ne_eqb (get_or ns i 0) 0 z)))

    here : get_or st at 0 ≡ get_or st₀ at 0
    here = ap (λ (n : ℕ). get_or st n 0) (omega arith) ∙ sym (get_or-drop at st 0 0) ∙ ap (λ (q : List ℕ). get_or q 0 0) w.rest ∙ get_or-drop at st₀ 0 0
        ∙ ap (λ (n : ℕ). get_or st₀ n 0) (omega arith)

    pub walk_lone : get_or ns i 0 ≡ 0 → (v : ℕ) → v ≡ f true (get_or st at 0) → Walking f ns st₀ (i + 1) (at + k) (set st at v)
    walk_lone z v e =
        let k1 : k ≡ 1 = ap (places_of 1) z in
        let s = w.size in
        walk (set st at v) (length-set st at v) (drop-set-lt (at + k) st at v (omega arith)) (take-set-le at st at v (omega arith))
        (ap (λ (n : ℕ). take n (drop at (set st at v))) k1
        ∙ ap (take 1) (drop-cons (set st at v) at 0 (let q = length-set st at v in omega arith))
        ∙ ap (λ (x : ℕ). x ∷ []) (get_or-set_same st at v 0 (omega arith) ∙ e ∙ ap (f true) here)
        ∙ sym (ap (λ (n : ℕ). zipped f (replicate (places_of 1 n) (eqb n 0)) (take (places_of 1 n) (drop at st₀))) z
        ∙ ap (λ (q : List ℕ). zipped f (true ∷ []) (take 1 q)) (drop-cons st₀ at 0 (omega arith))))

  pub walked : PlacesRewritten f (take i ns) st₀ st
  walked =
      record { front = subst (λ (m : ℕ). take m st ≡ zipped f (lone_places (take i ns)) (take m st₀)) w.at_is w.front }
