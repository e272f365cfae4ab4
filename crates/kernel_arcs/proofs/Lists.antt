-- The cycles of a face about one of them, copied in order. Assumes nothing.
use Prim.Native.Nat.{ℕ, suc, ◌+◌, ◌-◌, ◌<◌, ◌≤◌}
use mathlib.Core.Path.{◌≡◌, ap, ap₂, sym, subst, ◌∙◌}
use mathlib.Core.Bool.{Bool, false}
use mathlib.Core.List.{List, ◌∷◌, ◌++◌, append_assoc}
use native.Mathlib.Omega.{arith}
use native.Mathlib.Numerals.{add-one}
use lib.ListN.{length, take, drop, get_or, set, length-append, length-drop, take-append-drop}
use lib.Seq.{length-take-le, take_all, take-take, take-add, drop-drop, drop-cons, drop_at, get_or-drop, set_split}
use Rattle.complex.specs.Lists.{total, one}
use Rattle.complex.specs.Cells.{Cycle}
use Rattle.complex.specs.Sound.{step_count}
use Rattle.store.specs.View.{width, width_sum, cycles_from}
use Rattle.store.specs.Edits.{kept}
use Rattle.store.proofs.Encode.{length_cycles, take_cycles}
use Rattle.store.proofs.Lists.{sum_append, sum_more, sum_le, kept_append}
use Rattle.rows_spans.specs.declared.Used.{Used}
use Rattle.rows_spans.specs.declared.Spans.{Spans}
use Rattle.rows_spans.specs.Building.{Building, Built, built, RoomFor}
use Rattle.rows_spans.proofs.Building.{cycles_append, built_none}
use Rattle.rows_spans.proofs.Splicing.{run_take}
use Rattle.rows_corners.specs.Faces.{Within, cycles_at}
use Rattle.rows_corners.proofs.Lists.{built_as, built_then, at_length}
use Rattle.rows_corners.proofs.Splits.{kept_steps, part_flags}
use Rattle.rows_split.specs.declared.Place.{Place}
use Rattle.rows_split.specs.Parts.{place_of}
use Rattle.rows_split.proofs.Places.{built_size, kept_count, place_room}
use Rattle.kernel_arcs.specs.Lists.{ahead, behind}

-- what is asked of a copy of k cycles
abbrev pub CopyAsks : List ℕ → ℕ → ℕ → List ℕ → ℕ → List Bool → List ℕ → Used → List ℕ → Type 0
CopyAsks cycles from k steps step skip numbers u places =
    Building numbers u places × ((from + k ≤ length cycles) × ((step + width_sum (take k (drop from cycles)) ≤ length steps) × ((k ≤ length skip)
    × ((u.cycles + length (kept (take k skip) (take k (drop from cycles))) ≤ length numbers)
    × (u.steps + width_sum (kept (take k skip) (take k (drop from cycles))) ≤ length places)))))

-- a flag for each cycle of a drawing
pub enough : {cycles steps : List ℕ} {t : Spans} → Within cycles steps t → (flags : List Bool) → length flags ≡ 512 → t.cycles.count ≤ length flags
enough w flags e = omega (arith, w.in_cycles)

-- what is kept of the cycles ks that are read takes as much room as they do
kept_sizes : (bs : List Bool) (ns st : List ℕ) (ks : List Cycle) → cycles_from ns st ≡ ks → width_sum ns ≤ length st
    → (length (kept bs ns) ≡ length (kept bs ks)) × (width_sum (kept bs ns) ≡ total step_count (kept bs ks))
kept_sizes bs ns st ks e h =
    let c = sym (kept_count bs ns st) ∙ ap (λ (l : List Cycle). length (kept bs l)) e in
    let s = sym (kept_steps bs ns st h) ∙ ap (λ (l : List Cycle). total step_count (kept bs l)) e in
    (c, s)

cycles_from_lem : (i : ℕ) (ns st : List ℕ) → i ≤ length ns → drop i (cycles_from ns st) ≡ cycles_from (drop i ns) (drop (width_sum (take i ns)) st)
cycles_from_lem i ns st h =
    ap (λ (l : List ℕ). drop i (cycles_from l st)) (sym (take-append-drop i ns)) ∙ ap (drop i) (cycles_append (take i ns) (drop i ns) st)
    ∙ drop_at (cycles_from (take i ns) st) (cycles_from (drop i ns) (drop (width_sum (take i ns)) st)) i (length_cycles (take i ns) st ∙ length-take-le i ns h)

module _ {cycles steps : List ℕ} {t : Spans} (w : Within cycles steps t) (flags : List Bool) (fs : t.cycles.count ≤ length flags) where
  abbrev own : List ℕ
  own = drop t.cycles.first cycles

  abbrev held : List ℕ
  held = drop t.steps.first steps

  abbrev n : ℕ
  n = t.cycles.count

  abbrev ks : List Cycle
  ks = cycles_at cycles steps t

  sized : n ≤ length own
  sized = omega (arith, length-drop t.cycles.first cycles, w.in_cycles, w.cycles_size)

  wide_most : t.steps.first + width_sum (take n own) ≤ 2048
  wide_most = let e = w.wide in let i = w.in_steps in omega arith

  -- ---- the cycles before c
  module _ (c : ℕ) (h : c ≤ n) where
    ahead_is : cycles_from (take c own) held ≡ take c ks
    ahead_is = sym (take_cycles c (take n own) held ∙ ap (λ (l : List ℕ). cycles_from l held) (take-take c n own h))

    ahead_asks : {N M : ℕ} → RoomFor N M (ahead flags c ks) → {numbers places : List ℕ} → length numbers ≡ N → length places ≡ M
        → CopyAsks cycles t.cycles.first c steps t.steps.first flags numbers (record { cycles = 0; steps = 0 }) places
    ahead_asks room {numbers} {places} zc zs =
        let b = built_none numbers places (omega (arith, room.few_counts)) (omega (arith, room.few_steps)) in
        let i = w.in_cycles in
        let lc = w.cycles_size in
        let ls = w.steps_size in
        let m = wide_most in
        let l = sum_le width own c n h in
        let k = kept_sizes (take c flags) (take c own) held (take c ks) ahead_is (omega (arith, length-drop t.steps.first steps)) in
        let k0 = k.0 in
        let k1 = k.1 in
        let rc = room.cycles in
        let rs = room.steps in
        (b.building, (omega arith, (omega arith, (omega arith, (omega arith, omega arith)))))

    ahead_built : {numbers places : List ℕ} {u : Used} → Built (kept (take c flags) (cycles_from (take c own) held)) numbers u places
        → Built (ahead flags c ks) numbers u places
    ahead_built b = built_as (ap (kept (take c flags)) ahead_is) b

  -- ---- the cycles after c, which stands at p
  module _ (c : ℕ) (h : c < n) (p : Place) (ep : p ≡ place_of cycles t c) where
    abbrev left : ℕ
    left = n - (c + 1)

    abbrev rest : List ℕ
    rest = take left (drop (t.cycles.first + (c + 1)) cycles)

    -- the flags as a part that reaches to their end
    abbrev part : List Bool
    part = take (length flags - (c + 1)) (drop (c + 1) flags)

    rest_is : drop (c + 1) (take n own) ≡ rest
    rest_is =
        let l = length-take-le n own sized in
        sym (take_all left (drop (c + 1) (take n own)) (omega (arith, length-drop (c + 1) (take n own)))) ∙ run_take left (c + 1) n own (omega arith)
        ∙ ap (take left) (drop-drop (c + 1) t.cycles.first cycles)

    pub end_asks : p.at + width p.m ≤ 2048
    end_asks = subst (λ (q : Place). q.at + width q.m ≤ 2048) (sym ep) (place_room cycles steps t w c h)

    place_is : p.at + width p.m ≡ t.steps.first + width_sum (take (c + 1) (take n own))
    place_is =
        let s = sized in
        let a = ap (λ (q : Place). q.at) ep in
        let b = ap (λ (q : Place). width q.m) ep ∙ ap width (sym (get_or-drop t.cycles.first cycles c 0)) in
        let d = sum_more width own c 0 (omega arith) in
        let e = ap width_sum (take-take (c + 1) n own (omega arith)) in
        omega arith

    rest_wide : p.at + width p.m + width_sum rest ≤ 2048
    rest_wide =
        let a = place_is in
        let b = sym (sum_append width (take (c + 1) (take n own)) (drop (c + 1) (take n own))) ∙ ap width_sum (take-append-drop (c + 1) (take n own)) in
        let d = ap width_sum rest_is in
        let m = wide_most in
        omega arith

    module _ (end : ℕ) (ee : end ≡ p.at + width p.m) where
      behind_is : cycles_from rest (drop end steps) ≡ drop (c + 1) ks
      behind_is =
          let l = length-take-le n own sized in
          sym (cycles_from_lem (c + 1) (take n own) held (omega arith)
          ∙ ap₂ cycles_from rest_is
          (drop-drop (width_sum (take (c + 1) (take n own))) t.steps.first steps ∙ ap (λ (k : ℕ). drop k steps) (sym (ee ∙ place_is))))

      pub behind_asks : {numbers places : List ℕ} {u : Used} → Building numbers u places → u.cycles + length (behind flags n c ks) ≤ length numbers
          → u.steps + total step_count (behind flags n c ks) ≤ length places
          → CopyAsks cycles (t.cycles.first + (c + 1)) left steps end part numbers u places
      behind_asks {numbers} {places} {u} b hc hs =
          let i = w.in_cycles in
          let lc = w.cycles_size in
          let ls = w.steps_size in
          let m = rest_wide in
          let k = kept_sizes (take left (drop (c + 1) flags)) rest (drop end steps) (drop (c + 1) ks) behind_is (omega (arith, length-drop end steps)) in
          subst (λ (l : List Bool). CopyAsks cycles (t.cycles.first + (c + 1)) left steps end l numbers u places) (sym (part_flags flags (c + 1)))
          (b, (omega arith, (omega arith, (omega (arith, length-drop (c + 1) flags), (omega (arith, k.0), omega (arith, k.1))))))

      pub behind_built : (numbers : List ℕ) (u : Used) (places : List ℕ) {numbers' places' : List ℕ} {u' : Used}
          → Built (built numbers u places ++ kept (take left part) (cycles_from rest (drop end steps))) numbers' u' places'
          → Built (built numbers u places ++ behind flags n c ks) numbers' u' places'
      behind_built numbers u places b =
          built_as (ap₂ (λ (l : List Bool) (q : List Cycle). built numbers u places ++ kept (take left l) q) (part_flags flags (c + 1)) behind_is) b

  -- ---- another cycle in the place of c, which is not flagged
  module _ (c : ℕ) (h : c < n) (st : get_or flags c false ≡ false) (x : Cycle) where
    abbrev before : List Cycle
    before = ahead flags c ks

    abbrev after : List Cycle
    after = behind flags n c ks

    flags_about : take n flags ≡ take c flags ++ (false ∷ take (n - (c + 1)) (drop (c + 1) flags))
    flags_about =
        let i = w.in_cycles in
        let e : n ≡ c + suc (n - (c + 1)) = omega arith in
        ap (λ (k : ℕ). take k flags) e ∙ take-add c (suc (n - (c + 1))) flags
        ∙ ap (λ (l : List Bool). take c flags ++ take (suc (n - (c + 1))) l) (drop-cons flags c false (omega arith))
        ∙ ap₂ (λ (b : Bool) (k : ℕ). take c flags ++ (b ∷ take (n - (c + 1)) (drop k flags))) st (sym (add-one c))

    about : kept (take n flags) (set ks c x) ≡ (before ++ one x) ++ after
    about =
        let i = w.in_cycles in
        let l = at_length cycles steps t w in
        let lf = length-take-le c flags (omega arith) in
        let lk = length-take-le c ks (omega arith) in
        ap₂ kept flags_about (set_split ks c x (omega arith) ∙ ap (λ (k : ℕ). take c ks ++ (x ∷ drop k ks)) (sym (add-one c)))
        ∙ kept_append (take c flags) (false ∷ take (n - (c + 1)) (drop (c + 1) flags)) (take c ks) (x ∷ drop (c + 1) ks) (lf ∙ sym lk)
        ∙ sym (append_assoc before (one x) after)

    -- those before it as they are copied
    abbrev copied : List Cycle
    copied = kept (take c flags) (cycles_from (take c own) held)

    fronted : {numbers places : List ℕ} {u : Used} → Built copied numbers u places → Built before numbers u places
    fronted b = ahead_built c (omega arith) b

    module _ {numbers places numbers' places' : List ℕ} {u u' : Used} where
      pub new_built : Built copied numbers u places → Built (built numbers u places ++ one x) numbers' u' places' → Built (before ++ one x) numbers' u' places'
      new_built a b = built_then (one x) (fronted a) b

      pub about_built : Built (before ++ one x) numbers u places → Built (built numbers u places ++ after) numbers' u' places'
          → Built (kept (take n flags) (set ks c x)) numbers' u' places'
      about_built a b = built_as (sym about) (built_then after a b)

    -- arrays of N counts and M steps have room for all of them
    module _ {N M : ℕ} (room : RoomFor N M (kept (take n flags) (set ks c x))) where
      all_cycles_lem : length before + 1 + length after ≤ N
      all_cycles_lem =
          let e = ap length about ∙ length-append (before ++ one x) after in
          let f = length-append before (one x) in
          omega (arith, room.cycles)

      all_steps_lem : total step_count before + step_count x + total step_count after ≤ M
      all_steps_lem =
          let e = ap (total step_count) about ∙ sum_append step_count (before ++ one x) after in
          let f = sum_append step_count before (one x) in
          omega (arith, room.steps)

      before_room : RoomFor N M before
      before_room =
          let a = all_cycles_lem in
          let b = all_steps_lem in
          record { few_counts = room.few_counts; few_steps = room.few_steps; cycles = omega arith; steps = omega arith }

      pub before_asks : {numbers places : List ℕ} → length numbers ≡ N → length places ≡ M
          → CopyAsks cycles t.cycles.first c steps t.steps.first flags numbers (record { cycles = 0; steps = 0 }) places
      before_asks lc ls = ahead_asks c (omega arith) before_room lc ls

      module _ {numbers places : List ℕ} {u : Used} (lc : length numbers ≡ N) (ls : length places ≡ M) where
        pub new_room : Built copied numbers u places → (u.cycles < length numbers) × (u.steps + step_count x ≤ length places)
        new_room b =
            let z = built_size (fronted b) in
            let z0 = z.0 in
            let z1 = z.1 in
            let a = all_cycles_lem in
            let r = all_steps_lem in
            (omega arith, omega arith)

        pub after_room : Built (before ++ one x) numbers u places
            → (u.cycles + length after ≤ length numbers) × (u.steps + total step_count after ≤ length places)
        after_room b =
            let z = built_size b in
            let z0 = z.0 in
            let z1 = z.1 in
            let l = length-append before (one x) in
            let s = sum_append step_count before (one x) in
            let a = all_cycles_lem in
            let r = all_steps_lem in
            (omega arith, omega arith)
