-- A list of cycles under construction: a cycle more, and cycles copied. Assumes nothing.
use Prim.Native.Nat.{ℕ, zero, suc, ◌+◌, ◌-◌, ◌<◌, ◌≤◌}
use mathlib.Core.Path.{◌≡◌, refl, ap, ap₂, sym, subst, subst₂, ◌∙◌}
use mathlib.Core.Bool.{Bool, true, false, cond, false≢true}
use mathlib.Core.List.{List, [], ◌∷◌, ◌++◌, map, append_assoc, append-nil}
use native.Mathlib.Omega.{arith}
use native.Mathlib.Numerals.{add-one}
use lib.ListN.{length, take, drop, get_or, set, length-append, length-set}
use lib.Seq.{take-add, take-suc-set, take-set-le, length-take-le, get_or-take, get_or-drop, get_or-set_same, drop-drop, paste, length-paste}
use Rattle.complex.specs.Cells.{Cycle, lone, path}
use Rattle.store.specs.View.{halfedge_of, width, cycle_of, cycles_from, width_sum}
use Rattle.store.specs.Edits.{kept}
use Rattle.store.specs.Pools.{Held}
use Rattle.store.proofs.Encode.{numbers, places, cycles_real, take_cycles, length_cycles, cycle_at_lem}
use Rattle.store.proofs.Lists.{sum_append, sum_more, sum_le, kept_append, kept_more}
use Rattle.store.proofs.Pools.{held_cycles}
use Rattle.rows_spans.specs.declared.Used.{Used}
use Rattle.rows_spans.specs.Building.{built, Building, Built, more_cycle}
use Rattle.rows_spans.proofs.Splicing.{paste_front, paste_run}

-- ---- reading cycles
pub cycles_append : (ns ms st : List ℕ) → cycles_from (ns ++ ms) st ≡ cycles_from ns st ++ cycles_from ms (drop (width_sum ns) st)
cycles_append [] ms st = refl
cycles_append (n ∷ ns) ms st =
    ap (λ (r : List Cycle). cycle_of n st ∷ r)
    (cycles_append ns ms (drop (width n) st) ∙ ap (λ (l : List ℕ). cycles_from ns (drop (width n) st) ++ cycles_from ms l) (drop-drop (width_sum ns) (width n) st))

-- a cycle of one or more steps
pub width_some : (m : ℕ) → 1 ≤ m → width m ≡ m
width_some zero h = absurd (omega arith)
width_some (suc m) h = refl

pub cycle_path : (m : ℕ) (st : List ℕ) → 1 ≤ m → cycle_of m st ≡ path (map halfedge_of (take m st))
cycle_path zero st h = absurd (omega arith)
cycle_path (suc m) st h = refl

-- a cycle is read from its own places alone
cycle_same : (c : ℕ) (s t : List ℕ) → take (width c) s ≡ take (width c) t → cycle_of c s ≡ cycle_of c t
cycle_same zero s t e = ap lone (sym (get_or-take 1 s 0 0 (omega arith)) ∙ ap (λ (l : List ℕ). get_or l 0 0) e ∙ get_or-take 1 t 0 0 (omega arith))
cycle_same (suc c) s t e = ap (λ (l : List ℕ). path (map halfedge_of l)) e

-- the arrays hold what is read from them
pub held : (counts : List ℕ) (n : ℕ) (st : List ℕ) → n ≤ length counts → width_sum (take n counts) ≤ length st
    → Held (cycles_from (take n counts) st) counts n st (width_sum (take n counts))
held counts n st h k =
    record {
      lengths = sym (numbers (take n counts) st k);
      places = sym (places (take n counts) st k);
      real = cycles_real (take n counts) st k;
      lengths_room = h;
      places_room = k;
    }

-- no cycle yet
pub built_none : (counts steps : List ℕ) → length counts ≤ 512 → length steps ≤ 2048 → Built [] counts (record { cycles = 0; steps = 0 }) steps
built_none counts steps h k =
    record { list = refl; building = record { counts_size = h; steps_size = k; width = refl; cycle_room = omega arith; step_room = omega arith } }

pub built_held : (ks : List Cycle) (counts : List ℕ) (u : Used) (steps : List ℕ) → Built ks counts u steps → Held ks counts u.cycles steps u.steps
built_held ks counts u steps b =
    let g = b.building in
    subst₂ (λ (l : List Cycle) (m : ℕ). Held l counts u.cycles steps m) b.list g.width
    (held counts u.cycles steps g.cycle_room (omega (arith, g.width, g.step_room)))

-- ---- other numbers after the places in use
module _ (counts : List ℕ) (u : Used) (steps : List ℕ) (b : Building counts u steps) where
  same_list : (st : List ℕ) → length st ≡ length steps → take u.steps st ≡ take u.steps steps → built counts u st ≡ built counts u steps
  same_list st l e =
      let w = b.width in
      let h = held counts u.cycles steps b.cycle_room (omega (arith, b.step_room)) in
      held_cycles (built counts u steps) counts u.cycles st (width_sum (take u.cycles counts))
      (record {
        lengths = h.lengths;
        places = ap (λ (k : ℕ). take k st) w ∙ e ∙ ap (λ (k : ℕ). take k steps) (sym w) ∙ h.places;
        real = h.real;
        lengths_room = h.lengths_room;
        places_room = omega (arith, b.step_room);
      })

  pub built_same : (st : List ℕ) → length st ≡ length steps → take u.steps st ≡ take u.steps steps → Built (built counts u steps) counts u st
  built_same st l e =
      record {
        list = same_list st l e;
        building =
            record {
              counts_size = b.counts_size;
              steps_size = omega (arith, b.steps_size);
              width = b.width;
              cycle_room = b.cycle_room;
              step_room = omega (arith, b.step_room);
            };
      }

  -- a step put down at a place that is not in use
  pub built_set : (at s : ℕ) → u.steps ≤ at → Built (built counts u steps) counts u (set steps at s)
  built_set at s h = built_same (set steps at s) (length-set steps at s) (take-set-le u.steps steps at s h)

  -- a cycle more
  pub pushed : (c : ℕ) (cs st : List ℕ) → u.cycles < length counts → u.steps + width c ≤ length steps → length cs ≡ length counts → length st ≡ length steps
      → take (u.cycles + 1) cs ≡ take u.cycles counts ++ (c ∷ []) → take u.steps st ≡ take u.steps steps
      → Built (built counts u steps ++ (cycle_of c (drop u.steps st) ∷ [])) cs (more_cycle u (width c)) st
  pushed c cs st hc hs lc ls ec es =
      let w = b.width in
      record {
        list =
            ap (λ (l : List ℕ). cycles_from l st) ec ∙ cycles_append (take u.cycles counts) (c ∷ []) st
            ∙ ap₂ (λ (l : List Cycle) (k : ℕ). l ++ (cycle_of c (drop k st) ∷ [])) (same_list st ls es) w;
        building =
            record {
              counts_size = omega (arith, b.counts_size);
              steps_size = omega (arith, b.steps_size);
              width = ap width_sum ec ∙ sum_append width (take u.cycles counts) (c ∷ []) ∙ omega (arith, w);
              cycle_room = omega arith;
              step_room = omega arith;
            };
      }

  pub pushed_set : (c : ℕ) (st : List ℕ) → u.cycles < length counts → u.steps + width c ≤ length steps → length st ≡ length steps
      → take u.steps st ≡ take u.steps steps
      → Built (built counts u steps ++ (cycle_of c (drop u.steps st) ∷ [])) (set counts u.cycles c) (more_cycle u (width c)) st
  pushed_set c st hc hs ls es =
      pushed c (set counts u.cycles c) st hc hs (length-set counts u.cycles c) ls
      (ap (λ (k : ℕ). take k (set counts u.cycles c)) (add-one u.cycles) ∙ take-suc-set counts u.cycles c hc) es

  pub pushed_lone : (v : ℕ) → u.cycles < length counts → u.steps < length steps
      → Built (built counts u steps ++ (lone v ∷ [])) (set counts u.cycles 0) (more_cycle u 1) (set steps u.steps v)
  pushed_lone v hc hs =
      let st = set steps u.steps v in
      let e : get_or (drop u.steps st) 0 0 ≡ v =
      get_or-drop u.steps st 0 0 ∙ ap (λ (k : ℕ). get_or st k 0) (omega arith) ∙ get_or-set_same steps u.steps v 0 hs
      in
      subst (λ (k : ℕ). Built (built counts u steps ++ (lone k ∷ [])) (set counts u.cycles 0) (more_cycle u 1) st) e
      (pushed_set 0 st hc (omega arith) (length-set steps u.steps v) (take-set-le u.steps steps u.steps v (omega arith)))

  pub pushed_path : (m : ℕ) → 1 ≤ m → u.cycles < length counts → u.steps + m ≤ length steps
      → Built (built counts u steps ++ (path (map halfedge_of (take m (drop u.steps steps))) ∷ [])) (set counts u.cycles m) (more_cycle u m) steps
  pushed_path m h hc hs =
      let w = width_some m h in
      subst (λ (k : ℕ). Built (built counts u steps ++ (path (map halfedge_of (take m (drop u.steps steps))) ∷ [])) (set counts u.cycles m)
      (more_cycle u k) steps) w
      (subst (λ (k : Cycle). Built (built counts u steps ++ (k ∷ [])) (set counts u.cycles m) (more_cycle u (width m)) steps)
      (cycle_path m (drop u.steps steps) h)
      (pushed_set m steps hc (omega arith) refl refl))

  -- a cycle copied from other places
  pub pushed_copy : (c : ℕ) (src : List ℕ) → u.cycles < length counts → u.steps + width c ≤ length steps → width c ≤ length src
      → Built (built counts u steps ++ (cycle_of c src ∷ [])) (set counts u.cycles c) (more_cycle u (width c)) (paste steps u.steps src (width c))
  pushed_copy c src hc hs hl =
      let j = u.steps in
      let st = paste steps j src (width c) in
      subst (λ (k : Cycle). Built (built counts u steps ++ (k ∷ [])) (set counts u.cycles c) (more_cycle u (width c)) st)
      (cycle_same c (drop j st) src (paste_run steps j src (width c) (omega arith) hl))
      (pushed_set c st hc hs (length-paste steps j src (width c) (omega arith) hl) (paste_front steps j src (width c) (omega arith) hl))

-- ---- cycles copied, without those that are skipped
-- what is used after one cycle that may be skipped
abbrev pub after : Used → Bool → ℕ → Used
after u skip c = record { cycles = u.cycles + length (cond skip [] (c ∷ [])); steps = u.steps + width_sum (cond skip [] (c ∷ [])) }

module _ (counts : List ℕ) (u : Used) (steps : List ℕ) (b : Building counts u steps) (c : ℕ) (src : List ℕ) where
  pub skipped : (skip : Bool) → skip ≡ true → (u ≡ after u skip c) × Built (built counts u steps ++ cond skip [] (cycle_of c src ∷ [])) counts u steps
  skipped true e =
      let p : u.cycles ≡ u.cycles + 0 = omega arith in
      let q : u.steps ≡ u.steps + 0 = omega arith in
      ((λ i. record { cycles = p i; steps = q i }), record { list = sym (append-nil (built counts u steps)); building = b })
  skipped false e = absurd (false≢true e)

  pub kept_room : (skip : Bool) → skip ≡ false → u.cycles + length (cond skip [] (c ∷ [])) ≤ length counts
      → u.steps + width_sum (cond skip [] (c ∷ [])) ≤ length steps → (u.cycles < length counts) × (u.steps + width c ≤ length steps)
  kept_room true e h g = absurd (false≢true (sym e))
  kept_room false e h g = (omega arith, omega arith)

  pub copied : (skip : Bool) → skip ≡ false → u.cycles < length counts → u.steps + width c ≤ length steps → width c ≤ length src → (w at : ℕ) (st : List ℕ)
      → w ≡ width c → at ≡ u.steps + w
      → st ≡ paste steps u.steps src w
      → (record { cycles = u.cycles + 1; steps = at } ≡ after u skip c)
      × Built (built counts u steps ++ cond skip [] (cycle_of c src ∷ [])) (set counts u.cycles c) (record { cycles = u.cycles + 1; steps = at }) st
  copied true e hc hs hl w at st ew ea es = absurd (false≢true (sym e))
  copied false e hc hs hl w at st ew ea es =
      let q : at ≡ u.steps + (width c + 0) = omega arith in
      let r : u.steps + width c ≡ at = omega arith in (
        (λ i. record { cycles = u.cycles + 1; steps = q i }),
        subst₂ (λ (k : ℕ) (l : List ℕ). Built (built counts u steps ++ (cycle_of c src ∷ [])) (set counts u.cycles c)
            (record { cycles = u.cycles + 1; steps = k }) l) r
            (ap (paste steps u.steps src) (sym ew) ∙ sym es) (pushed_copy counts u steps b c src hc hs hl),
      )

module _ {A : Type 0} (ms : List Bool) (l : List A) (i k : ℕ) (h : i ≤ k) (hm : k ≤ length ms) (hl : k ≤ length l) where
  kept_split : kept (take k ms) (take k l) ≡ kept (take i ms) (take i l) ++ kept (take (k - i) (drop i ms)) (take (k - i) (drop i l))
  kept_split =
      let e : k ≡ i + (k - i) = omega arith in
      ap (λ (n : ℕ). kept (take n ms) (take n l)) e ∙ ap₂ kept (take-add i (k - i) ms) (take-add i (k - i) l)
      ∙ kept_append (take i ms) (take (k - i) (drop i ms)) (take i l) (take (k - i) (drop i l))
      (length-take-le i ms (omega arith) ∙ sym (length-take-le i l (omega arith)))

  kept_fewer : length (kept (take i ms) (take i l)) ≤ length (kept (take k ms) (take k l))
  kept_fewer =
      let e = ap length kept_split ∙ length-append (kept (take i ms) (take i l)) (kept (take (k - i) (drop i ms)) (take (k - i) (drop i l))) in
      omega arith

kept_narrower : (ms : List Bool) (l : List ℕ) (i k : ℕ) → i ≤ k → k ≤ length ms → k ≤ length l
    → width_sum (kept (take i ms) (take i l)) ≤ width_sum (kept (take k ms) (take k l))
kept_narrower ms l i k h hm hl =
    let e = ap width_sum (kept_split ms l i k h hm hl)
    ∙ sum_append width (kept (take i ms) (take i l)) (kept (take (k - i) (drop i ms)) (take (k - i) (drop i l))) in
    omega arith

-- of the first i cycles of cs, whose steps begin at a place of src, those that are not skipped follow the list that was there
pub record Copying (cs src : List ℕ) (step : ℕ) (skip : List Bool) (counts₀ : List ℕ) (u₀ : Used) (steps₀ : List ℕ) (i at : ℕ) (counts : List ℕ) (u : Used)
    (steps : List ℕ) : Type 0 where
  pub at_is : at ≡ step + width_sum (take i cs)
  pub cycles_is : u.cycles ≡ u₀.cycles + length (kept (take i skip) (take i cs))
  pub steps_is : u.steps ≡ u₀.steps + width_sum (kept (take i skip) (take i cs))
  pub counts_long : length counts ≡ length counts₀
  pub steps_long : length steps ≡ length steps₀
  pub list : Built (built counts₀ u₀ steps₀ ++ kept (take i skip) (cycles_from (take i cs) (drop step src))) counts u steps

pub copying_start : (cs src : List ℕ) (step : ℕ) (skip : List Bool) (counts : List ℕ) (u : Used) (steps : List ℕ) → Building counts u steps
    → Copying cs src step skip counts u steps 0 step counts u steps
copying_start cs src step skip counts u steps b =
    record {
      at_is = omega arith;
      cycles_is = omega arith;
      steps_is = omega arith;
      counts_long = refl;
      steps_long = refl;
      list = record { list = sym (append-nil (built counts u steps)); building = b };
    }

module _ (cs src : List ℕ) (step : ℕ) (skip : List Bool) (counts₀ : List ℕ) (u₀ : Used) (steps₀ : List ℕ) (i k at : ℕ) (counts : List ℕ) (u : Used)
    (steps : List ℕ) (y : Bool)
    (p : Copying cs src step skip counts₀ u₀ steps₀ i at counts u steps) (h : i < k) (hs : k ≤ length skip) (hc : k ≤ length cs) (c : ℕ)
    (ec : c ≡ get_or cs i 0) where
  abbrev out : Bool
  out = get_or skip i y

  numbers_more : kept (take (i + 1) skip) (take (i + 1) cs) ≡ kept (take i skip) (take i cs) ++ cond out [] (c ∷ [])
  numbers_more =
      kept_more skip cs i y 0 (omega arith) (omega arith) ∙ ap (λ (n : ℕ). kept (take i skip) (take i cs) ++ cond out [] (n ∷ [])) (sym ec)

  cycles_more : u.cycles + length (cond out [] (c ∷ [])) ≡ u₀.cycles + length (kept (take (i + 1) skip) (take (i + 1) cs))
  cycles_more =
      let e = ap length numbers_more ∙ length-append (kept (take i skip) (take i cs)) (cond out [] (c ∷ [])) in
      let t = p.cycles_is in
      omega arith

  steps_more : u.steps + width_sum (cond out [] (c ∷ [])) ≡ u₀.steps + width_sum (kept (take (i + 1) skip) (take (i + 1) cs))
  steps_more =
      let e = ap width_sum numbers_more ∙ sum_append width (kept (take i skip) (take i cs)) (cond out [] (c ∷ [])) in
      let t = p.steps_is in
      omega arith

  at_more : at + width c ≡ step + width_sum (take (i + 1) cs)
  at_more = let e = sum_more width cs i 0 (omega arith) in let t = p.at_is in let w = ap width ec in omega arith

  -- what a turn asks
  pub copying_place : step + width_sum (take k cs) ≤ length src → at + width c ≤ length src
  copying_place g = let e = at_more in let t = sum_le width cs (i + 1) k (omega arith) in omega arith

  pub copying_cycles : u₀.cycles + length (kept (take k skip) (take k cs)) ≤ length counts₀ → u.cycles + length (cond out [] (c ∷ [])) ≤ length counts
  copying_cycles g = let l = p.counts_long in let e = cycles_more in let t = kept_fewer skip cs (i + 1) k (omega arith) hs hc in omega arith

  pub copying_steps : u₀.steps + width_sum (kept (take k skip) (take k cs)) ≤ length steps₀ → u.steps + width_sum (cond out [] (c ∷ [])) ≤ length steps
  copying_steps g = let l = p.steps_long in let e = steps_more in let t = kept_narrower skip cs (i + 1) k (omega arith) hs hc in omega arith

  list_more : kept (take (i + 1) skip) (cycles_from (take (i + 1) cs) (drop step src)) ≡ kept (take i skip) (cycles_from (take i cs) (drop step src))
      ++ cond out [] (cycle_of c (drop at src) ∷ [])
  list_more =
      let st = drop step src in
      let ks = cycles_from cs st in
      let l = length_cycles cs st in
      let own : get_or ks i (lone 0) ≡ cycle_of c (drop at src) =
      cycle_at_lem cs st i (lone 0) (omega arith) ∙ ap₂ cycle_of (sym ec) (drop-drop (width_sum (take i cs)) step src ∙ ap (λ (n : ℕ). drop n src) (sym p.at_is))
      in
      ap (kept (take (i + 1) skip)) (sym (take_cycles (i + 1) cs st))
      ∙ kept_more skip ks i y (lone 0) (omega arith) (omega arith)
      ∙ ap₂ (λ (l : List Cycle) (k : Cycle). kept (take i skip) l ++ cond out [] (k ∷ [])) (take_cycles i cs st) own

  pub copying_turn : (counts' : List ℕ) (u' : Used) (steps' : List ℕ) → length counts' ≡ length counts → length steps' ≡ length steps → (w : ℕ) → w ≡ width c
      → u' ≡ record { cycles = u.cycles + length (cond out [] (c ∷ [])); steps = u.steps + width_sum (cond out [] (c ∷ [])) }
      → Built (built counts u steps ++ cond out [] (cycle_of c (drop at src) ∷ [])) counts' u' steps'
      → Copying cs src step skip counts₀ u₀ steps₀ (i + 1) (at + w) counts' u' steps'
  copying_turn counts' u' steps' lc ls w ew eu b =
      record {
        at_is = ap (λ (n : ℕ). at + n) ew ∙ at_more;
        cycles_is = ap (λ (q : Used). q.cycles) eu ∙ cycles_more;
        steps_is = ap (λ (q : Used). q.steps) eu ∙ steps_more;
        counts_long = lc ∙ p.counts_long;
        steps_long = ls ∙ p.steps_long;
        list =
            record {
              list =
                  b.list ∙ ap (λ (l : List Cycle). l ++ cond out [] (cycle_of c (drop at src) ∷ [])) p.list.list
                  ∙ append_assoc (built counts₀ u₀ steps₀) (kept (take i skip) (cycles_from (take i cs) (drop step src)))
                  (cond out [] (cycle_of c (drop at src) ∷ []))
                  ∙ ap (λ (l : List Cycle). built counts₀ u₀ steps₀ ++ l) (sym list_more);
              building = b.building;
            };
      }
