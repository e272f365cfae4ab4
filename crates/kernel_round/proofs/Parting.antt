-- 0D: the cycles of one face parted in a drawing's own arrays. Assumes nothing.
use Prim.Native.Nat.{ℕ, zero, suc, ◌+◌, ◌-◌, ◌*◌, ◌<◌, ◌≤◌}
use mathlib.Core.Path.{◌≡◌, refl, sym, ap, ap₂, subst, ◌∙◌}
use mathlib.Core.Bool.{Bool, not}
use mathlib.Core.List.{List, [], ◌∷◌, ◌++◌, map, append_assoc}
use native.Mathlib.Omega.{arith}
use lib.ListN.{length, take, drop, length-append, length-drop, length-map, replicate, length-replicate}
use lib.Seq.{paste, take-add, take_at, drop_at, take-paste, length-paste, length-take-le}
use Rattle.complex.specs.Lists.{one, total, places, without, chosen}
use Rattle.complex.specs.Cells.{Cycle, Halfedge, path}
use Rattle.complex.specs.Sound.{cycles_most, steps_most, step_count}
use Rattle.complex.proofs.Bools.{truth}
use Rattle.complex.proofs.Sums.{total_append, total_left, length_left}
use Rattle.store.specs.View.{width, width_sum, cycles_from}
use Rattle.store.specs.Edits.{kept}
use Rattle.store.proofs.Encode.{length_cycles}
use Rattle.store.proofs.Lists.{sum_append}
use Rattle.rows_spans.specs.declared.Span.{Span}
use Rattle.rows_spans.specs.declared.Spans.{Spans}
use Rattle.rows_spans.specs.declared.Used.{Used}
use Rattle.rows_spans.specs.Runs.{Spliced}
use Rattle.rows_spans.specs.Building.{Building, Built, more_cycle}
use Rattle.rows_spans.proofs.Building.{cycles_append, pushed_path}
use Rattle.rows_spans.proofs.Splicing.{paste_front}
use Rattle.decode_parts.specs.Lists.{numbers_read}
use Rattle.rows_corners.specs.Faces.{Within, cycles_at}
use Rattle.script.specs.Walks.{Marks}
use Rattle.rows_corners.proofs.Lists.{built_as, ring_built, along_read, against_read}
use Rattle.rows_corners.proofs.Moved.{turned_size, without_kept, chosen_kept}
use Rattle.rows_corners.proofs.Rows.{list_steps}
use Rattle.rows_split.proofs.Places.{built_size}
use Rattle.law_cut_face.specs.Rounds.{stayed, left}
use Rattle.kernel_cycles.specs.Replacing.{and_one}
use Rattle.kernel_cycles.proofs.Moving.{one_front}
use Rattle.rows_corners.proofs.Runs.{runs_long, runs_built}
use Rattle.kernel_round.specs.Parting.{Fit, Flagged, TwoBuilt, RoundParting, Put, RoundParted}

-- ---- one list in the place of a run, and another after all numbers
pub put_is : (old mid : List ℕ) (s : Span) (new : List ℕ) (n : ℕ) (more : List ℕ) (m : ℕ) (out : List ℕ) → length mid ≡ length old → Spliced old s new n mid
    → m ≤ length more → s.first + n + s.rest + m ≤ length old → out ≡ paste mid (s.first + n + s.rest) more m → Put old s new n more m out
put_is old mid s new n more m out l p h g e =
    let at : ℕ = s.first + n + s.rest in
    let f : take at out ≡ take at mid = ap (take at) e ∙ paste_front mid at more m (omega (arith, l)) h in
    record {
      size = ap length e ∙ length-paste mid at more m (omega (arith, l)) h ∙ l;
      run = record { front = f ∙ p.front };
      end = ap (take (at + m)) e ∙ take-paste mid at more m (omega (arith, l)) h ∙ ap (λ (q : List ℕ). q ++ take m more) (sym f);
    }

-- the run after s, which is empty
abbrev pub after : Span → Span
after s = record { first = s.first + s.count; count = 0; rest = s.rest }

-- a number in its place is the run with that number more
put_one : (old : List ℕ) (s : Span) (x : ℕ) (more : List ℕ) (m : ℕ) (out : List ℕ) (most : ℕ) → s.count < most → s.first + s.count ≤ length old
    → (xs : List ℕ) → Put old (after s) (x ∷ xs) 1 more m out → Put old s (and_one most old s x) (s.count + 1) more m out
put_one old s x more m out most h f xs p =
    let e : s.first + (s.count + 1) + s.rest ≡ s.first + s.count + 1 + s.rest = omega arith in
    let z : s.first + s.count + 0 ≡ s.first + s.count = omega arith in
    let front = take s.first old in
    let r = take s.count (drop s.first old) in
    let t = take s.rest (drop (s.first + s.count) old) in
    record {
      size = p.size;
      run =
          record {
            front =
                ap (λ (k : ℕ). take k out) e ∙ p.run.front
                ∙ ap₂ (λ (q : List ℕ) (k : ℕ). q ++ (x ∷ take s.rest (drop k old))) (take-add s.first s.count old) z
                ∙ append_assoc front r (x ∷ t) ∙ ap (λ (q : List ℕ). front ++ q) (sym (append_assoc r (x ∷ []) t))
                ∙ ap (λ (q : List ℕ). front ++ (q ++ t)) (sym (one_front old s x most h f));
          };
      end = ap (λ (k : ℕ). take (k + m) out) e ∙ p.end ∙ ap (λ (k : ℕ). take k out ++ take m more) (sym e);
    }

-- ---- two lists one after the other
pub two_built : {ks ls : List Cycle} {counts : List ℕ} {w : Used} {steps : List ℕ} (u : Used) → (u.cycles ≡ length ks) × (u.steps ≡ total step_count ks)
    → Built (ks ++ ls) counts w steps
    → TwoBuilt ks ls counts u (record { cycles = w.cycles - u.cycles; steps = w.steps - u.steps }) steps
two_built {ks} {ls} {counts} {w} {steps} u eu b =
    let g = b.building in
    let n = u.cycles in
    let m : ℕ = w.cycles - u.cycles in
    let z = built_size b in
    let lc = length-append ks ls in
    let ts = total_append step_count ks ls in
    let nm : w.cycles ≡ n + m = omega (arith, z.0, eu.0) in
    let parts : take w.cycles counts ≡ take n counts ++ take m (drop n counts) = ap (λ (k : ℕ). take k counts) nm ∙ take-add n m counts in
    let sum = sum_append width (take n counts) (take m (drop n counts)) in
    let all : width_sum (take n counts ++ take m (drop n counts)) ≡ w.steps = ap width_sum (sym parts) ∙ g.width in
    let few = cycles_from (take n counts) steps in
    let rest = cycles_from (take m (drop n counts)) (drop (width_sum (take n counts)) steps) in
    let both : few ++ rest ≡ ks ++ ls = sym (cycles_append (take n counts) (take m (drop n counts)) steps)
    ∙ ap (λ (l : List ℕ). cycles_from l steps) (sym parts) ∙ b.list in
    let size : length few ≡ n = length_cycles (take n counts) steps ∙ length-take-le n counts (omega (arith, nm, g.cycle_room)) in
    let former : few ≡ ks = sym (take_at few rest n size) ∙ ap (take n) both ∙ take_at ks ls n (sym eu.0) in
    let latter : rest ≡ ls = sym (drop_at few rest n size) ∙ ap (drop n) both ∙ drop_at ks ls n (sym eu.0) in
    let wide : width_sum (take n counts) ≡ u.steps = sym (list_steps (take n counts) steps (omega (arith, sum, all, g.step_room)))
    ∙ ap (total step_count) former ∙ sym eu.1 in
    record {
      former =
          record {
            list = former;
            building =
                record {
                  counts_size = g.counts_size;
                  steps_size = g.steps_size;
                  width = wide;
                  cycle_room = omega (arith, nm, g.cycle_room);
                  step_room = omega (arith, wide, sum, all, g.step_room);
                };
          };
      latter =
          record {
            list = ap (λ (k : ℕ). cycles_from (take m (drop n counts)) (drop k steps)) (sym wide) ∙ latter;
            building =
                record {
                  counts_size = omega (arith, length-drop n counts, g.counts_size);
                  steps_size = omega (arith, length-drop u.steps steps, g.steps_size);
                  width = omega (arith, wide, sum, all);
                  cycle_room = omega (arith, nm, g.cycle_room, length-drop n counts);
                  step_room = omega (arith, wide, sum, all, g.step_room, length-drop u.steps steps);
                };
          };
    }

-- ---- the rooms of both lists, in arrays of n counts and m steps: a is how much the cycles that do not go take, u and b that with one ring and two
module _ (cycles steps : List ℕ) (s : Spans) (goes stays : List Bool) (g : Flagged cycles s goes stays) (w : Within cycles steps s) (n m : ℕ) (h : Fit s n m)
    (a u b : Used)
    (ea : a ≡ record {
      cycles = 0 + length (kept (take s.cycles.count goes) (take s.cycles.count (drop s.cycles.first cycles)));
      steps = 0 + width_sum (kept (take s.cycles.count goes) (take s.cycles.count (drop s.cycles.first cycles)));
    }) where
  pub one_room : (a.cycles + 2 ≤ n) × ((a.steps + 2 ≤ m) × (a.steps + 2 ≤ 2048))
  one_room =
      let c = ap (λ (q : Used). q.cycles) ea in
      let d = ap (λ (q : Used). q.steps) ea in
      let x : a.steps + 2 ≤ m = omega (arith, d, g.all_steps, h.steps) in
      (omega (arith, c, g.all_cycles, h.cycles), (x, omega (arith, x, h.few_steps)))

  module _ (eu : u ≡ more_cycle a 1) (eb : b ≡ more_cycle u 1) where
    two_more : (b.cycles ≡ a.cycles + 2) × (b.steps ≡ a.steps + 2)
    two_more =
        let c = ap (λ (q : Used). q.cycles) eu in
        let d = ap (λ (q : Used). q.steps) eu in
        (omega (arith, c, ap (λ (q : Used). q.cycles) eb), omega (arith, d, ap (λ (q : Used). q.steps) eb))

    pub second_asks : (counts out : List ℕ) → length counts ≡ n → length out ≡ m → Building counts b out
        → Building counts b out × ((s.cycles.first + s.cycles.count ≤ length cycles)
        × ((s.steps.first + width_sum (take s.cycles.count (drop s.cycles.first cycles)) ≤ length steps) × ((s.cycles.count ≤ length stays)
        × ((b.cycles + length (kept (take s.cycles.count stays) (take s.cycles.count (drop s.cycles.first cycles))) ≤ length counts)
        × (b.steps + width_sum (kept (take s.cycles.count stays) (take s.cycles.count (drop s.cycles.first cycles))) ≤ length out)))))
    second_asks counts out lc lo building =
        let c = ap (λ (q : Used). q.cycles) ea in
        let d = ap (λ (q : Used). q.steps) ea in (
          building,
          (
            omega (arith, w.in_cycles, w.cycles_size),
            (
              omega (arith, w.wide, w.in_steps, w.steps_size),
              (
                omega (arith, g.stays_size, w.in_cycles),
                (omega (arith, c, two_more.0, g.all_cycles, h.cycles, lc), omega (arith, d, two_more.1, g.all_steps, h.steps, lo)),
              ),
            ),
          ),
        )

    -- all that is taken then
    pub all_taken : (r : Used)
        → r ≡ record {
          cycles = b.cycles + length (kept (take s.cycles.count stays) (take s.cycles.count (drop s.cycles.first cycles)));
          steps = b.steps + width_sum (kept (take s.cycles.count stays) (take s.cycles.count (drop s.cycles.first cycles)));
        }
        → ((u.cycles ≤ r.cycles) × (u.steps ≤ r.steps))
        × ((u.cycles + (r.cycles - u.cycles) ≡ s.cycles.count + 2) × (u.steps + (r.steps - u.steps) ≡ s.steps.count + 2))
    all_taken r er =
        let c = ap (λ (q : Used). q.cycles) ea in
        let d = ap (λ (q : Used). q.steps) ea in
        let i = ap (λ (q : Used). q.cycles) er in
        let j = ap (λ (q : Used). q.steps) er in
        let x : u.cycles ≤ r.cycles = omega (arith, i, ap (λ (q : Used). q.cycles) eb) in
        let y : u.steps ≤ r.steps = omega (arith, j, ap (λ (q : Used). q.steps) eb) in
        ((x, y), (omega (arith, x, i, c, two_more.0, g.all_cycles), omega (arith, y, j, d, two_more.1, g.all_steps)))

-- ---- no cycle goes
without_none : {A : Type 0} (n : ℕ) (xs : List A) → without [] n xs ≡ xs
without_none n [] = refl
without_none {A = A} n (x ∷ xs) = ap (λ (l : List A). x ∷ l) (without_none (suc n) xs)

-- the cycles at a span, and then the edge
abbrev used : Spans → Used
used s = record { cycles = s.cycles.count + 1; steps = s.steps.count + 1 }

ring_kept : (cycles steps : List ℕ) (s : Spans) → Within cycles steps s → s.cycles.count < cycles_most → s.steps.count < steps_most → (e : ℕ)
    → Built (stayed [] (cycles_at cycles steps s) e) (and_one cycles_most cycles s.cycles 1) (used s) (and_one steps_most steps s.steps (2 * e))
ring_kept cycles steps s w hc hs e =
    let b = runs_built cycles steps s w (replicate {A = ℕ} 512 0) (replicate {A = ℕ} 2048 0)
    (length-replicate {A = ℕ} 512 0) (length-replicate {A = ℕ} 2048 0) _ _ refl refl in
    let u : Used = record { cycles = s.cycles.count; steps = s.steps.count } in
    let z = runs_long cycles steps s w (replicate {A = ℕ} 512 0) (replicate {A = ℕ} 2048 0)
    (length-replicate {A = ℕ} 512 0) (length-replicate {A = ℕ} 2048 0) in
    built_as (ap₂ (λ (l : List Cycle) (h : List Halfedge). l ++ one (path h)) (sym (without_none 0 (cycles_at cycles steps s))) (along_read e))
    (ring_built b (omega (arith, z.1)) (2 * e) _ _ refl (record { list = λ st g l. pushed_path _ u st g 1 (omega arith) (omega (arith, z.0)) l }) _ refl)

-- the edge backward alone
abbrev single : Used
single = record { cycles = 1; steps = 1 }

step_built : (ks : List Cycle) (e : ℕ) → Built (left [] ks e) (1 ∷ []) single ((2 * e + 1) ∷ [])
step_built ks e =
    record {
      list = ap (λ (h : List Halfedge). path h ∷ []) (against_read e);
      building =
          record { counts_size = omega arith; steps_size = omega arith; width = refl; cycle_room = omega arith; step_room = omega arith };
    }

module _ (cycles steps : List ℕ) (s : Spans) (script : List ℕ) (moved place e : ℕ) (p : RoundParting cycles steps s script moved place e) where
  none_parted : (cs ss : List ℕ) → Put cycles (after s.cycles) (1 ∷ 1 ∷ []) 1 (1 ∷ []) 1 cs
      → Put steps (after s.steps) ((2 * e) ∷ (2 * e + 1) ∷ []) 1 ((2 * e + 1) ∷ []) 1 ss
      → RoundParted cycles steps s (stayed [] (cycles_at cycles steps s) e) (left [] (cycles_at cycles steps s) e) (used s) single cs ss
  none_parted cs ss a b =
      let w = p.within in
      let hc : s.cycles.count < cycles_most = omega (arith, p.cycle_room) in
      let hs : s.steps.count < steps_most = omega (arith, p.step_room) in
      record {
        counts = and_one cycles_most cycles s.cycles 1;
        words = and_one steps_most steps s.steps (2 * e);
        counts2 = 1 ∷ [];
        words2 = (2 * e + 1) ∷ [];
        stay = ring_kept cycles steps s w hc hs e;
        go = step_built (cycles_at cycles steps s) e;
        in_cycles = put_one cycles s.cycles 1 (1 ∷ []) 1 cs cycles_most hc (omega (arith, w.in_cycles, w.cycles_size)) _ a;
        in_steps = put_one steps s.steps (2 * e) ((2 * e + 1) ∷ []) 1 ss steps_most hs (omega (arith, w.in_steps, w.steps_size)) _ b;
      }

  -- none is named, and none is read
  pub none_read : moved ≡ 0 → (cs ss : List ℕ) → Put cycles (after s.cycles) (1 ∷ 1 ∷ []) 1 (1 ∷ []) 1 cs
      → Put steps (after s.steps) ((2 * e) ∷ (2 * e + 1) ∷ []) 1 ((2 * e + 1) ∷ []) 1 ss
      → RoundParted cycles steps s (stayed (numbers_read script place moved) (cycles_at cycles steps s) e)
      (left (numbers_read script place moved) (cycles_at cycles steps s) e) (used s) single cs ss
  none_read z cs ss a b =
      subst (λ (m : ℕ). RoundParted cycles steps s (stayed (numbers_read script place m) (cycles_at cycles steps s) e)
      (left (numbers_read script place m) (cycles_at cycles steps s) e) (used s) single cs ss) (sym z) (none_parted cs ss a b)

  -- ---- some go: each cycle does, or it stays
  abbrev ns : List ℕ
  ns = take s.cycles.count (drop s.cycles.first cycles)

  many : length ns ≡ s.cycles.count
  many =
      let w = p.within in
      length-take-le s.cycles.count (drop s.cycles.first cycles)
      (omega (arith, w.in_cycles, w.cycles_size, length-drop s.cycles.first cycles))

  pub flagged : (goes stays : List Bool) → Marks (numbers_read script place moved) goes → stays ≡ map not goes → Flagged cycles s goes stays
  flagged goes stays g es =
      let ms = numbers_read script place moved in
      let few : length ns ≤ 512 = omega (arith, many, p.within.in_cycles) in
      let rise = ap (places 0 ms) many ∙ p.rise in
      let go : kept (take s.cycles.count goes) ns ≡ without ms 0 ns = ap (λ (n : ℕ). kept (take n goes) ns) (sym many)
      ∙ sym (without_kept ms goes g ns few) in
      let stay : kept (take s.cycles.count stays) ns ≡ chosen 0 ms ns = ap₂ (λ (n : ℕ) (l : List Bool). kept (take n l) ns) (sym many) es
      ∙ sym (chosen_kept ms goes g ns few 0 rise) in
      let c = length_left 0 ms ns (truth rise) in
      let d : length (chosen 0 ms ns) ≡ length ms = length-map ms _ in
      record {
        goes_size = g.size;
        stays_size = turned_size g es;
        all_cycles = omega (arith, ap length go, ap length stay, many);
        all_steps = ap₂ (λ (x y : List ℕ). width_sum x + width_sum y) go stay ∙ total_left width 0 ms ns (truth rise) ∙ p.within.wide;
      }

  -- both lists fit, which have two cycles and two steps more than there were
  module _ {ks ls : List Cycle} {counts words : List ℕ} {u v : Used} (b : TwoBuilt ks ls counts u v words) where
    pub cycles_fit_lem : u.cycles + v.cycles ≡ s.cycles.count + 2 → (s.cycles.first + s.cycles.count + s.cycles.rest ≤ length cycles)
        × ((u.cycles + v.cycles ≤ length counts) × (s.cycles.first + u.cycles + s.cycles.rest + v.cycles ≤ length cycles))
    cycles_fit_lem e =
        let w = p.within.cycles_size in
        let r = p.cycle_room in (
          omega (arith, w),
          (omega (arith, b.former.building.cycle_room, b.latter.building.cycle_room, length-drop u.cycles counts), omega (arith, w, e)),
        )

    pub steps_fit_lem : u.steps + v.steps ≡ s.steps.count + 2 → (s.steps.first + s.steps.count + s.steps.rest ≤ length steps)
        × ((u.steps + v.steps ≤ length words) × (s.steps.first + u.steps + s.steps.rest + v.steps ≤ length steps))
    steps_fit_lem e =
        let w = p.within.steps_size in
        let r = p.step_room in (
          omega (arith, w),
          (omega (arith, b.former.building.step_room, b.latter.building.step_room, length-drop u.steps words), omega (arith, w, e)),
        )

  -- ---- room for the lists
  wide_all : (ns : List ℕ) → length ns ≤ width_sum ns
  wide_all [] = omega arith
  wide_all (zero ∷ ns) = omega (arith, wide_all ns)
  wide_all (suc n ∷ ns) = omega (arith, wide_all ns)

  pub small_fit : s.steps.count < 63 → Fit s (length (replicate {A = ℕ} 64 0)) (length (replicate {A = ℕ} 64 0))
  small_fit h =
      let l = length-replicate {A = ℕ} 64 0 in
      let m = wide_all ns in
      record { few_counts = omega arith; few_steps = omega arith; cycles = omega (arith, p.within.wide, many); steps = omega arith }

  pub large_fit : Fit s (length (replicate {A = ℕ} 512 0)) (length (replicate {A = ℕ} 2048 0))
  large_fit =
      let l = length-replicate {A = ℕ} 512 0 in
      let m = length-replicate {A = ℕ} 2048 0 in
      record { few_counts = omega arith; few_steps = omega arith; cycles = omega (arith, p.cycle_room); steps = omega (arith, p.step_room) }
