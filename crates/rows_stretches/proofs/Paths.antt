-- A cycle of two stretches, put after a list of cycles. Assumes nothing.
use Prim.Native.Nat.{ℕ, ◌+◌, ◌<◌, ◌≤◌}
use mathlib.Core.Path.{◌≡◌, refl, ap, ap₂, sym, subst, ◌∙◌}
use mathlib.Core.List.{List, [], ◌∷◌, ◌++◌, map, append_assoc}
use native.Mathlib.Omega.{arith}
use lib.ListN.{length, take, drop, length-append, length-map}
use lib.Seq.{length-take-le, take_at, drop_at, take_all}
use Rattle.complex.specs.Lists.{total, one}
use Rattle.complex.specs.Cells.{Halfedge, Cycle, lone, path}
use Rattle.complex.specs.Sound.{step_count}
use Rattle.complex.specs.Uncut.{path_or}
use Rattle.store.specs.View.{halfedge_of}
use Rattle.store.proofs.Encode.{length_cycles}
use Rattle.store.proofs.Lists.{sum_append, map_append}
use Rattle.rows_spans.specs.declared.Used.{Used}
use Rattle.rows_spans.specs.Building.{Building, Built, built, RoomFor, more_cycle, Closes}
use Rattle.rows_spans.proofs.Building.{built_same}
use Rattle.rows_spans.proofs.Splicing.{run_take}
use Rattle.rows_corners.specs.Arcs.{arc_of, Arc, Pasted}
use Rattle.rows_corners.proofs.Arcs.{arc_length}
use Rattle.rows_corners.proofs.Lists.{built_as}
use Rattle.rows_corners.proofs.Rows.{list_steps}
use Rattle.rows_stretches.specs.declared.Stretch.{Stretch}
use Rattle.rows_stretches.specs.Paths.{stretch_of, InCycle, PathRoom}

-- ---- how much of the arrays a list takes
module _ {counts : List ℕ} {u : Used} {out : List ℕ} (b : Building counts u out) where
  pub built_cycles : length (built counts u out) ≡ u.cycles
  built_cycles = length_cycles (take u.cycles counts) out ∙ length-take-le u.cycles counts b.cycle_room

  pub built_steps : total step_count (built counts u out) ≡ u.steps
  built_steps = list_steps (take u.cycles counts) out (omega (arith, b.width, b.step_room)) ∙ b.width

-- where there is room for cycles, there is room for those in front
pub few_front : (xs ys : List Cycle) {n m : ℕ} → RoomFor n m (xs ++ ys) → RoomFor n m xs
few_front xs ys f =
    let a = length-append xs ys in
    let b = sum_append step_count xs ys in
    record { few_counts = f.few_counts; few_steps = f.few_steps; cycles = omega (arith, f.cycles); steps = omega (arith, f.steps) }

-- the list so far leaves that much
pub few_left : {counts : List ℕ} {u : Used} {out : List ℕ} → Building counts u out → (ks : List Cycle) {n m : ℕ} → RoomFor n m (built counts u out ++ ks)
    → (u.cycles + length ks ≤ n) × (u.steps + total step_count ks ≤ m)
few_left {counts} {u} {out} b ks f =
    let a = length-append (built counts u out) ks in
    let s = sum_append step_count (built counts u out) ks in
    let c = built_cycles b in
    let d = built_steps b in
    (omega (arith, f.cycles), omega (arith, f.steps))

-- ---- nothing left means a vertex, alone
pub path_least : (v : ℕ) (hs : List Halfedge) → (length hs ≤ step_count (path_or v hs)) × (1 ≤ step_count (path_or v hs))
path_least v [] = (omega arith, omega arith)
path_least v (h ∷ hs) = (omega arith, omega arith)

path_none : (v : ℕ) (hs : List Halfedge) → length hs ≡ 0 → path_or v hs ≡ lone v
path_none v [] e = refl
path_none v (h ∷ hs) e = absurd (omega arith)

path_some : (v : ℕ) (hs : List Halfedge) → (length hs ≡ 0 → ⊥) → path_or v hs ≡ path hs
path_some v [] e = absurd (e refl)
path_some v (h ∷ hs) e = refl

-- ---- one run pasted after another
pasted_two : {out mid st xs ys : List ℕ} {at : ℕ} → Pasted out at xs mid → Pasted mid (at + length xs) ys st → Pasted out at (xs ++ ys) st
pasted_two {out} {mid} {st} {xs} {ys} {at} p q =
    let l = length-append xs ys in
    let e : at + length (xs ++ ys) ≡ at + length xs + length ys = omega arith in
    record {
      size = q.size ∙ p.size;
      front = ap (λ (n : ℕ). take n st) e ∙ q.front ∙ ap (λ (l : List ℕ). l ++ ys) p.front ∙ append_assoc (take at out) xs ys;
    }

-- a run pasted after the places in use is a cycle more
pasted_built : {counts : List ℕ} {u : Used} {out xs st counts' : List ℕ} → Building counts u out → Pasted out u.steps xs st
    → Closes counts u (length xs) counts'
    → u.steps + length xs ≤ length out → Built (built counts u out ++ one (path (map halfedge_of xs))) counts' (more_cycle u (length xs)) st
pasted_built {counts} {u} {out} {xs} {st} {counts'} b p c room =
    let j = u.steps in
    let h = b.step_room in
    let z = p.size in
    let lt = length-take-le j out (omega arith) in
    let front : take j st ≡ take j out =
    sym (run_take j 0 (j + length xs) st (omega arith)) ∙ ap (take j) p.front ∙ take_at (take j out) xs j lt
    in
    let run : take (length xs) (drop j st) ≡ xs =
    sym (run_take (length xs) j (j + length xs) st (omega arith)) ∙ ap (λ (q : List ℕ). take (length xs) (drop j q)) p.front
    ∙ ap (take (length xs)) (drop_at (take j out) xs j lt) ∙ take_all (length xs) xs (omega arith)
    in
    let s = built_same counts u out b st z front in
    built_as (ap₂ (λ (l : List Cycle) (q : List ℕ). l ++ one (path (map halfedge_of q))) s.list run) (c.list st s.building (omega arith))

-- ---- two stretches, or the vertex v
module _ {steps : List ℕ} {a b : Stretch} {v : ℕ} {counts : List ℕ} {u : Used} {out : List ℕ} (w : PathRoom steps a b v counts u out) where
  abbrev one_run : List ℕ
  one_run = arc_of steps a.at a.count a.from a.len

  abbrev two_run : List ℕ
  two_run = arc_of steps b.at b.count b.from b.len

  abbrev both_runs : List Halfedge
  both_runs = stretch_of steps a ++ stretch_of steps b

  run_long : (c : Stretch) → InCycle c → length (arc_of steps c.at c.count c.from c.len) ≡ c.len
  run_long c i = arc_length steps c.at c.count c.from c.len w.steps_size i.cycle i.start i.least

  one_length : length one_run ≡ a.len
  one_length = run_long a w.first

  two_length : length two_run ≡ b.len
  two_length = run_long b w.second

  runs_are : both_runs ≡ map halfedge_of (one_run ++ two_run)
  runs_are = sym (map_append halfedge_of one_run two_run)

  runs_length : length both_runs ≡ a.len + b.len
  runs_length =
      let x = one_length in
      let y = two_length in
      let z = length-append one_run two_run in
      ap length runs_are ∙ length-map (one_run ++ two_run) halfedge_of ∙ omega arith

  pub path_room : (u.cycles < length counts) × ((u.steps < length out) × (u.steps + (a.len + b.len) ≤ length out))
  path_room =
      let f = few_left w.building (one (path_or v both_runs)) w.room in
      let l = path_least v both_runs in
      let r = runs_length in
      (omega (arith, f.0), (omega (arith, f.1, l.1), omega (arith, f.1, l.0)))

  pub lone_asks : Building counts u out × ((u.cycles < length counts) × (u.steps < length out))
  lone_asks = (w.building, (path_room.0, path_room.1.0))

  pub lone_built : (m : ℕ) → m ≡ a.len + b.len → m ≡ 0 → {counts' st : List ℕ} {u' : Used} → Built (built counts u out ++ (lone v ∷ [])) counts' u' st
      → Built (built counts u out ++ one (path_or v both_runs)) counts' u' st
  lone_built m em e {counts'} {st} {u'} r =
      let l = runs_length in
      built_as (ap (λ (k : Cycle). built counts u out ++ one k) (sym (path_none v both_runs (omega arith)))) r

  pub first_asks : Arc steps a.at a.count a.from a.len out u.steps
  first_asks =
      let r = path_room.1.1 in
      let i = w.first in
      record { steps_size = w.steps_size; cycle = i.cycle; start = i.start; least = i.least; room = omega arith }

  module _ (mid : List ℕ) (end : ℕ) (ee : end ≡ u.steps + a.len) (p : Pasted out u.steps one_run mid) where
    pub second_asks : Arc steps b.at b.count b.from b.len mid end
    second_asks =
        let r = path_room.1.1 in
        let z = p.size in
        let i = w.second in
        record { steps_size = w.steps_size; cycle = i.cycle; start = i.start; least = i.least; room = omega arith }

    pub path_built : (m : ℕ) → m ≡ a.len + b.len → (m ≡ 0 → ⊥) → {st counts' : List ℕ} {u' : Used} → Pasted mid end two_run st → Closes counts u m counts'
        → u' ≡ more_cycle u m
        → Built (built counts u out ++ one (path_or v both_runs)) counts' u' st
    path_built m em e {st} {counts'} {u'} q c eu =
        let l = runs_length in
        let x = one_length in
        let y = two_length in
        let z = length-append one_run two_run in
        let n : m ≡ length (one_run ++ two_run) = omega arith in
        let at : end ≡ u.steps + length one_run = omega arith in
        let r : Built (built counts u out ++ one (path (map halfedge_of (one_run ++ two_run)))) counts' (more_cycle u (length (one_run ++ two_run))) st =
        pasted_built w.building (pasted_two p (subst (λ (k : ℕ). Pasted mid k two_run st) at q)) (subst (λ (k : ℕ). Closes counts u k counts') n c)
        (let f = path_room.1.1 in omega arith)
        in
        built_as (ap (λ (k : Cycle). built counts u out ++ one k) (ap path (sym runs_are) ∙ sym (path_some v both_runs (λ q. e (omega arith)))))
        (subst (λ (t : Used). Built (built counts u out ++ one (path (map halfedge_of (one_run ++ two_run)))) counts' t st) (sym (eu ∙ ap (more_cycle u) n)) r)
