-- `tie_cycles` meets its contract. Assumes nothing.
use Prim.Native.Nat.{ℕ, ◌+◌, ◌<◌, ◌≤◌}
use mathlib.Core.Path.{◌≡◌, sym, ◌∙◌}
use mathlib.Core.List.{map}
use native.Mathlib.Omega.{arith}
use lib.Dec.{T, eqb}
use lib.ListN.{length, take, drop, get_or, length-drop}
use lib.Seq.{get_or-drop}
use Rattle.complex.specs.Groups.{is_in}
use Rattle.complex.specs.Sound.{steps_most}
use Rattle.complex.proofs.Ties.{anchor}
use Rattle.store.specs.View.{width, cycles_from}
use Rattle.store.proofs.Lists.{places_one}
use Rattle.call_pieces.proofs.Tying.{some_then, width_some, tying_none, tying_within, tying_turn, tying_named}
use Rattle.call_pieces.proofs.tie_cycles.Goals as goal

-- the cycles are there
all_there : (q : goal.After-places-at) → let a = q.args in a.k ≤ length (drop a.first a.cycles.now)
all_there q = simp length-drop (omega arith)

all_there_2 : (q : goal.After-tie-arg-1) → let a = q.args in a.k ≤ length (drop a.first a.cycles.now)
all_there_2 q = simp length-drop (omega arith)

all_there_3 : (q : goal.After-way_told-in-loop-j-1) → let a = q.args in a.k ≤ length (drop a.first a.cycles.now)
all_there_3 q = simp length-drop (omega arith)

all_there_4 : (q : goal.After-c-1) → let a = q.args in a.k ≤ length (drop a.first a.cycles.now)
all_there_4 q = simp length-drop (omega arith)

cycle_is : (q : goal.After-places-at) → let a = q.args in let j = q.loop-j.j in
    get_or a.cycles.now (a.first + j) 0 ≡ get_or (drop a.first a.cycles.now) j 0
cycle_is q = let a = q.args in sym (get_or-drop a.first a.cycles.now q.loop-j.j 0)

cycle_is_2 : (q : goal.After-tie-arg-1) → let a = q.args in let j = q.loop-j.j in
    get_or a.cycles.now (a.first + j) 0 ≡ get_or (drop a.first a.cycles.now) j 0
cycle_is_2 q = let a = q.args in sym (get_or-drop a.first a.cycles.now q.loop-j.j 0)

cycle_is_3 : (q : goal.After-way_told-in-loop-j-1) → let a = q.args in let j = q.loop-j.j in
    get_or a.cycles.now (a.first + j) 0 ≡ get_or (drop a.first a.cycles.now) j 0
cycle_is_3 q = let a = q.args in sym (get_or-drop a.first a.cycles.now q.loop-j.j 0)

cycle_is_4 : (q : goal.After-c-1) → let a = q.args in let j = q.loop-j.j in
    get_or a.cycles.now (a.first + j) 0 ≡ get_or (drop a.first a.cycles.now) j 0
cycle_is_4 q = let a = q.args in sym (get_or-drop a.first a.cycles.now q.loop-j.j 0)

-- so is the next one, with its steps
there : (q : goal.After-places-at) → let l = q.loop-j in let a = q.args in
    (l.j < length (drop a.first a.cycles.now)) × (l.at + width (get_or a.cycles.now (a.first + l.j) 0) ≤ steps_most)
there q =
    let s = q in
    let l = q.loop-j in
    let h = all_there q in
    (omega arith, tying_within _ _ _ _ _ _ _ _ _ _ _ l.invariant.1 (omega arith) _ (cycle_is q) s.args.k (omega arith) h s.requires.k_bound.1)

there_2 : (q : goal.After-tie-arg-1) → let l = q.loop-j in let a = q.args in
    (l.j < length (drop a.first a.cycles.now)) × (l.at + width (get_or a.cycles.now (a.first + l.j) 0) ≤ steps_most)
there_2 q =
    let s = q in
    let l = q.loop-j in
    let h = all_there_2 q in
    (omega arith, tying_within _ _ _ _ _ _ _ _ _ _ _ l.invariant.1 (omega arith) _ (cycle_is_2 q) s.args.k (omega arith) h s.requires.k_bound.1)

there_3 : (q : goal.After-way_told-in-loop-j-1) → let l = q.loop-j in let a = q.args in
    (l.j < length (drop a.first a.cycles.now)) × (l.at + width (get_or a.cycles.now (a.first + l.j) 0) ≤ steps_most)
there_3 q =
    let s = q in
    let l = q.loop-j in
    let h = all_there_3 q in
    (omega arith, tying_within _ _ _ _ _ _ _ _ _ _ _ l.invariant.1 (omega arith) _ (cycle_is_3 q) s.args.k (omega arith) h s.requires.k_bound.1)

there_4 : (q : goal.After-c-1) → let l = q.loop-j in let a = q.args in
    (l.j < length (drop a.first a.cycles.now)) × (l.at + width (get_or a.cycles.now (a.first + l.j) 0) ≤ steps_most)
there_4 q =
    let s = q in
    let l = q.loop-j in
    let h = all_there_4 q in
    (omega arith, tying_within _ _ _ _ _ _ _ _ _ _ _ l.invariant.1 (omega arith) _ (cycle_is_4 q) s.args.k (omega arith) h s.requires.k_bound.1)

-- its first place is there_3
place_in : (q : goal.After-way_told-in-loop-j-1) → q.loop-j.at < steps_most
place_in q =
    let a = q.args in
    omega (arith, (there_3 q).1, width_some (get_or a.cycles.now (a.first + q.loop-j.j) 0))

place_in_2 : (q : goal.After-c-1) → q.loop-j.at < steps_most
place_in_2 q =
    let a = q.args in
    omega (arith, (there_4 q).1, width_some (get_or a.cycles.now (a.first + q.loop-j.j) 0))

width_is : (c : goal.After-places-at) → let q = c in let a = q.args in
    c.places-at.result ≡ width (get_or a.cycles.now (a.first + q.loop-j.j) 0)
width_is c =
    let q = c in
    let a = q.args in
    c.places-at.ensures ∙ places_one (get_or a.cycles.now (a.first + q.loop-j.j) 0)

pub loop-j-init : goal.loop-j-init
loop-j-init c = (omega arith, tying_none _ _ _ _ _ _ _)

pub offset_bounds-steps-at : goal.offset_bounds-steps-at
offset_bounds-steps-at c = record { fits = omega (arith, place_in_2 c) }

pub bounds-steps-at : goal.bounds-steps-at
bounds-steps-at c = place_in c

pub tie-rest-requires : goal.tie-rest-requires
tie-rest-requires c =
    let q = c in
    let s = q in
    let l = q.loop-j in
    let a = s.args in record {
      finds = s.requires.finds;
      row_lt_n = s.requires.row_lt_n;
      t = tying_named _ _ _ _ _ _ _ _ _ _ _ l.invariant.1 (there_2 q).0 _ (cycle_is_2 q) s.requires.cycles_len.1 (there_2 q).1
          (λ (j : ℕ). T (is_in eqb (take a.n a.ids.now) j)) a.k (omega arith) (all_there_2 q) s.requires.every _ c.anchor-a.ensures;
      some = some_then (take a.n a.ids.now) a.up.now a.left (get_or a.ids.now a.row 0)
          (map anchor (cycles_from (take l.j (drop a.first a.cycles.now)) (drop a.from a.steps.now))) l.up l.rest
          s.requires.some l.invariant.1.grown;
    }

pub overflow_add-at : goal.overflow_add-at
overflow_add-at c = record { fits = omega (arith, (there c).1, width_is c) }

pub loop-j-preserved : goal.loop-j-preserved
loop-j-preserved c =
    let q = c in
    let s = q in
    let l = q.loop-j in (
      omega arith,
      tying_turn _ _ _ _ _ _ _ _ _ _ _ l.invariant.1 (there q).0 _ (cycle_is q) s.requires.cycles_len.1 (there q).1 _ _ _
          c.anchor-a.ensures c.tie-rest.ensures _ (width_is c),
    )

pub returns : goal.returns
returns c =
    let v = c.loop-j.invariant.1 in
    let e : c.loop-j.j ≡ c.args.k = omega arith in
    record {
      grown = rw e at v.grown;
      next_value = rw e at v.at_is;
    }
