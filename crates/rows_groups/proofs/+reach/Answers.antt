-- `reach`, which calls itself, meets its contract. Assumes nothing.
use native.Mathlib.Omega.{arith}
use Prim.Native.Nat.{ℕ, ◌<◌}
use mathlib.Core.Path.{◌≡◌, ap₂, ◌∙◌}
use mathlib.Core.Bool.{true}
use lib.ListN.{length, get_or, length-set}
use Rattle.rows_groups.specs.Search.{differs}
use Rattle.rows_groups.proofs.Search.{fewer, reached_more, reached_all}
use Rattle.rows_groups.proofs.+reach.Goals as goal

pub offset_bounds-groups-x : goal.offset_bounds-groups-x
offset_bounds-groups-x t c = let p = c.requires.left c.split_link-i.result c.if-i-m.true in record { fits = omega (arith, p, c.wide-x.ensures) }

pub bounds-groups-x : goal.bounds-groups-x
bounds-groups-x t c = let p = c.requires.left c.split_link-i.result c.if-i-m.true in omega (arith, p, c.wide-x.ensures)

pub offset_bounds-groups-y : goal.offset_bounds-groups-y
offset_bounds-groups-y t c = let p = c.requires.right c.split_link-i.result c.if-i-m.true in record { fits = omega (arith, p, c.wide-y.ensures) }

pub bounds-groups-y : goal.bounds-groups-y
bounds-groups-y t c = let p = c.requires.right c.split_link-i.result c.if-i-m.true in simp length-set (omega (arith, p, c.wide-y.ensures))

-- the places of the link that was found are there, and one of them is in the group
pub reach-requires : goal.reach-requires
reach-requires t c =
    let a = c.args in
    let s = c.split_link-i in
    let i = c.if-i-m.true in
    let u = c.requires.left s.result i in
    let v = c.requires.right s.result i in
    let hx : c.wide-x.result < length a.groups.now = omega (arith, u, c.wide-x.ensures) in
    let hy : c.wide-y.result < length a.groups.now = omega (arith, v, c.wide-y.ensures) in
    let d : differs (get_or a.groups.now c.wide-x.result 0) (get_or a.groups.now c.wide-y.result 0) a.g ≡ true =
    ap₂ (λ (x y : ℕ). differs (get_or a.groups.now x 0) (get_or a.groups.now y 0) a.g) c.wide-x.ensures c.wide-y.ensures ∙ s.ensures.here i in
    (rw (← c.decreases) (fewer a.groups.now a.g c.wide-x.result c.wide-y.result hx hy d), simp length-set c.requires)

pub shape_of-groups-then-i-m : goal.shape_of-groups-then-i-m
shape_of-groups-then-i-m t c = c.reach.auto.groups ∙ simp length-set

pub returns-then-i-m : goal.returns-then-i-m
returns-then-i-m t c =
    let a = c.args in
    let s = c.split_link-i in
    let i = c.if-i-m.true in
    let u = c.requires.left s.result i in
    let v = c.requires.right s.result i in
    let hx : c.wide-x.result < length a.groups.now = omega (arith, u, c.wide-x.ensures) in
    let hy : c.wide-y.result < length a.groups.now = omega (arith, v, c.wide-y.ensures) in
    let d : differs (get_or a.groups.now c.wide-x.result 0) (get_or a.groups.now c.wide-y.result 0) a.g ≡ true =
    ap₂ (λ (x y : ℕ). differs (get_or a.groups.now x 0) (get_or a.groups.now y 0) a.g) c.wide-x.ensures c.wide-y.ensures ∙ s.ensures.here i in
    reached_more a.groups.now a.g c.wide-x.result c.wide-y.result hx hy d a.xs.now a.ys.now a.m s.result i c.wide-x.ensures c.wide-y.ensures c.reach.new.groups
    c.reach.ensures

pub returns-else-i-m : goal.returns-else-i-m
returns-else-i-m t c =
    let a = c.args in
    reached_all a.xs.now a.ys.now a.m a.g c.split_link-i.result a.groups.now c.split_link-i.ensures c.if-i-m.false
