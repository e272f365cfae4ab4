-- `pack_rows` meets its contract: every array is packed alike. Assumes nothing.
use borrow.Author.Rules.{rules}
use Prim.Native.Nat.{◌+◌, ◌-◌, ◌<◌}
use mathlib.Core.Path.{◌≡◌, refl}
use mathlib.Core.List.{List}
use native.Mathlib.Omega.{arith}
use lib.ListN.{length, take}
use Rattle.store.specs.Edits.{Compacted}
use Rattle.store.proofs.Lists.{Packing, packing_start, packing_end}
use Rattle.rows_slide.specs.Slid.{Slid}
use Rattle.rows_slide.proofs.Sliding.{alike_goes, packing_turn}
use Rattle.kernel_keep.proofs.Rows.{packing_count}
use Rattle.kernel_keep.proofs.pack_rows.Goals as goal

-- one array
turn : {A : Type 0} (c : goal.After-slide_rows) → let w = c.loop-i in
    let dead = c.args.dead.now in
    let j = c.dead_until-j.result in let e = c.living_until-e.result in (l₀ l l' : List A) → length l₀ ≡ 256
    → Packing dead l₀ w.i w.k l → Slid l j (e - j) w.k l' → Packing dead l₀ e (w.k + (e - j)) l'
turn c l₀ l l' h =
    packing_turn c.args.dead.now l₀ l l' _ _ c.args.sheet.now.count.now _ _ c.requires.n_in_bounds (omega (arith, c.requires.n_le_cells_most)) c.dead_until-j.ensures
    c.living_until-e.ensures

end : {A : Type 0} (c : goal.After-loop-i) → let n = c.args.sheet.now.count.now in (l₀ l : List A) → length l₀ ≡ 256
    → Packing c.args.dead.now l₀ c.loop-i.i c.loop-i.k l → Compacted (take n c.args.dead.now) (take n l₀) l
end c l₀ l h p =
    let e : c.loop-i.i ≡ c.args.sheet.now.count.now = omega (arith, c.loop-i.invariant.in_bounds) in
    packing_end (omega (arith, c.requires.n_le_cells_most)) (rw e at p)

pub loop-i-init : goal.loop-i-init
loop-i-init c =
    record {
      in_bounds = omega arith;
      ids = packing_start _ _;
      kinds = packing_start _ _;
      starts = packing_start _ _;
      ends = packing_start _ _;
      bends = packing_start _ _;
      counts = packing_start _ _;
      px = packing_start _ _;
      py = packing_start _ _;
      same = search rules;
      kept = refl;
    }

pub slide_rows-requires : goal.slide_rows-requires
slide_rows-requires c =
    let d = c.dead_until-j.ensures in
    let q = c.living_until-e.ensures in
    let p = c.loop-i.invariant.ids.le in
    let n = c.requires.n_le_cells_most in
    let f = q.from in
    record {
      to_le_from = omega (arith, p, d.from);
      n_bound = omega (arith, q.within, n, f);
    }

pub overflow_add-k : goal.overflow_add-k
overflow_add-k c =
    let d = c.dead_until-j.ensures in
    let q = c.living_until-e.ensures in
    let p = c.loop-i.invariant.ids.le in
    let n = c.requires.n_le_cells_most in
    omega (arith, p, d.from, q.from, q.within, n)

pub loop-i-smaller : goal.loop-i-smaller
loop-i-smaller c =
    let d = c.dead_until-j.ensures in
    let q = c.living_until-e.ensures in
    let t : c.loop-i.i < c.args.sheet.now.count.now = omega arith in
    omega (arith, q.within, alike_goes t d q)

pub loop-i-preserved : goal.loop-i-preserved
loop-i-preserved c =
    let p = c.loop-i.invariant in
    let n = c.requires.ids_len in
    let s = c.slide_rows.ensures.slid in
    record {
      in_bounds = c.living_until-e.ensures.within;
      ids = turn c _ _ _ n.0 p.ids s.0;
      kinds = turn c _ _ _ n.1 p.kinds s.1;
      starts = turn c _ _ _ n.2 p.starts s.2;
      ends = turn c _ _ _ n.3 p.ends s.3;
      bends = turn c _ _ _ n.4 p.bends s.4;
      counts = turn c _ _ _ n.5 p.counts s.5;
      px = turn c _ _ _ n.6 p.px s.6;
      py = turn c _ _ _ n.7 p.py s.7;
      same = search rules;
      kept = search rules;
    }

pub returns-clause-value : goal.returns-clause-value
returns-clause-value c =
    let p = c.loop-i.invariant in
    let e : c.loop-i.i ≡ c.args.sheet.now.count.now = omega (arith, p.in_bounds) in
    packing_count (omega (arith, c.requires.n_le_cells_most, c.requires.ids_len.7)) (rw e at p.py)

pub returns-clause-compacted : goal.returns-clause-compacted
returns-clause-compacted c = end c _ _ c.requires.ids_len.0 c.loop-i.invariant.ids

pub returns-clause-compacted_2 : goal.returns-clause-compacted_2
returns-clause-compacted_2 c = end c _ _ c.requires.ids_len.1 c.loop-i.invariant.kinds

pub returns-clause-compacted_3 : goal.returns-clause-compacted_3
returns-clause-compacted_3 c = end c _ _ c.requires.ids_len.2 c.loop-i.invariant.starts

pub returns-clause-compacted_4 : goal.returns-clause-compacted_4
returns-clause-compacted_4 c = end c _ _ c.requires.ids_len.3 c.loop-i.invariant.ends

pub returns-clause-compacted_5 : goal.returns-clause-compacted_5
returns-clause-compacted_5 c = end c _ _ c.requires.ids_len.4 c.loop-i.invariant.bends

pub returns-clause-compacted_6 : goal.returns-clause-compacted_6
returns-clause-compacted_6 c = end c _ _ c.requires.ids_len.5 c.loop-i.invariant.counts

pub returns-clause-compacted_7 : goal.returns-clause-compacted_7
returns-clause-compacted_7 c = end c _ _ c.requires.ids_len.6 c.loop-i.invariant.px

pub returns-clause-compacted_8 : goal.returns-clause-compacted_8
returns-clause-compacted_8 c = end c _ _ c.requires.ids_len.7 c.loop-i.invariant.py
