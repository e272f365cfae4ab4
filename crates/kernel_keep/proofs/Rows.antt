-- Rows that stay, in several arrays at once. Assumes nothing.
use Prim.Native.Nat.{ℕ, zero, suc, ◌<◌, ◌≤◌}
use native.Mathlib.Omega.{arith}
use mathlib.Core.Path.{◌≡◌, refl, sym, ap, ap₂, ◌∙◌}
use mathlib.Core.Bool.{Bool, true, false}
use mathlib.Core.List.{List, [], ◌∷◌}
use lib.Ieee.{Float, nan}
use lib.ListN.{length, get_or, take}
use lib.Seq.{get_or-take, length-take-le, ext_get_or}
use Rattle.store.specs.declared.Shape.{Shape}
use Rattle.store.specs.declared.Cell.{Cell}
use Rattle.store.specs.View.{Fits, bend_total, bend_count}
use Rattle.complex.specs.Lists.{total}
use Rattle.store.specs.Edits.{kept, places_of, spread_flags, Compacted, CyclesKept}
use Rattle.store.proofs.Lists.{Packing, places_sum}
use Rattle.sound.specs.Rows.{all_from}
use Rattle.rows_steps.proofs.Renamed.{no_cell}
use Rattle.rows_slide.specs.Slid.{BendsKept}
use Rattle.rows_slide.proofs.Kept.{dropped}
use Rattle.rows_slide.proofs.Runs.{spread_length}
use Rattle.lent.specs.Arrays.{Arrays, shape_by, shape_at, position_in, positions_in, cells_by, held_by, row_normal, normal_at, normal, Lengths}
use Rattle.lent.proofs.Held.{held_sizes, held_indexes, cells_length, positions_length, positions_at_lem, all_at, all_intro}
use Rattle.kernel_keep.specs.Keeps.{RowsKept, Keeps}

pub packing_count : {A : Type 0} {flags : List Bool} {l₀ l : List A} {n k : ℕ} → n ≤ length l₀ → Packing flags l₀ n k l → k
    ≡ length (kept (take n flags) (take n l₀))
packing_count {A} {flags} {l₀} {l} {n} {k} h p =
    let a = p.le in
    let b = p.size in
    sym (length-take-le k l (omega arith)) ∙ ap length p.front

-- what the packing of the row arrays says, in one record
pub rows_kept : (flags : List Bool) (n : ℕ) (a b : Arrays) (r : ℕ)
    → (r ≡ length (kept (take n flags) (take n a.py))) × (Compacted (take n flags) (take n a.ids) b.ids
    × (Compacted (take n flags) (take n a.kinds) b.kinds
    × (Compacted (take n flags) (take n a.starts) b.starts
    × (Compacted (take n flags) (take n a.ends) b.ends × (Compacted (take n flags) (take n a.bends) b.bends
    × (Compacted (take n flags) (take n a.counts) b.counts
    × (Compacted (take n flags) (take n a.px) b.px × Compacted (take n flags) (take n a.py) b.py)))))))
    → RowsKept flags n a b r
rows_kept flags n a b r q =
    let s = q.1.1.1 in
    let t = s.1.1.1 in
    record {
      count = q.0;
      ids = q.1.0;
      kinds = q.1.1.0;
      starts = s.0;
      ends = s.1.0;
      bends = s.1.1.0;
      counts = t.0;
      px = t.1.0;
      py = t.1.1;
    }

-- where the j-th of the elements that stay stood
abbrev pick : List Bool → ℕ → ℕ
pick [] j = j
pick (true ∷ bs) j = suc (pick bs j)
pick (false ∷ bs) zero = zero
pick (false ∷ bs) (suc j) = suc (pick bs j)

module _ {A : Type 0} where
  kept_at : (bs : List Bool) (xs : List A) (j : ℕ) (z : A) → length bs ≡ length xs → j < length (kept bs xs) → get_or (kept bs xs) j z ≡ get_or xs (pick bs j) z
  kept_at [] xs j z e h = absurd (omega arith)
  kept_at (b ∷ bs) [] j z e h = absurd (omega arith)
  kept_at (true ∷ bs) (x ∷ xs) j z e h = kept_at bs xs j z (omega arith) h
  kept_at (false ∷ bs) (x ∷ xs) zero z e h = refl
  kept_at (false ∷ bs) (x ∷ xs) (suc j) z e h = kept_at bs xs j z (omega arith) (omega arith)

  pick_below : (bs : List Bool) (xs : List A) (j : ℕ) → length bs ≡ length xs → j < length (kept bs xs) → pick bs j < length bs
  pick_below [] xs j e h = absurd (omega arith)
  pick_below (b ∷ bs) [] j e h = absurd (omega arith)
  pick_below (true ∷ bs) (x ∷ xs) j e h = let p = pick_below bs xs j (omega arith) h in omega arith
  pick_below (false ∷ bs) (x ∷ xs) zero e h = omega arith
  pick_below (false ∷ bs) (x ∷ xs) (suc j) e h = let p = pick_below bs xs j (omega arith) (omega arith) in omega arith

  kept_few : (bs : List Bool) (xs : List A) → length (kept bs xs) ≤ length xs
  kept_few [] xs = omega arith
  kept_few (b ∷ bs) [] = omega arith
  kept_few (true ∷ bs) (x ∷ xs) = let p = kept_few bs xs in omega arith
  kept_few (false ∷ bs) (x ∷ xs) = let p = kept_few bs xs in omega arith

  -- an element that stayed
  front_at : (ms : List Bool) (n : ℕ) (l₀ l : List A) → length ms ≡ n → n ≤ length l₀ → Compacted ms (take n l₀) l → (j : ℕ) (z : A)
      → j < length (kept ms (take n l₀)) → get_or l j z ≡ get_or l₀ (pick ms j) z
  front_at ms n l₀ l e h k j z g =
      let t = length-take-le n l₀ h in
      let b = pick_below ms (take n l₀) j (e ∙ sym t) g in
      sym (get_or-take (length (kept ms (take n l₀))) l j z g)
      ∙ ap (λ (q : List A). get_or q j z) k.front
      ∙ kept_at ms (take n l₀) j z (e ∙ sym t) g
      ∙ get_or-take n l₀ (pick ms j) z (omega (arith, b, e))

kept_same : {A B : Type 0} (bs : List Bool) (xs : List A) (ys : List B) → length xs ≡ length ys → length (kept bs xs) ≡ length (kept bs ys)
kept_same [] xs ys e = refl
kept_same (b ∷ bs) [] [] e = refl
kept_same (b ∷ bs) [] (y ∷ ys) e = absurd (omega arith)
kept_same (b ∷ bs) (x ∷ xs) [] e = absurd (omega arith)
kept_same (true ∷ bs) (x ∷ xs) (y ∷ ys) e = kept_same bs xs ys (omega arith)
kept_same (false ∷ bs) (x ∷ xs) (y ∷ ys) e = ap suc (kept_same bs xs ys (omega arith))

-- ---- positions
pub positions_kept : (ms : List Bool) (t : ℕ) (xs₀ ys₀ xs ys : List Float) → length ms ≡ t → t ≤ 2048 → length xs₀ ≡ 2048 → length ys₀ ≡ 2048 → length xs
    ≡ 2048 → length ys ≡ 2048
    → Compacted ms (take t xs₀) xs → Compacted ms (take t ys₀) ys → Compacted ms (take t (positions_in xs₀ ys₀)) (positions_in xs ys)
positions_kept ms t xs₀ ys₀ xs ys em h lx₀ ly₀ lx ly kx ky =
    let z = position_in xs ys 0 in
    let P = positions_in xs₀ ys₀ in
    let Q = positions_in xs ys in
    let lp : length (positions_in xs₀ ys₀) ≡ 2048 = positions_length xs₀ ys₀ (lx₀ ∙ sym ly₀) ∙ lx₀ in
    let lq : length (positions_in xs ys) ≡ 2048 = positions_length xs ys (lx ∙ sym ly) ∙ lx in
    let m = length (kept ms (take t P)) in
    let tp : length (take t P) ≡ t = length-take-le t P (omega (arith, lp, h)) in
    let tx : length (take t xs₀) ≡ t = length-take-le t xs₀ (omega (arith, lx₀, h)) in
    let ty : length (take t ys₀) ≡ t = length-take-le t ys₀ (omega (arith, ly₀, h)) in
    let few = kept_few ms (take t P) in
    let sx = kept_same ms (take t P) (take t xs₀) (tp ∙ sym tx) in
    let sy = kept_same ms (take t P) (take t ys₀) (tp ∙ sym ty) in
    let lm : length (take m Q) ≡ m = length-take-le m Q (omega (arith, few, tp, lq, h)) in
    record {
      front =
          ext_get_or z (take m Q) (kept ms (take t P)) lm
          (λ j g.
          let gm : j < length (kept ms (take t P)) = omega (arith, g, lm) in
          let b = pick_below ms (take t P) j (em ∙ sym tp) gm in
          let px = front_at ms t xs₀ xs em (omega (arith, lx₀, h)) kx j nan (omega (arith, gm, sx)) in
          let py = front_at ms t ys₀ ys em (omega (arith, ly₀, h)) ky j nan (omega (arith, gm, sy)) in
          get_or-take m Q j z gm
          ∙ positions_at_lem xs ys j z (omega (arith, gm, few, tp, lx, h)) (omega (arith, gm, few, tp, ly, h))
          ∙ ap₂ (λ (u v : Float). record { x = u; y = v }) px py
          ∙ sym (kept_at ms (take t P) j z (em ∙ sym tp) gm ∙ get_or-take t P (pick ms j) z (omega (arith, b, em))
          ∙ positions_at_lem xs₀ ys₀ (pick ms j) z (omega (arith, b, em, lx₀, h)) (omega (arith, b, em, ly₀, h))));
    }

-- ---- cells
pub cell_at_lem : (f : ℕ → Shape) (is : List ℕ) (j : ℕ) (z : Cell) → j < length is → get_or (cells_by f is) j z ≡ record { id = get_or is j 0; shape = f j }
cell_at_lem f [] j z h = absurd (omega arith)
cell_at_lem f (x ∷ is) zero z h = refl
cell_at_lem f (x ∷ is) (suc j) z h = cell_at_lem (λ i. f (suc i)) is j z (omega arith)

module _ (flags : List Bool) (a b : Arrays) (l : Lengths a) (m : Lengths b) (lf : length flags ≡ 256) (h : a.count ≤ 256) (r : ℕ)
    (k : RowsKept flags a.count a b r) where
  abbrev ms : List Bool
  ms = take a.count flags

  ms_length : length (take a.count flags) ≡ a.count
  ms_length = length-take-le a.count flags (omega (arith, lf, h))

  pub few_rows : r ≤ a.count
  few_rows = let t = length-take-le a.count a.py (omega (arith, l.py, h)) in omega
      (arith, k.count, kept_few (take a.count flags) (take a.count a.py))

  pub count_by : {A : Type 0} (xs : List A) → length xs ≡ 256 → r ≡ length (kept (take a.count flags) (take a.count xs))
  count_by xs e =
      k.count ∙ kept_same (take a.count flags) (take a.count a.py) (take a.count xs)
      (length-take-le a.count a.py (omega (arith, l.py, h)) ∙ sym (length-take-le a.count xs (omega (arith, e, h))))

  row_at : {A : Type 0} (l₀ l₁ : List A) → length l₀ ≡ 256 → Compacted (take a.count flags) (take a.count l₀) l₁ → (j : ℕ) (z : A) → j < r
      → get_or l₁ j z ≡ get_or l₀ (pick (take a.count flags) j) z
  row_at l₀ l₁ e q j z g = front_at (take a.count flags) a.count l₀ l₁ ms_length (omega (arith, e, h)) q j z (omega (arith, g, count_by l₀ e))

  pick_row : (j : ℕ) → j < r → pick (take a.count flags) j < a.count
  pick_row j g =
      let t = length-take-le a.count a.py (omega (arith, l.py, h)) in
      let p = pick_below (take a.count flags) (take a.count a.py) j (ms_length ∙ sym t) (omega (arith, g, k.count)) in
      omega (arith, p, ms_length)

  shape_at_lem : (j : ℕ) → j < r → shape_at b j ≡ shape_at a (pick (take a.count flags) j)
  shape_at_lem j g =
      let q = row_at a.kinds b.kinds l.kinds k.kinds j 0 g in
      let s = row_at a.starts b.starts l.starts k.starts j 0 g in
      let e = row_at a.ends b.ends l.ends k.ends j 0 g in
      let n = row_at a.bends b.bends l.bends k.bends j 0 g in
      let c = row_at a.counts b.counts l.counts k.counts j 0 g in
      let x = row_at a.px b.px l.px k.px j nan g in
      let y = row_at a.py b.py l.py k.py j nan g in
      λ i. shape_by (q i) (s i) (e i) (n i) (c i) (record { x = x i; y = y i })

  normal_at_lem : (j : ℕ) → j < r → normal_at b.kinds b.starts b.ends b.bends b.counts j
      ≡ normal_at a.kinds a.starts a.ends a.bends a.counts (pick (take a.count flags) j)
  normal_at_lem j g =
      let q = row_at a.kinds b.kinds l.kinds k.kinds j 0 g in
      let s = row_at a.starts b.starts l.starts k.starts j 0 g in
      let e = row_at a.ends b.ends l.ends k.ends j 0 g in
      let n = row_at a.bends b.bends l.bends k.bends j 0 g in
      let c = row_at a.counts b.counts l.counts k.counts j 0 g in
      λ i. row_normal (q i) (s i) (e i) (n i) (c i)

  pub normal_kept : normal a ≡ true → all_from (normal_at b.kinds b.starts b.ends b.bends b.counts) 0 r ≡ true
  normal_kept n =
      all_intro (normal_at b.kinds b.starts b.ends b.bends b.counts) r
      (λ j g. normal_at_lem j g ∙ all_at (normal_at a.kinds a.starts a.ends a.bends a.counts) a.count (pick (take a.count flags) j)
      (pick_row j g) n)

  pub cells_kept : take r (held_by b).cells ≡ kept (take a.count flags) (take a.count (held_by a).cells)
  cells_kept =
      let C = (held_by a).cells in
      let D = (held_by b).cells in
      let lc : length (held_by a).cells ≡ 256 = cells_length (shape_at a) a.ids ∙ l.ids in
      let ld : length (held_by b).cells ≡ 256 = cells_length (shape_at b) b.ids ∙ m.ids in
      let fr = few_rows in
      let tc : length (take a.count C) ≡ a.count = length-take-le a.count C (omega (arith, lc, h)) in
      let lr : length (take r D) ≡ r = length-take-le r D (omega (arith, fr, ld, h)) in
      let cc' = count_by C lc in
      ext_get_or no_cell (take r D) (kept (take a.count flags) (take a.count C)) (lr ∙ cc')
      (λ j g.
      let gr : j < r = omega (arith, g, lr) in
      let b1 = pick_row j gr in
      get_or-take r D j no_cell gr
      ∙ cell_at_lem (shape_at b) b.ids j no_cell (omega (arith, gr, fr, m.ids, h))
      ∙ ap₂ (λ (i : ℕ) (s : Shape). record { id = i; shape = s }) (row_at a.ids b.ids l.ids k.ids j 0 gr) (shape_at_lem j gr)
      ∙ sym (kept_at (take a.count flags) (take a.count C) j no_cell (ms_length ∙ sym tc) (omega (arith, gr, cc'))
      ∙ get_or-take a.count C (pick (take a.count flags) j) no_cell b1
      ∙ cell_at_lem (shape_at a) a.ids (pick (take a.count flags) j) no_cell (omega (arith, b1, l.ids, h))))

-- ---- the whole
-- b's rows, bends, cycles and steps are those of a that are not flagged
module _ (flags : List Bool) (a b : Arrays) (l : Lengths a) (m : Lengths b) (lf : length flags ≡ 256) (f : Fits (held_by a)) (n : normal a ≡ true)
    (e : b.next ≡ a.next)
    (k : RowsKept flags a.count a b b.count) (kb : BendsKept (take a.count flags) (take a.count a.bends) a.bx a.by b.bx b.by)
    (kk : CyclesKept (take a.count flags) (take a.count a.counts) a.cycles a.steps b.cycles b.steps) where
  pub keeps : Keeps flags a b
  keeps =
      let x = held_indexes a l n in
      let h = few_rows flags a b l m lf f.cells b.count k in
      let t = bend_places_in in
      let d =
      dropped (held_by a) (held_by b) (held_sizes a l) f flags a.bends a.counts x.bends x.cycles
      (record {
        packed = positions_kept (spread_flags 0 (take a.count flags) (take a.count a.bends))
            (total (places_of 0) (take a.count a.bends)) a.bx a.by b.bx b.by
            (spread_length 0 (take a.count flags) (take a.count a.bends)
            (ms_length flags a b l m lf f.cells b.count k ∙ sym (length-take-le a.count a.bends (omega (arith, l.bends, f.cells)))))
            (omega (arith, t, f.bends)) l.bx l.by m.bx m.by kb.xs.packed kb.ys.packed;
      })
      kk (cells_kept flags a b l m lf f.cells b.count k) (held_sizes b m) e h in
      record { sheet = d.0; fits = d.1; sizes = held_sizes b m; rows = normal_kept flags a b l m lf f.cells b.count k n; few = h }
    where
      bend_places_in : total (places_of 0) (take a.count a.bends) ≡ bend_total (held_by a)
      bend_places_in = ap (total (places_of 0)) (held_indexes a l n).bends ∙ places_sum (λ (c : Cell). bend_count c.shape) (take a.count (held_by a).cells)

-- the same, of the bends, cycles and steps that b has
pub keeps_moved : (flags : List Bool) (a b : Arrays) → Lengths a → Lengths b → length flags ≡ 256 → Fits (held_by a) → normal a ≡ true
    → (cy st : List ℕ) (bx by : List Float) → b ≡ record b { next = a.next; cycles = cy; steps = st; bx = bx; by = by }
    → RowsKept flags a.count a b b.count → BendsKept (take a.count flags) (take a.count a.bends) a.bx a.by bx by
    → CyclesKept (take a.count flags) (take a.count a.counts) a.cycles a.steps cy st → Keeps flags a b
keeps_moved flags a b l m lf f n cy st bx by e k kb kk =
    let en : b.next ≡ a.next = ap (λ (u : Arrays). u.next) e in
    let ec : b.cycles ≡ cy = ap (λ (u : Arrays). u.cycles) e in
    let es : b.steps ≡ st = ap (λ (u : Arrays). u.steps) e in
    let ex : b.bx ≡ bx = ap (λ (u : Arrays). u.bx) e in
    let ey : b.by ≡ by = ap (λ (u : Arrays). u.by) e in
    keeps flags a b l m lf f n en k (rw (ex, ey) kb) (rw (ec, es) kk)
