-- 0E at a vertex with one end each of two open edges: the arrays hold the edge of both. Assumes nothing.
use Prim.Native.Nat.{ℕ, suc, ◌+◌, ◌-◌, ◌<◌, ◌≤◌}
use native.Mathlib.Omega.{arith}
use mathlib.Core.Path.{◌≡◌, refl, sym, ap, ap₂, ◌∙◌, subst}
use mathlib.Core.List.{List, [], ◌∷◌, ◌++◌, append_assoc}
use lib.Ieee.{Float}
use lib.ListN.{length, take, drop, length-append, length-drop, take-append-drop}
use lib.Seq.{length-take-le, take_at, drop-cons}
use Rattle.coordinate.specs.declared.Position.{Position}
use Rattle.complex.specs.Lists.{total}
use Rattle.complex.specs.Cells.{Figure, Sheet, origin}
use Rattle.store.specs.declared.Cell.{Cell}
use Rattle.store.specs.declared.Shape.TheVariants.{Open}
use Rattle.store.specs.View.{sheet_of, Fits, bend_total, bend_count}
use Rattle.store.specs.Edits.{places_of, appended}
use Rattle.store.proofs.Lists.{places_sum}
use Rattle.store.proofs.Grow.{grown, append_edge}
use Rattle.rows_new.specs.Appends.{RoomIn, CellRoom, with_cell}
use Rattle.rows_new.specs.Runs.{turn, run_at}
use Rattle.rows_new.proofs.Rooms.{room_first}
use Rattle.lent.specs.Arrays.{Arrays, positions_in, held_by, Lengths}
use Rattle.lent.specs.Growing.{row_put, with_open}
use Rattle.lent.proofs.Held.{held_sizes, held_indexes, positions_length}
use Rattle.lent.proofs.Grown.{open_long, open_held, open_normal}
use Rattle.lent.specs.declared.Line.{Line}
use Rattle.kernel_drop.specs.Three.{ThreeGone}
use Rattle.kernel_drop.proofs.Gone.{row_range}
use Rattle.kind_uncut_joint.specs.declared.Order.{Order}
use Rattle.kind_uncut_joint.specs.Joining.{joined_runs, edge_of, left_of, Joins, Joined}
use Rattle.kind_uncut_joint.proofs.Bends.{turn_length, joined_are, joined_long, positions_joined}

-- the arrays with other bends
abbrev pub with_both : Arrays → List Float → List Float → Arrays
with_both a xs ys = record a { bx = xs; by = ys }

-- the row of an open edge, of the id n, is written, and counted
open_row_lem : (b o : Arrays) (n s e k : ℕ) → n ≡ b.next → o ≡ row_put b b.count n 1 s e k 0
    → record o { next = n + 1; count = b.count + 1 } ≡ with_open b s e k
open_row_lem b o n s e k en q =
    ap (λ (x : Arrays). record x { next = n + 1; count = b.count + 1 }) q
    ∙ ap (λ (i : ℕ). record (row_put b b.count i 1 s e k 0) { next = i + 1; count = b.count + 1 }) en

run_length : (i n : ℕ) (l : List Position) → i + n ≤ length l → length (run_at i n l) ≡ n
run_length i n l h = length-take-le n (drop i l) (omega (arith, length-drop i l))

module _ (a : Arrays) (o : Order) (bare t : ℕ) (p : Position) (g : Joins a o bare t p) where
  abbrev m1 : ℕ
  m1 = o.first.count

  abbrev m2 : ℕ
  m2 = o.second.count

  abbrev P : List Position
  P = positions_in a.bx a.by

  abbrev x : List Position
  x = run_at o.first.first o.first.count (positions_in a.bx a.by)

  abbrev y : List Position
  y = run_at o.second.first o.second.count (positions_in a.bx a.by)

  abbrev new : List Position
  new = turn o.turned x ++ (p ∷ turn o.turned2 y)

  all_bends : length (positions_in a.bx a.by) ≡ 2048
  all_bends = positions_length a.bx a.by (g.long.bx ∙ sym g.long.by) ∙ g.long.bx

  range1 : (o.first.first + o.first.count ≤ t) × (t ≤ 2048)
  range1 = row_range a g.long g.fits g.rows o.first.row o.first.first o.first.count t g.three.one

  range2 : (o.second.first + o.second.count ≤ t) × (t ≤ 2048)
  range2 = row_range a g.long g.fits g.rows o.second.row o.second.first o.second.count t g.three.two

  lx : length x ≡ o.first.count
  lx = run_length o.first.first o.first.count P (omega (arith, range1.0, range1.1, all_bends))

  ly : length y ≡ o.second.count
  ly = run_length o.second.first o.second.count P (omega (arith, range2.0, range2.1, all_bends))

  new_length : length new ≡ o.first.count + 1 + o.second.count
  new_length =
      let e = turn_length o.turned x ∙ lx in
      let f = turn_length o.turned2 y ∙ ly in
      length-append (turn o.turned x) (p ∷ turn o.turned2 y) ∙ omega (arith, e, f)

  module _ (b : Arrays) (en : b.next ≡ a.next)
      (gone : ThreeGone a o.first.row o.first.first o.first.count o.second.row o.second.first o.second.count bare t b) where
    abbrev edge : Figure
    edge = edge_of (positions_in a.bx a.by) o p

    room : CellRoom (held_by b) edge
    room =
        room_first (held_by b) (held_sizes b gone.long) gone.keeps.fits edge []
        (subst (λ (s : Sheet). RoomIn s (edge ∷ [])) (sym gone.keeps.sheet) g.room)

    used : bend_total (held_by b) ≡ t - o.first.count - o.second.count
    used =
        sym (ap (total (places_of 0)) (held_indexes b gone.long gone.keeps.rows).bends
        ∙ places_sum (λ (c : Cell). bend_count c.shape) (take b.count (held_by b).cells))
        ∙ gone.less

    b_bends : length (positions_in b.bx b.by) ≡ 2048
    b_bends = (held_sizes b gone.long).bends

    last_length : 2048 - (t - o.first.count - o.second.count) ≡ o.first.count + (o.second.count + (2048 - t))
    last_length =
        let e = length-drop (t - o.first.count - o.second.count) (positions_in b.bx b.by) in
        let f = ap length gone.last ∙ length-append x (y ++ drop t P) ∙ ap (λ (n : ℕ). length x + n) (length-append y (drop t P)) in
        let h = length-drop t P in
        omega (arith, e, f, h, b_bends, all_bends, lx, ly)

    -- both runs are among the bends in use, and there is room for one more
    both_in : o.first.count + o.second.count ≤ t
    both_in = let e = range1.1 in omega (arith, last_length, e)

    one_more : t < 2048
    one_more = let e = room.bends in omega (arith, e, used, new_length, both_in)

    pub fits : (o.first.count + o.second.count ≤ t) × (t < 2048)
    fits = (both_in, one_more)

    pub row_comes : b.count < 256
    row_comes = room.cells

    pub id_comes : a.next < 65536
    id_comes = omega (arith, room.ids, en)

    -- the bends as they stand
    stand : positions_in b.bx b.by
        ≡ take (t - o.first.count - o.second.count) (positions_in b.bx b.by) ++ (x ++ (y ++ drop t (positions_in a.bx a.by)))
    stand =
        sym (take-append-drop (t - o.first.count - o.second.count) (positions_in b.bx b.by))
        ∙ ap (λ (l : List Position). take (t - o.first.count - o.second.count) (positions_in b.bx b.by) ++ l) gone.last

    front_length : length (take (t - o.first.count - o.second.count) (positions_in b.bx b.by)) ≡ t - o.first.count - o.second.count
    front_length = length-take-le (t - o.first.count - o.second.count) (positions_in b.bx b.by) (omega (arith, b_bends, one_more))

    module _ (xs ys : List Float) (ex : xs ≡ joined_runs t o.first.count o.turned o.second.count o.turned2 p.x b.bx)
        (ey : ys ≡ joined_runs t o.first.count o.turned o.second.count o.turned2 p.y b.by) where
      abbrev c : Arrays
      c = with_both b xs ys

      abbrev k : ℕ
      k = o.first.count + 1 + o.second.count

      all_are : positions_in xs ys
          ≡ take (t - o.first.count - o.second.count) (positions_in b.bx b.by) ++
          (turn o.turned x ++ (p ∷ (turn o.turned2 y ++ drop (suc t) (positions_in a.bx a.by))))
      all_are =
          let z = drop-cons P t origin (omega (arith, all_bends, one_more)) in
          ap₂ positions_in ex ey
          ∙ positions_joined t m1 m2 o.turned o.turned2 p b.bx b.by both_in (omega (arith, one_more, gone.long.bx))
          (gone.long.bx ∙ sym gone.long.by)
          ∙ ap (joined_runs t m1 o.turned m2 o.turned2 p)
          (stand ∙ ap (λ (l : List Position). take (t - m1 - m2) (positions_in b.bx b.by) ++ (x ++ (y ++ l))) z)
          ∙ joined_are (take (t - m1 - m2) (positions_in b.bx b.by)) x y _ _ t m1 m2 o.turned o.turned2 p lx ly
          (omega (arith, front_length, both_in))

      long_x : length xs ≡ 2048
      long_x = ap length ex ∙ joined_long t m1 m2 o.turned o.turned2 p.x b.bx both_in (omega (arith, one_more, gone.long.bx)) ∙ gone.long.bx

      long_y : length ys ≡ 2048
      long_y = ap length ey ∙ joined_long t m1 m2 o.turned o.turned2 p.y b.by both_in (omega (arith, one_more, gone.long.by)) ∙ gone.long.by

      long : Lengths (with_both b xs ys)
      long =
          let l = gone.long in
          record {
            ids = l.ids;
            kinds = l.kinds;
            starts = l.starts;
            ends = l.ends;
            bends = l.bends;
            counts = l.counts;
            px = l.px;
            py = l.py;
            cycles = l.cycles;
            steps = l.steps;
            bx = long_x;
            by = long_y;
          }

      taken : take (bend_total (held_by b) + length new) (positions_in xs ys) ≡ take (bend_total (held_by b)) (positions_in b.bx b.by) ++ new
      taken =
          let u = t - m1 - m2 in
          let f = take u (positions_in b.bx b.by) in
          let r : List Position = drop (suc t) P in
          ap (λ (n : ℕ). take (n + length new) (positions_in xs ys)) used
          ∙ ap (take (u + length new))
          (all_are ∙ ap (λ (l : List Position). f ++ l) (sym (append_assoc (turn o.turned x) (p ∷ turn o.turned2 y) r)) ∙ sym (append_assoc f new r))
          ∙ take_at (f ++ new) r (u + length new) (length-append f new ∙ ap (λ (n : ℕ). n + length new) front_length)
          ∙ ap (λ (n : ℕ). take n (positions_in b.bx b.by) ++ new) (sym used)

      comes : (sheet_of (held_by (with_open (with_both b xs ys) o.first.far o.second.far (o.first.count + 1 + o.second.count)))
          ≡ appended (left_of a o bare) edge)
          × Fits (held_by (with_open (with_both b xs ys) o.first.far o.second.far (o.first.count + 1 + o.second.count)))
      comes =
          let d = held_by b in
          let s = o.first.far in
          let e = o.second.far in
          let h = append_edge d (held_sizes b gone.long) gone.keeps.fits room.cells edge (positions_in xs ys) refl (held_sizes c long).bends
          room.bends taken in
          let q : held_by (with_open (with_both b xs ys) s e (o.first.count + 1 + o.second.count)) ≡ grown d edge d.cycles d.steps (positions_in xs ys) =
          open_held c long s e k room.cells ∙ ap (λ (n : ℕ). with_cell (held_by c) (Open s e n)) (sym new_length) in
          (ap sheet_of q ∙ h.0 ∙ ap (λ (w : Sheet). appended w edge) gone.keeps.sheet, subst Fits (sym q) h.1)

      joined : (out : Arrays) → out ≡ with_open (with_both b xs ys) o.first.far o.second.far (o.first.count + 1 + o.second.count)
          → (l : Line) → l ≡ record { number = 0; first = a.next; new = 1; removed = a.count - b.count } → Joined a o bare p out l
      joined out eo l el =
          subst (λ (w : Arrays). Joined a o bare p w l) (sym eo)
          (record {
            sheet = comes.0;
            fits = comes.1;
            long = open_long c long o.first.far o.second.far k;
            rows = open_normal c long o.first.far o.second.far k room.cells gone.keeps.rows;
            issued = ap (λ (n : ℕ). n + 1) en;
            line = el ∙ ap (λ (n : ℕ). record { number = 0; first = a.next; new = 1; removed = n }) removed;
          })
        where
          removed : a.count - b.count ≡ a.count + 1 - (b.count + 1)
          removed = omega arith

      -- the row of the edge of both is written, and counted
      pub joined_by : (out : Arrays)
          → out ≡ row_put (with_both b xs ys) b.count a.next 1 o.first.far o.second.far (o.first.count + 1 + o.second.count) 0
          → (l : Line) → l ≡ record { number = 0; first = a.next; new = 1; removed = a.count - b.count }
          → Joined a o bare p (record out { next = a.next + 1; count = b.count + 1 }) l
      joined_by out q =
          joined (record out { next = a.next + 1; count = b.count + 1 }) (open_row_lem c out a.next o.first.far o.second.far k (sym en) q)
