-- After some cells of a file the rows and the arrays hold what those cells put there. Assumes nothing.
use Rattle.std.specs.Prelude.{Option, Some, None}
use Prim.Native.Nat.{ℕ, ◌+◌, ◌*◌, ◌≤◌, ◌<◌}
use native.Mathlib.Omega.{arith}
use mathlib.Core.Path.{◌≡◌, refl, sym, ap, ◌∙◌, subst}
use mathlib.Core.Bool.{true}
use mathlib.Core.List.{List, ◌++◌, map}
use lib.Ieee.{Float}
use lib.ListN.{length, take, drop}
use lib.Seq.{paste, take-paste, length-paste, take-length, take_all}
use Rattle.number.specs.Readers.{got, times}
use Rattle.number.specs.Numbers.{read_number}
use Rattle.coordinate.specs.declared.Position.{Position}
use Rattle.coordinate.specs.Positions.{position_at}
use Rattle.bends.specs.Bends.{positions_at}
use Rattle.bends.proofs.Laws.{positions_length}
use Rattle.complex.specs.Decode.{read_cycle}
use Rattle.complex.specs.File.{read_cell}
use Rattle.store.specs.declared.Shape.{Shape}
use Rattle.store.specs.declared.Cell.{Cell}
use Rattle.store.specs.declared.Drawing.{Drawing}
use Rattle.store.specs.View.{bend_count, cycle_count, bend_total}
use Rattle.store.proofs.Lists.{map_append}
use Rattle.file_read.specs.declared.Used.{Used}
use Rattle.file_read.specs.Heads.{read_head, ReadAt, HeadRead}
use Rattle.file_read.specs.Filling.{Added, spots_from, bends_more, CyclesLoaded}
use Rattle.file_read.specs.Outcome.{CellsOver, NotHeld}
use Rattle.file_read.proofs.Adding.{spots_length, spots_positions}
use Rattle.file_read.proofs.ShapeParts.{cycles_over}
use Rattle.file_read.proofs.Filled.{Filled, filled_start, filled_room, filled_turn, head_bad, parts_over, bytes_left, filled_given, filled_total}
use Rattle.file_read.proofs.Verdict.{cells_read}
use Rattle.kernel_add.specs.Comes.{BendsPut}
use Rattle.sound.specs.Rows.{all_from}
use Rattle.lent.specs.Arrays.{Arrays, positions_in, held_by, normal_at, normal, Lengths}
use Rattle.lent.specs.Growing.{cell_put}
use Rattle.lent.proofs.Held.{held_sizes, numbered, numbered_long, positions_length as places-length}
use Rattle.lent.proofs.Grown.{shape_long, shape_held, shape_normal}
use Rattle.call_load.specs.Loads.{PartsPut, PartsStored, LoadRoom}
use Rattle.call_load.specs.Loads.{answer_of, CellsHeld, CountsIn, CountsRead, SheetIn}

-- ---- the bends and the cycles of a shape
module _ (s : List ℕ) (first : ℕ) (x : Shape) (counts steps : List ℕ) (used : Used) (counts' steps' : List ℕ) where
  abbrev Stores : Option (ℕ × Used) → ℕ → ℕ → Type 0
  Stores r b k =
      first + 16 * b ≤ length s → used.bends + b ≤ 2048
      → CyclesLoaded (times read_cycle k (drop (first + 16 * b) s)) s counts steps (bends_more used b) counts' steps' r
      → PartsStored s first x counts steps used counts' steps' r

  shape_stored : (r : Option (ℕ × Used)) → Stores r (bend_count x) (cycle_count x)
  shape_stored (Some (next, used')) h f c = record { inside = h; room = f; filled = c }
  shape_stored None h f c = (refl, cycles_over s first x used h c.1)

  pub parts_stored : (r : Option (ℕ × Used)) (b k : ℕ) → b ≡ bend_count x → k ≡ cycle_count x → Stores r b k
  parts_stored r b k e f = subst (λ (z : ℕ). Stores r z k) (sym e) (subst (Stores r (bend_count x)) (sym f) (shape_stored r))

  -- as many bends as were counted stand in the bytes, and have room
  module _ (next : ℕ) (used' : Used) (P : PartsPut s first x counts steps used counts' steps' next used') (k : ℕ) (e : k ≡ bend_count x) where
    pub bends_inside : first + 16 * k ≤ length s
    bends_inside = omega (arith, e, P.inside)

    pub bends_room : used.bends + k ≤ 2048
    bends_room = omega (arith, e, P.room)

-- the places in use with bends put after them
pub bends_after_lem : (xs ys : List Float) (u b : ℕ) (bs : List Position) (xs' ys' : List Float) → length xs ≡ 2048 → length ys ≡ 2048
    → u + b ≤ 2048 → length bs ≡ b → BendsPut xs ys u bs b xs' ys' → take (u + b) (positions_in xs' ys') ≡ take u (positions_in xs ys) ++ bs
bends_after_lem xs ys u b bs xs' ys' lx ly h lb B =
    let old : length (positions_in xs ys) ≡ 2048 = places-length xs ys (lx ∙ sym ly) ∙ lx in
    ap (take (u + b)) B.positions ∙ take-paste (positions_in xs ys) u bs b (omega arith) (omega arith)
    ∙ ap (λ (y : List Position). take u (positions_in xs ys) ++ y) (take_all b bs (omega arith))

-- ---- rows: the first cells of the file are in them, and their bends stand at the places `spots` of the bytes
pub record Rowed (s : List ℕ) (at n p : ℕ) (a : Arrays) (used : Used) : Type 0 where
  pub spots : List ℕ
  pub filled : Filled s at n a.count p (held_by a).cells a.cycles a.steps spots used
  pub bends : take used.bends (positions_in a.bx a.by) ≡ map (position_at s) (take used.bends spots)
  pub rows : normal a ≡ true
  pub long : Lengths a

-- the rows of a with the cell c more, and other arrays
abbrev pub with_head : Arrays → Cell → List ℕ → List ℕ → List Float → List Float → Arrays
with_head a c counts' steps' xs' ys' =
    record (cell_put a a.count c.id c.shape) { count = a.count + 1; cycles = counts'; steps = steps'; bx = xs'; by = ys' }

-- places of bytes put after those in use
spots_added : (l : List ℕ) (u first b : ℕ) → u + b ≤ length l → Added l u (spots_from first b) (paste l u (spots_from first b) (length (spots_from first b)))
spots_added l u first b h =
    let x = spots_from first b in
    let e = spots_length first b in
    record {
      size = length-paste l u x (length x) (omega arith) (omega arith);
      room = omega arith;
      front = take-paste l u x (length x) (omega arith) (omega arith) ∙ ap (λ (y : List ℕ). take u l ++ y) (take-length x);
    }

pub rowed_start : (s : List ℕ) (at n : ℕ) (a : Arrays) → a.count ≡ 0 → at ≤ length s → Lengths a
    → Rowed s at n at a (record { bends = 0; cycles = 0; steps = 0 })
rowed_start s at n a z h l =
    record {
      spots = a.steps;
      filled = subst (λ (i : ℕ). Filled s at n i at (held_by a).cells a.cycles a.steps a.steps (record { bends = 0; cycles = 0; steps = 0 }))
          (sym z) (filled_start s at n (held_by a).cells a.cycles a.steps a.steps h (held_sizes a l).cells l.cycles l.steps l.steps);
      bends = refl;
      rows = none a z;
      long = l;
    }
  where
    none : (b : Arrays) → b.count ≡ 0 → normal b ≡ true
    none b e = rw e refl

module _ (s : List ℕ) (at n p : ℕ) (a : Arrays) (used : Used) (R : Rowed s at n p a used) where
  pub rowed_room : LoadRoom used a.cycles a.steps
  rowed_room =
      let r = filled_room s at n a.count p (held_by a).cells a.cycles a.steps R.spots used R.filled in
      let l = R.long in
      record {
        counts_size = l.cycles;
        steps_size = l.steps;
        bends_fit = r.bends_fit;
        cycles_fit = r.cycles_fit;
        steps_fit =
            r.steps_fit;
      }

  -- ---- one cell more
  module _ (c : Cell) (first : ℕ) (H : ReadAt (read_head (drop p s)) s c first) (xs' ys' : List Float) (counts' steps' : List ℕ) (next : ℕ) (used' : Used)
      (P : PartsPut s first c.shape a.cycles a.steps used counts' steps' next used')
      (B : BendsPut a.bx a.by used.bends (positions_at s first (bend_count c.shape)) (bend_count c.shape) xs' ys') (h : a.count < n)
      (g : a.count < 256) where
    pub rowed_turn : Rowed s at n next (with_head a c counts' steps' xs' ys') used'
    rowed_turn =
        let x = c.shape in
        let b = bend_count x in
        let u = used.bends in
        let F = R.filled in
        let l = R.long in
        let a' = numbered a c.id a.count in
        let l' = numbered_long a c.id a.count l in
        let sp = spots_from first b in
        let ls = spots_length first b in
        let bs = positions_at s first b in
        let lb : length bs ≡ b = positions_length s first b in
        let A = spots_added R.spots u first b (omega (arith, F.spots_size, P.room)) in
        let spots' = paste R.spots u sp (length sp) in
        let Q = filled_turn s at n a.count p (held_by a).cells a.cycles a.steps R.spots used F c first H spots' counts' steps' next used'
        (record { inside = P.inside; spotted = A; filled = P.filled }) h g in
        let w = shape_long a' l' x in
        let more : used'.bends ≡ u + b = P.filled.same_bends in
        let left : take (u + b) (positions_in xs' ys') ≡ take u (positions_in a.bx a.by) ++ bs =
        bends_after_lem a.bx a.by u b bs xs' ys' l.bx l.by P.room lb B in
        let right : map (position_at s) (take (u + b) spots') ≡ map (position_at s) (take u R.spots) ++ bs =
        ap (λ (k : ℕ). map (position_at s) (take (u + k) spots')) (sym ls) ∙ ap (map (position_at s)) A.front
        ∙ map_append (position_at s) (take u R.spots) sp
        ∙ ap (λ (y : List Position). map (position_at s) (take u R.spots) ++ y) (spots_positions s first b) in
        record {
          spots = spots';
          filled = subst (λ (cs : List Cell). Filled s at n (a.count + 1) next cs counts' steps' spots' used')
              (sym (ap (λ (d : Drawing). d.cells) (shape_held a' l' g x))) Q;
          bends = ap (λ (k : ℕ). take k (positions_in xs' ys')) more ∙ left ∙ ap (λ (y : List Position). y ++ bs) R.bends ∙ sym right
              ∙ ap (λ (k : ℕ). map (position_at s) (take k spots')) (sym more);
          rows = shape_normal a' l' g R.rows x;
          long =
              record {
                ids = w.ids;
                kinds = w.kinds;
                starts = w.starts;
                ends = w.ends;
                bends = w.bends;
                counts = w.counts;
                px = w.px;
                py = w.py;
                cycles = P.filled.counted.size ∙ l.cycles;
                steps = P.filled.stepped.size ∙ l.steps;
                bx = B.across ∙ l.bx;
                by = B.up ∙ l.by;
              };
        }

  -- ---- a cell's head
  pub head_some : (r : Option (Cell × ℕ)) → HeadRead s p r → (c : Cell) (first : ℕ) → r ≡ Some (c, first) → ReadAt (read_head (drop p s)) s c first
  head_some r h c first e = subst (HeadRead s p) e h

  pub head_none : (r : Option (Cell × ℕ)) → HeadRead s p r → r ≡ None → a.count < n → CellsOver (times read_cell n (drop at s))
  head_none r h e l = head_bad s at n a.count p (held_by a).cells a.cycles a.steps R.spots used R.filled l (subst (HeadRead s p) e h).1

  module _ (c : Cell) (first : ℕ) (H : ReadAt (read_head (drop p s)) s c first) (counts' steps' : List ℕ) (r : Option (ℕ × Used))
      (P : PartsStored s first c.shape a.cycles a.steps used counts' steps' r) where
    abbrev Stored : Option (ℕ × Used) → Type 0
    Stored = PartsStored s first c.shape a.cycles a.steps used counts' steps'

    pub parts_some : (next : ℕ) (used' : Used) → r ≡ Some (next, used') → PartsPut s first c.shape a.cycles a.steps used counts' steps' next used'
    parts_some next used' e = subst Stored e P

    pub parts_none : r ≡ None → a.count < n → CellsOver (times read_cell n (drop at s))
    parts_none e l = parts_over s at n a.count p (held_by a).cells a.cycles a.steps R.spots used R.filled c first l H (subst Stored e P).1

  -- ---- all cells
  pub rowed_left : a.count ≡ n → p < length s → CellsOver (times read_cell n (drop at s))
  rowed_left e h = bytes_left s at n a.count p (held_by a).cells a.cycles a.steps R.spots used R.filled e h

  pub rowed_given : a.count ≡ n → length s ≤ p → n ≤ 256 → CellsHeld (times read_cell n (drop at s)) (λ j. numbered a j n)
  rowed_given e h few =
      record {
        cells =
            λ j. filled_given s at n a.count p (held_by a).cells a.cycles a.steps R.spots used R.filled j (answer_of (numbered a j n)) refl
            refl e h
            (held_sizes (numbered a j n) (numbered_long a j n R.long)) few refl refl refl refl R.bends;
        rows = λ j. ap (all_from (normal_at a.kinds a.starts a.ends a.bends a.counts) 0) (sym e) ∙ R.rows;
      }

  -- the bends in use are those of the drawing
  pub rowed_total : a.count ≡ n → n ≤ 256 → (j : ℕ) → used.bends ≡ bend_total (held_by (numbered a j n))
  rowed_total e few j =
      filled_total s at n a.count p (held_by a).cells a.cycles a.steps R.spots used R.filled e (held_by (numbered a j n))
      (held_sizes (numbered a j n) (numbered_long a j n R.long)) few refl refl refl refl R.bends

-- ---- the file
module _ (s : List ℕ) (r : Option (ℕ × ℕ × ℕ)) (c : CountsRead s r) where
  pub counts_some : (next n at : ℕ) → r ≡ Some (next, n, at) → CountsIn s next n at
  counts_some next n at e = subst (CountsRead s) e c

  pub counts_none : r ≡ None → NotHeld s
  counts_none e = subst (CountsRead s) e c

module _ (s t : List ℕ) (next : ℕ) (e : read_number s ≡ got next t) (n : ℕ) (u : List ℕ) (f : read_number t ≡ got n u) where
  pub sheet_in : (b : ℕ → Arrays) → CellsHeld (times read_cell n u) b → SheetIn s (b next)
  sheet_in b H =
      let c = H.cells next in
      record { read = cells_read s t next e n u f (answer_of (b next)) c; fits = c.given.fits; rows = H.rows next }
