-- Other cycles for a face of lent arrays, and then an open edge. Assumes nothing.
use Prim.Native.Nat.{ℕ, ◌+◌, ◌*◌, ◌≤◌}
use mathlib.Core.Path.{◌≡◌, refl, sym, ap, ap₂, subst, ◌∙◌}
use mathlib.Core.List.{List, ◌∷◌}
use native.Mathlib.Omega.{arith}
use lib.Ieee.{Float}
use lib.ListN.{length, take}
use Rattle.coordinate.specs.declared.Position.{Position}
use Rattle.bends.specs.Bends.{positions_at}
use Rattle.bends.proofs.Laws.{positions_length}
use Rattle.complex.specs.Cells.{Cycle, Figure, open_edge, face, Sheet}
use Rattle.store.specs.View.{sheet_of, bend_total, cycle_total, step_total, width_sum}
use Rattle.store.specs.Edits.{appended}
use Rattle.store.specs.Index.{row_of}
use Rattle.rows_spans.specs.declared.Spans.{Spans}
use Rattle.rows_spans.specs.declared.Used.{Used}
use Rattle.rows_spans.specs.Runs.{spans_of, sheet_with_row}
use Rattle.rows_spans.specs.Building.{Building, built}
use Rattle.rows_new.specs.Appends.{RoomIn, CellRoom}
use Rattle.rows_new.proofs.Rooms.{room_first}
use Rattle.answer.specs.declared.Totals.{Totals}
use Rattle.rows_corners.specs.Faces.{recycled}
use Rattle.rows_corners.proofs.Rows.{replaced_with}
use Rattle.lent.specs.Arrays.{Arrays, held_by, rows_by, totals_of, Lengths}
use Rattle.lent.specs.Growing.{with_open}
use Rattle.lent.proofs.Held.{held_sizes}
use Rattle.lent.proofs.Sums.{bends_held, cycles_held, steps_held}
use Rattle.lent.proofs.Grown.{open_long, open_normal, open_cycles}
use Rattle.kernel_cycles.specs.Replacing.{ReplacesIn, ReplacedIn}
use Rattle.kernel_add.specs.Comes.{BendsPut}
use Rattle.kernel_add.proofs.Put.{with_placed, placed_long, open_grew}
use Rattle.kind_cut_face.specs.Cuts.{FaceCuts}
use Rattle.kind_cut_face.proofs.Cuts.{sizes_in, replaces}
use Rattle.kernel_part.specs.Rounds.{HoldsIn}

-- the row of a is a face's, whose cycles and steps stand at s; there is room for the cycles of a list in their place, and then for an
-- edge from v to w with the k bends that the script has at first, and for others after it; `at` bends are in use
pub record ChordRoom (a : Arrays) (row : ℕ) (s : Spans) (numbers : List ℕ) (u : Used) (places : List ℕ) (at : ℕ)
    (script : List ℕ) (v w k first : ℕ) : Type 0 where
  pub replaces : ReplacesIn a row s numbers u.cycles places u.steps
  pub in_use : at ≡ (totals_of a).bends
  pub bytes : first + 16 * k ≤ length script
  pub others : List Figure
  pub room : RoomIn (sheet_with_row (sheet_of (held_by a)) row (face (built numbers u places))) (open_edge v w (positions_at script first k) ∷ others)

-- ---- the edge, where b have the cycles of the list
module _ (a : Arrays) (row : ℕ) (s : Spans) (numbers : List ℕ) (u : Used) (places : List ℕ) (at : ℕ) (script : List ℕ) (v w k first : ℕ)
    (x : ChordRoom a row s numbers u places at script v w k first) (b : Arrays)
    (q : ReplacedIn a row s u.cycles u.steps (built numbers u places) b) where
  abbrev bs : List Position
  bs = positions_at script first k

  abbrev edge : Figure
  edge = open_edge v w (positions_at script first k)

  pub chord_comes : CellRoom (held_by b) (open_edge v w (positions_at script first k))
  chord_comes = room_first (held_by b) (held_sizes b q.long) q.fits edge x.others
      (subst (λ (t : Sheet). RoomIn t (edge ∷ x.others)) (sym q.sheet) x.room)

  bends_are : at ≡ bend_total (held_by b)
  bends_are = x.in_use ∙ sym (ap (λ (t : Totals). t.bends) q.sums) ∙ bends_held b q.long q.rows

  pub chord_bends : at + k ≤ 2048
  chord_bends = omega (arith, bends_are, chord_comes.bends, positions_length script first k)

  module _ (us vs : List Float) (p : BendsPut b.bx b.by at (positions_at script first k) k us vs) where
    abbrev chorded : Arrays
    chorded = with_open (with_placed b us vs) v w k

    long : Lengths (with_placed b us vs)
    long = placed_long b q.long bs k at (positions_length script first k) bends_are us vs p

    cycles_stay : cycle_total (held_by chorded) ≡ s.cycles.first + u.cycles + s.cycles.rest
    cycles_stay = open_cycles (with_placed b us vs) long v w k chord_comes.cells ∙ sym (cycles_held b q.long q.rows) ∙ ap (λ (t : Totals). t.cycles)
        q.sums

    steps_stay : step_total (held_by chorded) ≡ s.steps.first + u.steps + s.steps.rest
    steps_stay =
        ap (λ (n : ℕ). width_sum (take n b.cycles)) (open_cycles (with_placed b us vs) long v w k chord_comes.cells)
        ∙ sym (steps_held b q.long q.rows) ∙ ap (λ (t : Totals). t.steps) q.sums

    pub chord_holds : (o : Arrays) → o ≡ with_open (with_placed b us vs) v w k
        → HoldsIn (appended (sheet_with_row (sheet_of (held_by a)) row (face (built numbers u places))) (open_edge v w (positions_at script first k)))
        (s.cycles.first + u.cycles + s.cycles.rest) (s.steps.first + u.steps + s.steps.rest) o
    chord_holds o e =
        let g = open_grew b q.long bs k at (positions_length script first k) bends_are us vs p v w chord_comes in
        subst
        (HoldsIn (appended (sheet_with_row (sheet_of (held_by a)) row (face (built numbers u places))) edge) (s.cycles.first + u.cycles + s.cycles.rest)
        (s.steps.first + u.steps + s.steps.rest))
        (sym e)
        (record {
          holds =
              record {
                sheet = g.0 ∙ ap (λ (t : Sheet). appended t edge) q.sheet;
                fits = g.1;
                long = open_long (with_placed b us vs) long v w k;
                rows = open_normal (with_placed b us vs) long v w k chord_comes.cells q.rows;
              };
          cycles = cycles_stay;
          steps = steps_stay;
        })

-- ---- of a face whose list and whose edge are those of a cut

-- there is room for the cycles ks of f and for the edge x, and what comes is the sheet with both
pub record ChordFace (a : Arrays) (t : Totals) (f : ℕ) (ks : List Cycle) (x : Figure) (row : ℕ) (s : Spans) (numbers : List ℕ) (u : Used)
    (places script : List ℕ) (v w k first : ℕ) : Type 0 where
  pub asks : ChordRoom a row s numbers u places t.bends script v w k first
  pub holds : {n m : ℕ} {o : Arrays} → HoldsIn (appended (sheet_with_row (sheet_of (held_by a)) row (face (built numbers u places)))
      (open_edge v w (positions_at script first k))) n m o
      → HoldsIn (appended (recycled (sheet_of (held_by a)) f ks) x) n m o

holds_as : {q r : Sheet} {n m : ℕ} {o : Arrays} → q ≡ r → HoldsIn q n m o → HoldsIn r n m o
holds_as {n = n} {m = m} {o = o} e h = subst (λ (s : Sheet). HoldsIn s n m o) e h

module _ (a : Arrays) (t : Totals) (f : ℕ) (ks : List Cycle) (x : Figure) (others : List Figure) (c : FaceCuts a t f ks (x ∷ others)) (row : ℕ)
    (e : row ≡ row_of f (take a.count a.ids)) (numbers : List ℕ) (u : Used) (places : List ℕ)
    (b : Building numbers u places) (ek : built numbers u places ≡ ks) where
  row_sheet : sheet_with_row (sheet_of (held_by a)) row (face (built numbers u places)) ≡ recycled (sheet_of (held_by a)) f ks
  row_sheet =
      replaced_with (held_by a) (sizes_in a t f ks (x ∷ others) c) (rows_by a) f c.named numbers u places row e _ refl
      ∙ ap (recycled (sheet_of (held_by a)) f) ek

  pub chord_face : (s : Spans) → s ≡ spans_of a.counts t.cells (row_of f (take a.count a.ids)) a.cycles
      → {script : List ℕ} {v w k first : ℕ} → open_edge v w (positions_at script first k) ≡ x → first + 16 * k ≤ length script
      → ChordFace a t f ks x row s numbers u places script v w k first
  chord_face s es {script} {v} {w} {k} {first} ex h =
      record {
        asks =
            record {
              replaces =
                  replaces a t f ks (x ∷ others) c row e s (es ∙ ap (λ (r : ℕ). spans_of a.counts t.cells r a.cycles) (sym e)) numbers u places b ek;
              in_use = ap (λ (q : Totals). q.bends) c.ready.sums;
              bytes = h;
              others = others;
              room =
                  subst (λ (q : Sheet). RoomIn q (open_edge v w (positions_at script first k) ∷ others)) (sym row_sheet)
                  (subst (λ (y : Figure). RoomIn (recycled (sheet_of (held_by a)) f ks) (y ∷ others)) (sym ex) c.room);
            };
        holds = holds_as (ap₂ appended row_sheet ex);
      }
