-- Arrays that are renumbered hold the renumbered drawing. Assumes nothing.
use Prim.Native.Nat.{ℕ, suc}
use mathlib.Core.Path.{◌≡◌, refl, sym, ap, ap₂, fun_ext, ◌∙◌}
use mathlib.Core.Bool.{true}
use mathlib.Core.List.{List, map}
use lib.ListN.{length, take}
use Rattle.complex.specs.Cells.{Figure, LiveCell, Sheet}
use Rattle.complex.specs.Edits.{numbered, rewired}
use Rattle.complex.specs.Renumber.{rank, renamed_step, renamed_figure, renumbered}
use Rattle.store.specs.View.{sheet_of, Fits, cycle_total}
use Rattle.store.proofs.Stands.{Stands, stands, viewed, fitting, count_is, ids_same}
use Rattle.store.proofs.Grow.{sheet_is}
use Rattle.rows_steps.specs.Renaming.{PlacesRewritten}
use Rattle.lent.specs.Arrays.{Arrays, of_lists, shape_at, held_by, normal, Lengths}
use Rattle.lent.proofs.Held.{held_sizes, cells_ids}
use Rattle.kernel_rename.specs.Renames.{EndsRenamed, RewiredIn}
use Rattle.kernel_rename.proofs.Lent.{with_ends, rewired_in}
use Rattle.kernel_renumber.specs.Renumbers.{new_id, new_place, RowsNumbered, RenumberedIn}
use Rattle.kernel_renumber.proofs.Places.{new_rewrites}
use Rattle.kernel_renumber.proofs.Rows.{rank_row, number_heads, number_cycles, number_bends, reshaped_figures}

-- the arrays with another next id and other ids
abbrev pub with_ids : Arrays → ℕ → List ℕ → Arrays
with_ids a x is =
    of_lists x a.count is a.kinds a.starts a.ends a.bends a.counts a.px a.py a.cycles a.steps a.bx a.by

-- ---- rows that are numbered
module _ (a : Arrays) (l : Lengths a) (f : Fits (held_by a)) (x : ℕ) (is : List ℕ) (p : RowsNumbered a.count a.ids is) where
  abbrev b : Arrays
  b = with_ids a x is

  long : Lengths b
  long =
      record {
        ids = p.size ∙ l.ids;
        kinds = l.kinds;
        starts = l.starts;
        ends = l.ends;
        bends = l.bends;
        counts = l.counts;
        px = l.px;
        py = l.py;
        cycles = l.cycles;
        steps = l.steps;
        bx = l.bx;
        by = l.by;
      }

  abbrev xs : List LiveCell
  xs = (sheet_of (held_by a)).cells

  abbrev ys : List LiveCell
  ys = numbered 1 (map (λ (c : LiveCell). c.figure) xs)

  stands_numbered : Stands (held_by b) ys
  stands_numbered =
      let s = stands (held_by a) (held_sizes a l) f in
      record {
        cells = number_heads (shape_at a) a.count a.ids is xs p s.cells;
        cycles = rw (number_cycles 1 xs) s.cycles;
        steps = rw (number_cycles 1 xs) s.steps;
        bends = rw (number_bends 1 xs) s.bends;
        real = rw (number_cycles 1 xs) s.real;
      }

  pub numbered_sheet : sheet_of (held_by b) ≡ record { next = x; cells = ys }
  numbered_sheet = sheet_is (held_by b) (record { next = x; cells = ys }) refl (viewed (held_by b) ys stands_numbered)

  pub numbered_fits : Fits (held_by b)
  numbered_fits = fitting (held_by b) ys stands_numbered (held_sizes b long) f.cells

-- ---- the whole
module _ (a : Arrays) (l : Lengths a) (f : Fits (held_by a)) (n : normal a ≡ true) where
  abbrev r : ℕ → ℕ
  r = new_id (take a.count a.ids)

  abbrev cells : List LiveCell
  cells = (sheet_of (held_by a)).cells

  -- the new ids are those of the definition
  ranks : r ≡ rank cells
  ranks =
      fun_ext (λ i. sym (rank_row cells i
      ∙ ap (λ (q : List ℕ). new_id q i) (sym (cells_ids (shape_at a) a.count a.ids ∙ ids_same (held_by a) (held_sizes a l) f))))

  module _ (ss es st is : List ℕ) (rs : EndsRenamed r a.kinds a.count a.starts ss) (re : EndsRenamed r a.kinds a.count a.ends es)
      (lt : length st ≡ 2048) (rl : PlacesRewritten (new_place r) (take (cycle_total (held_by a)) a.cycles) a.steps st)
      (p : RowsNumbered a.count a.ids is) (x : ℕ) (e : x ≡ suc a.count) where
    abbrev c : Arrays
    c = with_ends a ss es st

    rewired_c : RewiredIn r (renamed_step r) a c
    rewired_c = rewired_in r (renamed_step r) (new_place r) (new_rewrites r) a l f n ss es st rs re lt rl

    renumbered_sheet : sheet_of (held_by (with_ids c x is)) ≡ renumbered (sheet_of (held_by a))
    unfolding renumbered
    renumbered_sheet =
        let w = rewired_c in
        let many : length cells ≡ a.count = sym (count_is (held_by a) cells (stands (held_by a) (held_sizes a l) f) (held_sizes a l) f.cells) in
        numbered_sheet c w.long w.fits x is p
        ∙ ap₂ (λ (k : ℕ) (q : List Figure). record { next = k; cells = numbered 1 q }) (e ∙ ap suc (sym many))
        (ap (λ (s : Sheet). map (λ (y : LiveCell). y.figure) s.cells) w.sheet
        ∙ reshaped_figures (rewired r (renamed_step r)) cells
        ∙ ap (λ (ρ : ℕ → ℕ). map (renamed_figure ρ) cells) ranks)

    pub renumbered_in : RenumberedIn a (with_ids c x is)
    renumbered_in =
        record {
          sheet = renumbered_sheet;
          fits = numbered_fits c rewired_c.long rewired_c.fits x is p;
          long = long c rewired_c.long rewired_c.fits x is p;
          rows = rewired_c.rows;
        }
