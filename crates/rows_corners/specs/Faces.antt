-- The cycles of one face, where they stand in a drawing's arrays, and the sheet where it has others. Definitions only.
use Rattle.std.specs.Prelude.{ℕ, ◌+◌, ◌≤◌, ◌≡◌, true, List, length, take, drop}
use Rattle.complex.specs.Cells.{Cycle, face, Sheet, cell_at, is_face}
use Rattle.complex.specs.Cells as cells
use Rattle.complex.specs.Edits.{every_id, replaced}
use Rattle.complex.specs.Sound.{cycles_in, steps_in, cycles_most, steps_most, over}
use Rattle.store.specs.declared.Drawing.{Drawing}
use Rattle.store.specs.declared.Index.{Index}
use Rattle.store.specs.Index.{Rising, Indexes}
use Rattle.store.specs.View.{sheet_of, Fits, cycles_from, width_sum, cycle_total, step_total}
use Rattle.rows_spans.specs.declared.Spans.{Spans}
use Rattle.rows_new.specs.Appends.{remade}

-- n rows of an index, by rising ids
pub record IndexRows (ix : Index) (n : ℕ) : Type 0 where
  pub few : n ≤ 256
  pub ids : length ix.ids ≡ 256
  pub kinds : length ix.kinds ≡ 256
  pub starts : length ix.starts ≡ 256
  pub ends : length ix.ends ≡ 256
  pub cycles : length ix.cycles ≡ 256
  pub rising : Rising (take n ix.ids)

-- f is a face of d, whose ids rise and whose index is ix
pub record Named (d : Drawing) (ix : Index) (f : ℕ) : Type 0 where
  pub fits : Fits d
  pub index : Indexes d ix
  pub rising : Rising (take d.count ix.ids)
  pub face : is_face (cell_at (sheet_of d) f) ≡ true

-- the cycles that stand in spans of two arrays
abbrev pub cycles_at : List ℕ → List ℕ → Spans → List Cycle
cycles_at cycles steps t = cycles_from (take t.cycles.count (drop t.cycles.first cycles)) (drop t.steps.first steps)

-- the spans lie within a drawing's arrays, and the steps are those of the cycles
pub record Within (cycles steps : List ℕ) (t : Spans) : Type 0 where
  pub cycles_size : length cycles ≡ 512
  pub steps_size : length steps ≡ 2048
  pub in_cycles : t.cycles.first + t.cycles.count ≤ 512
  pub in_steps : t.steps.first + t.steps.count ≤ 2048
  pub wide : width_sum (take t.cycles.count (drop t.cycles.first cycles)) ≡ t.steps.count

-- the spans are those of the face f
pub record Spanned (d : Drawing) (f : ℕ) (t : Spans) : Type 0 where
  pub within : Within d.cycles d.steps t
  pub list : cycles_at d.cycles d.steps t ≡ cells.cycles_of (cell_at (sheet_of d) f)
  pub few_cycles : t.cycles.count ≤ cycle_total d
  pub few_steps : t.steps.count ≤ step_total d

-- the face f of s with other cycles
abbrev pub recycled : Sheet → ℕ → List Cycle → Sheet
recycled s f ks = remade every_id (replaced f (face ks)) s

-- a drawing's arrays have room for the cycles of s
pub record Roomy (s : Sheet) : Type 0 where
  pub cycles : over cycles_in s.cells ≤ cycles_most
  pub steps : over steps_in s.cells ≤ steps_most
