-- 0E at an edge: its uses, what the results need of a drawing, and the cycles of the face that stays. Definitions only.
use Rattle.std.specs.Prelude.{ℕ, ◌≤◌, ◌<◌, ◌≡◌, Bool, true, cond, List, [], ◌++◌, T, length, get_or, take}
use Rattle.complex.specs.Lists.{one}
use Rattle.complex.specs.Cells.{Cycle, face, Sheet, Look, cell_at, cycles_of, steps_of, is_live, is_face}
use Rattle.complex.specs.Sound.{cycles_in, steps_in, over}
use Rattle.complex.specs.Edits.{neither, replaced, cycle_replaced, without_cycle, rebuild}
use Rattle.complex.specs.Uses.{Use as Used}
use Rattle.complex.specs.Cut.{no_cycle}
use Rattle.complex.specs.Uncut.{Uncut, uncut_case, uncut_result, face_cycles, left_after, following, following_to}
use Rattle.store.specs.declared.Drawing.{Drawing}
use Rattle.store.specs.declared.Index.{Index}
use Rattle.store.specs.Index.{Indexes, value_at}
use Rattle.store.specs.View.{sheet_of}
use Rattle.sound.specs.Soundness.{sound_drawing}
use Rattle.rows_spans.specs.declared.Used.{Used as Taken}
use Rattle.rows_spans.specs.Building.{Building, built}
use Rattle.rows_corners.specs.Faces.{Named, Roomy}
use Rattle.answer.specs.declared.Totals.{Totals}
use Rattle.rows_stretches.specs.declared.Place.{Place}
use Rattle.rows_stretches.specs.Paths.{Lies, list_at}
use Rattle.ask_uncut_uses.specs.declared.Between.{Between}
use Rattle.ask_uncut_uses.specs.declared.Between.TheVariants.{TwoFaces, OneCycle, Rings}

-- where a step of e ends, by n rows of an index: at the start of e if it is backward
abbrev pub head_by : Index → ℕ → ℕ → Bool → ℕ
head_by ix n e back = cond back (value_at 0 (take n ix.ids) (take n ix.starts) e) (value_at 0 (take n ix.ids) (take n ix.ends) e)

-- ---- the cycles of the face of the first use, which stays
abbrev pub left_cycles : Between → Look → Used → Used → List Cycle
left_cycles TwoFaces look u w =
    cycle_replaced u.cycle (left_after look u (following look u ++ following look w)) (face_cycles look u)
    ++ without_cycle w.cycle (face_cycles look w)
left_cycles OneCycle look u w =
    cycle_replaced u.cycle (left_after look u (following_to look u w)) (face_cycles look u)
    ++ one (left_after look w (following_to look w u))
left_cycles Rings look u w = without_cycle u.cycle (face_cycles look u) ++ without_cycle w.cycle (face_cycles look w)

-- the cell that goes with the edge e: the other face, or none but e
abbrev pub gone_with : Between → ℕ → ℕ → ℕ
gone_with TwoFaces e g = g
gone_with OneCycle e g = e
gone_with Rings e g = g

-- by how many the cycles can become more
abbrev pub more_cycles : Between → ℕ
more_cycles TwoFaces = 0
more_cycles OneCycle = 1
more_cycles Rings = 0

-- ---- what is needed
-- the case of e in a sound drawing is k, and there is room for its result
pub record Case (d : Drawing) (ix : Index) (e : ℕ) (k : Uncut) : Type 0 where
  pub sound : T (sound_drawing d)
  pub index : Indexes d ix
  pub holds : uncut_case (sheet_of d) e ≡ k
  pub room : Roomy (uncut_result (sheet_of d) e k)

-- arrays of n counts and m steps have room for the cycles of s
pub record Takes (n m : ℕ) (s : Sheet) : Type 0 where
  pub few_counts : n ≤ 512
  pub few_steps : m ≤ 2048
  pub cycles : over cycles_in s.cells ≤ n
  pub steps : over steps_in s.cells ≤ m

-- arrays with room for the cycles and the steps of sums t, and a cycle more, have room for the cycles of s
pub record TakesBy (t : Totals) (s : Sheet) : Type 0 where
  pub takes : (n m : ℕ) → n ≤ 512 → m ≤ 2048 → t.cycles < n → t.steps ≤ m → Takes n m s

-- the face f has a cycle c, with steps
pub record Has (d : Drawing) (ix : Index) (f c : ℕ) : Type 0 where
  pub named : Named d ix f
  pub cycle : c < length (cycles_of (cell_at (sheet_of d) f))
  pub some : 1 ≤ length (steps_of (get_or (cycles_of (cell_at (sheet_of d) f)) c no_cycle))

-- it stands at p
pub record CycleFound (d : Drawing) (f c : ℕ) (p : Place) : Type 0 where
  pub lies : Lies d.cycles d.steps p
  pub cycle : p.cycle ≡ c
  pub list : list_at d.cycles d.steps p ≡ cycles_of (cell_at (sheet_of d) f)

-- the cells i and j go; the face f stays, and there is room for the cycles of a list
pub record Going (d : Drawing) (ix : Index) (i j f : ℕ) (counts : List ℕ) (u : Taken) (steps : List ℕ) : Type 0 where
  pub sound : T (sound_drawing d)
  pub index : Indexes d ix
  pub first : is_live (cell_at (sheet_of d) i) ≡ true
  pub second : is_live (cell_at (sheet_of d) j) ≡ true
  pub building : Building counts u steps
  pub stays : neither i j f ≡ true
  pub room : Roomy (rebuild (neither i j) (replaced f (face (built counts u steps))) [] (sheet_of d))
  pub face : is_face (cell_at (sheet_of d) f) ≡ true
