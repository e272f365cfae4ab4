-- 0D: what its two faces get, and what is asked before. Definitions only.
use Rattle.std.specs.Prelude.{ℕ, ◌+◌, ◌*◌, ◌≤◌, ◌≡◌, true, cond, List, [], ◌∷◌, ◌++◌, T, eqb, length, take}
use Rattle.number.specs.Numbers.{read_number}
use Rattle.bends.specs.Bends.{positions_at}
use Rattle.complex.specs.Lists.{one, places, without, chosen}
use Rattle.complex.specs.Cells.{Cycle, path, closed_edge, face, cell_at, along, against, cycles_of}
use Rattle.complex.specs.Cut.{no_cycle}
use Rattle.complex.specs.Sound.{cycles_most, steps_most}
use Rattle.store.specs.declared.Drawing.{Drawing}
use Rattle.store.specs.declared.Index.{Index}
use Rattle.store.specs.Index.{value_at}
use Rattle.store.specs.View.{sheet_of, cycle_total, step_total}
use Rattle.sound.specs.Soundness.{sound_drawing}
use Rattle.rows_new.specs.Appends.{RoomIn}
use Rattle.decode_parts.specs.Lists.{Stand, numbers_read}
use Rattle.rows_corners.specs.Faces.{Named, recycled}

-- the cycles that stay, and then e
abbrev pub stayed : List ℕ → List Cycle → ℕ → List Cycle
stayed ms ks e = without ms 0 ks ++ one (path (one (along e)))

-- e⁻, and then the moved cycles
abbrev pub left : List ℕ → List Cycle → ℕ → List Cycle
left ms ks e = path (one (against e)) ∷ chosen no_cycle ms ks

-- questions 3 to 8 got a yes
pub record RoundCut (d : Drawing) (ix : Index) (script : List ℕ) (f bends first moved place : ℕ) : Type 0 where
  pub named : Named d ix f
  pub sound : T (sound_drawing d)
  pub bytes : first + 16 * bends ≤ length script
  pub stand : Stand read_number script place moved
  pub rise : places 0 (numbers_read script place moved) (length (cycles_of (cell_at (sheet_of d) f))) ≡ true
  pub cycle_room : cycle_total d + 2 ≤ cycles_most
  pub step_room : step_total d + 2 ≤ steps_most
  pub room : RoomIn (recycled (sheet_of d) f (stayed (numbers_read script place moved) (cycles_of (cell_at (sheet_of d) f)) (sheet_of d).next))
      (closed_edge (positions_at script first bends)
      ∷ face (left (numbers_read script place moved) (cycles_of (cell_at (sheet_of d) f)) (sheet_of d).next) ∷ [])

-- questions 4 and 5, by the rows of an index: the number of the first no, or 0
abbrev pub round_no : Index → ℕ → ℕ → ℕ → List ℕ → ℕ
round_no ix n f bends ms =
    cond (eqb (value_at 4 (take n ix.ids) (take n ix.kinds) f) 3)
    (cond (eqb bends 0) 5 (cond (places 0 ms (value_at 0 (take n ix.ids) (take n ix.cycles) f)) 0 5)) 4
