-- 0C: what its faces get, and what is known once questions 3 to 8 got a yes. Definitions only.
use Rattle.std.specs.Prelude.{ℕ, ◌+◌, ◌*◌, ◌≤◌, ◌≡◌, true, cond, List, [], ◌∷◌, ◌++◌, T, eqb, length, get_or}
use Rattle.number.specs.Numbers.{read_number}
use Rattle.coordinate.specs.declared.Position.{Position}
use Rattle.bends.specs.Bends.{positions_at}
use Rattle.complex.specs.Lists.{one, rotated}
use Rattle.complex.specs.Cells.{Cycle, path, Figure, open_edge, face, Look, cell_at, along, against, cycles_of, steps_of}
use Rattle.complex.specs.Edits.{cycle_replaced, without_cycle}
use Rattle.complex.specs.Cut.{no_cycle, corner, stretch, remainder, moved_cycles, staying_cycles, cut_corners}
use Rattle.store.specs.declared.Drawing.{Drawing}
use Rattle.store.specs.declared.Index.{Index}
use Rattle.store.specs.View.{sheet_of}
use Rattle.sound.specs.Soundness.{sound_drawing}
use Rattle.rows_new.specs.Appends.{RoomIn}
use Rattle.decode_parts.specs.Lists.{Stand, numbers_read}
use Rattle.rows_corners.specs.Faces.{Named, recycled}

-- the new edge e runs from corner s1 of cycle c1 to corner s2 of cycle c2
abbrev pub chord : Look → List Cycle → ℕ → ℕ → ℕ → ℕ → List Position → Figure
chord look ks c1 s1 c2 s2 bs = open_edge (corner look (get_or ks c1 no_cycle) s1) (corner look (get_or ks c2 no_cycle) s2) bs

-- one cycle: P e⁻ takes its place, and the moved cycles go
abbrev pub near_side : ℕ → ℕ → ℕ → ℕ → List ℕ → List Cycle → List Cycle
near_side e c s1 s2 ms ks = staying_cycles ms (cycle_replaced c (path (stretch s1 s2 (steps_of (get_or ks c no_cycle)) ++ one (against e))) ks)

-- the new face gets Q e and the moved cycles
abbrev pub far_side : ℕ → ℕ → ℕ → ℕ → List ℕ → List Cycle → List Cycle
far_side e c s1 s2 ms ks = path (remainder s1 s2 (steps_of (get_or ks c no_cycle)) ++ one (along e)) ∷ moved_cycles ms ks

-- two cycles: c1 from s1, e, c2 from s2, e⁻ take the place of c1, and c2 goes
abbrev pub bridge : ℕ → ℕ → ℕ → ℕ → ℕ → List Cycle → List Cycle
bridge e c1 s1 c2 s2 ks =
    let k1 = get_or ks c1 no_cycle in
    let k2 = get_or ks c2 no_cycle in
    let k = path (rotated s1 (steps_of k1) ++ (along e ∷ rotated s2 (steps_of k2) ++ one (against e))) in
    without_cycle c2 (cycle_replaced c1 k ks)

-- the bends and the moved cycles lie in the script, f is a face of the sound drawing d, and question 5 got a yes
pub record Along (d : Drawing) (ix : Index) (script : List ℕ) (f c1 s1 c2 s2 bends first moved place : ℕ) : Type 0 where
  pub sound : T (sound_drawing d)
  pub named : Named d ix f
  pub bytes : first + 16 * bends ≤ length script
  pub stand : Stand read_number script place moved
  pub corners : cut_corners (cell_at (sheet_of d)) (cycles_of (cell_at (sheet_of d) f)) c1 s1 c2 s2 (numbers_read script place moved) ≡ true

-- the cycles that the face has then: those of the near side, where the corners are of one cycle
abbrev pub old_side : ℕ → ℕ → ℕ → ℕ → ℕ → List ℕ → List Cycle → List Cycle
old_side e c1 s1 c2 s2 ms ks = cond (eqb c1 c2) (near_side e c1 s1 s2 ms ks) (bridge e c1 s1 c2 s2 ks)

-- those of the new face, and the face, where one comes
abbrev pub new_side : ℕ → ℕ → ℕ → ℕ → ℕ → List ℕ → List Cycle → List Cycle
new_side e c1 s1 c2 s2 ms ks = cond (eqb c1 c2) (far_side e c1 s1 s2 ms ks) []

abbrev pub new_faces : ℕ → ℕ → ℕ → ℕ → ℕ → List ℕ → List Cycle → List Figure
new_faces e c1 s1 c2 s2 ms ks = cond (eqb c1 c2) (face (far_side e c1 s1 s2 ms ks) ∷ []) []

-- there is room for the result
pub record Cutting (d : Drawing) (ix : Index) (script : List ℕ) (f c1 s1 c2 s2 bends first moved place : ℕ) : Type 0 where
  pub asked : Along d ix script f c1 s1 c2 s2 bends first moved place
  pub room : RoomIn
      (recycled (sheet_of d) f (old_side (sheet_of d).next c1 s1 c2 s2 (numbers_read script place moved) (cycles_of (cell_at (sheet_of d) f))))
      (chord (cell_at (sheet_of d)) (cycles_of (cell_at (sheet_of d) f)) c1 s1 c2 s2 (positions_at script first bends)
      ∷ new_faces (sheet_of d).next c1 s1 c2 s2 (numbers_read script place moved) (cycles_of (cell_at (sheet_of d) f)))
