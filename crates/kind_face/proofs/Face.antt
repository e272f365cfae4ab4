-- 04: the arrays with a face more, whose cycles and steps are put after those in use. Assumes nothing.
use Prim.Native.Nat.{ℕ, ◌+◌, ◌≤◌, min}
use native.Mathlib.Omega.{arith}
use mathlib.Core.Path.{◌≡◌, refl, sym, ap, ◌∙◌}
use mathlib.Core.Bool.{true}
use mathlib.Core.List.{List, ◌++◌, map}
use lib.ListN.{length, take, drop, length-append, length-map}
use lib.Seq.{sets, length-sets, sets-eq, take_at, length-take-le}
use Rattle.number.specs.Readers.{spread}
use Rattle.complex.specs.Lists.{total}
use Rattle.complex.specs.Cells.{Cycle, face}
use Rattle.complex.specs.Sound.{step_count}
use Rattle.complex.specs.Decode.{create, read_cycle}
use Rattle.complex.proofs.Asked.{Passed}
use Rattle.store.specs.Sheet.{all_real}
use Rattle.store.specs.Places.{num_of, cycle_words}
use Rattle.store.specs.View.{sheet_of, cycle_total, step_total}
use Rattle.sound.specs.Rows.{rows_of}
use Rattle.rows_new.specs.Appends.{CellRoom}
use Rattle.rows_new.proofs.Bends.{Grew}
use Rattle.decode_parts.specs.Lists.{cycles_read, Stand}
use Rattle.decode_parts.proofs.Stands.{stand_length}
use Rattle.script.proofs.Cycles.{reals_read}
use Rattle.answer.specs.declared.Totals.{Totals}
use Rattle.answer.specs.Sizes.{sized, nothing, more_less, changed_by}
use Rattle.answer.specs.Late.{sizes_by, late_no}
use Rattle.ask_face_named.specs.Walks.{Rowed}
use Rattle.ask_face.specs.Faces.{face_no}
use Rattle.ask_face.proofs.Meaning.{rowed, face_refuses, face_passed, no_by_steps}
use Rattle.lent.specs.Arrays.{Arrays, held_by, rows_by, Lengths}
use Rattle.lent.specs.declared.Line.{Line}
use Rattle.lent.specs.Growing.{with_face}
use Rattle.lent.specs.Replies.{line_of, Ready, Obeyed}
use Rattle.lent.proofs.Grown.{face_long, face_normal}
use Rattle.lent.proofs.Sums.{ready_rows, ready_drawing, ready_sizes, ready_indexes, ready_cycles, ready_steps, ready_no}
use Rattle.kernel_add.specs.Comes.{one_new}
use Rattle.kernel_add.proofs.Comes.{obeyed_full, came_room, obeyed_came}
use Rattle.kernel_add.proofs.Faces.{with_pools, pools_long, face_grew}

-- the front, where numbers are put after it
sets_front : (l vs : List ℕ) (i : ℕ) → i + length vs ≤ length l → take (i + length vs) (sets l i vs) ≡ take i l ++ vs
sets_front l vs i h =
    let n : length (take i l ++ vs) ≡ i + length vs = length-append (take i l) vs ∙ ap (λ (k : ℕ). k + length vs) (length-take-le i l (omega (arith, h))) in
    ap (take (i + length vs)) (sets-eq vs l i h) ∙ take_at (take i l ++ vs) (drop (i + length vs) l) (i + length vs) n

-- ---- the face
module _ (a : Arrays) (l : Lengths a) (ks : List Cycle) (m : CellRoom (held_by a) (face ks)) (k c p : ℕ) (lk : length ks ≡ k)
    (ec : c ≡ cycle_total (held_by a)) (ep : p ≡ step_total (held_by a)) (re : all_real ks ≡ true)
    (cs ss : List ℕ) (es : cs ≡ sets a.cycles c (map num_of ks)) (et : ss ≡ sets a.steps p (spread cycle_words ks)) where
  long : Lengths (with_pools a cs ss)
  long =
      pools_long a l cs ss (ap length es ∙ length-sets a.cycles c (map num_of ks) ∙ l.cycles)
      (ap length et ∙ length-sets a.steps p (spread cycle_words ks) ∙ l.steps)

  grew : Grew (held_by a) (face ks) (held_by (with_face (with_pools a cs ss) k))
  grew =
      let d = held_by a in
      face_grew a l cs ss long.cycles long.steps ks k lk re m
      (ap (take (cycle_total d + length (map num_of ks))) (es ∙ ap (λ (i : ℕ). sets a.cycles i (map num_of ks)) ec)
      ∙ sets_front a.cycles (map num_of ks) (cycle_total d) (omega (arith, m.cycles, length-map ks num_of, l.cycles)))
      (ap (take (step_total d + length (spread cycle_words ks))) (et ∙ ap (λ (i : ℕ). sets a.steps i (spread cycle_words ks)) ep)
      ∙ sets_front a.steps (spread cycle_words ks) (step_total d) (omega (arith, m.steps, l.steps)))

-- ---- 04
module _ (a : Arrays) (t : Totals) (r : Ready a t) (s : List ℕ) (first k : ℕ) (stand : Stand read_cycle s first k) where
  abbrev ks : List Cycle
  ks = cycles_read s first k

  count : length (cycles_read s first k) ≡ k
  count = stand_length read_cycle s first k stand

  pub face_rowed : Rowed a.count a.ids a.kinds a.starts a.ends
  face_rowed = rowed (held_by a) (ready_sizes a t r) (ready_drawing a t r) (rows_by a) (ready_indexes a t r)

  -- n is what `face_no` answers
  module _ (n : ℕ) (en : n ≡ face_no (rows_of a.count a.ids a.kinds a.starts a.ends) (cycles_read s first k)) where
    pub obeyed_asked : (n ≡ 0 → ⊥) → (x : Line) → x ≡ line_of n → Obeyed a (create (face (cycles_read s first k))) a x
    obeyed_asked z x e =
        ready_no a t r (create (face ks)) n x e
        (face_refuses (held_by a) (ready_sizes a t r) (ready_drawing a t r) (rows_by a) (ready_indexes a t r) s first k stand n en z)

    -- m is what `count_cycle_steps` and q what `cell_asked` answers
    module _ (z : n ≡ 0) (w m q : ℕ) (ew : w ≡ k) (em : m ≡ min 2049 (total step_count (cycles_read s first k)))
        (eq : q ≡ late_no a.next 1 (changed_by (sizes_by t) (more_less (sized 1 w m 0) nothing))) where
      passed : Passed (sheet_of (held_by a)) (create (face (cycles_read s first k)))
      passed = face_passed (held_by a) (ready_sizes a t r) (ready_drawing a t r) (rows_by a) (ready_indexes a t r) s first k stand n en z

      late : q ≡ late_no a.next 1 (changed_by (sizes_by t) (more_less (sized 1 (length ks) (total step_count ks) 0) nothing))
      late = no_by_steps a.next t q w m ks (ew ∙ sym count) em eq

      pub obeyed_face_full : (q ≡ 0 → ⊥) → (x : Line) → x ≡ line_of q → Obeyed a (create (face (cycles_read s first k))) a x
      obeyed_face_full = obeyed_full a t r (face ks) passed q late

      module _ (y : q ≡ 0) where
        face_room : CellRoom (held_by a) (face (cycles_read s first k))
        face_room = came_room a t r (face ks) passed q late y

        pub obeyed_face : (cs ss : List ℕ) → cs ≡ sets a.cycles t.cycles (map num_of (cycles_read s first k))
            → ss ≡ sets a.steps t.steps (spread cycle_words (cycles_read s first k))
            → (o : Arrays) → o ≡ with_face (with_pools a cs ss) k → (x : Line) → x ≡ one_new a.next → Obeyed a (create (face (cycles_read s first k))) o x
        obeyed_face cs ss es et =
            let c = ready_cycles a t r in
            let p = ready_steps a t r in
            let re : all_real ks ≡ true = reals_read k (drop first s) (drop stand.end s) ks stand.reach.read in
            let lb = long a r.long ks face_room k t.cycles t.steps count c p re cs ss es et in
            let b = with_pools a cs ss in
            obeyed_came a t r (face ks) passed q late y (with_face b k) (face_long b lb k) refl refl
            (face_normal b lb k face_room.cells (ready_rows a t r))
            (grew a r.long ks face_room k t.cycles t.steps count c p re cs ss es et)
