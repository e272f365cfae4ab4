-- 0D in lent arrays: what is asked, and what is answered. Assumes nothing.
use Prim.Native.Nat.{ℕ, ◌+◌, ◌*◌, ◌≤◌}
use mathlib.Core.Path.{◌≡◌, refl, sym, ap, ◌∙◌}
use mathlib.Core.Bool.{true}
use mathlib.Core.List.{List}
use native.Mathlib.Omega.{arith}
use lib.ListN.{length}
use Rattle.number.specs.Readers.{all}
use Rattle.number.specs.Numbers.{read_number}
use Rattle.coordinate.specs.Bounds.{within}
use Rattle.bends.specs.Bends.{positions_at}
use Rattle.bends.proofs.Laws.{positions_length}
use Rattle.complex.specs.Edits.{every_id}
use Rattle.complex.specs.Decode.{cut_face_closed}
use Rattle.complex.specs.Cut.{face_cut_round}
use Rattle.store.specs.View.{sheet_of}
use Rattle.answer.specs.declared.Totals.{Totals}
use Rattle.answer.specs.Sizes.{more_less, changed_by}
use Rattle.answer.specs.Late.{sizes_by, late_no}
use Rattle.answer.proofs.Asked.{Asked, asked_of, refuses, room, spare, answers}
use Rattle.decode_parts.specs.Lists.{Stand, numbers_read}
use Rattle.rows_corners.proofs.Edits.{named_in}
use Rattle.law_cut_face.specs.Rounds.{RoundCut, round_no}
use Rattle.law_cut_face.proofs.Rounds.{round_new, round_more, round_result, round_cut, round_refuses, round_passes}
use Rattle.lent.specs.Arrays.{Arrays, held_by, rows_by}
use Rattle.lent.specs.declared.Line.{Line}
use Rattle.lent.specs.Replies.{line_of, answer_by, Ready, Obeyed, Holds}
use Rattle.lent.proofs.Held.{held_sizes}
use Rattle.lent.proofs.Sums.{ready_sizes, ready_rows, ready_drawing, ready_indexes, ready_totals, ready_no}
use Rattle.kind_cut_face.proofs.Cuts.{new_line, new_outcome}

-- an edge with m bends, a face, and two cycles of one step
abbrev pub more_of : ℕ → Totals
more_of m = record { cells = 2; cycles = 2; steps = 2; bends = m }

abbrev pub less_of : Totals
less_of = record { cells = 0; cycles = 0; steps = 0; bends = 0 }

module _ (a : Arrays) (t : Totals) (y : Ready a t) (script : List ℕ) (f k first moved place : ℕ) (q : all within (positions_at script first k) ≡ true) where
  -- 4 and 5
  pub closed_no : (n : ℕ) → n ≡ round_no (rows_by a) a.count f k (numbers_read script place moved) → (n ≡ 0 → ⊥) → (l : Line) → l ≡ line_of n
      → Obeyed a (cut_face_closed f (positions_at script first k) (numbers_read script place moved)) a l
  closed_no n e nz l el =
      ready_no a t y (cut_face_closed f (positions_at script first k) (numbers_read script place moved)) n l el
      (round_refuses (held_by a) (ready_sizes a t y) (ready_drawing a t y) (rows_by a) (ready_indexes a t y) script f k first
      (numbers_read script place moved) n e q nz)

  -- r is what 7 and 8 say
  module _ (e : 0 ≡ round_no (rows_by a) a.count f k (numbers_read script place moved)) (m : ℕ) (em : m ≡ k)
      (r : ℕ) (er : r ≡ late_no a.next 2 (changed_by (sizes_by t) (more_less (sizes_by (more_of m)) (sizes_by less_of)))) where
    asked : Asked (held_by a) (cut_face_closed f (positions_at script first k) (numbers_read script place moved)) r
    asked =
        asked_of (held_by a) (ready_sizes a t y) (ready_drawing a t y) (cut_face_closed f (positions_at script first k) (numbers_read script place moved)) r
        (record {
          index = rows_by a;
          indexes = ready_indexes a t y;
          new = 2;
          totals = t;
          more = more_of m;
          less = less_of;
          passed = (round_passes (held_by a) (ready_sizes a t y) (ready_drawing a t y) (rows_by a) (ready_indexes a t y) script f k first
              (numbers_read script place moved) 0 e q refl).1.1;
          new_is = round_new (sheet_of (held_by a)) f (positions_at script first k) (numbers_read script place moved);
          change_is = round_more (sheet_of (held_by a)) f (positions_at script first k) (numbers_read script place moved) m
              (positions_length script first k ∙ sym em);
          totals_are = ready_totals a t y;
          says = er;
        })

    pub closed_refused : (r ≡ 0 → ⊥) → (l : Line) → l ≡ line_of r → Obeyed a (cut_face_closed f (positions_at script first k) (numbers_read script place moved)) a l
    closed_refused nz l el =
        record {
          answers =
              refuses (held_by a) (ready_sizes a t y) (ready_drawing a t y) (cut_face_closed f (positions_at script first k) (numbers_read script place moved)) r
              asked nz (answer_by l (held_by a))
              (ap (λ (x : Line). answer_by x (held_by a)) el);
          back = λ z. refl;
          rows = ready_rows a t y;
        }

    module _ (z : r ≡ 0) where
      pub closed_cuts : first + 16 * k ≤ length script → Stand read_number script place moved → RoundCut (held_by a) (rows_by a) script f k first moved place
      closed_cuts h s =
          let d = held_by a in
          let p = round_passes d (ready_sizes a t y) (ready_drawing a t y) (rows_by a) (ready_indexes a t y) script f k first
          (numbers_read script place moved) 0 e q refl in
          let o = spare d (ready_sizes a t y) (ready_drawing a t y) (cut_face_closed f (positions_at script first k) (numbers_read script place moved)) r asked z
          (more_of m) less_of
          (round_more (sheet_of d) f (positions_at script first k) (numbers_read script place moved) m (positions_length script first k ∙ sym em)) in
          record {
            named = named_in d (ready_sizes a t y) (ready_drawing a t y) (rows_by a) (ready_indexes a t y) f p.0;
            sound = ready_drawing a t y;
            bytes = h;
            stand = s;
            rise = p.1.0;
            cycle_room = omega (arith, o.0);
            step_room = omega (arith, o.1);
            room =
                room d (ready_sizes a t y) (ready_drawing a t y) (cut_face_closed f (positions_at script first k) (numbers_read script place moved)) r asked z
                every_id _ _
                (round_result (sheet_of d) f (positions_at script first k) (numbers_read script place moved));
          }

      pub closed_obeyed : (o : Arrays) → o.next ≡ a.next + 2 → o.count ≡ a.count + 2
          → Holds (face_cut_round (sheet_of (held_by a)) f (positions_at script first k) (numbers_read script place moved)) o → (l : Line) → l ≡ new_line a.next 2
          → Obeyed a (cut_face_closed f (positions_at script first k) (numbers_read script place moved)) o l
      closed_obeyed o en ec h l el =
          record {
            answers =
                answers (held_by a) (ready_sizes a t y) (ready_drawing a t y) (cut_face_closed f (positions_at script first k) (numbers_read script place moved)) r
                asked z (held_by o) (held_sizes o h.long) h.fits
                (h.sheet ∙ sym (round_cut (sheet_of (held_by a)) f (positions_at script first k) (numbers_read script place moved)))
                (answer_by l (held_by o)) (ap (λ (x : Line). answer_by x (held_by o)) el ∙ new_outcome a.next a.count 2 (held_by o) (omega arith) en ec);
            back = λ n. absurd (n (ap (λ (x : Line). x.number) el));
            rows = h.rows;
          }
