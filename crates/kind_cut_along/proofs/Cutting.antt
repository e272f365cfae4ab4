-- 0C in lent arrays: questions 7 and 8, and then the cut. Assumes nothing.
use Prim.Native.Nat.{ℕ, ◌+◌, ◌-◌, ◌<◌, ◌≤◌}
use mathlib.Core.Path.{◌≡◌, refl, sym, ap, ap₂, subst, subst₂, ◌∙◌}
use mathlib.Core.Bool.{Bool, true, false, cond, ◌&&◌}
use mathlib.Core.List.{List, [], ◌∷◌}
use native.Mathlib.Omega.{arith}
use borrow.Author.Tests.{eq-eqb, ne_eqb}
use lib.Dec.{lit≤, eqb, ltb, ltb→lt}
use lib.ListN.{length, take, drop, length-drop}
use lib.Seq.{take_all}
use Rattle.coordinate.specs.declared.Position.{Position}
use Rattle.bends.specs.Bends.{positions_at}
use Rattle.complex.specs.Cells.{Cycle, Figure, open_edge, face, Sheet, cell_at, cycles_of}
use Rattle.complex.specs.Decode.{Command, cut_face_open}
use Rattle.complex.specs.Cut.{face_cut_along}
use Rattle.complex.proofs.Bools.{truth, both}
use Rattle.store.specs.Index.{row_of}
use Rattle.store.specs.Edits.{appended}
use Rattle.store.specs.Sizes.{Sizes}
use Rattle.store.specs.View.{sheet_of}
use Rattle.rows_spans.specs.declared.Spans.{Spans}
use Rattle.rows_spans.specs.declared.Used.{Used}
use Rattle.rows_spans.specs.Building.{Built, built}
use Rattle.rows_spans.specs.Runs.{sheet_with_row}
use Rattle.rows_new.specs.Appends.{RoomIn, CellRoom}
use Rattle.rows_new.proofs.Appended.{appended_one, appended_next}
use Rattle.rows_new.proofs.Rooms.{room_first, room_next}
use Rattle.answer.specs.declared.Totals.{Totals}
use Rattle.answer.proofs.Asked.{Asked, refuses, answers}
use Rattle.decode_parts.specs.Lists.{numbers_read}
use Rattle.rows_corners.specs.Faces.{Spanned, cycles_at, recycled}
use Rattle.rows_split.specs.Along.{chord, near_side, far_side, bridge, old_side, new_side, new_faces, Cutting}
use Rattle.rows_split.specs.Parts.{place_of}
use Rattle.rows_split.proofs.Cuts.{in_first, in_second, old_list_lem, new_list_lem, large_room, small_room}
use Rattle.ask_cut_along.specs.Corners.{cut_no}
use Rattle.ask_cut_along.proofs.Corners.{lone_asks}
use Rattle.ask_cut_along.proofs.Passing.{cut_is, cut_asked, cutting}
use Rattle.lent.specs.Arrays.{Arrays, held_by, rows_by}
use Rattle.lent.specs.declared.Line.{Line}
use Rattle.lent.specs.Replies.{line_of, answer_by, Obeyed, Holds}
use Rattle.lent.proofs.Held.{held_sizes}
use Rattle.lent.proofs.Sums.{ready_sizes, ready_rows, ready_drawing}
use Rattle.kernel_part.specs.Rounds.{HoldsIn, PartRoom}
use Rattle.kind_cut_face.specs.Cuts.{FaceCuts}
use Rattle.kind_cut_face.proofs.Cuts.{new_line, new_outcome}
use Rattle.kind_cut_chord.specs.Chords.{vertex_in, Chorded}
use Rattle.kind_cut_along.specs.Cuts.{Asks, CutGoes}
use Rattle.kind_cut_along.proofs.Chords.{ChordFace, chord_face}
use Rattle.kind_cut_along.proofs.Ends as ends

-- what `few` tells
few_told : (m n : ℕ) (b : Bool) → b ≡ ltb m 32 && ltb n 127 → b ≡ true → (m < 32) × (n < 127)
few_told m n b e z =
    let w = both (ltb m 32) (ltb n 127) (truth (sym e ∙ z)) in
    (ltb→lt m 32 w.0, ltb→lt n 127 w.1)

-- a list in what is left of two arrays from a place on
pub built_tail : {ks : List Cycle} (ns : List ℕ) (i : ℕ) (y : Used) (ps : List ℕ) (j : ℕ) → Built ks (drop i ns) y (drop j ps)
    → Built ks (take (length ns - i) (drop i ns)) y (take (length ps - j) (drop j ps))
built_tail {ks} ns i y ps j b = subst₂ (λ (c s : List ℕ). Built ks c y s) (sym (whole i ns)) (sym (whole j ps)) b
  where
    whole : (n : ℕ) (l : List ℕ) → take (length l - n) (drop n l) ≡ drop n l
    whole n l = take_all (length l - n) (drop n l) (omega (arith, length-drop n l))

-- ---- the sheet with the face's cycles, the edge, and the new face, where one comes
module _ (s : Sheet) (f c1 s1 s2 : ℕ) (bs : List Position) (ms : List ℕ) where
  abbrev edged : ℕ → Sheet
  edged c2 =
      let ks = cycles_of (cell_at s f) in
      appended (recycled s f (old_side s.next c1 s1 c2 s2 ms ks)) (chord (cell_at s) ks c1 s1 c2 s2 bs)

  abbrev Parted : ℕ → Type 0
  Parted c2 = appended (edged c2) (face (new_side s.next c1 s1 c2 s2 ms (cycles_of (cell_at s f)))) ≡ face_cut_along s f c1 s1 c2 s2 bs ms

  same_parted : Parted c1
  unfolding face_cut_along
  same_parted =
      let ks = cycles_of (cell_at s f) in
      let near = recycled s f (near_side s.next c1 s1 s2 ms ks) in
      let edge = chord (cell_at s) ks c1 s1 c1 s2 bs in
      let far = face (far_side s.next c1 s1 s2 ms ks) in
      rw (eq-eqb c1 c1 refl) (appended_one (appended near edge) far ∙ sym (appended_next edge (far ∷ []) near))

  one_parted : (c2 : ℕ) → c1 ≡ c2 → Parted c2
  one_parted c2 e = subst Parted e same_parted

  two_joined : (c2 : ℕ) → eqb c1 c2 ≡ false → edged c2 ≡ face_cut_along s f c1 s1 c2 s2 bs ms
  unfolding face_cut_along
  two_joined c2 e =
      let ks = cycles_of (cell_at s f) in
      rw e (appended_one (recycled s f (bridge s.next c1 s1 c2 s2 ks)) (chord (cell_at s) ks c1 s1 c2 s2 bs))

-- ---- questions 7 and 8
module _ (a : Arrays) (t : Totals) (script : List ℕ) (f : ℕ) (s : Spans) (c1 s1 c2 s2 k first moved place : ℕ)
    (x : Asks a t script f s c1 s1 c2 s2 k first moved place) where
  abbrev bs : List Position
  bs = positions_at script first k

  abbrev ms : List ℕ
  ms = numbers_read script place moved

  abbrev cut : Command
  cut = cut_face_open f c1 s1 c2 s2 (positions_at script first k) (numbers_read script place moved)

  sizes : Sizes (held_by a)
  sizes = ready_sizes a t x.ready

  span : Spanned (held_by a) f s
  span = ends.span a t x.ready script f s c1 s1 c2 s2 k first moved place x.spans x.along

  asked : (r : ℕ) → r ≡ cut_no a.next t a.cycles s c1 c2 k → Asked (held_by a) cut r
  asked r er =
      cut_asked (held_by a) sizes (rows_by a) script f c1 s1 c2 s2 k first moved place x.along x.bounds t x.ready.sums r s span er

  -- the numbers of both cycles stand in the array
  pub in_array : (s.cycles.first + c1 < 512) × (s.cycles.first + c2 < 512)
  in_array =
      let l = lone_asks (held_by a) sizes (rows_by a) f x.along.named s span in
      (l c1 (in_first x.along), l c2 (in_second x.along))

  pub late_no_lem : (r : ℕ) → r ≡ cut_no a.next t a.cycles s c1 c2 k → (r ≡ 0 → ⊥) → (l : Line) → l ≡ line_of r
      → Obeyed a (cut_face_open f c1 s1 c2 s2 (positions_at script first k) (numbers_read script place moved)) a l
  late_no_lem r er nz l el =
      record {
        answers =
            refuses (held_by a) sizes (ready_drawing a t x.ready) cut r (asked r er) nz (answer_by l (held_by a)) (ap (λ (y : Line). answer_by y (held_by a)) el);
        back = λ z. refl;
        rows = ready_rows a t x.ready;
      }

  module _ (z : cut_no a.next t a.cycles s c1 c2 k ≡ 0) where
    yes : Cutting (held_by a) (rows_by a) script f c1 s1 c2 s2 k first moved place
    yes = cutting (held_by a) sizes (rows_by a) script f c1 s1 c2 s2 k first moved place x.along _ (asked _ refl) z

    -- the cut may go with small lists, where there are few cycles and steps, and with lists as large as a drawing's
    module _ (row : ℕ) (er : row ≡ row_of f (take a.count a.ids)) where
      pub goes_small : (b : Bool) → b ≡ ltb s.cycles.count 32 && ltb s.steps.count 127 → b ≡ true
          → CutGoes a t script f row s c1 s1 c2 s2 k first moved place 32 128
      goes_small b e q =
          let h = few_told s.cycles.count s.steps.count b e q in
          record { asks = x; late = z; at = er; fit = small_room sizes yes span (lit≤ tt) (lit≤ tt) h.0 (omega (arith, h.1)) }

      pub goes_large : CutGoes a t script f row s c1 s1 c2 s2 k first moved place 512 2048
      goes_large = record { asks = x; late = z; at = er; fit = large_room sizes yes span }

    obeyed : (j : ℕ) → 1 ≤ j → (o : Arrays) → o.next ≡ a.next + j → o.count ≡ a.count + j → Holds (face_cut_along (sheet_of (held_by a)) f c1 s1 c2 s2 bs ms) o
        → (l : Line) → l ≡ new_line a.next j → Obeyed a cut o l
    obeyed j h o en ec w l el =
        record {
          answers =
              answers (held_by a) sizes (ready_drawing a t x.ready) cut _ (asked _ refl) z (held_by o) (held_sizes o w.long) w.fits
              (cut_is (sheet_of (held_by a)) f c1 s1 c2 s2 bs ms _ w.sheet)
              (answer_by l (held_by o)) (ap (λ (y : Line). answer_by y (held_by o)) el ∙ new_outcome a.next a.count j (held_by o) h en ec);
          back = λ y. absurd (y (ap (λ (y : Line). y.number) el));
          rows = w.rows;
        }

-- ---- the cut
module _ (a : Arrays) (t : Totals) (script : List ℕ) (f row : ℕ) (s : Spans) (c1 s1 c2 s2 k first moved place i j : ℕ)
    (x : CutGoes a t script f row s c1 s1 c2 s2 k first moved place i j) where
  abbrev own : List Cycle
  own = cycles_of (cell_at (sheet_of (held_by a)) f)

  abbrev old : List Cycle
  old = old_side (sheet_of (held_by a)).next c1 s1 c2 s2 (numbers_read script place moved) own

  abbrev far : List Cycle
  far = far_side (sheet_of (held_by a)).next c1 s1 s2 (numbers_read script place moved) own

  abbrev edge : Figure
  edge = chord (cell_at (sheet_of (held_by a))) own c1 s1 c2 s2 (positions_at script first k)

  going : Cutting (held_by a) (rows_by a) script f c1 s1 c2 s2 k first moved place
  going = yes a t script f s c1 s1 c2 s2 k first moved place x.asks x.late

  at_spans : Spanned (held_by a) f s
  at_spans = span a t script f s c1 s1 c2 s2 k first moved place x.asks

  drawn : Sizes (held_by a)
  drawn = ready_sizes a t x.asks.ready

  cuts : FaceCuts a t f old (edge ∷ new_faces (sheet_of (held_by a)).next c1 s1 c2 s2 (numbers_read script place moved) own)
  cuts = record { ready = x.asks.ready; named = x.asks.along.named; room = going.room }

  pub plan_asks : Chorded a.ids a.starts a.ends a.count a.cycles a.steps s script moved place c1 s1 c2 s2 a.next
  plan_asks = ends.chorded a t x.asks.ready script f s c1 s1 c2 s2 k first moved place x.asks.spans x.asks.along

  -- the face gets the list of a plan
  abbrev pub Laid : ℕ → ℕ → List ℕ → Used → List ℕ → Type 0
  Laid v w numbers u places = ChordFace a t f old edge row s numbers u places script v w k first

  module _ (v w : ℕ) (ev : v ≡ vertex_in a.ids a.starts a.ends a.count a.steps (place_of a.cycles s c1) s1)
      (ew : w ≡ vertex_in a.ids a.starts a.ends a.count a.steps (place_of a.cycles s c2) s2) (numbers : List ℕ) (u : Used) (places : List ℕ)
      (b : Built (old_side a.next c1 s1 c2 s2 (numbers_read script place moved) (cycles_at a.cycles a.steps s)) numbers u places) where
    -- the face gets its list, and then the edge comes
    pub gets : Laid v w numbers u places
    gets =
        chord_face a t f old edge _ cuts row x.at numbers u places b.building (b.list ∙ old_list_lem drawn going at_spans) s x.asks.spans
        (ap₂ (λ (p q : ℕ). open_edge p q (positions_at script first k))
        (ends.first_vertex a t x.asks.ready script f s c1 s1 c2 s2 k first moved place x.asks.spans x.asks.along v ev)
        (ends.second_vertex a t x.asks.ready script f s c1 s1 c2 s2 k first moved place x.asks.spans x.asks.along w ew))
        x.asks.along.bytes

    -- o have both, n cycles and m steps
    module _ (n m : ℕ) (o : Arrays)
        (h : HoldsIn (appended (sheet_with_row (sheet_of (held_by a)) row (face (built numbers u places))) (open_edge v w (positions_at script first k))) n m o)
      where
        came : HoldsIn (appended (recycled (sheet_of (held_by a)) f old) edge) n m o
        came = gets.holds h

        pub two_obeyed : (c1 ≡ c2 → ⊥) → o.next ≡ a.next + 1 → o.count ≡ a.count + 1 → (l : Line) → l ≡ new_line a.next 1
            → Obeyed a (cut_face_open f c1 s1 c2 s2 (positions_at script first k) (numbers_read script place moved)) o l
        two_obeyed ne en ec l el =
            let g = came.holds in
            obeyed a t script f s c1 s1 c2 s2 k first moved place x.asks x.late 1 (omega arith) o en ec
            (record {
              sheet = g.sheet ∙ two_joined (sheet_of (held_by a)) f c1 s1 s2 (positions_at script first k) (numbers_read script place moved) c2 (ne_eqb c1 c2 ne);
              fits = g.fits;
              long = g.long;
              rows = g.rows;
            }) l el

        pub sums_fit_lem : (n ≤ 512) × (m ≤ 2048)
        sums_fit_lem = let g = came in (omega (arith, g.cycles, g.holds.fits.cycles), omega (arith, g.steps, g.holds.fits.steps))

        -- the new face
        module _ (one : c1 ≡ c2) (ns : List ℕ) (y : Used) (ps : List ℕ)
            (q : Built (new_side a.next c1 s1 c2 s2 (numbers_read script place moved) (cycles_at a.cycles a.steps s)) ns y ps) where
          new_is : built ns y ps ≡ new_side (sheet_of (held_by a)).next c1 s1 c2 s2 (numbers_read script place moved) own
          new_is = q.list ∙ new_list_lem drawn going at_spans

          far_is : built ns y ps ≡ far
          far_is = new_is ∙ ap (λ (z : Bool). cond z far []) (eq-eqb c1 c2 one)

          room : RoomIn (recycled (sheet_of (held_by a)) f old) (edge ∷ face far ∷ [])
          room = subst (λ (z : Bool). RoomIn (recycled (sheet_of (held_by a)) f old) (edge ∷ cond z (face far ∷ []) [])) (eq-eqb c1 c2 one) going.room

          pub part_asks : PartRoom o n m ns y ps
          part_asks =
              let g = came in
              record {
                long = g.holds.long;
                rows = g.holds.rows;
                cycles = sym g.cycles;
                steps = sym g.steps;
                building = q.building;
                room =
                    subst (λ (l : List Cycle). CellRoom (held_by o) (face l)) (sym far_is)
                    (room_first (held_by o) (held_sizes o g.holds.long) g.holds.fits (face far) []
                    (subst (λ (z : Sheet). RoomIn z (face far ∷ [])) (sym g.holds.sheet)
                    (room_next edge (face far ∷ []) (recycled (sheet_of (held_by a)) f old) room)));
              }

          pub one_obeyed : o.next ≡ a.next + 1 → o.count ≡ a.count + 1 → (r : Arrays) → r.next ≡ o.next + 1 → r.count ≡ o.count + 1
              → Holds (appended (sheet_of (held_by o)) (face (built ns y ps))) r → (l : Line) → l ≡ new_line a.next 2
              → Obeyed a (cut_face_open f c1 s1 c2 s2 (positions_at script first k) (numbers_read script place moved)) r l
          one_obeyed en ec r rn rc g l el =
              obeyed a t script f s c1 s1 c2 s2 k first moved place x.asks x.late 2 (omega arith) r (omega (arith, en, rn)) (omega (arith, ec, rc))
              (record {
                sheet =
                    g.sheet ∙ ap₂ (λ (z : Sheet) (l : List Cycle). appended z (face l)) came.holds.sheet new_is
                    ∙ one_parted (sheet_of (held_by a)) f c1 s1 s2 (positions_at script first k) (numbers_read script place moved) c2 one;
                fits = g.fits;
                long = g.long;
                rows = g.rows;
              }) l el
