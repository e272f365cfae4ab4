-- Copies of a vertex or an edge of a sound drawing: what is asked before, and that they are what ungluing makes. Assumes nothing.
use Prim.Native.Nat.{ℕ, zero, suc, ◌-◌, ◌*◌, ◌<◌, ◌≤◌}
use native.Mathlib.Omega.{arith}
use mathlib.Core.Path.{◌≡◌, refl, sym, ap, ap₂, ◌∙◌, subst}
use mathlib.Core.Bool.{true, false}
use mathlib.Core.List.{List, [], ◌∷◌, map}
use mathlib.Core.Option.{Option, none, some}
use borrow.Author.Tests.{ltb-true, le-leb, lt-leb}
use lib.Dec.{T, leb, ltb}
use lib.ListN.{length, take, drop, replicate, length-map}
use Rattle.complex.specs.Lists.{total, rising}
use Rattle.complex.specs.Cells.{Figure, vertex, open_edge, closed_edge, face, LiveCell, Sheet, cell_at, ids, is_face, is_live, is_vertex_or_edge, bends_of, origin}
use Rattle.complex.specs.Sound.{ids_end, bends_most, bends_in, ceilings}
use Rattle.complex.specs.Edits.{reshape, every_id}
use Rattle.complex.specs.Decode.{unglue}
use Rattle.complex.specs.Uses.{uses_by, on_uses}
use Rattle.complex.specs.Unglue.{copies, parts, ungluing}
use Rattle.complex.specs.Commands.{question4, question5, question6, result}
use Rattle.answer.specs.Sizes.{SheetSizes as Counted, sized, sizes_of, nothing, more_less, changed_by, new_cells, change_of, unglue_change, sizes_after}
use Rattle.complex.proofs.Bools.{true_of}
use Rattle.complex.proofs.Lookup.{changed, lookup_reshape, ids_reshape, kept_all}
use Rattle.complex.proofs.Unglue.{over_at, as_part}
use Rattle.complex.proofs.Keep.{Sound}
use Rattle.complex.proofs.Asked.{no_6, early, early_none}
use Rattle.store.specs.declared.Drawing.{Drawing}
use Rattle.store.specs.declared.Index.{Index}
use Rattle.store.specs.declared.Cell.{Cell}
use Rattle.store.specs.Index.{kind_of, shape_start, shape_end, Indexes, Rising, row_of}
use Rattle.store.specs.Sizes.{Sizes}
use Rattle.store.specs.View.{width, width_sum, cycles_from, sheet_of, Fits, bend_count, cycle_count, cycle_total}
use Rattle.store.specs.Edits.{with_entries, places_of}
use Rattle.store.proofs.Lists.{places_sum}
use Rattle.store.proofs.Stands.{ids_same}
use Rattle.sound.specs.Soundness.{sound_drawing}
use Rattle.sound.proofs.Meaning.{sound_fits, live_row, found_row, looks}
use Rattle.rows_new.specs.Appends.{appended_all, remade, RoomIn, figure_at}
use Rattle.rows_new.specs.Requirements.{CopiesRoom}
use Rattle.rows_new.proofs.Rooms.{below, room_copies}
use Rattle.answer.specs.declared.Answer.{Answer}
use Rattle.answer.specs.declared.Totals.{Totals}
use Rattle.answer.specs.Answers.{refusal, outcome, Answers}
use Rattle.answer.specs.Late.{sizes_by, late_no, Small}
use Rattle.answer.proofs.Laws.{answers_no, totals_in, totals_are_lem, totals_small}
use Rattle.answer.proofs.Asked.{Asked, sound_in, refuses, ids_hold, sizes_hold_lem, answers}
use Rattle.rows_uses.specs.declared.Use.{Use}
use Rattle.rows_uses.specs.declared.Use.TheVariants.{Step, Ring, Lone}
use Rattle.rows_uses.specs.Uses.{uses_in}
use Rattle.rows_copied.specs.Copying.{copied}
use Rattle.rows_uses.proofs.Runs.{uses_few}
use Rattle.rows_uses.proofs.Dealing.{uses_held}
use Rattle.ask_unglue.specs.Unglues.{has_uses, late_copies, Copying}

-- ---- numbers are small
-- each use takes a place
pub uses_total : (u : Use) (i : ℕ) (ns st : List ℕ) → total (uses_in u i) (cycles_from ns st) ≤ width_sum ns
uses_total u i [] st = omega arith
uses_total u i (n ∷ ns) st = let a = uses_few u i n st in let b = uses_total u i ns (drop (width n) st) in omega arith

bends_figure : (t : Figure) → bends_in t ≡ length (bends_of (some t))
bends_figure (vertex p) = refl
bends_figure (open_edge a b bs) = refl
bends_figure (closed_edge bs) = refl
bends_figure (face ks) = refl

pub bends_few : (s : Sheet) → Sound s → (i : ℕ) → length (bends_of (cell_at s i)) ≤ bends_most
bends_few s S i = go (cell_at s i) refl
  where
    go : (o : Option Figure) → cell_at s i ≡ o → length (bends_of o) ≤ 2048
    go none e = omega arith
    go (some t) e = let a = over_at bends_in s.cells i t e in let b = (below s.cells S.fits).bends in let f = bends_figure t in omega arith

pub times_few : (n b : ℕ) → b ≤ bends_most → n * b ≤ n * bends_most
times_few zero b h = omega arith
times_few (suc n) b h = let r = times_few n b h in omega arith

-- ---- a list of all that stands in the rows is an index
take_map : {A B : Type 0} (f : A → B) (n : ℕ) (l : List A) → take n (map f l) ≡ map f (take n l)
take_map f zero l = refl
take_map f (suc n) [] = refl
take_map {A} {B} f (suc n) (x ∷ l) = ap (λ (r : List B). f x ∷ r) (take_map f n l)

abbrev all_rows : Drawing → Index
all_rows d =
    record {
      ids = map (λ (c : Cell). c.id) d.cells;
      kinds = map (λ (c : Cell). kind_of c.shape) d.cells;
      starts = map (λ (c : Cell). shape_start c.shape) d.cells;
      ends = map (λ (c : Cell). shape_end c.shape) d.cells;
      bends = map (λ (c : Cell). bend_count c.shape) d.cells;
      cycles = map (λ (c : Cell). cycle_count c.shape) d.cells;
    }

all_rows_lem : (d : Drawing) → Sizes d → Indexes d (all_rows d)
all_rows_lem d z =
    let size : (f : Cell → ℕ) → length (map f d.cells) ≡ 256 = λ f. length-map d.cells f ∙ z.cells in
    record {
      sizes = (
        size (λ (c : Cell). c.id),
        size (λ (c : Cell). kind_of c.shape),
        size (λ (c : Cell). shape_start c.shape),
        size (λ (c : Cell). shape_end c.shape),
        size (λ (c : Cell). bend_count c.shape),
        size (λ (c : Cell). cycle_count c.shape),
      );
      ids = take_map (λ (c : Cell). c.id) d.count d.cells;
      kinds = take_map (λ (c : Cell). kind_of c.shape) d.count d.cells;
      starts = take_map (λ (c : Cell). shape_start c.shape) d.count d.cells;
      ends = take_map (λ (c : Cell). shape_end c.shape) d.count d.cells;
      bends = take_map (λ (c : Cell). bend_count c.shape) d.count d.cells;
      cycles = take_map (λ (c : Cell). cycle_count c.shape) d.count d.cells;
    }

-- ---- the edges
-- their uses are those that ungluing counts and copies
pub record EdgeUses (u : Use) (s : Sheet) (i : ℕ) (o : Option Figure) : Type 0 where
  pub plain : T (is_vertex_or_edge o)
  pub counted : uses_by (uses_in u i) s.cells ≡ parts s.cells i o
  pub copied : on_uses (uses_in u i) (copied u i s.next) 0 s.cells ≡ ungluing s i o

pub edge_uses : (u : Use) (s : Sheet) (i : ℕ) (o : Option Figure) → T (has_uses u o) → EdgeUses u s i o
edge_uses Step s i none h = absurd h
edge_uses Step s i (some (vertex p)) h = absurd h
edge_uses Step s i (some (open_edge a b bs)) h = record { plain = tt; counted = refl; copied = refl }
edge_uses Step s i (some (closed_edge bs)) h = absurd h
edge_uses Step s i (some (face ks)) h = absurd h
edge_uses Ring s i none h = absurd h
edge_uses Ring s i (some (vertex p)) h = absurd h
edge_uses Ring s i (some (open_edge a b bs)) h = absurd h
edge_uses Ring s i (some (closed_edge bs)) h = record { plain = tt; counted = refl; copied = refl }
edge_uses Ring s i (some (face ks)) h = absurd h
edge_uses Lone s i o h = absurd h

-- ---- copies of a row
plain_live : (o : Option Figure) → T (is_vertex_or_edge o) → is_live o ≡ true
plain_live none k = absurd k
plain_live (some t) k = refl

plain_figure : (t : Figure) → T (is_vertex_or_edge (some t)) → is_face (some t) ≡ false
plain_figure (vertex p) k = refl
plain_figure (open_edge a b bs) k = refl
plain_figure (closed_edge bs) k = refl
plain_figure (face ks) k = absurd k

module _ (d : Drawing) (z : Sizes d) (i n : ℕ) (c : Copying d i n) (ix : Index) (x : Indexes d ix) where
  module _ (row : ℕ) (er : row ≡ row_of i (take d.count ix.ids)) where
    row_in : row < d.count
    row_in = ltb-true row d.count (ap (λ (r : ℕ). ltb r d.count) er ∙ live_row d z c.fits ix x i ∙ plain_live (cell_at (sheet_of d) i) c.plain)

    row_at : cell_at (sheet_of d) i ≡ some (figure_at (sheet_of d) row)
    row_at = found_row d z c.fits ix x i row er row_in (record { id = 0; figure = vertex origin })

    pub row_room : CopiesRoom d row (n - 1)
    row_room =
        room_copies d z c.fits row (n - 1) row_in
        (plain_figure (figure_at (sheet_of d) row) (subst (λ (o : Option Figure). T (is_vertex_or_edge o)) row_at c.plain))
        (subst (λ (o : Option Figure). RoomIn (sheet_of d) (copies n o)) row_at c.room)

    pub row_copies : appended_all (replicate (n - 1) (figure_at (sheet_of d) row)) (sheet_of d) ≡ appended_all (copies n (cell_at (sheet_of d) i)) (sheet_of d)
    row_copies = ap (λ (o : Option Figure). appended_all (copies n o) (sheet_of d)) (sym row_at)

-- ---- the command
-- ungluing leaves the cell itself as it was
kept : (s : Sheet) (i : ℕ) (o : Option Figure) → changed (ungluing s i o i) o ≡ o
kept s i none = refl
kept s i (some (vertex p)) = refl
kept s i (some (open_edge a b bs)) = refl
kept s i (some (closed_edge bs)) = refl
kept s i (some (face ks)) = refl

-- ---- what is counted in the arrays of a drawing, by its index
module _ (d : Drawing) (z : Sizes d) (w : T (sound_drawing d)) (ix : Index) (x : Indexes d ix) where
  pub ids_rising : Rising (take d.count ix.ids)
  ids_rising = (looks d z ix x w).rising

  module _ (t : Totals) (et : t ≡ totals_in d z (sound_fits d w) ix x) where
    pub cycles_are : t.cycles ≡ cycle_total d
    cycles_are =
        ap (λ (k : Totals). k.cycles) et ∙ ap (total (places_of 0)) x.cycles ∙ places_sum (λ (c : Cell). cycle_count c.shape) (take d.count d.cells)

    pub count_asks : (t.cycles ≤ length d.cycles) × (width_sum (take t.cycles d.cycles) ≤ length d.steps)
    count_asks =
        let f = sound_fits d w in
        let e = cycles_are in
        let v = ap (λ (n : ℕ). width_sum (take n d.cycles)) e in
        (omega (arith, f.cycles, z.cycles), omega (arith, f.steps, z.steps))

    pub uses_counted : (u : Use) (i n : ℕ) → n ≡ total (uses_in u i) (cycles_from (take t.cycles d.cycles) d.steps)
        → (n ≡ uses_by (uses_in u i) (sheet_of d).cells) × (n ≤ 2048)
    uses_counted u i n en =
        let f = sound_fits d w in
        let e = en ∙ ap (λ (m : ℕ). total (uses_in u i) (cycles_from (take m d.cycles) d.steps)) cycles_are in
        (e ∙ sym (uses_held d z f (uses_in u i)), omega (arith, e, f.steps, uses_total u i (take (cycle_total d) d.cycles) d.steps))

    pub sizes_small : Small t
    sizes_small = rw et (totals_small d z (sound_fits d w) ix x)

    pub late_are : (i b : ℕ) → b ≡ length (bends_of (cell_at (sheet_of d) i)) → (n r : ℕ)
        → r ≡ late_no d.next n (changed_by (sizes_by t) (more_less (sized n 0 0 (n * b)) nothing)) → r ≡ late_copies (sheet_of d) i n
    unfolding sheet_of
    late_are i b eb n r er =
        er ∙ ap₂ (λ (s : Counted) (m : ℕ). late_no d.next n (changed_by s (more_less (sized n 0 0 (n * m)) nothing)))
        (ap sizes_by et ∙ totals_are_lem d z (sound_fits d w) ix x) eb

module _ (d : Drawing) (z : Sizes d) (w : T (sound_drawing d)) (i : ℕ) (k : T (is_vertex_or_edge (cell_at (sheet_of d) i))) (n : ℕ)
    (en : n ≡ parts (sheet_of d).cells i (cell_at (sheet_of d) i)) where
  abbrev here : Option Figure
  here = cell_at (sheet_of d) i

  abbrev change : ℕ → Figure → Figure
  change = ungluing (sheet_of d) i (cell_at (sheet_of d) i)

  bytes : early (unglue i) ≡ 0
  bytes = early_none (unglue i) refl

  four : question4 (sheet_of d) (unglue i) ≡ true
  unfolding question4
  four = true_of (is_vertex_or_edge (cell_at (sheet_of d) i)) k

  five : question5 (sheet_of d) (unglue i) ≡ true
  unfolding question5
  five = refl

  six : question6 (sheet_of d) (unglue i) ≡ leb 2 n
  unfolding question6
  six = ap (leb 2) (sym en)

  pub few_refused : n < 2 → (r : Answer) → r ≡ refusal d 6 → Answers d (unglue i) r
  few_refused h r e = answers_no d (sound_fits d w) (unglue i) 6 r e (no_6 (sheet_of d) (unglue i) bytes four five (six ∙ lt-leb 2 n h))

  new_cells_lem : new_cells (sheet_of d) (unglue i) ≡ n - 1
  unfolding new_cells
  new_cells_lem = ap (λ (m : ℕ). m - 1) (sym en)

  new_change : change_of (sheet_of d) (unglue i) ≡ unglue_change (n - 1) (cell_at (sheet_of d) i)
  unfolding change_of
  new_change = ap (λ (m : ℕ). unglue_change (m - 1) (cell_at (sheet_of d) i)) (sym en)

  module _ (h : 2 ≤ n) (r : ℕ) (er : r ≡ late_copies (sheet_of d) i (n - 1)) where
    asked : Asked d (unglue i) r
    unfolding sizes_after
    asked =
        record {
          passed = record { bytes = bytes; four = four; five = five; six = six ∙ le-leb 2 n h };
          says = er ∙ ap₂ (late_no (sheet_of d).next) (sym new_cells_lem) (ap (changed_by (sizes_of (sheet_of d).cells)) (sym new_change));
        }

    pub late_refused : (r ≡ 0 → ⊥) → (a : Answer) → a ≡ refusal d r → Answers d (unglue i) a
    late_refused = refuses d z w (unglue i) r asked

    module _ (zero-r : r ≡ 0) where
      module _ (mid : Drawing) (zm : Sizes mid) (gm : Fits mid)
          (em : sheet_of mid ≡ with_entries (sheet_of d) (reshape (ungluing (sheet_of d) i (cell_at (sheet_of d) i)) (sheet_of d).cells)) where
        same : cell_at (sheet_of mid) i ≡ cell_at (sheet_of d) i
        same = ap (λ (s : Sheet). cell_at s i) em ∙ lookup_reshape change (sheet_of d).cells i ∙ kept (sheet_of d) i here

        all_kept : sheet_of mid ≡ remade every_id change (sheet_of d)
        all_kept = em ∙ ap (λ (l : List LiveCell). with_entries (sheet_of d) (reshape change l)) (sym (kept_all (sheet_of d).cells))

        result_is : appended_all (copies n (cell_at (sheet_of mid) i)) (sheet_of mid) ≡ result (sheet_of d) (unglue i)
        result_is =
            ap₂ (λ (o : Option Figure) (s : Sheet). appended_all (copies n o) s) same all_kept
            ∙ ap (λ (m : ℕ). appended_all (copies m here) (remade every_id change (sheet_of d))) en
            ∙ sym (as_part i (sheet_of d) here refl)

        pub mid_copying : Copying mid i n
        mid_copying =
            record {
              fits = gm;
              rises =
                  subst (λ (s : Sheet). T (rising 0 (ids s.cells) s.next)) (sym em)
                  (subst (λ (l : List ℕ). T (rising 0 l (sheet_of d).next)) (sym (ids_reshape change (sheet_of d).cells)) (sound_in d w).rises);
              plain = subst (λ (o : Option Figure). T (is_vertex_or_edge o)) (sym same) k;
              parts = omega arith;
              room =
                  record {
                    ids = subst (λ (s : Sheet). T (leb s.next ids_end)) (sym result_is) (ids_hold d z w (unglue i) r asked zero-r);
                    sizes = subst (λ (s : Sheet). T (ceilings s.cells)) (sym result_is) (sizes_hold_lem d z w (unglue i) r asked zero-r);
                  };
            }

        -- the cell stands in the row where it stood
        module _ (ix : Index) (x : Indexes d ix) (row : ℕ) (ew : row ≡ row_of i (take d.count ix.ids)) where
          same_row : row ≡ row_of i (take mid.count (all_rows mid).ids)
          same_row =
              ew
              ∙ ap (row_of i)
              (x.ids
              ∙ ids_same d z (sound_fits d w)
              ∙ sym (ids_reshape change (sheet_of d).cells)
              ∙ ap (λ (s : Sheet). ids s.cells) (sym em)
              ∙ sym (ids_same mid zm gm)
              ∙ sym (all_rows_lem mid zm).ids)

          pub mid_room : CopiesRoom mid row (n - 1)
          mid_room = row_room mid zm i n mid_copying (all_rows mid) (all_rows_lem mid zm) row same_row

          pub mid_copies : appended_all (replicate (n - 1) (figure_at (sheet_of mid) row)) (sheet_of mid) ≡ appended_all (copies n (cell_at (sheet_of mid) i))
              (sheet_of mid)
          mid_copies = row_copies mid zm i n mid_copying (all_rows mid) (all_rows_lem mid zm) row same_row

        module _ (out : Drawing) (zo : Sizes out) (go : Fits out) (eo : sheet_of out ≡ appended_all (copies n (cell_at (sheet_of mid) i)) (sheet_of mid)) where
          pub out_answers : (a : Answer) → a ≡ outcome d.next d.count out → Answers d (unglue i) a
          out_answers = answers d z w (unglue i) r asked zero-r out zo go (eo ∙ result_is)
