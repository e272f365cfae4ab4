-- A sound drawing's file is read as it, bytes that are read as a drawing are its file, and what is read is sound and in f64s. Assumes nothing.
use Prim.Native.Nat.{ℕ, zero, suc, ◌+◌, ◌*◌, ◌≤◌, ◌<◌}
use native.Mathlib.Omega.{arith}
use mathlib.Core.Path.{◌≡◌, refl, sym, ap, ◌∙◌, subst}
use mathlib.Core.Logic.{inl, inr, ⊎_elim}
use mathlib.Core.Bool.{Bool, true, false, ◌&&◌, cond}
use mathlib.Core.List.{List, [], ◌∷◌, ◌++◌, append-nil}
use mathlib.Core.Option.{Option, none}
use lib.ListN.{length}
use lib.Dec.{T, ltb, leb, ltb→lt, leb→le, lit<}
use Rattle.number.specs.Readers.{Read, got, bad}
use Rattle.number.specs.Numbers.{numbers_end}
use Rattle.number.proofs.Bytes.{Bytes}
use Rattle.number.proofs.Laws.{lt_or_le}
use Rattle.number.proofs.Counted.{Each}
use Rattle.coordinate.specs.declared.Position.{Position}
use Rattle.coordinate.specs.Bounds.{within}
use Rattle.coordinate.specs.Positions.{FloatFits}
use Rattle.complex.specs.Lists.{all, total, rising}
use Rattle.complex.specs.Cells.{Halfedge, Cycle, lone, path, Figure, vertex, open_edge, closed_edge, face, LiveCell, Sheet, empty, Look, lookup, ids}
use Rattle.complex.specs.Cells.{is_vertex, is_open, is_closed, same, head_of}
use Rattle.complex.specs.Sound.{ids_end, Walk, joins, cycle_ok, figure_ok, cells_most, cycles_most, steps_most, bends_most, step_count, cycles_in, steps_in}
use Rattle.complex.specs.Sound.{bends_in, over, figures_ok, sound, double, figure_double, doubles}
use Rattle.complex.specs.File.{file_of, read_sheet, ReadAnswer, judged, read_file}
use Rattle.complex.specs.Demands.{are_bytes, OneFile}
use Rattle.complex.proofs.Bools.{true_of, both}
use Rattle.complex.proofs.Lookup.{rising_lt, lookup_from, all_from}
use Rattle.complex.proofs.Walks.{joins_cases}
use Rattle.complex.proofs.Keep.{Sound, sound_parts, same_eq}
use Rattle.complex.proofs.FileReaders.{StepHeld, CycleHeld, BendsHeld, FigureHeld, CellHeld, sheet_back, sheet_from}
use Rattle.complex.proofs.ReadDoubles.{double_fits, sheets_double}

-- ---- a sound drawing fits a file: its numbers have spellings
step_held : (h : Halfedge) → h.edge < ids_end → StepHeld h
step_held h l = go h.backward
  where
    go : (b : Bool) → 2 * h.edge + cond b 1 0 < numbers_end
    go true = omega arith
    go false = omega arith

bends_held : (bs : List Position) → T (all double bs) → length bs ≤ bends_most → BendsHeld bs
bends_held bs d l = (omega arith, go bs d)
  where
    go : (ps : List Position) → T (all double ps) → Each FloatFits ps
    go [] t = tt
    go (p ∷ ps) t = let b = both (double p) (all double ps) t in (double_fits p b.0, go ps b.1)

-- where what is named is live, its id is below the end of ids
module _ (look : Look) (live : (i : ℕ) → (look i ≡ none → ⊥) → i < ids_end) where
  pub named : (q : Option Figure → Bool) → (T (q none) → ⊥) → (i : ℕ) → T (q (look i)) → i < ids_end
  named q dead i t = live i (λ e. dead (subst (λ (o : Option Figure). T (q o)) e t))

  walk_held : (u : ℕ) (hs : List Halfedge) (w : ℕ) → Walk look u hs w → Each StepHeld hs
  walk_held u [] w k = tt
  walk_held u (h ∷ hs) w k = (step_held h (named is_open (λ z. z) h.edge k.0), walk_held (head_of look h) hs w k.2)

  ring_held : (h : Halfedge) → StepHeld h → (hs : List Halfedge) → T (all (same h) hs) → Each StepHeld hs
  ring_held h l [] t = tt
  ring_held h l (g ∷ gs) t = let b = both (same h g) (all (same h) gs) t in (subst StepHeld (same_eq h g b.0) l, ring_held h l gs b.1)

  -- no path is empty
  path_held : (hs : List Halfedge) → T (joins look hs) → (0 < length hs) × Each StepHeld hs
  path_held [] t = absurd t
  path_held (h ∷ hs) t = elim (joins_cases look (h ∷ hs) t) [
    | inl r ↦ (omega arith, walk_held r.1.0 (h ∷ hs) r.1.0 r.1.1)
    | inr r ↦ let l = step_held h (named is_closed (λ z. z) h.edge r.0) in (omega arith, (l, ring_held h l hs r.1))
  ]

  cycle_held : (k : Cycle) → T (cycle_ok look k) → step_count k ≤ steps_most → CycleHeld k
  cycle_held (lone v) t l = let b = named is_vertex (λ z. z) v t in omega arith
  cycle_held (path hs) t l = let p = path_held hs t in (p.0, omega arith, p.1)

  cycles_held : (ks : List Cycle) → T (all (cycle_ok look) ks) → total step_count ks ≤ steps_most → Each CycleHeld ks
  cycles_held [] t l = tt
  cycles_held (k ∷ ks) t l = let b = both (cycle_ok look k) (all (cycle_ok look) ks) t in (cycle_held k b.0 (omega arith), cycles_held ks b.1 (omega arith))

  figure_held : (x : Figure) → T (figure_ok look x) → T (figure_double x) → cycles_in x ≤ cycles_most → steps_in x ≤ steps_most → bends_in x ≤ bends_most → FigureHeld x
  figure_held (vertex p) t d k l m = double_fits p d
  figure_held (open_edge a b bs) t d k l m =
      let u = both (is_vertex (look a)) (is_vertex (look b) && all within bs) t in
      let v = named is_vertex (λ z. z) a u.0 in
      let w = named is_vertex (λ z. z) b (both (is_vertex (look b)) (all within bs) u.1).0 in
      (omega arith, omega arith, bends_held bs d m)
  figure_held (closed_edge bs) t d k l m = bends_held bs d m
  figure_held (face ks) t d k l m = (omega arith, cycles_held ks t l)

  cells_held : (lo hi : ℕ) (cs : List LiveCell) → hi ≤ ids_end → T (rising lo (ids cs) hi) → T (all (λ (c : LiveCell). figure_ok look c.figure) cs)
      → T (all (λ (c : LiveCell). figure_double c.figure) cs)
      → over cycles_in cs ≤ cycles_most → over steps_in cs ≤ steps_most → over bends_in cs ≤ bends_most → Each CellHeld cs
  cells_held lo hi [] h r t d k l m = tt
  cells_held lo hi (c ∷ cs) h r t d k l m =
      let a = both (ltb lo c.id) (rising c.id (ids cs) hi) r in
      let b = both (figure_ok look c.figure) (all (λ (x : LiveCell). figure_ok look x.figure) cs) t in
      let e = both (figure_double c.figure) (all (λ (x : LiveCell). figure_double x.figure) cs) d in
      let i = rising_lt c.id (ids cs) hi a.1 in (
        (omega arith, figure_held c.figure b.0 e.0 (omega arith) (omega arith) (omega arith)),
        cells_held c.id hi cs h a.1 b.1 e.1 (omega arith) (omega arith) (omega arith),
      )

figures : (s : Sheet) → Sound s → T (figures_ok s.cells)
figures s S = all_from (figure_ok (lookup s.cells)) 0 s.cells s.next S.rises S.figures

sheet_read : (s : Sheet) → T (sound s) → T (doubles s) → read_sheet (file_of s ++ []) ≡ got s []
sheet_read s t d =
    let S = sound_parts s t in
    let cs = s.cells in
    let n = leb→le s.next ids_end S.in_ids in
    let a = both (leb (length cs) cells_most) (leb (over cycles_in cs) cycles_most && (leb (over steps_in cs) steps_most && leb (over bends_in cs) bends_most))
    S.fits in
    let b = both (leb (over cycles_in cs) cycles_most) (leb (over steps_in cs) steps_most && leb (over bends_in cs) bends_most) a.1 in
    let c = both (leb (over steps_in cs) steps_most) (leb (over bends_in cs) bends_most) b.1 in
    let l = leb→le (length cs) cells_most a.0 in
    sheet_back s (omega arith) (omega arith)
    (cells_held (lookup cs) (λ i z. ⊎_elim (λ h. omega arith) (λ h. absurd (z (lookup_from 0 cs s.next i S.rises h))) (lt_or_le i s.next))
    0 s.next cs n S.rises (figures s S) d (leb→le (over cycles_in cs) cycles_most b.0) (leb→le (over steps_in cs) steps_most c.0)
    (leb→le (over bends_in cs) bends_most c.1)) []

-- ---- what an answer says
abbrev read_as : Sheet → ReadAnswer
read_as s = record { number = 0; sheet = s }

abbrev unread : ReadAnswer
unread = record { number = 10; sheet = empty }

record Accepted (r : Read Sheet) (a : ReadAnswer) : Type 0 where
  read : r ≡ got a.sheet []
  fine : T (sound a.sheet)

accepted : (r : Read Sheet) → (judged r).number ≡ 0 → Accepted r (judged r)
accepted bad e = absurd (omega arith)
accepted (got s (b ∷ t)) e = absurd (omega arith)
accepted (got s []) e = go (sound s) (λ t. t) e
  where
    go : (b : Bool) → (T b → T (sound s)) → (cond b (read_as s) unread).number ≡ 0 → Accepted (got s []) (cond b (read_as s) unread)
    go true f z = record { read = refl; fine = f tt }
    go false f z = absurd (omega arith)

denied : (r : Read Sheet) → ((judged r).number ≡ 0 → ⊥) → judged r ≡ unread
denied bad n = refl
denied (got s (b ∷ t)) n = refl
denied (got s []) n = go (sound s) n
  where
    go : (b : Bool) → ((cond b (read_as s) unread).number ≡ 0 → ⊥) → cond b (read_as s) unread ≡ unread
    go true z = absurd (z refl)
    go false z = refl

-- ---- what is read
pub read_sound : (bytes : List ℕ) → (read_file bytes).number ≡ 0 → T (sound (read_file bytes).sheet)
unfolding read_file
read_sound bytes e = (accepted (read_sheet bytes) e).fine

pub read_doubles : (bytes : List ℕ) → (read_file bytes).number ≡ 0 → T (doubles (read_file bytes).sheet)
unfolding read_file
read_doubles bytes e = sheets_double bytes [] (read_file bytes).sheet (accepted (read_sheet bytes) e).read

pub read_refused : (bytes : List ℕ) → ((read_file bytes).number ≡ 0 → ⊥) → read_file bytes ≡ record { number = 10; sheet = empty }
unfolding read_file
read_refused bytes n = denied (read_sheet bytes) n

-- ---- there and back
bytes_of : (s : List ℕ) → T (are_bytes s) → Bytes s
bytes_of [] t k = lit< tt
bytes_of (b ∷ s) t zero = ltb→lt b 256 (both (ltb b 256) (are_bytes s) t).0
bytes_of (b ∷ s) t (suc k) = bytes_of s (both (ltb b 256) (are_bytes s) t).1 k

read_back : (s : Sheet) → T (sound s) → T (doubles s) → read_file (file_of s) ≡ read_as s
unfolding read_file
read_back s t d = ap judged (ap read_sheet (sym (append-nil (file_of s))) ∙ sheet_read s t d) ∙ rw (true_of (sound s) t)

written_back : (bytes : List ℕ) (s : Sheet) → T (are_bytes bytes) → read_file bytes ≡ read_as s → file_of s ≡ bytes
unfolding read_file
written_back bytes s B e =
    let a = accepted (read_sheet bytes) (ap (λ (r : ReadAnswer). r.number) e) in
    let q : (read_file bytes).sheet ≡ s = ap (λ (r : ReadAnswer). r.sheet) e in
    let S = sound_parts s (subst (λ (z : Sheet). T (sound z)) q a.fine) in
    let r = a.read ∙ ap (λ (z : Sheet). got z []) q in
    sym (sheet_from (lookup s.cells) bytes [] s (bytes_of bytes B) r (figures s S) ∙ append-nil (file_of s))

pub one_file : OneFile
one_file = record { read_back = read_back; written_back = written_back }

-- two drawings have two files
pub files_differ : (s t : Sheet) → T (sound s) → T (doubles s) → T (sound t) → T (doubles t) → file_of s ≡ file_of t → s ≡ t
files_differ s t a b c d e = ap (λ (r : ReadAnswer). r.sheet) (sym (read_back s a b) ∙ ap read_file e ∙ read_back t c d)
