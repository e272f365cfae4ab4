-- Rows that come after the last, all of one shape, and their bends. Assumes nothing.
use Prim.Native.Nat.{ℕ, zero, suc, ◌+◌, ◌-◌, ◌*◌, ◌%◌, ◌<◌, ◌≤◌}
use native.Mathlib.Omega.{arith}
use native.Mathlib.Numerals.{add-one}
use borrow.Author.Tests.{ne_eqb}
use native.Mathlib.Nat.{mod_self, mod-add-mod}
use mathlib.Core.Path.{◌≡◌, refl, sym, ap, ap₂, ◌∙◌, subst}
use mathlib.Core.Bool.{true, false, cond}
use mathlib.Core.List.{List}
use lib.Ieee.{Float, nan}
use lib.Dec.{T, eqb}
use lib.ListN.{length, get_or, set, take, length-set}
use lib.Seq.{paste, paste-zero}
use Rattle.coordinate.specs.declared.Position.{Position}
use Rattle.complex.specs.Lists.{total, rising}
use Rattle.complex.specs.Cells.{ids, LiveCell}
use Rattle.complex.specs.Uses.{counting}
use Rattle.store.specs.declared.Shape.{Shape}
use Rattle.store.specs.declared.Cell.{Cell}
use Rattle.store.specs.declared.Drawing.{Drawing}
use Rattle.store.specs.Edits.{with_cells, with_entries, places_of}
use Rattle.store.specs.Places.{shape_of, figure_bends}
use Rattle.store.specs.View.{sheet_of, Fits, bend_count, bend_sum, bend_total, cycles_from, cycle_total, width_sum}
use Rattle.store.proofs.Lists.{places_sum}
use Rattle.rows_new.specs.Appends.{figure_at}
use Rattle.rows_new.specs.Copies.{repeated, copy_cells}
use Rattle.rows_new.specs.Requirements.{CopiesRoom}
use Rattle.rows_new.specs.Runs.{run_at}
use Rattle.rows_new.proofs.CopyLists.{bend_more, cells_more}
use Rattle.rows_new.proofs.Copied.{row_shape, row_count, row_within, bends_filled, copies_grown}
use Rattle.answer.specs.Answers.{outcome}
use Rattle.rows_uses.specs.declared.Use.{Use}
use Rattle.rows_uses.specs.Uses.{uses_in}
use Rattle.rows_copied.specs.Copying.{copied}
use Rattle.rows_copied.proofs.Dealt.{stepped_is, copied_cells}
use Rattle.lent.specs.Arrays.{Arrays, shape_by, shape_at, position_in, positions_in, held_by, row_normal, normal_at, normal, Lengths}
use Rattle.lent.specs.Growing.{with_row}
use Rattle.lent.proofs.Held.{all_at, cells_shape, cells_told, held_sizes, told, positions_at_lem, positions_set, positions_length, place_other, place_same}
use Rattle.lent.proofs.Grown.{row_long, row_held, row_normal_lem}
use Rattle.kernel_copies.specs.Copies.{filled_rows, numbered_rows, RowsPut, CopiesCome, UsesCopied}

-- ---- places in a round
pub round_next : (j i k r : ℕ) → i ≡ j % k → r ≡ (i + 1) % k → r ≡ (j + 1) % k
round_next j i k r e q = q ∙ ap (λ (x : ℕ). (x + 1) % k) e ∙ mod-add-mod j k 1

pub round_last : (i k : ℕ) → i < k → (i + 1 < k → ⊥) → 0 ≡ (i + 1) % k
round_last i k h n =
    let e : i + 1 ≡ k = omega (arith, h, n) in
    sym (ap (λ (x : ℕ). x % k) e ∙ mod_self k)

-- ---- a bend more
pub bend_put : (us₀ vs₀ us vs us' vs' : List Float) (base n first k i j : ℕ) (p : Position)
    → length us₀ ≡ 2048 → length vs₀ ≡ 2048 → length us ≡ 2048 → length vs ≡ 2048
    → positions_in us vs ≡ paste (positions_in us₀ vs₀) base (repeated n (run_at first k (positions_in us₀ vs₀))) j
    → i ≡ j % k → first + k ≤ base → base + n * k ≤ 2048 → j < n * k → first + i < 2048
    → p ≡ position_in us vs (first + i) → us' ≡ set us (base + j) p.x → vs' ≡ set vs (base + j) p.y
    → positions_in us' vs' ≡ paste (positions_in us₀ vs₀) base (repeated n (run_at first k (positions_in us₀ vs₀))) (j + 1)
bend_put us₀ vs₀ us vs us' vs' base n first k i j p l₀ m₀ l m e ei h g t hi ep eu ev =
    let ps₀ = positions_in us₀ vs₀ in
    let ps = positions_in us vs in
    let z = positions_length us₀ vs₀ (l₀ ∙ sym m₀) in
    let at : p ≡ get_or ps (first + j % k) p = ep ∙ sym (positions_at_lem us vs (first + i) p (omega (arith, hi, l)) (omega (arith, hi, m)))
    ∙ ap (λ (x : ℕ). get_or ps (first + x) p) ei in
    ap₂ positions_in eu ev ∙ positions_set us vs (base + j) p ∙ ap (set ps (base + j)) at
    ∙ bend_more ps₀ ps base n first k j p e h (omega (arith, g, z, l₀)) t

-- ---- the lists of rows
-- b with what is no list of rows from a
abbrev pub rows_only : Arrays → Arrays → Arrays
rows_only a b = record b { next = a.next; count = a.count; cycles = a.cycles; steps = a.steps; bx = a.bx; by = a.by }

-- ---- a row more
-- b has i of n rows of the shape s more, with the next ids
pub record RowsCome (a : Arrays) (s : Shape) (n i : ℕ) (b : Arrays) : Type 0 where
  pub held : held_by b ≡ with_cells (held_by a) (a.next + i) (a.count + i) (paste (held_by a).cells a.count (copy_cells a.next s n) i)
  pub long : Lengths b
  pub rows : normal b ≡ true

module _ (a : Arrays) (s : Shape) (n : ℕ) where
  rows_none : Lengths a → normal a ≡ true → (b : Arrays) → b ≡ a → RowsCome a s n 0 b
  rows_none l m b e =
      let p : a.next ≡ a.next + 0 = omega arith in
      let q : a.count ≡ a.count + 0 = omega arith in
      record {
        held =
            ap held_by e
            ∙ (λ i. with_cells (held_by a) (p i) (q i) (held_by a).cells)
            ∙ ap (with_cells (held_by a) (a.next + 0) (a.count + 0)) (paste-zero (held_by a).cells a.count (copy_cells a.next s n));
        long = subst Lengths (sym e) l;
        rows = ap normal e ∙ m;
      }

  module _ (i : ℕ) (b : Arrays) (r : RowsCome a s n i b) (la : Lengths a) (hi : i < n) (hc : a.count + n ≤ 256) (eb : b.count ≡ a.count + i)
      (en : b.next ≡ a.next + i)
      (k x y u v : ℕ) (p : Position) (es : shape_by k x y u v p ≡ s) (ok : row_normal k x y u v ≡ true) where
    abbrev xs : List Float
    xs = set b.px b.count p.x

    abbrev ys : List Float
    ys = set b.py b.count p.y

    abbrev after : Arrays
    after = with_row b k x y u v xs ys

    room : b.count < 256
    room = omega (arith, eb, hc, hi)

    held_more : held_by after ≡ with_cells (held_by a) (a.next + (i + 1)) (a.count + (i + 1))
        (paste (held_by a).cells a.count (copy_cells a.next s n) (i + 1))
    held_more =
        let d = held_by b in
        let cs = (held_by a).cells in
        let z = (held_sizes a la).cells in
        let pn : b.next + 1 ≡ a.next + (i + 1) = omega (arith, en) in
        let pc : b.count + 1 ≡ a.count + (i + 1) = omega (arith, eb) in
        let same : shape_by k x y u v (position_in xs ys b.count) ≡ s =
        ap (shape_by k x y u v) (place_same b.px b.py b.count p (omega (arith, r.long.px, room)) (omega (arith, r.long.py, room))) ∙ es in
        let put : set d.cells b.count (record { id = b.next; shape = s }) ≡ paste cs a.count (copy_cells a.next s n) (i + 1) =
        ap (λ (m : ℕ). set d.cells m (record { id = b.next; shape = s })) eb
        ∙ cells_more cs d.cells a.count a.next s n i b.next (ap (λ (q : Drawing). q.cells) r.held) (omega (arith, z, hc, hi)) hi en in
        row_held b r.long k x y u v xs ys room (λ j ne. place_other b.px b.py b.count j p ne)
        ∙ ap (λ (t : Shape). with_cells d (b.next + 1) (b.count + 1) (set d.cells b.count (record { id = b.next; shape = t }))) same
        ∙ (λ j. with_cells d (pn j) (pc j) (put j))
        ∙ ap (λ (q : Drawing). with_cells q (a.next + (i + 1)) (a.count + (i + 1)) (paste cs a.count (copy_cells a.next s n) (i + 1))) r.held

    rows_more : (b' : Arrays) → b' ≡ after → RowsCome a s n (i + 1) b'
    rows_more b' e =
        record {
          held = ap held_by e ∙ held_more;
          long = subst Lengths (sym e)
              (row_long b r.long k x y u v xs ys (length-set b.px b.count p.x ∙ r.long.px) (length-set b.py b.count p.y ∙ r.long.py));
          rows = ap normal e ∙ row_normal_lem b r.long k x y u v xs ys room ok r.rows;
        }

-- the row that is copied
row_ok : (a : Arrays) → normal a ≡ true → (row : ℕ) → row < a.count
    → row_normal (get_or a.kinds row 0) (get_or a.starts row 0) (get_or a.ends row 0) (get_or a.bends row 0) (get_or a.counts row 0) ≡ true
row_ok a m row h = all_at (normal_at a.kinds a.starts a.ends a.bends a.counts) a.count row h m

-- the arrays with other rows
abbrev with_rows : Arrays → ℕ → ℕ → List ℕ → List ℕ → List ℕ → List ℕ → List ℕ → List ℕ → List Float → List Float → Arrays
with_rows a next n is ks ss es bs cs us vs =
    record {
      next = next;
      count = n;
      ids = is;
      kinds = ks;
      starts = ss;
      ends = es;
      bends = bs;
      counts = cs;
      px = us;
      py = vs;
      cycles = a.cycles;
      steps = a.steps;
      bx = a.bx;
      by = a.by;
    }

module _ (a : Arrays) (l : Lengths a) (m : normal a ≡ true) (row n : ℕ) (h : row < a.count) (hc : a.count + n ≤ 256) where
  -- with i rows more
  abbrev grown : ℕ → ℕ → ℕ → Arrays
  grown i next k =
      with_rows a next k (numbered_rows a.ids a.count a.next i) (filled_rows a.kinds a.count (get_or a.kinds row 0) i)
      (filled_rows a.starts a.count (get_or a.starts row 0) i) (filled_rows a.ends a.count (get_or a.ends row 0) i)
      (filled_rows a.bends a.count (get_or a.bends row 0) i) (filled_rows a.counts a.count (get_or a.counts row 0) i)
      (filled_rows a.px a.count (get_or a.px row nan) i) (filled_rows a.py a.count (get_or a.py row nan) i)

  some_rows : (i : ℕ) → i ≤ n → RowsCome a (shape_at a row) n i (grown i (a.next + i) (a.count + i))
  some_rows zero g =
      let e : a.next + 0 ≡ a.next = omega arith in
      let f : a.count + 0 ≡ a.count = omega arith in
      rows_none a (shape_at a row) n l m _ (λ j. grown 0 (e j) (f j))
  some_rows (suc i) g =
      let e : a.next + suc i ≡ a.next + i + 1 = omega arith in
      let f : a.count + suc i ≡ a.count + i + 1 = omega arith in
      subst (λ (k : ℕ). RowsCome a (shape_at a row) n k (grown (suc i) (a.next + suc i) (a.count + suc i))) (add-one i)
      (rows_more a (shape_at a row) n i (grown i (a.next + i) (a.count + i)) (some_rows i (omega arith)) l (omega arith) hc refl refl
      (get_or a.kinds row 0) (get_or a.starts row 0) (get_or a.ends row 0) (get_or a.bends row 0) (get_or a.counts row 0)
      (position_in a.px a.py row) refl (row_ok a m row h) _ (λ j. grown (suc i) (e j) (f j)))

  -- o are with n rows more, but for the next id and the number of cells
  pub rows_come : (o : Arrays) → o ≡ rows_only a o
      → RowsPut a.next a.count row n a.ids a.kinds a.starts a.ends a.bends a.counts a.px a.py o.ids o.kinds o.starts o.ends o.bends o.counts o.px o.py
      → RowsCome a (shape_at a row) n n (record o { next = o.next + n; count = o.count + n })
  rows_come o kept r =
      subst (RowsCome a (shape_at a row) n n)
      (sym (ap (λ (q : Arrays). record q { next = q.next + n; count = q.count + n }) kept
      ∙ (λ j. with_rows a (a.next + n) (a.count + n) (r.ids j) (r.kinds j) (r.starts j) (r.ends j) (r.bends j) (r.counts j) (r.px j) (r.py j))))
      (some_rows n (omega arith))

-- ---- copies of a cell
-- the arrays with other bends
abbrev pub with_places : Arrays → List Float → List Float → Arrays
with_places a us vs =
    record {
      next = a.next;
      count = a.count;
      ids = a.ids;
      kinds = a.kinds;
      starts = a.starts;
      ends = a.ends;
      bends = a.bends;
      counts = a.counts;
      px = a.px;
      py = a.py;
      cycles = a.cycles;
      steps = a.steps;
      bx = us;
      by = vs;
    }

pub long_with : (a : Arrays) → Lengths a → (us vs : List Float) → length us ≡ 2048 → length vs ≡ 2048 → Lengths (with_places a us vs)
long_with a l us vs lu lv =
    record {
      ids = l.ids;
      kinds = l.kinds;
      starts = l.starts;
      ends = l.ends;
      bends = l.bends;
      counts = l.counts;
      px = l.px;
      py = l.py;
      cycles = l.cycles;
      steps = l.steps;
      bx = lu;
      by = lv;
    }

module _ (a : Arrays) (l : Lengths a) (m : normal a ≡ true) (row n : ℕ) (h : CopiesRoom (held_by a) row n) where
  abbrev nowhere : Cell
  nowhere = record { id = 0; shape = shape_at a row }

  in_array : row < length a.ids
  in_array = omega (arith, l.ids, h.row, h.fits.cells)

  shape_is : shape_at a row ≡ shape_of (figure_at (sheet_of (held_by a)) row)
  shape_is = sym (cells_shape (shape_at a) a.ids row nowhere in_array) ∙ row_shape (held_by a) (held_sizes a l) h.fits row h.row nowhere

  pub bends_own : get_or a.bends row 0 ≡ length (figure_bends (figure_at (sheet_of (held_by a)) row))
  bends_own =
      sym (told a l m row h.row).bends ∙ ap bend_count (sym (cells_shape (shape_at a) a.ids row nowhere in_array))
      ∙ row_count (held_by a) (held_sizes a l) h.fits row h.row nowhere

  pub bends_from : total (places_of 0) (take row a.bends) ≡ bend_sum (take row (held_by a).cells)
  bends_from =
      ap (total (places_of 0)) (cells_told bend_count (shape_at a) row a.ids a.bends (l.ids ∙ sym l.bends)
      (λ j g. (told a l m j (omega (arith, g, h.row))).bends))
      ∙ places_sum (λ (c : Cell). bend_count c.shape) (take row (held_by a).cells)

  pub bends_asks : (row ≤ length a.bends) × (total (places_of 0) (take row a.bends) ≤ 2048)
  bends_asks =
      let w = row_within (held_by a) (held_sizes a l) h.fits row h.row in
      (omega (arith, l.bends, h.row, h.fits.cells), omega (arith, bends_from, w, h.fits.bends))

  module _ (base first k : ℕ) (eb : base ≡ bend_total (held_by a)) (ef : first ≡ total (places_of 0) (take row a.bends)) (ek : k ≡ get_or a.bends row 0) where
    -- there is room for them
    pub bends_room : (first + k ≤ base) × (base + n * k ≤ 2048)
    bends_room =
        let w = row_within (held_by a) (held_sizes a l) h.fits row h.row in
        let e = ek ∙ bends_own in
        let g : n * k ≡ n * length (figure_bends (figure_at (sheet_of (held_by a)) row)) = ap (λ (x : ℕ). n * x) e in
        (omega (arith, w, e, eb, ef ∙ bends_from), omega (arith, eb, h.bends, g))

    pub copies_come : (us vs : List Float) → positions_in us vs
        ≡ paste (positions_in a.bx a.by) base (repeated n (run_at first k (positions_in a.bx a.by))) (n * k)
        → (b : Arrays) → RowsCome (with_places a us vs) (shape_at a row) n n b → CopiesCome a row n b
    copies_come us vs e b r =
        let d = held_by a in
        let z = held_sizes a l in
        let g =
        copies_grown d z row n h (positions_in us vs) (shape_at a row) (paste d.cells d.count (copy_cells d.next (shape_at a row) n) n)
        (bends_filled d z row n h base first k (positions_in us vs) e eb (ef ∙ bends_from) (ek ∙ bends_own)) shape_is refl in
        record { sheet = ap sheet_of r.held ∙ g.0; fits = subst Fits (sym r.held) g.1; long = r.long; rows = r.rows }

-- ---- uses
abbrev pub with_other_steps : Arrays → List ℕ → Arrays
with_other_steps a st =
    record {
      next = a.next;
      count = a.count;
      ids = a.ids;
      kinds = a.kinds;
      starts = a.starts;
      ends = a.ends;
      bends = a.bends;
      counts = a.counts;
      px = a.px;
      py = a.py;
      cycles = a.cycles;
      steps = st;
      bx = a.bx;
      by = a.by;
    }

module _ (a : Arrays) (l : Lengths a) (f : Fits (held_by a)) (u : Use) (i k m : ℕ) (em : m ≡ cycle_total (held_by a)) where
  pub uses_room : (m ≤ length a.cycles) × (width_sum (take m a.cycles) ≤ length a.steps)
  uses_room =
      let w = ap (λ (x : ℕ). width_sum (take x a.cycles)) em in
      (omega (arith, em, f.cycles, l.cycles), omega (arith, w, f.steps, l.steps))

  pub uses_copied : T (rising 0 (ids (sheet_of (held_by a)).cells) (sheet_of (held_by a)).next) → (st : List ℕ) → length st ≡ 2048
      → cycles_from (take m a.cycles) st ≡ counting (uses_in u i) (copied u i a.next) k (cycles_from (take m a.cycles) a.steps)
      → UsesCopied u i k a (with_other_steps a st)
  uses_copied t st ls e =
      let d = held_by a in
      let z = held_sizes a l in
      let g = stepped_is d z f st ls in
      let q = subst (λ (x : ℕ). cycles_from (take x a.cycles) st
      ≡ counting (uses_in u i) (copied u i a.next) k (cycles_from (take x a.cycles) a.steps)) em e in
      record {
        sheet = g.0 ∙ ap (λ (xs : List LiveCell). with_entries (sheet_of d) xs) (copied_cells d z f (uses_in u i) (copied u i a.next) k st t q);
        fits = g.1;
        long = record {
          ids = l.ids;
          kinds = l.kinds;
          starts = l.starts;
          ends = l.ends;
          bends = l.bends;
          counts = l.counts;
          px = l.px;
          py = l.py;
          cycles = l.cycles;
          steps = ls;
          bx = l.bx;
          by = l.by;
        };
      }

-- ---- the answer of a command that issues k ids and keeps all cells
pub more_outcome : (next n k : ℕ) (out : Drawing) → 1 ≤ k → out.next ≡ next + k → out.count ≡ n + k
    → record { number = 0; first = next; new = k; removed = 0; drawing = out } ≡ outcome next n out
more_outcome next n k out h e f =
    let g : k ≡ out.next - next = omega (arith, e) in
    let r : 0 ≡ n + (out.next - next) - out.count = omega (arith, e, f) in
    let q : false ≡ eqb (out.next - next) 0 = sym (ne_eqb (out.next - next) 0 (λ z. omega (arith, z, e, h))) in
    λ i. record { number = 0; first = cond (q i) 0 next; new = g i; removed = r i; drawing = out }
