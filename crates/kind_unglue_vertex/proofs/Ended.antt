-- New ends in the rows, then copies for lone cycles: the arrays hold the drawing with the vertex parted. Assumes nothing.
use Prim.Native.Nat.{ℕ, zero, suc, ◌+◌, ◌*◌, ◌<◌, ◌≤◌}
use native.Mathlib.Omega.{arith}
use mathlib.Core.Path.{◌≡◌, refl, sym, ap, ap₂, ◌∙◌}
use mathlib.Core.Bool.{Bool, true, false, ◌&&◌, cond}
use mathlib.Core.List.{List, [], ◌∷◌}
use lib.Dec.{T, eqb}
use lib.ListN.{length, get_or, take}
use Rattle.coordinate.specs.declared.Position.{Position}
use Rattle.complex.specs.Lists.{rising}
use Rattle.complex.specs.Cells.{cell_at, is_vertex, ids}
use Rattle.complex.specs.Edits.{reshape}
use Rattle.complex.specs.Uses.{on_uses, lone_use}
use Rattle.complex.specs.Unglue.{new_lone}
use Rattle.store.specs.declared.Shape.{Shape}
use Rattle.store.specs.declared.Cell.{Cell}
use Rattle.store.specs.View.{sheet_of, Fits, cycle_total}
use Rattle.store.specs.Edits.{with_entries}
use Rattle.rows_steps.specs.Ends.{re_ended, ended_shape, ended_cells}
use Rattle.rows_steps.proofs.Placed.{ended_is}
use Rattle.sound.proofs.Meaning.{sound_fits}
use Rattle.answer.specs.declared.Totals.{Totals}
use Rattle.rows_uses.specs.declared.Use.TheVariants.{Lone}
use Rattle.answer.proofs.Asked.{next_in_lem}
use Rattle.rows_ends.specs.Ends.{end_after, EndMarks, NewEnds, EndRows}
use Rattle.rows_ends.proofs.Ends.{end_rows}
use Rattle.ask_unglue.specs.Places.{GroupedEnds}
use Rattle.ask_unglue.proofs.Vertex.{mid_rises, parted}
use Rattle.lent.specs.Arrays.{Arrays, shape_by, shape_at, position_in, cells_by, held_by, rows_by, row_normal, normal_at, normal, Lengths}
use Rattle.lent.specs.Replies.{Ready}
use Rattle.lent.proofs.Held.{all_at, all_intro, held_sizes, held_indexes}
use Rattle.lent.proofs.Replies.{rows_of, drawing_of}
use Rattle.lent.proofs.Sums.{cycles_held}
use Rattle.kernel_copies.specs.Copies.{UsesCopied}
use Rattle.kind_unglue_vertex.specs.Parts.{Parted}

-- the arrays with other ends
abbrev pub with_ends : Arrays → List ℕ → List ℕ → Arrays
with_ends a ss es =
    record {
      next = a.next;
      count = a.count;
      ids = a.ids;
      kinds = a.kinds;
      starts = ss;
      ends = es;
      bends = a.bends;
      counts = a.counts;
      px = a.px;
      py = a.py;
      cycles = a.cycles;
      steps = a.steps;
      bx = a.bx;
      by = a.by;
    }

shape_ended : (k s e s' e' b c : ℕ) (p : Position) → shape_by k s' e' b c p ≡ ended_shape s' e' (shape_by k s e b c p)
shape_ended zero s e s' e' b c p = refl
shape_ended (suc zero) s e s' e' b c p = refl
shape_ended (suc (suc zero)) s e s' e' b c p = refl
shape_ended (suc (suc (suc k))) s e s' e' b c p = refl

cells_ended : (ss es : List ℕ) (f g : ℕ → Shape) (i n : ℕ) (is : List ℕ) → ((j : ℕ) → g j ≡ ended_shape (get_or ss (i + j) 0) (get_or es (i + j) 0) (f j))
    → take n (cells_by g is) ≡ ended_cells ss es i (take n (cells_by f is))
cells_ended ss es f g i zero is h = refl
cells_ended ss es f g i (suc n) [] h = refl
cells_ended ss es f g i (suc n) (x ∷ is) h =
    let e : i + 0 ≡ i = omega arith in
    ap₂ (λ (s : Shape) (r : List Cell). record { id = x; shape = s } ∷ r) (h 0 ∙ ap (λ (k : ℕ). ended_shape (get_or ss k 0) (get_or es k 0) (f 0)) e)
    (cells_ended ss es (λ j. f (suc j)) (λ j. g (suc j)) (suc i) n is
    (λ j. let q : i + suc j ≡ suc i + j = omega arith in h (suc j) ∙ ap (λ (k : ℕ). ended_shape (get_or ss k 0) (get_or es k 0) (f (suc j))) q))

-- a row that has no ends
abbrev others : ℕ → ℕ → ℕ → ℕ → ℕ → Bool
others k s e b c = eqb s 0 && (eqb e 0 && cond (eqb k 2) (eqb c 0) (eqb b 0 && cond (eqb k 3) true (eqb k 0 && eqb c 0)))

module _ (a : Arrays) (v next : ℕ) (at : List Bool) (G : List ℕ) (M : EndMarks a.kinds a.starts a.ends v a.count at) (ss es : List ℕ)
    (A : NewEnds 0 at G v next a.count a.starts ss) (B : NewEnds 1 at G v next a.count a.ends es) where
  same_row : (j : ℕ) → j < a.count → normal_at a.kinds ss es a.bends a.counts j ≡ normal_at a.kinds a.starts a.ends a.bends a.counts j
  same_row j h = go (eqb (get_or a.kinds j 0) 1) refl
    where
      go : (t : Bool) → eqb (get_or a.kinds j 0) 1 ≡ t → normal_at a.kinds ss es a.bends a.counts j
          ≡ normal_at a.kinds a.starts a.ends a.bends a.counts j
      go true q =
          ap (λ (t : Bool). cond t (eqb (get_or a.counts j 0) 0)
          (others (get_or a.kinds j 0) (get_or ss j 0) (get_or es j 0) (get_or a.bends j 0) (get_or a.counts j 0))) q
          ∙ sym (ap (λ (t : Bool). cond t (eqb (get_or a.counts j 0) 0)
          (others (get_or a.kinds j 0) (get_or a.starts j 0) (get_or a.ends j 0) (get_or a.bends j 0) (get_or a.counts j 0))) q)
      go false q =
          let z : j * 2 + 0 ≡ j * 2 = omega arith in
          let ms : get_or at (j * 2 + 0) false ≡ false = ap (λ (p : ℕ). get_or at p false) z ∙ M.start j h
          ∙ ap (λ (t : Bool). t && eqb (get_or a.starts j 0) v) q in
          let me : get_or at (j * 2 + 1) false ≡ false = M.end j h ∙ ap (λ (t : Bool). t && eqb (get_or a.ends j 0) v) q in
          let s = A.changed j h ∙ ap (λ (t : Bool). end_after t (get_or G (j * 2 + 0) 0) (get_or a.starts j 0) v next) ms in
          let e = B.changed j h ∙ ap (λ (t : Bool). end_after t (get_or G (j * 2 + 1) 0) (get_or a.ends j 0) v next) me in
          ap₂ (λ (x y : ℕ). row_normal (get_or a.kinds j 0) x y (get_or a.bends j 0) (get_or a.counts j 0)) s e

  pub ends_normal : normal a ≡ true → normal (with_ends a ss es) ≡ true
  ends_normal m =
      all_intro (normal_at a.kinds ss es a.bends a.counts) a.count
      (λ j h. same_row j h ∙ all_at (normal_at a.kinds a.starts a.ends a.bends a.counts) a.count j h m)

-- what is asked of the starts or the ends l
pub end_asks : (side : ℕ) → side ≤ 1 → {a : Arrays} {t : Totals} → Ready a t → {v g : ℕ} {at : List Bool} {G : List ℕ}
    → GroupedEnds (held_by a) (rows_by a) v g at G × (g ≤ 512) → length at ≡ 512 → length G ≡ 512 → (l : List ℕ) → length l ≡ 256
    → EndRows side at G a.count a.next l
end_asks side h {a} {t} r {v} {g} {at} {G} R ha hG l hl =
    let w = drawing_of a r.sound in
    end_rows side at G a.count a.next l g h ha hG R.0.most R.1 (sound_fits (held_by a) w).cells hl (next_in_lem (held_by a) w)

module _ (a : Arrays) (t : Totals) (r : Ready a t) (v g : ℕ) (at : List Bool) (G : List ℕ) (R : GroupedEnds (held_by a) (rows_by a) v g at G) (ss es : List ℕ)
    (A : NewEnds 0 at G v a.next a.count a.starts ss) (B : NewEnds 1 at G v a.next a.count a.ends es) where
  pub mid_long : Lengths (with_ends a ss es)
  mid_long =
      let l = r.long in
      record {
        ids = l.ids;
        kinds = l.kinds;
        starts = A.size ∙ l.starts;
        ends = B.size ∙ l.ends;
        bends = l.bends;
        counts = l.counts;
        px = l.px;
        py = l.py;
        cycles = l.cycles;
        steps = l.steps;
        bx = l.bx;
        by = l.by;
      }

  pub mid_normal : normal (with_ends a ss es) ≡ true
  mid_normal = ends_normal a v a.next at G R.marks ss es A B (rows_of a r.sound)

  pub mid_held : (sheet_of (held_by (with_ends a ss es)) ≡ with_entries (sheet_of (held_by a)) (re_ended ss es 0 (sheet_of (held_by a)).cells))
      × Fits (held_by (with_ends a ss es))
  mid_held =
      let mid = with_ends a ss es in
      let front =
      cells_ended ss es (shape_at a) (shape_at mid) 0 a.count a.ids
      (λ j.
      let z : j ≡ 0 + j = omega arith in
      shape_ended (get_or a.kinds j 0) (get_or a.starts j 0) (get_or a.ends j 0) (get_or ss j 0) (get_or es j 0) (get_or a.bends j 0) (get_or a.counts j 0)
      (position_in a.px a.py j)
      ∙ ap (λ (k : ℕ). ended_shape (get_or ss k 0) (get_or es k 0) (shape_at a j)) z) in
      ended_is ss es (held_by a) (held_by mid) (held_sizes a r.long) (sound_fits (held_by a) (drawing_of a r.sound)) (held_sizes mid mid_long) refl front

  pub mid_rising : T (rising 0 (ids (sheet_of (held_by (with_ends a ss es))).cells) (sheet_of (held_by (with_ends a ss es))).next)
  mid_rising =
      mid_rises (held_by a) (held_sizes a r.long) (drawing_of a r.sound) (rows_by a) (held_indexes a r.long (rows_of a r.sound)) v g at G R ss es A B
      (held_by (with_ends a ss es)) mid_held.0

  pub mid_cycles : t.cycles ≡ cycle_total (held_by (with_ends a ss es))
  mid_cycles = ap (λ (u : Totals). u.cycles) r.sums ∙ cycles_held (with_ends a ss es) mid_long mid_normal

  pub ends_parted : T (is_vertex (cell_at (sheet_of (held_by a)) v)) → (k : ℕ) → k ≡ g → (b : Arrays) → UsesCopied Lone v k (with_ends a ss es) b
      → normal b ≡ normal (with_ends a ss es) → Parted a v b
  ends_parted tv k ek b c eb =
      let s = sheet_of (held_by (with_ends a ss es)) in
      record {
        sheet =
            c.sheet
            ∙ ap (λ (n : ℕ). with_entries s (reshape (on_uses (lone_use v) (new_lone v a.next) n s.cells) s.cells)) ek
            ∙ parted (held_by a) (held_sizes a r.long) (drawing_of a r.sound) (rows_by a) (held_indexes a r.long (rows_of a r.sound)) v g at G R ss es
            A B (held_by (with_ends a ss es)) mid_held.0 tv;
        fits = c.fits;
        long = c.long;
        rows = eb ∙ mid_normal;
      }
