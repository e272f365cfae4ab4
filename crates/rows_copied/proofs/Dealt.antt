-- Cycles dealt out to the faces of a drawing. Assumes nothing.
use Prim.Native.Nat.{ℕ, suc, ◌+◌, ◌<◌, ◌≤◌}
use mathlib.Core.Path.{◌≡◌, refl, ap, ap₂, sym, subst, ◌∙◌}
use mathlib.Core.List.{List, [], ◌∷◌, ◌++◌, map, append_assoc, append-nil}
use mathlib.Core.Bool.{Bool, true, false, ◌&&◌}
use native.Mathlib.Omega.{arith}
use lib.Dec.{T, ltb, ltb→lt}
use borrow.Author.Tests.{lt-ltb, le-ltb}
use lib.ListN.{length, take, drop, length-append, length-drop, take-append-drop}
use lib.Seq.{length-take-le, take_at, drop_at}
use Rattle.coordinate.specs.declared.Position.{Position}
use Rattle.store.specs.declared.Shape.{Shape}
use Rattle.store.specs.declared.Shape.TheVariants.{Face}
use Rattle.store.specs.declared.Cell.{Cell}
use Rattle.store.specs.declared.Drawing.{Drawing}
use Rattle.store.specs.Sizes.{Sizes}
use Rattle.complex.specs.Lists.{total, cons_if, rising}
use Rattle.complex.specs.Cells.{Cycle, Figure, vertex, open_edge, closed_edge, face, LiveCell, ids}
use Rattle.complex.specs.Edits.{reshape}
use Rattle.complex.specs.Uses.{uses_by, earlier, counting, on_uses}
use Rattle.store.specs.View.{sheet_of, Fits, width_sum, cycles_from, cycle_total, step_total}
use Rattle.store.specs.Edits.{with_entries, with_steps}
use Rattle.store.specs.Places.{shape_of, entry_cell, figure_cycles, figure_bends, entry_cycles, entry_bends}
use Rattle.store.specs.Pools.{Held, dealt_figure, dealt}
use Rattle.number.specs.Readers.{spread}
use Rattle.store.proofs.Lists.{sum_append}
use Rattle.store.proofs.Encode.{numbers, places, cycles_real, length_cycles}
use Rattle.store.proofs.Stands.{stands, used_cycles, cycle_total_lem}
use Rattle.rows_steps.proofs.Rewired.{changed_is}
use Rattle.rows_uses.proofs.Dealing.{uses_by_lem}

-- ---- what the cells have
figure_cycles_lem : (ks : List Cycle) (f : Figure) → figure_cycles (dealt_figure ks f) ≡ take (length (figure_cycles f)) ks
figure_cycles_lem ks (vertex p) = refl
figure_cycles_lem ks (open_edge a b bs) = refl
figure_cycles_lem ks (closed_edge bs) = refl
figure_cycles_lem ks (face old) = refl

figure_shape : (ks : List Cycle) (f : Figure) → length (figure_cycles f) ≤ length ks → shape_of f ≡ shape_of (dealt_figure ks f)
figure_shape ks (vertex p) h = refl
figure_shape ks (open_edge a b bs) h = refl
figure_shape ks (closed_edge bs) h = refl
figure_shape ks (face old) h = ap Face (sym (length-take-le (length old) ks h))

figure_bends_lem : (ks : List Cycle) (f : Figure) → figure_bends (dealt_figure ks f) ≡ figure_bends f
figure_bends_lem ks (vertex p) = refl
figure_bends_lem ks (open_edge a b bs) = refl
figure_bends_lem ks (closed_edge bs) = refl
figure_bends_lem ks (face old) = refl

no_cycles : (ks : List Cycle) → length ks ≡ 0 → [] ≡ ks
no_cycles [] h = refl
no_cycles (k ∷ ks) h = absurd (omega arith)

pub dealt_cycles : (ks : List Cycle) (xs : List LiveCell) → length ks ≡ length (spread entry_cycles xs) → spread entry_cycles (dealt ks xs) ≡ ks
dealt_cycles ks [] h = no_cycles ks h
dealt_cycles ks (x ∷ xs) h =
    let e = length-append (entry_cycles x) (spread entry_cycles xs) in
    ap₂ (λ (a b : List Cycle). a ++ b) (figure_cycles_lem ks x.figure)
    (dealt_cycles (drop (length (entry_cycles x)) ks) xs (length-drop (length (entry_cycles x)) ks ∙ omega arith))
    ∙ take-append-drop (length (entry_cycles x)) ks

dealt_heads : (ks : List Cycle) (xs : List LiveCell) → length ks ≡ length (spread entry_cycles xs) → map entry_cell xs ≡ map entry_cell (dealt ks xs)
dealt_heads ks [] h = refl
dealt_heads ks (x ∷ xs) h =
    let e = length-append (entry_cycles x) (spread entry_cycles xs) in
    ap₂ (λ (s : Shape) (r : List Cell). record { id = x.id; shape = s } ∷ r) (figure_shape ks x.figure (omega arith))
    (dealt_heads (drop (length (entry_cycles x)) ks) xs (length-drop (length (entry_cycles x)) ks ∙ omega arith))

dealt_bends : (ks : List Cycle) (xs : List LiveCell) → spread entry_bends (dealt ks xs) ≡ spread entry_bends xs
dealt_bends ks [] = refl
dealt_bends ks (x ∷ xs) = ap₂ (λ (a b : List Position). a ++ b) (figure_bends_lem ks x.figure) (dealt_bends (drop (length (entry_cycles x)) ks) xs)

-- a drawing with other steps
module _ (d : Drawing) (z : Sizes d) (f : Fits d) (st : List ℕ) (e : length st ≡ 2048) where
  abbrev new_cycles : List Cycle
  new_cycles = cycles_from (take (cycle_total d) d.cycles) st

  pub stepped_is : (sheet_of (with_steps d st) ≡ with_entries (sheet_of d) (dealt new_cycles (sheet_of d).cells)) × Fits (with_steps d st)
  stepped_is =
      let xs = (sheet_of d).cells in
      let s = stands d z f in
      let ns = take (cycle_total d) d.cycles in
      let w : width_sum ns ≤ length st = omega (arith, f.steps) in
      let n : length new_cycles ≡ length (spread entry_cycles xs) =
      length_cycles ns st ∙ length-take-le (cycle_total d) d.cycles (omega (arith, f.cycles, z.cycles)) ∙ cycle_total_lem d xs s in
      let held : Held new_cycles d.cycles (cycle_total d) st (step_total d) =
      record {
        lengths = sym (numbers ns st w);
        places = sym (places ns st w);
        real = cycles_real ns st w;
        lengths_room = omega (arith, f.cycles, z.cycles);
        places_room = w;
      } in
      changed_is d (with_steps d st) z f (record { cells = z.cells; cycles = z.cycles; steps = e; bends = z.bends }) refl refl refl (dealt new_cycles xs)
      (s.cells ∙ dealt_heads new_cycles xs n) (dealt_bends new_cycles xs) (cycle_total d) (step_total d)
      (subst (λ (ks : List Cycle). Held ks d.cycles (cycle_total d) st (step_total d)) (sym (dealt_cycles new_cycles xs n)) held)

-- ---- cells before an id
both : (a b : Bool) → T (a && b) → T a × T b
both true b t = (tt, t)
both false b t = absurd t

-- rising numbers are above the first bound
rising_over : (lo : ℕ) (ps : List LiveCell) (c : LiveCell) (cs : List LiveCell) (hi : ℕ) → T (rising lo (ids (ps ++ c ∷ cs)) hi) → lo < c.id
rising_over lo [] c cs hi t = ltb→lt lo c.id (both (ltb lo c.id) (rising c.id (ids cs) hi) t).0
rising_over lo (p ∷ ps) c cs hi t =
    let b = both (ltb lo p.id) (rising p.id (ids (ps ++ c ∷ cs)) hi) t in
    let l = ltb→lt lo p.id b.0 in
    let m = rising_over p.id ps c cs hi b.1 in
    omega arith

none_earlier : (i lo : ℕ) (cs : List LiveCell) (hi : ℕ) → T (rising lo (ids cs) hi) → i ≤ lo → earlier i cs ≡ []
none_earlier i lo [] hi t h = refl
none_earlier i lo (c ∷ cs) hi t h =
    let b = both (ltb lo c.id) (rising c.id (ids cs) hi) t in
    let l = ltb→lt lo c.id b.0 in
    ap (λ (x : Bool). cons_if x c (earlier i cs)) (le-ltb c.id i (omega arith)) ∙ none_earlier i c.id cs hi b.1 (omega arith)

-- those before a cell of rising ids
pub earlier_are : (lo : ℕ) (ps : List LiveCell) (c : LiveCell) (cs : List LiveCell) (hi : ℕ) → T (rising lo (ids (ps ++ c ∷ cs)) hi)
    → earlier c.id (ps ++ c ∷ cs) ≡ ps
earlier_are lo [] c cs hi t =
    let b = both (ltb lo c.id) (rising c.id (ids cs) hi) t in
    ap (λ (x : Bool). cons_if x c (earlier c.id cs)) (le-ltb c.id c.id (omega arith)) ∙ none_earlier c.id c.id cs hi b.1 (omega arith)
earlier_are lo (p ∷ ps) c cs hi t =
    let b = both (ltb lo p.id) (rising p.id (ids (ps ++ c ∷ cs)) hi) t in
    ap₂ (λ (x : Bool) (r : List LiveCell). cons_if x p r) (lt-ltb p.id c.id (rising_over p.id ps c cs hi b.1))
    (earlier_are p.id ps c cs hi b.1)

-- ---- uses, cell by cell
module _ (uses : Cycle → ℕ) where
  module _ (f : ℕ → Cycle → Cycle) where
    counting_append : (k : ℕ) (xs ys : List Cycle) → counting uses f k (xs ++ ys) ≡ counting uses f k xs ++ counting uses f (k + total uses xs) ys
    counting_append k [] ys = ap (λ (n : ℕ). counting uses f n ys) (omega arith)
    counting_append k (x ∷ xs) ys =
        ap (λ (r : List Cycle). f k x ∷ r)
        (counting_append (k + uses x) xs ys ∙ ap (λ (n : ℕ). counting uses f (k + uses x) xs ++ counting uses f n ys) (omega arith))

    counting_length : (k : ℕ) (xs : List Cycle) → length (counting uses f k xs) ≡ length xs
    counting_length k [] = refl
    counting_length k (x ∷ xs) = ap suc (counting_length (k + uses x) xs)

    module _ (n lo : ℕ) (hi : ℕ) (all : List LiveCell) (t : T (rising lo (ids all) hi)) where
      figure_counted : (i : ℕ) (k : ℕ) (g : Figure) (ks : List Cycle) → k ≡ n + uses_by uses (earlier i all)
          → dealt_figure (counting uses f k (figure_cycles g) ++ ks) g ≡ on_uses uses f n all i g
      figure_counted i k (vertex p) ks e = refl
      figure_counted i k (open_edge a b bs) ks e = refl
      figure_counted i k (closed_edge bs) ks e = refl
      figure_counted i k (face old) ks e = ap face (take_at (counting uses f k old) ks (length old) (counting_length k old)
          ∙ ap (λ (m : ℕ). counting uses f m old) e)

      dealt_from : (ps cs : List LiveCell) → ps ++ cs ≡ all → dealt (counting uses f (n + uses_by uses ps) (spread entry_cycles cs)) cs
          ≡ reshape (on_uses uses f n all) cs
      dealt_from ps [] e = refl
      dealt_from ps (c ∷ cs) e =
          let m = n + uses_by uses ps in
          let front = counting uses f m (entry_cycles c) in
          let after = counting uses f (m + total uses (entry_cycles c)) (spread entry_cycles cs) in
          let here : m ≡ n + uses_by uses (earlier c.id all) =
          ap (λ (q : List LiveCell). n + uses_by uses q)
          (sym (subst (λ (l : List LiveCell). earlier c.id l ≡ ps) e
          (earlier_are lo ps c cs hi (subst (λ (l : List LiveCell). T (rising lo (ids l) hi)) (sym e) t)))) in
          let more = uses_by_lem uses (ps ++ (c ∷ [])) ∙ ap (total uses) (spread_snoc ps c) ∙ sum_append uses (spread entry_cycles ps) (entry_cycles c) in
          let next : m + total uses (entry_cycles c) ≡ n + uses_by uses (ps ++ (c ∷ [])) = omega (arith, more, uses_by_lem uses ps) in
          ap (λ (l : List Cycle). dealt l (c ∷ cs)) (counting_append m (entry_cycles c) (spread entry_cycles cs))
          ∙ ap₂ (λ (g : Figure) (r : List LiveCell). record { id = c.id; figure = g } ∷ r) (figure_counted c.id m c.figure after here)
          (ap (λ (l : List Cycle). dealt l cs) (drop_at front after (length (entry_cycles c)) (counting_length m (entry_cycles c)))
          ∙ ap (λ (k : ℕ). dealt (counting uses f k (spread entry_cycles cs)) cs) next
          ∙ dealt_from (ps ++ (c ∷ [])) cs (append_assoc ps (c ∷ []) cs ∙ e))
        where
          spread_snoc : (qs : List LiveCell) (x : LiveCell) → spread entry_cycles (qs ++ (x ∷ [])) ≡ spread entry_cycles qs ++ entry_cycles x
          spread_snoc [] x = append-nil (entry_cycles x)
          spread_snoc (q ∷ qs) x = ap (λ (r : List Cycle). entry_cycles q ++ r) (spread_snoc qs x)
              ∙ sym (append_assoc (entry_cycles q) (spread entry_cycles qs) (entry_cycles x))

      -- the cycles counted through and dealt out again are the cells changed by their uses
      pub dealt_uses : dealt (counting uses f n (spread entry_cycles all)) all ≡ reshape (on_uses uses f n all) all
      dealt_uses = ap (λ (k : ℕ). dealt (counting uses f k (spread entry_cycles all)) all) (omega arith) ∙ dealt_from [] all refl

-- a drawing's steps copied in the arrays are the cells changed by their uses
pub copied_cells : (d : Drawing) → Sizes d → Fits d → (uses : Cycle → ℕ) (f : ℕ → Cycle → Cycle) (k : ℕ) (st : List ℕ)
    → T (rising 0 (ids (sheet_of d).cells) (sheet_of d).next)
    → cycles_from (take (cycle_total d) d.cycles) st ≡ counting uses f k (cycles_from (take (cycle_total d) d.cycles) d.steps)
    → dealt (cycles_from (take (cycle_total d) d.cycles) st) (sheet_of d).cells ≡ reshape (on_uses uses f k (sheet_of d).cells) (sheet_of d).cells
copied_cells d z g uses f k st t e =
    ap (λ (ks : List Cycle). dealt ks (sheet_of d).cells) (e ∙ ap (counting uses f k) (sym (used_cycles d z g)))
    ∙ dealt_uses uses f k 0 (sheet_of d).next (sheet_of d).cells t
