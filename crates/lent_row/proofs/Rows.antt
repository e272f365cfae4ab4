-- One row after another, with the sums so far. Assumes nothing.
use Rattle.std.specs.Prelude.{Option, Some, None}
use Prim.Native.Nat.{ℕ, ◌+◌, ◌-◌, ◌<◌, ◌≤◌}
use mathlib.Core.Path.{◌≡◌, refl, ap, ap₂, sym, ◌∙◌}
use mathlib.Core.Bool.{Bool, true, false, ◌&&◌, cond}
use mathlib.Core.List.{List}
use native.Mathlib.Omega.{arith}
use lib.Dec.{leb}
use lib.ListN.{length, take, get_or}
use borrow.Author.Tests.{le-leb, lt-leb}
use Rattle.number.specs.Said.{Said, done, no}
use Rattle.number.proofs.Laws.{not_done, done_one}
use Rattle.complex.specs.Sound.{cells_most, cycles_most, steps_most, bends_most}
use Rattle.store.specs.Edits.{places_of}
use Rattle.store.proofs.Lists.{sum_more, places_none}
use Rattle.sound.specs.Rows.{all_from}
use Rattle.sound.proofs.Testing.{and_true}
use Rattle.answer.specs.declared.Totals.{Totals}
use Rattle.lent.specs.Arrays.{Arrays, position_in, normal_at}
use Rattle.lent_table.specs.Table.{Table}
use Rattle.lent_cycles.specs.Ring.{Looked, steps_upto, cycle_right, cycles_right, steps_say}
use Rattle.lent_row.specs.Row.{places_upto, rows_in, row_right, totals_upto, Upto}
use Rattle.lent_figure.specs.Figure.{figure_right}

-- ---- an answer of 0 or 1
module _ {A : Type 0} where
  pub said_no : (b : Bool) (x : A) → no 1 ≡ cond b (done x) (no 1) → b ≡ false
  said_no true x e = absurd (not_done 1 x e)
  said_no false x e = refl

  pub said_done : (b : Bool) (x y : A) → done x ≡ cond b (done y) (no 1) → (b ≡ true) × (x ≡ y)
  said_done true x y e = (refl, done_one x y e)
  said_done false x y e = absurd (not_done 1 x (sym e))

-- the places of one row more
pub places_more : (l : List ℕ) (i : ℕ) → i < length l → places_upto l (i + 1) ≡ places_upto l i + get_or l i 0
places_more l i h = sum_more (places_of 0) l i 0 h ∙ ap (λ (x : ℕ). places_upto l i + x) (places_none (get_or l i 0))

-- ---- the row i: what is left of its rules after each of them
abbrev pub after_cycles : Arrays → ℕ → Bool
after_cycles a i = cycles_right (rows_in a) a.cycles a.steps (places_upto a.counts i) (get_or a.counts i 0)

abbrev pub after_bends : Arrays → ℕ → Bool
after_bends a i = leb (places_upto a.counts (i + 1)) cycles_most && after_cycles a i

abbrev pub after_figure : Arrays → ℕ → Bool
after_figure a i = leb (places_upto a.bends (i + 1)) bends_most && after_bends a i

abbrev pub after_normal : Arrays → ℕ → Bool
after_normal a i = figure_right (rows_in a) (take a.count a.bends) i (position_in a.px a.py i) && after_figure a i

abbrev pub after_id : Arrays → ℕ → Bool
after_id a i = normal_at a.kinds a.starts a.ends a.bends a.counts i && after_normal a i

module _ {a : Arrays} {i : ℕ} {t : Totals} (u : Upto a i t) (h : i < a.count) where
  abbrev said : Bool → Said Totals
  said b = cond b (done (totals_upto a (i + 1))) (no 1)

  pub row_in : i < cells_most
  row_in = omega (arith, h, u.few)

  cycles_so : t.cycles ≡ places_upto a.counts i
  cycles_so = ap (λ (s : Totals). s.cycles) u.sums

  pub steps_so : t.steps ≡ steps_upto a.cycles t.cycles
  steps_so = ap (λ (s : Totals). s.steps) u.sums ∙ ap (steps_upto a.cycles) (sym cycles_so)

  bends_with : (b : ℕ) → b ≡ get_or a.bends i 0 → t.bends + b ≡ places_upto a.bends (i + 1)
  bends_with b e = ap₂ ◌+◌ (ap (λ (s : Totals). s.bends) u.sums) e ∙ sym (places_more a.bends i (omega (arith, row_in, u.sized.long.bends)))

  cycles_with : (c : ℕ) → c ≡ get_or a.counts i 0 → t.cycles + c ≡ places_upto a.counts (i + 1)
  cycles_with c e = ap₂ ◌+◌ cycles_so e ∙ sym (places_more a.counts i (omega (arith, row_in, u.sized.long.counts)))

  pub looked : (ts : List ℕ) → Table a.count ts a.ids → Looked a.count ts a.ids a.kinds a.starts a.ends
  looked ts p = record { table = p; kinds = u.sized.long.kinds; starts = u.sized.long.starts; ends = u.sized.long.ends }

  -- a rule does not hold
  pub row_fault : row_right a i ≡ false → no 1 ≡ said (row_right a i)
  row_fault e = sym (ap said e)

  pub bends_over : (b : ℕ) → b ≡ get_or a.bends i 0 → bends_most - t.bends < b → leb (places_upto a.bends (i + 1)) bends_most ≡ false
  bends_over b e f = let s = bends_with b e in lt-leb (places_upto a.bends (i + 1)) bends_most (omega (arith, s, f, u.bends))

  pub bends_fit_lem : (b : ℕ) → b ≡ get_or a.bends i 0 → b ≤ bends_most - t.bends → leb (places_upto a.bends (i + 1)) bends_most ≡ true
  bends_fit_lem b e f = let s = bends_with b e in le-leb (places_upto a.bends (i + 1)) bends_most (omega (arith, s, f, u.bends))

  pub cycles_over : (c : ℕ) → c ≡ get_or a.counts i 0 → cycles_most - t.cycles < c → leb (places_upto a.counts (i + 1)) cycles_most ≡ false
  cycles_over c e f = let s = cycles_with c e in lt-leb (places_upto a.counts (i + 1)) cycles_most (omega (arith, s, f, u.cycles))

  pub cycles_fit_lem : (c : ℕ) → c ≡ get_or a.counts i 0 → c ≤ cycles_most - t.cycles → leb (places_upto a.counts (i + 1)) cycles_most ≡ true
  cycles_fit_lem c e f = let s = cycles_with c e in le-leb (places_upto a.counts (i + 1)) cycles_most (omega (arith, s, f, u.cycles))

  -- the cycles are left
  module _ (c : ℕ) (ec : c ≡ get_or a.counts i 0)
      (left : row_right a i ≡ after_cycles a i) where
    right_is : row_right a i ≡ cycles_right (rows_in a) a.cycles a.steps t.cycles c
    right_is = left ∙ ap₂ (cycles_right (rows_in a) a.cycles a.steps) (sym cycles_so) (sym ec)

    abbrev Stepped : Option ℕ → Type 0
    Stepped w = steps_say w ≡ cond (cycles_right (rows_in a) a.cycles a.steps t.cycles c) (done (steps_upto a.cycles (t.cycles + c))) (no 1)

    -- a row without cycles: nothing is wrong with them, and the steps are those before it
    none_right : c ≡ 0 → Stepped (Some t.steps)
    none_right z =
        let p : t.cycles ≡ t.cycles + c = omega (arith, z) in
        let q : t.steps ≡ steps_upto a.cycles (t.cycles + c) = steps_so ∙ ap (steps_upto a.cycles) p in
        let b : cycles_right (rows_in a) a.cycles a.steps t.cycles c ≡ true =
        ap₂ ◌&&◌ (le-leb (steps_upto a.cycles (t.cycles + c)) steps_most (omega (arith, q, u.steps)))
        (ap (all_from (cycle_right (rows_in a) a.cycles a.steps) t.cycles) z) in
        ap done q ∙ sym (ap (λ x. cond x (done (steps_upto a.cycles (t.cycles + c))) (no 1)) b)

    pub row_stop : (w : Option ℕ) → Stepped w → w ≡ None → no 1 ≡ said (row_right a i)
    row_stop w ew q =
        sym (ap said
        (right_is ∙ said_no (cycles_right (rows_in a) a.cycles a.steps t.cycles c) (steps_upto a.cycles (t.cycles + c)) (ap steps_say (sym q) ∙ ew)))

    module _ (b : ℕ) (eb : b ≡ get_or a.bends i 0) where
      pub row_done : (w : Option ℕ) → Stepped w → (s : ℕ) → w ≡ Some s
          → done (record { cells = i + 1; cycles = t.cycles + c; steps = s; bends = t.bends + b }) ≡ said (row_right a i)
      row_done w ew s q =
          let d = said_done (cycles_right (rows_in a) a.cycles a.steps t.cycles c) s (steps_upto a.cycles (t.cycles + c))
          (ap steps_say (sym q) ∙ ew) in
          let k = cycles_with c ec in
          let st : s ≡ steps_upto a.cycles (places_upto a.counts (i + 1)) = d.1 ∙ ap (steps_upto a.cycles) k in
          ap done (λ j. record { cells = i + 1; cycles = k j; steps = st j; bends = bends_with b eb j })
          ∙ sym (ap said (right_is ∙ d.0))

      row_none : c ≡ 0 → done (record { cells = i + 1; cycles = t.cycles + c; steps = t.steps; bends = t.bends + b }) ≡ said (row_right a i)
      row_none z = row_done (Some t.steps) (none_right z) t.steps refl

  -- a row without cycles passes no ceiling of theirs
  pub row_plain : (c : ℕ) → c ≡ get_or a.counts i 0 → row_right a i ≡ after_bends a i → (b : ℕ) → b ≡ get_or a.bends i 0 → c ≡ 0
      → done (record { cells = i + 1; cycles = t.cycles + c; steps = t.steps; bends = t.bends + b }) ≡ said (row_right a i)
  row_plain c ec left b eb z = row_none c ec (left ∙ and_true _ (cycles_fit_lem c ec (omega (arith, z)))) b eb z
