-- Questions 7 and 8 of every kind of command, from sizes that are known before anything is built, and what its answer is then. Assumes nothing.
use Prim.Native.Nat.{ℕ, suc, ◌+◌, ◌-◌, ◌≤◌}
use native.Mathlib.Omega.{arith}
use mathlib.Core.Path.{◌≡◌, refl, sym, ap, ap₂, ◌∙◌, subst}
use mathlib.Core.Bool.{Bool, true, false, not, ◌&&◌, cond}
use mathlib.Core.List.{List, [], ◌∷◌}
use lib.ListN.{length}
use lib.Dec.{T, eqb, leb, leb→le}
use Rattle.complex.specs.Lists.{cons_if, filter}
use Rattle.complex.specs.Cells.{Figure, LiveCell, Sheet, cell_at, is_vertex, is_live}
use Rattle.complex.specs.Edits.{rebuild}
use Rattle.complex.specs.Sound.{ids_end, ceilings, cells_most, cycles_most, steps_most, bends_most}
use Rattle.complex.specs.Decode.{Command}
use Rattle.complex.specs.Commands.{result}
use Rattle.answer.specs.Sizes.{Change, sizes_of, new_cells, change_of, more_less, changed_by, sizes_after, sizes_fit}
use Rattle.complex.specs.Answer.{removed_from, first_no, of_result, answered, asked3}
use Rattle.complex.proofs.Bools.{truth, true_of, both}
use Rattle.complex.proofs.Keep.{Sound, sound_parts}
use Rattle.complex.proofs.Asked.{early_three, Passed, passed_asked, answered_no, done_counts}
use Rattle.complex.proofs.Rebuilt.{Rebuilt, result_rebuilt}
use Rattle.complex.proofs.Claims.{removed_rebuilt}
use Rattle.answer.proofs.Sizes.{Asked6}
use Rattle.answer.proofs.SizesAfter.{next_after, sizes_after_lem}
use Rattle.store.specs.declared.Drawing.{Drawing}
use Rattle.store.specs.declared.Index.{Index}
use Rattle.store.specs.Index.{Indexes}
use Rattle.store.specs.Sizes.{Sizes}
use Rattle.store.specs.View.{sheet_of, Fits, cycle_total, step_total}
use Rattle.store.proofs.Stands.{stands, count_is, cycle_total_lem, step_total_lem}
use Rattle.sound.specs.Soundness.{sound_drawing}
use Rattle.sound.specs.Looks.{index_value}
use Rattle.sound.proofs.Meaning.{sound_fits, sound_sheet_lem, looks, vertex_at}
use Rattle.rows_new.specs.Appends.{remade, RoomIn}
use Rattle.rows_new.proofs.Rooms.{room_rebuilt, over_cycles, over_steps}
use Rattle.answer.specs.declared.Answer.{Answer}
use Rattle.answer.specs.declared.Totals.{Totals}
use Rattle.answer.specs.Answers.{said_by, refusal, outcome, Counts, Answers}
use Rattle.answer.specs.Late.{sizes_by, late_no}
use Rattle.answer.proofs.Laws.{answers_no, totals_in, totals_are_lem}

module _ (d : Drawing) (w : T (sound_drawing d)) where
  pub sound_in : Sound (sheet_of d)
  sound_in = sound_parts (sheet_of d) (sound_sheet_lem d w)

  pub next_in_lem : d.next ≤ ids_end
  unfolding sheet_of
  next_in_lem = leb→le d.next ids_end sound_in.in_ids

-- the kind in the row of an id
pub kind_vertex : (d : Drawing) → Sizes d → T (sound_drawing d) → (ix : Index) → Indexes d ix → (v k : ℕ) → k ≡ index_value 4 d ix ix.kinds v
    → eqb k 0 ≡ is_vertex (cell_at (sheet_of d) v)
kind_vertex d z w ix x v k e = ap (λ (n : ℕ). eqb n 0) e ∙ vertex_at (looks d z ix x w) v

-- no more are chosen than there are
pub chosen_le : {A : Type 0} (p : A → Bool) (xs : List A) → length (filter p xs) ≤ length xs
chosen_le p [] = omega arith
chosen_le p (x ∷ xs) = go (p x) (chosen_le p xs)
  where
    go : (b : Bool) → length (filter p xs) ≤ length xs → length (cons_if b x (filter p xs)) ≤ suc (length xs)
    go true h = omega arith
    go false h = omega arith

-- 7 and 8 got a yes
both_yes : (i k : Bool) → ◌≡◌ {A = ℕ} (cond i (cond k 0 8) 7) 0 → T i × T k
both_yes true true e = (tt, tt)
both_yes true false e = absurd (omega arith)
both_yes false k e = absurd (omega arith)

pub asked_six : (s : Sheet) (c : Command) → Passed s c → Asked6 s c
asked_six s c p = (truth (early_three c p.bytes), truth p.four, truth p.five, truth p.six)

-- ---- the command c got a yes to 3 to 6; r is the number of the first no to 7 and 8, or 0
pub record Asked (d : Drawing) (c : Command) (r : ℕ) : Type 0 where
  pub passed : Passed (sheet_of d) c
  pub says : r ≡ late_no (sheet_of d).next (new_cells (sheet_of d) c) (sizes_after (sheet_of d) c)

-- so many ids are issued and the sizes change so; r is what `late_no` says of them
pub record Sized (d : Drawing) (z : Sizes d) (w : T (sound_drawing d)) (c : Command) (r : ℕ) : Type 0 where
  pub index : Index
  pub indexes : Indexes d index
  pub new : ℕ
  pub totals : Totals
  pub more : Totals
  pub less : Totals
  pub passed : Passed (sheet_of d) c
  pub new_is : new_cells (sheet_of d) c ≡ new
  pub change_is : change_of (sheet_of d) c ≡ more_less (sizes_by more) (sizes_by less)
  pub totals_are : totals ≡ totals_in d z (sound_fits d w) index indexes
  pub says : r ≡ late_no d.next new (changed_by (sizes_by totals) (more_less (sizes_by more) (sizes_by less)))

pub asked_of : (d : Drawing) (z : Sizes d) (w : T (sound_drawing d)) (c : Command) (r : ℕ) → Sized d z w c r → Asked d c r
unfolding sizes_after sheet_of
asked_of d z w c r k =
    record {
      passed = k.passed;
      says = k.says ∙ ap₂ (late_no d.next) (sym k.new_is)
          (ap₂ changed_by (ap sizes_by k.totals_are ∙ totals_are_lem d z (sound_fits d w) k.index k.indexes) (sym k.change_is));
    }

-- no id is issued, and the sizes keep the ceilings
pub asked_still : (d : Drawing) → T (sound_drawing d) → (c : Command) → Passed (sheet_of d) c → new_cells (sheet_of d) c ≡ 0
    → sizes_fit (sizes_after (sheet_of d) c) ≡ true → Asked d c 0
asked_still d w c p n f =
    record {
      passed = p;
      says = sym (ap₂ (λ (a b : Bool). cond a (cond b 0 8) 7)
          (ap (λ (i : ℕ). leb i ids_end) (the_sum (sheet_of d).next n) ∙ true_of (leb (sheet_of d).next ids_end) (sound_in d w).in_ids) f);
    }
  where
    the_sum : (a : ℕ) {b : ℕ} → b ≡ 0 → a + b ≡ a
    the_sum a e = omega arith

module _ (d : Drawing) (z : Sizes d) (w : T (sound_drawing d)) (c : Command) (r : ℕ) (a : Asked d c r) where
  seven_eight : first_no (of_result (result (sheet_of d) c)) ≡ r
  seven_eight =
      ap₂ (λ (x y : Bool). cond x (cond y 0 8) 7) (ap (λ (n : ℕ). leb n ids_end) (next_after (sheet_of d) c))
      (sizes_after_lem (sheet_of d) (sound_in d w) c (asked_six (sheet_of d) c a.passed))
      ∙ sym a.says

  pub answer : asked3 (sheet_of d) c ≡ answered (sheet_of d) (result (sheet_of d) c) r
  answer = passed_asked (sheet_of d) c a.passed ∙ ap (answered (sheet_of d) (result (sheet_of d) c)) seven_eight

  pub refuses : (r ≡ 0 → ⊥) → (q : Answer) → q ≡ refusal d r → Answers d c q
  refuses nz q e = answers_no d (sound_fits d w) c r q e (answer ∙ answered_no (sheet_of d) (result (sheet_of d) c) r nz)

  -- ---- a yes
  module _ (y : r ≡ 0) where
    yes : T (leb (result (sheet_of d) c).next ids_end) × T (ceilings (result (sheet_of d) c).cells)
    yes = both_yes (leb (result (sheet_of d) c).next ids_end) (ceilings (result (sheet_of d) c).cells) (seven_eight ∙ y)

    pub ids_hold : T (leb (result (sheet_of d) c).next ids_end)
    ids_hold = yes.0

    pub sizes_hold_lem : T (ceilings (result (sheet_of d) c).cells)
    sizes_hold_lem = yes.1

    -- room for the result
    pub room : (p : ℕ → Bool) (f : ℕ → Figure → Figure) (new : List Figure) → result (sheet_of d) c ≡ rebuild p f new (sheet_of d)
        → RoomIn (remade p f (sheet_of d)) new
    room p f new e =
        room_rebuilt p f new (sheet_of d)
        (subst (λ (s : Sheet). T (leb s.next ids_end)) e ids_hold)
        (subst (λ (s : Sheet). T (ceilings s.cells)) e sizes_hold_lem)

    -- and for the cycles and the steps that come before others go
    pub spare : (more less : Totals) → change_of (sheet_of d) c ≡ more_less (sizes_by more) (sizes_by less)
        → (cycle_total d + more.cycles ≤ 512 + less.cycles) × (step_total d + more.steps ≤ 2048 + less.steps)
    unfolding sizes_after
    spare more less e =
        let z1 = changed_by (sizes_of (sheet_of d).cells) (more_less (sizes_by more) (sizes_by less)) in
        let t = subst T (ap (λ (k : Change). sizes_fit (changed_by (sizes_of (sheet_of d).cells) k)) e) fit in
        let p = both (leb z1.cells cells_most) (leb z1.cycles cycles_most && (leb z1.steps steps_most && leb z1.bends bends_most)) t in
        let q = both (leb z1.cycles cycles_most) (leb z1.steps steps_most && leb z1.bends bends_most) p.1 in
        let v = both (leb z1.steps steps_most) (leb z1.bends bends_most) q.1 in
        let hc = leb→le z1.cycles cycles_most q.0 in
        let hs = leb→le z1.steps steps_most v.0 in
        let oc = over_cycles (sheet_of d).cells in
        let os = over_steps (sheet_of d).cells in
        let ct = cycle_total_lem d (sheet_of d).cells (stands d z (sound_fits d w)) in
        let cs = step_total_lem d (sheet_of d).cells (stands d z (sound_fits d w)) in
        (omega arith, omega arith)
      where
        fit : T (sizes_fit (sizes_after (sheet_of d) c))
        fit = (both_yes (leb ((sheet_of d).next + new_cells (sheet_of d) c) ids_end) (sizes_fit (sizes_after (sheet_of d) c)) (sym a.says ∙ y)).1

    -- the result stands in memory
    module _ (out : Drawing) (zo : Sizes out) (go : Fits out) (m : sheet_of out ≡ result (sheet_of d) c) where
      cells_before : d.count ≡ length (sheet_of d).cells
      cells_before = count_is d (sheet_of d).cells (stands d z (sound_fits d w)) z (sound_fits d w).cells

      cells_after : out.count ≡ length (sheet_of out).cells
      cells_after = count_is out (sheet_of out).cells (stands out zo go) zo go.cells

      removed_is : length (removed_from (sheet_of d) (sheet_of out)) + out.count ≡ d.count + (out.next - d.next)
      unfolding sheet_of
      removed_is =
          let r = removed_rebuilt (sheet_of d) (sound_in d w) (sheet_of out) (subst (Rebuilt (sheet_of d)) (sym m) (result_rebuilt (sheet_of d) c)) in
          omega (arith, cells_before, cells_after)

      next_is : out.next ≡ d.next + new_cells (sheet_of d) c
      unfolding sheet_of
      next_is = ap (λ (s : Sheet). s.next) m ∙ next_after (sheet_of d) c

      pub counts_done : Counts d.next d.count out
      counts_done =
          let n = next_is in
          let r = removed_is in
          let l = chosen_le (λ (x : LiveCell). not (is_live (cell_at (sheet_of out) x.id))) (sheet_of d).cells in
          let b = cells_before in
          let h = (sound_fits d w).cells in
          let k = go.cells in
          record { rose = omega arith; few = h; issued = omega arith; balance = omega arith }

      pub answers : (q : Answer) → q ≡ outcome d.next d.count out → Answers d c q
      unfolding sheet_of
      answers q e =
          record {
            said =
                ap said_by e
                ∙ ap₂ (λ (n k : ℕ). record {
                  number = 0;
                  first = cond (eqb
                      (out.next - d.next) 0) 0 d.next;
                  new = out.next - d.next;
                  removed = n + (out.next - d.next) - k;
                  sheet = sheet_of out;
                })
                cells_before cells_after
                ∙ sym (done_counts (sheet_of d) (sound_in d w) c (sheet_of out) m)
                ∙ sym (answer ∙ ap (answered (sheet_of d) (result (sheet_of d) c)) y);
            back = λ w. absurd (w (ap (λ (a : Answer). a.number) e));
            fits = subst Fits (sym (ap (λ (a : Answer). a.drawing) e)) go;
          }
