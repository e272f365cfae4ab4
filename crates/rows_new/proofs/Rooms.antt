-- Room for cells, from what questions 7 and 8 ask. Assumes nothing.
use Prim.Native.Nat.{ℕ, suc, ◌+◌, ◌*◌, ◌<◌, ◌≤◌}
use mathlib.Core.Path.{◌≡◌, refl, ap, subst, ◌∙◌}
use mathlib.Core.Bool.{Bool, false, ◌&&◌}
use mathlib.Core.List.{List, [], ◌∷◌, ◌++◌}
use mathlib.Core.Option.{some}
use native.Mathlib.Omega.{arith}
use lib.Dec.{T, leb}
use lib.ListN.{length, replicate, length-append, length-replicate}
use borrow.Author.Tests.{leb-true}
use Rattle.complex.specs.Cells.{Figure, LiveCell, Sheet, is_face}
use Rattle.complex.specs.Edits.{numbered, rebuild}
use Rattle.complex.specs.Sound.{ids_end, cells_most, cycles_most, steps_most, bends_most, over, ceilings}
use Rattle.complex.specs.Sound as sizes
use Rattle.complex.proofs.Bools.{true_of, both}
use Rattle.store.specs.declared.Drawing.{Drawing}
use Rattle.store.specs.Sizes.{Sizes}
use Rattle.store.specs.View.{sheet_of, Fits}
use Rattle.store.specs.Places.{figure_bends}
use Rattle.store.specs.Edits.{appended}
use Rattle.store.proofs.Lists.{sum_append}
use Rattle.store.proofs.Ceilings.{figure_sizes}
pub use Rattle.store.proofs.Ceilings.{over_cycles, over_steps, over_bends}
use Rattle.store.proofs.Stands.{stands, cycle_total_lem, bend_total_lem, step_total_lem, count_is}
use Rattle.store.proofs.Grow.{next_is}
use Rattle.rows_new.specs.Appends.{appended_all, remade, RoomIn, CellRoom, figure_at}
use Rattle.rows_new.specs.Requirements.{CopiesRoom}
use Rattle.rows_new.proofs.Appended.{appended_next}
use Rattle.rows_new.proofs.CopyLists.{repeated_length, copy_bends}

-- ---- the ceilings, number by number
pub record Below (cs : List LiveCell) : Type 0 where
  pub cells : length cs ≤ cells_most
  pub cycles : over sizes.cycles_in cs ≤ cycles_most
  pub steps : over sizes.steps_in cs ≤ steps_most
  pub bends : over sizes.bends_in cs ≤ bends_most

at_most : (a b : ℕ) → T (leb a b) → a ≤ b
at_most a b h = leb-true a b (true_of (leb a b) h)

pub below : (cs : List LiveCell) → T (ceilings cs) → Below cs
below cs h =
    let k = leb (over sizes.cycles_in cs) cycles_most in
    let t = leb (over sizes.steps_in cs) steps_most in
    let e = leb (over sizes.bends_in cs) bends_most in
    let a = both (leb (length cs) cells_most) (k && (t && e)) h in
    let b = both k (t && e) a.1 in
    let c = both t e b.1 in
    record {
      cells = at_most (length cs) cells_most a.0;
      cycles = at_most (over sizes.cycles_in cs) cycles_most b.0;
      steps = at_most (over sizes.steps_in cs) steps_most c.0;
      bends = at_most (over sizes.bends_in cs) bends_most c.1;
    }

numbered_length : (i : ℕ) (xs : List Figure) → length (numbered i xs) ≡ length xs
numbered_length i [] = refl
numbered_length i (x ∷ xs) = ap suc (numbered_length (suc i) xs)

-- ---- room
-- questions 7 and 8 of a result that is rebuilt
pub room_rebuilt : (p : ℕ → Bool) (f : ℕ → Figure → Figure) (new : List Figure) (s : Sheet) → T (leb (rebuild p f new s).next ids_end)
    → T (ceilings (rebuild p f new s).cells)
    → RoomIn (remade p f s) new
room_rebuilt p f new s h g = record { ids = h; sizes = g }

-- after the first cell there is room for the others
pub room_next : (x : Figure) (xs : List Figure) (s : Sheet) → RoomIn s (x ∷ xs) → RoomIn (appended s x) xs
room_next x xs s r =
    record {
      ids = subst (λ (t : Sheet). T (leb t.next ids_end)) (appended_next x xs s) r.ids;
      sizes = subst (λ (t : Sheet). T (ceilings t.cells)) (appended_next x xs s) r.sizes;
    }

-- and there is room for the first
pub room_first : (d : Drawing) → Sizes d → Fits d → (x : Figure) (xs : List Figure) → RoomIn (sheet_of d) (x ∷ xs) → CellRoom d x
room_first d z f x xs r =
    let s = sheet_of d in
    let cs = s.cells in
    let new = numbered s.next (x ∷ xs) in
    let w = stands d z f in
    let b = below (cs ++ new) r.sizes in
    let n = next_is d in
    let i = at_most (appended_all (x ∷ xs) s).next ids_end r.ids in
    let k = count_is d cs w z f.cells in
    let ct = cycle_total_lem d cs w in
    let st = step_total_lem d cs w in
    let bt = bend_total_lem d cs w in
    let oc = over_cycles cs in
    let os = over_steps cs in
    let ob = over_bends cs in
    let fc = (figure_sizes x).0 in
    let fs = (figure_sizes x).1 in
    let fb = (figure_sizes x).2 in
    let hc = sum_append (λ (c : LiveCell). sizes.cycles_in c.figure) cs new in
    let hs = sum_append (λ (c : LiveCell). sizes.steps_in c.figure) cs new in
    let hb = sum_append (λ (c : LiveCell). sizes.bends_in c.figure) cs new in
    let hl = length-append cs new in
    let bl = b.cells in
    let bc = b.cycles in
    let bs = b.steps in
    let bb = b.bends in
    record {
      fits = f;
      cells = omega arith;
      ids = omega arith;
      cycles = omega arith;
      steps = omega arith;
      bends = omega arith;
    }

-- room for n copies of the cell in a row
pub room_copies : (d : Drawing) → Sizes d → Fits d → (row n : ℕ) → row < d.count → is_face (some (figure_at (sheet_of d) row)) ≡ false
    → RoomIn (sheet_of d) (replicate n (figure_at (sheet_of d) row)) → CopiesRoom d row n
room_copies d z f row n h p r =
    let s = sheet_of d in
    let cs = s.cells in
    let x = figure_at s row in
    let new = numbered s.next (replicate n x) in
    let w = stands d z f in
    let b = below (cs ++ new) r.sizes in
    let l = length-replicate n x in
    let i = at_most (appended_all (replicate n x) s).next ids_end r.ids in
    let e = next_is d in
    let k = count_is d cs w z f.cells in
    let bt = bend_total_lem d cs w in
    let ob = over_bends cs in
    let on : over sizes.bends_in new ≡ n * length (figure_bends x) = over_bends new ∙ ap length (copy_bends s.next x n) ∙ repeated_length n (figure_bends x) in
    let hb = sum_append (λ (c : LiveCell). sizes.bends_in c.figure) cs new in
    let hl = length-append cs new in
    let ln = numbered_length s.next (replicate n x) in
    let bl = b.cells in
    let bb = b.bends in
    record { fits = f; row = h; plain = p; cells = omega arith; ids = omega arith; bends = omega arith }
