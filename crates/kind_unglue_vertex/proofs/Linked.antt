-- What the search for links and groups asks of sound arrays. Assumes nothing.
use Prim.Native.Nat.{ℕ, ◌*◌, ◌≤◌}
use native.Mathlib.Omega.{arith}
use mathlib.Core.Path.{◌≡◌, sym, ap, ◌∙◌}
use mathlib.Core.Bool.{Bool}
use mathlib.Core.List.{List}
use lib.ListN.{length, take}
use Rattle.store.specs.View.{width_sum}
use Rattle.answer.specs.declared.Totals.{Totals}
use Rattle.store.specs.declared.Index.{Index}
use Rattle.rows_ends.specs.Ends.{EndMarks}
use Rattle.rows_links.specs.Links.{IdRows}
use Rattle.ask_unglue.specs.Places.{Fresh}
use Rattle.lent.specs.Arrays.{Arrays}
use Rattle.lent.specs.Replies.{Ready}
use Rattle.lent.proofs.Sums.{ready_fits, ready_looks, ready_cycles, ready_steps}
use Rattle.kind_unglue_vertex.specs.Parts.{Linkable}

module _ (a : Arrays) (t : Totals) (r : Ready a t) where
  pub linked_rows : IdRows a.ids a.count
  linked_rows = record { few = (ready_fits a t r).cells; size = r.long.ids; rising = (ready_looks a t r).rising }

  pub linked_cycles : t.cycles ≤ length a.cycles
  linked_cycles = omega (arith, ready_cycles a t r, (ready_fits a t r).cycles, r.long.cycles)

  pub linked_steps : width_sum (take t.cycles a.cycles) ≡ t.steps
  linked_steps = ap (λ (m : ℕ). width_sum (take m a.cycles)) (ready_cycles a t r) ∙ sym (ready_steps a t r)

  pub few_steps_lem : t.steps ≤ 2048
  few_steps_lem = omega (arith, ready_steps a t r, (ready_fits a t r).steps)

  pub few_places : a.count * 2 ≤ 512
  few_places = omega (arith, (ready_fits a t r).cells)

-- marks in what was fresh, and room for s links
pub linkable : (ix : Index) (v n : ℕ) {at₀ at : List Bool} {G : List ℕ} → Fresh at₀ G → length at ≡ length at₀
    → EndMarks ix.kinds ix.starts ix.ends v n at → (s : ℕ) (xs ys : List ℕ) → s ≤ length xs → s ≤ length ys → Linkable ix v n at G s xs ys
linkable ix v n f e m s xs ys hx hy =
    record { size = e ∙ f.marks; marks = m; numbers = f.numbers; unnumbered = f.unnumbered; lefts = hx; rights = hy }
