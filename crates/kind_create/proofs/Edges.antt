-- A new edge: refused for its bends; or, where 3 to 6 got a yes and n is what 7 and 8 say, refused, or with room it comes. Assumes nothing.
use Prim.Native.Nat.{ℕ}
use mathlib.Core.Path.{◌≡◌, refl, sym, ◌∙◌}
use mathlib.Core.Bool.{Bool, false}
use mathlib.Core.List.{List}
use lib.Ieee.{Float}
use lib.ListN.{length}
use Rattle.coordinate.specs.declared.Position.{Position}
use Rattle.coordinate.specs.Bounds.{within}
use Rattle.complex.specs.Lists.{all}
use Rattle.complex.specs.Cells.{open_edge, closed_edge}
use Rattle.complex.specs.Decode.{Command, create}
use Rattle.complex.specs.Commands.{positions}
use Rattle.complex.proofs.Asked.{Passed, no_3, out_bends}
use Rattle.store.specs.View.{sheet_of, bend_total}
use Rattle.answer.specs.declared.Totals.{Totals}
use Rattle.answer.specs.Sizes.{sized, nothing, more_less, changed_by}
use Rattle.answer.specs.Late.{sizes_by, late_no}
use Rattle.ask_create.proofs.Create.{no_by_bends}
use Rattle.lent.specs.Arrays.{Arrays, held_by, Lengths}
use Rattle.lent.specs.declared.Line.{Line}
use Rattle.lent.specs.Growing.{with_row, with_open, with_closed}
use Rattle.lent.specs.Replies.{line_of, Ready, Obeyed}
use Rattle.lent.proofs.Grown.{open_long, open_normal, closed_long, closed_normal}
use Rattle.lent.proofs.Sums.{ready_rows, ready_bends, ready_no}
use Rattle.kernel_add.specs.Comes.{one_new, BendsPut}
use Rattle.kernel_add.proofs.Comes.{obeyed_full, came_room, obeyed_came}
use Rattle.kernel_add.proofs.Put.{with_placed, placed_long, open_grew, closed_grew}
use Rattle.kind_create.specs.Edges.{EdgeRow, open_row, closed_row, edge_by}

-- b is what `bends_within` says of the positions of q
pub bends_out : (a : Arrays) (t : Totals) → Ready a t → (q : Command) (b : Bool) → b ≡ all within (positions q) → b ≡ false → (l : Line) → l ≡ line_of 3
    → Obeyed a q a l
bends_out a t r q b e n l el = ready_no a t r q 3 l el (no_3 _ q (out_bends q (sym e ∙ n)))

module _ (a : Arrays) (t : Totals) (r : Ready a t) (bs : List Position) (k : ℕ) (lk : length bs ≡ k) (m : ℕ) (em : m ≡ k) (n : ℕ)
    (en : n ≡ late_no a.next 1 (changed_by (sizes_by t) (more_less (sized 1 0 0 m) nothing))) where
  said : n ≡ late_no a.next 1 (changed_by (sizes_by t) (more_less (sized 1 0 0 (length bs)) nothing))
  said = no_by_bends a.next t n m bs (lk ∙ sym em) en

  pub edge_full : {kind s e : ℕ} → EdgeRow kind s e → Passed (sheet_of (held_by a)) (create (edge_by kind s e bs))
      → (n ≡ 0 → ⊥) → (l : Line) → l ≡ line_of n → Obeyed a (create (edge_by kind s e bs)) a l
  edge_full (open_row {s} {e}) p = obeyed_full a t r (open_edge s e bs) p n said
  edge_full closed_row p = obeyed_full a t r (closed_edge bs) p n said

  module _ (z : n ≡ 0) where
    in_use_lem : t.bends ≡ bend_total (held_by a)
    in_use_lem = ready_bends a t r

    module _ (us vs : List Float) (b : BendsPut a.bx a.by t.bends bs k us vs) where
      abbrev placed : Arrays
      placed = with_placed a us vs

      long : Lengths (with_placed a us vs)
      long = placed_long a r.long bs k t.bends lk in_use_lem us vs b

      pub edge_obeyed : {kind s e : ℕ} → EdgeRow kind s e → Passed (sheet_of (held_by a)) (create (edge_by kind s e bs)) → (o : Arrays)
          → o ≡ with_row (with_placed a us vs) kind s e k 0 a.px a.py → (l : Line) → l ≡ one_new a.next → Obeyed a (create (edge_by kind s e bs)) o l
      edge_obeyed (open_row {s} {e}) p =
          let c = came_room a t r (open_edge s e bs) p n said z in
          obeyed_came a t r (open_edge s e bs) p n said z (with_open placed s e k) (open_long placed long s e k) refl refl
          (open_normal placed long s e k c.cells (ready_rows a t r)) (open_grew a r.long bs k t.bends lk in_use_lem us vs b s e c)
      edge_obeyed closed_row p =
          let c = came_room a t r (closed_edge bs) p n said z in
          obeyed_came a t r (closed_edge bs) p n said z (with_closed placed k) (closed_long placed long k) refl refl
          (closed_normal placed long k c.cells (ready_rows a t r)) (closed_grew a r.long bs k t.bends lk in_use_lem us vs b c)
