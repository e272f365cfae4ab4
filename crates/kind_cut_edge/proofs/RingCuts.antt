-- 0A of a closed edge: the arrays hold the drawing with the edge cut. Assumes nothing.
use Prim.Native.Nat.{ℕ, ◌+◌, ◌-◌, ◌/◌, ◌%◌, ◌<◌, ◌≤◌}
use native.Mathlib.Omega.{arith}
use mathlib.Core.Path.{◌≡◌, refl, sym, ap, ap₂, ◌∙◌, subst}
use mathlib.Core.Bool.{false}
use mathlib.Core.List.{List, [], ◌++◌}
use lib.Dec.{T}
use lib.ListN.{length, take}
use Rattle.coordinate.specs.declared.Position.{Position}
use Rattle.complex.specs.Edits.{rewired, same_vertex, others, in_place_of}
use Rattle.complex.specs.Decode.{cut_edge}
use Rattle.complex.specs.Commands.{result}
use Rattle.store.specs.View.{sheet_of}
use Rattle.sound.proofs.Meaning.{sound_fits}
use Rattle.rows_new.specs.Runs.{run_at, runs_of}
use Rattle.rows_new.specs.Appends.{remade}
use Rattle.rows_new.proofs.RunLists.{run_take}
use Rattle.rows_steps.specs.Swap.{one_for}
use Rattle.rows_steps.specs.declared.Swap.{Swap}
use Rattle.rows_steps.proofs.Swaps.{one_for_lem}
use Rattle.ask_cut_edge.specs.Cuts.{closed_runs}
use Rattle.ask_cut_edge.proofs.Closed.{half_below, edge_small, loop_room, loop_made}
use Rattle.lent.specs.Arrays.{Arrays, positions_in, held_by, sound_arrays, Lengths}
use Rattle.lent.specs.declared.Line.{Line}
use Rattle.lent.specs.Replies.{Obeyed}
use Rattle.lent.specs.Growing.{with_vertex, with_open}
use Rattle.lent.proofs.Held.{held_sizes}
use Rattle.lent.proofs.Replies.{drawing_of}
use Rattle.kernel_swap.specs.Swaps.{SwappedIn}
use Rattle.kernel_swap.proofs.Lent.{with_pools}
use Rattle.kernel_swap.proofs.Asking.{one_asks}
use Rattle.kernel_bends.specs.Turned.{moved_last}
use Rattle.kernel_bends.proofs.Last.{run_add, twice_second, twice_last}
use Rattle.kernel_drop.specs.Gone.{RowGone}
use Rattle.kind_cut_plan.specs.declared.Plan.{Plan}
use Rattle.kind_cut_plan.specs.RingPlans.{RingGoes}
use Rattle.kind_cut_edge.proofs.Parting as part
use Rattle.kind_cut_edge.proofs.Parting.{SwapAsks, Parted, cut_obeyed}

module _ (a : Arrays) (l : Lengths a) (w : T (sound_arrays a)) (e q : ℕ) (r : Plan) (g : RingGoes a e q r) where
  pub place_in : q / 2 < r.m
  place_in = half_below (held_by a) (held_sizes a l) e r.row r.base r.m q g.cuts g.closed

  -- what the swap asks
  pub edge_in_lem : e < 65536
  edge_in_lem = edge_small (held_by a) (held_sizes a l) e r.row r.base r.m q g.cuts g.closed

  pub swap_asks : (t : Swap) → t ≡ one_for e (a.next + 1) false → SwapAsks a r.cycles r.steps r.uses t
  swap_asks t et =
      subst (λ (u : ℕ). SwapAsks a r.cycles r.steps u t) (sym g.uses)
      (one_asks a e (a.next + 1) false t et r.cycles r.steps l (sound_fits (held_by a) (drawing_of a w)) g.cycles g.steps)

  module _ (cy st : List ℕ) (sw : SwappedIn (one_for e (a.next + 1) false) a (with_pools a cy st)) where
    module _ (b : Arrays) (en : b.next ≡ a.next) (gone : RowGone (with_pools a cy st) r.row r.base r.m r.bends 0 (q / 2 + 1) b) where
      -- the loop's bends
      abbrev round : List Position
      round = runs_of (held_by a).bends (closed_runs r.p r.base r.m q)

      abbrev moved : List Position
      moved = moved_last r.base r.m 0 (q / 2 + 1) r.bends (held_by a).bends

      in_place : q / 2 + 1 ≤ r.m
      in_place = omega (arith, place_in)

      left : sheet_of (held_by b) ≡ remade (others e) (rewired same_vertex (in_place_of e (a.next + 1) false)) (sheet_of (held_by a))
      left = part.left a l w e q r g.cuts g.row _ cy st sw 0 (q / 2 + 1) (omega arith) in_place b gone _ (one_for_lem e (a.next + 1) false)

      below : r.base + r.m ≤ r.bends
      below = part.below a l w e q r g.cuts g.row

      most : r.bends ≤ 2048
      most = part.most a l w e q r g.cuts g.row

      all_bends : length (held_by a).bends ≡ 2048
      all_bends = (held_sizes a l).bends

      -- those after the place
      onward : run_at (r.bends - r.m) (r.m - (q / 2 + 1)) moved ≡ run_at (r.base + (q / 2 + 1)) (r.m - (q / 2 + 1)) (held_by a).bends
      onward =
          let n : r.bends - r.m ≡ r.bends - r.m + 0 = omega arith in
          ap (λ (k : ℕ). run_at k (r.m - (q / 2 + 1)) moved) n
          ∙ twice_second r.base r.m 0 (q / 2 + 1) r.bends (held_by a).bends (omega arith) (omega (arith, place_in)) below
          (omega (arith, most, all_bends))

      -- those before it
      back : run_at (r.bends - r.m + (r.m - (q / 2 + 1))) (q / 2 + (1 - q % 2)) moved ≡ run_at r.base (q / 2 + (1 - q % 2)) (held_by a).bends
      back =
          let n : r.bends - r.m + (r.m - (q / 2 + 1)) ≡ r.bends - r.m + 0 + (r.m - (q / 2 + 1)) = omega arith in
          let k : q / 2 + 1 ≡ q / 2 + 1 - 0 = omega arith in
          let o : r.base + 0 ≡ r.base = omega arith in
          run_take (r.bends - r.m + (r.m - (q / 2 + 1))) (q / 2 + 1) (q / 2 + (1 - q % 2)) moved (omega arith)
          ∙ ap (take (q / 2 + (1 - q % 2)))
          (ap₂ (λ (u v : ℕ). run_at u v moved) n k
          ∙ twice_last r.base r.m 0 (q / 2 + 1) r.bends (held_by a).bends (omega arith) (omega (arith, place_in)) below
          (omega (arith, most, all_bends))
          ∙ ap₂ (λ (u v : ℕ). run_at u v (held_by a).bends) o (sym k))
          ∙ sym (run_take r.base (q / 2 + 1) (q / 2 + (1 - q % 2)) (held_by a).bends (omega arith))

      round_are : run_at (r.bends - r.m) (r.m - q % 2) (positions_in b.bx b.by) ≡ round
      round_are =
          let n : r.m - q % 2 ≡ r.m - (q / 2 + 1) + (q / 2 + (1 - q % 2)) = omega (arith, place_in) in
          ap₂ (λ (k : ℕ) (y : List Position). run_at (r.bends - r.m) k y) n
          (part.bends_are a l w e q r g.cuts g.row _ cy st sw 0 (q / 2 + 1) (omega arith) in_place b gone)
          ∙ run_add (r.bends - r.m) (r.m - (q / 2 + 1)) (q / 2 + (1 - q % 2)) moved
          ∙ ap₂ ◌++◌ onward back

      -- the vertex and the loop
      abbrev b2 : Arrays
      b2 = with_open (with_vertex b r.p) a.next a.next (r.m - q % 2)

      looped : Parted b r.p a.next a.next round [] (r.bends - r.m + (r.m - q % 2)) b2
      looped =
          part.parted a l w e q r g.cuts g.row _ cy st sw 0 (q / 2 + 1) (omega arith) in_place b gone a.next (r.m - q % 2) round []
          (loop_room (held_by a) (held_sizes a l) e r.row r.base r.m q g.cuts g.closed r.p g.placed (closed_runs r.p r.base r.m q)
          refl (sheet_of (held_by b)) left)
          round_are (omega (arith, below, most))

      -- what put_parts asks
      pub loop_fits : (b.count + 1 < 256) × (a.next + 1 < 65536)
      loop_fits = (looped.cells, omega (arith, looped.ids, en))

      made : sheet_of (held_by b2) ≡ result (sheet_of (held_by a)) (cut_edge e q)
      made =
          looped.sheet
          ∙ loop_made (held_by a) (held_sizes a l) e r.row r.base r.m q g.cuts g.closed r.p g.placed (closed_runs r.p r.base r.m q)
          refl (sheet_of (held_by b)) left

      pub obeyed_cut : (o : Arrays) → o ≡ with_open (with_vertex b r.p) a.next a.next (r.m - q % 2)
          → (k : Line) → k ≡ record { number = 0; first = a.next; new = 2; removed = a.count - b.count } → Obeyed a (cut_edge e q) o k
      obeyed_cut =
          cut_obeyed a l w e q g.asked b2 looped.long looped.fits made looped.rows b.count 2 (omega arith) (omega (arith, en)) (omega arith)
