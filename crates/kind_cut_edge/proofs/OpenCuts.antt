-- 0A of an open edge: the arrays hold the drawing with the edge cut. Assumes nothing.
use Prim.Native.Nat.{ℕ, ◌+◌, ◌-◌, ◌/◌, ◌%◌, ◌<◌, ◌≤◌}
use native.Mathlib.Omega.{arith}
use mathlib.Core.Path.{◌≡◌, refl, sym, ap, ◌∙◌, subst}
use mathlib.Core.Bool.{true}
use mathlib.Core.List.{List, [], ◌∷◌}
use mathlib.Core.Logic.{inr}
use lib.Dec.{T}
use lib.ListN.{length}
use Rattle.number.specs.Readers.{spread}
use Rattle.coordinate.specs.declared.Position.{Position}
use Rattle.complex.specs.Cells.{Figure, open_edge, Sheet, Halfedge}
use Rattle.complex.specs.Edits.{reshape, rewired, same_vertex, others}
use Rattle.complex.specs.Cut.{in_two}
use Rattle.complex.specs.Decode.{cut_edge}
use Rattle.complex.specs.Commands.{result}
use Rattle.complex.specs.Sound.{over, steps_in}
use Rattle.store.specs.Sheet.{all_real}
use Rattle.store.specs.Places.{entry_cycles}
use Rattle.store.specs.View.{sheet_of, Fits}
use Rattle.store.specs.Edits.{appended}
use Rattle.sound.proofs.Meaning.{sound_fits}
use Rattle.rows_new.specs.Runs.{run_at, runs_of}
use Rattle.rows_new.specs.Appends.{remade, CellRoom}
use Rattle.rows_new.proofs.Rooms.{room_first}
use Rattle.rows_new.proofs.RunLists.{runs_single, run_length}
use Rattle.rows_steps.specs.Swap.{swap_half, two_for}
use Rattle.rows_steps.specs.declared.Swap.{Swap}
use Rattle.rows_steps.proofs.Merging.{real_with}
use Rattle.rows_steps.proofs.Swaps.{two_for_lem, two_some}
use Rattle.ask_cut_edge.specs.Cuts.{part_run}
use Rattle.ask_cut_edge.proofs.Opened.{place_below, edge_small, steps_room, parts_room, parts_made}
use Rattle.lent.specs.Arrays.{Arrays, positions_in, held_by, sound_arrays, Lengths}
use Rattle.lent.specs.declared.Line.{Line}
use Rattle.lent.specs.Replies.{Obeyed}
use Rattle.lent.specs.Growing.{with_vertex, with_open}
use Rattle.lent.proofs.Held.{held_sizes}
use Rattle.lent.proofs.Replies.{drawing_of}
use Rattle.lent.proofs.Grown.{open_long, open_normal, open_comes}
use Rattle.kernel_swap.specs.Swaps.{SwappedIn}
use Rattle.kernel_swap.proofs.Lent.{with_pools}
use Rattle.kernel_bends.specs.Turned.{moved_last}
use Rattle.kernel_bends.proofs.Last.{twice_first, twice_second}
use Rattle.kernel_drop.specs.Gone.{RowGone}
use Rattle.kind_cut_plan.specs.declared.Plan.{Plan}
use Rattle.kind_cut_plan.specs.OpenPlans.{OpenGoes}
use Rattle.kind_cut_edge.proofs.Parting as part
use Rattle.kind_cut_edge.proofs.Parting.{SwapAsks, Parted, cut_obeyed}

module _ (a : Arrays) (l : Lengths a) (w : T (sound_arrays a)) (e q : ℕ) (r : Plan) (g : OpenGoes a e q r) where
  pub place_in : q / 2 + q % 2 ≤ r.m
  place_in = place_below (held_by a) (held_sizes a l) e r.row r.base r.m q g.cuts r.s r.f g.ends

  -- what the swap asks
  pub edge_in_lem : e < 65536
  edge_in_lem = edge_small (held_by a) (held_sizes a l) e r.row r.base r.m q g.cuts r.s r.f g.ends

  pub swap_asks : (t : Swap) → t ≡ two_for e (a.next + 1) (a.next + 2) → SwapAsks a r.cycles r.steps r.uses t
  swap_asks t et =
      let d = held_by a in
      let z = held_sizes a l in
      let f = sound_fits d (drawing_of a w) in
      let h : swap_half t ≡ in_two e (a.next + 1) (a.next + 2) = ap swap_half et ∙ two_for_lem e (a.next + 1) (a.next + 2) in
      let n : t.n ≡ 2 = ap (λ (k : Swap). k.n) et in (
        f,
        (
          l,
          (
            g.cycles,
            (
              omega (arith, n),
              (
                subst (λ (σ : Halfedge → List Halfedge). all_real (spread entry_cycles (reshape (rewired same_vertex σ) (sheet_of d).cells)) ≡ true) (sym h)
                    (real_with d z f _ (two_some e (a.next + 1) (a.next + 2))),
                (
                  subst (λ (σ : Halfedge → List Halfedge). over steps_in (reshape (rewired same_vertex σ) (sheet_of d).cells) ≤ 2048) (sym h)
                      (steps_room d z e r.row r.base r.m q g.cuts r.s r.f g.ends r.p g.placed),
                  (
                    g.steps,
                    inr (
                      omega (arith, n),
                      subst (λ (σ : Halfedge → List Halfedge). over steps_in
                          (reshape (rewired same_vertex σ) (sheet_of d).cells) ≡ r.uses + r.steps) (sym h) g.grows,
                    ),
                  ),
                ),
              ),
            ),
          ),
        ),
      )

  module _ (cy st : List ℕ) (sw : SwappedIn (two_for e (a.next + 1) (a.next + 2)) a (with_pools a cy st)) where
    module _ (b : Arrays) (en : b.next ≡ a.next) (gone : RowGone (with_pools a cy st) r.row r.base r.m r.bends (q / 2) (q / 2 + q % 2) b) where
      abbrev bs : List Position
      bs = runs_of (held_by a).bends (part_run r.p r.base (q / 2))

      abbrev cs : List Position
      cs = runs_of (held_by a).bends (part_run r.p (r.base + (q / 2 + q % 2)) (r.m - (q / 2 + q % 2)))

      abbrev y : Figure
      y = open_edge a.next r.f cs

      abbrev moved : List Position
      moved = moved_last r.base r.m (q / 2) (q / 2 + q % 2) r.bends (held_by a).bends

      left : sheet_of (held_by b) ≡ remade (others e) (rewired same_vertex (in_two e (a.next + 1) (a.next + 2))) (sheet_of (held_by a))
      left = part.left a l w e q r g.cuts g.row _ cy st sw (q / 2) (q / 2 + q % 2) (omega arith) place_in b gone _ (two_for_lem e (a.next + 1) (a.next + 2))

      bends_are : positions_in b.bx b.by ≡ moved
      bends_are = part.bends_are a l w e q r g.cuts g.row _ cy st sw (q / 2) (q / 2 + q % 2) (omega arith) place_in b gone

      below : r.base + r.m ≤ r.bends
      below = part.below a l w e q r g.cuts g.row

      most : r.bends ≤ 2048
      most = part.most a l w e q r g.cuts g.row

      all_bends : length (held_by a).bends ≡ 2048
      all_bends = (held_sizes a l).bends

      first_are : run_at (r.bends - r.m) (q / 2) (positions_in b.bx b.by) ≡ bs
      first_are =
          ap (run_at (r.bends - r.m) (q / 2)) bends_are
          ∙ twice_first r.base r.m (q / 2) (q / 2 + q % 2) r.bends (held_by a).bends (omega arith) place_in below
          (omega (arith, most, all_bends))
          ∙ sym (runs_single (held_by a).bends (part_run r.p r.base (q / 2)) refl refl)

      second_are : run_at (r.bends - r.m + q / 2) (r.m - (q / 2 + q % 2)) (positions_in b.bx b.by) ≡ cs
      second_are =
          ap (run_at (r.bends - r.m + q / 2) (r.m - (q / 2 + q % 2))) bends_are
          ∙ twice_second r.base r.m (q / 2) (q / 2 + q % 2) r.bends (held_by a).bends (omega arith) place_in below
          (omega (arith, most, all_bends))
          ∙ sym (runs_single (held_by a).bends (part_run r.p (r.base + (q / 2 + q % 2)) (r.m - (q / 2 + q % 2))) refl refl)

      -- the vertex and the first part
      abbrev b2 : Arrays
      b2 = with_open (with_vertex b r.p) r.s a.next (q / 2)

      begun : Parted b r.p a.next r.s bs (y ∷ []) (r.bends - r.m + q / 2) b2
      begun =
          part.parted a l w e q r g.cuts g.row _ cy st sw (q / 2) (q / 2 + q % 2) (omega arith) place_in b gone r.s (q / 2) bs (y ∷ [])
          (parts_room (held_by a) (held_sizes a l) e r.row r.base r.m q g.cuts r.s r.f g.ends r.p g.placed (sheet_of (held_by b)) left)
          first_are (omega (arith, below, most, place_in))

      room3 : CellRoom (held_by b2) y
      room3 = room_first (held_by b2) (held_sizes b2 begun.long) begun.fits y [] begun.room

      -- the second part
      abbrev b3 : Arrays
      b3 = with_open b2 a.next r.f (r.m - (q / 2 + q % 2))

      b_bends : length (positions_in b.bx b.by) ≡ 2048
      b_bends = (held_sizes b gone.long).bends

      ended : (sheet_of (held_by b3) ≡ appended (sheet_of (held_by b2)) y) × Fits (held_by b3)
      ended =
          open_comes b2 begun.long a.next r.f (r.m - (q / 2 + q % 2)) cs room3
          (ap length (sym second_are) ∙ run_length (r.bends - r.m + q / 2) (r.m - (q / 2 + q % 2)) (positions_in b.bx b.by)
          (omega (arith, b_bends, below, most, place_in)))
          (ap (λ (n : ℕ). run_at n (r.m - (q / 2 + q % 2)) (positions_in b.bx b.by)) begun.used ∙ second_are)

      -- what put_parts asks
      pub parts_fit : (b.count + 2 < 256) × (a.next + 2 < 65536)
      parts_fit = (omega (arith, room3.cells), omega (arith, room3.ids, en))

      made : sheet_of (held_by b3) ≡ result (sheet_of (held_by a)) (cut_edge e q)
      made =
          ended.0 ∙ ap (λ (s : Sheet). appended s y) begun.sheet
          ∙ parts_made (held_by a) (held_sizes a l) e r.row r.base r.m q g.cuts r.s r.f g.ends r.p g.placed (sheet_of (held_by b)) left

      pub obeyed_cut : (o : Arrays) → o ≡ with_open (with_open (with_vertex b r.p) r.s a.next (q / 2)) a.next r.f (r.m - (q / 2 + q % 2))
          → (k : Line) → k ≡ record { number = 0; first = a.next; new = 3; removed = a.count - b.count } → Obeyed a (cut_edge e q) o k
      obeyed_cut =
          cut_obeyed a l w e q g.asked b3 (open_long b2 begun.long a.next r.f (r.m - (q / 2 + q % 2))) ended.1 made
          (open_normal b2 begun.long a.next r.f (r.m - (q / 2 + q % 2)) room3.cells begun.rows) b.count 3 (omega arith) (omega (arith, en))
          (omega arith)
