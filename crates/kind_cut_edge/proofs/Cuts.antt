-- 0A of an edge, open or closed: the arrays hold the drawing with the edge cut. Assumes nothing.
use Prim.Native.Nat.{ℕ, ◌+◌, ◌-◌, ◌/◌, ◌%◌, ◌<◌, ◌≤◌}
use native.Mathlib.Omega.{arith}
use mathlib.Core.Path.{◌≡◌, sym, ap, ◌∙◌, subst}
use mathlib.Core.Bool.{Bool, true, false, false≢true}
use mathlib.Core.List.{List}
use lib.Dec.{T}
use Rattle.complex.specs.Decode.{cut_edge}
use Rattle.answer.proofs.Asked.{next_in_lem}
use Rattle.rows_steps.specs.declared.Swap.{Swap}
use Rattle.lent.specs.Arrays.{Arrays, held_by, sound_arrays, Lengths}
use Rattle.lent.specs.declared.Line.{Line}
use Rattle.lent.specs.Replies.{Obeyed}
use Rattle.lent.specs.Growing.{with_vertex, with_open}
use Rattle.lent.proofs.Replies.{drawing_of}
use Rattle.kernel_swap.specs.Swaps.{SwappedIn}
use Rattle.kernel_swap.proofs.Lent.{with_pools}
use Rattle.kernel_drop.specs.Gone.{EdgeRow, RowGone}
use Rattle.kind_cut_plan.specs.declared.Plan.{Plan}
use Rattle.kind_cut_plan.specs.Plans.{Goes}
use Rattle.kind_cut_parts.specs.declared.Parts.{Parts}
use Rattle.kind_cut_parts.specs.Parting.{parts_of, parted}
use Rattle.kind_cut_edge.proofs.Parting.{SwapAsks}
use Rattle.kind_cut_edge.proofs.OpenCuts as opens
use Rattle.kind_cut_edge.proofs.RingCuts as rings

-- b are a with the steps swapped for those of the parts p, and without the edge's row
pub record Gone (a : Arrays) (r : Plan) (p : Parts) (cy st : List ℕ) (b : Arrays) : Type 0 where
  pub swapped : SwappedIn p.swap a (with_pools a cy st)
  pub gone : RowGone (with_pools a cy st) r.row r.base r.m r.bends p.i p.j b
  pub same : b.next ≡ a.next

module _ (a : Arrays) (l : Lengths a) (w : T (sound_arrays a)) (e q : ℕ) (r : Plan) where
  abbrev parts : Bool → Parts
  parts o = parts_of o a.next e r.s r.m q

  -- what parts_of asks
  pub parts_asks : (o : Bool) → Goes o a e q r
      → (a.next ≤ 65536) × ((e < 65536) × ((r.m ≤ 2048) × ((o ≡ true → q / 2 + q % 2 ≤ r.m) × (o ≡ false → q / 2 < r.m))))
  parts_asks true g =
      let place = opens.place_in a l w e q r g in
      (next_in_lem (held_by a) (drawing_of a w), (opens.edge_in_lem a l w e q r g, (omega (arith, g.cuts.range), (λ z. place, λ z. absurd (false≢true (sym z))))))
  parts_asks false g =
      let place = rings.place_in a l w e q r g in
      (next_in_lem (held_by a) (drawing_of a w), (rings.edge_in_lem a l w e q r g, (omega (arith, g.cuts.range), (λ z. absurd (false≢true z), λ z. place))))

  swaps : (o : Bool) → Goes o a e q r → (t : Swap) → t ≡ (parts o).swap → SwapAsks a r.cycles r.steps r.uses t
  swaps true g = opens.swap_asks a l w e q r g
  swaps false g = rings.swap_asks a l w e q r g

  ordered : (o : Bool) → Goes o a e q r → ((parts o).i ≤ (parts o).j) × ((parts o).j ≤ r.m)
  ordered true g = (omega arith, opens.place_in a l w e q r g)
  ordered false g = (omega arith, omega (arith, rings.place_in a l w e q r g))

  row : (o : Bool) → Goes o a e q r → EdgeRow a r.row r.base r.m r.bends
  row true g = g.row
  row false g = g.row

  fits : (o : Bool) → Goes o a e q r → (cy st : List ℕ) (b : Arrays) → Gone a r (parts o) cy st b
      → (b.count + 1 < 256) × ((a.next + 1 < 65536) × (o ≡ true → (b.count + 2 < 256) × (a.next + 2 < 65536)))
  fits true g cy st b k =
      let h = opens.parts_fit a l w e q r g cy st k.swapped b k.same k.gone in
      (omega (arith, h.0), (omega (arith, h.1), λ z. h))
  fits false g cy st b k =
      let h = rings.loop_fits a l w e q r g cy st k.swapped b k.same k.gone in
      (h.0, (h.1, λ z. absurd (false≢true z)))

  obeyed : (o : Bool) → Goes o a e q r → (cy st : List ℕ) (b : Arrays) → Gone a r (parts o) cy st b
      → (z : Arrays) → z ≡ parted o b r.p (parts o).start r.f (parts o).first (parts o).second
      → (k : Line) → k ≡ record { number = 0; first = a.next; new = (parts o).new; removed = a.count - b.count } → Obeyed a (cut_edge e q) z k
  obeyed true g cy st b k z ez =
      opens.obeyed_cut a l w e q r g cy st k.swapped b k.same k.gone z
      (ez ∙ ap (λ (n : ℕ). with_open (with_open (with_vertex b r.p) r.s n (q / 2)) n r.f (r.m - (q / 2 + q % 2))) k.same)
  obeyed false g cy st b k z ez =
      rings.obeyed_cut a l w e q r g cy st k.swapped b k.same k.gone z
      (ez ∙ ap (λ (n : ℕ). with_open (with_vertex b r.p) a.next n (r.m - q % 2)) k.same)

-- ---- the edge is cut into the parts p
pub record Parting (a : Arrays) (e q : ℕ) (r : Plan) (p : Parts) : Type 0 where
  pub long : Lengths a
  pub sound : T (sound_arrays a)
  pub goes : Goes r.two a e q r
  pub parts : p ≡ parts_of r.two a.next e r.s r.m q

module _ (a : Arrays) (e q : ℕ) (r : Plan) (p : Parts) (c : Parting a e q r p) where
  pub swap_asks : SwapAsks a r.cycles r.steps r.uses p.swap
  swap_asks = swaps a c.long c.sound e q r r.two c.goes p.swap (ap (λ (v : Parts). v.swap) c.parts)

  pub order : (p.i ≤ p.j) × (p.j ≤ r.m)
  order = subst (λ (v : Parts). (v.i ≤ v.j) × (v.j ≤ r.m)) (sym c.parts) (ordered a c.long c.sound e q r r.two c.goes)

  module _ (cy st : List ℕ) where
    pub mid_row : EdgeRow (with_pools a cy st) r.row r.base r.m r.bends
    mid_row =
        let k = row a c.long c.sound e q r r.two c.goes in
        record { below = k.below; from = k.from; own = k.own; none = k.none; all = k.all }

    module _ (b : Arrays) (k : Gone a r p cy st b) where
      gone : Gone a r (parts_of r.two a.next e r.s r.m q) cy st b
      gone = subst (λ (v : Parts). Gone a r v cy st b) c.parts k

      pub parts_fit : (b.count + 1 < 256) × ((b.next + 1 < 65536) × (r.two ≡ true → (b.count + 2 < 256) × (b.next + 2 < 65536)))
      parts_fit =
          subst (λ (n : ℕ). (b.count + 1 < 256) × ((n + 1 < 65536) × (r.two ≡ true → (b.count + 2 < 256) × (n + 2 < 65536)))) (sym k.same)
          (fits a c.long c.sound e q r r.two c.goes cy st b gone)

      pub obeyed_cut : (z : Arrays) → z ≡ parted r.two b r.p p.start r.f p.first p.second
          → (u : Line) → u ≡ record { number = 0; first = a.next; new = p.new; removed = a.count - b.count } → Obeyed a (cut_edge e q) z u
      obeyed_cut z ez u eu =
          obeyed a c.long c.sound e q r r.two c.goes cy st b gone z
          (ez ∙ ap (λ (v : Parts). parted r.two b r.p v.start r.f v.first v.second) c.parts) u
          (eu ∙ ap (λ (v : Parts). record { number = 0; first = a.next; new = v.new; removed = a.count - b.count }) c.parts)
