-- The sizes of an unglue's result before it is built: 09. Assumes nothing.
use Prim.Native.Nat.{ℕ, suc, ◌+◌, ◌-◌, ◌*◌}
use native.Mathlib.Omega.{arith}
use mathlib.Core.Path.{◌≡◌, refl, ap}
use mathlib.Core.Bool.{false}
use mathlib.Core.List.{List, [], ◌∷◌}
use mathlib.Core.Option.{Option, none, some}
use lib.ListN.{length, replicate}
use lib.Dec.{T}
use Rattle.coordinate.specs.declared.Position.{Position}
use Rattle.complex.specs.Cells.{Halfedge, Cycle, lone, path, Figure, vertex, open_edge, closed_edge, face, Sheet, is_vertex_or_edge, cell_at}
use Rattle.complex.specs.Sound.{step_count, cycles_in, steps_in, bends_in, over}
use Rattle.complex.specs.Decode.{unglue}
use Rattle.complex.specs.Edits.{rebuild, every_id, same_vertex, in_place_of}
use Rattle.complex.specs.Uses.{groups, edge_use, lone_use, step_use, ring_use, uses_by, earlier, on_uses}
use Rattle.complex.specs.Unglue.{copy_of, copies, new_steps, new_path, new_ring, new_lone, new_ends, parts, ungluing, unglued}
use Rattle.complex.specs.Commands.{question4, result}
use Rattle.answer.specs.Sizes.{sizes_of, changed_by, unglue_change, sizes_after}
use Rattle.complex.proofs.Keep.{Sound}
use Rattle.complex.proofs.Unglue.{length_counting, total_counting, uses_over}
use Rattle.complex.proofs.UnglueVertex.{ends_over}
use Rattle.answer.proofs.Sizes.{Asked6, each, shifts_sizes, steps_cycle, no_step_more}

-- ---- copies keep the steps
steps_path : (e next n : ℕ) (k : Cycle) → step_count (new_path e next n k) ≡ step_count k
steps_path e next n (lone v) = refl
steps_path e next n (path hs) = go n hs
  where
    go : (n : ℕ) (hs : List Halfedge) → length (new_steps e next n hs) ≡ length hs
    go n [] = refl
    go n (h ∷ hs) = ap suc (go (n + edge_use e h) hs)

steps_ring : (e next n : ℕ) (k : Cycle) → step_count (new_ring e next n k) ≡ step_count k
steps_ring e next n k = let a = steps_cycle same_vertex (in_place_of e (copy_of e next n) false) no_step_more no_step_more (λ h. refl) k in omega arith

steps_lone : (v next n : ℕ) (k : Cycle) → step_count (new_lone v next n k) ≡ step_count k
steps_lone v next n (lone w) = refl
steps_lone v next n (path hs) = refl

-- ---- n copies of a vertex or an edge
pub record Copied (s r : Sheet) (n : ℕ) (t : Figure) : Type 0 where
  pub cells : over each r.cells ≡ over each s.cells + n * each t
  pub cycles : over cycles_in r.cells ≡ over cycles_in s.cells + n * cycles_in t
  pub steps : over steps_in r.cells ≡ over steps_in s.cells + n * steps_in t
  pub bends : over bends_in r.cells ≡ over bends_in s.cells + n * bends_in t

copied_sizes : (s r : Sheet) (n : ℕ) (t : Figure) → T (is_vertex_or_edge (some t)) → Copied s r n t
    → sizes_of r.cells ≡ changed_by (sizes_of s.cells) (unglue_change n (some t))
copied_sizes s r n (vertex p) k c = shifts_sizes s r (unglue_change n (some (vertex p))) (omega arith)
copied_sizes s r n (open_edge a b bs) k c = shifts_sizes s r (unglue_change n (some (open_edge a b bs))) (omega arith)
copied_sizes s r n (closed_edge bs) k c = shifts_sizes s r (unglue_change n (some (closed_edge bs))) (omega arith)
copied_sizes s r n (face ks) k c = absurd k

module _ (s : Sheet) (S : Sound s) (i : ℕ) where
  edge_copied : (t : Figure) → cell_at s i ≡ some t → (uses : Cycle → ℕ) (f : ℕ → Cycle → Cycle) → ((n : ℕ) (k : Cycle) → step_count (f n k) ≡ step_count k)
      → Copied s (rebuild every_id (on_uses uses f 0 s.cells) (replicate (uses_by uses s.cells - 1) t) s) (uses_by uses s.cells - 1) t
  edge_copied t at uses f same =
      let over' = uses_over uses f s S i t at in
      record {
        cells = over' each (λ n ks. refl);
        cycles = over' cycles_in (length_counting uses f);
        steps = over' steps_in (total_counting uses f step_count
            same);
        bends = over' bends_in (λ n ks. refl);
      }

  vertex_copied : (p : Position) → cell_at s i ≡ some (vertex p)
      → Copied s (rebuild every_id (ungluing s i (some (vertex p))) (copies (parts s.cells i (some (vertex p))) (some (vertex p))) s)
      (parts s.cells i (some (vertex p)) - 1) (vertex p)
  vertex_copied p at =
      let over' = ends_over s S i p at in
      record { cells = over' each (λ j t. refl); cycles = over' cycles_in cycles; steps = over' steps_in steps; bends = over' bends_in bends }
    where
      f : ℕ → Figure → Figure
      f = new_ends i s.next (groups s.cells i) s.cells

      before : ℕ → ℕ
      before j = length (groups s.cells i) + uses_by (lone_use i) (earlier j s.cells)

      cycles : (j : ℕ) (t : Figure) → cycles_in (f j t) ≡ cycles_in t
      cycles j (vertex r) = refl
      cycles j (open_edge a b bs) = refl
      cycles j (closed_edge bs) = refl
      cycles j (face ks) = length_counting (lone_use i) (new_lone i s.next) (before j) ks

      steps : (j : ℕ) (t : Figure) → steps_in (f j t) ≡ steps_in t
      steps j (vertex r) = refl
      steps j (open_edge a b bs) = refl
      steps j (closed_edge bs) = refl
      steps j (face ks) = total_counting (lone_use i) (new_lone i s.next) step_count (steps_lone i s.next) (before j) ks

      bends : (j : ℕ) (t : Figure) → bends_in (f j t) ≡ bends_in t
      bends j (vertex r) = refl
      bends j (open_edge a b bs) = refl
      bends j (closed_edge bs) = refl
      bends j (face ks) = refl

  part_sizes : (o : Option Figure) → cell_at s i ≡ o → T (is_vertex_or_edge o)
      → sizes_of (rebuild every_id (ungluing s i o) (copies (parts s.cells i o) o) s).cells
      ≡ changed_by (sizes_of s.cells) (unglue_change (parts s.cells i o - 1) o)
  part_sizes none at k = absurd k
  part_sizes (some (vertex p)) at k = copied_sizes s _ _ (vertex p) tt (vertex_copied p at)
  part_sizes (some (open_edge a b bs)) at k = copied_sizes s _ _ (open_edge a b bs) tt
      (edge_copied (open_edge a b bs) at (step_use i) (new_path i s.next) (steps_path i s.next))
  part_sizes (some (closed_edge bs)) at k = copied_sizes s _ _ (closed_edge bs) tt
      (edge_copied (closed_edge bs) at (ring_use i) (new_ring i s.next) (steps_ring i s.next))
  part_sizes (some (face ks)) at k = absurd k

  pub unglue_sizes : Asked6 s (unglue i) → sizes_of (result s (unglue i)).cells ≡ sizes_after s (unglue i)
  unfolding question4 result unglued sizes_after
  unglue_sizes q = part_sizes (cell_at s i) refl q.1
