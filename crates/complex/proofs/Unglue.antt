-- 09 at an edge: soundness and shift. Assumes nothing.
use Prim.Native.Nat.{ℕ, zero, suc, ◌+◌, ◌-◌, ◌*◌, ◌≤◌, ◌<◌}
use native.Mathlib.Omega.{arith}
use mathlib.Core.Path.{◌≡◌, refl, sym, ap, ◌∙◌, subst}
use mathlib.Core.Logic.{◌⊎◌, inl, inr}
use mathlib.Core.Bool.{Bool, true, false, not, ◌&&◌, ◌||◌, cond, true≢false}
use mathlib.Core.List.{List, [], ◌∷◌, ◌++◌, map}
use mathlib.Core.Option.{Option, none, some}
use lib.ListN.{length, get_or, replicate, length-replicate}
use lib.Dec.{T, eqb, ltb, leb, eqb→eq, ltb→lt, leb→le}
use borrow.Author.Tests.{eq-eqb, ne_eqb, eqb-true, eqb-false, le-ltb}
use Rattle.number.specs.Readers.{spread}
use Rattle.coordinate.specs.declared.Position.{Position}
use Rattle.coordinate.specs.Bounds.{within}
use Rattle.complex.specs.Lists.{all, any, filter, cons_if, total, rising, one}
use Rattle.complex.specs.Cells.{Halfedge, Cycle, lone, path, Figure, vertex, open_edge, closed_edge, face, LiveCell, Sheet, Look, some_if, lookup, ids}
use Rattle.complex.specs.Cells.{is_vertex, is_open, is_closed, is_edge, start_of, end_of, cycles_of, steps_of, same, tail_of, head_of, cell_at}
use Rattle.complex.specs.Sound.{Walk, ids_end, cycle_ok, figure_ok, ceilings, joins, over}
use Rattle.complex.specs.Decode.{Command, unglue}
use Rattle.complex.specs.Edits.{keep_ids, reshape, numbered, rebuild, every_id, rewired_cycle, same_vertex, in_place_of}
use Rattle.complex.specs.Uses.{edge_use, step_use, ring_use, uses_by, earlier, counting, on_uses}
use Rattle.complex.specs.Unglue.{copy_of, copies, new_steps, new_path, new_ring, parts, ungluing, unglued}
use Rattle.complex.specs.Commands.{question4, question6, result}
use Rattle.complex.proofs.Gains.{gain, loss, Shift, shift}
use Rattle.complex.proofs.Bools.{truth, true_of, either, both, pair, cases}
use Rattle.complex.proofs.Lookup.{lookup_keep}
use Rattle.complex.proofs.Walks.{Round, Ring, joins_cases, round_joins, ring_joins}
use Rattle.complex.proofs.Keep.{Sound, Look', rebuild_sound, same_eq, same_refl, ring_carried, spread_one, Keeps, tail_kept, head_kept, walk_kept}
use Rattle.complex.proofs.Keep.{joins_kept, cycle_kept, shape_kept}
use Rattle.complex.proofs.Passes.{Passes}
use Rattle.complex.proofs.Adds.{Alike, alike_same, alike_rebuild, stays_at, new_at}
use Rattle.complex.proofs.Split.{apart}
use Rattle.complex.proofs.Sums.{total_copies}
use Rattle.complex.proofs.Euler.{over_keep, over_all, Balanced}

-- ---- sums
pub over_at : (g : Figure → ℕ) (cs : List LiveCell) (i : ℕ) (t : Figure) → lookup cs i ≡ some t → g t ≤ over g cs
over_at g [] i t e = absurd (let z : ◌≡◌ {A = ℕ} 0 1 = cc in omega arith)
over_at g (c ∷ cs) i t e = go (eqb c.id i) e (λ q. over_at g cs i t q)
  where
    go : (y : Bool) → some_if y c.figure (lookup cs i) ≡ some t → (lookup cs i ≡ some t → g t ≤ over g cs) → g t ≤ g c.figure + over g cs
    go true e k = let w : c.figure ≡ t = cc in rw (← w) (omega arith)
    go false e k = let h = k e in omega arith

-- the uses before a cell and in it are among all
pub uses_within : (g : Figure → ℕ) (cs : List LiveCell) (i : ℕ) (t : Figure) → lookup cs i ≡ some t → over g (earlier i cs) + g t ≤ over g cs
uses_within g cs i t e =
    let a = over_keep g (λ (j : ℕ). ltb j i) cs in
    let b = over_at g (keep_ids (λ (j : ℕ). not (ltb j i)) cs) i t (lookup_keep (λ (j : ℕ). not (ltb j i)) cs i ∙ rw (le-ltb i i (omega arith)) e) in
    omega arith

-- ---- copies
pub lookup_copies : (m n k : ℕ) (t : Figure) → k < n → lookup (numbered m (replicate n t)) (m + k) ≡ some t
lookup_copies m zero k t h = absurd (omega arith)
lookup_copies m (suc n) zero t h = rw (eq-eqb m (m + 0) (omega arith))
lookup_copies m (suc n) (suc k) t h =
    rw (ne_eqb m (m + suc k) (λ e. omega arith))
    (subst (λ (j : ℕ). lookup (numbered (suc m) (replicate n t)) j ≡ some t) (omega arith) (lookup_copies (suc m) n k t (omega arith)))

module _ (uses : Cycle → ℕ) (f : ℕ → Cycle → Cycle) where
  pub length_counting : (n : ℕ) (ks : List Cycle) → length (counting uses f n ks) ≡ length ks
  length_counting n [] = refl
  length_counting n (k ∷ ks) = ap suc (length_counting (n + uses k) ks)

  pub total_counting : (g : Cycle → ℕ) → ((n : ℕ) (k : Cycle) → g (f n k) ≡ g k) → (n : ℕ) (ks : List Cycle) → total g (counting uses f n ks) ≡ total g ks
  total_counting g h n [] = refl
  total_counting g h n (k ∷ ks) = let a = h n k in let b = total_counting g h (n + uses k) ks in omega arith

  -- each cycle in order afterwards, where the uses stay within N
  pub counting_ok : (look look' : Look) (N : ℕ) → ((n : ℕ) (k : Cycle) → n + uses k ≤ N → T (cycle_ok look k) → T (cycle_ok look' (f n k)))
      → (n : ℕ) (ks : List Cycle) → n + total uses ks ≤ N → T (all (cycle_ok look) ks) → T (all (cycle_ok look') (counting uses f n ks))
  counting_ok look look' N h n [] l t = tt
  counting_ok look look' N h n (k ∷ ks) l t =
      let b = both (cycle_ok look k) (all (cycle_ok look) ks) t in
      pair (cycle_ok look' (f n k)) (all (cycle_ok look') (counting uses f (n + uses k) ks)) (h n k (omega arith) b.0)
      (counting_ok look look' N h (n + uses k) ks (omega arith) b.1)

  -- a drawing whose edge or vertex t at i is copied N - 1 times, and whose cycles are renamed by f
  module _ (s : Sheet) (S : Sound s) (i : ℕ) (t : Figure) (at : cell_at s i ≡ some t) where
    abbrev N : ℕ
    N = uses_by uses s.cells

    abbrev new : List Figure
    new = replicate (N - 1) t

    abbrev lookᵘ : Look
    lookᵘ = Look' every_id (on_uses uses f 0 s.cells) new s

    alike_uses : (j : ℕ) (u : Figure) → Alike (some u) (some (on_uses uses f 0 s.cells j u))
    alike_uses j (vertex p) = tt
    alike_uses j (open_edge a b bs) = (tt, refl, refl)
    alike_uses j (closed_edge bs) = tt
    alike_uses j (face ks) = tt

    pub uses_keep : Keeps (cell_at s) lookᵘ
    uses_keep = alike_rebuild every_id (on_uses uses f 0 s.cells) new s (λ j u e. (tt, alike_uses j u))

    pub copy_at : (on_uses uses f 0 s.cells i t ≡ t) → (n : ℕ) → n < N → lookᵘ (copy_of i s.next n) ≡ some t
    copy_at z zero l = stays_at every_id (on_uses uses f 0 s.cells) new s i t tt at ∙ ap some z
    copy_at z (suc k) l = new_at every_id (on_uses uses f 0 s.cells) new s S (s.next + k) (omega arith) ∙ lookup_copies s.next (N - 1) k t (omega arith)

    pub uses_sound : ((n : ℕ) (k : Cycle) → n + uses k ≤ N → T (cycle_ok (cell_at s) k) → T (cycle_ok lookᵘ (f n k)))
        → T (leb (rebuild every_id (on_uses uses f 0 s.cells) new s).next ids_end) → T (ceilings (rebuild every_id (on_uses uses f 0 s.cells) new s).cells)
        → Sound (rebuild every_id (on_uses uses f 0 s.cells) new s)
    uses_sound h seven eight =
        rebuild_sound every_id (on_uses uses f 0 s.cells) new s S seven eight (λ j u k e. old j u e (S.figures j u e))
        (news (N - 1) (shape_kept (cell_at s) lookᵘ uses_keep t (S.figures i t at)))
      where
        old : (j : ℕ) (u : Figure) → cell_at s j ≡ some u → T (figure_ok (cell_at s) u) → T (figure_ok lookᵘ (on_uses uses f 0 s.cells j u))
        old j (vertex p) e o = o
        old j (open_edge a b bs) e o = shape_kept (cell_at s) lookᵘ uses_keep (open_edge a b bs) o
        old j (closed_edge bs) e o = o
        old j (face ks) e o =
            let w = uses_within (λ (x : Figure). total uses (cycles_of (some x))) s.cells j (face ks) e in
            counting_ok (cell_at s) lookᵘ N h (0 + uses_by uses (earlier j s.cells)) ks (omega arith) o

        news : (n : ℕ) → T (figure_ok lookᵘ t) → T (all (figure_ok lookᵘ) (replicate n t))
        news zero o = tt
        news (suc n) o = pair (figure_ok lookᵘ t) (all (figure_ok lookᵘ) (replicate n t)) o (news n o)

    -- sums that only the faces' cycles can change
    pub uses_over : (g : Figure → ℕ) → ((n : ℕ) (ks : List Cycle) → g (face (counting uses f n ks)) ≡ g (face ks))
        → over g (rebuild every_id (on_uses uses f 0 s.cells) new s).cells ≡ over g s.cells + (N - 1) * g t
    uses_over g h = over_all g (on_uses uses f 0 s.cells) same new s ∙ ap (λ (k : ℕ). over g s.cells + k) (total_copies g (N - 1) t)
      where
        same : (j : ℕ) (u : Figure) → g (on_uses uses f 0 s.cells j u) ≡ g u
        same j (vertex p) = refl
        same j (open_edge a b bs) = refl
        same j (closed_edge bs) = refl
        same j (face ks) = h (0 + uses_by uses (earlier j s.cells)) ks

-- ---- an open edge: every step
module _ (s : Sheet) (S : Sound s) (e a b : ℕ) (bs : List Position) (at : cell_at s e ≡ some (open_edge a b bs)) where
  abbrev uᵒ : Cycle → ℕ
  uᵒ = step_use e

  abbrev fᵒ : ℕ → Cycle → Cycle
  fᵒ = new_path e s.next

  abbrev lookᵒ : Look
  lookᵒ = lookᵘ uᵒ fᵒ s S e (open_edge a b bs) at

  abbrev Nᵒ : ℕ
  Nᵒ = uses_by uᵒ s.cells

  kᵒ : Keeps (cell_at s) lookᵒ
  kᵒ = uses_keep uᵒ fᵒ s S e (open_edge a b bs) at

  -- a step of e, and of its copy
  copy_step : (h : Halfedge) (c : ℕ) → h.edge ≡ e → lookᵒ c ≡ some (open_edge a b bs)
      → T (is_open (lookᵒ c)) × (tail_of (cell_at s) h ≡ cond h.backward (end_of (lookᵒ c)) (start_of (lookᵒ c)))
      × (head_of (cell_at s) h ≡ cond h.backward (start_of (lookᵒ c)) (end_of (lookᵒ c)))
  copy_step h c z q =
      let d : cell_at s h.edge ≡ lookᵒ c = ap (cell_at s) z ∙ at ∙ sym q in
      (rw q tt, ap (λ (x : Option Figure). cond h.backward (end_of x) (start_of x)) d, ap (λ (x : Option Figure). cond h.backward (start_of x) (end_of x)) d)

  walk_copied : (n u : ℕ) (hs : List Halfedge) (w : ℕ) → n + total (edge_use e) hs ≤ Nᵒ → Walk (cell_at s) u hs w → Walk lookᵒ u (new_steps e s.next n hs) w
  walk_copied n u [] w l k = k
  walk_copied n u (h ∷ hs) w l k = go (eqb e h.edge) refl l (λ m. walk_copied m (head_of (cell_at s) h) hs w)
    where
      go : (x : Bool) → eqb e h.edge ≡ x → n + (cond x 1 0 + total (edge_use e) hs) ≤ Nᵒ
          → ((m : ℕ) → m + total (edge_use e) hs ≤ Nᵒ → Walk (cell_at s) (head_of (cell_at s) h) hs w
          → Walk lookᵒ (head_of (cell_at s) h) (new_steps e s.next m hs) w)
          → Walk lookᵒ u (record { edge = cond x (copy_of e s.next n) h.edge; backward = h.backward } ∷ new_steps e s.next (n + cond x 1 0) hs) w
      go true q l r =
          let c = copy_step h (copy_of e s.next n) (sym (eqb-true e h.edge q)) (copy_at uᵒ fᵒ s S e (open_edge a b bs) at refl n (omega arith)) in
          (c.0, k.1 ∙ c.1, subst (λ (v : ℕ). Walk lookᵒ v (new_steps e s.next (n + 1) hs) w) c.2 (r (n + 1) (omega arith) k.2))
      go false q l r =
          let o : T (is_open (cell_at s h.edge)) = k.0 in (
            kᵒ.opens h.edge o,
            k.1 ∙ tail_kept (cell_at s) lookᵒ kᵒ h o,
            subst (λ (v : ℕ). Walk lookᵒ v (new_steps e s.next (n + 0) hs) w) (head_kept (cell_at s) lookᵒ kᵒ h o) (r (n + 0) (omega arith) k.2),
          )

  -- another edge's ring stays
  ring_stays : (n : ℕ) (h : Halfedge) (hs : List Halfedge) → eqb e h.edge ≡ false → T (all (same h) hs) → new_steps e s.next n hs ≡ hs
  ring_stays n h [] q t = refl
  ring_stays n h (k ∷ hs) q t =
      let b = both (same h k) (all (same h) hs) t in
      let z : eqb e k.edge ≡ false = ap (λ (x : Halfedge). eqb e x.edge) (sym (same_eq h k b.0)) ∙ q in
      rw z (ap (λ (ks : List Halfedge). k ∷ ks) (ring_stays (n + 0) h hs q b.1))

  cycle_copied : (n : ℕ) (k : Cycle) → n + step_use e k ≤ Nᵒ → T (cycle_ok (cell_at s) k) → T (cycle_ok lookᵒ (new_path e s.next n k))
  cycle_copied n (lone v) l t = kᵒ.vertices v t
  cycle_copied n (path []) l t = t
  cycle_copied n (path (h ∷ hs)) l t = elim (joins_cases (cell_at s) (h ∷ hs) t) [
    | inl w ↦ round_joins lookᵒ (new_steps e s.next n (h ∷ hs)) tt (w.1.0, walk_copied n w.1.0 (h ∷ hs) w.1.0 l w.1.1)
    | inr g ↦ ringed g (eqb e h.edge) refl
  ]
    where
      ringed : Ring (cell_at s) (h ∷ hs) → (x : Bool) → eqb e h.edge ≡ x → T (joins lookᵒ (new_steps e s.next n (h ∷ hs)))
      ringed g true q = absurd (apart (cell_at s h.edge) g.0 (rw (← eqb-true e h.edge q, at) tt))
      ringed g false q = rw (q, ring_stays (n + 0) h hs q g.1) (joins_kept (cell_at s) lookᵒ kᵒ (h ∷ hs) t)

  pub open_unglued : T (leb (rebuild every_id (on_uses uᵒ fᵒ 0 s.cells) (replicate (Nᵒ - 1) (open_edge a b bs)) s).next ids_end)
      → T (ceilings (rebuild every_id (on_uses uᵒ fᵒ 0 s.cells) (replicate (Nᵒ - 1) (open_edge a b bs)) s).cells)
      → Sound (rebuild every_id (on_uses uᵒ fᵒ 0 s.cells) (replicate (Nᵒ - 1) (open_edge a b bs)) s)
  open_unglued seven eight = uses_sound uᵒ fᵒ s S e (open_edge a b bs) at cycle_copied seven eight

-- ---- a closed edge: every cycle
module _ (s : Sheet) (S : Sound s) (e : ℕ) (bs : List Position) (at : cell_at s e ≡ some (closed_edge bs)) where
  abbrev uᶜ : Cycle → ℕ
  uᶜ = ring_use e

  abbrev fᶜ : ℕ → Cycle → Cycle
  fᶜ = new_ring e s.next

  abbrev lookᶜ : Look
  lookᶜ = lookᵘ uᶜ fᶜ s S e (closed_edge bs) at

  abbrev Nᶜ : ℕ
  Nᶜ = uses_by uᶜ s.cells

  kᶜ : Keeps (cell_at s) lookᶜ
  kᶜ = uses_keep uᶜ fᶜ s S e (closed_edge bs) at

  -- where e is not used, nothing changes
  unused : (c : ℕ) (hs : List Halfedge) → any (λ (h : Halfedge). eqb e h.edge) hs ≡ false → spread (in_place_of e c false) hs ≡ hs
  unused c [] q = refl
  unused c (h ∷ hs) q = go (eqb e h.edge) q (λ z. unused c hs z)
    where
      go : (x : Bool) → (x || any (λ (k : Halfedge). eqb e k.edge) hs) ≡ false
          → (any (λ (k : Halfedge). eqb e k.edge) hs ≡ false → spread (in_place_of e c false) hs ≡ hs)
          → cond x (record { edge = c; backward = h.backward }) h ∷ spread (in_place_of e c false) hs ≡ h ∷ hs
      go true z r = absurd (true≢false z)
      go false z r = ap (λ (ks : List Halfedge). h ∷ ks) (r z)

  open_unused : (u : ℕ) (hs : List Halfedge) (w : ℕ) → Walk (cell_at s) u hs w → any (λ (h : Halfedge). eqb e h.edge) hs ≡ false
  open_unused u [] w k = refl
  open_unused u (h ∷ hs) w k =
      let n : eqb e h.edge ≡ false = ne_eqb e h.edge (λ z. apart (cell_at s h.edge) (rw (← z, at) tt) k.0) in
      rw n (open_unused (head_of (cell_at s) h) hs w k.2)

  cycle_ringed : (n : ℕ) (k : Cycle) → n + ring_use e k ≤ Nᶜ → T (cycle_ok (cell_at s) k) → T (cycle_ok lookᶜ (new_ring e s.next n k))
  cycle_ringed n (lone v) l t = kᶜ.vertices v t
  cycle_ringed n (path []) l t = t
  cycle_ringed n (path (h ∷ hs)) l t = elim (joins_cases (cell_at s) (h ∷ hs) t) [
    | inl w ↦ subst (λ (ks : List Halfedge). T (joins lookᶜ ks))
        (sym (unused (copy_of e s.next n) (h ∷ hs) (open_unused w.1.0 (h ∷ hs) w.1.0 w.1.1))) (joins_kept (cell_at s) lookᶜ kᶜ (h ∷ hs) t)
    | inr g ↦ ringed g (eqb e h.edge) refl
  ]
    where
      ringed : Ring (cell_at s) (h ∷ hs) → (x : Bool) → eqb e h.edge ≡ x → T (joins lookᶜ (spread (in_place_of e (copy_of e s.next n) false) (h ∷ hs)))
      ringed g true q =
          let m : n < Nᶜ = (let z : n + cond (eqb e h.edge || any (λ (k : Halfedge). eqb e k.edge) hs) 1 0 ≤ Nᶜ = l in let y : n + 1 ≤ Nᶜ = (rw q at z) in
          omega arith) in
          ring_carried (cell_at s) lookᶜ (in_place_of e (copy_of e s.next n) false) h hs (record { edge = copy_of e s.next n; backward = h.backward }) (rw q)
          (rw (copy_at uᶜ fᶜ s S e (closed_edge bs) at refl n m) tt) g.1
      ringed g false q = ring_carried (cell_at s) lookᶜ (in_place_of e (copy_of e s.next n) false) h hs h (rw q) (kᶜ.closeds h.edge g.0) g.1

  pub closed_unglued : T (leb (rebuild every_id (on_uses uᶜ fᶜ 0 s.cells) (replicate (Nᶜ - 1) (closed_edge bs)) s).next ids_end)
      → T (ceilings (rebuild every_id (on_uses uᶜ fᶜ 0 s.cells) (replicate (Nᶜ - 1) (closed_edge bs)) s).cells)
      → Sound (rebuild every_id (on_uses uᶜ fᶜ 0 s.cells) (replicate (Nᶜ - 1) (closed_edge bs)) s)
  closed_unglued seven eight = uses_sound uᶜ fᶜ s S e (closed_edge bs) at cycle_ringed seven eight

-- ---- the command, at an edge
pub as_part : (i : ℕ) (s : Sheet) (o : Option Figure) → cell_at s i ≡ o
    → result s (unglue i) ≡ rebuild every_id (ungluing s i o) (copies (parts s.cells i o) o) s
unfolding result unglued
as_part i s o z = ap (λ (x : Option Figure). rebuild every_id (ungluing s i x) (copies (parts s.cells i x) x) s) z

module _ (i : ℕ) (s : Sheet) (S : Sound s) (p : Passes s (unglue i)) where
  pub unglue_open_sound : (a b : ℕ) (bs : List Position) → cell_at s i ≡ some (open_edge a b bs) → Sound (result s (unglue i))
  unglue_open_sound a b bs z = let r = as_part i s (some (open_edge a b bs)) z in rw r (open_unglued s S i a b bs z (rw r at p.seven) (rw r at p.eight))

  pub unglue_closed_sound : (bs : List Position) → cell_at s i ≡ some (closed_edge bs) → Sound (result s (unglue i))
  unglue_closed_sound bs z = let r = as_part i s (some (closed_edge bs)) z in rw r (closed_unglued s S i bs z (rw r at p.seven) (rw r at p.eight))

  pub unglue_open_balanced : (a b : ℕ) (bs : List Position) → cell_at s i ≡ some (open_edge a b bs) → Balanced s (unglue i)
  unglue_open_balanced a b bs z =
      let r = as_part i s (some (open_edge a b bs)) z in
      let x = uses_over (step_use i) (new_path i s.next) s S i (open_edge a b bs) z gain (λ n ks. refl) in
      let y = uses_over (step_use i) (new_path i s.next) s S i (open_edge a b bs) z loss (length_counting (step_use i) (new_path i s.next)) in
      rw (r, z) (omega arith)

  pub unglue_closed_balanced : (bs : List Position) → cell_at s i ≡ some (closed_edge bs) → Balanced s (unglue i)
  unglue_closed_balanced bs z =
      let r = as_part i s (some (closed_edge bs)) z in
      let x = uses_over (ring_use i) (new_ring i s.next) s S i (closed_edge bs) z gain (λ n ks. refl) in
      let y = uses_over (ring_use i) (new_ring i s.next) s S i (closed_edge bs) z loss (length_counting (ring_use i) (new_ring i s.next)) in
      rw (r, z) (omega arith)
