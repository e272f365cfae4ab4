-- What a change does to the Euler number: over naturals, and one law that carries it to the integers. Assumes nothing.
use Prim.Native.Nat.{ℕ, zero, suc, ◌+◌, ◌-◌, ◌≤◌}
use native.Mathlib.Omega.{arith}
use mathlib.Core.Path.{◌≡◌, refl, sym, ap, ◌∙◌, subst}
use mathlib.Core.Logic.{◌⊎◌, inl, inr}
use mathlib.Core.Bool.{Bool, true, false, not, ◌&&◌, cond}
use mathlib.Core.List.{List, [], ◌∷◌, ◌++◌, map}
use mathlib.Core.Option.{Option, none, some}
use lib.ListN.{length, get_or, set, length-append, length-set, length-map}
use lib.IntN.{ℤ, pos, negsuc, sub_ℕ, ◌+ℤ◌}
use lib.Dec.{T, eqb, ltb, ltb→lt}
use borrow.Author.Tests.{eq-eqb, ne_eqb, eqb-true, eqb-false, ltb-true, ltb-false, lt-ltb, le-ltb}
use Rattle.coordinate.specs.declared.Position.{Position}
use Rattle.complex.specs.Lists.{all, cons_if, filter, total, holds, rising, places, one, without, chosen}
use Rattle.complex.specs.Cells.{Halfedge, Cycle, lone, path, Figure, vertex, open_edge, closed_edge, face, LiveCell, Sheet, Look, some_if, lookup, ids}
use Rattle.complex.specs.Cells.{is_vertex, is_open, is_closed, is_face, cycles_of, steps_of, along, against, cell_at}
use Rattle.complex.specs.Sound.{over}
use Rattle.complex.specs.Euler.{euler}
use Rattle.complex.specs.Decode.{Command, create, move, delete, cut_face_open}
use Rattle.complex.specs.Edits.{keep_ids, reshape, numbered, rebuild, every_id, as_it_is, replaced, others}
use Rattle.complex.specs.Delete.{goes, deleted, going}
use Rattle.complex.specs.Cut.{no_cycle, corner, stretch, remainder, split_in_two, face_cut_along, corner_exists}
use Rattle.complex.specs.Commands.{question4, question5, result, share}
use Rattle.complex.proofs.Gains.{gain, loss, shift, sub_equal, sub_add, euler_sub, share_sub}
use Rattle.complex.proofs.Bools.{truth, true_of, both}
use Rattle.complex.proofs.Lookup.{lookup_upto, lookup_keep, rising_filter, kept_all}
use Rattle.complex.proofs.Keep.{Sound}
use Rattle.complex.proofs.Passes.{Passes}
use Rattle.complex.proofs.Split.{is_face_lem}
use Rattle.complex.proofs.Sums.{total_by, length_left}

-- ---- sums over cells
module _ (g : Figure → ℕ) where
  pub over_append : (cs ds : List LiveCell) → over g (cs ++ ds) ≡ over g cs + over g ds
  over_append [] ds = omega arith
  over_append (c ∷ cs) ds = let h = over_append cs ds in omega arith

  pub over_new : (n : ℕ) (new : List Figure) → over g (numbered n new) ≡ total g new
  over_new n [] = refl
  over_new n (t ∷ ts) = ap (λ (k : ℕ). g t + k) (over_new (suc n) ts)

  pub over_keep : (p : ℕ → Bool) (cs : List LiveCell) → over g (keep_ids (λ (i : ℕ). not (p i)) cs) + over g (keep_ids p cs) ≡ over g cs
  over_keep p [] = refl
  over_keep p (c ∷ cs) = go (p c.id) (over_keep p cs)
    where
      go : (b : Bool) → over g (keep_ids (λ (i : ℕ). not (p i)) cs) + over g (keep_ids p cs) ≡ over g cs
          → over g (cons_if (not b) c (keep_ids (λ (i : ℕ). not (p i)) cs)) + over g (cons_if b c (keep_ids p cs)) ≡ g c.figure + over g cs
      go true h = omega arith
      go false h = omega arith

  -- each figure changed, which takes d from its part of the sum and adds h to it
  pub over_reshaped : (d h : Figure → ℕ) (f : ℕ → Figure → Figure) → ((i : ℕ) (t : Figure) → g (f i t) + d t ≡ g t + h t) → (cs : List LiveCell)
      → over g (reshape f cs) + over d cs ≡ over g cs + over h cs
  over_reshaped d h f e cs = total_by (λ (c : LiveCell). record { id = c.id; figure = f c.id c.figure }) (λ (c : LiveCell). g c.figure)
      (λ (c : LiveCell). g c.figure) (λ (c : LiveCell). d c.figure) (λ (c : LiveCell). h c.figure) (λ c. e c.id c.figure) cs

  pub over_reshape : (f : ℕ → Figure → Figure) → ((i : ℕ) (t : Figure) → g (f i t) ≡ g t) → (cs : List LiveCell) → over g (reshape f cs) ≡ over g cs
  over_reshape f h cs = let a = over_reshaped g g f (λ i t. ap (λ (k : ℕ). k + g t) (h i t)) cs in omega arith

  -- the cell of an id, and the others
  over_none : (i : ℕ) (t : Figure) (lo : ℕ) (cs : List LiveCell) (hi : ℕ) → T (rising lo (ids cs) hi) → i ≤ lo → over g (reshape (replaced i t) cs) ≡ over g cs
  over_none i t lo [] hi r h = refl
  over_none i t lo (c ∷ cs) hi r h =
      let b = both (ltb lo c.id) (rising c.id (ids cs) hi) r in
      let l = ltb→lt lo c.id b.0 in
      let k = over_none i t c.id cs hi b.1 (omega arith) in
      rw (ne_eqb i c.id (λ e. omega arith), k)

  pub over_replaced : (i : ℕ) (t u : Figure) (lo : ℕ) (cs : List LiveCell) (hi : ℕ) → T (rising lo (ids cs) hi) → lookup cs i ≡ some u
      → over g (reshape (replaced i t) cs) + g u ≡ over g cs + g t
  over_replaced i t u lo [] hi r e = absurd (let z : ◌≡◌ {A = ℕ} 0 1 = cc in omega arith)
  over_replaced i t u lo (c ∷ cs) hi r e =
      let b = both (ltb lo c.id) (rising c.id (ids cs) hi) r in
      go (eqb c.id i) refl b.1 (λ q. over_replaced i t u c.id cs hi b.1 q) e
    where
      go : (y : Bool) → eqb c.id i ≡ y → T (rising c.id (ids cs) hi) → (lookup cs i ≡ some u → over g (reshape (replaced i t) cs) + g u ≡ over g cs + g t)
          → some_if y c.figure (lookup cs i) ≡ some u → g (replaced i t c.id c.figure) + over g (reshape (replaced i t) cs) + g u ≡ g c.figure
          + over g cs + g t
      go true q r k e =
          let w : c.figure ≡ u = cc in
          let n : c.id ≡ i = eqb-true c.id i q in
          let o = over_none i t c.id cs hi r (omega arith) in
          rw (eq-eqb i c.id (sym n), o, w) (omega arith)
      go false q r k e =
          let h = k e in
          rw (ne_eqb i c.id (λ z. eqb-false c.id i q (sym z))) (omega arith)

-- ---- the shift of a command, over naturals
abbrev pub Balanced : Sheet → Command → Type 0
Balanced s c = over gain (result s c).cells + over loss s.cells + (shift s c).down ≡ over gain s.cells + over loss (result s c).cells + (shift s c).up

pub balanced_euler : (s : Sheet) (c : Command) → Balanced s c → euler (result s c).cells ≡ euler s.cells +ℤ share s c
balanced_euler s c h =
    let up = (shift s c).up in
    let down = (shift s c).down in
    euler_sub (result s c).cells
    ∙ sub_equal (over gain (result s c).cells) (over loss (result s c).cells) (over gain s.cells + up) (over loss s.cells + down) (omega arith)
    ∙ sym (sub_add (over gain s.cells) (over loss s.cells) up down)
    ∙ ap (λ (z : ℤ). z +ℤ sub_ℕ up down) (sym (euler_sub s.cells))
    ∙ ap (λ (z : ℤ). euler s.cells +ℤ z) (sym (share_sub s c))

-- the sums after a change
pub over_rebuild : (g : Figure → ℕ) (p : ℕ → Bool) (f : ℕ → Figure → Figure) (new : List Figure) (s : Sheet)
    → over g (rebuild p f new s).cells ≡ over g (reshape f (keep_ids p s.cells)) + total g new
over_rebuild g p f new s = over_append g (reshape f (keep_ids p s.cells)) (numbered s.next new)
    ∙ ap (λ (k : ℕ). over g (reshape f (keep_ids p s.cells)) + k) (over_new g s.next new)

-- a change that leaves each figure's part of the sum as it was
pub over_kept : (g : Figure → ℕ) (f : ℕ → Figure → Figure) → ((i : ℕ) (t : Figure) → g (f i t) ≡ g t) → (p : ℕ → Bool) (new : List Figure) (s : Sheet)
    → over g (rebuild p f new s).cells ≡ over g (keep_ids p s.cells) + total g new
over_kept g f h p new s = over_rebuild g p f new s ∙ ap (λ (k : ℕ). k + total g new) (over_reshape g f h (keep_ids p s.cells))

pub over_all : (g : Figure → ℕ) (f : ℕ → Figure → Figure) → ((i : ℕ) (t : Figure) → g (f i t) ≡ g t) → (new : List Figure) (s : Sheet)
    → over g (rebuild every_id f new s).cells ≡ over g s.cells + total g new
over_all g f h new s = over_kept g f h every_id new s ∙ ap (λ (cs : List LiveCell). over g cs + total g new) (kept_all s.cells)

pub over_added : (g : Figure → ℕ) (new : List Figure) (s : Sheet) → over g (rebuild every_id as_it_is new s).cells ≡ over g s.cells + total g new
over_added g new s = over_all g as_it_is (λ i t. refl) new s

-- one cell becomes t, where it is kept
pub over_put : (g : Figure → ℕ) (p : ℕ → Bool) (i : ℕ) (t u : Figure) (new : List Figure) (s : Sheet) → Sound s → T (p i) → lookup s.cells i ≡ some u
    → over g (rebuild p (replaced i t) new s).cells + g u ≡ over g (keep_ids p s.cells) + g t + total g new
over_put g p i t u new s S k e =
    let a = over_rebuild g p (replaced i t) new s in
    let b = over_replaced g i t u 0 (keep_ids p s.cells) s.next (rising_filter (λ (c : LiveCell). p c.id) 0 s.cells s.next S.rises)
    (lookup_keep p s.cells i ∙ rw (true_of (p i) k) e) in
    omega arith

pub over_changed : (g : Figure → ℕ) (i : ℕ) (t u : Figure) (new : List Figure) (s : Sheet) → Sound s → lookup s.cells i ≡ some u
    → over g (rebuild every_id (replaced i t) new s).cells + g u ≡ over g s.cells + g t + total g new
over_changed g i t u new s S e =
    let a = over_put g every_id i t u new s S tt e in
    let b = ap (over g) (kept_all s.cells) in
    omega arith

-- ---- 01 to 04
pub create_balanced : (s : Sheet) (x : Figure) → Balanced s (create x)
unfolding result
create_balanced s x = let a = over_added gain (one x) s in let b = over_added loss (one x) s in omega arith

-- ---- 06
pub delete_balanced : (s : Sheet) (i : ℕ) → Balanced s (delete i)
unfolding result deleted
delete_balanced s i =
    let p = goes s i in
    let n : ℕ → Bool = λ (j : ℕ). not (p j) in
    let a = over_rebuild gain n as_it_is [] s in
    let b = over_rebuild loss n as_it_is [] s in
    let c = over_reshape gain as_it_is (λ j t. refl) (keep_ids n s.cells) in
    let d = over_reshape loss as_it_is (λ j t. refl) (keep_ids n s.cells) in
    let e = over_keep gain p s.cells in
    let f = over_keep loss p s.cells in
    omega arith

-- ---- 0C with c1 = c2
pub split_balanced : (f c s1 s2 : ℕ) (bs : List Position) (ms : List ℕ) (s : Sheet) → Sound s
    → Passes s (cut_face_open f c s1 c s2 bs ms) → Balanced s (cut_face_open f c s1 c s2 bs ms)
unfolding question4 question5 result face_cut_along
split_balanced f c s1 s2 bs ms s S q =
    let E : eqb c c ≡ true = eq-eqb c c refl in
    let a = both (ltb c (length ks)) _ q.five in
    let b = both (ltb c (length ks)) _ a.1 in
    let d = both (corner_exists (cell_at s) (get_or ks c no_cycle) s1) _ b.1 in
    let g = both (corner_exists (cell_at s) (get_or ks c no_cycle) s2) _ d.1 in
    let h : T (places 0 ms (length ks) && not (holds c ms)) = rw E at g.1 in
    let m = both (places 0 ms (length ks)) (not (holds c ms)) h in
    rw E (go m.0)
  where
    ks : List Cycle
    ks = cycles_of (cell_at s f)

    go : T (places 0 ms (length ks))
        → over gain (split_in_two s f c s1 s2 bs ms ks).cells + over loss s.cells + 0 ≡ over gain s.cells
        + over loss (split_in_two s f c s1 s2 bs ms ks).cells + 0
    go p =
        let k = get_or ks c no_cycle in
        let x = set ks c (path (stretch s1 s2 (steps_of k) ++ one (against s.next))) in
        let t = face (without ms 0 x) in
        let new = open_edge (corner (cell_at s) k s1) (corner (cell_at s) k s2) bs
        ∷ face (path (remainder s1 s2 (steps_of k) ++ one (along s.next)) ∷ chosen no_cycle ms ks) ∷ [] in
        let e = is_face_lem s f q.four in
        let u = over_changed gain f t (face ks) new s S e in
        let v = over_changed loss f t (face ks) new s S e in
        let l : length x ≡ length ks = length-set ks c _ in
        let n = length_left no_cycle ms x (subst (λ (z : ℕ). T (places 0 ms z)) (sym l) p) in
        let r : length (chosen no_cycle ms ks) ≡ length ms = length-map ms _ in
        omega arith
