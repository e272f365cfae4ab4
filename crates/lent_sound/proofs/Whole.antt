-- Question 1 of arrays is the walk over their cells, and its count that of the definitions. Assumes nothing.
use Prim.Native.Nat.{ℕ, ◌<◌, ◌≤◌}
use mathlib.Core.Path.{◌≡◌, refl, ap, ap₂, sym, ◌∙◌}
use mathlib.Core.Bool.{Bool, true, false, ◌&&◌, cond}
use native.Mathlib.Omega.{arith}
use lib.ListN.{take}
use Rattle.coordinate.specs.Bounds.{within}
use Rattle.complex.specs.Lists.{all}
use Rattle.complex.specs.Sound.{cells_most, bends_most}
use Rattle.complex.specs.Visits.{bounds_right, visits, visited}
use Rattle.complex.proofs.Bools.{both_true}
use Rattle.complex.proofs.Visits.{Below, visits_same, judged}
use Rattle.store.specs.View.{sheet_of, Fits}
use Rattle.sound.specs.Soundness.{sound_drawing}
use Rattle.sound.specs.Rows.{all_from}
use Rattle.sound.specs.Visits.{right_in, visited_in}
use Rattle.sound.proofs.Testing.{and_true}
use Rattle.sound.proofs.Visits.{struct_judged, visited_fits}
use Rattle.lent.specs.Arrays.{Arrays, position_in, held_by, normal_at, normal, sound_arrays, Lengths}
use Rattle.lent.proofs.Held.{all_at, all_intro, held_sizes}
use Rattle.lent_row.specs.Row.{places_upto, row_right}
use Rattle.lent_sound.specs.Walk.{bend_right, right_at, walk_right, walk_visits}
use Rattle.lent_sound.specs.Visits.{right_on, visited_on, ArraysFaults}
use Rattle.lent_sound.proofs.Ranges.{same_truth, first_of, places_of, capped}
use Rattle.lent_sound.proofs.Parts.{parts_of_lem, row_bends, bend_in, bends_long, bends_in_lem}
use Rattle.lent_sound.proofs.Visits.{row_same}
use Rattle.lent_sound.proofs.Cells.{bounds_few}

module _ (a : Arrays) where
  abbrev row_normal_at : ℕ → Bool
  row_normal_at = normal_at a.kinds a.starts a.ends a.bends a.counts

  abbrev in_bounds : Bool
  in_bounds = bounds_right a.next a.count

  -- rows in normal form are visited as the struct is that they hold
  pub visited_normal : normal a ≡ true → visited_on a ≡ visited_in (held_by a)
  visited_normal n =
      ap (λ (k : ℕ). cond in_bounds k 0)
      (visits_same (right_on a) (right_in (held_by a)) a.count (λ i h r. and_true _ (all_at row_normal_at a.count i h n)))

module _ (a : Arrays) (l : Lengths a) where
  -- ---- yes exactly where every row is right
  rights : sound_arrays a ≡ true → (in_bounds a ≡ true) × Below (right_on a) a.count
  rights e =
      let b = both_true (normal a) (sound_drawing (held_by a)) e in
      let r = (struct_judged (held_by a) (held_sizes a l)).yes b.1 in
      (r.0, λ i h. ap₂ ◌&&◌ (all_at (row_normal_at a) a.count i h b.0) (r.1 i h))

  enough : in_bounds a ≡ true → Below (right_on a) a.count → sound_arrays a ≡ true
  enough b r =
      ap₂ ◌&&◌ (all_intro (row_normal_at a) a.count (λ i h. (both_true (row_normal_at a i) (right_in (held_by a) i) (r i h)).0))
      ((struct_judged (held_by a) (held_sizes a l)).enough b (λ i h. (both_true (row_normal_at a i) (right_in (held_by a) i) (r i h)).1))

  -- ---- the walk
  module _ (b : in_bounds a ≡ true) where
    -- where the rows before it are right, the walk asks of a row what the definitions ask
    row_as : (i : ℕ) → i < a.count → Below (right_at true a) i → right_at true a i ≡ right_on a i
    row_as i h r = row_same a l (bounds_few a.next a.count b) i h (λ j u. (parts_of_lem a j (r j u)).row)

    row_on : Below (right_on a) a.count → (i : ℕ) → i < a.count → right_at true a i ≡ true
    row_on r i h =
        row_same a l (bounds_few a.next a.count b) i h
        (λ j u. (both_true (row_normal_at a j) (right_in (held_by a) j) (r j (omega (arith, u, h)))).0)
        ∙ r i h

  walk_of : sound_arrays a ≡ true → walk_right true a ≡ true
  walk_of e = let r = rights e in ap₂ ◌&&◌ r.0 (all_intro (right_at true a) a.count (row_on r.0 r.1))

  walk_sound : walk_right true a ≡ true → sound_arrays a ≡ true
  walk_sound e =
      let b = both_true (in_bounds a) (all_from (right_at true a) 0 a.count) e in
      let r : Below (right_at true a) a.count = λ i h. all_at (right_at true a) a.count i h b.1 in
      enough b.0 (λ i h. sym (row_as b.0 i h (λ j u. r j (omega (arith, u, h)))) ∙ r i h)

  -- the answer of the definitions is the answer of the walk
  pub sound_walk : sound_arrays a ≡ walk_right true a
  sound_walk = same_truth (sound_arrays a) (walk_right true a) walk_of walk_sound

  -- and the count of cells visited is its count
  pub visits_walk : walk_visits true a ≡ visited_on a
  visits_walk = go (in_bounds a) refl
    where
      go : (b : Bool) → in_bounds a ≡ b → cond b (visits (right_at true a) 0 a.count) 0 ≡ cond b (visits (right_on a) 0 a.count) 0
      go true e = visits_same (right_at true a) (right_on a) a.count (row_as e)
      go false e = refl

  -- and as the drawing, where the counts keep within the arrays
  pub visited_held : Fits (held_by a) → normal a ≡ true → visited_on a ≡ visited (sheet_of (held_by a))
  visited_held f n = visited_normal a n ∙ visited_fits (held_by a) (held_sizes a l) f

  -- ---- the places of the bends by themselves
  abbrev bends_in : Bool
  bends_in = all within (take (places_upto a.bends a.count) (held_by a).bends)

  -- where each row is right, so are the places of all bends
  all_bends : a.count ≤ cells_most → Below (right_at true a) a.count → bends_in ≡ true
  all_bends few r =
      let most : places_upto a.bends a.count ≤ bends_most =
      capped (places_upto a.bends) bends_most a.count (omega arith) (λ i h. (parts_of_lem a i (r i h)).bend_sum) in
      first_of within (position_in a.px a.py 0) (held_by a).bends (places_upto a.bends a.count) (omega (arith, bends_long a l, most))
      (λ j u.
      ap within (bend_in a l j (omega (arith, u, most)))
      ∙ places_of (bend_right a.bx a.by) a.bends a.count (omega (arith, l.bends, few)) (λ i h. (parts_of_lem a i (r i h)).bends) j u)

  rows_of : sound_arrays a ≡ true → (bends_in && walk_right false a) ≡ true
  rows_of e =
      let b = both_true (in_bounds a) (all_from (right_at true a) 0 a.count) (walk_of e) in
      ap₂ ◌&&◌ (all_bends (bounds_few a.next a.count b.0) (λ i h. all_at (right_at true a) a.count i h b.1))
      (ap₂ ◌&&◌ b.0 (all_intro (right_at false a) a.count (λ i h. ap₂ ◌&&◌ (both_true (row_right a i) _
      (all_at (right_at true a) a.count i h b.1)).0 refl)))

  rows_enough : (bends_in && walk_right false a) ≡ true → sound_arrays a ≡ true
  rows_enough e =
      let b = both_true bends_in (walk_right false a) e in
      let c = both_true (in_bounds a) (all_from (right_at false a) 0 a.count) b.1 in
      let few = bounds_few a.next a.count c.0 in
      let row : (i : ℕ) → i < a.count → row_right a i ≡ true = λ i h. (both_true (row_right a i) _ (all_at (right_at false a) a.count i h c.1)).0 in
      let most : places_upto a.bends a.count ≤ bends_most =
      capped (places_upto a.bends) bends_most a.count (omega arith) (λ i h. row_bends a i (row i h)) in
      walk_sound
      (ap₂ ◌&&◌ c.0 (all_intro (right_at true a) a.count (λ i h. ap₂ ◌&&◌ (row i h) (bends_in_lem a l few most b.0 i h))))

  pub sound_rows : sound_arrays a ≡ bends_in && walk_right false a
  sound_rows = same_truth (sound_arrays a) (bends_in && walk_right false a) rows_of rows_enough

pub arrays_judged : ArraysFaults
arrays_judged a l = judged (in_bounds a) (right_on a) a.count (sound_arrays a) (rights a l) (enough a l)
