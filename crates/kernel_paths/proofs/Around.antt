-- The cycles of a face before and after one of them. Assumes nothing.
use Prim.Native.Nat.{ℕ, suc, ◌+◌, ◌-◌, ◌<◌, ◌≤◌}
use mathlib.Core.Path.{◌≡◌, refl, ap, ap₂, sym, subst, ◌∙◌}
use mathlib.Core.List.{List, [], ◌∷◌, ◌++◌, append_assoc}
use native.Mathlib.Omega.{arith}
use borrow.Author.Tests.{eq-eqb, ne_eqb}
use lib.ListN.{length, take, drop, set, length-drop}
use lib.Seq.{length-take-le, get_or-drop, drop-drop, set_at}
use Rattle.complex.specs.Lists.{one, without}
use Rattle.complex.specs.Cells.{Cycle}
use Rattle.store.specs.View.{width, width_sum, cycle_of, cycles_from}
use Rattle.store.proofs.Encode.{length_cycles}
use Rattle.store.proofs.Lists.{sum_append}
use Rattle.rows_spans.specs.declared.Used.{Used}
use Rattle.rows_spans.specs.Building.{Building, Built, built, RoomFor}
use Rattle.rows_spans.proofs.Building.{cycles_append, width_some, built_none}
use Rattle.rows_corners.proofs.Lists.{built_as, built_then}
use Rattle.rows_corners.proofs.Rows.{list_steps}
use Rattle.rows_corners.proofs.Splits.{front_about}
use Rattle.rows_stretches.specs.declared.Stretch.{Stretch}
use Rattle.rows_stretches.specs.declared.Place.{Place}
use Rattle.rows_stretches.specs.Paths.{path_of, PathRoom, list_at, others_at, put_at, Lies, Besides}
use Rattle.rows_stretches.proofs.Paths.{few_front, few_left}
use Rattle.rows_stretches.proofs.Lists.{few_after}
use Rattle.kernel_paths.specs.declared.Run.{Run}
use Rattle.kernel_paths.specs.declared.Sides.{Sides}
use Rattle.kernel_paths.specs.Runs.{path_run, RunRoom, Inside, sides_of, Puts}

-- ---- one element goes
module _ {A : Type 0} where
  without_past : (c n : ℕ) (xs : List A) → c < n → without (one c) n xs ≡ xs
  without_past c n [] h = refl
  without_past c n (x ∷ xs) h = rw (ne_eqb n c (λ e. omega arith)) (ap (λ (l : List A). x ∷ l) (without_past c (suc n) xs (omega arith)))

  without_at : (c n : ℕ) (xs : List A) (y : A) (ys : List A) → n + length xs ≡ c → without (one c) n (xs ++ (y ∷ ys)) ≡ xs ++ ys
  without_at c n [] y ys e = rw (eq-eqb n c (omega arith)) (without_past c (suc n) ys (omega arith))
  without_at c n (x ∷ xs) y ys e = rw (ne_eqb n c (λ q. omega arith)) (ap (λ (l : List A). x ∷ l) (without_at c (suc n) xs y ys (omega arith)))

module _ {cycles steps : List ℕ} {p : Place} (l : Lies cycles steps p) where
  abbrev numbers_of : List ℕ
  numbers_of = drop p.spans.cycles.first cycles

  abbrev left_over : ℕ
  left_over = p.spans.cycles.count - (p.cycle + 1)

  abbrev ahead : List ℕ
  ahead = take p.cycle numbers_of

  abbrev behind : List ℕ
  behind = take left_over (drop (p.spans.cycles.first + (p.cycle + 1)) cycles)

  sized : p.spans.cycles.count ≤ length numbers_of
  sized = omega (arith, length-drop p.spans.cycles.first cycles, l.within.in_cycles, l.within.cycles_size)

  numbers_about : take p.spans.cycles.count numbers_of ≡ ahead ++ (p.count ∷ behind)
  numbers_about =
      front_about numbers_of 0 p.cycle p.spans.cycles.count l.cycle sized
      ∙ ap₂ (λ (n : ℕ) (q : List ℕ). ahead ++ (n ∷ take left_over q)) (get_or-drop p.spans.cycles.first cycles p.cycle 0 ∙ l.number)
      (drop-drop (p.cycle + 1) p.spans.cycles.first cycles)

  own_width : width p.count ≡ p.count
  own_width = width_some p.count l.some

  widths : width_sum ahead + (p.count + width_sum behind) ≡ p.spans.steps.count
  widths =
      let e = sym (sum_append width ahead (p.count ∷ behind)) ∙ ap width_sum (sym numbers_about) ∙ l.within.wide in
      let w = own_width in
      omega arith

  ahead_length : length ahead ≡ p.cycle
  ahead_length = length-take-le p.cycle numbers_of (let z = sized in let h = l.cycle in omega arith)

  behind_length : length behind ≡ left_over
  behind_length =
      let f = p.spans.cycles.first + (p.cycle + 1) in
      let h = l.cycle in
      length-take-le left_over (drop f cycles) (omega (arith, length-drop f cycles, l.within.in_cycles, l.within.cycles_size))

  pub inside : Inside p
  inside =
      let e = l.place in
      let w = widths in
      record { cycle = l.cycle; start = omega arith; end = omega arith; in_cycles = l.within.in_cycles; in_steps = l.within.in_steps }

  -- ---- a run of the face's cycles with its steps, and the two runs
  run_room : (r : Run) → length (take r.count (drop r.first cycles)) ≡ r.count → r.first + r.count ≤ 512 → r.from + r.len ≤ 2048
      → width_sum (take r.count (drop r.first cycles)) ≡ r.len → {numbers : List ℕ} {u : Used} {places : List ℕ} → Building numbers u places
      → RoomFor (length numbers) (length places) (built numbers u places ++ path_run cycles steps r) → RunRoom cycles steps r numbers u places
  run_room r el hc hs ew b f =
      let ns = take r.count (drop r.first cycles) in
      let x = few_left b (path_run cycles steps r) f in
      let fc = x.0 in
      let fs = x.1 in
      let z = l.within.steps_size in
      let n = length_cycles ns (drop r.from steps) ∙ el in
      let o = list_steps ns (drop r.from steps) (omega (arith, length-drop r.from steps)) in
      record {
        building = b;
        cycles_size = l.within.cycles_size;
        steps_size = z;
        in_cycles = hc;
        in_steps = hs;
        wide = ew;
        cycle_room = omega arith;
        step_room = omega arith;
      }

  module _ {t : Sides} (e : t ≡ sides_of p) where
    abbrev front : List Cycle
    front = path_run cycles steps t.ahead

    abbrev back : List Cycle
    back = path_run cycles steps t.behind

    ahead_room : {numbers : List ℕ} {u : Used} {places : List ℕ} → Building numbers u places
        → RoomFor (length numbers) (length places) (built numbers u places ++ front) → RunRoom cycles steps t.ahead numbers u places
    ahead_room {numbers} {u} {places} b =
        subst (λ (s : Sides). RoomFor (length numbers) (length places) (built numbers u places ++ path_run cycles steps s.ahead)
        → RunRoom cycles steps s.ahead numbers u places) (sym e)
        (run_room (sides_of p).ahead ahead_length (omega (arith, l.cycle, l.within.in_cycles)) (omega (arith, l.place, widths, l.within.in_steps))
        (omega (arith, l.place)) b)

    behind_room : {numbers : List ℕ} {u : Used} {places : List ℕ} → Building numbers u places
        → RoomFor (length numbers) (length places) (built numbers u places ++ back) → RunRoom cycles steps t.behind numbers u places
    behind_room {numbers} {u} {places} b =
        subst (λ (s : Sides). RoomFor (length numbers) (length places) (built numbers u places ++ path_run cycles steps s.behind)
        → RunRoom cycles steps s.behind numbers u places) (sym e)
        (run_room (sides_of p).behind behind_length (omega (arith, l.cycle, l.within.in_cycles)) (omega (arith, l.place, widths, l.within.in_steps))
        (omega (arith, l.place, widths)) b)

    -- ---- the list about the cycle
    abbrev own : Cycle
    own = cycle_of p.count (drop (width_sum ahead) (drop p.spans.steps.first steps))

    list_about : list_at cycles steps p ≡ front ++ (own ∷ back)
    list_about =
        let st = drop p.spans.steps.first steps in
        ap (λ (q : List ℕ). cycles_from q st) numbers_about ∙ cycles_append ahead (p.count ∷ behind) st
        ∙ ap (λ (q : List ℕ). cycles_from ahead st ++ (own ∷ cycles_from behind q))
        (ap₂ drop own_width (drop-drop (width_sum ahead) p.spans.steps.first steps ∙ ap (λ (n : ℕ). drop n steps) l.place)
        ∙ drop-drop p.count p.at steps)
        ∙ ap (λ (s : Sides). path_run cycles steps s.ahead ++ (own ∷ path_run cycles steps s.behind)) (sym e)

    front_length : length front ≡ p.cycle
    front_length =
        ap (λ (s : Sides). length (path_run cycles steps s.ahead)) e ∙ length_cycles ahead (drop p.spans.steps.first steps) ∙ ahead_length

    others_about : others_at cycles steps p ≡ front ++ back
    others_about =
        ap (without (one p.cycle) 0) list_about
        ∙ without_at p.cycle 0 front own back (let n = front_length in omega arith)

    set_about : (x : Cycle) → set (list_at cycles steps p) p.cycle x ≡ front ++ (x ∷ back)
    set_about x =
        ap (λ (ks : List Cycle). set ks p.cycle x) list_about ∙ set_at front own back x p.cycle front_length

    -- ---- all but the one
    module _ {numbers : List ℕ} {u : Used} {places : List ℕ} (b : Besides cycles steps p numbers u places) where
      others_room : RoomFor (length numbers) (length places) ((built numbers u places ++ front) ++ back)
      others_room =
          subst (RoomFor (length numbers) (length places)) (ap (λ (ks : List Cycle). built numbers u places ++ ks) others_about
          ∙ sym (append_assoc (built numbers u places) front back)) b.room

      pub others_first : RunRoom cycles steps t.ahead numbers u places
      others_first = ahead_room b.building (few_front (built numbers u places ++ front) back others_room)

      module _ {numbers₁ : List ℕ} {u₁ : Used} {places₁ : List ℕ} (x : Built (built numbers u places ++ front) numbers₁ u₁ places₁) where
        pub others_last : length numbers₁ ≡ length numbers → length places₁ ≡ length places → RunRoom cycles steps t.behind numbers₁ u₁ places₁
        others_last lc ls = behind_room x.building (few_after x back others_room lc ls)

        pub others_built : {numbers₂ : List ℕ} {u₂ : Used} {places₂ : List ℕ} → Built (built numbers₁ u₁ places₁ ++ back) numbers₂ u₂ places₂
            → Built (built numbers u places ++ others_at cycles steps p) numbers₂ u₂ places₂
        others_built y =
            built_as
            (append_assoc (built numbers u places) front back ∙ ap (λ (ks : List Cycle). built numbers u places ++ ks) (sym others_about))
            (built_then back x y)

    -- ---- two stretches in its place
    module _ {a b : Stretch} {v n m : ℕ} (g : Puts cycles steps p a b v n m) where
      abbrev new : Cycle
      new = path_of steps a b v

      around_is : put_at cycles steps p a b v ≡ (front ++ one new) ++ back
      around_is = set_about new ∙ sym (append_assoc front (one new) back)

      around_room : RoomFor n m ((front ++ one new) ++ back)
      around_room = subst (RoomFor n m) around_is g.room

      around_front : RoomFor n m (front ++ one new)
      around_front = few_front (front ++ one new) back around_room

      pub around_first : {numbers places : List ℕ} → length numbers ≡ n → length places ≡ m
          → RunRoom cycles steps t.ahead numbers (record { cycles = 0; steps = 0 }) places
      around_first {numbers} {places} lc ls =
          let z = built_none numbers places (omega (arith, g.room.few_counts)) (omega (arith, g.room.few_steps)) in
          ahead_room z.building (few_after z front (few_front front (one new) around_front) lc ls)

      module _ {numbers : List ℕ} {u : Used} {places : List ℕ} (x : Built front numbers u places) where
        pub around_path : length numbers ≡ n → length places ≡ m → PathRoom steps a b v numbers u places
        around_path lc ls =
            record {
              building = x.building;
              steps_size = l.within.steps_size;
              first = g.first;
              second = g.second;
              room = few_after x (one new) around_front lc ls;
            }

        module _ {numbers₁ : List ℕ} {u₁ : Used} {places₁ : List ℕ} (y : Built (built numbers u places ++ one new) numbers₁ u₁ places₁) where
          put : Built (front ++ one new) numbers₁ u₁ places₁
          put = built_then (one new) x y

          pub around_last : length numbers₁ ≡ n → length places₁ ≡ m → RunRoom cycles steps t.behind numbers₁ u₁ places₁
          around_last lc ls = behind_room y.building (few_after put back around_room lc ls)

          pub around_built : {numbers₂ : List ℕ} {u₂ : Used} {places₂ : List ℕ} → Built (built numbers₁ u₁ places₁ ++ back) numbers₂ u₂ places₂
              → Built (put_at cycles steps p a b v) numbers₂ u₂ places₂
          around_built z = built_as (sym around_is) (built_then back put z)
