-- The face that stays, with the cycles that are left. Assumes nothing.
use Prim.Native.Nat.{ℕ, suc, ◌+◌, ◌<◌, ◌≤◌}
use mathlib.Core.Path.{◌≡◌, refl, ap, ap₂, sym, subst, ◌∙◌}
use mathlib.Core.Bool.{Bool, true, false, ◌&&◌, cond}
use mathlib.Core.List.{List, [], ◌∷◌, ◌++◌}
use mathlib.Core.Option.{some}
use native.Mathlib.Omega.{arith}
use borrow.Author.Tests.{eq-eqb}
use lib.Dec.{T, eqb}
use lib.ListN.{length, get_or, set}
use Rattle.complex.specs.Lists.{one, without}
use Rattle.complex.specs.Cells.{Cycle, Figure, face, LiveCell, Sheet, some_if, lookup, cell_at, cycles_of, steps_of, head_of, is_edge, is_live}
use Rattle.complex.specs.Edits.{others, neither, replaced, rebuild}
use Rattle.complex.specs.Sound.{cycles_in, steps_in, over}
use Rattle.complex.specs.Cut.{no_cycle, stretch}
use Rattle.complex.specs.Uses.{Use as Used}
use Rattle.complex.specs.Uncut.{uncut_result, path_or}
use Rattle.complex.proofs.Bools.{truth}
use Rattle.complex.proofs.Adds.{stays_at}
use Rattle.complex.proofs.UncutFaces.{Placed}
use Rattle.store.specs.declared.Drawing.{Drawing}
use Rattle.store.specs.declared.Index.{Index}
use Rattle.store.specs.Index.{Indexes}
use Rattle.store.specs.Sizes.{Sizes}
use Rattle.store.specs.View.{sheet_of}
use Rattle.sound.specs.Soundness.{sound_drawing}
use Rattle.sound.proofs.Meaning.{looks}
use Rattle.rows_spans.specs.declared.Used.{Used as Taken}
use Rattle.rows_spans.specs.Building.{Built, built, RoomFor}
use Rattle.rows_corners.specs.Faces.{Roomy}
use Rattle.rows_corners.proofs.Edits.{named_in}
use Rattle.answer.proofs.Asked.{sound_in}
use Rattle.rows_corners.proofs.Lists.{built_as}
use Rattle.ask_uncut_uses.specs.declared.Use.{Use}
use Rattle.rows_stretches.specs.declared.Place.{Place}
use Rattle.rows_stretches.specs.Paths.{Few, following_in, merged_list, Merging, parted_list, Parting, ringed_list, Ringing}
use Rattle.rows_stretches.proofs.Lists.{steps_length}
use Rattle.ask_uncut_uses.specs.declared.Between.{Between}
use Rattle.ask_uncut_uses.specs.declared.Between.TheVariants.{TwoFaces, OneCycle, Rings}
use Rattle.ask_uncut_uses.specs.Uses.{use_at, case_of}
use Rattle.law_uncut_edge.specs.Needs.{head_by, left_cycles, gone_with, Case, Takes, Has, CycleFound, Going}
use Rattle.law_uncut_edge.proofs.Told.{Alike, Pair, told_pair, edge_in_lem, face_of_lem, cycle_of, some_of, stays_with}
use Rattle.law_uncut_edge.proofs.Finding.{found_steps, head_is}

-- ---- where there is room for the cycles of a sheet, there is room for those of a face
over_least : (g : Figure → ℕ) (cs : List LiveCell) (i : ℕ) (x : Figure) → lookup cs i ≡ some x → g x ≤ over g cs
over_least g [] i x e = absurd (let z : ◌≡◌ {A = ℕ} 0 1 = cc in omega arith)
over_least g (c ∷ cs) i x e = go (eqb c.id i) e (over_least g cs i x)
  where
    go : (b : Bool) → some_if b c.figure (lookup cs i) ≡ some x → (lookup cs i ≡ some x → g x ≤ over g cs) → g x ≤ g c.figure + over g cs
    go true q ih = let z : c.figure ≡ x = cc in let w = ap g z in omega arith
    go false q ih = let h = ih q in omega arith

pub room_in : (p : ℕ → Bool) (f : ℕ) (ks : List Cycle) (s : Sheet) → p f ≡ true → (x : Figure) → cell_at s f ≡ some x
    → {n m : ℕ} → Takes n m (rebuild p (replaced f (face ks)) [] s) → RoomFor n m ks
room_in p f ks s h x e {n} {m} r =
    let q : lookup (rebuild p (replaced f (face ks)) [] s).cells f ≡ some (face ks) =
    stays_at p (replaced f (face ks)) [] s f x (truth h) e ∙ ap (λ (b : Bool). some (cond b (face ks) x)) (eq-eqb f f refl)
    in
    let a = over_least cycles_in (rebuild p (replaced f (face ks)) [] s).cells f (face ks) q in
    let b = over_least steps_in (rebuild p (replaced f (face ks)) [] s).cells f (face ks) q in
    record { few_counts = r.few_counts; few_steps = r.few_steps; cycles = omega (arith, r.cycles); steps = omega (arith, r.steps) }

few_of : {n m : ℕ} (ks : List Cycle) → RoomFor n m ks → Few ks
few_of {n} {m} ks r = record { cycles = omega (arith, r.cycles, r.few_counts); steps = omega (arith, r.steps, r.few_steps) }

-- ---- a use of an edge
module _ (d : Drawing) (z : Sizes d) (ix : Index) (e : ℕ) (w : T (sound_drawing d)) (x : Indexes d ix) (t : T (is_edge (cell_at (sheet_of d) e))) (u : Use)
    (p : Placed (cell_at (sheet_of d)) e (use_at e u)) where
  pub has : Has d ix u.face u.cycle
  has =
      record {
        named = named_in d z w ix x u.face (face_of_lem (sheet_of d) e t (use_at e u) p);
        cycle = cycle_of (sheet_of d) e t (use_at e u) p;
        some = some_of (sheet_of d) e t (use_at e u) p;
      }

  pub step_in : (q : Place) → CycleFound d u.face u.cycle q → u.step < q.count
  step_in q g =
      let a = p.2 in
      let b = ap length (found_steps d u.face u.cycle q g) in
      let c = steps_length d.cycles d.steps q g.lies in
      omega arith

-- ---- the result: the edge goes with a cell, and the face of the first use gets the cycles that are left
-- the edge goes, named twice or once
once : (s : Sheet) (e : ℕ) (f : ℕ → Figure → Figure) → rebuild (neither e e) f [] s ≡ rebuild (others e) f [] s
once s e f = ap (λ (p : ℕ → Bool). rebuild p f [] s) (λ i k. same_twice (others e k) i)
  where
    same_twice : (b : Bool) → b && b ≡ b
    same_twice true = refl
    same_twice false = refl

abbrev left_in : Between → Sheet → ℕ → Used → Used → List Cycle → Sheet
left_in k s e u w ks = rebuild (neither e (gone_with k e w.face)) (replaced u.face (face ks)) [] s

pub result_is : (k : Between) (s : Sheet) (e : ℕ) (u w : Used) → uncut_result s e (case_of k u w) ≡ left_in k s e u w (left_cycles k (cell_at s) u w)
result_is TwoFaces s e u w = refl
result_is OneCycle s e u w = sym (once s e (replaced u.face (face (left_cycles OneCycle (cell_at s) u w))))
result_is Rings s e u w = refl

module _ (d : Drawing) (z : Sizes d) (ix : Index) (e : ℕ) (k : Between) (u w : Use) (c : Case d ix e (case_of k (use_at e u) (use_at e w))) where
  pair : Pair (sheet_of d) e k (use_at e u) (use_at e w)
  pair = told_pair (sheet_of d) (sound_in d c.sound) e k (use_at e u) (use_at e w) c.holds

  abbrev left_list : List Cycle
  left_list = left_cycles k (cell_at (sheet_of d)) (use_at e u) (use_at e w)

  pub has_first : Has d ix u.face u.cycle
  has_first = has d z ix e c.sound c.index pair.edge u pair.first

  pub has_second : Has d ix w.face w.cycle
  has_second = has d z ix e c.sound c.index pair.edge w pair.second

  stays : neither e (gone_with k e w.face) u.face ≡ true
  stays = stays_with (sheet_of d) e pair.edge (use_at e u) pair.first (gone_with k e w.face) pair.apart

  left_room : {n m : ℕ} → Takes n m (uncut_result (sheet_of d) e (case_of k (use_at e u) (use_at e w))) → RoomFor n m left_list
  left_room {n} {m} t =
      room_in (neither e (gone_with k e w.face)) u.face left_list (sheet_of d) stays (face (cycles_of (cell_at (sheet_of d) u.face))) pair.first.0
      (subst (Takes n m) (result_is k (sheet_of d) e (use_at e u) (use_at e w)) t)

  -- the list is built, and j is the cell that goes with e
  module _ {counts : List ℕ} {t : Taken} {steps : List ℕ} (b : Built left_list counts t steps) (j : ℕ) (ej : j ≡ gone_with k e w.face) where
    pub left_result : rebuild (neither e j) (replaced u.face (face (built counts t steps))) [] (sheet_of d)
        ≡ uncut_result (sheet_of d) e (case_of k (use_at e u) (use_at e w))
    left_result =
        ap (λ (i : ℕ). rebuild (neither e i) (replaced u.face (face (built counts t steps))) [] (sheet_of d)) ej
        ∙ ap (left_in k (sheet_of d) e (use_at e u) (use_at e w)) b.list ∙ sym (result_is k (sheet_of d) e (use_at e u) (use_at e w))

    pub left_going : Going d ix e j u.face counts t steps
    left_going =
        record {
          sound = c.sound;
          index = c.index;
          first = edge_in_lem (sheet_of d) e pair.edge;
          second = subst (λ (i : ℕ). is_live (cell_at (sheet_of d) i) ≡ true) (sym ej) pair.goes;
          building = b.building;
          stays = subst (λ (i : ℕ). neither e i u.face ≡ true) (sym ej) stays;
          room = subst Roomy (sym left_result) c.room;
          face = face_of_lem (sheet_of d) e pair.edge (use_at e u) pair.first;
        }

-- ---- the cycle of the first use stands at p, and its step ends at v
pub record Stands (d : Drawing) (ix : Index) (e : ℕ) (k : Between) (u w : Use) (p : Place) (v : ℕ) : Type 0 where
  pub sizes : Sizes d
  pub is : Case d ix e (case_of k (use_at e u) (use_at e w))
  pub first : CycleFound d u.face u.cycle p
  pub head : v ≡ head_by ix d.count e u.back

module _ {d : Drawing} {ix : Index} {e : ℕ} {k : Between} {u w : Use} {p : Place} {v : ℕ} (f : Stands d ix e k u w p v) where
  abbrev c : Case d ix e (case_of k (use_at e u) (use_at e w))
  c = f.is

  abbrev gp : CycleFound d u.face u.cycle p
  gp = f.first

  abbrev used : Pair (sheet_of d) e k (use_at e u) (use_at e w)
  used = pair d f.sizes ix e k u w f.is

  abbrev ks_left : List Cycle
  ks_left = left_cycles k (cell_at (sheet_of d)) (use_at e u) (use_at e w)

  hv : v ≡ head_of (cell_at (sheet_of d)) (record { edge = e; backward = u.back })
  hv = head_is (looks d f.sizes ix c.index c.sound) e u.back v f.head

  here : u.step < p.count
  here = step_in d f.sizes ix e c.sound c.index used.edge u used.first p gp

  -- lists of cycles as they are built
  module _ (ks : List Cycle) (is : ks ≡ ks_left) {n m : ℕ} (t : Takes n m (uncut_result (sheet_of d) e (case_of k (use_at e u) (use_at e w)))) where
    room_as : RoomFor n m ks
    room_as = subst (RoomFor n m) (sym is) (left_room d f.sizes ix e k u w f.is t)

    few_as : Few ks
    few_as = few_of ks room_as

  -- and that of the second at q
  merged_is : (q : Place) → CycleFound d w.face w.cycle q → k ≡ TwoFaces → merged_list d.cycles d.steps p u.step q w.step v ≡ ks_left
  merged_is q gq ek =
      let sp = found_steps d u.face u.cycle p gp in
      let sq = found_steps d w.face w.cycle q gq in
      (λ i. set (gp.list i) (gp.cycle i) (path_or (hv i) (following_in u.step (sp i) ++ following_in w.step (sq i)))
      ++ without (one (gq.cycle i)) 0 (gq.list i))
      ∙ ap (λ (j : Between). left_cycles j (cell_at (sheet_of d)) (use_at e u) (use_at e w)) (sym ek)

  pub merged_asks : (q : Place) → CycleFound d w.face w.cycle q → k ≡ TwoFaces → {n m : ℕ}
      → Takes n m (uncut_result (sheet_of d) e (case_of k (use_at e u) (use_at e w)))
      → Merging d.cycles d.steps p u.step q w.step v × RoomFor n m (merged_list d.cycles d.steps p u.step q w.step v)
  merged_asks q gq ek t =
      let there = step_in d f.sizes ix e c.sound c.index used.edge w used.second q gq in
      (record { first = gp.lies; second = gq.lies; here = here; there = there; room = few_as _ (merged_is q gq ek) t }, room_as _ (merged_is q gq ek) t)

  pub merged_built : (q : Place) → CycleFound d w.face w.cycle q → k ≡ TwoFaces → {counts : List ℕ} {t : Taken} {steps : List ℕ}
      → Built (merged_list d.cycles d.steps p u.step q w.step v) counts t steps → Built ks_left counts t steps
  merged_built q gq ek = built_as (merged_is q gq ek)

  alike : k ≡ OneCycle → (u.face ≡ w.face) × (u.cycle ≡ w.cycle)
  alike ek = subst (λ (j : Between). Alike j (use_at e u) (use_at e w)) ek used.alike

  -- the second step stands in the first's cycle
  there_too : k ≡ OneCycle → w.step < p.count
  there_too ek =
      step_in d f.sizes ix e c.sound c.index used.edge w used.second p
      (record {
        lies = gp.lies;
        cycle = gp.cycle ∙ (alike ek).1;
        list = gp.list ∙ ap (λ (g : ℕ). cycles_of (cell_at (sheet_of d) g)) (alike ek).0;
      })

  -- and the step of the second ends at x
  parted_is : (x : ℕ) → x ≡ head_by ix d.count e w.back → k ≡ OneCycle → parted_list d.cycles d.steps p u.step w.step v x ≡ ks_left
  parted_is x ex ek =
      let hx = head_is (looks d f.sizes ix c.index c.sound) e w.back x ex in
      let sp = found_steps d u.face u.cycle p gp in
      let sw = sp ∙ ap₂ (λ (g n : ℕ). steps_of (get_or (cycles_of (cell_at (sheet_of d) g)) n no_cycle)) (alike ek).0 (alike ek).1 in
      (λ i. set (gp.list i) (gp.cycle i) (path_or (hv i) (stretch (suc u.step) w.step (sp i)))
      ++ one (path_or (hx i) (stretch (suc w.step) u.step (sw i))))
      ∙ ap (λ (j : Between). left_cycles j (cell_at (sheet_of d)) (use_at e u) (use_at e w)) (sym ek)

  pub parted_asks : (x : ℕ) → x ≡ head_by ix d.count e w.back → k ≡ OneCycle → {n m : ℕ}
      → Takes n m (uncut_result (sheet_of d) e (case_of k (use_at e u) (use_at e w)))
      → Parting d.cycles d.steps p u.step w.step v x × RoomFor n m (parted_list d.cycles d.steps p u.step w.step v x)
  parted_asks x ex ek t =
      (record { first = gp.lies; here = here; there = there_too ek; room = few_as _ (parted_is x ex ek) t }, room_as _ (parted_is x ex ek) t)

  pub parted_built : (x : ℕ) → x ≡ head_by ix d.count e w.back → k ≡ OneCycle → {counts : List ℕ} {t : Taken} {steps : List ℕ}
      → Built (parted_list d.cycles d.steps p u.step w.step v x) counts t steps → Built ks_left counts t steps
  parted_built x ex ek = built_as (parted_is x ex ek)

  ringed_is : (q : Place) → CycleFound d w.face w.cycle q → k ≡ Rings → ringed_list d.cycles d.steps p q ≡ ks_left
  ringed_is q gq ek =
      (λ i. without (one (gp.cycle i)) 0 (gp.list i) ++ without (one (gq.cycle i)) 0 (gq.list i))
      ∙ ap (λ (j : Between). left_cycles j (cell_at (sheet_of d)) (use_at e u) (use_at e w)) (sym ek)

  pub ringed_asks : (q : Place) → CycleFound d w.face w.cycle q → k ≡ Rings → {n m : ℕ}
      → Takes n m (uncut_result (sheet_of d) e (case_of k (use_at e u) (use_at e w)))
      → Ringing d.cycles d.steps p q × RoomFor n m (ringed_list d.cycles d.steps p q)
  ringed_asks q gq ek t = (record { first = gp.lies; second = gq.lies; room = few_as _ (ringed_is q gq ek) t }, room_as _ (ringed_is q gq ek) t)

  pub ringed_built : (q : Place) → CycleFound d w.face w.cycle q → k ≡ Rings → {counts : List ℕ} {t : Taken} {steps : List ℕ}
      → Built (ringed_list d.cycles d.steps p q) counts t steps → Built ks_left counts t steps
  ringed_built q gq ek = built_as (ringed_is q gq ek)
