-- 0E at an edge: questions 7 and 8 from the sizes, and the answer. Assumes nothing.
use Prim.Native.Nat.{ℕ, suc, ◌+◌, ◌-◌, ◌≤◌, ◌<◌}
use mathlib.Core.Path.{◌≡◌, refl, ap, ap₂, sym, subst, ◌∙◌}
use mathlib.Core.Bool.{Bool, true, false, ◌&&◌, cond}
use mathlib.Core.List.{[]}
use native.Mathlib.Omega.{arith}
use borrow.Author.Tests.{le-leb}
use lib.Dec.{T, leb, eqb}
use lib.ListN.{length}
use Rattle.complex.specs.Lists.{distance}
use Rattle.complex.specs.Cells.{Figure, Sheet, cell_at}
use Rattle.complex.specs.Edits.{rebuild}
use Rattle.complex.specs.Sound.{ids_end, cells_most, cycles_most, steps_most, bends_most}
use Rattle.complex.specs.Decode.{uncut}
use Rattle.complex.specs.Uses.{Use as Used}
use Rattle.complex.specs.Uncut.{Uncut, uncut_case, uncut_result, allowed, cycle_of_use}
use Rattle.answer.specs.Sizes.{SheetSizes as Counted, Change, sized, nothing, more_less, changed_by, sizes_fit, sizes_of, sizes_after, alone_left, new_by_uncut}
use Rattle.answer.specs.Sizes.{uncut_change}
use Rattle.store.specs.declared.Drawing.{Drawing}
use Rattle.store.specs.declared.Index.{Index}
use Rattle.store.specs.Index.{Indexes}
use Rattle.store.specs.Sizes.{Sizes}
use Rattle.store.specs.View.{sheet_of, Fits}
use Rattle.sound.specs.Soundness.{sound_drawing}
use Rattle.sound.proofs.Meaning.{sound_fits}
use Rattle.rows_new.specs.Appends.{remade}
use Rattle.rows_new.proofs.Rooms.{below}
use Rattle.rows_gone.proofs.Dropped.{remade_rebuild}
use Rattle.answer.specs.declared.Answer.{Answer}
use Rattle.answer.specs.declared.Totals.{Totals}
use Rattle.answer.specs.Answers.{outcome, refusal, Counts, Answers}
use Rattle.answer.specs.Late.{sizes_by, late_no}
use Rattle.answer.proofs.Laws.{totals_in, totals_are_lem}
use Rattle.rows_corners.specs.Faces.{Roomy}
use Rattle.rows_corners.proofs.Rows.{roomy}
use Rattle.law_uncut.proofs.Passing.{uncut_passed, uncut_result_lem}
use Rattle.answer.proofs.SizesUncut.{uncut_new, uncut_change_lem, uncut_sizes}
use Rattle.answer.proofs.Asked.{Asked, asked_six, sound_in, next_in_lem, refuses, room, counts_done, answers, asked_of}
use Rattle.ask_uncut_uses.specs.declared.Use.{Use}
use Rattle.ask_uncut_uses.specs.declared.Between.{Between}
use Rattle.ask_uncut_uses.specs.declared.Between.TheVariants.{TwoFaces, OneCycle, Rings}
use Rattle.ask_uncut_uses.specs.Uses.{use_at, case_of}
use Rattle.law_uncut_edge.specs.Needs.{more_cycles, Case, Takes, TakesBy}
use Rattle.law_uncut_edge.proofs.Results.{result_is}

alone_least : (n : ℕ) → alone_left n ≤ 1
alone_least n = go (eqb n 0)
  where
    go : (b : Bool) → cond b 1 0 ≤ 1
    go true = omega arith
    go false = omega arith

abbrev totals_of : Counted → Totals
totals_of z = record { cells = z.cells; cycles = z.cycles; steps = z.steps; bends = z.bends }

-- ---- where no more cells, steps and bends come than go, the cycles decide
record Few (z : Counted) : Type 0 where
  pub cells : z.cells ≤ cells_most
  pub cycles : z.cycles ≤ cycles_most
  pub steps : z.steps ≤ steps_most
  pub bends : z.bends ≤ bends_most

pub record Lessens (c : Change) : Type 0 where
  pub cells : c.more.cells ≤ c.less.cells
  pub steps : c.more.steps ≤ c.less.steps
  pub bends : c.more.bends ≤ c.less.bends

by_cycles : (z : Counted) → Few z → (c : Change) → Lessens c → sizes_fit (changed_by z c) ≡ leb (z.cycles + c.more.cycles - c.less.cycles) cycles_most
by_cycles z f c h =
    rw (
      le-leb (z.cells + c.more.cells - c.less.cells) cells_most (omega (arith, f.cells, h.cells)),
      le-leb (z.steps
          + c.more.steps - c.less.steps) steps_most (omega (arith, f.steps, h.steps)),
      le-leb (z.bends + c.more.bends - c.less.bends) bends_most
          (omega (arith, f.bends, h.bends)),
    )
    (last (leb (z.cycles + c.more.cycles - c.less.cycles) cycles_most))
  where
    last : (b : Bool) → b && true ≡ b
    last true = refl
    last false = refl

module _ (d : Drawing) (z : Sizes d) (w : T (sound_drawing d)) (ix : Index) (x : Indexes d ix) where
  abbrev own : Totals
  own = totals_in d z (sound_fits d w) ix x

  own_few : Few (sizes_by own)
  own_few =
      let b = below (sheet_of d).cells (sound_in d w).fits in
      subst Few (sym (totals_are_lem d z (sound_fits d w) ix x)) (record { cells = b.cells; cycles = b.cycles; steps = b.steps; bends = b.bends })

  -- what `late_no` says of a change
  abbrev late : Change → ℕ
  late c = late_no d.next 0 (changed_by (sizes_by own) c)

  late_is : (c : Change) → Lessens c → late c ≡ cond (leb (own.cycles + c.more.cycles - c.less.cycles) cycles_most) 0 8
  late_is c h =
      ap₂ (λ (a b : Bool). cond a (cond b 0 8) 7) (le-leb (d.next + 0) ids_end (let n = next_in_lem d w in omega arith)) (by_cycles (sizes_by own) own_few c h)

  -- ---- an allowed case k that issues no id
  module _ (e : ℕ) (k : Uncut) (h : uncut_case (sheet_of d) e ≡ k) (a : allowed k ≡ true) (n : new_by_uncut k ≡ 0) where
    abbrev change : Change
    change = uncut_change (sheet_of d) e k

    pub asked : (r : ℕ) → r ≡ late change → Asked d (uncut e) r
    asked r q =
        asked_of d z w (uncut e) r
        (record {
          index = ix;
          indexes = x;
          new = 0;
          totals = own;
          more = totals_of change.more;
          less = totals_of change.less;
          passed = uncut_passed (sheet_of d) e k h a;
          new_is = uncut_new (sheet_of d) e k h ∙ n;
          change_is = uncut_change_lem (sheet_of d) e k h;
          totals_are = refl;
          says = q;
        })

    module _ (r : ℕ) (q : r ≡ late change) (y : r ≡ 0) where
      pub case_of_lem : (p : ℕ → Bool) (f : ℕ → Figure → Figure) → uncut_result (sheet_of d) e k ≡ rebuild p f [] (sheet_of d) → Case d ix e k
      case_of_lem p f v =
          record {
            sound = w;
            index = x;
            holds = h;
            room =
                subst Roomy (remade_rebuild p f (sheet_of d) ∙ sym v)
                (roomy (remade p f (sheet_of d)) [] (room d z w (uncut e) r (asked r q) y p f [] (uncut_result_lem (sheet_of d) e k h ∙ v)));
          }

      module _ (out : Drawing) (zo : Sizes out) (fo : Fits out) (v : sheet_of out ≡ uncut_result (sheet_of d) e k) where
        pub counts_of : Counts d.next d.count out
        counts_of = counts_done d z w (uncut e) r (asked r q) y out zo fo (v ∙ sym (uncut_result_lem (sheet_of d) e k h))

        pub answers_of : (o : Answer) → o ≡ outcome d.next d.count out → Answers d (uncut e) o
        answers_of = answers d z w (uncut e) r (asked r q) y out zo fo (v ∙ sym (uncut_result_lem (sheet_of d) e k h))

    -- the sizes of the result, and arrays with room for its cycles
    sizes_left : sizes_of (uncut_result (sheet_of d) e k).cells ≡ changed_by (sizes_of (sheet_of d).cells) change
    unfolding sizes_after
    sizes_left =
        ap (λ (s : Sheet). sizes_of s.cells) (sym (uncut_result_lem (sheet_of d) e k h))
        ∙ uncut_sizes (sheet_of d) (sound_in d w) e (asked_six (sheet_of d) (uncut e) (uncut_passed (sheet_of d) e k h a))
        ∙ ap (changed_by (sizes_of (sheet_of d).cells)) (uncut_change_lem (sheet_of d) e k h)

    pub takes_few : Lessens change → change.more.cycles ≤ change.less.cycles + 1 → (o : Totals) → o ≡ own
        → (n m : ℕ) → n ≤ 512 → m ≤ 2048 → o.cycles < n → o.steps ≤ m → Takes n m (uncut_result (sheet_of d) e k)
    takes_few l y o eo n m hn hm hc hs =
        let q = ap sizes_by eo ∙ totals_are_lem d z (sound_fits d w) ix x in
        let qc = ap (λ (v : Counted). v.cycles) q in
        let qs = ap (λ (v : Counted). v.steps) q in
        let rc = ap (λ (v : Counted). v.cycles) sizes_left in
        let rs = ap (λ (v : Counted). v.steps) sizes_left in
        record { few_counts = hn; few_steps = hm; cycles = omega arith; steps = omega (arith, l.steps) }

-- ---- by the two uses: only the cycles can become more
lessens : (k : Between) (s : Sheet) (e : ℕ) (u w : Used) → Lessens (uncut_change s e (case_of k u w))
lessens TwoFaces s e u w =
    let a = alone_least (length (cycle_of_use (cell_at s) u) + length (cycle_of_use (cell_at s) w) - 2) in
    record { cells = omega arith; steps = omega arith; bends = omega arith }
lessens OneCycle s e u w =
    let n = length (cycle_of_use (cell_at s) u) in
    let a = alone_least (distance n (suc u.step) w.step) in
    let b = alone_least (distance n (suc w.step) u.step) in
    record { cells = omega arith; steps = omega arith; bends = omega arith }
lessens Rings s e u w = record { cells = omega arith; steps = omega arith; bends = omega arith }

one_more : (k : Between) (s : Sheet) (e : ℕ) (u w : Used) → (uncut_change s e (case_of k u w)).more.cycles ≤ (uncut_change s e (case_of k u w)).less.cycles + 1
one_more TwoFaces s e u w = omega arith
one_more OneCycle s e u w = omega arith
one_more Rings s e u w = omega arith

both_fit : (a b : ℕ) → a ≤ cycles_most → b ≤ cycles_most → leb a cycles_most ≡ leb b cycles_most
both_fit a b h g = le-leb a cycles_most h ∙ sym (le-leb b cycles_most g)

-- the cycles fit by the change if and only if they fit with as many more
fits_alike : (k : Between) (s : Sheet) (e : ℕ) (u w : Used) (n : ℕ) → n ≤ cycles_most
    → leb (n + more_cycles k - 0) cycles_most ≡ leb (n + (uncut_change s e (case_of k u w)).more.cycles - (uncut_change s e (case_of k u w)).less.cycles) cycles_most
fits_alike TwoFaces s e u w n h = both_fit (n + 0 - 0) (n + 0 - 1) (omega arith) (omega arith)
fits_alike OneCycle s e u w n h = refl
fits_alike Rings s e u w n h = both_fit (n + 0 - 0) (n + 0 - 2) (omega arith) (omega arith)

may : (k : Between) (u w : Used) → allowed (case_of k u w) ≡ true
may TwoFaces u w = refl
may OneCycle u w = refl
may Rings u w = refl

none_new : (k : Between) (u w : Used) → new_by_uncut (case_of k u w) ≡ 0
none_new TwoFaces u w = refl
none_new OneCycle u w = refl
none_new Rings u w = refl

module _ (d : Drawing) (z : Sizes d) (t : T (sound_drawing d)) (ix : Index) (x : Indexes d ix) (e : ℕ) (k : Between) (u w : Use)
    (h : uncut_case (sheet_of d) e ≡ case_of k (use_at e u) (use_at e w)) (o : Totals) (eo : o ≡ own d z t ix x) where
  abbrev this : Uncut
  this = case_of k (use_at e u) (use_at e w)

  abbrev may_this : allowed (case_of k (use_at e u) (use_at e w)) ≡ true
  may_this = may k (use_at e u) (use_at e w)

  abbrev no_new : new_by_uncut (case_of k (use_at e u) (use_at e w)) ≡ 0
  no_new = none_new k (use_at e u) (use_at e w)

  pub takes_by : TakesBy o (uncut_result (sheet_of d) e this)
  takes_by =
      record {
        takes =
            takes_few d z t ix x e this h may_this no_new (lessens k (sheet_of d) e (use_at e u) (use_at e w))
            (one_more k (sheet_of d) e (use_at e u) (use_at e w)) o eo;
      }

  -- what `late_no` says of so many cycles more
  module _ (r : ℕ) (er : r ≡ late_no d.next 0 (changed_by (sizes_by o) (more_less (sized 0 (more_cycles k) 0 0) nothing))) where
    late_by : r ≡ late d z t ix x (uncut_change (sheet_of d) e this)
    late_by =
        let f = own_few d z t ix x in
        er ∙ ap (λ (y : Totals). late_no d.next 0 (changed_by (sizes_by y) (more_less (sized 0 (more_cycles k) 0 0) nothing))) eo
        ∙ late_is d z t ix x (more_less (sized 0 (more_cycles k) 0 0) nothing) (record { cells = omega arith; steps = omega arith; bends = omega arith })
        ∙ ap (λ (b : Bool). cond b 0 8) (fits_alike k (sheet_of d) e (use_at e u) (use_at e w) (own d z t ix x).cycles f.cycles)
        ∙ sym (late_is d z t ix x (uncut_change (sheet_of d) e this) (lessens k (sheet_of d) e (use_at e u) (use_at e w)))

    pub refuses_by : (r ≡ 0 → ⊥) → (y : Answer) → y ≡ refusal d r → Answers d (uncut e) y
    refuses_by = refuses d z t (uncut e) r (asked d z t ix x e this h may_this no_new r late_by)

    module _ (y : r ≡ 0) where
      pub case_by : Case d ix e this
      case_by = case_of_lem d z t ix x e this h may_this no_new r late_by y _ _ (result_is k (sheet_of d) e (use_at e u) (use_at e w))

      module _ (out : Drawing) (zo : Sizes out) (fo : Fits out) (v : sheet_of out ≡ uncut_result (sheet_of d) e this) where
        pub counts_by : Counts d.next d.count out
        counts_by = counts_of d z t ix x e this h may_this no_new r late_by y out zo fo v

        pub answers_by : (q : Answer) → q ≡ outcome d.next d.count out → Answers d (uncut e) q
        answers_by = answers_of d z t ix x e this h may_this no_new r late_by y out zo fo v
