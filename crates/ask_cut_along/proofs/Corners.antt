-- 0C: the cycles of a face and their corners, as the arrays have them. Assumes nothing.
use Prim.Native.Nat.{ℕ, zero, suc, ◌+◌, ◌/◌, ◌<◌, ◌≤◌}
use mathlib.Core.Path.{◌≡◌, refl, ap, ap₂, sym, ◌∙◌}
use mathlib.Core.Bool.{Bool, true, false, not, cond, ◌&&◌}
use mathlib.Core.List.{List, [], ◌∷◌, map}
use native.Mathlib.Omega.{arith}
use borrow.Author.Tests.{ltb-true, lt-ltb, le-ltb, eq-eqb, ne_eqb, not-true, not-false}
use lib.Dec.{eqb, ltb}
use lib.ListN.{length, take, drop, get_or, length-drop, length-map, get_or-map}
use lib.Seq.{length-take-le, get_or-take, get_or-drop}
use Rattle.number.specs.Numbers.{read_number}
use Rattle.number.proofs.Counted.{times_length}
use Rattle.complex.specs.Lists.{is_empty, holds, places}
use Rattle.complex.specs.Cells.{Halfedge, Cycle, Look, cell_at, is_open, cycles_of}
use Rattle.complex.specs.Cut.{no_cycle, no_step, corner_exists, cut_corners}
use Rattle.answer.specs.declared.Totals.{Totals}
use Rattle.answer.specs.Sizes.{sized, more_less, changed_by, alone_in}
use Rattle.answer.specs.Late.{sizes_by, late_no}
use Rattle.store.specs.declared.Drawing.{Drawing}
use Rattle.store.specs.declared.Index.{Index}
use Rattle.store.specs.Index.{value_at}
use Rattle.store.specs.Sizes.{Sizes}
use Rattle.store.specs.View.{sheet_of, halfedge_of, width, cycle_of, width_sum}
use Rattle.sound.specs.Looks.{Looks}
use Rattle.sound.proofs.Meaning.{looks_in, open_at}
use Rattle.rows_spans.specs.declared.Spans.{Spans}
use Rattle.decode_parts.specs.Lists.{Stand, numbers_read}
use Rattle.rows_corners.specs.Faces.{Named, Within, Spanned}
use Rattle.rows_corners.specs.Arcs.{corner_in}
use Rattle.rows_corners.proofs.Lists.{at_length}
use Rattle.rows_split.proofs.Places.{place_room, place_cycle}
use Rattle.ask_cut_along.specs.Corners.{corner_on, corner_at, lone_count, cut_no, moved_fit}

-- ---- a cycle in the arrays, and its corners
module _ (look : Look) (ix : Index) (n : ℕ) (o : (i : ℕ) → eqb (value_at 4 (take n ix.ids) (take n ix.kinds) i) 1 ≡ is_open (look i)) (steps : List ℕ)
    (z : length steps ≡ 2048) (at s : ℕ) where
  module _ (m : ℕ) (h : at + suc m ≤ 2048) where
    abbrev hs : List Halfedge
    hs = map halfedge_of (take (suc m) (drop at steps))

    abbrev inside : Bool
    inside = ltb s (suc m) && eqb (value_at 4 (take n ix.ids) (take n ix.kinds) (get_or steps (at + s) 0 / 2)) 1

    many : length hs ≡ suc m
    many = length-map (take (suc m) (drop at steps)) halfedge_of ∙ length-take-le (suc m) (drop at steps) (omega (arith, length-drop at steps))

    step_is : s < suc m → get_or hs s no_step ≡ halfedge_of (get_or steps (at + s) 0)
    step_is k = get_or-map halfedge_of (take (suc m) (drop at steps)) s 0 ∙ ap halfedge_of (get_or-take (suc m) (drop at steps) s 0 k ∙ get_or-drop at steps s 0)

    inside_is : (b : Bool) → ltb s (suc m) ≡ b → inside ≡ (ltb s (length hs) && is_open (look (get_or hs s no_step).edge))
    inside_is true e =
        ap₂ ◌&&◌ (ap (ltb s) (sym many))
        (o (get_or steps (at + s) 0 / 2) ∙ ap (λ (x : Halfedge). is_open (look x.edge)) (sym (step_is (ltb-true s (suc m) e))))
    inside_is false e = rw (many, e)

  pub corner_is : (m : ℕ) → at + width m ≤ 2048 → corner_in ix n m steps at s ≡ corner_exists look (cycle_of m (drop at steps)) s
  corner_is zero h = refl
  corner_is (suc m) h = ap (λ (b : Bool). cond b (eqb s 0) (inside m h)) (ne_eqb (suc m) 0 (λ e. omega arith)) ∙ inside_is m h (ltb s (suc m)) refl

alone_is : (m : ℕ) (st : List ℕ) → alone_in (cycle_of m st) ≡ cond (eqb m 0) 1 0
alone_is zero st = refl
alone_is (suc m) st = sym (ap (λ (b : Bool). cond b 1 0) (ne_eqb (suc m) 0 (λ e. omega arith)))

-- ---- of spans in two arrays; i is c
pub lone_small : (cycles : List ℕ) (t : Spans) (c : ℕ) → lone_count cycles t c ≤ 1
lone_small cycles t c = go (eqb (get_or cycles (t.cycles.first + c) 0) 0)
  where
    go : (b : Bool) → cond b 1 0 ≤ 1
    go true = omega arith
    go false = omega arith

pub is_lone_lem : (cycles : List ℕ) (t : Spans) (c i : ℕ) → i ≡ c → (b : Bool) → eqb (get_or cycles (t.cycles.first + i) 0) 0 ≡ b
    → cond b 1 0 ≡ lone_count cycles t c
is_lone_lem cycles t c i e b eb = ap (λ (q : Bool). cond q 1 0) (sym eb) ∙ ap (lone_count cycles t) e

-- what questions 7 and 8 say, from the bends b and the lone vertices of the cycles
module _ (next : ℕ) (t : Totals) (cycles : List ℕ) (s : Spans) (c1 c2 k : ℕ) where
  abbrev one_no : ℕ → ℕ → ℕ
  one_no b n = late_no next 2 (changed_by (sizes_by t) (more_less (sized 2 1 2 b) (sized 0 0 n 0)))

  abbrev two_no : ℕ → ℕ → ℕ
  two_no b n = late_no next 1 (changed_by (sizes_by t) (more_less (sized 1 0 2 b) (sized 0 1 n 0)))

  abbrev no_by : Bool → ℕ
  no_by q = cond q (one_no k (lone_count cycles s c1)) (two_no k (lone_count cycles s c1 + lone_count cycles s c2))

  module _ (b n : ℕ) (eb : b ≡ k) (en : n ≡ lone_count cycles s c1) where
    pub one_no_lem : c1 ≡ c2 → (r : ℕ) → r ≡ one_no b n → r ≡ cut_no next t cycles s c1 c2 k
    one_no_lem e r er = er ∙ ap₂ one_no eb en ∙ sym (ap no_by (eq-eqb c1 c2 e))

    pub two_no_lem : (c1 ≡ c2 → ⊥) → (m : ℕ) → m ≡ lone_count cycles s c2 → (r : ℕ) → r ≡ two_no b (n + m) → r ≡ cut_no next t cycles s c1 c2 k
    two_no_lem e m em r er = er ∙ ap₂ two_no eb (ap₂ ◌+◌ en em) ∙ sym (ap no_by (ne_eqb c1 c2 e))

  pub no_of_one : eqb c1 c2 ≡ true → cut_no next t cycles s c1 c2 k ≡ one_no k (lone_count cycles s c1)
  no_of_one e = ap no_by e

  pub no_of_two : eqb c1 c2 ≡ false → cut_no next t cycles s c1 c2 k ≡ two_no k (lone_count cycles s c1 + lone_count cycles s c2)
  no_of_two e = ap no_by e

module _ (cycles steps : List ℕ) (t : Spans) (c i : ℕ) (e : i ≡ c) (ix : Index) (n : ℕ) where
  pub no_cycle_lem : t.cycles.count ≤ i → (k : ℕ) → false ≡ corner_at ix n cycles steps t c k
  no_cycle_lem h k = rw (le-ltb c t.cycles.count (omega arith))

  module _ (w : Within cycles steps t) (h : i < t.cycles.count) where
    pub place_asks : (length cycles ≡ 512) × ((t.cycles.first + i ≤ 512) × (t.steps.first + width_sum (take i (drop t.cycles.first cycles)) ≤ 2048))
    place_asks =
        let p = place_room cycles steps t w i h in
        let m = w.in_cycles in
        (w.cycles_size, (omega arith, omega arith))

    module _ (at : ℕ) (ea : at ≡ t.steps.first + width_sum (take i (drop t.cycles.first cycles))) where
      pub corner_at_lem : (k : ℕ) (b : Bool) → b ≡ corner_in ix n (get_or cycles (t.cycles.first + i) 0) steps at k → b ≡ corner_at ix n cycles steps t c k
      corner_at_lem k b eb =
          eb ∙ ap (λ (a : ℕ). corner_in ix n (get_or cycles (t.cycles.first + i) 0) steps a k) ea
          ∙ ap (λ (q : Bool). q && corner_in ix n (get_or cycles (t.cycles.first + i) 0) steps
          (t.steps.first + width_sum (take i (drop t.cycles.first cycles))) k) (sym (lt-ltb i t.cycles.count h))
          ∙ ap (λ (a : ℕ). corner_at ix n cycles steps t a k) e

-- ---- of a face
module _ (d : Drawing) (z : Sizes d) (ix : Index) (f : ℕ) (m : Named d ix f) where
  abbrev look : Look
  look = cell_at (sheet_of d)

  abbrev ks : List Cycle
  ks = cycles_of (look f)

  seen : Looks d ix
  seen = looks_in d z m.fits ix m.index m.rising

  module _ (t : Spans) (s : Spanned d f t) where
    many_cycles : length ks ≡ t.cycles.count
    many_cycles = sym (ap length s.list) ∙ at_length d.cycles d.steps t s.within

    cycle_is : (c : ℕ) → c < t.cycles.count → get_or ks c no_cycle
        ≡ cycle_of (get_or d.cycles (t.cycles.first + c) 0) (drop (t.steps.first + width_sum (take c (drop t.cycles.first d.cycles))) d.steps)
    cycle_is c h = ap (λ (l : List Cycle). get_or l c no_cycle) (sym s.list) ∙ place_cycle d.cycles d.steps t s.within c h

    pub corner_told : (c k : ℕ) (b : Bool) → b ≡ corner_at ix d.count d.cycles d.steps t c k → b ≡ corner_on look ks c k
    corner_told c k b eb = eb ∙ go (ltb c t.cycles.count) refl
      where
        go : (q : Bool) → ltb c t.cycles.count ≡ q → corner_at ix d.count d.cycles d.steps t c k ≡ corner_on look ks c k
        go true e =
            let h = ltb-true c t.cycles.count e in
            let at = t.steps.first + width_sum (take c (drop t.cycles.first d.cycles)) in
            let r = place_room d.cycles d.steps t s.within c h in
            ap₂ ◌&&◌ (ap (ltb c) (sym many_cycles))
            (corner_is look ix d.count (open_at seen) d.steps s.within.steps_size at k (get_or d.cycles (t.cycles.first + c) 0) (omega arith)
            ∙ ap (λ (y : Cycle). corner_exists look y k) (sym (cycle_is c h)))
        go false e = rw (many_cycles, e)

    pub lone_asks : (c : ℕ) → c < length ks → t.cycles.first + c < 512
    lone_asks c h = let l = many_cycles in let n = s.within.in_cycles in omega arith

    pub lone_told : (c : ℕ) → c < length ks → (n : ℕ) → n ≡ lone_count d.cycles t c → n ≡ alone_in (get_or ks c no_cycle)
    lone_told c h n e = let l = many_cycles in e ∙ sym (ap alone_in (cycle_is c (omega arith)) ∙ alone_is (get_or d.cycles (t.cycles.first + c) 0) _)

-- ---- the moved cycles
empty_is : (xs : List ℕ) → is_empty xs ≡ eqb (length xs) 0
empty_is [] = refl
empty_is (x ∷ xs) = sym (ne_eqb (suc (length xs)) 0 (λ e. omega arith))

module _ (script : List ℕ) (place moved : ℕ) (s : Stand read_number script place moved) (k c1 c2 : ℕ) where
  abbrev ms : List ℕ
  ms = numbers_read script place moved

  pub none_moved : eqb c1 c2 ≡ false → eqb moved 0 ≡ moved_fit k c1 c2 ms
  none_moved e = ap (λ (n : ℕ). eqb n 0) (sym (times_length read_number moved (drop place script) (drop s.end script) ms s.reach.read))
      ∙ sym (empty_is ms) ∙ rw e

  pub not_rising : eqb c1 c2 ≡ true → places 0 ms k ≡ false → false ≡ moved_fit k c1 c2 ms
  not_rising e g = rw (e, g)

  pub rising_without : eqb c1 c2 ≡ true → places 0 ms k ≡ true → not (holds c1 ms) ≡ moved_fit k c1 c2 ms
  rising_without e g = rw (e, g)

-- ---- question 5 in parts
module _ (look : Look) (ks : List Cycle) (c1 s1 c2 s2 : ℕ) (ms : List ℕ) where
  corners_parts : cut_corners look ks c1 s1 c2 s2 ms ≡ (corner_on look ks c1 s1 && (corner_on look ks c2 s2 && moved_fit (length ks) c1 c2 ms))
  corners_parts = go (ltb c1 (length ks)) (ltb c2 (length ks)) (corner_exists look (get_or ks c1 no_cycle) s1) (corner_exists look (get_or ks c2 no_cycle) s2)
      (moved_fit (length ks) c1 c2 ms)
    where
      go : (a b x y p : Bool) → (a && (b && (x && (y && p)))) ≡ ((a && x) && ((b && y) && p))
      go false b x y p = refl
      go true false false y p = refl
      go true false true y p = refl
      go true true x y p = refl

  -- what was answered of each corner
  module _ (a : Bool) (ea : a ≡ corner_on look ks c1 s1) where
    pub first_missing : not a ≡ true → false ≡ cut_corners look ks c1 s1 c2 s2 ms
    first_missing n = sym (corners_parts ∙ rw (sym ea ∙ not-true a n))

    module _ (na : not a ≡ false) (b : Bool) (eb : b ≡ corner_on look ks c2 s2) where
      pub second_missing : not b ≡ true → false ≡ cut_corners look ks c1 s1 c2 s2 ms
      second_missing n = sym (corners_parts ∙ rw (sym ea ∙ not-false a na, sym eb ∙ not-true b n))

      pub both_there : not b ≡ false → (k : ℕ) → k ≡ length ks → (r : Bool) → r ≡ moved_fit k c1 c2 ms → r ≡ cut_corners look ks c1 s1 c2 s2 ms
      both_there nb k ek r er = er ∙ ap (λ (n : ℕ). moved_fit n c1 c2 ms) ek ∙ sym (corners_parts ∙ rw (sym ea ∙ not-false a na, sym eb ∙ not-false b nb))
