-- Numbers that go to another place of their own array, and others put before them. Assumes nothing.
use Prim.Native.Nat.{ℕ, suc, ◌+◌, ◌-◌, ◌<◌, ◌≤◌}
use mathlib.Core.Path.{◌≡◌, refl, ap, ap₂, sym, subst, ◌∙◌}
use mathlib.Core.List.{List, [], ◌∷◌, ◌++◌, append_assoc}
use native.Mathlib.Omega.{arith}
use native.Mathlib.Numerals.{add-one}
use lib.ListN.{length, take, drop, get_or, set, length-set, length-drop, length-append, replicate, length-replicate}
use lib.Seq.{take-add, take-take, drop-drop, drop-cons, take-suc, take-suc-set, take-set-le, drop-set-lt, get_or-take, get_or-drop, get_or-set_same, length-take-le}
use lib.Seq.{paste, take-paste, drop-paste, length-paste, take_all, take_at, drop_at}
use Rattle.complex.specs.Lists.{total}
use Rattle.store.specs.Edits.{places_of}
use Rattle.rows_spans.specs.declared.Span.{Span}
use Rattle.rows_spans.specs.declared.Spans.{Spans}
use Rattle.rows_spans.specs.Runs.{span_of, row_span, spans_of, Spliced}
use Rattle.rows_spans.proofs.Splicing.{run_take, span_sum}
use Rattle.answer.specs.declared.Totals.{Totals}
use Rattle.kernel_cycles.specs.Replacing.{Moved, RowCounted, and_one}

pub moved_none : (l : List ℕ) (from n to : ℕ) → from ≡ to → Moved l from n to l
moved_none l from n to e = record { size = refl; front = λ k h g. refl; run = ap (λ (i : ℕ). take n (drop i l)) (sym e) }

-- ---- to a later place: the last n - i numbers have gone
pub record GoingBack (old : List ℕ) (from n to i : ℕ) (l : List ℕ) : Type 0 where
  pub le : i ≤ n
  pub size : length l ≡ length old
  pub front : take (to + i) l ≡ take (to + i) old
  pub run : take (n - i) (drop (to + i) l) ≡ take (n - i) (drop (from + i) old)

pub back_start : (old : List ℕ) (from n to : ℕ) → GoingBack old from n to n old
back_start old from n to =
    let z : 0 ≡ n - n = omega arith in
    record { le = omega arith; size = refl; front = refl; run = subst (λ (k : ℕ). take k (drop (to + n) old) ≡ take k (drop (from + n) old)) z refl }

pub back_turn : (old : List ℕ) (from n to i k : ℕ) (l : List ℕ) → from ≤ to → to + n ≤ length old → i ≡ k + 1 → GoingBack old from n to i l
    → GoingBack old from n to k (set l (to + k) (get_or l (from + k) 0))
back_turn old from n to i k l b h e p =
    let v = get_or l (from + k) 0 in
    let l' = set l (to + k) v in
    let s = p.size in
    let w = p.le in
    let m : n - k ≡ suc (n - i) = omega arith in
    let same : v ≡ get_or old (from + k) 0 =
    sym (get_or-take (to + i) l (from + k) 0 (omega arith)) ∙ ap (λ (q : List ℕ). get_or q (from + k) 0) p.front
    ∙ get_or-take (to + i) old (from + k) 0 (omega arith) in
    let z : suc (to + k) ≡ to + i = omega arith in
    let y : suc (from + k) ≡ from + i = omega arith in
    let a : drop (to + k) l' ≡ v ∷ drop (to + i) l =
    drop-cons l' (to + k) 0 (omega (arith, length-set l (to + k) v))
    ∙ ap₂ (λ (x : ℕ) (q : List ℕ). x ∷ q) (get_or-set_same l (to + k) v 0 (omega arith))
    (drop-set-lt (suc (to + k)) l (to + k) v (omega arith) ∙ ap (λ (q : ℕ). drop q l) z) in
    let c : drop (from + k) old ≡ get_or old (from + k) 0 ∷ drop (from + i) old =
    drop-cons old (from + k) 0 (omega arith) ∙ ap (λ (q : ℕ). get_or old (from + k) 0 ∷ drop q old) y in
    record {
      le = omega arith;
      size = length-set l (to + k) v ∙ p.size;
      front =
          take-set-le (to + k) l (to + k) v (omega arith) ∙ sym (take-take (to + k) (to + i) l (omega arith)) ∙ ap (take (to + k)) p.front
          ∙ take-take (to + k) (to + i) old (omega arith);
      run = ap₂ take m a ∙ ap₂ (λ (x : ℕ) (q : List ℕ). x ∷ q) same p.run ∙ sym (ap₂ take m c);
    }

pub back_end : (old : List ℕ) (from n to : ℕ) (l : List ℕ) → GoingBack old from n to 0 l → Moved old from n to l
back_end old from n to l p =
    let a : to ≡ to + 0 = omega arith in
    let c : from ≡ from + 0 = omega arith in
    let b : n ≡ n - 0 = omega arith in
    record {
      size = p.size;
      front = λ k h g. sym (take-take k (to + 0) l (omega arith)) ∙ ap (take k) p.front ∙ take-take k (to + 0) old (omega arith);
      run = ap₂ (λ (x y : ℕ). take x (drop y l)) b a ∙ p.run ∙ sym (ap₂ (λ (x y : ℕ). take x (drop y old)) b c);
    }

-- ---- to an earlier place: the first i numbers have gone
pub record GoingForth (old : List ℕ) (from n to i : ℕ) (l : List ℕ) : Type 0 where
  pub le : i ≤ n
  pub size : length l ≡ length old
  pub front : take (to + i) l ≡ take to old ++ take i (drop from old)
  pub rest : drop (to + i) l ≡ drop (to + i) old

pub forth_start : (old : List ℕ) (from n to : ℕ) → GoingForth old from n to 0 old
forth_start old from n to =
    record { le = omega arith; size = refl; front = take-add to 0 old; rest = refl }

pub forth_turn : (old : List ℕ) (from n to i : ℕ) (l : List ℕ) → to ≤ from → from + n ≤ length old → i < n → GoingForth old from n to i l
    → GoingForth old from n to (i + 1) (set l (to + i) (get_or l (from + i) 0))
forth_turn old from n to i l b h k p =
    let v = get_or l (from + i) 0 in
    let l' = set l (to + i) v in
    let s = p.size in
    let j : ℕ = from - to in
    let u : from + i ≡ to + i + j = omega arith in
    let same : v ≡ get_or old (from + i) 0 =
    ap (λ (x : ℕ). get_or l x 0) u ∙ sym (get_or-drop (to + i) l j 0) ∙ ap (λ (q : List ℕ). get_or q j 0) p.rest ∙ get_or-drop (to + i) old j 0
    ∙ ap (λ (x : ℕ). get_or old x 0) (sym u) in
    let z : to + (i + 1) ≡ suc (to + i) = omega arith in
    let y : to + i + 1 ≡ to + (i + 1) = omega arith in
    let r : take (i + 1) (drop from old) ≡ take i (drop from old) ++ (v ∷ []) =
    ap (λ (x : ℕ). take x (drop from old)) (add-one i) ∙ take-suc (drop from old) i 0 (omega (arith, length-drop from old))
    ∙ ap (λ (x : ℕ). take i (drop from old) ++ (x ∷ [])) (get_or-drop from old i 0 ∙ sym same) in
    record {
      le = omega arith;
      size = length-set l (to + i) v ∙ p.size;
      front =
          ap (λ (x : ℕ). take x l') z ∙ take-suc-set l (to + i) v (omega arith) ∙ ap (λ (q : List ℕ). q ++ (v ∷ [])) p.front
          ∙ append_assoc (take to old) (take i (drop from old)) (v ∷ []) ∙ ap (λ (q : List ℕ). take to old ++ q) (sym r);
      rest =
          ap (λ (x : ℕ). drop x l') z ∙ drop-set-lt (suc (to + i)) l (to + i) v (omega arith) ∙ ap (λ (x : ℕ). drop x l) (sym (add-one (to + i)))
          ∙ sym (drop-drop 1 (to + i) l) ∙ ap (drop 1) p.rest ∙ drop-drop 1 (to + i) old ∙ ap (λ (x : ℕ). drop x old) y;
    }

pub forth_end : (old : List ℕ) (from n to : ℕ) (l : List ℕ) → to ≤ from → from + n ≤ length old → GoingForth old from n to n l → Moved old from n to l
forth_end old from n to l b h p =
    let lt : length (take to old) ≡ to = length-take-le to old (omega arith) in
    let lr : length (take n (drop from old)) ≡ n = length-take-le n (drop from old) (omega (arith, length-drop from old)) in
    record {
      size = p.size;
      front =
          λ k g f.
          sym (take-take k (to + n) l (omega arith)) ∙ ap (take k) p.front ∙ sym (take-take k to (take to old ++ take n (drop from old)) f)
          ∙ ap (take k) (take_at (take to old) (take n (drop from old)) to lt) ∙ take-take k to old f;
      run =
          sym (run_take n to (to + n) l (omega arith)) ∙ ap (λ (q : List ℕ). take n (drop to q)) p.front
          ∙ ap (take n) (drop_at (take to old) (take n (drop from old)) to lt) ∙ take_all n (take n (drop from old)) (omega arith);
    }

-- ---- the run replaced: what follows it goes to its place, and then the new numbers are put before it
module _ (old new mid out : List ℕ) (s : Span) (n : ℕ) (ho : s.first + s.count + s.rest ≤ length old) (hn : n ≤ length new)
    (h : s.first + n + s.rest ≤ length old)
    (m : Moved old (s.first + s.count) s.rest (s.first + n) mid) (e : out ≡ paste mid s.first new n) where
  pub moved_spliced : Spliced old s new n out
  moved_spliced =
      let z = m.size in
      record {
        front =
            ap (take (s.first + n + s.rest)) e ∙ take-add (s.first + n) s.rest (paste mid s.first new n)
            ∙ ap₂ (λ (x y : List ℕ). x ++ y)
            (take-paste mid s.first new n (omega arith) hn ∙ ap (λ (q : List ℕ). q ++ take n new) (m.front s.first (omega arith) (omega arith)))
            (ap (take s.rest) (drop-paste mid s.first new n (omega arith) hn) ∙ m.run)
            ∙ append_assoc (take s.first old) (take n new) (take s.rest (drop (s.first + s.count) old));
      }

-- ---- one number more after the run: what follows it goes one place further
module _ (old : List ℕ) (s : Span) (x : ℕ) where
  run_one : s.first + s.count ≤ length old → length (take s.count (drop s.first old) ++ (x ∷ [])) ≡ s.count + 1
  run_one h =
      let r = take s.count (drop s.first old) in
      let l : length r ≡ s.count = length-take-le s.count (drop s.first old) (omega (arith, length-drop s.first old)) in
      length-append r (x ∷ []) ∙ omega (arith, l)

  pub moved_one : (mid : List ℕ) → s.first + s.count + s.rest < length old → Moved old (s.first + s.count) s.rest (s.first + s.count + 1) mid
      → Spliced old s (take s.count (drop s.first old) ++ (x ∷ [])) (s.count + 1) (set mid (s.first + s.count) x)
  moved_one mid h m =
      let at : ℕ = s.first + s.count in
      let z = m.size in
      let r = take s.count (drop s.first old) in
      let out = set mid at x in
      let k : s.first + (s.count + 1) + s.rest ≡ suc at + s.rest = omega arith in
      let front : take (suc at) out ≡ take s.first old ++ (r ++ (x ∷ [])) =
      take-suc-set mid at x (omega arith) ∙ ap (λ (q : List ℕ). q ++ (x ∷ [])) (m.front at (omega arith) (omega arith) ∙ take-add s.first s.count old)
      ∙ append_assoc (take s.first old) r (x ∷ []) in
      let back : take s.rest (drop (suc at) out) ≡ take s.rest (drop at old) =
      ap (take s.rest) (drop-set-lt (suc at) mid at x (omega arith)) ∙ ap (λ (q : ℕ). take s.rest (drop q mid)) (sym (add-one at)) ∙ m.run in
      record {
        front =
            ap (λ (q : ℕ). take q out) k ∙ take-add (suc at) s.rest out ∙ ap₂ (λ (a b : List ℕ). a ++ b) front back
            ∙ append_assoc (take s.first old) (r ++ (x ∷ [])) (take s.rest (drop at old))
            ∙ ap (λ (q : List ℕ). take s.first old ++ (q ++ take s.rest (drop at old)))
            (sym (take_all (s.count + 1) (r ++ (x ∷ [])) (omega (arith, run_one (omega arith)))));
      }

  -- the same numbers at the front of a longer list
  pub one_front : (most : ℕ) → s.count < most → s.first + s.count ≤ length old
      → take (s.count + 1) (and_one most old s x) ≡ take s.count (drop s.first old) ++ (x ∷ [])
  one_front most h f =
      let zs : List ℕ = replicate most 0 in
      let src = drop s.first old in
      let lz : length zs ≡ most = length-replicate most 0 in
      let ls : s.count ≤ length src = omega (arith, length-drop s.first old) in
      let e : s.count ≡ 0 + s.count = omega arith in
      ap (λ (k : ℕ). take k (and_one most old s x)) (add-one s.count)
      ∙ take-suc-set (paste zs 0 src s.count) s.count x (omega (arith, length-paste zs 0 src s.count (omega (arith, lz)) ls, lz))
      ∙ ap (λ (q : List ℕ). q ++ (x ∷ [])) (ap (λ (k : ℕ). take k (paste zs 0 src s.count)) e ∙ take-paste zs 0 src s.count (omega arith) ls)

  pub spliced_one : (out : List ℕ) (most : ℕ) → s.count < most → s.first + s.count ≤ length old
      → Spliced old s (take s.count (drop s.first old) ++ (x ∷ [])) (s.count + 1) out → Spliced old s (and_one most old s x) (s.count + 1) out
  spliced_one out most h f p =
      let r = take s.count (drop s.first old) ++ (x ∷ []) in
      record {
        front =
            p.front
            ∙ ap (λ (q : List ℕ). take s.first old ++ (q ++ take s.rest (drop (s.first + s.count) old)))
            (take_all (s.count + 1) r (omega (arith, run_one f)) ∙ sym (one_front most h f));
      }

-- ---- where a run of counts stands, by the sum of all
module _ (z : ℕ) (counts : List ℕ) (first count n all : ℕ) (h : first + count ≤ n) (e : all ≡ total (places_of z) (take n counts)) where
  abbrev run_of : Span
  run_of = record { first = first; count = count; rest = n - (first + count) }

  pub all_in : (span_of z counts run_of).first + (span_of z counts run_of).count + (span_of z counts run_of).rest ≡ all
  all_in =
      let k : first + count + (n - (first + count)) ≡ n = omega arith in
      span_sum z counts run_of ∙ ap (λ (i : ℕ). total (places_of z) (take i counts)) k ∙ sym e

  pub span_known : (a b : ℕ) → a ≡ (span_of z counts run_of).first → b ≡ (span_of z counts run_of).count
      → record { first = a; count = b; rest = all - (a + b) } ≡ span_of z counts run_of
  span_known a b ea eb =
      let q = all_in in
      let r : all - (a + b) ≡ (span_of z counts run_of).rest = omega arith in
      λ i. record { first = ea i; count = eb i; rest = r i }

module _ (counts cycles : List ℕ) (row : ℕ) (t : Totals) (w : RowCounted counts cycles row t) (c : Span)
    (ec : c ≡ span_of 0 counts (row_span t.cells row)) where
  in_all : c.first + c.count + c.rest ≡ t.cycles
  in_all = ap (λ (s : Span). s.first + s.count + s.rest) ec ∙ all_in 0 counts row 1 t.cells t.cycles (let l = w.live in omega arith) w.cycle_sum

  pub within_cycles : c.first + c.count ≤ t.cycles
  within_cycles = let k = in_all in omega arith

  pub spans_known : (s : Span) → s ≡ span_of 1 cycles (record { first = c.first; count = c.count; rest = t.cycles - (c.first + c.count) })
      → record { cycles = c; steps = s } ≡ spans_of counts t.cells row cycles
  spans_known s es =
      let k = in_all in
      let r : t.cycles - (c.first + c.count) ≡ c.rest = omega arith in
      let u : s ≡ span_of 1 cycles (span_of 0 counts (row_span t.cells row)) =
      es ∙ ap (λ (x : ℕ). span_of 1 cycles (record { first = c.first; count = c.count; rest = x })) r ∙ ap (span_of 1 cycles) ec in
      λ i. record { cycles = ec i; steps = u i }
