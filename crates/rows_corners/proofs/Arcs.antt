-- Arcs of a cycle, copied round its end, and its corners. Assumes nothing.
use Prim.Native.Nat.{ℕ, ◌+◌, ◌-◌, ◌/◌, ◌%◌, ◌<◌, ◌≤◌}
use mathlib.Core.Path.{◌≡◌, ap, ap₂, sym, subst, ◌∙◌}
use mathlib.Core.Bool.{false}
use mathlib.Core.List.{List, [], ◌∷◌, ◌++◌, map, append_assoc}
use native.Mathlib.Omega.{arith}
use borrow.Author.Tests.{eq-eqb, ne_eqb, le-ltb, lt-ltb}
use lib.Dec.{eqb}
use lib.ListN.{length, take, drop, get_or, set, length-append, length-drop, length-set}
use lib.Seq.{length-take-le, take_all, take-append-le, take-append-add, take-take, drop-drop, take_at, drop_at, take-set-le, paste, take-paste, length-paste}
use Rattle.complex.specs.Lists.{one, rotated}
use Rattle.complex.specs.Cells.{Halfedge, Cycle, path}
use Rattle.store.specs.declared.Index.{Index}
use Rattle.store.specs.Index.{value_at}
use Rattle.store.specs.View.{halfedge_of}
use Rattle.store.proofs.Lists.{map_append}
use Rattle.rows_spans.specs.declared.Used.{Used}
use Rattle.rows_spans.specs.Building.{Built, built, more_cycle, Closes}
use Rattle.rows_spans.proofs.Building.{built_same}
use Rattle.rows_spans.proofs.Splicing.{run_take, run_set}
use Rattle.rows_corners.specs.Arcs.{arc_of, Arc, Pasted, ArcRoom, corner_in, corner_vertex}
use Rattle.rows_corners.proofs.Lists.{built_as}

-- ---- an arc is one run, or two round the end
module _ (steps : List ℕ) (base n from len : ℕ) (z : length steps ≡ 2048) (c : base + n ≤ 2048) (h : from ≤ n) (l : len ≤ n) where
  abbrev round : List ℕ
  round = take n (drop base steps)

  round_length : length round ≡ n
  round_length = length-take-le n (drop base steps) (omega (arith, length-drop base steps))

  front : (k : ℕ) → from + k ≤ n → take k (drop from round) ≡ take k (drop (base + from) steps)
  front k g = run_take k from n (drop base steps) g ∙ ap (take k) (drop-drop from base steps)

  pub arc_length : length (arc_of steps base n from len) ≡ len
  arc_length =
      let r = round_length in
      let e = length-append (drop from round) (take from round) in
      let a = length-drop from round in
      let b = length-take-le from round (omega arith) in
      length-take-le len (rotated from round) (omega arith)

  arc_short : len ≤ n - from → arc_of steps base n from len ≡ take len (drop (base + from) steps)
  arc_short g =
      let r = round_length in
      let a = length-drop from round in
      take-append-le len (drop from round) (take from round) (omega arith) ∙ front len (omega arith)

  arc_long : n - from ≤ len → arc_of steps base n from len ≡ take (n - from) (drop (base + from) steps) ++ take (len - (n - from)) (drop base steps)
  arc_long g =
      let r = round_length in
      let a = length-drop from round in
      let k = len - (n - from) in
      let e : len ≡ length (drop from round) + k = omega arith in
      ap (λ (i : ℕ). take i (rotated from round)) e ∙ take-append-add (drop from round) (take from round) k
      ∙ ap₂ (λ (x y : List ℕ). x ++ y)
      (sym (take_all (n - from) (drop from round) (omega arith)) ∙ front (n - from) (omega arith))
      (take-take k from round (omega arith) ∙ take-take k n (drop base steps) (omega arith))

module _ (steps : List ℕ) (base n from len : ℕ) (out : List ℕ) (at : ℕ) (a : Arc steps base n from len out at) where
  abbrev arc : List ℕ
  arc = arc_of steps base n from len

  length_is : length arc ≡ len
  length_is = arc_length steps base n from len a.steps_size a.cycle a.start a.least

  pub pasted_short : len ≤ n - from → (st : List ℕ) → st ≡ paste out at (drop (base + from) steps) len → Pasted out at arc st
  pasted_short g st e =
      let zs = a.steps_size in
      let c = a.cycle in
      let h = a.start in
      let r = a.room in
      let d = length-drop (base + from) steps in
      record {
        size = ap length e ∙ length-paste out at (drop (base + from) steps) len (omega arith) (omega arith);
        front =
            ap₂ (λ (k : ℕ) (q : List ℕ). take (at + k) q) length_is e ∙ take-paste out at (drop (base + from) steps) len (omega arith) (omega arith)
            ∙ ap (λ (q : List ℕ). take at out ++ q) (sym (arc_short steps base n from len zs c h a.least g));
      }

  pub pasted_long : n - from < len → (mid st : List ℕ) (end : ℕ) → end ≡ at + (n - from) → mid ≡ paste out at (drop (base + from) steps) (n - from)
      → st ≡ paste mid end (drop base steps) (len - (n - from))
      → Pasted out at arc st
  pasted_long g mid st end ee em e =
      let zs = a.steps_size in
      let c = a.cycle in
      let h = a.start in
      let w = a.least in
      let r = a.room in
      let d = length-drop (base + from) steps in
      let b = length-drop base steps in
      let lm : length mid ≡ length out = ap length em ∙ length-paste out at (drop (base + from) steps) (n - from) (omega arith) (omega arith) in
      let li = length_is in
      let s : at + length arc ≡ end + (len - (n - from)) = omega arith in
      record {
        size = ap length e ∙ length-paste mid end (drop base steps) (len - (n - from)) (omega arith) (omega arith) ∙ lm;
        front =
            ap₂ take s e ∙ take-paste mid end (drop base steps) (len - (n - from)) (omega arith) (omega arith)
            ∙ ap (λ (q : List ℕ). q ++ take (len - (n - from)) (drop base steps))
            (ap₂ take ee em ∙ take-paste out at (drop (base + from) steps) (n - from) (omega arith) (omega arith))
            ∙ append_assoc (take at out) (take (n - from) (drop (base + from) steps)) (take (len - (n - from)) (drop base steps))
            ∙ ap (λ (q : List ℕ). take at out ++ q) (sym (arc_long steps base n from len zs c h w (omega arith)));
      }

-- ---- an arc and a step as a cycle more
module _ (steps : List ℕ) (base n from len : ℕ) (counts : List ℕ) (u : Used) (out : List ℕ) (a : ArcRoom steps base n from len counts u out) where
  pub arc_asks : Arc steps base n from len out u.steps
  arc_asks =
      let r = a.step_room in
      record { steps_size = a.steps_size; cycle = a.cycle; start = a.start; least = a.least; room = omega arith }

  pub arc_built : (h : ℕ) (mid st counts' : List ℕ) (end : ℕ) (w : Used) → end ≡ u.steps + len → Pasted out u.steps (arc_of steps base n from len) mid
      → st ≡ set mid end h → Closes counts u (len + 1) counts'
      → w ≡ more_cycle u (len + 1) → Built (built counts u out ++ one (path (map halfedge_of (arc_of steps base n from len) ++ one (halfedge_of h)))) counts' w st
  arc_built h mid st counts' end w ee p es c ew =
      let xs = arc_of steps base n from len in
      let j = u.steps in
      let r = a.step_room in
      let zm : length mid ≡ length out = p.size in
      let li = length_is steps base n from len out j arc_asks in
      let lt = length-take-le j out (omega arith) in
      let keep : take j mid ≡ take j out =
      sym (run_take j 0 (j + length xs) mid (omega arith)) ∙ ap (take j) p.front ∙ take_at (take j out) xs j lt
      in
      let put : take len (drop j mid) ≡ xs =
      sym (run_take len j (j + length xs) mid (omega arith)) ∙ ap (λ (q : List ℕ). take len (drop j q)) p.front
      ∙ ap (take len) (drop_at (take j out) xs j lt) ∙ take_all len xs (omega arith)
      in
      let s1 : st ≡ set mid (j + len) h = es ∙ ap (λ (k : ℕ). set mid k h) ee in
      let zt : length st ≡ length out = ap length s1 ∙ length-set mid (j + len) h ∙ zm in
      let kt : take j st ≡ take j out = ap (take j) s1 ∙ take-set-le j mid (j + len) h (omega arith) ∙ keep in
      let b = built_same counts u out a.building st zt kt in
      let t : take (len + 1) (drop j st) ≡ xs ++ (h ∷ []) =
      ap (λ (q : List ℕ). take (len + 1) (drop j q)) s1 ∙ run_set mid j len h (omega arith) ∙ ap (λ (q : List ℕ). q ++ (h ∷ [])) put
      in
      subst (λ (v : Used). Built (built counts u out ++ one (path (map halfedge_of xs ++ one (halfedge_of h)))) counts' v st) (sym ew)
      (built_as
      (ap₂ (λ (l : List Cycle) (q : List Halfedge). l ++ one (path q)) b.list (ap (map halfedge_of) t ∙ map_append halfedge_of xs (h ∷ [])))
      (c.list st b.building (omega arith)))

-- ---- corners
module _ (ix : Index) (n m : ℕ) (steps : List ℕ) (at s : ℕ) where
  pub corner_lone : m ≡ 0 → eqb s 0 ≡ corner_in ix n m steps at s
  corner_lone e = rw (eq-eqb m 0 e)

  pub corner_none : (m ≡ 0 → ⊥) → m ≤ s → false ≡ corner_in ix n m steps at s
  corner_none e h = rw (ne_eqb m 0 e, le-ltb s m h)

  pub corner_found : (m ≡ 0 → ⊥) → s < m → (i k : ℕ) → i ≡ s → k ≡ value_at 4 (take n ix.ids) (take n ix.kinds) (get_or steps (at + i) 0 / 2)
      → eqb k 1 ≡ corner_in ix n m steps at s
  corner_found e h i k ei ek =
      ap (λ (q : ℕ). eqb q 1) (ek ∙ ap (λ (q : ℕ). value_at 4 (take n ix.ids) (take n ix.kinds) (get_or steps (at + q) 0 / 2)) ei)
      ∙ rw (ne_eqb m 0 e, lt-ltb s m h)

  pub vertex_lone : m ≡ 0 → get_or steps at 0 ≡ corner_vertex ix n m steps at s
  vertex_lone e = rw (eq-eqb m 0 e)

  pub vertex_back : (m ≡ 0 → ⊥) → (i k : ℕ) → i ≡ s → get_or steps (at + i) 0 % 2 ≡ 1
      → k ≡ value_at 0 (take n ix.ids) (take n ix.ends) (get_or steps (at + i) 0 / 2) → k ≡ corner_vertex ix n m steps at s
  vertex_back e i k ei g ek =
      ek ∙ ap (λ (q : ℕ). value_at 0 (take n ix.ids) (take n ix.ends) (get_or steps (at + q) 0 / 2)) ei
      ∙ rw (ne_eqb m 0 e, eq-eqb (get_or steps (at + s) 0 % 2) 1 (ap (λ (q : ℕ). get_or steps (at + q) 0 % 2) (sym ei) ∙ g))

  pub vertex_on : (m ≡ 0 → ⊥) → (i k : ℕ) → i ≡ s → (get_or steps (at + i) 0 % 2 ≡ 1 → ⊥)
      → k ≡ value_at 0 (take n ix.ids) (take n ix.starts) (get_or steps (at + i) 0 / 2) → k ≡ corner_vertex ix n m steps at s
  vertex_on e i k ei g ek =
      ek ∙ ap (λ (q : ℕ). value_at 0 (take n ix.ids) (take n ix.starts) (get_or steps (at + q) 0 / 2)) ei
      ∙ rw (ne_eqb m 0 e, ne_eqb (get_or steps (at + s) 0 % 2) 1 (λ q. g (ap (λ (r : ℕ). get_or steps (at + r) 0 % 2) ei ∙ q)))
