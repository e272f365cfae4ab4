-- Ties that are joined one after another: a cell's to its ends and to its cycles. Assumes nothing.
use Prim.Native.Nat.{ℕ, zero, suc, ◌+◌, ◌-◌, ◌/◌, ◌<◌, ◌≤◌}
use native.Mathlib.Omega.{arith}
use mathlib.Core.Path.{◌≡◌, refl, sym, ap, ap₂, ◌∙◌, subst}
use mathlib.Core.Bool.{Bool, cond}
use mathlib.Core.List.{List, [], ◌∷◌, ◌++◌, map, append-nil, append_assoc}
use lib.Dec.{T, eqb, eqb_refl}
use borrow.Author.Tests.{eq-eqb, ne_eqb}
use lib.ListN.{length, take, drop, get_or, length-drop, length-map}
use lib.Seq.{length-take-le, get_or-take, get_or-drop, take-take}
use Rattle.complex.specs.Groups.{is_in}
use Rattle.complex.specs.Sound.{cells_most, steps_most}
use Rattle.complex.specs.Cells.{Cycle, lone}
use Rattle.complex.specs.Pieces.{Link, link}
use Rattle.complex.proofs.Bools.{or_left, or_right}
use Rattle.complex.proofs.Every.{Every, every_place}
use Rattle.complex.proofs.Ties.{anchor}
use Rattle.store.specs.View.{width, width_sum, cycle_of, cycles_from}
use Rattle.store.specs.Index.{row_of}
use Rattle.store.proofs.Lists.{map_append, map_place}
use Rattle.store.proofs.Encode.{cycle_at_lem, length_cycles}
use Rattle.rows_pieces.specs.Ways.{Leads, Joins}
use Rattle.rows_pieces.specs.Merging.{Merged}
use Rattle.rows_pieces.proofs.Merging.{row_in, merged_more, merged_enough}
use Rattle.rows_sides.proofs.Passing.{cycles_more, from_more, from_within}
use Rattle.call_pieces.specs.Tying.{Finds, Some, Grown, anchor_in, anchors_in}

-- ---- ties one after another
module _ (is up : List ℕ) (n i : ℕ) where
  pub grown_none : Grown is up n i [] up n
  grown_none ls M = subst (λ (ks : List Link). Merged is up ks n) (sym (append-nil ls)) M

  pub grown_then : (js ks : List ℕ) (up' : List ℕ) (m : ℕ) (up'' : List ℕ) (l : ℕ) → Grown is up n i js up' m → Grown is up' m i ks up'' l
      → Grown is up n i (js ++ ks) up'' l
  grown_then js ks up' m up'' l g h ls M =
      subst (λ (us : List Link). Merged is up'' us l)
      (append_assoc ls (map (link i) js) (map (link i) ks) ∙ ap (λ (us : List Link). ls ++ us) (sym (map_append (link i) js ks)))
      (h (ls ++ map (link i) js) (g ls M))

  pub some_then : (js up' : List ℕ) (m : ℕ) → Some is up n → Grown is up n i js up' m → Some is up' m
  some_then js up' m s g = (s.0 ++ map (link i) js, g s.0 s.1)

-- ---- one tie, between the rows of two ids
module _ (n : ℕ) (table is up : List ℕ) (F : Finds n table is) (left : ℕ) (s : Some (take n is) up left) where
  rows_long : length (take n is) ≡ n
  rows_long = length-take-le n is (omega (arith, F.table.few, F.table.ids))

  -- what joining two rows asks for
  pub tie_size : length up ≡ cells_most
  tie_size = s.1.size

  pub tie_leads : (r : ℕ) → r < n → Leads (r + 1) up
  tie_leads r h q k = s.1.leads q (omega (arith, rows_long))

  pub tie_row : (j : ℕ) → T (is_in eqb (take n is) j) → row_of j (take n is) < n
  tie_row j t = omega (arith, (row_in (take n is) j t).0, rows_long)

  module _ (row : ℕ) (h : row < n) (j : ℕ) (t : T (is_in eqb (take n is) j)) (other c : ℕ) (e : other ≡ row_of j (take n is)) (up' : List ℕ)
      (J : Joins row other up c up') where
    -- the row's own id
    own : T (is_in eqb (take n is) (get_or is row 0))
    own = subst (λ (x : ℕ). T (is_in eqb (take n is) x)) (get_or-take n is row 0 h) (there (take n is) row (omega (arith, rows_long)))
      where
        there : (l : List ℕ) (r : ℕ) → r < length l → T (is_in eqb l (get_or l r 0))
        there [] r k = absurd (omega arith)
        there (x ∷ l) zero k = or_left (eqb x x) (is_in eqb l x) (eqb_refl x)
        there (x ∷ l) (suc r) k = or_right (eqb (get_or l r 0) x) (is_in eqb l (get_or l r 0)) (there l r (omega arith))

    joins : Joins (row_of (get_or is row 0) (take n is)) (row_of j (take n is)) up c up'
    joins = subst (λ (x : ℕ). Joins x (row_of j (take n is)) up c up') (F.rows row h) (subst (λ (y : ℕ). Joins row y up c up') e J)

    pub tie_enough : c ≤ left
    tie_enough = merged_enough (take n is) up s.0 left s.1 F.once (get_or is row 0) j own t c up' joins

    pub tie_grown : Grown (take n is) up left (get_or is row 0) (j ∷ []) up' (left - c)
    tie_grown ls M = merged_more (take n is) up ls left M F.once (get_or is row 0) j own t c up' joins

-- ---- the ties of an open edge, and of the other kinds
module _ (kind start end : ℕ) (ks : List Cycle) where
  edge_names : kind ≡ 1 → anchors_in kind start end ks ≡ start ∷ end ∷ []
  edge_names e = ap (λ (b : Bool). cond b (start ∷ end ∷ []) (map anchor ks)) (eq-eqb kind 1 e)

  other_names : (kind ≡ 1 → ⊥) → anchors_in kind start end ks ≡ map anchor ks
  other_names n = ap (λ (b : Bool). cond b (start ∷ end ∷ []) (map anchor ks)) (ne_eqb kind 1 n)

  pub edge_named : (Q : ℕ → Type 0) → kind ≡ 1 → Every Q (anchors_in kind start end ks) → Q start × Q end
  edge_named Q e q = let p = subst (Every Q) (edge_names e) q in (p.0, p.1.0)

  pub other_named : (Q : ℕ → Type 0) → (kind ≡ 1 → ⊥) → Every Q (anchors_in kind start end ks) → Every Q (map anchor ks)
  other_named Q n q = subst (Every Q) (other_names n) q

  module _ (is up : List ℕ) (n i : ℕ) where
    pub edge_grown : kind ≡ 1 → (up' : List ℕ) (m : ℕ) (up'' : List ℕ) (l : ℕ) → Grown is up n i (start ∷ []) up' m → Grown is up' m i (end ∷ []) up'' l
        → Grown is up n i (anchors_in kind start end ks) up'' l
    edge_grown e up' m up'' l g h =
        subst (λ (js : List ℕ). Grown is up n i js up'' l) (sym (edge_names e)) (grown_then is up n i (start ∷ []) (end ∷ []) up' m up'' l g h)

    pub other_grown : (kind ≡ 1 → ⊥) → (up'' : List ℕ) (l : ℕ) → Grown is up n i (map anchor ks) up'' l → Grown is up n i (anchors_in kind start end ks) up'' l
    other_grown d up'' l g = subst (λ (js : List ℕ). Grown is up n i js up'' l) (sym (other_names d)) g

-- ---- the ties of a face's cycles
pub anchor_at : (c : ℕ) (l : List ℕ) → 0 < length l → anchor (cycle_of c l) ≡ anchor_in c (get_or l 0 0)
anchor_at c [] h = absurd (omega arith)
anchor_at zero (x ∷ l) h = refl
anchor_at (suc c) (x ∷ l) h = sym (ap (λ (b : Bool). cond b x (x / 2)) (ne_eqb (suc c) 0 (omega arith)))

-- a cycle has a place
pub width_some : (c : ℕ) → 1 ≤ width c
width_some zero = omega arith
width_some (suc c) = omega arith

-- after j cycles
pub record Tying (is : List ℕ) (up : List ℕ) (n i : ℕ) (ns st : List ℕ) (from j : ℕ) (up' : List ℕ) (rest at : ℕ) : Type 0 where
  pub grown : Grown is up n i (map anchor (cycles_from (take j ns) (drop from st))) up' rest
  pub at_is : at ≡ from + width_sum (take j ns)

module _ (is up : List ℕ) (n i : ℕ) (ns st : List ℕ) (from : ℕ) where
  pub tying_none : Tying is up n i ns st from 0 up n from
  tying_none = record { grown = grown_none is up n i; at_is = omega arith }

  module _ (j : ℕ) (up' : List ℕ) (rest at : ℕ) (W : Tying is up n i ns st from j up' rest at) (h : j < length ns) (c : ℕ) (e : c ≡ get_or ns j 0) where
    -- the steps of the next cycle are there
    pub tying_within : (k : ℕ) → j < k → k ≤ length ns → from + width_sum (take k ns) ≤ steps_most → at + width c ≤ steps_most
    tying_within k l m r = omega (arith, W.at_is, from_within ns j k (width_sum (take j ns)) c m l refl e)

    -- and so is its first one
    module _ (long : length st ≡ steps_most) (room : at + width c ≤ steps_most) where
      first_is : get_or (drop (width_sum (take j ns)) (drop from st)) 0 0 ≡ get_or st at 0
      first_is =
          get_or-drop (width_sum (take j ns)) (drop from st) 0 0 ∙ get_or-drop from st (width_sum (take j ns) + 0) 0
          ∙ ap (λ (m : ℕ). get_or st m 0) (omega (arith, W.at_is))

      pub tying_anchor : anchor (cycle_of c (drop (width_sum (take j ns)) (drop from st))) ≡ anchor_in c (get_or st at 0)
      tying_anchor =
          anchor_at c (drop (width_sum (take j ns)) (drop from st))
          (omega (arith, length-drop (width_sum (take j ns)) (drop from st), length-drop from st, width_some c, W.at_is, long, room))
          ∙ ap (anchor_in c) first_is

      -- it is tied, too
      pub tying_turn : (up'' : List ℕ) (less : ℕ) (b : ℕ) → b ≡ anchor_in c (get_or st at 0) → Grown is up' rest i (b ∷ []) up'' less → (w : ℕ) → w ≡ width c
          → Tying is up n i ns st from (j + 1) up'' less (at + w)
      tying_turn up'' less b f g w q =
          record {
            grown = subst (λ (js : List ℕ). Grown is up n i js up'' less) joined
                (grown_then is up n i (map anchor (cycles_from (take j ns) (drop from st))) (b ∷ []) up' rest up'' less W.grown g);
            at_is = omega (arith, W.at_is, q, from_more ns j (width_sum (take j ns)) c h refl e);
          }
        where
          joined : map anchor (cycles_from (take j ns) (drop from st)) ++ (b ∷ []) ≡ map anchor (cycles_from (take (j + 1) ns) (drop from st))
          joined =
              ap (λ (x : ℕ). map anchor (cycles_from (take j ns) (drop from st)) ++ (x ∷ [])) (f ∙ sym tying_anchor)
              ∙ sym (map_append anchor (cycles_from (take j ns) (drop from st)) (cycle_of c (drop (width_sum (take j ns)) (drop from st)) ∷ []))
              ∙ ap (map anchor) (sym (cycles_more ns j (width_sum (take j ns)) c (drop from st) h refl e))

      -- what it is tied by is the id of a row
      pub tying_named : (Q : ℕ → Type 0) (k : ℕ) → j < k → k ≤ length ns → Every Q (map anchor (cycles_from (take k ns) (drop from st))) → (b : ℕ)
          → b ≡ anchor_in c (get_or st at 0) → Q b
      tying_named Q k l m q b f =
          let ys = cycles_from (take k ns) (drop from st) in
          let z : length ys ≡ k = length_cycles (take k ns) (drop from st) ∙ length-take-le k ns m in
          subst Q (here ∙ tying_anchor ∙ sym f) (every_place Q (map anchor ys) j 0 q (omega (arith, z, length-map ys anchor)))
        where
          here : get_or (map anchor (cycles_from (take k ns) (drop from st))) j 0 ≡ anchor (cycle_of c (drop (width_sum (take j ns)) (drop from st)))
          here =
              let ys = cycles_from (take k ns) (drop from st) in
              let z : length ys ≡ k = length_cycles (take k ns) (drop from st) ∙ length-take-le k ns m in
              map_place anchor ys j (lone 0) 0 (omega (arith, z))
              ∙ ap anchor (cycle_at_lem (take k ns) (drop from st) j (lone 0) (omega (arith, length-take-le k ns m))
              ∙ ap₂ (λ (x : ℕ) (l : List ℕ). cycle_of x (drop (width_sum l) (drop from st))) (get_or-take k ns j 0 l ∙ sym e) (take-take j k ns (omega arith)))
