-- Marks and new ends, row by row. Assumes nothing.
use Prim.Native.Nat.{ℕ, ◌+◌, ◌*◌, ◌-◌, ◌≤◌, ◌<◌}
use native.Mathlib.Omega.{arith}
use mathlib.Core.Path.{◌≡◌, refl, sym, ap, ◌∙◌}
use mathlib.Core.Bool.{Bool, true, false}
use mathlib.Core.List.{List}
use borrow.Author.Tests.{eqb-true, eqb-false}
use lib.Dec.{eqb}
use lib.ListN.{length, get_or, set, length-set}
use lib.Seq.{get_or-set_same, get_or-set_other}
use Rattle.rows_ends.specs.Ends.{end_mark, EndMarks, end_after, NewEnds, EndRows}
use Rattle.complex.specs.Sound.{ids_end, cells_most}

module _ (kinds starts ends : List ℕ) (v j : ℕ) (at : List Bool) (M : EndMarks kinds starts ends v j at) (h : j * 2 + 1 < length at) (a b : Bool)
    (ea : a ≡ end_mark (get_or kinds j 0) (get_or starts j 0) v) (eb : b ≡ end_mark (get_or kinds j 0) (get_or ends j 0) v) where
  abbrev marked : List Bool
  marked = set (set at (j * 2) a) (j * 2 + 1) b

  off : (p : ℕ) → (p ≡ j * 2 → ⊥) → (p ≡ j * 2 + 1 → ⊥) → get_or marked p false ≡ get_or at p false
  off p n m = get_or-set_other (set at (j * 2) a) (j * 2 + 1) p b false m ∙ get_or-set_other at (j * 2) p a false n

  pub marks_turn : EndMarks kinds starts ends v (j + 1) (set (set at (j * 2) a) (j * 2 + 1) b)
  marks_turn = record { start = start; end = end; rest = λ p l. off p (λ e. omega arith) (λ e. omega arith) ∙ M.rest p (omega arith) }
    where
      start : (i : ℕ) → i < j + 1 → get_or marked (i * 2) false ≡ end_mark (get_or kinds i 0) (get_or starts i 0) v
      start i l = go (eqb i j) refl
        where
          go : (t : Bool) → eqb i j ≡ t → get_or marked (i * 2) false ≡ end_mark (get_or kinds i 0) (get_or starts i 0) v
          go true e =
              let q = eqb-true i j e in
              ap (λ (k : ℕ). get_or marked (k * 2) false) q
              ∙ get_or-set_other (set at (j * 2) a) (j * 2 + 1) (j * 2) b false (λ f. omega arith)
              ∙ get_or-set_same at (j * 2) a false (omega arith) ∙ ea
              ∙ ap (λ (k : ℕ). end_mark (get_or kinds k 0) (get_or starts k 0) v) (sym q)
          go false e = let n = eqb-false i j e in off (i * 2) (λ f. n (omega arith)) (λ f. omega arith) ∙ M.start i (omega arith)

      end : (i : ℕ) → i < j + 1 → get_or marked (i * 2 + 1) false ≡ end_mark (get_or kinds i 0) (get_or ends i 0) v
      end i l = go (eqb i j) refl
        where
          go : (t : Bool) → eqb i j ≡ t → get_or marked (i * 2 + 1) false ≡ end_mark (get_or kinds i 0) (get_or ends i 0) v
          go true e =
              let q = eqb-true i j e in
              ap (λ (k : ℕ). get_or marked (k * 2 + 1) false) q
              ∙ get_or-set_same (set at (j * 2) a) (j * 2 + 1) b false (let s = length-set at (j * 2) a in omega arith) ∙ eb
              ∙ ap (λ (k : ℕ). end_mark (get_or kinds k 0) (get_or ends k 0) v) (sym q)
          go false e = let n = eqb-false i j e in off (i * 2 + 1) (λ f. omega arith) (λ f. n (omega arith)) ∙ M.end i (omega arith)

module _ (side : ℕ) (at : List Bool) (groups : List ℕ) (v next : ℕ) where
  pub ends_start : (old : List ℕ) → NewEnds side at groups v next 0 old old
  ends_start old = record { size = refl; changed = λ i l. absurd (omega arith); rest = λ i l. refl }

  pub ends_turn : (j : ℕ) (old new : List ℕ) → NewEnds side at groups v next j old new → j < length new → (x : ℕ)
      → x ≡ end_after (get_or at (j * 2 + side) false) (get_or groups (j * 2 + side) 0) (get_or new j 0) v next
      → NewEnds side at groups v next (j + 1) old (set new j x)
  ends_turn j old new N h x e =
      record {
        size = length-set new j x ∙ N.size;
        changed = λ i l. go i l (eqb i j) refl;
        rest = λ i l. get_or-set_other new j i x 0 (λ f. omega arith) ∙ N.rest i (omega arith);
      }
    where
      go : (i : ℕ) → i < j + 1 → (t : Bool) → eqb i j ≡ t → get_or (set new j x) i 0 ≡ end_after (get_or at (i * 2 + side) false) (get_or groups (i * 2 + side) 0)
          (get_or old i 0) v next
      go i l true f =
          let q = eqb-true i j f in
          ap (λ (k : ℕ). get_or (set new j x) k 0) q ∙ get_or-set_same new j x 0 h ∙ e
          ∙ ap (λ (k : ℕ). end_after (get_or at (j * 2 + side) false) (get_or groups (j * 2 + side) 0) k v next) (N.rest j (omega arith))
          ∙ ap (λ (k : ℕ). end_after (get_or at (k * 2 + side) false) (get_or groups (k * 2 + side) 0) (get_or old k 0) v next) (sym q)
      go i l false f = let n = eqb-false i j f in get_or-set_other new j i x 0 n ∙ N.changed i (omega arith)

pub end_rows : (side : ℕ) (at : List Bool) (groups : List ℕ) (n next : ℕ) (ends : List ℕ) (g : ℕ) → side ≤ 1 → length at ≡ 512 → length groups ≡ 512
    → ((p : ℕ) → get_or groups p 0 ≤ g) → g ≤ 512 → n ≤ cells_most → length ends ≡ 256 → next ≤ ids_end
    → EndRows side at groups n next ends
end_rows side at groups n next ends g s a b m k f e i =
    record { one_side = s; marks = omega arith; numbers = omega arith; small = λ p. let o = m p in omega arith; rows = omega arith; few = f; ids = i }
