-- Cells that go by the flags of their rows are those that go by their ids. Assumes nothing.
use Prim.Native.Nat.{ℕ, suc, ◌<◌, ◌≤◌}
use native.Mathlib.Omega.{arith}
use mathlib.Core.Path.{◌≡◌, refl, sym, ap, ap₂, ◌∙◌, subst}
use mathlib.Core.Bool.{Bool, true, false, not, ◌||◌, cond, false≢true}
use mathlib.Core.List.{List, [], ◌∷◌}
use lib.ListN.{length, get_or, take, set, replicate, length-map, length-replicate, length-set, get_or-replicate}
use lib.Seq.{get_or-set_same, get_or-set_other, get_or-take, length-take-le}
use lib.Dec.{T, eqb, ltb, leb→le}
use borrow.Author.Tests.{ltb-true, ltb-false, eqb-true, eqb-false, eq-eqb, ne_eqb}
use Rattle.complex.specs.Lists.{cons_if}
use Rattle.complex.specs.Cells.{Figure, LiveCell, Sheet, ids, cell_at, is_live}
use Rattle.complex.specs.Edits.{keep_ids, reshape, rebuild, others}
use Rattle.complex.specs.Sound.{ids_end}
use Rattle.complex.proofs.Keep.{Sound}
use Rattle.complex.proofs.Lookup.{lookup_from, ids_reshape}
use Rattle.store.specs.declared.Drawing.{Drawing}
use Rattle.store.specs.declared.Index.{Index}
use Rattle.store.specs.Index.{Indexes, Rising, row_of}
use Rattle.store.specs.Sizes.{Sizes}
use Rattle.store.specs.View.{sheet_of, Fits}
use Rattle.store.specs.Edits.{kept, with_entries}
use Rattle.store.proofs.Stands.{stands, count_is, ids_same}
use Rattle.sound.specs.Soundness.{sound_drawing}
use Rattle.sound.proofs.Meaning.{sound_fits, sound_sheet_lem, rising_is, sheet_rising, live_row}
use Rattle.rows_spans.proofs.Replaced.{row_has}
use Rattle.rows_new.specs.Appends.{remade}
use Rattle.rows_new.proofs.Appended.{keep_reshape, appended_none}

-- ---- flags that are true in the rows of the ids that p does not keep
pub kept_by : (p : ℕ → Bool) (fs : List Bool) (cs : List LiveCell) → length cs ≤ length fs
    → ((k : ℕ) → k < length cs → get_or fs k false ≡ not (p (get_or (ids cs) k 0)))
    → kept fs cs ≡ keep_ids p cs
kept_by p [] [] h e = refl
kept_by p [] (c ∷ cs) h e = absurd (omega arith)
kept_by p (b ∷ fs) [] h e = refl
kept_by p (b ∷ fs) (c ∷ cs) h e =
    ap (λ (x : Bool). cond x (kept fs cs) (c ∷ kept fs cs)) (e 0 (omega arith))
    ∙ pick (p c.id) (kept_by p fs cs (omega arith) (λ k l. e (suc k) (omega arith)))
  where
    pick : (b : Bool) → kept fs cs ≡ keep_ids p cs → cond (not b) (kept fs cs) (c ∷ kept fs cs) ≡ cons_if b c (keep_ids p cs)
    pick true g = ap (λ (l : List LiveCell). c ∷ l) g
    pick false g = g

-- a flag that is set, and those that stand
pub marked_at : (fs : List Bool) (row k : ℕ) → row < length fs → get_or (set fs row true) k false ≡ eqb row k || get_or fs k false
marked_at fs row k h = go (eqb row k) refl
  where
    go : (b : Bool) → eqb row k ≡ b → get_or (set fs row true) k false ≡ b || get_or fs k false
    go true e = ap (λ (n : ℕ). get_or (set fs row true) n false) (sym (eqb-true row k e)) ∙ get_or-set_same fs row true false h
    go false e = get_or-set_other fs row k true false (λ g. eqb-false row k e (sym g))

-- ---- the rows of ids that rise
-- different places of a rising list have different numbers
rising_apart : (l : List ℕ) → Rising l → (a k : ℕ) → a < length l → k < length l → (a ≡ k → ⊥) → get_or l a 0 ≡ get_or l k 0 → ⊥
rising_apart l r a k ha hk n e = go (ltb a k) refl
  where
    go : (b : Bool) → ltb a k ≡ b → ⊥
    go true q = let x = r.below a k (ltb-true a k q) hk in omega arith
    go false q = let y = ltb-false a k q in let x = r.below k a (omega arith) ha in omega arith

-- another row has another id
pub row_only : (l : List ℕ) → Rising l → (i k : ℕ) → row_of i l < length l → k < length l → eqb (row_of i l) k ≡ eqb i (get_or l k 0)
row_only l r i k h g = go (eqb (row_of i l) k) refl
  where
    go : (b : Bool) → eqb (row_of i l) k ≡ b → b ≡ eqb i (get_or l k 0)
    go true e = sym (eq-eqb i (get_or l k 0) (sym (row_has i l h) ∙ ap (λ (n : ℕ). get_or l n 0) (eqb-true (row_of i l) k e)))
    go false e = sym (ne_eqb i (get_or l k 0) (λ q. rising_apart l r (row_of i l) k h g (eqb-false (row_of i l) k e) (row_has i l h ∙ q)))

-- ---- one dead row
pub kept_others : (cs : List LiveCell) → Rising (ids cs) → (i row n : ℕ) (dead : List Bool) → n ≡ length cs → n ≤ 256 → row ≡ row_of i (ids cs) → row < n
    → dead ≡ set (replicate 256 false) row true
    → kept (take n dead) cs ≡ keep_ids (others i) cs
kept_others cs r i row n dead en hn er hr ed =
    let l = length-map cs (λ (c : LiveCell). c.id) in
    let ld : length dead ≡ 256 = ap length ed ∙ length-set (replicate 256 false) row true ∙ length-replicate 256 false in
    kept_by (others i) (take n dead) cs (let q = length-take-le n dead (omega arith) in omega arith)
    λ k h.
    get_or-take n dead k false (omega arith)
    ∙ ap (λ (fs : List Bool). get_or fs k false) ed
    ∙ marked_at (replicate 256 false) row k (let q = length-replicate 256 false in omega arith)
    ∙ ap₂ ◌||◌ (ap (λ (m : ℕ). eqb m k) er ∙ row_only (ids cs) r i k (omega arith) (omega arith)) (get_or-replicate 256 k false false (omega arith))
    ∙ or_none (eqb i (get_or (ids cs) k 0))
  where
    or_none : (b : Bool) → b || false ≡ not (not b)
    or_none true = refl
    or_none false = refl

-- ---- a drawing whose cells have changed by f, and then the cell i goes
pub dropped_row : (d : Drawing) → Sizes d → T (sound_drawing d) → (i row : ℕ) → row ≡ row_of i (ids (sheet_of d).cells) → row < d.count
    → (f : ℕ → Figure → Figure) (mid : Drawing) → Sizes mid → Fits mid
    → sheet_of mid ≡ with_entries (sheet_of d) (reshape f (sheet_of d).cells) → (dead : List Bool) → dead ≡ set (replicate 256 false) row true → (out : Drawing)
    → sheet_of out ≡ with_entries (sheet_of mid) (kept (take mid.count dead) (sheet_of mid).cells) → sheet_of out ≡ remade (others i) f (sheet_of d)
dropped_row d z w i row er h f mid zm gm em dead ed out eo =
    let cs = (sheet_of d).cells in
    let ds = reshape f cs in
    let ec : (sheet_of mid).cells ≡ ds = ap (λ (s : Sheet). s.cells) em in
    let is : ids ds ≡ ids cs = ids_reshape f cs in
    let n = count_is d cs (stands d z (sound_fits d w)) z (sound_fits d w).cells in
    let ml : mid.count ≡ length ds = count_is mid (sheet_of mid).cells (stands mid zm gm) zm gm.cells ∙ ap length ec in
    let dl = length-map {B = LiveCell} cs (λ (c : LiveCell). record { id = c.id; figure = f c.id c.figure }) in
    let r : Rising (ids ds) = subst Rising (sym is) (rising_is (ids cs) (sheet_of d).next (sheet_rising d (sound_sheet_lem d w))) in
    let q : row ≡ row_of i (ids ds) = er ∙ ap (row_of i) (sym is) in
    eo
    ∙ ap (λ (s : Sheet). with_entries s (kept (take mid.count dead) s.cells)) em
    ∙ ap (with_entries (sheet_of d)) (kept_others ds r i row mid.count dead ml gm.cells q (omega arith) ed ∙ keep_reshape (others i) f cs)

-- the same, where the row is found in an index
module _ (d : Drawing) (z : Sizes d) (w : T (sound_drawing d)) (ix : Index) (x : Indexes d ix) (i row : ℕ) (er : row ≡ row_of i (take d.count ix.ids))
    (l : is_live (cell_at (sheet_of d) i) ≡ true) where
  pub live_below : row < d.count
  live_below = ltb-true row d.count (ap (λ (n : ℕ). ltb n d.count) er ∙ live_row d z (sound_fits d w) ix x i ∙ l)

  pub row_among : row ≡ row_of i (ids (sheet_of d).cells)
  row_among = er ∙ ap (row_of i) (x.ids ∙ ids_same d z (sound_fits d w))

  pub dropped : (f : ℕ → Figure → Figure) (mid : Drawing) → Sizes mid → Fits mid → sheet_of mid ≡ with_entries (sheet_of d) (reshape f (sheet_of d).cells)
      → (dead : List Bool) → dead ≡ set (replicate 256 false) row true → (out : Drawing)
      → sheet_of out ≡ with_entries (sheet_of mid) (kept (take mid.count dead) (sheet_of mid).cells) → sheet_of out ≡ remade (others i) f (sheet_of d)
  dropped = dropped_row d z w i row row_among live_below

-- cells go and change, and none comes
pub remade_rebuild : (p : ℕ → Bool) (f : ℕ → Figure → Figure) (s : Sheet) → remade p f s ≡ rebuild p f [] s
remade_rebuild p f s = sym (appended_none (remade p f s))

-- the id of a live cell is below the end of the ids
pub live_id : (s : Sheet) → Sound s → (i : ℕ) → is_live (cell_at s i) ≡ true → i < ids_end
live_id s S i l = go (ltb i s.next) refl
  where
    h : s.next ≤ ids_end
    h = leb→le s.next ids_end S.in_ids

    go : (b : Bool) → ltb i s.next ≡ b → i < ids_end
    go true e = let k = ltb-true i s.next e in let g = h in omega arith
    go false e = absurd (false≢true (sym (ap is_live (lookup_from 0 s.cells s.next i S.rises (ltb-false i s.next e))) ∙ l))
