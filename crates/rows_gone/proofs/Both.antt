-- Two cells that go by the flags of their rows. Assumes nothing.
use Prim.Native.Nat.{ℕ, ◌<◌, ◌≤◌}
use native.Mathlib.Omega.{arith}
use mathlib.Core.Path.{◌≡◌, refl, sym, ap, ap₂, ◌∙◌, subst}
use mathlib.Core.Bool.{Bool, true, false, not, ◌&&◌, ◌||◌}
use mathlib.Core.List.{List}
use lib.ListN.{length, get_or, take, set, replicate, length-map, length-replicate, length-set, get_or-replicate}
use lib.Seq.{get_or-take, length-take-le}
use lib.Dec.{T, eqb}
use Rattle.complex.specs.Cells.{Figure, LiveCell, Sheet, ids}
use Rattle.complex.specs.Edits.{keep_ids, reshape, neither}
use Rattle.complex.proofs.Lookup.{ids_reshape}
use Rattle.store.specs.declared.Drawing.{Drawing}
use Rattle.store.specs.Index.{Rising, row_of}
use Rattle.store.specs.Sizes.{Sizes}
use Rattle.store.specs.View.{sheet_of, Fits}
use Rattle.store.specs.Edits.{kept, with_entries}
use Rattle.store.proofs.Stands.{stands, count_is}
use Rattle.sound.specs.Soundness.{sound_drawing}
use Rattle.sound.proofs.Meaning.{sound_fits, sound_sheet_lem, rising_is, sheet_rising}
use Rattle.rows_new.specs.Appends.{remade}
use Rattle.rows_new.proofs.Appended.{keep_reshape}
use Rattle.rows_gone.specs.Rows.{Pair}
use Rattle.rows_gone.proofs.Dropped.{kept_by, marked_at, row_only}

one_or_other : (x y : Bool) → y || (x || false) ≡ not (not x && not y)
one_or_other true true = refl
one_or_other true false = refl
one_or_other false true = refl
one_or_other false false = refl

pub kept_both : (cs : List LiveCell) → Rising (ids cs) → (i a j b n : ℕ) (dead : List Bool) → n ≡ length cs → n ≤ 256 → a ≡ row_of i (ids cs) → a < n
    → b ≡ row_of j (ids cs) → b < n
    → dead ≡ set (set (replicate 256 false) a true) b true → kept (take n dead) cs ≡ keep_ids (neither i j) cs
kept_both cs r i a j b n dead en hn ea ha eb hb ed =
    let none = replicate 256 false in
    let l = length-map cs (λ (c : LiveCell). c.id) in
    let l0 = length-replicate 256 false in
    let l1 = length-set none a true in
    let ld : length dead ≡ 256 = ap length ed ∙ length-set (set none a true) b true ∙ l1 ∙ l0 in
    kept_by (neither i j) (take n dead) cs (let q = length-take-le n dead (omega arith) in omega arith)
    λ k h.
    get_or-take n dead k false (omega arith)
    ∙ ap (λ (fs : List Bool). get_or fs k false) ed
    ∙ marked_at (set none a true) b k (omega arith)
    ∙ ap₂ ◌||◌ (ap (λ (m : ℕ). eqb m k) eb ∙ row_only (ids cs) r j k (omega arith) (omega arith))
    (marked_at none a k (omega arith) ∙ ap₂ ◌||◌ (ap (λ (m : ℕ). eqb m k) ea ∙ row_only (ids cs) r i k (omega arith) (omega arith))
    (get_or-replicate 256 k false false (omega arith)))
    ∙ one_or_other (eqb i (get_or (ids cs) k 0)) (eqb j (get_or (ids cs) k 0))

-- a drawing whose cells have changed by f: its rows, and the sheet when some of them go
module _ (d : Drawing) (z : Sizes d) (w : T (sound_drawing d)) (f : ℕ → Figure → Figure) (mid : Drawing) (zm : Sizes mid) (gm : Fits mid)
    (em : sheet_of mid ≡ with_entries (sheet_of d) (reshape f (sheet_of d).cells)) where
  pub changed_rows : (mid.count ≡ length (reshape f (sheet_of d).cells)) × (mid.count ≡ d.count) × Rising (ids (reshape f (sheet_of d).cells))
  changed_rows =
      let cs = (sheet_of d).cells in
      let n = count_is d cs (stands d z (sound_fits d w)) z (sound_fits d w).cells in
      let m = count_is mid (sheet_of mid).cells (stands mid zm gm) zm gm.cells ∙ ap (λ (s : Sheet). length s.cells) em in
      let l = length-map {B = LiveCell} cs (λ (c : LiveCell). record { id = c.id; figure = f c.id c.figure }) in
      (m, omega arith, subst Rising (sym (ids_reshape f cs)) (rising_is (ids cs) (sheet_of d).next (sheet_rising d (sound_sheet_lem d w))))

  pub changed_left : (keep : ℕ → Bool) (dead : List Bool)
      → kept (take mid.count dead) (reshape f (sheet_of d).cells) ≡ keep_ids keep (reshape f (sheet_of d).cells)
      → with_entries (sheet_of mid) (kept (take mid.count dead) (sheet_of mid).cells) ≡ remade keep f (sheet_of d)
  changed_left keep dead e =
      ap (λ (s : Sheet). with_entries s (kept (take mid.count dead) s.cells)) em
      ∙ ap (with_entries (sheet_of d)) (e ∙ keep_reshape keep f (sheet_of d).cells)

-- a drawing whose cells have changed by f, and then two cells go
pub dropped_both : (d : Drawing) → Sizes d → (i a j b : ℕ) → Pair d i a j b → (f : ℕ → Figure → Figure) (mid : Drawing) → Sizes mid → Fits mid
    → sheet_of mid ≡ with_entries (sheet_of d) (reshape f (sheet_of d).cells) → (dead : List Bool) → dead ≡ set (set (replicate 256 false) a true) b true
    → (out : Drawing)
    → sheet_of out ≡ with_entries (sheet_of mid) (kept (take mid.count dead) (sheet_of mid).cells) → sheet_of out ≡ remade (neither i j) f (sheet_of d)
dropped_both d z i a j b p f mid zm gm em dead ed out eo =
    let cs = (sheet_of d).cells in
    let is : ids (reshape f cs) ≡ ids cs = ids_reshape f cs in
    let r = changed_rows d z p.sound f mid zm gm em in
    let ha = p.first_in in
    let hb = p.second_in in
    eo
    ∙ changed_left d z p.sound f mid zm gm em (neither i j) dead
    (kept_both (reshape f cs) r.2 i a j b mid.count dead r.0 gm.cells (p.first ∙ ap (row_of i) (sym is)) (omega arith)
    (p.second ∙ ap (row_of j) (sym is)) (omega arith) ed)
