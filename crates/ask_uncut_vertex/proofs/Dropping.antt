-- Three cells that go by the flags of their rows. Assumes nothing.
use Prim.Native.Nat.{ℕ, ◌<◌, ◌≤◌}
use native.Mathlib.Omega.{arith}
use mathlib.Core.Path.{◌≡◌, refl, sym, ap, ap₂, ◌∙◌}
use mathlib.Core.Bool.{Bool, true, false, not, ◌&&◌, ◌||◌}
use mathlib.Core.List.{List}
use lib.ListN.{length, get_or, take, set, replicate, length-map, length-replicate, length-set, get_or-replicate}
use lib.Seq.{get_or-take, length-take-le}
use lib.Dec.{eqb}
use Rattle.complex.specs.Cells.{Figure, LiveCell, ids}
use Rattle.complex.specs.Edits.{keep_ids, none_of, reshape}
use Rattle.complex.proofs.Lookup.{ids_reshape}
use Rattle.store.specs.declared.Drawing.{Drawing}
use Rattle.store.specs.Index.{Rising, row_of}
use Rattle.store.specs.Sizes.{Sizes}
use Rattle.store.specs.View.{sheet_of, Fits}
use Rattle.store.specs.Edits.{kept, with_entries}
use Rattle.rows_new.specs.Appends.{remade}
use Rattle.rows_gone.proofs.Both.{changed_rows, changed_left}
use Rattle.rows_gone.proofs.Dropped.{kept_by, marked_at, row_only}
use Rattle.ask_uncut_vertex.specs.Needs.{Triple}

none_of_lem : (x y z : Bool) → z || (y || (x || false)) ≡ not (not x && (not y && not z))
none_of_lem true true true = refl
none_of_lem true true false = refl
none_of_lem true false true = refl
none_of_lem true false false = refl
none_of_lem false true true = refl
none_of_lem false true false = refl
none_of_lem false false true = refl
none_of_lem false false false = refl

pub kept_three : (cs : List LiveCell) → Rising (ids cs) → (i a j b k c n : ℕ) (dead : List Bool) → n ≡ length cs → n ≤ 256 → a ≡ row_of i (ids cs) → a < n
    → b ≡ row_of j (ids cs) → b < n → c ≡ row_of k (ids cs) → c < n
    → dead ≡ set (set (set (replicate 256 false) a true) b true) c true → kept (take n dead) cs ≡ keep_ids (none_of i j k) cs
kept_three cs r i a j b k c n dead en hn ea ha eb hb ec hc ed =
    let none = replicate 256 false in
    let l = length-map cs (λ (x : LiveCell). x.id) in
    let l0 = length-replicate 256 false in
    let l1 = length-set none a true in
    let l2 = length-set (set none a true) b true in
    let ld : length dead ≡ 256 = ap length ed ∙ length-set (set (set none a true) b true) c true ∙ l2 ∙ l1 ∙ l0 in
    kept_by (none_of i j k) (take n dead) cs (let q = length-take-le n dead (omega arith) in omega arith)
    λ m h.
    get_or-take n dead m false (omega arith)
    ∙ ap (λ (fs : List Bool). get_or fs m false) ed
    ∙ marked_at (set (set none a true) b true) c m (omega arith)
    ∙ ap₂ ◌||◌ (ap (λ (q : ℕ). eqb q m) ec ∙ row_only (ids cs) r k m (omega arith) (omega arith))
    (marked_at (set none a true) b m (omega arith)
    ∙ ap₂ ◌||◌ (ap (λ (q : ℕ). eqb q m) eb ∙ row_only (ids cs) r j m (omega arith) (omega arith))
    (marked_at none a m (omega arith)
    ∙ ap₂ ◌||◌ (ap (λ (q : ℕ). eqb q m) ea ∙ row_only (ids cs) r i m (omega arith) (omega arith)) (get_or-replicate 256 m false false (omega arith))))
    ∙ none_of_lem (eqb i (get_or (ids cs) m 0)) (eqb j (get_or (ids cs) m 0)) (eqb k (get_or (ids cs) m 0))

-- of cells that have changed by f three go
pub three_left : (d : Drawing) → Sizes d → (i a j b k c : ℕ) → Triple d i a j b k c → (f : ℕ → Figure → Figure) (mid : Drawing) → Sizes mid → Fits mid
    → sheet_of mid ≡ with_entries (sheet_of d) (reshape f (sheet_of d).cells) → (dead : List Bool)
    → dead ≡ set (set (set (replicate 256 false) a true) b true) c true
    → with_entries (sheet_of mid) (kept (take mid.count dead) (sheet_of mid).cells) ≡ remade (none_of i j k) f (sheet_of d)
three_left d z i a j b k c t f mid zm gm em dead ed =
    let cs = (sheet_of d).cells in
    let p = t.pair in
    let is : ids (reshape f cs) ≡ ids cs = ids_reshape f cs in
    let r = changed_rows d z p.sound f mid zm gm em in
    let ha = p.first_in in
    let hb = p.second_in in
    let hc = t.third_in in
    changed_left d z p.sound f mid zm gm em (none_of i j k) dead
    (kept_three (reshape f cs) r.2 i a j b k c mid.count dead r.0 gm.cells (p.first ∙ ap (row_of i) (sym is)) (omega arith)
    (p.second ∙ ap (row_of j) (sym is)) (omega arith) (t.third ∙ ap (row_of k) (sym is)) (omega arith) ed)
