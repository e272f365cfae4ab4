-- Copies in lists: of bends, and of cells. Assumes nothing.
use Prim.Native.Nat.{ℕ, zero, suc, ◌+◌, ◌-◌, ◌*◌, ◌%◌, ◌<◌, ◌≤◌}
use mathlib.Core.Path.{◌≡◌, refl, ap, ap₂, sym, ◌∙◌}
use mathlib.Core.List.{List, [], ◌∷◌, ◌++◌, map}
use native.Mathlib.Omega.{arith}
use native.Mathlib.Decide.{dec_lt}
use native.Mathlib.Nat.{suc-mul, zero-mul, mul-zero, mod-lt, mod-eq_of_lt, add-mod_left}
use native.Mathlib.Numerals.{add-one}
use lib.ListN.{length, take, drop, set, get_or, replicate, length-append, get_or-append}
use lib.Seq.{length-take-le, get_or-take, get_or-drop, get_or-append-add, paste, paste-suc}
use Rattle.coordinate.specs.declared.Position.{Position}
use Rattle.number.specs.Readers.{spread}
use Rattle.complex.specs.Cells.{Cycle, Figure}
use Rattle.complex.specs.Edits.{numbered}
use Rattle.store.specs.declared.Shape.{Shape}
use Rattle.store.specs.declared.Cell.{Cell}
use Rattle.store.specs.Places.{shape_of, entry_cell, figure_cycles, figure_bends, entry_cycles, entry_bends}
use Rattle.rows_new.specs.Runs.{run_at}
use Rattle.rows_new.specs.Copies.{repeated, copy_cells}
use Rattle.rows_new.proofs.RunLists.{run_length}

-- where there is a place there is an element
pub some_place : (n k j : ℕ) → j < n * k → 0 < k
some_place n zero j h = let e = mul-zero n in absurd (omega arith)
some_place n (suc k) j h = omega arith

module _ {A : Type 0} where
  pub repeated_length : (n : ℕ) (l : List A) → length (repeated n l) ≡ n * length l
  repeated_length zero l = sym (zero-mul (length l))
  repeated_length (suc n) l =
      let e = repeated_length n l in
      let f = suc-mul n (length l) in
      length-append l (repeated n l) ∙ omega arith

  pub repeated_at : (n : ℕ) (l : List A) (j : ℕ) (z : A) → j < n * length l → get_or (repeated n l) j z ≡ get_or l (j % length l) z
  repeated_at zero l j z h = let e = zero-mul (length l) in absurd (omega arith)
  repeated_at (suc n) l j z h = go (dec_lt j (length l)) (repeated_at n l)
    where
      go : Dec (j < length l) → ((i : ℕ) (y : A) → i < n * length l → get_or (repeated n l) i y ≡ get_or l (i % length l) y)
          → get_or (repeated (suc n) l) j z ≡ get_or l (j % length l) z
      go (yes u) ih = get_or-append l (repeated n l) z j u ∙ ap (λ (i : ℕ). get_or l i z) (sym (mod-eq_of_lt u))
      go (no u) ih =
          let i : ℕ = j - length l in
          let e : j ≡ length l + i = omega arith in
          let f = suc-mul n (length l) in
          ap (λ (m : ℕ). get_or (repeated (suc n) l) m z) e
          ∙ get_or-append-add l (repeated n l) i z
          ∙ ih i z (omega arith)
          ∙ ap (λ (m : ℕ). get_or l m z) (sym (ap (λ (m : ℕ). m % length l) e ∙ add-mod_left (length l) i))

module _ {A : Type 0} (n first k : ℕ) (l : List A) (h : first + k ≤ length l) where
  pub repeated_run_length : length (repeated n (run_at first k l)) ≡ n * k
  repeated_run_length = repeated_length n (run_at first k l) ∙ ap (λ (m : ℕ). n * m) (run_length first k l h)

  pub repeated_run : (j : ℕ) (z : A) → j < n * k → get_or (repeated n (run_at first k l)) j z ≡ get_or l (first + j % k) z
  repeated_run j z g =
      let e = run_length first k l h in
      repeated_at n (run_at first k l) j z (rw e g)
      ∙ ap (λ (m : ℕ). get_or (run_at first k l) (j % m) z) e
      ∙ get_or-take k (drop first l) (j % k) z (mod-lt j (some_place n k j g))
      ∙ get_or-drop first l (j % k) z

-- what stands before a copied part is as it was
paste_before : {A : Type 0} (l : List A) (at : ℕ) (s : List A) (n i : ℕ) (z : A) → i < at → at ≤ length l → get_or (paste l at s n) i z ≡ get_or l i z
paste_before l at s n i z h g =
    let e = length-take-le at l g in
    let f = length-append (take at l) (take n s) in
    get_or-append (take at l ++ take n s) (drop (at + n) l) z i (omega arith)
    ∙ get_or-append (take at l) (take n s) z i (omega arith)
    ∙ get_or-take at l i z h

-- a turn of the loop that puts the bends: the run is read where the copies go, before them
pub bend_more : {A : Type 0} (l res : List A) (at n first k j : ℕ) (z : A) → res ≡ paste l at (repeated n (run_at first k l)) j → first + k ≤ at
    → at + n * k ≤ length l → j < n * k
    → set res (at + j) (get_or res (first + j % k) z) ≡ paste l at (repeated n (run_at first k l)) (j + 1)
bend_more {A} l res at n first k j z e h g t =
    let s = repeated n (run_at first k l) in
    let r : first + k ≤ length l = omega arith in
    let m = repeated_run_length n first k l r in
    let p = mod-lt j (some_place n k j t) in
    ap₂ (λ (q : List A) (w : A). set q (at + j) w) e
    (ap (λ (q : List A). get_or q (first + j % k) z) e ∙ paste_before l at s j (first + j % k) z (omega arith) (omega arith)
    ∙ sym (repeated_run n first k l r j z t))
    ∙ paste-suc l at s j z (omega arith) (omega arith)
    ∙ ap (paste l at s) (sym (add-one j))

pub copies_length : (i : ℕ) (s : Shape) (n : ℕ) → length (copy_cells i s n) ≡ n
copies_length i s zero = refl
copies_length i s (suc n) = ap suc (copies_length (suc i) s n)

pub copies_at : (i : ℕ) (s : Shape) (n j : ℕ) (z : Cell) → j < n → get_or (copy_cells i s n) j z ≡ record { id = i + j; shape = s }
copies_at i s zero j z h = absurd (omega arith)
copies_at i s (suc n) zero z h = let e : i ≡ i + 0 = omega arith in ap (λ (k : ℕ). record { id = k; shape = s }) e
copies_at i s (suc n) (suc j) z h =
    let e : suc i + j ≡ i + suc j = omega arith in
    copies_at (suc i) s n j z (omega arith) ∙ ap (λ (k : ℕ). record { id = k; shape = s }) e

-- a turn of the loop that puts the cells
pub cells_more : (cells res : List Cell) (at next : ℕ) (s : Shape) (n i id : ℕ) → res ≡ paste cells at (copy_cells next s n) i → at + i < length cells → i < n
    → id ≡ next + i
    → set res (at + i) (record { id = id; shape = s }) ≡ paste cells at (copy_cells next s n) (i + 1)
cells_more cells res at next s n i id e h k g =
    let c : Cell = record { id = id; shape = s } in
    let l = copies_length next s n in
    ap₂ (λ (q : List Cell) (w : Cell). set q (at + i) w) e (ap (λ (m : ℕ). record { id = m; shape = s }) g ∙ sym (copies_at next s n i c k))
    ∙ paste-suc cells at (copy_cells next s n) i c h (omega arith)
    ∙ ap (paste cells at (copy_cells next s n)) (sym (add-one i))

-- ---- the copies of a figure
pub copy_heads : (i : ℕ) (x : Figure) (n : ℕ) → copy_cells i (shape_of x) n ≡ map entry_cell (numbered i (replicate n x))
copy_heads i x zero = refl
copy_heads i x (suc n) = ap (λ (l : List Cell). record { id = i; shape = shape_of x } ∷ l) (copy_heads (suc i) x n)

pub copy_bends : (i : ℕ) (x : Figure) (n : ℕ) → spread entry_bends (numbered i (replicate n x)) ≡ repeated n (figure_bends x)
copy_bends i x zero = refl
copy_bends i x (suc n) = ap (λ (l : List Position). figure_bends x ++ l) (copy_bends (suc i) x n)

pub copy_cycles : (i : ℕ) (x : Figure) (n : ℕ) → figure_cycles x ≡ [] → spread entry_cycles (numbered i (replicate n x)) ≡ []
copy_cycles i x zero e = refl
copy_cycles i x (suc n) e = ap₂ (λ (a b : List Cycle). a ++ b) e (copy_cycles (suc i) x n e)
