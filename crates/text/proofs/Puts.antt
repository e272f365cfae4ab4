-- Texts put one after the other. Assumes nothing.
use Prim.Native.Nat.{ℕ, ◌+◌, ◌≤◌, ◌<◌}
use native.Mathlib.Omega.{arith}
use native.Mathlib.Numerals.{add-one}
use mathlib.Core.Path.{◌≡◌, refl, sym, ap, ap₂, ◌∙◌, subst}
use mathlib.Core.List.{List, [], ◌∷◌, ◌++◌, append_assoc}
use lib.IntN.{ℤ}
use lib.ListN.{length, take, set, get_or, length-append}
use lib.Seq.{sets, length-sets, take-suc, take_all}
use Rattle.number.specs.Readers.{spread}
use Rattle.complex.specs.Program.{Line, printed, decimal, signed, euler_word, cells_word, line_text, output_text}
use Rattle.text.specs.Texts.{TextPut, end_text}
use Rattle.text.proofs.Decimal.{sets_append, decimal_few}
use Rattle.text.proofs.Signs.{signed_few}
use mir.Syntax.{w32}
use mir.Val.{SFits}

pub put_none : (l : List ℕ) (at : ℕ) → TextPut l at [] 0 l at
put_none l at = record { stands = refl; ends = omega arith; short = omega arith }

module _ {l : List ℕ} {at : ℕ} {u : List ℕ} {m : ℕ} {x : List ℕ} {r : ℕ} (p : TextPut l at u m x r) where
  -- the buffer keeps its length, and the text fits its bound
  pub put_length : length x ≡ length l
  put_length = ap length p.stands ∙ length-sets l at u

  pub put_ends : (length x ≡ length l) × (r ≤ at + m)
  put_ends = let e = p.ends in let s = p.short in (put_length, omega arith)

  pub put_then : {v : List ℕ} {n : ℕ} {y : List ℕ} {q : ℕ} → TextPut x r v n y q → TextPut l at (u ++ v) (m + n) y q
  put_then {v} o =
      record {
        stands = o.stands ∙ ap₂ (λ (z : List ℕ) (k : ℕ). sets z k v) p.stands p.ends ∙ sym (sets_append l at u v);
        ends = (let e = p.ends in let f = o.ends in let g = length-append u v in omega arith);
        short = (let e = p.short in let f = o.short in let g = length-append u v in omega arith);
      }

  pub put_as : {v : List ℕ} → u ≡ v → TextPut l at v m x r
  put_as e = subst (λ (t : List ℕ). TextPut l at t m x r) e p

-- one byte
pub put_byte : (l : List ℕ) (at b : ℕ) → TextPut l at (b ∷ []) 1 (set l at b) (at + 1)
put_byte l at b = record { stands = refl; ends = refl; short = omega arith }

-- a u32
pub put_number : (l : List ℕ) (at n : ℕ) (x : List ℕ) (r : ℕ) → n < 4294967296 → r ≡ at + length (decimal n) → x ≡ sets l at (decimal n)
    → TextPut l at (decimal n) 10 x r
put_number l at n x r h e f = record { stands = f; ends = e; short = decimal_few n h }

-- a text of fewer bytes than allowed
pub put_within : {l : List ℕ} {at : ℕ} {u : List ℕ} {m n : ℕ} {x : List ℕ} {r : ℕ} → m ≤ n → TextPut l at u m x r → TextPut l at u n x r
put_within h p = record { stands = p.stands; ends = p.ends; short = (let s = p.short in omega arith) }

-- the fields of a line, each with its mark
pub line_text_lem : (number first new removed : ℕ)
    → (decimal number ++ 32 ∷ []) ++ ((decimal first ++ 32 ∷ []) ++ ((decimal new ++ 32 ∷ []) ++ (decimal removed ++ 10 ∷ [])))
    ≡ line_text (record { number = number; first = first; new = new; removed = removed })
line_text_lem number first new removed = simp append_assoc

-- how many bytes a field has with its mark, a line, and the end line
pub field_length : (n mark : ℕ) → length (decimal n ++ mark ∷ []) ≡ length (decimal n) + 1
field_length n mark = length-append (decimal n) (mark ∷ [])

pub line_length : (number first new removed : ℕ)
    → length (line_text (record { number = number; first = first; new = new; removed = removed })) ≡ (length (decimal number) + 1)
    + ((length (decimal first) + 1) + ((length (decimal new) + 1) + (length (decimal removed) + 1)))
line_length number first new removed = simp length-append (omega arith)

pub line_few : (number first new removed : ℕ) → number < 4294967296 → first < 4294967296 → new < 4294967296 → removed < 4294967296
    → length (line_text (record { number = number; first = first; new = new; removed = removed })) ≤ 44
line_few number first new removed h i j k =
    let e = line_length number first new removed in
    let a = decimal_few number h in
    let b = decimal_few first i in
    let c = decimal_few new j in
    let d = decimal_few removed k in
    omega arith

pub end_length : (z : ℤ) (n : ℕ) → length (end_text z n) ≡ 6 + (length (signed z) + (7 + (length (decimal n) + 1)))
end_length z n = simp length-append (omega arith)

pub end_few : (z : ℤ) (n : ℕ) → SFits w32 z → n < 4294967296 → length (end_text z n) ≤ 35
end_few z n f h = let e = end_length z n in let a = signed_few z f in let b = decimal_few n h in omega arith

-- the parts of the end line
pub end_text_lem : (y z : ℤ) (n : ℕ) → y ≡ z → (euler_word ++ 32 ∷ []) ++ (signed y ++ ((32 ∷ cells_word ++ 32 ∷ []) ++ (decimal n ++ 10 ∷ []))) ≡ end_text z n
end_text_lem y z n e = ap (λ (x : ℤ). (euler_word ++ 32 ∷ []) ++ (signed x ++ ((32 ∷ cells_word ++ 32 ∷ []) ++ (decimal n ++ 10 ∷ [])))) e ∙ simp append_assoc

-- what is printed for a run: its lines, then the end line
pub output_text_lem : (ls : List Line) (z : ℤ) (n : ℕ) → spread line_text ls ++ end_text z n ≡ output_text (printed ls z n)
output_text_lem ls z n = simp append_assoc

-- ---- bytes one after the other
-- the first i bytes of a text stand in the buffer
abbrev pub PutUpto : List ℕ → ℕ → List ℕ → ℕ → List ℕ → Type 0
PutUpto l at text i x = (i ≤ length text) × TextPut l at (take i text) i x (at + i)

pub upto_more : (l : List ℕ) (at : ℕ) (text : List ℕ) (i : ℕ) (x : List ℕ) → PutUpto l at text i x → i < length text
    → PutUpto l at text (i + 1) (set x (at + i) (get_or text i 0))
upto_more l at text i x p h =
    let q = put_then p.1 (put_byte x (at + i) (get_or text i 0)) in
    let e : take i text ++ (get_or text i 0 ∷ []) ≡ take (i + 1) text = sym (take-suc text i 0 h) ∙ ap (λ (n : ℕ). take n text) (sym (add-one i)) in
    let o = put_as q e in
    (omega arith, record { stands = o.stands; ends = (let f = o.ends in omega arith); short = o.short })

pub upto_all : (l : List ℕ) (at : ℕ) (text : List ℕ) (i : ℕ) (x : List ℕ) → PutUpto l at text i x → length text ≤ i → TextPut l at text (length text) x (at + i)
upto_all l at text i x p h =
    let o = put_as p.1 (take_all i text h) in
    record { stands = o.stands; ends = o.ends; short = omega arith }
