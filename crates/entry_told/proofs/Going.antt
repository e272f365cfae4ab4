-- How far a run over a script has come: a start, a turn, and its end. Assumes nothing.
use Prim.Native.Nat.{ℕ, zero, suc, ◌+◌, ◌-◌, ◌*◌, ◌≤◌, ◌<◌}
use native.Mathlib.Omega.{arith}
use borrow.Author.Tests.{ne_eqb}
use mathlib.Core.Path.{◌≡◌, refl, sym, ap, ◌∙◌}
use mathlib.Core.Bool.{Bool, true, false, cond}
use mathlib.Core.List.{List, [], ◌∷◌, ◌++◌, append_assoc, append-nil}
use lib.Dec.{T, eqb}
use lib.ListN.{length, drop, set, length-append, length-drop}
use lib.Seq.{sets, length-sets, sets-eq, drop-drop}
use Rattle.number.specs.Readers.{Read, bad}
use Rattle.complex.specs.Lists.{is_empty}
use Rattle.complex.specs.Cells.{Sheet}
use Rattle.complex.specs.Sound.{sound}
use Rattle.complex.specs.Decode.{Order, decode}
use Rattle.complex.specs.Answer.{Answer as Said, no, ordered, asked2, command, rest_read, rest}
use Rattle.complex.proofs.Bools.{true_of}
use Rattle.complex.proofs.Asked.{order_not_two}
use Rattle.store.proofs.Lists.{drop_over, not_empty}
use Rattle.decode_command.specs.declared.Command.{Command}
use Rattle.decode_command.specs.View.{order_of}
use Rattle.decode.proofs.Laws.{Begins}
use Rattle.entry_told.specs.Told.{Told, line_width, line_numbers, tell, told_none, told, told_of, front, onward, Turned}

-- what is told after the numbers of k commands
abbrev later : List ℕ → ℕ → Told → Told
later ns k t = record { numbers = ns ++ t.numbers; commands = k + t.commands; sheet = t.sheet }

-- after the numbers `before` of its commands the drawing is s, and the bytes from `at` on are left; each command took a byte at least
pub record Going (from : Sheet) (bytes entry lines : List ℕ) (s : Sheet) (at commands : ℕ) : Type 0 where
  pub before : List ℕ
  pub turns : ℕ
  pub within : at ≤ length bytes
  pub enough : length bytes ≤ at + turns
  pub few : commands ≤ at
  pub wide : length before ≡ line_width * commands
  pub stands : lines ≡ sets entry 0 before
  pub goes : told_of from bytes ≡ later before commands (told turns s (drop at bytes))

pub start : (bytes entry : List ℕ) (s : Sheet) → Going s bytes entry entry s 0 0
unfolding told_of
start bytes entry s =
    let k = (told (length bytes) s bytes).commands in
    let e : k ≡ 0 + k = omega arith in
    record {
      before = [];
      turns = length bytes;
      within = omega arith;
      enough = omega arith;
      few = omega arith;
      wide = omega arith;
      stands = refl;
      goes = λ i. record { numbers = (told (length bytes) s bytes).numbers; commands = e i; sheet = (told (length bytes) s bytes).sheet };
    }

-- ---- lists
sets_more : (l : List ℕ) (i : ℕ) (u v : List ℕ) → sets (sets l i u) (i + length u) v ≡ sets l i (u ++ v)
sets_more l i [] v = let e : i + 0 ≡ i = omega arith in ap (λ (n : ℕ). sets l n v) e
sets_more l i (a ∷ u) v =
    let e : i + suc (length u) ≡ suc i + length u = omega arith in
    ap (λ (n : ℕ). sets (sets (set l i a) (suc i) u) n v) e ∙ sets_more (set l i a) (suc i) u v

pub five_stored : (l : List ℕ) (at a b c d e : ℕ)
    → set (set (set (set (set l at a) (at + 1) b) (at + 2) c) (at + 3) d) (at + 4) e ≡ sets l at (a ∷ b ∷ c ∷ d ∷ e ∷ [])
five_stored l at a b c d e =
    let p : at + 1 ≡ suc at = omega arith in
    let q : at + 2 ≡ suc (suc at) = omega arith in
    let r : at + 3 ≡ suc (suc (suc at)) = omega arith in
    let s : at + 4 ≡ suc (suc (suc (suc at))) = omega arith in
    λ i. set (set (set (set (set l at a) (p i) b) (q i) c) (r i) d) (s i) e

-- ---- a turn
told_none_lem : (n : ℕ) (s : Sheet) → told n s [] ≡ told_none s
told_none_lem zero s = refl
told_none_lem (suc n) s = refl

-- what is f of a run's bytes, and p of its first command and of the rest: after a turn it is f of the bytes that the run goes on with
module _ {A : Type 0} (f : ℕ → Sheet → List ℕ → A) (p : Sheet → List ℕ → A → A) (z : Sheet → A) (none : (n : ℕ) (s : Sheet) → f n s [] ≡ z s) where
  pub one_turn : (n : ℕ) (s : Sheet) (b : List ℕ)
      → (eqb (command s b).number 2 ≡ false → f (suc n) s b ≡ p s b (f n (command s b).sheet (rest s b)))
      → (eqb (command s b).number 2 ≡ true → f (suc n) s b ≡ p s b (z (command s b).sheet))
      → f (suc n) s b ≡ p s b (f n (command s b).sheet (onward s b))
  one_turn n s b on last = go (eqb (command s b).number 2) refl
    where
      goes_on_lem : (x : Bool) → eqb (command s b).number 2 ≡ x
          → p s b (f n (command s b).sheet (cond x [] (rest s b))) ≡ p s b (f n (command s b).sheet (onward s b))
      goes_on_lem x e = sym (ap (λ (y : Bool). p s b (f n (command s b).sheet (cond y [] (rest s b)))) e)

      go : (x : Bool) → eqb (command s b).number 2 ≡ x → f (suc n) s b ≡ p s b (f n (command s b).sheet (onward s b))
      go true e = last e ∙ sym (ap (p s b) (none n (command s b).sheet)) ∙ goes_on_lem true e
      go false e = on e ∙ goes_on_lem false e

told_turn : (n : ℕ) (s : Sheet) (b : List ℕ) → is_empty b ≡ false
    → told (suc n) s b ≡ tell (line_numbers (command s b) (length (rest s b))) (told n (command s b).sheet (onward s b))
told_turn n s b e =
    one_turn told (λ (x : Sheet) (y : List ℕ). tell (line_numbers (command x y) (length (rest x y)))) told_none told_none_lem n s b
    (λ h. rw (e, h, told)) (λ h. rw (e, h, told))

-- those of a command that is not read
abbrev pub unread_numbers : ℕ → List ℕ
unread_numbers left = 2 ∷ 0 ∷ 0 ∷ 0 ∷ left ∷ []

-- b is what is left of a script
module _ (bytes : List ℕ) (at : ℕ) (l : at < length bytes) {b : List ℕ} (left : b ≡ drop at bytes) where
  left_length : at + length b ≡ length bytes
  left_length = let e = ap length left ∙ length-drop at bytes in omega arith

  pub left_fits : length b ≤ length bytes
  left_fits = let e = left_length in omega arith

  pub ahead_fits : {c : Command} {next : ℕ} → Begins b c next → at + next ≤ length bytes
  ahead_fits t = let h = t.fits in let e = left_length in omega arith

  module _ (s : Sheet) (w : T (sound s)) where
    command_of : (q : Read Order) → decode b ≡ q → command s (drop at bytes) ≡ asked2 s q
    unfolding command
    command_of q e = ap (command s) (sym left) ∙ ap (λ (x : Bool). cond x (asked2 s (decode b)) (no 1 s)) (true_of (sound s) w) ∙ ap (asked2 s) e

    rest_of : (q : Read Order) → decode b ≡ q → rest s (drop at bytes) ≡ rest_read b q
    unfolding rest
    rest_of q e = ap (rest s) (sym left) ∙ ap (λ (x : Bool). cond x (rest_read b (decode b)) b) (true_of (sound s) w) ∙ ap (rest_read b) e

    onward_of : (x : Bool) → eqb (command s (drop at bytes)).number 2 ≡ x → cond x [] (rest s (drop at bytes)) ≡ onward s (drop at bytes)
    onward_of x e = sym (ap (λ (y : Bool). cond y [] (rest s (drop at bytes))) e)

    -- a command that is not read is the last
    pub turned_unread : decode b ≡ bad → Turned s bytes at (unread_numbers (length b)) s (length bytes)
    turned_unread e =
        let k = command_of bad e in
        let r = rest_of bad e in
        record {
          numbers = λ i. line_numbers (sym k i) (length (sym r i));
          sheet = sym (ap (λ (a : Said). a.sheet) k);
          goes = drop_over (length bytes) bytes (omega arith) ∙ onward_of true (ap (λ (a : Said). eqb a.number 2) k);
          ahead = l;
          within = omega arith;
        }

    -- one that is read
    pub turned_read : {c : Command} {next : ℕ} → Begins b c next → (a : Said) → a ≡ ordered s (order_of b c)
        → Turned s bytes at (line_numbers a (length bytes - (at + next))) a.sheet (at + next)
    turned_read {c} {next} t a q =
        let k : command s (drop at bytes) ≡ a = command_of _ t.read ∙ sym q in
        let r : rest s (drop at bytes) ≡ drop (at + next) bytes = rest_of _ t.read ∙ ap (drop next) left ∙ drop-drop next at bytes in
        let m : length bytes - (at + next) ≡ length (rest s (drop at bytes)) = sym (ap length r ∙ length-drop (at + next) bytes) in
        let n = t.some in
        record {
          numbers = λ i. line_numbers (sym k i) (m i);
          sheet = sym (ap (λ (x : Said). x.sheet) k);
          goes = sym r ∙ onward_of false (ne_eqb _ 2 (λ e. order_not_two s (order_of b c) (ap (λ (x : Said). x.number) (sym (command_of _ t.read)) ∙ e)));
          ahead = omega arith;
          within = ahead_fits t;
        }

-- what a run from the drawing s tells stands in the first places of the lines; t is the drawing after its k commands
pub record Ran (s : Sheet) (script entry exit : List ℕ) (t : Sheet) (k : ℕ) : Type 0 where
  pub numbers : exit ≡ front (told_of s script).numbers entry
  pub commands : k ≡ (told_of s script).commands
  pub sheet : t ≡ (told_of s script).sheet
  pub few : k ≤ length script

module _ {from : Sheet} {bytes entry lines : List ℕ} {s : Sheet} {at commands : ℕ} (p : Going from bytes entry lines s at commands) where
  pub same_size : length lines ≡ length entry
  same_size = ap length p.stands ∙ length-sets entry 0 p.before

  -- a line more has room, and stands after the others
  pub line_room : at < length bytes → line_width * length bytes ≤ length entry → line_width * commands + line_width ≤ length lines
  line_room h g = let e = same_size in let f = p.few in omega arith

  put : (ns : List ℕ) → sets lines (line_width * commands) ns ≡ sets entry 0 (p.before ++ ns)
  put ns =
      let e : line_width * commands ≡ 0 + length p.before = let w = p.wide in omega arith in
      (λ i. sets (p.stands i) (e i) ns) ∙ sets_more entry 0 p.before ns

  module _ (l : at < length bytes) {ns : List ℕ} {t : Sheet} {r : ℕ} (o : Turned s bytes at ns t r) where
    some : is_empty (drop at bytes) ≡ false
    some = not_empty (drop at bytes) (let e = length-drop at bytes in omega arith)

    turned : (n : ℕ) → told_of from bytes ≡ later p.before commands (told (suc n) s (drop at bytes))
        → told_of from bytes ≡ later (p.before ++ ns) (commands + 1) (told n t (drop r bytes))
    turned n g =
        let more = told n t (drop r bytes) in
        let e : commands + suc more.commands ≡ commands + 1 + more.commands = omega arith in
        g
        ∙ ap (later p.before commands) (told_turn n s (drop at bytes) some)
        ∙ sym (λ i. later p.before commands (tell (o.numbers i) (told n (o.sheet i) (o.goes i))))
        ∙ (λ i. record { numbers = sym (append_assoc p.before ns more.numbers) i; commands = e i; sheet = more.sheet })

    pub turn : (x : List ℕ) → x ≡ sets lines (line_width * commands) ns → Going from bytes entry x t r (commands + 1)
    turn x y = go p.turns p.enough p.goes
      where
        go : (n : ℕ) → length bytes ≤ at + n → told_of from bytes ≡ later p.before commands (told n s (drop at bytes))
            → Going from bytes entry x t r (commands + 1)
        go zero h g = absurd (omega arith)
        go (suc n) h g =
            let ahead = o.ahead in
            let few = p.few in
            let w = p.wide in
            let f = length-append p.before ns in
            let five = ap length o.numbers in
            record {
              before = p.before ++ ns;
              turns = n;
              within = o.within;
              enough = omega arith;
              few = omega arith;
              wide = omega arith;
              stands = y ∙ put ns;
              goes = turned n g;
            }

  -- no byte is left
  pub over : line_width * length bytes ≤ length entry → length bytes ≤ at → Ran from bytes entry lines s commands
  over r h =
      let w = p.wide in
      let f = p.few in
      let n = p.within in
      let ns = p.before in
      let m : 0 + length ns ≡ length ns = omega arith in
      let k : commands + 0 ≡ commands = omega arith in
      let e : told_of from bytes ≡ record { numbers = ns; commands = commands; sheet = s } =
      p.goes
      ∙ ap (λ (b : List ℕ). later ns commands (told p.turns s b)) (drop_over at bytes h)
      ∙ ap (later ns commands) (told_none_lem p.turns s)
      ∙ (λ i. record { numbers = append-nil ns i; commands = k i; sheet = s }) in
      record {
        numbers = p.stands ∙ sets-eq ns entry 0 (omega arith) ∙ ap (λ (j : ℕ). ns ++ drop j entry) m ∙ ap (λ (x : Told). front x.numbers entry) (sym e);
        commands = ap (λ (x : Told). x.commands) (sym e);
        sheet = ap (λ (x : Told). x.sheet) (sym e);
        few = omega arith;
      }
