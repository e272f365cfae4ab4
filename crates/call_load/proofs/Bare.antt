-- After some cells of a file the rows hold what those cells put there, with the bends in arrays or at places that stand nowhere. Assumes nothing.
use Rattle.std.specs.Prelude.{Option, Some, None}
use Prim.Native.Nat.{ℕ, zero, suc, ◌+◌, ◌≤◌, ◌<◌}
use native.Mathlib.Omega.{arith}
use native.Mathlib.Numerals.{add-one}
use mathlib.Core.Path.{◌≡◌, refl, sym, ap, ◌∙◌, subst}
use mathlib.Core.Bool.{Bool, true, false, ◌&&◌, true≢false}
use mathlib.Core.List.{List, [], ◌∷◌, ◌++◌}
use lib.Ieee.{Float}
use lib.ListN.{length, take, drop, get_or, set}
use Rattle.number.specs.Readers.{Read, times, all}
use Rattle.coordinate.specs.declared.Position.{Position}
use Rattle.coordinate.specs.Bounds.{within}
use Rattle.bends.specs.Bends.{positions_at}
use Rattle.bends.proofs.Laws.{positions_length}
use Rattle.complex.specs.Cells.{LiveCell}
use Rattle.complex.specs.File.{read_cell}
use Rattle.store.specs.declared.Cell.{Cell}
use Rattle.store.specs.View.{bend_count, bend_total}
use Rattle.sound.proofs.Parts.{and_assoc}
use Rattle.file_read.specs.declared.Used.{Used}
use Rattle.file_read.specs.Heads.{read_head, ReadAt}
use Rattle.file_read.specs.Outcome.{CellsOver}
use Rattle.kernel_add.specs.Comes.{BendsPut}
use Rattle.kernel_add.proofs.Put.{put_none, put_more}
use Rattle.lent.specs.Arrays.{Arrays, position_in, positions_in, held_by, Lengths}
use Rattle.lent.proofs.Held.{numbered, numbered_long}
use Rattle.call_load.specs.Loads.{PartsPut, CountsIn}
use Rattle.call_load.specs.Bare.{exit_of, BendsTaken, Stays, Kept, RowsHeld, RowsTold, RowsIn}
use Rattle.call_load.proofs.Loads.{Rowed, with_head, bends_after_lem, rowed_start, rowed_turn, rowed_given, rowed_total, sheet_in}

-- a test of all elements of two lists
all_both : {A : Type 0} (p : A → Bool) (xs ys : List A) → all p xs && all p ys ≡ all p (xs ++ ys)
all_both p [] ys = refl
all_both p (x ∷ xs) ys = sym (and_assoc (p x) (all p xs) (all p ys)) ∙ ap (λ (b : Bool). p x && b) (all_both p xs ys)

-- ---- bends that could be put
record Placed (xs ys : List Float) (at : ℕ) (bs : List Position) (n : ℕ) : Type 0 where
  us : List Float
  vs : List Float
  put : BendsPut xs ys at bs n us vs

place : (xs ys : List Float) (at : ℕ) (bs : List Position) (n : ℕ) → length xs ≡ length ys → at + n ≤ length xs → n ≤ length bs → Placed xs ys at bs n
place xs ys at bs zero e h k = record { us = xs; vs = ys; put = put_none xs ys at bs }
place xs ys at bs (suc n) e h k = go (get_or bs n (position_in xs ys 0)) refl (place xs ys at bs n e (omega arith) (omega arith))
  where
    go : (b : Position) → b ≡ get_or bs n (position_in xs ys 0) → Placed xs ys at bs n → Placed xs ys at bs (suc n)
    go b f q =
        record {
          us = set q.us (at + n) b.x;
          vs = set q.vs (at + n) b.y;
          put =
              subst (λ (m : ℕ). BendsPut xs ys at bs m (set q.us (at + n) b.x) (set q.vs (at + n) b.y)) (add-one n)
              (put_more xs ys at bs n q.us q.vs q.put b (position_in xs ys 0) e (omega arith) (omega arith) f
              (set q.us (at + n) b.x) (set q.vs (at + n) b.y) refl refl);
        }

-- ---- bends that are kept, or only looked at
pub taken_put : (keep g r : Bool) (bs : List Position) (at n : ℕ) (xs ys xs' ys' : List Float) → keep ≡ true → BendsPut xs ys at bs n xs' ys'
    → BendsTaken keep g bs at n xs ys xs' ys' r
taken_put keep g r bs at n xs ys xs' ys' e p = subst (λ (k : Bool). BendsTaken k g bs at n xs ys xs' ys' r) (sym e) p

pub taken_looked : (keep g r : Bool) (bs : List Position) (at n : ℕ) (xs ys : List Float) → keep ≡ false → r ≡ g && all within bs
    → BendsTaken keep g bs at n xs ys xs ys r
taken_looked keep g r bs at n xs ys e p = subst (λ (k : Bool). BendsTaken k g bs at n xs ys xs ys r) (sym e) (p, (refl, refl))

-- those that are not kept stay
pub stays_on : (keep g r : Bool) (bs : List Position) (at n : ℕ) (xs₀ ys₀ xs ys xs' ys' : List Float) → Stays keep xs₀ ys₀ xs ys
    → BendsTaken keep g bs at n xs ys xs' ys' r → Stays keep xs₀ ys₀ xs' ys'
stays_on true g r bs at n xs₀ ys₀ xs ys xs' ys' S T e = absurd (true≢false e)
stays_on false g r bs at n xs₀ ys₀ xs ys xs' ys' S T e = (T.1.0 ∙ (S refl).0, T.1.1 ∙ (S refl).1)

-- ---- rows: the first cells of the file are in those of a, with their bends at bx and by; those are the bends of a, or g tells whether they lie
-- in bounds
abbrev bent : Arrays → List Float → List Float → Arrays
bent a xs ys = record a { bx = xs; by = ys }

pub record Bare (keep : Bool) (s : List ℕ) (at n p : ℕ) (a : Arrays) (used : Used) (g : Bool) : Type 0 where
  pub bx : List Float
  pub by : List Float
  pub rowed : Rowed s at n p (bent a bx by) used
  pub kept : Kept keep (bent a bx by) bx by a.bx a.by used.bends g

pub bare_start : (keep : Bool) (s : List ℕ) (at n : ℕ) (a : Arrays) → at ≤ length s → Lengths a
    → Bare keep s at n at (numbered a 0 0) (record { bends = 0; cycles = 0; steps = 0 }) true
bare_start keep s at n a h l =
    record { bx = a.bx; by = a.by; rowed = rowed_start s at n (numbered a 0 0) refl h (numbered_long a 0 0 l); kept = go keep }
  where
    go : (k : Bool) → Kept k (numbered a 0 0) a.bx a.by a.bx a.by 0 true
    go true = (refl, refl)
    go false = refl

module _ (keep : Bool) (s : List ℕ) (at n p : ℕ) (a : Arrays) (used : Used) (g : Bool) (B : Bare keep s at n p a used g) where
  abbrev held : Arrays
  held = bent a B.bx B.by

  -- the arrays of the bends are as long as they were at first
  pub bare_long : (xs₀ ys₀ : List Float) → Stays keep xs₀ ys₀ a.bx a.by → length xs₀ ≡ 2048 → length ys₀ ≡ 2048
      → (length a.bx ≡ 2048) × (length a.by ≡ 2048)
  bare_long xs₀ ys₀ S lx ly = go keep B.kept S
    where
      go : (k : Bool) → Kept k held B.bx B.by a.bx a.by used.bends g → Stays k xs₀ ys₀ a.bx a.by → (length a.bx ≡ 2048) × (length a.by ≡ 2048)
      go true e T = let l = B.rowed.long in (ap length (sym e.0) ∙ l.bx, ap length (sym e.1) ∙ l.by)
      go false e T = (ap length (T refl).0 ∙ lx, ap length (T refl).1 ∙ ly)

  -- one cell more, whose k bends were taken
  module _ (c : Cell) (first : ℕ) (H : ReadAt (read_head (drop p s)) s c first) (counts' steps' : List ℕ) (next : ℕ) (used' : Used)
      (P : PartsPut s first c.shape a.cycles a.steps used counts' steps' next used') (h : a.count < n) (few : a.count < 256)
      (xs' ys' : List Float) (r : Bool) where
    abbrev more : Arrays
    more = with_head a c counts' steps' xs' ys'

    abbrev spots : List Position
    spots = positions_at s first (bend_count c.shape)

    put_turn : (us vs : List Float) → BendsPut B.bx B.by used.bends spots (bend_count c.shape) us vs → Rowed s at n next (bent more us vs) used'
    put_turn us vs Q = rowed_turn s at n p held used B.rowed c first H us vs counts' steps' next used' P Q h few

    looked_turn : r ≡ g && all within spots → g ≡ all within (take used.bends (held_by held).bends) → Bare false s at n next more used' r
    looked_turn er eg =
        let l = B.rowed.long in
        let b = bend_count c.shape in
        let lb : length spots ≡ b = positions_length s first b in
        let q = place B.bx B.by used.bends spots b (l.bx ∙ sym l.by) (omega (arith, l.bx, P.room)) (omega arith) in
        record {
          bx = q.us;
          by = q.vs;
          rowed = put_turn q.us q.vs q.put;
          kept =
              er ∙ ap (λ (t : Bool). t && all within spots) eg
              ∙ all_both within (take used.bends (held_by held).bends) spots
              ∙ ap (all within) (sym (bends_after_lem B.bx B.by used.bends b spots q.us q.vs l.bx l.by P.room lb q.put))
              ∙ ap (λ (m : ℕ). all within (take m (positions_in q.us q.vs))) (sym P.filled.same_bends);
        }

    go : (k : Bool) → Kept k held B.bx B.by a.bx a.by used.bends g
        → BendsTaken k g spots used.bends (bend_count c.shape) a.bx a.by xs' ys' r → Bare k s at n next more used' r
    go true e T =
        record {
          bx = xs';
          by = ys';
          rowed =
              put_turn xs' ys'
              (subst (λ (us : List Float). BendsPut us B.by used.bends spots (bend_count c.shape) xs' ys') (sym e.0)
              (subst (λ (vs : List Float). BendsPut a.bx vs used.bends spots (bend_count c.shape) xs' ys') (sym e.1) T));
          kept = (refl, refl);
        }
    go false e T = looked_turn T.0 e

    pub bare_turn : (k : ℕ) → k ≡ bend_count c.shape → BendsTaken keep g (positions_at s first k) used.bends k a.bx a.by xs' ys' r
        → (b : Arrays) → b ≡ with_head a c counts' steps' xs' ys' → Bare keep s at n next b used' r
    bare_turn k ek T b e =
        subst (λ (x : Arrays). Bare keep s at n next x used' r) (sym e)
        (go keep B.kept (subst (λ (m : ℕ). BendsTaken keep g (positions_at s first m) used.bends m a.bx a.by xs' ys' r) ek T))

  pub bare_given : a.count ≡ n → length s ≤ p → n ≤ 256 → RowsHeld keep (times read_cell n (drop at s)) (exit_of n a) a.bx a.by g
  bare_given e h few =
      record {
        bx = B.bx;
        by = B.by;
        long = λ j. numbered_long held j n B.rowed.long;
        held = rowed_given s at n p held used B.rowed e h few;
        kept = λ j. whole j (rowed_total s at n p held used B.rowed e few j) keep B.kept;
      }
    where
      whole : (j : ℕ) → used.bends ≡ bend_total (held_by (numbered held j n)) → (k : Bool) → Kept k held B.bx B.by a.bx a.by used.bends g
          → Kept k (numbered held j n) B.bx B.by a.bx a.by (bend_total (held_by (numbered held j n))) g
      whole j m true t = t
      whole j m false t = t ∙ ap (λ (k : ℕ). all within (take k (held_by held).bends)) m

-- ---- the file
module _ (keep : Bool) (q : Read (List LiveCell)) (b : List Float → List Float → ℕ → Arrays) (xs ys : List Float) (r : Option Bool)
    (t : RowsTold keep q b xs ys r) where
  pub bare_yes : (g : Bool) → r ≡ Some g → RowsHeld keep q b xs ys g
  bare_yes g e = subst (RowsTold keep q b xs ys) e t

  pub bare_no : r ≡ None → CellsOver q
  bare_no e = subst (RowsTold keep q b xs ys) e t

pub rows_in_lem : (keep : Bool) (s : List ℕ) (next n at : ℕ) → CountsIn s next n at → (b : List Float → List Float → ℕ → Arrays) (xs ys : List Float) (g : Bool)
    → RowsHeld keep (times read_cell n (drop at s)) b xs ys g → RowsIn keep s (λ (us vs : List Float). b us vs next) xs ys g
rows_in_lem keep s next n at C b xs ys g H =
    record {
      bx = H.bx;
      by = H.by;
      long = H.long next;
      sheet = sheet_in s C.after next C.first n (drop at s) C.second (b H.bx H.by) H.held;
      kept = H.kept next;
    }
