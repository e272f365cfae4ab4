-- Refusals change nothing, ids are issued in turn and again only after a renumbering, and the removed are counted. Assumes nothing.
use Prim.Native.Nat.{ℕ, suc, ◌+◌, ◌-◌, ◌≤◌, ◌<◌}
use native.Mathlib.Omega.{arith}
use mathlib.Core.Path.{◌≡◌, refl, sym, ap, ◌∙◌}
use mathlib.Core.Logic.{inl, inr}
use mathlib.Core.Bool.{Bool, true, false, not, cond, true≢false}
use mathlib.Core.List.{List, [], ◌∷◌}
use mathlib.Core.Option.{Option, none, some}
use lib.ListN.{length, length-append, length-map}
use lib.Dec.{T, eqb, ltb}
use borrow.Author.Tests.{eq-eqb, ne_eqb, eqb-false}
use Rattle.complex.specs.Lists.{all, filter, cons_if, rising}
use Rattle.complex.specs.Cells.{Figure, LiveCell, Sheet, empty, some_if, lookup, cell_at, ids, is_live}
use Rattle.complex.specs.Sound.{sound}
use Rattle.complex.specs.Edits.{keep_ids, reshape, numbered, rebuild}
use Rattle.number.specs.Readers.{got}
use Rattle.complex.specs.Decode.{Command, renumber, decode}
use Rattle.complex.specs.Renumber.{renumbered}
use Rattle.complex.specs.Commands.{result}
use Rattle.complex.specs.Answer.{Answer, no, removed_from, renewed, command}
use Rattle.complex.specs.Demands.{after, live, Refusals, renumbering, NoRenumbering, NeverAgain, IdsIssued, Again, Renumberings}
use Rattle.complex.specs.Rows.{dot}
use Rattle.complex.proofs.Bools.{truth, true_of, either, both, pair}
use Rattle.complex.proofs.Lookup.{or_else, changed, lookup_rebuild, rising_lt}
use Rattle.complex.proofs.Keep.{Sound, sound_parts, parts_sound}
use Rattle.complex.proofs.Renumber.{length_numbered, renumber_order, renumber_cells, renumber_twice}
use Rattle.complex.proofs.RenumberSound.{renumber_sound, renumber_euler, renumber_late}
use Rattle.complex.proofs.RenumberStar.{renumber_stars}
use Rattle.complex.proofs.Rebuilt.{Rebuilt, rebuilt, result_rebuilt}
use Rattle.complex.proofs.Obey.{Outcome, refusal, obeyed, renews, outcome}

-- every command's outcome: an unsound drawing is refused by 1
answered : (s : Sheet) (b : List ℕ) → Outcome s b
unfolding command
answered s b = elim (either (sound s)) [
  | inl e ↦ outcome s b (truth e)
  | inr e ↦ refusal 1 (λ z. omega arith) (rw e)
]

-- ---- refusals
pub refusals : Refusals
unfolding renewed
refusals s b r = elim (answered s b) [
  | refusal n z q ↦ q ∙ ap (λ (a : Answer). no a.number s) (sym q)
  | obeyed c t e p q ↦ absurd (r (ap (λ (a : Answer). a.number) q))
  | renews t e q ↦ absurd (r (ap (λ (a : Answer). a.number) q))
]

-- ---- t comes of s by issuing ids from the next on
record Follows (s t : Sheet) : Type 0 where
  grows : s.next ≤ t.next
  no_other : (i : ℕ) → i < s.next → live t i → live s i
  no_gap : (i : ℕ) → s.next ≤ i → i < t.next → live t i

follows_self : (s : Sheet) → Follows s s
follows_self s = record { grows = omega arith; no_other = λ i h l. l; no_gap = λ i h l. absurd (omega arith) }

-- new cells have no id below the next
lookup_below : (n : ℕ) (new : List Figure) (i : ℕ) → i < n → lookup (numbered n new) i ≡ none
lookup_below n [] i h = refl
lookup_below n (x ∷ xs) i h = rw (ne_eqb n i (λ e. omega arith)) (lookup_below (suc n) xs i (omega arith))

-- and every one from it on, as many as there are
live_new : (n : ℕ) (new : List Figure) (i : ℕ) → n ≤ i → i < n + length new → T (is_live (lookup (numbered n new) i))
live_new n [] i h l = absurd (omega arith)
live_new n (x ∷ xs) i h l = elim (either (eqb n i)) [
  | inl e ↦ rw e tt
  | inr e ↦ let z = eqb-false n i e in rw e (live_new (suc n) xs i (omega arith) (omega arith))
]

live_else : (o u : Option Figure) → T (is_live u) → T (is_live (or_else o u))
live_else none u l = l
live_else (some x) u l = tt

follows : (p : ℕ → Bool) (f : ℕ → Figure → Figure) (new : List Figure) (s : Sheet) → Follows s (rebuild p f new s)
follows p f new s =
    record {
      grows = omega arith;
      no_other = λ i h l. go i (p i) (cell_at s i) (rw (lookup_rebuild p f new s i, lookup_below s.next new i h) at l);
      no_gap = λ i h l. rw (lookup_rebuild p f new s i)
          (live_else (changed (f i) (cond (p i) (cell_at s i) none)) (lookup (numbered s.next new) i) (live_new s.next new i h l));
    }
  where
    go : (i : ℕ) (b : Bool) (o : Option Figure) → T (is_live (or_else (changed (f i) (cond b o none)) none)) → T (is_live o)
    go i true none l = l
    go i true (some x) l = tt
    go i false o l = absurd l

-- so does every kind's result
follows_of : {s t : Sheet} → Rebuilt s t → Follows s t
follows_of {s} (rebuilt p f new) = follows p f new s

follows_result : (s : Sheet) (c : Command) → Follows s (result s c)
follows_result s c = follows_of (result_rebuilt s c)

-- ---- ids
pub issues : IdsIssued
unfolding renewed
issues s b n = elim (answered s b) [
  | refusal n z q ↦ record {
    next_id = rw q (omega arith);
    first_id = rw q (λ h. absurd
        (omega arith));
    issued = rw q (follows_self s).no_gap;
    live_before = rw q (λ i h l. l);
  }
  | obeyed c t e p q ↦
      let F = follows_result s c in
      let g = F.grows in
      record {
        next_id = rw q (omega arith);
        first_id = rw q (λ h. rw (ne_eqb ((result s c).next - s.next) 0 (λ z. omega arith)));
        issued = rw q F.no_gap;
        live_before = rw q F.no_other;
      }
  | renews t e q ↦ absurd (true≢false (rw (q, e) at n))
]

-- an id that was issued and is dead stays dead
abbrev Spent : ℕ → Sheet → Type 0
Spent i s = (i < s.next) × (live s i → ⊥)

stays_dead : (i : ℕ) (s : Sheet) (b : List ℕ) → renumbering s b ≡ false → Spent i s → Spent i (command s b).sheet
stays_dead i s b e h =
    let I = issues s b e in
    let n = I.next_id in
    let l = h.0 in
    (omega arith, λ z. h.1 (I.live_before i l z))

all_dead : (i : ℕ) (s : Sheet) (cs : List (List ℕ)) → NoRenumbering s cs → Spent i s → Spent i (after s cs)
all_dead i s [] n h = h
all_dead i s (c ∷ cs) n h = all_dead i (command s c).sheet cs n.1 (stays_dead i s c n.0 h)

pub never_again : NeverAgain
never_again bs cs i n h d = (all_dead i (after empty bs) cs n (h, d)).1

-- a vertex is made and deleted; after a renumbering the next one has its id
pub again : Again
unfolding command
again =
    record {
      before = dot ∷ (0x06 ∷ 1 ∷ []) ∷ [];
      later = (0x0F ∷ []) ∷ dot ∷ [];
      id = 1;
      was_issued = omega arith;
      was_dead = λ l. l;
      is_live = tt;
    }

-- ---- the removed
-- every cell is live where it stands
live_in : (cs ds : List LiveCell) → ((i : ℕ) → T (is_live (lookup ds i)) → T (is_live (lookup cs i))) → T (all (λ (c : LiveCell). is_live (lookup cs c.id)) ds)
live_in cs [] h = tt
live_in cs (d ∷ ds) h =
    pair (is_live (lookup cs d.id)) _ (h d.id (rw (eq-eqb d.id d.id refl) tt)) (live_in cs ds (λ i l. h i (more i (eqb d.id i) l)))
  where
    more : (i : ℕ) (y : Bool) → T (is_live (lookup ds i)) → T (is_live (some_if y d.figure (lookup ds i)))
    more i true l = tt
    more i false l = l

pub all_live : (cs : List LiveCell) → T (all (λ (c : LiveCell). is_live (lookup cs c.id)) cs)
all_live cs = live_in cs cs (λ i l. l)

removed_none : (cs ds : List LiveCell) → T (all (λ (c : LiveCell). is_live (lookup cs c.id)) ds)
    → filter (λ (c : LiveCell). not (is_live (lookup cs c.id))) ds ≡ []
removed_none cs [] h = refl
removed_none cs (d ∷ ds) h =
    let b = both (is_live (lookup cs d.id)) (all (λ (c : LiveCell). is_live (lookup cs c.id)) ds) h in
    rw (true_of (is_live (lookup cs d.id)) b.0) (removed_none cs ds b.1)

pub removed_count : (s : Sheet) (b : List ℕ) → renumbering s b ≡ false → (command s b).removed ≡ length (removed_from s (command s b).sheet)
unfolding renewed
removed_count s b n = elim (answered s b) [
  | refusal n z q ↦ rw (q, removed_none s.cells s.cells (all_live s.cells))
  | obeyed c t e p q ↦ rw q
  | renews t e q ↦ absurd (true≢false (rw (q, e) at n))
]

-- ---- of the cells of a rebuild: those that went and those that are there are those that were and the new ones
module _ (p : ℕ → Bool) (f : ℕ → Figure → Figure) (new : List Figure) (s : Sheet) where
  abbrev gone : LiveCell → Bool
  gone c = not (is_live (cell_at (rebuild p f new s) c.id))

  live_after : (i : ℕ) → i < s.next → T (is_live (cell_at s i)) → is_live (cell_at (rebuild p f new s) i) ≡ p i
  live_after i h l = ap is_live (lookup_rebuild p f new s i) ∙ rw (lookup_below s.next new i h) (go (p i) (cell_at s i) l)
    where
      go : (b : Bool) (o : Option Figure) → T (is_live o) → is_live (or_else (changed (f i) (cond b o none)) none) ≡ b
      go b none l = absurd l
      go true (some x) l = refl
      go false (some x) l = refl

  split_cells : (lo : ℕ) (cs : List LiveCell) → T (rising lo (ids cs) s.next) → T (all (λ (c : LiveCell). is_live (cell_at s c.id)) cs)
      → length (filter gone cs) + length (keep_ids p cs) ≡ length cs
  split_cells lo [] r a = refl
  split_cells lo (c ∷ cs) r a =
      let b = both (ltb lo c.id) (rising c.id (ids cs) s.next) r in
      let l = both (is_live (cell_at s c.id)) (all (λ (d : LiveCell). is_live (cell_at s d.id)) cs) a in
      let e = live_after c.id (rising_lt c.id (ids cs) s.next b.1) l.0 in
      go (p c.id) (ap not e) (split_cells c.id cs b.1 l.1)
    where
      go : (x : Bool) → gone c ≡ not x → length (filter gone cs) + length (keep_ids p cs) ≡ length cs
          → length (cons_if (gone c) c (filter gone cs)) + length (cons_if x c (keep_ids p cs)) ≡ suc (length cs)
      go true e h = rw e (omega arith)
      go false e h = rw e (omega arith)

-- how many went is known from how many there are
pub removed_rebuilt : (s : Sheet) → Sound s → (t : Sheet) → Rebuilt s t → length (removed_from s t) + length t.cells ≡ length s.cells + (t.next - s.next)
removed_rebuilt s S t (rebuilt p f new) =
    let a = split_cells p f new s 0 s.cells S.rises (all_live s.cells) in
    let b = length-append (reshape f (keep_ids p s.cells)) (numbered s.next new) in
    let c = length-map {B = LiveCell} (keep_ids p s.cells) (λ (x : LiveCell). record { id = x.id; figure = f x.id x.figure }) in
    let d = length_numbered s.next new in
    omega arith

-- ---- 0F
renumber_answers : (s : Sheet) → T (sound s) → (b t : List ℕ) → decode b ≡ got renumber t → command s b ≡ renewed s
unfolding command
renumber_answers s S b t e = rw (true_of (sound s) S, e)

pub renumberings : Renumberings
unfolding renewed renumbered
renumberings s S =
    record {
      answers = renumber_answers s S;
      late_yes = renumber_late s S;
      stays_sound = parts_sound (renumbered s) (renumber_sound s (sound_parts s S));
      next_id = refl;
      same_euler = renumber_euler s;
      in_order = renumber_order s S;
      same_cells = renumber_cells s;
      same_stars = renumber_stars s S;
      twice = renumber_twice s;
    }
