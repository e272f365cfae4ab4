-- One turn of a walk along a list in a script. Assumes nothing.
use mathlib.Core.Path.{◌≡◌, refl, sym, ap, ◌∙◌}
use mathlib.Core.List.{List, [], ◌∷◌}
use Prim.Native.Nat.{ℕ, suc, ◌+◌, ◌-◌, ◌≤◌, ◌<◌}
use native.Mathlib.Omega.{arith}
use lib.ListN.{length, drop}
use Rattle.number.specs.Readers.{Read, got, bad, and_then, times}
use Rattle.number.proofs.Laws.{not_bad, got_thing, got_rest}
use Rattle.number.proofs.Counted.{Things, times_cases}
use Rattle.decode_parts.specs.Lists.{FieldAt, list_of, skipped, things_read, Reaches, Stand}
use Rattle.decode_parts.proofs.Rest.{Leaves, leaves_times}
use Rattle.decode_parts.proofs.Skips.{one_more, skip_turn, skip_end, skipped_to}

-- how many of n are left when one more than i are passed
pub one_passed : (n i : ℕ) → n - (i + 1) ≡ n - i - 1
one_passed n i = omega arith

module _ {A : Type 0} (r : List ℕ → Read A) where
  -- what is read after the first thing
  abbrev after : A → Read (List A) → Read (List A)
  after x q = and_then q λ xs w. got (x ∷ xs) w

  module _ (s : List ℕ) (at left : ℕ) (some : 0 < left) where
    first_got : (x : A) (t : List ℕ) → r (drop at s) ≡ got x t → times r left (drop at s) ≡ after x (times r (left - 1) t)
    first_got x t e = one_more r s left some (drop at s) ∙ ap (λ (q : Read A). and_then q λ y u. after y (times r (left - 1) u)) e

    first_bad : r (drop at s) ≡ bad → times r left (drop at s) ≡ bad
    first_bad e = one_more r s left some (drop at s) ∙ ap (λ (q : Read A). and_then q λ y u. after y (times r (left - 1) u)) e

  pub none_left : (s : List ℕ) (at left : ℕ) → left ≤ 0 → things_read r s at left ≡ []
  none_left s at left h = let e : left ≡ 0 = omega arith in ap (things_read r s at) e

  -- nothing comes after the last thing
  pub none_after : (left : ℕ) → left ≡ 1 → (s t : List ℕ) (xs : List A) → times r (left - 1) s ≡ got xs t → xs ≡ []
  none_after left e s t xs h = sym (got_thing [] xs s t (ap (λ (n : ℕ). times r (n - 1) s) (sym e) ∙ h))

  one_got : (s : List ℕ) (at : ℕ) (x : A) (t : List ℕ) → r (drop at s) ≡ got x t → times r 1 (drop at s) ≡ got (x ∷ []) t
  one_got s at x t e = ap (λ (q : Read A). and_then q λ y u. got (y ∷ []) u) e

module _ {A : Type 0} {r : List ℕ → Read A} {s : List ℕ} {at left : ℕ} (stand : Stand r s at left) (some : 0 < left) where
  -- a list that stands does not break off
  pub stuck : r (drop at s) ≡ bad → ⊥
  stuck e = not_bad (things_read r s at left) (drop stand.end s) (sym (first_bad r s at left some e) ∙ stand.reach.read)

  -- its first thing
  pub first_thing : Things r (left - 1) (drop at s) (drop stand.end s) (things_read r s at left)
  first_thing =
      let e : left ≡ suc (left - 1) = omega arith in
      times_cases r (left - 1) (drop at s) (drop stand.end s) (things_read r s at left)
      (ap (λ (n : ℕ). times r n (drop at s)) (sym e) ∙ stand.reach.read)

  module _ (L : Leaves r) where
    -- the first thing, and the list that is left
    pub turn : {x : A} {next : ℕ} → FieldAt r s at x next → (things_read r s at left ≡ x ∷ things_read r s next (left - 1)) × Stand r s next (left - 1)
    turn {x} {next} f = go (times r (left - 1) (drop next s)) refl
      where
        go : (q : Read (List A)) → times r (left - 1) (drop next s) ≡ q → (things_read r s at left ≡ x ∷ things_read r s next (left - 1))
            × Stand r s next (left - 1)
        go (got xs t) g =
            let w : times r left (drop at s) ≡ got (x ∷ xs) t = first_got r s at left some x (drop next s) f.read ∙ ap (after r x) g in
            let l = leaves_times r L (left - 1) s next xs t f.fits g in (
              ap list_of w ∙ ap (λ (q : Read (List A)). x ∷ list_of q) (sym g),
              record {
                end = l.next;
                reach = record { read = g ∙ (λ i. got (list_of (sym g i)) (l.is i)); after = l.after; fits = l.fits };
              },
            )
        go bad g =
            absurd (not_bad (things_read r s at left) (drop stand.end s)
            (sym (first_got r s at left some x (drop next s) f.read ∙ ap (after r x) g) ∙ stand.reach.read))

    -- the first of several stands by itself
    pub one_stands : Stand r s at 1
    one_stands =
        let a = stand.reach.after in
        let b = stand.reach.fits in
        let f = first_thing in
        let l = L s at f.head f.between (omega arith) f.one in
        let w = one_got r s at f.head f.between f.one in
        record {
          end = l.next;
          reach = record { read = w ∙ (λ i. got (list_of (sym w i)) (l.is i)); after = l.after; fits = l.fits };
        }

-- ---- one thing of a list
module _ {A : Type 0} {r : List ℕ → Read A} {s : List ℕ} {at next : ℕ} where
  pub field_reaches : {x : A} → FieldAt r s at x next → Reaches r s at 1 next
  field_reaches {x} f =
      let w = one_got r s at x (drop next s) f.read in
      record { read = w ∙ ap (λ (xs : List A). got xs (drop next s)) (sym (ap list_of w)); after = f.after; fits = f.fits }

  pub reach_field : Reaches r s at 1 next → (x : A) × FieldAt r s at x next
  reach_field h = go (r (drop at s)) refl
    where
      go : (q : Read A) → r (drop at s) ≡ q → (x : A) × FieldAt r s at x next
      go (got x t) f =
          let w = one_got r s at x t f in
          let e = got_rest (x ∷ []) (things_read r s at 1) t (drop next s) (sym w ∙ h.read) in
          (x, record { read = f ∙ ap (got x) e; after = h.after; fits = h.fits })
      go bad f = absurd (not_bad (things_read r s at 1) (drop next s) (sym (ap (λ (q : Read A). and_then q λ y u. got (y ∷ []) u) f) ∙ h.read))

  pub field_list : {x : A} → FieldAt r s at x next → things_read r s at 1 ≡ x ∷ []
  field_list {x} f = ap list_of (one_got r s at x (drop next s) f.read)

-- ---- a walk that answers where the list ends
-- of n things from `at` on, `left` are left from `place` on
pub record Walking {A : Type 0} (r : List ℕ → Read A) (s : List ℕ) (at n place left : ℕ) : Type 0 where
  pub stand : Stand r s place left
  pub starts : at ≤ length s
  pub ends : skipped (length s) (times r left (drop place s)) ≡ skipped (length s) (times r n (drop at s))

pub walking_start : {A : Type 0} {r : List ℕ → Read A} {s : List ℕ} {at n : ℕ} → Stand r s at n → Walking r s at n at n
walking_start h =
    let a = h.reach.after in
    let f = h.reach.fits in
    record { stand = h; starts = omega arith; ends = refl }

module _ {A : Type 0} {r : List ℕ → Read A} {s : List ℕ} {at n place left : ℕ} (w : Walking r s at n place left) (L : Leaves r) where
  pub walking_turn : 0 < left → {x : A} {next : ℕ} → FieldAt r s place x next
      → (things_read r s place left ≡ x ∷ things_read r s next (left - 1)) × Walking r s at n next (left - 1)
  walking_turn some {x} {next} f =
      let t = turn w.stand some L f in
      (t.0, record { stand = t.1; starts = w.starts; ends = skip_turn r s place left some x next f.read ∙ w.ends })

  pub walking_end : left ≤ 0 → Reaches r s at n place
  walking_end z =
      let a = w.stand.reach.after in
      let f = w.stand.reach.fits in
      let q = skipped_to r L s at n place w.starts (sym (skip_end r s place left (omega arith) z ∙ w.ends)) in
      record { read = q.0; after = q.1; fits = q.2 }

-- ---- a question about a list
-- what f answers of those that are left is b, the answer of all of them
pub record Asking {A B : Type 0} (r : List ℕ → Read A) (s : List ℕ) (at n place left : ℕ) (f : List A → B) (b : B) : Type 0 where
  pub walk : Walking r s at n place left
  pub is : f (things_read r s place left) ≡ b

module _ {A B : Type 0} {r : List ℕ → Read A} {s : List ℕ} {at n place left : ℕ} {f : List A → B} {b : B} (a : Asking r s at n place left f b) (L : Leaves r)
  where
    module _ (some : 0 < left) {x : A} {next : ℕ} (h : FieldAt r s place x next) where
      -- the first thing decides
      pub asking_stop : {d : B} → ((xs : List A) → d ≡ f (x ∷ xs)) → d ≡ b
      asking_stop e = e (things_read r s next (left - 1)) ∙ ap f (sym (walking_turn a.walk L some h).0) ∙ a.is

      -- it leaves a question about the others
      pub asking_turn : {g : List A → B} → ((xs : List A) → g xs ≡ f (x ∷ xs)) → Asking r s at n next (left - 1) g b
      asking_turn e =
          let w = walking_turn a.walk L some h in
          record { walk = w.1; is = e (things_read r s next (left - 1)) ∙ ap f (sym w.0) ∙ a.is }

    pub asking_end : left ≤ 0 → f [] ≡ b
    asking_end z = ap f (sym (none_left r s place left z)) ∙ a.is
