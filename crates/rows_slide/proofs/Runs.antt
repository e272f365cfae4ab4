-- The places of rows that stay, moved in runs. Assumes nothing.
use Prim.Native.Nat.{ℕ, zero, suc, ◌+◌, ◌-◌, ◌<◌, ◌≤◌}
use native.Mathlib.Omega.{arith}
use mathlib.Core.Path.{◌≡◌, refl, sym, ap, ap₂, ◌∙◌, subst, subst₂}
use mathlib.Core.Bool.{Bool, true, false}
use mathlib.Core.List.{List, [], ◌∷◌, ◌++◌}
use lib.ListN.{length, take, drop, replicate, length-append, length-replicate, length-drop, take-append-drop, replicate-append-replicate}
use lib.Seq.{take-add, length-take-le, take_at, drop_at, take_all}
use Rattle.complex.specs.Lists.{total}
use Rattle.complex.specs.Sound.{cells_most}
use Rattle.store.specs.Edits.{places_of, spread_flags, Compacted, PlacesKept}
use Rattle.store.proofs.Lists.{Packing, packing_start, packing_end, spread_append, sum_append, sum_le}
use Rattle.rows_spans.proofs.Splicing.{run_take}
use Rattle.rows_slide.specs.declared.Stretch.{Stretch}
use Rattle.rows_slide.specs.Slid.{Slid, Alike}
use Rattle.rows_slide.specs.Stretches.{StretchAt}
use Rattle.rows_slide.proofs.Sliding.{packing_run}

-- ---- sums of runs
run_more : (f : ℕ → ℕ) (l : List ℕ) (i n : ℕ) → total f (take (i + n) l) ≡ total f (take i l) + total f (take n (drop i l))
run_more f l i n = ap (total f) (take-add i n l) ∙ sum_append f (take i l) (take n (drop i l))

pub run_few : (f : ℕ → ℕ) (l : List ℕ) (i m n : ℕ) → i + m ≤ n → total f (take m (drop i l)) ≤ total f (take n l)
run_few f l i m n h = let a = run_more f l i m in let b = sum_le f l (i + m) n h in omega arith

-- ---- flags once for each place
pub spread_length : (z : ℕ) (bs : List Bool) (cs : List ℕ) → length bs ≡ length cs → length (spread_flags z bs cs) ≡ total (places_of z) cs
spread_length z [] [] e = refl
spread_length z [] (c ∷ cs) e = absurd (omega arith)
spread_length z (b ∷ bs) [] e = absurd (omega arith)
spread_length z (b ∷ bs) (c ∷ cs) e = length-append (replicate (places_of z c) b) (spread_flags z bs cs)
    ∙ ap₂ ◌+◌ (length-replicate (places_of z c) b) (spread_length z bs cs (omega arith))

pub spread_same : (z n : ℕ) (b : Bool) (cs : List ℕ) → length cs ≡ n → spread_flags z (replicate n b) cs ≡ replicate (total (places_of z) cs) b
spread_same z zero b [] e = refl
spread_same z zero b (c ∷ cs) e = absurd (omega arith)
spread_same z (suc n) b [] e = absurd (omega arith)
spread_same z (suc n) b (c ∷ cs) e =
    ap (λ (q : List Bool). replicate (places_of z c) b ++ q) (spread_same z n b cs (omega arith))
    ∙ replicate-append-replicate (places_of z c) (total (places_of z) cs) b

module _ (z : ℕ) (bs : List Bool) (cs : List ℕ) (h : length bs ≡ length cs) (i : ℕ) (hi : i ≤ length cs) where
  front_length : length (take i bs) ≡ length (take i cs)
  front_length = length-take-le i bs (omega arith) ∙ sym (length-take-le i cs hi)

  parts : spread_flags z bs cs ≡ spread_flags z (take i bs) (take i cs) ++ spread_flags z (drop i bs) (drop i cs)
  parts =
      sym (ap₂ (spread_flags z) (take-append-drop i bs) (take-append-drop i cs))
      ∙ spread_append z (take i bs) (drop i bs) (take i cs) (drop i cs) front_length

  spread_take : take (total (places_of z) (take i cs)) (spread_flags z bs cs) ≡ spread_flags z (take i bs) (take i cs)
  spread_take =
      ap (take (total (places_of z) (take i cs))) parts
      ∙ take_at (spread_flags z (take i bs) (take i cs)) (spread_flags z (drop i bs) (drop i cs)) (total (places_of z) (take i cs))
      (spread_length z (take i bs) (take i cs) front_length)

  spread_drop : drop (total (places_of z) (take i cs)) (spread_flags z bs cs) ≡ spread_flags z (drop i bs) (drop i cs)
  spread_drop =
      ap (drop (total (places_of z) (take i cs))) parts
      ∙ drop_at (spread_flags z (take i bs) (take i cs)) (spread_flags z (drop i bs) (drop i cs)) (total (places_of z) (take i cs))
      (spread_length z (take i bs) (take i cs) front_length)

-- the places of n rows from i on are flagged as these are
spread_run : (z : ℕ) (bs : List Bool) (cs : List ℕ) → length bs ≡ length cs → (i n at m : ℕ) (b : Bool) → i + n ≤ length cs → take n (drop i bs) ≡ replicate n b
    → at ≡ total (places_of z) (take i cs) → m ≡ total (places_of z) (take n (drop i cs)) → take m (drop at (spread_flags z bs cs)) ≡ replicate m b
spread_run z bs cs h i n at m b g e ea em =
    let ld : length (drop i bs) ≡ length (drop i cs) = omega (arith, length-drop i bs, length-drop i cs) in
    let k : n ≤ length (drop i cs) = omega (arith, length-drop i cs) in
    ap₂ (λ (x y : ℕ). take x (drop y (spread_flags z bs cs))) em ea
    ∙ ap (take (total (places_of z) (take n (drop i cs)))) (spread_drop z bs cs h i (omega arith))
    ∙ spread_take z (drop i bs) (drop i cs) ld n k
    ∙ ap (λ (x : List Bool). spread_flags z x (take n (drop i cs))) e
    ∙ spread_same z n b (take n (drop i cs)) (length-take-le n (drop i cs) k)
    ∙ ap (λ (x : ℕ). replicate x b) (sym em)

-- ---- the places of the first i rows: at is where those of the next begin, and to where they go
pub record Places {A : Type 0} (z : ℕ) (flags : List Bool) (counts : List ℕ) (l₀ : List A) (i at to : ℕ) (l : List A) : Type 0 where
  pub place : at ≡ total (places_of z) (take i counts)
  pub packing : Packing (spread_flags z flags counts) l₀ at to l

pub none_gone : {A : Type 0} (z : ℕ) (flags : List Bool) (counts : List ℕ) (l₀ : List A) → Places z flags counts l₀ 0 0 0 l₀
none_gone z flags counts l₀ = record { place = refl; packing = packing_start (spread_flags z flags counts) l₀ }

-- what a run of x dead places and y living ones after them gives, where the rows go on at e
pub record Turned {A : Type 0} (z : ℕ) (flags : List Bool) (counts : List ℕ) (l₀ : List A) (at to : ℕ) (l : List A) (e x y : ℕ) : Type 0 where
  pub below : to ≤ at
  pub within : at + x + y ≤ total (places_of z) counts
  pub dead : take x (drop at (spread_flags z flags counts)) ≡ replicate x true
  pub living : take y (drop (at + x) (spread_flags z flags counts)) ≡ replicate y false
  pub again : (l' : List A) → Slid l (at + x) y to l' → Places z flags counts l₀ e (at + x + y) (to + y) l'

module _ {A : Type 0} (z : ℕ) (flags : List Bool) (counts : List ℕ) (h : length flags ≡ length counts) (l₀ : List A)
    (hl : total (places_of z) counts ≤ length l₀) where
  module _ (i at to : ℕ) (l : List A) (p : Places z flags counts l₀ i at to l) (g m j e : ℕ) (ej : j ≡ i + g) (ee : e ≡ j + m) (he : e ≤ length counts)
      (dead : take g (drop i flags) ≡ replicate g true) (living : take m (drop j flags) ≡ replicate m false)
      (x y : ℕ) (ex : x ≡ total (places_of z) (take g (drop i counts))) (ey : y ≡ total (places_of z) (take m (drop j counts))) where
    places_mid : at + x ≡ total (places_of z) (take j counts)
    places_mid = ap₂ ◌+◌ p.place ex ∙ sym (run_more (places_of z) counts i g) ∙ ap (λ (w : ℕ). total (places_of z) (take w counts)) (sym ej)

    places_next : at + x + y ≡ total (places_of z) (take e counts)
    places_next = ap₂ ◌+◌ places_mid ey ∙ sym (run_more (places_of z) counts j m) ∙ ap (λ (w : ℕ). total (places_of z) (take w counts)) (sym ee)

    places_within : at + x + y ≤ total (places_of z) counts
    places_within =
        let a = sum_le (places_of z) counts e (length counts) he in
        let b = ap (total (places_of z)) (take_all (length counts) counts (omega arith)) in
        omega (arith, places_next)

    pub places_turn : Turned z flags counts l₀ at to l e x y
    places_turn =
        let r = places_within in
        let w = spread_length z flags counts h in
        let d = spread_run z flags counts h i g at x true (omega arith) dead p.place ex in
        let v = spread_run z flags counts h j m (at + x) y false (omega arith) living places_mid ey in
        record {
          below = p.packing.le;
          within = r;
          dead = d;
          living = v;
          again = λ l' s.
              record {
                place = places_next;
                packing =
                    packing_run (spread_flags z flags counts) l₀ l l' at to x y (at + x) (at + x + y) refl refl (omega arith) (omega arith)
                    d v p.packing s;
              };
        }

  -- all rows
  pub places_end : (at to : ℕ) (l : List A) → Places z flags counts l₀ (length counts) at to l → PlacesKept z flags counts l₀ l
  places_end at to l p =
      let e : at ≡ total (places_of z) counts = p.place ∙ ap (total (places_of z)) (take_all (length counts) counts (omega arith)) in
      let w = spread_length z flags counts h in
      let k = packing_end {flags = spread_flags z flags counts} (omega arith) p.packing in
      record {
        packed =
            subst₂ (λ (a : List Bool) (n : ℕ). Compacted a (take n l₀) l) (take_all at (spread_flags z flags counts) (omega arith)) e k;
      }

-- ---- of flags and counts the first n, of arrays with a place for every cell
module _ (flags : List Bool) (counts : List ℕ) (n : ℕ) (hn : n ≤ cells_most) (lf : length flags ≡ cells_most) (lc : length counts ≡ cells_most) where
  hc : n ≤ length counts
  hc = omega arith

  pub both_first : length (take n flags) ≡ length (take n counts)
  both_first = length-take-le n flags (omega arith) ∙ sym (length-take-le n counts hc)

  -- a stretch of dead rows and of the living ones after them
  module _ {A : Type 0} (l₀ : List A) (most : ℕ) (ht : total (places_of 0) (take n counts) ≤ most) (ll : length l₀ ≡ most) (i at to : ℕ) (l : List A)
      (p : Places 0 (take n flags) (take n counts) l₀ i at to l)
      (s : Stretch) (q : StretchAt flags counts n i s) where
    to_mid : s.mid ≡ i + (s.mid - i)
    to_mid = let h = q.dead.from in omega arith

    to_next : s.next ≡ s.mid + (s.next - s.mid)
    to_next = let h = q.living.from in omega arith

    next_in_lem : s.next ≤ length (take n counts)
    next_in_lem = let h = q.living.within in omega (arith, length-take-le n counts hc)

    dead_run : take (s.mid - i) (drop i (take n flags)) ≡ replicate (s.mid - i) true
    dead_run = let h = q.dead.from in let k = q.dead.within in run_take (s.mid - i) i n flags (omega arith) ∙ q.dead.same

    living_run : take (s.next - s.mid) (drop s.mid (take n flags)) ≡ replicate (s.next - s.mid) false
    living_run = let h = q.living.from in let k = q.living.within in run_take (s.next - s.mid) s.mid n flags (omega arith) ∙ q.living.same

    gone_is : s.gone ≡ total (places_of 0) (take (s.mid - i) (drop i (take n counts)))
    gone_is = let h = q.dead.from in let k = q.dead.within in q.gone ∙ ap (total (places_of 0)) (sym (run_take (s.mid - i) i n counts (omega arith)))

    stay_is : s.stay ≡ total (places_of 0) (take (s.next - s.mid) (drop s.mid (take n counts)))
    stay_is =
        let h = q.living.from in
        let k = q.living.within in
        q.stay ∙ ap (total (places_of 0)) (sym (run_take (s.next - s.mid) s.mid n counts (omega arith)))

    pub stretch_turn : Turned 0 (take n flags) (take n counts) l₀ at to l s.next s.gone s.stay
    stretch_turn =
        places_turn 0 (take n flags) (take n counts) both_first l₀ (omega arith) i at to l p (s.mid - i) (s.next - s.mid) s.mid
        s.next to_mid to_next next_in_lem
        dead_run living_run s.gone s.stay gone_is stay_is

  pub stretch_end : {A : Type 0} (l₀ : List A) (most : ℕ) → total (places_of 0) (take n counts) ≤ most → length l₀ ≡ most → (i at to : ℕ) (l : List A) → i ≡ n
      → Places 0 (take n flags) (take n counts) l₀ i at to l → PlacesKept 0 (take n flags) (take n counts) l₀ l
  stretch_end l₀ most ht ll i at to l e p =
      places_end 0 (take n flags) (take n counts) both_first l₀ (omega arith) at to l
      (subst (λ (k : ℕ). Places 0 (take n flags) (take n counts) l₀ k at to l) (e ∙ sym (length-take-le n counts hc)) p)
