-- Demand 3 of calls: one claim about a list of commands, each handed the state that the one before it gave back. Definitions only.
use Rattle.std.specs.Prelude.{ℕ, ◌≤◌, ◌<◌, ◌≡◌, Bool, List, ◌++◌, map, T, length, drop, ℤ}
use Rattle.number.specs.Readers.{got}
use Rattle.complex.specs.Cells.{Sheet, empty}
use Rattle.complex.specs.Sound.{doubles}
use Rattle.complex.specs.Boundary.{star}
use Rattle.complex.specs.Euler.{euler}
use Rattle.complex.specs.Decode.{delete, edit, decode}
use Rattle.complex.specs.Calls.{Filled, EulerAnswer}
use Rattle.complex.specs.Demands.{Step, after_items, shares_of_items, Each, after, share_of, live, Took, StarRight}
use Rattle.rows_star.specs.declared.Counted.{Counted}
use Rattle.rows_star.specs.Calls.{star_answered}
use Rattle.rows_euler.specs.declared.EulerNumber.{EulerNumber}
use Rattle.rows_euler.specs.Calls.{euler_answered}

-- what calls are handed and say: a state stands for a sheet, an item is any bytes with what a command answered to them
pub record Calls (State Item : Type 0) : Type 0 where
  -- question 1 of a state, and its sheet
  pub sound : State → Bool
  pub sheet : State → Sheet
  pub bytes : Item → List ℕ
  -- what a command answered, and the state that it gave back
  pub step : State → Item → Step State
  -- what the contracts of star and Euler say
  pub star : State → ℕ → List ℕ → Filled
  pub euler : State → EulerAnswer

-- star answers 0, the count and the ids in the buffer's first places; a buffer too short gets 9, the same count, and is left as it was
pub record StarGiven (ids buffer exit : List ℕ) (r : Counted) : Type 0 where
  pub fits : length ids ≤ length buffer → (r.number ≡ 0) × (r.count ≡ length ids) × (exit ≡ ids ++ drop (length ids) buffer)
  pub short : length buffer < length ids → (r.number ≡ 9) × (r.count ≡ length ids) × (exit ≡ buffer)

module _ {State Item : Type 0} (k : Calls State Item) where
  -- the state after the items
  abbrev pub state_after : State → List Item → State
  state_after = after_items k.step

  -- the shares of the commands answered with 0, each from its bytes and the state that it was handed
  abbrev pub shares_of : State → List Item → ℤ
  shares_of = shares_of_items k.step (λ (s : State) (i : Item). share_of (k.sheet s) (k.bytes i))

  -- each delete answered with 0 took exactly its target and the cells that rested on it
  abbrev pub DeleteTook : State → Item → Type 0
  DeleteTook s i =
      (j : ℕ) (t : List ℕ) → decode (k.bytes i) ≡ got (edit (delete j)) t → (k.step s i).number ≡ 0
      → Took (k.sheet s) (k.sheet (k.step s i).state) j

  abbrev pub DeletesOf : State → List Item → Type 0
  DeletesOf = Each k.step DeleteTook

  -- star and Euler stand outside the list and get the state s after it; the accepted commands' shares have this sum, and the answers
  -- are any that meet star's and Euler's contracts
  pub record Ends (s : State) (shares : ℤ) : Type 0 where
    pub stays_sound : T (k.sound s)
    pub all_f64 : T (doubles (k.sheet s))
    pub stars_right : (i : ℕ) → live (k.sheet s) i → StarRight (k.sheet s) i
    pub stars_given : (i : ℕ) → live (k.sheet s) i → (buffer exit : List ℕ) (r : Counted) → star_answered r exit ≡ k.star s i buffer
        → StarGiven (star (k.sheet s).cells i) buffer exit r
    pub euler_given : (r : EulerNumber) → euler_answered r ≡ k.euler s
        → (r.number ≡ 0) × (r.value ≡ euler (k.sheet s).cells)
    pub euler_sum : euler (k.sheet s).cells ≡ shares

  -- after the items from the empty drawing s
  pub record AfterCalls (s : State) (is : List Item) : Type 0 where
    pub reached : k.sheet (state_after s is) ≡ after empty (map k.bytes is)
    pub ends : Ends (state_after s is) (shares_of s is)
    pub deletes_exact : DeletesOf s is
