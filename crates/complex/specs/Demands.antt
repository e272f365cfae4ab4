-- What is asked of the whole: the claims, each as one statement. Definitions only.
use Rattle.std.specs.Prelude.{ℕ, zero, suc, ◌+◌, ◌≤◌, ◌<◌, ◌≡◌, ◌⊎◌, ◌↔◌, Bool, true, false, ◌&&◌, cond, List, [], ◌∷◌, ◌++◌, map, length, drop, ℤ, pos, ◌+ℤ◌, T, eqb, ltb}
use Rattle.std.proofs.Math.Option.{some}
use Rattle.number.specs.Readers.{Read, got, bad}
use Rattle.complex.specs.Lists.{all, holds, rising}
use Rattle.complex.specs.Cells.{Figure, Sheet, empty, cell_at, ids, is_live}
use Rattle.complex.specs.Sound.{sound, doubles}
use Rattle.complex.specs.Boundary.{RestsOn, bounds_at, star}
use Rattle.complex.specs.Euler.{euler}
use Rattle.complex.specs.Edits.{rewired}
use Rattle.complex.specs.Decode.{delete, Order, edit, renumber, decode}
use Rattle.complex.specs.Commands.{share}
use Rattle.complex.specs.Renumber.{rank, renamed_step, renumbered}
use Rattle.complex.specs.Answer.{Answer, first_no, of_result, command}
use Rattle.complex.specs.File.{file_of, read_file}
use Rattle.complex.specs.Calls.{star_call, euler_call}

-- ---- demand 3 is one claim about a list, of any length from none: each item is handed the state that the one before it gave back
-- what a step answers: its number, and the state that it gives back
pub record Step (State : Type 0) : Type 0 where
  pub number : ℕ
  pub state : State

module _ {State Item : Type 0} (step : State → Item → Step State) where
  -- the state after the list
  abbrev pub after_items : State → List Item → State
  after_items s [] = s
  after_items s (i ∷ is) = after_items (step s i).state is

  -- accepted means that its number is 0
  abbrev pub accepted_item : State → Item → Bool
  accepted_item s i = eqb (step s i).number 0

  -- the shares of the accepted items, each from the item and the state that it was handed
  abbrev pub shares_of_items : (State → Item → ℤ) → State → List Item → ℤ
  shares_of_items share s [] = pos 0
  shares_of_items share s (i ∷ is) = cond (accepted_item s i) (share s i) (pos 0) +ℤ shares_of_items share (step s i).state is

  -- a claim about each item and the state that it was handed
  abbrev pub Each : (State → Item → Type 0) → State → List Item → Type 0
  Each Claim s [] = Unit {0}
  Each Claim s (i ∷ is) = Claim s i × Each Claim (step s i).state is

-- ---- a list of commands, each any bytes
abbrev pub command_step : Sheet → List ℕ → Step Sheet
command_step s b = record { number = (command s b).number; state = (command s b).sheet }

-- the drawing after them
abbrev pub after : Sheet → List (List ℕ) → Sheet
after = after_items command_step

abbrev pub accepted : Sheet → List ℕ → Bool
accepted = accepted_item command_step

-- an order's share; 0F has 0
abbrev pub share_ordered : Sheet → Order → ℤ
share_ordered s (edit c) = share s c
share_ordered s renumber = pos 0

abbrev pub share_read : Sheet → Read Order → ℤ
share_read s (got o t) = share_ordered s o
share_read s bad = pos 0

abbrev pub share_of : Sheet → List ℕ → ℤ
share_of s b = share_read s (decode b)

abbrev pub shares : Sheet → List (List ℕ) → ℤ
shares = shares_of_items command_step share_of

abbrev pub live : Sheet → ℕ → Type 0
live s i = T (is_live (cell_at s i))

-- what a delete of i takes: i and the cells that rest on it
abbrev pub TakenWith : Sheet → ℕ → ℕ → Type 0
TakenWith s i j = (j ≡ i) ⊎ RestsOn (cell_at s) i j

-- the ids live in s and not in t are those
abbrev pub Took : Sheet → Sheet → ℕ → Type 0
Took s t i = (j : ℕ) → (live s j × (live t j → ⊥)) ↔ TakenWith s i j

abbrev pub DeleteExact : Sheet → List ℕ → Type 0
DeleteExact s b = (i : ℕ) (t : List ℕ) → decode b ≡ got (edit (delete i)) t → T (accepted s b) → Took s (command s b).sheet i

-- each accepted delete took exactly its target and the cells that rested on it
abbrev pub Deletes : Sheet → List (List ℕ) → Type 0
Deletes = Each command_step DeleteExact

-- ---- star for a live id of a drawing: exactly the cells whose boundary holds it, rising, in the buffer's first places;
-- 9 and the same count where it is too short
pub record StarRight (s : Sheet) (i : ℕ) : Type 0 where
  pub exact : (j : ℕ) → T (holds j (star s.cells i)) ↔ T (bounds_at (cell_at s) i (cell_at s j))
  pub rises : T (rising 0 (star s.cells i) s.next)
  pub fits : (buffer : List ℕ) → length (star s.cells i) ≤ length buffer
      → let ids = star s.cells i in
      star_call s i buffer ≡ record { number = 0; count = length ids; buffer = ids ++ drop (length ids) buffer }
  pub short : (buffer : List ℕ) → length buffer < length (star s.cells i)
      → star_call s i buffer ≡ record { number = 9; count = length (star s.cells i); buffer = buffer }

-- ---- demand 3: after any list of commands from the empty drawing
pub record AfterAll (bs : List (List ℕ)) : Type 0 where
  pub stays_sound : T (sound (after empty bs))
  pub stars_right : (i : ℕ) → live (after empty bs) i → StarRight (after empty bs) i
  pub euler_known : euler_call (after empty bs) ≡ record { number = 0; value = euler (after empty bs).cells }
  pub euler_sum : euler (after empty bs).cells ≡ shares empty bs
  pub deletes_exact : Deletes empty bs

abbrev pub Demand3 : Type 0
Demand3 = (bs : List (List ℕ)) → AfterAll bs

-- ---- a refused command gives three zeros and the drawing back
abbrev pub Refusals : Type 0
Refusals = (s : Sheet) (b : List ℕ) → ((command s b).number ≡ 0 → ⊥)
    → command s b ≡ record { number = (command s b).number; first = 0; new = 0; removed = 0; sheet = s }

-- ---- ids
abbrev pub renumbers : Read Order → Bool
renumbers (got (edit c) t) = false
renumbers (got renumber t) = true
renumbers bad = false

-- whether the bytes are a renumbering that is accepted
abbrev pub renumbering : Sheet → List ℕ → Bool
renumbering s b = accepted s b && renumbers (decode b)

-- any other command issues the ids from the next id on, as many as it says; they are live, and no other id becomes live
pub record Issues (s : Sheet) (b : List ℕ) : Type 0 where
  pub next_id : (command s b).sheet.next ≡ s.next + (command s b).new
  pub first_id : 0 < (command s b).new → (command s b).first ≡ s.next
  pub issued : (i : ℕ) → s.next ≤ i → i < (command s b).sheet.next → live (command s b).sheet i
  pub live_before : (i : ℕ) → i < s.next → live (command s b).sheet i → live s i

abbrev pub IdsIssued : Type 0
IdsIssued = (s : Sheet) (b : List ℕ) → renumbering s b ≡ false → Issues s b

-- no renumbering is accepted in the list
abbrev pub NoRenumbering : Sheet → List (List ℕ) → Type 0
NoRenumbering = Each command_step (λ (s : Sheet) (b : List ℕ). renumbering s b ≡ false)

-- an id is issued again only after a renumbering: while none is accepted, an id that was issued and is dead stays dead
abbrev pub NeverAgain : Type 0
NeverAgain =
    (bs cs : List (List ℕ)) (i : ℕ) → NoRenumbering (after empty bs) cs → i < (after empty bs).next → (live (after empty bs) i → ⊥)
    → live (after (after empty bs) cs) i → ⊥

-- and after one it may be: an id that was issued and was dead, and is issued again
pub record Again : Type 0 where
  pub before : List (List ℕ)
  pub later : List (List ℕ)
  pub id : ℕ
  pub was_issued : id < (after empty before).next
  pub was_dead : live (after empty before) id → ⊥
  pub is_live : live (after (after empty before) later) id

-- ---- 0F, on a sound drawing
pub record Renumbering (s : Sheet) : Type 0 where
  -- it is done, with three zero counts: no question after 2 gets a no, 7 and 8 of the result neither
  pub answers : (b t : List ℕ) → decode b ≡ got renumber t
      → command s b ≡ record { number = 0; first = 0; new = 0; removed = 0; sheet = renumbered s }
  pub late_yes : first_no (of_result (renumbered s)) ≡ 0
  pub stays_sound : T (sound (renumbered s))
  pub next_id : (renumbered s).next ≡ suc (length s.cells)
  pub same_euler : euler (renumbered s).cells ≡ euler s.cells
  -- the live ids, in the order they have, become 1 to n
  pub in_order : map (rank s.cells) (ids s.cells) ≡ ids (renumbered s).cells
  -- a live cell keeps all but the names of what bounds it, and its star is renamed
  pub same_cells : (i : ℕ) (x : Figure) → cell_at s i ≡ some x
      → cell_at (renumbered s) (rank s.cells i) ≡ some (rewired (rank s.cells) (renamed_step (rank s.cells)) i x)
  pub same_stars : (i : ℕ) → live s i → star (renumbered s).cells (rank s.cells i) ≡ map (rank s.cells) (star s.cells i)
  -- done twice it changes nothing the second time
  pub twice : renumbered (renumbered s) ≡ renumbered s

abbrev pub Renumberings : Type 0
Renumberings = (s : Sheet) → T (sound s) → Renumbering s

-- ---- files: bytes are below 256
abbrev pub are_bytes : List ℕ → Bool
are_bytes s = all (λ (b : ℕ). ltb b 256) s

-- a sound drawing's file is read as it, and bytes that are read as a drawing are its file, all of them
pub record OneFile : Type 0 where
  pub read_back : (s : Sheet) → T (sound s) → T (doubles s) → read_file (file_of s) ≡ record { number = 0; sheet = s }
  pub written_back : (bytes : List ℕ) (s : Sheet) → T (are_bytes bytes)
      → read_file bytes ≡ record { number = 0; sheet = s } → file_of s ≡ bytes
