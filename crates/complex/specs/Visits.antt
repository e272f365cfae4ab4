-- The soundness test as a walk: it takes the cells as they stand and ends at the first fault (document 02, note 2). Definitions only.
use Rattle.std.specs.Prelude.{ℕ, zero, suc, ◌<◌, ◌≡◌, Bool, true, false, ◌&&◌, cond, List, [], map, length, take, get_or, ltb, leb}
use Rattle.number.specs.Readers.{Read, got, bad}
use Rattle.complex.specs.Lists.{is_empty}
use Rattle.complex.specs.Cells.{Figure, face, LiveCell, Sheet, cell_at, ids}
use Rattle.complex.specs.Sound.{figure_ok, totals_ok, ceilings, cells_most, ids_end, sound}
use Rattle.complex.specs.File.{read_sheet}

-- ---- the rules about one cell
-- the id before place j, 0 before the first
abbrev pub id_before : List ℕ → ℕ → ℕ
id_before is zero = 0
id_before is (suc j) = get_or is j 0

-- the id in place j is below the next id, and above the one before it: rising order is a rule about the later cell
abbrev pub id_right : ℕ → List ℕ → ℕ → Bool
id_right next is j = ltb (get_or is j 0) next && ltb (id_before is j) (get_or is j 0)

abbrev pub figure_in : List LiveCell → ℕ → Figure
figure_in cs j = get_or (map (λ (c : LiveCell). c.figure) cs) j (face [])

-- the cell in place j is right: its id, the totals so far, and what it is. A named id means the first cell that has it (`lookup`)
abbrev pub right : Sheet → ℕ → Bool
right s j = id_right s.next (ids s.cells) j && (totals_ok (take (suc j) s.cells) && figure_ok (cell_at s) (figure_in s.cells j))

-- ---- the walk
-- the next id and the cell count are in bounds
abbrev pub bounds_right : ℕ → ℕ → Bool
bounds_right next count = leb 1 next && (leb next ids_end && leb count cells_most)

-- of n cells from place j on, where those before j are visited: all, or up to and with the first of which p does not hold
abbrev pub visits : (ℕ → Bool) → ℕ → ℕ → ℕ
visits p j zero = j
visits p j (suc n) = cond (p j) (visits p (suc j) n) (suc j)

-- the count of cells visited
abbrev pub visited : Sheet → ℕ
visited s = cond (bounds_right s.next (length s.cells)) (visits (right s) 0 (length s.cells)) 0

-- ---- the call: yes or no, and the count of cells visited. A no is no refusal
pub record Verdict : Type 0 where
  pub sound : Bool
  pub visited : ℕ

unfoldable pub check_call : Sheet → Verdict
unfolding sound
check_call s = record { sound = sound s; visited = visited s }

-- ---- the call on bytes: 10 where they are not, all of them, a next id and cells that keep the ceilings, in the form of a file
pub record FileVerdict : Type 0 where
  pub number : ℕ
  pub verdict : Verdict

abbrev pub unchecked : FileVerdict
unchecked = record { number = 10; verdict = record { sound = false; visited = 0 } }

abbrev pub checked : Read Sheet → FileVerdict
checked bad = unchecked
checked (got s t) = cond (is_empty t && ceilings s.cells) (record { number = 0; verdict = check_call s }) unchecked

unfoldable pub check_file : List ℕ → FileVerdict
unfolding check_call
check_file bytes = checked (read_sheet bytes)

-- ---- what is claimed of a verdict on n cells, of which p are the rules about each
-- v cells were visited: those before the last are right, and that one is not
pub record FirstFault (p : ℕ → Bool) (n v : ℕ) : Type 0 where
  pub place : ℕ
  pub count : v ≡ suc place
  pub inside : place < n
  pub before : (i : ℕ) → i < place → p i ≡ true
  pub fault : p place ≡ false

-- `bounds`: the next id and the cell count are in bounds
pub record Judged (bounds : Bool) (p : ℕ → Bool) (n : ℕ) (w : Verdict) : Type 0 where
  -- yes exactly where the bounds are kept and every cell is right
  pub yes : w.sound ≡ true → (bounds ≡ true) × ((i : ℕ) → i < n → p i ≡ true)
  pub enough : bounds ≡ true → ((i : ℕ) → i < n → p i ≡ true) → w.sound ≡ true
  -- all on a yes; 0 out of bounds; else up to and with the first cell that is not right
  pub all : w.sound ≡ true → w.visited ≡ n
  pub out : bounds ≡ false → w.visited ≡ 0
  pub first : bounds ≡ true → w.sound ≡ false → FirstFault p n w.visited

-- the verdict of the walk is that of the definition of soundness, for every drawing
abbrev pub FirstFaults : Type 0
FirstFaults = (s : Sheet) → Judged (bounds_right s.next (length s.cells)) (right s) (length s.cells) (check_call s)
