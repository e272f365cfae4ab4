-- The pieces that a drawing falls into (document 02, note 3). Definitions only.
use Rattle.std.specs.Prelude.{ℕ, zero, suc, ◌+◌, ◌≤◌, ◌<◌, ◌≡◌, ◌↔◌, cond, List, [], map, length, get_or, T, eqb}
use Rattle.std.proofs.Math.Option.{some}
use Rattle.number.specs.Readers.{got, spread}
use Rattle.coordinate.specs.declared.Position.{Position}
use Rattle.complex.specs.Lists.{one}
use Rattle.complex.specs.Cells.{Cycle, vertex, open_edge, face, LiveCell, Sheet, Look, lookup, cell_at, ids}
use Rattle.complex.specs.Boundary.{boundary, bounds_at}
use Rattle.complex.specs.Groups
use Rattle.complex.specs.Sound.{sound}
use Rattle.complex.specs.Decode.{create, delete, edit, decode}
use Rattle.complex.specs.Answer.{command}
use Rattle.complex.specs.Demands.{accepted, live}

-- ---- the note's relation: two cells are linked if one is in the other's boundary, and so on through chains
pub data Linked (s : Sheet) : ℕ → ℕ → Type 0 where
  holding : {i j : ℕ} → T (bounds_at (cell_at s) j (cell_at s i)) → Linked s i j
  itself : (i : ℕ) → Linked s i i
  back : {i j : ℕ} → Linked s i j → Linked s j i
  chain : {i j k : ℕ} → Linked s i j → Linked s j k → Linked s i k

-- ---- the pieces: every live cell by itself, and then link after link joins two
-- a cell, and one in its boundary
pub record Link : Type 0 where
  pub cell : ℕ
  pub bound : ℕ

abbrev pub cell_of : Link → ℕ
cell_of l = l.cell

abbrev pub bound_of : Link → ℕ
bound_of l = l.bound

abbrev pub link : ℕ → ℕ → Link
link i j = record { cell = i; bound = j }

-- a link for each id in a cell's boundary
abbrev pub links_of : Look → LiveCell → List Link
links_of look c = map (link c.id) (boundary look c.figure)

abbrev pub links : List LiveCell → List Link
links cs = spread (links_of (lookup cs)) cs

-- the groups that links make of ids
abbrev pub joined : List Link → List ℕ → List (List ℕ)
joined ls is = Groups.join_all eqb cell_of bound_of ls (map one is)

-- each piece as the ids of its cells
abbrev pub pieces_of : List LiveCell → List (List ℕ)
pieces_of cs = joined (links cs) (ids cs)

abbrev pub pieces : List LiveCell → ℕ
pieces cs = length (pieces_of cs)

-- ---- the call asks 1 and gives 0 with it
pub record PiecesAnswer : Type 0 where
  pub number : ℕ
  pub count : ℕ

unfoldable pub pieces_call : Sheet → PiecesAnswer
unfolding sound
pieces_call s = cond (sound s) (record { number = 0; count = pieces s.cells }) (record { number = 1; count = 0 })

-- ---- what is claimed: the pieces are exactly the classes of linked cells
-- the piece in place n, and the place of the piece of a cell
abbrev pub piece_at : List LiveCell → ℕ → List ℕ
piece_at cs n = get_or (pieces_of cs) n []

abbrev pub piece_of : List LiveCell → ℕ → ℕ
piece_of cs i = Groups.group_of eqb (pieces_of cs) i

abbrev pub In : List ℕ → ℕ → Type 0
In g i = T (Groups.is_in eqb g i)

pub record Classes (s : Sheet) : Type 0 where
  -- each live cell is in one piece and in no other
  pub in_some : (i : ℕ) → live s i → piece_of s.cells i < pieces s.cells
  pub in_own : (i : ℕ) → live s i → In (piece_at s.cells (piece_of s.cells i)) i
  pub in_only : (i n : ℕ) → In (piece_at s.cells n) i → n ≡ piece_of s.cells i
  -- a piece has live cells only, and at least one
  pub members_live : (i n : ℕ) → In (piece_at s.cells n) i → live s i
  pub none_empty : (n : ℕ) → n < pieces s.cells → (i : ℕ) × In (piece_at s.cells n) i
  -- two live cells are in one piece exactly if they are linked
  pub linked_same : (i j : ℕ) → live s i → live s j → piece_of s.cells i ≡ piece_of s.cells j ↔ Linked s i j

abbrev pub PiecesRight : Type 0
PiecesRight = (s : Sheet) → T (sound s) → Classes s

-- ---- how far one edit moves the number
-- before and after a face of k cycles went
abbrev pub FaceGone : ℕ → ℕ → ℕ → Type 0
FaceGone zero before after = suc after ≡ before
FaceGone (suc k) before after = (before ≤ after) × (after ≤ before + k)

-- a command, any bytes b of which it is the first part, is accepted on s
pub record PieceMoves (s : Sheet) (b : List ℕ) : Type 0 where
  -- 01 raises it by exactly one
  pub vertex_more : (p : Position) (t : List ℕ) → decode b ≡ got (edit (create (vertex p))) t → T (accepted s b)
      → pieces (command s b).sheet.cells ≡ suc (pieces s.cells)
  -- 02 never raises it and lowers it by at most one
  pub edge_no_more : (u w : ℕ) (bs : List Position) (t : List ℕ) → decode b ≡ got (edit (create (open_edge u w bs))) t → T (accepted s b)
      → pieces (command s b).sheet.cells ≤ pieces s.cells
  pub edge_one_less : (u w : ℕ) (bs : List Position) (t : List ℕ) → decode b ≡ got (edit (create (open_edge u w bs))) t → T (accepted s b)
      → pieces s.cells ≤ suc (pieces (command s b).sheet.cells)
  -- deleting a face with k cycles, k at least 1, raises it by at least 0 and at most k − 1; where k is 0 it falls by exactly one
  pub face_gone : (f : ℕ) (ks : List Cycle) (t : List ℕ) → decode b ≡ got (edit (delete f)) t → cell_at s f ≡ some (face ks) → T (accepted s b)
      → FaceGone (length ks) (pieces s.cells) (pieces (command s b).sheet.cells)

abbrev pub PiecesMoved : Type 0
PiecesMoved = (s : Sheet) (b : List ℕ) → PieceMoves s b
