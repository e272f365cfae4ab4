-- Worked examples as a list of cases: what is given, and the numbers that it must give. Definitions only.
use Rattle.std.specs.Prelude.{ℕ, zero, suc, cond, List, [], ◌∷◌, ◌++◌, length, replicate, ℤ, pos, negsuc}
use Rattle.std.specs.Float.{binary64}
use Rattle.std.specs.Float.Ieee.{of_bits}
use Rattle.number.specs.Readers.{Read, got, bad, spread}
use Rattle.number.specs.Numbers.{read_number, spell}
use Rattle.complex.specs.Cells.{lone, path, Figure, vertex, open_edge, closed_edge, face, LiveCell, Sheet, empty, origin, along}
use Rattle.complex.specs.Edits.{numbered}
use Rattle.complex.specs.Answer.{Answer, command}
use Rattle.complex.specs.File.{file_of, ReadAnswer, read_file}
use Rattle.complex.specs.Calls.{Filled, star_call}
use Rattle.complex.specs.Visits.{Verdict, check_call, check_file}
use Rattle.complex.specs.Program.{Line, Output, too_long, printed, edit_output}
use Rattle.complex.specs.Demands.{after}
use Rattle.complex.specs.Pieces.{pieces, PiecesAnswer, pieces_call}

-- a list of commands is run from the empty drawing
pub data Given : Type 0 where
  -- the bytes of a number
  spelling : ℕ → Given
  -- the number at the front of bytes, and how many bytes follow; nothing where there is none
  reading : List ℕ → Given
  -- what `edit` prints: four numbers for each line, the sign and size of the Euler number, the live cells
  editing : List (List ℕ) → Given
  -- the file after the commands; in the rows: next id and count, then cell by cell
  filing : List (List ℕ) → Given
  -- the four numbers of a command's answer, after others or on a drawing
  answering : List (List ℕ) → List ℕ → Given
  asking : Sheet → List ℕ → Given
  -- the file of what a command leaves of a drawing
  leaving : Sheet → List ℕ → Given
  -- star's number, count and buffer, for an id and a buffer
  starring : List (List ℕ) → ℕ → List ℕ → Given
  -- read's number and the file of what it gives
  opening : List ℕ → Given
  -- the soundness test: 1 for yes or 0 for no, and the count of cells visited
  checking : Sheet → Given
  -- the same of a file's bytes, after the call's number
  checking_file : List ℕ → Given
  -- the pieces of a drawing: the call's number and the count
  counting : Sheet → Given
  -- a command's number after others, the pieces before it and those after it
  moving : List (List ℕ) → List ℕ → Given

pub record Row : Type 0 where
  pub given : Given
  pub gives : List ℕ

abbrev pub row : Given → List ℕ → Row
row g ns = record { given = g; gives = ns }

abbrev pub number_read : Read ℕ → List ℕ
number_read (got n s) = n ∷ length s ∷ []
number_read bad = []

abbrev pub integer : ℤ → List ℕ
integer (pos n) = 0 ∷ n ∷ []
integer (negsuc n) = 1 ∷ suc n ∷ []

abbrev pub output_numbers : Output → List ℕ
output_numbers too_long = []
output_numbers (printed ls z n) = spread (λ (l : Line). l.number ∷ l.first ∷ l.new ∷ l.removed ∷ []) ls ++ (integer z ++ n ∷ [])

abbrev pub joined_bytes : List (List ℕ) → List ℕ
joined_bytes bs = spread (λ (b : List ℕ). b) bs

abbrev pub answer_numbers : Answer → List ℕ
answer_numbers a = a.number ∷ a.first ∷ a.new ∷ a.removed ∷ []

abbrev pub filled_numbers : Filled → List ℕ
filled_numbers f = f.number ∷ f.count ∷ f.buffer

abbrev pub verdict_numbers : Verdict → List ℕ
verdict_numbers v = cond v.sound 1 0 ∷ v.visited ∷ []

abbrev pub pieces_numbers : PiecesAnswer → List ℕ
pieces_numbers a = a.number ∷ a.count ∷ []

-- what a command moves: s is the drawing before it
abbrev pub move_numbers : Sheet → Answer → List ℕ
move_numbers s a = a.number ∷ pieces s.cells ∷ pieces a.sheet.cells ∷ []

unfoldable pub found : Given → List ℕ
unfolding edit_output command file_of read_file star_call check_call check_file pieces_call
found (spelling n) = spell n
found (reading bytes) = number_read (read_number bytes)
found (editing bs) = output_numbers (edit_output (joined_bytes bs))
found (filing bs) = file_of (after empty bs)
found (answering bs b) = answer_numbers (command (after empty bs) b)
found (asking s b) = answer_numbers (command s b)
found (leaving s b) = file_of (command s b).sheet
found (starring bs i buffer) = filled_numbers (star_call (after empty bs) i buffer)
found (opening bytes) = (read_file bytes).number ∷ file_of (read_file bytes).sheet
found (checking s) = verdict_numbers (check_call s)
found (checking_file bytes) = (check_file bytes).number ∷ verdict_numbers (check_file bytes).verdict
found (counting s) = pieces_numbers (pieces_call s)
found (moving bs b) = move_numbers (after empty bs) (command (after empty bs) b)

-- ---- positions
abbrev pub nought : List ℕ
nought = replicate 16 0

-- x and y minus zero
abbrev pub minus_nought : List ℕ
minus_nought = replicate 7 0 ++ 0x80 ∷ replicate 7 0 ++ 0x80 ∷ []

-- x minus zero, y zero
abbrev pub mixed_nought : List ℕ
mixed_nought = replicate 7 0 ++ 0x80 ∷ replicate 8 0

-- x a NaN, y zero
abbrev pub not_number : List ℕ
not_number = replicate 6 0 ++ 0xF8 ∷ 0x7F ∷ replicate 8 0

-- ---- drawings
-- a vertex at zero
abbrev pub dot : List ℕ
dot = 0x01 ∷ nought

-- vertices 1 and 2, edge 3 from 1 to 2
abbrev pub segment : List (List ℕ)
segment = dot ∷ dot ∷ (0x02 ∷ 1 ∷ 2 ∷ 0 ∷ []) ∷ []

-- and face 4 along the edge and back
abbrev pub sliver : List (List ℕ)
sliver = segment ++ (0x04 ∷ 1 ∷ 2 ∷ 6 ∷ 7 ∷ []) ∷ []

-- vertices 1, 2 and 3, edge 4 from 1 to 2, edge 5 from 2 to 3
abbrev pub bent : List (List ℕ)
bent = dot ∷ dot ∷ dot ∷ (0x02 ∷ 1 ∷ 2 ∷ 0 ∷ []) ∷ (0x02 ∷ 2 ∷ 3 ∷ 0 ∷ []) ∷ []

-- and face 6 along both and back
abbrev pub bent_back : List (List ℕ)
bent_back = bent ++ (0x04 ∷ 1 ∷ 4 ∷ 8 ∷ 10 ∷ 11 ∷ 9 ∷ []) ∷ []

-- vertex 1, edge 2 from it to itself, face 3 with that step
abbrev pub ringed : List (List ℕ)
ringed = dot ∷ (0x02 ∷ 1 ∷ 1 ∷ 0 ∷ []) ∷ (0x04 ∷ 1 ∷ 1 ∷ 4 ∷ []) ∷ []

-- vertex 1, face 2 with its lone cycle
abbrev pub pierced : List (List ℕ)
pierced = dot ∷ (0x04 ∷ 1 ∷ 0 ∷ 1 ∷ []) ∷ []

-- and the face cut from the vertex to itself: edge 3, face 4
abbrev pub looped : List (List ℕ)
looped = pierced ++ (0x0C ∷ 2 ∷ 0 ∷ 0 ∷ 0 ∷ 0 ∷ 0 ∷ 0 ∷ []) ∷ []

-- vertices 1 and 2, face 3 with both alone
abbrev pub two_dots : List (List ℕ)
two_dots = dot ∷ dot ∷ (0x04 ∷ 2 ∷ 0 ∷ 1 ∷ 0 ∷ 2 ∷ []) ∷ []

-- vertices 1 and 2, face 3 with both alone, cut from one to the other: edge 4
abbrev pub bridged_dots : List (List ℕ)
bridged_dots = dot ∷ dot ∷ (0x04 ∷ 2 ∷ 0 ∷ 1 ∷ 0 ∷ 2 ∷ []) ∷ (0x0C ∷ 3 ∷ 0 ∷ 0 ∷ 1 ∷ 0 ∷ 0 ∷ 0 ∷ []) ∷ []

-- closed edge 1 with a bend at zero, face 2 round it twice in one cycle
abbrev pub twice_round : List (List ℕ)
twice_round = (0x03 ∷ 1 ∷ nought) ∷ (0x04 ∷ 1 ∷ 2 ∷ 2 ∷ 2 ∷ []) ∷ []

-- two triangular faces, 12 and 13, that meet at vertex 1
abbrev pub bowtie : List (List ℕ)
bowtie =
    dot ∷ dot ∷ dot ∷ dot ∷ dot
    ∷ (0x02 ∷ 1 ∷ 2 ∷ 0 ∷ []) ∷ (0x02 ∷ 2 ∷ 3 ∷ 0 ∷ []) ∷ (0x02 ∷ 3 ∷ 1 ∷ 0 ∷ [])
    ∷ (0x02 ∷ 1 ∷ 4 ∷ 0 ∷ []) ∷ (0x02 ∷ 4 ∷ 5 ∷ 0 ∷ []) ∷ (0x02 ∷ 5 ∷ 1 ∷ 0 ∷ [])
    ∷ (0x04 ∷ 1 ∷ 3 ∷ 12 ∷ 14 ∷ 16 ∷ []) ∷ (0x04 ∷ 1 ∷ 3 ∷ 18 ∷ 20 ∷ 22 ∷ []) ∷ []

abbrev pub point : Figure
point = vertex origin

-- n vertices and a next id
abbrev pub crowd : ℕ → ℕ → Sheet
crowd n next = record { next = next; cells = numbered 1 (replicate n point) }

-- 253 vertices and edge 254 from 1 to 2
abbrev pub crowd_and_edge : Sheet
crowd_and_edge = record { next = 255; cells = numbered 1 (replicate 253 point ++ open_edge 1 2 [] ∷ []) }

-- vertices 2 and 3, edge 4 from 2 to 3, face 5 along the edge and back and twice with vertex 3 alone; vertex 1 was deleted
abbrev pub gapped : List (List ℕ)
gapped = dot ∷ dot ∷ dot ∷ (0x02 ∷ 2 ∷ 3 ∷ 0 ∷ []) ∷ (0x04 ∷ 3 ∷ 2 ∷ 8 ∷ 9 ∷ 0 ∷ 3 ∷ 0 ∷ 3 ∷ []) ∷ (0x06 ∷ 1 ∷ []) ∷ []

-- vertex 65534 and edge 65535 from it to itself, and no id left
abbrev pub spent : Sheet
spent = record { next = 65536; cells = numbered 65534 (point ∷ open_edge 65534 65534 [] ∷ []) }

-- cells as they stand, and a next id
abbrev pub sheet : ℕ → List LiveCell → Sheet
sheet next cs = record { next = next; cells = cs }

abbrev pub cell : ℕ → Figure → LiveCell
cell i x = record { id = i; figure = x }

-- a vertex whose x is a NaN
abbrev pub nowhere : Figure
nowhere = vertex (record { x = of_bits binary64 0x7FF8000000000000; y = of_bits binary64 0 })

-- a face whose one cycle is n times round edge 1
abbrev pub rounds : ℕ → Figure
rounds n = face (path (replicate n (along 1)) ∷ [])

-- closed edge 1 and faces 2 and 3, each round it once
abbrev pub shared : Sheet
shared = sheet 4 (numbered 1 (closed_edge (origin ∷ []) ∷ rounds 1 ∷ rounds 1 ∷ []))

-- the bytes of a file with vertex 1 and a second cell
abbrev pub beside_dot : List ℕ → List ℕ
beside_dot bytes = 3 ∷ 2 ∷ 1 ∷ 0 ∷ nought ++ bytes

-- 0F
abbrev pub renewal : List ℕ
renewal = 0x0F ∷ []

-- ---- the rows marked P, and the worked example
abbrev pub marked : List Row
marked =
    row (spelling 127) (0x7F ∷ [])
    ∷ row (spelling 128) (0x80 ∷ 0x01 ∷ [])
    ∷ row (spelling 2097151) (0xFF ∷ 0xFF ∷ 0x7F ∷ [])
    ∷ row (reading (0x7F ∷ [])) (127 ∷ 0 ∷ [])
    ∷ row (reading (0x80 ∷ 0x01 ∷ [])) (128 ∷ 0 ∷ [])
    ∷ row (reading (0xFF ∷ 0xFF ∷ 0x7F ∷ [])) (2097151 ∷ 0 ∷ [])
    ∷ row (reading (0x80 ∷ 0x00 ∷ [])) []
    ∷ row (answering [] (0x06 ∷ 0x80 ∷ 0x00 ∷ [])) (2 ∷ 0 ∷ 0 ∷ 0 ∷ [])
    -- files
    ∷ row (filing []) (0x01 ∷ 0x00 ∷ [])
    ∷ row (filing (dot ∷ [])) (0x02 ∷ 0x01 ∷ 0x01 ∷ 0x00 ∷ nought)
    -- cycle a a⁻ turning at v, where b also ends: uncut v gets 6
    ∷ row (answering (bent ++ (0x04 ∷ 1 ∷ 2 ∷ 8 ∷ 9 ∷ []) ∷ []) (0x0E ∷ 2 ∷ [])) (6 ∷ 0 ∷ 0 ∷ 0 ∷ [])
    -- cycle a b b⁻ a⁻: done, n n⁻
    ∷ row (answering bent_back (0x0E ∷ 2 ∷ [])) (0 ∷ 7 ∷ 1 ∷ 3 ∷ [])
    ∷ row (filing (bent_back ++ (0x0E ∷ 2 ∷ []) ∷ []))
    (joined_bytes
    ((8 ∷ 4 ∷ []) ∷ (1 ∷ 0 ∷ nought) ∷ (3 ∷ 0 ∷ nought) ∷ (6 ∷ 3 ∷ 1 ∷ 2 ∷ 14 ∷ 15 ∷ []) ∷ (7 ∷ 1 ∷ 1 ∷ 3 ∷ 1 ∷ nought) ∷ []))
    -- lone vertex to itself by 0C: e⁻ and e in two faces
    ∷ row (answering pierced (0x0C ∷ 2 ∷ 0 ∷ 0 ∷ 0 ∷ 0 ∷ 0 ∷ 0 ∷ [])) (0 ∷ 3 ∷ 2 ∷ 0 ∷ [])
    ∷ row (filing looped)
    (joined_bytes
    ((5 ∷ 4 ∷ []) ∷ (1 ∷ 0 ∷ nought) ∷ (2 ∷ 3 ∷ 1 ∷ 1 ∷ 7 ∷ []) ∷ (3 ∷ 1 ∷ 1 ∷ 1 ∷ 0 ∷ []) ∷ (4 ∷ 3 ∷ 1 ∷ 1 ∷ 6 ∷ []) ∷ []))
    -- two lone vertices: e e⁻
    ∷ row (filing bridged_dots)
    (joined_bytes
    ((5 ∷ 4 ∷ []) ∷ (1 ∷ 0 ∷ nought) ∷ (2 ∷ 0 ∷ nought) ∷ (3 ∷ 3 ∷ 1 ∷ 2 ∷ 8 ∷ 9 ∷ []) ∷ (4 ∷ 1 ∷ 1 ∷ 2 ∷ 0 ∷ []) ∷ []))
    -- two triangular faces meeting at one vertex: unglue makes one vertex, 14; the second face's ends move: 9 starts and 11 ends there
    ∷ row (answering bowtie (0x09 ∷ 1 ∷ [])) (0 ∷ 14 ∷ 1 ∷ 0 ∷ [])
    ∷ row (filing (bowtie ++ (0x09 ∷ 1 ∷ []) ∷ []))
    (joined_bytes
    ((15 ∷ 14 ∷ []) ∷ (1 ∷ 0 ∷ nought) ∷ (2 ∷ 0 ∷ nought) ∷ (3 ∷ 0 ∷ nought) ∷ (4 ∷ 0 ∷ nought) ∷ (5 ∷ 0 ∷ nought)
    ∷ (6 ∷ 1 ∷ 1 ∷ 2 ∷ 0 ∷ []) ∷ (7 ∷ 1 ∷ 2 ∷ 3 ∷ 0 ∷ []) ∷ (8 ∷ 1 ∷ 3 ∷ 1 ∷ 0 ∷ [])
    ∷ (9 ∷ 1 ∷ 14 ∷ 4 ∷ 0 ∷ []) ∷ (10 ∷ 1 ∷ 4 ∷ 5 ∷ 0 ∷ []) ∷ (11 ∷ 1 ∷ 5 ∷ 14 ∷ 0 ∷ [])
    ∷ (12 ∷ 3 ∷ 1 ∷ 3 ∷ 12 ∷ 14 ∷ 16 ∷ []) ∷ (13 ∷ 3 ∷ 1 ∷ 3 ∷ 18 ∷ 20 ∷ 22 ∷ []) ∷ (14 ∷ 0 ∷ nought) ∷ []))
    -- the worked example
    ∷ row (editing (ringed ++ (0x0A ∷ 2 ∷ 0 ∷ []) ∷ (0x0E ∷ 4 ∷ []) ∷ []))
    (0 ∷ 1 ∷ 1 ∷ 0
    ∷ 0 ∷ 2 ∷ 1 ∷ 0
    ∷ 0 ∷ 3 ∷ 1 ∷ 0
    ∷ 0 ∷ 4 ∷ 3 ∷ 1
    ∷ 0 ∷ 7 ∷ 1 ∷ 3
    ∷ 0 ∷ 1 ∷ 3 ∷ [])
    ∷ []

-- ---- points that are easily mistaken
abbrev pub further : List Row
further =
    -- a number ends with its first byte below 80
    row (reading (0x80 ∷ 0x01 ∷ 0x00 ∷ [])) (128 ∷ 1 ∷ [])
    -- a loop has two ends, which no cycle joins here
    ∷ row (filing (dot ∷ (0x02 ∷ 1 ∷ 1 ∷ 0 ∷ []) ∷ (0x09 ∷ 1 ∷ []) ∷ [])) (4 ∷ 3 ∷ 1 ∷ 0 ∷ nought ++ (2 ∷ 1 ∷ 1 ∷ 3 ∷ 0 ∷ 3 ∷ 0 ∷ nought))
    -- and which the cycle of the single step joins here
    ∷ row (answering ringed (0x09 ∷ 1 ∷ [])) (6 ∷ 0 ∷ 0 ∷ 0 ∷ [])
    -- a cut edge's steps: a b, backward b⁻ a⁻
    ∷ row (filing (sliver ++ (0x0A ∷ 3 ∷ 0 ∷ []) ∷ []))
    (joined_bytes
    ((8 ∷ 6 ∷ []) ∷ (1 ∷ 0 ∷ nought) ∷ (2 ∷ 0 ∷ nought) ∷ (4 ∷ 3 ∷ 1 ∷ 4 ∷ 12 ∷ 14 ∷ 15 ∷ 13 ∷ [])
    ∷ (5 ∷ 0 ∷ nought) ∷ (6 ∷ 1 ∷ 1 ∷ 5 ∷ 0 ∷ []) ∷ (7 ∷ 1 ∷ 5 ∷ 2 ∷ 0 ∷ []) ∷ []))
    -- a closed edge is unglued cycle by cycle: one cycle alone is refused, of two the later gets the copy
    ∷ row (answering twice_round (0x09 ∷ 1 ∷ [])) (6 ∷ 0 ∷ 0 ∷ 0 ∷ [])
    ∷ row (filing (twice_round ++ (0x04 ∷ 1 ∷ 1 ∷ 3 ∷ []) ∷ (0x09 ∷ 1 ∷ []) ∷ []))
    (joined_bytes
    ((5 ∷ 4 ∷ []) ∷ (1 ∷ 2 ∷ 1 ∷ nought) ∷ (2 ∷ 3 ∷ 1 ∷ 2 ∷ 2 ∷ 2 ∷ []) ∷ (3 ∷ 3 ∷ 1 ∷ 1 ∷ 9 ∷ []) ∷ (4 ∷ 2 ∷ 1 ∷ nought) ∷ []))
    -- 0C with s1 = s2: P is empty, Q the whole cycle
    ∷ row (filing (ringed ++ (0x0C ∷ 3 ∷ 0 ∷ 0 ∷ 0 ∷ 0 ∷ 0 ∷ 0 ∷ []) ∷ []))
    (joined_bytes
    ((6 ∷ 5 ∷ []) ∷ (1 ∷ 0 ∷ nought) ∷ (2 ∷ 1 ∷ 1 ∷ 1 ∷ 0 ∷ []) ∷ (3 ∷ 3 ∷ 1 ∷ 1 ∷ 9 ∷ [])
    ∷ (4 ∷ 1 ∷ 1 ∷ 1 ∷ 0 ∷ []) ∷ (5 ∷ 3 ∷ 1 ∷ 2 ∷ 4 ∷ 8 ∷ []) ∷ []))
    -- uncut in one cycle: nothing left after the backward step is the start, after the forward one the end
    ∷ row (answering sliver (0x0E ∷ 3 ∷ [])) (0 ∷ 0 ∷ 0 ∷ 1 ∷ [])
    ∷ row (filing (sliver ++ (0x0E ∷ 3 ∷ []) ∷ [])) (5 ∷ 3 ∷ 1 ∷ 0 ∷ nought ++ (2 ∷ 0 ∷ nought ++ (4 ∷ 3 ∷ 2 ∷ 0 ∷ 1 ∷ 0 ∷ 2 ∷ [])))
    -- uncut in two faces: the lower id stays
    ∷ row (answering looped (0x0E ∷ 3 ∷ [])) (0 ∷ 0 ∷ 0 ∷ 2 ∷ [])
    ∷ row (filing (looped ++ (0x0E ∷ 3 ∷ []) ∷ [])) (5 ∷ 2 ∷ 1 ∷ 0 ∷ nought ++ (2 ∷ 3 ∷ 1 ∷ 0 ∷ 1 ∷ []))
    -- the middle of −0 and −0 is −0, of −0 and 0 it is 0
    ∷ row (filing ((0x01 ∷ minus_nought) ∷ (0x01 ∷ mixed_nought) ∷ (0x02 ∷ 1 ∷ 2 ∷ 0 ∷ []) ∷ (0x0A ∷ 3 ∷ 0 ∷ []) ∷ []))
    (joined_bytes
    ((7 ∷ 5 ∷ []) ∷ (1 ∷ 0 ∷ minus_nought) ∷ (2 ∷ 0 ∷ mixed_nought) ∷ (4 ∷ 0 ∷ mixed_nought)
    ∷ (5 ∷ 1 ∷ 1 ∷ 4 ∷ 0 ∷ []) ∷ (6 ∷ 1 ∷ 4 ∷ 2 ∷ 0 ∷ []) ∷ []))
    -- a delete takes what rests on its target, and no more
    ∷ row (answering sliver (0x06 ∷ 1 ∷ [])) (0 ∷ 0 ∷ 0 ∷ 3 ∷ [])
    ∷ row (filing (sliver ++ (0x06 ∷ 1 ∷ []) ∷ [])) (5 ∷ 1 ∷ 2 ∷ 0 ∷ nought)
    -- star has the face of an edge at the edge's end; a buffer too short stays as it is
    ∷ row (starring sliver 1 (7 ∷ 8 ∷ 9 ∷ [])) (0 ∷ 2 ∷ 3 ∷ 4 ∷ 9 ∷ [])
    ∷ row (starring sliver 1 (7 ∷ [])) (9 ∷ 2 ∷ 7 ∷ [])
    ∷ row (starring sliver 5 (7 ∷ [])) (4 ∷ 0 ∷ 7 ∷ [])
    -- the order of the questions: 3 before 4, 4 before 5, 5 before 6, 7 before 8
    ∷ row (answering [] (0x02 ∷ 1 ∷ 2 ∷ 1 ∷ not_number)) (3 ∷ 0 ∷ 0 ∷ 0 ∷ [])
    ∷ row (answering [] (0x0D ∷ 1 ∷ 0 ∷ 0 ∷ [])) (4 ∷ 0 ∷ 0 ∷ 0 ∷ [])
    ∷ row (answering segment (0x08 ∷ 3 ∷ 3 ∷ 2 ∷ [])) (5 ∷ 0 ∷ 0 ∷ 0 ∷ [])
    ∷ row (answering segment (0x08 ∷ 3 ∷ 3 ∷ 1 ∷ [])) (6 ∷ 0 ∷ 0 ∷ 0 ∷ [])
    ∷ row (asking (crowd 256 65536) dot) (7 ∷ 0 ∷ 0 ∷ 0 ∷ [])
    ∷ row (asking (crowd 256 65535) dot) (8 ∷ 0 ∷ 0 ∷ 0 ∷ [])
    -- the ceilings are asked of the result: 254 cells, and the cut edge goes as three come
    ∷ row (asking crowd_and_edge (0x0A ∷ 0xFE ∷ 0x01 ∷ 0 ∷ [])) (0 ∷ 255 ∷ 3 ∷ 1 ∷ [])
    -- 0F: ids in the order they have, every end, step and lone vertex, the next id; the directions of steps stay
    ∷ row (answering gapped renewal) (0 ∷ 0 ∷ 0 ∷ 0 ∷ [])
    ∷ row (filing (gapped ++ renewal ∷ []))
    (joined_bytes
    ((5 ∷ 4 ∷ []) ∷ (1 ∷ 0 ∷ nought) ∷ (2 ∷ 0 ∷ nought) ∷ (3 ∷ 1 ∷ 1 ∷ 2 ∷ 0 ∷ []) ∷ (4 ∷ 3 ∷ 3 ∷ 2 ∷ 6 ∷ 7 ∷ 0 ∷ 2 ∷ 0 ∷ 2 ∷ []) ∷ []))
    -- a second one changes nothing, the next cell gets id n + 1, a delete means the id in force, and the Euler number stays
    ∷ row (filing (gapped ++ renewal ∷ renewal ∷ (0x06 ∷ 3 ∷ []) ∷ [])) (joined_bytes ((5 ∷ 2 ∷ []) ∷ (1 ∷ 0 ∷ nought) ∷ (2 ∷ 0 ∷ nought) ∷ []))
    ∷ row (answering (gapped ++ renewal ∷ []) dot) (0 ∷ 5 ∷ 1 ∷ 0 ∷ [])
    ∷ row (answering (gapped ++ renewal ∷ []) (0x06 ∷ 5 ∷ [])) (4 ∷ 0 ∷ 0 ∷ 0 ∷ [])
    ∷ row (editing (ringed ++ (0x06 ∷ 3 ∷ []) ∷ renewal ∷ dot ∷ []))
    (0 ∷ 1 ∷ 1 ∷ 0
    ∷ 0 ∷ 2 ∷ 1 ∷ 0
    ∷ 0 ∷ 3 ∷ 1 ∷ 0
    ∷ 0 ∷ 0 ∷ 0 ∷ 1
    ∷ 0 ∷ 0 ∷ 0 ∷ 0
    ∷ 0 ∷ 3 ∷ 1 ∷ 0
    ∷ 0 ∷ 1 ∷ 3 ∷ [])
    -- an edge that ends at a vertex with a higher id; a closed edge twice round, backward
    ∷ row (filing (dot ∷ dot ∷ (0x02 ∷ 2 ∷ 2 ∷ 0 ∷ []) ∷ (0x09 ∷ 2 ∷ []) ∷ (0x06 ∷ 1 ∷ []) ∷ renewal ∷ []))
    (joined_bytes ((4 ∷ 3 ∷ []) ∷ (1 ∷ 0 ∷ nought) ∷ (2 ∷ 1 ∷ 1 ∷ 3 ∷ 0 ∷ []) ∷ (3 ∷ 0 ∷ nought) ∷ []))
    ∷ row (filing (dot ∷ (0x03 ∷ 1 ∷ nought) ∷ (0x04 ∷ 1 ∷ 2 ∷ 5 ∷ 5 ∷ []) ∷ (0x06 ∷ 1 ∷ []) ∷ renewal ∷ []))
    (joined_bytes ((3 ∷ 2 ∷ []) ∷ (1 ∷ 2 ∷ 1 ∷ nought) ∷ (2 ∷ 3 ∷ 1 ∷ 2 ∷ 3 ∷ 3 ∷ []) ∷ []))
    -- no cell: the next id is 1, and the id of a cell that went is issued again; at the end of the ids there are ids again
    ∷ row (filing (dot ∷ (0x06 ∷ 1 ∷ []) ∷ renewal ∷ [])) (0x01 ∷ 0x00 ∷ [])
    ∷ row (answering (dot ∷ (0x06 ∷ 1 ∷ []) ∷ renewal ∷ []) dot) (0 ∷ 1 ∷ 1 ∷ 0 ∷ [])
    ∷ row (asking spent dot) (7 ∷ 0 ∷ 0 ∷ 0 ∷ [])
    ∷ row (leaving spent renewal) (joined_bytes ((3 ∷ 2 ∷ []) ∷ (1 ∷ 0 ∷ nought) ∷ (2 ∷ 1 ∷ 1 ∷ 1 ∷ 0 ∷ []) ∷ []))
    ∷ row (asking (crowd 256 65536) renewal) (0 ∷ 0 ∷ 0 ∷ 0 ∷ [])
    -- a drawing that is not sound gets 1; 10 is no kind
    ∷ row (asking (crowd 1 1) renewal) (1 ∷ 0 ∷ 0 ∷ 0 ∷ [])
    ∷ row (answering [] (0x10 ∷ [])) (2 ∷ 0 ∷ 0 ∷ 0 ∷ [])
    -- bytes after a file are no part of it
    ∷ row (opening (0x01 ∷ 0x00 ∷ [])) (0 ∷ 0x01 ∷ 0x00 ∷ [])
    ∷ row (opening (0x01 ∷ 0x00 ∷ 0x00 ∷ [])) (10 ∷ 0x01 ∷ 0x00 ∷ [])
    ∷ []

-- ---- the soundness test: its verdict, and the count of cells visited
abbrev pub checks : List Row
checks =
    -- no cell
    row (checking empty) (1 ∷ 0 ∷ [])
    -- out of bounds: none is visited
    ∷ row (checking (sheet 0 [])) (0 ∷ 0 ∷ [])
    ∷ row (checking (crowd 1 65537)) (0 ∷ 0 ∷ [])
    ∷ row (checking (crowd 257 258)) (0 ∷ 0 ∷ [])
    -- a yes: all
    ∷ row (checking (crowd 256 257)) (1 ∷ 256 ∷ [])
    ∷ row (checking spent) (1 ∷ 2 ∷ [])
    -- a no: up to and with the first fault, whatever is wrong after it
    ∷ row (checking (sheet 4 (numbered 1 (nowhere ∷ open_edge 1 9 [] ∷ closed_edge [] ∷ [])))) (0 ∷ 1 ∷ [])
    -- a cell that is looked up is taken as it stands
    ∷ row (checking (sheet 4 (numbered 1 (point ∷ open_edge 1 3 [] ∷ nowhere ∷ [])))) (0 ∷ 3 ∷ [])
    -- rising order is a rule about the later cell; an id that is not below the next id is that cell's fault
    ∷ row (checking (sheet 9 (cell 0 point ∷ cell 1 point ∷ []))) (0 ∷ 1 ∷ [])
    ∷ row (checking (sheet 9 (cell 1 point ∷ cell 1 point ∷ cell 2 point ∷ []))) (0 ∷ 2 ∷ [])
    ∷ row (checking (sheet 9 (cell 2 point ∷ cell 3 point ∷ cell 1 nowhere ∷ []))) (0 ∷ 3 ∷ [])
    ∷ row (checking (crowd 3 3)) (0 ∷ 3 ∷ [])
    ∷ row (checking (crowd 3 2)) (0 ∷ 2 ∷ [])
    -- a named id means the first cell that has it
    ∷ row (checking (sheet 9 (cell 1 point ∷ cell 2 (open_edge 1 5 []) ∷ cell 5 point ∷ cell 5 (open_edge 1 1 []) ∷ []))) (0 ∷ 4 ∷ [])
    ∷ row (checking (sheet 9 (cell 1 point ∷ cell 2 (open_edge 1 5 []) ∷ cell 5 (open_edge 1 1 []) ∷ cell 5 point ∷ []))) (0 ∷ 2 ∷ [])
    -- a ceiling on the totals so far is reached by one cell and passed by the next: 512 cycles, 2,048 steps, 2,048 bends
    ∷ row (checking (sheet 5 (numbered 1 (point ∷ face (replicate 512 (lone 1)) ∷ face (lone 1 ∷ []) ∷ nowhere ∷ [])))) (0 ∷ 3 ∷ [])
    ∷ row (checking (sheet 5 (numbered 1 (closed_edge (origin ∷ []) ∷ rounds 2048 ∷ rounds 1 ∷ nowhere ∷ [])))) (0 ∷ 3 ∷ [])
    ∷ row (checking (sheet 4 (numbered 1 (closed_edge (replicate 2048 origin) ∷ closed_edge (origin ∷ []) ∷ nowhere ∷ [])))) (0 ∷ 2 ∷ [])
    -- files: sound, not sound, a byte less, a byte more
    ∷ row (checking_file (beside_dot (2 ∷ 1 ∷ 1 ∷ 1 ∷ 0 ∷ []))) (0 ∷ 1 ∷ 2 ∷ [])
    ∷ row (checking_file (beside_dot (2 ∷ 1 ∷ 1 ∷ 2 ∷ 0 ∷ []))) (0 ∷ 0 ∷ 2 ∷ [])
    ∷ row (checking_file (beside_dot (2 ∷ 1 ∷ 1 ∷ 1 ∷ []))) (10 ∷ 0 ∷ 0 ∷ [])
    ∷ row (checking_file (beside_dot (2 ∷ 1 ∷ 1 ∷ 1 ∷ 0 ∷ 0 ∷ []))) (10 ∷ 0 ∷ 0 ∷ [])
    ∷ []

-- ---- the pieces: the call, and how far one edit moves their number
abbrev pub piece_counts : List Row
piece_counts =
    -- no cell; a drawing that is not sound
    row (counting empty) (0 ∷ 0 ∷ [])
    ∷ row (counting (crowd 1 1)) (1 ∷ 0 ∷ [])
    -- a closed edge alone, a face with no cycle alone
    ∷ row (counting (sheet 2 (numbered 1 (closed_edge (origin ∷ []) ∷ [])))) (0 ∷ 1 ∷ [])
    ∷ row (counting (sheet 2 (numbered 1 (face [] ∷ [])))) (0 ∷ 1 ∷ [])
    -- two faces that share a border; 256 vertices; 253 vertices, two of them joined
    ∷ row (counting shared) (0 ∷ 1 ∷ [])
    ∷ row (counting (crowd 256 257)) (0 ∷ 256 ∷ [])
    ∷ row (counting crowd_and_edge) (0 ∷ 252 ∷ [])
    -- 01: one more
    ∷ row (moving [] dot) (0 ∷ 0 ∷ 1 ∷ [])
    ∷ row (moving sliver dot) (0 ∷ 1 ∷ 2 ∷ [])
    -- 02: a loop, inside one piece, inside one by way of a face, between two; refused
    ∷ row (moving (dot ∷ []) (0x02 ∷ 1 ∷ 1 ∷ 0 ∷ [])) (0 ∷ 1 ∷ 1 ∷ [])
    ∷ row (moving segment (0x02 ∷ 2 ∷ 1 ∷ 0 ∷ [])) (0 ∷ 1 ∷ 1 ∷ [])
    ∷ row (moving two_dots (0x02 ∷ 1 ∷ 2 ∷ 0 ∷ [])) (0 ∷ 1 ∷ 1 ∷ [])
    ∷ row (moving (dot ∷ dot ∷ []) (0x02 ∷ 1 ∷ 2 ∷ 0 ∷ [])) (0 ∷ 2 ∷ 1 ∷ [])
    ∷ row (moving (dot ∷ []) (0x02 ∷ 1 ∷ 2 ∷ 0 ∷ [])) (4 ∷ 1 ∷ 1 ∷ [])
    -- delete of a face with no cycle: one less; with one cycle: as many
    ∷ row (moving ((0x04 ∷ 0 ∷ []) ∷ []) (0x06 ∷ 1 ∷ [])) (0 ∷ 1 ∷ 0 ∷ [])
    ∷ row (moving (dot ∷ (0x04 ∷ 0 ∷ []) ∷ []) (0x06 ∷ 2 ∷ [])) (0 ∷ 2 ∷ 1 ∷ [])
    ∷ row (moving pierced (0x06 ∷ 2 ∷ [])) (0 ∷ 1 ∷ 1 ∷ [])
    ∷ row (moving sliver (0x06 ∷ 4 ∷ [])) (0 ∷ 1 ∷ 1 ∷ [])
    -- with two cycles: of one piece by an edge or by another face, of two pieces, two closed edges
    ∷ row (moving (segment ++ (0x04 ∷ 2 ∷ 0 ∷ 1 ∷ 0 ∷ 2 ∷ []) ∷ []) (0x06 ∷ 4 ∷ [])) (0 ∷ 1 ∷ 1 ∷ [])
    ∷ row (moving (two_dots ++ (0x04 ∷ 2 ∷ 0 ∷ 1 ∷ 0 ∷ 2 ∷ []) ∷ []) (0x06 ∷ 3 ∷ [])) (0 ∷ 1 ∷ 1 ∷ [])
    ∷ row (moving two_dots (0x06 ∷ 3 ∷ [])) (0 ∷ 1 ∷ 2 ∷ [])
    ∷ row (moving ((0x03 ∷ 1 ∷ nought) ∷ (0x03 ∷ 1 ∷ nought) ∷ (0x04 ∷ 2 ∷ 1 ∷ 2 ∷ 1 ∷ 4 ∷ []) ∷ []) (0x06 ∷ 3 ∷ [])) (0 ∷ 1 ∷ 2 ∷ [])
    -- with three: of one piece; of three, a loop, a closed edge and a lone vertex
    ∷ row (moving (bent ++ (0x04 ∷ 3 ∷ 0 ∷ 1 ∷ 0 ∷ 2 ∷ 0 ∷ 3 ∷ []) ∷ []) (0x06 ∷ 6 ∷ [])) (0 ∷ 1 ∷ 1 ∷ [])
    ∷ row (moving (dot ∷ (0x02 ∷ 1 ∷ 1 ∷ 0 ∷ []) ∷ (0x03 ∷ 1 ∷ nought) ∷ dot ∷ (0x04 ∷ 3 ∷ 1 ∷ 4 ∷ 1 ∷ 6 ∷ 0 ∷ 4 ∷ []) ∷ []) (0x06 ∷ 5 ∷ []))
    (0 ∷ 1 ∷ 3 ∷ [])
    ∷ []

abbrev pub rows : List Row
rows = marked ++ (further ++ (checks ++ piece_counts))
