-- What a decoded command says, read with the script that its lists stay in. Definitions only.
use Rattle.std.specs.Prelude.{Option, Some, None}
use Rattle.std.specs.Prelude.{ℕ, ◌+◌, ◌*◌, ◌≤◌, ◌≡◌, Bool, true, false, List, Float, length, drop}
use Rattle.number.specs.Readers.{Read}
use Rattle.number.specs.Said.{Said, done, no, found_or}
use Rattle.number.specs.Numbers.{read_number}
use Rattle.coordinate.specs.declared.Position.{Position}
use Rattle.bends.specs.Bends.{positions_at}
use Rattle.complex.specs.Cells.{vertex, open_edge, closed_edge, face}
use Rattle.complex.specs.Decode as bytes
use Rattle.decode_parts.specs.Lists.{Stand, numbers_read, cycles_read}
use Rattle.decode_command.specs.declared.Command.{Command}
use Rattle.decode_command.specs.declared.Command.TheVariants.{Vertex, Open, Closed, Face, Move, Delete, GlueVertices, GlueEdges, Unglue}
use Rattle.decode_command.specs.declared.Command.TheVariants.{CutEdge, CutFaceVertex, CutFaceOpen, CutFaceClosed, Uncut, Renumber}

abbrev pub order_of : List ℕ → Command → bytes.Order
order_of s (Vertex x y) = bytes.edit (bytes.create (vertex (record { x = x; y = y })))
order_of s (Open a b n first) = bytes.edit (bytes.create (open_edge a b (positions_at s first n)))
order_of s (Closed n first) = bytes.edit (bytes.create (closed_edge (positions_at s first n)))
order_of s (Face k first) = bytes.edit (bytes.create (face (cycles_read s first k)))
order_of s (Move v x y) = bytes.edit (bytes.move v (record { x = x; y = y }))
order_of s (Delete i) = bytes.edit (bytes.delete i)
order_of s (GlueVertices a b) = bytes.edit (bytes.glue_vertices a b)
order_of s (GlueEdges a b f) = bytes.edit (bytes.glue_edges a b f)
order_of s (Unglue i) = bytes.edit (bytes.unglue i)
order_of s (CutEdge e q) = bytes.edit (bytes.cut_edge e q)
order_of s (CutFaceVertex f x y) = bytes.edit (bytes.cut_face_vertex f (record { x = x; y = y }))
order_of s (CutFaceOpen f c1 s1 c2 s2 n first m place) = bytes.edit (bytes.cut_face_open f c1 s1 c2 s2 (positions_at s first n) (numbers_read s place m))
order_of s (CutFaceClosed f n first m place) = bytes.edit (bytes.cut_face_closed f (positions_at s first n) (numbers_read s place m))
order_of s (Uncut i) = bytes.edit (bytes.uncut i)
order_of s Renumber = bytes.renumber

-- 0 with a command and the bytes after it, or 2
abbrev pub decoded_says : List ℕ → Option (Command × ℕ) → Said (bytes.Order × List ℕ)
decoded_says s (Some (c, next)) = done (order_of s c, drop next s)
decoded_says s None = no 2

-- the lists of a command lie in the script
abbrev pub ListsLie : List ℕ → Command → Type 0
ListsLie s (Vertex x y) = Unit {0}
ListsLie s (Open a b n first) = first + 16 * n ≤ length s
ListsLie s (Closed n first) = first + 16 * n ≤ length s
ListsLie s (Face k first) = Stand bytes.read_cycle s first k
ListsLie s (Move v x y) = Unit {0}
ListsLie s (Delete i) = Unit {0}
ListsLie s (GlueVertices a b) = Unit {0}
ListsLie s (GlueEdges a b f) = Unit {0}
ListsLie s (Unglue i) = Unit {0}
ListsLie s (CutEdge e q) = Unit {0}
ListsLie s (CutFaceVertex f x y) = Unit {0}
ListsLie s (CutFaceOpen f c1 s1 c2 s2 n first m place) = (first + 16 * n ≤ length s) × Stand read_number s place m
ListsLie s (CutFaceClosed f n first m place) = (first + 16 * n ≤ length s) × Stand read_number s place m
ListsLie s (Uncut i) = Unit {0}
ListsLie s Renumber = Unit {0}

-- a command whose fields begin at `at` ends at `next`
pub record Ended (s : List ℕ) (at : ℕ) (c : Command) (next : ℕ) : Type 0 where
  pub after : at ≤ next
  pub fits : next ≤ length s
  pub lists : ListsLie s c

abbrev pub DecodedEnd : List ℕ → ℕ → Option (Command × ℕ) → Type 0
DecodedEnd s at (Some (c, next)) = Ended s at c next
DecodedEnd s at None = Unit {0}

-- r says what is read from `at` on, or 2
pub record Decodes (s : List ℕ) (at : ℕ) (read : Read bytes.Order) (r : Option (Command × ℕ)) : Type 0 where
  pub answer : decoded_says s r ≡ found_or 2 read
  pub ends : DecodedEnd s at r

-- ---- what makes a command of the fields that are read
-- c is the command k, in any script
pub record Is (c : Command) (k : bytes.Command) : Type 0 where
  pub order : (s : List ℕ) → order_of s c ≡ bytes.edit k
  pub lists : (s : List ℕ) → ListsLie s c

-- what is made of a cell, of two numbers, or of a cell and a position, is a command of the kind
abbrev pub MakesOfCell : (ℕ → bytes.Command) → (ℕ → Command → Type 0) → Type 0
MakesOfCell kind made = (n : ℕ) (c : Command) → made n c → Is c (kind n)

abbrev pub MakesOfTwo : (ℕ → ℕ → bytes.Command) → (ℕ → ℕ → Command → Type 0) → Type 0
MakesOfTwo kind made = (a b : ℕ) (c : Command) → made a b c → Is c (kind a b)

abbrev pub MakesOfPlace : (ℕ → Position → bytes.Command) → (ℕ → Float → Float → Command → Type 0) → Type 0
MakesOfPlace kind made = (n : ℕ) (p : Position) (c : Command) → made n p.x p.y c → Is c (kind n p)

-- the two kinds that are a cell and a position: 0B, a face; or 05
abbrev pub place_kind : Bool → ℕ → Position → bytes.Command
place_kind true = bytes.cut_face_vertex
place_kind false = bytes.move
