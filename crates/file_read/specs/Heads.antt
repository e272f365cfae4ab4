-- The fields of a cell in a file up to its bends and cycles, of which a shape has the counts. Definitions only.
use Rattle.std.specs.Prelude.{Option, Some, None}
use Rattle.std.specs.Prelude.{ℕ, ◌≤◌, ◌≡◌, Bool, true, false, cond, List, [], ◌∷◌, length, get_or, drop}
use Rattle.number.specs.Readers.{Read, got, bad, and_then}
use Rattle.number.specs.Said.{Said, done, no, Says}
use Rattle.number.specs.Numbers.{read_number}
use Rattle.coordinate.specs.Positions.{read_position}
use Rattle.store.specs.declared.Shape.{Shape}
use Rattle.store.specs.declared.Shape.TheVariants.{Vertex, Open, Closed, Face}
use Rattle.store.specs.declared.Cell.{Cell}

abbrev pub vertex_shape : List ℕ → Read Shape
vertex_shape s = and_then (read_position s) λ p t. got (Vertex p) t

-- start, end and the count of the bends
abbrev pub open_shape : List ℕ → Read Shape
open_shape s = and_then (read_number s) λ a t. and_then (read_number t) λ b u. and_then (read_number u) λ n v. got (Open a b n) v

-- the count of the cycles of a face, or of the bends of a closed edge
abbrev pub counted_shape : Bool → List ℕ → Read Shape
counted_shape is_face s = and_then (read_number s) λ n t. got (cond is_face (Face n) (Closed n)) t

abbrev pub any_shape : List ℕ → Read Shape
any_shape s = bad

abbrev pub shape_readers : List (List ℕ → Read Shape)
shape_readers = vertex_shape ∷ open_shape ∷ counted_shape false ∷ counted_shape true ∷ []

abbrev pub read_shape : ℕ → List ℕ → Read Shape
read_shape k = get_or shape_readers k any_shape

abbrev pub read_head : List ℕ → Read Cell
read_head s = and_then (read_number s) λ i t. and_then (read_number t) λ k u. and_then (read_shape k u) λ x v. got (record { id = i; shape = x }) v

-- a thing was read, and next is the place after it
pub record ReadAt {A : Type 0} (q : Read A) (s : List ℕ) (x : A) (next : ℕ) : Type 0 where
  pub read : q ≡ got x (drop next s)
  pub inside : next ≤ length s

-- 0 with a shape and the place after it, or 10
abbrev pub shape_says : Option (Shape × ℕ) → Said (Shape × ℕ)
shape_says (Some (x, next)) = done (x, next)
shape_says None = no 10

abbrev pub ShapeRead : (List ℕ → Read Shape) → List ℕ → ℕ → Option (Shape × ℕ) → Type 0
ShapeRead r s at f = Says 10 (λ v. ReadAt (r (drop at s)) s v.0 v.1) (r (drop at s) ≡ bad) (shape_says f)

-- 0 with a cell and the place after its counts, or 10
abbrev pub cell_says : Option (Cell × ℕ) → Said (Cell × ℕ)
cell_says (Some (c, next)) = done (c, next)
cell_says None = no 10

abbrev pub HeadRead : List ℕ → ℕ → Option (Cell × ℕ) → Type 0
HeadRead s at f = Says 10 (λ v. ReadAt (read_head (drop at s)) s v.0 v.1) (read_head (drop at s) ≡ bad) (cell_says f)
