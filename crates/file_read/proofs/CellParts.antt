-- A cell in a file is its head, its bends and its cycles. Assumes nothing.
use Prim.Native.Nat.{ℕ, zero, suc, ◌+◌}
use native.Mathlib.Omega.{arith}
use mathlib.Core.Path.{◌≡◌, refl, sym, ap, ◌∙◌}
use mathlib.Core.List.{List, [], ◌∷◌, map}
use lib.ListN.{length, take, get_or}
use lib.Seq.{take_all}
use Rattle.number.specs.Readers.{Read, got, bad, and_then, times, spread}
use Rattle.number.specs.Numbers.{read_number}
use Rattle.number.proofs.Laws.{got_thing, got_rest}
use Rattle.number.proofs.Counted.{times_length}
use Rattle.coordinate.specs.declared.Position.{Position}
use Rattle.coordinate.specs.Positions.{read_position}
use Rattle.complex.specs.Cells.{Cycle, Figure, vertex, open_edge, closed_edge, face, LiveCell}
use Rattle.complex.specs.Decode.{read_cycle}
use Rattle.complex.specs.File.{figure_readers, no_figure, read_cell}
use Rattle.complex.proofs.FileReaders.{then_from}
use Rattle.store.specs.declared.Shape.{Shape}
use Rattle.store.specs.declared.Shape.TheVariants.{Vertex, Open, Closed, Face}
use Rattle.store.specs.declared.Cell.{Cell}
use Rattle.store.specs.View.{bend_count, cycle_count, figure_of}
use Rattle.store.specs.Places.{entry_cell, entry_cycles, entry_bends}
use Rattle.store.proofs.Encode.{heads, cycles_of_cells, bends_of_cells}
use Rattle.file_read.specs.Heads.{read_shape, read_head}

-- ---- a figure is its shape, and then its bends and cycles
abbrev read_parts : Shape → List ℕ → Read Figure
read_parts x t = and_then (times read_position (bend_count x) t) λ bs u. and_then (times read_cycle (cycle_count x) u) λ ks v. got (figure_of x ks bs) v

-- n things that were read are the first n of them
taken : {A : Type 0} (r : List ℕ → Read A) (f : List A → Figure) (n : ℕ) (s : List ℕ)
    → and_then (times r n s) (λ xs t. got (f xs) t) ≡ and_then (times r n s) λ xs t. got (f (take n xs)) t
taken {A} r f n s = go (times r n s) refl
  where
    go : (q : Read (List A)) → times r n s ≡ q → and_then q (λ xs t. got (f xs) t) ≡ and_then q λ xs t. got (f (take n xs)) t
    go (got xs t) e = let l = times_length r n s t xs e in ap (λ (ys : List A). got (f ys) t) (sym (take_all n xs (omega arith)))
    go bad e = refl

figure_is : (k : ℕ) (s : List ℕ) → get_or figure_readers k no_figure s ≡ and_then (read_shape k s) read_parts
figure_is zero s = go (read_position s)
  where
    go : (q : Read Position) → and_then q (λ p t. got (vertex p) t) ≡ and_then (and_then q λ p t. got (Vertex p) t) read_parts
    go (got p t) = refl
    go bad = refl
figure_is (suc zero) s = start (read_number s)
  where
    count : (a b : ℕ) (q : Read ℕ) → and_then (and_then q λ n t. times read_position n t) (λ bs v. got (open_edge a b bs) v)
        ≡ and_then (and_then q λ n v. got (Open a b n) v) read_parts
    count a b (got n v) = taken read_position (open_edge a b) n v
    count a b bad = refl

    end : (a : ℕ) (q : Read ℕ) → and_then q (λ b u. and_then (and_then (read_number u) λ n t. times read_position n t) λ bs v. got (open_edge a b bs) v)
        ≡ and_then (and_then q λ b u. and_then (read_number u) λ n v. got (Open a b n) v) read_parts
    end a (got b u) = count a b (read_number u)
    end a bad = refl

    start : (q : Read ℕ) → and_then q
        (λ a t. and_then (read_number t) λ b u. and_then (and_then (read_number u) λ n t. times read_position n t) λ bs v. got (open_edge a b bs) v)
        ≡ and_then (and_then q λ a t. and_then (read_number t) λ b u. and_then (read_number u) λ n v. got (Open a b n) v) read_parts
    start (got a t) = end a (read_number t)
    start bad = refl
figure_is (suc (suc zero)) s = count (read_number s)
  where
    count : (q : Read ℕ) → and_then (and_then q λ n t. times read_position n t) (λ bs v. got (closed_edge bs) v)
        ≡ and_then (and_then q λ n v. got (Closed n) v) read_parts
    count (got n v) = taken read_position closed_edge n v
    count bad = refl
figure_is (suc (suc (suc zero))) s = count (read_number s)
  where
    count : (q : Read ℕ) → and_then (and_then q λ n t. times read_cycle n t) (λ ks v. got (face ks) v) ≡ and_then (and_then q λ k v. got (Face k) v) read_parts
    count (got n v) = taken read_cycle face n v
    count bad = refl
figure_is (suc (suc (suc (suc k)))) s = refl

-- ---- a cell is its head, and then its bends and cycles
abbrev whole : Read Cell → Read LiveCell
whole q = and_then q λ c t. and_then (read_parts c.shape t) λ f v. got (record { id = c.id; figure = f }) v

cell_is : (s : List ℕ) → read_cell s ≡ whole (read_head s)
cell_is s = go (read_number s)
  where
    shape : (i : ℕ) (q : Read Shape) → and_then (and_then q read_parts) (λ x v. got (record { id = i; figure = x }) v)
        ≡ whole (and_then q λ x v. got (record { id = i; shape = x }) v)
    shape i (got x v) = refl
    shape i bad = refl

    kind : (i : ℕ) (q : Read ℕ) → and_then q (λ k u. and_then (get_or figure_readers k no_figure u) λ x v. got (record { id = i; figure = x }) v)
        ≡ whole (and_then q λ k u. and_then (read_shape k u) λ x v. got (record { id = i; shape = x }) v)
    kind i (got k u) = ap (λ (q : Read Figure). and_then q λ x v. got (record { id = i; figure = x }) v) (figure_is k u) ∙ shape i (read_shape k u)
    kind i bad = refl

    go : (q : Read ℕ) → and_then q (λ i t. and_then (read_number t) λ k u. and_then (get_or figure_readers k no_figure u) λ x v. got (record { id = i; figure = x }) v)
        ≡ whole (and_then q λ i t. and_then (read_number t) λ k u. and_then (read_shape k u) λ x v. got (record { id = i; shape = x }) v)
    go (got i t) = kind i (read_number t)
    go bad = refl

pub no_head : (s : List ℕ) → read_head s ≡ bad → read_cell s ≡ bad
no_head s e = cell_is s ∙ ap whole e

-- the cell with the cycles ks and the bends bs
abbrev pub cell_with : Cell → List Cycle → List Position → LiveCell
cell_with c ks bs = record { id = c.id; figure = figure_of c.shape ks bs }

module _ (c : Cell) (s t : List ℕ) (head : read_head s ≡ got c t) where
  pub cell_found : (bs : List Position) (ks : List Cycle) (u v : List ℕ) → times read_position (bend_count c.shape) t ≡ got bs u
      → times read_cycle (cycle_count c.shape) u ≡ got ks v
      → read_cell s ≡ got (cell_with c ks bs) v
  cell_found bs ks u v e f =
      cell_is s ∙ ap whole head
      ∙ ap (λ (q : Read (List Position)). and_then
      (and_then q λ cs w. and_then (times read_cycle (cycle_count c.shape) w) λ ls z. got (figure_of c.shape ls cs) z) λ x z. got
      (record { id = c.id; figure = x }) z) e
      ∙ ap (λ (q : Read (List Cycle)). and_then (and_then q λ ls z. got (figure_of c.shape ls bs) z) λ x z. got (record { id = c.id; figure = x }) z) f

  -- a cell that was read, by its bends and cycles
  pub record Parts (y : LiveCell) (w : List ℕ) : Type 0 where
    pub bends : List Position
    pub cycles : List Cycle
    pub between : List ℕ
    pub read_bends : times read_position (bend_count c.shape) t ≡ got bends between
    pub read_cycles : times read_cycle (cycle_count c.shape) between ≡ got cycles w
    pub same : y ≡ cell_with c cycles bends

  pub cell_parts : (y : LiveCell) (w : List ℕ) → read_cell s ≡ got y w → Parts y w
  cell_parts y w e =
      let x = c.shape in
      then_from (read_parts x t) (λ f v. got (record { id = c.id; figure = f }) v) y w (sym (cell_is s ∙ ap whole head) ∙ e) λ f v g d.
      then_from (times read_position (bend_count x) t) (λ bs u. and_then (times read_cycle (cycle_count x) u) λ ks z. got (figure_of x ks bs) z) f v g λ bs u h k.
      then_from (times read_cycle (cycle_count x) u) (λ ks z. got (figure_of x ks bs) z) f v k λ ks z l m.
      record {
        bends = bs;
        cycles = ks;
        between = u;
        read_bends = h;
        read_cycles = l ∙ ap (got ks) (got_rest (figure_of x ks bs) f z v m ∙ got_rest (record { id = c.id; figure = f }) y v w d);
        same = sym (ap (λ (n : Figure). record { id = c.id; figure = n }) (got_thing (figure_of x ks bs) f z v m)
            ∙ got_thing (record { id = c.id; figure = f }) y v w d);
      }

-- ---- what the cell puts into the arrays
module _ (c : Cell) (ks : List Cycle) (bs : List Position) (k : length ks ≡ cycle_count c.shape) (b : length bs ≡ bend_count c.shape) where
  pub one_head : map entry_cell (cell_with c ks bs ∷ []) ≡ c ∷ []
  one_head = heads (c ∷ []) ks bs (omega arith) (omega arith)

  pub one_cycles : spread entry_cycles (cell_with c ks bs ∷ []) ≡ ks
  one_cycles = cycles_of_cells (c ∷ []) ks bs ∙ take_all (cycle_count c.shape + 0) ks (omega arith)

  pub one_bends : spread entry_bends (cell_with c ks bs ∷ []) ≡ bs
  one_bends = bends_of_cells (c ∷ []) ks bs ∙ take_all (bend_count c.shape + 0) bs (omega arith)
