-- Decoding leaves fewer bytes, and so a run needs no more turns than there are bytes. Assumes nothing.
use Prim.Native.Nat.{ℕ, zero, suc, ◌≤◌, ◌<◌}
use native.Mathlib.Omega.{arith}
use borrow.Author.Tests.{ne_eqb}
use mathlib.Core.Path.{◌≡◌, refl, sym, ap, ◌∙◌, subst}
use mathlib.Core.Bool.{Bool, true, false, cond}
use mathlib.Core.List.{List, [], ◌∷◌}
use lib.Dec.{T, eqb, ltb, leb}
use lib.ListN.{length, drop, get_or, length-drop}
use Rattle.number.specs.Readers.{Read, got, bad, and_then, times}
use Rattle.number.specs.Numbers.{read_number, more, counted}
use Rattle.coordinate.specs.declared.Position.{Position}
use Rattle.coordinate.specs.Positions.{read_coordinate, read_position, coordinate_in}
use Rattle.bends.specs.Bends.{read_bends}
use Rattle.complex.specs.Lists.{is_empty}
use Rattle.complex.specs.Cells.{Sheet, Figure, Cycle, lone, path}
use Rattle.complex.specs.Sound.{sound}
use Rattle.complex.specs.Decode as reads
use Rattle.complex.specs.Decode.{Command, Order, decode, unreadable}
use Rattle.complex.specs.Answer.{Answer, asked2, command, rest_read, rest}
use Rattle.complex.specs.Program.{Run, line, put_line, ended, ran}
use Rattle.complex.proofs.Bools.{truth, true_of, false_not}
use Rattle.complex.proofs.Obey.{command_sound}
use Rattle.complex.proofs.Demand.{keeps, balances}

-- at most n bytes are left after what was read
abbrev Within : {A : Type 0} → ℕ → Read A → Type 0
Within n (got a t) = length t ≤ n
Within n bad = Unit {0}

abbrev Takes : {A : Type 0} → (List ℕ → Read A) → Type 0
Takes r = (n : ℕ) (s : List ℕ) → length s ≤ n → Within n (r s)

andthen : {A B : Type 0} (f : A → List ℕ → Read B) (n : ℕ) (q : Read A) → Within n q → ((a : A) (t : List ℕ) → length t ≤ n → Within n (f a t))
    → Within n (and_then q f)
andthen f n (got a t) h g = g a t h
andthen f n bad h g = tt

more_takes : (k : ℕ) → Takes (more k)
more_takes zero n s h = tt
more_takes (suc k) n [] h = tt
more_takes (suc k) n (b ∷ s) h = go (ltb b 128) refl (more_takes k n s (omega arith))
  where
    last : (x : Bool) → eqb b 0 ≡ x → Within n (cond (eqb b 0) bad (got b s))
    last true e = rw e tt
    last false e = rw e (omega arith)

    go : (x : Bool) → ltb b 128 ≡ x → Within n (more k s) → Within n (more (suc k) (b ∷ s))
    go true e i = rw (e, Within) (last (eqb b 0) refl)
    go false e i = rw (e, Within) (andthen _ n (more k s) i (λ m t l. l))

number_takes : Takes read_number
number_takes n [] h = tt
number_takes n (b ∷ s) h = go (ltb b 128) refl
  where
    go : (x : Bool) → ltb b 128 ≡ x → Within n (read_number (b ∷ s))
    go true e = rw (e, Within) (omega arith)
    go false e = rw (e, Within) (andthen _ n (more 2 s) (more_takes 2 n s (omega arith)) (λ m t l. l))

times_takes : {A : Type 0} (r : List ℕ → Read A) → Takes r → (k : ℕ) → Takes (times r k)
times_takes r f zero n s h = h
times_takes r f (suc k) n s h = andthen _ n (r s) (f n s h) (λ x t l. andthen _ n (times r k t) (times_takes r f k n t l) (λ xs u m. m))

counted_takes : {A : Type 0} (r : List ℕ → Read A) → Takes r → Takes (counted r)
counted_takes r f n s h = andthen _ n (read_number s) (number_takes n s h) (λ k t l. times_takes r f k n t l)

coordinate_takes : Takes read_coordinate
coordinate_takes n s h = go (leb 8 (length s)) refl
  where
    go : (x : Bool) → leb 8 (length s) ≡ x → Within n (read_coordinate s)
    go true e = rw e (let d = length-drop 8 s in omega arith)
    go false e = rw e tt

position_takes : Takes read_position
position_takes n s h = andthen _ n (read_coordinate s) (coordinate_takes n s h) (λ x t l. andthen _ n (read_coordinate t) (coordinate_takes n t l) (λ y u m. m))

bends_takes : Takes read_bends
bends_takes = counted_takes read_position position_takes

-- ---- the fields
step_takes : Takes reads.read_step
step_takes n s h = andthen _ n (read_number s) (number_takes n s h) (λ m t l. l)

cycle_takes : Takes reads.read_cycle
cycle_takes n s h = andthen _ n (read_number s) (number_takes n s h) (λ m t l. go m t l (eqb m 0) refl)
  where
    go : (m : ℕ) (t : List ℕ) → length t ≤ n → (x : Bool) → eqb m 0 ≡ x → Within {A = Cycle} n (elim (eqb m 0) [
      | true ↦ and_then (read_number t) λ v u. got (lone v) u
      | false ↦ and_then (times reads.read_step m t) λ hs u. got (path hs) u
    ])
    go m t l true e = rw e (andthen _ n (read_number t) (number_takes n t l) (λ v u k. k))
    go m t l false e = rw e (andthen _ n (times reads.read_step m t) (times_takes reads.read_step step_takes m n t l) (λ hs u k. k))

create_takes : (r : List ℕ → Read Figure) → Takes r → Takes (reads.read_create r)
create_takes r f n s h = andthen _ n (r s) (f n s h) (λ x t l. l)

vertex_takes : Takes reads.read_vertex
vertex_takes n s h = andthen _ n (read_position s) (position_takes n s h) (λ p t l. l)

open_takes : Takes reads.read_open_edge
open_takes n s h =
    andthen _ n (read_number s) (number_takes n s h) (λ a t l. andthen _ n (read_number t) (number_takes n t l)
    (λ b u k. andthen _ n (read_bends u) (bends_takes n u k) (λ bs v j. j)))

closed_takes : Takes reads.read_closed_edge
closed_takes n s h = andthen _ n (read_bends s) (bends_takes n s h) (λ bs t l. l)

face_takes : Takes reads.read_face
face_takes n s h = andthen _ n (counted reads.read_cycle s) (counted_takes reads.read_cycle cycle_takes n s h) (λ ks t l. l)

cell_takes : (c : ℕ → Command) → Takes (reads.read_cell_only c)
cell_takes c n s h = andthen _ n (read_number s) (number_takes n s h) (λ i t l. l)

two_takes : (c : ℕ → ℕ → Command) → Takes (reads.read_two c)
two_takes c n s h = andthen _ n (read_number s) (number_takes n s h) (λ a t l. andthen _ n (read_number t) (number_takes n t l) (λ b u k. k))

place_takes : (c : ℕ → Position → Command) → Takes (reads.read_place c)
place_takes c n s h = andthen _ n (read_number s) (number_takes n s h) (λ i t l. andthen _ n (read_position t) (position_takes n t l) (λ p u k. k))

edges_takes : Takes reads.read_glue_edges
edges_takes n s h =
    andthen _ n (read_number s) (number_takes n s h) (λ a t l. andthen _ n (read_number t) (number_takes n t l)
    (λ b u k. andthen _ n (read_number u) (number_takes n u k) (λ f v j. j)))

moved_takes : Takes (counted read_number)
moved_takes = counted_takes read_number number_takes

chord_takes : Takes reads.read_cut_face_open
chord_takes n s h =
    andthen _ n (read_number s) (number_takes n s h) (λ f t l. andthen _ n (read_number t) (number_takes n t l)
    (λ c1 t1 l1. andthen _ n (read_number t1) (number_takes n t1 l1) (λ s1 t2 l2. andthen _ n (read_number t2) (number_takes n t2 l2)
    (λ c2 t3 l3. andthen _ n (read_number t3) (number_takes n t3 l3) (λ s2 t4 l4. andthen _ n (read_bends t4) (bends_takes n t4 l4)
    (λ bs t5 l5. andthen _ n (counted read_number t5) (moved_takes n t5 l5) (λ ms t6 l6. l6)))))))

round_takes : Takes reads.read_cut_face_closed
round_takes n s h =
    andthen _ n (read_number s) (number_takes n s h) (λ f t l. andthen _ n (read_bends t) (bends_takes n t l)
    (λ bs u k. andthen _ n (counted read_number u) (moved_takes n u k) (λ ms v j. j)))

abbrev Unread : Read Order → Type 0
Unread (got o t) = ⊥
Unread bad = Unit {0}

pub ran_none : (n : ℕ) (s : Sheet) → ran n s [] ≡ ended s
ran_none zero s = refl
ran_none (suc n) s = refl

-- ---- a command
edits_take : (r : List ℕ → Read Command) → Takes r → Takes (reads.edits r)
edits_take r f n s h = andthen _ n (r s) (f n s h) (λ c t l. l)

abbrev AllTake : List (List ℕ → Read Order) → Type 0
AllTake [] = Unit {0}
AllTake (r ∷ rs) = (Takes r) × (AllTake rs)

one_takes : (rs : List (List ℕ → Read Order)) → AllTake rs → (k : ℕ) → Takes (get_or rs k unreadable)
one_takes [] f k n s h = tt
one_takes (r ∷ rs) f zero n s h = f.0 n s h
one_takes (r ∷ rs) f (suc k) n s h = one_takes rs f.1 k n s h

kinds_take : AllTake reads.kinds
kinds_take = (
  λ n s h. tt,
  (
    edits_take (reads.read_create reads.read_vertex) (create_takes reads.read_vertex vertex_takes),
    (
      edits_take (reads.read_create reads.read_open_edge) (create_takes reads.read_open_edge open_takes),
      (
        edits_take (reads.read_create reads.read_closed_edge) (create_takes reads.read_closed_edge closed_takes),
        (
          edits_take (reads.read_create reads.read_face) (create_takes reads.read_face face_takes),
          (
            edits_take (reads.read_place reads.move) (place_takes reads.move),
            (
              edits_take (reads.read_cell_only reads.delete) (cell_takes reads.delete),
              (
                edits_take (reads.read_two reads.glue_vertices) (two_takes reads.glue_vertices),
                (
                  edits_take reads.read_glue_edges edges_takes,
                  (
                    edits_take (reads.read_cell_only reads.unglue) (cell_takes reads.unglue),
                    (
                      edits_take (reads.read_two reads.cut_edge) (two_takes reads.cut_edge),
                      (
                        edits_take (reads.read_place reads.cut_face_vertex) (place_takes reads.cut_face_vertex),
                        (
                          edits_take reads.read_cut_face_open chord_takes,
                          (
                            edits_take reads.read_cut_face_closed round_takes,
                            (
                              edits_take (reads.read_cell_only reads.uncut) (cell_takes reads.uncut),
                              (
                                λ n s h. h,
                                tt,
                              ),
                            ),
                          ),
                        ),
                      ),
                    ),
                  ),
                ),
              ),
            ),
          ),
        ),
      ),
    ),
  ),
)

-- a command that is read takes a byte at least
decode_shorter : (b : List ℕ) (o : Order) (t : List ℕ) → decode b ≡ got o t → length t < length b
unfolding decode
decode_shorter [] o t e = absurd (subst (λ (r : Read Order). Unread r) e tt)
decode_shorter (k ∷ s) o t e = let h : length t ≤ length s = subst (Within (length s)) e (one_takes reads.kinds kinds_take k (length s) s (omega arith)) in
    omega arith

-- ---- a run
rest_shorter : (s : Sheet) (b : List ℕ) → T (sound s) → eqb (command s b).number 2 ≡ false → length (rest s b) < length b
unfolding command rest
rest_shorter s b w f = go (decode b) refl
  where
    go : (q : Read Order) → decode b ≡ q → length (rest s b) < length b
    go bad e = let z : eqb (command s b).number 2 ≡ true = rw (true_of (sound s) w, e) in absurd (false_not f (truth z))
    go (got o t) e = rw (true_of (sound s) w, e) (decode_shorter b o t e)

ran_empty : (n : ℕ) (s : Sheet) (b : List ℕ) → length b ≤ 0 → ran n s b ≡ ended s
ran_empty n s [] h = ran_none n s
ran_empty n s (x ∷ b) h = absurd (omega arith)

-- as many turns as there are bytes are enough
pub ran_enough : (m n : ℕ) (s : Sheet) (b : List ℕ) → T (sound s) → length b ≤ m → length b ≤ n → ran m s b ≡ ran n s b
ran_enough zero n s b w h g = sym (ran_empty n s b h)
ran_enough (suc m) zero s b w h g = ran_empty (suc m) s b g
ran_enough (suc m) (suc n) s b w h g =
    go (is_empty b) (eqb (command s b).number 2) refl refl
    (λ i j. ran_enough m n (command s b).sheet (rest s b) (command_sound keeps balances s b w) i j)
  where
    next : ℕ → Run
    next k = ran k (command s b).sheet (rest s b)

    go : (x y : Bool) → is_empty b ≡ x → eqb (command s b).number 2 ≡ y → (length (rest s b) ≤ m → length (rest s b) ≤ n → next m ≡ next n)
        → ran (suc m) s b ≡ ran (suc n) s b
    go true y e f r = rw (e, ran)
    go false true e f r = rw (e, f, ran)
    go false false e f r = let l = rest_shorter s b w f in rw (e, f, ran) (ap (put_line (line (command s b))) (r (omega arith) (omega arith)))
