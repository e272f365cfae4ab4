-- The kinds with lists, as readers of one field after another. Assumes nothing.
use Rattle.std.specs.Prelude.{Option, Some, None}
use mathlib.Core.Path.{◌≡◌, ap, ◌∙◌, subst}
use mathlib.Core.List.{List}
use Prim.Native.Nat.{ℕ}
use lib.ListN.{drop}
use Rattle.number.specs.Readers.{Read, got, and_then}
use Rattle.number.specs.Said.{done, no}
use Rattle.number.specs.Numbers.{read_number, counted}
use Rattle.bends.specs.Bends.{read_bends, positions_at}
use Rattle.complex.specs.Cells.{Figure, open_edge}
use Rattle.complex.specs.Decode.{read_open_edge, read_create, read_cut_face_open, read_cut_face_closed}
use Rattle.complex.specs.Decode as bytes
use Rattle.decode_parts.specs.Lists.{Found, numbers_read}
use Rattle.decode_fields.specs.Fields.{read_pair, read_two_numbers, read_three_numbers, read_cut_lists, cut_says, CutLie}
use Rattle.decode_parts.proofs.Fields.{heard}
use Rattle.decode_fields.proofs.Pairs.{pair_half, pair_both, pair_then}
use Rattle.decode_command.specs.declared.Command.{Command}
use Rattle.decode_command.specs.View.{Decodes}
use Rattle.decode_command.proofs.Decides.{edited, read_as_lem, of_create}

-- the lists of a cut, after its face and its corners
abbrev cut_at : ℕ → ℕ → ℕ → ℕ → ℕ → List ℕ → Read bytes.Command
cut_at f c1 s1 c2 s2 t = and_then (read_cut_lists t) λ l u. got (bytes.cut_face_open f c1 s1 c2 s2 l.0 l.1) u

-- the lists of a cut come last
module _ {A : Type 0} {r : List ℕ → Read A} {s : List ℕ} {at mid : ℕ} {x : A} (h : Found r s at (done (x, mid))) {v : Option (ℕ × ℕ × ℕ × ℕ × ℕ)}
    (l : Found read_cut_lists s mid (cut_says s v) × CutLie s v) where
  pub lists_none : v ≡ None → Found (read_pair r read_cut_lists) s at (no 2)
  lists_none e = pair_half h (heard (cut_says s) l.0 e)

  pub lists_both : {n first m place next : ℕ} → v ≡ Some (n, first, m, place, next)
      → Found (read_pair r read_cut_lists) s at (done ((x, (positions_at s first n, numbers_read s place m)), next)) × CutLie s (Some (n, first, m, place, next))
  lists_both e = (pair_both h (heard (cut_says s) l.0 e), subst (CutLie s) e l.1)

-- ---- the definition of each kind
module _ {s : List ℕ} {at : ℕ} {d : Option (Command × ℕ)} where
  pub of_open : Decodes s at (edited (and_then (read_pair read_two_numbers read_bends (drop at s)) λ p u.
      got (bytes.create (open_edge p.0.0 p.0.1 p.1)) u)) d
      → Decodes s at (edited (read_create read_open_edge (drop at s))) d
  of_open h =
      read_as_lem
      (ap (λ (q : Read Figure). and_then q λ x t. got (bytes.create x) t)
      (pair_then read_two_numbers read_bends (λ p bs u. got (open_edge p.0 p.1 bs) u) (drop at s)
      ∙ pair_then read_number read_number (λ a b u. and_then (read_bends u) λ bs v. got (open_edge a b bs) v) (drop at s)))
      (of_create (read_pair read_two_numbers read_bends) (λ p. open_edge p.0.0 p.0.1 p.1) h)

  pub of_cut_closed : Decodes s at (edited (and_then (read_pair read_number read_cut_lists (drop at s)) λ p u.
      got (bytes.cut_face_closed p.0 p.1.0 p.1.1) u)) d
      → Decodes s at (edited (read_cut_face_closed (drop at s))) d
  of_cut_closed h =
      read_as_lem
      (pair_then read_number read_cut_lists (λ f l u. got (bytes.cut_face_closed f l.0 l.1) u) (drop at s)
      ∙ (λ i. and_then (read_number (drop at s)) λ f t. pair_then read_bends (counted read_number) (λ bs ms v. got (bytes.cut_face_closed f bs ms) v) t i)) h

  pub of_cut_open : Decodes s at (edited (and_then (read_pair (read_pair read_three_numbers read_two_numbers) read_cut_lists (drop at s)) λ p u.
      got (bytes.cut_face_open p.0.0.0.0 p.0.0.0.1 p.0.0.1 p.0.1.0 p.0.1.1 p.1.0 p.1.1) u)) d
      → Decodes s at (edited (read_cut_face_open (drop at s))) d
  of_cut_open h =
      let t = drop at s in
      read_as_lem
      (pair_then (read_pair read_three_numbers read_two_numbers) read_cut_lists
      (λ p l u. got (bytes.cut_face_open p.0.0.0 p.0.0.1 p.0.1 p.1.0 p.1.1 l.0 l.1) u) t
      ∙ pair_then read_three_numbers read_two_numbers (λ x y u. cut_at x.0.0 x.0.1 x.1 y.0 y.1 u) t
      ∙ pair_then read_two_numbers read_number (λ x s1 u. and_then (read_two_numbers u) λ y v. cut_at x.0 x.1 s1 y.0 y.1 v) t
      ∙ pair_then read_number read_number (λ f c1 u. and_then (read_number u) λ s1 v. and_then (read_two_numbers v) λ y w. cut_at f c1 s1 y.0 y.1 w) t
      ∙ (λ i.
      and_then (read_number t) λ f t0. and_then (read_number t0) λ c1 t1. and_then (read_number t1) λ s1 t2.
      pair_then read_number read_number (cut_at f c1 s1) t2 i)
      ∙ (λ i.
      and_then (read_number t) λ f t0. and_then (read_number t0) λ c1 t1. and_then (read_number t1) λ s1 t2.
      and_then (read_number t2) λ c2 t3. and_then (read_number t3) λ s2 t4.
      pair_then read_bends (counted read_number) (λ bs ms u. got (bytes.cut_face_open f c1 s1 c2 s2 bs ms) u) t4 i)) h
