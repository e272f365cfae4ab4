-- What a command's fields, read or not there, say of the command. Assumes nothing.
use Rattle.std.specs.Prelude.{Option, Some, None}
use mathlib.Core.Path.{◌≡◌, refl, sym, ap, ◌∙◌, subst}
use mathlib.Core.List.{List}
use Prim.Native.Nat.{ℕ}
use lib.ListN.{drop}
use Rattle.number.specs.Readers.{Read, got, bad, and_then}
use Rattle.number.specs.Said.{done, no}
use Rattle.number.specs.Numbers.{read_number}
use Rattle.coordinate.specs.declared.Position.{Position}
use Rattle.coordinate.specs.Positions.{read_position}
use Rattle.complex.specs.Cells.{Figure}
use Rattle.complex.specs.Decode.{read_create, read_two, read_place, read_glue_edges, glue_edges, edit}
use Rattle.complex.specs.Decode as bytes
use Rattle.decode_parts.specs.Lists.{Found}
use Rattle.decode_fields.specs.Fields.{read_pair, read_two_numbers, read_three_numbers}
use Rattle.decode_fields.proofs.Pairs.{pair_then}
use Rattle.decode_command.specs.declared.Command.{Command}
use Rattle.decode_command.specs.View.{order_of, ListsLie, Decodes, Is}

-- a command that is read is an edit
abbrev pub edited : Read bytes.Command → Read bytes.Order
edited q = and_then q λ c t. got (edit c) t

-- a command that f makes of what r reads
module _ {A : Type 0} {r : List ℕ → Read A} {s : List ℕ} {at : ℕ} (f : A → bytes.Command) where
  pub unread : Found r s at (no 2) → Decodes s at (edited (and_then (r (drop at s)) λ x t. got (f x) t)) None
  unread h = let e = h.is.1 in record { answer = rw e; ends = tt }

  pub whole : {x : A} {next : ℕ} → Found r s at (done (x, next)) → (c : Command) → order_of s c ≡ edit (f x) → ListsLie s c
      → Decodes s at (edited (and_then (r (drop at s)) λ x t. got (f x) t)) (Some (c, next))
  whole {x} {next} h c e l =
      let g = h.is in
      record {
        answer = rw g.read (ap (λ (m : bytes.Order). done (m, drop next s)) e);
        ends = record { after = g.after; fits = g.fits; lists = l };
      }

  pub made : {x : A} {next : ℕ} → Found r s at (done (x, next)) → {c : Command} → Is c (f x)
      → Decodes s at (edited (and_then (r (drop at s)) λ x t. got (f x) t)) (Some (c, next))
  made h {c} m = whole h c (m.order s) (m.lists s)

-- a command that is known, and has no list
pub alone : {c d : Command} {k : bytes.Command} → c ≡ d → ((s : List ℕ) → order_of s d ≡ edit k) → ((s : List ℕ) → ListsLie s d) → Is c k
alone {k = k} e o l = subst (λ (x : Command). Is x k) (sym e) (record { order = o; lists = l })

-- ---- the same by the definition of each kind
-- a reader may be put for an equal one
pub read_as_lem : {s : List ℕ} {at : ℕ} {q p : Read bytes.Command} {d : Option (Command × ℕ)} → q ≡ p → Decodes s at (edited q) d → Decodes s at (edited p) d
read_as_lem {s} {at} {d = d} e h = subst (λ (q : Read bytes.Command). Decodes s at (edited q) d) e h

pub of_create : {A : Type 0} (r : List ℕ → Read A) (f : A → Figure) {s : List ℕ} {at : ℕ} {d : Option (Command × ℕ)}
    → Decodes s at (edited (and_then (r (drop at s)) λ x u. got (bytes.create (f x)) u)) d
    → Decodes s at (edited (read_create (λ t. and_then (r t) λ x u. got (f x) u) (drop at s))) d
of_create {A} r f {s} {at} h = read_as_lem (go (r (drop at s))) h
  where
    go : (q : Read A) → and_then q (λ x u. got (bytes.create (f x)) u) ≡ and_then (and_then q λ x u. got (f x) u) λ y u. got (bytes.create y) u
    go (got x u) = refl
    go bad = refl

pub of_two : (k : ℕ → ℕ → bytes.Command) {s : List ℕ} {at : ℕ} {d : Option (Command × ℕ)}
    → Decodes s at (edited (and_then (read_two_numbers (drop at s)) λ p u. got (k p.0 p.1) u)) d → Decodes s at (edited (read_two k (drop at s))) d
of_two k {s} {at} h = read_as_lem (pair_then read_number read_number (λ a b u. got (k a b) u) (drop at s)) h

pub of_place : (k : ℕ → Position → bytes.Command) {s : List ℕ} {at : ℕ} {d : Option (Command × ℕ)}
    → Decodes s at (edited (and_then (read_pair read_number read_position (drop at s)) λ p u. got (k p.0 p.1) u)) d
    → Decodes s at (edited (read_place k (drop at s))) d
of_place k {s} {at} h = read_as_lem (pair_then read_number read_position (λ n p u. got (k n p) u) (drop at s)) h

pub of_three : {s : List ℕ} {at : ℕ} {d : Option (Command × ℕ)}
    → Decodes s at (edited (and_then (read_three_numbers (drop at s)) λ p u. got (glue_edges p.0.0 p.0.1 p.1) u)) d
    → Decodes s at (edited (read_glue_edges (drop at s))) d
of_three {s} {at} h =
    read_as_lem
    (pair_then read_two_numbers read_number (λ p f u. got (glue_edges p.0 p.1 f) u) (drop at s)
    ∙ pair_then read_number read_number (λ a b u. and_then (read_number u) λ f v. got (glue_edges a b f) v) (drop at s)) h
