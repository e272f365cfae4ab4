-- A cycle of a script passes as its numbers do, and as the sheet has it. Assumes nothing.
use Rattle.std.specs.Prelude.{Option, Some, None}
use Prim.Native.Nat.{ℕ, zero, suc, ◌-◌, ◌<◌}
use native.Mathlib.Omega.{arith}
use mathlib.Core.Path.{◌≡◌, refl, sym, ap, ap₂, ◌∙◌, subst}
use mathlib.Core.Bool.{Bool, true, false, ◌&&◌, ◌||◌, cond}
use mathlib.Core.List.{List, [], ◌∷◌, map}
use lib.Dec.{eqb}
use lib.ListN.{length, get_or, length-map}
use lib.Seq.{take_all}
use borrow.Author.Tests.{eqb-true}
use Rattle.number.specs.Readers.{Read}
use Rattle.number.specs.Numbers.{read_number}
use Rattle.complex.specs.Lists.{all}
use Rattle.complex.specs.Cells.{Halfedge, Cycle, lone, path}
use Rattle.complex.specs.Decode.{step_of, read_cycle}
use Rattle.complex.proofs.Bools.{both_true}
use Rattle.store.specs.Places.{word}
use Rattle.store.specs.Edits.{places_of}
use Rattle.store.proofs.Lists.{places_of_some}
use Rattle.store.proofs.Encode.{halves}
use Rattle.sound.specs.Rows.{Rows, is_vertex_in, row_in, tail_in, head_in, goes_on, leads_in, is_closed_in, joins_in, cycle_good}
use Rattle.decode_parts.specs.Lists.{FieldAt, things_read, numbers_read, cycles_read, Reaches, Stand}
use Rattle.decode_parts.proofs.Rest.{Leaves}
use Rattle.decode_parts.proofs.Stands.{stand_length}
use Rattle.script.proofs.Steps.{one_stands, reach_field, field_list, Asking, asking_stop, asking_turn}
use Rattle.script.proofs.Cycles.{cycle_from, from_number, from_places, numbers_stand, cycle_is, cycle_reach}
use Rattle.ask_face_named.specs.Walks.{Valued, Rowed, Walked, edge_in, step_named, passes_in}
use Rattle.ask_face_named.proofs.Walking.{first_no_lem, first_yes}

and_none : (b : Bool) → b ≡ (b && true)
and_none true = refl
and_none false = refl

same_both : (u b : Bool) → b ≡ cond u b b
same_both true b = refl
same_both false b = refl

-- ---- what a walk says, by its result
module _ {A : Type 0} {r : List ℕ → Read A} {s : List ℕ} {at n : ℕ} {b : Bool} where
  pub walked_to : {w : Option ℕ} {next : ℕ} → Walked r s at n b w → w ≡ Some next → (b ≡ true) × Reaches r s at n next
  walked_to h e = (subst (Walked r s at n b) e h).says

  pub walked_no : {w : Option ℕ} → Walked r s at n b w → w ≡ None → b ≡ false
  walked_no h e = (subst (Walked r s at n b) e h).says

  -- the same of another list that ends where this one does
  pub walked_as : {C : Type 0} {q : List ℕ → Read C} {at' n' : ℕ} {b' : Bool} → b ≡ b' → ((next : ℕ) → Reaches r s at n next → Reaches q s at' n' next)
      → {w : Option ℕ} → Walked r s at n b w → Walked q s at' n' b' w
  walked_as e f {w = Some next} h = record { says = (sym e ∙ h.says.0, f next h.says.1) }
  walked_as e f {w = None} h = record { says = sym e ∙ h.says }

-- ---- a question about each thing of a list, asked of the first thing by itself
module _ {A : Type 0} (p : A → Bool) {r : List ℕ → Read A} {s : List ℕ} {at n place left : ℕ} {b : Bool}
    (a : Asking r s at n place left (all p) b) (L : Leaves r) (some : 0 < left) where
  one_answer : {x : A} {next : ℕ} → FieldAt r s place x next → p x ≡ all p (things_read r s place 1)
  one_answer {x} f = and_none (p x) ∙ sym (ap (all p) (field_list f))

  pub first_fails : all p (things_read r s place 1) ≡ false → false ≡ b
  first_fails e =
      let k = reach_field (one_stands a.walk.stand some L).reach in
      asking_stop a L some k.1 (λ xs. first_no_lem p k.0 xs (one_answer k.1 ∙ e))

  pub first_passes : {next : ℕ} → Reaches r s place 1 next → all p (things_read r s place 1) ≡ true → Asking r s at n next (left - 1) (all p) b
  first_passes h e = let k = reach_field h in asking_turn a L some k.1 (λ xs. first_yes p k.0 xs (one_answer k.1 ∙ e))

-- ---- one cycle, by its number of steps
module _ (t : Rows) where
  lone_passes : (names : Bool) (ns : List ℕ) → is_vertex_in t.ids t.kinds (get_or ns 0 0) ≡ passes_in t names (cycle_from 0 ns)
  lone_passes names ns = same_both names (is_vertex_in t.ids t.kinds (get_or ns 0 0))

  names_map : (ns : List ℕ) → all (step_named t.ids t.kinds) ns ≡ all (λ (h : Halfedge). edge_in t.ids t.kinds h.edge) (map step_of ns)
  names_map [] = refl
  names_map (n ∷ ns) = ap (λ (b : Bool). step_named t.ids t.kinds n && b) (names_map ns)

  joined : (m : ℕ) (ns : List ℕ) → length ns ≡ suc m → joins_in t ns ≡ passes_in t false (cycle_from (suc m) ns)
  joined m ns e =
      sym (ap₂ (cycle_good t) (from_number (suc m) ns e) (from_places (suc m) ns e) ∙ ap (joins_in t) (take_all (suc m) ns (omega arith)))

-- the cycle that begins at a place, with its number of steps there
module _ {s : List ℕ} {at m first : ℕ} (size : FieldAt read_number s at m first) where
  -- it ends where its numbers end
  reach_cycle : {n next : ℕ} → n ≡ places_of 1 m → Reaches read_number s first n next → Reaches read_cycle s at 1 next
  reach_cycle {next = next} e r =
      cycle_reach s at m first size.read next size.after (subst (λ (k : ℕ). Reaches read_number s first k next) e r)

  pub reach_lone : m ≡ 0 → (next : ℕ) → Reaches read_number s first 1 next → Reaches read_cycle s at 1 next
  reach_lone e next r = reach_cycle (ap (places_of 1) (sym e)) r

  pub reach_path : (m ≡ 0 → ⊥) → (next : ℕ) → Reaches read_number s first m next → Reaches read_cycle s at 1 next
  reach_path e next r = reach_cycle (sym (places_of_some 1 m e)) r

  module _ (stand : Stand read_cycle s at 1) where
    steps_stand : Stand read_number s first (places_of 1 m)
    steps_stand = numbers_stand s at m first size.read size.fits stand

    pub stands_one : m ≡ 0 → Stand read_number s first 1
    stands_one e = subst (λ (k : ℕ). Stand read_number s first (places_of 1 k)) e steps_stand

    pub stands_some : (m ≡ 0 → ⊥) → Stand read_number s first m
    stands_some e = subst (Stand read_number s first) (places_of_some 1 m e) steps_stand

    the_cycle : cycles_read s at 1 ≡ cycle_from m (numbers_read s first (places_of 1 m)) ∷ []
    the_cycle = cycle_is s at m first size.read steps_stand.end size.after steps_stand.reach

    module _ (t : Rows) (names : Bool) where
      whole : (r : Bool) → r ≡ passes_in t names (cycle_from m (numbers_read s first (places_of 1 m))) → r ≡ all (passes_in t names) (cycles_read s at 1)
      whole r e = e ∙ and_none (passes_in t names (cycle_from m (numbers_read s first (places_of 1 m)))) ∙ ap (all (passes_in t names)) (sym the_cycle)

      pub passes_lone : m ≡ 0 → (r : Bool) → r ≡ is_vertex_in t.ids t.kinds (get_or (numbers_read s first 1) 0 0)
          → r ≡ all (passes_in t names) (cycles_read s at 1)
      passes_lone e r q =
          whole r (q ∙ lone_passes t names (numbers_read s first 1)
          ∙ ap (λ (k : ℕ). passes_in t names (cycle_from k (numbers_read s first (places_of 1 k)))) (sym e))

      pub passes_named : (m ≡ 0 → ⊥) → names ≡ true → (r : Bool) → r ≡ all (step_named t.ids t.kinds) (numbers_read s first m)
          → r ≡ all (passes_in t names) (cycles_read s at 1)
      passes_named z e r q = whole r (q ∙ go m z ∙ ap (λ (u : Bool). passes_in t u (cycle_from m (numbers_read s first (places_of 1 m)))) (sym e))
        where
          go : (m : ℕ) → (m ≡ 0 → ⊥) → all (step_named t.ids t.kinds) (numbers_read s first m) ≡ passes_in t true
              (cycle_from m (numbers_read s first (places_of 1 m)))
          go zero z = absurd (z refl)
          go (suc m) z = names_map t (numbers_read s first (suc m))

      pub passes_joined : (z : m ≡ 0 → ⊥) → names ≡ false → (r : Bool) → r ≡ joins_in t (numbers_read s first m) → r ≡ all (passes_in t names) (cycles_read s at 1)
      passes_joined z e r q =
          whole r (q ∙ go m z (stand_length read_number s first m (stands_some z))
          ∙ ap (λ (u : Bool). passes_in t u (cycle_from m (numbers_read s first (places_of 1 m)))) (sym e))
        where
          go : (m : ℕ) → (m ≡ 0 → ⊥) → length (numbers_read s first m) ≡ m
              → joins_in t (numbers_read s first m) ≡ passes_in t false (cycle_from m (numbers_read s first (places_of 1 m)))
          go zero z l = absurd (z refl)
          go (suc m) z l = joined t m (numbers_read s first (suc m)) l

-- ---- a cycle that joins names vertices and edges
or_true : (b : Bool) → (b || true) ≡ true
or_true true = refl
or_true false = refl

module _ (t : Rows) where
  goes_named : (u s : ℕ) → goes_on t u s ≡ true → step_named t.ids t.kinds s ≡ true
  goes_named u s e =
      let k = get_or t.kinds (row_in t s) 4 in
      ap (λ (b : Bool). b || eqb k 2) (both_true (eqb k 1) (eqb u (tail_in t s)) e).0

  closed_named : (s : ℕ) → is_closed_in t s ≡ true → step_named t.ids t.kinds s ≡ true
  closed_named s e =
      let k = get_or t.kinds (row_in t s) 4 in
      ap (λ (b : Bool). eqb k 1 || b) e ∙ or_true (eqb k 1)

  leads_named : (u : ℕ) (ns : List ℕ) (w : ℕ) → leads_in t u ns w ≡ true → all (step_named t.ids t.kinds) ns ≡ true
  leads_named u [] w e = refl
  leads_named u (s ∷ ns) w e =
      let p = both_true (goes_on t u s) (leads_in t (head_in t s) ns w) e in
      ap₂ ◌&&◌ (goes_named u s p.0) (leads_named (head_in t s) ns w p.1)

  same_named : (s : ℕ) (ns : List ℕ) → step_named t.ids t.kinds s ≡ true → all (eqb s) ns ≡ true → all (step_named t.ids t.kinds) ns ≡ true
  same_named s [] h e = refl
  same_named s (x ∷ ns) h e =
      let p = both_true (eqb s x) (all (eqb s) ns) e in
      ap₂ ◌&&◌ (ap (step_named t.ids t.kinds) (sym (eqb-true s x p.0)) ∙ h) (same_named s ns h p.1)

  joins_named : (ns : List ℕ) → joins_in t ns ≡ true → all (step_named t.ids t.kinds) ns ≡ true
  joins_named [] e = refl
  joins_named (s ∷ ns) e = go (leads_in t (tail_in t s) (s ∷ ns) (tail_in t s)) refl e
    where
      closed : (is_closed_in t s && all (eqb s) ns) ≡ true → all (step_named t.ids t.kinds) (s ∷ ns) ≡ true
      closed f =
          let p = both_true (is_closed_in t s) (all (eqb s) ns) f in
          let h = closed_named s p.0 in
          ap₂ ◌&&◌ h (same_named s ns h p.1)

      go : (b : Bool) → leads_in t (tail_in t s) (s ∷ ns) (tail_in t s) ≡ b → (b || (is_closed_in t s && all (eqb s) ns)) ≡ true
          → all (step_named t.ids t.kinds) (s ∷ ns) ≡ true
      go true f g = leads_named (tail_in t s) (s ∷ ns) (tail_in t s) f
      go false f g = closed g

  cycle_named : (k : Cycle) → passes_in t false k ≡ true → passes_in t true k ≡ true
  cycle_named (lone v) e = e
  cycle_named (path []) e = refl
  cycle_named (path (h ∷ hs)) e =
      let l = length-map (h ∷ hs) word in
      let w = take_all (suc (length hs)) (map word (h ∷ hs)) (omega arith) in
      ap (all (λ (x : Halfedge). edge_in t.ids t.kinds x.edge)) (sym (halves (h ∷ hs)))
      ∙ sym (names_map t (map word (h ∷ hs)))
      ∙ joins_named (map word (h ∷ hs)) (ap (joins_in t) (sym w) ∙ e)

  pub cycles_named : (ks : List Cycle) → all (passes_in t false) ks ≡ true → all (passes_in t true) ks ≡ true
  cycles_named [] e = refl
  cycles_named (k ∷ ks) e =
      let p = both_true (passes_in t false k) (all (passes_in t false) ks) e in
      ap₂ ◌&&◌ (cycle_named k p.0) (cycles_named ks p.1)

-- ---- the arrays of rows, by their ids and kinds alone
pub rowed_valued : {n : ℕ} {is ks ss es : List ℕ} → Rowed n is ks ss es → Valued n is ks
rowed_valued p = record { few = p.few; ids = p.ids; values = p.kinds; rising = p.rising }
