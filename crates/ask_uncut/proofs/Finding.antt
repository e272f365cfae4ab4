-- The case that the code finds in a drawing's arrays, and a no to questions 4 and 6. Assumes nothing.
use Prim.Native.Nat.{ℕ, zero, suc, ◌≤◌, ◌<◌}
use mathlib.Core.Path.{◌≡◌, refl, ap, ap₂, sym, ◌∙◌}
use mathlib.Core.Bool.{Bool, true, false, ◌||◌, cond}
use native.Mathlib.Omega.{arith}
use lib.Dec.{T, eqb}
use lib.ListN.{length, take}
use borrow.Author.Tests.{eq-eqb, ne_eqb}
use Rattle.number.specs.Said.{Said}
use Rattle.complex.specs.Lists.{total}
use Rattle.complex.specs.Cells.{cell_at, is_vertex, is_open, is_closed, is_edge, is_vertex_or_edge}
use Rattle.complex.specs.Uses.{lone_use, uses_of}
use Rattle.complex.specs.Uncut.{Uncut}
use Rattle.complex.proofs.Bools.{or_none}
use Rattle.store.specs.declared.Drawing.{Drawing}
use Rattle.store.specs.declared.Index.{Index}
use Rattle.store.specs.Index.{Indexes}
use Rattle.store.specs.Sizes.{Sizes}
use Rattle.store.specs.View.{sheet_of, cycles_from, width_sum}
use Rattle.store.specs.Edits.{places_of}
use Rattle.sound.specs.Soundness.{sound_drawing}
use Rattle.sound.specs.Looks.{index_value, Looks}
use Rattle.sound.proofs.Meaning.{sound_fits, looks, vertex_at, open_at, closed_at}
use Rattle.answer.proofs.Asked.{sound_in}
use Rattle.ask_uncut_uses.specs.declared.Uses.{Uses}
use Rattle.ask_uncut_turns.specs.Turns.{Rowed, turns_in}
use Rattle.ask_uncut_ends.specs.Ends.{ends_in, two_ends}
use Rattle.ask_uncut_uses.specs.Uses.{row_uses, uses_two}
use Rattle.ask_uncut_ends.specs.Cases.{ends_case}
use Rattle.ask_uncut.specs.Cases.{open_case, closed_case}
use Rattle.ask_uncut.proofs.Deciding.{open_case_lem, closed_case_lem}
use Rattle.law_uncut.proofs.Held.{cycle_places}
use Rattle.ask_uncut_turns.proofs.Meaning.{rows_in, rowed_is}
use Rattle.ask_uncut_ends.proofs.Meaning.{vertex_total}
use Rattle.ask_uncut_uses.proofs.Meaning.{uses_are}
use Rattle.ask_uncut.specs.Decided.{uncut_asked}
use Rattle.ask_uncut.proofs.Cases.{vertex_told, own_uses, open_told, closed_told}

module _ (d : Drawing) (z : Sizes d) (w : T (sound_drawing d)) (ix : Index) (x : Indexes d ix) where
  -- ---- a vertex
  module _ (v m : ℕ) (em : m ≡ total (places_of 0) (take d.count ix.cycles)) where
    pub vertex_asks : Rowed d.count ix.ids ix.kinds ix.starts ix.ends
        × ((length d.cycles ≡ 512) × ((length d.steps ≡ 2048) × ((m ≤ 512) × (width_sum (take m d.cycles) ≤ 2048))))
    vertex_asks =
        let f = sound_fits d w in
        let e = em ∙ cycle_places d ix x in
        (rowed_is d f ix x (looks d z ix x w), (z.cycles, (z.steps, (omega (arith, f.cycles), rw e f.steps))))

    pub vertex_found : is_vertex (cell_at (sheet_of d) v) ≡ true → (a : Said Uncut)
        → a ≡ ends_case (turns_in (rows_in d ix) true v (cycles_from (take m d.cycles) d.steps))
        (turns_in (rows_in d ix) false v (cycles_from (take m d.cycles) d.steps))
        (total (lone_use v) (cycles_from (take m d.cycles) d.steps))
        (two_ends (ends_in v (take d.count ix.ids) (take d.count ix.kinds) (take d.count ix.starts) (take d.count ix.ends)))
        → a ≡ uncut_asked (sheet_of d) v
    vertex_found k a e =
        vertex_told (sheet_of d) v k (ap (λ (b : Bool). b || is_edge (cell_at (sheet_of d) v)) k) a
        (e ∙ vertex_total d z (sound_fits d w) ix x (looks d z ix x w) v m (em ∙ cycle_places d ix x))

  -- ---- an edge
  module _ (e : ℕ) (u : Uses) (eu : u ≡ uses_two (row_uses e (take d.count ix.ids) (take d.count ix.cycles) (cycles_from d.cycles d.steps)))
      (g : is_edge (cell_at (sheet_of d) e) ≡ true) where
    uses_is : u ≡ uses_two (uses_of (sheet_of d).cells e)
    uses_is = eu ∙ ap uses_two (uses_are d z (sound_fits d w) ix x e)

    or_true : (b : Bool) → b || true ≡ true
    or_true true = refl
    or_true false = refl

    is_one_lem : is_vertex_or_edge (cell_at (sheet_of d) e) ≡ true
    is_one_lem = ap (λ (b : Bool). is_vertex (cell_at (sheet_of d) e) || b) g ∙ or_true (is_vertex (cell_at (sheet_of d) e))

    pub edge_found : (closed : Bool) → is_closed (cell_at (sheet_of d) e) ≡ closed → (a : Said Uncut) → a ≡ cond closed (closed_case u e) (open_case u e)
        → a ≡ uncut_asked (sheet_of d) e
    edge_found true k a q =
        closed_told (sheet_of d) e is_one_lem a k
        (q ∙ ap (λ (y : Uses). closed_case y e) uses_is ∙ closed_case_lem e (uses_of (sheet_of d).cells e) (own_uses (sheet_of d) (sound_in d w) e))
    edge_found false k a q =
        open_told (sheet_of d) e is_one_lem a
        (sym (or_none (is_open (cell_at (sheet_of d) e))) ∙ ap (λ (b : Bool). is_open (cell_at (sheet_of d) e) || b) (sym k) ∙ g)
        (q ∙ ap (λ (y : Uses). open_case y e) uses_is ∙ open_case_lem e (uses_of (sheet_of d).cells e) (own_uses (sheet_of d) (sound_in d w) e))

-- ---- the kind of the cell i, by its number k
edge_number : (k : ℕ) → (k ≡ 0 → ⊥) → k ≤ 2 → eqb k 1 || eqb k 2 ≡ true
edge_number zero n h = absurd (n refl)
edge_number (suc zero) n h = refl
edge_number (suc (suc zero)) n h = refl
edge_number (suc (suc (suc k))) n h = absurd (omega (arith, h))

module _ (d : Drawing) (ix : Index) (L : Looks d ix) (i k : ℕ) (e : k ≡ index_value 4 d ix ix.kinds i) where
  open_is : eqb k 1 ≡ is_open (cell_at (sheet_of d) i)
  open_is = ap (λ (n : ℕ). eqb n 1) e ∙ open_at L i

  pub closed_is : eqb k 2 ≡ is_closed (cell_at (sheet_of d) i)
  closed_is = ap (λ (n : ℕ). eqb n 2) e ∙ closed_at L i

  pub is_vertex_lem : k ≡ 0 → is_vertex (cell_at (sheet_of d) i) ≡ true
  is_vertex_lem q = sym (vertex_at L i) ∙ eq-eqb _ 0 (sym e ∙ q)

  pub is_edge_lem : (k ≡ 0 → ⊥) → k ≤ 2 → is_edge (cell_at (sheet_of d) i) ≡ true
  is_edge_lem n h = sym (ap₂ ◌||◌ open_is closed_is) ∙ edge_number k n h

  pub is_neither : 2 < k → is_vertex_or_edge (cell_at (sheet_of d) i) ≡ false
  is_neither h =
      ap₂ ◌||◌ (sym (vertex_at L i) ∙ ap (λ (n : ℕ). eqb n 0) (sym e) ∙ ne_eqb k 0 (λ q. omega (arith, h, q)))
      (ap₂ ◌||◌ (sym open_is ∙ ne_eqb k 1 (λ q. omega (arith, h, q))) (sym closed_is ∙ ne_eqb k 2 (λ q. omega (arith, h, q))))
