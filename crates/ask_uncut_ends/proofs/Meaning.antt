-- What the ends over rows tell of the sheet. Assumes nothing.
use Prim.Native.Nat.{ℕ}
use mathlib.Core.Path.{◌≡◌, refl, ap₂, sym, ◌∙◌}
use mathlib.Core.Bool.{Bool, true, false}
use mathlib.Core.List.{List, [], ◌∷◌, ◌++◌}
use lib.ListN.{take}
use Rattle.complex.specs.Lists.{any, total}
use Rattle.complex.specs.Cells.{Halfedge, Figure, vertex, open_edge, closed_edge, face, LiveCell}
use Rattle.complex.specs.Uses.{passages_at, figure_ends, ends_at, lone_use, uses_by}
use Rattle.complex.specs.Uncut.{uncut_vertex}
use Rattle.store.specs.declared.Drawing.{Drawing}
use Rattle.store.specs.declared.Index.{Index}
use Rattle.store.specs.Sizes.{Sizes}
use Rattle.store.specs.View.{sheet_of, Fits, cycle_total, cycles_from}
use Rattle.store.specs.Places.{shape_of}
use Rattle.store.specs.Index.{Indexes, kind_of, shape_start, shape_end}
use Rattle.rows_uses.proofs.Dealing.{uses_held}
use Rattle.sound.specs.Looks.{Looks}
use Rattle.sound.proofs.Meaning.{ids_are, kinds_are, starts_are, ends_are}
use Rattle.sound.proofs.Parts.{id_row, kind_row, start_row, end_row}
use Rattle.law_uncut.specs.Said.{uncut_said}
use Rattle.ask_uncut_turns.specs.Turns.{turns_back, turns_in}
use Rattle.ask_uncut_turns.proofs.Meaning.{rows_in, turns_are}
use Rattle.ask_uncut_ends.specs.Ends.{row_ends, ends_in, two_ends}
use Rattle.ask_uncut_ends.specs.Cases.{ends_case}
use Rattle.ask_uncut_ends.proofs.Deciding.{vertex_case}

-- the ends of a row are those of its cell
row_ends_lem : (v i : ℕ) (t : Figure) → row_ends v i (kind_of (shape_of t)) (shape_start (shape_of t)) (shape_end (shape_of t)) ≡ figure_ends v i t
row_ends_lem v i (vertex p) = refl
row_ends_lem v i (open_edge a b bs) = refl
row_ends_lem v i (closed_edge bs) = refl
row_ends_lem v i (face ks) = refl

rows_ends : (v : ℕ) (cs : List LiveCell) → ends_in v (id_row cs) (kind_row cs) (start_row cs) (end_row cs) ≡ ends_at cs v
rows_ends v [] = refl
rows_ends v (c ∷ cs) = ap₂ ◌++◌ (row_ends_lem v c.id c.figure) (rows_ends v cs)

-- the ends at v
pub all_ends : (d : Drawing) → Sizes d → Fits d → (ix : Index) → Indexes d ix → (v : ℕ)
    → ends_in v (take d.count ix.ids) (take d.count ix.kinds) (take d.count ix.starts) (take d.count ix.ends)
    ≡ ends_at (sheet_of d).cells v
all_ends d z f ix x v =
    ap₂ (λ (a b : List ℕ). ends_in v a b (take d.count ix.starts) (take d.count ix.ends)) (ids_are d z f ix x) (kinds_are d z f ix x)
    ∙ ap₂ (λ (a b : List ℕ). ends_in v (id_row (sheet_of d).cells) (kind_row (sheet_of d).cells) a b) (starts_are d z f ix x) (ends_are d z f ix x)
    ∙ rows_ends v (sheet_of d).cells

-- the lone cycles of v
pub lones_are : (d : Drawing) → Sizes d → Fits d → (v : ℕ)
    → total (lone_use v) (cycles_from (take (cycle_total d) d.cycles) d.steps) ≡ uses_by (lone_use v) (sheet_of d).cells
lones_are d z f v = sym (uses_held d z f (lone_use v))

-- the case of a vertex
pub vertex_is : (d : Drawing) → Sizes d → Fits d → (ix : Index) → Indexes d ix → Looks d ix → (v : ℕ)
    → ends_case (turns_in (rows_in d ix) true v (cycles_from (take (cycle_total d) d.cycles) d.steps))
    (turns_in (rows_in d ix) false v (cycles_from (take (cycle_total d) d.cycles) d.steps))
    (total (lone_use v) (cycles_from (take (cycle_total d) d.cycles) d.steps))
    (two_ends (ends_in v (take d.count ix.ids) (take d.count ix.kinds) (take d.count ix.starts) (take d.count ix.ends)))
    ≡ uncut_said (uncut_vertex (passages_at (sheet_of d).cells v) (uses_by (lone_use v) (sheet_of d).cells) (ends_at (sheet_of d).cells v))
vertex_is d z f ix x k v =
    let cs = (sheet_of d).cells in
    ap₂ (λ (a b : Bool). ends_case a b (total (lone_use v) (cycles_from (take (cycle_total d) d.cycles) d.steps))
    (two_ends (ends_in v (take d.count ix.ids) (take d.count ix.kinds) (take d.count ix.starts) (take d.count ix.ends))))
    (turns_are k z f true v) (turns_are k z f false v)
    ∙ ap₂ (λ (n : ℕ) (l : List Halfedge). ends_case (any (turns_back true) (passages_at cs v)) (any (turns_back false) (passages_at cs v)) n (two_ends l))
    (lones_are d z f v) (all_ends d z f ix x v)
    ∙ vertex_case (passages_at cs v) (uses_by (lone_use v) cs) (ends_at cs v)

-- the same, for a number of cycles that the code has
pub vertex_total : (d : Drawing) → Sizes d → Fits d → (ix : Index) → Indexes d ix → Looks d ix → (v m : ℕ) → m ≡ cycle_total d
    → ends_case (turns_in (rows_in d ix) true v (cycles_from (take m d.cycles) d.steps))
    (turns_in (rows_in d ix) false v (cycles_from (take m d.cycles) d.steps))
    (total (lone_use v) (cycles_from (take m d.cycles) d.steps))
    (two_ends (ends_in v (take d.count ix.ids) (take d.count ix.kinds) (take d.count ix.starts) (take d.count ix.ends)))
    ≡ uncut_said (uncut_vertex (passages_at (sheet_of d).cells v) (uses_by (lone_use v) (sheet_of d).cells) (ends_at (sheet_of d).cells v))
vertex_total d z f ix x k v m e = rw e (vertex_is d z f ix x k v)
