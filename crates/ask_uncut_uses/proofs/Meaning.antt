-- What the uses over rows and arrays tell of the sheet. Assumes nothing.
use Prim.Native.Nat.{ℕ}
use mathlib.Core.Path.{◌≡◌, refl, ap, ap₂, sym, ◌∙◌}
use mathlib.Core.List.{List, [], ◌∷◌, ◌++◌, append_assoc}
use mathlib.Core.Option.{some}
use native.Mathlib.Omega.{arith}
use lib.ListN.{length, take, drop, take-append-drop}
use lib.Seq.{take-append_seam, drop-append_seam}
use Rattle.complex.specs.Cells.{Cycle, Figure, vertex, open_edge, closed_edge, face, LiveCell, cycles_of as cyclesWith}
use Rattle.complex.specs.Uses.{all_cycles, cycle_uses, uses_of, Use as Used}
use Rattle.store.specs.declared.Drawing.{Drawing}
use Rattle.store.specs.declared.Index.{Index}
use Rattle.store.specs.Sizes.{Sizes}
use Rattle.store.specs.View.{sheet_of, Fits, cycle_total, cycles_from, cycle_count, width_sum}
use Rattle.store.specs.Places.{shape_of}
use Rattle.store.specs.Index.{Indexes}
use Rattle.rows_spans.proofs.Building.{cycles_append}
use Rattle.sound.proofs.Meaning.{ids_are, cycles_are}
use Rattle.sound.proofs.Parts.{id_row, cycle_row}
use Rattle.law_uncut.proofs.Held.{cycles_held, cycle_places}
use Rattle.ask_uncut_uses.specs.Uses.{row_uses, Faces}

count_same : (t : Figure) → cycle_count (shape_of t) ≡ length (cyclesWith (some t))
count_same (vertex p) = refl
count_same (open_edge a b bs) = refl
count_same (closed_edge bs) = refl
count_same (face ks) = refl

rows_uses : (e : ℕ) (cs : List LiveCell) (r : List Cycle) → row_uses e (id_row cs) (cycle_row cs) (all_cycles cs ++ r) ≡ uses_of cs e
rows_uses e [] r = refl
rows_uses e (c ∷ cs) r =
    let ks = cyclesWith (some c.figure) in
    let more = all_cycles cs ++ r in
    ap₂ (λ (n : ℕ) (l : List Cycle). cycle_uses e c.id 0 (take n l) ++ row_uses e (id_row cs) (cycle_row cs) (drop n l)) (count_same c.figure)
    (append_assoc ks (all_cycles cs) r)
    ∙ ap₂ (λ (a b : List Cycle). cycle_uses e c.id 0 a ++ row_uses e (id_row cs) (cycle_row cs) b) (take-append_seam ks more) (drop-append_seam ks more)
    ∙ ap (λ (l : List Used). cycle_uses e c.id 0 ks ++ l) (rows_uses e cs r)

pub uses_are : (d : Drawing) → Sizes d → Fits d → (ix : Index) → Indexes d ix → (e : ℕ)
    → row_uses e (take d.count ix.ids) (take d.count ix.cycles) (cycles_from d.cycles d.steps) ≡ uses_of (sheet_of d).cells e
uses_are d z f ix x e =
    let t = cycle_total d in
    let r = cycles_from (drop t d.cycles) (drop (width_sum (take t d.cycles)) d.steps) in
    ap₂ (λ (a b : List ℕ). row_uses e a b (cycles_from d.cycles d.steps)) (ids_are d z f ix x) (cycles_are d z f ix x)
    ∙ ap (row_uses e (id_row (sheet_of d).cells) (cycle_row (sheet_of d).cells))
    (ap (λ (l : List ℕ). cycles_from l d.steps) (sym (take-append-drop t d.cycles)) ∙ cycles_append (take t d.cycles) (drop t d.cycles) d.steps
    ∙ ap (λ (l : List Cycle). l ++ r) (cycles_held d z f))
    ∙ rows_uses e (sheet_of d).cells r

-- the arrays of a drawing and of its index
pub faces_are : (d : Drawing) → Sizes d → Fits d → (ix : Index) → Indexes d ix → Faces d.count ix.ids ix.cycles d.cycles d.steps
faces_are d y f ix x =
    let z = x.sizes in
    let e = cycle_places d ix x in
    let c = f.cycles in
    record {
      few = f.cells;
      ids = z.0;
      counts = z.5;
      cycles = y.cycles;
      steps = y.steps;
      cycles_fit = omega (arith, e, c);
      steps_fit = rw e f.steps;
    }
