-- `glue_vertices` meets its contract: questions 4 and 6, then every use of b becomes a, and b goes. Assumes nothing.
use native.Mathlib.Omega.{arith}
use Prim.Native.Nat.{ℕ}
use mathlib.Core.Path.{◌≡◌, refl, ap, ◌∙◌}
use lib.Dec.{eqb}
use lib.ListN.{get_or}
use Rattle.complex.specs.Lists.{one}
use Rattle.complex.specs.Edits.{rewired}
use Rattle.complex.specs.Glue.{renamed}
use Rattle.complex.specs.Decode.{glue_vertices}
use Rattle.sound.specs.Looks.{index_value}
use Rattle.answer.specs.declared.Totals.{Totals}
use Rattle.ask_glue.specs.Questions.{NumberRows, vertices_no}
use Rattle.ask_glue.proofs.Glued.{rows_of, Glues}
use Rattle.ask_glue.proofs.Vertices.{glue_no, glues_vertices}
use Rattle.lent.specs.Arrays.{Arrays, held_by, rows_by}
use Rattle.lent.specs.Sheets.{arrays}
use Rattle.lent.specs.Replies.{Ready}
use Rattle.lent.proofs.Sums.{ready_rows, ready_drawing, ready_sizes, ready_fits, ready_indexes, ready_cycles, ready_no}
use Rattle.kind_glue.proofs.Glue.{row_below, vertex_row, obeyed_glued}
use Rattle.answer.proofs.Questions.{all_yes, some_no}
use Rattle.lent.proofs.Refusals.{handed_on}
use Rattle.kind_glue.proofs.glue_vertices.Goals as goal

rows : (a : Arrays) (t : Totals) (y : Ready a t) → NumberRows a.ids a.kinds a.count
rows a t y = rows_of (held_by a) (ready_sizes a t y) (ready_drawing a t y) (rows_by a) (ready_indexes a t y) a.kinds y.long.kinds

goes : (a : Arrays) (t : Totals) (y : Ready a t) (p q n : ℕ)
    → n ≡ vertices_no (index_value 4 (held_by a) (rows_by a) a.kinds p) (index_value 4 (held_by a) (rows_by a) a.kinds q) (eqb p q) → n ≡ 0
    → Glues (held_by a) (glue_vertices p q) q (rewired (renamed p q) one)
goes a t y p q n e z = glues_vertices (held_by a) (ready_sizes a t y) (ready_drawing a t y) p q (rows_by a) (ready_indexes a t y) n e z

pub vertices_asked-requires : goal.vertices_asked-requires
vertices_asked-requires c = rows _ _ c.requires

pub returns-in_err-vertices_asked-clause-obeyed : goal.returns-in_err-vertices_asked-clause-obeyed
returns-in_err-vertices_asked-clause-obeyed c =
    let s = c.args in
    let a = arrays s.sheet.now in
    let y = c.requires in
    ready_no a s.t y (glue_vertices s.a s.b) _ _ (handed_on _ c.in_err-vertices_asked.was c.from_residual.ensures)
    (glue_no (held_by a) (ready_sizes a s.t y) (ready_drawing a s.t y) s.a s.b (rows_by a) (ready_indexes a s.t y)
    _ c.vertices_asked.ensures (some_no c.in_err-vertices_asked.was))

pub find-row-requires : goal.find-row-requires
find-row-requires c = let r = rows _ _ c.requires in record {
  n_bound = r.few;
  ids_len = r.id_rows;
  rising = r.rising;
}

pub rename_vertex-requires : goal.rename_vertex-requires
rename_vertex-requires c = let y = c.requires in record {
  fits = ready_fits _ _ y;
  lengths = y.long;
  by_value = ready_rows _ _ y;
  k_value = ready_cycles _ _ y;
}

pub drop_bare-requires : goal.drop_bare-requires
drop_bare-requires c =
    let s = c.args in
    let a = arrays s.sheet.now in
    let y = c.requires in
    let r = c.rename_vertex.ensures.renamed_in in
    let k = c.rename_vertex.ensures.kept in
    let n = c.vertices_asked in
    let live = (goes a s.t y s.a s.b _ n.ensures (all_yes c.in_ok-vertices_asked.was)).live in
    let own = vertex_row a s.t y s.b c.find-row.result c.find-row.ensures live s.a _ n.ensures (all_yes c.in_ok-vertices_asked.was) in record {
      fits = r.fits;
      lengths = r.long;
      by_value = r.rows;
      row_lt_count = omega (arith, ap (λ (u : Arrays). u.count) k, row_below a s.t y s.b c.find-row.result c.find-row.ensures live);
      row_value = ap (λ (u : Arrays). get_or u.bends c.find-row.result 0) k ∙ own.0;
      row_value_2 = ap (λ (u : Arrays). get_or u.counts c.find-row.result 0) k ∙ own.1;
    }

pub overflow_sub-removed : goal.overflow_sub-removed
overflow_sub-removed c = omega (arith, c.drop_bare.ensures.keeps.few, ap (λ (u : Arrays). u.count) c.rename_vertex.ensures.kept)

pub overflow_cast-removed : goal.overflow_cast-removed
overflow_cast-removed c = omega (arith, (ready_fits _ _ c.requires).cells)

pub returns-clause-obeyed : goal.returns-clause-obeyed
returns-clause-obeyed c =
    let s = c.args in
    let a = arrays s.sheet.now in
    let r = c.rename_vertex.ensures.renamed_in in
    obeyed_glued a s.t c.requires (glue_vertices s.a s.b) s.b (rewired (renamed s.a s.b) one)
    (goes a s.t c.requires s.a s.b _ c.vertices_asked.ensures (all_yes c.in_ok-vertices_asked.was)) c.find-row.result c.find-row.ensures
    (arrays c.rename_vertex.new.sheet) r.long r.fits r.sheet (arrays c.drop_bare.new.sheet) c.drop_bare.ensures.keeps
    (ap (λ (u : Arrays). u.next) c.drop_bare.ensures.kept ∙ ap (λ (u : Arrays). u.next) c.rename_vertex.ensures.kept) _ refl
