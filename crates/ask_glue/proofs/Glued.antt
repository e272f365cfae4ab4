-- One cell goes and the others change: the answer of the drawing that is made. Assumes nothing.
use Prim.Native.Nat.{ℕ}
use mathlib.Core.Path.{◌≡◌, ◌∙◌}
use mathlib.Core.Bool.{Bool, true, false}
use mathlib.Core.List.{List}
use lib.Dec.{T}
use lib.ListN.{length, take, set, replicate}
use Rattle.complex.specs.Cells.{Figure, cell_at, is_live}
use Rattle.complex.specs.Edits.{reshape, others}
use Rattle.complex.specs.Decode.{Command}
use Rattle.complex.specs.Commands.{result}
use Rattle.store.specs.declared.Drawing.{Drawing}
use Rattle.store.specs.declared.Index.{Index}
use Rattle.store.specs.Index.{Indexes, row_of}
use Rattle.store.specs.Sizes.{Sizes}
use Rattle.store.specs.View.{sheet_of, Fits}
use Rattle.store.specs.Edits.{kept, with_entries}
use Rattle.sound.specs.Soundness.{sound_drawing}
use Rattle.sound.proofs.Meaning.{sound_fits, looks}
use Rattle.rows_new.specs.Appends.{remade}
use Rattle.answer.proofs.Asked.{Asked}
use Rattle.rows_gone.proofs.Dropped.{dropped}
use Rattle.ask_glue.specs.Questions.{NumberRows}

-- ---- the rows of an index
pub rows_of : (d : Drawing) → Sizes d → T (sound_drawing d) → (ix : Index) → Indexes d ix → (vs : List ℕ) → length vs ≡ 256 → NumberRows ix.ids vs d.count
rows_of d z w ix x vs l = record { few = (sound_fits d w).cells; id_rows = x.sizes.0; value_rows = l; rising = (looks d z ix x w).rising }

-- the command c passes all questions, the cell b goes, and f changes the others
pub record Glues (d : Drawing) (c : Command) (b : ℕ) (f : ℕ → Figure → Figure) : Type 0 where
  pub asked : Asked d c 0
  pub live : is_live (cell_at (sheet_of d) b) ≡ true
  pub is : remade (others b) f (sheet_of d) ≡ result (sheet_of d) c

module _ (d : Drawing) (z : Sizes d) (w : T (sound_drawing d)) (c : Command) (b : ℕ) (f : ℕ → Figure
    → Figure) (g : Glues d c b f) (ix : Index) (x : Indexes d ix) (row : ℕ) (er : row ≡ row_of b (take d.count ix.ids))
    (mid : Drawing) (zm : Sizes mid) (gm : Fits mid) (em : sheet_of mid ≡ with_entries (sheet_of d) (reshape f (sheet_of d).cells))
    (dead : List Bool) (ed : dead ≡ set (replicate 256 false) row true)
    (out : Drawing) (eo : sheet_of out ≡ with_entries (sheet_of mid) (kept (take mid.count dead) (sheet_of mid).cells)) where
  pub glued_made : sheet_of out ≡ result (sheet_of d) c
  glued_made = dropped d z w ix x b row er g.live f mid zm gm em dead ed out eo ∙ g.is
