-- The drawing that is left when two cells go, and its face with other cycles. Assumes nothing.
use Prim.Native.Nat.{ℕ}
use mathlib.Core.Path.{◌≡◌, ap, sym, subst, ◌∙◌}
use mathlib.Core.Bool.{Bool, true, cond}
use mathlib.Core.List.{List, []}
use mathlib.Core.Option.{none}
use lib.ListN.{take, set, replicate}
use mathlib.Core.Bool.{false}
use Rattle.complex.specs.Lists.{rising}
use Rattle.complex.specs.Cells.{face, LiveCell, Sheet, ids, cell_at, is_face}
use Rattle.complex.specs.Edits.{keep_ids, neither, replaced, rebuild, as_it_is, reshape}
use Rattle.complex.proofs.Lookup.{lookup_keep, rising_filter, kept_all, reshaped_none}
use Rattle.store.specs.declared.Drawing.{Drawing}
use Rattle.store.specs.declared.Index.{Index}
use Rattle.store.specs.Index.{Indexes, Rising}
use Rattle.store.specs.Sizes.{Sizes}
use Rattle.store.specs.View.{sheet_of, Fits}
use Rattle.store.specs.Edits.{kept, with_entries}
use Rattle.store.proofs.Stands.{ids_same}
use Rattle.sound.proofs.Meaning.{sound_fits, sound_sheet_lem, rising_is, sheet_rising}
use Rattle.rows_spans.specs.declared.Used.{Used}
use Rattle.rows_spans.specs.Building.{built}
use Rattle.rows_gone.proofs.Dropped.{remade_rebuild}
use Rattle.rows_gone.proofs.Both.{dropped_both}
use Rattle.rows_corners.specs.Faces.{Named, Roomy, recycled}
use Rattle.rows_reface.specs.Needs.{Refaced}

module _ (d : Drawing) (z : Sizes d) (i a j b f : ℕ) (counts : List ℕ) (u : Used) (steps : List ℕ) (w : Refaced d i a j b f counts u steps)
    (dead : List Bool) (ed : dead ≡ set (set (replicate 256 false) a true) b true)
    (mid : Drawing) (zm : Sizes mid) (fm : Fits mid) (em : sheet_of mid ≡ with_entries (sheet_of d) (kept (take d.count dead) (sheet_of d).cells)) where
  -- the sheet that is left
  left_is : sheet_of mid ≡ with_entries (sheet_of d) (keep_ids (neither i j) (sheet_of d).cells)
  left_is =
      dropped_both d z i a j b w.pair as_it_is d z (sound_fits d w.pair.sound) (ap (with_entries (sheet_of d)) (sym (reshaped_none (sheet_of d).cells))) dead
      ed mid em
      ∙ ap (with_entries (sheet_of d)) (reshaped_none (keep_ids (neither i j) (sheet_of d).cells))

  left_rises : Rising (ids (sheet_of mid).cells)
  left_rises =
      subst (λ (s : Sheet). Rising (ids s.cells)) (sym left_is)
      (rising_is (ids (keep_ids (neither i j) (sheet_of d).cells)) (sheet_of d).next
      (rising_filter (λ (c : LiveCell). neither i j c.id) 0 (sheet_of d).cells (sheet_of d).next (sheet_rising d (sound_sheet_lem d w.pair.sound))))

  -- the face is there
  pub left_named : (ix : Index) → Indexes mid ix → Named mid ix f
  left_named ix x =
      record {
        fits = fm;
        index = x;
        rising = subst Rising (sym (x.ids ∙ ids_same mid zm fm)) left_rises;
        face =
            ap (λ (s : Sheet). is_face (cell_at s f)) left_is
            ∙ ap is_face (lookup_keep (neither i j) (sheet_of d).cells f ∙ ap (λ (y : Bool). cond y (cell_at (sheet_of d) f) none) w.stays) ∙ w.face;
      }

  -- and with other cycles
  left_with : recycled (sheet_of mid) f (built counts u steps) ≡ rebuild (neither i j) (replaced f (face (built counts u steps))) [] (sheet_of d)
  left_with =
      let g = replaced f (face (built counts u steps)) in
      ap (λ (s : Sheet). recycled s f (built counts u steps)) left_is
      ∙ ap (λ (cs : List LiveCell). with_entries (sheet_of d) (reshape g cs)) (kept_all (keep_ids (neither i j) (sheet_of d).cells))
      ∙ remade_rebuild (neither i j) g (sheet_of d)

  pub left_room : Roomy (recycled (sheet_of mid) f (built counts u steps))
  left_room = subst Roomy (sym left_with) w.room

  pub refaced : (s : Sheet) → s ≡ recycled (sheet_of mid) f (built counts u steps)
      → s ≡ rebuild (neither i j) (replaced f (face (built counts u steps))) [] (sheet_of d)
  refaced s e = e ∙ left_with
