-- The corners of a face's cycles: where they stand in the arrays, and their vertices. Assumes nothing.
use Prim.Native.Nat.{ℕ, zero, suc, ◌+◌, ◌/◌, ◌%◌, ◌<◌, ◌≤◌}
use mathlib.Core.Path.{◌≡◌, ap, ap₂, sym, subst, ◌∙◌}
use mathlib.Core.Bool.{cond}
use mathlib.Core.List.{List, map}
use native.Mathlib.Omega.{arith}
use borrow.Author.Tests.{eqb-true, ne_eqb}
use lib.Dec.{T, eqb, ltb, ltb→lt}
use lib.ListN.{length, take, drop, get_or, length-map, length-drop, get_or-map}
use lib.Seq.{length-take-le, get_or-take, get_or-drop}
use Rattle.complex.specs.Cells.{Cycle, Look, cell_at, is_open, tail_of}
use Rattle.complex.specs.Cells as cells
use Rattle.complex.specs.Cut.{no_cycle, no_step, corner, corner_exists}
use Rattle.complex.proofs.Bools.{true_of, both}
use Rattle.store.specs.declared.Drawing.{Drawing}
use Rattle.store.specs.declared.Index.{Index}
use Rattle.store.specs.Sizes.{Sizes}
use Rattle.store.specs.View.{sheet_of, halfedge_of, width, cycle_of}
use Rattle.sound.specs.Looks.{Looks}
use Rattle.sound.specs.Soundness.{sound_drawing}
use Rattle.sound.proofs.Meaning.{looks}
use Rattle.rows_spans.specs.declared.Spans.{Spans}
use Rattle.rows_corners.specs.Faces.{Named, Spanned}
use Rattle.rows_corners.specs.Arcs.{corner_vertex}
use Rattle.rows_corners.proofs.Lists.{at_length}
use Rattle.rows_split.specs.declared.Place.{Place}
use Rattle.rows_split.specs.Parts.{place_of, cycle_at, Cornered}
use Rattle.rows_split.proofs.Places.{steps_within, place_room, place_cycle}

-- a corner that exists has a number below the cycle's width
corner_width : (look : Look) (m s : ℕ) (st : List ℕ) → m ≤ length st → T (corner_exists look (cycle_of m st) s) → s < width m
corner_width look zero s st h x = let e = eqb-true s 0 (true_of (eqb s 0) x) in omega arith
corner_width look (suc m) s st h x =
    let hs = map halfedge_of (take (suc m) st) in
    let a = ltb→lt s (length hs) (both (ltb s (length hs)) (is_open (look (get_or hs s no_step).edge)) x).0 in
    let l = length-map (take (suc m) st) halfedge_of ∙ length-take-le (suc m) st h in
    omega arith

-- the vertex of a corner, by the rows of an index
corner_is : (d : Drawing) (ix : Index) → Looks d ix → (steps : List ℕ) (at s m : ℕ) → s < width m
    → corner_vertex ix d.count m steps at s ≡ corner (cell_at (sheet_of d)) (cycle_of m (drop at steps)) s
corner_is d ix l steps at s zero h = let n : at ≡ at + 0 = omega arith in ap (λ (k : ℕ). get_or steps k 0) n ∙ sym (get_or-drop at steps 0 0)
corner_is d ix l steps at s (suc m) h =
    let x = get_or steps (at + s) 0 in
    let e : get_or (take (suc m) (drop at steps)) s 0 ≡ x = get_or-take (suc m) (drop at steps) s 0 h ∙ get_or-drop at steps s 0 in
    rw (ne_eqb (suc m) 0 (λ q. omega arith))
    (ap₂ (λ (a b : ℕ). cond (eqb (x % 2) 1) a b) (l.ends (x / 2)) (l.starts (x / 2))
    ∙ ap (tail_of (cell_at (sheet_of d))) (sym (get_or-map halfedge_of (take (suc m) (drop at steps)) s 0 ∙ ap halfedge_of e)))

-- ---- a corner of a face
module _ {d : Drawing} {ix : Index} {f : ℕ} {t : Spans} (z : Sizes d) (w : T (sound_drawing d)) (n : Named d ix f) (s : Spanned d f t) where
  abbrev ks : List Cycle
  ks = cells.cycles_of (cell_at (sheet_of d) f)

  pub cycles_count : t.cycles.count ≡ length ks
  cycles_count = sym (at_length d.cycles d.steps t s.within) ∙ ap length s.list

  module _ (c : ℕ) (h : c < length ks) where
    in_span : c < t.cycles.count
    in_span = let e = cycles_count in omega arith

    own_is : get_or ks c no_cycle ≡ cycle_at d.steps (place_of d.cycles t c)
    own_is = ap (λ (l : List Cycle). get_or l c no_cycle) (sym s.list) ∙ place_cycle d.cycles d.steps t s.within c in_span

    module _ (k : ℕ) (x : T (corner_exists (cell_at (sheet_of d)) (get_or ks c no_cycle) k)) {p : Place} (e : p ≡ place_of d.cycles t c) where
      own_at : get_or ks c no_cycle ≡ cycle_at d.steps p
      own_at = own_is ∙ ap (cycle_at d.steps) (sym e)

      room_at : p.at + width p.m ≤ 2048
      room_at = subst (λ (q : Place). q.at + width q.m ≤ 2048) (sym e) (place_room d.cycles d.steps t s.within c in_span)

      below_width : k < width p.m
      below_width =
          corner_width (cell_at (sheet_of d)) p.m k (drop p.at d.steps)
          (omega (arith, length-drop p.at d.steps, steps_within d.steps z.steps p room_at))
          (subst (λ (y : Cycle). T (corner_exists (cell_at (sheet_of d)) y k)) own_at x)

      pub cornered : Cornered d.cycles d.steps t c p k
      cornered = record { within = s.within; cycle = in_span; place = e; corner = below_width }

      pub vertex_is : (v : ℕ) → v ≡ corner_vertex ix d.count p.m d.steps p.at k → v ≡ corner (cell_at (sheet_of d)) (get_or ks c no_cycle) k
      vertex_is v g = g ∙ corner_is d ix (looks d z ix n.index w) d.steps p.at k p.m below_width
          ∙ ap (λ (y : Cycle). corner (cell_at (sheet_of d)) y k) (sym own_at)
