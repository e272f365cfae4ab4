-- A vertex that goes with its one lone cycle: the face that has it, and the sheet without both. Assumes nothing.
use Prim.Native.Nat.{ℕ, suc, ◌+◌, ◌-◌, ◌<◌, ◌≤◌}
use mathlib.Core.Path.{◌≡◌, refl, ap, ap₂, sym, subst, ◌∙◌}
use mathlib.Core.Bool.{Bool, true, false, not, ◌&&◌, ◌||◌, cond, false≢true}
use mathlib.Core.List.{List, [], ◌∷◌, ◌++◌}
use mathlib.Core.Option.{some}
use native.Mathlib.Omega.{arith}
use lib.Dec.{T, eqb, ltb, ltb→lt}
use lib.ListN.{length, get_or}
use borrow.Author.Tests.{eq-eqb, ne_eqb, eqb-true, eqb-false, lt-ltb, le-ltb}
use Rattle.complex.specs.Lists.{cons_if, filter, total, one, rising, without}
use Rattle.coordinate.specs.declared.Position.{Position}
use Rattle.complex.specs.Cells.{Cycle, lone, path, Figure, vertex, open_edge, closed_edge, face, LiveCell, Sheet, lookup, cell_at, some_if, ids, cycles_of, is_face}
use Rattle.complex.specs.Edits.{keep_ids, reshape, rebuild, others, neither, replaced}
use Rattle.complex.specs.Uses.{lone_use, uses_by, all_cycles}
use Rattle.complex.specs.Uncut.{is_lone, without_lone, lonely, uncut_result}
use Rattle.complex.proofs.Bools.{both as parts}
use Rattle.store.specs.View.{cycle_count}
use Rattle.store.specs.Places.{shape_of}
use Rattle.sound.proofs.Parts.{cycle_row}
use Rattle.ask_uncut_lone.specs.declared.Held.{Held}
use Rattle.ask_uncut_lone.specs.Lone.{lone_place, rows_on, holding}

module _ (v : ℕ) where
  abbrev stays : Cycle → Bool
  stays k = not (is_lone v k)

  use_is : (k : Cycle) → lone_use v k ≡ cond (is_lone v k) 1 0
  use_is (lone w) = refl
  use_is (path hs) = refl

  -- ---- cycles without a lone cycle of v
  quiet : (ks : List Cycle) → total (lone_use v) ks ≡ 0 → filter stays ks ≡ ks
  quiet [] z = refl
  quiet (k ∷ ks) z = go (is_lone v k) (use_is k) (quiet ks)
    where
      go : (b : Bool) → lone_use v k ≡ cond b 1 0 → (total (lone_use v) ks ≡ 0 → filter stays ks ≡ ks) → cons_if (not b) k (filter stays ks) ≡ k ∷ ks
      go true u ih = absurd (omega arith)
      go false u ih = ap (λ (l : List Cycle). k ∷ l) (ih (omega arith))

  place_after_lem : (ks r : List Cycle) → total (lone_use v) ks ≡ 0 → lone_place v (ks ++ r) ≡ length ks + lone_place v r
  place_after_lem [] r z = omega arith
  place_after_lem (k ∷ ks) r z = go (is_lone v k) (use_is k) (place_after_lem ks r)
    where
      go : (b : Bool) → lone_use v k ≡ cond b 1 0 → (total (lone_use v) ks ≡ 0 → lone_place v (ks ++ r) ≡ length ks + lone_place v r)
          → cond b 0 (suc (lone_place v (ks ++ r))) ≡ suc (length ks) + lone_place v r
      go true u ih = absurd (omega arith)
      go false u ih = let e = ih (omega arith) in omega arith

  -- ---- cycles with one
  place_in : (ks r : List Cycle) → total (lone_use v) ks ≡ 1 → (lone_place v (ks ++ r) ≡ lone_place v ks) × (lone_place v ks < length ks)
  place_in [] r z = absurd (omega arith)
  place_in (k ∷ ks) r z = go (is_lone v k) (use_is k) (place_in ks r)
    where
      go : (b : Bool) → lone_use v k ≡ cond b 1 0 → (total (lone_use v) ks ≡ 1 → (lone_place v (ks ++ r) ≡ lone_place v ks) × (lone_place v ks < length ks))
          → (cond b 0 (suc (lone_place v (ks ++ r))) ≡ cond b 0 (suc (lone_place v ks))) × (cond b 0 (suc (lone_place v ks)) < suc (length ks))
      go true u ih = (refl, omega arith)
      go false u ih = let i = ih (omega arith) in (ap suc i.0, omega (arith, i.1))

  -- nothing more is left out
  past : (c n : ℕ) (ks : List Cycle) → c < n → without (one c) n ks ≡ ks
  past c n [] h = refl
  past c n (k ∷ ks) h = ap₂ (λ (b : Bool) (l : List Cycle). cons_if (not (b || false)) k l) (ne_eqb n c (λ e. omega arith)) (past c (suc n) ks (omega arith))

  left_out : (n : ℕ) (ks : List Cycle) → total (lone_use v) ks ≡ 1 → filter stays ks ≡ without (one (n + lone_place v ks)) n ks
  left_out n [] z = absurd (omega arith)
  left_out n (k ∷ ks) z = go (is_lone v k) (use_is k) (left_out (suc n) ks)
    where
      go : (b : Bool) → lone_use v k ≡ cond b 1 0 → (total (lone_use v) ks ≡ 1 → filter stays ks ≡ without (one (suc n + lone_place v ks)) (suc n) ks)
          → cons_if (not b) k (filter stays ks)
          ≡ cons_if (not (eqb n (n + cond b 0 (suc (lone_place v ks))) || false)) k (without (one (n + cond b 0 (suc (lone_place v ks)))) (suc n) ks)
      go true u ih =
          quiet ks (omega arith) ∙ sym (past (n + 0) (suc n) ks (omega arith))
          ∙ ap (λ (b : Bool). cons_if (not (b || false)) k (without (one (n + 0)) (suc n) ks)) (sym (eq-eqb n (n + 0) (omega arith)))
      go false u ih =
          let e : suc n + lone_place v ks ≡ n + suc (lone_place v ks) = omega arith in
          ap (λ (l : List Cycle). k ∷ l) (ih (omega arith) ∙ ap (λ (c : ℕ). without (one c) (suc n) ks) e)
          ∙ ap (λ (b : Bool). cons_if (not (b || false)) k (without (one (n + suc (lone_place v ks))) (suc n) ks))
          (sym (ne_eqb n (n + suc (lone_place v ks)) (λ q. omega arith)))

  without_one : (ks : List Cycle) → total (lone_use v) ks ≡ 1 → filter stays ks ≡ without (one (lone_place v ks)) 0 ks
  without_one ks z = let e : 0 + lone_place v ks ≡ lone_place v ks = omega arith in left_out 0 ks z ∙ ap (λ (c : ℕ). without (one c) 0 ks) e

  -- ---- cells
  abbrev used : Figure → ℕ
  used x = total (lone_use v) (cycles_of (some x))

  quiet_figure : (i : ℕ) (x : Figure) → used x ≡ 0 → without_lone v i x ≡ x
  quiet_figure i (vertex p) z = refl
  quiet_figure i (open_edge a b bs) z = refl
  quiet_figure i (closed_edge bs) z = refl
  quiet_figure i (face ks) z = ap face (quiet ks z)

  same_cell : (g h : ℕ → Figure → Figure) (p : ℕ → Bool) (c : LiveCell) (cs : List LiveCell) → g c.id c.figure ≡ h c.id c.figure
      → reshape g (keep_ids p cs) ≡ reshape h (keep_ids p cs)
      → reshape g (keep_ids p (c ∷ cs)) ≡ reshape h (keep_ids p (c ∷ cs))
  same_cell g h p c cs e r = go (p c.id)
    where
      go : (b : Bool) → reshape g (cons_if b c (keep_ids p cs)) ≡ reshape h (cons_if b c (keep_ids p cs))
      go true = ap₂ (λ (x : Figure) (l : List LiveCell). record { id = c.id; figure = x } ∷ l) e r
      go false = r

  -- no cell has a lone cycle of v, and none is f
  quiet_cells : (f : ℕ) (y : Figure) (p : ℕ → Bool) (lo : ℕ) (cs : List LiveCell) (hi : ℕ) → T (rising lo (ids cs) hi) → f ≤ lo → uses_by (lone_use v) cs ≡ 0
      → reshape (without_lone v) (keep_ids p cs) ≡ reshape (replaced f y) (keep_ids p cs)
  quiet_cells f y p lo [] hi r h z = refl
  quiet_cells f y p lo (c ∷ cs) hi r h z =
      let b = parts (ltb lo c.id) (rising c.id (ids cs) hi) r in
      let l = ltb→lt lo c.id b.0 in
      same_cell (without_lone v) (replaced f y) p c cs
      (quiet_figure c.id c.figure (omega arith) ∙ ap (λ (t : Bool). cond t y c.figure) (sym (ne_eqb f c.id (λ e. omega arith))))
      (quiet_cells f y p c.id cs hi b.1 (omega arith) (omega arith))

  -- ---- the cell whose cycles hold the lone cycle of v
  pub record Found (lo : ℕ) (cs : List LiveCell) (h : Held) : Type 0 where
    pub cycles : List Cycle
    pub row_in : h.row < length cs
    pub above : lo < get_or (ids cs) h.row 0
    pub figure : lookup cs (get_or (ids cs) h.row 0) ≡ some (face cycles)
    pub place_in_lem : h.place < length cycles
    pub cells : (p : ℕ → Bool)
        → reshape (without_lone v) (keep_ids p cs) ≡ reshape (replaced (get_or (ids cs) h.row 0) (face (without (one h.place) 0 cycles))) (keep_ids p cs)

  -- in the first cell
  found_here : (lo i : ℕ) (ks : List Cycle) (cs : List LiveCell) (hi : ℕ) → T (rising lo (i ∷ ids cs) hi) → total (lone_use v) ks ≡ 1 → uses_by (lone_use v) cs ≡ 0
      → Found lo (record { id = i; figure = face ks } ∷ cs) (holding (length ks ∷ cycle_row cs) (lone_place v (ks ++ all_cycles cs)))
  found_here lo i ks cs hi r z w =
      let q = place_in ks (all_cycles cs) z in
      let b = parts (ltb lo i) (rising i (ids cs) hi) r in
      let l = ltb→lt lo i b.0 in
      let h : Held = record { row = 0; place = lone_place v ks } in
      let e : h ≡ holding (length ks ∷ cycle_row cs) (lone_place v (ks ++ all_cycles cs)) =
      sym (ap (holding (length ks ∷ cycle_row cs)) q.0
      ∙ ap (λ (t : Bool). cond t h (rows_on 1 (holding (cycle_row cs) (lone_place v ks - length ks)))) (lt-ltb (lone_place v ks) (length ks) q.1))
      in
      subst (Found lo (record { id = i; figure = face ks } ∷ cs)) e
      (record {
        cycles = ks;
        row_in = omega arith;
        above = l;
        figure = ap (λ (t : Bool). some_if t (face ks) (lookup cs i)) (eq-eqb i i refl);
        place_in_lem = q.1;
        cells = λ p.
            same_cell (without_lone v) (replaced i (face (without (one (lone_place v ks)) 0 ks))) p (record { id = i; figure = face ks }) cs
            (ap face (without_one ks z) ∙ ap (λ (t : Bool). cond t (face (without (one (lone_place v ks)) 0 ks)) (face ks)) (sym (eq-eqb i i refl)))
            (quiet_cells i (face (without (one (lone_place v ks)) 0 ks)) p i cs hi b.1 (omega arith) w);
      })

  -- in a later one
  found_there : (lo : ℕ) (c : LiveCell) (cs : List LiveCell) → lo < c.id → used c.figure ≡ 0 → (h : Held) → Found c.id cs h
      → Found lo (c ∷ cs) (record { row = suc h.row; place = h.place })
  found_there lo c cs l z h o =
      let f = get_or (ids cs) h.row 0 in
      let y = face (without (one h.place) 0 o.cycles) in
      let a = o.above in
      let i = o.row_in in
      record {
        cycles = o.cycles;
        row_in = omega arith;
        above = omega arith;
        figure = ap (λ (t : Bool). some_if t c.figure (lookup cs f)) (ne_eqb c.id f (λ e. omega arith)) ∙ o.figure;
        place_in_lem = o.place_in_lem;
        cells = λ p.
            same_cell (without_lone v) (replaced f y) p c cs
            (quiet_figure c.id c.figure z ∙ ap (λ (t : Bool). cond t y c.figure) (sym (ne_eqb f c.id (λ e. omega arith))))
            (o.cells p);
      }

  passed_on : (ks : List Cycle) (cs : List LiveCell) → total (lone_use v) ks ≡ 0 → (h : Held) → h ≡ holding (cycle_row cs) (lone_place v (all_cycles cs))
      → record { row = suc h.row; place = h.place } ≡ holding (length ks ∷ cycle_row cs) (lone_place v (ks ++ all_cycles cs))
  passed_on ks cs z h e =
      let r = lone_place v (all_cycles cs) in
      let n : suc h.row ≡ 1 + h.row = omega arith in
      let l : length ks + r - length ks ≡ r = omega arith in
      ap (λ (i : ℕ). record { row = i; place = h.place }) n ∙ ap (rows_on 1) (e ∙ ap (holding (cycle_row cs)) (sym l))
      ∙ sym (ap (holding (length ks ∷ cycle_row cs)) (place_after_lem ks (all_cycles cs) z)
      ∙ ap (λ (t : Bool). cond t (record { row = 0; place = length ks + r }) (rows_on 1 (holding (cycle_row cs) (length ks + r - length ks))))
      (le-ltb (length ks + r) (length ks) (omega arith)))

  found_next : (lo i : ℕ) (x : Figure) (cs : List LiveCell) (hi : ℕ) → T (rising lo (i ∷ ids cs) hi) → used x + uses_by (lone_use v) cs ≡ 1
      → (uses_by (lone_use v) cs ≡ 1 → Found i cs (holding (cycle_row cs) (lone_place v (all_cycles cs))))
      → Found lo (record { id = i; figure = x } ∷ cs) (holding (cycle_count (shape_of x) ∷ cycle_row cs) (lone_place v (cycles_of (some x) ++ all_cycles cs)))
  found_next lo i x cs hi r z ih = go x z
    where
      l : lo < i
      l = ltb→lt lo i (parts (ltb lo i) (rising i (ids cs) hi) r).0

      later : (y : Figure) (ks : List Cycle) → used y ≡ 0 → total (lone_use v) ks ≡ 0 → used y + uses_by (lone_use v) cs ≡ 1
          → Found lo (record { id = i; figure = y } ∷ cs) (holding (length ks ∷ cycle_row cs) (lone_place v (ks ++ all_cycles cs)))
      later y ks e g w =
          subst (Found lo (record { id = i; figure = y } ∷ cs)) (passed_on ks cs g (holding (cycle_row cs) (lone_place v (all_cycles cs))) refl)
          (found_there lo (record { id = i; figure = y }) cs l e (holding (cycle_row cs) (lone_place v (all_cycles cs))) (ih (omega arith)))

      cycles : (ks : List Cycle) (b : Bool) → eqb (total (lone_use v) ks) 0 ≡ b → total (lone_use v) ks + uses_by (lone_use v) cs ≡ 1
          → Found lo (record { id = i; figure = face ks } ∷ cs) (holding (length ks ∷ cycle_row cs) (lone_place v (ks ++ all_cycles cs)))
      cycles ks true e w = let q = eqb-true (total (lone_use v) ks) 0 e in later (face ks) ks q q w
      cycles ks false e w =
          let q = eqb-false (total (lone_use v) ks) 0 e in
          found_here lo i ks cs hi r (some_one (total (lone_use v) ks) (uses_by (lone_use v) cs) q w).0
          (some_one (total (lone_use v) ks) (uses_by (lone_use v) cs) q w).1
        where
          some_one : (a b : ℕ) → (a ≡ 0 → ⊥) → a + b ≡ 1 → (a ≡ 1) × (b ≡ 0)
          some_one a b n e = (omega arith, omega arith)

      go : (y : Figure) → used y + uses_by (lone_use v) cs ≡ 1
          → Found lo (record { id = i; figure = y } ∷ cs) (holding (cycle_count (shape_of y) ∷ cycle_row cs) (lone_place v (cycles_of (some y) ++ all_cycles cs)))
      go (vertex p) w = later (vertex p) [] refl refl w
      go (open_edge a b bs) w = later (open_edge a b bs) [] refl refl w
      go (closed_edge bs) w = later (closed_edge bs) [] refl refl w
      go (face ks) w = cycles ks (eqb (total (lone_use v) ks) 0) refl w

  pub found : (lo : ℕ) (cs : List LiveCell) (hi : ℕ) → T (rising lo (ids cs) hi) → uses_by (lone_use v) cs ≡ 1
      → Found lo cs (holding (cycle_row cs) (lone_place v (all_cycles cs)))
  found lo [] hi r z = absurd (omega arith)
  found lo (c ∷ cs) hi r z = found_next lo c.id c.figure cs hi r z (λ w. found c.id cs hi (parts (ltb lo c.id) (rising c.id (ids cs) hi) r).1 w)

-- ---- the sheet without v and its lone cycle, which is cycle c of the face f
twice : (b : Bool) → b ≡ b && b
twice true = refl
twice false = refl

keep_twice : (v : ℕ) (cs : List LiveCell) → keep_ids (others v) cs ≡ keep_ids (neither v v) cs
keep_twice v [] = refl
keep_twice v (c ∷ cs) = ap₂ (λ (b : Bool) (l : List LiveCell). cons_if b c l) (twice (others v c.id)) (keep_twice v cs)

module _ (s : Sheet) (v : ℕ) (h : Held) (o : Found v 0 s.cells h) where
  abbrev pub face_of : ℕ
  face_of = get_or (ids s.cells) h.row 0

  pub lonely_refaced : uncut_result s v lonely ≡ rebuild (neither v v) (replaced face_of (face (without (one h.place) 0 o.cycles))) [] s
  lonely_refaced =
      ap (λ (l : List LiveCell). record { next = s.next + 0; cells = l ++ [] })
      (ap (reshape (without_lone v)) (keep_twice v s.cells) ∙ o.cells (neither v v))

  pub lonely_face : is_face (cell_at s face_of) ≡ true
  lonely_face = ap is_face o.figure

  pub lonely_stays : (p : Position) → cell_at s v ≡ some (vertex p) → neither v v face_of ≡ true
  lonely_stays p at = ap (λ (b : Bool). not b && not b) (ne_eqb v face_of apart)
    where
      apart : v ≡ face_of → ⊥
      apart e =
          let q : is_face (some (vertex p)) ≡ true = ap is_face (sym at) ∙ ap (λ (i : ℕ). is_face (cell_at s i)) e ∙ lonely_face in
          false≢true q
