-- Cells appended one after another are those of `rebuild`. Assumes nothing.
use Prim.Native.Nat.{ℕ, ◌+◌}
use mathlib.Core.Path.{◌≡◌, refl, ap, sym, ◌∙◌}
use mathlib.Core.Bool.{Bool, true, false}
use mathlib.Core.List.{List, [], ◌∷◌, ◌++◌, append-nil, append_assoc}
use native.Mathlib.Omega.{arith}
use native.Mathlib.Numerals.{add-one}
use Rattle.complex.specs.Lists.{cons_if, one}
use Rattle.complex.specs.Cells.{Figure, LiveCell, Sheet}
use Rattle.complex.specs.Edits.{keep_ids, reshape, numbered, rebuild, every_id, as_it_is}
use Rattle.complex.proofs.Lookup.{kept_all, reshaped_none}
use Rattle.store.specs.Edits.{appended}
use Rattle.rows_new.specs.Appends.{appended_all, remade}

sheet_is : (s t : Sheet) → s.next ≡ t.next → s.cells ≡ t.cells → s ≡ t
sheet_is s t p q = λ i. record { next = p i; cells = q i }

-- ---- one after another
-- the cells xs appended to s, the first first
abbrev pub appended_each : List Figure → Sheet → Sheet
appended_each [] s = s
appended_each (x ∷ xs) s = appended_each xs (appended s x)

pub appended_none : (s : Sheet) → appended_all [] s ≡ s
appended_none s = sheet_is (appended_all [] s) s (omega arith) (append-nil s.cells)

pub appended_one : (s : Sheet) (x : Figure) → appended s x ≡ appended_all (one x) s
appended_one s x = refl

pub appended_next : (x : Figure) (xs : List Figure) (s : Sheet) → appended_all (x ∷ xs) s ≡ appended_all xs (appended s x)
appended_next x xs s =
    let c : LiveCell = record { id = s.next; figure = x } in
    sheet_is (appended_all (x ∷ xs) s) (appended_all xs (appended s x)) (omega arith)
    (ap (λ (n : ℕ). s.cells ++ (c ∷ numbered n xs)) (sym (add-one s.next)) ∙ sym (append_assoc s.cells (c ∷ []) (numbered (s.next + 1) xs)))

pub appended_each_lem : (xs : List Figure) (s : Sheet) → appended_each xs s ≡ appended_all xs s
appended_each_lem [] s = sym (appended_none s)
appended_each_lem (x ∷ xs) s = appended_each_lem xs (appended s x) ∙ sym (appended_next x xs s)

-- ---- in terms of `rebuild`
pub remade_none : (s : Sheet) → remade every_id as_it_is s ≡ s
remade_none s = ap (λ (l : List LiveCell). record { next = s.next; cells = l }) (reshaped_none (keep_ids every_id s.cells) ∙ kept_all s.cells)

pub appended_all_rebuild : (xs : List Figure) (s : Sheet) → appended_all xs s ≡ rebuild every_id as_it_is xs s
appended_all_rebuild xs s = ap (appended_all xs) (sym (remade_none s))

pub appended_rebuild : (s : Sheet) (x : Figure) → appended s x ≡ rebuild every_id as_it_is (one x) s
appended_rebuild s x = appended_all_rebuild (one x) s

-- which cells stay depends on their ids, which `reshape` keeps
pub keep_reshape : (p : ℕ → Bool) (f : ℕ → Figure → Figure) (cs : List LiveCell) → keep_ids p (reshape f cs) ≡ reshape f (keep_ids p cs)
keep_reshape p f [] = refl
keep_reshape p f (c ∷ cs) =
    ap (cons_if (p c.id) (record { id = c.id; figure = f c.id c.figure })) (keep_reshape p f cs) ∙ pick (p c.id)
  where
    pick : (b : Bool) → cons_if b (record { id = c.id; figure = f c.id c.figure }) (reshape f (keep_ids p cs)) ≡ reshape f (cons_if b c (keep_ids p cs))
    pick true = refl
    pick false = refl
