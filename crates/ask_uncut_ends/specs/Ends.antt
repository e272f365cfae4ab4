-- The ends at a vertex, over the rows of an index. Definitions only.
use Rattle.std.specs.Prelude.{ℕ, suc, false, cond, List, [], ◌∷◌, ◌++◌, eqb, length}
use Rattle.complex.specs.Lists.{cons_if}
use Rattle.complex.specs.Cells.{Halfedge, along, against}
use Rattle.ask_uncut_ends.specs.declared.Ends.{Ends}

-- the ends at v of an open edge
abbrev pub edge_ends : ℕ → ℕ → ℕ → ℕ → List Halfedge
edge_ends v i s e = cons_if (eqb s v) (along i) (cons_if (eqb e v) (against i) [])

-- the ends at v of a row
abbrev pub row_ends : ℕ → ℕ → ℕ → ℕ → ℕ → List Halfedge
row_ends v i k s e = cond (eqb k 1) (edge_ends v i s e) []

-- the ends at v of the rows
abbrev pub ends_in : ℕ → List ℕ → List ℕ → List ℕ → List ℕ → List Halfedge
ends_in v [] ks ss es = []
ends_in v (i ∷ is) [] ss es = []
ends_in v (i ∷ is) (k ∷ ks) [] es = []
ends_in v (i ∷ is) (k ∷ ks) (s ∷ ss) [] = []
ends_in v (i ∷ is) (k ∷ ks) (s ∷ ss) (e ∷ es) = row_ends v i k s e ++ ends_in v is ks ss es

abbrev pub no_ends : Ends
no_ends = record { count = 0; one = 0; back1 = false; two = 0; back2 = false }

-- one end more: how many, and the first two
abbrev pub one_end : Ends → Halfedge → Ends
one_end x h =
    cond (eqb x.count 0) (record { count = 1; one = h.edge; back1 = h.backward; two = 0; back2 = false })
    (cond (eqb x.count 1) (record { count = 2; one = x.one; back1 = x.back1; two = h.edge; back2 = h.backward })
    (record { count = suc x.count; one = x.one; back1 = x.back1; two = x.two; back2 = x.back2 }))

-- how many ends, and the first two
abbrev pub two_ends : List Halfedge → Ends
two_ends [] = no_ends
two_ends (x ∷ []) = record { count = 1; one = x.edge; back1 = x.backward; two = 0; back2 = false }
two_ends (x ∷ y ∷ l) = record { count = suc (suc (length l)); one = x.edge; back1 = x.backward; two = y.edge; back2 = y.backward }
