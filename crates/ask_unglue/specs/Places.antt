-- Edge ends by place: twice the row of the edge, and one more for its end. Definitions only.
use Rattle.std.specs.Prelude.{ℕ, suc, ◌≤◌, ◌≡◌, Bool, false, ◌&&◌, List, T, eqb, length, take, get_or}
use Rattle.complex.specs.Cells.{Halfedge, LiveCell, lookup, is_open, tail_of}
use Rattle.complex.specs.Uses.{groups, group_of}
use Rattle.store.specs.declared.Drawing.{Drawing}
use Rattle.store.specs.declared.Index.{Index}
use Rattle.store.specs.View.{sheet_of}
use Rattle.rows_links.specs.Links.{place_at}
use Rattle.rows_ends.specs.Ends.{EndMarks}

-- an end at v
abbrev pub is_end : List LiveCell → ℕ → Halfedge → Bool
is_end cs v h = is_open (lookup cs h.edge) && eqb (tail_of (lookup cs) h) v

-- the ends at v are marked, and G has the numbers of their groups from 1 on; g is how many groups there are
pub record GroupedEnds (d : Drawing) (ix : Index) (v g : ℕ) (at : List Bool) (G : List ℕ) : Type 0 where
  pub marks : EndMarks ix.kinds ix.starts ix.ends v d.count at
  pub number : (h : Halfedge) → T (is_end (sheet_of d).cells v h)
      → get_or G (place_at (take d.count ix.ids) h) 0 ≡ suc (group_of (groups (sheet_of d).cells v) h)
  pub count : g ≡ length (groups (sheet_of d).cells v)
  pub most : (p : ℕ) → get_or G p 0 ≤ g

-- nothing is marked or numbered yet
pub record Fresh (at : List Bool) (G : List ℕ) : Type 0 where
  pub marks : length at ≡ 512
  pub numbers : length G ≡ 512
  pub unmarked : (p : ℕ) → get_or at p false ≡ false
  pub unnumbered : (p : ℕ) → get_or G p 0 ≡ 0
