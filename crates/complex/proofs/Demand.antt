-- Demand 3, of the definitions: every command keeps a drawing sound and changes the Euler number by its shift. Assumes nothing.
use Prim.Native.Nat.{ℕ}
use mathlib.Core.Path.{◌≡◌, refl, sym, ap, subst}
use mathlib.Core.Bool.{Bool, true, false}
use mathlib.Core.List.{List}
use lib.Dec.{T, eqb}
use borrow.Author.Tests.{eqb-true}
use Rattle.coordinate.specs.declared.Position.{Position}
use Rattle.complex.specs.Cells.{Sheet}
use Rattle.complex.specs.Decode.{Command, create, move, delete, glue_vertices, glue_edges, unglue, cut_edge, cut_face_vertex, cut_face_open, cut_face_closed}
use Rattle.complex.specs.Decode.{uncut}
use Rattle.complex.specs.Commands.{result}
use Rattle.complex.specs.Demands.{Demand3}
use Rattle.complex.proofs.Keep.{Sound}
use Rattle.complex.proofs.Passes.{Passes, KeepsSound}
use Rattle.complex.proofs.Adds.{create_sound, move_sound, glue_sound}
use Rattle.complex.proofs.Split.{split_sound}
use Rattle.complex.proofs.Euler.{Balanced, create_balanced, delete_balanced, split_balanced}
use Rattle.complex.proofs.Delete.{delete_sound}
use Rattle.complex.proofs.Faces.{move_balanced, glue_balanced, dot_sound, dot_balanced, round_sound, round_balanced, bridge_sound, bridge_balanced}
use Rattle.complex.proofs.Edges.{glue_edges_sound, glue_edges_balanced}
use Rattle.complex.proofs.CutEdge.{cut_edge_sound, cut_edge_balanced}
use Rattle.complex.proofs.UnglueVertex.{unglue_sound, unglue_balanced}
use Rattle.complex.proofs.Uncut.{uncut_sound, uncut_balanced}
use Rattle.complex.proofs.Obey.{demand3_from}

cut_sound : (f c1 s1 c2 s2 : ℕ) (bs : List Position) (ms : List ℕ) → KeepsSound (cut_face_open f c1 s1 c2 s2 bs ms)
cut_sound f c1 s1 c2 s2 bs ms s S p = go (eqb c1 c2) refl
  where
    go : (b : Bool) → eqb c1 c2 ≡ b → Sound (result s (cut_face_open f c1 s1 c2 s2 bs ms))
    go true e =
        let z = eqb-true c1 c2 e in
        subst (λ (c : ℕ). Passes s (cut_face_open f c1 s1 c s2 bs ms) → Sound (result s (cut_face_open f c1 s1 c s2 bs ms))) z (split_sound f c1 s1 s2 bs ms s S) p
    go false e = bridge_sound f c1 s1 c2 s2 bs ms s S p e

cut_balanced : (f c1 s1 c2 s2 : ℕ) (bs : List Position) (ms : List ℕ) (s : Sheet) → Sound s → Passes s (cut_face_open f c1 s1 c2 s2 bs ms)
    → Balanced s (cut_face_open f c1 s1 c2 s2 bs ms)
cut_balanced f c1 s1 c2 s2 bs ms s S p = go (eqb c1 c2) refl
  where
    go : (b : Bool) → eqb c1 c2 ≡ b → Balanced s (cut_face_open f c1 s1 c2 s2 bs ms)
    go true e = subst (λ (c : ℕ). Passes s (cut_face_open f c1 s1 c s2 bs ms) → Balanced s (cut_face_open f c1 s1 c s2 bs ms)) (eqb-true c1 c2 e)
        (split_balanced f c1 s1 s2 bs ms s S) p
    go false e = bridge_balanced f c1 s1 c2 s2 bs ms s S p e

held : (c : Command) → KeepsSound c × ((s : Sheet) → Sound s → Passes s c → Balanced s c)
held (create x) = (create_sound x, λ s S q. create_balanced s x)
held (move v p) = (move_sound v p, move_balanced v p)
held (delete i) = (delete_sound i, λ s S q. delete_balanced s i)
held (glue_vertices a b) = (glue_sound a b, glue_balanced a b)
held (glue_edges a b flag) = (glue_edges_sound a b flag, glue_edges_balanced a b flag)
held (unglue i) = (unglue_sound i, unglue_balanced i)
held (cut_edge e q) = (cut_edge_sound e q, cut_edge_balanced e q)
held (cut_face_vertex f p) = (dot_sound f p, dot_balanced f p)
held (cut_face_open f c1 s1 c2 s2 bs ms) = (cut_sound f c1 s1 c2 s2 bs ms, cut_balanced f c1 s1 c2 s2 bs ms)
held (cut_face_closed f bs ms) = (round_sound f bs ms, round_balanced f bs ms)
held (uncut i) = (λ s S p. uncut_sound s S i p, λ s S p. uncut_balanced s S i p)

pub keeps : (c : Command) → KeepsSound c
keeps c = (held c).0

pub balances : (c : Command) (s : Sheet) → Sound s → Passes s c → Balanced s c
balances c = (held c).1

pub demand3 : Demand3
demand3 = demand3_from keeps balances
