-- What lies in memory fits: a position that is part of another value, and each element of an array. Assumes nothing.
use Prim.Native.Nat.{ℕ, zero, suc}
use mathlib.Core.List.{List, [], ◌∷◌, map}
use borrow.Author.Rules.{rules}
use mir.Val.{Val}
use lib.ListN.{get_or}
use denote.Array.{each}
use denote.Laws.{Is}
use denote.Shadow.{shadow}
use Rattle.coordinate.specs.declared.Position.{Position}
use Rattle.coordinate.specs.Positions.{FloatFits}
use Rattle.coordinate.specs.contracts.Position.{the_field}

pub held : (p : Position) (vs : List Val) → Is the_field.row (the_field.into p) vs → FloatFits p
held p vs h = search rules

-- element i of an array, or d past its end
pub held_at : (ps : List Position) (us : List Val) (i : ℕ) (d : Position) → FloatFits d
    → shadow (each the_field.row.Denot the_field.row.own_val (map the_field.into ps) us) → FloatFits (get_or ps i d)
held_at [] us i d f h = f
held_at (p ∷ ps) [] i d f h = absurd h
held_at (p ∷ ps) (u ∷ us) zero d f h = held p (u ∷ []) h.0
held_at (p ∷ ps) (u ∷ us) (suc i) d f h = held_at ps us i d f h.1
