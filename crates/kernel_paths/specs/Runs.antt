-- Lists of cycles of a face put together in two lent arrays. Definitions only.
use Rattle.std.specs.Prelude.{ℕ, ◌+◌, ◌-◌, ◌<◌, ◌≤◌, ◌≡◌, List, length, take, drop}
use Rattle.complex.specs.Cells.{Cycle}
use Rattle.complex.specs.Sound.{cycles_most, steps_most}
use Rattle.store.specs.View.{width_sum, cycles_from}
use Rattle.rows_spans.specs.declared.Used.{Used}
use Rattle.rows_spans.specs.Building.{Building, RoomFor}
use Rattle.rows_stretches.specs.declared.Stretch.{Stretch}
use Rattle.rows_stretches.specs.declared.Place.{Place}
use Rattle.rows_stretches.specs.Paths.{InCycle, Lies, put_at}
use Rattle.kernel_paths.specs.declared.Run.{Run}
use Rattle.kernel_paths.specs.declared.Sides.{Sides}

-- the cycles of a run
abbrev pub path_run : List ℕ → List ℕ → Run → List Cycle
path_run cycles steps r = cycles_from (take r.count (drop r.first cycles)) (drop r.from steps)

-- a run lies in a drawing's arrays, and a list has room for it
pub record RunRoom (cycles steps : List ℕ) (r : Run) (numbers : List ℕ) (u : Used) (places : List ℕ) : Type 0 where
  pub building : Building numbers u places
  pub cycles_size : length cycles ≡ cycles_most
  pub steps_size : length steps ≡ steps_most
  pub in_cycles : r.first + r.count ≤ cycles_most
  pub in_steps : r.from + r.len ≤ steps_most
  pub wide : width_sum (take r.count (drop r.first cycles)) ≡ r.len
  pub cycle_room : u.cycles + r.count ≤ length numbers
  pub step_room : u.steps + r.len ≤ length places

-- a cycle stands among those of its face, and these in a drawing's arrays
pub record Inside (p : Place) : Type 0 where
  pub cycle : p.cycle < p.spans.cycles.count
  pub start : p.spans.steps.first ≤ p.at
  pub end : p.at + p.count ≤ p.spans.steps.first + p.spans.steps.count
  pub in_cycles : p.spans.cycles.first + p.spans.cycles.count ≤ cycles_most
  pub in_steps : p.spans.steps.first + p.spans.steps.count ≤ steps_most

-- the runs before it and after it
abbrev pub sides_of : Place → Sides
sides_of p =
    record {
      ahead = record { first = p.spans.cycles.first; count = p.cycle; from = p.spans.steps.first; len = p.at - p.spans.steps.first };
      behind =
          record {
            first = p.spans.cycles.first + (p.cycle + 1);
            count = p.spans.cycles.count - (p.cycle + 1);
            from = p.at + p.count;
            len = p.spans.steps.first + p.spans.steps.count - (p.at + p.count);
          };
    }

-- arrays of n counts and m steps have room for the cycles of the face of p, with two stretches or v alone in the place of p
pub record Puts (cycles steps : List ℕ) (p : Place) (a b : Stretch) (v n m : ℕ) : Type 0 where
  pub lies : Lies cycles steps p
  pub first : InCycle a
  pub second : InCycle b
  pub room : RoomFor n m (put_at cycles steps p a b v)
