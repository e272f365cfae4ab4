-- 0D: the cycles of one face parted in a drawing's own arrays. Definitions only.
use Rattle.std.specs.Prelude.{ℕ, ◌+◌, ◌≤◌, ◌≡◌, Bool, true, List, ◌++◌, length, take, drop}
use Rattle.number.specs.Numbers.{read_number}
use Rattle.complex.specs.Lists.{places}
use Rattle.complex.specs.Cells.{Cycle}
use Rattle.complex.specs.Sound.{ids_end, cycles_most, steps_most}
use Rattle.store.specs.View.{width_sum}
use Rattle.store.specs.Edits.{kept}
use Rattle.rows_spans.specs.declared.Span.{Span}
use Rattle.rows_spans.specs.declared.Spans.{Spans}
use Rattle.rows_spans.specs.declared.Used.{Used}
use Rattle.rows_spans.specs.Runs.{Spliced}
use Rattle.rows_spans.specs.Building.{Built}
use Rattle.decode_parts.specs.Lists.{Stand, numbers_read}
use Rattle.rows_corners.specs.Faces.{Within}

-- arrays of n counts and m steps have room for the cycles at s and for two of one step more
pub record Fit (s : Spans) (n m : ℕ) : Type 0 where
  pub few_counts : n ≤ cycles_most
  pub few_steps : m ≤ steps_most
  pub cycles : s.cycles.count + 2 ≤ n
  pub steps : s.steps.count + 2 ≤ m

-- each of the cycles at s either goes or stays
pub record Flagged (cycles : List ℕ) (s : Spans) (goes stays : List Bool) : Type 0 where
  pub goes_size : length goes ≡ cycles_most
  pub stays_size : length stays ≡ cycles_most
  pub all_cycles : length (kept (take s.cycles.count goes) (take s.cycles.count (drop s.cycles.first cycles)))
      + length (kept (take s.cycles.count stays) (take s.cycles.count (drop s.cycles.first cycles))) ≡ s.cycles.count
  pub all_steps : width_sum (kept (take s.cycles.count goes) (take s.cycles.count (drop s.cycles.first cycles)))
      + width_sum (kept (take s.cycles.count stays) (take s.cycles.count (drop s.cycles.first cycles))) ≡ s.steps.count

-- the arrays hold the cycles ks, and after them ls
pub record TwoBuilt (ks ls : List Cycle) (counts : List ℕ) (u v : Used) (steps : List ℕ) : Type 0 where
  pub former : Built ks counts u steps
  pub latter : Built ls (drop u.cycles counts) v (drop u.steps steps)

-- the cycles stand at s, the script names those that go, and there is room for two cycles of one step more
pub record RoundParting (cycles steps : List ℕ) (s : Spans) (script : List ℕ) (moved place e : ℕ) : Type 0 where
  pub within : Within cycles steps s
  pub stand : Stand read_number script place moved
  pub rise : places 0 (numbers_read script place moved) s.cycles.count ≡ true
  pub id : e ≤ ids_end
  pub cycle_room : s.cycles.first + s.cycles.count + s.cycles.rest + 2 ≤ cycles_most
  pub step_room : s.steps.first + s.steps.count + s.steps.rest + 2 ≤ steps_most

-- out has the first n of new in the place of the run s, and the first m of more after all numbers in use
pub record Put (old : List ℕ) (s : Span) (new : List ℕ) (n : ℕ) (more : List ℕ) (m : ℕ) (out : List ℕ) : Type 0 where
  pub size : length out ≡ length old
  pub run : Spliced old s new n out
  pub end : take (s.first + n + s.rest + m) out ≡ take (s.first + n + s.rest) out ++ take m more

-- cs and ss have the cycles ks in the place of those at s, and the cycles ls after the last
pub record RoundParted (cycles steps : List ℕ) (s : Spans) (ks ls : List Cycle) (u v : Used) (cs ss : List ℕ) : Type 0 where
  pub counts : List ℕ
  pub words : List ℕ
  pub counts2 : List ℕ
  pub words2 : List ℕ
  pub stay : Built ks counts u words
  pub go : Built ls counts2 v words2
  pub in_cycles : Put cycles s.cycles counts u.cycles counts2 v.cycles cs
  pub in_steps : Put steps s.steps words u.steps words2 v.steps ss
