-- The arrays of a sheet that is lent, to be edited or to be read. Definitions only.
use Rattle.std.specs.Prelude.{◌≡◌}
use Rattle.lent.specs.Arrays.{Arrays, of_lists}
use Rattle.lent.specs.declared.SheetMut.{SheetMut}
use Rattle.lent.specs.declared.SheetRef.{SheetRef}

-- what a sheet holds that is lent to be edited
abbrev pub arrays : SheetMut → Arrays
arrays s =
    of_lists s.next.now s.count.now s.ids.now s.kinds.now s.starts.now s.ends.now s.bends.now s.counts.now s.px.now s.py.now s.cycles.now s.steps.now s.bx.now s.by.now

-- what a sheet holds that is lent to be read
abbrev pub seen : SheetRef → Arrays
seen s =
    of_lists s.next s.count s.ids.now s.kinds.now s.starts.now s.ends.now s.bends.now s.counts.now s.px.now s.py.now s.cycles.now s.steps.now s.bx.now s.by.now

-- b is lent where a is: the same next id, number and arrays of the caller's
pub record Same (a b : SheetMut) : Type 0 where
  pub next : b.next.ghost_name ≡ a.next.ghost_name
  pub count : b.count.ghost_name ≡ a.count.ghost_name
  pub ids : b.ids.ghost_name ≡ a.ids.ghost_name
  pub kinds : b.kinds.ghost_name ≡ a.kinds.ghost_name
  pub starts : b.starts.ghost_name ≡ a.starts.ghost_name
  pub ends : b.ends.ghost_name ≡ a.ends.ghost_name
  pub bends : b.bends.ghost_name ≡ a.bends.ghost_name
  pub counts : b.counts.ghost_name ≡ a.counts.ghost_name
  pub px : b.px.ghost_name ≡ a.px.ghost_name
  pub py : b.py.ghost_name ≡ a.py.ghost_name
  pub cycles : b.cycles.ghost_name ≡ a.cycles.ghost_name
  pub steps : b.steps.ghost_name ≡ a.steps.ghost_name
  pub bx : b.bx.ghost_name ≡ a.bx.ghost_name
  pub by : b.by.ghost_name ≡ a.by.ghost_name
