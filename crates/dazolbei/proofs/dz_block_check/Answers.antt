-- `dazolbei::dz_block_check` meets its contract: the verdict, in two numbers. Assumes nothing.
use mathlib.Core.Path.{◌∙◌}
use Rattle.dazolbei.proofs.dz_block_check.Goals as goal

pub tell-requires : goal.tell-requires
tell-requires c = c.check-v.ensures.visited_le_cells_most

pub returns : goal.returns
returns c = record {
  visited_after = c.tell.ensures.visited_after ∙ c.check-v.ensures.result_value;
  sound_bound = c.tell.ensures.sound_bound;
}
