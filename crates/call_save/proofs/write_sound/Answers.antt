-- `call_save::write_sound` meets its contract: the sums, then the file. Assumes nothing.
use mathlib.Core.Path.{sym, ◌∙◌}
use Rattle.lent.specs.Sheets.{seen}
use Rattle.call_cells.proofs.Files.{length_small, call_is}
use Rattle.call_save.proofs.write_sound.Goals as goal

pub sums-t-requires : goal.sums-t-requires
sums-t-requires c = c.requires

pub write-requires : goal.write-requires
write-requires c = c.sums-t.ensures

pub returns : goal.returns
returns c =
    let a = seen c.args.view.now in
    let t = c.sums-t.result in
    record {
      said = c.write.ensures ∙ sym (call_is a t c.sums-t.ensures c.args.buffer.now);
      few = length_small a t c.sums-t.ensures;
    }
