-- `rename_vertex` meets its contract. Assumes nothing.
use borrow.Author.Rules.{rules}
use Rattle.complex.specs.Lists.{one}
use Rattle.complex.specs.Glue.{renamed}
use Rattle.rows_steps.specs.Renaming.{rename_place}
use Rattle.rows_steps.proofs.Renamed.{lone_rewrites}
use Rattle.kernel_rename.proofs.Lent.{lone_cycles, lone_steps, rewired_in}
use Rattle.kernel_rename.proofs.rename_vertex.Goals as goal

pub rename_lone-requires : goal.rename_lone-requires
rename_lone-requires c =
    let s = c in
    let l = s.requires.lengths in
    record {
      n_le_cycles_most = lone_cycles _ l s.requires.fits s.args.k s.requires.k_value;
      cycles_bound = lone_steps _ l s.requires.fits s.args.k s.requires.k_value;
      cycles_len = (l.cycles, l.steps);
    }

pub returns-clause-renamed_in : goal.returns-clause-renamed_in
returns-clause-renamed_in c =
    let s = c in
    let r = c.rename_ends.ensures in
    let w = c.rename_lone.ensures in
    let ρ = renamed s.args.a s.args.b in
    rewired_in ρ one (rename_place ρ) (lone_rewrites ρ) _ s.requires.lengths s.requires.fits s.requires.by_value _ _ _ r.ends_renamed r.ends_renamed_2 w.steps_len
    (rw s.requires.k_value at w.lone_renamed)
