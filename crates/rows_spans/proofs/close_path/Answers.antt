-- `close_path` meets its contract. Assumes nothing.
use borrow.Author.Rules.{rules}
use mathlib.Core.Path.{refl}
use Rattle.rows_spans.proofs.Building.{pushed_path}
use Rattle.rows_spans.proofs.close_path.Goals as goal

pub returns : goal.returns
returns c =
    let st = c in
    let a = st.args in
    record {
      value = refl;
      closes = record { list = λ steps b. pushed_path a.counts.now a.u steps b a.m st.requires.le_m st.requires.cycles_in_bounds };
    }
