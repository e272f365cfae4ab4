-- `path_joins` meets its contract. By the kind of the first step. Assumes nothing.
use Prim.Native.Nat.{ℕ, ◌-◌}
use native.Mathlib.Omega.{arith}
use mathlib.Core.Path.{refl, sym, ap, ◌∙◌}
use mathlib.Core.List.{List}
use lib.Dec.{eqb}
use Rattle.complex.specs.Lists.{all}
use Rattle.decode_parts.specs.Lists.{numbers_read}
use Rattle.decode_parts.proofs.Rest.{leaves_number}
use Rattle.script.proofs.Steps.{turn, one_stands}
use Rattle.sound.specs.Rows.{Rows, rows_of, leads_in, joins_in}
use Rattle.sound.proofs.Looking.{step_kind, step_none, step_tail}
use Rattle.ask_face_joins.proofs.Joining.{joins_ring, joins_none, joins_round}
use Rattle.ask_face_named.proofs.Passing.{walked_as}
use borrow.Author.Rules.{rules}
use Rattle.ask_face_joins.proofs.path_joins.Goals as goal

abbrev rows : goal.After-leads → Rows
rows st = rows_of st.args.n st.args.ids.now st.args.kinds.now st.args.starts.now st.args.ends.now

abbrev rows_2 : goal.After-repeated → Rows
rows_2 st = rows_of st.args.n st.args.ids.now st.args.kinds.now st.args.starts.now st.args.ends.now

abbrev rows_3 : goal.Then-n-row → Rows
rows_3 st = rows_of st.args.n st.args.ids.now st.args.kinds.now st.args.starts.now st.args.ends.now

pub take_number-taken-requires : goal.take_number-taken-requires
take_number-taken-requires c = one_stands c.requires.stand (omega (arith, c.requires.le_m)) leaves_number

pub returns-then-n-row : goal.returns-then-n-row
returns-then-n-row c =
    let t = c in
    let st = t in
    let a = st.args in
    let p = st.requires.hinted.rows in
    let x = t.take_number-taken.result in
    let e = (turn st.requires.stand (omega (arith, st.requires.le_m)) leaves_number t.take_number-taken.ensures).0 in
    let r = c.row_of-row.ensures in
    let k = step_none a.n a.ids.now a.kinds.now a.starts.now a.ends.now _ x.value r.value (omega (arith, p.few, p.kinds))
    c.if-n-row.true in
    let j = joins_none (rows_3 st) x.value (numbers_read a.script.now x.next (a.m - 1)) 4 (sym k) (λ e. omega arith) (λ e. omega arith) in
    record {
      walked = record { says = ap (joins_in (rows_3 st)) e ∙ j };
      hints_len = r.hints_len_2;
    }

pub returns-then-kinds-row-eq2 : goal.returns-then-kinds-row-eq2
returns-then-kinds-row-eq2 c =
    let t = c in
    let st = t in
    let a = st.args in
    let p = st.requires.hinted.rows in
    let s = a.script.now in
    let x = t.take_number-taken.result in
    let e = (turn st.requires.stand (omega (arith, st.requires.le_m)) leaves_number t.take_number-taken.ensures).0 in
    let r = c.row_of-row.ensures in
    let k =
    step_kind a.n a.ids.now a.kinds.now a.starts.now a.ends.now _ x.value r.value (omega (arith, p.few, p.kinds))
    c.if-n-row.false in
    let j =
    joins_ring (rows_2 st) x.value (numbers_read s x.next (a.m - 1)) _ (sym k) c.if-kinds-row-eq2.true (all (eqb x.value) (numbers_read s a.at a.m))
    (ap (all (eqb x.value)) e) ∙ ap (joins_in (rows_2 st)) (sym e) in
    record {
      walked = walked_as j (λ next h. h) c.repeated.ensures;
      hints_len = r.hints_len_2;
    }

pub returns : goal.returns
returns c =
    let t = c in
    let st = t in
    let a = st.args in
    let p = st.requires.hinted.rows in
    let s = a.script.now in
    let x = t.take_number-taken.result in
    let e = (turn st.requires.stand (omega (arith, st.requires.le_m)) leaves_number t.take_number-taken.ensures).0 in
    let r = c.row_of-row.ensures in
    let k =
    step_kind a.n a.ids.now a.kinds.now a.starts.now a.ends.now _ x.value r.value (omega (arith, p.few, p.kinds))
    c.if-n-row.false in
    let u = c.side-u.result in
    let v = step_tail a.n a.ids.now a.kinds.now a.starts.now a.ends.now _ x.value r.value u c.side-u.ensures in
    let j =
    joins_round (rows st) x.value (numbers_read s x.next (a.m - 1)) _ (sym k) c.if-kinds-row-eq2.false u v
    (leads_in (rows st) u (numbers_read s a.at a.m) u) (ap (λ (l : List ℕ). leads_in (rows st) u l u) e) ∙ ap (joins_in (rows st)) (sym e) in
    record {
      walked = walked_as j (λ next h. h) c.leads.ensures.walked;
      hints_len = c.leads.ensures.hints_len;
    }
