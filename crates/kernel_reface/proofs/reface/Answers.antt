-- `reface` meets its contract: two rows go, and the face that stays gets the cycles. Assumes nothing.
use native.Mathlib.Omega.{arith}
use Rattle.sound.proofs.Meaning.{sound_fits}
use Rattle.lent.specs.Arrays.{held_by}
use Rattle.lent.specs.Sheets.{arrays}
use Rattle.kernel_reface.proofs.Refaced.{dead_length, find_asks, spans_ask, replaces, holds}
use Rattle.kernel_reface.proofs.reface.Goals as goal

pub dead_rows-dead-requires : goal.dead_rows-dead-requires
dead_rows-dead-requires c =
    let p = c.requires.refaced.pair in
    let f = (sound_fits (held_by (arrays c.args.sheet.now)) p.sound).cells in
    record {
      a_bound = omega (arith, f, p.first_in);
      b_bound = omega (arith, f, p.second_in);
    }

pub keep_rows-requires : goal.keep_rows-requires
keep_rows-requires c =
    record {
      fits = sound_fits (held_by (arrays c.args.sheet.now)) c.requires.refaced.pair.sound;
      lengths = c.requires.lengths;
      by_value = c.requires.by_value;
      dead_len = dead_length c.args.a c.args.b _ c.dead_rows-dead.ensures;
    }

pub find-row-requires : goal.find-row-requires
find-row-requires c =
    let a = c.args in
    let whole = find_asks (arrays a.sheet.now) c.requires.lengths a.i a.a a.j a.b a.f a.numbers.now a.u a.places.now
    c.requires.refaced _ c.dead_rows-dead.ensures (arrays c.keep_rows.new.sheet) c.known.ensures c.keep_rows.ensures.keeps in record {
      n_bound = whole.0;
      ids_len = whole.1.0;
      rising = whole.1.1;
    }

pub spans_of-s-requires : goal.spans_of-s-requires
spans_of-s-requires c =
    let a = c.args in
    let whole = spans_ask (arrays a.sheet.now) c.requires.lengths a.i a.a a.j a.b a.f a.numbers.now a.u a.places.now
    c.requires.refaced _ c.dead_rows-dead.ensures (arrays c.keep_rows.new.sheet) c.known.ensures c.keep_rows.ensures.keeps
    c.find-row.result c.find-row.ensures in record {
      n_in_bounds = whole.0;
      row_lt_n = whole.1.0;
      at_in_bounds = whole.1.1.0;
      at_bound = whole.1.1.1.0;
      cycles_bound = whole.1.1.1.1;
    }

pub replace_cycles-requires : goal.replace_cycles-requires
replace_cycles-requires c =
    let a = c.args in
    replaces (arrays a.sheet.now) c.requires.lengths a.i a.a a.j a.b a.f a.numbers.now a.u a.places.now
    c.requires.refaced _ c.dead_rows-dead.ensures (arrays c.keep_rows.new.sheet) c.known.ensures c.keep_rows.ensures.keeps
    c.find-row.result c.find-row.ensures c.spans_of-s.result c.spans_of-s.ensures

pub returns-clause-holds : goal.returns-clause-holds
returns-clause-holds c =
    let a = c.args in
    holds (arrays a.sheet.now) c.requires.lengths a.i a.a a.j a.b a.f a.numbers.now a.u a.places.now
    c.requires.refaced _ c.dead_rows-dead.ensures (arrays c.keep_rows.new.sheet) c.known.ensures c.keep_rows.ensures.keeps
    c.find-row.result c.find-row.ensures c.spans_of-s.result c.spans_of-s.ensures (arrays c.replace_cycles.new.sheet) c.replace_cycles.ensures.replaced_in
