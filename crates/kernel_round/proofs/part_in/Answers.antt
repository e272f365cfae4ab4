-- `part_in` meets its contract. Assumes nothing.
use borrow.Author.Rules.{rules}
use native.Mathlib.Omega.{arith}
use Rattle.decode_parts.specs.Lists.{numbers_read}
use Rattle.script.proofs.Moved.{places_below}
use Rattle.rows_corners.proofs.Lists.{built_as}
use Rattle.law_cut_face.proofs.Rounds.{stayed_kept, left_kept}
use Rattle.kernel_round.proofs.Parting.{flagged, cycles_fit_lem, steps_fit_lem}
use Rattle.kernel_round.proofs.part_in.Goals as goal

pub mark_moved-requires : goal.mark_moved-requires
mark_moved-requires c =
    let s = c in
    let a = s.args in
    let p = s.requires.round_parting in
    record {
      stand = p.stand;
      count_value = places_below 0 (numbers_read a.script.now a.place a.moved) a.s.cycles.count 512 (omega (arith, p.within.in_cycles)) p.rise;
    }

pub round_list-q-requires : goal.round_list-q-requires
round_list-q-requires c =
    let o = c in
    let s = o in
    let a = s.args in
    let p = s.requires.round_parting in record {
      flagged = flagged a.cycles.now a.steps.now a.s a.script.now a.moved a.place a.e p _ _ o.mark_moved.ensures o.others.ensures;
      within = p.within;
      e_le_ids_end = p.id;
      fit = s.requires.fit;
    }

pub put-requires : goal.put-requires
put-requires c =
    let l = c in
    let s = l in
    let a = s.args in
    let whole = cycles_fit_lem a.cycles.now a.steps.now a.s a.script.now a.moved a.place a.e s.requires.round_parting l.round_list-q.ensures.two_built
    l.round_list-q.ensures.cycles_after in record {
      rest_in_bounds = whole.0;
      m_in_bounds = whole.1.0;
      m_in_bounds_2 = whole.1.1;
    }

pub put-requires-2 : goal.put-requires-2
put-requires-2 c =
    let l = c in
    let s = l in
    let a = s.args in
    let whole = steps_fit_lem a.cycles.now a.steps.now a.s a.script.now a.moved a.place a.e s.requires.round_parting l.round_list-q.ensures.two_built
    l.round_list-q.ensures.steps_after in record {
      rest_in_bounds = whole.0;
      m_in_bounds = whole.1.0;
      m_in_bounds_2 = whole.1.1;
    }

pub returns : goal.returns
returns c =
    let x = c in
    let l = x in
    let o = l in
    let s = o in
    let a = s.args in
    let p = s.requires.round_parting in
    let b = l.round_list-q.ensures.two_built in
    let m = o.mark_moved.ensures in
    let ms = numbers_read a.script.now a.place a.moved in
    record {
      counts = _;
      words = _;
      counts2 = _;
      words2 = _;
      stay = built_as (stayed_kept a.cycles.now a.steps.now a.s p.within ms _ m p.rise a.e) b.former;
      go = built_as (left_kept a.cycles.now a.steps.now a.s p.within ms _ m p.rise a.e _ o.others.ensures) b.latter;
      in_cycles = x.put.ensures;
      in_steps = c.put-2.ensures;
    }
