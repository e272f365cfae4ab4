-- `decode::decode` meets its contract: each arm reads the fields of its kind. Assumes nothing.
use Prim.Native.Nat.{◌≤◌}
use mathlib.Core.Path.{refl}
use mathlib.Core.Logic.{inl, inr, ⊎_elim}
use borrow.Author.Rules.{rules}
use native.Mathlib.Omega.{arith}
use lib.ListN.{get_or}
use Rattle.number.proofs.Laws.{lt_or_le}
use Rattle.complex.specs.Decode as bytes
use Rattle.decode_command.proofs.Decides.{alone}
use Rattle.decode.proofs.Kind.{nothing, kind, no_field, unknown}
use Rattle.decode.proofs.decode.Goals as goal

pub returns-then-script-eq0 : goal.returns-then-script-eq0
returns-then-script-eq0 c = record {
  result_value = nothing c.args.script.now c.if-script-eq0.true;
  decoded_end = tt;
}

pub returns-in-1 : goal.returns-in-1
returns-in-1 c = let whole = kind 1 c.decode_vertex.ensures c.if-script-eq0.false c.in-1.is in record {
  result_value = whole.0;
  decoded_end = whole.1;
}

pub returns-in-2 : goal.returns-in-2
returns-in-2 c = let whole = kind 2 c.decode_open.ensures c.if-script-eq0.false c.in-2.is in record {
  result_value = whole.0;
  decoded_end = whole.1;
}

pub returns-in-3 : goal.returns-in-3
returns-in-3 c = let whole = kind 3 c.decode_closed.ensures c.if-script-eq0.false c.in-3.is in record {
  result_value = whole.0;
  decoded_end = whole.1;
}

pub returns-in-4 : goal.returns-in-4
returns-in-4 c = let whole = kind 4 c.decode_face.ensures c.if-script-eq0.false c.in-4.is in record {
  result_value = whole.0;
  decoded_end = whole.1;
}

pub returns-in-5 : goal.returns-in-5
returns-in-5 c = let whole = kind 5 c.decode_place.ensures c.if-script-eq0.false c.in-5.is in record {
  result_value = whole.0;
  decoded_end = whole.1;
}

pub returns-in-6 : goal.returns-in-6
returns-in-6 c = let whole = kind 6 (c.decode_cell.ensures bytes.delete (λ n c e. alone e (λ s. refl) (λ s. tt))) c.if-script-eq0.false c.in-6.is in record {
  result_value = whole.0;
  decoded_end = whole.1;
}

pub returns-in-7 : goal.returns-in-7
returns-in-7 c = let whole = kind 7 (c.decode_two.ensures bytes.glue_vertices (λ a b c e. alone e (λ s. refl) (λ s. tt))) c.if-script-eq0.false c.in-7.is in record {
  result_value = whole.0;
  decoded_end = whole.1;
}

pub returns-in-8 : goal.returns-in-8
returns-in-8 c = let whole = kind 8 c.decode_glue_edges.ensures c.if-script-eq0.false c.in-8.is in record {
  result_value = whole.0;
  decoded_end = whole.1;
}

pub returns-in-9 : goal.returns-in-9
returns-in-9 c = let whole = kind 9 (c.decode_cell-in-9.ensures bytes.unglue (λ n c e. alone e (λ s. refl) (λ s. tt))) c.if-script-eq0.false c.in-9.is in record {
  result_value = whole.0;
  decoded_end = whole.1;
}

pub returns-in-10 : goal.returns-in-10
returns-in-10 c = let whole = kind 10 (c.decode_two-in-10.ensures bytes.cut_edge (λ a b c e. alone e (λ s. refl) (λ s. tt))) c.if-script-eq0.false c.in-10.is in record {
  result_value = whole.0;
  decoded_end = whole.1;
}

pub returns-in-11 : goal.returns-in-11
returns-in-11 c = let whole = kind 11 c.decode_place-in-11.ensures c.if-script-eq0.false c.in-11.is in record {
  result_value = whole.0;
  decoded_end = whole.1;
}

pub returns-in-12 : goal.returns-in-12
returns-in-12 c = let whole = kind 12 c.decode_cut_face_open.ensures c.if-script-eq0.false c.in-12.is in record {
  result_value = whole.0;
  decoded_end = whole.1;
}

pub returns-in-13 : goal.returns-in-13
returns-in-13 c = let whole = kind 13 c.decode_cut_face_closed.ensures c.if-script-eq0.false c.in-13.is in record {
  result_value = whole.0;
  decoded_end = whole.1;
}

pub returns-in-14 : goal.returns-in-14
returns-in-14 c = let whole = kind 14 (c.decode_cell-in-14.ensures bytes.uncut (λ n c e. alone e (λ s. refl) (λ s. tt))) c.if-script-eq0.false c.in-14.is in record {
  result_value = whole.0;
  decoded_end = whole.1;
}

pub returns-in-15 : goal.returns-in-15
returns-in-15 c = let b = c in let whole = kind 15 (no_field b.args.script.now b.if-script-eq0.false) b.if-script-eq0.false c.in-15.is in record {
  result_value = whole.0;
  decoded_end = whole.1;
}

pub returns-in_default : goal.returns-in_default
returns-in_default c =
    let s = c.args.script.now in
    let late : 1 ≤ get_or s 0 0 → 16 ≤ get_or s 0 0 = λ l. omega arith in
    let whole = unknown s (get_or s 0 0) c.if-script-eq0.false refl (⊎_elim (λ l. inl (omega arith)) (λ l. inr (late l)) (lt_or_le (get_or s 0 0) 1)) in record {
      result_value = whole.0;
      decoded_end = whole.1;
    }
