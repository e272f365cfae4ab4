-- `file_write::put_face` meets its contract. Assumes nothing.
use borrow.Author.Rules.{rules}
use Prim.Native.Nat.{ℕ, ◌+◌, ◌≤◌}
use mathlib.Core.Path.{◌≡◌, ap, sym, ◌∙◌}
use mathlib.Core.List.{List, ◌++◌, append_assoc}
use native.Mathlib.Omega.{arith}
use lib.ListN.{length, drop}
use Rattle.number.specs.Readers.{spread}
use Rattle.number.specs.Numbers.{spell}
use Rattle.complex.specs.Cells.{Cycle, face}
use Rattle.complex.specs.Decode.{cycle_bytes}
use Rattle.complex.specs.File.{cell_bytes}
use Rattle.store.specs.View.{cycles_from}
use Rattle.file_parts.specs.Parts.{run_of, Rings}
use Rattle.file_parts.proofs.Laying.{put_of, put_then, put_as, room_first, room_then}
use Rattle.file_parts.proofs.Cycles.{rings_size}
use Rattle.file_write.proofs.put_face.Goals as goal

-- the id and the kind
abbrev head : ℕ → List ℕ
head id = spell id ++ spell 3

module _ (id k from first : ℕ) (cycles steps : List ℕ) (h : Rings cycles from k steps first) where
  abbrev rings : List Cycle
  rings = cycles_from (run_of from k cycles) (drop first steps)

  bytes : head id ++ (spell k ++ spread cycle_bytes rings) ≡ cell_bytes (record { id = id; figure = face rings })
  bytes =
      append_assoc (spell id) (spell 3) (spell k ++ spread cycle_bytes rings)
      ∙ ap (λ (n : ℕ). spell id ++ (spell 3 ++ (spell n ++ spread cycle_bytes rings))) (sym (rings_size cycles from k steps first h))

  room : (out : List ℕ) → length (cell_bytes (record { id = id; figure = face rings })) ≤ length out
      → 0 + length (head id ++ (spell k ++ spread cycle_bytes rings)) ≤ length out
  room out g = let e = ap length bytes in omega arith

pub put_two-at-requires : goal.put_two-at-requires
put_two-at-requires c =
    let a = c.args in
    let r = c.requires.rings in
    let rs = cycles_from (run_of a.from a.k a.cycles.now) (drop a.first a.steps.now) in
    record {
      a_lt_numbers_end = c.requires.id_lt_numbers_end;
      b_lt_numbers_end = omega arith;
      b_in_bounds = room_first a.out.now 0 (head a.id) (spell a.k ++ spread cycle_bytes rs)
          (room a.id a.k a.from a.first a.cycles.now a.steps.now r a.out.now c.requires.steps_in_bounds);
    }

pub put_number-next-requires : goal.put_number-next-requires
put_number-next-requires c =
    let a = c.args in
    let r = c.requires.rings in
    let rs = cycles_from (run_of a.from a.k a.cycles.now) (drop a.first a.steps.now) in
    let f = c.put_two-at in
    let k = r.room in record {
      n_lt_numbers_end = omega arith;
      n_in_bounds = room_first f.new.out f.result (spell a.k) (spread cycle_bytes rs)
          (room_then a.out.now 0 (head a.id) (spell a.k ++ spread cycle_bytes rs) f.ensures
          (room a.id a.k a.from a.first a.cycles.now a.steps.now r a.out.now c.requires.steps_in_bounds));
    }

pub put_rings-requires : goal.put_rings-requires
put_rings-requires c =
    let a = c.args in
    let r = c.requires.rings in
    let rs = cycles_from (run_of a.from a.k a.cycles.now) (drop a.first a.steps.now) in
    let f = c.put_two-at in
    let g = c.put_number-next in
    let k = spell a.k in record {
      rings = r;
      steps_in_bounds = room_then f.new.out f.result k (spread cycle_bytes rs) (put_of k g.ensures.value g.ensures.out_after)
          (room_then a.out.now 0 (head a.id) (k ++ spread cycle_bytes rs) f.ensures
          (room a.id a.k a.from a.first a.cycles.now a.steps.now r a.out.now c.requires.steps_in_bounds));
    }

pub returns : goal.returns
returns c =
    let a = c.args in
    let rs = cycles_from (run_of a.from a.k a.cycles.now) (drop a.first a.steps.now) in
    let f = c.put_two-at in
    let g = c.put_number-next in
    let h = c.put_rings in
    let k = spell a.k in
    put_as (bytes a.id a.k a.from a.first a.cycles.now a.steps.now c.requires.rings)
    (put_then (head a.id) (k ++ spread cycle_bytes rs) f.ensures
    (put_then k (spread cycle_bytes rs) (put_of k g.ensures.value g.ensures.out_after) h.ensures))
