-- `entry_file_run::run` meets its contract: 10, 9, or what the script's run leaves. Assumes nothing.
use Prim.Native.Nat.{ℕ, ◌≤◌}
use native.Mathlib.Omega.{arith}
use mathlib.Core.Path.{sym, ap, ◌∙◌, subst}
use lib.Dec.{T}
use lib.ListN.{length}
use Rattle.lent.specs.Arrays.{Arrays, sound_arrays}
use Rattle.call_save.specs.Saved.{SavedIn}
use Rattle.call_open.proofs.Judged.{opened_file, opened_none}
use Rattle.entry_room.specs.Rooms.{room_for}
use Rattle.entry_room.proofs.Rooms.{room_parts, nine_of, none_of_lem}
use Rattle.entry_file_run.proofs.Running.{saved_few, run_refused, run_short, run_done_lem}
use Rattle.entry_file_run.specs.Runs.{run_as}
use Rattle.entry_file_run.proofs.run.Goals as goal

pub returns-in_default : goal.returns-in_default
returns-in_default c =
    let a = c.args in
    run_refused a.file.now a.script.now a.lines.now a.out.now (opened_none _ _ c.«open».result c.«open».ensures.opened_in c.in_default.is)

pub returns-then-no-ne0 : goal.returns-then-no-ne0
returns-then-no-ne0 c =
    let a = c.args in
    let asked = room_for (length a.script.now) (length a.lines.now) (length a.out.now) in
    let f = opened_file _ _ c.«open».result c.«open».ensures.opened_in _ c.in-Some.is in
    let n = nine_of asked c.room_no-no.result c.room_no-no.ensures c.if-no-ne0.true in
    ap (λ (x : ℕ). run_as x a.lines.now a.out.now 0 0) n.0
    ∙ run_short a.file.now a.script.now a.lines.now a.out.now _ _ f n.1

pub run_lines-done-requires : goal.run_lines-done-requires
run_lines-done-requires c =
    let a = c.args in
    let asked = room_for (length a.script.now) (length a.lines.now) (length a.out.now) in
    let f = opened_file _ _ c.«open».result c.«open».ensures.opened_in _ c.in-Some.is in
    let room = none_of_lem asked c.room_no-no.result c.room_no-no.ensures c.if-no-ne0.false in
    let p = room_parts (length a.script.now) (length a.lines.now) (length a.out.now) room in
    record {
      t = f.ready.sound;
      script_in_bounds = p.script;
      script_in_bounds_2 = p.lines;
    }

pub write_sound-w-requires : goal.write_sound-w-requires
write_sound-w-requires c = subst (λ (x : Arrays). T (sound_arrays x)) (sym c.view.ensures) c.run_lines-done.ensures.ran_in.sound

pub overflow_cast-commands : goal.overflow_cast-commands
overflow_cast-commands c =
    let a = c.args in
    let asked = room_for (length a.script.now) (length a.lines.now) (length a.out.now) in
    let room = none_of_lem asked c.room_no-no.result c.room_no-no.ensures c.if-no-ne0.false in
    let p = room_parts (length a.script.now) (length a.lines.now) (length a.out.now) room in
    let s = p.script in
    let f : c.run_lines-done.result ≤ length a.script.now = c.run_lines-done.ensures.ran_in.few in
    record { fits = omega arith }

pub overflow_cast-bytes : goal.overflow_cast-bytes
overflow_cast-bytes c =
    let h = saved_few _ _ _ c.write_sound-w.result c.write_sound-w.ensures in
    record { fits = omega arith }

pub returns : goal.returns
returns c =
    let a = c.args in
    let asked = room_for (length a.script.now) (length a.lines.now) (length a.out.now) in
    let f = opened_file _ _ c.«open».result c.«open».ensures.opened_in _ c.in-Some.is in
    let room = none_of_lem asked c.room_no-no.result c.room_no-no.ensures c.if-no-ne0.false in
    let v = subst (λ (x : Arrays). SavedIn x a.out.now c.write_sound-w.new.buffer c.write_sound-w.result) c.view.ensures c.write_sound-w.ensures in
    run_done_lem a.file.now a.script.now a.lines.now a.out.now _ _ f room _ _ _ _ c.write_sound-w.result c.run_lines-done.ensures.ran_in v
