-- `run::save` meets its contract: a run on arrays from the empty drawing, and the file of what they hold. Assumes nothing.
use Rattle.std.proofs.Common.{T, sym, ap, ◌∙◌, subst}
use Rattle.complex.specs.Calls.{filled}
use Rattle.complex.specs.File.{file_of}
use Rattle.store.specs.View.{sheet_of}
use Rattle.lent.specs.Arrays.{Arrays, held_by, sound_arrays}
use Rattle.call_asked.proofs.Questions.{begun}
use Rattle.run.proofs.Arrays.{saved}
use Rattle.run.proofs.save.Goals as goal

pub run_on-requires : goal.run_on-requires
run_on-requires c = begun _ c.empty-own.ensures.next c.empty-own.ensures.count

pub write_sound-requires : goal.write_sound-requires
write_sound-requires c = subst (λ (x : Arrays). T (sound_arrays x)) (sym c.view.ensures) c.run_on.ensures.ran_on.sound

pub returns : goal.returns
returns c =
    let b = c.args.buffer.now in
    let e = c.write_sound.ensures.said ∙ ap (λ (x : Arrays). filled (file_of (sheet_of (held_by x))) b) c.view.ensures in
    saved (begun _ c.empty-own.ensures.next c.empty-own.ensures.count) c.run_on.ensures.ran_on _ b e
