-- Demand 3 of the entries' own answers, over any list. Assumes nothing.
use Rattle.std.specs.Prelude.{◌≡◌, ℕ, Bool, cond, T, List}
use mathlib.Core.Path.{ap, ◌∙◌}
use Rattle.complex.specs.Cells.{empty}
use Rattle.complex.specs.Answer.{Answer as Said, no, command}
use Rattle.complex.specs.Demands.{after, shares}
use Rattle.complex.proofs.Bools.{true_of}
use Rattle.demands.proofs.Lists.{Right, Obeys, after_calls}
use Rattle.demands.proofs.Lists as lists
use Rattle.store.specs.declared.Drawing.{Drawing}
use Rattle.store.specs.View.{sheet_of}
use Rattle.sound.specs.Soundness.{sound_drawing}
use Rattle.sound.proofs.Meaning.{sound_sheet_lem}
use Rattle.rows_star.proofs.Answers.{star_of_sheet}
use Rattle.rows_euler.proofs.Meaning.{euler_of_sheet}
use Rattle.answer.specs.Answers.{said_by}
use Rattle.register.specs.Entries.{Commanded}
use Rattle.register.specs.Demands.{Call, calls, Ends, EntriesDemand3}

right : Right calls
right = record { sheets = sound_sheet_lem; stars = star_of_sheet; eulers = euler_of_sheet }

obeys : (d : Drawing) (c : Call) → T (sound_drawing d) → Commanded d c.bytes c.answer → Obeys calls d c
obeys d c w m =
    let s = sheet_of d in
    let e : said_by c.answer ≡ command s c.bytes = m.said ∙ ap (λ (b : Bool). cond b (command s c.bytes) (no 1 s)) (true_of (sound_drawing d) w) in
    record { number = ap (λ (y : Said). y.number) e; sheet = ap (λ (y : Said). y.sheet) e; sound = m.sound w }

pub ends_after : (d : Drawing) → T (sound_drawing d) → (bs : List (List ℕ)) → sheet_of d ≡ after empty bs → Ends d (shares empty bs)
ends_after = lists.ends_after calls right

pub entries_demand3 : EntriesDemand3
entries_demand3 d cs z a = after_calls calls right (λ (x : Drawing) (c : Call). Commanded x c.bytes c.answer) obeys d cs z.sheet z.sound a
