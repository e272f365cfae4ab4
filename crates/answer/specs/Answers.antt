-- What an answer in memory says of a command. Definitions only.
use Rattle.std.specs.Prelude.{ℕ, ◌+◌, ◌-◌, ◌≤◌, ◌≡◌, cond, eqb}
use Rattle.complex.specs.Sound.{cells_most}
use Rattle.complex.specs.Decode.{Command}
use Rattle.complex.specs.Answer.{Answer as Said, asked3}
use Rattle.store.specs.declared.Drawing.{Drawing}
use Rattle.store.specs.View.{sheet_of, Fits}
use Rattle.answer.specs.declared.Answer.{Answer}

-- the answer of the definitions
abbrev pub said_by : Answer → Said
said_by r = record { number = r.number; first = r.first; new = r.new; removed = r.removed; sheet = sheet_of r.drawing }

abbrev pub refusal : Drawing → ℕ → Answer
refusal d n = record { number = n; first = 0; new = 0; removed = 0; drawing = d }

abbrev pub outcome : ℕ → ℕ → Drawing → Answer
outcome next count out =
    let n = out.next - next in
    record { number = 0; first = cond (eqb n 0) 0 next; new = n; removed = count + n - out.count; drawing = out }

-- the next id did not fall, and no more cells came than ids were issued
pub record Counts (next count : ℕ) (out : Drawing) : Type 0 where
  pub rose : next ≤ out.next
  pub few : count ≤ cells_most
  pub issued : out.next - next ≤ cells_most
  pub balance : out.count ≤ count + (out.next - next)

-- the answer r is what questions 3 to 8 and the rules give for the command c on d; on a no it has the very struct
pub record Answers (d : Drawing) (c : Command) (r : Answer) : Type 0 where
  pub said : said_by r ≡ asked3 (sheet_of d) c
  pub back : (r.number ≡ 0 → ⊥) → r.drawing ≡ d
  pub fits : Fits r.drawing
