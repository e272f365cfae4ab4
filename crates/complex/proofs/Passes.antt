-- A command that got a yes to every question, and what it must show then. Assumes nothing.
use lib.Dec.{T, leb}
use Rattle.complex.specs.Cells.{Sheet}
use Rattle.complex.specs.Sound.{ids_end, ceilings}
use Rattle.complex.specs.Decode.{Command}
use Rattle.complex.specs.Commands.{question3, question4, question5, question6, result}
use Rattle.complex.proofs.Keep.{Sound}

-- questions 3 to 8 got a yes
pub record Passes (s : Sheet) (c : Command) : Type 0 where
  pub three : T (question3 c)
  pub four : T (question4 s c)
  pub five : T (question5 s c)
  pub six : T (question6 s c)
  pub seven : T (leb (result s c).next ids_end)
  pub eight : T (ceilings (result s c).cells)

abbrev pub KeepsSound : Command → Type 0
KeepsSound c = (s : Sheet) → Sound s → Passes s c → Sound (result s c)
