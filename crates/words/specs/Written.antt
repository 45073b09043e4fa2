-- A call written as a line of a sheet, and that just such lines can be read.
use Rattle.std.specs.Prelude.{◌≡◌, ℕ, ◌<◌, ◌≤◌, List, [], ◌∷◌, ◌++◌, Ok, codes, decimal}
use Rattle.slip.specs.declared.track.End.{End}
use Rattle.slip.specs.declared.track.End.TheVariants.{East, West}
use Rattle.words.specs.Reading.{command_of}
use Rattle.words.specs.declared.command.Command.{Command}

-- words with one space, 32, between each two
abbrev pub joined : List (List ℕ) → List ℕ
joined [] = []
joined (word ∷ []) = word
joined (word ∷ next ∷ words) = word ++ (32 ∷ joined (next ∷ words))

abbrev pub end_text : End → List ℕ
end_text West = codes "w"
end_text East = codes "e"

abbrev pub written : Command → List ℕ
written (Command.Ask block end train class) = joined (codes "ask" ∷ decimal block ∷ end_text end ∷ decimal train ∷ (class ∷ []) ∷ [])
written (Command.Withdraw block end) = joined (codes "withdraw" ∷ decimal block ∷ end_text end ∷ [])
written (Command.Show block end) = joined (codes "show" ∷ decimal block ∷ end_text end ∷ [])
written (Command.Enter block end train) = joined (codes "enter" ∷ decimal block ∷ end_text end ∷ decimal train ∷ [])
written (Command.Form block end) = joined (codes "form" ∷ decimal block ∷ end_text end ∷ [])
written (Command.Arrive block end train) = joined (codes "arrive" ∷ decimal block ∷ end_text end ∷ decimal train ∷ [])
written (Command.Repeat block end train) = joined (codes "repeat" ∷ decimal block ∷ end_text end ∷ decimal train ∷ [])
written Command.Deliver = codes "deliver"
written Command.Fade = codes "fade"

-- its numbers have at most five digits, and its class is a capital
abbrev pub Writable : Command → Type 0
Writable (Command.Ask block end train class) = (block < 100000) × (train < 100000) × (65 ≤ class) × (class ≤ 90)
Writable (Command.Withdraw block end) = block < 100000
Writable (Command.Show block end) = block < 100000
Writable (Command.Enter block end train) = (block < 100000) × (train < 100000)
Writable (Command.Form block end) = block < 100000
Writable (Command.Arrive block end train) = (block < 100000) × (train < 100000)
Writable (Command.Repeat block end train) = (block < 100000) × (train < 100000)
Writable Command.Deliver = Unit {0}
Writable Command.Fade = Unit {0}

-- A written call reads as itself, and no other line reads as it.
pub record ReadsWritten : Type 0 where
  pub back : (c : Command) → Writable c → command_of (written c) ≡ Ok c
  pub only : (line : List ℕ) (c : Command) → command_of line ≡ Ok c → Writable c × (written c ≡ line)
