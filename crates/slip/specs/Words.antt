-- What is read of a slip in plain words.
use Rattle.std.specs.Prelude.{ℕ, List, [], ◌∷◌, ◌++◌, codes, decimal}
use Rattle.slip.specs.Numbers.{class_letter_lem, message_kind}
use Rattle.slip.specs.declared.paper.Message.{Message}
use Rattle.slip.specs.declared.paper.Slip.{Slip}
use Rattle.slip.specs.declared.paper.SlipKind.{SlipKind}
use Rattle.slip.specs.declared.track.Class.{Class}
use Rattle.slip.specs.declared.track.End.{End}

abbrev pub kind_word : SlipKind → List ℕ
kind_word SlipKind.Wanted = codes "WANTED"
kind_word SlipKind.Clear = codes "CLEAR"
kind_word SlipKind.Permissive = codes "PERMISSIVE"
kind_word SlipKind.NotClear = codes "NOT CLEAR"
kind_word SlipKind.Entered = codes "ENTERED"
kind_word SlipKind.Out = codes "OUT"
kind_word SlipKind.Withdraw = codes "WITHDRAW"
kind_word SlipKind.Released = codes "RELEASED"

abbrev pub end_word : End → List ℕ
end_word End.West = codes "west"
end_word End.East = codes "east"

-- a class is told by its letter
abbrev pub class_word : Class → List ℕ
class_word c = class_letter_lem c ∷ []

-- WANTED names its train and class
abbrev pub wish_text : Message → List ℕ → List ℕ
wish_text (Message.Wanted train class) rest = codes ", train " ++ (decimal train.number ++ (codes ", class " ++ (class_word class ++ rest)))
wish_text Message.Clear rest = rest
wish_text Message.Permissive rest = rest
wish_text Message.NotClear rest = rest
wish_text Message.Entered rest = rest
wish_text Message.Out rest = rest
wish_text Message.Withdraw rest = rest
wish_text Message.Released rest = rest

abbrev pub slip_text : Slip → List ℕ
slip_text s =
    kind_word (message_kind s.message) ++ (codes ", block " ++ (decimal s.block ++ (codes ", to " ++ (end_word s.to
    ++ wish_text s.message (codes ", serial " ++ decimal s.serial)))))
