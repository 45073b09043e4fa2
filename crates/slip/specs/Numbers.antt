-- The number of each kind of slip and of each end, and the letter of each class; and what a number or a letter names.
use Rattle.std.specs.Prelude.{ℕ, cond, Some, None, Ok, Err, Option, Result, ◌==◌}
use Rattle.slip.specs.declared.paper.Message.{Message}
use Rattle.slip.specs.declared.paper.SlipKind.{SlipKind}
use Rattle.slip.specs.declared.track.Class.{Class}
use Rattle.slip.specs.declared.track.Class.TheVariants.{Passenger, Freight, Work, Light}
use Rattle.slip.specs.declared.track.End.{End}
use Rattle.slip.specs.declared.track.End.TheVariants.{West, East}
use Rattle.slip.specs.declared.track.NamesNothing.{NamesNothing}
use Rattle.slip.specs.declared.track.Train.{Train}
use Rattle.slip.specs.Trains.{known_train_lem}

-- what is named, or that nothing is
abbrev pub named : {X : Type 0} → Option X → Result X NamesNothing
named (Some x) = Ok x
named None = Err (record {})

abbrev pub kind_number : SlipKind → ℕ
kind_number SlipKind.Wanted = 1
kind_number SlipKind.Clear = 2
kind_number SlipKind.Permissive = 3
kind_number SlipKind.NotClear = 4
kind_number SlipKind.Entered = 5
kind_number SlipKind.Out = 6
kind_number SlipKind.Withdraw = 7
kind_number SlipKind.Released = 8

abbrev pub kind_of : ℕ → Option SlipKind
kind_of n =
    cond (n == 1) (Some SlipKind.Wanted) (cond (n == 2) (Some SlipKind.Clear) (cond (n == 3) (Some SlipKind.Permissive)
    (cond (n == 4) (Some SlipKind.NotClear) (cond (n == 5) (Some SlipKind.Entered) (cond (n == 6) (Some SlipKind.Out)
    (cond (n == 7) (Some SlipKind.Withdraw) (cond (n == 8) (Some SlipKind.Released) None)))))))

-- the kind of slip that says it
abbrev pub message_kind : Message → SlipKind
message_kind (Message.Wanted train class) = SlipKind.Wanted
message_kind Message.Clear = SlipKind.Clear
message_kind Message.Permissive = SlipKind.Permissive
message_kind Message.NotClear = SlipKind.NotClear
message_kind Message.Entered = SlipKind.Entered
message_kind Message.Out = SlipKind.Out
message_kind Message.Withdraw = SlipKind.Withdraw
message_kind Message.Released = SlipKind.Released

abbrev pub end_number : End → ℕ
end_number West = 0
end_number East = 1

abbrev pub end_of : ℕ → Option End
end_of n = cond (n == 0) (Some West) (cond (n == 1) (Some East) None)

abbrev pub other_end : End → End
other_end West = East
other_end East = West

-- P, F, W and L in ASCII
abbrev pub class_letter_lem : Class → ℕ
class_letter_lem Passenger = 80
class_letter_lem Freight = 70
class_letter_lem Work = 87
class_letter_lem Light = 76

abbrev pub class_of : ℕ → Option Class
class_of n =
    cond (n == 80) (Some Passenger) (cond (n == 70) (Some Freight) (cond (n == 87) (Some Work) (cond (n == 76) (Some Light) None)))

-- a train is named by its number
abbrev pub train_of : ℕ → Option Train
train_of n = cond (known_train_lem (record { number = n })) (Some (record { number = n })) None
