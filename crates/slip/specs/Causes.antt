-- The number of each cause, and who finds it.
use Rattle.std.specs.Prelude.{ℕ, List, ◌++◌, Ok, Err, Result, codes, decimal}
use Rattle.slip.specs.declared.fault.Cause.{Cause}
use Rattle.slip.specs.declared.fault.Fault.{Fault}
use Rattle.slip.specs.declared.fault.Layer.{Layer}
use Rattle.slip.specs.declared.track.NamesNothing.{NamesNothing}

abbrev pub cause_number : Cause → ℕ
cause_number Cause.Unknown = 1
cause_number Cause.HasPromised = 2
cause_number Cause.RowOpen = 3
cause_number Cause.RowsFull = 4
cause_number Cause.TrainHasRow = 5
cause_number Cause.SerialsUsedUp = 6
cause_number Cause.NoSuchRow = 7
cause_number Cause.OtherTrain = 8
cause_number Cause.SignalAtStop = 9
cause_number Cause.NotReported = 10
cause_number Cause.WireFull = 11
cause_number Cause.NothingWaits = 12
cause_number Cause.Unreadable = 13

abbrev pub layer_number : Layer → ℕ
layer_number Layer.Line = 1
layer_number Layer.Station = 2
layer_number Layer.Wire = 3
layer_number Layer.Sheet = 4

abbrev pub cause_layer : Cause → Layer
cause_layer Cause.Unknown = Layer.Line
cause_layer Cause.HasPromised = Layer.Station
cause_layer Cause.RowOpen = Layer.Station
cause_layer Cause.RowsFull = Layer.Station
cause_layer Cause.TrainHasRow = Layer.Station
cause_layer Cause.SerialsUsedUp = Layer.Station
cause_layer Cause.NoSuchRow = Layer.Station
cause_layer Cause.OtherTrain = Layer.Station
cause_layer Cause.SignalAtStop = Layer.Station
cause_layer Cause.NotReported = Layer.Station
cause_layer Cause.WireFull = Layer.Wire
cause_layer Cause.NothingWaits = Layer.Wire
cause_layer Cause.Unreadable = Layer.Sheet

-- a fault is told by three numbers: its cause's, its layer's, and its place
abbrev pub fault_number : Fault → ℕ
fault_number f = cause_number f.cause

abbrev pub fault_layer : Fault → ℕ
fault_layer f = layer_number (cause_layer f.cause)

-- and in words
abbrev pub fault_text : Fault → List ℕ
fault_text f =
    codes "number " ++ (decimal (fault_number f) ++ (codes ", layer " ++ (decimal (fault_layer f) ++ (codes ", place " ++ decimal f.place))))

-- a field or an argument that names nothing is refused at its position
abbrev pub known_at : {X : Type 0} → ℕ → Result X NamesNothing → Result X Fault
known_at position (Ok x) = Ok x
known_at position (Err nothing) = Err (record { cause = Cause.Unknown; place = position })
