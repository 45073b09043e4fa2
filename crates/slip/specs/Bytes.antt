-- The ten bytes of a slip: kind, block, end, class, train (two), serial (four), high byte first.
use Rattle.std.specs.Prelude.{◌≡◌, ℕ, ◌+◌, ◌*◌, ◌/◌, ◌%◌, ◌^◌, ◌<◌, cond, List, [], ◌∷◌, length, Some, None, Ok, Err, Option, Result, ◌==◌, nat_le, nat_lt, slice_index}
use Rattle.slip.specs.Form.{InForm, bad_slip, form_checked}
use Rattle.slip.specs.Numbers.{class_letter_lem, class_of, end_number, end_of, kind_number, kind_of, message_kind}
use Rattle.slip.specs.Trains.{known_train_lem}
use Rattle.slip.specs.declared.fault.Fault.{Fault}
use Rattle.slip.specs.declared.paper.Message.{Message}
use Rattle.slip.specs.declared.paper.Slip.{Slip}
use Rattle.slip.specs.declared.paper.SlipKind.{SlipKind}
use Rattle.slip.specs.declared.track.Class.{Class}
use Rattle.slip.specs.declared.track.End.{End}

-- how many bytes a slip has
abbrev pub slip_length : ℕ
slip_length = 10

-- the class letter and the train's number; both are zero but in WANTED
abbrev pub class_byte : Message → ℕ
class_byte (Message.Wanted train class) = class_letter_lem class
class_byte Message.Clear = 0
class_byte Message.Permissive = 0
class_byte Message.NotClear = 0
class_byte Message.Entered = 0
class_byte Message.Out = 0
class_byte Message.Withdraw = 0
class_byte Message.Released = 0

abbrev pub train_number_lem : Message → ℕ
train_number_lem (Message.Wanted train class) = train.number
train_number_lem Message.Clear = 0
train_number_lem Message.Permissive = 0
train_number_lem Message.NotClear = 0
train_number_lem Message.Entered = 0
train_number_lem Message.Out = 0
train_number_lem Message.Withdraw = 0
train_number_lem Message.Released = 0

-- the byte of a number that stands for so many
abbrev pub digit : ℕ → ℕ → ℕ
digit n weight = n / weight % 256

abbrev pub encode : Slip → List ℕ
encode s =
    kind_number (message_kind s.message) ∷ s.block ∷ end_number s.to ∷ class_byte s.message
    ∷ digit (train_number_lem s.message) 256 ∷ (train_number_lem s.message % 256)
    ∷ digit s.serial 16777216 ∷ digit s.serial 65536 ∷ digit s.serial 256 ∷ (s.serial % 256) ∷ []

-- what writing a slip into a buffer of so many bytes answers: length before form
abbrev pub written : Slip → ℕ → Result Unit Fault
written s room = cond (nat_lt room slip_length) (Err (bad_slip 0)) (form_checked s)

abbrev pub train_in : List ℕ → ℕ
train_in bs = slice_index bs 4 * 256 + slice_index bs 5

abbrev pub serial_in : List ℕ → ℕ
serial_in bs = slice_index bs 6 * 16777216 + slice_index bs 7 * 65536 + slice_index bs 8 * 256 + slice_index bs 9

-- a field that has to be there, or the refusal at its position
abbrev pub field : {X Y : Type 0} → ℕ → Option X → (X → Result Y Fault) → Result Y Fault
field place None rest = Err (bad_slip place)
field place (Some x) rest = rest x

-- WANTED has a class letter and a known train's number
abbrev pub wanted_by : ℕ → Class → Result Message Fault
wanted_by number class =
    cond (known_train_lem (record { number = number })) (Ok (Message.Wanted (record { number = number }) class)) (Err (bad_slip 5))

abbrev pub wanted_of : ℕ → ℕ → Result Message Fault
wanted_of letter number = field 4 (class_of letter) (wanted_by number)

-- the other kinds have zeros there
abbrev pub bare : Message → ℕ → ℕ → Result Message Fault
bare m letter number = cond (letter == 0) (cond (number == 0) (Ok m) (Err (bad_slip 5))) (Err (bad_slip 4))

-- what a slip of this kind says, with this class byte and this train number
abbrev pub message_of : SlipKind → ℕ → ℕ → Result Message Fault
message_of SlipKind.Wanted letter number = wanted_of letter number
message_of SlipKind.Clear letter number = bare Message.Clear letter number
message_of SlipKind.Permissive letter number = bare Message.Permissive letter number
message_of SlipKind.NotClear letter number = bare Message.NotClear letter number
message_of SlipKind.Entered letter number = bare Message.Entered letter number
message_of SlipKind.Out letter number = bare Message.Out letter number
message_of SlipKind.Withdraw letter number = bare Message.Withdraw letter number
message_of SlipKind.Released letter number = bare Message.Released letter number

-- a slip whose fields are read in their order, once its message is
abbrev pub slip_with : List ℕ → End → Result Message Fault → Result Slip Fault
slip_with bs end (Ok m) = Ok (record { block = slice_index bs 1; to = end; message = m; serial = serial_in bs })
slip_with bs end (Err f) = Err f

abbrev pub slip_to : List ℕ → SlipKind → End → Result Slip Fault
slip_to bs kind end = slip_with bs end (message_of kind (slice_index bs 3) (train_in bs))

abbrev pub slip_of_lem : List ℕ → SlipKind → Result Slip Fault
slip_of_lem bs kind = cond (nat_le (slice_index bs 1) 14) (field 3 (end_of (slice_index bs 2)) (slip_to bs kind)) (Err (bad_slip 2))

-- what reading bytes answers: length, then kind, block, end, class, train
abbrev pub decode : List ℕ → Result Slip Fault
decode bs = cond (length bs == slip_length) (field 1 (kind_of (slice_index bs 0)) (slip_of_lem bs)) (Err (bad_slip 0))

-- bytes as a buffer holds them
abbrev pub Bytes : List ℕ → Type 0
Bytes bs = (k : ℕ) → k < length bs → slice_index bs k < 256

-- a slip in form, once written, is read again as it was
abbrev pub ReadsBack : Type 0
ReadsBack = (s : Slip) → InForm s → s.serial < 2 ^ 32 → decode (encode s) ≡ Ok s

-- bytes that read as a slip are those that writing it makes, and the slip is in form
abbrev pub WritesBack : Type 0
WritesBack = (bs : List ℕ) (s : Slip) → Bytes bs → decode bs ≡ Ok s → (encode s ≡ bs) × InForm s

-- a worked slip: WANTED, block 0, to the east end, freight train 12, serial 1
abbrev pub worked_slip : Slip
worked_slip = record { block = 0; to = End.East; message = Message.Wanted (record { number = 12 }) Class.Freight; serial = 1 }

-- in hexadecimal 01 00 01 46 00 0C 00 00 00 01
abbrev pub Worked : Type 0
Worked = encode worked_slip ≡ 1 ∷ 0 ∷ 1 ∷ 70 ∷ 0 ∷ 12 ∷ 0 ∷ 0 ∷ 0 ∷ 1 ∷ []
