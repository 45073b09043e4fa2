-- The worked trials.
use Rattle.std.specs.Prelude.{◌≡◌, ℕ, List, [], ◌∷◌, ◌++◌, map, length, Ok, Err, Result}
use Rattle.book.specs.Books.{class_book}
use Rattle.rules.specs.Ends.{station_fault}
use Rattle.rules.specs.Lines.{bad_argument, nothing_waits, slip_from, written_form}
use Rattle.rules.specs.Moves.{word}
use Rattle.rules.specs.Runs.{Event, MadeSilent, Run}
use Rattle.rules.specs.Tally.{Entry, empty, tally}
use Rattle.rules.specs.declared.calls.Call.{Call}
use Rattle.slip.specs.Bytes.{encode, worked_slip}
use Rattle.slip.specs.Causes.{fault_layer, fault_number}
use Rattle.slip.specs.declared.fault.Cause.{Cause}
use Rattle.slip.specs.declared.fault.Fault.{Fault}
use Rattle.slip.specs.declared.paper.Message.{Message}
use Rattle.slip.specs.declared.paper.Slip.{Slip}
use Rattle.slip.specs.declared.track.End.TheVariants.{East}
use Rattle.telegraph.specs.Ring.{room_of}
use Rattle.trials.specs.Plays.{Played, Turn, answers, by_rule, in_turn, play, two_blocks}
use Rattle.wire.specs.Waiting.{full_wire}

-- calls at block 0, by its west end (0) and its east end (1); classes by their letters in ASCII

abbrev pub P : ℕ
P = 80

abbrev pub F : ℕ
F = 70

abbrev pub W : ℕ
W = 87

abbrev pub turn : Call → Turn
turn call = record { call = call; place = 0 }

abbrev pub ask : ℕ → ℕ → ℕ → Turn
ask end train class = turn (Call.Ask 0 end train class)

abbrev pub withdraw : ℕ → Turn
withdraw end = turn (Call.Withdraw 0 end)

abbrev pub show : ℕ → Turn
show end = turn (Call.Show 0 end)

abbrev pub enter : ℕ → ℕ → Turn
enter end train = turn (Call.Enter 0 end train)

abbrev pub present : ℕ → ℕ → ℕ → Turn
present end serial train = turn (Call.Present 0 end serial train)

abbrev pub arrive : ℕ → ℕ → Turn
arrive end train = turn (Call.Arrive 0 end train)

abbrev pub repeat : ℕ → ℕ → Turn
repeat end train = turn (Call.Repeat 0 end train)

abbrev pub deliver : Turn
deliver = turn Call.Deliver

-- out of order
abbrev pub deliver_at : ℕ → Turn
deliver_at place = record { call = Call.Deliver; place = place }

-- a day under the class book, over a wire with room for 64 slips
abbrev pub day : List Turn → Played
day ts = play (by_rule class_book) (two_blocks 64 0) ts

abbrev pub heard_on : List Turn → List (Result ℕ Fault)
heard_on ts = answers (day ts).events

-- the latest slips put
abbrev pub last_puts : List Event → List Slip
last_puts [] = []
last_puts (e ∷ es) = e.puts

-- a train asks, its permission comes, it is shown, enters, and its entry is reported; and what that answers

abbrev pub through : ℕ → ℕ → List Turn
through train class = ask 0 train class ∷ deliver ∷ deliver ∷ show 0 ∷ enter 0 train ∷ deliver ∷ []

abbrev pub through_clear : ℕ → List (Result ℕ Fault)
through_clear serial = Ok serial ∷ Ok 12 ∷ Ok 21 ∷ Ok 1 ∷ Ok 1 ∷ Ok 51 ∷ []

abbrev pub through_permissive : ℕ → List (Result ℕ Fault)
through_permissive serial = Ok serial ∷ Ok 12 ∷ Ok 31 ∷ Ok 2 ∷ Ok 1 ∷ Ok 51 ∷ []

-- another asks behind it, and is refused
abbrev pub asks_behind : ℕ → ℕ → List Turn
asks_behind train class = ask 0 train class ∷ deliver ∷ deliver ∷ []

abbrev pub refused : ℕ → List (Result ℕ Fault)
refused serial = Ok serial ∷ Ok 12 ∷ Ok 41 ∷ []

-- a refusal as a report prints it: number, layer and place
abbrev pub printed : Fault → ℕ × ℕ × ℕ
printed f = (fault_number f, fault_layer f, f.place)

pub record Trials : Type 0 where
  pub train_9999 : heard_on (ask 0 9999 F ∷ []) ≡ Ok 1 ∷ []
  pub train_10000 : heard_on (ask 0 10000 F ∷ []) ≡ Err (bad_argument 3) ∷ []
  pub both_ask : heard_on (ask 0 1 F ∷ ask 1 2 F ∷ deliver ∷ deliver ∷ deliver ∷ deliver ∷ []) ≡ Ok 1 ∷ Ok 1 ∷ Ok 12 ∷ Ok 12 ∷ Ok 41 ∷ Ok 41 ∷ []
  pub behind_two : heard_on (through 1 F ++ (through 2 F ++ through 3 F)) ≡ through_clear 1 ++ (through_permissive 2 ++ through_permissive 3)
  pub behind_three : heard_on (through 1 F ++ (through 2 F ++ (through 3 F ++ asks_behind 4 F))) ≡ through_clear 1 ++ (through_permissive 2 ++ (through_permissive 3 ++ refused 4))
  pub freight_behind_work : heard_on (through 1 W ++ through 2 F) ≡ through_clear 1 ++ through_permissive 2
  pub freight_behind_passenger : heard_on (through 1 P ++ asks_behind 2 F) ≡ through_clear 1 ++ refused 2
  pub passenger_behind_freight : heard_on (through 1 F ++ asks_behind 2 P) ≡ through_clear 1 ++ refused 2
  -- WITHDRAW overtakes its WANTED: RELEASED, and the WANTED gets NOT CLEAR, which finds no row
  pub withdraw_first : heard_on (ask 0 1 F ∷ withdraw 0 ∷ deliver_at 1 ∷ deliver ∷ deliver ∷ deliver ∷ []) ≡ Ok 1 ∷ Ok 1 ∷ Ok 72 ∷ Ok 12 ∷ Ok 81 ∷ Ok 40 ∷ []
  -- WANTED repeated: its second CLEAR comes after the entry
  pub clear_late : heard_on (ask 0 1 F ∷ deliver ∷ repeat 0 1 ∷ deliver ∷ show 0 ∷ enter 0 1 ∷ deliver ∷ deliver ∷ deliver ∷ []) ≡ Ok 1 ∷ Ok 12 ∷ Ok 1 ∷ Ok 21 ∷ Ok 1 ∷ Ok 1 ∷ Ok 12 ∷ Ok 51 ∷ Ok 20 ∷ []
  -- ENTERED repeated: the second comes after the arrival, and OUT is replied
  pub entered_late : heard_on (through 1 F ++ (repeat 0 1 ∷ arrive 1 1 ∷ deliver ∷ [])) ≡ through_clear 1 ++ (Ok 5 ∷ Ok 1 ∷ Ok 52 ∷ [])
  pub entered_late_out : last_puts (day (through 1 F ++ (repeat 0 1 ∷ arrive 1 1 ∷ deliver ∷ []))).events ≡ slip_from 0 East (word Message.Out 1) ∷ []
  pub slip_put : last_puts (day (ask 0 12 F ∷ [])).events ≡ worked_slip ∷ []
  pub slip_bytes_lem : encode worked_slip ≡ 1 ∷ 0 ∷ 1 ∷ 70 ∷ 0 ∷ 12 ∷ 0 ∷ 0 ∷ 0 ∷ 1 ∷ []
  -- over a telegraph of 9 bytes, and of 10
  pub rooms : (room_of 9 ≡ 0) × (room_of 10 ≡ 1)
  pub no_room : answers (play (by_rule class_book) (two_blocks (room_of 9) 0) (ask 0 1 F ∷ [])).events ≡ Err (full_wire 0) ∷ []
  pub room_for_one : answers (play (by_rule class_book) (two_blocks (room_of 10) 0) (ask 0 1 F ∷ repeat 0 1 ∷ withdraw 0 ∷ [])).events ≡ Ok 1 ∷ Err (full_wire 1) ∷ Ok 0 ∷ []
  pub last_serial : answers (play (by_rule class_book) (two_blocks 64 4294967294) (ask 0 1 F ∷ withdraw 0 ∷ deliver ∷ deliver ∷ deliver ∷ deliver ∷ ask 0 1 F ∷ [])).events ≡
      Ok 4294967295 ∷ Ok 1 ∷ Ok 12 ∷ Ok 72 ∷ Ok 20 ∷ Ok 81 ∷ Err (station_fault Cause.SerialsUsedUp 0) ∷ []
  -- a form copies the Held row, and lets its train in under a signal at Stop
  pub form_written : written_form 0 0 (day (ask 0 12 F ∷ deliver ∷ deliver ∷ [])).after ≡ Ok (record { block = 0; end = 0; serial = 1; train = record { number = 12 } })
  pub form_unheld : written_form 0 1 (day []).after ≡ Err (station_fault Cause.NoSuchRow 1)
  pub form_nowhere : written_form 2 0 (day []).after ≡ Err (bad_argument 1)
  pub form_presented : heard_on (ask 0 12 F ∷ deliver ∷ deliver ∷ enter 0 12 ∷ present 0 2 12 ∷ present 0 1 12 ∷ []) ≡
      Ok 1 ∷ Ok 12 ∷ Ok 21 ∷ Err (station_fault Cause.SignalAtStop 0) ∷ Err (station_fault Cause.OtherTrain 0) ∷ Ok 1 ∷ []
  -- the refusals that these meet
  pub refusals : map printed (bad_argument 3 ∷ full_wire 0 ∷ full_wire 1 ∷ station_fault Cause.SerialsUsedUp 0 ∷ station_fault Cause.NoSuchRow 1 ∷ bad_argument 1 ∷ station_fault Cause.SignalAtStop 0 ∷ station_fault Cause.OtherTrain 0 ∷ []) ≡
      (1, 1, 3) ∷ (11, 3, 0) ∷ (11, 3, 1) ∷ (6, 2, 0) ∷ (7, 2, 1) ∷ (1, 1, 1) ∷ (9, 2, 0) ∷ (8, 2, 0) ∷ []

-- the thirteen readable lines of the worked sheet
abbrev pub sheet_lines : List Turn
sheet_lines =
    ask 0 12 F ∷ deliver ∷ deliver ∷ show 0 ∷ enter 0 12 ∷ ask 0 14 P ∷ deliver ∷ deliver ∷ deliver ∷ arrive 1 12 ∷ deliver ∷ arrive 1 12 ∷ deliver ∷ []

abbrev pub choices_of : Entry → List ℕ
choices_of e = e.choices

pub record Sheet : Type 0 where
  pub run : Run (in_turn class_book) MadeSilent (day sheet_lines).events (day sheet_lines).after
  pub answers : heard_on sheet_lines ≡
      Ok 1 ∷ Ok 12 ∷ Ok 21 ∷ Ok 1 ∷ Ok 1 ∷ Ok 2 ∷ Ok 51 ∷ Ok 12 ∷ Ok 41 ∷ Ok 1 ∷ Ok 61 ∷ Err (station_fault Cause.NoSuchRow 1) ∷ Err nothing_waits ∷ []
  pub refusals : map printed (station_fault Cause.NoSuchRow 1 ∷ nothing_waits ∷ []) ≡ (7, 2, 1) ∷ (12, 3, 0) ∷ []
  -- what an onlooker counted of trains from west to east: one permission, one entry that spent it, one arrival
  pub given : length (tally empty (day sheet_lines).events 0).leaving.given ≡ 1
  pub entries : map choices_of (tally empty (day sheet_lines).events 0).leaving.entries ≡ (1 ∷ []) ∷ []
  pub arrivals : (tally empty (day sheet_lines).events 0).leaving.arrivals ≡ 1
  pub between : (tally empty (day sheet_lines).events 0).leaving.between ≡ []
