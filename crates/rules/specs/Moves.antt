-- What the operators' calls do at the end that makes them: the answer or the fault, and what the end keeps then.
use Rattle.std.specs.Prelude.{ℕ, ◌+◌, Bool, true, false, cond, ◌&&◌, List, [], ◌∷◌, ◌++◌, length, Some, None, Ok, Err, Option, Result, ◌==◌, nat_le}
use Rattle.rules.specs.Ends.{Kept, is_in_lem, is_stop, newest_to, own_of_train, station_fault, with_own, with_promised}
use Rattle.rules.specs.Lists.{find, newest}
use Rattle.rules.specs.declared.rows.HeldRow.{HeldRow}
use Rattle.rules.specs.declared.rows.OwnRow.{OwnRow}
use Rattle.rules.specs.declared.rows.Permission.{Permission}
use Rattle.rules.specs.declared.rows.PromisedRow.{PromisedRow}
use Rattle.rules.specs.declared.rows.RowState.{RowState}
use Rattle.rules.specs.declared.rows.RowState.TheVariants.{Asking, Held, In, Withdrawing}
use Rattle.rules.specs.declared.rows.Word.{Word}
use Rattle.slip.specs.Trains.{same_train}
use Rattle.slip.specs.declared.fault.Cause.{Cause}
use Rattle.slip.specs.declared.fault.Fault.{Fault}
use Rattle.slip.specs.declared.paper.Message.{Message}
use Rattle.slip.specs.declared.track.Class.{Class}
use Rattle.slip.specs.declared.track.Train.{Train}

abbrev pub word : Message → ℕ → Word
word message serial = record { message = message; serial = serial }

-- what a move comes to, and what the end keeps after it
abbrev pub Done : Type 0 → Type 0
Done X = Result X Fault × Kept

abbrev pub turned_away : {X : Type 0} → Cause → ℕ → Kept → Done X
turned_away cause place k = (Err (station_fault cause place), k)

-- ask

abbrev pub is_empty : {X : Type 0} → List X → Bool
is_empty [] = true
is_empty (x ∷ xs) = false

abbrev pub is_some : {X : Type 0} → Option X → Bool
is_some None = false
is_some (Some x) = true

-- no row is open: there is none, or the newest is In
abbrev pub all_in : Option OwnRow → Bool
all_in None = true
all_in (Some r) = is_in_lem r.state

abbrev pub last_serial : ℕ
last_serial = 4294967295

-- the serial of a new asking, or why there is none
abbrev pub next_serial_lem : ℕ → Train → Kept → Result ℕ Fault
next_serial_lem place train k =
    cond (is_empty k.promised)
    (cond (all_in (newest k.own))
    (cond (nat_le 4 (length k.own)) (Err (station_fault Cause.RowsFull place))
    (cond (is_some (find (own_of_train train) k.own)) (Err (station_fault Cause.TrainHasRow place))
    (cond (nat_le last_serial k.used) (Err (station_fault Cause.SerialsUsedUp place)) (Ok (k.used + 1)))))
    (Err (station_fault Cause.RowOpen place)))
    (Err (station_fault Cause.HasPromised place))

abbrev pub new_row : ℕ → Train → Class → OwnRow
new_row serial train class = record { serial = serial; train = train; class = class; state = Asking }

-- a new row joins the own rows, and its serial is the last used
abbrev pub with_asking : ℕ → Train → Class → Kept → Kept
with_asking serial train class k =
    record { own = k.own ++ (new_row serial train class ∷ []); promised = k.promised; used = serial; heard = k.heard; signal = k.signal }

-- withdraw: the newest own row, Asking or Held

abbrev pub withdraw_row : ℕ → Kept → OwnRow → RowState → Done Word
withdraw_row place k r Asking = (Ok (word Message.Withdraw r.serial), with_own k (newest_to k r Withdrawing) None)
withdraw_row place k r (Held kind) = (Ok (word Message.Withdraw r.serial), with_own k (newest_to k r Withdrawing) None)
withdraw_row place k r (In kind) = turned_away Cause.NoSuchRow place k
withdraw_row place k r Withdrawing = turned_away Cause.NoSuchRow place k

abbrev pub withdraw_of : ℕ → Kept → Option OwnRow → Done Word
withdraw_of place k None = turned_away Cause.NoSuchRow place k
withdraw_of place k (Some r) = withdraw_row place k r r.state

abbrev pub withdrawn : ℕ → Kept → Done Word
withdrawn place k = withdraw_of place k (newest k.own)

-- the Held row, which can only be the newest

abbrev pub held_as : OwnRow → RowState → Option HeldRow
held_as r Asking = None
held_as r (Held kind) = Some (record { row = r; permission = kind })
held_as r (In kind) = None
held_as r Withdrawing = None

abbrev pub held_of : Option OwnRow → Option HeldRow
held_of None = None
held_of (Some r) = held_as r r.state

abbrev pub held : Kept → Option HeldRow
held k = held_of (newest k.own)

-- show: the signal takes the Held row's kind

abbrev pub show_of : ℕ → Kept → Option HeldRow → Done Permission
show_of place k None = turned_away Cause.NoSuchRow place k
show_of place k (Some h) = (Ok h.permission, with_own k k.own (Some h.permission))

abbrev pub shown : ℕ → Kept → Done Permission
shown place k = show_of place k (held k)

-- the Held row's train goes in

abbrev pub go_in_lem : Kept → HeldRow → Done Word
go_in_lem k h = (Ok (word Message.Entered h.row.serial), with_own k (newest_to k h.row (In h.permission)) None)

-- enter: under a signal off Stop

abbrev pub enter_of : ℕ → Train → Kept → Option HeldRow → Done Word
enter_of place train k None = turned_away Cause.NoSuchRow place k
enter_of place train k (Some h) =
    cond (same_train h.row.train train) (cond (is_stop k.signal) (turned_away Cause.SignalAtStop place k) (go_in_lem k h)) (turned_away Cause.OtherTrain place k)

abbrev pub entered : ℕ → Train → Kept → Done Word
entered place train k = enter_of place train k (held k)

-- present: by a form, whatever the signal shows

abbrev pub present_of : ℕ → ℕ → Train → Kept → Option HeldRow → Done Word
present_of place serial train k None = turned_away Cause.NoSuchRow place k
present_of place serial train k (Some h) =
    cond (h.row.serial == serial && same_train h.row.train train) (go_in_lem k h) (turned_away Cause.OtherTrain place k)

abbrev pub presented : ℕ → ℕ → Train → Kept → Done Word
presented place serial train k = present_of place serial train k (held k)

-- arrive: the oldest promised row goes, if its train's entry was reported

abbrev pub arrive_of : ℕ → Train → Kept → List PromisedRow → Done Word
arrive_of place train k [] = turned_away Cause.NoSuchRow place k
arrive_of place train k (p ∷ ps) =
    cond (same_train p.train train)
    (cond p.reported (Ok (word Message.Out p.serial), with_promised k ps k.heard) (turned_away Cause.NotReported place k))
    (turned_away Cause.OtherTrain place k)

abbrev pub arrived : ℕ → Train → Kept → Done Word
arrived place train k = arrive_of place train k k.promised

-- repeat: what the train's own row stands for is said again; nothing changes

abbrev pub repeat_row : ℕ → OwnRow → RowState → Result Word Fault
repeat_row place r Asking = Ok (word (Message.Wanted r.train r.class) r.serial)
repeat_row place r (Held kind) = Err (station_fault Cause.NoSuchRow place)
repeat_row place r (In kind) = Ok (word Message.Entered r.serial)
repeat_row place r Withdrawing = Ok (word Message.Withdraw r.serial)

abbrev pub repeat_of : ℕ → Option OwnRow → Result Word Fault
repeat_of place None = Err (station_fault Cause.NoSuchRow place)
repeat_of place (Some r) = repeat_row place r r.state

abbrev pub repeated : ℕ → Train → Kept → Result Word Fault
repeated place train k = repeat_of place (find (own_of_train train) k.own)
