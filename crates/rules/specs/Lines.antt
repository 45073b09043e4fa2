-- A line of blocks over a wire, and what each call comes to.
use Rattle.std.specs.Prelude.{ℕ, ◌+◌, ◌*◌, ◌/◌, cond, List, [], ◌∷◌, length, Some, None, Ok, Err, Option, Result, nat_lt, slice_index_or, slice_set}
use Rattle.book.specs.Books.{Book}
use Rattle.rules.specs.Ends.{Kept, idle, station_fault}
use Rattle.rules.specs.Hearing.{hears}
use Rattle.rules.specs.Moves.{Done, arrived, entered, held, next_serial_lem, presented, repeated, shown, with_asking, withdrawn, word}
use Rattle.rules.specs.declared.answers.Answer.{Answer}
use Rattle.rules.specs.declared.answers.Ending.{Ending}
use Rattle.rules.specs.declared.answers.Sent.{Sent}
use Rattle.rules.specs.declared.rows.Heard.{Heard}
use Rattle.rules.specs.declared.rows.HeldRow.{HeldRow}
use Rattle.rules.specs.declared.rows.Permission.{Permission}
use Rattle.rules.specs.declared.rows.Word.{Word}
use Rattle.slip.specs.Numbers.{class_of, end_number, end_of, message_kind, other_end}
use Rattle.slip.specs.Trains.{known_train_lem}
use Rattle.slip.specs.declared.fault.Cause.{Cause}
use Rattle.slip.specs.declared.fault.Fault.{Fault}
use Rattle.slip.specs.declared.paper.Message.{Message}
use Rattle.slip.specs.declared.paper.Slip.{Slip}
use Rattle.slip.specs.declared.track.Class.{Class}
use Rattle.slip.specs.declared.track.End.{End}
use Rattle.slip.specs.declared.track.Train.{Train}
use Rattle.wire.specs.Waiting.{put_after, put_answer}

-- the ends, each block's west end and then its east end; the slips that wait; and the wire's room
pub record Model : Type 0 where
  pub ends : List Kept
  pub waiting : List Slip
  pub room : ℕ

-- how many blocks there are, where an end of a block stands, and what it keeps
abbrev pub blocks : List Kept → ℕ
blocks ks = length ks / 2

abbrev pub site : ℕ → End → ℕ
site block end = 2 * block + end_number end

abbrev pub at_end : List Kept → ℕ → End → Kept
at_end ks block end = slice_index_or ks (site block end) (idle 0)

-- the same line with another such end
abbrev pub with_end : List Kept → ℕ → End → Kept → List Kept
with_end ks block end k = slice_set ks (site block end) k

-- what a call comes to: its answer, the slips that its rule puts, taken by the wire or not, and the line after it
pub record Outcome : Type 0 where
  pub answer : Result Answer Fault
  pub puts : List Slip
  pub after : Model

-- a call that is turned away puts nothing and changes nothing
abbrev pub refusal : Model → Fault → Outcome
refusal m fault = record { answer = Err fault; puts = []; after = m }

-- go on with what was found, or turn the call away
abbrev pub then : {X : Type 0} → Model → Result X Fault → (X → Outcome) → Outcome
then m (Ok x) rest = rest x
then m (Err fault) rest = refusal m fault

-- the arguments: the position of the first bad one

abbrev pub bad_argument : ℕ → Fault
bad_argument position = record { cause = Cause.Unknown; place = position }

abbrev pub given_or : {X : Type 0} → ℕ → Option X → Result X Fault
given_or position None = Err (bad_argument position)
given_or position (Some x) = Ok x

-- first one of so many blocks, second one of its two ends
abbrev pub located : ℕ → ℕ → ℕ → Result End Fault
located count block end = cond (nat_lt block count) (given_or 2 (end_of end)) (Err (bad_argument 1))

abbrev pub train_at : ℕ → ℕ → Result Train Fault
train_at position number =
    cond (known_train_lem (record { number = number })) (Ok (record { number = number })) (Err (bad_argument position))

abbrev pub class_at : ℕ → ℕ → Result Class Fault
class_at position letter = given_or position (class_of letter)

-- sending

-- the slip by which an end says a word to the other end of its block
abbrev pub slip_from : ℕ → End → Word → Slip
slip_from block end w = record { block = block; to = other_end end; message = w.message; serial = w.serial }

abbrev pub sent_by : Result Unit Fault → Sent
sent_by (Ok unit) = Sent.Taken
sent_by (Err fault) = Sent.NotTaken

-- the end keeps k and its slip is put: performed whether the wire takes the slip or not
abbrev pub sending : Model → ℕ → End → Kept → Slip → Outcome
sending m block end k s = record {
  answer = Ok (Answer.Sent (sent_by (put_answer s m.waiting m.room)));
  puts = s ∷ [];
  after = record { ends = with_end m.ends block end k; waiting = put_after s m.waiting m.room; room = m.room };
}

abbrev pub send_of : Model → ℕ → End → Kept → Result Word Fault → Outcome
send_of m block end k (Ok w) = sending m block end k (slip_from block end w)
send_of m block end k (Err fault) = refusal m fault

abbrev pub sends : Model → ℕ → End → Done Word → Outcome
sends m block end done = send_of m block end done.1 done.0

-- the end keeps k and its slip is put, but only if the wire takes it
abbrev pub insisting : Answer → Model → ℕ → End → Kept → Slip → Result Unit Fault → Outcome
insisting answer m block end k s (Ok unit) = record {
  answer = Ok answer;
  puts = s ∷ [];
  after = record { ends = with_end m.ends block end k; waiting = put_after s m.waiting m.room; room = m.room };
}
insisting answer m block end k s (Err fault) = refusal m fault

-- the calls

abbrev pub asks : Model → ℕ → End → Train → Class → ℕ → Outcome
asks m block end train class serial =
    let s = slip_from block end (word (Message.Wanted train class) serial) in
    insisting (Answer.Serial serial) m block end (with_asking serial train class (at_end m.ends block end)) s (put_answer s m.waiting m.room)

abbrev pub ask_outcome : ℕ → ℕ → ℕ → ℕ → Model → Outcome
ask_outcome block end train class m =
    then m (located (blocks m.ends) block end) λ e.
    then m (train_at 3 train) λ t.
    then m (class_at 4 class) λ c.
    then m (next_serial_lem (site block e) t (at_end m.ends block e)) λ serial.
    asks m block e t c serial

abbrev pub withdraw_outcome : ℕ → ℕ → Model → Outcome
withdraw_outcome block end m =
    then m (located (blocks m.ends) block end) λ e.
    sends m block e (withdrawn (site block e) (at_end m.ends block e))

abbrev pub show_end : Model → ℕ → End → Kept → Result Permission Fault → Outcome
show_end m block end k (Ok kind) = record { answer = Ok (Answer.Shown kind); puts = []; after = record { ends = with_end m.ends block end k; waiting = m.waiting; room = m.room } }
show_end m block end k (Err fault) = refusal m fault

abbrev pub show_outcome : ℕ → ℕ → Model → Outcome
show_outcome block end m =
    then m (located (blocks m.ends) block end) λ e.
    let done = shown (site block e) (at_end m.ends block e) in show_end m block e done.1 done.0

abbrev pub enter_outcome : ℕ → ℕ → ℕ → Model → Outcome
enter_outcome block end train m =
    then m (located (blocks m.ends) block end) λ e.
    then m (train_at 3 train) λ t.
    sends m block e (entered (site block e) t (at_end m.ends block e))

-- a form's fields are block, end, serial and train
abbrev pub present_outcome : ℕ → ℕ → ℕ → ℕ → Model → Outcome
present_outcome block end serial train m =
    then m (located (blocks m.ends) block end) λ e.
    then m (train_at 4 train) λ t.
    sends m block e (presented (site block e) serial t (at_end m.ends block e))

abbrev pub arrive_outcome : ℕ → ℕ → ℕ → Model → Outcome
arrive_outcome block end train m =
    then m (located (blocks m.ends) block end) λ e.
    then m (train_at 3 train) λ t.
    sends m block e (arrived (site block e) t (at_end m.ends block e))

abbrev pub says_again : Model → ℕ → End → Word → Outcome
says_again m block end w =
    let s = slip_from block end w in
    insisting (Answer.Repeated (message_kind w.message)) m block end (at_end m.ends block end) s (put_answer s m.waiting m.room)

abbrev pub repeat_outcome : ℕ → ℕ → ℕ → Model → Outcome
repeat_outcome block end train m =
    then m (located (blocks m.ends) block end) λ e.
    then m (train_at 3 train) λ t.
    then m (repeated (site block e) t (at_end m.ends block e)) λ w.
    says_again m block e w

-- deliver

abbrev pub nothing_waits : Fault
nothing_waits = record { cause = Cause.NothingWaits; place = 0 }

abbrev pub delivered_as : Slip → Ending → Result Answer Fault
delivered_as s ending = Ok (Answer.Delivered (record { kind = message_kind s.message; ending = ending }))

abbrev pub ending_by : Result Unit Fault → Ending
ending_by (Ok unit) = Ending.Replied
ending_by (Err fault) = Ending.ReplyNotTaken

-- m is the line after the slip was taken and heard; a reply goes back to the end that sent it
abbrev pub replying : Model → Slip → Heard → Outcome
replying m s Heard.Ignored = record { answer = delivered_as s Ending.Ignored; puts = []; after = m }
replying m s Heard.Found = record { answer = delivered_as s Ending.Found; puts = []; after = m }
replying m s (Heard.Reply message) =
    let r = slip_from s.block s.to (word message s.serial) in record {
      answer = delivered_as s (ending_by (put_answer r m.waiting m.room));
      puts = r ∷ [];
      after = record { ends = m.ends; waiting = put_after r m.waiting m.room; room = m.room };
    }

abbrev pub with_waiting : Model → List Slip → Model
with_waiting m left = record { ends = m.ends; waiting = left; room = m.room }

-- the slip is handed to its end
abbrev pub handing : Book → Model → List Slip → Slip → Outcome
handing b m left s =
    let heard = hears b s.serial s.message (at_end m.ends s.block s.to) in
    replying (record { ends = with_end m.ends s.block s.to heard.1; waiting = left; room = m.room }) s heard.0

-- a slip for a block that the line does not have is taken, and that is all
abbrev pub deliver_outcome : Book → Model → List Slip → Option Slip → Outcome
deliver_outcome b m left None = refusal m nothing_waits
deliver_outcome b m left (Some s) =
    cond (nat_lt s.block (blocks m.ends)) (handing b m left s) (record { answer = delivered_as s Ending.Ignored; puts = []; after = with_waiting m left })

-- fade

abbrev pub fade_outcome : Model → List Slip → Outcome
fade_outcome m left = record { answer = Ok Answer.Faded; puts = []; after = with_waiting m left }

-- writing a form changes nothing: it copies the Held row

pub record Form : Type 0 where
  pub block : ℕ
  pub end : ℕ
  pub serial : ℕ
  pub train : Train

abbrev pub form_of : ℕ → End → Option HeldRow → Result Form Fault
form_of block end None = Err (station_fault Cause.NoSuchRow (site block end))
form_of block end (Some h) = Ok (record { block = block; end = end_number end; serial = h.row.serial; train = h.row.train })

abbrev pub form_at : List Kept → ℕ → Result End Fault → Result Form Fault
form_at ks block (Err fault) = Err fault
form_at ks block (Ok end) = form_of block end (held (at_end ks block end))

abbrev pub written_form : ℕ → ℕ → Model → Result Form Fault
written_form block end m = form_at m.ends block (located (blocks m.ends) block end)
