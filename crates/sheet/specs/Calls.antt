-- What a line of a sheet asks of a railroad's line.
use Rattle.std.specs.Prelude.{◌≡◌, ℕ, List, Ok, Err, Result}
use Rattle.rules.specs.Laws.{Performed}
use Rattle.rules.specs.Lines.{Form, Model, written_form}
use Rattle.rules.specs.Runs.{Setting}
use Rattle.rules.specs.declared.answers.Answer.{Answer}
use Rattle.rules.specs.declared.calls.Call.{Call}
use Rattle.slip.specs.Numbers.{end_number}
use Rattle.slip.specs.declared.fault.Fault.{Fault}
use Rattle.words.specs.Reading.{command_of}
use Rattle.words.specs.declared.command.Command.{Command}

-- a form that could be written is presented as it stands
abbrev pub presents : Result Form Fault → Result Call Fault
presents (Ok f) = Ok (Call.Present f.block f.end f.serial f.train.number)
presents (Err fault) = Err fault

-- the call that a command stands for on a line; `form` is the form that can be written there, presented
abbrev pub call_of : Command → Model → Result Call Fault
call_of (Command.Ask block end train class) m = Ok (Call.Ask block (end_number end) train class)
call_of (Command.Withdraw block end) m = Ok (Call.Withdraw block (end_number end))
call_of (Command.Show block end) m = Ok (Call.Show block (end_number end))
call_of (Command.Enter block end train) m = Ok (Call.Enter block (end_number end) train)
call_of (Command.Form block end) m = presents (written_form block (end_number end) m)
call_of (Command.Arrive block end train) m = Ok (Call.Arrive block (end_number end) train)
call_of (Command.Repeat block end train) m = Ok (Call.Repeat block (end_number end) train)
call_of Command.Deliver m = Ok Call.Deliver
call_of Command.Fade m = Ok Call.Fade

abbrev pub call_if : Result Command Fault → Model → Result Call Fault
call_if (Ok command) m = call_of command m
call_if (Err fault) m = Err fault

-- the call that a line's bytes stand for, or why there is none
abbrev pub call_at : List ℕ → Model → Result Call Fault
call_at line m = call_if (command_of line) m

-- a call is performed; where there is none, the fault is answered and nothing changes
abbrev pub Turn : Setting → Result Call Fault → Model → Result Answer Fault → Model → Type 0
Turn s (Ok call) m r m' = Performed s call m r m'
Turn s (Err fault) m r m' = (r ≡ Err fault) × (m' ≡ m)
