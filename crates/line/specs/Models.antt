-- A line as the rules speak of it.
use Rattle.std.specs.Prelude.{ℕ, List, map, Ok, Err, Result}
use Rattle.form.specs.declared.Written.{Written}
use Rattle.line.specs.declared.line.Line.{Line}
use Rattle.book.specs.declared.RuleBook.{Ghosts as BookGhosts}
use Rattle.rules.specs.Ends.{Kept}
use Rattle.rules.specs.Lines.{Form, Model, Outcome}
use Rattle.rules.specs.Runs.{Setting}
use Rattle.rules.specs.declared.answers.Answer.{Answer}
use Rattle.rules.specs.declared.answers.Delivered.{Delivered}
use Rattle.rules.specs.declared.answers.Sent.{Sent}
use Rattle.rules.specs.declared.rows.Permission.{Permission}
use Rattle.slip.specs.declared.fault.Fault.{Fault}
use Rattle.slip.specs.declared.paper.SlipKind.{SlipKind}
use Rattle.station.specs.Records.{kept}
use Rattle.wire.specs.declared.Wire.{Ghosts as WireGhosts}

-- what its ends keep
abbrev pub ends_of : {W B : Type 0} {w : WireGhosts W} {b : BookGhosts B} → Line W B w b → List Kept
ends_of l = map kept l.ends.items

-- its ends, and what waits on its wire, by what such a wire means
abbrev pub model : {W B : Type 0} {w : WireGhosts W} {b : BookGhosts B} → Line W B w b → Model
model {w = w} l = record { ends = ends_of l; waiting = w.waiting l.wire.now; room = w.room l.wire.now }

-- where it runs: under its book, over its wire
abbrev pub setting : {W B : Type 0} {w : WireGhosts W} {b : BookGhosts B} → Line W B w b → Setting
setting {w = w} {b = b} l = record { book = b.book; picks = w.picks; loses = w.loses }

-- what a call answers, as one of the answers
abbrev pub as_answer : {X : Type 0} → (X → Answer) → Result X Fault → Result Answer Fault
as_answer answer (Ok x) = Ok (answer x)
as_answer answer (Err fault) = Err fault

-- an outcome's answer, and the line after it
abbrev pub result_of : Outcome → Result Answer Fault × Model
result_of o = (o.answer, o.after)

-- the answers of the calls, as one of the answers
abbrev pub serial_answer : ℕ → Answer
serial_answer serial = Answer.Serial serial

abbrev pub sent_answer : Sent → Answer
sent_answer sent = Answer.Sent sent

abbrev pub shown_answer : Permission → Answer
shown_answer kind = Answer.Shown kind

abbrev pub repeated_answer : SlipKind → Answer
repeated_answer kind = Answer.Repeated kind

abbrev pub delivered_answer : Delivered → Answer
delivered_answer delivered = Answer.Delivered delivered

abbrev pub faded_answer : Unit {0} → Answer
faded_answer unit = Answer.Faded

-- what stands on a form that was written
abbrev pub form_written : Result Written Fault → Result Form Fault
form_written (Ok w) = Ok (record { block = w.paper.block; end = w.paper.end; serial = w.paper.serial; train = record { number = w.paper.train } })
form_written (Err fault) = Err fault
