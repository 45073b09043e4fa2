-- A whole sheet: its lines, the calls that they make, and the report.
use Rattle.std.specs.Prelude.{◌≡◌, ℕ, ◌+◌, List, [], ◌∷◌, ◌++◌, length, take, replicate, Some, None, Ok, Err, Result}
use Rattle.book.specs.Books.{class_book}
use Rattle.lines.specs.Lines.{lines_of}
use Rattle.rules.specs.Ends.{idle}
use Rattle.rules.specs.Laws.{SafeAfter}
use Rattle.rules.specs.Lines.{Model, Outcome, refusal}
use Rattle.rules.specs.Runs.{Choice, Event, MadeSilent, Run, Setting, Step, outcome}
use Rattle.rules.specs.declared.answers.Answer.{Answer}
use Rattle.rules.specs.declared.calls.Call.{Call}
use Rattle.sheet.specs.Calls.{call_at}
use Rattle.sheet.specs.Report.{line_text, numbered}
use Rattle.slip.specs.declared.fault.Fault.{Fault}
use Rattle.slip.specs.declared.paper.Slip.{Slip}
use Rattle.wire.specs.Waiting.{LosesNone, OldestFirst}

-- only the first 65,536 bytes count
abbrev pub counted : List ℕ → List ℕ
counted input = take 65536 input

-- what a line of the sheet came to: an event, or no call at all
pub record Entry : Type 0 where
  pub line : List ℕ
  pub came : Result Event Fault

abbrev pub answer_of : Result Event Fault → Result Answer Fault
answer_of (Ok e) = e.answer
answer_of (Err f) = Err f

-- the line asked for the event's call, which led from n to m; or for none, and nothing changed
abbrev pub Came : Setting → Model → Result Call Fault → Result Event Fault → Model → Type 0
Came s n c (Ok e) m = (c ≡ Ok e.call) × Step s n e m
Came s n c (Err f) m = (c ≡ Err f) × (m ≡ n)

-- the entries, newest first, lead from m to m'
abbrev pub Chain : Setting → Model → List Entry → Model → Type 0
Chain s m [] m' = m' ≡ m
Chain s m (x ∷ xs) m' = (n : Model) × Chain s m xs n × Came s n (call_at x.line n) x.came m'

-- the calls made, newest first, after those of es
abbrev pub event_onto : Result Event Fault → List Event → List Event
event_onto (Ok e) es = e ∷ es
event_onto (Err f) es = es

abbrev pub events_after : List Event → List Entry → List Event
events_after es [] = es
events_after es (x ∷ xs) = event_onto x.came (events_after es xs)

-- the law holds after a call
abbrev pub SafeCall : Setting → List Event → Result Event Fault → Model → Type 0
SafeCall s es (Ok e) m = SafeAfter s.book (e ∷ es) m
SafeCall s es (Err f) m = Unit {0}

-- and after each of the entries' calls
abbrev pub SafeChain : Setting → List Event → Model → List Entry → Model → Type 0
SafeChain s es m [] m' = m' ≡ m
SafeChain s es m (x ∷ xs) m' =
    (n : Model) × SafeChain s es m xs n × Came s n (call_at x.line n) x.came m' × SafeCall s (events_after es xs) x.came m'

-- the lines of the entries, which are newest first, in their order, before ls
abbrev pub lines_before : List Entry → List (List ℕ) → List (List ℕ)
lines_before [] ls = ls
lines_before (x ∷ xs) ls = lines_before xs (x.line ∷ ls)

-- a line of report for each entry, numbered from 1
abbrev pub report_of : List Entry → List ℕ
report_of [] = []
report_of (x ∷ xs) = report_of xs ++ line_text (length xs + 1) (numbered (answer_of x.came))

-- the sheet `input` was performed from m to m', line by line, each call safe after any history that led to m; `text` is its report
pub record SheetPerformed (s : Setting) (m : Model) (input text : List ℕ) (m' : Model) : Type 0 where
  pub entries : List Entry
  pub lines : lines_before entries [] ≡ lines_of (counted input)
  pub chain : Chain s m entries m'
  pub runs : (es : List Event) → Run s MadeSilent es m → Run s MadeSilent (events_after es entries) m'
  pub safe : (es : List Event) → Run s MadeSilent es m → SafeChain s es m entries m'
  pub reports : text ≡ report_of entries

-- A SHEET ON A LINE JUST MADE

-- under the class book, over a telegraph
abbrev pub office : Setting
office = record { book = class_book; picks = OldestFirst; loses = LosesNone }

-- three stations, so two blocks and four ends, from serial 0; nothing waits, and 640 bytes hold 64 slips
abbrev pub new_line : Model
new_line = record { ends = replicate 4 (idle 0); waiting = []; room = 64 }

-- what a telegraph gives: the oldest slip to a delivery; it loses nothing
abbrev pub oldest : List Slip → Choice
oldest [] = record { taken = None; left = [] }
oldest (w ∷ ws) = record { taken = Some w; left = ws }

abbrev pub untaken : List Slip → Choice
untaken ws = record { taken = None; left = ws }

abbrev pub given_to : Call → List Slip → Choice
given_to (Call.Ask block end train class) ws = untaken ws
given_to (Call.Withdraw block end) ws = untaken ws
given_to (Call.Show block end) ws = untaken ws
given_to (Call.Enter block end train) ws = untaken ws
given_to (Call.Present block end serial train) ws = untaken ws
given_to (Call.Arrive block end train) ws = untaken ws
given_to (Call.Repeat block end train) ws = untaken ws
given_to Call.Deliver ws = oldest ws
given_to Call.Fade ws = untaken ws

-- what a line comes to there
abbrev pub turn_of : Result Call Fault → Model → Outcome
turn_of (Ok call) m = outcome class_book call (given_to call m.waiting) m
turn_of (Err fault) m = refusal m fault

abbrev pub turn : List ℕ → Model → Outcome
turn line m = turn_of (call_at line m) m

-- the report of lines, numbered from n, that are performed from m on
abbrev pub report_from : ℕ → Model → List (List ℕ) → List ℕ
report_from n m [] = []
report_from n m (l ∷ ls) = line_text n (numbered (turn l m).answer) ++ report_from (n + 1) (turn l m).after ls

abbrev pub report_for : List ℕ → List ℕ
report_for input = report_from 1 new_line (lines_of (counted input))

-- the report of a sheet that is performed on a line just made: its text, and that its calls, line by line, are a run, safe after each
pub record SheetReported (input text : List ℕ) : Type 0 where
  pub reports : text ≡ report_for input
  pub entries : List Entry
  pub lines : lines_before entries [] ≡ lines_of (counted input)
  pub told : text ≡ report_of entries
  pub last : Model
  pub runs : Run office MadeSilent (events_after [] entries) last
  pub safe : SafeChain office [] new_line entries last
