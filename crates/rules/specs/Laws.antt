-- The law over runs, and what a performed call promises.
use Rattle.std.specs.Prelude.{◌≡◌, ℕ, ◌<◌, List, ◌∷◌, Result}
use Rattle.book.specs.Books.{Book, Lawful}
use Rattle.rules.specs.Lines.{Model, at_end, blocks}
use Rattle.rules.specs.Lists.{All}
use Rattle.rules.specs.Runs.{Event, JustMade, MadeSilent, Run, Setting, Step, any_wire}
use Rattle.rules.specs.Safe.{RowRules, Safe}
use Rattle.rules.specs.Tally.{empty, tally}
use Rattle.rules.specs.declared.answers.Answer.{Answer}
use Rattle.rules.specs.declared.calls.Call.{Call}
use Rattle.slip.specs.declared.fault.Fault.{Fault}
use Rattle.slip.specs.declared.track.End.TheVariants.{East, West}
use Rattle.wire.specs.Waiting.{LawfulLoses, LawfulPicks}

pub record LawfulSetting (s : Setting) : Type 0 where
  pub book : Lawful s.book
  pub picks : LawfulPicks s.picks
  pub loses : LawfulLoses s.loses

-- every block is safe after these events, by a tally that started empty
abbrev pub SafeAfter : Book → List Event → Model → Type 0
SafeAfter b es m = (block : ℕ) → block < blocks m.ends → Safe b (at_end m.ends block West) (at_end m.ends block East) (tally empty es block)

-- every end keeps the row rules
abbrev pub RowsInOrder : Model → Type 0
RowsInOrder m = All RowRules m.ends

-- under every lawful book, over every wire and room, with any number of blocks and any start number, whatever is called: safe after each call
abbrev pub AlwaysSafe : Type 0
AlwaysSafe = (b : Book) → Lawful b → (es : List Event) (m : Model) → Run (any_wire b) MadeSilent es m → SafeAfter b es m

-- and in order after each call, whatever waited at the start
abbrev pub RowsAlways : Type 0
RowsAlways = (b : Book) → Lawful b → (es : List Event) (m : Model) → Run (any_wire b) JustMade es m → RowsInOrder m

-- a call was performed, or turned away, with this answer: it took the line from m to m' as the rules say, and no history makes it unsafe
pub record Performed (s : Setting) (call : Call) (m : Model) (answer : Result Answer Fault) (m' : Model) : Type 0 where
  pub event : Event
  pub names : event.call ≡ call
  pub answers : event.answer ≡ answer
  pub step : Step s m event m'
  pub safe : (es : List Event) → Run s MadeSilent es m → SafeAfter s.book (event ∷ es) m'
  pub rows : (es : List Event) → Run s JustMade es m → RowsInOrder m'
