-- Events, steps and runs: what is seen of a line from outside, and from where it can start.
use Rattle.std.specs.Prelude.{◌≡◌, ℕ, ◌*◌, List, [], ◌∷◌, replicate, None, Option, Result}
use Rattle.book.specs.Books.{Book}
use Rattle.rules.specs.Ends.{idle}
use Rattle.rules.specs.Lines.{Model, Outcome, arrive_outcome, ask_outcome, deliver_outcome, enter_outcome, fade_outcome, present_outcome, repeat_outcome, show_outcome, withdraw_outcome}
use Rattle.rules.specs.declared.answers.Answer.{Answer}
use Rattle.rules.specs.declared.calls.Call.{Call}
use Rattle.slip.specs.declared.fault.Fault.{Fault}
use Rattle.slip.specs.declared.paper.Slip.{Slip}
use Rattle.wire.specs.Waiting.{Faded, Loses, Picks, Taken}

-- where a line runs: under a book, over a wire that picks and loses slips in its own way
pub record Setting : Type 1 where
  pub book : Book
  pub picks : Picks
  pub loses : Loses

-- over any wire at all: whatever a wire may pick and lose
abbrev pub any_wire : Book → Setting
any_wire b = record { book = b; picks = Taken; loses = Faded }

-- what a call found on the wire: the slip that was taken, and the slips that are left
pub record Choice : Type 0 where
  pub taken : Option Slip
  pub left : List Slip

abbrev pub Untouched : Model → Choice → Type 0
Untouched m c = (c.taken ≡ None) × (c.left ≡ m.waiting)

-- only deliver and fade leave the wire a choice
abbrev pub Chosen : Setting → Call → Model → Choice → Type 0
Chosen s (Call.Ask block end train class) m c = Untouched m c
Chosen s (Call.Withdraw block end) m c = Untouched m c
Chosen s (Call.Show block end) m c = Untouched m c
Chosen s (Call.Enter block end train) m c = Untouched m c
Chosen s (Call.Present block end serial train) m c = Untouched m c
Chosen s (Call.Arrive block end train) m c = Untouched m c
Chosen s (Call.Repeat block end train) m c = Untouched m c
Chosen s Call.Deliver m c = s.picks m.waiting c.taken c.left
Chosen s Call.Fade m c = (c.taken ≡ None) × s.loses m.waiting c.left

abbrev pub outcome : Book → Call → Choice → Model → Outcome
outcome b (Call.Ask block end train class) c m = ask_outcome block end train class m
outcome b (Call.Withdraw block end) c m = withdraw_outcome block end m
outcome b (Call.Show block end) c m = show_outcome block end m
outcome b (Call.Enter block end train) c m = enter_outcome block end train m
outcome b (Call.Present block end serial train) c m = present_outcome block end serial train m
outcome b (Call.Arrive block end train) c m = arrive_outcome block end train m
outcome b (Call.Repeat block end train) c m = repeat_outcome block end train m
outcome b Call.Deliver c m = deliver_outcome b m c.left c.taken
outcome b Call.Fade c m = fade_outcome m c.left

-- what is seen of a call from outside: no rows
pub record Event : Type 0 where
  pub call : Call
  pub answer : Result Answer Fault
  pub taken : Option Slip
  pub puts : List Slip

abbrev pub seen : Call → Choice → Outcome → Event
seen call c o = record { call = call; answer = o.answer; taken = c.taken; puts = o.puts }

-- one call
pub record Step (s : Setting) (m : Model) (e : Event) (m' : Model) : Type 0 where
  pub choice : Choice
  pub chosen : Chosen s e.call m choice
  pub event : e ≡ seen e.call choice (outcome s.book e.call choice m)
  pub after : m' ≡ (outcome s.book e.call choice m).after

-- some calls, the latest first, from a start
abbrev pub Run : Setting → (Model → Type 0) → List Event → Model → Type 0
Run s Start [] m = Start m
Run s Start (e ∷ es) m = (n : Model) × Run s Start es n × Step s n e m

-- a line just made: so many blocks, every end idle, from a start number; whatever waits
pub record JustMade (m : Model) : Type 0 where
  pub blocks : ℕ
  pub start : ℕ
  pub ends : m.ends ≡ replicate (2 * blocks) (idle start)

-- and nothing waits on its wire
abbrev pub MadeSilent : Model → Type 0
MadeSilent m = JustMade m × (m.waiting ≡ [])
