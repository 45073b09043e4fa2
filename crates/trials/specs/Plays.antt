-- Some calls after each other, by a station that keeps the rules or by one that does not.
use Rattle.std.specs.Prelude.{◌≡◌, ℕ, zero, suc, cond, List, [], ◌∷◌, ◌++◌, replicate, Some, None, Ok, Err, Option, Result, nat_lt}
use Rattle.book.specs.Books.{Book}
use Rattle.rules.specs.Ends.{Kept, idle}
use Rattle.rules.specs.Hearing.{hears}
use Rattle.rules.specs.Lines.{Model, Outcome, arrive_outcome, ask_outcome, at_end, blocks, delivered_as, enter_outcome, fade_outcome, located, nothing_waits, present_outcome, refusal, repeat_outcome, replying, sends, show_outcome, site, then, with_end, with_waiting}
use Rattle.rules.specs.Moves.{Done, withdrawn}
use Rattle.rules.specs.Numbers.{answer_number}
use Rattle.rules.specs.Lists.{All}
use Rattle.rules.specs.Runs.{Choice, Event, MadeSilent, Run, Setting, any_wire, seen}
use Rattle.rules.specs.declared.answers.Answer.{Answer}
use Rattle.rules.specs.declared.answers.Ending.{Ending}
use Rattle.rules.specs.declared.calls.Call.{Call}
use Rattle.rules.specs.declared.rows.Heard.{Heard}
use Rattle.rules.specs.declared.rows.Word.{Word}
use Rattle.slip.specs.declared.fault.Fault.{Fault}
use Rattle.slip.specs.declared.paper.Message.{Message}
use Rattle.slip.specs.declared.paper.Slip.{Slip}
use Rattle.wire.specs.Waiting.{LosesNone, OldestFirst}

-- the two rules that the known shortcuts change
pub record Station : Type 0 where
  pub withdraws : ℕ → Kept → Done Word
  pub hears : ℕ → Message → Kept → Heard × Kept

-- a station that keeps the rules
abbrev pub by_rule : Book → Station
by_rule b = record { withdraws = withdrawn; hears = hears b }

-- what a call comes to at such stations

abbrev pub handing_by : Station → Model → List Slip → Slip → Outcome
handing_by st m left s =
    let heard = st.hears s.serial s.message (at_end m.ends s.block s.to) in
    replying (record { ends = with_end m.ends s.block s.to heard.1; waiting = left; room = m.room }) s heard.0

abbrev pub deliver_by : Station → Model → List Slip → Option Slip → Outcome
deliver_by st m left None = refusal m nothing_waits
deliver_by st m left (Some s) =
    cond (nat_lt s.block (blocks m.ends)) (handing_by st m left s) (record { answer = delivered_as s Ending.Ignored; puts = []; after = with_waiting m left })

abbrev pub outcome_by : Station → Call → Choice → Model → Outcome
outcome_by st (Call.Ask block end train class) c m = ask_outcome block end train class m
outcome_by st (Call.Withdraw block end) c m =
    then m (located (blocks m.ends) block end) λ e.
    sends m block e (st.withdraws (site block e) (at_end m.ends block e))
outcome_by st (Call.Show block end) c m = show_outcome block end m
outcome_by st (Call.Enter block end train) c m = enter_outcome block end train m
outcome_by st (Call.Present block end serial train) c m = present_outcome block end serial train m
outcome_by st (Call.Arrive block end train) c m = arrive_outcome block end train m
outcome_by st (Call.Repeat block end train) c m = repeat_outcome block end train m
outcome_by st Call.Deliver c m = deliver_by st m c.left c.taken
outcome_by st Call.Fade c m = fade_outcome m c.left

-- a turn: a call, and which of the waiting slips a delivery takes, the oldest being 0; past the end it is the newest
pub record Turn : Type 0 where
  pub call : Call
  pub place : ℕ

abbrev pub in_front : Slip → Choice → Choice
in_front w c = record { taken = c.taken; left = w ∷ c.left }

abbrev pub taking : ℕ → List Slip → Choice
taking i [] = record { taken = None; left = [] }
taking i (w ∷ []) = record { taken = Some w; left = [] }
taking zero (w ∷ (v ∷ vs)) = record { taken = Some w; left = v ∷ vs }
taking (suc i) (w ∷ (v ∷ vs)) = in_front w (taking i (v ∷ vs))

abbrev pub untouched : Model → Choice
untouched m = record { taken = None; left = m.waiting }

abbrev pub choice_at : ℕ → Call → Model → Choice
choice_at place (Call.Ask block end train class) m = untouched m
choice_at place (Call.Withdraw block end) m = untouched m
choice_at place (Call.Show block end) m = untouched m
choice_at place (Call.Enter block end train) m = untouched m
choice_at place (Call.Present block end serial train) m = untouched m
choice_at place (Call.Arrive block end train) m = untouched m
choice_at place (Call.Repeat block end train) m = untouched m
choice_at place Call.Deliver m = taking place m.waiting
choice_at place Call.Fade m = untouched m

-- what was seen so far, the latest first, and the line now
pub record Played : Type 0 where
  pub events : List Event
  pub after : Model

abbrev pub turned : Station → Played → Turn → Played
turned st p t =
    let c = choice_at t.place t.call p.after in
    let o = outcome_by st t.call c p.after in
    record { events = seen t.call c o ∷ p.events; after = o.after }

abbrev pub play : Station → Played → List Turn → Played
play st p [] = p
play st p (t ∷ ts) = play st (turned st p t) ts

-- two blocks, over a wire of this room, from a start number
abbrev pub two_blocks : ℕ → ℕ → Played
two_blocks room start = record { events = []; after = record { ends = replicate 4 (idle start); waiting = []; room = room } }

-- the answers as numbers, the first call's first
abbrev pub numbered : Result Answer Fault → Result ℕ Fault
numbered (Ok answer) = Ok (answer_number answer)
numbered (Err fault) = Err fault

abbrev pub answers : List Event → List (Result ℕ Fault)
answers [] = []
answers (e ∷ es) = answers es ++ (numbered e.answer ∷ [])

-- what is played by the rules is a run, over a wire that may do as this one does
abbrev pub PlaysAreRuns : Type 0
PlaysAreRuns =
    (b : Book) (p : Played) (ts : List Turn) → Run (any_wire b) MadeSilent p.events p.after →
    Run (any_wire b) MadeSilent (play (by_rule b) p ts).events (play (by_rule b) p ts).after

-- a wire that hands out the oldest and loses nothing
abbrev pub in_turn : Book → Setting
in_turn b = record { book = b; picks = OldestFirst; loses = LosesNone }

-- what is played in turn is a run over it
abbrev pub OldestTaken : Turn → Type 0
OldestTaken t = t.place ≡ 0

abbrev pub PlaysInTurn : Type 0
PlaysInTurn =
    (b : Book) (p : Played) (ts : List Turn) → All OldestTaken ts → Run (in_turn b) MadeSilent p.events p.after →
    Run (in_turn b) MadeSilent (play (by_rule b) p ts).events (play (by_rule b) p ts).after
