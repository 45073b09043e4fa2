-- Four stations that do not keep the rules, and a day on which each breaks the law.
use Rattle.std.specs.Prelude.{ℕ, true, [], ◌∷◌, Some, None, Ok, Option}
use Rattle.book.specs.Books.{Book, absolute_book, class_book}
use Rattle.rules.specs.Ends.{Kept, promise_of, with_own, with_promised}
use Rattle.rules.specs.Hearing.{grant_row, hears}
use Rattle.rules.specs.Lines.{at_end}
use Rattle.rules.specs.Lists.{newest, without_first, without_newest}
use Rattle.rules.specs.Moves.{Done, turned_away, withdrawn, word}
use Rattle.rules.specs.Safe.{Safe}
use Rattle.rules.specs.Tally.{empty, tally}
use Rattle.rules.specs.declared.rows.Heard.{Heard}
use Rattle.rules.specs.declared.rows.OwnRow.{OwnRow}
use Rattle.rules.specs.declared.rows.Permission.{Permission}
use Rattle.rules.specs.declared.rows.RowState.{RowState}
use Rattle.rules.specs.declared.rows.RowState.TheVariants.{Asking, Held, In, Withdrawing}
use Rattle.rules.specs.declared.rows.Word.{Word}
use Rattle.slip.specs.declared.fault.Cause.{Cause}
use Rattle.slip.specs.declared.paper.Message.{Message}
use Rattle.slip.specs.declared.track.End.TheVariants.{East, West}
use Rattle.trials.specs.Plays.{Played, Station, play, two_blocks}
use Rattle.trials.specs.Trials.{F, ask, deliver, deliver_at, enter, show, withdraw}

-- block 0 is not safe after what was played
abbrev pub Broken : Book → Played → Type 0
Broken b p = Safe b (at_end p.after.ends 0 West) (at_end p.after.ends 0 East) (tally empty p.events 0) → ⊥

-- a withdrawn row is freed at once, and not when RELEASED comes

abbrev pub freeing_row : ℕ → Kept → OwnRow → RowState → Done Word
freeing_row place k r Asking = (Ok (word Message.Withdraw r.serial), with_own k (without_newest k.own) None)
freeing_row place k r (Held kind) = (Ok (word Message.Withdraw r.serial), with_own k (without_newest k.own) None)
freeing_row place k r (In kind) = turned_away Cause.NoSuchRow place k
freeing_row place k r Withdrawing = turned_away Cause.NoSuchRow place k

abbrev pub freeing_of : ℕ → Kept → Option OwnRow → Done Word
freeing_of place k None = turned_away Cause.NoSuchRow place k
freeing_of place k (Some r) = freeing_row place k r r.state

abbrev pub frees_early : Station
frees_early = record { withdraws = λ place k. freeing_of place k (newest k.own); hears = hears class_book }

-- both ends ask and withdraw, and each hears the other's WANTED with no row of its own
abbrev pub freed_day : Played
freed_day = play frees_early (two_blocks 64 0) (ask 0 12 F ∷ ask 1 14 F ∷ withdraw 1 ∷ deliver ∷ withdraw 0 ∷ deliver ∷ [])

-- CLEAR is taken for the row of the train that asks, whatever its serial

abbrev pub matching : Kept → Option OwnRow → Heard × Kept
matching k None = (Heard.Ignored, k)
matching k (Some r) = grant_row Permission.Clear k r r.state

abbrev pub hears_by_train : ℕ → Message → Kept → Heard × Kept
hears_by_train serial (Message.Wanted train class) k = hears class_book serial (Message.Wanted train class) k
hears_by_train serial Message.Clear k = matching k (newest k.own)
hears_by_train serial Message.Permissive k = hears class_book serial Message.Permissive k
hears_by_train serial Message.NotClear k = hears class_book serial Message.NotClear k
hears_by_train serial Message.Entered k = hears class_book serial Message.Entered k
hears_by_train serial Message.Out k = hears class_book serial Message.Out k
hears_by_train serial Message.Withdraw k = hears class_book serial Message.Withdraw k
hears_by_train serial Message.Released k = hears class_book serial Message.Released k

abbrev pub matches_trains : Station
matches_trains = record { withdraws = withdrawn; hears = hears_by_train }

-- train 12 asks, withdraws and asks again, and the first CLEAR comes late
abbrev pub matched_day : Played
matched_day = play matches_trains (two_blocks 64 0) (ask 0 12 F ∷ deliver ∷ withdraw 0 ∷ deliver_at 1 ∷ deliver_at 1 ∷ ask 0 12 F ∷ deliver ∷ show 0 ∷ [])

-- only WANTED raises the last heard, and WITHDRAW does not

abbrev pub hears_wanted_only : ℕ → Message → Kept → Heard × Kept
hears_wanted_only serial (Message.Wanted train class) k = hears class_book serial (Message.Wanted train class) k
hears_wanted_only serial Message.Clear k = hears class_book serial Message.Clear k
hears_wanted_only serial Message.Permissive k = hears class_book serial Message.Permissive k
hears_wanted_only serial Message.NotClear k = hears class_book serial Message.NotClear k
hears_wanted_only serial Message.Entered k = hears class_book serial Message.Entered k
hears_wanted_only serial Message.Out k = hears class_book serial Message.Out k
hears_wanted_only serial Message.Withdraw k = (Heard.Reply Message.Released, with_promised k (without_first (promise_of serial) k.promised) k.heard)
hears_wanted_only serial Message.Released k = hears class_book serial Message.Released k

abbrev pub forgets_withdrawals : Station
forgets_withdrawals = record { withdraws = withdrawn; hears = hears_wanted_only }

-- both ends ask and withdraw; both WITHDRAW overtake the WANTED, which then find no row and nothing heard
abbrev pub forgotten_day : Played
forgotten_day = play forgets_withdrawals (two_blocks 64 0)
    (ask 0 12 F ∷ ask 1 14 F ∷ withdraw 0 ∷ withdraw 1 ∷ deliver_at 2 ∷ deliver_at 2 ∷ deliver_at 2 ∷ deliver_at 2 ∷ deliver ∷ deliver ∷ [])

-- the book is not asked, and every train may follow

abbrev pub asks_no_book : Station
asks_no_book = record { withdraws = withdrawn; hears = hears (record { limit = 1; admits = λ class ahead passengers. true }) }

-- two trains in a block, where the absolute book lets in one
abbrev pub crowded_day : Played
crowded_day = play asks_no_book (two_blocks 64 0) (ask 0 12 F ∷ deliver ∷ deliver ∷ show 0 ∷ enter 0 12 ∷ ask 0 14 F ∷ deliver ∷ deliver ∷ [])

pub record Shortcuts : Type 0 where
  pub freed : Broken class_book freed_day
  pub matched : Broken class_book matched_day
  pub forgotten : Broken class_book forgotten_day
  pub crowded : Broken absolute_book crowded_day
