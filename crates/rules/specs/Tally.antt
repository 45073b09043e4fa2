-- The tally: what an onlooker counts from the events alone, and never from rows.
use Rattle.std.specs.Prelude.{ℕ, ◌+◌, Bool, true, false, cond, not, ◌&&◌, List, [], ◌∷◌, ◌++◌, map, Some, None, Ok, Err, Option, Result, ◌==◌, nat_eq}
use Rattle.rules.specs.Lists.{find, keeping}
use Rattle.rules.specs.Runs.{Event}
use Rattle.rules.specs.declared.answers.Answer.{Answer}
use Rattle.rules.specs.declared.calls.Call.{Call}
use Rattle.rules.specs.declared.rows.Permission.{Permission}
use Rattle.slip.specs.Numbers.{class_of, end_of, other_end}
use Rattle.slip.specs.Trains.{same_train}
use Rattle.slip.specs.declared.fault.Fault.{Fault}
use Rattle.slip.specs.declared.paper.Message.{Message}
use Rattle.slip.specs.declared.paper.Slip.{Slip}
use Rattle.slip.specs.declared.track.Class.{Class}
use Rattle.slip.specs.declared.track.End.{End}
use Rattle.slip.specs.declared.track.End.TheVariants.{East, West}
use Rattle.slip.specs.declared.track.Train.{Train}

-- an asking, by the serial that was answered
pub record Note : Type 0 where
  pub serial : ℕ
  pub train : Train
  pub class : Class

-- a permission while it lasts, and whether an entry has spent it
pub record Promise : Type 0 where
  pub serial : ℕ
  pub train : Train
  pub class : Class
  pub permission : Permission
  pub spent : Bool

-- a permission as it was given: with the trains then promised and between, this way and the other
pub record Given : Type 0 where
  pub serial : ℕ
  pub class : Class
  pub permission : Permission
  pub ahead : List Promise
  pub between : List Train
  pub facing : List Promise
  pub meeting : List Train

-- an entry, and the serials of the permissions that it could have spent
pub record Entry : Type 0 where
  pub train : Train
  pub choices : List ℕ

-- one block, one way: asked at one end, given at the other
pub record Tally : Type 0 where
  pub notes : List Note
  pub given : List Given
  pub promises : List Promise
  pub entries : List Entry
  pub between : List Train
  pub arrivals : ℕ
  pub releases : ℕ

abbrev pub nothing : Tally
nothing = record { notes = []; given = []; promises = []; entries = []; between = []; arrivals = 0; releases = 0 }

-- both ways, as one end sees them: trains that leave it, and trains that come to it
pub record Tallies : Type 0 where
  pub leaving : Tally
  pub coming : Tally

-- a block's tallies are written as its west end sees them
abbrev pub seen_from : End → Tallies → Tallies
seen_from West τ = τ
seen_from East τ = record { leaving = τ.coming; coming = τ.leaving }

-- a change that one end of a block makes
abbrev pub by_end : End → (Tallies → Tallies) → Tallies → Tallies
by_end e change τ = seen_from e (change (seen_from e τ))

-- ask: the serial is noted

abbrev pub noted : ℕ → Train → Class → Tally → Tally
noted serial train class τ = record { notes = record { serial = serial; train = train; class = class } ∷ τ.notes; given = τ.given; promises = τ.promises; entries = τ.entries; between = τ.between; arrivals = τ.arrivals; releases = τ.releases }

-- CLEAR or PERMISSIVE put: the first of its serial gives a permission

abbrev pub is_given : ℕ → List Given → Bool
is_given serial [] = false
is_given serial (g ∷ gs) = cond (g.serial == serial) true (is_given serial gs)

abbrev pub note_for : ℕ → List Note → Option Note
note_for serial ns = find (λ n. nat_eq n.serial serial) ns

abbrev pub give : Permission → ℕ → Tally → Tally → Option Note → Tally
give kind serial τ σ None = τ
give kind serial τ σ (Some n) = record {
  notes = τ.notes;
  given = τ.given ++ (record { serial = serial; class = n.class; permission = kind; ahead = τ.promises; between = τ.between; facing = σ.promises; meeting = σ.between } ∷ []);
  promises = τ.promises ++ (record { serial = serial; train = n.train; class = n.class; permission = kind; spent = false } ∷ []);
  entries = τ.entries;
  between = τ.between;
  arrivals = τ.arrivals;
  releases = τ.releases;
}

-- τ is the way of this permission, σ the other
abbrev pub gave : Permission → ℕ → Tally → Tally → Tally
gave kind serial τ σ = cond (is_given serial τ.given) τ (give kind serial τ σ (note_for serial τ.notes))

-- enter, present: the train's oldest unspent permission is spent, and the train is between the ends

abbrev pub unspent : Train → Promise → Bool
unspent train p = same_train p.train train && not p.spent

abbrev pub paid : Promise → Promise
paid p = record { serial = p.serial; train = p.train; class = p.class; permission = p.permission; spent = true }

abbrev pub spend : Train → List Promise → List Promise
spend train [] = []
spend train (p ∷ ps) = cond (unspent train p) (paid p ∷ ps) (p ∷ spend train ps)

abbrev pub serial_of : Promise → ℕ
serial_of p = p.serial

abbrev pub entry : Train → Tally → Tally
entry train τ = record {
  notes = τ.notes;
  given = τ.given;
  promises = spend train τ.promises;
  entries = τ.entries ++ (record { train = train; choices = map serial_of (keeping (unspent train) τ.promises) } ∷ []);
  between = τ.between ++ (train ∷ []);
  arrivals = τ.arrivals;
  releases = τ.releases;
}

-- arrive: the oldest promise ends, and the train is between no longer, whichever way it ran

abbrev pub all_but_oldest : {X : Type 0} → List X → List X
all_but_oldest [] = []
all_but_oldest (x ∷ xs) = xs

abbrev pub others : Train → List Train → List Train
others train ts = keeping (λ t. not (same_train t train)) ts

abbrev pub arrival : Train → Tally → Tally
arrival train τ = record {
  notes = τ.notes;
  given = τ.given;
  promises = all_but_oldest τ.promises;
  entries = τ.entries;
  between = others train τ.between;
  arrivals = τ.arrivals + 1;
  releases = τ.releases;
}

abbrev pub passed : Train → Tally → Tally
passed train τ = record {
  notes = τ.notes;
  given = τ.given;
  promises = τ.promises;
  entries = τ.entries;
  between = others train τ.between;
  arrivals = τ.arrivals;
  releases = τ.releases;
}

-- WITHDRAW taken: its promise ends

abbrev pub of_serial : ℕ → Promise → Bool
of_serial serial p = p.serial == serial

abbrev pub release_of : ℕ → Tally → Option Promise → Tally
release_of serial τ None = τ
release_of serial τ (Some p) = record {
  notes = τ.notes;
  given = τ.given;
  promises = keeping (λ q. not (of_serial serial q)) τ.promises;
  entries = τ.entries;
  between = τ.between;
  arrivals = τ.arrivals;
  releases = τ.releases + 1;
}

abbrev pub release : ℕ → Tally → Tally
release serial τ = release_of serial τ (find (of_serial serial) τ.promises)

-- what a performed call, a slip taken and a slip put change, as the end sees it that called, took or put

abbrev pub the_train : ℕ → Train
the_train number = record { number = number }

abbrev pub ask_by : Train → Option Class → Answer → Tallies → Tallies
ask_by train None answer τ = τ
ask_by train (Some class) (Answer.Serial serial) τ = record { leaving = noted serial train class τ.leaving; coming = τ.coming }
ask_by train (Some class) (Answer.Sent sent) τ = τ
ask_by train (Some class) (Answer.Shown kind) τ = τ
ask_by train (Some class) (Answer.Repeated kind) τ = τ
ask_by train (Some class) (Answer.Delivered delivered) τ = τ
ask_by train (Some class) Answer.Faded τ = τ

abbrev pub enter_by : Train → Tallies → Tallies
enter_by train τ = record { leaving = entry train τ.leaving; coming = τ.coming }

abbrev pub arrive_by : Train → Tallies → Tallies
arrive_by train τ = record { leaving = passed train τ.leaving; coming = arrival train τ.coming }

abbrev pub take_by : ℕ → Message → Tallies → Tallies
take_by serial (Message.Wanted train class) τ = τ
take_by serial Message.Clear τ = τ
take_by serial Message.Permissive τ = τ
take_by serial Message.NotClear τ = τ
take_by serial Message.Entered τ = τ
take_by serial Message.Out τ = τ
take_by serial Message.Withdraw τ = record { leaving = τ.leaving; coming = release serial τ.coming }
take_by serial Message.Released τ = τ

abbrev pub put_by : ℕ → Message → Tallies → Tallies
put_by serial (Message.Wanted train class) τ = τ
put_by serial Message.Clear τ = record { leaving = τ.leaving; coming = gave Permission.Clear serial τ.coming τ.leaving }
put_by serial Message.Permissive τ = record { leaving = τ.leaving; coming = gave Permission.Permissive serial τ.coming τ.leaving }
put_by serial Message.NotClear τ = τ
put_by serial Message.Entered τ = τ
put_by serial Message.Out τ = τ
put_by serial Message.Withdraw τ = τ
put_by serial Message.Released τ = τ

-- at the block and end that a call names, if it is this block
abbrev pub named_by : Option End → (Tallies → Tallies) → Tallies → Tallies
named_by None change τ = τ
named_by (Some e) change τ = by_end e change τ

abbrev pub called_at : ℕ → ℕ → ℕ → (Tallies → Tallies) → Tallies → Tallies
called_at block named end change τ = cond (named == block) (named_by (end_of end) change τ) τ

abbrev pub by_call : ℕ → Call → Answer → Tallies → Tallies
by_call b (Call.Ask block end train class) answer τ = called_at b block end (ask_by (the_train train) (class_of class) answer) τ
by_call b (Call.Withdraw block end) answer τ = τ
by_call b (Call.Show block end) answer τ = τ
by_call b (Call.Enter block end train) answer τ = called_at b block end (enter_by (the_train train)) τ
by_call b (Call.Present block end serial train) answer τ = called_at b block end (enter_by (the_train train)) τ
by_call b (Call.Arrive block end train) answer τ = called_at b block end (arrive_by (the_train train)) τ
by_call b (Call.Repeat block end train) answer τ = τ
by_call b Call.Deliver answer τ = τ
by_call b Call.Fade answer τ = τ

-- a slip is taken by the end that it goes to, and put by the other
abbrev pub by_taken : ℕ → Option Slip → Tallies → Tallies
by_taken b None τ = τ
by_taken b (Some s) τ = cond (s.block == b) (by_end s.to (take_by s.serial s.message) τ) τ

abbrev pub by_puts : ℕ → List Slip → Tallies → Tallies
by_puts b [] τ = τ
by_puts b (s ∷ ss) τ = by_puts b ss (cond (s.block == b) (by_end (other_end s.to) (put_by s.serial s.message) τ) τ)

-- a call that was turned away changes nothing
abbrev pub fed_by : ℕ → Event → Tallies → Result Answer Fault → Tallies
fed_by b e τ (Err fault) = τ
fed_by b e τ (Ok answer) = by_puts b e.puts (by_taken b e.taken (by_call b e.call answer τ))

-- the tallies of a block after these events, the latest first, from what they were at the start
abbrev pub tally : (ℕ → Tallies) → List Event → ℕ → Tallies
tally start [] b = start b
tally start (e ∷ es) b = fed_by b e (tally start es b) e.answer

-- a tally starts empty
abbrev pub empty : ℕ → Tallies
empty b = record { leaving = nothing; coming = nothing }
