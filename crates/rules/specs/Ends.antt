-- What an end of a block keeps.
use Rattle.std.specs.Prelude.{ℕ, Bool, true, false, ◌&&◌, List, [], Some, None, Option, ◌==◌}
use Rattle.rules.specs.Lists.{renewed}
use Rattle.rules.specs.declared.rows.OwnRow.{OwnRow}
use Rattle.rules.specs.declared.rows.PromisedRow.{PromisedRow}
use Rattle.rules.specs.declared.rows.RowState.{RowState}
use Rattle.rules.specs.declared.rows.RowState.TheVariants.{Asking, Held, In, Withdrawing}
use Rattle.rules.specs.declared.rows.Permission.{Permission}
use Rattle.slip.specs.Trains.{same_train}
use Rattle.slip.specs.declared.fault.Cause.{Cause}
use Rattle.slip.specs.declared.fault.Fault.{Fault}
use Rattle.slip.specs.declared.track.Train.{Train}

-- what a signal shows: it is off for a permission, or stands at Stop
abbrev pub Signal : Type 0
Signal = Option Permission

-- the permissions it asked for and those it gave, each list oldest first; the last serial it used, and the last it heard; its signal
pub record Kept : Type 0 where
  pub own : List OwnRow
  pub promised : List PromisedRow
  pub used : ℕ
  pub heard : ℕ
  pub signal : Signal

-- an end at making
abbrev pub idle : ℕ → Kept
idle start = record { own = []; promised = []; used = start; heard = start; signal = None }

-- the end with other own rows and another signal, or with other promised rows and another last heard
abbrev pub with_own : Kept → List OwnRow → Signal → Kept
with_own k rows signal = record { own = rows; promised = k.promised; used = k.used; heard = k.heard; signal = signal }

abbrev pub with_promised : Kept → List PromisedRow → ℕ → Kept
with_promised k rows heard = record { own = k.own; promised = rows; used = k.used; heard = heard; signal = k.signal }

-- a row in another state
abbrev pub in_state : OwnRow → RowState → OwnRow
in_state r state = record { serial = r.serial; train = r.train; class = r.class; state = state }

-- the newest own row, in another state
abbrev pub newest_to : Kept → OwnRow → RowState → List OwnRow
newest_to k r state = renewed k.own (in_state r state)

abbrev pub is_asking : RowState → Bool
is_asking Asking = true
is_asking (Held kind) = false
is_asking (In kind) = false
is_asking Withdrawing = false

abbrev pub is_in_lem : RowState → Bool
is_in_lem Asking = false
is_in_lem (Held kind) = false
is_in_lem (In kind) = true
is_in_lem Withdrawing = false

abbrev pub is_withdrawing : RowState → Bool
is_withdrawing Asking = false
is_withdrawing (Held kind) = false
is_withdrawing (In kind) = false
is_withdrawing Withdrawing = true

abbrev pub is_stop : Signal → Bool
is_stop None = true
is_stop (Some kind) = false

-- which rows a rule looks for
abbrev pub own_of_train : Train → OwnRow → Bool
own_of_train train r = same_train r.train train

abbrev pub own_in : ℕ → OwnRow → Bool
own_in serial r = r.serial == serial && is_in_lem r.state

abbrev pub promise_of : ℕ → PromisedRow → Bool
promise_of serial p = p.serial == serial

-- a station turns a call away for one of its causes, which are of layer 2, and says which end it is
abbrev pub station_fault : Cause → ℕ → Fault
station_fault cause place = record { cause = cause; place = place }
