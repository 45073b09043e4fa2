-- When a slip is in form, and how one that is not is turned away.
use Rattle.std.specs.Prelude.{◌≡◌, ℕ, Bool, true, cond, Ok, Err, Result, ◌==◌, nat_le}
use Rattle.slip.specs.declared.fault.Cause.{Cause}
use Rattle.slip.specs.declared.fault.Fault.{Fault}
use Rattle.slip.specs.declared.paper.Message.{Message}
use Rattle.slip.specs.declared.paper.Slip.{Slip}
use Rattle.slip.specs.Trains.{known_train_lem}

-- a slip out of form: number 1, layer 1, the field's position from 1, or 0 where the length is wrong
abbrev pub bad_slip : ℕ → Fault
bad_slip place = record { cause = Cause.Unknown; place = place }

-- a train that a message names is a known one
abbrev pub good_train : Message → Bool
good_train (Message.Wanted train class) = known_train_lem train
good_train Message.Clear = true
good_train Message.Permissive = true
good_train Message.NotClear = true
good_train Message.Entered = true
good_train Message.Out = true
good_train Message.Withdraw = true
good_train Message.Released = true

-- the position of the first field that is out of form, or 0: blocks are numbered 0 to 14, and block is the second field, train the fifth
abbrev pub first_bad : Slip → ℕ
first_bad s = cond (nat_le s.block 14) (cond (good_train s.message) 0 5) 2

abbrev pub InForm : Slip → Type 0
InForm s = first_bad s ≡ 0

-- what asking whether a slip is in form answers
abbrev pub form_checked : Slip → Result Unit Fault
form_checked s = cond (first_bad s == 0) (Ok tt) (Err (bad_slip (first_bad s)))
