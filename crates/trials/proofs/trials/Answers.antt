use Rattle.trials.proofs.trials.Goals as goal
use Rattle.std.proofs.Common.{refl}

pub returns : goal.returns
returns c = record {
  train_9999 = refl;
  train_10000 = refl;
  both_ask = refl;
  behind_two = refl;
  behind_three = refl;
  freight_behind_work = refl;
  freight_behind_passenger = refl;
  passenger_behind_freight = refl;
  withdraw_first = refl;
  clear_late = refl;
  entered_late = refl;
  entered_late_out = refl;
  slip_put = refl;
  slip_bytes_lem = refl;
  rooms = (refl, refl);
  no_room = refl;
  room_for_one = refl;
  last_serial = refl;
  form_written = refl;
  form_unheld = refl;
  form_nowhere = refl;
  form_presented = refl;
  refusals = refl;
}
