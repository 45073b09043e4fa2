use Rattle.slip.proofs.Trips.{reads_back, writes_back}
use Rattle.slip.proofs.bytes.round_trips.Goals as goal
use Rattle.std.proofs.Common.{refl}

pub returns : goal.returns
returns c = record { back = reads_back; forth = writes_back; worked = refl }
