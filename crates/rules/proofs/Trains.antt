-- One train: what is used of the comparison of trains, and nothing else of it.
use Rattle.slip.specs.Trains.{same_train}
use Rattle.slip.specs.declared.track.Train.{Train}
use Rattle.std.proofs.Common.{◌≡◌, true, arith}

-- two trains that are each the same as a third are the same
pub same_both : (t u v : Train) → same_train t v ≡ true → same_train u v ≡ true → same_train t u ≡ true
same_both t u v p q = grind arith

pub same_turn : (t u v : Train) → same_train t u ≡ true → same_train t v ≡ true → same_train u v ≡ true
same_turn t u v p q = grind arith
