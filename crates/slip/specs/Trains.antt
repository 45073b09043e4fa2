-- A train's name.
use Rattle.slip.specs.declared.track.Train.{Train}
use Rattle.std.specs.Prelude.{Bool, ◌&&◌, ◌==◌, nat_le}

-- trains are numbered from 1 to 9,999
abbrev pub known_train_lem : Train → Bool
known_train_lem t = nat_le 1 t.number && nat_le t.number 9999

-- what counts as one train: the same number
abbrev pub same_train : Train → Train → Bool
same_train a b = a.number == b.number
