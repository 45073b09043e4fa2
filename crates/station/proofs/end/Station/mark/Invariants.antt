use Rattle.rules.specs.Hearing.{marked}
use Rattle.station.proofs.end.Station.mark.Given as goal
use Rattle.std.proofs.Common.{◌≡◌, ◌++◌, map, take, drop}

-- the rows so far are marked, and the others are as they were
abbrev pub invariant-loop-row : goal.invariant-loop-row
invariant-loop-row l = l.row-items ≡ map (marked l.serial) (take l.row-index l.initial.row-items) ++ drop l.row-index l.initial.row-items
