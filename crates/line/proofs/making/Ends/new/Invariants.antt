use Rattle.line.proofs.making.Ends.new.Given as goal
use Rattle.rules.specs.Ends.{idle}
use Rattle.station.specs.Records.{kept}
use Rattle.std.proofs.Common.{◌≡◌, map, replicate, vec_len}

abbrev pub invariant-loop : goal.invariant-loop
invariant-loop l = (vec_len l.ends ≡ l.counter) × (map kept l.ends.items ≡ replicate l.counter (idle l.start))
