use Rattle.std.proofs.Common.{arith}
use Rattle.rules.specs.Hearing.{marked}
use Rattle.std.proofs.lemmas.Grind.{common_steps}
use Rattle.std.proofs.lemmas.List.Edits.{map_over_more}
use Rattle.station.proofs.end.Station.mark.Goals as goal

pub loop-row-preserved : goal.loop-row-preserved
loop-row-preserved c = grind (arith, common_steps, map_over_more (marked c.args.serial))
