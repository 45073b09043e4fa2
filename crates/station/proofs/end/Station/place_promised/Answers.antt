use Rattle.std.proofs.Common.{rules, tests}
use Rattle.rules.specs.Ends.{promise_of}
use Rattle.station.proofs.Rows.{placed}
use Rattle.std.proofs.lemmas.Iterator.{YieldsList-from_slice}
use Rattle.std.proofs.lemmas.Iterator.Search.{position_from_yields_List}
use Rattle.station.proofs.end.Station.place_promised.Goals as goal

pub returns : goal.returns
returns c =
    (placed (promise_of c.args.serial) _ _
    (position_from_yields_List (promise_of c.args.serial) _ _ c.position.result c.position.ensures.ran (YieldsList-from_slice c.args.self.now.promised.items cc) (λ x b q k. search (rules, tests))))
