use Rattle.std.proofs.Common.{rules, tests}
use Rattle.rules.specs.Ends.{own_in}
use Rattle.station.proofs.Rows.{placed}
use Rattle.std.proofs.lemmas.Iterator.{YieldsList-from_slice}
use Rattle.std.proofs.lemmas.Iterator.Search.{position_from_yields_List}
use Rattle.station.proofs.end.Station.place_in.Goals as goal

pub returns : goal.returns
returns c =
    (placed (own_in c.args.serial) _ _
    (position_from_yields_List (own_in c.args.serial) _ _ c.position.result c.position.ensures.ran (YieldsList-from_slice c.args.self.now.own.items cc) (λ x b q k. search (rules, tests))))
