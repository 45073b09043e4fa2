use Rattle.std.proofs.Common.{rules, tests}
use Rattle.rules.specs.Hearing.{counted}
use Rattle.station.proofs.Rows.{counted_out}
use Rattle.std.proofs.lemmas.Iterator.{YieldsList-from_slice}
use Rattle.std.proofs.lemmas.Iterator.Consumers.{YieldsList-from_filter, count_from_yields_List}
use Rattle.station.proofs.end.Station.passengers_ahead.Goals as goal

pub returns : goal.returns
returns c =
    (counted_out counted _ _
    (count_from_yields_List c.filter.result _ c.count.ensures.ran (YieldsList-from_filter _ counted (YieldsList-from_slice c.args.self.now.promised.items cc) c.filter.ensures.closure (λ x r q k. search (rules, tests)))))
