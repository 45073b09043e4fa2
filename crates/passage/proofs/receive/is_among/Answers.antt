use Rattle.passage.proofs.Among.{among, same, same_as}
use Rattle.passage.proofs.receive.is_among.Goals as goal
use Rattle.std.proofs.Common.{rules, tests}
use Rattle.std.proofs.lemmas.Bool.Decides.{Decides-at, same_from_decides}
use Rattle.std.proofs.lemmas.Iterator.{YieldsList-from_slice}
use Rattle.std.proofs.lemmas.Iterator.Search.{any_from_yields_List}

pub returns : goal.returns
returns c =
    let others = c.args.others.now in
    let slip = c.args.slip.now in
    let result = any_from_yields_List (same_as slip) _ _ c.any.result c.any.ensures.ran (YieldsList-from_slice others cc) (λ x b q k. search (rules, tests, same_from_decides, same)) in
    Decides-at _ _ result (among others slip)
