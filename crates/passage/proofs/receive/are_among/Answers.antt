use Rattle.passage.proofs.Among.{all_among, among, among_these}
use Rattle.passage.proofs.receive.are_among.Goals as goal
use Rattle.std.proofs.Common.{rules, tests}
use Rattle.std.proofs.lemmas.Bool.Decides.{Decides-at, same_from_decides}
use Rattle.std.proofs.lemmas.Iterator.{YieldsList-from_slice}
use Rattle.std.proofs.lemmas.Iterator.Search.{all_from_yields_List}

pub returns : goal.returns
returns c =
    let slips = c.args.slips.now in
    let others = c.args.others.now in
    let result = all_from_yields_List (among_these others) _ _ c.all.result c.all.ensures.ran (YieldsList-from_slice slips cc) (λ x b q k. search (rules, tests, same_from_decides, among)) in
    Decides-at _ _ result (all_among slips others)
