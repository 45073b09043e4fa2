use Rattle.line.proofs.Sites.{in_place}
use Rattle.line.proofs.line.Line.hand_over.Goals as goal
use Rattle.std.proofs.Common.{rules}

pub returns-clause-value : goal.returns-clause-value
returns-clause-value g c =
    let block = c.in-Some.block in
    let end = c.args.slip.to in
    let there = in_place c.args.self.now.ends.items c.index.result block end c.index_mut.result.now c.hear-heard.new.self c.index.ensures (c.in-Some.ensures.3 end) c.index_mut.ensures.value in
    search (rules, there.before, there.after)
