use Rattle.line.proofs.Sites.{in_place}
use Rattle.line.proofs.line.Line.arrived.Goals as goal
use Rattle.std.proofs.Common.{rules}

pub returns : goal.returns
returns g c =
    let here = c.in_ok-here.here in
    let there = in_place c.args.self.now.ends.items c.index.result here.block here.end c.index_mut.result.now c.arrive.new.self c.index.ensures c.in_ok-here.ensures.within.1 c.index_mut.ensures.value in
    search (rules, there.before, there.after)
