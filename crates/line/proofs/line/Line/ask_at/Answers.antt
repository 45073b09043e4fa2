use Rattle.line.proofs.Sites.{in_place}
use Rattle.line.proofs.line.Line.ask_at.Goals as goal
use Rattle.std.proofs.Common.{rules}

pub returns : goal.returns
returns g c =
    let xs = c.args.self.now.ends.items in
    let here = c.args.here in
    let asked = in_place xs c.index.result here.block here.end c.index-2.result.now c.index-2.result.now c.index.ensures c.requires c.index-2.ensures in
    let there = in_place xs c.index-3.result here.block here.end c.index_mut.result.now c.note_asking.new.self c.index-3.ensures c.requires c.index_mut.ensures.value in
    search (rules, asked.before, there.before, there.after)
