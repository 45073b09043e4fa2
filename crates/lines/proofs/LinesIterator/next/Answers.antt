use Rattle.std.proofs.Common.{◌≡◌, ◌+◌, ◌<◌, length, drop, arith, rules}
use Rattle.std.proofs.lemmas.Grind.{common_steps}
use Rattle.lines.proofs.First.{fewer_left, takes_line}
use Rattle.lines.specs.Cuts.{span}
use Rattle.lines.proofs.LinesIterator.next.Goals as goal

pub returns : goal.returns
returns c =
    let some : 0 < length c.args.self.now.rest.now = search rules in
    let rest : c.unwrap_or-self.result.now ≡ drop (span 10 c.args.self.now.rest.now + 1) c.args.self.now.rest.now = grind (arith, common_steps) in
    let line = takes_line c.args.self.now.rest.now _ c.unwrap_or-self.result.now some (search rules) rest in
    record { steps = line; goes = fewer_left _ _ _ line }
