use Rattle.line.proofs.line.Line.take_one.Goals as goal
use Rattle.std.proofs.Common.{None, Some, rules}

-- nothing waits, and the wire is as it was
pub returns-in_default-clause-value : goal.returns-in_default-clause-value
returns-in_default-clause-value g c = (record { taken = None; left = g.W.Wire.waiting c.take.new.self }, c.in_default.ensures.picked, search rules)

-- a slip was taken: the line goes on from what the wire left
pub returns-clause-value : goal.returns-clause-value
returns-clause-value g c = (record { taken = Some c.in-Some.slip; left = g.W.Wire.waiting c.take.new.self }, c.in-Some.ensures.picked, search rules)
