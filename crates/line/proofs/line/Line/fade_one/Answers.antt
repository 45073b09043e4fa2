use Rattle.line.proofs.line.Line.fade_one.Goals as goal
use Rattle.std.proofs.Common.{None, refl, rules}

pub returns-clause-value : goal.returns-clause-value
returns-clause-value g c = (record { taken = None; left = g.W.Wire.waiting c.fade.new.self }, refl, c.fade.ensures.lost, search rules)
