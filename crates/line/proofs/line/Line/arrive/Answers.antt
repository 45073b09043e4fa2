use Rattle.line.proofs.Calls.{called}
use Rattle.line.proofs.line.Line.arrive.Goals as goal
use Rattle.rules.specs.declared.calls.Call.{Call}
use Rattle.std.proofs.Common.{refl}

pub returns : goal.returns
returns g c = called g.met.B.RuleBook.meaning c.args.self.now c.arrived.new.self (Call.Arrive c.args.block c.args.end c.args.train) (refl, refl) _ c.arrived.ensures
