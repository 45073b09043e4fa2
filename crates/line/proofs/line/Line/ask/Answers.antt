use Rattle.line.proofs.Calls.{called}
use Rattle.line.proofs.line.Line.ask.Goals as goal
use Rattle.rules.specs.declared.calls.Call.{Call}
use Rattle.std.proofs.Common.{refl}

pub returns : goal.returns
returns g c = called g.met.B.RuleBook.meaning c.args.self.now c.asked.new.self (Call.Ask c.args.block c.args.end c.args.train c.args.class) (refl, refl) _ c.asked.ensures
