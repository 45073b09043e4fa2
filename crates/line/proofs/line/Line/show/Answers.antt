use Rattle.line.proofs.Calls.{called}
use Rattle.line.proofs.line.Line.show.Goals as goal
use Rattle.rules.specs.declared.calls.Call.{Call}
use Rattle.std.proofs.Common.{refl}

pub returns : goal.returns
returns g c = called g.met.B.RuleBook.meaning c.args.self.now c.shown.new.self (Call.Show c.args.block c.args.end) (refl, refl) _ c.shown.ensures
