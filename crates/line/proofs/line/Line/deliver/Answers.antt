use Rattle.line.proofs.Calls.{settled}
use Rattle.line.proofs.line.Line.deliver.Goals as goal
use Rattle.rules.specs.declared.calls.Call.{Call}

pub returns : goal.returns
returns g c =
    let e = c.take_one.ensures in
    record { performed = settled g.met.B.RuleBook.meaning c.args.self.now c.take_one.new.self Call.Deliver e.value.0 e.value.1 _ e.value.2; refused = e.refused; handled = e.handled; lender = e.lender }
