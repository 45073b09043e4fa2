use Rattle.line.proofs.Calls.{settled}
use Rattle.line.proofs.line.Line.fade.Goals as goal
use Rattle.rules.specs.declared.answers.Answer.{Answer}
use Rattle.rules.specs.declared.calls.Call.{Call}
use Rattle.std.proofs.Common.{Ok}

pub returns : goal.returns
returns g c =
    let e = c.fade_one.ensures in
    record { performed = settled g.met.B.RuleBook.meaning c.args.self.now c.fade_one.new.self Call.Fade e.value.0 (e.value.1, e.value.2) _ (λ i. (Ok Answer.Faded, e.value.3 i)); faded = e.faded; lender = e.lender }
