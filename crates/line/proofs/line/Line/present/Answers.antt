use Rattle.line.proofs.Calls.{called}
use Rattle.line.proofs.line.Line.present.Goals as goal
use Rattle.rules.specs.declared.calls.Call.{Call}
use Rattle.std.proofs.Common.{refl}

pub returns : goal.returns
returns g c =
    let before = c.args.self.now in
    let after = c.presented.new.self in
    called g.met.B.RuleBook.meaning before after (Call.Present c.args.form.paper.block c.args.form.paper.end c.args.form.paper.serial c.args.form.paper.train) (refl, refl) _ (rw c.hand_in.ensures at c.presented.ensures)
