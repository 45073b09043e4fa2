use Rattle.rules.proofs.Always.{always_safe_lem}
use Rattle.rules.proofs.law.always_safe.Goals as goal

pub returns : goal.returns
returns c = always_safe_lem
