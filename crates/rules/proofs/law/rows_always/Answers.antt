use Rattle.rules.proofs.Always.{rows_always_lem}
use Rattle.rules.proofs.law.rows_always.Goals as goal

pub returns : goal.returns
returns c = rows_always_lem
