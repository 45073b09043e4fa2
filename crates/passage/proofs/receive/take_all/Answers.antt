use Rattle.passage.proofs.Receiving.{one_more}
use Rattle.passage.proofs.receive.take_all.Goals as goal

pub loop-preserved : goal.loop-preserved
loop-preserved g c = one_more c.loop.invariant c.in-Some.slip _ _ _ c.in-Some.ensures.picked c.in_ok-push.ensures.items c.in_ok-writeln.ensures.bytes
