use Rattle.std.proofs.Common.{arith}
use Rattle.telegraph.proofs.Rings.{readable_take}
use Rattle.telegraph.proofs.ring.calls.TelegraphWire.take.Goals as goal

pub invariant_of-self-clause-readable : goal.invariant_of-self-clause-readable
invariant_of-self-clause-readable c =
    let s = c.args.self.now in
    readable_take s.bytes.now s.first s.count (s.within (omega arith)) (omega arith) s.few c.place-self.result c.place-self.ensures.value s.readable
