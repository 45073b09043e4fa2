use Rattle.passage.proofs.Receiving.{Sofar}
use Rattle.passage.proofs.receive.take_all.Given as goal
use Rattle.std.proofs.Common.{vec_items, string_bytes}

abbrev pub invariant-loop : goal.invariant-loop
invariant-loop g l =
    Sofar g.W.Wire.picks (g.W.Wire.waiting l.initial.wire) (string_bytes l.initial.report) (vec_items l.came) (g.W.Wire.waiting l.wire) (string_bytes l.report) l.counter
