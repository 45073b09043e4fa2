use Rattle.std.proofs.Common.{rules}
use Rattle.telegraph.proofs.Rings.{oldest_reads}
use Rattle.telegraph.proofs.ring.Telegraph.oldest.Goals as goal

pub unwrap-requires : goal.unwrap-requires
unwrap-requires c = search (rules, oldest_reads)
