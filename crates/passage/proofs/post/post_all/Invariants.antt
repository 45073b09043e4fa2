use Rattle.lines.specs.Lines.{lines_of, rest_of}
use Rattle.passage.proofs.Posting.{Sofar}
use Rattle.passage.proofs.post.post_all.Given as goal
use Rattle.std.proofs.Common.{◌≡◌, ◌+◌, vec_items, vec_len, string_bytes}
use Rattle.std.specs.Iterator.Adapters.{enumerate_count, enumerate_source}

abbrev pub invariant-loop-index : goal.invariant-loop-index
invariant-loop-index g l =
    Sofar (g.W.Wire.room l.initial.wire) (g.W.Wire.waiting l.initial.wire) (lines_of l.input) (string_bytes l.initial.report) (g.W.Wire.waiting l.wire) (vec_items l.sent) (string_bytes l.report) (enumerate_count l.index-iterator) (lines_of (rest_of (enumerate_source l.index-iterator)))
    × (vec_len l.sent + l.refused ≡ enumerate_count l.index-iterator)
    × (g.W.Wire.room l.wire ≡ g.W.Wire.room l.initial.wire)
