use Rattle.line.specs.Models.{model, setting}
use Rattle.lines.specs.Lines.{rest_of}
use Rattle.sheet.proofs.Turns.{Sofar}
use Rattle.sheet.proofs.run.perform_sheet.Given as goal
use Rattle.std.proofs.Common.{string_bytes}
use Rattle.std.specs.Iterator.Adapters.{enumerate_count, enumerate_source}

abbrev pub invariant-loop-index : goal.invariant-loop-index
invariant-loop-index g l =
    Sofar (setting l.initial.line) (model l.initial.line) l.input
    (string_bytes l.report) (rest_of (enumerate_source l.index-iterator)) (enumerate_count l.index-iterator) (model l.line)
