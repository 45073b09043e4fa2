-- What the lineman reads of a line.
use Rattle.std.specs.Prelude.{ℕ, List, ◌++◌, Ok, Err, codes, decimal, Result}
use Rattle.slip.specs.Causes.{fault_text}
use Rattle.slip.specs.Words.{slip_text}
use Rattle.slip.specs.declared.fault.Fault.{Fault}
use Rattle.slip.specs.declared.paper.Slip.{Slip}

-- of a line: the slip that was put, or why it was refused
abbrev pub line_words : ℕ → Result Slip Fault → List ℕ
line_words n (Ok s) = codes "line " ++ (decimal n ++ (codes ": put " ++ slip_text s))
line_words n (Err f) = codes "line " ++ (decimal n ++ (codes ": refused: " ++ fault_text f))

-- the same, as a line of a report
abbrev pub line_text : ℕ → Result Slip Fault → List ℕ
line_text n r = line_words n r ++ codes "\n"
