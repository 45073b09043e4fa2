-- What is printed of a line of a sheet.
use Rattle.std.specs.Prelude.{ℕ, List, ◌++◌, Ok, Err, codes, decimal, Result}
use Rattle.rules.specs.Numbers.{answer_number}
use Rattle.rules.specs.declared.answers.Answer.{Answer}
use Rattle.slip.specs.Causes.{fault_layer, fault_number}
use Rattle.slip.specs.declared.fault.Fault.{Fault}

-- an answer by its number
abbrev pub numbered : Result Answer Fault → Result ℕ Fault
numbered (Ok answer) = Ok (answer_number answer)
numbered (Err fault) = Err fault

-- the line's number, `ok` and the answer; or the line's number, `no`, and the fault's number, layer and place
abbrev pub line_text : ℕ → Result ℕ Fault → List ℕ
line_text n (Ok answer) = decimal n ++ (codes " ok " ++ (decimal answer ++ codes "\n"))
line_text n (Err f) =
    decimal n ++ (codes " no " ++ (decimal (fault_number f) ++ (codes " " ++ (decimal (fault_layer f) ++ (codes " " ++ (decimal f.place ++ codes "\n"))))))
