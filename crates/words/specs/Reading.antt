-- A line of a sheet as a call, or the fault at its first word out of place.
use Rattle.std.specs.Prelude.{ℕ, min, List, Some, None, Ok, Err, Option, Result}
use Rattle.slip.specs.declared.fault.Cause.{Cause}
use Rattle.slip.specs.declared.fault.Fault.{Fault}
use Rattle.slip.specs.declared.track.End.{End}
use Rattle.std.specs.Option.{ok_or}
use Rattle.words.specs.Spelling.{end_of, letter_of, name_of, number_of}
use Rattle.words.specs.Words.{Left, Piece, next_word, whole}
use Rattle.words.specs.declared.command.Command.{Command}
use Rattle.words.specs.declared.command.Name.{Name}

-- Reading something: what was read, or the fault, and what is left of the line.
abbrev pub Reading : Type 0 → Type 0
Reading T = Result T Fault × Left

-- a line that cannot be read: number 13, layer 4; the place is the column, or 4,294,967,295 where a place cannot hold more
abbrev pub unreadable_at : ℕ → Fault
unreadable_at column = record { cause = Cause.Unreadable; place = min column 4294967295 }

-- one reading after the other, as far as the first fault
abbrev pub then_of : {S T : Type 0} → Result S Fault → Left → (S → Left → Reading T) → Reading T
then_of (Ok x) l next = next x l
then_of (Err fault) l next = (Err fault, l)

abbrev pub then : {S T : Type 0} → Reading S → (S → Left → Reading T) → Reading T
then r next = then_of r.0 r.1 next

-- the next word; a missing one is out of place one past the line's end
abbrev pub word_of : Option Piece → Left → Reading Piece
word_of None l = (Err (unreadable_at l.column), l)
word_of (Some word) l = (Ok word, l)

abbrev pub word_at : Left → Reading Piece
word_at l = word_of (next_word l).0 (next_word l).1

-- the next word as what it says; one that says no such thing is out of place
abbrev pub field : {T : Type 0} → (List ℕ → Option T) → Left → Reading T
field says l = then (word_at l) (λ word k. (ok_or (says word.text) (unreadable_at word.column), k))

-- a block, and the end of it that calls
abbrev pub place_at : Left → Reading (ℕ × End)
place_at l = then (field number_of l) (λ block k. then (field end_of k) (λ end j. (Ok (block, end), j)))

-- the line has no more words; one that it has is out of place
abbrev pub end_of_line : Option Piece → Left → Reading Unit
end_of_line None l = (Ok tt, l)
end_of_line (Some word) l = (Err (unreadable_at word.column), l)

abbrev pub end_reached : Left → Reading Unit
end_reached l = end_of_line (next_word l).0 (next_word l).1

-- a block, the end of it that calls, and a train
abbrev pub place_and_train : Left → Reading (ℕ × End × ℕ)
place_and_train l = then (place_at l) (λ p k. then (field number_of k) (λ train j. (Ok (p.0, p.1, train), j)))

-- a call that takes block and end
abbrev pub at_place : (ℕ → End → Command) → Left → Reading Command
at_place call l = then (place_at l) (λ p k. (Ok (call p.0 p.1), k))

-- a call that takes block, end and train
abbrev pub of_train : (ℕ → End → ℕ → Command) → Left → Reading Command
of_train call l = then (place_and_train l) (λ p k. (Ok (call p.0 p.1 p.2), k))

-- asking takes a class too
abbrev pub ask_at : Left → Reading Command
ask_at l = then (place_and_train l) (λ p k. then (field letter_of k) (λ class j. (Ok (Command.Ask p.0 p.1 p.2 class), j)))

-- the call of this name, with the arguments that it takes
abbrev pub argued : Name → Left → Reading Command
argued Name.Ask l = ask_at l
argued Name.Withdraw l = at_place Command.Withdraw l
argued Name.Show l = at_place Command.Show l
argued Name.Enter l = of_train Command.Enter l
argued Name.Form l = at_place Command.Form l
argued Name.Arrive l = of_train Command.Arrive l
argued Name.Repeat l = of_train Command.Repeat l
argued Name.Deliver l = (Ok Command.Deliver, l)
argued Name.Fade l = (Ok Command.Fade, l)

-- the name, then its arguments, then nothing more
abbrev pub call_at : Left → Reading Command
call_at l = then (field name_of l) (λ name k. then (argued name k) (λ command j. then (end_reached j) (λ _ i. (Ok command, i))))

-- what a line reads as
abbrev pub command_of : List ℕ → Result Command Fault
command_of line = (call_at (whole line)).0
