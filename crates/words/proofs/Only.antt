-- A line that reads as a call is the one that the call is written as.
use Rattle.std.proofs.Common.{◌≡◌, ℕ, ◌<◌, List, ◌∷◌, ◌++◌, None, Ok, decimal, append_assoc, arith}
use Rattle.slip.specs.declared.track.End.{End}
use Rattle.words.proofs.Back.{back}
use Rattle.words.proofs.Spelled.{ends, letters, name_text, names, numbers}
use Rattle.words.proofs.Steps.{Took, end_only, first, took, with_rest}
use Rattle.words.specs.Reading.{Reading, argued, call_at, command_of, end_reached, field, place_and_train, place_at, then}
use Rattle.words.specs.Spelling.{end_of, letter_of, number_of}
use Rattle.words.specs.Words.{Left, whole}
use Rattle.words.specs.Written.{ReadsWritten, Writable, end_text, written}
use Rattle.words.specs.declared.command.Command.{Command}
use Rattle.words.specs.declared.command.Name.{Name}

-- block and end, and a train after them, are taken as one word is

abbrev CanPlace : ℕ × End → Type 0
CanPlace p = p.0 < 100000

abbrev place_text : ℕ × End → List ℕ
place_text p = decimal p.0 ++ (32 ∷ end_text p.1)

placed : {U : Type 0} (l : Left) (next : ℕ × End → Left → Reading U) (y : U) (k : Left) → then (place_at l) next ≡ (Ok y, k) → Took CanPlace place_text l next y k
placed l next y k h =
    let f = first (place_at l) next y k h in
    let block = took numbers l (λ b j. then (field end_of j) (λ e i. (Ok (b, e), i))) f.value f.rest f.before in
    let end = took ends block.rest (λ e i. (Ok (block.value, e), i)) f.value f.rest block.after in
    record { value = f.value; rest = f.rest; can = grind arith; line = grind (arith, append_assoc); after = f.after }

abbrev CanTrain : ℕ × End × ℕ → Type 0
CanTrain p = (p.0 < 100000) × (p.2 < 100000)

abbrev train_text : ℕ × End × ℕ → List ℕ
train_text p = decimal p.0 ++ (32 ∷ (end_text p.1 ++ (32 ∷ decimal p.2)))

trained : {U : Type 0} (l : Left) (next : ℕ × End × ℕ → Left → Reading U) (y : U) (k : Left) → then (place_and_train l) next ≡ (Ok y, k) → Took CanTrain train_text l next y k
trained l next y k h =
    let f = first (place_and_train l) next y k h in
    let place = placed l (λ p j. then (field number_of j) (λ t i. (Ok (p.0, p.1, t), i))) f.value f.rest f.before in
    let train = took numbers place.rest (λ t i. (Ok (place.value.0, place.value.1, t), i)) f.value f.rest place.after in
    record { value = f.value; rest = f.rest; can = grind arith; line = grind (arith, append_assoc); after = f.after }

-- a call that was read can be written, and its line is that

abbrev IsLine : Name → Left → Command → Type 0
IsLine n l c = Writable c × (written c ≡ with_rest (name_text n) l.rest)

argued_only : (n : Name) (l : Left) (c : Command) (k : Left) → argued n l ≡ (Ok c, k) → k.rest ≡ None → IsLine n l c
argued_only Name.Ask l c k h none =
    let train = trained l (λ p j. then (field letter_of j) (λ class i. (Ok (Command.Ask p.0 p.1 p.2 class), i))) c k h in
    let class = took letters train.rest (λ class i. (Ok (Command.Ask train.value.0 train.value.1 train.value.2 class), i)) c k train.after in
    grind (arith, append_assoc)
argued_only Name.Withdraw l c k h none = let place = placed l (λ p j. (Ok (Command.Withdraw p.0 p.1), j)) c k h in grind arith
argued_only Name.Show l c k h none = let place = placed l (λ p j. (Ok (Command.Show p.0 p.1), j)) c k h in grind arith
argued_only Name.Enter l c k h none = let train = trained l (λ p j. (Ok (Command.Enter p.0 p.1 p.2), j)) c k h in grind arith
argued_only Name.Form l c k h none = let place = placed l (λ p j. (Ok (Command.Form p.0 p.1), j)) c k h in grind arith
argued_only Name.Arrive l c k h none = let train = trained l (λ p j. (Ok (Command.Arrive p.0 p.1 p.2), j)) c k h in grind arith
argued_only Name.Repeat l c k h none = let train = trained l (λ p j. (Ok (Command.Repeat p.0 p.1 p.2), j)) c k h in grind arith
argued_only Name.Deliver l c k h none = grind arith
argued_only Name.Fade l c k h none = grind arith

only : (line : List ℕ) (c : Command) → command_of line ≡ Ok c → Writable c × (written c ≡ line)
only line c h =
    let k : Left = (call_at (whole line)).1 in
    let name = took names (whole line) (λ n j. then (argued n j) (λ d i. then (end_reached i) (λ _ m. (Ok d, m)))) c k (grind arith) in
    let args = first (argued name.value name.rest) (λ d i. then (end_reached i) (λ _ m. (Ok d, m))) c k name.after in
    let end = first (end_reached args.rest) (λ _ m. (Ok args.value, m)) c k args.after in
    let none = end_only args.rest end.rest end.before in
    let read = argued_only name.value name.rest args.value args.rest args.before none in
    grind arith

pub reads_written : ReadsWritten
reads_written = record { back = back; only = only }
