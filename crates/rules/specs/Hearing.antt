-- What a slip does at the end that hears it: what is answered, and what the end keeps then.
use Rattle.std.specs.Prelude.{ℕ, max, Bool, true, false, cond, List, [], ◌∷◌, ◌++◌, map, length, Some, None, Option, ◌==◌, nat_le}
use Rattle.book.specs.Books.{Book}
use Rattle.rules.specs.Ends.{Kept, is_asking, is_withdrawing, newest_to, own_in, promise_of, with_own, with_promised}
use Rattle.rules.specs.Lists.{find, how_many, newest, without_first, without_newest}
use Rattle.rules.specs.declared.rows.Heard.{Heard}
use Rattle.rules.specs.declared.rows.Heard.TheVariants.{Found, Ignored, Reply}
use Rattle.rules.specs.declared.rows.OwnRow.{OwnRow}
use Rattle.rules.specs.declared.rows.Permission.{Permission}
use Rattle.rules.specs.declared.rows.Permission.TheVariants.{Clear, Permissive}
use Rattle.rules.specs.declared.rows.PromisedRow.{PromisedRow}
use Rattle.rules.specs.declared.rows.RowState.{RowState}
use Rattle.rules.specs.declared.rows.RowState.TheVariants.{Asking, Held, In, Withdrawing}
use Rattle.slip.specs.Numbers.{class_letter_lem}
use Rattle.slip.specs.declared.paper.Message.{Message}
use Rattle.slip.specs.declared.track.Class.{Class}
use Rattle.slip.specs.declared.track.Class.TheVariants.{Freight, Light, Passenger, Work}
use Rattle.slip.specs.declared.track.Train.{Train}

-- which trains ahead the book's third number counts: those that carry passengers
abbrev pub counts : Class → Bool
counts Passenger = true
counts Freight = false
counts Work = false
counts Light = false

abbrev pub counted : PromisedRow → Bool
counted p = counts p.class

-- whether the book lets a train of this class in behind the promised ones
abbrev pub admitted : Book → Class → List PromisedRow → Bool
admitted b class ps = b.admits (class_letter_lem class) (length ps) (how_many counted ps)

-- the reply that gives a permission
abbrev pub giving : Permission → Message
giving Clear = Message.Clear
giving Permissive = Message.Permissive

abbrev pub new_promise : ℕ → Train → Class → Permission → PromisedRow
new_promise serial train class kind = record { serial = serial; train = train; class = class; permission = kind; reported = false }

abbrev pub promising : ℕ → Train → Class → Permission → Kept → Heard × Kept
promising serial train class kind k =
    (Reply (giving kind), with_promised k (k.promised ++ (new_promise serial train class kind ∷ [])) serial)

-- refused, and heard all the same
abbrev pub refusing : ℕ → Kept → Heard × Kept
refusing serial k = (Reply Message.NotClear, with_promised k k.promised serial)

-- WANTED

abbrev pub behind_promised : Book → ℕ → Train → Class → Kept → List PromisedRow → Heard × Kept
behind_promised b serial train class k [] = promising serial train class Clear k
behind_promised b serial train class k (p ∷ ps) =
    cond (admitted b class (p ∷ ps)) (promising serial train class Permissive k) (refusing serial k)

abbrev pub against_own : Book → ℕ → Train → Class → Kept → List OwnRow → Heard × Kept
against_own b serial train class k [] = behind_promised b serial train class k k.promised
against_own b serial train class k (r ∷ rs) = refusing serial k

abbrev pub wanted_of : Book → ℕ → Train → Class → Kept → Option PromisedRow → Heard × Kept
wanted_of b serial train class k (Some p) = (Reply (giving p.permission), k)
wanted_of b serial train class k None =
    cond (nat_le serial k.heard) (Reply Message.NotClear, k) (against_own b serial train class k k.own)

-- CLEAR and PERMISSIVE: the row that asks becomes Held

abbrev pub grant_row : Permission → Kept → OwnRow → RowState → Heard × Kept
grant_row kind k r Asking = (Found, with_own k (newest_to k r (Held kind)) k.signal)
grant_row kind k r (Held other) = (Ignored, k)
grant_row kind k r (In other) = (Ignored, k)
grant_row kind k r Withdrawing = (Ignored, k)

abbrev pub granted : ℕ → Permission → Kept → Option OwnRow → Heard × Kept
granted serial kind k None = (Ignored, k)
granted serial kind k (Some r) = cond (r.serial == serial) (grant_row kind k r r.state) (Ignored, k)

-- NOT CLEAR and RELEASED: the row that asks, or that withdraws, goes

abbrev pub dropping : Kept → Heard × Kept
dropping k = (Found, with_own k (without_newest k.own) k.signal)

abbrev pub dropped : (RowState → Bool) → ℕ → Kept → Option OwnRow → Heard × Kept
dropped state serial k None = (Ignored, k)
dropped state serial k (Some r) = cond (r.serial == serial) (cond (state r.state) (dropping k) (Ignored, k)) (Ignored, k)

-- OUT: the row goes whose train is in

abbrev pub out_of : ℕ → Kept → Option OwnRow → Heard × Kept
out_of serial k None = (Ignored, k)
out_of serial k (Some r) = (Found, with_own k (without_first (own_in serial) k.own) k.signal)

-- ENTERED: the promised row is marked, and where there is none the train is out

abbrev pub marked : ℕ → PromisedRow → PromisedRow
marked serial p =
    record { serial = p.serial; train = p.train; class = p.class; permission = p.permission; reported = cond (p.serial == serial) true p.reported }

abbrev pub reported_of : ℕ → Kept → Option PromisedRow → Heard × Kept
reported_of serial k None = (Reply Message.Out, k)
reported_of serial k (Some p) = (Found, with_promised k (map (marked serial) k.promised) k.heard)

-- WITHDRAW: the promised row goes, and the serial counts as heard

abbrev pub withdraw_heard : ℕ → Kept → Heard × Kept
withdraw_heard serial k = (Reply Message.Released, with_promised k (without_first (promise_of serial) k.promised) (max k.heard serial))

abbrev pub hears : Book → ℕ → Message → Kept → Heard × Kept
hears b serial (Message.Wanted train class) k = wanted_of b serial train class k (find (promise_of serial) k.promised)
hears b serial Message.Clear k = granted serial Clear k (newest k.own)
hears b serial Message.Permissive k = granted serial Permissive k (newest k.own)
hears b serial Message.NotClear k = dropped is_asking serial k (newest k.own)
hears b serial Message.Entered k = reported_of serial k (find (promise_of serial) k.promised)
hears b serial Message.Out k = out_of serial k (find (own_in serial) k.own)
hears b serial Message.Withdraw k = withdraw_heard serial k
hears b serial Message.Released k = dropped is_withdrawing serial k (newest k.own)
