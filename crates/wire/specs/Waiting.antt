-- What a wire means: the slips that wait, oldest first, a room, and what put, take and fade make of them.
use Rattle.std.specs.Prelude.{◌≡◌, ℕ, ◌<◌, cond, ◌⊎◌, List, [], ◌∷◌, ◌++◌, length, is_ok, Some, None, Ok, Err, Option, Result, ◌==◌, nat_lt, slice_index_or}
use Rattle.slip.specs.Form.{InForm, bad_slip, first_bad}
use Rattle.slip.specs.declared.fault.Cause.{Cause}
use Rattle.slip.specs.declared.fault.Fault.{Fault}
use Rattle.slip.specs.declared.paper.Slip.{Slip}

-- every slip that waits is in form
abbrev pub Formed : List Slip → Type 0
Formed ws = (k : ℕ) (d : Slip) → k < length ws → InForm (slice_index_or ws k d)

-- a full wire: its place is the number of slips that wait
abbrev pub full_wire : ℕ → Fault
full_wire waiting = record { cause = Cause.WireFull; place = waiting }

-- put refuses a slip out of form first, then a slip that finds as many waiting as there is room for
abbrev pub put_answer : Slip → List Slip → ℕ → Result Unit Fault
put_answer s ws room =
    cond (first_bad s == 0) (cond (nat_lt (length ws) room) (Ok tt) (Err (full_wire (length ws)))) (Err (bad_slip (first_bad s)))

-- a slip that is taken in joins the end
abbrev pub put_after : Slip → List Slip → ℕ → List Slip
put_after s ws room = cond (is_ok (put_answer s ws room)) (ws ++ (s ∷ [])) ws

-- what a take may answer and leave: none where nothing waits, else one waiting slip, which goes or stays
abbrev pub Taken : List Slip → Option Slip → List Slip → Type 0
Taken ws None left = (ws ≡ []) × (left ≡ ws)
Taken ws (Some s) left = (older : List Slip) × (newer : List Slip) × (ws ≡ older ++ (s ∷ newer)) × ((left ≡ older ++ newer) ⊎ (left ≡ ws))

-- what a fade may leave: all, or all but one
abbrev pub Faded : List Slip → List Slip → Type 0
Faded ws left = (left ≡ ws) ⊎ ((older : List Slip) × (s : Slip) × (newer : List Slip) × (ws ≡ older ++ (s ∷ newer)) × (left ≡ older ++ newer))

-- how a wire chooses, named so that code above can say what comes: of what waits, what a take answers and leaves, and what a fade leaves
abbrev pub Picks : Type 1
Picks = List Slip → Option Slip → List Slip → Type 0

abbrev pub Loses : Type 1
Loses = List Slip → List Slip → Type 0

-- a lawful choice takes a slip that waits, and loses one at most
abbrev pub LawfulPicks : Picks → Type 0
LawfulPicks picks = (ws : List Slip) (r : Option Slip) (left : List Slip) → picks ws r left → Taken ws r left

abbrev pub LawfulLoses : Loses → Type 0
LawfulLoses loses = (ws left : List Slip) → loses ws left → Faded ws left

-- first come, first taken; nothing is lost
abbrev pub OldestFirst : List Slip → Option Slip → List Slip → Type 0
OldestFirst [] r left = (r ≡ None) × (left ≡ [])
OldestFirst (w ∷ ws) r left = (r ≡ Some w) × (left ≡ ws)

abbrev pub LosesNone : List Slip → List Slip → Type 0
LosesNone ws left = left ≡ ws
