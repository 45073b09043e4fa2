-- The law of safety of a block, and the rules of an end's rows.
use Rattle.std.specs.Prelude.{◌≡◌, ℕ, ◌+◌, ◌<◌, ◌≤◌, Bool, true, false, not, ◌⊎◌, List, [], ◌∷◌, ◌++◌, map, length, Some, None, Option}
use Rattle.book.specs.Books.{Book}
use Rattle.rules.specs.Ends.{Kept, is_in_lem}
use Rattle.rules.specs.Hearing.{counts}
use Rattle.rules.specs.Lists.{All, Any, Each, Pairwise, how_many, keeping, newest}
use Rattle.rules.specs.Moves.{is_some}
use Rattle.rules.specs.Tally.{Entry, Given, Promise, Tallies, Tally}
use Rattle.rules.specs.declared.rows.OwnRow.{OwnRow}
use Rattle.rules.specs.declared.rows.Permission.{Permission}
use Rattle.rules.specs.declared.rows.PromisedRow.{PromisedRow}
use Rattle.rules.specs.declared.rows.RowState.{RowState}
use Rattle.rules.specs.Ends.{Signal}
use Rattle.slip.specs.Numbers.{class_letter_lem}
use Rattle.slip.specs.Trains.{same_train}
use Rattle.slip.specs.declared.track.Train.{Train}
use Rattle.rules.specs.Lists.{find}

-- THE ROWS OF AN END

-- of two own rows the older has the lower serial, is In, and is of another train
pub record Older (r q : OwnRow) : Type 0 where
  pub serial : r.serial < q.serial
  pub gone_in : is_in_lem r.state ≡ true
  pub train : same_train r.train q.train ≡ false

abbrev pub Lower : PromisedRow → PromisedRow → Type 0
Lower p q = p.serial < q.serial

-- a signal off Stop: the newest own row is Held, of the kind it shows
abbrev pub HeldAs : Permission → Option OwnRow → Type 0
HeldAs kind None = ⊥
HeldAs kind (Some r) = r.state ≡ RowState.Held kind

abbrev pub Shows : Option OwnRow → Signal → Type 0
Shows r None = Unit {0}
Shows r (Some kind) = HeldAs kind r

pub record RowRules (k : Kept) : Type 0 where
  pub own_order : Pairwise Older k.own
  pub own_few : length k.own ≤ 4
  pub promised_order : Pairwise Lower k.promised
  pub promised_few : length k.promised ≤ 4
  pub signal : Shows (newest k.own) k.signal

-- A BLOCK

abbrev pub train_of : Promise → Train
train_of p = p.train

abbrev pub among : List Train → Train → Bool
among ts train = is_some (find (λ t. same_train t train) ts)

-- the trains promised, and those between that are not promised too
abbrev pub trains : Tally → List Train
trains τ = map train_of τ.promises ++ keeping (λ t. not (among (map train_of τ.promises) t)) τ.between

-- no train is promised or between
pub record Free (τ : Tally) : Type 0 where
  pub promised : τ.promises ≡ []
  pub between : τ.between ≡ []

-- a Clear permission was given with nothing ahead; a Permissive one was admitted by the book behind the trains then promised
abbrev pub carries : Promise → Bool
carries p = counts p.class

abbrev pub Fit : Book → Permission → Given → Type 0
Fit b Permission.Clear g = (g.ahead ≡ []) × (g.between ≡ [])
Fit b Permission.Permissive g = b.admits (class_letter_lem g.class) (length g.ahead) (how_many carries g.ahead) ≡ true

-- and nothing was promised or between the other way
pub record RightlyGiven (b : Book) (g : Given) : Type 0 where
  pub no_facing : g.facing ≡ []
  pub no_meeting : g.meeting ≡ []
  pub fit : Fit b g.permission g

-- a promise of the tally and a promised row are one permission
pub record SamePermission (q : Promise) (p : PromisedRow) : Type 0 where
  pub serial : q.serial ≡ p.serial
  pub train : q.train ≡ p.train
  pub class : q.class ≡ p.class
  pub permission : q.permission ≡ p.permission

-- an own row's permission, of this kind, is promised and unspent
pub record Unspent (r : OwnRow) (kind : Permission) (q : Promise) : Type 0 where
  pub serial : q.serial ≡ r.serial
  pub train : q.train ≡ r.train
  pub class : q.class ≡ r.class
  pub permission : q.permission ≡ kind
  pub spent : q.spent ≡ false

abbrev pub BackedRow : Tally → Permission → Option OwnRow → Type 0
BackedRow τ kind None = ⊥
BackedRow τ kind (Some r) = (r.state ≡ RowState.Held kind) × Any (Unspent r kind) τ.promises

abbrev pub BackedSignal : Tally → Option OwnRow → Signal → Type 0
BackedSignal τ r None = Unit {0}
BackedSignal τ r (Some kind) = BackedRow τ kind r

-- an entry had one permission to spend, and no two entries had the same
pub record OneChoice (e : Entry) : Type 0 where
  pub serial : ℕ
  pub only : e.choices ≡ serial ∷ []

abbrev pub OtherChoice : Entry → Entry → Type 0
OtherChoice e f = e.choices ≡ f.choices → ⊥

-- one way through a block, from the end that asks to the end that gives
pub record Way (b : Book) (asking giving : Kept) (τ : Tally) : Type 0 where
  -- a signal off Stop shows the kind of the Held row, whose permission is promised and unspent
  pub signal : BackedSignal τ (newest asking.own) asking.signal
  -- every permission is Clear into an empty block, or Permissive and admitted by the book
  pub given : All (RightlyGiven b) τ.given
  -- the promised rows are the tally's promises, in order
  pub promises : Each SamePermission τ.promises giving.promised
  -- every permission given is promised still, or ended by an arrival or by a release
  pub count : length τ.given ≡ length giving.promised + (τ.arrivals + τ.releases)
  -- every entry had exactly one permission to spend
  pub entries : All OneChoice τ.entries
  -- no permission served two entries
  pub once : Pairwise OtherChoice τ.entries

pub record Safe (b : Book) (west east : Kept) (τ : Tallies) : Type 0 where
  -- all trains promised or between run one way
  pub one_way : Free τ.leaving ⊎ Free τ.coming
  -- and number at most the book's limit
  pub few : length (trains τ.leaving ++ trains τ.coming) ≤ b.limit
  pub eastward : Way b west east τ.leaving
  pub westward : Way b east west τ.coming
