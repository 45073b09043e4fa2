-- The invariant of one direction: what its rows and its tally have to do with each other.
use Rattle.std.proofs.Common.{◌≡◌, ℕ, ◌+◌, ◌≤◌, true, List, [], ◌∷◌, length, Some, None, Option}
use Rattle.book.specs.Books.{Book}
use Rattle.rules.proofs.Sound.{InAt}
use Rattle.rules.specs.Lists.{All, Any, Each, Pairwise}
use Rattle.rules.specs.Safe.{OtherChoice, RightlyGiven, SamePermission}
use Rattle.rules.specs.Tally.{Entry, Note, Promise, Tally, is_given, note_for}
use Rattle.rules.specs.declared.rows.OwnRow.{OwnRow}
use Rattle.rules.specs.declared.rows.PromisedRow.{PromisedRow}
use Rattle.slip.specs.Trains.{same_train}
use Rattle.slip.specs.declared.track.Class.{Class}
use Rattle.slip.specs.declared.track.Train.{Train}

abbrev pub NoteIs : Option Note → Train → Class → Type 0
NoteIs None t c = ⊥
NoteIs (Some n) t c = (n.train ≡ t) × (n.class ≡ c)

abbrev pub NotedRow : Tally → OwnRow → Type 0
NotedRow τ r = NoteIs (note_for r.serial τ.notes) r.train r.class

-- a promise of this train, spent
pub record Spent (t : Train) (q : Promise) : Type 0 where
  pub train : same_train q.train t ≡ true
  pub spent : q.spent ≡ true

abbrev pub SpentIn : List OwnRow → Promise → Type 0
SpentIn own q = q.spent ≡ true → All (InAt q.serial) own

-- an entry's one permission, whose row has gone in
pub record Served (own : List OwnRow) (U : ℕ) (x : Entry) : Type 0 where
  pub serial : ℕ
  pub one : x.choices ≡ serial ∷ []
  pub used : serial ≤ U
  pub went : All (InAt serial) own

pub record Told (b : Book) (own : List OwnRow) (U : ℕ) (ps : List PromisedRow) (H : ℕ) (τ : Tally) : Type 0 where
  pub same : Each SamePermission τ.promises ps
  pub spent : All (SpentIn own) τ.promises
  pub between : All (λ t. Any (Spent t) τ.promises) τ.between
  pub notes : All (NotedRow τ) own
  pub heard : All (λ g. g.serial ≤ H) τ.given
  pub known : All (λ p. is_given p.serial τ.given ≡ true) ps
  pub count : length τ.given ≡ length ps + (τ.arrivals + τ.releases)
  pub good : All (RightlyGiven b) τ.given
  pub served : All (Served own U) τ.entries
  pub once : Pairwise OtherChoice τ.entries
  pub limit : length ps ≤ b.limit
