-- The invariant of one direction: a asks, g gives; what the rows of both and the slips between them have to do with each other.
use Rattle.std.proofs.Common.{◌≡◌, ℕ, ◌<◌, ◌≤◌, true, List}
use Rattle.rules.specs.Ends.{is_asking, is_in_lem, is_withdrawing}
use Rattle.rules.specs.Lists.{All, Any}
use Rattle.rules.specs.declared.rows.OwnRow.{OwnRow}
use Rattle.rules.specs.declared.rows.Permission.{Permission}
use Rattle.rules.specs.declared.rows.PromisedRow.{PromisedRow}
use Rattle.rules.specs.declared.rows.RowState.{RowState}
use Rattle.rules.specs.declared.rows.RowState.TheVariants.{Asking, Held, In, Withdrawing}
use Rattle.slip.specs.declared.paper.Message.{Message}
use Rattle.slip.specs.declared.track.Class.{Class}
use Rattle.slip.specs.declared.track.Train.{Train}

-- the own row that a promised row was given for; a reported one has gone in
pub record Backs (p : PromisedRow) (r : OwnRow) : Type 0 where
  pub same : r.serial ≡ p.serial
  pub train : r.train ≡ p.train
  pub class : r.class ≡ p.class
  pub went : p.reported ≡ true → is_in_lem r.state ≡ true

pub record Is (s : ℕ) (k : Permission) (p : PromisedRow) : Type 0 where
  pub same : p.serial ≡ s
  pub kind : p.permission ≡ k

abbrev pub RowOk : ℕ → List PromisedRow → ℕ → RowState → Type 0
RowOk H ps s Asking = Unit {0}
RowOk H ps s (Held k) = (s ≤ H) × Any (Is s k) ps
RowOk H ps s (In k) = s ≤ H
RowOk H ps s Withdrawing = Unit {0}

pub record Rows (own : List OwnRow) (U : ℕ) (ps : List PromisedRow) (H : ℕ) : Type 0 where
  pub rows : All (λ r. RowOk H ps r.serial r.state) own
  pub bound : H ≤ U
  pub backed : All (λ p. Any (Backs p) own) ps

-- slips

abbrev pub Pending : RowState → Type 0
Pending Asking = Unit {0}
Pending (Held k) = ⊥
Pending (In k) = ⊥
Pending Withdrawing = Unit {0}

pub record Asked (s : ℕ) (t : Train) (c : Class) (r : OwnRow) : Type 0 where
  pub same : r.serial ≡ s
  pub train : r.train ≡ t
  pub class : r.class ≡ c
  pub pending : Pending r.state

abbrev pub InAt : ℕ → OwnRow → Type 0
InAt s r = r.serial ≡ s → is_in_lem r.state ≡ true

abbrev pub WithdrawingAt : ℕ → OwnRow → Type 0
WithdrawingAt s r = r.serial ≡ s → is_withdrawing r.state ≡ true

abbrev pub GrantedAt : List PromisedRow → ℕ → Permission → OwnRow → Type 0
GrantedAt ps s k r = r.serial ≡ s → is_asking r.state ≡ true → Any (Is s k) ps

abbrev pub NotAt : ℕ → PromisedRow → Type 0
NotAt s p = p.serial ≡ s → ⊥

abbrev pub SlipOk : List OwnRow → ℕ → List PromisedRow → ℕ → ℕ → Message → Type 0
SlipOk own U ps H s (Message.Wanted t c) = (s ≤ U) × (H < s → Any (Asked s t c) own)
SlipOk own U ps H s Message.Clear = (s ≤ H) × All (GrantedAt ps s Permission.Clear) own
SlipOk own U ps H s Message.Permissive = (s ≤ H) × All (GrantedAt ps s Permission.Permissive) own
SlipOk own U ps H s Message.NotClear = (s ≤ H) × All (NotAt s) ps
SlipOk own U ps H s Message.Entered = (s ≤ H) × All (InAt s) own
SlipOk own U ps H s Message.Out = (s ≤ H) × All (NotAt s) ps
SlipOk own U ps H s Message.Withdraw = (s ≤ U) × All (WithdrawingAt s) own
SlipOk own U ps H s Message.Released = (s ≤ H) × All (NotAt s) ps
