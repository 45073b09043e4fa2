-- The direction that an end asks in, where its own rows change.
use Rattle.std.proofs.Common.{◌≡◌, ℕ, ◌+◌, ◌<◌, ◌≤◌, Bool, true, eqb, List, [], ◌∷◌, ◌++◌, map, refl, arith}
use Rattle.rules.proofs.Newest.{leaves, restate}
use Rattle.rules.proofs.Orderly.{going_in, withdrawing}
use Rattle.rules.proofs.OrderlyHeard.{granting}
use Rattle.rules.proofs.Sound.{Asked, Backs, GrantedAt, InAt, Is, NotAt, Pending, RowOk, Rows, SlipOk, WithdrawingAt}
use Rattle.rules.proofs.Tools.{all_both, all_keeping, all_map, all_push, all_weaker, any_keeping, any_left, any_map, any_push, any_weaker, test}
use Rattle.rules.specs.Ends.{is_asking, is_in_lem, is_withdrawing}
use Rattle.rules.specs.Lists.{All, Any, keeping}
use Rattle.rules.specs.Moves.{new_row}
use Rattle.rules.specs.declared.rows.OwnRow.{OwnRow}
use Rattle.rules.specs.declared.rows.Permission.{Permission}
use Rattle.rules.specs.declared.rows.PromisedRow.{PromisedRow}
use Rattle.rules.specs.declared.rows.RowState.{RowState}
use Rattle.rules.specs.declared.rows.RowState.TheVariants.{Asking, Held, In, Withdrawing}
use Rattle.slip.specs.declared.paper.Message.{Message}
use Rattle.slip.specs.declared.track.Class.{Class}
use Rattle.slip.specs.declared.track.Train.{Train}

-- a change of state in place

pub record Change (H : ℕ) (g : ℕ → RowState → RowState) : Type 0 where
  pub ins : (s : ℕ) (st : RowState) → is_in_lem st ≡ true → is_in_lem (g s st) ≡ true
  pub wds : (s : ℕ) (st : RowState) → is_withdrawing st ≡ true → is_withdrawing (g s st) ≡ true
  pub asks : (s : ℕ) (st : RowState) → is_asking (g s st) ≡ true → is_asking st ≡ true
  pub pends : (s : ℕ) (st : RowState) → H < s → Pending st → Pending (g s st)

module _ (own : List OwnRow) (U : ℕ) (ps : List PromisedRow) (H : ℕ) (g : ℕ → RowState → RowState) (c : Change H g) where
  pub change_rows : Rows own U ps H → All (λ r. RowOk H ps r.serial (g r.serial r.state)) own → Rows (map (restate g) own) U ps H
  change_rows i ok = record {
    rows = all_map (λ r. RowOk H ps r.serial r.state) (restate g) own ok;
    bound = i.bound;
    backed = all_weaker (λ p a. any_map (Backs p) (restate g) own
        (any_weaker (Backs p) (λ r. Backs p (restate g r)) (λ r b. record { same = b.same; train = b.train; class = b.class; went = λ e. c.ins r.serial r.state (b.went e) }) own a)) ps i.backed;
  }

  change_grant : (s : ℕ) (k : Permission) → All (GrantedAt ps s k) own → All (GrantedAt ps s k) (map (restate g) own)
  change_grant s k h = all_map (GrantedAt ps s k) (restate g) own (all_weaker (λ r f e a. f e (c.asks r.serial r.state a)) own h)

  pub change_slips : (s : ℕ) (m : Message) → SlipOk own U ps H s m → SlipOk (map (restate g) own) U ps H s m
  change_slips s (Message.Wanted t k) h = (
    h.0,
    λ l. any_map (Asked s t k) (restate g) own
        (any_weaker (Asked s t k) (λ r. Asked s t k (restate g r))
        (λ r a. record { same = a.same; train = a.train; class = a.class; pending = c.pends r.serial r.state (omega (arith, a.same)) a.pending }) own (h.1 l)),
  )
  change_slips s Message.Clear h = (h.0, change_grant s Permission.Clear h.1)
  change_slips s Message.Permissive h = (h.0, change_grant s Permission.Permissive h.1)
  change_slips s Message.NotClear h = h
  change_slips s Message.Entered h = (h.0, all_map (InAt s) (restate g) own (all_weaker (λ r f e. c.ins r.serial r.state (f e)) own h.1))
  change_slips s Message.Out h = h
  change_slips s Message.Withdraw h = (h.0, all_map (WithdrawingAt s) (restate g) own (all_weaker (λ r f e. c.wds r.serial r.state (f e)) own h.1))
  change_slips s Message.Released h = h

-- withdraw

pub withdraw_change : (H : ℕ) → Change H withdrawing
withdraw_change H = record { ins = λ s st h. grind arith; wds = λ s st h. grind arith; asks = λ s st h. grind arith; pends = λ s st l h. grind arith }

pub withdraw_rows : (own : List OwnRow) (U : ℕ) (ps : List PromisedRow) (H : ℕ) → Rows own U ps H → Rows (map (restate withdrawing) own) U ps H
withdraw_rows own U ps H i = change_rows own U ps H withdrawing (withdraw_change H) i (all_weaker (λ r h. ok r.serial r.state h) own i.rows)
  where
    ok : (s : ℕ) (st : RowState) → RowOk H ps s st → RowOk H ps s (withdrawing s st)
    ok s st h = grind arith

-- enter

pub enter_change : (H : ℕ) → Change H going_in
enter_change H = record { ins = λ s st h. grind arith; wds = λ s st h. grind arith; asks = λ s st h. grind arith; pends = λ s st l h. grind arith }

pub enter_rows : (own : List OwnRow) (U : ℕ) (ps : List PromisedRow) (H : ℕ) → Rows own U ps H → Rows (map (restate going_in) own) U ps H
enter_rows own U ps H i = change_rows own U ps H going_in (enter_change H) i (all_weaker (λ r h. ok r.serial r.state h) own i.rows)
  where
    ok : (s : ℕ) (st : RowState) → RowOk H ps s st → RowOk H ps s (going_in s st)
    ok s st h = grind arith

-- CLEAR and PERMISSIVE heard

pub grant_change : (H : ℕ) (k : Permission) (s : ℕ) → s ≤ H → Change H (granting s k)
grant_change H k s l = record { ins = λ q st h. grind arith; wds = λ q st h. grind arith; asks = λ q st h. grind arith; pends = λ q st m h. grind arith }

pub grant_rows : (own : List OwnRow) (U : ℕ) (ps : List PromisedRow) (H : ℕ) (k : Permission) (s : ℕ) → s ≤ H → All (GrantedAt ps s k) own → Rows own U ps H → Rows (map (restate (granting s k)) own) U ps H
grant_rows own U ps H k s l h i =
    change_rows own U ps H (granting s k) (grant_change H k s l) i
    (all_both _ _ (λ r. RowOk H ps r.serial (granting s k r.serial r.state)) (λ r o a. ok r.serial r.state o a) own i.rows h)
  where
    ok : (q : ℕ) (st : RowState) → RowOk H ps q st → (q ≡ s → is_asking st ≡ true → Any (Is s k) ps) → RowOk H ps q (granting s k q st)
    ok q Asking o a = test (eqb q s) (Held k) Asking (RowOk H ps q) (λ e. let z : q ≡ s = grind arith in (omega (arith, l), rw z (a z refl))) (λ e. o)
    ok q (Held j) o a = o
    ok q (In j) o a = o
    ok q Withdrawing o a = o

-- a row goes: NOT CLEAR, RELEASED and OUT heard

stays : (s : ℕ) (t : RowState → Bool) (r : OwnRow) → (r.serial ≡ s → ⊥) → leaves s t r ≡ true
stays s t r n = grind arith

module _ (own : List OwnRow) (U : ℕ) (ps : List PromisedRow) (H : ℕ) (s : ℕ) (t : RowState → Bool) (l : s ≤ H) (none : All (NotAt s) ps) where
  pub drop_rows : Rows own U ps H → Rows (keeping (leaves s t) own) U ps H
  drop_rows i = record {
    rows = all_keeping (λ r. RowOk H ps r.serial r.state) (λ r. RowOk H ps r.serial r.state) (leaves s t) (λ r e h. h) own i.rows;
    bound = i.bound;
    backed = all_both _ _ (λ p. Any (Backs p) (keeping (leaves s t) own))
        (λ p n a. any_keeping (Backs p) (leaves s t) (λ r b. stays s t r (λ e. n (omega (arith, b.same)))) own a) ps none i.backed;
  }

  drop_all : (P : OwnRow → Type 0) → All P own → All P (keeping (leaves s t) own)
  drop_all P h = all_keeping P P (leaves s t) (λ r e h. h) own h

  pub drop_slips : (q : ℕ) (m : Message) → SlipOk own U ps H q m → SlipOk (keeping (leaves s t) own) U ps H q m
  drop_slips q (Message.Wanted n k) h = (h.0, λ m. any_keeping (Asked q n k) (leaves s t) (λ r a. stays s t r (λ e. omega (arith, a.same))) own (h.1 m))
  drop_slips q Message.Clear h = (h.0, drop_all (GrantedAt ps q Permission.Clear) h.1)
  drop_slips q Message.Permissive h = (h.0, drop_all (GrantedAt ps q Permission.Permissive) h.1)
  drop_slips q Message.NotClear h = h
  drop_slips q Message.Entered h = (h.0, drop_all (InAt q) h.1)
  drop_slips q Message.Out h = h
  drop_slips q Message.Withdraw h = (h.0, drop_all (WithdrawingAt q) h.1)
  drop_slips q Message.Released h = h

-- ask

module _ (own : List OwnRow) (U : ℕ) (ps : List PromisedRow) (H : ℕ) (t : Train) (k : Class) (i : Rows own U ps H) where
  pub ask_rows : Rows (own ++ (new_row (U + 1) t k ∷ [])) (U + 1) ps H
  ask_rows = record {
    rows = all_push (λ r. RowOk H ps r.serial r.state) own (new_row (U + 1) t k) i.rows tt;
    bound = omega (arith, i.bound);
    backed = all_weaker (λ p a. any_left (Backs p) own (new_row (U + 1) t k ∷ []) a) ps i.backed;
  }

  ask_grant : (q : ℕ) (j : Permission) → q ≤ H → All (GrantedAt ps q j) own → All (GrantedAt ps q j) (own ++ (new_row (U + 1) t k ∷ []))
  ask_grant q j l h = all_push (GrantedAt ps q j) own (new_row (U + 1) t k) h (λ e a. absurd (omega (arith, l, i.bound, e)))

  pub ask_slips : (q : ℕ) (m : Message) → SlipOk own U ps H q m → SlipOk (own ++ (new_row (U + 1) t k ∷ [])) (U + 1) ps H q m
  ask_slips q (Message.Wanted n j) h = (omega (arith, h.0), λ m. any_left (Asked q n j) own (new_row (U + 1) t k ∷ []) (h.1 m))
  ask_slips q Message.Clear h = (h.0, ask_grant q Permission.Clear h.0 h.1)
  ask_slips q Message.Permissive h = (h.0, ask_grant q Permission.Permissive h.0 h.1)
  ask_slips q Message.NotClear h = h
  ask_slips q Message.Entered h = (h.0, all_push (InAt q) own (new_row (U + 1) t k) h.1 (λ e. absurd (omega (arith, h.0, i.bound, e))))
  ask_slips q Message.Out h = h
  ask_slips q Message.Withdraw h = (omega (arith, h.0), all_push (WithdrawingAt q) own (new_row (U + 1) t k) h.1 (λ e. absurd (omega (arith, h.0, e))))
  ask_slips q Message.Released h = h

  pub ask_puts : SlipOk (own ++ (new_row (U + 1) t k ∷ [])) (U + 1) ps H (U + 1) (Message.Wanted t k)
  ask_puts = (omega arith, λ m. any_push (Asked (U + 1) t k) own (new_row (U + 1) t k) (record { same = refl; train = refl; class = refl; pending = tt }))
