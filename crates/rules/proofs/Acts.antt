-- A block stays good under the calls made at one of its ends.
use Rattle.std.proofs.Common.{◌≡◌, ℕ, ◌+◌, ◌≤◌, Bool, true, ◌&&◌, eqb, List, [], ◌∷◌, map, Some, None, Ok, Err, Option, Result, sym, refl, subst, arith}
use Rattle.book.specs.Books.{Book}
use Rattle.rules.proofs.Block.{After, Good, none_some, some_map}
use Rattle.rules.proofs.Newest.{newest_any, renewed_map, restate}
use Rattle.rules.proofs.Orderly.{IsHeld, Orderly, going_in, held_newest, withdrawing}
use Rattle.rules.proofs.Sound.{Asked, RowOk, Rows, WithdrawingAt}
use Rattle.rules.proofs.StepGive.{Past, besides_head, gone_rows, gone_slips, one_row, reported_past}
use Rattle.rules.proofs.StepOwn.{ask_puts, ask_rows, ask_slips, change_slips, enter_change, enter_rows, withdraw_change, withdraw_rows}
use Rattle.rules.proofs.Told.{Told}
use Rattle.rules.proofs.ToldEnter.{HeldBy, gone_in, is_held, told_enter}
use Rattle.rules.proofs.ToldGive.{told_arrive, told_passed}
use Rattle.rules.proofs.ToldOwn.{told_ask, told_change}
use Rattle.rules.proofs.Tools.{all_map, all_weaker, any_out, any_weaker, find_any, test}
use Rattle.rules.specs.Ends.{Kept, is_in_lem, is_stop, is_withdrawing, newest_to, own_of_train, with_own, with_promised}
use Rattle.rules.specs.Lists.{All, Any, Pairwise, find, newest}
use Rattle.rules.specs.Moves.{Done, arrive_of, arrived, enter_of, entered, go_in_lem, held, is_empty, present_of, presented, repeat_of, repeat_row, repeated, with_asking, withdraw_of, withdraw_row, withdrawn, word}
use Rattle.rules.specs.Safe.{Lower}
use Rattle.rules.specs.Tally.{Tallies, arrive_by, enter_by, noted}
use Rattle.rules.specs.declared.rows.HeldRow.{HeldRow}
use Rattle.rules.specs.declared.rows.OwnRow.{OwnRow}
use Rattle.rules.specs.declared.rows.Permission.{Permission}
use Rattle.rules.specs.declared.rows.PromisedRow.{PromisedRow}
use Rattle.rules.specs.declared.rows.RowState.{RowState}
use Rattle.rules.specs.declared.rows.RowState.TheVariants.{Asking, Held, In, Withdrawing}
use Rattle.rules.specs.Ends.{Signal}
use Rattle.rules.specs.declared.rows.Word.{Word}
use Rattle.slip.specs.Trains.{same_train}
use Rattle.slip.specs.declared.fault.Fault.{Fault}
use Rattle.slip.specs.declared.paper.Message.{Message}
use Rattle.slip.specs.declared.track.Class.{Class}
use Rattle.slip.specs.declared.track.Train.{Train}

-- a move that is not turned away leaves the block good
abbrev pub Moved : Book → Kept → Kept → Tallies → Kept → Result Word Fault → Type 0
Moved b x y τ z (Ok w) = After b x y z (Some w) τ
Moved b x y τ z (Err fault) = Unit {0}

abbrev pub DoneWell : Book → Kept → Kept → Tallies → Done Word → Type 0
DoneWell b x y τ d = Moved b x y τ d.1 d.0

abbrev pub SaidWell : Book → Kept → Kept → Tallies → Result Word Fault → Type 0
SaidWell b x y τ r = Moved b x y τ x r

module _ (b : Book) (x y : Kept) (τ : Tallies) (g : Good b x y τ) (ox : Orderly x) (oy : Orderly y) where
  -- ask

  pub ask_ok : (t : Train) (c : Class) → is_empty x.promised ≡ true →
      After b x y (with_asking (x.used + 1) t c x) (Some (word (Message.Wanted t c) (x.used + 1))) (record { leaving = noted (x.used + 1) t c τ.leaving; coming = τ.coming })
  ask_ok t c e = record {
    good = record {
      asks = ask_rows x.own x.used y.promised y.heard t c g.asks;
      gives = g.gives;
      asked = told_ask b x.own x.used y.promised y.heard τ.leaving t c g.asks.bound ox.used oy.heard g.asked;
      given = g.given;
      near = λ h k. none_some x.promised e k;
      far = g.far;
    };
    mine = ask_slips x.own x.used y.promised y.heard t c g.asks;
    theirs = λ s m h. h;
    says = ask_puts x.own x.used y.promised y.heard t c g.asks;
  }

  -- withdraw

  withdraw_each : (r : OwnRow) → newest x.own ≡ Some r → is_withdrawing (withdrawing 0 r.state) ≡ true → After b x y (with_own x (map (restate withdrawing) x.own) None) (Some (word Message.Withdraw r.serial)) τ
  withdraw_each r e h = record {
    good = record {
      asks = withdraw_rows x.own x.used y.promised y.heard g.asks;
      gives = g.gives;
      asked = told_change b x.own x.used y.promised y.heard τ.leaving withdrawing (withdraw_change y.heard).ins g.asked;
      given = g.given;
      near = λ h k. g.near (some_map (restate withdrawing) x.own h) k;
      far = g.far;
    };
    mine = change_slips x.own x.used y.promised y.heard withdrawing (withdraw_change y.heard);
    theirs = λ s m h. h;
    says = (
      any_out (λ q. q.serial ≤ x.used) (λ q. q ≡ r) (r.serial ≤ x.used) (λ q o z. rw z at o) x.own ox.used there,
      all_map (WithdrawingAt r.serial) (restate withdrawing) x.own
          (one_row (λ q. is_withdrawing (withdrawing q.serial q.state) ≡ true) r.serial x.own ox.rules.own_order
          (any_weaker (λ q. q ≡ r) _ (λ q z. (rw z, rw z (turn r.serial r.state h))) x.own there)),
    );
  }
    where
      there : Any (λ q. q ≡ r) x.own
      there = newest_any x.own r e

      turn : (s : ℕ) (st : RowState) → is_withdrawing (withdrawing 0 st) ≡ true → is_withdrawing (withdrawing s st) ≡ true
      turn s st h = grind arith

  withdraws : (r : OwnRow) → newest x.own ≡ Some r → withdrawing r.serial r.state ≡ Withdrawing → After b x y (with_own x (newest_to x r Withdrawing) None) (Some (word Message.Withdraw r.serial)) τ
  withdraws r e z = subst (λ (l : List OwnRow). After b x y (with_own x l None) (Some (word Message.Withdraw r.serial)) τ)
      (sym (renewed_map withdrawing (λ s k. refl) x.own r Withdrawing ox.rules.own_order e z)) (withdraw_each r e (turn r.serial r.state z))
    where
      turn : (s : ℕ) (st : RowState) → withdrawing s st ≡ Withdrawing → is_withdrawing (withdrawing 0 st) ≡ true
      turn s st h = grind arith

  pub withdraw_ok : (place : ℕ) → DoneWell b x y τ (withdrawn place x)
  withdraw_ok place = go (newest x.own) refl
    where
      row : (r : OwnRow) (st : RowState) → newest x.own ≡ Some r → r.state ≡ st → DoneWell b x y τ (withdraw_row place x r st)
      row r Asking e z = withdraws r e (rw z)
      row r (Held k) e z = withdraws r e (rw z)
      row r (In k) e z = tt
      row r Withdrawing e z = tt

      go : (o : Option OwnRow) → newest x.own ≡ o → DoneWell b x y τ (withdraw_of place x o)
      go None e = tt
      go (Some r) e = row r r.state e refl

  -- show: no rows change

  pub show_ok : (signal : Signal) → After b x y (with_own x x.own signal) None τ
  show_ok signal = record {
    good = record { asks = g.asks; gives = g.gives; asked = g.asked; given = g.given; near = g.near; far = g.far };
    mine = λ s m h. h;
    theirs = λ s m h. h;
    says = tt;
  }

  -- enter and present

  go_in_ok : (h : HeldRow) (t : Train) → held x ≡ Some h → same_train h.row.train t ≡ true → DoneWell b x y (enter_by t τ) (go_in_lem x h)
  go_in_ok h t e m = subst (λ (l : List OwnRow). After b x y (with_own x l None) (Some (word Message.Entered h.row.serial)) (enter_by t τ))
      (sym (renewed_map going_in (λ s k. refl) x.own h.row (In h.permission) ox.rules.own_order is.newest (rw is.state))) each
    where
      is : IsHeld x h
      is = held_newest x h e

      held_state : (k : Permission) (st : RowState) → st ≡ Held k → is_held st ≡ true
      held_state k st z = grind arith

      there : Any (HeldBy h.row.serial t) x.own
      there = any_weaker (λ q. q ≡ h.row) (HeldBy h.row.serial t) (λ q z. record { same = rw z; train = rw z m; held = rw z (held_state h.permission h.row.state is.state) }) x.own (newest_any x.own h.row is.newest)

      low : (q : ℕ) (st : RowState) → is_held st ≡ true → RowOk y.heard y.promised q st → q ≤ y.heard
      low q st z o = grind arith

      each : After b x y (with_own x (map (restate going_in) x.own) None) (Some (word Message.Entered h.row.serial)) (enter_by t τ)
      each = record {
        good = record {
          asks = enter_rows x.own x.used y.promised y.heard g.asks;
          gives = g.gives;
          asked = told_enter b x.own x.used y.promised y.heard τ.leaving h.row.serial t ox.rules.own_order ox.used oy.rules.promised_order g.asks g.asked there;
          given = g.given;
          near = λ h k. g.near (some_map (restate going_in) x.own h) k;
          far = g.far;
        };
        mine = change_slips x.own x.used y.promised y.heard going_in (enter_change y.heard);
        theirs = λ s m h. h;
        says = (
          any_out (λ q. RowOk y.heard y.promised q.serial q.state) (HeldBy h.row.serial t) (h.row.serial ≤ y.heard)
              (λ q o z. omega (arith, low q.serial q.state z.held o, z.same)) x.own g.asks.rows there,
          gone_in b x.own x.used y.promised y.heard τ.leaving h.row.serial t ox.rules.own_order ox.used oy.rules.promised_order g.asks g.asked there,
        );
      }

  pub enter_ok : (place : ℕ) (t : Train) → DoneWell b x y (enter_by t τ) (entered place t x)
  enter_ok place t = go (held x) refl
    where
      go : (o : Option HeldRow) → held x ≡ o → DoneWell b x y (enter_by t τ) (enter_of place t x o)
      go None e = tt
      go (Some h) e = test (same_train h.row.train t) _ _ (DoneWell b x y (enter_by t τ)) (λ z. test (is_stop x.signal) _ _ (DoneWell b x y (enter_by t τ)) (λ w. tt) (λ w. go_in_ok h t e z)) (λ z. tt)

  pub present_ok : (place s : ℕ) (t : Train) → DoneWell b x y (enter_by t τ) (presented place s t x)
  present_ok place s t = go (held x) refl
    where
      second : (p q : Bool) → p && q ≡ true → q ≡ true
      second p q e = grind arith

      go : (o : Option HeldRow) → held x ≡ o → DoneWell b x y (enter_by t τ) (present_of place s t x o)
      go None e = tt
      go (Some h) e = test (eqb h.row.serial s && same_train h.row.train t) _ _ (DoneWell b x y (enter_by t τ)) (λ z. go_in_ok h t e (second (eqb h.row.serial s) (same_train h.row.train t) z)) (λ z. tt)

  -- arrive

  pub arrive_ok : (place : ℕ) (t : Train) → DoneWell b x y (arrive_by t τ) (arrived place t x)
  arrive_ok place t = go x.promised refl
    where
      done : (p : PromisedRow) (ps : List PromisedRow) → x.promised ≡ p ∷ ps → same_train p.train t ≡ true → p.reported ≡ true → After b x y (with_promised x ps x.heard) (Some (word Message.Out p.serial)) (arrive_by t τ)
      done p ps e m f =
          let rows : Rows y.own y.used (p ∷ ps) x.heard = rw e at g.gives in
          let told : Told b y.own y.used (p ∷ ps) x.heard τ.coming = rw e at g.given in
          let rising : Pairwise Lower (p ∷ ps) = rw e at ox.rules.promised_order in
          let heard : All (λ p. p.serial ≤ x.heard) (p ∷ ps) = rw e at ox.heard in
          let head = besides_head p ps rising.0 in
          let past : All (λ r. r.serial ≡ p.serial → Past r.state) y.own = reported_past y.own p oy.rules.own_order rows.backed.0 f in
          record {
            good = record {
              asks = g.asks;
              gives = rw head at (gone_rows y.own y.used (p ∷ ps) x.heard p.serial past rows);
              asked = told_passed b x.own x.used y.promised y.heard τ.leaving t g.asked;
              given = told_arrive b y.own y.used p ps x.heard τ.coming t m told;
              near = λ h k. g.near h (rw e tt);
              far = g.far;
            };
            mine = λ s m h. h;
            theirs = λ s m h. rw head at (gone_slips y.own y.used (p ∷ ps) x.heard p.serial past s m (rw e at h));
            says = (heard.0, all_weaker (λ q l z. omega (arith, l, z)) ps rising.0);
          }

      go : (ps : List PromisedRow) → x.promised ≡ ps → DoneWell b x y (arrive_by t τ) (arrive_of place t x ps)
      go [] e = tt
      go (p ∷ ps) e = test (same_train p.train t) _ _ (DoneWell b x y (arrive_by t τ)) (λ z. test p.reported _ _ (DoneWell b x y (arrive_by t τ)) (λ w. done p ps e z w) (λ w. tt)) (λ z. tt)

  -- repeat: nothing changes, and what is said is true

  pub repeat_ok : (place : ℕ) (t : Train) → SaidWell b x y τ (repeated place t x)
  repeat_ok place t = go (find (own_of_train t) x.own) refl
    where
      row : (r : OwnRow) (st : RowState) → find (own_of_train t) x.own ≡ Some r → r.state ≡ st → SaidWell b x y τ (repeat_row place r st)
      row r st e z = by_state st z
        where
          there : Any (λ q. q ≡ r) x.own
          there = any_weaker _ (λ q. q ≡ r) (λ q h. h.1) x.own (find_any (own_of_train t) x.own r e)

          ok : RowOk y.heard y.promised r.serial r.state
          ok = any_out (λ q. RowOk y.heard y.promised q.serial q.state) (λ q. q ≡ r) _ (λ q o h. rw h at o) x.own g.asks.rows there

          used : r.serial ≤ x.used
          used = any_out (λ q. q.serial ≤ x.used) (λ q. q ≡ r) (r.serial ≤ x.used) (λ q o h. rw h at o) x.own ox.used there

          each : (Q : RowState → Type 0) → Q r.state → All (λ q. q.serial ≡ r.serial → Q q.state) x.own
          each Q h = one_row (λ q. Q q.state) r.serial x.own ox.rules.own_order (any_weaker (λ q. q ≡ r) _ (λ q z. (rw z, rw z h)) x.own there)

          by_state : (st : RowState) → r.state ≡ st → SaidWell b x y τ (repeat_row place r st)
          by_state Asking z = record {
            good = g;
            mine = λ s m h. h;
            theirs = λ s m h. h;
            says = (used, λ l. any_weaker (λ q. q ≡ r) (Asked r.serial r.train r.class) (λ q h. record { same = rw h; train = rw h; class = rw h; pending = rw (h, z) tt }) x.own there);
          }
          by_state (Held k) z = tt
          by_state (In k) z = record { good = g; mine = λ s m h. h; theirs = λ s m h. h; says = (rw z at ok, each (λ st. is_in_lem st ≡ true) (rw z)) }
          by_state Withdrawing z = record { good = g; mine = λ s m h. h; theirs = λ s m h. h; says = (used, each (λ st. is_withdrawing st ≡ true) (rw z)) }

      go : (o : Option OwnRow) → find (own_of_train t) x.own ≡ o → SaidWell b x y τ (repeat_of place o)
      go None e = tt
      go (Some r) e = row r r.state e refl
