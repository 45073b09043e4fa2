-- Every call keeps the invariant of a line.
use Rattle.std.proofs.Common.{◌≡◌, ℕ, ◌+◌, ◌<◌, Bool, true, false, cond, eqb, ltb, leb, ◌⊎◌, List, [], ◌∷◌, ◌++◌, length, Some, None, Ok, Err, Option, Result, sym, refl, ap, subst, inl, inr, arith}
use Rattle.book.specs.Books.{Book, Lawful}
use Rattle.rules.proofs.Acts.{DoneWell, Moved, SaidWell, arrive_ok, ask_ok, enter_ok, present_ok, repeat_ok, show_ok, withdraw_ok}
use Rattle.rules.proofs.Block.{After, Good}
use Rattle.rules.proofs.Hears.{hear_ok, said}
use Rattle.rules.proofs.Orderly.{Orderly, idle_orderly}
use Rattle.rules.proofs.Places.{all_at}
use Rattle.rules.proofs.Tools.{test}
use Rattle.rules.proofs.Whole.{BeforePut, Waits, Whole, fed, from_end, settled}
use Rattle.rules.specs.Ends.{Kept, idle, own_of_train, station_fault}
use Rattle.rules.specs.Hearing.{hears}
use Rattle.rules.specs.Lines.{Model, Outcome, at_end, asks, bad_argument, blocks, class_at, deliver_outcome, ending_by, given_or, handing, insisting, located, refusal, replying, says_again, send_of, sends, show_end, site, slip_from, then, train_at, with_end}
use Rattle.rules.specs.Lists.{All, find, newest}
use Rattle.rules.specs.Moves.{Done, all_in, arrived, entered, held, is_empty, is_some, last_serial, next_serial_lem, presented, repeated, show_of, shown, with_asking, withdrawn, word}
use Rattle.rules.specs.Runs.{Choice, Chosen, any_wire, outcome}
use Rattle.rules.specs.Tally.{Tallies, arrive_by, ask_by, by_end, by_taken, called_at, enter_by, named_by, seen_from, take_by, the_train}
use Rattle.rules.specs.declared.answers.Answer.{Answer}
use Rattle.rules.specs.declared.answers.Ending.{Ending}
use Rattle.rules.specs.declared.calls.Call.{Call}
use Rattle.rules.specs.declared.rows.Heard.{Heard}
use Rattle.rules.specs.declared.rows.HeldRow.{HeldRow}
use Rattle.rules.specs.declared.rows.Permission.{Permission}
use Rattle.rules.specs.declared.rows.Word.{Word}
use Rattle.slip.specs.Numbers.{class_of, end_of, message_kind, other_end}
use Rattle.slip.specs.Trains.{known_train_lem}
use Rattle.slip.specs.declared.fault.Cause.{Cause}
use Rattle.slip.specs.declared.fault.Fault.{Fault}
use Rattle.slip.specs.declared.paper.Message.{Message}
use Rattle.slip.specs.declared.paper.Slip.{Slip}
use Rattle.slip.specs.declared.track.Class.{Class}
use Rattle.slip.specs.declared.track.End.{End}
use Rattle.slip.specs.declared.track.End.TheVariants.{East, West}
use Rattle.slip.specs.declared.track.Train.{Train}
use Rattle.std.proofs.lemmas.Bool.{leb-false, ltb-true}
use Rattle.wire.specs.Waiting.{Faded, Taken, put_answer}

-- a call that is turned away, or goes on
pub then_ok : {X : Type 0} (C : Outcome → Type 0) (m : Model) (r : Result X Fault) (f : X → Outcome) → ((fault : Fault) → C (refusal m fault)) → ((x : X) → r ≡ Ok x → C (f x)) → C (then m r f)
then_ok C m (Ok x) f away on = on x refl
then_ok C m (Err fault) f away on = away fault

-- what good arguments are

err_ok : {X : Type 0} (fault : Fault) (x : X) → Err fault ≡ Ok x → ⊥
err_ok fault x e = let z : ◌≡◌ {A = ℕ} 0 1 = cc in omega arith

given_ok : {X : Type 0} (position : ℕ) (o : Option X) (x : X) → given_or position o ≡ Ok x → o ≡ Some x
given_ok position None x e = absurd (err_ok (bad_argument position) x e)
given_ok position (Some y) x e = let z : y ≡ x = cc in ap Some z

located_ok : (count block end : ℕ) (e : End) → located count block end ≡ Ok e → (block < count) × (end_of end ≡ Some e)
located_ok count block end e h =
    test (ltb block count) (given_or 2 (end_of end)) (Err (bad_argument 1)) (λ r. r ≡ Ok e → (block < count) × (end_of end ≡ Some e))
    (λ z w. (ltb-true block count z, given_ok 2 (end_of end) e w)) (λ z w. absurd (err_ok (bad_argument 1) e w)) h

train_ok : (position number : ℕ) (t : Train) → train_at position number ≡ Ok t → t ≡ the_train number
train_ok position number t h =
    test (known_train_lem (the_train number)) (Ok (the_train number)) (Err (bad_argument position)) (λ r. r ≡ Ok t → t ≡ the_train number)
    (λ z w. cc) (λ z w. absurd (err_ok (bad_argument position) t w)) h

-- what the tally makes of a call at an end

same_here : (x : Bool) (e : End) (t : Tallies) → t ≡ cond x (by_end e (λ u. u) t) t
same_here true West t = refl
same_here true East t = refl
same_here false e t = refl

module _ (c : Choice) (quiet : c.taken ≡ None) (q : ℕ) (t : Tallies) where
  untaken : (u v : Tallies) → u ≡ v → by_taken q c.taken u ≡ v
  untaken u v h = subst (λ (o : Option Slip). by_taken q o u ≡ v) (sym quiet) h

  unseen : (n : ℕ) (e : End) → by_taken q c.taken t ≡ cond (eqb n q) (by_end e (λ u. u) t) t
  unseen n e = untaken t (cond (eqb n q) (by_end e (λ u. u) t) t) (same_here (eqb n q) e t)

  at_the_end : (n end : ℕ) (e : End) (change : Tallies → Tallies) → end_of end ≡ Some e → by_taken q c.taken (called_at q n end change t) ≡ cond (eqb n q) (by_end e change t) t
  at_the_end n end e change h = untaken (called_at q n end change t) (cond (eqb n q) (by_end e change t) t) (ap (λ (o : Option End). cond (eqb n q) (named_by o change t) t) h)

-- all that an asking was found good for
pub record MayAsk (k : Kept) (t : Train) (serial : ℕ) : Type 0 where
  pub alone : is_empty k.promised ≡ true
  pub settled : all_in (newest k.own) ≡ true
  pub room : length k.own < 4
  pub new : is_some (find (own_of_train t) k.own) ≡ false
  pub next : k.used + 1 ≡ serial

pub may_ask : (place : ℕ) (t : Train) (k : Kept) (serial : ℕ) → next_serial_lem place t k ≡ Ok serial → MayAsk k t serial
may_ask place t k serial h =
    test (is_empty k.promised) _ (Err (station_fault Cause.HasPromised place)) R (λ a.
    test (all_in (newest k.own)) _ (Err (station_fault Cause.RowOpen place)) R (λ s.
    test (leb 4 (length k.own)) (Err (station_fault Cause.RowsFull place)) _ R (λ z w. absurd (err_ok (station_fault Cause.RowsFull place) serial w)) (λ f.
    test (is_some (find (own_of_train t) k.own)) (Err (station_fault Cause.TrainHasRow place)) _ R (λ z w. absurd (err_ok (station_fault Cause.TrainHasRow place) serial w)) (λ n.
    test (leb last_serial k.used) (Err (station_fault Cause.SerialsUsedUp place)) (Ok (k.used + 1)) R (λ z w. absurd (err_ok (station_fault Cause.SerialsUsedUp place) serial w)) (λ z w.
    record { alone = a; settled = s; room = leb-false 4 (length k.own) f; new = n; next = cc })))) (λ z w. absurd (err_ok (station_fault Cause.RowOpen place) serial w))) (λ z w. absurd (err_ok (station_fault Cause.HasPromised place) serial w)) h
  where
    R : Result ℕ Fault → Type 0
    R r = r ≡ Ok serial → MayAsk k t serial

-- a call leaves the line whole
abbrev pub KeptWhole : Book → (ℕ → Tallies) → Call → Choice → Outcome → Type 0
KeptWhole b τ call c o = Whole b (fed call c τ o) o.after

module _ (b : Book) (law : Lawful b) (τ : ℕ → Tallies) (m : Model) (os : All Orderly m.ends) (i : Whole b τ m) where
  orderly_at : (n : ℕ) (e : End) → Orderly (at_end m.ends n e)
  orderly_at n e = all_at Orderly m.ends (site n e) (idle 0) os (idle_orderly 0)

  good_at : (n : ℕ) (e : End) → n < blocks m.ends → Good b (at_end m.ends n e) (at_end m.ends n (other_end e)) (seen_from e (τ n))
  good_at n e l = from_end b m.ends n e (τ n) (i.good n l)

  -- a call at one end: sent, or put only if the wire takes it, or shown

  module _ (call : Call) (c : Choice) (n : ℕ) (l : n < blocks m.ends) (e : End) (change : Tallies → Tallies) (before : (a : Answer) → BeforePut call c a n e change) where
    send_ok : (d : Done Word) → DoneWell b (at_end m.ends n e) (at_end m.ends n (other_end e)) (change (seen_from e (τ n))) d → KeptWhole b τ call c (sends m n e d)
    send_ok d h = go d.0 h
      where
        go : (r : Result Word Fault) → Moved b (at_end m.ends n e) (at_end m.ends n (other_end e)) (change (seen_from e (τ n))) d.1 r → KeptWhole b τ call c (send_of m n e d.1 r)
        go (Ok w) h = settled b τ m i n l e call c _ change (before _) d.1 (Some w) h m.waiting i.slips
        go (Err fault) h = i

    say_ok : (w : Word) → After b (at_end m.ends n e) (at_end m.ends n (other_end e)) (at_end m.ends n e) (Some w) (change (seen_from e (τ n))) → KeptWhole b τ call c (says_again m n e w)
    say_ok w h = go (put_answer (slip_from n e w) m.waiting m.room)
      where
        go : (p : Result Unit Fault) → KeptWhole b τ call c (insisting (Answer.Repeated (message_kind w.message)) m n e (at_end m.ends n e) (slip_from n e w) p)
        go (Ok unit) = settled b τ m i n l e call c _ change (before _) (at_end m.ends n e) (Some w) h m.waiting i.slips
        go (Err fault) = i

    shows_ok : (d : Done Permission) → After b (at_end m.ends n e) (at_end m.ends n (other_end e)) d.1 None (change (seen_from e (τ n))) → KeptWhole b τ call c (show_end m n e d.1 d.0)
    shows_ok d h = go d.0
      where
        go : (r : Result Permission Fault) → KeptWhole b τ call c (show_end m n e d.1 r)
        go (Ok kind) = settled b τ m i n l e call c (Answer.Shown kind) change (before (Answer.Shown kind)) d.1 None h m.waiting i.slips
        go (Err fault) = i

  -- the calls

  module _ (c : Choice) (quiet : c.taken ≡ None) (block end : ℕ) where
    pub withdraw_step : KeptWhole b τ (Call.Withdraw block end) c (outcome b (Call.Withdraw block end) c m)
    withdraw_step = then_ok (KeptWhole b τ (Call.Withdraw block end) c) m (located (blocks m.ends) block end) _ (λ fault. i) λ e h.
        let at = located_ok (blocks m.ends) block end e h in
        send_ok (Call.Withdraw block end) c block at.0 e (λ t. t) (λ a q t. unseen c quiet q t block e) (withdrawn (site block e) (at_end m.ends block e))
        (withdraw_ok b _ _ (seen_from e (τ block)) (good_at block e at.0) (orderly_at block e) (orderly_at block (other_end e)) (site block e))

    pub show_step : KeptWhole b τ (Call.Show block end) c (outcome b (Call.Show block end) c m)
    show_step = then_ok (KeptWhole b τ (Call.Show block end) c) m (located (blocks m.ends) block end) _ (λ fault. i) λ e h.
        let at = located_ok (blocks m.ends) block end e h in
        shows_ok (Call.Show block end) c block at.0 e (λ t. t) (λ a q t. unseen c quiet q t block e) (shown (site block e) (at_end m.ends block e))
        (go e at.0 (held (at_end m.ends block e)))
      where
        go : (e : End) → block < blocks m.ends → (h : Option HeldRow) → After b (at_end m.ends block e) (at_end m.ends block (other_end e)) (show_of (site block e) (at_end m.ends block e) h).1 None (seen_from e (τ block))
        go e l None = record { good = good_at block e l; mine = λ s m h. h; theirs = λ s m h. h; says = tt }
        go e l (Some h) = show_ok b _ _ (seen_from e (τ block)) (good_at block e l) (orderly_at block e) (orderly_at block (other_end e)) (Some h.permission)

    pub enter_step : (train : ℕ) → KeptWhole b τ (Call.Enter block end train) c (outcome b (Call.Enter block end train) c m)
    enter_step train = then_ok (KeptWhole b τ (Call.Enter block end train) c) m (located (blocks m.ends) block end) _ (λ fault. i) λ e h.
        then_ok (KeptWhole b τ (Call.Enter block end train) c) m (train_at 3 train) _ (λ fault. i) λ t f.
        let at = located_ok (blocks m.ends) block end e h in
        subst (λ (u : Train). KeptWhole b τ (Call.Enter block end train) c (sends m block e (entered (site block e) u (at_end m.ends block e)))) (sym (train_ok 3 train t f))
        (send_ok (Call.Enter block end train) c block at.0 e (enter_by (the_train train)) (λ a q t. at_the_end c quiet q t block end e (enter_by (the_train train)) at.1) (entered (site block e) (the_train train) (at_end m.ends block e))
        (enter_ok b _ _ (seen_from e (τ block)) (good_at block e at.0) (orderly_at block e) (orderly_at block (other_end e)) (site block e) (the_train train)))

    pub present_step : (serial train : ℕ) → KeptWhole b τ (Call.Present block end serial train) c (outcome b (Call.Present block end serial train) c m)
    present_step serial train = then_ok (KeptWhole b τ (Call.Present block end serial train) c) m (located (blocks m.ends) block end) _ (λ fault. i) λ e h.
        then_ok (KeptWhole b τ (Call.Present block end serial train) c) m (train_at 4 train) _ (λ fault. i) λ t f.
        let at = located_ok (blocks m.ends) block end e h in
        subst (λ (u : Train). KeptWhole b τ (Call.Present block end serial train) c (sends m block e (presented (site block e) serial u (at_end m.ends block e)))) (sym (train_ok 4 train t f))
        (send_ok (Call.Present block end serial train) c block at.0 e (enter_by (the_train train)) (λ a q t. at_the_end c quiet q t block end e (enter_by (the_train train)) at.1) (presented (site block e) serial (the_train train) (at_end m.ends block e))
        (present_ok b _ _ (seen_from e (τ block)) (good_at block e at.0) (orderly_at block e) (orderly_at block (other_end e)) (site block e) serial (the_train train)))

    pub arrive_step : (train : ℕ) → KeptWhole b τ (Call.Arrive block end train) c (outcome b (Call.Arrive block end train) c m)
    arrive_step train = then_ok (KeptWhole b τ (Call.Arrive block end train) c) m (located (blocks m.ends) block end) _ (λ fault. i) λ e h.
        then_ok (KeptWhole b τ (Call.Arrive block end train) c) m (train_at 3 train) _ (λ fault. i) λ t f.
        let at = located_ok (blocks m.ends) block end e h in
        subst (λ (u : Train). KeptWhole b τ (Call.Arrive block end train) c (sends m block e (arrived (site block e) u (at_end m.ends block e)))) (sym (train_ok 3 train t f))
        (send_ok (Call.Arrive block end train) c block at.0 e (arrive_by (the_train train)) (λ a q t. at_the_end c quiet q t block end e (arrive_by (the_train train)) at.1) (arrived (site block e) (the_train train) (at_end m.ends block e))
        (arrive_ok b _ _ (seen_from e (τ block)) (good_at block e at.0) (orderly_at block e) (orderly_at block (other_end e)) (site block e) (the_train train)))

    pub repeat_step : (train : ℕ) → KeptWhole b τ (Call.Repeat block end train) c (outcome b (Call.Repeat block end train) c m)
    repeat_step train = then_ok (KeptWhole b τ (Call.Repeat block end train) c) m (located (blocks m.ends) block end) _ (λ fault. i) λ e h.
        then_ok (KeptWhole b τ (Call.Repeat block end train) c) m (train_at 3 train) _ (λ fault. i) λ t f.
        then_ok (KeptWhole b τ (Call.Repeat block end train) c) m (repeated (site block e) t (at_end m.ends block e)) _ (λ fault. i) λ w r.
        let at = located_ok (blocks m.ends) block end e h in
        say_ok (Call.Repeat block end train) c block at.0 e (λ t. t) (λ a q t. unseen c quiet q t block e) w
        (subst (SaidWell b (at_end m.ends block e) (at_end m.ends block (other_end e)) (seen_from e (τ block))) r
        (repeat_ok b _ _ (seen_from e (τ block)) (good_at block e at.0) (orderly_at block e) (orderly_at block (other_end e)) (site block e) t))

    pub ask_step : (train class : ℕ) → KeptWhole b τ (Call.Ask block end train class) c (outcome b (Call.Ask block end train class) c m)
    ask_step train class = then_ok (KeptWhole b τ (Call.Ask block end train class) c) m (located (blocks m.ends) block end) _ (λ fault. i) λ e h.
        then_ok (KeptWhole b τ (Call.Ask block end train class) c) m (train_at 3 train) _ (λ fault. i) λ t f.
        then_ok (KeptWhole b τ (Call.Ask block end train class) c) m (class_at 4 class) _ (λ fault. i) λ k g.
        then_ok (KeptWhole b τ (Call.Ask block end train class) c) m (next_serial_lem (site block e) t (at_end m.ends block e)) _ (λ fault. i) λ serial n.
        let at = located_ok (blocks m.ends) block end e h in
        let may = may_ask (site block e) t (at_end m.ends block e) serial n in
        subst (λ (s : ℕ). KeptWhole b τ (Call.Ask block end train class) c (asks m block e t k s)) may.next
        (subst (λ (u : Train). MayAsk (at_end m.ends block e) u serial → KeptWhole b τ (Call.Ask block end train class) c (asks m block e u k ((at_end m.ends block e).used + 1))) (sym (train_ok 3 train t f))
        (λ y. go e k serial at.0 at.1 (given_ok 4 (class_of class) k g) y (put_answer (slip_from block e (word (Message.Wanted (the_train train) k) ((at_end m.ends block e).used + 1))) m.waiting m.room)) may)
      where
        go : (e : End) (k : Class) (serial : ℕ) → block < blocks m.ends → end_of end ≡ Some e → class_of class ≡ Some k → MayAsk (at_end m.ends block e) (the_train train) serial →
            (p : Result Unit Fault) → KeptWhole b τ (Call.Ask block end train class) c (insisting (Answer.Serial ((at_end m.ends block e).used + 1)) m block e (with_asking ((at_end m.ends block e).used + 1) (the_train train) k (at_end m.ends block e)) (slip_from block e (word (Message.Wanted (the_train train) k) ((at_end m.ends block e).used + 1))) p)
        go e k serial l f z may (Ok unit) =
            let a = Answer.Serial ((at_end m.ends block e).used + 1) in
            settled b τ m i block l e (Call.Ask block end train class) c a (ask_by (the_train train) (class_of class) a) (λ q t. at_the_end c quiet q t block end e (ask_by (the_train train) (class_of class) a) f)
            (with_asking ((at_end m.ends block e).used + 1) (the_train train) k (at_end m.ends block e)) (Some (word (Message.Wanted (the_train train) k) ((at_end m.ends block e).used + 1)))
            (subst (λ (o : Option Class). After b (at_end m.ends block e) (at_end m.ends block (other_end e)) (with_asking ((at_end m.ends block e).used + 1) (the_train train) k (at_end m.ends block e)) (Some (word (Message.Wanted (the_train train) k) ((at_end m.ends block e).used + 1))) (ask_by (the_train train) o a (seen_from e (τ block)))) (sym z)
            (ask_ok b _ _ (seen_from e (τ block)) (good_at block e l) (orderly_at block e) (orderly_at block (other_end e)) (the_train train) k may.alone))
            m.waiting i.slips
        go e k serial l f z may (Err fault) = i

  -- deliver: whatever waits and is taken is good, and what is left is good

  part : (older newer : List Slip) (s : Slip) → All (Waits m.ends) (older ++ (s ∷ newer)) → Waits m.ends s × All (Waits m.ends) (older ++ newer)
  part [] newer s a = a
  part (x ∷ older) newer s a = let r = part older newer s a.1 in (r.0, (a.0, r.1))

  taken_good : (s : Slip) (left : List Slip) → Taken m.waiting (Some s) left → Waits m.ends s × All (Waits m.ends) left
  taken_good s left t = go t.3
    where
      both : Waits m.ends s × All (Waits m.ends) (t.0 ++ t.1)
      both = part t.0 t.1 s (subst (All (Waits m.ends)) t.2 i.slips)

      go : (left ≡ t.0 ++ t.1) ⊎ (left ≡ m.waiting) → Waits m.ends s × All (Waits m.ends) left
      go (inl e) = (both.0, subst (All (Waits m.ends)) (sym e) both.1)
      go (inr e) = (both.0, subst (All (Waits m.ends)) (sym e) i.slips)

  hand_ok : (s : Slip) (left : List Slip) → s.block < blocks m.ends → Waits m.ends s → All (Waits m.ends) left → KeptWhole b τ Call.Deliver (record { taken = Some s; left = left }) (handing b m left s)
  hand_ok s left l w a = go (hears b s.serial s.message (at_end m.ends s.block s.to)).0
      (hear_ok b law _ _ (seen_from s.to (τ s.block)) (good_at s.block s.to l) (orderly_at s.block s.to) (orderly_at s.block (other_end s.to)) s.serial s.message w)
    where
      go : (h : Heard) → After b (at_end m.ends s.block s.to) (at_end m.ends s.block (other_end s.to)) (hears b s.serial s.message (at_end m.ends s.block s.to)).1 (said s.serial h) (take_by s.serial s.message (seen_from s.to (τ s.block))) →
          KeptWhole b τ Call.Deliver (record { taken = Some s; left = left }) (replying (record { ends = with_end m.ends s.block s.to (hears b s.serial s.message (at_end m.ends s.block s.to)).1; waiting = left; room = m.room }) s h)
      go Heard.Ignored r = settled b τ m i s.block l s.to Call.Deliver (record { taken = Some s; left = left }) (Answer.Delivered (record { kind = message_kind s.message; ending = Ending.Ignored })) (take_by s.serial s.message) (λ q t. refl) _ None r left a
      go Heard.Found r = settled b τ m i s.block l s.to Call.Deliver (record { taken = Some s; left = left }) (Answer.Delivered (record { kind = message_kind s.message; ending = Ending.Found })) (take_by s.serial s.message) (λ q t. refl) _ None r left a
      go (Heard.Reply v) r = settled b τ m i s.block l s.to Call.Deliver (record { taken = Some s; left = left })
          (Answer.Delivered (record { kind = message_kind s.message; ending = ending_by (put_answer (slip_from s.block s.to (word v s.serial)) left m.room) })) (take_by s.serial s.message) (λ q t. refl) _ (Some (word v s.serial)) r left a

  -- a slip for a block that is not there
  lost_ok : (s : Slip) (left : List Slip) → ltb s.block (blocks m.ends) ≡ false → All (Waits m.ends) left → (n : ℕ) → n < blocks m.ends → by_taken n (Some s) (τ n) ≡ τ n
  lost_ok s left f a n l = test (eqb s.block n) (by_end s.to (take_by s.serial s.message) (τ n)) (τ n) (λ (t : Tallies). t ≡ τ n) (λ e. absurd (grind (arith, e, f, l))) (λ e. refl)

  pub deliver_step : (c : Choice) → Taken m.waiting c.taken c.left → KeptWhole b τ Call.Deliver c (outcome b Call.Deliver c m)
  deliver_step c t = go c.taken t
    where
      go : (o : Option Slip) → Taken m.waiting o c.left → KeptWhole b τ Call.Deliver (record { taken = o; left = c.left }) (deliver_outcome b m c.left o)
      go None t = i
      go (Some s) t =
          let w = taken_good s c.left t in
          test (ltb s.block (blocks m.ends)) _ _ (KeptWhole b τ Call.Deliver (record { taken = Some s; left = c.left }))
          (λ e. hand_ok s c.left (ltb-true s.block (blocks m.ends) e) w.0 w.1)
          (λ e. record { good = λ n l. subst (Good b (at_end m.ends n West) (at_end m.ends n East)) (sym (lost_ok s c.left e w.1 n l)) (i.good n l); slips = w.1 })

  pub fade_step : (c : Choice) → c.taken ≡ None → Faded m.waiting c.left → KeptWhole b τ Call.Fade c (outcome b Call.Fade c m)
  fade_step c quiet f = record {
    good = λ n l. subst (λ (o : Option Slip). Good b (at_end m.ends n West) (at_end m.ends n East) (by_taken n o (τ n))) (sym quiet) (i.good n l);
    slips = go f;
  }
    where
      go : Faded m.waiting c.left → All (Waits m.ends) c.left
      go (inl e) = subst (All (Waits m.ends)) (sym e) i.slips
      go (inr p) = subst (All (Waits m.ends)) (sym p.4) (part p.0 p.2 p.1 (subst (All (Waits m.ends)) p.3 i.slips)).1

  pub step_ok : (call : Call) (c : Choice) → Chosen (any_wire b) call m c → KeptWhole b τ call c (outcome b call c m)
  step_ok (Call.Ask block end train class) c h = ask_step c h.0 block end train class
  step_ok (Call.Withdraw block end) c h = withdraw_step c h.0 block end
  step_ok (Call.Show block end) c h = show_step c h.0 block end
  step_ok (Call.Enter block end train) c h = enter_step c h.0 block end train
  step_ok (Call.Present block end serial train) c h = present_step c h.0 block end serial train
  step_ok (Call.Arrive block end train) c h = arrive_step c h.0 block end train
  step_ok (Call.Repeat block end train) c h = repeat_step c h.0 block end train
  step_ok Call.Deliver c h = deliver_step c h
  step_ok Call.Fade c h = fade_step c h.0 h.1
