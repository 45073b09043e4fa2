-- Every call keeps the rows of every end in order, whatever waits on the wire.
use Rattle.std.proofs.Common.{◌≡◌, ℕ, ltb, List, Some, None, Ok, Err, Option, Result, subst}
use Rattle.book.specs.Books.{Book, Lawful}
use Rattle.rules.proofs.Orderly.{Orderly, arrive_orderly, ask_orderly, enter_orderly, idle_orderly, present_orderly, show_orderly, withdraw_orderly}
use Rattle.rules.proofs.OrderlyHeard.{hear_orderly}
use Rattle.rules.proofs.Places.{all_at, all_set}
use Rattle.rules.proofs.Steps.{may_ask, then_ok}
use Rattle.rules.proofs.Tools.{test}
use Rattle.rules.specs.Ends.{Kept, idle}
use Rattle.rules.specs.Hearing.{hears}
use Rattle.rules.specs.Lines.{Model, Outcome, asks, at_end, blocks, class_at, deliver_outcome, handing, insisting, located, replying, send_of, sends, show_end, site, slip_from, then, train_at, with_end}
use Rattle.rules.specs.Lists.{All}
use Rattle.rules.specs.Moves.{Done, arrived, entered, next_serial_lem, presented, repeated, shown, with_asking, withdrawn, word}
use Rattle.rules.specs.Runs.{Choice, outcome}
use Rattle.rules.specs.declared.answers.Answer.{Answer}
use Rattle.rules.specs.declared.calls.Call.{Call}
use Rattle.rules.specs.declared.rows.Heard.{Heard}
use Rattle.rules.specs.declared.rows.Permission.{Permission}
use Rattle.rules.specs.declared.rows.Word.{Word}
use Rattle.slip.specs.declared.fault.Fault.{Fault}
use Rattle.slip.specs.declared.paper.Message.{Message}
use Rattle.slip.specs.declared.paper.Slip.{Slip}
use Rattle.slip.specs.declared.track.Class.{Class}
use Rattle.slip.specs.declared.track.End.{End}
use Rattle.slip.specs.declared.track.Train.{Train}
use Rattle.wire.specs.Waiting.{put_answer}

abbrev pub InOrder : Outcome → Type 0
InOrder o = All Orderly o.after.ends

module _ (b : Book) (law : Lawful b) (m : Model) (os : All Orderly m.ends) where
  at : (n : ℕ) (e : End) → Orderly (at_end m.ends n e)
  at n e = all_at Orderly m.ends (site n e) (idle 0) os (idle_orderly 0)

  written : (n : ℕ) (e : End) (z : Kept) → Orderly z → All Orderly (with_end m.ends n e z)
  written n e z o = all_set Orderly m.ends (site n e) z os o

  sent : (n : ℕ) (e : End) (d : Done Word) → Orderly d.1 → InOrder (sends m n e d)
  sent n e d o = go d.0
    where
      go : (r : Result Word Fault) → InOrder (send_of m n e d.1 r)
      go (Ok w) = written n e d.1 o
      go (Err fault) = os

  put : (a : Answer) (n : ℕ) (e : End) (z : Kept) (s : Slip) (p : Result Unit Fault) → Orderly z → InOrder (insisting a m n e z s p)
  put a n e z s (Ok unit) o = written n e z o
  put a n e z s (Err fault) o = os

  showing : (n : ℕ) (e : End) (d : Done Permission) → Orderly d.1 → InOrder (show_end m n e d.1 d.0)
  showing n e d o = go d.0
    where
      go : (r : Result Permission Fault) → InOrder (show_end m n e d.1 r)
      go (Ok kind) = written n e d.1 o
      go (Err fault) = os

  at_end_of : (block end : ℕ) (f : End → Outcome) → ((e : End) → InOrder (f e)) → InOrder (then m (located (blocks m.ends) block end) f)
  at_end_of block end f h = then_ok InOrder m (located (blocks m.ends) block end) f (λ fault. os) (λ e z. h e)

  with_train : (position train : ℕ) (f : Train → Outcome) → ((t : Train) → InOrder (f t)) → InOrder (then m (train_at position train) f)
  with_train position train f h = then_ok InOrder m (train_at position train) f (λ fault. os) (λ t z. h t)

  ask_rows : (block : ℕ) (e : End) (t : Train) (c : Class) (serial : ℕ) → next_serial_lem (site block e) t (at_end m.ends block e) ≡ Ok serial → InOrder (asks m block e t c serial)
  ask_rows block e t c serial h =
      let may = may_ask (site block e) t (at_end m.ends block e) serial h in
      put (Answer.Serial serial) block e (with_asking serial t c (at_end m.ends block e)) _ (put_answer (slip_from block e (word (Message.Wanted t c) serial)) m.waiting m.room)
      (subst (λ (s : ℕ). Orderly (with_asking s t c (at_end m.ends block e))) may.next (ask_orderly (at_end m.ends block e) t c may.settled may.room may.new (at block e)))

  replied : (k : Model) (s : Slip) (h : Heard) → All Orderly k.ends → InOrder (replying k s h)
  replied k s Heard.Ignored o = o
  replied k s Heard.Found o = o
  replied k s (Heard.Reply v) o = o

  delivered : (left : List Slip) (o : Option Slip) → InOrder (deliver_outcome b m left o)
  delivered left None = os
  delivered left (Some s) = test (ltb s.block (blocks m.ends)) (handing b m left s) _ InOrder
      (λ e. replied _ s (hears b s.serial s.message (at_end m.ends s.block s.to)).0 (written s.block s.to _ (hear_orderly b law s.serial s.message (at_end m.ends s.block s.to) (at s.block s.to))))
      (λ e. os)

  pub rows_step : (call : Call) (c : Choice) → InOrder (outcome b call c m)
  rows_step (Call.Ask block end train class) c =
      at_end_of block end _ λ e. with_train 3 train _ λ t. then_ok InOrder m (class_at 4 class) _ (λ fault. os) λ k z.
      then_ok InOrder m (next_serial_lem (site block e) t (at_end m.ends block e)) _ (λ fault. os) λ serial h. ask_rows block e t k serial h
  rows_step (Call.Withdraw block end) c = at_end_of block end _ λ e. sent block e (withdrawn (site block e) (at_end m.ends block e)) (withdraw_orderly (site block e) (at_end m.ends block e) (at block e))
  rows_step (Call.Show block end) c = at_end_of block end _ λ e. showing block e (shown (site block e) (at_end m.ends block e)) (show_orderly (site block e) (at_end m.ends block e) (at block e))
  rows_step (Call.Enter block end train) c = at_end_of block end _ λ e. with_train 3 train _ λ t. sent block e (entered (site block e) t (at_end m.ends block e)) (enter_orderly (site block e) t (at_end m.ends block e) (at block e))
  rows_step (Call.Present block end serial train) c = at_end_of block end _ λ e. with_train 4 train _ λ t. sent block e (presented (site block e) serial t (at_end m.ends block e)) (present_orderly (site block e) serial t (at_end m.ends block e) (at block e))
  rows_step (Call.Arrive block end train) c = at_end_of block end _ λ e. with_train 3 train _ λ t. sent block e (arrived (site block e) t (at_end m.ends block e)) (arrive_orderly (site block e) t (at_end m.ends block e) (at block e))
  rows_step (Call.Repeat block end train) c = at_end_of block end _ λ e. with_train 3 train _ λ t.
      then_ok InOrder m (repeated (site block e) t (at_end m.ends block e)) _ (λ fault. os) λ w h. put _ block e (at_end m.ends block e) _ (put_answer (slip_from block e w) m.waiting m.room) (at block e)
  rows_step Call.Deliver c = delivered c.left c.taken
  rows_step Call.Fade c = os
