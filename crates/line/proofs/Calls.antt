-- From what a call comes to, to what it promises.
use Rattle.std.proofs.Common.{◌≡◌, None, Result, ap}
use Rattle.book.specs.Books.{Lawful}
use Rattle.book.specs.declared.RuleBook.{Ghosts as BookGhosts}
use Rattle.line.specs.Models.{model, result_of, setting}
use Rattle.line.specs.Wires.{Became, Called}
use Rattle.line.specs.declared.line.Line.{Line}
use Rattle.rules.proofs.Always.{performed_as}
use Rattle.rules.specs.Laws.{Performed}
use Rattle.rules.specs.Lines.{Model}
use Rattle.rules.specs.Runs.{Choice, Chosen, outcome}
use Rattle.rules.specs.declared.answers.Answer.{Answer}
use Rattle.rules.specs.declared.calls.Call.{Call}
use Rattle.slip.specs.declared.fault.Fault.{Fault}
use Rattle.wire.specs.declared.Wire.{Ghosts as WireGhosts}

-- a call that leaves the wire no choice
abbrev pub no_choice : Model → Choice
no_choice m = record { taken = None; left = m.waiting }

-- a line under a lawful book, over a lawful wire
module _ {W B : Type 0} {w : WireGhosts W} {b : BookGhosts B} (book : Lawful b.book) (l l' : Line W B w b) where
  pub settled : (call : Call) (c : Choice) → Chosen (setting l) call (model l) c → (r : Result Answer Fault) → (r, model l') ≡ result_of (outcome b.book call c (model l)) → Performed (setting l) call (model l) r (model l')
  settled call c h r e =
      performed_as (setting l) (record { book = book; picks = w.picking; loses = w.losing }) call (model l) c h r (model l')
      (ap (λ (p : Result Answer Fault × Model). p.0) e) (ap (λ (p : Result Answer Fault × Model). p.1) e)

  pub called : (call : Call) → Chosen (setting l) call (model l) (no_choice (model l)) → (r : Result Answer Fault) → Became (outcome b.book call (no_choice (model l)) (model l)) l r l' → Called call l r l'
  called call h r o = record { performed = settled call (no_choice (model l)) h r o.value; refused = o.refused; lent = o.lent }
