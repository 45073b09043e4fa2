-- What a call leaves of the wire that the line borrows, in the wire's own words.
use Rattle.std.specs.Prelude.{◌≡◌, false, is_ok, ◌⊎◌, [], ◌∷◌, ◌++◌, Option, Result}
use Rattle.book.specs.declared.RuleBook.{Ghosts as BookGhosts}
use Rattle.line.specs.Models.{model, result_of, setting}
use Rattle.line.specs.declared.line.Line.{Line}
use Rattle.rules.specs.Laws.{Performed}
use Rattle.rules.specs.Lines.{Outcome, deliver_outcome}
use Rattle.rules.specs.declared.answers.Answer.{Answer}
use Rattle.rules.specs.declared.calls.Call.{Call}
use Rattle.slip.specs.declared.fault.Fault.{Fault}
use Rattle.slip.specs.declared.paper.Slip.{Slip}
use Rattle.wire.specs.declared.Wire.{Ghosts as WireGhosts}

-- the whole wire is as it was; or one slip more waits, and was put as the wire says of its puts
abbrev pub Posted : {W : Type 0} → WireGhosts W → W → W → Type 0
Posted w x x' = (x' ≡ x) ⊎ ((s : Slip) × (w.waiting x' ≡ w.waiting x ++ (s ∷ [])) × w.puts x s x')

-- a line's wire as a call found it, and as it left it: it lends the same wire, on which at most one slip was put
pub record Lent {W B : Type 0} {w : WireGhosts W} {b : BookGhosts B} (l l' : Line W B w b) : Type 0 where
  pub posted : Posted w l.wire.now l'.wire.now
  pub lender : l'.wire.ghost_name ≡ l.wire.ghost_name

-- what an outcome says became of the line, by which answer; a call that is turned away leaves the whole wire as it was
pub record Became {W B : Type 0} {w : WireGhosts W} {b : BookGhosts B} (o : Outcome) (l : Line W B w b) (r : Result Answer Fault) (l' : Line W B w b) : Type 0 where
  pub value : (r, model l') ≡ result_of o
  pub refused : is_ok r ≡ false → l'.wire.now ≡ l.wire.now
  pub lent : Lent l l'

-- a call was performed as the rules say, and no history makes it unsafe; if it was turned away it left the whole wire as it was
pub record Called {W B : Type 0} {w : WireGhosts W} {b : BookGhosts B} (call : Call) (l : Line W B w b) (r : Result Answer Fault) (l' : Line W B w b) : Type 0 where
  pub performed : Performed (setting l) call (model l) r (model l')
  pub refused : is_ok r ≡ false → l'.wire.now ≡ l.wire.now
  pub lent : Lent l l'

-- a delivery: the wire handed out a slip, or none, as it says of its takes; the rule went by that slip and what was left; and a reply was posted
abbrev pub LineDelivered : {W B : Type 0} {w : WireGhosts W} {b : BookGhosts B} → Line W B w b → Result Answer Fault → Line W B w b → Type 0
LineDelivered {W = W} {w = w} {b = b} l r l' =
    (taken : Option Slip) × (left : W) × w.takes l.wire.now taken left
    × ((r, model l') ≡ result_of (deliver_outcome b.book (model l) (w.waiting left) taken))
    × Posted w left l'.wire.now
