use Rattle.sheet.proofs.Turns.{from_made}
use Rattle.sheet.proofs.run.report_sheet.Goals as goal
use Rattle.std.proofs.lemmas.Result.{IfOk-weaker}
use Rattle.std.proofs.Common.{◌∙◌}

-- the line that was made is a new line over a silent telegraph
pub returns : goal.returns
returns c =
    IfOk-weaker c.perform_sheet.result _ _
    (λ s d. from_made _ _ _ _ (c.new-line.ensures.model ∙ (λ i. record { ends = c.in_ok-ends.ensures i; waiting = c.new-wire.ensures.silent i; room = c.new-wire.ensures.room i })) d)
    c.perform_sheet.ensures
