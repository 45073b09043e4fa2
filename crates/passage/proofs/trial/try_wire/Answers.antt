use Rattle.passage.proofs.Trying.{tried}
use Rattle.passage.proofs.trial.try_wire.Goals as goal
use Rattle.passage.specs.Takes.{AsWritten}
use Rattle.std.proofs.Common.{vec_items, Decides, ◌∙◌, arith}

pub returns : goal.returns
returns g c =
    let posted = c.in_ok-posted.ensures in
    let sent = c.in_ok-posted.posted.sent in
    let came = c.in_ok-came.came in
    let judged : Decides c.is_faithful.result (AsWritten (vec_items sent) (vec_items came)) = rw (c.deref.ensures.value, c.deref-2.ensures.value) at c.is_faithful.ensures in
    tried g.W.Wire.picking c.in_ok-report.ensures.ok posted.sent posted.waits posted.told c.in_ok-came.ensures _
    (c.len.ensures ∙ sent.ok.0) (omega (arith, posted.lines, c.len.ensures)) (c.len-2.ensures ∙ came.ok.0) judged c.in_ok-writeln.ensures.bytes
