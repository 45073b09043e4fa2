use Rattle.std.proofs.Common.{◌≡◌, ◌+◌, arith, ap}
use Rattle.line.specs.Models.{model, setting}
use Rattle.lines.specs.Lines.{rest_of}
use Rattle.sheet.proofs.Turns.{all_done, none_yet, one_more}
use Rattle.sheet.proofs.run.perform_sheet.Goals as goal
use Rattle.sheet.specs.declared.report.Entry.{Entry}
use Rattle.std.proofs.lemmas.List.{take_min}
use Rattle.std.specs.Iterator.Adapters.{enumerate_count, enumerate_source}

pub loop-index-init : goal.loop-index-init
loop-index-init g c =
    let s = setting c.args.line.now in
    let m = model c.args.line.now in
    let it = c.into_iter-index-iterator in
    none_yet s m c.args.input.now _ (rest_of (enumerate_source it.result)) (enumerate_count it.result) c.new-report.ensures.bytes (cc (take_min 65536 c.args.input.now)) (cc)

pub loop-index-preserved : goal.loop-index-preserved
loop-index-preserved g c =
    let e = c.in-Some.ensures.steps in
    let line = ap (λ (x : Entry). x.line) c.new-entry.ensures in
    let next : c.new-entry.result.line ≡ enumerate_count c.loop-index.index-iterator + 1 = omega (arith, line, e.1, e.3) in
    let told = ap (λ (x : Entry). x.answer) c.new-entry.ensures in
    rw (c.in_ok-write.ensures.bytes, next, e.2) (one_more c.loop-index.invariant c.in-Some.text.now (rest_of (enumerate_source c.next.new.self)) c.perform_line.result _ _ e.0.all told c.perform_line.ensures)

pub returns : goal.returns
returns g c = all_done c.loop-index.invariant c.in-None.ensures.steps.0.all
