-- A trial put together from what was posted and what was received.
use Rattle.std.proofs.Common.{◌≡◌, ℕ, ◌+◌, List, ◌++◌, length, codes, Decides, ap, ◌∙◌, subst}
use Rattle.passage.proofs.Receiving.{came_as_written}
use Rattle.passage.specs.Posts.{slips_put}
use Rattle.passage.specs.Reports.{TakenAll, Tried, lines_told}
use Rattle.passage.specs.Takes.{AsWritten}
use Rattle.passage.specs.Totals.{totals_words}
use Rattle.passage.specs.declared.totals.Totals.{Totals}
use Rattle.slip.specs.declared.paper.Slip.{Slip}
use Rattle.wire.specs.Waiting.{LawfulPicks, Picks}

module _ {picks : Picks} (lawful : LawfulPicks picks) {room most : ℕ} {name : List ℕ} {lines : List (List ℕ)} {ws left : List Slip} where
  -- `sent` was put and then `between` waits; `heading` and then `posted` was told
  pub tried : {heading posted : List ℕ} {sent between : List Slip} → heading ≡ name ++ codes "\n" → sent ≡ slips_put room ws lines → between ≡ ws ++ sent → posted ≡ lines_told room heading 1 ws lines
      → {came : List Slip} {text : List ℕ} → TakenAll picks most between posted came left text → (totals : Totals) {report : List ℕ} → totals.put ≡ length sent → totals.put + totals.refused ≡ length lines → totals.taken ≡ length came
      → Decides totals.faithful (AsWritten sent came) → report ≡ text ++ (totals_words totals ++ codes "\n") → Tried picks room most name lines ws left totals report
  tried {sent = sent} h s b p {came} {text} all totals put counted taken j told =
      let received : TakenAll picks most (ws ++ slips_put room ws lines) (lines_told room (name ++ codes "\n") 1 ws lines) came left text = rw (b, s, p, h) at all in
      let judged : Decides totals.faithful (AsWritten (slips_put room ws lines) came) = rw s at j in
      record {
        came = came;
        text = text;
        received = received;
        put = put ∙ ap length s;
        counted = counted;
        taken = taken;
        judged = judged;
        told = told;
        silent =
            λ e f.
            judged.1 (subst (λ (x : List Slip). AsWritten (x ++ slips_put room ws lines) came) e (came_as_written lawful (ws ++ slips_put room ws lines) came left received.taken f));
      }
