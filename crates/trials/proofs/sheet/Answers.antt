use Rattle.book.specs.Books.{class_book}
use Rattle.trials.proofs.Runs.{made, plays_in_turn}
use Rattle.trials.proofs.sheet.Goals as goal
use Rattle.trials.specs.Plays.{two_blocks}
use Rattle.trials.specs.Trials.{sheet_lines}
use Rattle.std.proofs.Common.{refl}

pub returns : goal.returns
returns c = record {
  run = plays_in_turn class_book (two_blocks 64 0) sheet_lines (refl, (refl, (refl, (refl, (refl, (refl, (refl, (refl, (refl, (refl, (refl, (refl, (refl, tt))))))))))))) (made 64 0);
  answers = refl;
  refusals = refl;
  given = refl;
  entries = refl;
  arrivals = refl;
  between = refl;
}
