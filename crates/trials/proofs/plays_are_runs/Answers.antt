use Rattle.trials.proofs.Runs.{plays_are_runs_lem, plays_in_turn}
use Rattle.trials.proofs.plays_are_runs.Goals as goal

pub returns : goal.returns
returns c = record { any = plays_are_runs_lem; in_turn = plays_in_turn }
