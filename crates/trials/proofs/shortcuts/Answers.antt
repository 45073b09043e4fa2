use Rattle.trials.proofs.Broken.{crowded, forgotten, freed, matched}
use Rattle.trials.proofs.shortcuts.Goals as goal

pub returns : goal.returns
returns c = record { freed = freed; matched = matched; forgotten = forgotten; crowded = crowded }
