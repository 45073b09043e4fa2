-- Lines that are put one after the other: what their loop keeps.
use Rattle.std.proofs.Common.{◌≡◌, ℕ, ◌+◌, List, ◌++◌, length}
use Rattle.passage.specs.Posts.{slips_put}
use Rattle.passage.specs.Reports.{lines_told}
use Rattle.slip.specs.declared.paper.Slip.{Slip}

-- n lines are done and `rest` are to come; ws wait, `sent` were put, and `text` is told
pub record Sofar (room : ℕ) (start : List Slip) (all : List (List ℕ)) (heading : List ℕ) (ws sent : List Slip) (text : List ℕ) (n : ℕ) (rest : List (List ℕ)) : Type 0 where
  pub waits : ws ≡ start ++ sent
  pub sends : slips_put room start all ≡ sent ++ slips_put room ws rest
  pub tells : lines_told room heading 1 start all ≡ lines_told room text (n + 1) ws rest
  pub counts : n + length rest ≡ length all
