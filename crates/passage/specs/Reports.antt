-- What the lineman is told of a wire.
use Rattle.std.specs.Prelude.{◌≡◌, ℕ, ◌+◌, ◌<◌, ◌≤◌, true, List, [], ◌∷◌, ◌++◌, length, codes, Decides}
use Rattle.lineman.specs.Words.{line_text}
use Rattle.passage.specs.Posts.{posted, put_by, slips_put}
use Rattle.passage.specs.Takes.{AsWritten, Came}
use Rattle.passage.specs.Totals.{totals_words}
use Rattle.passage.specs.declared.totals.Totals.{Totals}
use Rattle.slip.specs.Words.{slip_text}
use Rattle.slip.specs.declared.paper.Slip.{Slip}
use Rattle.wire.specs.Waiting.{Picks}

-- after what was told already: what became of each line, the next being line n
abbrev pub lines_told : ℕ → List ℕ → ℕ → List Slip → List (List ℕ) → List ℕ
lines_told room text n ws [] = text
lines_told room text n ws (l ∷ ls) = lines_told room (text ++ line_text n (posted l ws room)) (n + 1) (ws ++ put_by (posted l ws room)) ls

abbrev pub taken_text : Slip → List ℕ
taken_text s = codes "took " ++ (slip_text s ++ codes "\n")

-- after that: each slip that came
abbrev pub came_told : List ℕ → List Slip → List ℕ
came_told text [] = text
came_told text (s ∷ came) = came_told (text ++ taken_text s) came

-- slips were taken from ws, and told after what was told already; the takes end only when nothing waits, or when there were as many as allowed
pub record TakenAll (picks : Picks) (most : ℕ) (ws : List Slip) (text : List ℕ) (came left : List Slip) (text' : List ℕ) : Type 0 where
  pub taken : Came picks ws came left
  pub few : length came ≤ most
  pub emptied : length came < most → left ≡ []
  pub told : text' ≡ came_told text came

-- A wire of this room, on which ws wait, is tried with these lines and at most so many takes: what is left, the totals, and the report.
pub record Tried (picks : Picks) (room most : ℕ) (name : List ℕ) (lines : List (List ℕ)) (ws left : List Slip) (totals : Totals) (report : List ℕ) : Type 0 where
  pub came : List Slip
  pub text : List ℕ
  -- the name, every line, and every slip that came
  pub received : TakenAll picks most (ws ++ slips_put room ws lines) (lines_told room (name ++ codes "\n") 1 ws lines) came left text
  -- then the totals and the verdict; each line is put or refused
  pub put : totals.put ≡ length (slips_put room ws lines)
  pub counted : totals.put + totals.refused ≡ length lines
  pub taken : totals.taken ≡ length came
  pub judged : Decides totals.faithful (AsWritten (slips_put room ws lines) came)
  pub told : report ≡ text ++ (totals_words totals ++ codes "\n")
  -- over every wire that is silent before and after, each slip came as it was written
  pub silent : ws ≡ [] → left ≡ [] → totals.faithful ≡ true
