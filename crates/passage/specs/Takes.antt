-- Slips taken from a wire one after the other.
use Rattle.slip.specs.declared.paper.Slip.{Slip}
use Rattle.std.specs.List.{All, Contains}
use Rattle.std.specs.Prelude.{◌≡◌, List, [], ◌∷◌, Some}
use Rattle.wire.specs.Waiting.{Picks}

-- of ws these slips came, in this order, each as the wire picks; and what is left
abbrev pub Came : Picks → List Slip → List Slip → List Slip → Type 0
Came picks ws [] left = left ≡ ws
Came picks ws (s ∷ came) left = (after : List Slip) × picks ws (Some s) after × Came picks after came left

-- each slip that came is one of those sent, and each that was sent came
pub record AsWritten (sent came : List Slip) : Type 0 where
  pub none_strange : All (Contains sent) came
  pub none_lost : All (Contains came) sent
