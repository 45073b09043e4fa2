-- Where a list of bytes has its first mark.
use Rattle.std.specs.Prelude.{ℕ, List, ◌==◌}
use Rattle.std.specs.List.{position_or_len}

-- the place of the first mark; where there is none, the end
abbrev pub span : ℕ → List ℕ → ℕ
span mark bs = position_or_len (λ b. b == mark) bs
