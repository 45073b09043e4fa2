-- How many columns are left of a line.
use Rattle.std.specs.Prelude.{ℕ, ◌+◌, List, length, Some, None, Option}

-- the one past its end too: no more words than this can come
abbrev pub room : Option (List ℕ) → ℕ
room None = 0
room (Some bytes) = length bytes + 1
