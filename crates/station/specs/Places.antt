-- Where a row stands that a rule looks for.
use Rattle.std.specs.Prelude.{◌≡◌, ℕ, ◌<◌, Bool, List, length, Some, None, Option, slice_index_or}
use Rattle.rules.specs.Lists.{find, without_first}
use Rattle.std.specs.List.{remove}

-- the place of the first row that passes a test, or none
abbrev pub Placed : {X : Type 0} → (X → Bool) → List X → Option ℕ → Type 0
Placed test xs None = (find test xs ≡ None) × (without_first test xs ≡ xs)
Placed {X} test xs (Some i) = (i < length xs) × ((d : X) → find test xs ≡ Some (slice_index_or xs i d)) × (without_first test xs ≡ remove xs i)
