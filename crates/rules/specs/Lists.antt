-- Words for lists of rows, oldest first.
use Rattle.std.specs.Prelude.{ℕ, ◌+◌, ◌-◌, Bool, cond, ◌⊎◌, List, [], ◌∷◌, length, take, Some, None, Option, slice_set}
pub use Rattle.std.specs.List.{find}

-- the last of a list
abbrev pub newest : {X : Type 0} → List X → Option X
newest [] = None
newest (x ∷ []) = Some x
newest (x ∷ (y ∷ ys)) = newest (y ∷ ys)

-- the list with another last, and the list without its last
abbrev pub renewed : {X : Type 0} → List X → X → List X
renewed xs x = slice_set xs (length xs - 1) x

abbrev pub without_newest : {X : Type 0} → List X → List X
without_newest xs = take (length xs - 1) xs

-- the list without the first that passes a test, which `find` gives
abbrev pub without_first : {X : Type 0} → (X → Bool) → List X → List X
without_first test [] = []
without_first test (x ∷ xs) = cond (test x) xs (x ∷ without_first test xs)

-- those that pass a test, and how many they are
abbrev pub keeping : {X : Type 0} → (X → Bool) → List X → List X
keeping test [] = []
keeping test (x ∷ xs) = cond (test x) (x ∷ keeping test xs) (keeping test xs)

abbrev pub how_many : {X : Type 0} → (X → Bool) → List X → ℕ
how_many test [] = 0
how_many test (x ∷ xs) = cond (test x) 1 0 + how_many test xs

-- each one; some one; each with every later one; each with the one at its place in another list
abbrev pub All : {X : Type 0} → (X → Type 0) → List X → Type 0
All P [] = Unit {0}
All P (x ∷ xs) = P x × All P xs

abbrev pub Any : {X : Type 0} → (X → Type 0) → List X → Type 0
Any P [] = ⊥
Any P (x ∷ xs) = P x ⊎ Any P xs

abbrev pub Pairwise : {X : Type 0} → (X → X → Type 0) → List X → Type 0
Pairwise R [] = Unit {0}
Pairwise R (x ∷ xs) = All (R x) xs × Pairwise R xs

abbrev pub Each : {X Y : Type 0} → (X → Y → Type 0) → List X → List Y → Type 0
Each R [] [] = Unit {0}
Each R [] (y ∷ ys) = ⊥
Each R (x ∷ xs) [] = ⊥
Each R (x ∷ xs) (y ∷ ys) = R x y × Each R xs ys
