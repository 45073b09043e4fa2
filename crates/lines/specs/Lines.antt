-- The lines of a list of bytes.
use Rattle.std.specs.Prelude.{◌≡◌, ℕ, ◌+◌, ◌<◌, ◌≤◌, true, cond, List, [], ◌∷◌, length, take, drop, is_some, IfSome, MatchOption, Some, None, Option, ◌==◌, option_map}
use Rattle.std.specs.Borrow.{Bor}
use Rattle.std.specs.List.{onto_first}
use Rattle.lines.specs.Cuts.{span}
use Rattle.lines.specs.declared.Lines.{Lines}

-- a line feed, 10, ends a line, and the last line may lack it
abbrev pub lines_of : List ℕ → List (List ℕ)
lines_of [] = []
lines_of (b ∷ bs) = cond (b == 10) ([] ∷ lines_of bs) (onto_first b (lines_of bs))

-- the first line, and the bytes after its line feed
abbrev pub next_line : List ℕ → Option (List ℕ) × List ℕ
next_line [] = (None, [])
next_line (b ∷ bs) = (Some (take (span 10 (b ∷ bs)) (b ∷ bs)), drop (span 10 (b ∷ bs) + 1) (b ∷ bs))

-- of the bytes s a call of `next` gave the line r, or none, and left t
pub record TakesLine (s : List ℕ) (r : Option (Bor (List ℕ))) (t : List ℕ) : Type 0 where
  pub cut : (option_map (λ l. l.now) r, t) ≡ next_line s
  pub all : MatchOption r (s ≡ []) (λ l. lines_of s ≡ l.now ∷ lines_of t)
  pub less : is_some r ≡ true → length t < length s
  pub short : IfSome r (λ l. length l.now ≤ length s)

-- what is left of an input
abbrev pub rest_of : Lines → List ℕ
rest_of l = l.rest.now
