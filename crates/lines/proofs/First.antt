-- The first line of some bytes, and the lines after it.
use Rattle.std.proofs.Common.{◌≡◌, ℕ, ◌+◌, ◌<◌, Bool, List, [], ◌∷◌, length, take, drop, None, Some, Option, position, unwrap_or, refl, ap, arith, length-drop}
use Rattle.lines.specs.Cuts.{span}
use Rattle.lines.specs.Lines.{TakesLine, lines_of, rest_of}
use Rattle.lines.specs.declared.Lines.{Lines}
use Rattle.std.proofs.lemmas.Grind.{common_steps}
use Rattle.std.proofs.lemmas.List.Sums.{prefix_len-le-length}
use Rattle.std.proofs.lemmas.List.{length-take}
use Rattle.std.specs.Borrow.{Bor}
use Rattle.std.specs.Iterator.{MakesProgress, at_most}
use Rattle.std.specs.List.{onto_first, position_or_len}

-- the first place that passes, or the length where none does
pub place_or_length : {X : Type 0} (p : X → Bool) (xs : List X) (o : Option ℕ) → o ≡ position p xs → unwrap_or o (length xs) ≡ position_or_len p xs
place_or_length p xs o found = grind (arith, common_steps, prefix_len-le-length)

-- bytes begin with their first line
first_line : (b : ℕ) (bs : List ℕ) → lines_of (b ∷ bs) ≡ take (span 10 (b ∷ bs)) (b ∷ bs) ∷ lines_of (drop (span 10 (b ∷ bs) + 1) (b ∷ bs))
first_line b [] = grind (arith, common_steps)
first_line b (c ∷ cs) = let more = ap (onto_first b) (first_line c cs) in grind (arith, common_steps)

-- a line is given where bytes are left
pub takes_line : (s : List ℕ) (l : Bor (List ℕ)) (t : List ℕ) → 0 < length s → l.now ≡ take (span 10 s) s → t ≡ drop (span 10 s + 1) s → TakesLine s (Some l) t
takes_line [] l t some line rest = absurd (omega arith)
takes_line (b ∷ bs) l t some line rest = record {
  cut = λ i. (Some (line i), rest i);
  all = rw (line, rest) (first_line b bs);
  less = λ _. rw rest (omega (arith, length-drop {A = ℕ}));
  short = rw line (omega (arith, length-take {A = ℕ}));
}

-- and fewer bytes are left
pub fewer_left : (s : Lines) (r : Option (Bor (List ℕ))) (t : Lines) → TakesLine (rest_of s) r (rest_of t) → MakesProgress (λ _. Unit {0}) (λ l. at_most (length (rest_of l))) s r t
fewer_left s None t h = record { on = λ _. tt; keeps = tt; rests = λ _. tt }
fewer_left s (Some l) t h = record { on = λ _. (tt, tt, h.less refl); keeps = tt; rests = λ _. tt }
