-- What a line's words are: what single spaces part.
use Rattle.std.specs.Prelude.{◌≡◌, ℕ, ◌+◌, false, List, [], ◌∷◌, ◌++◌, length, Some, ◌==◌}
use Rattle.words.specs.Words.{at, ended, next_word}

-- no byte is a space
abbrev pub Unspaced : List ℕ → Type 0
Unspaced [] = Unit {0}
Unspaced (b ∷ bs) = ((b == 32) ≡ false) × Unspaced bs

-- Any bytes without a space, the empty ones too, are a word, whatever follows the space after them.
pub record Parted : Type 0 where
  pub more : (word rest : List ℕ) (c : ℕ) → Unspaced word → next_word (at c (word ++ (32 ∷ rest))) ≡ (Some (record { text = word; column = c }), at (c + length word + 1) rest)
  pub last : (word : List ℕ) (c : ℕ) → Unspaced word → next_word (at c word) ≡ (Some (record { text = word; column = c }), ended (c + length word))
