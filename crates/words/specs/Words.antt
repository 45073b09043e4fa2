-- The words of a line, parted by one space, each with its column.
use Rattle.std.specs.Prelude.{ℕ, ◌+◌, cond, List, length, take, drop, Some, None, Option, nat_lt}
use Rattle.lines.specs.Cuts.{span}
use Rattle.std.specs.Option.{option_map}
use Rattle.words.specs.declared.cut.Word.{Word}
use Rattle.words.specs.declared.cut.Words.{Words}

-- A word: its bytes, and the column of the first of them, from 1.
pub record Piece : Type 0 where
  pub text : List ℕ
  pub column : ℕ

-- What is left of a line: the bytes from the next word on, or none where the last word was taken;
-- and the column where the next word stands, or would stand.
pub record Left : Type 0 where
  pub rest : Option (List ℕ)
  pub column : ℕ

abbrev pub piece_of : Word → Piece
piece_of w = record { text = w.text.now; column = w.column }

abbrev pub left_of : Words → Left
left_of w = record { rest = option_map (λ r. r.now) w.rest; column = w.column }

-- bytes that stand at a column, with a word to come
abbrev pub at : ℕ → List ℕ → Left
at column bytes = record { rest = Some bytes; column = column }

-- no word to come; the column is one past the line's end
abbrev pub ended : ℕ → Left
ended column = record { rest = None; column = column }

-- no word of the line is taken yet
abbrev pub whole : List ℕ → Left
whole line = at 1 line

-- the first n bytes as a word; where a byte follows, it is the space that parts this word from the next
abbrev pub cut : ℕ → ℕ → List ℕ → Option Piece × Left
cut n column bytes = (
  Some (record { text = take n bytes; column = column }),
  cond (nat_lt n (length bytes)) (at (column + n + 1) (drop (n + 1) bytes)) (ended (column + n)),
)

-- a word ends before the first space, 32, or at the line's end
abbrev pub next_of : ℕ → Option (List ℕ) → Option Piece × Left
next_of column None = (None, ended column)
next_of column (Some bytes) = cut (span 32 bytes) column bytes

-- the next word, and what is left after it
abbrev pub next_word : Left → Option Piece × Left
next_word l = next_of l.column l.rest
