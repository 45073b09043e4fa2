-- From a line that was read back to the words that were taken from it.
use Rattle.std.proofs.Common.{◌≡◌, ℕ, ◌+◌, cond, ltb, List, [], ◌∷◌, ◌++◌, length, take, drop, Some, None, Ok, Err, Option, Result, refl, arith}
use Rattle.lines.specs.Cuts.{span}
use Rattle.slip.specs.declared.fault.Fault.{Fault}
use Rattle.std.proofs.lemmas.Bool.Decides.{nat_tests}
use Rattle.std.proofs.lemmas.Grind.{common_steps}
use Rattle.std.specs.Option.{ok_or}
use Rattle.words.proofs.Spelled.{Spells}
use Rattle.words.specs.Reading.{Reading, end_reached, field, then, then_of, unreadable_at, word_at, word_of}
use Rattle.words.specs.Words.{Left, Piece, next_of}

-- a word, and what follows it on its line
abbrev pub with_rest : List ℕ → Option (List ℕ) → List ℕ
with_rest w None = w
with_rest w (Some rest) = w ++ (32 ∷ rest)

-- cutting a line loses nothing

abbrev after : ℕ → List ℕ → Option (List ℕ)
after n bs = cond (ltb n (length bs)) (Some (drop (n + 1) bs)) None

nothing_lost : (bs : List ℕ) → with_rest (take (span 32 bs) bs) (after (span 32 bs) bs) ≡ bs
nothing_lost [] = refl
nothing_lost (b ∷ bs) =
    let on : with_rest (take (span 32 bs) bs) (after (span 32 bs) bs) ≡ bs = nothing_lost bs in
    grind (arith, nat_tests, common_steps)

-- a word was read, and the line is this word and what is left
word_only : (l : Left) (w : Piece) (k : Left) → word_at l ≡ (Ok w, k) → l.rest ≡ Some (with_rest w.text k.rest)
word_only l w k h = go l.rest l.column h
  where
    go : (o : Option (List ℕ)) (c : ℕ) → word_of (next_of c o).0 (next_of c o).1 ≡ (Ok w, k) → o ≡ Some (with_rest w.text k.rest)
    go None c h = grind arith
    go (Some bs) c h = let all = nothing_lost bs in grind (arith, nat_tests)

-- the first of two readings was no fault
pub record First {S T : Type 0} (r : Reading S) (next : S → Left → Reading T) (y : T) (k : Left) : Type 0 where
  pub value : S
  pub rest : Left
  pub before : r ≡ (Ok value, rest)
  pub after : next value rest ≡ (Ok y, k)

pub first : {S T : Type 0} (r : Reading S) (next : S → Left → Reading T) (y : T) (k : Left) → then r next ≡ (Ok y, k) → First r next y k
first {S} {T} r next y k h = go r.0 r.1 h
  where
    go : (o : Result S Fault) (l : Left) → then_of o l next ≡ (Ok y, k) → First (o, l) next y k
    go (Ok x) l h = record { value = x; rest = l; before = refl; after = h }
    go (Err f) l h = grind arith

-- the first was of a word: it is what was read as it is written, and what is left follows it
pub record Took {T U : Type 0} (Can : T → Type 0) (text : T → List ℕ) (l : Left) (next : T → Left → Reading U) (y : U) (k : Left) : Type 0 where
  pub value : T
  pub rest : Left
  pub can : Can value
  pub line : l.rest ≡ Some (with_rest (text value) rest.rest)
  pub after : next value rest ≡ (Ok y, k)

pub took : {T U : Type 0} {says : List ℕ → Option T} {Can : T → Type 0} {text : T → List ℕ} → Spells says Can text → (l : Left) (next : T → Left → Reading U) (y : U) (k : Left) → then (field says l) next ≡ (Ok y, k) → Took Can text l next y k
took {T} {U} {says} s l next y k h =
    let f = first (field says l) next y k h in
    let g = first (word_at l) (λ word j. (ok_or (says word.text) (unreadable_at word.column), j)) f.value f.rest f.before in
    let word = word_only l g.value g.rest g.before in
    let said : says g.value.text ≡ Some f.value = grind arith in
    let only = s.only g.value.text f.value said in
    record { value = f.value; rest = f.rest; can = only.0; line = grind arith; after = f.after }

pub end_only : (l k : Left) → end_reached l ≡ (Ok tt, k) → l.rest ≡ None
end_only l k h = grind arith
