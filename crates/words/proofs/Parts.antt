-- Bytes without a space are a word, before a space and at the line's end.
use Rattle.std.proofs.Common.{◌≡◌, ℕ, ◌+◌, List, [], ◌∷◌, ◌++◌, length, take, drop, refl, arith, length-append, take_all, take_at}
use Rattle.lines.specs.Cuts.{span}
use Rattle.std.proofs.lemmas.Bool.Decides.{nat_tests}
use Rattle.words.specs.Parted.{Parted, Unspaced}
use lib.Seq.{drop-append-add}

span_more : (w rest : List ℕ) → Unspaced w → span 32 (w ++ (32 ∷ rest)) ≡ length w
span_more [] rest h = refl
span_more (b ∷ w) rest h = let on : span 32 (w ++ (32 ∷ rest)) ≡ length w = span_more w rest h.1 in grind (arith, nat_tests)

span_last : (w : List ℕ) → Unspaced w → span 32 w ≡ length w
span_last [] h = refl
span_last (b ∷ w) h = let on : span 32 w ≡ length w = span_last w h.1 in grind (arith, nat_tests)

pub parted : Parted
parted = record {
  more = λ w rest c h.
      let n : span 32 (w ++ (32 ∷ rest)) ≡ length w = span_more w rest h in
      let word : take (length w) (w ++ (32 ∷ rest)) ≡ w = take_at w (32 ∷ rest) (length w) refl in
      let after : drop (length w + 1) (w ++ (32 ∷ rest)) ≡ rest = drop-append-add w (32 ∷ rest) 1 in
      rw (n, word, after) (grind (arith, nat_tests, length-append));
  last = λ w c h.
      let n : span 32 w ≡ length w = span_last w h in
      let word : take (length w) w ≡ w = take_all (length w) w (omega arith) in
      rw (n, word) (grind (arith, nat_tests));
}
