-- What the library decodes from hexadecimal digits is what a line spells.
use Rattle.hex.specs.Hex.{decode_pairs, decode_sized, digit_or_error, hex_digit_value, pair_value, ◌>>=◌}
use Rattle.hex.specs.declared.error.FromHexError.{FromHexError}
use Rattle.lineman.specs.Hex.{byte_of, bytes_of, digit, onto, spelled}
use Rattle.std.proofs.Common.{◌≡◌, ℕ, ◌+◌, ◌*◌, List, [], ◌∷◌, Some, None, Ok, Err, Option, Result, refl, ◌∙◌, arith}
use Rattle.std.proofs.lemmas.Bool.Decides.{nat_tests}
use Rattle.std.specs.Result.{result_ok}

digit_same : (c : ℕ) → hex_digit_value c ≡ digit c
digit_same c = grind (arith, nat_tests)

-- either steps that may fail, or options put together
of_digits : (a b i : ℕ) (high low : Option ℕ) → result_ok (digit_or_error a i high >>= (λ h. digit_or_error b (i + 1) low >>= (λ l. Ok (h * 16 + l)))) ≡ byte_of high low
of_digits a b i None low = refl
of_digits a b i (Some h) None = refl
of_digits a b i (Some h) (Some l) = refl

of_bytes : (byte : Result ℕ FromHexError) (rest : Result (List ℕ) FromHexError) → result_ok (byte >>= (λ b. rest >>= (λ bs. Ok (b ∷ bs)))) ≡ onto (result_ok byte) (result_ok rest)
of_bytes (Err e) rest = refl
of_bytes (Ok b) (Err e) = refl
of_bytes (Ok b) (Ok bs) = refl

byte_same : (a b i : ℕ) → result_ok (pair_value a b i) ≡ byte_of (digit a) (digit b)
byte_same a b i = of_digits a b i (hex_digit_value a) (hex_digit_value b) ∙ (λ j. byte_of (digit_same a j) (digit_same b j))

bytes_same : (i : ℕ) (line : List ℕ) → result_ok (decode_pairs i line) ≡ bytes_of line
unfolding decode_pairs
bytes_same i [] = refl
bytes_same i (a ∷ []) = refl
bytes_same i (a ∷ (b ∷ rest)) = of_bytes (pair_value a b i) (decode_pairs (i + 2) rest) ∙ (λ j. onto (byte_same a b i j) (bytes_same (i + 2) rest j))

pub spelled_same : (line : List ℕ) → result_ok (decode_sized line 10) ≡ spelled line
spelled_same line = let same = bytes_same 0 line in grind (arith, nat_tests)
