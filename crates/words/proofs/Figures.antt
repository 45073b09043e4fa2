-- Numbers that are read and numbers that are written are the same.
use Rattle.std.proofs.Common.{◌≡◌, ℕ, ◌+◌, ◌-◌, ◌*◌, ◌^◌, ◌<◌, ◌≤◌, Bool, true, false, List, [], ◌∷◌, length, get_or, Some, None, decimal, refl, arith, rules}
use Rattle.std.proofs.lemmas.Fmt.{decimal_digit, decimal_nonempty, decimal-digits_value, digits_decimal, first_decimal, length-decimal-le, digits_value-decimal}
use Rattle.std.proofs.lemmas.Str.Parse.{IsNumeralModel, numerals_by_fold, digits_value_short}
use Rattle.std.proofs.lemmas.Bool.Decides.{nat_tests}
use Rattle.std.specs.Char.{is_ascii_digit}
use Rattle.std.specs.List.{list_all}
use Rattle.words.specs.Parted.{Unspaced}
use Rattle.words.specs.Spelling.{digits_after, number_of}

abbrev Figures : List ℕ → Type 0
Figures bs = list_all is_ascii_digit bs ≡ true

abbrev read_on : ℕ → List ℕ → ℕ
read_on n [] = n
read_on n (b ∷ bs) = read_on (10 * n + (b - 48)) bs

own : IsNumeralModel Figures (read_on 0)
own = numerals_by_fold _ (search rules) read_on (search rules)

-- digits, and only digits, make a number

digits_read : (n : ℕ) (bs : List ℕ) → Figures bs → digits_after n bs ≡ Some (read_on n bs)
digits_read n [] h = refl
digits_read n (b ∷ bs) h =
    let on : Figures bs → digits_after (10 * n + (b - 48)) bs ≡ Some (read_on (10 * n + (b - 48)) bs) = digits_read (10 * n + (b - 48)) bs in
    grind (arith, nat_tests)

no_digits : (n : ℕ) (bs : List ℕ) → list_all is_ascii_digit bs ≡ false → digits_after n bs ≡ None
no_digits n [] h = cc
no_digits n (b ∷ bs) h =
    let on : list_all is_ascii_digit bs ≡ false → digits_after (10 * n + (b - 48)) bs ≡ None = no_digits (10 * n + (b - 48)) bs in
    grind (arith, nat_tests)

-- a number is written as it is read, and no other way

pub number_back : (n : ℕ) → n < 100000 → number_of (decimal n) ≡ Some n
number_back n h =
    let fits : n < 2 ^ 64 = omega arith in
    let some = decimal_nonempty n fits in
    let short : length (decimal n) ≤ 5 = length-decimal-le 5 n (omega arith) (omega arith) fits in
    let lead = first_decimal n in
    let read = digits_read 0 (decimal n) (digits_decimal own n fits) in
    let value = digits_value-decimal own n fits in
    grind (arith, nat_tests, decimal_digit)

pub number_only : (bs : List ℕ) (n : ℕ) → number_of bs ≡ Some n → (n < 100000) × (bs ≡ decimal n)
number_only bs n h = go (list_all is_ascii_digit bs) refl
  where
    go : (t : Bool) → list_all is_ascii_digit bs ≡ t → (n < 100000) × (bs ≡ decimal n)
    go false e = let none = no_digits 0 bs e in grind arith
    go true e =
        let some : 0 < length bs = grind (arith, nat_tests) in
        let short : length bs ≤ 5 = grind (arith, nat_tests) in
        let lead : get_or bs 0 0 ≡ 48 → length bs ≡ 1 = λ z. grind (arith, nat_tests) in
        let read = digits_read 0 bs e in
        let less : read_on 0 bs < 10 ^ 5 = digits_value_short own bs 5 e short in
        let text : decimal (read_on 0 bs) ≡ bs = decimal-digits_value own bs e some lead (omega arith) in
        grind arith

figures_unspaced : (bs : List ℕ) → Figures bs → Unspaced bs
figures_unspaced [] h = tt
figures_unspaced (b ∷ bs) h = let on : Figures bs → Unspaced bs = figures_unspaced bs in grind (arith, nat_tests)

pub decimal_unspaced : (n : ℕ) → n < 100000 → Unspaced (decimal n)
decimal_unspaced n h = figures_unspaced (decimal n) (digits_decimal own n (omega arith))
