-- What one word says: a call's name, a number, an end or a class letter.
use Rattle.std.specs.Prelude.{ℕ, ◌+◌, ◌-◌, ◌*◌, Bool, cond, ◌&&◌, ◌||◌, List, [], ◌∷◌, length, Some, None, codes, Option, ◌==◌, nat_le, nat_lt, slice_index}
use Rattle.slip.specs.declared.track.End.{End}
use Rattle.slip.specs.declared.track.End.TheVariants.{East, West}
use Rattle.std.specs.Str.{bytes_eq}
use Rattle.words.specs.declared.command.Name.{Name}

abbrev pub name_of : List ℕ → Option Name
name_of bs =
    cond (bytes_eq bs (codes "ask")) (Some Name.Ask)
    (cond (bytes_eq bs (codes "withdraw")) (Some Name.Withdraw)
    (cond (bytes_eq bs (codes "show")) (Some Name.Show)
    (cond (bytes_eq bs (codes "enter")) (Some Name.Enter)
    (cond (bytes_eq bs (codes "form")) (Some Name.Form)
    (cond (bytes_eq bs (codes "arrive")) (Some Name.Arrive)
    (cond (bytes_eq bs (codes "repeat")) (Some Name.Repeat)
    (cond (bytes_eq bs (codes "deliver")) (Some Name.Deliver)
    (cond (bytes_eq bs (codes "fade")) (Some Name.Fade) None))))))))

-- the number that digits, 48 to 57, make after n; none where a byte is no digit
abbrev pub digits_after : ℕ → List ℕ → Option ℕ
digits_after n [] = Some n
digits_after n (b ∷ bs) = cond (nat_lt b 48 || nat_lt 57 b) None (digits_after (10 * n + (b - 48)) bs)

-- a zero that leads other digits
abbrev pub needless_zero : List ℕ → Bool
needless_zero bs = nat_lt 1 (length bs) && slice_index bs 0 == 48

-- at most five digits, where a zero leads only if it stands alone
abbrev pub number_of : List ℕ → Option ℕ
number_of bs = cond (length bs == 0 || (nat_lt 5 (length bs) || needless_zero bs)) None (digits_after 0 bs)

abbrev pub end_of : List ℕ → Option End
end_of bs = cond (bytes_eq bs (codes "w")) (Some West) (cond (bytes_eq bs (codes "e")) (Some East) None)

-- a single capital, A to Z, 65 to 90
abbrev pub letter_of : List ℕ → Option ℕ
letter_of [] = None
letter_of (b ∷ []) = cond (nat_le 65 b && nat_le b 90) (Some b) None
letter_of (b ∷ c ∷ bs) = None
