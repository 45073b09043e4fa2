-- What a line just made has.
use Rattle.std.specs.Prelude.{ℕ, cond, nat_lt}

-- a line has 2 to 16 stations: fewer become 2, and more become 16
abbrev pub stations_of : ℕ → ℕ
stations_of wanted = cond (nat_lt wanted 2) 2 (cond (nat_lt 16 wanted) 16 wanted)
