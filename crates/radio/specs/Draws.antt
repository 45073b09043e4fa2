-- What a radio draws: which slip it picks, and whether the slip stays.
use Rattle.std.specs.Prelude.{ℕ, ◌%◌, Bool, cond, List, [], ◌∷◌, length, drop, Option, nat_le, slice_index}
use Rattle.slip.specs.declared.paper.Slip.{Slip}
use Rattle.std.specs.List.{remove, slice_get}

-- the next of the bytes that are left to draw, or 0 when none is left
abbrev pub next_byte : List ℕ → ℕ
next_byte draws = slice_index draws 0

-- a take or a fade uses a byte only where something waits
abbrev pub draws_after : List Slip → List ℕ → List ℕ
draws_after [] draws = draws
draws_after (w ∷ ws) draws = drop 1 draws

-- the place that byte v picks, the oldest being 0
abbrev pub pick : List Slip → ℕ → ℕ
pick ws v = v % length ws

-- from 128 on, byte v leaves the slip where it is
abbrev pub stays : ℕ → Bool
stays v = nat_le 128 v

-- what byte v has a take answer, and what it leaves
abbrev pub picked : List Slip → ℕ → Option Slip
picked ws v = slice_get ws (pick ws v)

abbrev pub take_leaves : List Slip → ℕ → List Slip
take_leaves ws v = cond (stays v) ws (remove ws (pick ws v))

-- a faded slip always goes
abbrev pub fade_leaves : List Slip → ℕ → List Slip
fade_leaves ws v = remove ws (pick ws v)
