-- What a radio holds, and what each call leaves of it.
use Rattle.std.specs.Prelude.{◌≡◌, ℕ, List, vec_items, Option}
use Rattle.radio.specs.Draws.{draws_after, fade_leaves, next_byte, picked, take_leaves}
use Rattle.radio.specs.declared.air.Radio.{Radio}
use Rattle.slip.specs.declared.paper.Slip.{Slip}

-- the slips that wait, oldest first
abbrev pub slips_of : Radio → List Slip
slips_of r = vec_items r.slips

-- the bytes that are left to draw
abbrev pub draws_of : Radio → List ℕ
draws_of r = r.draws.now

-- the byte that the next choice is made by
abbrev pub byte_of : Radio → ℕ
byte_of r = next_byte (draws_of r)

-- a put draws nothing
abbrev pub Sent : Radio → Slip → Radio → Type 0
Sent r s r' = draws_of r' ≡ draws_of r

-- a take answers and leaves what the next byte says
pub record Heard (r : Radio) (o : Option Slip) (r' : Radio) : Type 0 where
  pub answer : o ≡ picked (slips_of r) (byte_of r)
  pub left : slips_of r' ≡ take_leaves (slips_of r) (byte_of r)
  pub draws : draws_of r' ≡ draws_after (slips_of r) (draws_of r)

-- a fade loses what the next byte says
pub record Lost (r : Radio) (r' : Radio) : Type 0 where
  pub left : slips_of r' ≡ fade_leaves (slips_of r) (byte_of r)
  pub draws : draws_of r' ≡ draws_after (slips_of r) (draws_of r)
