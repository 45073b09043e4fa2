-- What a telegraph holds, and what each call leaves of its bytes.
use Rattle.std.specs.Prelude.{◌≡◌, ℕ, List, Option}
use Rattle.slip.specs.Bytes.{encode}
use Rattle.slip.specs.declared.paper.Slip.{Slip}
use Rattle.telegraph.specs.Formed.{formed_ring}
use Rattle.telegraph.specs.Ring.{place, places, ring, stored}
use Rattle.telegraph.specs.declared.ring.Telegraph.{Telegraph}
use Rattle.wire.specs.Waiting.{Formed}

-- the lent bytes
abbrev pub bytes_of : Telegraph → List ℕ
bytes_of t = t.bytes.now

-- how many slips may wait
abbrev pub places_of : Telegraph → ℕ
places_of t = places (bytes_of t)

-- the slips that wait, oldest first
abbrev pub slips_of : Telegraph → List Slip
slips_of t = ring (bytes_of t) t.first t.count

-- the place at which the next slip is written
abbrev pub next_of : Telegraph → ℕ
next_of t = place (places_of t) t.first t.count

-- it works on the same lent buffer as before
abbrev pub SameBuffer : Telegraph → Telegraph → Type 0
SameBuffer t t' = t'.bytes.ghost_name ≡ t.bytes.ghost_name

-- a put writes the slip at the next place and nothing else, and the slip after it goes one place on
pub record Wrote (t : Telegraph) (s : Slip) (t' : Telegraph) : Type 0 where
  pub bytes : bytes_of t' ≡ stored (bytes_of t) (next_of t) (encode s)
  pub next : next_of t' ≡ place (places_of t) (next_of t) 1
  pub lender : SameBuffer t t'

-- a take writes nothing, and the next slip goes where it would have gone
pub record Handed (t : Telegraph) (r : Option Slip) (t' : Telegraph) : Type 0 where
  pub bytes : bytes_of t' ≡ bytes_of t
  pub next : next_of t' ≡ next_of t
  pub lender : SameBuffer t t'

-- a fade does nothing
abbrev pub Unaltered : Telegraph → Telegraph → Type 0
Unaltered t t' = t' ≡ t

pub telegraph_formed : (t : Telegraph) → Formed (slips_of t)
telegraph_formed t = formed_ring (bytes_of t) t.first t.count t.readable
