-- The slips that a ring of places holds, each place as long as a slip.
use Rattle.std.specs.Prelude.{◌≡◌, ℕ, ◌+◌, ◌-◌, ◌*◌, ◌/◌, ◌<◌, min, true, cond, List, length, map, take, drop, is_ok, Ok, Err, Result, nat_lt}
use Rattle.slip.specs.Bytes.{decode, slip_length}
use Rattle.slip.specs.declared.fault.Fault.{Fault}
use Rattle.slip.specs.declared.paper.Message.{Message}
use Rattle.slip.specs.declared.paper.Slip.{Slip}
use Rattle.slip.specs.declared.track.End.TheVariants.{West}
use Rattle.std.specs.List.{range_with_len}
use Rattle.std.proofs.Math.Seq.{paste}

-- the whole slips that so many bytes hold, at most 64
abbrev pub room_of : ℕ → ℕ
room_of bytes = min (bytes / slip_length) 64

-- the places of a buffer
abbrev pub places : List ℕ → ℕ
places bs = room_of (length bs)

-- the place k steps after the first, in a ring of n
abbrev pub place : ℕ → ℕ → ℕ → ℕ
place n first k = cond (nat_lt (first + k) n) (first + k) (first + k - n)

-- the bytes of a place
abbrev pub slip_bytes_lem : List ℕ → ℕ → List ℕ
slip_bytes_lem bs q = take slip_length (drop (slip_length * q) bs)

-- the slip that was read; places in use are all readable, so the other case never comes
abbrev pub slip_read : Result Slip Fault → Slip
slip_read (Ok s) = s
slip_read (Err f) = record { block = 0; to = West; message = Message.Clear; serial = 0 }

abbrev pub slip_at : List ℕ → ℕ → Slip
slip_at bs q = slip_read (decode (slip_bytes_lem bs q))

-- the slips in a buffer's ring, oldest first
abbrev pub ring : List ℕ → ℕ → ℕ → List Slip
ring bs first count = map (λ k. slip_at bs (place (places bs) first k)) (range_with_len 0 count)

-- each place in use can be read
abbrev pub Readable : List ℕ → ℕ → ℕ → Type 0
Readable bs first count = (k : ℕ) → k < count → is_ok (decode (slip_bytes_lem bs (place (places bs) first k))) ≡ true

-- the buffer once a slip's bytes stand at a place, and nothing else is written
abbrev pub stored : List ℕ → ℕ → List ℕ → List ℕ
stored bs q written = paste bs (slip_length * q) written slip_length
