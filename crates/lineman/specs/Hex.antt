-- A slip written as hexadecimal digits, two to a byte, the high one first.
use Rattle.std.specs.Prelude.{ℕ, ◌+◌, ◌-◌, ◌*◌, cond, ◌&&◌, List, [], ◌∷◌, length, Some, None, Option, Result, ◌==◌, nat_le}
use Rattle.slip.specs.Bytes.{decode, field, slip_length}
use Rattle.slip.specs.declared.fault.Fault.{Fault}
use Rattle.slip.specs.declared.paper.Slip.{Slip}

-- 0 to 9, A to F or a to f
abbrev pub digit : ℕ → Option ℕ
digit b =
    cond (nat_le 48 b && nat_le b 57) (Some (b - 48))
    (cond (nat_le 65 b && nat_le b 70) (Some (b - 65 + 10))
    (cond (nat_le 97 b && nat_le b 102) (Some (b - 97 + 10)) None))

abbrev pub byte_of : Option ℕ → Option ℕ → Option ℕ
byte_of None low = None
byte_of (Some h) None = None
byte_of (Some h) (Some l) = Some (h * 16 + l)

abbrev pub onto : Option ℕ → Option (List ℕ) → Option (List ℕ)
onto None bs = None
onto (Some b) None = None
onto (Some b) (Some bs) = Some (b ∷ bs)

-- the bytes that an even number of digits spells
abbrev pub bytes_of : List ℕ → Option (List ℕ)
bytes_of [] = Some []
bytes_of (a ∷ []) = None
bytes_of (a ∷ (b ∷ rest)) = onto (byte_of (digit a) (digit b)) (bytes_of rest)

-- the bytes of a slip, which has two digits for each
abbrev pub spelled : List ℕ → Option (List ℕ)
spelled line = cond (length line == 2 * slip_length) (bytes_of line) None

-- the slip that a line says, or its refusal; a line that spells no slip's bytes is refused as one of a wrong length
abbrev pub said_by : List ℕ → Result Slip Fault
said_by line = field 0 (spelled line) decode
