-- The ends of a line as its calls and slips name them.
use Rattle.std.specs.Prelude.{◌≡◌, ℕ, ◌<◌, true, false, List, length, Some, None, Ok, Err, Option, Result, nat_lt}
use Rattle.line.specs.declared.site.Site.{Site}
use Rattle.rules.specs.Ends.{Kept}
use Rattle.rules.specs.Lines.{blocks, site}
use Rattle.slip.specs.declared.fault.Fault.{Fault}
use Rattle.slip.specs.declared.track.End.{End}

-- which end of its block it is
abbrev pub end_named : Result Site Fault → Result End Fault
end_named (Ok s) = Ok s.end
end_named (Err fault) = Err fault

-- a line with these ends has a block of this number, and so both its ends; or it has none
abbrev pub HasBlock : List Kept → ℕ → Option ℕ → Type 0
HasBlock ks block None = nat_lt block (blocks ks) ≡ false
HasBlock ks block (Some b) = (b ≡ block) × (nat_lt block (blocks ks) ≡ true) × (b < 15) × ((end : End) → site b end < length ks)
